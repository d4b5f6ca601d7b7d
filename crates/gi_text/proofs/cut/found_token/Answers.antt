use Rattle.std.proofs.Common.{sym, ap, ◌∙◌}
use Rattle.gi_text.specs.Kinds.{lexeme_kind}
use Rattle.gi_text.specs.Numbers.{is_too_great}
use Rattle.gi_text.proofs.NextLemmas.{at_great, at_token}
use Rattle.gi_text.proofs.cut.found_token.Goals as goal

pub returns-then-is_too_great-clause-next : goal.returns-then-is_too_great-clause-next
returns-then-is_too_great-clause-next c =
    at_great c.args.bytes.now c.args.place c.args.more c.args.kind c.requires.step (sym (c.if-is_too_great.ensures ∙ ap (is_too_great (lexeme_kind c.args.kind)) c.slice.ensures))

pub returns-else-is_too_great-clause-next : goal.returns-else-is_too_great-clause-next
returns-else-is_too_great-clause-next c =
    at_token c.args.bytes.now c.args.place c.args.more c.args.kind c.requires.step (sym (c.if-is_too_great.ensures ∙ ap (is_too_great (lexeme_kind c.args.kind)) c.slice.ensures))
