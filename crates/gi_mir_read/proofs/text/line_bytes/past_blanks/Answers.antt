use Rattle.std.proofs.Common.{◌∙◌}
use Rattle.std.specs.Prelude.{not}
use Rattle.std.proofs.lemmas.List.{take_rest}
use Rattle.gi_llt.specs.Tokens.{is_blank}
use Rattle.gi_mir_read.proofs.RunCuts.{past_before, past_whole, not_not}
use Rattle.gi_mir_read.proofs.text.line_bytes.past_blanks.Goals as goal

pub returns-in-Some-clause-past : goal.returns-in-Some-clause-past
returns-in-Some-clause-past c =
    take_rest c.args.bytes.now c.in-Some.place ∙ past_before (λ byte. not (is_blank byte)) is_blank (λ byte. not_not (is_blank byte)) c.args.bytes.now c.in-Some.place c.in-Some.ensures.place

pub returns-in-None-clause-past : goal.returns-in-None-clause-past
returns-in-None-clause-past c = past_whole (λ byte. not (is_blank byte)) is_blank (λ byte. not_not (is_blank byte)) c.args.bytes.now c.in-None.ensures.place
