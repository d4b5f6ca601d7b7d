use Rattle.std.proofs.Common.{◌∙◌, ap, take}
use Rattle.gi_llt.specs.Tokens.{is_word_byte}
use Rattle.gi_resolve.proofs.NamingLemmas.{take-run}
use Rattle.gi_resolve.proofs.naming.front_word.Goals as goal

pub returns : goal.returns
returns c = c.split_at.ensures.front ∙ ap (λ n. take n c.args.bytes.now) c.word_length.ensures.run ∙ take-run is_word_byte c.args.bytes.now
