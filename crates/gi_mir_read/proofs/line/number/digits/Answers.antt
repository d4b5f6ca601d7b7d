use Rattle.std.proofs.Common.{◌∙◌, ap, take}
use Rattle.gi_llt.specs.Tokens.{is_digit}
use Rattle.gi_resolve.proofs.NamingLemmas.{take-run}
use Rattle.gi_mir_read.proofs.line.number.digits.Goals as goal

pub returns : goal.returns
returns c = c.split_at.ensures.front ∙ ap (λ n. take n c.args.bytes.now) c.digit_length.ensures.run ∙ take-run is_digit c.args.bytes.now
