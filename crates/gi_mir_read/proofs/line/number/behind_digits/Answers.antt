use Rattle.std.proofs.Common.{◌∙◌, ap, drop}
use Rattle.gi_llt.specs.Tokens.{is_digit}
use Rattle.gi_mir_read.proofs.Lines.NumberLemmas.{drop-run}
use Rattle.gi_mir_read.proofs.line.number.behind_digits.Goals as goal

pub returns : goal.returns
returns c = c.split_at.ensures.back ∙ ap (λ n. drop n c.args.bytes.now) c.digit_length.ensures.run ∙ drop-run is_digit c.args.bytes.now
