use Rattle.std.proofs.Common.{arith}
use Rattle.gi_mir_read.proofs.Lines.NumberLemmas.{value-more}
use Rattle.gi_mir_read.proofs.line.number.value_within.Goals as goal

pub loop-digit-preserved : goal.loop-digit-preserved
loop-digit-preserved c = record {
  within = omega (arith, c.extended-value.ensures);
  value = value-more c.loop-digit.value c.extended-value.result c.args.bound _ c.loop-digit.digit-index c.args.digits.now (omega arith) c.extended-value.ensures c.loop-digit.invariant.value;
}
