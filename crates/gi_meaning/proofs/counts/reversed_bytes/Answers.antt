use Rattle.std.proofs.Common.{arith}
use Rattle.gi_meaning.proofs.Counting.{byte_more, bytes_fit}
use Rattle.gi_meaning.proofs.counts.reversed_bytes.Goals as goal

pub overflow_mul-reversed : goal.overflow_mul-reversed
overflow_mul-reversed c = record {
  fits = omega (
    arith,
    byte_more c.loop-i._i c.loop-i.reversed c.loop-i.rest c.loop-i.invariant.bound,
    bytes_fit c.loop-i._i (omega arith),
  );
}

pub overflow_add-reversed : goal.overflow_add-reversed
overflow_add-reversed c = record {
  fits = omega (
    arith,
    byte_more c.loop-i._i c.loop-i.reversed c.loop-i.rest c.loop-i.invariant.bound,
    bytes_fit c.loop-i._i (omega arith),
  );
}
