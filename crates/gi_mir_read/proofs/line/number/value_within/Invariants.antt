use Rattle.std.proofs.Common.{◌≡◌, ◌≤◌, drop}
use Rattle.std.specs.Prelude.{min}
use Rattle.gi_text.specs.Numbers.{value_after}
use Rattle.gi_mir_read.proofs.line.number.value_within.Given as goal

-- the digits that are left, behind those so far
abbrev pub invariant-loop-digit : goal.invariant-loop-digit
invariant-loop-digit l = record {
  within : l.value ≤ l.bound;
  value : min (value_after 10 l.value (drop l.digit-index l.digits)) l.bound ≡ min (value_after 10 0 l.digits) l.bound;
}
