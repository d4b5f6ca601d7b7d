use Rattle.std.proofs.Common.{◌≡◌, ◌<◌, ◌^◌, drop}
use Rattle.gi_text.specs.Numbers.{value_after}
use Rattle.gi_text.proofs.numbers.value.Given as goal

-- the digits that are left, behind those so far
abbrev pub invariant-loop-digit : goal.invariant-loop-digit
invariant-loop-digit l = record {
  held : l.size < 2 ^ 128;
  value : value_after l.base l.size (drop l.digit-index l.digits) ≡ value_after l.base 0 l.digits;
}
