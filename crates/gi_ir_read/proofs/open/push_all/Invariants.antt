use Rattle.std.proofs.Common.{◌≡◌, ◌≤◌, ◌++◌, drop, length, reverse}
use Rattle.gi_ir_read.proofs.open.push_all.Given as goal

-- the places behind those that are left stand before the first ones
abbrev pub invariant-loop-left : goal.invariant-loop-left
invariant-loop-left l = record {
  within : l.left ≤ length l.row;
  pushed : reverse l.slots.items ≡ drop l.left l.row ++ reverse l.initial.slots.items;
}

abbrev pub decreases-loop-left : goal.decreases-loop-left
decreases-loop-left l = l.left
