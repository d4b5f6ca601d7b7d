use Rattle.std.proofs.Common.{◌≡◌, ◌≤◌, ◌++◌, drop, take}
use Rattle.gi_ir_spelling.specs.Reading.{without_metadata}
use Rattle.gi_ir_read.proofs.metadata.count_before.Given as goal

-- the tokens so far, before those that are left of the rest
abbrev pub invariant-loop-place : goal.invariant-loop-place
invariant-loop-place l = record {
  shallow : l.depth ≤ l.place;
  before : without_metadata 0 l.items ≡ take l.place l.items ++ without_metadata l.depth (drop l.place l.items);
}
