use Rattle.std.proofs.Common.{◌≡◌, ◌≤◌, ◌++◌, drop, take}
use Rattle.gi_spelling.specs.Items.{what_in}
use Rattle.gi_spelling.specs.Kept.{kept, kept_past}
use Rattle.gi_mir_read.proofs.line.kept.gather.Given as goal

-- the tokens so far stand at the front, before those that count of what is left
abbrev pub invariant-loop-place : goal.invariant-loop-place
invariant-loop-place l = record {
  behind : l.count ≤ l.place;
  kept : take l.count l.items ++ kept_past what_in l.next (drop l.place l.items) ≡ kept what_in l.fn.items;
}
