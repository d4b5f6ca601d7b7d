use Rattle.std.proofs.Common.{◌≡◌, [], drop, reverse}
use Rattle.gi_ir_spelling.specs.Reading.{is_tail}
use Rattle.gi_ir_read.proofs.metadata.is_tail.Given as goal

-- what is left is a tail inside of the groups that are open, if all is one
abbrev pub invariant-loop-place : goal.invariant-loop-place
invariant-loop-place l = is_tail [] l.items ≡ is_tail (reverse l.awaited.items) (drop l.place l.items)
