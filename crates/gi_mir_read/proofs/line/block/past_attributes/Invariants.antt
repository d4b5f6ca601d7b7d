use Rattle.std.proofs.Common.{◌≡◌, drop}
use Rattle.gi_spelling.specs.Blocks.{past_attributes}
use Rattle.gi_mir_read.proofs.line.block.past_attributes.Given as goal

-- no bracket so far
abbrev pub invariant-loop-place : goal.invariant-loop-place
invariant-loop-place l = past_attributes (drop l.place l.items) ≡ past_attributes l.items
