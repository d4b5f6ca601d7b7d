use Rattle.std.proofs.Common.{◌≡◌, drop}
use Rattle.gi_ir_spelling.specs.Reading.{beginning, read_from}
use Rattle.gi_ir_read.specs.Stops.{behind}
use Rattle.gi_ir_read.proofs.line.read_from.Given as goal

-- the tokens so far, before those that are read of the rest
abbrev pub invariant-loop-item : goal.invariant-loop-item
invariant-loop-item l = read_from beginning l.items ≡ behind l.placed.items (read_from l.open (drop l.item-index l.items))
