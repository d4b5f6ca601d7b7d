use Rattle.std.proofs.Common.{◌≡◌, length}
use Rattle.gi_spelling.specs.Reading.{parts_of, read_all, read_definition}
use Rattle.gi_mir_read.specs.Lines.Readings.{after_those}
use Rattle.gi_mir_read.proofs.line.instr.read_definitions.Given as goal

-- those so far, before those of the parts that are left
abbrev pub invariant-loop-part : goal.invariant-loop-part
invariant-loop-part l = after_those l.found.items (read_all read_definition l.parts) ≡ read_all read_definition (parts_of l.items)

abbrev pub decreases-loop-part : goal.decreases-loop-part
decreases-loop-part l = length l.parts
