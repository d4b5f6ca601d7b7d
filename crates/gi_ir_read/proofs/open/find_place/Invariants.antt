use Rattle.std.proofs.Common.{◌≡◌, reverse, vec_len}
use Rattle.gi_ir_spelling.specs.Reading.{found_in}
use Rattle.gi_ir_read.proofs.open.find_place.Given as goal

abbrev pub invariant-loop-slot : goal.invariant-loop-slot
invariant-loop-slot l = found_in l.last (reverse l.initial.slots.items) l.what ≡ found_in l.last (reverse l.slots.items) l.what

abbrev pub decreases-loop-slot : goal.decreases-loop-slot
decreases-loop-slot l = vec_len l.slots
