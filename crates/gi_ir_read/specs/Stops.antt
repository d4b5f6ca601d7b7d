-- How code tells what stops the reading of a line.
use Rattle.std.specs.Prelude.{◌≡◌, ⊤, List, [], ◌++◌, Result, Ok, Err}
use Rattle.gi_ir_spelling.specs.declared.place.Fault.{Fault}
use Rattle.gi_ir_spelling.specs.declared.place.Placed.{Placed}
use Rattle.gi_ir_spelling.specs.declared.place.Row.{Row}
use Rattle.gi_ir_spelling.specs.declared.place.Row.TheVariants.{Nothing, Form, ElementFlags, OtherFlags, IndexOf}
use Rattle.gi_ir_spelling.specs.declared.place.Slot.{Slot}
use Rattle.gi_ir_spelling.specs.Grammar.{slots_of}
use Rattle.gi_ir_read.specs.declared.stop.Stop.{Stop}
use Rattle.gi_ir_read.specs.declared.stop.Stop.TheVariants as stop

-- the fault of what is read, unless memory ran out
abbrev pub IsStopOf : {X : Type 0} → Result X Fault → Stop → Type 0
IsStopOf read stop.Memory = ⊤
IsStopOf read (stop.Fault fault) = read ≡ Err fault

-- tokens in their places before those that are read of the rest
abbrev pub behind : List Placed → Result (List Placed) Fault → Result (List Placed) Fault
behind placed (Ok rest) = Ok (placed ++ rest)
behind placed (Err fault) = Err fault

-- the places of a row that are always the same, and none of another row
abbrev pub fixed_slots : Row → List Slot
fixed_slots Nothing = []
fixed_slots (Form operation) = []
fixed_slots (ElementFlags flags) = []
fixed_slots (OtherFlags flags) = []
fixed_slots (IndexOf scalar) = []
fixed_slots row = slots_of row
