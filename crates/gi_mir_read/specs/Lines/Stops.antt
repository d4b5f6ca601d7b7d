-- Why reading stops, against what is to be read.
use Rattle.std.specs.Prelude.{◌≡◌, ⊤, Err}
use Rattle.gi_spelling.specs.Reading.{Read}
use Rattle.gi_mir_read.specs.declared.line.stop.Stop.{Stop}
use Rattle.gi_mir_read.specs.declared.line.stop.Stop.TheVariants as stop

-- what is to be read is this fault, unless memory ran out
abbrev pub IsFault : {X : Type 0} → Read X → Stop → Type 0
IsFault read (stop.Fault fault) = read ≡ Err fault
IsFault read stop.Memory = ⊤
