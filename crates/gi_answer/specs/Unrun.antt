-- Which runs are built so far: selection on RV32, and runs that end with their start: no pass is run there, and the module
-- is printed as it was read.
use Rattle.std.specs.Prelude.{ℕ, Bool, true, false, List, [], ◌∷◌, ◌==◌, Option, Some, None, if◌then◌else◌}
use Rattle.gi_mir.specs.Data.{FunctionData}
use Rattle.gi_observe.specs.declared.pass.Pass.{Pass}
use Rattle.gi_observe.specs.declared.pass.Pass.TheVariants.{RegBankSelect, Select}
use Rattle.gi_observe.specs.Passes.{word_of, place_of, next_of}
use Rattle.gi_answer.specs.Messages.{not_built}
use Rattle.gi_answer.specs.Unselected.{unselected}
use Rattle.gi_options.specs.declared.machine.Machine.{Machine}
use Rattle.gi_options.specs.declared.machine.Machine.TheVariants.{Riscv32}

-- selection is run, which is built on RV32
abbrev pub selects : (start stop : Pass) → Machine → Bool
selects RegBankSelect Select Riscv32 = true
selects start stop machine = false

-- what is said where a pass is to be run that isn't built: the one after the start
abbrev pub unrun : (start stop : Pass) → Option (List ℕ)
unrun start stop = if place_of stop == place_of start then None else Some (not_built (word_of (next_of start)))

-- what is said of functions for which something isn't built, if that is so: where there is no function nothing is left to be
-- built
abbrev pub unbuilt : (start stop : Pass) → Machine → List FunctionData → Option (List ℕ)
unbuilt start stop machine [] = None
unbuilt start stop machine (f ∷ functions) =
    if selects start stop machine then unselected (f ∷ functions) else unrun start stop
