-- Whether the instructions of a module fit the stage in which the start leaves them, and what is said where one doesn't.
use Rattle.std.specs.Prelude.{◌≡◌, ℕ, List, [], ◌∷◌, ◌++◌, codes}
use Rattle.gi_mir.specs.Data.{FunctionData}
use Rattle.gi_mir.specs.Row.{word_of}
use Rattle.gi_mir.specs.declared.opcode.Opcode.{Opcode}
use Rattle.gi_mir.specs.declared.stage.Stage.{Stage}
use Rattle.gi_observe.specs.declared.pass.Pass.{Pass}
use Rattle.gi_options.specs.Machine.{width_of}
use Rattle.gi_options.specs.declared.machine.Machine.{Machine}
use Rattle.gi_rules.specs.Fitting.{IsFirstOfLowestLine, illegal_in}
use Rattle.gi_answer.specs.Messages.{at_line}
use Rattle.gi_answer.specs.Validity.{stage_after}

-- the lines and opcodes of the instructions that don't fit, one function after the other
abbrev pub illegal_among : (x : ℕ) → Stage → List FunctionData → List (ℕ × Opcode)
illegal_among x stage [] = []
illegal_among x stage (f ∷ functions) = illegal_in x stage f ++ illegal_among x stage functions

abbrev pub illegal_for : Machine → (start : Pass) → List FunctionData → List (ℕ × Opcode)
illegal_for machine start functions = illegal_among (width_of machine) (stage_after start) functions

abbrev pub message_of_illegal : ℕ × Opcode → List ℕ
message_of_illegal told = at_line told.0 (codes "not legal " ++ word_of told.1)

-- what is said of functions of which an instruction doesn't fit: the one of the lowest line is told, and of one line the first
pub record SaysIllegalOf (machine : Machine) (start : Pass) (functions : List FunctionData) (message : List ℕ) : Type 0 where
  pub told : ℕ × Opcode
  pub lowest : IsFirstOfLowestLine (illegal_for machine start functions) told
  pub says : message ≡ message_of_illegal told
