-- Whether the functions of a module are valid in the stage in which the start leaves them, and what is said where one isn't.
use Rattle.std.specs.Prelude.{◌≡◌, ℕ, suc, ◌≤◌, ◌-◌, nat_lt, ⊤, List, [], ◌∷◌, ◌++◌, Option, Some, None, if◌then◌else◌, codes, decimal}
use Rattle.gi_mir.specs.Data.{FunctionData}
use Rattle.gi_mir.specs.declared.operand.Operand.{Operand}
use Rattle.gi_mir.specs.declared.operand.Operand.TheVariants.{Use, Phys, ImplicitUse}
use Rattle.gi_mir.specs.declared.stage.Stage.{Stage}
use Rattle.gi_mir.specs.declared.stage.Stage.TheVariants as stage
use Rattle.gi_observe.specs.declared.pass.Pass.{Pass}
use Rattle.gi_observe.specs.declared.pass.Pass.TheVariants.{IrTranslator, PreCombiner, Legalizer, PostCombiner, RegBankSelect, Select}
use Rattle.gi_valid.specs.Typing.{Phase, phase_of}
use Rattle.gi_valid.specs.Valid.{IsInvalid, IsValid}
use Rattle.gi_valid.specs.declared.invalid.Fault.{Fault}
use Rattle.gi_valid.specs.declared.invalid.Invalid.{Invalid}
use Rattle.gi_valid.specs.declared.invalid.Invalid.TheVariants.{DoubleDefinition, NotAvailable, TypeMismatch, UnknownBlock, PhiEntries, PhysicalAcross, Terminator}
use Rattle.gi_spelling.specs.Resolved.{first_of_no_block}
use Rattle.gi_options.specs.Machine.{width_of}
use Rattle.gi_answer.specs.Messages.{at_line}
use Rattle.gi_options.specs.declared.machine.Machine.{Machine}

-- the stage behind each pass
abbrev pub stage_after : Pass → Stage
stage_after IrTranslator = stage.Before
stage_after PreCombiner = stage.Before
stage_after Legalizer = stage.Legalized
stage_after PostCombiner = stage.Legalized
stage_after RegBankSelect = stage.Banked
stage_after Select = stage.Selected

-- ══ What is said ══

-- `%7`, `$x10`
abbrev pub register_word : ℕ → List ℕ
register_word number = codes "%" ++ decimal number

abbrev pub physical_word : ℕ → List ℕ
physical_word number = codes "$x" ++ decimal number

abbrev pub used_word : Operand → List ℕ
used_word (Use reg) = register_word reg.0
used_word (Phys number) = physical_word number
used_word (ImplicitUse number) = physical_word number
used_word operand = []

-- a block that isn't there is kept as a place by its number
abbrev pub invalid_words : Invalid → List ℕ
invalid_words (DoubleDefinition reg) = codes "double definition " ++ register_word reg.0
invalid_words (NotAvailable operand) = codes "not available " ++ used_word operand
invalid_words (TypeMismatch reg) = codes "type mismatch " ++ register_word reg.0
invalid_words (UnknownBlock block) = codes "unknown block " ++ decimal (block - first_of_no_block)
invalid_words PhiEntries = codes "phi entries"
invalid_words (PhysicalAcross number) = codes "physical across " ++ physical_word number
invalid_words Terminator = codes "terminator"

abbrev pub message_of_invalid : Fault → List ℕ
message_of_invalid fault = at_line fault.line (invalid_words fault.what)

-- ══ Functions ══

abbrev pub AreValid : (x : ℕ) → Phase → List FunctionData → Type 0
AreValid x phase [] = ⊤
AreValid x phase (f ∷ functions) = IsValid x phase f × AreValid x phase functions

-- each fault of these functions stands on this line or a higher one
abbrev pub HaveFaultsFrom : (x : ℕ) → Phase → (line : ℕ) → List FunctionData → Type 0
HaveFaultsFrom x phase line [] = ⊤
HaveFaultsFrom x phase line (f ∷ functions) = ((fault : Fault) → IsInvalid x phase f fault → line ≤ fault.line) × HaveFaultsFrom x phase line functions

-- of the faults of all functions it is that of the lowest line, and of one line that of the first function
pub record IsLowestFault (x : ℕ) (phase : Phase) (functions : List FunctionData) (fault : Fault) : Type 0 where
  pub before : List FunctionData
  pub function : FunctionData
  pub behind : List FunctionData
  pub place : functions ≡ before ++ function ∷ behind
  pub invalid : IsInvalid x phase function fault
  pub sooner : HaveFaultsFrom x phase (suc fault.line) before
  pub later : HaveFaultsFrom x phase fault.line behind

-- of two faults that of the lower line, and of one line the first
abbrev pub of_lower_line : (first later : Option Fault) → Option Fault
of_lower_line first None = first
of_lower_line None (Some later) = Some later
of_lower_line (Some first) (Some later) = if nat_lt later.line first.line then Some later else Some first

-- the fault that is told of a function, and none of a valid one
abbrev pub IsFaultOf : (x : ℕ) → Phase → FunctionData → Option Fault → Type 0
IsFaultOf x phase f None = IsValid x phase f
IsFaultOf x phase f (Some fault) = IsInvalid x phase f fault

-- the fault that is told of functions, and none where all are valid
abbrev pub IsFaultAmong : (x : ℕ) → Phase → List FunctionData → Option Fault → Type 0
IsFaultAmong x phase functions None = AreValid x phase functions
IsFaultAmong x phase functions (Some fault) = IsLowestFault x phase functions fault

abbrev pub AreValidFor : Machine → (start : Pass) → List FunctionData → Type 0
AreValidFor machine start functions = AreValid (width_of machine) (phase_of (stage_after start)) functions

abbrev pub IsLowestFaultFor : Machine → (start : Pass) → List FunctionData → Fault → Type 0
IsLowestFaultFor machine start functions fault = IsLowestFault (width_of machine) (phase_of (stage_after start)) functions fault

-- what is said of functions of which one isn't valid
pub record SaysFaultOf (machine : Machine) (start : Pass) (functions : List FunctionData) (message : List ℕ) : Type 0 where
  pub fault : Fault
  pub lowest : IsLowestFaultFor machine start functions fault
  pub says : message ≡ message_of_invalid fault
