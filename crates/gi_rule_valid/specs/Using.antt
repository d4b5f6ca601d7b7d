-- A rewrite at an instruction of a function: where it fits, and what the function is after it.
use Rattle.std.specs.Prelude.{◌≡◌, ℕ, ◌+◌, Bool, List, [], ◌∷◌, ◌++◌, Option, Some, None, length, map, slice_get, ◌==◌, if◌then◌else◌, zip}
use Rattle.std.specs.Option.{option_map_or}
use Rattle.gi_llt.specs.declared.Llt.{Llt}
use Rattle.gi_mir.specs.Data.{InstrData, FunctionData, reg_of}
use Rattle.gi_mir.specs.Edit.{instr_of}
use Rattle.gi_mir.specs.Registers.{kind_of}
use Rattle.gi_mir.specs.declared.operand.Kind.{Kind}
use Rattle.gi_mir.specs.declared.operand.Kind.TheVariants.{Banked, Generic}
use Rattle.gi_mir.specs.declared.operand.Operand.{Operand}
use Rattle.gi_mir.specs.declared.operand.Operand.TheVariants as operand
use Rattle.gi_replace.specs.Applying.{line_of, root_replaced}
use Rattle.gi_refine.specs.Lifting.{grown}
use Rattle.gi_valid.specs.Definitions.{definition}
use Rattle.gi_rule_values.specs.Data.{DefinitionData, OperationData, RewriteData}
use Rattle.gi_rule_values.specs.declared.rewrite.Slot.{Slot}
use Rattle.gi_rule_values.specs.declared.rewrite.Slot.TheVariants.{At, Stands}

-- ══ A use ══

-- a rewrite, with the registers of its inputs and of its root's results
pub record UseData : Type 0 where
  pub rewrite : RewriteData
  pub inputs : List ℕ
  pub results : List ℕ

-- ══ An operation on registers ══

-- a register of this type, in the bank where the function's registers are in banks
abbrev pub kind_with : Bool → Llt → Kind
kind_with banked ty = if banked then Banked ty else Generic ty

-- the register at a place, and 0 where there is none
abbrev pub register_at : (registers : List ℕ) → (place : ℕ) → ℕ
register_at registers place = option_map_or (λ r. r) (slice_get registers place) 0

abbrev pub operand_for : (registers : List ℕ) → Slot → Operand
operand_for registers (At place) = operand.Use (reg_of (register_at registers place))
operand_for registers (Stands o) = o

-- definitions of these registers, each with what it is
abbrev pub defined_as : (kind : Llt → Kind) → (results : List ℕ) → List Llt → List Operand
defined_as kind (r ∷ rs) (ty ∷ types) = operand.Def (reg_of r) (kind ty) ∷ defined_as kind rs types
defined_as kind _ _ = []

abbrev pub instr_for : (kind : Llt → Kind) → (registers results : List ℕ) → OperationData → (line : ℕ) → InstrData
instr_for kind registers results o line = record {
  op = o.op;
  flags = o.flags;
  operands = defined_as kind results o.types ++ map (operand_for registers) o.slots;
  mem = None;
  line = line;
}

-- ══ Registers of what is made ══

-- the root's register that has the value at a place
abbrev pub target_at : List (ℕ × ℕ) → (place : ℕ) → Option ℕ
target_at [] place = None
target_at (pair ∷ pairs) place = if place == pair.0 then Some pair.1 else target_at pairs place

-- that register, or a new one of this number
abbrev pub or_new : Option ℕ → (next : ℕ) → ℕ
or_new None next = next
or_new (Some r) next = r

abbrev pub next_behind : Option ℕ → (next : ℕ) → ℕ
next_behind None next = next + 1
next_behind (Some r) next = next

-- the registers of results from a place on, with new ones from this number on
abbrev pub registers_for : List (ℕ × ℕ) → (place next : ℕ) → List Llt → List ℕ
registers_for targets place next [] = []
registers_for targets place next (ty ∷ types) =
    or_new (target_at targets place) next ∷ registers_for targets (place + 1) (next_behind (target_at targets place) next) types

abbrev pub next_for : List (ℕ × ℕ) → (place next : ℕ) → List Llt → ℕ
next_for targets place next [] = next
next_for targets place next (ty ∷ types) = next_for targets (place + 1) (next_behind (target_at targets place) next) types

abbrev pub place_for : (place : ℕ) → List Llt → ℕ
place_for place [] = place
place_for place (ty ∷ types) = place_for (place + 1) types

-- the registers of each operation in order
abbrev pub all_registers : List (ℕ × ℕ) → (place next : ℕ) → List OperationData → List (List ℕ)
all_registers targets place next [] = []
all_registers targets place next (o ∷ os) =
    registers_for targets place next o.types ∷ all_registers targets (place_for place o.types) (next_for targets place next o.types) os

-- and the instructions
abbrev pub all_instrs_for : (kind : Llt → Kind) → (line : ℕ) → List (ℕ × ℕ) → (registers : List ℕ) → (place next : ℕ) → List OperationData → List InstrData
all_instrs_for kind line targets registers place next [] = []
all_instrs_for kind line targets registers place next (o ∷ os) =
    instr_for kind registers (registers_for targets place next o.types) o line
    ∷ all_instrs_for kind line targets (grown registers (registers_for targets place next o.types)) (place_for place o.types) (next_for targets place next o.types) os

-- the places of the root's results, with their registers
abbrev pub targets_of : UseData → List (ℕ × ℕ)
targets_of u = zip u.rewrite.results u.results

-- registers of a function that are made are in the bank where its registers are
abbrev pub kind_in : FunctionData → Llt → Kind
kind_in f = kind_with f.banked

abbrev pub made_of : FunctionData → (id : ℕ) → UseData → List InstrData
made_of f id u = all_instrs_for (kind_in f) (line_of f id) (targets_of u) u.inputs (length u.inputs) f.next_reg u.rewrite.made

-- the function after the rewrite
abbrev pub rewritten_at : FunctionData → (id : ℕ) → UseData → FunctionData
rewritten_at f id u = root_replaced id (made_of f id u) f

-- ══ Where it fits ══

-- registers have these types
abbrev pub AreOfTypes : FunctionData → List ℕ → List Llt → Type 0
AreOfTypes f [] [] = Unit {0}
AreOfTypes f (r ∷ rs) (ty ∷ types) = (kind_of f r ≡ kind_in f ty) × AreOfTypes f rs types
AreOfTypes f _ _ = ⊥

-- the definition of a register, with its id and its line
pub record IsDefinedBy (f : FunctionData) (registers : List ℕ) (place : ℕ) (d : DefinitionData) : Type 0 where
  pub id : ℕ
  pub line : ℕ
  pub is : definition f (register_at registers place) ≡ Some (id, instr_for (kind_in f) registers (map (register_at registers) d.results) d.operation line)

-- that of each definition's first result
abbrev pub AreDefined : FunctionData → (registers : List ℕ) → List DefinitionData → Type 0
AreDefined f registers [] = Unit {0}
AreDefined f registers (d ∷ ds) = IsDefinedBy f registers (option_map_or (λ place. place) (slice_get d.results 0) 0) d × AreDefined f registers ds

-- The root stands at the instruction, on these registers; the inputs have their types, and the definitions are theirs.
pub record FitsAt (f : FunctionData) (id : ℕ) (u : UseData) : Type 0 where
  pub line : ℕ
  pub root : instr_of f id ≡ Some (instr_for (kind_in f) u.inputs u.results u.rewrite.root line)
  pub types : AreOfTypes f u.inputs u.rewrite.inputs
  pub many : length u.results ≡ length u.rewrite.root.types
  pub definitions : AreDefined f u.inputs u.rewrite.definitions
