-- What instructions define and read, and which registers are computed from which.
-- (MIR Format Reference Manual, "Machine Registers and Register Operands".)
use Rattle.std.specs.Prelude.{◌≡◌, ℕ, zero, suc, Bool, true, false, not, ◌&&◌, ◌||◌, ◌==◌, Option, find}
use Rattle.std.specs.List.{list_any}
use Rattle.std.specs.Option.{option_map_or}
use Rattle.gi_mir.specs.Data.{InstrData, FunctionData}
use Rattle.gi_mir.specs.Edit.{all_instrs, defines, uses}
use Rattle.gi_mir.specs.Formed.{is_def, is_physical, is_physical_def, is_implicit_def}
use Rattle.gi_mir.specs.Row.{access_of, is_call_op, is_phi_op}
use Rattle.gi_mir.specs.declared.opcode.Opcode.{Opcode}
use Rattle.gi_mir.specs.declared.opcode.Opcode.TheVariants as op
use Rattle.gi_mir.specs.declared.operand.Operand.{Operand}
use Rattle.gi_mir.specs.declared.operand.Operand.TheVariants as operand
use Rattle.gi_mir.specs.declared.row.Access.{Access}
use Rattle.gi_mir.specs.declared.row.Access.TheVariants as access

-- ══ Physical registers ══

abbrev pub is_physical_def_of : ℕ → Operand → Bool
is_physical_def_of n (operand.PhysDef m) = m == n
is_physical_def_of n (operand.ImplicitDef m) = m == n
is_physical_def_of n _ = false

abbrev pub is_physical_use_of : ℕ → Operand → Bool
is_physical_use_of n (operand.Phys m) = m == n
is_physical_use_of n (operand.ImplicitUse m) = m == n
is_physical_use_of n _ = false

-- an instruction defines a physical register, also beside what it shows
abbrev pub defines_physical : ℕ → ℕ × InstrData → Bool
defines_physical n p = list_any (is_physical_def_of n) p.1.operands

-- and reads one
abbrev pub reads_physical : ℕ → ℕ × InstrData → Bool
reads_physical n p = list_any (is_physical_use_of n) p.1.operands

-- ══ Pure definitions ══

abbrev pub defines_any_physical : InstrData → Bool
defines_any_physical i = list_any is_physical_def i.operands || list_any is_implicit_def i.operands

-- an instruction that can go where none of its results is used: it defines virtual registers alone and is no call
abbrev pub is_erasable : InstrData → Bool
is_erasable i = list_any is_def i.operands && not (defines_any_physical i) && not (is_call_op i.op)

abbrev pub is_load : Access → Bool
is_load access.Load = true
is_load _ = false

abbrev pub is_copy : Opcode → Bool
is_copy op.Copy = true
is_copy _ = false

abbrev pub copies_physical : InstrData → Bool
copies_physical i = is_copy i.op && list_any is_physical i.operands

-- what it defines depends on its operands alone: it can go, and is no load, no phi and no copy from a physical register
abbrev pub is_pure : InstrData → Bool
is_pure i = is_erasable i && not (is_load (access_of i.op)) && not (is_phi_op i.op) && not (copies_physical i)

-- ══ Computed from ══

-- the definition of a register: the first in layout
abbrev pub definition : FunctionData → ℕ → Option (ℕ × InstrData)
definition f r = find (defines r) (all_instrs f.blocks)

abbrev pub uses_purely : Option (ℕ × InstrData) → ℕ → Bool
uses_purely found r = option_map_or (λ p. is_pure p.1 && uses r p) found false

-- y is computed from x: its definition is pure and uses x, or a register that is computed from x, over so many others
abbrev pub IsComputedOver : ℕ → FunctionData → (y x : ℕ) → Type 0
IsComputedOver zero f y x = uses_purely (definition f y) x ≡ true
IsComputedOver (suc n) f y x = (z : ℕ) × (uses_purely (definition f y) z ≡ true) × IsComputedOver n f z x

pub record IsComputedFrom (f : FunctionData) (y x : ℕ) : Type 0 where
  pub others : ℕ
  pub over : IsComputedOver others f y x
