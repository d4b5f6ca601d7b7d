-- When an instruction is formed: its operands agree with a row of its opcode, its memory operand is the row's
-- and aligned, and its registers and constants are in range.
use Rattle.std.specs.Prelude.{ℕ, ◌+◌, ◌/◌, ◌^◌, Bool, true, false, ◌&&◌, ◌||◌, not, List, [], ◌∷◌, Option, Some, None, nat_lt, ◌==◌, if◌then◌else◌}
use Rattle.std.specs.Int.{is_power_of_two}
use Rattle.std.specs.List.{list_all, list_any}
use Rattle.std.specs.Option.{option_map_or}
use Rattle.gi_llt.specs.declared.Llt.{Llt}
use Rattle.gi_llt.specs.declared.Llt.TheVariants.{Scalar, Pointer}
use Rattle.gi_mir.specs.declared.operand.MemOp.{MemOp}
use Rattle.gi_mir.specs.declared.operand.Operand.{Operand}
use Rattle.gi_mir.specs.declared.operand.Operand.TheVariants as operand
use Rattle.gi_mir.specs.declared.operand.SymbolFlag.TheVariants.{Plain, Call, Hi, Lo}
use Rattle.gi_mir.specs.declared.row.Form.{Form}
use Rattle.gi_mir.specs.declared.row.Form.TheVariants as form
use Rattle.gi_mir.specs.declared.row.Access.{Access}
use Rattle.gi_mir.specs.declared.row.Access.TheVariants as access
use Rattle.gi_mir.specs.Data.{InstrData}
use Rattle.gi_mir.specs.Row.{rows_of, access_of}

abbrev pub is_def : Operand → Bool
is_def (operand.Def r k) = true
is_def _ = false

abbrev pub is_use : Operand → Bool
is_use (operand.Use r) = true
is_use _ = false

abbrev pub is_physical : Operand → Bool
is_physical (operand.Phys n) = true
is_physical _ = false

abbrev pub is_physical_def : Operand → Bool
is_physical_def (operand.PhysDef n) = true
is_physical_def _ = false

abbrev pub is_implicit_use : Operand → Bool
is_implicit_use (operand.ImplicitUse n) = true
is_implicit_use _ = false

abbrev pub is_implicit_def : Operand → Bool
is_implicit_def (operand.ImplicitDef n) = true
is_implicit_def _ = false

abbrev pub is_int : Operand → Bool
is_int (operand.Int n) = true
is_int _ = false

abbrev pub is_constant : Operand → Bool
is_constant (operand.Constant bits value) = true
is_constant _ = false

abbrev pub is_block : Operand → Bool
is_block (operand.Block b) = true
is_block _ = false

abbrev pub is_predicate : Operand → Bool
is_predicate (operand.Predicate p) = true
is_predicate _ = false

abbrev pub is_frame : Operand → Bool
is_frame (operand.Frame n) = true
is_frame _ = false

abbrev pub is_saved_mask : Operand → Bool
is_saved_mask operand.SavedMask = true
is_saved_mask _ = false

-- a global with no flag
abbrev pub is_global : Operand → Bool
is_global (operand.Global Plain g) = true
is_global _ = false

-- a whole number, or `target-flags(riscv-hi) @g`
abbrev pub is_high : Operand → Bool
is_high (operand.Int n) = true
is_high (operand.Global Hi g) = true
is_high _ = false

-- a whole number, or `target-flags(riscv-lo) @g`
abbrev pub is_low : Operand → Bool
is_low (operand.Int n) = true
is_low (operand.Global Lo g) = true
is_low _ = false

-- `target-flags(riscv-call)` and a global or a routine
abbrev pub is_callee : Operand → Bool
is_callee (operand.Global Call g) = true
is_callee (operand.Routine Call r) = true
is_callee _ = false

-- whether an operand has this form
abbrev pub admits : Form → Operand → Bool
admits form.Def x = is_def x
admits form.Use x = is_use x
admits form.TypedUse x = is_use x
admits form.Physical x = is_physical x
admits form.PhysicalDef x = is_physical_def x
admits form.Source x = is_use x || is_physical x
admits form.Address x = is_use x || is_physical x || is_frame x
admits form.Int x = is_int x
admits form.High x = is_high x
admits form.Low x = is_low x
admits form.Constant x = is_constant x
admits form.Block x = is_block x
admits form.Predicate x = is_predicate x
admits form.Frame x = is_frame x
admits form.Global x = is_global x
admits form.Callee x = is_callee x
admits form.SavedMask x = is_saved_mask x
admits form.ImplicitUse x = is_implicit_use x
admits form.ImplicitDef x = is_implicit_def x
admits form.Results x = is_def x
admits form.Parts x = is_use x
admits form.Entry x = is_use x
admits form.EntryBlock x = is_block x
admits form.Implicits x = is_implicit_use x || is_implicit_def x
admits form.ImplicitUses x = is_implicit_use x

-- the forms that stand for any number of operands, none included
abbrev pub is_repeated : Form → Bool
is_repeated form.Results = true
is_repeated form.Parts = true
is_repeated form.Entry = true
is_repeated form.Implicits = true
is_repeated form.ImplicitUses = true
is_repeated _ = false

-- what is wanted once an operand has this form, before the forms that follow it
abbrev pub wanted_after : Form → Option Form
wanted_after form.Results = Some form.Results
wanted_after form.Parts = Some form.Parts
wanted_after form.Entry = Some form.EntryBlock
wanted_after form.EntryBlock = Some form.Entry
wanted_after form.Implicits = Some form.Implicits
wanted_after form.ImplicitUses = Some form.ImplicitUses
wanted_after _ = None

abbrev pub with_wanted : Option Form → List Form → List Form
with_wanted None fs = fs
with_wanted (Some f) fs = f ∷ fs

-- the forms that are left once the first that can take an operand has taken it; a repeated form may be passed over
abbrev pub taken : Operand → List Form → Option (List Form)
taken x [] = None
taken x (f ∷ fs) =
    if admits f x then Some (with_wanted (wanted_after f) fs) else (if is_repeated f then taken x fs else None)

-- whether operands have these forms in order
abbrev pub fits : List Form → List Operand → Bool
fits fs [] = list_all is_repeated fs
fits fs (x ∷ xs) = option_map_or (λ left. fits left xs) (taken x fs) false

-- an alignment is a power of two, or the size in bytes; a pointer's may be left open by 0
abbrev pub is_alignment : Llt → ℕ → Bool
is_alignment (Scalar bits) align = is_power_of_two align || align == (bits + 7) / 8
is_alignment Pointer align = is_power_of_two align || align == 0

abbrev pub has_access : Access → Option MemOp → Bool
has_access access.Neither None = true
has_access access.Load (Some m) = m.load && is_alignment m.ty m.align
has_access access.Store (Some m) = not m.load && is_alignment m.ty m.align
has_access _ _ = false

-- a constant of a width up to 128 is below 2 to that
abbrev pub is_constant_in_range : ℕ → ℕ → Bool
is_constant_in_range bits value = nat_lt 128 bits || nat_lt value (2 ^ bits)

-- a physical register is below 32, and a constant within its width
abbrev pub is_in_range : Operand → Bool
is_in_range (operand.Phys n) = nat_lt n 32
is_in_range (operand.PhysDef n) = nat_lt n 32
is_in_range (operand.ImplicitUse n) = nat_lt n 32
is_in_range (operand.ImplicitDef n) = nat_lt n 32
is_in_range (operand.Constant bits value) = is_constant_in_range bits value
is_in_range _ = true

-- whether operands have one of these rows
abbrev pub fits_one_of : List (List Form) → List Operand → Bool
fits_one_of rows operands = list_any (λ forms. fits forms operands) rows

-- an instruction is formed
unfoldable pub is_formed : InstrData → Bool
is_formed i =
    fits_one_of (rows_of i.op) i.operands
    && has_access (access_of i.op) i.mem
    && list_all is_in_range i.operands
