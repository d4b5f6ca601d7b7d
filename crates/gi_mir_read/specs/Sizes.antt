-- Which lines of a module pass what is handled: types that are too wide or aren't among their opcode's, and numbers
-- above their limits. (Which types an opcode takes is said by its typing; the limits are this project's own.)
--     rank 0     a type, or K of G_SEXT_INREG
--     rank 1     operands of a function           262144
--     rank 2     blocks of a function              65535
--     rank 3     functions                         65535
--     rank 4     number of a virtual register    4194303
--     rank 5     parts of a merge or an unmerge       16
--     rank 6     size of a stack object          1048576
--     rank 7     alignment of a stack object        4096
--     rank 8     alignment of a memory operand      4096
use Rattle.std.specs.Prelude.{ℕ, ◌+◌, ℤ, pos, negsuc, min, Bool, true, false, ◌&&◌, ◌||◌, List, [], ◌∷◌, ◌++◌, Option, Some, None, length, flat_map, fold, option_map, unwrap_or, nat_lt, nat_le, ◌==◌, if◌then◌else◌}
use Rattle.std.specs.List.{list_any}
use Rattle.gi_llt.specs.declared.Llt.{Llt}
use Rattle.gi_llt.specs.Llt.{width_of}
use Rattle.gi_text.specs.declared.token.SizeError.{SizeError}
use Rattle.gi_text.specs.declared.token.SizeError.TheVariants.{Width, Limit}
use Rattle.gi_mir.specs.Accepted.{is_constant_type, is_in_register, is_memory_type, is_result_type, is_source_type}
use Rattle.gi_mir.specs.Data.{InstrData, BlockData, FunctionData, ModuleData}
use Rattle.gi_mir.specs.Registers.{kind_of, type_of_kind}
use Rattle.gi_mir.specs.Row.{rows_of}
use Rattle.gi_mir.specs.Types.{is_any, is_pointer, is_register, scalar_bits}
use Rattle.gi_mir.specs.declared.opcode.Opcode.{Opcode}
use Rattle.gi_mir.specs.declared.opcode.Opcode.TheVariants.{Copy, GenericMergeValues, GenericUnmergeValues, GenericSignExtendInRegister}
use Rattle.gi_mir.specs.declared.operand.Kind.{Kind}
use Rattle.gi_mir.specs.declared.operand.MemOp.{MemOp}
use Rattle.gi_mir.specs.declared.operand.Operand.{Operand}
use Rattle.gi_mir.specs.declared.operand.Operand.TheVariants.{Def, Use, Phys, PhysDef, Int, Constant}
use Rattle.gi_mir.specs.declared.operand.StackObject.{StackObject}
use Rattle.gi_mir.specs.declared.row.Form.{Form}
use Rattle.gi_mir.specs.declared.row.Form.TheVariants as form
use Rattle.gi_spelling.specs.Printed.{definitions_of, first_row, forms_after, is_typed_by, source_forms, sources_of}
use Rattle.gi_mir_read.specs.declared.sizes.Fault.{Fault}

-- ══ Which of two faults counts ══

-- the one of the lower line, on one line the one of the lower rank, and of one rank the first
abbrev pub is_before : Fault → Fault → Bool
is_before one other = nat_lt one.line other.line || (one.line == other.line) && nat_lt one.rank other.rank

abbrev pub sooner_fault : Option Fault → Fault → Option Fault
sooner_fault None fault = Some fault
sooner_fault (Some first) fault = if is_before fault first then Some fault else Some first

abbrev pub lowest_after : Option Fault → List Fault → Option Fault
lowest_after lowest faults = fold sooner_fault lowest faults

abbrev pub width_fault : (line bits : ℕ) → Fault
width_fault line bits = record { line = line; rank = 0; error = Width line bits }

-- a number that passes its limit
abbrev pub above : (line rank limit number : ℕ) → List Fault
above line rank limit number = if nat_lt limit number then record { line = line; rank = rank; error = Limit line limit } ∷ [] else []

-- ══ Types ══

abbrev pub width_unless : Bool → (line bits : ℕ) → List Fault
width_unless right line bits = if right then [] else width_fault line bits ∷ []

-- a type that is shown is a pointer, or a scalar of up to twice the width of a register, and of its place
abbrev pub type_faults : (x line : ℕ) → (Llt → Bool) → Option Llt → List Fault
type_faults x line is_right None = []
type_faults x line is_right (Some ty) = width_unless (is_any x ty && is_right ty) line (width_of x ty)

abbrev pub is_physical : Operand → Bool
is_physical (Phys number) = true
is_physical (PhysDef number) = true
is_physical _ = false

abbrev pub is_copy : Opcode → Bool
is_copy Copy = true
is_copy _ = false

-- a copy between a virtual and a physical register
abbrev pub is_physical_copy : InstrData → Bool
is_physical_copy instr = is_copy instr.op && list_any is_physical instr.operands

abbrev pub is_word : ℕ → Llt → Bool
is_word x ty = is_pointer ty || is_register x ty

abbrev pub is_right_result : ℕ → InstrData → (place : ℕ) → Llt → Bool
is_right_result x instr place ty = if is_physical_copy instr then is_word x ty else is_result_type x instr.op place ty

abbrev pub is_right_source : ℕ → InstrData → (place : ℕ) → Llt → Bool
is_right_source x instr place ty = if is_physical_copy instr then is_word x ty else is_source_type x instr.op place ty

-- the type of the first result, which one of class `gpr` has not
abbrev pub result_type : List Operand → Option Llt
result_type (Def reg kind ∷ operands) = type_of_kind kind
result_type operands = None

abbrev pub told_number : ℤ → ℕ
told_number (pos k) = min k 65535
told_number (negsuc k) = 0

abbrev pub is_extension : Opcode → Bool
is_extension GenericSignExtendInRegister = true
is_extension _ = false

-- a number of low bits that don't fill a result of this type, or aren't there
abbrev pub low_faults : (x line : ℕ) → ℤ → Option Llt → List Fault
low_faults x line k None = []
low_faults x line k (Some ty) = width_unless (is_in_register x (scalar_bits ty) k) line (told_number k)

abbrev pub number_faults : ℕ → InstrData → ℤ → List Fault
number_faults x instr k = if is_extension instr.op then low_faults x instr.line k (result_type instr.operands) else []

-- what an operand shows, where so many results and so many other virtual registers stand before, by the forms from it on
abbrev pub operand_faults : ℕ → (kinds : ℕ → Kind) → InstrData → (results sources : ℕ) → List Form → Operand → List Fault
operand_faults x kinds instr results sources forms (Def reg kind) = type_faults x instr.line (is_right_result x instr results) (type_of_kind kind)
operand_faults x kinds instr results sources forms (Use reg) =
    type_faults x instr.line (is_right_source x instr sources) (if is_typed_by forms then type_of_kind (kinds reg.0) else None)
operand_faults x kinds instr results sources forms (Constant bits value) = width_unless (is_constant_type x instr.op bits) instr.line bits
operand_faults x kinds instr results sources forms (Int k) = number_faults x instr k
operand_faults x kinds instr results sources forms operand = []

abbrev pub results_after : ℕ → Operand → ℕ
results_after results (Def reg kind) = results + 1
results_after results _ = results

abbrev pub sources_after : ℕ → Operand → ℕ
sources_after sources (Use reg) = sources + 1
sources_after sources _ = sources

abbrev pub is_definition_form : Form → Bool
is_definition_form form.Def = true
is_definition_form form.PhysicalDef = true
is_definition_form form.Results = true
is_definition_form _ = false

-- a definition takes no form of those of what is none
abbrev pub forms_behind : List Form → Operand → List Form
forms_behind forms (Def reg kind) = forms
forms_behind forms (PhysDef number) = forms
forms_behind forms _ = forms_after forms

abbrev pub operands_faults : ℕ → (kinds : ℕ → Kind) → InstrData → (results sources : ℕ) → List Form → List Operand → List Fault
operands_faults x kinds instr results sources forms [] = []
operands_faults x kinds instr results sources forms (operand ∷ operands) =
    operand_faults x kinds instr results sources forms operand
    ++ operands_faults x kinds instr (results_after results operand) (sources_after sources operand) (forms_behind forms operand) operands

-- ══ An instruction ══

abbrev pub register_faults : (line : ℕ) → Operand → List Fault
register_faults line (Def reg kind) = above line 4 4194303 reg.0
register_faults line (Use reg) = above line 4 4194303 reg.0
register_faults line _ = []

abbrev pub parts_of : Opcode → List Operand → ℕ
parts_of GenericMergeValues operands = length (sources_of operands)
parts_of GenericUnmergeValues operands = length (definitions_of operands)
parts_of _ operands = 0

abbrev pub memory_faults : ℕ → InstrData → Option MemOp → List Fault
memory_faults x instr None = []
memory_faults x instr (Some memory) =
    type_faults x instr.line (is_memory_type x instr.op) (Some memory.ty) ++ above instr.line 8 4096 memory.align

-- the operands of the function are counted, to one above the limit; they are told where they pass it
abbrev pub count_after : (before count : ℕ) → ℕ
count_after before count = min (before + count) 262145

abbrev pub count_faults : (line before count : ℕ) → List Fault
count_faults line before count = if nat_le before 262144 then above line 1 262144 (before + count) else []

-- what an instruction shows, its memory operand, and its numbers
abbrev pub shown_faults : ℕ → (kinds : ℕ → Kind) → InstrData → List Fault
shown_faults x kinds instr = operands_faults x kinds instr 0 0 (source_forms (first_row (rows_of instr.op))) instr.operands

abbrev pub access_faults : ℕ → InstrData → List Fault
access_faults x instr = memory_faults x instr instr.mem

abbrev pub numbers_of : (before line : ℕ) → Opcode → List Operand → List Fault
numbers_of before line op operands =
    count_faults line before (length operands) ++ (flat_map (register_faults line) operands ++ above line 5 16 (parts_of op operands))

abbrev pub numbers_faults : (before : ℕ) → InstrData → List Fault
numbers_faults before instr = numbers_of before instr.line instr.op instr.operands

abbrev pub instr_faults : ℕ → (kinds : ℕ → Kind) → (before : ℕ) → InstrData → List Fault
instr_faults x kinds before instr = shown_faults x kinds instr ++ (access_faults x instr ++ numbers_faults before instr)

-- ══ A function, and a module ══

abbrev pub instrs_faults : ℕ → (kinds : ℕ → Kind) → (before : ℕ) → List (ℕ × InstrData) → List Fault
instrs_faults x kinds before [] = []
instrs_faults x kinds before (instr ∷ instrs) =
    instr_faults x kinds before instr.1 ++ instrs_faults x kinds (count_after before (length (instr.1).operands)) instrs

abbrev pub counted : (before : ℕ) → List (ℕ × InstrData) → ℕ
counted before [] = before
counted before (instr ∷ instrs) = counted (count_after before (length (instr.1).operands)) instrs

abbrev pub blocks_faults : ℕ → (kinds : ℕ → Kind) → (before : ℕ) → List BlockData → List Fault
blocks_faults x kinds before [] = []
blocks_faults x kinds before (block ∷ blocks) =
    instrs_faults x kinds before block.instrs ++ blocks_faults x kinds (counted before block.instrs) blocks

abbrev pub line_of : List (ℕ × InstrData) → Option ℕ
line_of [] = None
line_of (instr ∷ instrs) = Some (instr.1).line

-- the line of the first instruction in layout, and 1 without one
abbrev pub first_line : List BlockData → ℕ
first_line [] = 1
first_line (block ∷ blocks) = unwrap_or (line_of block.instrs) (first_line blocks)

abbrev pub object_faults : (line : ℕ) → StackObject → List Fault
object_faults line object = above line 6 1048576 object.size ++ above line 7 4096 object.align

abbrev pub objects_faults : (line : ℕ) → List StackObject → List Fault
objects_faults line objects = flat_map (object_faults line) objects

-- the counts of the function at a place among the module's
abbrev pub head_faults : (line place : ℕ) → FunctionData → List Fault
head_faults line place f =
    above line 2 65535 (length f.blocks) ++ (above line 3 65535 (place + 1) ++ objects_faults line f.stack)

abbrev pub function_faults : (x place : ℕ) → FunctionData → List Fault
function_faults x place f = head_faults (first_line f.blocks) place f ++ blocks_faults x (kind_of f) 0 f.blocks

abbrev pub functions_faults : (x place : ℕ) → List FunctionData → List Fault
functions_faults x place [] = []
functions_faults x place (f ∷ functions) = function_faults x place f ++ functions_faults x (place + 1) functions

abbrev pub told : Fault → SizeError
told fault = fault.error

-- what is told of a module, where there is a fault
abbrev pub size_fault : (x : ℕ) → ModuleData → Option SizeError
size_fault x m = option_map told (lowest_after None (functions_faults x 0 m.functions))
