-- What passes the limits of what is handled: of each line, in the order of the text, a type that is too wide, and then a
-- number that is too great.
use Rattle.std.specs.Prelude.{ℕ, suc, ◌*◌, Bool, true, false, List, [], ◌∷◌, Option, Some, None, ◌==◌, nat_le, if◌then◌else◌, slice_index_or}
use Rattle.gi_llt.specs.declared.Arg.{Arg}
use Rattle.gi_text.specs.declared.token.SizeError.{SizeError}
use Rattle.gi_text.specs.declared.token.SizeError.TheVariants.{Width, Limit}
use Rattle.gi_mir.specs.declared.opcode.Opcode.TheVariants.{GenericTruncate, GenericZeroExtend, GenericSignExtend, GenericPointerToInteger, GenericIntegerToPointer}
use Rattle.gi_ir.specs.declared.instr.IrOp.{IrOp}
use Rattle.gi_ir.specs.declared.instr.IrOp.TheVariants.{Generic, Alloca}
use Rattle.gi_ir.specs.declared.sizes.Look.{Look}
use Rattle.gi_ir.specs.declared.sizes.Look.TheVariants.{Bits, Bytes}
use Rattle.gi_ir.specs.declared.types.Layout.{Layout}
use Rattle.gi_ir.specs.declared.value.IrOperand.{IrOperand}
use Rattle.gi_ir.specs.declared.value.IrValue.{IrValue}
use Rattle.gi_ir.specs.declared.value.IrValue.TheVariants.{Address}
use Rattle.gi_ir.specs.Data.{IrInstrData, IrFunctionData, IrModuleData}

-- the bytes of a type, the alignment of an access or a stack object, and the functions of a module
abbrev pub greatest_size : ℕ
greatest_size = 1048576

abbrev pub greatest_alignment : ℕ
greatest_alignment = 4096

abbrev pub most_functions : ℕ
most_functions = 65535

-- of two faults the first, if it is there
abbrev pub first_of : Option SizeError → Option SizeError → Option SizeError
first_of (Some fault) later = Some fault
first_of None later = later

-- the first fault of what stands in a list
abbrev pub first_among : {X : Type 0} → (X → Option SizeError) → List X → Option SizeError
first_among fault [] = None
first_among fault (x ∷ xs) = first_of (fault x) (first_among fault xs)

-- ══ Types ══

abbrev pub no_layout : Layout
no_layout = record { size = 0; align = 1; widest = 0 }

-- the layout of the type at a place, for a width of registers
abbrev pub layout_at : (xlen : ℕ) → List (List Layout) → (place : ℕ) → Layout
layout_at xlen layouts place = slice_index_or (slice_index_or layouts place []) (if xlen == 32 then 0 else 1) no_layout

-- so many bits at a line are too many where they are more than two registers hold
abbrev pub wide : (xlen line bits : ℕ) → Option SizeError
wide xlen line bits = if nat_le bits (2 * xlen) then None else Some (Width line bits)

abbrev pub wide_type : (xlen : ℕ) → List (List Layout) → (line place : ℕ) → Option SizeError
wide_type xlen layouts line place = wide xlen line (layout_at xlen layouts place).widest

abbrev pub large_type : (xlen : ℕ) → List (List Layout) → (line place : ℕ) → Option SizeError
large_type xlen layouts line place = if nat_le (layout_at xlen layouts place).size greatest_size then None else Some (Limit line greatest_size)

-- what is looked at
abbrev pub fault_of_type : Look → (xlen : ℕ) → List (List Layout) → (line place : ℕ) → Option SizeError
fault_of_type Bits xlen layouts line place = wide_type xlen layouts line place
fault_of_type Bytes xlen layouts line place = large_type xlen layouts line place

-- ══ Operands ══

-- a test of the types that an operand names: its own, and behind it that of a constant getelementptr
abbrev pub in_value : (ℕ → Option SizeError) → IrValue → Option SizeError
in_value fault (Address global place indices) = fault place
in_value fault value = None

abbrev pub in_operand : (ℕ → Option SizeError) → IrOperand → Option SizeError
in_operand fault operand = first_of (fault operand.ty) (in_value fault operand.value)

-- ══ Instructions ══

-- a cast names its result's type behind its operand, and the others before
abbrev pub is_cast : IrOp → Bool
is_cast (Generic GenericTruncate) = true
is_cast (Generic GenericZeroExtend) = true
is_cast (Generic GenericSignExtend) = true
is_cast (Generic GenericPointerToInteger) = true
is_cast (Generic GenericIntegerToPointer) = true
is_cast op = false

abbrev pub in_types : (ℕ → Option SizeError) → IrInstrData → Option SizeError
in_types fault instr =
    if is_cast instr.op then first_of (first_among (in_operand fault) instr.operands) (fault instr.ty)
    else first_of (fault instr.ty) (first_among (in_operand fault) instr.operands)

abbrev pub over_aligned : (line : ℕ) → Option ℕ → Option SizeError
over_aligned line None = None
over_aligned line (Some align) = if nat_le align greatest_alignment then None else Some (Limit line greatest_alignment)

abbrev pub is_alloca : IrOp → Bool
is_alloca Alloca = true
is_alloca op = false

-- of an alloca the size is looked at before the alignment, of the others behind it
abbrev pub in_numbers : (xlen : ℕ) → List (List Layout) → IrInstrData → Option SizeError
in_numbers xlen layouts instr =
    if is_alloca instr.op then first_of (in_types (fault_of_type Bytes xlen layouts instr.line) instr) (over_aligned instr.line instr.align)
    else first_of (over_aligned instr.line instr.align) (in_types (fault_of_type Bytes xlen layouts instr.line) instr)

abbrev pub in_instr : (xlen : ℕ) → List (List Layout) → IrInstrData → Option SizeError
in_instr xlen layouts instr = first_of (in_types (fault_of_type Bits xlen layouts instr.line) instr) (in_numbers xlen layouts instr)

-- ══ Functions ══

abbrev pub in_argument : (xlen line : ℕ) → Arg → Option SizeError
in_argument xlen line arg = if arg.pointer then None else wide xlen line arg.bits

-- the function of this number, from 0, is one too many
abbrev pub in_count : (line number : ℕ) → Option SizeError
in_count line number = if nat_le most_functions number then Some (Limit line most_functions) else None

abbrev pub in_signature : (xlen : ℕ) → List (List Layout) → (number : ℕ) → IrFunctionData → Option SizeError
in_signature xlen layouts number f =
    first_of (first_of (wide_type xlen layouts f.line f.result) (first_among (in_argument xlen f.line) f.args))
    (first_of (in_count f.line number) (large_type xlen layouts f.line f.result))

abbrev pub in_block : (xlen : ℕ) → List (List Layout) → List IrInstrData → Option SizeError
in_block xlen layouts block = first_among (in_instr xlen layouts) block

abbrev pub in_function : (xlen : ℕ) → List (List Layout) → (number : ℕ) → IrFunctionData → Option SizeError
in_function xlen layouts number f = first_of (in_signature xlen layouts number f) (first_among (in_block xlen layouts) f.blocks)

abbrev pub in_functions : (xlen : ℕ) → List (List Layout) → (number : ℕ) → List IrFunctionData → Option SizeError
in_functions xlen layouts number [] = None
in_functions xlen layouts number (f ∷ fs) = first_of (in_function xlen layouts number f) (in_functions xlen layouts (suc number) fs)

-- the first fault of a module
abbrev pub ir_size_fault : (xlen : ℕ) → IrModuleData → Option SizeError
ir_size_fault xlen m = in_functions xlen m.layouts 0 m.functions
