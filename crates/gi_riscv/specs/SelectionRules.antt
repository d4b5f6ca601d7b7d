-- Selection as rules on values: for each generic operation the instructions of RISC-V that stand for it.
-- (RISC-V unprivileged ISA, "Integer Computational Instructions", "RV64I", "M": what each instruction computes.)
-- A rule of x bits is for words; one of 32 bits is for RV64, where a register of 32 bits stands for any word with these
-- low bits.
use Rattle.std.specs.Prelude.{◌==◌, if◌then◌else◌, map, ℕ, ◌+◌, ◌-◌, List, [], ◌∷◌, length, None, ℤ, pos, neg_ℤ}
use Rattle.gi_llt.specs.Bits.{unsigned}
use Rattle.gi_mir.specs.Data.{no_flags}
use Rattle.gi_mir.specs.declared.opcode.Opcode.{Opcode}
use Rattle.gi_mir.specs.declared.opcode.Opcode.TheVariants as op
use Rattle.gi_mir.specs.declared.operand.Flags.{Flags}
use Rattle.gi_mir.specs.declared.operand.Pred.{Pred}
use Rattle.gi_mir.specs.declared.operand.Pred.TheVariants.{Eq, Ne, Ugt, Uge, Ult, Ule, Sgt, Sge, Slt, Sle}
use Rattle.gi_mir.specs.declared.operand.SymbolFlag.{SymbolFlag}
use Rattle.gi_mir.specs.declared.operand.SymbolFlag.TheVariants.{Hi, Lo}
use Rattle.gi_meaning.specs.Argument.{Value, Number, Symbol, Test}
use Rattle.gi_refine.specs.Values.{Slot, At, Fixed, Operation, Fact, Defines, Rule}
use Rattle.gi_refine.specs.ValueRules.{constant, on_one, on_two}

-- ══ Forms ══

-- on the value at one place and a number that stands in the instruction
abbrev pub with_number : Opcode → (n a : ℕ) → ℤ → Operation
with_number op n a i = record { op = op; flags = no_flags; slots = At a ∷ Fixed (Number i) ∷ []; mem = None; widths = n ∷ [] }

-- the last instruction gives the result of the operation
abbrev pub selected : (inputs : List ℕ) → (facts : List Fact) → Operation → (new : List Operation) → Rule
selected inputs facts old new = record {
  inputs = inputs;
  facts = facts;
  old = old ∷ [];
  new = new;
  kept = (length inputs, length inputs + length new - 1) ∷ [];
}

-- an operation on two registers of n bits is one instruction on them
abbrev pub on_registers : Opcode → Flags → (n : ℕ) → Opcode → Rule
on_registers old flags n new = selected (n ∷ n ∷ []) [] (on_two old flags n 0 1) (on_two new no_flags n 0 1 ∷ [])

-- the second register holds a constant, for which a number stands in the instruction; and the first
abbrev pub by_number : Opcode → Flags → (n value : ℕ) → Opcode → ℤ → Rule
by_number old flags n value new i =
    selected (n ∷ n ∷ []) (Defines (constant n value) (1 ∷ []) ∷ []) (on_two old flags n 0 1) (with_number new n 0 i ∷ [])

abbrev pub by_first_number : Opcode → Flags → (n value : ℕ) → Opcode → ℤ → Rule
by_first_number old flags n value new i =
    selected (n ∷ n ∷ []) (Defines (constant n value) (0 ∷ []) ∷ []) (on_two old flags n 0 1) (with_number new n 1 i ∷ [])

-- ══ Sums ══

abbrev pub add : (x : ℕ) → Flags → Rule
add x flags = on_registers op.GenericAdd flags x op.Add

abbrev pub add_pointer : (x : ℕ) → Flags → Rule
add_pointer x flags = on_registers op.GenericPointerAdd flags x op.Add

abbrev pub subtract : (x : ℕ) → Flags → Rule
subtract x flags = on_registers op.GenericSubtract flags x op.Subtract

abbrev pub add_half : Flags → Rule
add_half flags = on_registers op.GenericAdd flags 32 op.AddWord

abbrev pub subtract_half : Flags → Rule
subtract_half flags = on_registers op.GenericSubtract flags 32 op.SubtractWord

-- with a constant that fits an immediate
abbrev pub add_number : (x : ℕ) → Flags → ℤ → Rule
add_number x flags i = by_number op.GenericAdd flags x (unsigned x i) op.AddImmediate i

abbrev pub add_first_number : (x : ℕ) → Flags → ℤ → Rule
add_first_number x flags i = by_first_number op.GenericAdd flags x (unsigned x i) op.AddImmediate i

abbrev pub add_number_to_pointer : (x : ℕ) → Flags → ℤ → Rule
add_number_to_pointer x flags i = by_number op.GenericPointerAdd flags x (unsigned x i) op.AddImmediate i

abbrev pub add_number_half : Flags → ℤ → Rule
add_number_half flags i = by_number op.GenericAdd flags 32 (unsigned 32 i) op.AddImmediateWord i

abbrev pub add_first_number_half : Flags → ℤ → Rule
add_first_number_half flags i = by_first_number op.GenericAdd flags 32 (unsigned 32 i) op.AddImmediateWord i

-- a constant whose negation fits
abbrev pub subtract_number : (x : ℕ) → Flags → ℤ → Rule
subtract_number x flags i = by_number op.GenericSubtract flags x (unsigned x (neg_ℤ i)) op.AddImmediate i

abbrev pub subtract_number_half : Flags → ℤ → Rule
subtract_number_half flags i = by_number op.GenericSubtract flags 32 (unsigned 32 (neg_ℤ i)) op.AddImmediateWord i

-- ══ Logic: bit by bit, on registers of any width ══

abbrev pub logical_and : (n : ℕ) → Flags → Rule
logical_and n flags = on_registers op.GenericAnd flags n op.And

abbrev pub logical_or : (n : ℕ) → Flags → Rule
logical_or n flags = on_registers op.GenericOr flags n op.Or

abbrev pub logical_xor : (n : ℕ) → Flags → Rule
logical_xor n flags = on_registers op.GenericXor flags n op.Xor

abbrev pub and_number : (n : ℕ) → Flags → ℤ → Rule
and_number n flags i = by_number op.GenericAnd flags n (unsigned n i) op.AndImmediate i

abbrev pub or_number : (n : ℕ) → Flags → ℤ → Rule
or_number n flags i = by_number op.GenericOr flags n (unsigned n i) op.OrImmediate i

abbrev pub xor_number : (n : ℕ) → Flags → ℤ → Rule
xor_number n flags i = by_number op.GenericXor flags n (unsigned n i) op.XorImmediate i

abbrev pub and_first_number : (n : ℕ) → Flags → ℤ → Rule
and_first_number n flags i = by_first_number op.GenericAnd flags n (unsigned n i) op.AndImmediate i

abbrev pub or_first_number : (n : ℕ) → Flags → ℤ → Rule
or_first_number n flags i = by_first_number op.GenericOr flags n (unsigned n i) op.OrImmediate i

abbrev pub xor_first_number : (n : ℕ) → Flags → ℤ → Rule
xor_first_number n flags i = by_first_number op.GenericXor flags n (unsigned n i) op.XorImmediate i

-- ══ Products ══

abbrev pub multiply : (x : ℕ) → Flags → Rule
multiply x flags = on_registers op.GenericMultiply flags x op.Multiply

abbrev pub multiply_half : Flags → Rule
multiply_half flags = on_registers op.GenericMultiply flags 32 op.MultiplyWord

abbrev pub multiply_high_unsigned : (x : ℕ) → Flags → Rule
multiply_high_unsigned x flags = on_registers op.GenericUnsignedMultiplyHigh flags x op.MultiplyHighUnsigned

abbrev pub multiply_high : (x : ℕ) → Flags → Rule
multiply_high x flags = on_registers op.GenericSignedMultiplyHigh flags x op.MultiplyHigh

-- ══ Comparisons ══

abbrev pub compare : Pred → Flags → (n : ℕ) → Operation
compare pred flags n = record { op = op.GenericCompare; flags = flags; slots = Fixed (Test pred) ∷ At 0 ∷ At 1 ∷ []; mem = None; widths = n ∷ [] }

-- on `$x0` and the value at a place
abbrev pub with_zero : Opcode → (n a : ℕ) → Operation
with_zero op n a = record { op = op; flags = no_flags; slots = Fixed (Value n 0) ∷ At a ∷ []; mem = None; widths = n ∷ [] }

abbrev pub compared : Pred → Flags → (n : ℕ) → List Operation → Rule
compared pred flags n new = selected (n ∷ n ∷ []) [] (compare pred flags n) new

-- the second register holds a constant
abbrev pub compared_with : Pred → Flags → (n value : ℕ) → List Operation → Rule
compared_with pred flags n value new = selected (n ∷ n ∷ []) (Defines (constant n value) (1 ∷ []) ∷ []) (compare pred flags n) new

-- below and above: the operands swapped
abbrev pub compare_ult : (x : ℕ) → Flags → Rule
compare_ult x flags = compared Ult flags x (on_two op.SetLessUnsigned no_flags x 0 1 ∷ [])

abbrev pub compare_ugt : (x : ℕ) → Flags → Rule
compare_ugt x flags = compared Ugt flags x (on_two op.SetLessUnsigned no_flags x 1 0 ∷ [])

abbrev pub compare_slt : (x : ℕ) → Flags → Rule
compare_slt x flags = compared Slt flags x (on_two op.SetLess no_flags x 0 1 ∷ [])

abbrev pub compare_sgt : (x : ℕ) → Flags → Rule
compare_sgt x flags = compared Sgt flags x (on_two op.SetLess no_flags x 1 0 ∷ [])

-- at least and at most: what isn't below, and what isn't above
abbrev pub compare_uge : (x : ℕ) → Flags → Rule
compare_uge x flags = compared Uge flags x (on_two op.SetLessUnsigned no_flags x 0 1 ∷ with_number op.XorImmediate x 2 (pos 1) ∷ [])

abbrev pub compare_ule : (x : ℕ) → Flags → Rule
compare_ule x flags = compared Ule flags x (on_two op.SetLessUnsigned no_flags x 1 0 ∷ with_number op.XorImmediate x 2 (pos 1) ∷ [])

abbrev pub compare_sge : (x : ℕ) → Flags → Rule
compare_sge x flags = compared Sge flags x (on_two op.SetLess no_flags x 0 1 ∷ with_number op.XorImmediate x 2 (pos 1) ∷ [])

abbrev pub compare_sle : (x : ℕ) → Flags → Rule
compare_sle x flags = compared Sle flags x (on_two op.SetLess no_flags x 1 0 ∷ with_number op.XorImmediate x 2 (pos 1) ∷ [])

-- equal: no bit differs
abbrev pub compare_eq : (x : ℕ) → Flags → Rule
compare_eq x flags = compared Eq flags x (on_two op.Xor no_flags x 0 1 ∷ with_number op.SetLessImmediateUnsigned x 2 (pos 1) ∷ [])

abbrev pub compare_ne : (x : ℕ) → Flags → Rule
compare_ne x flags = compared Ne flags x (on_two op.Xor no_flags x 0 1 ∷ with_zero op.SetLessUnsigned x 2 ∷ [])

-- with a constant
abbrev pub compare_eq_zero : (x : ℕ) → Flags → Rule
compare_eq_zero x flags = compared_with Eq flags x 0 (with_number op.SetLessImmediateUnsigned x 0 (pos 1) ∷ [])

abbrev pub compare_ne_zero : (x : ℕ) → Flags → Rule
compare_ne_zero x flags = compared_with Ne flags x 0 (with_zero op.SetLessUnsigned x 0 ∷ [])

abbrev pub compare_ult_number : (x : ℕ) → Flags → ℤ → Rule
compare_ult_number x flags i = compared_with Ult flags x (unsigned x i) (with_number op.SetLessImmediateUnsigned x 0 i ∷ [])

abbrev pub compare_slt_number : (x : ℕ) → Flags → ℤ → Rule
compare_slt_number x flags i = compared_with Slt flags x (unsigned x i) (with_number op.SetLessImmediate x 0 i ∷ [])

-- ══ Shifts, by a register and by a constant that is below the width ══

abbrev pub shift_left : (x : ℕ) → Flags → Rule
shift_left x flags = on_registers op.GenericShiftLeft flags x op.ShiftLeftLogical

abbrev pub shift_right : (x : ℕ) → Flags → Rule
shift_right x flags = on_registers op.GenericLogicalShiftRight flags x op.ShiftRightLogical

abbrev pub shift_right_signed : (x : ℕ) → Flags → Rule
shift_right_signed x flags = on_registers op.GenericArithmeticShiftRight flags x op.ShiftRightArithmetic

abbrev pub shift_left_half : Flags → Rule
shift_left_half flags = on_registers op.GenericShiftLeft flags 32 op.ShiftLeftLogicalWord

abbrev pub shift_right_half : Flags → Rule
shift_right_half flags = on_registers op.GenericLogicalShiftRight flags 32 op.ShiftRightLogicalWord

abbrev pub shift_right_signed_half : Flags → Rule
shift_right_signed_half flags = on_registers op.GenericArithmeticShiftRight flags 32 op.ShiftRightArithmeticWord

abbrev pub shift_left_by : (x : ℕ) → Flags → (k : ℕ) → Rule
shift_left_by x flags k = by_number op.GenericShiftLeft flags x k op.ShiftLeftLogicalImmediate (pos k)

abbrev pub shift_right_by : (x : ℕ) → Flags → (k : ℕ) → Rule
shift_right_by x flags k = by_number op.GenericLogicalShiftRight flags x k op.ShiftRightLogicalImmediate (pos k)

abbrev pub shift_right_signed_by : (x : ℕ) → Flags → (k : ℕ) → Rule
shift_right_signed_by x flags k = by_number op.GenericArithmeticShiftRight flags x k op.ShiftRightArithmeticImmediate (pos k)

abbrev pub shift_left_half_by : Flags → (k : ℕ) → Rule
shift_left_half_by flags k = by_number op.GenericShiftLeft flags 32 k op.ShiftLeftLogicalImmediateWord (pos k)

abbrev pub shift_right_half_by : Flags → (k : ℕ) → Rule
shift_right_half_by flags k = by_number op.GenericLogicalShiftRight flags 32 k op.ShiftRightLogicalImmediateWord (pos k)

abbrev pub shift_right_signed_half_by : Flags → (k : ℕ) → Rule
shift_right_signed_half_by flags k = by_number op.GenericArithmeticShiftRight flags 32 k op.ShiftRightArithmeticImmediateWord (pos k)

-- ══ Casts ══

-- an operation on the value at the first place
abbrev pub cast : Opcode → Flags → (n : ℕ) → Operation
cast op flags n = record { op = op; flags = flags; slots = At 0 ∷ []; mem = None; widths = n ∷ [] }

-- zeros above: shifted to the left and back
abbrev pub zero_extend : Flags → Rule
zero_extend flags =
    selected (32 ∷ []) [] (cast op.GenericZeroExtend flags 64) (with_number op.ShiftLeftLogicalImmediate 64 0 (pos 32) ∷ with_number op.ShiftRightLogicalImmediate 64 1 (pos 32) ∷ [])

-- signs above: the sum of the low half with zero, which is sign-extended
abbrev pub sign_extend : Flags → Rule
sign_extend flags = selected (32 ∷ []) [] (cast op.GenericSignExtend flags 64) (with_number op.AddImmediateWord 64 0 (pos 0) ∷ [])

abbrev pub sign_extend_in_register : Flags → Rule
sign_extend_in_register flags =
    selected (64 ∷ []) []
    (record { op = op.GenericSignExtendInRegister; flags = flags; slots = At 0 ∷ Fixed (Number (pos 32)) ∷ []; mem = None; widths = 64 ∷ [] })
    (with_number op.AddImmediateWord 64 0 (pos 0) ∷ [])

-- a copy, which cuts what is wider and leaves the bits above free where it is narrower
abbrev pub by_copy : Opcode → Flags → (m n : ℕ) → Rule
by_copy old flags m n = selected (m ∷ []) [] (cast old flags n) (on_one op.Copy n 0 ∷ [])

abbrev pub truncate : Flags → (m n : ℕ) → Rule
truncate flags m n = by_copy op.GenericTruncate flags m n

abbrev pub any_extend : Flags → (m n : ℕ) → Rule
any_extend flags m n = by_copy op.GenericAnyExtend flags m n

abbrev pub pointer_to_integer : Flags → (m n : ℕ) → Rule
pointer_to_integer flags m n = by_copy op.GenericPointerToInteger flags m n

abbrev pub integer_to_pointer : Flags → (m n : ℕ) → Rule
integer_to_pointer flags m n = by_copy op.GenericIntegerToPointer flags m n

abbrev pub freeze : Flags → (n : ℕ) → Rule
freeze flags n = by_copy op.GenericFreeze flags n n

-- ══ A value that is free, and the address of a stack object ══

abbrev pub no_operands : Opcode → Flags → (n : ℕ) → Operation
no_operands op flags n = record { op = op; flags = flags; slots = []; mem = None; widths = n ∷ [] }

abbrev pub leave_free : (n : ℕ) → Flags → Rule
leave_free n flags = selected [] [] (no_operands op.GenericImplicitDef flags n) (no_operands op.ImplicitDef no_flags n ∷ [])

-- an address that the world gives, and zero
abbrev pub address_and_zero : (x address : ℕ) → Operation
address_and_zero x address = record {
  op = op.AddImmediate;
  flags = no_flags;
  slots = Fixed (Value x address) ∷ Fixed (Number (pos 0)) ∷ [];
  mem = None;
  widths = x ∷ [];
}

abbrev pub stack_address : (x : ℕ) → Flags → (address : ℕ) → Rule
stack_address x flags address =
    selected [] []
    (record { op = op.GenericFrameIndex; flags = flags; slots = Fixed (Value x address) ∷ []; mem = None; widths = x ∷ [] })
    (address_and_zero x address ∷ [])

-- ══ Quotients and remainders: the generic ones are undefined where the instruction's result is another ══

abbrev pub divide_unsigned : (x : ℕ) → Flags → Rule
divide_unsigned x flags = on_registers op.GenericUnsignedDivide flags x op.DivideUnsigned

abbrev pub divide : (x : ℕ) → Flags → Rule
divide x flags = on_registers op.GenericSignedDivide flags x op.Divide

abbrev pub remainder_unsigned : (x : ℕ) → Flags → Rule
remainder_unsigned x flags = on_registers op.GenericUnsignedRemainder flags x op.RemainderUnsigned

abbrev pub remainder : (x : ℕ) → Flags → Rule
remainder x flags = on_registers op.GenericSignedRemainder flags x op.Remainder

abbrev pub divide_unsigned_half : Flags → Rule
divide_unsigned_half flags = on_registers op.GenericUnsignedDivide flags 32 op.DivideUnsignedWord

abbrev pub divide_half : Flags → Rule
divide_half flags = on_registers op.GenericSignedDivide flags 32 op.DivideWord

abbrev pub remainder_unsigned_half : Flags → Rule
remainder_unsigned_half flags = on_registers op.GenericUnsignedRemainder flags 32 op.RemainderUnsignedWord

abbrev pub remainder_half : Flags → Rule
remainder_half flags = on_registers op.GenericSignedRemainder flags 32 op.RemainderWord

-- ══ A choice between two values: what differs, where the condition isn't zero ══

abbrev pub choose : (x n : ℕ) → Flags → Rule
choose x n flags =
    selected (x ∷ n ∷ n ∷ []) []
    (record { op = op.GenericSelect; flags = flags; slots = At 0 ∷ At 1 ∷ At 2 ∷ []; mem = None; widths = n ∷ [] })
    (with_zero op.SetLessUnsigned x 0 ∷ with_zero op.Subtract x 3
    ∷ on_two op.Xor no_flags n 1 2 ∷ on_two op.And no_flags n 5 4 ∷ on_two op.Xor no_flags n 2 6 ∷ [])

-- ══ The address of a global: its upper part, and the rest added ══

abbrev pub global_address : (x : ℕ) → Flags → SymbolFlag → (name : List ℕ) → (address : ℕ) → Rule
global_address x flags flag name address =
    selected [] []
    (record { op = op.GenericGlobalValue; flags = flags; slots = Fixed (Symbol flag name address) ∷ []; mem = None; widths = x ∷ [] })
    (record { op = op.LoadUpperImmediate; flags = no_flags; slots = Fixed (Symbol Hi name address) ∷ []; mem = None; widths = x ∷ [] }
    ∷ record { op = op.AddImmediate; flags = no_flags; slots = At 0 ∷ Fixed (Symbol Lo name address) ∷ []; mem = None; widths = x ∷ [] } ∷ [])

-- ══ `$x0` for a register that holds zero ══

abbrev pub zero_slot : (x place : ℕ) → Slot → Slot
zero_slot x place (At p) = if p == place then Fixed (Value x 0) else At p
zero_slot x place (Fixed argument) = Fixed argument

-- an instruction takes `$x0` where it took the place of a zero
abbrev pub use_zero : (x n : ℕ) → (inputs : List ℕ) → (place : ℕ) → Opcode → List Slot → (m : ℕ) → Rule
use_zero x n inputs place op slots m = record {
  inputs = inputs;
  facts = Defines (constant n 0) (place ∷ []) ∷ [];
  old = record { op = op; flags = no_flags; slots = slots; mem = None; widths = m ∷ [] } ∷ [];
  new = record { op = op; flags = no_flags; slots = map (zero_slot x place) slots; mem = None; widths = m ∷ [] } ∷ [];
  kept = (length inputs, length inputs) ∷ [];
}
