-- The table of opcodes: of each its word, the rows that its operands may have, its memory operand, what it does
-- to the course of its block, the stages that it stands in and the types of its registers. All that is asked of an
-- opcode is read from this table.
use Rattle.std.specs.Prelude.{ℕ, Bool, true, false, List, [], ◌∷◌, Option, bytes_eq, codes, find, nat_eq}
use Rattle.std.specs.List.{starts_with}
use Rattle.gi_mir.specs.declared.opcode.Opcode.{Opcode}
use Rattle.gi_mir.specs.declared.opcode.Opcode.TheVariants.{Copy, Phi, ImplicitDef, PseudoCall, PseudoReturn, AdjustCallStackDown, AdjustCallStackUp, GenericImplicitDef, GenericConstant, GenericFreeze, GenericFrameIndex, GenericGlobalValue, GenericPointerAdd, GenericPointerToInteger, GenericIntegerToPointer, GenericTruncate, GenericAnyExtend, GenericZeroExtend, GenericSignExtend, GenericSignExtendInRegister, GenericMergeValues, GenericUnmergeValues, GenericAdd, GenericSubtract, GenericMultiply, GenericAnd, GenericOr, GenericXor, GenericUnsignedDivide, GenericSignedDivide, GenericUnsignedRemainder, GenericSignedRemainder, GenericShiftLeft, GenericLogicalShiftRight, GenericArithmeticShiftRight, GenericUnsignedAddOverflow, GenericUnsignedSubtractOverflow, GenericUnsignedAddCarry, GenericUnsignedSubtractBorrow, GenericUnsignedMultiplyHigh, GenericSignedMultiplyHigh, GenericCompare, GenericSelect, GenericSignedMinimum, GenericSignedMaximum, GenericUnsignedMinimum, GenericUnsignedMaximum, GenericAbsolute, GenericCountLeadingZeros, GenericCountTrailingZeros, GenericPopulationCount, GenericCountLeadingZerosNotOfZero, GenericCountTrailingZerosNotOfZero, GenericByteSwap, GenericFunnelShiftLeft, GenericFunnelShiftRight, GenericRotateLeft, GenericRotateRight, GenericLoad, GenericZeroExtendLoad, GenericSignExtendLoad, GenericStore, GenericPhi, GenericBranch, GenericBranchConditional, Add, Subtract, And, Or, Xor, SetLess, SetLessUnsigned, ShiftLeftLogical, ShiftRightLogical, ShiftRightArithmetic, Multiply, MultiplyHigh, MultiplyHighUnsigned, Divide, DivideUnsigned, Remainder, RemainderUnsigned, AddImmediate, SetLessImmediate, SetLessImmediateUnsigned, AndImmediate, OrImmediate, XorImmediate, ShiftLeftLogicalImmediate, ShiftRightLogicalImmediate, ShiftRightArithmeticImmediate, LoadUpperImmediate, AddWord, SubtractWord, MultiplyWord, ShiftLeftLogicalWord, ShiftRightLogicalWord, ShiftRightArithmeticWord, DivideWord, DivideUnsignedWord, RemainderWord, RemainderUnsignedWord, AddImmediateWord, ShiftLeftLogicalImmediateWord, ShiftRightLogicalImmediateWord, ShiftRightArithmeticImmediateWord, LoadByte, LoadHalf, LoadWord, LoadByteUnsigned, LoadHalfUnsigned, LoadWordUnsigned, LoadDouble, StoreByte, StoreHalf, StoreWord, StoreDouble, BranchEqual, BranchNotEqual, BranchLess, BranchGreaterEqual, BranchLessUnsigned, BranchGreaterEqualUnsigned, PseudoBranch}
use Rattle.gi_mir.specs.declared.row.Form.{Form}
use Rattle.gi_mir.specs.declared.row.Form.TheVariants as form
use Rattle.gi_mir.specs.declared.row.Access.{Access}
use Rattle.gi_mir.specs.declared.entry.InMemory.{InMemory}
use Rattle.gi_mir.specs.declared.entry.InMemory.TheVariants as memory
use Rattle.gi_mir.specs.declared.entry.Role.{Role}
use Rattle.gi_mir.specs.declared.entry.Role.TheVariants as role
use Rattle.gi_mir.specs.declared.entry.Standing.{Standing}
use Rattle.gi_mir.specs.declared.typing.Class.TheVariants as class
use Rattle.gi_mir.specs.declared.entry.RoutineCall.{RoutineCall}
use Rattle.gi_mir.specs.declared.entry.RoutineCall.TheVariants as routine_call
use Rattle.gi_mir.specs.Entries.{EntryData, Room, generic, shared, selected, machine, loading, storing, acting, wide, commutative, calling}
use Rattle.gi_mir.specs.Entries as room
use Rattle.gi_mir.specs.Typings.{TypingData, no_types, no_sources, one_alike, two_alike, three_alike, one_pointer, from_pointer, to_pointer, truncation, extension, pointer_sum, comparison, selection, carry_out, carry_through, merge, unmerge, joining, store, one_condition}

-- ══ Rows ══

-- `%d:A = G_IMPLICIT_DEF`
abbrev pub defined_rows : List (List Form)
defined_rows = (form.Def ∷ []) ∷ []

-- `%d:A = G_PHI %a(A), %bb.N, ..`
abbrev pub phi_rows : List (List Form)
phi_rows = (form.Def ∷ form.Entry ∷ []) ∷ []

-- `PseudoCALL target-flags(riscv-call) @g, csr_ilp32_lp64, implicit-def $x1, ..`
abbrev pub call_rows : List (List Form)
call_rows = (form.Callee ∷ form.SavedMask ∷ form.ImplicitDef ∷ form.Implicits ∷ []) ∷ []

-- `PseudoRET implicit $x10, ..`
abbrev pub returned_rows : List (List Form)
returned_rows = (form.ImplicitUses ∷ []) ∷ []

-- `ADJCALLSTACKDOWN 0, 0, implicit-def $x2, implicit $x2`
abbrev pub adjusted_rows : List (List Form)
adjusted_rows = (form.Int ∷ form.Int ∷ form.ImplicitDef ∷ form.ImplicitUse ∷ []) ∷ []

-- `%d:A = G_CONSTANT iN V`
abbrev pub constant_rows : List (List Form)
constant_rows = (form.Def ∷ form.Constant ∷ []) ∷ []

-- `%d:A = G_FREEZE %s`
abbrev pub unary_rows : List (List Form)
unary_rows = (form.Def ∷ form.Use ∷ []) ∷ []

-- `%d:p0 = G_FRAME_INDEX %stack.N`
abbrev pub frame_index_rows : List (List Form)
frame_index_rows = (form.Def ∷ form.Frame ∷ []) ∷ []

-- `%d:p0 = G_GLOBAL_VALUE @g`
abbrev pub global_value_rows : List (List Form)
global_value_rows = (form.Def ∷ form.Global ∷ []) ∷ []

-- `%d:A = G_SHL %a, %n(A)`
abbrev pub shift_rows : List (List Form)
shift_rows = (form.Def ∷ form.Use ∷ form.TypedUse ∷ []) ∷ []

-- `%d:A = G_TRUNC %s(B)`
abbrev pub unary_typed_rows : List (List Form)
unary_typed_rows = (form.Def ∷ form.TypedUse ∷ []) ∷ []

-- `%d:A = G_SEXT_INREG %s, K`
abbrev pub in_register_rows : List (List Form)
in_register_rows = (form.Def ∷ form.Use ∷ form.Int ∷ []) ∷ []

-- `%d:A = G_MERGE_VALUES %a(B), %b(B), ..`
abbrev pub merge_rows : List (List Form)
merge_rows = (form.Def ∷ form.Parts ∷ []) ∷ []

-- `%d:B, %e:B, .. = G_UNMERGE_VALUES %s(A)`
abbrev pub unmerge_rows : List (List Form)
unmerge_rows = (form.Results ∷ form.TypedUse ∷ []) ∷ []

-- `%d:A = G_ADD %a, %b`
abbrev pub binary_rows : List (List Form)
binary_rows = (form.Def ∷ form.Use ∷ form.Use ∷ []) ∷ []

-- `%d:A, %e:s1 = G_UADDO %a, %b`
abbrev pub overflow_rows : List (List Form)
overflow_rows = (form.Def ∷ form.Def ∷ form.Use ∷ form.Use ∷ []) ∷ []

-- `%d:A, %e:s1 = G_UADDE %a, %b, %c`
abbrev pub carry_rows : List (List Form)
carry_rows = (form.Def ∷ form.Def ∷ form.Use ∷ form.Use ∷ form.Use ∷ []) ∷ []

-- `%d:A = G_ICMP intpred(P), %a(B), %b`
abbrev pub compare_rows : List (List Form)
compare_rows = (form.Def ∷ form.Predicate ∷ form.TypedUse ∷ form.Use ∷ []) ∷ []

-- `%d:A = G_SELECT %c(B), %a, %b`
abbrev pub select_rows : List (List Form)
select_rows = (form.Def ∷ form.TypedUse ∷ form.Use ∷ form.Use ∷ []) ∷ []

-- `%d:A = G_FSHL %a, %b, %n(A)`
abbrev pub funnel_rows : List (List Form)
funnel_rows = (form.Def ∷ form.Use ∷ form.Use ∷ form.TypedUse ∷ []) ∷ []

-- `G_STORE %v(A), %p(p0)`
abbrev pub store_rows : List (List Form)
store_rows = (form.TypedUse ∷ form.TypedUse ∷ []) ∷ []

-- `G_BR %bb.N`
abbrev pub branch_rows : List (List Form)
branch_rows = (form.Block ∷ []) ∷ []

-- `G_BRCOND %c(B), %bb.N`
abbrev pub branch_conditional_rows : List (List Form)
branch_conditional_rows = (form.TypedUse ∷ form.Block ∷ []) ∷ []

-- `%d = ADD a, b`
abbrev pub registers_rows : List (List Form)
registers_rows = (form.Def ∷ form.Source ∷ form.Source ∷ []) ∷ []

-- `%d = ADDI a, i`
abbrev pub add_immediate_rows : List (List Form)
add_immediate_rows = (form.Def ∷ form.Address ∷ form.Low ∷ []) ∷ []

-- `%d = SLTI a, i`
abbrev pub immediate_rows : List (List Form)
immediate_rows = (form.Def ∷ form.Source ∷ form.Int ∷ []) ∷ []

-- `%d = LUI i`
abbrev pub upper_rows : List (List Form)
upper_rows = (form.Def ∷ form.High ∷ []) ∷ []

-- `%d = LB a, i`
abbrev pub machine_load_rows : List (List Form)
machine_load_rows = (form.Def ∷ form.Address ∷ form.Int ∷ []) ∷ []

-- `SB v, a, i`
abbrev pub machine_store_rows : List (List Form)
machine_store_rows = (form.Source ∷ form.Address ∷ form.Int ∷ []) ∷ []

-- `BEQ a, b, %bb.N`
abbrev pub machine_branch_rows : List (List Form)
machine_branch_rows = (form.Source ∷ form.Source ∷ form.Block ∷ []) ∷ []

-- `%d:A = COPY %s(A)`, `%d:A = COPY $xN` and `$xN = COPY %s(A)`
abbrev pub copy_rows : List (List Form)
copy_rows =
    (form.Def ∷ form.TypedUse ∷ [])
    ∷ (form.Def ∷ form.Physical ∷ [])
    ∷ (form.PhysicalDef ∷ form.TypedUse ∷ [])
    ∷ []

-- ══ The table ══

abbrev pub entry_of : Opcode → EntryData
-- in every stage, and two of them after selection
entry_of Copy = shared (codes "COPY") copy_rows (one_alike class.Any)
entry_of Phi = acting role.Phi (selected (codes "PHI") phi_rows joining room.Unsaid)
entry_of ImplicitDef = selected (codes "IMPLICIT_DEF") defined_rows (no_sources class.Any) room.Always
entry_of PseudoCall = acting role.Call (shared (codes "PseudoCALL") call_rows no_types)
entry_of PseudoReturn = acting role.Return (shared (codes "PseudoRET") returned_rows no_types)
entry_of AdjustCallStackDown = shared (codes "ADJCALLSTACKDOWN") adjusted_rows no_types
entry_of AdjustCallStackUp = shared (codes "ADJCALLSTACKUP") adjusted_rows no_types
-- generic: constants, addresses and casts
entry_of GenericImplicitDef = generic (codes "G_IMPLICIT_DEF") defined_rows (no_sources class.Any) room.Always
entry_of GenericConstant = generic (codes "G_CONSTANT") constant_rows (no_sources class.Any) room.Unsaid
entry_of GenericFreeze = generic (codes "G_FREEZE") unary_rows (one_alike class.Any) room.NoneWider
entry_of GenericFrameIndex = generic (codes "G_FRAME_INDEX") frame_index_rows one_pointer room.NoneWider
entry_of GenericGlobalValue = generic (codes "G_GLOBAL_VALUE") global_value_rows one_pointer room.Unsaid
entry_of GenericPointerAdd = generic (codes "G_PTR_ADD") shift_rows pointer_sum room.Always
entry_of GenericPointerToInteger = generic (codes "G_PTRTOINT") unary_typed_rows (from_pointer class.Scalar) room.Always
entry_of GenericIntegerToPointer = generic (codes "G_INTTOPTR") unary_typed_rows (to_pointer class.Scalar) room.Always
entry_of GenericTruncate = generic (codes "G_TRUNC") unary_typed_rows truncation room.Always
entry_of GenericAnyExtend = generic (codes "G_ANYEXT") unary_typed_rows extension room.Always
entry_of GenericZeroExtend = generic (codes "G_ZEXT") unary_typed_rows extension room.NoneWider
entry_of GenericSignExtend = generic (codes "G_SEXT") unary_typed_rows extension room.Always
entry_of GenericSignExtendInRegister = generic (codes "G_SEXT_INREG") in_register_rows (one_alike class.Scalar) room.Always
entry_of GenericMergeValues = generic (codes "G_MERGE_VALUES") merge_rows merge room.AllTogether
entry_of GenericUnmergeValues = generic (codes "G_UNMERGE_VALUES") unmerge_rows unmerge room.Always
-- generic: arithmetic, logic and shifts
entry_of GenericAdd = commutative (generic (codes "G_ADD") binary_rows (two_alike class.Scalar) room.Always)
entry_of GenericSubtract = generic (codes "G_SUB") binary_rows (two_alike class.Scalar) room.Always
entry_of GenericMultiply = commutative (calling routine_call.WhereWider (generic (codes "G_MUL") binary_rows (two_alike class.Scalar) room.Always))
entry_of GenericAnd = commutative (generic (codes "G_AND") binary_rows (two_alike class.Scalar) room.NoneWider)
entry_of GenericOr = commutative (generic (codes "G_OR") binary_rows (two_alike class.Scalar) room.NoneWider)
entry_of GenericXor = commutative (generic (codes "G_XOR") binary_rows (two_alike class.Scalar) room.NoneWider)
entry_of GenericUnsignedDivide = calling routine_call.Always (generic (codes "G_UDIV") binary_rows (two_alike class.Scalar) room.NoneWider)
entry_of GenericSignedDivide = calling routine_call.Always (generic (codes "G_SDIV") binary_rows (two_alike class.Scalar) room.Always)
entry_of GenericUnsignedRemainder = calling routine_call.Always (generic (codes "G_UREM") binary_rows (two_alike class.Scalar) room.NoneWider)
entry_of GenericSignedRemainder = calling routine_call.Always (generic (codes "G_SREM") binary_rows (two_alike class.Scalar) room.Always)
entry_of GenericShiftLeft = generic (codes "G_SHL") shift_rows (two_alike class.Scalar) room.Always
entry_of GenericLogicalShiftRight = generic (codes "G_LSHR") shift_rows (two_alike class.Scalar) room.NoneWider
entry_of GenericArithmeticShiftRight = generic (codes "G_ASHR") shift_rows (two_alike class.Scalar) room.Always
entry_of GenericUnsignedAddOverflow = generic (codes "G_UADDO") overflow_rows carry_out room.OneBit
entry_of GenericUnsignedSubtractOverflow = generic (codes "G_USUBO") overflow_rows carry_out room.OneBit
entry_of GenericUnsignedAddCarry = generic (codes "G_UADDE") carry_rows carry_through room.OneBit
entry_of GenericUnsignedSubtractBorrow = generic (codes "G_USUBE") carry_rows carry_through room.OneBit
entry_of GenericUnsignedMultiplyHigh = generic (codes "G_UMULH") binary_rows (two_alike class.Register) room.Always
entry_of GenericSignedMultiplyHigh = generic (codes "G_SMULH") binary_rows (two_alike class.Register) room.Always
entry_of GenericCompare = generic (codes "G_ICMP") compare_rows comparison room.OneBit
entry_of GenericSelect = generic (codes "G_SELECT") select_rows selection room.NoneWiderThanCondition
entry_of GenericSignedMinimum = generic (codes "G_SMIN") binary_rows (two_alike class.Scalar) room.NoneWider
entry_of GenericSignedMaximum = generic (codes "G_SMAX") binary_rows (two_alike class.Scalar) room.NoneWider
entry_of GenericUnsignedMinimum = generic (codes "G_UMIN") binary_rows (two_alike class.Scalar) room.NoneWider
entry_of GenericUnsignedMaximum = generic (codes "G_UMAX") binary_rows (two_alike class.Scalar) room.NoneWider
entry_of GenericAbsolute = generic (codes "G_ABS") unary_rows (one_alike class.Scalar) room.Always
entry_of GenericCountLeadingZeros = generic (codes "G_CTLZ") unary_typed_rows (one_alike class.Scalar) room.NoneWider
entry_of GenericCountTrailingZeros = generic (codes "G_CTTZ") unary_typed_rows (one_alike class.Scalar) room.NoneWider
entry_of GenericPopulationCount = generic (codes "G_CTPOP") unary_typed_rows (one_alike class.Scalar) room.NoneWider
entry_of GenericCountLeadingZerosNotOfZero = generic (codes "G_CTLZ_ZERO_UNDEF") unary_typed_rows (one_alike class.Scalar) room.NoneWider
entry_of GenericCountTrailingZerosNotOfZero = generic (codes "G_CTTZ_ZERO_UNDEF") unary_typed_rows (one_alike class.Scalar) room.NoneWider
entry_of GenericByteSwap = generic (codes "G_BSWAP") unary_rows (one_alike class.Swappable) room.NoneWider
entry_of GenericFunnelShiftLeft = generic (codes "G_FSHL") funnel_rows (three_alike class.Rotatable) room.Always
entry_of GenericFunnelShiftRight = generic (codes "G_FSHR") funnel_rows (three_alike class.Rotatable) room.Always
entry_of GenericRotateLeft = generic (codes "G_ROTL") shift_rows (two_alike class.Rotatable) room.Always
entry_of GenericRotateRight = generic (codes "G_ROTR") shift_rows (two_alike class.Rotatable) room.Always
-- generic: memory, phis and branches
entry_of GenericLoad = loading memory.Value (generic (codes "G_LOAD") unary_typed_rows (from_pointer class.Any) room.Unsaid)
entry_of GenericZeroExtendLoad = loading memory.Extended (generic (codes "G_ZEXTLOAD") unary_typed_rows (from_pointer class.Scalar) room.Unsaid)
entry_of GenericSignExtendLoad = loading memory.Extended (generic (codes "G_SEXTLOAD") unary_typed_rows (from_pointer class.Scalar) room.Unsaid)
entry_of GenericStore = storing memory.Value (generic (codes "G_STORE") store_rows store room.Unsaid)
entry_of GenericPhi = acting role.Phi (generic (codes "G_PHI") phi_rows joining room.Unsaid)
entry_of GenericBranch = acting role.Jump (generic (codes "G_BR") branch_rows no_types room.Unsaid)
entry_of GenericBranchConditional = acting role.Branch (generic (codes "G_BRCOND") branch_conditional_rows one_condition room.Unsaid)
-- target: two registers
entry_of Add = machine (codes "ADD") registers_rows
entry_of Subtract = machine (codes "SUB") registers_rows
entry_of And = machine (codes "AND") registers_rows
entry_of Or = machine (codes "OR") registers_rows
entry_of Xor = machine (codes "XOR") registers_rows
entry_of SetLess = machine (codes "SLT") registers_rows
entry_of SetLessUnsigned = machine (codes "SLTU") registers_rows
entry_of ShiftLeftLogical = machine (codes "SLL") registers_rows
entry_of ShiftRightLogical = machine (codes "SRL") registers_rows
entry_of ShiftRightArithmetic = machine (codes "SRA") registers_rows
entry_of Multiply = machine (codes "MUL") registers_rows
entry_of MultiplyHigh = machine (codes "MULH") registers_rows
entry_of MultiplyHighUnsigned = machine (codes "MULHU") registers_rows
entry_of Divide = machine (codes "DIV") registers_rows
entry_of DivideUnsigned = machine (codes "DIVU") registers_rows
entry_of Remainder = machine (codes "REM") registers_rows
entry_of RemainderUnsigned = machine (codes "REMU") registers_rows
-- target: a register and an immediate
entry_of AddImmediate = machine (codes "ADDI") add_immediate_rows
entry_of SetLessImmediate = machine (codes "SLTI") immediate_rows
entry_of SetLessImmediateUnsigned = machine (codes "SLTIU") immediate_rows
entry_of AndImmediate = machine (codes "ANDI") immediate_rows
entry_of OrImmediate = machine (codes "ORI") immediate_rows
entry_of XorImmediate = machine (codes "XORI") immediate_rows
entry_of ShiftLeftLogicalImmediate = machine (codes "SLLI") immediate_rows
entry_of ShiftRightLogicalImmediate = machine (codes "SRLI") immediate_rows
entry_of ShiftRightArithmeticImmediate = machine (codes "SRAI") immediate_rows
entry_of LoadUpperImmediate = machine (codes "LUI") upper_rows
-- target, 64 bits alone: words of 32 bits
entry_of AddWord = wide (machine (codes "ADDW") registers_rows)
entry_of SubtractWord = wide (machine (codes "SUBW") registers_rows)
entry_of MultiplyWord = wide (machine (codes "MULW") registers_rows)
entry_of ShiftLeftLogicalWord = wide (machine (codes "SLLW") registers_rows)
entry_of ShiftRightLogicalWord = wide (machine (codes "SRLW") registers_rows)
entry_of ShiftRightArithmeticWord = wide (machine (codes "SRAW") registers_rows)
entry_of DivideWord = wide (machine (codes "DIVW") registers_rows)
entry_of DivideUnsignedWord = wide (machine (codes "DIVUW") registers_rows)
entry_of RemainderWord = wide (machine (codes "REMW") registers_rows)
entry_of RemainderUnsignedWord = wide (machine (codes "REMUW") registers_rows)
entry_of AddImmediateWord = wide (machine (codes "ADDIW") immediate_rows)
entry_of ShiftLeftLogicalImmediateWord = wide (machine (codes "SLLIW") immediate_rows)
entry_of ShiftRightLogicalImmediateWord = wide (machine (codes "SRLIW") immediate_rows)
entry_of ShiftRightArithmeticImmediateWord = wide (machine (codes "SRAIW") immediate_rows)
-- target: loads, stores and branches
entry_of LoadByte = loading (memory.Bits 8) (machine (codes "LB") machine_load_rows)
entry_of LoadHalf = loading (memory.Bits 16) (machine (codes "LH") machine_load_rows)
entry_of LoadWord = loading (memory.Bits 32) (machine (codes "LW") machine_load_rows)
entry_of LoadByteUnsigned = loading (memory.Bits 8) (machine (codes "LBU") machine_load_rows)
entry_of LoadHalfUnsigned = loading (memory.Bits 16) (machine (codes "LHU") machine_load_rows)
entry_of LoadWordUnsigned = wide (loading (memory.Bits 32) (machine (codes "LWU") machine_load_rows))
entry_of LoadDouble = wide (loading (memory.Bits 64) (machine (codes "LD") machine_load_rows))
entry_of StoreByte = storing (memory.Bits 8) (machine (codes "SB") machine_store_rows)
entry_of StoreHalf = storing (memory.Bits 16) (machine (codes "SH") machine_store_rows)
entry_of StoreWord = storing (memory.Bits 32) (machine (codes "SW") machine_store_rows)
entry_of StoreDouble = wide (storing (memory.Bits 64) (machine (codes "SD") machine_store_rows))
entry_of BranchEqual = acting role.Branch (machine (codes "BEQ") machine_branch_rows)
entry_of BranchNotEqual = acting role.Branch (machine (codes "BNE") machine_branch_rows)
entry_of BranchLess = acting role.Branch (machine (codes "BLT") machine_branch_rows)
entry_of BranchGreaterEqual = acting role.Branch (machine (codes "BGE") machine_branch_rows)
entry_of BranchLessUnsigned = acting role.Branch (machine (codes "BLTU") machine_branch_rows)
entry_of BranchGreaterEqualUnsigned = acting role.Branch (machine (codes "BGEU") machine_branch_rows)
entry_of PseudoBranch = acting role.Jump (machine (codes "PseudoBR") branch_rows)

-- ══ What is read from it ══

-- the word of an opcode in a text
abbrev pub word_of : Opcode → List ℕ
word_of op = (entry_of op).word

-- the rows of an opcode, of which its operands have one
abbrev pub rows_of : Opcode → List (List Form)
rows_of op = (entry_of op).rows

-- what an opcode does with memory
abbrev pub access_of : Opcode → Access
access_of op = (entry_of op).access

-- the types that a value has in memory
abbrev pub memory_of : Opcode → InMemory
memory_of op = (entry_of op).memory

abbrev pub role_of : Opcode → Role
role_of op = (entry_of op).role

abbrev pub standing_of : Opcode → Standing
standing_of op = (entry_of op).standing

abbrev pub typing_of : Opcode → Option TypingData
typing_of op = (entry_of op).typing

-- the instructions that a machine of 64 bits alone has
abbrev pub is_wide_op : Opcode → Bool
is_wide_op op = (entry_of op).is_wide

-- the opcodes whose two operands may be exchanged
abbrev pub is_commutative_op : Opcode → Bool
is_commutative_op op = (entry_of op).is_commutative

-- whether an opcode may become a call of a routine of the runtime
abbrev pub routine_call_of : Opcode → RoutineCall
routine_call_of op = (entry_of op).routine_call

-- by which widths the results of an opcode have room in their registers
abbrev pub room_of : Opcode → Room
room_of op = (entry_of op).room

-- the generic opcodes are those whose word begins with `G_`
abbrev pub is_generic_op : Opcode → Bool
is_generic_op op = starts_with nat_eq (word_of op) (codes "G_")

-- what stands last in a block
abbrev pub is_terminator : Role → Bool
is_terminator role.Return = true
is_terminator role.Jump = true
is_terminator role.Branch = true
is_terminator _ = false

abbrev pub is_terminator_op : Opcode → Bool
is_terminator_op op = is_terminator (role_of op)

-- the branches and returns after which nothing follows
abbrev pub is_unconditional : Role → Bool
is_unconditional role.Return = true
is_unconditional role.Jump = true
is_unconditional _ = false

abbrev pub is_unconditional_op : Opcode → Bool
is_unconditional_op op = is_unconditional (role_of op)

-- the opcodes that go to the blocks among their operands
abbrev pub is_branch : Role → Bool
is_branch role.Jump = true
is_branch role.Branch = true
is_branch _ = false

abbrev pub is_branch_op : Opcode → Bool
is_branch_op op = is_branch (role_of op)

abbrev pub is_call : Role → Bool
is_call role.Call = true
is_call _ = false

abbrev pub is_call_op : Opcode → Bool
is_call_op op = is_call (role_of op)

abbrev pub is_phi : Role → Bool
is_phi role.Phi = true
is_phi _ = false

abbrev pub is_phi_op : Opcode → Bool
is_phi_op op = is_phi (role_of op)

-- each opcode, in the order of this table
abbrev pub opcodes : List Opcode
opcodes =
    Copy
    ∷ Phi
    ∷ ImplicitDef
    ∷ PseudoCall
    ∷ PseudoReturn
    ∷ AdjustCallStackDown
    ∷ AdjustCallStackUp
    ∷ GenericImplicitDef
    ∷ GenericConstant
    ∷ GenericFreeze
    ∷ GenericFrameIndex
    ∷ GenericGlobalValue
    ∷ GenericPointerAdd
    ∷ GenericPointerToInteger
    ∷ GenericIntegerToPointer
    ∷ GenericTruncate
    ∷ GenericAnyExtend
    ∷ GenericZeroExtend
    ∷ GenericSignExtend
    ∷ GenericSignExtendInRegister
    ∷ GenericMergeValues
    ∷ GenericUnmergeValues
    ∷ GenericAdd
    ∷ GenericSubtract
    ∷ GenericMultiply
    ∷ GenericAnd
    ∷ GenericOr
    ∷ GenericXor
    ∷ GenericUnsignedDivide
    ∷ GenericSignedDivide
    ∷ GenericUnsignedRemainder
    ∷ GenericSignedRemainder
    ∷ GenericShiftLeft
    ∷ GenericLogicalShiftRight
    ∷ GenericArithmeticShiftRight
    ∷ GenericUnsignedAddOverflow
    ∷ GenericUnsignedSubtractOverflow
    ∷ GenericUnsignedAddCarry
    ∷ GenericUnsignedSubtractBorrow
    ∷ GenericUnsignedMultiplyHigh
    ∷ GenericSignedMultiplyHigh
    ∷ GenericCompare
    ∷ GenericSelect
    ∷ GenericSignedMinimum
    ∷ GenericSignedMaximum
    ∷ GenericUnsignedMinimum
    ∷ GenericUnsignedMaximum
    ∷ GenericAbsolute
    ∷ GenericCountLeadingZeros
    ∷ GenericCountTrailingZeros
    ∷ GenericPopulationCount
    ∷ GenericCountLeadingZerosNotOfZero
    ∷ GenericCountTrailingZerosNotOfZero
    ∷ GenericByteSwap
    ∷ GenericFunnelShiftLeft
    ∷ GenericFunnelShiftRight
    ∷ GenericRotateLeft
    ∷ GenericRotateRight
    ∷ GenericLoad
    ∷ GenericZeroExtendLoad
    ∷ GenericSignExtendLoad
    ∷ GenericStore
    ∷ GenericPhi
    ∷ GenericBranch
    ∷ GenericBranchConditional
    ∷ Add
    ∷ Subtract
    ∷ And
    ∷ Or
    ∷ Xor
    ∷ SetLess
    ∷ SetLessUnsigned
    ∷ ShiftLeftLogical
    ∷ ShiftRightLogical
    ∷ ShiftRightArithmetic
    ∷ Multiply
    ∷ MultiplyHigh
    ∷ MultiplyHighUnsigned
    ∷ Divide
    ∷ DivideUnsigned
    ∷ Remainder
    ∷ RemainderUnsigned
    ∷ AddImmediate
    ∷ SetLessImmediate
    ∷ SetLessImmediateUnsigned
    ∷ AndImmediate
    ∷ OrImmediate
    ∷ XorImmediate
    ∷ ShiftLeftLogicalImmediate
    ∷ ShiftRightLogicalImmediate
    ∷ ShiftRightArithmeticImmediate
    ∷ LoadUpperImmediate
    ∷ AddWord
    ∷ SubtractWord
    ∷ MultiplyWord
    ∷ ShiftLeftLogicalWord
    ∷ ShiftRightLogicalWord
    ∷ ShiftRightArithmeticWord
    ∷ DivideWord
    ∷ DivideUnsignedWord
    ∷ RemainderWord
    ∷ RemainderUnsignedWord
    ∷ AddImmediateWord
    ∷ ShiftLeftLogicalImmediateWord
    ∷ ShiftRightLogicalImmediateWord
    ∷ ShiftRightArithmeticImmediateWord
    ∷ LoadByte
    ∷ LoadHalf
    ∷ LoadWord
    ∷ LoadByteUnsigned
    ∷ LoadHalfUnsigned
    ∷ LoadWordUnsigned
    ∷ LoadDouble
    ∷ StoreByte
    ∷ StoreHalf
    ∷ StoreWord
    ∷ StoreDouble
    ∷ BranchEqual
    ∷ BranchNotEqual
    ∷ BranchLess
    ∷ BranchGreaterEqual
    ∷ BranchLessUnsigned
    ∷ BranchGreaterEqualUnsigned
    ∷ PseudoBranch
    ∷ []

-- the opcode that has this word, if one has
unfoldable pub opcode_of : List ℕ → Option Opcode
opcode_of word = find (λ op. bytes_eq (word_of op) word) opcodes
