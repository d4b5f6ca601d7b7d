-- Legality: which instructions stand behind the legaliser, where x is the width of a register, 32 or 64. (LLVM's manual on
-- GlobalISel, "Legalizer": an instruction is legal where its types are ones that the target can select. The rows are those
-- of RV32 and RV64 with M and without Zbb; sX, p0 and s32 are the types that LLVM's rules for RISC-V name.)
use Rattle.std.specs.Prelude.{ℕ, pos, ◌+◌, ◌/◌, Bool, true, false, ◌&&◌, ◌||◌, nat_lt, nat_le, ◌==◌, List, [], ◌∷◌, ◌++◌, Option, Some, None, if◌then◌else◌}
use Rattle.std.specs.List.{filter_map, list_all, list_any}
use Rattle.std.specs.Option.{option_map_or}
use Rattle.std.specs.Ordering.{int_eq}
use Rattle.gi_llt.specs.Llt.{width_of}
use Rattle.gi_llt.specs.declared.Llt.{Llt}
use Rattle.gi_llt.specs.declared.Llt.TheVariants.{Scalar, Pointer}
use Rattle.gi_mir.specs.Data.{InstrData, FunctionData}
use Rattle.gi_mir.specs.Registers.{kind_of, type_of_kind}
use Rattle.gi_mir.specs.Row.{standing_of}
use Rattle.gi_mir.specs.Stages.{is_before_selection}
use Rattle.gi_mir.specs.Types.{is_pointer, is_extended, scalar_bits}
use Rattle.gi_mir.specs.declared.opcode.Opcode.{Opcode}
use Rattle.gi_mir.specs.declared.opcode.Opcode.TheVariants as op
use Rattle.gi_mir.specs.declared.operand.MemOp.{MemOp}
use Rattle.gi_mir.specs.declared.operand.Operand.{Operand}
use Rattle.gi_mir.specs.declared.operand.Operand.TheVariants as operand
use Rattle.gi_rules.specs.declared.table.LegalType.{LegalType}
use Rattle.gi_rules.specs.declared.table.LegalType.TheVariants as legal

-- ══ Rows: the types of an instruction's virtual registers in the order of its operands, then the type in memory ══

-- `%d:A = G_CONSTANT iN V`, and `$xN = COPY %s(A)`: sX, p0
abbrev pub value_rows : List (List LegalType)
value_rows = (legal.Register ∷ []) ∷ (legal.Pointer ∷ []) ∷ []

-- the same with s32 on RV64
abbrev pub value_or_half_rows : List (List LegalType)
value_or_half_rows = (legal.Half ∷ []) ∷ value_rows

-- `%d:A = COPY %s(A)`: sX, p0; s32 on RV64; with a physical register sX, p0
abbrev pub copy_rows : List (List LegalType)
copy_rows =
    (legal.Register ∷ legal.Register ∷ [])
    ∷ (legal.Pointer ∷ legal.Pointer ∷ [])
    ∷ (legal.Half ∷ legal.Half ∷ [])
    ∷ value_rows

-- `%d:p0 = G_FRAME_INDEX %stack.N`
abbrev pub address_rows : List (List LegalType)
address_rows = (legal.Pointer ∷ []) ∷ []

-- `%d:p0 = G_PTR_ADD %p, %o(sX)`
abbrev pub pointer_sum_rows : List (List LegalType)
pointer_sum_rows = (legal.Pointer ∷ legal.Pointer ∷ legal.Register ∷ []) ∷ []

-- `%d:sX = G_PTRTOINT %p(p0)`, `%d:p0 = G_INTTOPTR %s(sX)`
abbrev pub pointer_to_integer_rows : List (List LegalType)
pointer_to_integer_rows = (legal.Register ∷ legal.Pointer ∷ []) ∷ []

abbrev pub integer_to_pointer_rows : List (List LegalType)
integer_to_pointer_rows = (legal.Pointer ∷ legal.Register ∷ []) ∷ []

-- `%d:A = G_AND %a, %b`: sX
abbrev pub whole_rows : List (List LegalType)
whole_rows = (legal.Register ∷ legal.Register ∷ legal.Register ∷ []) ∷ []

-- `%d:A = G_ADD %a, %b`: sX; s32 on RV64
abbrev pub whole_or_half_rows : List (List LegalType)
whole_or_half_rows = (legal.Half ∷ legal.Half ∷ legal.Half ∷ []) ∷ whole_rows

-- `%d:sX = G_ICMP intpred(P), %a(B), %b`: B is sX, p0
abbrev pub comparison_rows : List (List LegalType)
comparison_rows = whole_rows ++ (legal.Register ∷ legal.Pointer ∷ legal.Pointer ∷ []) ∷ []

-- `%d:A = G_SELECT %c(sX), %a, %b`: A is sX, p0
abbrev pub selection_rows : List (List LegalType)
selection_rows =
    (legal.Register ∷ legal.Register ∷ legal.Register ∷ legal.Register ∷ [])
    ∷ (legal.Pointer ∷ legal.Register ∷ legal.Pointer ∷ legal.Pointer ∷ [])
    ∷ []

-- `%d:A = G_PHI %a(A), %bb.N, ..`: sX, p0
abbrev pub phi_rows : List (List LegalType)
phi_rows = (legal.Register ∷ legal.Registers ∷ []) ∷ (legal.Pointer ∷ legal.Pointers ∷ []) ∷ []

-- `G_BR %bb.N`
abbrev pub no_type_rows : List (List LegalType)
no_type_rows = [] ∷ []

-- `G_BRCOND %c(sX), %bb.N`
abbrev pub condition_rows : List (List LegalType)
condition_rows = (legal.Register ∷ []) ∷ []

-- `%d:s32 = G_TRUNC %s(s64)` and `%d:s64 = G_ZEXT %s(s32)`, on RV64
abbrev pub truncation_rows : List (List LegalType)
truncation_rows = (legal.Half ∷ legal.Register ∷ []) ∷ []

abbrev pub extension_rows : List (List LegalType)
extension_rows = (legal.Register ∷ legal.Half ∷ []) ∷ []

-- `%d:sX = G_SEXT_INREG %s, K`
abbrev pub in_register_rows : List (List LegalType)
in_register_rows = (legal.Register ∷ legal.Register ∷ []) ∷ []

-- `%d:A = G_LOAD %p(p0) :: (load (M))`, `G_STORE %v(A), %p(p0) :: (store (M))`: sX with s8 to sX in memory, p0 with p0
abbrev pub memory_rows : List (List LegalType)
memory_rows =
    (legal.Register ∷ legal.Pointer ∷ legal.Bytes ∷ [])
    ∷ (legal.Pointer ∷ legal.Pointer ∷ legal.Pointer ∷ [])
    ∷ []

-- `%d:sX = G_ZEXTLOAD %p(p0) :: (load (M))`: M is narrower than sX
abbrev pub extending_load_rows : List (List LegalType)
extending_load_rows = (legal.Register ∷ legal.Pointer ∷ legal.FewerBytes ∷ []) ∷ []

-- ══ The table: the rows of each opcode ══

abbrev pub legal_rows : Opcode → List (List LegalType)
legal_rows op.Copy = copy_rows
legal_rows op.GenericImplicitDef = value_or_half_rows
legal_rows op.GenericConstant = value_or_half_rows
legal_rows op.GenericFrameIndex = address_rows
legal_rows op.GenericGlobalValue = address_rows
legal_rows op.GenericPointerAdd = pointer_sum_rows
legal_rows op.GenericPointerToInteger = pointer_to_integer_rows
legal_rows op.GenericIntegerToPointer = integer_to_pointer_rows
legal_rows op.GenericAdd = whole_or_half_rows
legal_rows op.GenericSubtract = whole_or_half_rows
legal_rows op.GenericMultiply = whole_or_half_rows
legal_rows op.GenericUnsignedDivide = whole_or_half_rows
legal_rows op.GenericSignedDivide = whole_or_half_rows
legal_rows op.GenericUnsignedRemainder = whole_or_half_rows
legal_rows op.GenericSignedRemainder = whole_or_half_rows
legal_rows op.GenericShiftLeft = whole_or_half_rows
legal_rows op.GenericLogicalShiftRight = whole_or_half_rows
legal_rows op.GenericArithmeticShiftRight = whole_or_half_rows
legal_rows op.GenericAnd = whole_rows
legal_rows op.GenericOr = whole_rows
legal_rows op.GenericXor = whole_rows
legal_rows op.GenericUnsignedMultiplyHigh = whole_rows
legal_rows op.GenericSignedMultiplyHigh = whole_rows
legal_rows op.GenericCompare = comparison_rows
legal_rows op.GenericSelect = selection_rows
legal_rows op.GenericPhi = phi_rows
legal_rows op.GenericBranch = no_type_rows
legal_rows op.GenericBranchConditional = condition_rows
legal_rows op.GenericTruncate = truncation_rows
legal_rows op.GenericAnyExtend = extension_rows
legal_rows op.GenericZeroExtend = extension_rows
legal_rows op.GenericSignExtend = extension_rows
legal_rows op.GenericSignExtendInRegister = in_register_rows
legal_rows op.GenericLoad = memory_rows
legal_rows op.GenericStore = memory_rows
legal_rows op.GenericZeroExtendLoad = extending_load_rows
legal_rows op.GenericSignExtendLoad = extending_load_rows
legal_rows op.PseudoCall = no_type_rows
legal_rows op.PseudoReturn = no_type_rows
legal_rows op.AdjustCallStackDown = no_type_rows
legal_rows op.AdjustCallStackUp = no_type_rows
legal_rows _ = []

-- the number of G_SEXT_INREG is 32, on RV64
abbrev pub is_legal_number : (x : ℕ) → Opcode → Operand → Bool
is_legal_number x op.GenericSignExtendInRegister (operand.Int k) = (x == 64) && int_eq k (pos 32)
is_legal_number x _ _ = true

-- a value in memory is aligned to its size in bytes at least; a pointer is, where its alignment is left open by 0
abbrev pub is_legal_access : (x : ℕ) → MemOp → Bool
is_legal_access x mem = nat_le ((width_of x mem.ty + 7) / 8) mem.align || is_pointer mem.ty && mem.align == 0

-- ══ Types that stand in a row ══

-- a scalar of so many bits
abbrev pub has_bits : (bits : ℕ) → Llt → Bool
has_bits bits (Scalar n) = n == bits
has_bits bits Pointer = false

abbrev pub is_legal_type : (x : ℕ) → LegalType → Llt → Bool
is_legal_type x legal.Register ty = has_bits x ty
is_legal_type x legal.Half ty = (x == 64) && has_bits 32 ty
is_legal_type x legal.Pointer ty = is_pointer ty
is_legal_type x legal.Bytes ty = is_extended x ty
is_legal_type x legal.FewerBytes ty = is_extended x ty && nat_lt (scalar_bits ty) x
is_legal_type x legal.Registers ty = has_bits x ty
is_legal_type x legal.Pointers ty = is_pointer ty

-- any number of types stand at these two
abbrev pub is_repeated : LegalType → Bool
is_repeated legal.Registers = true
is_repeated legal.Pointers = true
is_repeated _ = false

-- a type that isn't there is that of a register of class `gpr`
abbrev pub is_legal_there : (x : ℕ) → LegalType → Option Llt → Bool
is_legal_there x legal ty = option_map_or (is_legal_type x legal) ty false

-- what is left of a row once a type stands first in it, where it may
abbrev pub left_behind : LegalType → (row : List LegalType) → List LegalType
left_behind legal row = if is_repeated legal then legal ∷ row else row

abbrev pub left_by : (x : ℕ) → Option Llt → (row : List LegalType) → Option (List LegalType)
left_by x ty [] = None
left_by x ty (legal ∷ row) = if is_legal_there x legal ty then Some (left_behind legal row) else None

-- types are those of a row
abbrev pub fits : (x : ℕ) → (row : List LegalType) → List (Option Llt) → Bool
fits x row [] = list_all is_repeated row
fits x row (ty ∷ types) = option_map_or (λ left. fits x left types) (left_by x ty row) false

-- ══ An instruction of a function ══

-- the type of the virtual register that is this operand, if one is
abbrev pub type_there : FunctionData → Operand → Option (Option Llt)
type_there f (operand.Def r kind) = Some (type_of_kind (kind_of f r.0))
type_there f (operand.Use r) = Some (type_of_kind (kind_of f r.0))
type_there f _ = None

-- the type in memory, where there is one
abbrev pub type_in_memory : Option MemOp → List (Option Llt)
type_in_memory None = []
type_in_memory (Some mem) = Some mem.ty ∷ []

abbrev pub types_of : FunctionData → List Operand → Option MemOp → List (Option Llt)
types_of f operands mem = filter_map (type_there f) operands ++ type_in_memory mem

-- an instruction's types are those of a row of its opcode
abbrev pub has_row : (x : ℕ) → FunctionData → InstrData → Bool
has_row x f i = list_any (λ row. fits x row (types_of f i.operands i.mem)) (legal_rows i.op)

abbrev pub is_legal : (x : ℕ) → FunctionData → InstrData → Bool
is_legal x f i =
    has_row x f i
    && list_all (is_legal_number x i.op) i.operands
    && option_map_or (is_legal_access x) i.mem true

-- ══ A function ══

-- one that stands before selection alone is legal
abbrev pub is_legal_generic : (x : ℕ) → FunctionData → InstrData → Bool
is_legal_generic x f i = if is_before_selection (standing_of i.op) then is_legal x f i else true

-- each generic instruction of a function is legal
abbrev pub legal_generics : (x : ℕ) → FunctionData → Bool
legal_generics x f = list_all (λ block. list_all (λ i. is_legal_generic x f i.1) block.instrs) f.blocks
