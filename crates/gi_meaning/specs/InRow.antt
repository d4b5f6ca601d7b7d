-- Whether an instruction stands in its opcode's row: its registers' types, its memory operand and its numbers are among those
-- that the table of opcodes has. (Generic Opcodes; Machine IR's target-independent opcodes; RISC-V unprivileged ISA.)
use Rattle.std.specs.Prelude.{ℕ, ℤ, ◌^◌, Bool, true, false, ◌&&◌, nat_lt, nat_le, ◌==◌, List, [], ◌∷◌, ◌++◌, map, Option, Some, None, if◌then◌else◌, unwrap_or, nat_abs}
use Rattle.std.specs.List.{list_all, list_any}
use Rattle.std.specs.Option.{option_map_or}
use Rattle.gi_llt.specs.Llt.{width_of}
use Rattle.gi_llt.specs.declared.Llt.{Llt}
use Rattle.gi_llt.specs.declared.Llt.TheVariants.{Scalar, Pointer}
use Rattle.gi_mir.specs.Accepted.{are_typed, is_memory_type, is_in_register}
use Rattle.gi_mir.specs.Data.{InstrData, BlockData, FunctionData}
use Rattle.gi_mir.specs.Registers.{kind_of, type_of_kind}
use Rattle.gi_mir.specs.Row.{access_of, memory_of, rows_of, typing_of}
use Rattle.gi_mir.specs.Types.{same_type, is_any}
use Rattle.gi_mir.specs.Typings.{TypingData}
use Rattle.gi_mir.specs.declared.entry.InMemory.{InMemory}
use Rattle.gi_mir.specs.declared.entry.InMemory.TheVariants as memory
use Rattle.gi_mir.specs.declared.opcode.Opcode.{Opcode}
use Rattle.gi_mir.specs.declared.opcode.Opcode.TheVariants as op
use Rattle.gi_mir.specs.declared.operand.Kind.{Kind}
use Rattle.gi_mir.specs.declared.operand.MemOp.{MemOp}
use Rattle.gi_mir.specs.declared.operand.Operand.{Operand}
use Rattle.gi_mir.specs.declared.operand.Operand.TheVariants as operand
use Rattle.gi_mir.specs.declared.row.Access.{Access}
use Rattle.gi_mir.specs.declared.row.Access.TheVariants as access
use Rattle.gi_mir.specs.declared.row.Form.{Form}
use Rattle.gi_mir.specs.declared.row.Form.TheVariants as form

-- ══ Registers ══

-- the type of a register of this kind; one of class `gpr` holds a word
abbrev pub type_held : (x : ℕ) → Kind → Llt
type_held x kind = unwrap_or (type_of_kind kind) (Scalar x)

abbrev pub type_in : (x : ℕ) → FunctionData → (register : ℕ) → Llt
type_in x f register = type_held x (kind_of f register)

-- the virtual registers that are defined, and those that are read
abbrev pub results_in : List Operand → List ℕ
results_in [] = []
results_in (operand.Def r kind ∷ os) = r.0 ∷ results_in os
results_in (_ ∷ os) = results_in os

abbrev pub sources_in : List Operand → List ℕ
sources_in [] = []
sources_in (operand.Use r ∷ os) = r.0 ∷ sources_in os
sources_in (_ ∷ os) = sources_in os

-- ══ Types: those of the results, and those of the virtual registers that are read ══

-- a type of a word's bits, as physical registers hold
abbrev pub is_word : (x : ℕ) → Llt → Bool
is_word x ty = is_any x ty && (width_of x ty == x)

-- `%d:A = COPY %s(A)`; where one of the two is a physical register, A is as wide as a word
abbrev pub are_copied : (x : ℕ) → (results sources : List Llt) → Bool
are_copied x (a ∷ []) (b ∷ []) = is_any x a && same_type a b
are_copied x (a ∷ []) [] = is_word x a
are_copied x [] (b ∷ []) = is_word x b
are_copied x _ _ = false

-- a register that an instruction of the machine reads or writes has at most a word's bits
abbrev pub is_narrow : (x : ℕ) → Llt → Bool
is_narrow x ty = is_any x ty && nat_le (width_of x ty) x

-- an instruction of the machine has results where its row begins with one
abbrev pub may_define : (rows : List (List Form)) → (results : List Llt) → Bool
may_define rows [] = true
may_define ((form.Def ∷ forms) ∷ rows) results = true
may_define rows results = false

-- the types are accepted together
abbrev pub have_types : (x : ℕ) → Opcode → Option TypingData → (results sources : List Llt) → Bool
have_types x op.Copy typing results sources = are_copied x results sources
have_types x o None results sources = may_define (rows_of o) results && list_all (is_narrow x) (results ++ sources)
have_types x o (Some typing) results sources = are_typed x typing results sources

-- the type of what is loaded, or else stored: the first result, or else the first register that is read. Where there is none,
-- `$x0` is stored, which is a word
abbrev pub value_type : (x : ℕ) → (types : List Llt) → Llt
value_type x [] = Scalar x
value_type x (ty ∷ types) = ty

-- ══ A value in memory ══

-- `%d:A = G_LOAD %p(p0) :: (load (M))`, and so a store: M is at most A, and a pointer is loaded and stored as a pointer
abbrev pub holds : (value in_memory : Llt) → Bool
holds (Scalar n) (Scalar m) = nat_le m n
holds Pointer Pointer = true
holds _ _ = false

-- `%d:A = G_ZEXTLOAD %p(p0) :: (load (M))`: M is narrower than A
abbrev pub holds_more : (value in_memory : Llt) → Bool
holds_more (Scalar n) (Scalar m) = nat_lt m n
holds_more _ _ = false

-- nothing is asked of an instruction of the machine
abbrev pub has_room : InMemory → (value in_memory : Llt) → Bool
has_room memory.Value value in_memory = holds value in_memory
has_room memory.Extended value in_memory = holds_more value in_memory
has_room memory.Nothing value in_memory = true
has_room (memory.Bits bits) value in_memory = true

-- the opcode has this type in memory, and its register has room for it
abbrev pub fits_memory : (x : ℕ) → Opcode → (types : List Llt) → MemOp → Bool
fits_memory x o types mem = is_memory_type x o mem.ty && has_room (memory_of o) (value_type x types) mem.ty

-- a load or a store has a memory operand that fits
abbrev pub has_memory : (x : ℕ) → Access → Opcode → (types : List Llt) → Option MemOp → Bool
has_memory x access.Neither o types mem = true
has_memory x access.Load o types mem = option_map_or (fits_memory x o types) mem false
has_memory x access.Store o types mem = option_map_or (fits_memory x o types) mem false

-- ══ Operands ══

-- the number of G_SEXT_INREG, and the sizes of `ADJCALLSTACKDOWN 0, 0, implicit-def $x2, implicit $x2`
abbrev pub is_number_within : (x : ℕ) → Opcode → (bits : ℕ) → ℤ → Bool
is_number_within x op.GenericSignExtendInRegister bits k = is_in_register x bits k
is_number_within x op.AdjustCallStackDown bits k = nat_abs k == 0
is_number_within x op.AdjustCallStackUp bits k = nat_abs k == 0
is_number_within x o bits k = true

-- a copy may read any physical register, and an instruction of the machine `$x0`
abbrev pub may_read : Opcode → Option TypingData → (register : ℕ) → Bool
may_read op.Copy typing register = true
may_read o None register = register == 0
may_read o (Some typing) register = false

-- registers are read and written beside what is shown where the opcode's row has such
abbrev pub is_beside : Form → Bool
is_beside form.ImplicitDef = true
is_beside form.Implicits = true
is_beside form.ImplicitUses = true
is_beside form.ImplicitUse = true
is_beside _ = false

abbrev pub has_beside : Opcode → Bool
has_beside o = list_any (λ forms. list_any is_beside forms) (rows_of o)

-- what adjusts the stack around a call says so of `$x2`
abbrev pub may_be_beside : Opcode → (register : ℕ) → Bool
may_be_beside op.AdjustCallStackDown n = n == 2
may_be_beside op.AdjustCallStackUp n = n == 2
may_be_beside o n = has_beside o

-- a constant has its register's bits, and a sign is extended from within its register
abbrev pub is_operand_of : (x : ℕ) → Opcode → (types : List Llt) → Operand → Bool
is_operand_of x o types (operand.Constant bits value) = (width_of x (value_type x types) == bits) && nat_lt value (2 ^ bits)
is_operand_of x o types (operand.Int k) = is_number_within x o (width_of x (value_type x types)) k
is_operand_of x o types (operand.Phys n) = may_read o (typing_of o) n
is_operand_of x o types (operand.ImplicitUse n) = may_be_beside o n
is_operand_of x o types (operand.ImplicitDef n) = may_be_beside o n
is_operand_of x o types _ = true

-- ══ All ══

-- with these types of its results and of the registers that it reads; the immediates of an instruction of the machine are
-- tested by what it gives
abbrev pub has_row : (x : ℕ) → InstrData → (results sources : List Llt) → Bool
has_row x i results sources =
    have_types x i.op (typing_of i.op) results sources
    && has_memory x (access_of i.op) i.op (results ++ sources) i.mem
    && list_all (is_operand_of x i.op (results ++ sources)) i.operands

abbrev pub is_in_row : (x : ℕ) → (type : ℕ → Llt) → InstrData → Bool
is_in_row x type i = has_row x i (map type (results_in i.operands)) (map type (sources_in i.operands))

-- ══ What is run ══

-- a branch to no block, which is undefined where a run comes to it
abbrev pub nowhere : InstrData → InstrData
nowhere i = record i { op = op.GenericBranch; operands = [] }

-- an instruction as a run takes it: one that doesn't stand in its row is undefined
abbrev pub checked_instr : (x : ℕ) → (type : ℕ → Llt) → InstrData → InstrData
checked_instr x type i = if is_in_row x type i then i else nowhere i

abbrev pub checked_pair : (x : ℕ) → (type : ℕ → Llt) → ℕ × InstrData → ℕ × InstrData
checked_pair x type i = (i.0, checked_instr x type i.1)

abbrev pub checked_block : (x : ℕ) → (type : ℕ → Llt) → BlockData → BlockData
checked_block x type block = record block { instrs = map (checked_pair x type) block.instrs }

-- the blocks of a function as its runs take them
abbrev pub checked_blocks : (x : ℕ) → FunctionData → List BlockData
checked_blocks x f = map (checked_block x (type_in x f)) f.blocks

-- each instruction of the function stands in its row
abbrev pub are_in_rows : (x : ℕ) → FunctionData → Bool
are_in_rows x f = list_all (λ block. list_all (λ i. is_in_row x (type_in x f) i.1) block.instrs) f.blocks
