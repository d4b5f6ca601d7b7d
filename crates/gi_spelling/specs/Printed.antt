-- The text of a function as it is printed.
-- (Machine IR (MIR) Format Reference Manual, "High Level Structure", "Machine Functions", "Machine Basic
-- Blocks", "Machine Instructions" and "Machine Operands"; which keys stand, in what order, and which uses
-- show their types are this project's own.)
use Rattle.std.specs.Prelude.{ℕ, suc, ◌+◌, ◌/◌, Bool, true, false, not, ◌&&◌, List, [], ◌∷◌, ◌++◌, Option, Some, None, length, ◌==◌, if◌then◌else◌, codes, decimal}
use Rattle.gi_mir.specs.Names.{name_at}
use Rattle.std.specs.Fmt.{signed_decimal}
use Rattle.std.specs.List.{list_any}
use Rattle.gi_llt.specs.Bits.{signed}
use Rattle.gi_llt.specs.Tokens.{Word, Number, Register, Physical, Global as GlobalName, Routine as RoutineName, Mark, Piece, Spaces, token, piece_bytes}
use Rattle.gi_llt.specs.declared.Llt.{Llt}
use Rattle.gi_llt.specs.declared.Llt.TheVariants.{Scalar, Pointer}
use Rattle.gi_mir.specs.declared.operand.Kind.{Kind}
use Rattle.gi_mir.specs.declared.operand.Kind.TheVariants.{Generic, Banked, Class}
use Rattle.gi_mir.specs.declared.operand.Pred.{Pred}
use Rattle.gi_mir.specs.declared.operand.Pred.TheVariants.{Eq, Ne, Ugt, Uge, Ult, Ule, Sgt, Sge, Slt, Sle}
use Rattle.gi_mir.specs.declared.operand.Flags.{Flags}
use Rattle.gi_mir.specs.declared.operand.MemOp.{MemOp}
use Rattle.gi_mir.specs.declared.operand.SymbolFlag.{SymbolFlag}
use Rattle.gi_mir.specs.declared.operand.SymbolFlag.TheVariants.{Plain, Call, Hi, Lo}
use Rattle.gi_mir.specs.declared.operand.Operand.{Operand}
use Rattle.gi_mir.specs.declared.operand.Operand.TheVariants.{Def, Use, Phys, PhysDef, ImplicitUse, ImplicitDef, Int, Constant, Block, Predicate, Frame, Global, Routine, SavedMask}
use Rattle.gi_mir.specs.declared.operand.StackObject.{StackObject}
use Rattle.gi_mir.specs.declared.row.Form.{Form}
use Rattle.gi_mir.specs.declared.row.Form.TheVariants as form
use Rattle.gi_mir.specs.Data.{InstrData, BlockData, FunctionData, ModuleData}
use Rattle.gi_mir.specs.Registers.{type_of_kind, kind_of}
use Rattle.gi_mir.specs.Routines.{routine_names}
use Rattle.gi_mir.specs.Row.{word_of, rows_of, is_unconditional_op, is_branch_op}

-- a mark of one byte, `word` and a word
abbrev pub mark : ℕ → Piece
mark byte = token Mark (byte ∷ [])

abbrev pub word : List ℕ → Piece
word bytes = token Word bytes

-- pieces in a row, with `, ` between each two
abbrev pub listed : List (List Piece) → List Piece
listed [] = []
listed (first ∷ []) = first
listed (first ∷ second ∷ more) = first ++ (mark 44 ∷ Spaces 1 ∷ listed (second ∷ more))

-- `(` and `)` around pieces
abbrev pub bracketed : List Piece → List Piece
bracketed pieces = mark 40 ∷ (pieces ++ (mark 41 ∷ []))

-- `s32`, `p0`
abbrev pub type_piece : Llt → Piece
type_piece (Scalar bits) = word (115 ∷ decimal bits)
type_piece Pointer = word (codes "p0")

-- `%7`, `$x10`, `%bb.2`, `%stack.0`
abbrev pub register_piece : ℕ → Piece
register_piece number = token Register (37 ∷ decimal number)

abbrev pub physical_piece : ℕ → Piece
physical_piece number = token Physical (36 ∷ 120 ∷ decimal number)

abbrev pub block_piece : ℕ → Piece
block_piece place = token Register (codes "%bb." ++ decimal place)

abbrev pub frame_piece : ℕ → Piece
frame_piece place = token Register (codes "%stack." ++ decimal place)

-- `:_(s32)`, `:gprb(s32)`, `:gpr`
abbrev pub kind_pieces : Kind → List Piece
kind_pieces (Generic ty) = mark 58 ∷ word (95 ∷ []) ∷ bracketed (type_piece ty ∷ [])
kind_pieces (Banked ty) = mark 58 ∷ word (codes "gprb") ∷ bracketed (type_piece ty ∷ [])
kind_pieces Class = mark 58 ∷ word (codes "gpr") ∷ []

-- `(s32)`, where a type is shown
abbrev pub shown_type : Option Llt → List Piece
shown_type None = []
shown_type (Some ty) = bracketed (type_piece ty ∷ [])

abbrev pub predicate_word : Pred → List ℕ
predicate_word Eq = codes "eq"
predicate_word Ne = codes "ne"
predicate_word Ugt = codes "ugt"
predicate_word Uge = codes "uge"
predicate_word Ult = codes "ult"
predicate_word Ule = codes "ule"
predicate_word Sgt = codes "sgt"
predicate_word Sge = codes "sge"
predicate_word Slt = codes "slt"
predicate_word Sle = codes "sle"

-- `target-flags(riscv-hi) `, and nothing for a plain symbol
abbrev pub symbol_flag_pieces : SymbolFlag → List Piece
symbol_flag_pieces Plain = []
symbol_flag_pieces Call = word (codes "target-flags") ∷ bracketed (word (codes "riscv-call") ∷ []) ++ (Spaces 1 ∷ [])
symbol_flag_pieces Hi = word (codes "target-flags") ∷ bracketed (word (codes "riscv-hi") ∷ []) ++ (Spaces 1 ∷ [])
symbol_flag_pieces Lo = word (codes "target-flags") ∷ bracketed (word (codes "riscv-lo") ∷ []) ++ (Spaces 1 ∷ [])

-- `i32 -5`, and of one bit `i1 true` or `i1 false`
abbrev pub constant_pieces : (bits value : ℕ) → List Piece
constant_pieces bits value = word (105 ∷ decimal bits) ∷ Spaces 1
    ∷ (if bits == 1 then word (if value == 1 then codes "true" else codes "false") else token Number (signed_decimal (signed bits value)))
    ∷ []

-- a use by the type that it shows, if it shows one
abbrev pub use_pieces : ℕ → Option Llt → List Piece
use_pieces number shown = register_piece number ∷ shown_type shown

-- an operand, with the kinds of the registers where it shows its type
abbrev pub operand_pieces : (kinds : ℕ → Kind) (names : List (List ℕ)) (is_typed : Bool) → Operand → List Piece
operand_pieces kinds names is_typed (Def reg kind) = register_piece reg.0 ∷ kind_pieces kind
operand_pieces kinds names is_typed (Use reg) = use_pieces reg.0 (if is_typed then type_of_kind (kinds reg.0) else None)
operand_pieces kinds names is_typed (Phys number) = physical_piece number ∷ []
operand_pieces kinds names is_typed (PhysDef number) = physical_piece number ∷ []
operand_pieces kinds names is_typed (ImplicitUse number) = word (codes "implicit") ∷ Spaces 1 ∷ physical_piece number ∷ []
operand_pieces kinds names is_typed (ImplicitDef number) = word (codes "implicit-def") ∷ Spaces 1 ∷ physical_piece number ∷ []
operand_pieces kinds names is_typed (Int value) = token Number (signed_decimal value) ∷ []
operand_pieces kinds names is_typed (Constant bits value) = constant_pieces bits value
operand_pieces kinds names is_typed (Block place) = block_piece place ∷ []
operand_pieces kinds names is_typed (Predicate pred) = word (codes "intpred") ∷ bracketed (word (predicate_word pred) ∷ [])
operand_pieces kinds names is_typed (Frame place) = frame_piece place ∷ []
operand_pieces kinds names is_typed (Global flag name) = symbol_flag_pieces flag ++ (token GlobalName (64 ∷ name_at names name) ∷ [])
operand_pieces kinds names is_typed (Routine flag place) = symbol_flag_pieces flag ++ (token RoutineName (38 ∷ name_at routine_names place) ∷ [])
operand_pieces kinds names is_typed SavedMask = word (codes "csr_ilp32_lp64") ∷ []

-- the definitions stand before `=`
abbrev pub is_definition : Operand → Bool
is_definition (Def reg kind) = true
is_definition (PhysDef number) = true
is_definition _ = false

abbrev pub definitions_of : List Operand → List Operand
definitions_of [] = []
definitions_of (operand ∷ operands) = if is_definition operand then operand ∷ definitions_of operands else []

abbrev pub sources_of : List Operand → List Operand
sources_of [] = []
sources_of (operand ∷ operands) = if is_definition operand then sources_of operands else operand ∷ operands

-- the forms of what is no definition. Of the rows of one opcode the first says which uses show a type
abbrev pub source_forms : List Form → List Form
source_forms (form.Def ∷ forms) = source_forms forms
source_forms (form.PhysicalDef ∷ forms) = source_forms forms
source_forms (form.Results ∷ forms) = source_forms forms
source_forms forms = forms

abbrev pub first_row : List (List Form) → List Form
first_row [] = []
first_row (row ∷ rows) = row

abbrev pub is_typed_form : Form → Bool
is_typed_form form.TypedUse = true
is_typed_form form.Parts = true
is_typed_form form.Entry = true
is_typed_form form.EntryBlock = true
is_typed_form _ = false

-- whether an operand with these forms before it shows its type, and the forms after it, where the last one
-- goes on
abbrev pub is_typed_by : List Form → Bool
is_typed_by [] = false
is_typed_by (form ∷ forms) = is_typed_form form

abbrev pub forms_after : List Form → List Form
forms_after [] = []
forms_after (form ∷ []) = form ∷ []
forms_after (form ∷ next ∷ forms) = next ∷ forms

abbrev pub source_pieces : (kinds : ℕ → Kind) (names : List (List ℕ)) (forms : List Form) → List Operand → List (List Piece)
source_pieces kinds names forms [] = []
source_pieces kinds names forms (operand ∷ operands) =
    operand_pieces kinds names (is_typed_by forms) operand ∷ source_pieces kinds names (forms_after forms) operands

abbrev pub definition_pieces : List Operand → List (List Piece)
definition_pieces [] = []
definition_pieces (operand ∷ operands) = operand_pieces (λ reg. Class) [] false operand ∷ definition_pieces operands

-- `%0:_(s32), %1:_(s1) = `
abbrev pub defined_pieces : List (List Piece) → List Piece
defined_pieces [] = []
defined_pieces (first ∷ more) = listed (first ∷ more) ++ (Spaces 1 ∷ mark 61 ∷ Spaces 1 ∷ [])

abbrev pub flag_pieces : Bool → List ℕ → List Piece
flag_pieces false bytes = []
flag_pieces true bytes = word bytes ∷ Spaces 1 ∷ []

abbrev pub flags_pieces : Flags → List Piece
flags_pieces flags = flag_pieces flags.nuw (codes "nuw") ++ (flag_pieces flags.nsw (codes "nsw") ++ (flag_pieces flags.exact (codes "exact")
    ++ (flag_pieces flags.disjoint (codes "disjoint") ++ flag_pieces flags.nneg (codes "nneg"))))

-- ` %0, %1`
abbrev pub sources_pieces : List (List Piece) → List Piece
sources_pieces [] = []
sources_pieces (first ∷ more) = Spaces 1 ∷ listed (first ∷ more)

-- the alignment that need not be written: a scalar's size in bytes, and 0 for a pointer
abbrev pub usual_align : Llt → ℕ
usual_align (Scalar bits) = (bits + 7) / 8
usual_align Pointer = 0

abbrev pub align_pieces : (align usual : ℕ) → List Piece
align_pieces align usual = if align == usual then [] else mark 44 ∷ Spaces 1 ∷ word (codes "align") ∷ Spaces 1 ∷ token Number (decimal align) ∷ []

-- ` :: (load (s32), align 2)`
abbrev pub memory_pieces : Option MemOp → List Piece
memory_pieces None = []
memory_pieces (Some memory) = Spaces 1 ∷ mark 58 ∷ mark 58 ∷ Spaces 1
    ∷ bracketed (word (if memory.load then codes "load" else codes "store") ∷ Spaces 1
    ∷ (bracketed (type_piece memory.ty ∷ []) ++ align_pieces memory.align (usual_align memory.ty)))

-- an instruction, by the kinds of the registers and the names
abbrev pub instr_pieces : (kinds : ℕ → Kind) (names : List (List ℕ)) → InstrData → List Piece
instr_pieces kinds names instr =
    defined_pieces (definition_pieces (definitions_of instr.operands))
    ++ (flags_pieces instr.flags
    ++ (word (word_of instr.op)
    ∷ (sources_pieces (source_pieces kinds names (source_forms (first_row (rows_of instr.op))) (sources_of instr.operands))
    ++ memory_pieces instr.mem)))

-- the line of an instruction, four spaces in
abbrev pub instr_line : (kinds : ℕ → Kind) (names : List (List ℕ)) → InstrData → List ℕ
instr_line kinds names instr = piece_bytes (Spaces 4 ∷ instr_pieces kinds names instr)

abbrev pub instr_lines : (kinds : ℕ → Kind) (names : List (List ℕ)) → List (ℕ × InstrData) → List (List ℕ)
instr_lines kinds names [] = []
instr_lines kinds names (instr ∷ instrs) = instr_line kinds names instr.1 ∷ instr_lines kinds names instrs

-- a list with one more at its end, unless it is there
abbrev pub with_place : List ℕ → ℕ → List ℕ
with_place places place = if list_any (λ other. other == place) places then places else places ++ (place ∷ [])

abbrev pub with_targets : List ℕ → List Operand → List ℕ
with_targets places [] = places
with_targets places (Block place ∷ operands) = with_targets (with_place places place) operands
with_targets places (operand ∷ operands) = with_targets places operands

abbrev pub with_branches : List ℕ → List (ℕ × InstrData) → List ℕ
with_branches places [] = places
with_branches places (instr ∷ instrs) = with_branches (if is_branch_op (instr.1).op then with_targets places (instr.1).operands else places) instrs

-- the last instruction, if there is one, is neither an unconditional branch nor a return
abbrev pub falls_through : List (ℕ × InstrData) → Bool
falls_through [] = true
falls_through (instr ∷ []) = not (is_unconditional_op (instr.1).op)
falls_through (instr ∷ next ∷ more) = falls_through (next ∷ more)

-- the successors of a block where no line states them: the targets of its branches, each once, in order of
-- appearance; then the next block in layout, if there is one, where control may fall into it
abbrev pub implied_successors : (place count : ℕ) → List (ℕ × InstrData) → List ℕ
implied_successors place count instrs =
    if falls_through instrs && not (suc place == count) then with_place (with_branches [] instrs) (suc place) else with_branches [] instrs

abbrev pub block_pieces : List ℕ → List (List Piece)
block_pieces [] = []
block_pieces (place ∷ places) = (block_piece place ∷ []) ∷ block_pieces places

abbrev pub physical_pieces : List ℕ → List (List Piece)
physical_pieces [] = []
physical_pieces (number ∷ numbers) = (physical_piece number ∷ []) ∷ physical_pieces numbers

-- `bb.0:`, `successors: %bb.1, %bb.2` and `liveins: $x10, $x11`
abbrev pub block_head_pieces : ℕ → List Piece
block_head_pieces place = word (codes "bb." ++ decimal place) ∷ mark 58 ∷ []

abbrev pub successors_pieces : List ℕ → List Piece
successors_pieces successors = word (codes "successors") ∷ mark 58 ∷ sources_pieces (block_pieces successors)

abbrev pub liveins_pieces : List ℕ → List Piece
liveins_pieces liveins = word (codes "liveins") ∷ mark 58 ∷ sources_pieces (physical_pieces liveins)

-- a list of successors is stated where it isn't empty, and where it is empty but wouldn't be without its line
abbrev pub states_successors : (successors implied : List ℕ) → Bool
states_successors [] [] = false
states_successors [] (place ∷ places) = true
states_successors (place ∷ places) implied = true

abbrev pub successors_lines : (successors implied : List ℕ) → List (List ℕ)
successors_lines successors implied = if states_successors successors implied then piece_bytes (Spaces 4 ∷ successors_pieces successors) ∷ [] else []

abbrev pub liveins_lines : List ℕ → List (List ℕ)
liveins_lines [] = []
liveins_lines (number ∷ numbers) = piece_bytes (Spaces 4 ∷ liveins_pieces (number ∷ numbers)) ∷ []

-- an empty line after lines, if there are any
abbrev pub set_off : List (List ℕ) → List (List ℕ)
set_off [] = []
set_off (line ∷ lines) = (line ∷ lines) ++ ([] ∷ [])

abbrev pub block_lines : (kinds : ℕ → Kind) (names : List (List ℕ)) (place count : ℕ) → BlockData → List (List ℕ)
block_lines kinds names place count block =
    piece_bytes (Spaces 2 ∷ block_head_pieces place)
    ∷ (set_off (successors_lines block.successors (implied_successors place count block.instrs) ++ liveins_lines block.liveins)
    ++ instr_lines kinds names block.instrs)

-- the blocks from a place on, with an empty line between each two
abbrev pub blocks_lines : (kinds : ℕ → Kind) (names : List (List ℕ)) (place count : ℕ) → List BlockData → List (List ℕ)
blocks_lines kinds names place count [] = []
blocks_lines kinds names place count (block ∷ []) = block_lines kinds names place count block
blocks_lines kinds names place count (block ∷ next ∷ blocks) =
    block_lines kinds names place count block ++ ([] ∷ blocks_lines kinds names (suc place) count (next ∷ blocks))

-- a line that stands where a key is true
abbrev pub key_lines : Bool → List ℕ → List (List ℕ)
key_lines false line = []
key_lines true line = line ∷ []

-- `  - { id: 0, size: 4, alignment: 4 }`
abbrev pub object_line : ℕ → StackObject → List ℕ
object_line place object = codes "  - { id: " ++ (decimal place ++ (codes ", size: " ++ (decimal object.size ++ (codes ", alignment: " ++ (decimal object.align ++ codes " }")))))

abbrev pub object_lines : ℕ → List StackObject → List (List ℕ)
object_lines place [] = []
object_lines place (object ∷ objects) = object_line place object ∷ object_lines (suc place) objects

abbrev pub stack_lines : List StackObject → List (List ℕ)
stack_lines [] = []
stack_lines (object ∷ objects) = codes "stack:" ∷ object_lines 0 (object ∷ objects)

-- the lines of a function, with the numbers that its registers have
abbrev pub printed_lines : (names : List (List ℕ)) → FunctionData → List (List ℕ)
printed_lines names f =
    codes "---"
    ∷ (codes "name:            " ++ name_at names f.name)
    ∷ (key_lines f.legalized (codes "legalized:       true")
    ++ (key_lines f.banked (codes "regBankSelected: true")
    ++ (key_lines f.selected (codes "selected:        true")
    ++ (codes "tracksRegLiveness: true"
    ∷ (stack_lines f.stack
    ++ (codes "body:             |"
    ∷ (blocks_lines (kind_of f) names 0 (length f.blocks) f.blocks
    ++ (codes "..." ∷ []))))))))

abbrev pub functions_lines : (names : List (List ℕ)) → List FunctionData → List (List ℕ)
functions_lines names [] = []
functions_lines names (f ∷ functions) = printed_lines names f ++ functions_lines names functions

-- the lines of the IR block, if there is one
abbrev pub ir_lines : Option (List (List ℕ)) → List (List ℕ)
ir_lines None = []
ir_lines (Some lines) = codes "--- |" ∷ (lines ++ (codes "..." ∷ []))

-- lines as bytes: a line feed ends each
abbrev pub text_of : List (List ℕ) → List ℕ
text_of [] = []
text_of (line ∷ lines) = line ++ (10 ∷ text_of lines)

-- the text of a module
abbrev pub printed : ModuleData → List ℕ
printed m = text_of (ir_lines m.ir ++ functions_lines m.names m.functions)
