-- The pieces of an instruction's line stand apart.
use Rattle.std.proofs.Common.{◌≡◌, ℕ, Bool, true, false, List, [], ◌∷◌, ◌++◌, Option, Some, None, sym, refl, subst, append_assoc}
use Rattle.gi_mir.specs.Names.{name_at}
use Rattle.std.specs.Prelude.{◌==◌, if◌then◌else◌, codes, decimal, ⊤}
use Rattle.std.specs.Fmt.{signed_decimal}
use Rattle.std.specs.List.{list_all}
use Rattle.std.proofs.lemmas.Bool.{and_parts}
use Rattle.gi_llt.specs.Bits.{signed}
use Rattle.gi_llt.specs.Tokens.{LexemeKind, Word, Number, Register, Physical, Global as GlobalName, Routine as RoutineName, Mark, is_word_byte, Piece, Spaces, token, piece_bytes, is_formed, is_ended, IsApart}
use Rattle.gi_llt.proofs.Pieces.{is_stopped}
use Rattle.gi_llt.proofs.Apart.{decimal_words, decimal_number, signed_decimal_number, decimal_register, ended_from_stopped}
use Rattle.gi_llt.specs.declared.Llt.{Llt}
use Rattle.gi_llt.specs.declared.Llt.TheVariants.{Scalar, Pointer}
use Rattle.gi_mir.specs.declared.opcode.Opcode.{Opcode}
use Rattle.gi_mir.specs.declared.opcode.Opcode.TheVariants.{Copy}
use Rattle.gi_mir.specs.declared.operand.Kind.{Kind}
use Rattle.gi_mir.specs.declared.operand.Kind.TheVariants.{Generic, Banked, Class}
use Rattle.gi_mir.specs.declared.operand.Pred.{Pred}
use Rattle.gi_mir.specs.declared.operand.Pred.TheVariants.{Eq}
use Rattle.gi_mir.specs.declared.operand.Flags.{Flags}
use Rattle.gi_mir.specs.declared.operand.MemOp.{MemOp}
use Rattle.gi_mir.specs.declared.operand.SymbolFlag.{SymbolFlag}
use Rattle.gi_mir.specs.declared.operand.SymbolFlag.TheVariants.{Plain, Call, Hi, Lo}
use Rattle.gi_mir.specs.declared.operand.Operand.{Operand}
use Rattle.gi_mir.specs.declared.operand.Operand.TheVariants.{Def, Use, Phys, PhysDef, ImplicitUse, ImplicitDef, Int, Constant, Block, Predicate, Frame, Global, Routine, SavedMask}
use Rattle.gi_mir.specs.declared.row.Form.{Form}
use Rattle.gi_mir.specs.Data.{InstrData}
use Rattle.gi_mir.specs.Registers.{type_of_kind}
use Rattle.gi_mir.specs.Row.{word_of, rows_of}
use Rattle.gi_mir.specs.Routines.{routine_names}
use Rattle.gi_spelling.specs.Printed.{mark, word, listed, bracketed, type_piece, register_piece, physical_piece, block_piece, frame_piece, kind_pieces, shown_type, predicate_word, symbol_flag_pieces, constant_pieces, use_pieces, operand_pieces, definitions_of, sources_of, source_forms, first_row, is_typed_by, forms_after, source_pieces, definition_pieces, defined_pieces, flag_pieces, flags_pieces, sources_pieces, usual_align, align_pieces, memory_pieces, instr_pieces}
use Rattle.gi_spelling.specs.Documents.{is_name}
use Rattle.gi_spelling.proofs.Nameable.{is_named_operand}

-- what follows begins with no word byte
abbrev pub is_closed : List Piece → Bool
is_closed pieces = is_stopped is_word_byte (piece_bytes pieces)

-- pieces that stand apart before whatever does and begins with no word byte
abbrev pub IsSafe : List Piece → Type 0
IsSafe pieces = (after : List Piece) → IsApart after → is_closed after ≡ true → IsApart (pieces ++ after)

-- one token
one_safe : (kind : LexemeKind) (bytes : List ℕ) → is_formed kind bytes ≡ true → IsSafe (token kind bytes ∷ [])
one_safe kind bytes formed after apart closed = (formed, ended_from_stopped kind (piece_bytes after) closed, apart)

bracketed_type : (ty : Llt) → IsSafe (bracketed (type_piece ty ∷ []))
bracketed_type (Scalar bits) after apart closed = (refl, refl, (decimal_words bits, refl, (refl, ended_from_stopped Mark (piece_bytes after) closed, apart)))
bracketed_type Pointer after apart closed = (refl, refl, (refl, refl, (refl, ended_from_stopped Mark (piece_bytes after) closed, apart)))

shown_safe : (shown : Option Llt) → IsSafe (shown_type shown)
shown_safe None after apart closed = apart
shown_safe (Some ty) after apart closed = bracketed_type ty after apart closed

shown_closed : (shown : Option Llt) (after : List Piece) → is_closed after ≡ true → is_closed (shown_type shown ++ after) ≡ true
shown_closed None after closed = closed
shown_closed (Some ty) after closed = refl

kind_safe : (kind : Kind) → IsSafe (kind_pieces kind)
kind_safe (Generic ty) after apart closed = (refl, refl, (refl, refl, bracketed_type ty after apart closed))
kind_safe (Banked ty) after apart closed = (refl, refl, (refl, refl, bracketed_type ty after apart closed))
kind_safe Class after apart closed = (refl, refl, (refl, ended_from_stopped Word (piece_bytes after) closed, apart))

kind_closed : (kind : Kind) (after : List Piece) → is_closed (kind_pieces kind ++ after) ≡ true
kind_closed (Generic ty) after = refl
kind_closed (Banked ty) after = refl
kind_closed Class after = refl

register_before : (number : ℕ) (after : List Piece) → IsApart after → is_closed after ≡ true → IsApart (register_piece number ∷ after)
register_before number after apart closed = (decimal_register number, ended_from_stopped Register (piece_bytes after) closed, apart)

use_safe : (number : ℕ) (shown : Option Llt) → IsSafe (use_pieces number shown)
use_safe number shown after apart closed =
    register_before number (shown_type shown ++ after) (shown_safe shown after apart closed) (shown_closed shown after closed)

def_safe : (number : ℕ) (kind : Kind) → IsSafe (register_piece number ∷ kind_pieces kind)
def_safe number kind after apart closed =
    register_before number (kind_pieces kind ++ after) (kind_safe kind after apart closed) (kind_closed kind after)

pub physical_safe : (number : ℕ) → IsSafe (physical_piece number ∷ [])
physical_safe number = one_safe Physical (36 ∷ 120 ∷ decimal number) (decimal_words number)

pub block_safe : (place : ℕ) → IsSafe (block_piece place ∷ [])
block_safe place = one_safe Register (codes "%bb." ++ decimal place) (decimal_words place)

frame_safe : (place : ℕ) → IsSafe (frame_piece place ∷ [])
frame_safe place = one_safe Register (codes "%stack." ++ decimal place) (decimal_words place)

bit_formed : (bit : Bool) → is_formed Word (if bit then codes "true" else codes "false") ≡ true
bit_formed true = refl
bit_formed false = refl

constant_safe : (bits value : ℕ) → IsSafe (constant_pieces bits value)
constant_safe bits value after apart closed = (decimal_words bits, refl, go (bits == 1))
  where
    go : (is_bit : Bool) → IsApart ((if is_bit then word (if value == 1 then codes "true" else codes "false") else token Number (signed_decimal (signed bits value))) ∷ after)
    go true = (bit_formed (value == 1), ended_from_stopped Word (piece_bytes after) closed, apart)
    go false = (signed_decimal_number (signed bits value), ended_from_stopped Number (piece_bytes after) closed, apart)

predicate_safe : (pred : Pred) → IsSafe (word (codes "intpred") ∷ bracketed (word (predicate_word pred) ∷ []))
predicate_safe Eq after apart closed = (refl, refl, (refl, refl, (refl, refl, (refl, ended_from_stopped Mark (piece_bytes after) closed, apart))))
predicate_safe _ after apart closed = (refl, refl, (refl, refl, (refl, refl, (refl, ended_from_stopped Mark (piece_bytes after) closed, apart))))

-- a symbol's flag ends in a space, so anything may follow it
symbol_apart : (flag : SymbolFlag) (after : List Piece) → IsApart after → IsApart (symbol_flag_pieces flag ++ after)
symbol_apart Plain after apart = apart
symbol_apart Call after apart = (refl, refl, (refl, refl, (refl, refl, (refl, refl, apart))))
symbol_apart Hi after apart = (refl, refl, (refl, refl, (refl, refl, (refl, refl, apart))))
symbol_apart Lo after apart = (refl, refl, (refl, refl, (refl, refl, (refl, refl, apart))))

global_formed : (name : List ℕ) → is_name name ≡ true → is_formed GlobalName (64 ∷ name) ≡ true
global_formed [] named = named
global_formed (byte ∷ more) named = named

routine_formed : (name : List ℕ) → is_name name ≡ true → is_formed RoutineName (38 ∷ name) ≡ true
routine_formed [] named = named
routine_formed (byte ∷ more) named = named

symbol_safe : (flag : SymbolFlag) (piece : Piece) → IsSafe (piece ∷ []) → IsSafe (symbol_flag_pieces flag ++ (piece ∷ []))
symbol_safe flag piece safe after apart closed =
    subst IsApart (sym (append_assoc (symbol_flag_pieces flag) (piece ∷ []) after)) (symbol_apart flag (piece ∷ after) (safe after apart closed))

operand_safe : (kinds : ℕ → Kind) (names : List (List ℕ)) (is_typed : Bool) (operand : Operand) → is_named_operand names operand ≡ true
    → IsSafe (operand_pieces kinds names is_typed operand)
operand_safe kinds names is_typed (Def reg kind) named = def_safe reg.0 kind
operand_safe kinds names is_typed (Use reg) named = use_safe reg.0 (if is_typed then type_of_kind (kinds reg.0) else None)
operand_safe kinds names is_typed (Phys number) named = physical_safe number
operand_safe kinds names is_typed (PhysDef number) named = physical_safe number
operand_safe kinds names is_typed (ImplicitUse number) named = λ after apart closed. (refl, refl, physical_safe number after apart closed)
operand_safe kinds names is_typed (ImplicitDef number) named = λ after apart closed. (refl, refl, physical_safe number after apart closed)
operand_safe kinds names is_typed (Int value) named = one_safe Number (signed_decimal value) (signed_decimal_number value)
operand_safe kinds names is_typed (Constant bits value) named = constant_safe bits value
operand_safe kinds names is_typed (Block place) named = block_safe place
operand_safe kinds names is_typed (Predicate pred) named = predicate_safe pred
operand_safe kinds names is_typed (Frame place) named = frame_safe place
operand_safe kinds names is_typed (Global flag name) named =
    symbol_safe flag (token GlobalName (64 ∷ name_at names name)) (one_safe GlobalName (64 ∷ name_at names name) (global_formed (name_at names name) named))
operand_safe kinds names is_typed (Routine flag place) named =
    symbol_safe flag (token RoutineName (38 ∷ name_at routine_names place)) (one_safe RoutineName (38 ∷ name_at routine_names place) (routine_formed (name_at routine_names place) named))
operand_safe kinds names is_typed SavedMask named = one_safe Word (codes "csr_ilp32_lp64") refl

-- each of a list of cells
abbrev pub AllSafe : List (List Piece) → Type 0
AllSafe [] = ⊤
AllSafe (cell ∷ cells) = IsSafe cell × AllSafe cells

listed_safe : (cells : List (List Piece)) → AllSafe cells → IsSafe (listed cells)
listed_safe [] safe after apart closed = apart
listed_safe (cell ∷ []) safe after apart closed = safe.0 after apart closed
listed_safe (cell ∷ next ∷ cells) safe after apart closed =
    subst IsApart (sym (append_assoc cell (mark 44 ∷ Spaces 1 ∷ listed (next ∷ cells)) after))
    (safe.0 ((mark 44 ∷ Spaces 1 ∷ listed (next ∷ cells)) ++ after) (refl, refl, listed_safe (next ∷ cells) safe.1 after apart closed) refl)

pub sources_apart : (cells : List (List Piece)) → AllSafe cells → IsSafe (sources_pieces cells)
sources_apart [] safe after apart closed = apart
sources_apart (cell ∷ cells) safe after apart closed = listed_safe (cell ∷ cells) safe after apart closed

pub sources_closed : (cells : List (List Piece)) (after : List Piece) → is_closed after ≡ true → is_closed (sources_pieces cells ++ after) ≡ true
sources_closed [] after closed = closed
sources_closed (cell ∷ cells) after closed = refl

source_safe : (kinds : ℕ → Kind) (names : List (List ℕ)) (forms : List Form) (operands : List Operand) → list_all (is_named_operand names) operands ≡ true
    → AllSafe (source_pieces kinds names forms operands)
source_safe kinds names forms [] named = tt
source_safe kinds names forms (operand ∷ operands) named =
    let parts = and_parts (is_named_operand names operand) (list_all (is_named_operand names) operands) named in
    (operand_safe kinds names (is_typed_by forms) operand parts.0, source_safe kinds names (forms_after forms) operands parts.1)

-- definitions need no names
defined_named : (operands : List Operand) → list_all (is_named_operand []) (definitions_of operands) ≡ true
defined_named [] = refl
defined_named (Def reg kind ∷ operands) = defined_named operands
defined_named (PhysDef number ∷ operands) = defined_named operands
defined_named (_ ∷ operands) = refl

definition_safe : (operands : List Operand) → list_all (is_named_operand []) operands ≡ true → AllSafe (definition_pieces operands)
definition_safe [] named = tt
definition_safe (operand ∷ operands) named =
    let parts = and_parts (is_named_operand [] operand) (list_all (is_named_operand []) operands) named in
    (operand_safe (λ reg. Class) [] false operand parts.0, definition_safe operands parts.1)

-- what stands before `=` ends in a space, and so do flags
defined_apart : (cells : List (List Piece)) → AllSafe cells → (after : List Piece) → IsApart after → IsApart (defined_pieces cells ++ after)
defined_apart [] safe after apart = apart
defined_apart (cell ∷ cells) safe after apart =
    subst IsApart (sym (append_assoc (listed (cell ∷ cells)) (Spaces 1 ∷ mark 61 ∷ Spaces 1 ∷ []) after))
    (listed_safe (cell ∷ cells) safe (Spaces 1 ∷ mark 61 ∷ Spaces 1 ∷ after) (refl, refl, apart) refl)

flag_apart : (flag : Bool) (bytes : List ℕ) (after : List Piece) → is_formed Word bytes ≡ true → IsApart after → IsApart (flag_pieces flag bytes ++ after)
flag_apart false bytes after formed apart = apart
flag_apart true bytes after formed apart = (formed, refl, apart)

flags_apart : (flags : Flags) (after : List Piece) → IsApart after → IsApart (flags_pieces flags ++ after)
flags_apart flags after apart =
    let nuw = flag_pieces flags.nuw (codes "nuw") in
    let nsw = flag_pieces flags.nsw (codes "nsw") in
    let exact = flag_pieces flags.exact (codes "exact") in
    let disjoint = flag_pieces flags.disjoint (codes "disjoint") in
    let nneg = flag_pieces flags.nneg (codes "nneg") in
    let regrouped : (nuw ++ (nsw ++ (exact ++ (disjoint ++ nneg)))) ++ after ≡ nuw ++ (nsw ++ (exact ++ (disjoint ++ (nneg ++ after)))) = simp append_assoc in
    subst IsApart (sym regrouped)
    (flag_apart flags.nuw (codes "nuw") (nsw ++ (exact ++ (disjoint ++ (nneg ++ after)))) refl
    (flag_apart flags.nsw (codes "nsw") (exact ++ (disjoint ++ (nneg ++ after))) refl
    (flag_apart flags.exact (codes "exact") (disjoint ++ (nneg ++ after)) refl
    (flag_apart flags.disjoint (codes "disjoint") (nneg ++ after) refl
    (flag_apart flags.nneg (codes "nneg") after refl apart)))))

-- the word of every opcode
op_formed : (op : Opcode) → is_formed Word (word_of op) ≡ true
op_formed Copy = refl
op_formed _ = refl

align_apart : (align usual : ℕ) → IsSafe (align_pieces align usual)
align_apart align usual after apart closed = go (align == usual)
  where
    go : (is_usual : Bool) → IsApart ((if is_usual then [] else mark 44 ∷ Spaces 1 ∷ word (codes "align") ∷ Spaces 1 ∷ token Number (decimal align) ∷ []) ++ after)
    go true = apart
    go false = (refl, refl, (refl, refl, (decimal_number align, ended_from_stopped Number (piece_bytes after) closed, apart)))

align_closed : (align usual : ℕ) (after : List Piece) → is_closed after ≡ true → is_closed (align_pieces align usual ++ after) ≡ true
align_closed align usual after closed = go (align == usual)
  where
    go : (is_usual : Bool) → is_closed ((if is_usual then [] else mark 44 ∷ Spaces 1 ∷ word (codes "align") ∷ Spaces 1 ∷ token Number (decimal align) ∷ []) ++ after) ≡ true
    go true = closed
    go false = refl

access_formed : (load : Bool) → is_formed Word (if load then codes "load" else codes "store") ≡ true
access_formed true = refl
access_formed false = refl

access_ended : (load : Bool) (after : List Piece) → is_ended Mark (piece_bytes (word (if load then codes "load" else codes "store") ∷ after)) ≡ true
access_ended true after = refl
access_ended false after = refl

memory_apart : (mem : Option MemOp) → IsApart (memory_pieces mem)
memory_apart None = tt
memory_apart (Some memory) =
    let aligned = align_pieces memory.align (usual_align memory.ty) in
    let end : IsApart (aligned ++ (mark 41 ∷ [])) = align_apart memory.align (usual_align memory.ty) (mark 41 ∷ []) (refl, refl, tt) refl in
    let closed : is_closed (aligned ++ (mark 41 ∷ [])) ≡ true = align_closed memory.align (usual_align memory.ty) (mark 41 ∷ []) refl in
    let typed : IsApart (bracketed (type_piece memory.ty ∷ []) ++ (aligned ++ (mark 41 ∷ []))) = bracketed_type memory.ty (aligned ++ (mark 41 ∷ [])) end closed in
    (refl, refl, (refl, refl, (refl, access_ended memory.load (Spaces 1 ∷ (bracketed (type_piece memory.ty ∷ []) ++ (aligned ++ (mark 41 ∷ [])))), (access_formed memory.load, refl, typed))))

memory_closed : (mem : Option MemOp) → is_closed (memory_pieces mem) ≡ true
memory_closed None = refl
memory_closed (Some memory) = refl

sources_named : (names : List (List ℕ)) (operands : List Operand) → list_all (is_named_operand names) operands ≡ true → list_all (is_named_operand names) (sources_of operands) ≡ true
sources_named names [] named = refl
sources_named names (Def reg kind ∷ operands) named = sources_named names operands named
sources_named names (PhysDef number ∷ operands) named = sources_named names operands named
sources_named names (_ ∷ operands) named = named

-- the pieces of an instruction stand apart
pub instr_apart : (kinds : ℕ → Kind) (names : List (List ℕ)) (instr : InstrData) → list_all (is_named_operand names) instr.operands ≡ true
    → IsApart (instr_pieces kinds names instr)
instr_apart kinds names instr named =
    let cells = source_pieces kinds names (source_forms (first_row (rows_of instr.op))) (sources_of instr.operands) in
    let safe : AllSafe cells = source_safe kinds names (source_forms (first_row (rows_of instr.op))) (sources_of instr.operands) (sources_named names instr.operands named) in
    let after : IsApart (sources_pieces cells ++ memory_pieces instr.mem) =
    sources_apart cells safe (memory_pieces instr.mem) (memory_apart instr.mem) (memory_closed instr.mem) in
    let closed : is_closed (sources_pieces cells ++ memory_pieces instr.mem) ≡ true = sources_closed cells (memory_pieces instr.mem) (memory_closed instr.mem) in
    let ended : is_ended Word (piece_bytes (sources_pieces cells ++ memory_pieces instr.mem)) ≡ true =
    ended_from_stopped Word (piece_bytes (sources_pieces cells ++ memory_pieces instr.mem)) closed in
    let worded : IsApart (word (word_of instr.op) ∷ (sources_pieces cells ++ memory_pieces instr.mem)) = (op_formed instr.op, ended, after) in
    defined_apart (definition_pieces (definitions_of instr.operands)) (definition_safe (definitions_of instr.operands) (defined_named instr.operands))
    (flags_pieces instr.flags ++ (word (word_of instr.op) ∷ (sources_pieces cells ++ memory_pieces instr.mem)))
    (flags_apart instr.flags (word (word_of instr.op) ∷ (sources_pieces cells ++ memory_pieces instr.mem)) worded)
