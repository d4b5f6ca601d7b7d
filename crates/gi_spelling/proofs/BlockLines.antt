-- The lines of a printed block are read as its head, its lists and its instructions.
use Rattle.std.proofs.Common.{◌≡◌, ℕ, suc, Bool, true, false, List, [], ◌∷◌, ◌++◌, Some, refl, ap, ◌∙◌, subst}
use Rattle.std.specs.Prelude.{◌||◌, ◌&&◌, not, bytes_eq, nat_eq, codes, decimal, ⊤}
use Rattle.std.specs.List.{list_all, starts_with}
use Rattle.std.proofs.lemmas.Bool.{and_parts, not-true, or_from, and_left, and_right}
use Rattle.std.proofs.lemmas.List.{append-nil}
use Rattle.gi_llt.specs.Tokens.{LexemeKind, Word, Register, Physical, Mark, Lexeme, lexeme, is_blank, Piece, Spaces, token, tokens_of, piece_bytes, piece_lexemes, is_ended, IsApart}
use Rattle.gi_llt.proofs.Pieces.{is_stopped, tokens_of-pieces}
use Rattle.gi_llt.proofs.Apart.{decimal_words, is_no_feed, pieces_no_feed}
use Rattle.gi_mir.specs.declared.opcode.Opcode.{Opcode}
use Rattle.gi_mir.specs.declared.opcode.Opcode.TheVariants.{Copy}
use Rattle.gi_mir.specs.declared.operand.Kind.{Kind}
use Rattle.gi_mir.specs.declared.operand.Flags.{Flags}
use Rattle.gi_mir.specs.declared.operand.Operand.{Operand}
use Rattle.gi_mir.specs.declared.operand.Operand.TheVariants.{Def, PhysDef}
use Rattle.gi_mir.specs.Data.{InstrData}
use Rattle.gi_mir.specs.Row.{word_of, rows_of}
use Rattle.gi_spelling.specs.Printed.{mark, word, listed, kind_pieces, definitions_of, sources_of, source_forms, first_row, source_pieces, definition_pieces, defined_pieces, flag_pieces, flags_pieces, sources_pieces, memory_pieces, instr_pieces, instr_line, instr_lines, block_pieces, physical_pieces, block_head_pieces, successors_pieces, liveins_pieces}
use Rattle.gi_spelling.proofs.PlainLines.{line_items, is_word_kind, begins_block, is_block_head, begins_list, lists, is_list_line}
use Rattle.gi_spelling.specs.Lines.{is_empty_line, is_dropped}
use Rattle.gi_spelling.proofs.Nameable.{is_named_instr}
use Rattle.gi_spelling.proofs.InstrPieces.{AllSafe, sources_apart, instr_apart, block_safe, physical_safe}

-- the first token of an instruction is no block's head and no list's key
abbrev pub is_instr_start : Lexeme → Bool
is_instr_start first = not (starts_with nat_eq first.bytes (codes "bb.")) && not (bytes_eq first.bytes (codes "successors")) && not (bytes_eq first.bytes (codes "liveins"))

pub record Starts (lexemes : List Lexeme) : Type 0 where
  pub first : Lexeme
  pub rest : List Lexeme
  pub whole : lexemes ≡ first ∷ rest
  pub fine : is_instr_start first ≡ true

op_starts : (op : Opcode) → is_instr_start (lexeme Word (word_of op)) ≡ true
op_starts Copy = refl
op_starts _ = refl

listed_first : (piece : Piece) (cell : List Piece) (cells : List (List Piece)) → (after : List Piece) × (listed ((piece ∷ cell) ∷ cells) ≡ piece ∷ after)
listed_first piece cell [] = (cell, refl)
listed_first piece cell (next ∷ cells) = (cell ++ (mark 44 ∷ Spaces 1 ∷ listed (next ∷ cells)), refl)

token_starts : (kind : LexemeKind) (bytes : List ℕ) (cell : List Piece) (cells : List (List Piece)) (after : List Piece) → is_instr_start (lexeme kind bytes) ≡ true
    → Starts (piece_lexemes (defined_pieces ((token kind bytes ∷ cell) ∷ cells) ++ after))
token_starts kind bytes cell cells after fine =
    let (more, e) = listed_first (token kind bytes) cell cells in
    record {
      first = lexeme kind bytes;
      rest = piece_lexemes ((more ++ (Spaces 1 ∷ mark 61 ∷ Spaces 1 ∷ [])) ++ after);
      whole = ap (λ pieces. piece_lexemes ((pieces ++ (Spaces 1 ∷ mark 61 ∷ Spaces 1 ∷ [])) ++ after)) e;
      fine = fine;
    }

flags_start : (nuw nsw exact disjoint nneg : Bool) (op : Opcode) (after : List Piece)
    → Starts (piece_lexemes ((flag_pieces nuw (codes "nuw") ++ (flag_pieces nsw (codes "nsw") ++ (flag_pieces exact (codes "exact")
    ++ (flag_pieces disjoint (codes "disjoint") ++ flag_pieces nneg (codes "nneg"))))) ++ (word (word_of op) ∷ after)))
flags_start true nsw exact disjoint nneg op after = record { first = _; rest = _; whole = refl; fine = refl }
flags_start false true exact disjoint nneg op after = record { first = _; rest = _; whole = refl; fine = refl }
flags_start false false true disjoint nneg op after = record { first = _; rest = _; whole = refl; fine = refl }
flags_start false false false true nneg op after = record { first = _; rest = _; whole = refl; fine = refl }
flags_start false false false false true op after = record { first = _; rest = _; whole = refl; fine = refl }
flags_start false false false false false op after = record { first = _; rest = _; whole = refl; fine = op_starts op }

instr_starts_by : (operands : List Operand) (flags : Flags) (op : Opcode) (after : List Piece)
    → Starts (piece_lexemes (defined_pieces (definition_pieces (definitions_of operands)) ++ (flags_pieces flags ++ (word (word_of op) ∷ after))))
instr_starts_by [] flags op after = flags_start flags.nuw flags.nsw flags.exact flags.disjoint flags.nneg op after
instr_starts_by (Def reg kind ∷ operands) flags op after =
    token_starts Register (37 ∷ decimal reg.0) (kind_pieces kind) (definition_pieces (definitions_of operands)) (flags_pieces flags ++ (word (word_of op) ∷ after)) refl
instr_starts_by (PhysDef number ∷ operands) flags op after =
    token_starts Physical (36 ∷ 120 ∷ decimal number) [] (definition_pieces (definitions_of operands)) (flags_pieces flags ++ (word (word_of op) ∷ after)) refl
instr_starts_by (_ ∷ operands) flags op after = flags_start flags.nuw flags.nsw flags.exact flags.disjoint flags.nneg op after

instr_starts : (kinds : ℕ → Kind) (names : List (List ℕ)) (instr : InstrData) → Starts (piece_lexemes (instr_pieces kinds names instr))
instr_starts kinds names instr = instr_starts_by instr.operands instr.flags instr.op
    (sources_pieces (source_pieces kinds names (source_forms (first_row (rows_of instr.op))) (sources_of instr.operands)) ++ memory_pieces instr.mem)

-- what the tests of lines say of such tokens
no_block : (lexemes : List Lexeme) → Starts lexemes → begins_block (Some lexemes) ≡ false
no_block lexemes s =
    let outer = and_parts (not (starts_with nat_eq s.first.bytes (codes "bb.")) && not (bytes_eq s.first.bytes (codes "successors"))) (not (bytes_eq s.first.bytes (codes "liveins"))) s.fine in
    let inner = and_parts (not (starts_with nat_eq s.first.bytes (codes "bb."))) (not (bytes_eq s.first.bytes (codes "successors"))) outer.0 in
    ap (λ ls. begins_block (Some ls)) s.whole
    ∙ and_right (is_word_kind s.first.kind) (starts_with nat_eq s.first.bytes (codes "bb.")) (not-true (starts_with nat_eq s.first.bytes (codes "bb.")) inner.0)

no_list_from : (key : List ℕ) (first : Lexeme) (rest : List Lexeme) → bytes_eq first.bytes key ≡ false → begins_list key (Some (first ∷ rest)) ≡ false
no_list_from key first [] other = refl
no_list_from key first (second ∷ rest) other = and_left (bytes_eq first.bytes key) (bytes_eq second.bytes (58 ∷ [])) other

no_list : (lexemes : List Lexeme) → Starts lexemes → (begins_list (codes "successors") (Some lexemes) || begins_list (codes "liveins") (Some lexemes)) ≡ false
no_list lexemes s =
    let outer = and_parts (not (starts_with nat_eq s.first.bytes (codes "bb.")) && not (bytes_eq s.first.bytes (codes "successors"))) (not (bytes_eq s.first.bytes (codes "liveins"))) s.fine in
    let inner = and_parts (not (starts_with nat_eq s.first.bytes (codes "bb."))) (not (bytes_eq s.first.bytes (codes "successors"))) outer.0 in
    let one : begins_list (codes "successors") (Some lexemes) ≡ false =
    ap (λ ls. begins_list (codes "successors") (Some ls)) s.whole
    ∙ no_list_from (codes "successors") s.first s.rest (not-true (bytes_eq s.first.bytes (codes "successors")) inner.1) in
    let two : begins_list (codes "liveins") (Some lexemes) ≡ false =
    ap (λ ls. begins_list (codes "liveins") (Some ls)) s.whole
    ∙ no_list_from (codes "liveins") s.first s.rest (not-true (bytes_eq s.first.bytes (codes "liveins")) outer.1) in
    or_from (begins_list (codes "successors") (Some lexemes)) (begins_list (codes "liveins") (Some lexemes)) one two

-- P of each line
abbrev pub EachLine : (P : List ℕ → Type 0) → List (List ℕ) → Type 0
EachLine P [] = ⊤
EachLine P (line ∷ lines) = P line × EachLine P lines

pub each-append : (P : List ℕ → Type 0) (xs ys : List (List ℕ)) → EachLine P xs → EachLine P ys → EachLine P (xs ++ ys)
each-append P [] ys first second = second
each-append P (line ∷ xs) ys first second = (first.0, each-append P xs ys first.1 second)

pub each-weaker : (P Q : List ℕ → Type 0) → ((line : List ℕ) → P line → Q line) → (lines : List (List ℕ)) → EachLine P lines → EachLine Q lines
each-weaker P Q weaker [] each = tt
each-weaker P Q weaker (line ∷ lines) each = (weaker line each.0, each-weaker P Q weaker lines each.1)

-- a line that is indented and counts
abbrev pub begins_blank : List ℕ → Bool
begins_blank [] = false
begins_blank (byte ∷ rest) = is_blank byte

pub record IsInner (line : List ℕ) : Type 0 where
  pub indented : begins_blank line ≡ true
  pub kept : is_dropped line ≡ false
  pub no_feed : list_all is_no_feed line ≡ true

-- a line of pieces, some spaces in
line_items-pieces : (count : ℕ) (pieces : List Piece) → IsApart pieces → line_items (piece_bytes (Spaces count ∷ pieces)) ≡ Some (piece_lexemes pieces)
line_items-pieces count pieces apart = tokens_of-pieces (Spaces count ∷ pieces) apart

pub inner_line : (count : ℕ) (pieces : List Piece) (first : Lexeme) (rest : List Lexeme) → IsApart pieces → piece_lexemes pieces ≡ first ∷ rest
    → IsInner (piece_bytes (Spaces (suc count) ∷ pieces))
inner_line count pieces first rest apart whole =
    let read : tokens_of (piece_bytes (Spaces (suc count) ∷ pieces)) ≡ Some (first ∷ rest) = tokens_of-pieces (Spaces (suc count) ∷ pieces) apart ∙ ap Some whole in
    record { indented = refl; kept = ap is_empty_line read; no_feed = pieces_no_feed (Spaces (suc count) ∷ pieces) apart }

-- the lines of instructions
instr_inner : (kinds : ℕ → Kind) (names : List (List ℕ)) (instr : ℕ × InstrData) → is_named_instr names instr ≡ true → IsInner (instr_line kinds names instr.1)
instr_inner kinds names instr named =
    let s = instr_starts kinds names instr.1 in
    inner_line 3 (instr_pieces kinds names instr.1) s.first s.rest (instr_apart kinds names instr.1 named) s.whole

pub instrs_inner : (kinds : ℕ → Kind) (names : List (List ℕ)) (instrs : List (ℕ × InstrData)) → list_all (is_named_instr names) instrs ≡ true
    → EachLine IsInner (instr_lines kinds names instrs)
instrs_inner kinds names [] named = tt
instrs_inner kinds names (instr ∷ instrs) named =
    let parts = and_parts (is_named_instr names instr) (list_all (is_named_instr names) instrs) named in
    (instr_inner kinds names instr parts.0, instrs_inner kinds names instrs parts.1)

pub instr_items : (kinds : ℕ → Kind) (names : List (List ℕ)) (instr : ℕ × InstrData) → is_named_instr names instr ≡ true
    → line_items (instr_line kinds names instr.1) ≡ Some (piece_lexemes (instr_pieces kinds names instr.1))
instr_items kinds names instr named = line_items-pieces 4 (instr_pieces kinds names instr.1) (instr_apart kinds names instr.1 named)

pub instr_no_block : (kinds : ℕ → Kind) (names : List (List ℕ)) (instr : ℕ × InstrData) → is_named_instr names instr ≡ true → is_block_head (instr_line kinds names instr.1) ≡ false
instr_no_block kinds names instr named =
    ap begins_block (instr_items kinds names instr named) ∙ no_block (piece_lexemes (instr_pieces kinds names instr.1)) (instr_starts kinds names instr.1)

pub instrs_no_block : (kinds : ℕ → Kind) (names : List (List ℕ)) (instrs : List (ℕ × InstrData)) → list_all (is_named_instr names) instrs ≡ true
    → EachLine (λ line. is_block_head line ≡ false) (instr_lines kinds names instrs)
instrs_no_block kinds names [] named = tt
instrs_no_block kinds names (instr ∷ instrs) named =
    let parts = and_parts (is_named_instr names instr) (list_all (is_named_instr names) instrs) named in
    (instr_no_block kinds names instr parts.0, instrs_no_block kinds names instrs parts.1)

pub instr_no_list : (kinds : ℕ → Kind) (names : List (List ℕ)) (instr : ℕ × InstrData) → is_named_instr names instr ≡ true → is_list_line (instr_line kinds names instr.1) ≡ false
instr_no_list kinds names instr named =
    ap (λ items. begins_list (codes "successors") items || begins_list (codes "liveins") items) (instr_items kinds names instr named)
    ∙ no_list (piece_lexemes (instr_pieces kinds names instr.1)) (instr_starts kinds names instr.1)

pub instrs_stop : (kinds : ℕ → Kind) (names : List (List ℕ)) (instrs : List (ℕ × InstrData)) → list_all (is_named_instr names) instrs ≡ true
    → is_stopped is_list_line (instr_lines kinds names instrs) ≡ true
instrs_stop kinds names [] named = refl
instrs_stop kinds names (instr ∷ instrs) named =
    let parts = and_parts (is_named_instr names instr) (list_all (is_named_instr names) instrs) named in
    ap not (instr_no_list kinds names instr parts.0)

-- the line of a block's head
pub head_apart : (place : ℕ) → IsApart (block_head_pieces place)
head_apart place = (decimal_words place, refl, (refl, refl, tt))

abbrev pub head_line : ℕ → List ℕ
head_line place = piece_bytes (Spaces 2 ∷ block_head_pieces place)

pub head_items : (place : ℕ) → line_items (head_line place) ≡ Some (piece_lexemes (block_head_pieces place))
head_items place = line_items-pieces 2 (block_head_pieces place) (head_apart place)

pub head_inner : (place : ℕ) → IsInner (head_line place)
head_inner place = inner_line 1 (block_head_pieces place) (lexeme Word (codes "bb." ++ decimal place)) (lexeme Mark (58 ∷ []) ∷ []) (head_apart place) refl

pub head_begins : (place : ℕ) → is_block_head (head_line place) ≡ true
head_begins place = ap begins_block (head_items place)

-- the lines of its lists
blocks_safe : (places : List ℕ) → AllSafe (block_pieces places)
blocks_safe [] = tt
blocks_safe (place ∷ places) = (block_safe place, blocks_safe places)

physicals_safe : (numbers : List ℕ) → AllSafe (physical_pieces numbers)
physicals_safe [] = tt
physicals_safe (number ∷ numbers) = (physical_safe number, physicals_safe numbers)

colon_ended : (cells : List (List Piece)) → is_ended Mark (piece_bytes (sources_pieces cells)) ≡ true
colon_ended [] = refl
colon_ended (cell ∷ cells) = refl

listed_after : (cells : List (List Piece)) → AllSafe cells → IsApart (mark 58 ∷ sources_pieces cells)
listed_after cells safe = (refl, colon_ended cells, subst IsApart (append-nil (sources_pieces cells)) (sources_apart cells safe [] tt refl))

pub successors_apart : (successors : List ℕ) → IsApart (successors_pieces successors)
successors_apart successors = (refl, refl, listed_after (block_pieces successors) (blocks_safe successors))

pub liveins_apart : (liveins : List ℕ) → IsApart (liveins_pieces liveins)
liveins_apart liveins = (refl, refl, listed_after (physical_pieces liveins) (physicals_safe liveins))

abbrev pub successors_line : List ℕ → List ℕ
successors_line successors = piece_bytes (Spaces 4 ∷ successors_pieces successors)

abbrev pub liveins_line : List ℕ → List ℕ
liveins_line liveins = piece_bytes (Spaces 4 ∷ liveins_pieces liveins)

pub successors_items : (successors : List ℕ) → line_items (successors_line successors) ≡ Some (piece_lexemes (successors_pieces successors))
successors_items successors = line_items-pieces 4 (successors_pieces successors) (successors_apart successors)

pub liveins_items : (liveins : List ℕ) → line_items (liveins_line liveins) ≡ Some (piece_lexemes (liveins_pieces liveins))
liveins_items liveins = line_items-pieces 4 (liveins_pieces liveins) (liveins_apart liveins)

-- a line that is a list and no block's head, and which of the two lists it is
pub record IsListLine (line : List ℕ) (is_successors : Bool) : Type 0 where
  pub inner : IsInner line
  pub no_head : is_block_head line ≡ false
  pub one : lists (codes "successors") line ≡ is_successors
  pub other : lists (codes "liveins") line ≡ not is_successors

pub successors_listed : (successors : List ℕ) → IsListLine (successors_line successors) true
successors_listed successors = record {
  inner = inner_line 3 (successors_pieces successors) (lexeme Word (codes "successors")) _ (successors_apart successors) refl;
  no_head = ap begins_block (successors_items successors);
  one = ap (begins_list (codes "successors")) (successors_items successors);
  other = ap (begins_list (codes "liveins")) (successors_items successors);
}

pub liveins_listed : (liveins : List ℕ) → IsListLine (liveins_line liveins) false
liveins_listed liveins = record {
  inner = inner_line 3 (liveins_pieces liveins) (lexeme Word (codes "liveins")) _ (liveins_apart liveins) refl;
  no_head = ap begins_block (liveins_items liveins);
  one = ap (begins_list (codes "successors")) (liveins_items liveins);
  other = ap (begins_list (codes "liveins")) (liveins_items liveins);
}
