-- The line of an instruction as it is printed spells that instruction.
use Rattle.std.proofs.Common.{◌≡◌, ℕ, zero, suc, ◌^◌, ◌<◌, ◌≤◌, Bool, true, false, List, [], ◌∷◌, ◌++◌, Option, Some, None, map, refl, sym, ap, ◌∙◌, subst, append_assoc, arith, inl, inr}
use Rattle.gi_mir.specs.Names.{name_at}
use Rattle.std.specs.Prelude.{◌&&◌, ◌⊎◌, ◌==◌, not, filter_map, min, nat_le, codes, decimal, option_map, nat_lt, Ok, if◌then◌else◌}
use Rattle.std.specs.Int.{is_power_of_two}
use Rattle.std.specs.List.{list_all, AllZip}
use Rattle.std.specs.Cmp.Derive.{both_true}
use Rattle.std.proofs.lemmas.Bool.{and_parts, or_cases, false≢true, eqb-true}
use Rattle.std.proofs.lemmas.Bool.Decides.{nat_tests}
use Rattle.std.proofs.lemmas.List.{append-nil}
use Rattle.std.proofs.lemmas.List.Folds.{list_all-append}
use Rattle.gi_llt.specs.Tokens.{Word as OfWord, Number as OfNumber, Mark as OfMark, lexeme, Piece, Spaces, token, tokens_of, piece_bytes, piece_lexemes, IsApart}
use Rattle.gi_llt.proofs.Pieces.{tokens_of-pieces}
use Rattle.gi_text.specs.declared.token.Token.{Token}
use Rattle.gi_text.specs.Cutting.{slice, cut_of, lexeme_in}
use Rattle.gi_text.proofs.LawLemmas.{table_of}
use Rattle.gi_llt.specs.declared.Llt.{Llt}
use Rattle.gi_llt.specs.declared.Llt.TheVariants.{Scalar, Pointer}
use Rattle.gi_mir.specs.declared.operand.Flags.{Flags}
use Rattle.gi_mir.specs.declared.operand.Kind.{Kind}
use Rattle.gi_mir.specs.declared.operand.MemOp.{MemOp}
use Rattle.gi_mir.specs.declared.operand.Operand.{Operand}
use Rattle.gi_mir.specs.declared.operand.Operand.TheVariants.{Def, PhysDef, Global, Routine}
use Rattle.gi_mir.specs.declared.row.Access.{Access}
use Rattle.gi_mir.specs.declared.row.Access.TheVariants as access
use Rattle.gi_mir.specs.declared.row.Form.{Form}
use Rattle.gi_mir.specs.Data.{InstrData}
use Rattle.gi_mir.specs.Formed.{is_alignment, has_access, is_in_range, fits_one_of, is_formed}
use Rattle.gi_mir.specs.Row.{word_of as opcode_word, rows_of, access_of}
use Rattle.gi_mir.specs.Routines.{routine_names}
use Rattle.gi_spelling.specs.declared.token.Flag.{Flag}
use Rattle.gi_spelling.specs.declared.token.Flag.TheVariants as flag
use Rattle.gi_spelling.specs.declared.token.Word.TheVariants as word
use Rattle.gi_spelling.specs.declared.token.What.{What}
use Rattle.gi_spelling.specs.declared.token.What.TheVariants as what
use Rattle.gi_spelling.specs.declared.written.Memory.{Memory}
use Rattle.gi_spelling.specs.Words.{what_of, is_plain_signed}
use Rattle.gi_spelling.specs.Written.{WrittenData}
use Rattle.gi_spelling.specs.Items.{item_of, end_of, what_in}
use Rattle.gi_spelling.specs.Kept.{kept}
use Rattle.gi_spelling.specs.Lines.{Line}
use Rattle.gi_spelling.specs.Named.{name_of_token, IsNamedOperand}
use Rattle.gi_spelling.specs.Documents.{is_name}
use Rattle.gi_spelling.specs.Printable.{Counts, is_writable_type, is_writable_operand, is_writable_memory, IsPrintableInstr}
use Rattle.gi_spelling.proofs.Nameable.{is_named_operand}
use Rattle.gi_spelling.specs.Printed.{mark, word as word_piece, listed, bracketed, type_piece, definitions_of, sources_of, source_forms, first_row, source_pieces, definition_pieces, defined_pieces, flag_pieces, flags_pieces, sources_pieces, usual_align, align_pieces, memory_pieces, instr_pieces, instr_line}
use Rattle.gi_spelling.specs.Resolved.{Tables, is_written_alignment, aligned, resolved_memory, formed as resolved_formed, resolved}
use Rattle.gi_spelling.specs.Spelling.{word_what, type_whats, definition_whats, source_whats, listed_whats, defined_whats, flag_whats, flags_whats, plain_size, align_whats, memory_whats, whats_of, name_places}
use Rattle.gi_spelling.proofs.AlikeFormed.{IsAlike, formed_alike, named_alike}
use Rattle.gi_spelling.proofs.BlockSpells.{IsInstrLine}
use Rattle.gi_spelling.proofs.InstrPieces.{instr_apart}
use Rattle.gi_spelling.proofs.KeptLines.{are_loud, opens_next, all_kept}
use Rattle.gi_spelling.proofs.NamePlaces.{names_in_line}
use Rattle.gi_spelling.proofs.PlacedLines.{is_sized, IsLine, read_line, line_slice}
use Rattle.gi_spelling.proofs.PrintedForms.{placed_operands, sources_define_nothing, definitions_define, parts_whole, definitions_placed}
use Rattle.gi_spelling.proofs.PrintedOperands.{says_bracketed, definition_of, name_in, AreTables, types_by}
use Rattle.gi_spelling.proofs.PrintedPieces.{Says, says_nothing, says_both, says_spaces, says_token, says_one, names_shown, op_is, decimal_signed}
use Rattle.gi_spelling.proofs.PrintedSources.{AreDefinitions, definitions_are, sources_at, AreSources, sources_are, places_found, operands_named}
use Rattle.gi_spelling.proofs.PrintedTokens.{reads_pieces}
use Rattle.gi_spelling.proofs.SignedNumbers.{decimal_written, decimal_sized}
use Rattle.gi_spelling.proofs.Zips.{zip_weaker}

-- ══ Memory ══

abbrev align_of : (align usual : ℕ) → Option ℕ
align_of align usual = if align == usual then None else Some align

abbrev memory_of : MemOp → Memory
memory_of memory = record { load = memory.load; ty = memory.ty; align = align_of memory.align (usual_align memory.ty) }

says_align : (align usual : ℕ) → nat_le align (2 ^ 63) ≡ true → Says (align_pieces align usual ++ (mark 41 ∷ [])) (align_whats (align_of align usual) ++ (what.Close ∷ [])) []
says_align align usual fits = chosen (align == usual)
  where
    within : align ≤ 2 ^ 63
    within = grind (arith, nat_tests)

    number : what_of (lexeme OfNumber (decimal align)) ≡ what.Number (plain_size align) true
    number = ap (λ n. what.Number n (is_plain_signed (decimal align))) (decimal_written align (omega (arith, within))) ∙ ap (what.Number (plain_size align)) (decimal_signed align (omega (arith, within)))

    chosen : (is_usual : Bool)
        → Says ((if is_usual then [] else mark 44 ∷ Spaces 1 ∷ word_piece (codes "align") ∷ Spaces 1 ∷ token OfNumber (decimal align) ∷ []) ++ (mark 41 ∷ [])) (align_whats (if is_usual then None else Some align) ++ (what.Close ∷ [])) []
    chosen true = says_one (lexeme OfMark (41 ∷ [])) what.Close refl refl refl
    chosen false =
        let sized : is_sized (lexeme OfNumber (decimal align)) ≡ true = ap not (decimal_sized align (omega (arith, within))) in
        says_token (lexeme OfMark (44 ∷ [])) what.Comma _ _ [] refl refl refl (says_spaces 1 _ _ []
        (says_token (lexeme OfWord (codes "align")) (what.Word word.Align) _ _ [] refl refl refl (says_spaces 1 _ _ []
        (says_token (lexeme OfNumber (decimal align)) (what.Number (plain_size align) true) _ _ [] number sized refl
        (says_one (lexeme OfMark (41 ∷ [])) what.Close refl refl refl)))))

access_is : (load : Bool) → what_of (lexeme OfWord (if load then codes "load" else codes "store")) ≡ what.Word (if load then word.Load else word.Store)
access_is true = refl
access_is false = refl

says_memory : (mem : Option MemOp) → is_writable_memory mem ≡ true → Says (memory_pieces mem) (memory_whats (option_map memory_of mem)) []
says_memory None fits = says_nothing
says_memory (Some memory) fits =
    let parts = and_parts (is_writable_type memory.ty) (nat_le memory.align (2 ^ 63)) fits in
    let ends = align_pieces memory.align (usual_align memory.ty) ++ (mark 41 ∷ []) in
    let end_whats = align_whats (align_of memory.align (usual_align memory.ty)) ++ (what.Close ∷ []) in
    let typed : Says (bracketed (type_piece memory.ty ∷ []) ++ ends) (type_whats memory.ty ++ end_whats) [] = says_bracketed memory.ty ends end_whats parts.0 (says_align memory.align (usual_align memory.ty) parts.1) in
    let accessed : Says (word_piece (if memory.load then codes "load" else codes "store") ∷ Spaces 1 ∷ (bracketed (type_piece memory.ty ∷ []) ++ ends)) (what.Word (if memory.load then word.Load else word.Store) ∷ (type_whats memory.ty ++ end_whats)) [] =
    says_token (lexeme OfWord (if memory.load then codes "load" else codes "store")) (what.Word (if memory.load then word.Load else word.Store)) _ _ [] (access_is memory.load) refl refl (says_spaces 1 _ _ [] typed) in
    says_spaces 1 _ _ []
    (says_token (lexeme OfMark (58 ∷ [])) what.Colon _ _ [] refl refl refl
    (says_token (lexeme OfMark (58 ∷ [])) what.Colon _ _ [] refl refl refl (says_spaces 1 _ _ []
    (says_token (lexeme OfMark (40 ∷ [])) what.Open _ _ [] refl refl refl accessed))))

align_loud : (align : Option ℕ) → are_loud (align_whats align ++ (what.Close ∷ [])) ≡ true
align_loud None = refl
align_loud (Some align) = refl

memory_loud : (mem : Option Memory) → are_loud (memory_whats mem) ≡ true
memory_loud None = refl
memory_loud (Some memory) = chosen memory.load
  where
    chosen : (load : Bool)
        → are_loud (what.Colon ∷ what.Colon ∷ what.Open ∷ word_what (if load then word.Load else word.Store) ∷ (type_whats memory.ty ++ (align_whats memory.align ++ (what.Close ∷ [])))) ≡ true
    chosen true = align_loud memory.align
    chosen false = align_loud memory.align

memory_closed : (mem : Option Memory) → opens_next (memory_whats mem) ≡ false
memory_closed None = refl
memory_closed (Some memory) = refl

-- an alignment that is written and isn't the usual one
unusual : (ty : Llt) (align : ℕ) → is_alignment ty align ≡ true → (align == usual_align ty) ≡ false → is_written_alignment ty align ≡ true
unusual (Scalar bits) align fine other = fine
unusual Pointer align fine other = chosen (or_cases (is_power_of_two align) (align == 0) fine)
  where
    chosen : (is_power_of_two align ≡ true) ⊎ ((align == 0) ≡ true) → is_power_of_two align ≡ true
    chosen (inl power) = power
    chosen (inr none) = absurd (false≢true (sym other ∙ none))

aligned_as : (memory : MemOp) → is_alignment memory.ty memory.align ≡ true → memory.align ≤ 2 ^ 63 → aligned (memory_of memory) (align_of memory.align (usual_align memory.ty)) ≡ Some memory
aligned_as memory fine within = chosen (memory.align == usual_align memory.ty) refl
  where
    usual_means : memory.align ≡ usual_align memory.ty → aligned (memory_of memory) None ≡ Some memory
    usual_means same = ap (λ align. Some (record { load = memory.load; ty = memory.ty; align = align })) (sym same)

    chosen : (usual : Bool) → (memory.align == usual_align memory.ty) ≡ usual → aligned (memory_of memory) (if usual then None else Some memory.align) ≡ Some memory
    chosen true is = usual_means (eqb-true memory.align (usual_align memory.ty) is)
    chosen false is =
        let least : min memory.align (2 ^ 63) ≡ memory.align = omega arith in
        rw (least, unusual memory.ty memory.align fine is) refl

accessed_alignment : (access : Access) (memory : MemOp) → has_access access (Some memory) ≡ true → is_alignment memory.ty memory.align ≡ true
accessed_alignment access.Neither memory has = absurd (false≢true has)
accessed_alignment access.Load memory has = (and_parts memory.load (is_alignment memory.ty memory.align) has).1
accessed_alignment access.Store memory has = (and_parts (not memory.load) (is_alignment memory.ty memory.align) has).1

memory_means : (access : Access) (mem : Option MemOp) → has_access access mem ≡ true → is_writable_memory mem ≡ true → resolved_memory (option_map memory_of mem) ≡ Some mem
memory_means access None has fits = refl
memory_means access (Some memory) has fits =
    let parts = and_parts (is_writable_type memory.ty) (nat_le memory.align (2 ^ 63)) fits in
    let within : memory.align ≤ 2 ^ 63 = (let test = parts.1 in grind (arith, nat_tests)) in
    ap (option_map (λ m. Some m)) (aligned_as memory (accessed_alignment access memory has) within)

-- ══ The line's tokens ══

says_flag : (set : Bool) (bytes : List ℕ) (f : Flag) (pieces : List Piece) (ws : List What) (names : List (List ℕ)) → what_of (lexeme OfWord bytes) ≡ what.Word (word.Flag f) → Says pieces ws names
    → Says (flag_pieces set bytes ++ pieces) (flag_whats set f ++ ws) names
says_flag true bytes f pieces ws names is later = says_token (lexeme OfWord bytes) (what.Word (word.Flag f)) (Spaces 1 ∷ pieces) ws names is refl refl (says_spaces 1 pieces ws names later)
says_flag false bytes f pieces ws names is later = later

says_flags : (flags : Flags) (pieces : List Piece) (ws : List What) (names : List (List ℕ)) → Says pieces ws names → Says (flags_pieces flags ++ pieces) (flags_whats flags ++ ws) names
says_flags flags pieces ws names later =
    let nuw = flag_pieces flags.nuw (codes "nuw") in
    let nsw = flag_pieces flags.nsw (codes "nsw") in
    let exact = flag_pieces flags.exact (codes "exact") in
    let disjoint = flag_pieces flags.disjoint (codes "disjoint") in
    let nneg = flag_pieces flags.nneg (codes "nneg") in
    let unsigned = flag_whats flags.nuw flag.NoUnsignedWrap in
    let signed = flag_whats flags.nsw flag.NoSignedWrap in
    let whole = flag_whats flags.exact flag.Exact in
    let apart = flag_whats flags.disjoint flag.Disjoint in
    let positive = flag_whats flags.nneg flag.NonNegative in
    let regrouped : (nuw ++ (nsw ++ (exact ++ (disjoint ++ nneg)))) ++ pieces ≡ nuw ++ (nsw ++ (exact ++ (disjoint ++ (nneg ++ pieces)))) = simp append_assoc in
    let whats_regrouped : (unsigned ++ (signed ++ (whole ++ (apart ++ positive)))) ++ ws ≡ unsigned ++ (signed ++ (whole ++ (apart ++ (positive ++ ws)))) = simp append_assoc in
    subst (λ ps. Says ps (flags_whats flags ++ ws) names) (sym regrouped) (subst (λ vs. Says (nuw ++ (nsw ++ (exact ++ (disjoint ++ (nneg ++ pieces))))) vs names) (sym whats_regrouped)
    (says_flag flags.nuw (codes "nuw") flag.NoUnsignedWrap _ _ names refl
    (says_flag flags.nsw (codes "nsw") flag.NoSignedWrap _ _ names refl
    (says_flag flags.exact (codes "exact") flag.Exact _ _ names refl
    (says_flag flags.disjoint (codes "disjoint") flag.Disjoint _ _ names refl
    (says_flag flags.nneg (codes "nneg") flag.NonNegative pieces ws names refl later))))))

flag_loud : (set : Bool) (f : Flag) (after : List What) → are_loud after ≡ true → are_loud (flag_whats set f ++ after) ≡ true
flag_loud true f after loud = loud
flag_loud false f after loud = loud

flags_loud : (flags : Flags) (after : List What) → are_loud after ≡ true → are_loud (flags_whats flags ++ after) ≡ true
flags_loud flags after loud =
    let unsigned = flag_whats flags.nuw flag.NoUnsignedWrap in
    let signed = flag_whats flags.nsw flag.NoSignedWrap in
    let whole = flag_whats flags.exact flag.Exact in
    let apart = flag_whats flags.disjoint flag.Disjoint in
    let positive = flag_whats flags.nneg flag.NonNegative in
    let regrouped : (unsigned ++ (signed ++ (whole ++ (apart ++ positive)))) ++ after ≡ unsigned ++ (signed ++ (whole ++ (apart ++ (positive ++ after)))) = simp append_assoc in
    ap are_loud regrouped
    ∙ flag_loud flags.nuw flag.NoUnsignedWrap _ (flag_loud flags.nsw flag.NoSignedWrap _ (flag_loud flags.exact flag.Exact _ (flag_loud flags.disjoint flag.Disjoint _ (flag_loud flags.nneg flag.NonNegative after loud))))

says_defined : (operands : List Operand) (pieces : List Piece) (ws : List What) (names : List (List ℕ)) → AreDefinitions operands → Says pieces ws names
    → Says (defined_pieces (definition_pieces operands) ++ pieces) (defined_whats (map definition_whats (map definition_of operands)) ++ ws) names
says_defined [] pieces ws names are later = later
says_defined (operand ∷ operands) pieces ws names are later =
    let cells = listed (definition_pieces (operand ∷ operands)) in
    let written = listed_whats (map definition_whats (map definition_of (operand ∷ operands))) in
    subst (λ ps. Says ps ((written ++ (what.Equals ∷ [])) ++ ws) names) (sym (append_assoc cells (Spaces 1 ∷ mark 61 ∷ Spaces 1 ∷ []) pieces))
    (subst (λ vs. Says (cells ++ (Spaces 1 ∷ mark 61 ∷ Spaces 1 ∷ pieces)) vs names) (sym (append_assoc written (what.Equals ∷ []) ws))
    (says_both cells (Spaces 1 ∷ mark 61 ∷ Spaces 1 ∷ pieces) written (what.Equals ∷ ws) [] names are.says
    (says_spaces 1 _ _ names (says_token (lexeme OfMark (61 ∷ [])) what.Equals (Spaces 1 ∷ pieces) ws names refl refl refl (says_spaces 1 pieces ws names later)))))

defined_loud : (operands : List Operand) (after : List What) → AreDefinitions operands → are_loud after ≡ true → are_loud (defined_whats (map definition_whats (map definition_of operands)) ++ after) ≡ true
defined_loud [] after are loud = loud
defined_loud (operand ∷ operands) after are loud =
    let written = listed_whats (map definition_whats (map definition_of (operand ∷ operands))) in
    ap are_loud (append_assoc written (what.Equals ∷ []) after) ∙ are.loud.loud (what.Equals ∷ after) loud refl

says_sources : (kinds : ℕ → Kind) (names : List (List ℕ)) (tables : Tables) (forms : List Form) (places : List ℕ) (operands : List Operand) → AreSources kinds names tables forms places operands
    → Says (sources_pieces (source_pieces kinds names forms operands)) (listed_whats (map source_whats (sources_at kinds names forms places operands))) (filter_map (name_in names) operands)
says_sources kinds names tables forms places [] are = are.says
says_sources kinds names tables forms places (operand ∷ operands) are = says_spaces 1 _ _ _ are.says

-- ══ The instruction ══

abbrev forms_of : InstrData → List Form
forms_of instr = source_forms (first_row (rows_of instr.op))

-- what a line is written as, where the tokens of its names stand at places
abbrev written_at : (kinds : ℕ → Kind) (names : List (List ℕ)) (places : List ℕ) → InstrData → WrittenData
written_at kinds names places instr = record {
  definitions = map definition_of (definitions_of instr.operands);
  flags = instr.flags;
  op = instr.op;
  sources = sources_at kinds names (forms_of instr) places (sources_of instr.operands);
  memory = option_map memory_of instr.mem;
}

-- the instruction with the places of its names
abbrev placed_instr : (names : List (List ℕ)) (places : List ℕ) → InstrData → InstrData
placed_instr names places instr = record instr { operands = placed_operands names places instr.operands }

-- what is known of an instruction
record IsWhole (kinds : ℕ → Kind) (names : List (List ℕ)) (tables : Tables) (instr : InstrData) : Type 0 where
  definitions : AreDefinitions (definitions_of instr.operands)
  sources : (places : List ℕ) → AreSources kinds names tables (forms_of instr) places (sources_of instr.operands)
  access : has_access (access_of instr.op) instr.mem ≡ true
  fits : is_writable_memory instr.mem ≡ true

formed_parts : (instr : InstrData) → is_formed instr ≡ true
    → (fits_one_of (rows_of instr.op) instr.operands ≡ true) × (has_access (access_of instr.op) instr.mem ≡ true) × (list_all is_in_range instr.operands ≡ true)
unfolding is_formed
formed_parts instr formed =
    let outer = and_parts (fits_one_of (rows_of instr.op) instr.operands && has_access (access_of instr.op) instr.mem) (list_all is_in_range instr.operands) formed in
    let inner = and_parts (fits_one_of (rows_of instr.op) instr.operands) (has_access (access_of instr.op) instr.mem) outer.0 in
    (inner.0, inner.1, outer.1)

split_all : (p : Operand → Bool) (operands : List Operand) → list_all p operands ≡ true → (list_all p (definitions_of operands) ≡ true) × (list_all p (sources_of operands) ≡ true)
split_all p operands all =
    and_parts (list_all p (definitions_of operands)) (list_all p (sources_of operands))
    (sym (list_all-append p (definitions_of operands) (sources_of operands)) ∙ (ap (list_all p) (parts_whole operands) ∙ all))

whole_of : (kinds : ℕ → Kind) (names : List (List ℕ)) (counts : Counts) (tables : Tables) (instr : ℕ × InstrData) → AreTables counts tables kinds → IsPrintableInstr names counts instr → IsWhole kinds names tables instr.1
whole_of kinds names counts tables instr are printable =
    let operands = (instr.1).operands in
    let parts = formed_parts instr.1 printable.formed in
    let fits = split_all (is_writable_operand names counts) operands printable.operands in
    let ranges = split_all is_in_range operands parts.2 in
    record {
      definitions = definitions_are names counts (definitions_of operands) (definitions_define operands) fits.0 ranges.0;
      sources = λ places.
          sources_are kinds names counts tables (forms_of instr.1) places (sources_of operands) are (sources_define_nothing (instr.1).op operands parts.0) fits.1 ranges.1;
      access = parts.1;
      fits = printable.memory;
    }

says_instr : (kinds : ℕ → Kind) (names : List (List ℕ)) (tables : Tables) (instr : InstrData) (places : List ℕ) → IsWhole kinds names tables instr
    → Says (instr_pieces kinds names instr) (whats_of (written_at kinds names places instr)) (filter_map (name_in names) (sources_of instr.operands))
says_instr kinds names tables instr places whole =
    let cells = sources_pieces (source_pieces kinds names (forms_of instr) (sources_of instr.operands)) in
    let written = listed_whats (map source_whats (sources_at kinds names (forms_of instr) places (sources_of instr.operands))) in
    let found = filter_map (name_in names) (sources_of instr.operands) in
    let behind = cells ++ memory_pieces instr.mem in
    let behind_whats = written ++ memory_whats (option_map memory_of instr.mem) in
    let last : Says behind behind_whats found =
    subst (Says behind behind_whats) (append-nil found)
    (says_both cells (memory_pieces instr.mem) written (memory_whats (option_map memory_of instr.mem)) found []
    (says_sources kinds names tables (forms_of instr) places (sources_of instr.operands) (whole.sources places)) (says_memory instr.mem whole.fits)) in
    says_defined (definitions_of instr.operands) _ _ found whole.definitions
    (says_flags instr.flags (word_piece (opcode_word instr.op) ∷ behind) (what.Word (word.Opcode instr.op) ∷ behind_whats) found
    (says_token (lexeme OfWord (opcode_word instr.op)) (what.Word (word.Opcode instr.op)) behind behind_whats found (ap what.Word (op_is instr.op)) refl refl last))

instr_loud : (kinds : ℕ → Kind) (names : List (List ℕ)) (tables : Tables) (instr : InstrData) (places : List ℕ) → IsWhole kinds names tables instr → are_loud (whats_of (written_at kinds names places instr)) ≡ true
instr_loud kinds names tables instr places whole =
    defined_loud (definitions_of instr.operands) _ whole.definitions
    (flags_loud instr.flags _ ((whole.sources places).loud.loud (memory_whats (option_map memory_of instr.mem)) (memory_loud (option_map memory_of instr.mem)) (memory_closed (option_map memory_of instr.mem))))

placed_formed : (text : List ℕ) (names : List (List ℕ)) (places : List ℕ) (instr : InstrData) → AllZip (IsNamedOperand text names) (placed_operands names places instr.operands) instr.operands
    → is_formed instr ≡ true → is_formed (placed_instr names places instr) ≡ true
placed_formed text names places instr named formed =
    let alike = zip_weaker (IsNamedOperand text names) IsAlike (named_alike text names) (placed_operands names places instr.operands) instr.operands named in
    sym (formed_alike (placed_instr names places instr) instr refl refl alike) ∙ formed

formed_is : (i : InstrData) → is_formed i ≡ true → resolved_formed i ≡ Some i
formed_is i is = rw is refl

instr_means : (kinds : ℕ → Kind) (names : List (List ℕ)) (tables : Tables) (instr : InstrData) (places : List ℕ) → tables.classes ≡ [] → IsWhole kinds names tables instr
    → is_formed (placed_instr names places instr) ≡ true → resolved tables (written_at kinds names places instr) instr.line ≡ Some (placed_instr names places instr)
instr_means kinds names tables instr places unclassed whole formed =
    let means = memory_means (access_of instr.op) instr.mem whole.access whole.fits in
    rw (unclassed, whole.definitions.means, (whole.sources places).means, means)
    (ap (λ operands. resolved_formed (record instr { operands = operands })) (definitions_placed names places instr.operands)
    ∙ formed_is (placed_instr names places instr) formed)

names_in_sources : (names : List (List ℕ)) (operands : List Operand) → filter_map (name_in names) (sources_of operands) ≡ filter_map (name_in names) operands
names_in_sources names [] = refl
names_in_sources names (Def reg kind ∷ operands) = names_in_sources names operands
names_in_sources names (PhysDef number ∷ operands) = names_in_sources names operands
names_in_sources names (_ ∷ operands) = refl

-- each name that stands in it is one
routine_named : (place : ℕ) → nat_lt place 10 ≡ true → is_name (name_at routine_names place) ≡ true
routine_named zero within = refl
routine_named (suc zero) within = refl
routine_named (suc (suc zero)) within = refl
routine_named (suc (suc (suc zero))) within = refl
routine_named (suc (suc (suc (suc zero)))) within = refl
routine_named (suc (suc (suc (suc (suc zero))))) within = refl
routine_named (suc (suc (suc (suc (suc (suc zero)))))) within = refl
routine_named (suc (suc (suc (suc (suc (suc (suc zero))))))) within = refl
routine_named (suc (suc (suc (suc (suc (suc (suc (suc zero)))))))) within = refl
routine_named (suc (suc (suc (suc (suc (suc (suc (suc (suc zero))))))))) within = refl
routine_named (suc (suc (suc (suc (suc (suc (suc (suc (suc (suc n)))))))))) within =
    let below : suc (suc (suc (suc (suc (suc (suc (suc (suc (suc n))))))))) < 10 = grind (arith, nat_tests) in
    absurd (omega (arith, below))

operand_named : (names : List (List ℕ)) (counts : Counts) (operand : Operand) → is_writable_operand names counts operand ≡ true → is_named_operand names operand ≡ true
operand_named names counts (Global flag name) fits = fits
operand_named names counts (Routine flag place) fits = routine_named place fits
operand_named names counts _ fits = refl

pub instr_named : (names : List (List ℕ)) (counts : Counts) (operands : List Operand) → list_all (is_writable_operand names counts) operands ≡ true → list_all (is_named_operand names) operands ≡ true
instr_named names counts [] fits = refl
instr_named names counts (operand ∷ operands) fits =
    let parts = and_parts (is_writable_operand names counts operand) (list_all (is_writable_operand names counts) operands) fits in
    both_true (operand_named names counts operand parts.0) (instr_named names counts operands parts.1)

-- the tokens of a line of pieces
read_lexemes : (text : List ℕ) (line : Line) (pieces : List Piece) (tokens : List Token) → IsLine text line (piece_bytes (Spaces 4 ∷ pieces)) → IsApart pieces → cut_of text line.start (end_of line) ≡ Ok tokens
    → map (lexeme_in text) tokens ≡ piece_lexemes pieces
read_lexemes text line pieces tokens is apart cut =
    let own : tokens_of (slice line.start (end_of line) text) ≡ Some (map (lexeme_in text) tokens) = table_of text line.start (end_of line) tokens cut in
    let known : tokens_of (slice line.start (end_of line) text) ≡ Some (piece_lexemes pieces) =
    ap tokens_of (line_slice text line (piece_bytes (Spaces 4 ∷ pieces)) is) ∙ tokens_of-pieces (Spaces 4 ∷ pieces) apart in
    cc

pub instr_line_spelled : (text : List ℕ) (names : List (List ℕ)) (counts : Counts) (tables : Tables) (kinds : ℕ → Kind) (instr : ℕ × InstrData) → AreTables counts tables kinds
    → IsPrintableInstr names counts instr → IsInstrLine text names tables (types_by kinds) (instr_line kinds names instr.1) instr
instr_line_spelled text names counts tables kinds instr are printable = record {
  spelled = λ line is.
      let pieces = instr_pieces kinds names instr.1 in
      let sources = sources_of (instr.1).operands in
      let whole = whole_of kinds names counts tables instr are printable in
      let apart : IsApart pieces = instr_apart kinds names instr.1 (instr_named names counts (instr.1).operands printable.operands) in
      let first = says_instr kinds names tables instr.1 [] whole in
      let read = read_line text line (piece_bytes (Spaces 4 ∷ pieces)) (whats_of (written_at kinds names [] instr.1)) is (reads_pieces 4 pieces (whats_of (written_at kinds names [] instr.1)) apart first.sized first.same) in
      let items = map (item_of text) read.tokens in
      let places = name_places items in
      let lexemes = read_lexemes text line pieces read.tokens is apart read.cut in
      let says = says_instr kinds names tables instr.1 places whole in
      let found : map (name_of_token text) places ≡ filter_map (name_in names) sources =
      names_in_line text line (piece_bytes (Spaces 4 ∷ pieces)) read.tokens is read.cut ∙ (ap names_shown lexemes ∙ says.named) in
      let named = operands_named text names counts places (instr.1).operands (record { same = found ∙ names_in_sources names (instr.1).operands }) printable.operands in
      let same : map what_in items ≡ whats_of (written_at kinds names places instr.1) = read.same ∙ (sym first.same ∙ says.same) in
      record {
        items = items;
        tokens = ap (option_map (kept what_in)) read.items ∙ ap Some (all_kept items (ap are_loud same ∙ instr_loud kinds names tables instr.1 places whole));
        written = written_at kinds names places instr.1;
        spelled = record { same = same; places = sym (places_found text kinds names (forms_of instr.1) places sources (record { same = found })) };
        meant = placed_instr names places instr.1;
        means = instr_means kinds names tables instr.1 places are.unclassed whole (placed_formed text names places instr.1 named printable.formed);
        named = record {
          op = refl;
          flags = refl;
          operands = named;
          memory = refl;
          line = refl;
        };
        shown = (whole.sources places).shows;
      };
}
