-- What is read of a line is spelled so.
use Rattle.std.proofs.Common.{◌≡◌, ℕ, Bool, true, false, List, [], ◌∷◌, ◌++◌, Option, Some, None, Ok, Err, map, refl, sym, ap, ◌∙◌, subst, append_assoc, append-nil}
use Rattle.std.specs.Prelude.{filter_map, flat_map, if◌then◌else◌}
use Rattle.std.specs.List.{AllZip}
use Rattle.gi_llt.specs.declared.Llt.{Llt}
use Rattle.gi_text.specs.declared.token.Number.{Number as NumberData}
use Rattle.gi_mir.specs.declared.opcode.Opcode.{Opcode}
use Rattle.gi_mir.specs.declared.operand.Flags.{Flags}
use Rattle.gi_spelling.specs.declared.token.Flag.{Flag}
use Rattle.gi_spelling.specs.declared.token.Flag.TheVariants as flag
use Rattle.gi_spelling.specs.declared.token.Word.{Word}
use Rattle.gi_spelling.specs.declared.token.Word.TheVariants as word
use Rattle.gi_spelling.specs.declared.token.What.{What}
use Rattle.gi_spelling.specs.declared.token.What.TheVariants as what
use Rattle.gi_spelling.specs.declared.token.Item.{Item}
use Rattle.gi_spelling.specs.declared.written.Definition.{Definition}
use Rattle.gi_spelling.specs.declared.written.Source.{Source}
use Rattle.gi_spelling.specs.declared.written.Memory.{Memory}
use Rattle.gi_spelling.specs.declared.written.Fault.TheVariants as fault
use Rattle.gi_spelling.specs.Written.{WrittenData}
use Rattle.gi_spelling.specs.declared.written.Separator.TheVariants.{Equals, Colons}
use Rattle.gi_spelling.specs.Reading.{unknown, then_read, closed_by, closed, read_definition, read_operand, parts_of, read_all, read_operands, read_type, access_by, align_word_by, is_memory_word, wrong_memory_word, size_by, passed_word_by, read_passed_word, align_end_by, read_align_end, read_align_number, read_align, memory_end_by, read_memory_end, memory_closed_by, read_memory_closed, read_memory_type, memory_opened_by, read_memory_opened, read_access, memory_by, read_memory, split_at, flag_at, past_flag, is_no_unsigned_wrap, is_no_signed_wrap, is_exact, is_disjoint, is_non_negative, read_flags, opcode_by, is_constant_op, read_sources, read_memory_behind, read_tail, read_opcode, read_body, begins_definition, read_behind, read_defined_line, read_instr}
use Rattle.gi_spelling.specs.Spelling.{word_what, type_whats, definition_whats, source_whats, listed_whats, defined_whats, flag_whats, flags_whats, plain_size, align_whats, memory_whats, whats_of, place_of_source, places_of, AreWritten}
use Rattle.gi_spelling.proofs.TokenLists.{Tokens, no_tokens, one_more, both_tokens, then_ok, closed_ok, ended_ok, settled}
use Rattle.gi_spelling.proofs.ReadPieces.{type_ok, definition_ok, operand_ok}
use Rattle.gi_spelling.proofs.ItemParts.{some_parts, IsPart, parts_spelled, all_ok, equals_split, no_colons_split, colons_split}

-- ══ Operands ══

abbrev pub source_places : Source → List ℕ
source_places s = filter_map place_of_source (s ∷ [])

abbrev pub no_places : Definition → List ℕ
no_places d = []

sources_ok : (typed : Bool) (parts : List (List Item)) (sources : List Source) → read_operands typed parts ≡ Ok sources → AllZip (IsPart source_whats source_places) parts sources
sources_ok typed [] sources e = settled (AllZip (IsPart source_whats source_places) []) [] sources e tt
sources_ok typed (part ∷ parts) sources e =
    let p = then_ok (read_operand typed part) (λ (s : Source). then_read (read_operands false parts) (λ (more : List Source). Ok (s ∷ more))) sources e in
    let q = then_ok (read_operands false parts) (λ (more : List Source). Ok (p.0 ∷ more)) sources p.2 in
    settled (AllZip (IsPart source_whats source_places) (part ∷ parts)) (p.0 ∷ q.0) sources q.2
    (record { tokens = (operand_ok typed part p.0 p.1).tokens }, sources_ok false parts q.0 q.1)

abbrev onto_places : Option ℕ → List ℕ → List ℕ
onto_places None places = places
onto_places (Some place) places = place ∷ places

each_place : (sources : List Source) → flat_map source_places sources ≡ filter_map place_of_source sources
each_place [] = refl
each_place (s ∷ sources) = chosen (place_of_source s) (each_place sources)
  where
    chosen : (place : Option ℕ) → flat_map source_places sources ≡ filter_map place_of_source sources
        → onto_places place [] ++ flat_map source_places sources ≡ onto_places place (filter_map place_of_source sources)
    chosen None later = later
    chosen (Some place) later = ap (λ places. place ∷ places) later

read_sources_ok : (op : Opcode) (items : List Item) (sources : List Source) → read_sources op items ≡ Ok sources
    → Tokens items (listed_whats (map source_whats sources)) (filter_map place_of_source sources)
read_sources_ok op [] sources e = settled (λ sources. Tokens [] (listed_whats (map source_whats sources)) (filter_map place_of_source sources)) [] sources e no_tokens
read_sources_ok op (item ∷ rest) sources e =
    subst (Tokens (item ∷ rest) (listed_whats (map source_whats sources))) (each_place sources)
    (parts_spelled source_whats source_places (item ∷ rest) sources (sources_ok (is_constant_op op) (parts_of (item ∷ rest)) sources e))

-- ══ Memory ══

-- the end of a memory operand: its alignment, if it has one
pub record EndsMemory (memory : Memory) (items : List Item) (whole : Memory) : Type 0 where
  pub load : whole.load ≡ memory.load
  pub ty : whole.ty ≡ memory.ty
  pub tokens : Tokens items (align_whats whole.align ++ (what.Close ∷ [])) []

align_word_ok : (w : What) (item : Item) (v : Word) → align_word_by w item ≡ Ok v → w ≡ word_what word.Align
align_word_ok (what.Word word.Align) item v e = refl
align_word_ok w item v e = absurd (cc)

plain_is : (number : NumberData) (size : ℕ) → number.negative ≡ false → number.size ≡ size → number ≡ plain_size size
plain_is number size unsigned same = ap (λ negative. record { negative = negative; size = number.size }) unsigned ∙ ap plain_size same

size_ok : (w : What) (size : ℕ) → size_by w ≡ Ok size → w ≡ what.Number (plain_size size) true
size_ok (what.Number number true) size e = chosen number.negative refl e
  where
    chosen : (negative : Bool) → number.negative ≡ negative → (if negative then Err fault.Syntax else Ok number.size) ≡ Ok size → what.Number number true ≡ what.Number (plain_size size) true
    chosen true is e = absurd (cc)
    chosen false is e =
        let same : number.size ≡ size = cc in
        ap (λ n. what.Number n true) (plain_is number size is same)
size_ok w size e = absurd (cc)

-- a word in the place of a word of memory is never read
wrong_word_never : {X : Type 0} (w : Word) (item : Item) (x : X) → wrong_memory_word w item ≡ Ok x → ⊥
wrong_word_never w item x e = chosen (is_memory_word w) e
  where
    chosen : (wrong : Bool) → (if wrong then Err fault.Syntax else unknown item) ≡ Ok x → ⊥
    chosen true e = cc
    chosen false e = cc

passed_word_never : (items : List Item) (whole : Memory) → read_passed_word items ≡ Ok whole → ⊥
passed_word_never [] whole e = cc
passed_word_never (item ∷ rest) whole e = chosen item.what e
  where
    chosen : (w : What) → passed_word_by w item ≡ Ok whole → ⊥
    chosen (what.Word w) e = wrong_word_never w item whole e
    chosen w e = cc

-- what is read behind the alignment is the closing bracket
align_end_by_ok : (memory whole : Memory) (w : What) (item : Item) (rest : List Item) → align_end_by memory w item rest ≡ Ok whole → closed_by w memory rest ≡ Ok whole
align_end_by_ok memory whole what.Close item rest e = e
align_end_by_ok memory whole what.Comma item rest e = absurd (passed_word_never rest whole e)
align_end_by_ok memory whole (what.Word w) item rest e = absurd (wrong_word_never w item whole e)
align_end_by_ok memory whole w item rest e = absurd (cc)

align_end_ok : (memory whole : Memory) (items : List Item) → read_align_end memory items ≡ Ok whole → closed memory items ≡ Ok whole
align_end_ok memory whole [] e = absurd (cc)
align_end_ok memory whole (item ∷ rest) e = align_end_by_ok memory whole item.what item rest e

align_number_ok : (comma align : Item) (memory whole : Memory) (items : List Item) → comma.what ≡ what.Comma → align.what ≡ word_what word.Align → read_align_number memory items ≡ Ok whole
    → EndsMemory memory (comma ∷ align ∷ items) whole
align_number_ok comma align memory whole [] commas aligns e = absurd (cc)
align_number_ok comma align memory whole (item ∷ rest) commas aligns e =
    let p = then_ok (size_by item.what) (λ (size : ℕ). read_align_end (record memory { align = Some size }) rest) whole e in
    let q = closed_ok (record memory { align = Some p.0 }) whole rest (align_end_ok (record memory { align = Some p.0 }) whole rest p.2) in
    let number = what.Number (plain_size p.0) true in
    subst (EndsMemory memory (comma ∷ align ∷ item ∷ rest)) q.0 (record {
      load = refl;
      ty = refl;
      tokens = one_more comma (align ∷ item ∷ rest) what.Comma (word_what word.Align ∷ number ∷ what.Close ∷ []) [] commas refl
          (one_more align (item ∷ rest) (word_what word.Align) (number ∷ what.Close ∷ []) [] aligns refl
          (one_more item rest number (what.Close ∷ []) [] (size_ok item.what p.0 p.1) refl q.1));
    })

align_ok : (comma : Item) (memory whole : Memory) (items : List Item) → comma.what ≡ what.Comma → read_align memory items ≡ Ok whole → EndsMemory memory (comma ∷ items) whole
align_ok comma memory whole [] commas e = absurd (cc)
align_ok comma memory whole (item ∷ rest) commas e =
    let p = then_ok (align_word_by item.what item) (λ (w : Word). read_align_number memory rest) whole e in
    align_number_ok comma item memory whole rest commas (align_word_ok item.what item p.0 p.1) p.2

memory_end_by_ok : (item : Item) (memory whole : Memory) (w : What) (rest : List Item) → item.what ≡ w → memory.align ≡ None → memory_end_by memory w item rest ≡ Ok whole → EndsMemory memory (item ∷ rest) whole
memory_end_by_ok item memory whole what.Close rest is none e =
    let p = ended_ok memory whole rest e in
    subst (EndsMemory memory (item ∷ rest)) p.0 (record { load = refl; ty = refl; tokens = rw none (one_more item rest what.Close [] [] is refl p.1) })
memory_end_by_ok item memory whole what.Comma rest is none e = align_ok item memory whole rest is e
memory_end_by_ok item memory whole (what.Word w) rest is none e = absurd (wrong_word_never w item whole e)
memory_end_by_ok item memory whole w rest is none e = absurd (cc)

memory_end_ok : (memory whole : Memory) (items : List Item) → memory.align ≡ None → read_memory_end memory items ≡ Ok whole → EndsMemory memory items whole
memory_end_ok memory whole [] none e = absurd (cc)
memory_end_ok memory whole (item ∷ rest) none e = memory_end_by_ok item memory whole item.what rest refl none e

-- `)` of a type, and the end behind it
pub record ClosesMemory (memory : Memory) (items : List Item) (whole : Memory) : Type 0 where
  pub load : whole.load ≡ memory.load
  pub ty : whole.ty ≡ memory.ty
  pub tokens : Tokens items (what.Close ∷ (align_whats whole.align ++ (what.Close ∷ []))) []

memory_closed_by_ok : (item : Item) (memory whole : Memory) (w : What) (rest : List Item) → item.what ≡ w → memory.align ≡ None → memory_closed_by memory w rest ≡ Ok whole → ClosesMemory memory (item ∷ rest) whole
memory_closed_by_ok item memory whole what.Close rest is none e =
    let ends = memory_end_ok memory whole rest none e in
    record { load = ends.load; ty = ends.ty; tokens = one_more item rest what.Close (align_whats whole.align ++ (what.Close ∷ [])) [] is refl ends.tokens }
memory_closed_by_ok item memory whole w rest is none e = absurd (cc)

memory_closed_ok : (memory whole : Memory) (items : List Item) → memory.align ≡ None → read_memory_closed memory items ≡ Ok whole → ClosesMemory memory items whole
memory_closed_ok memory whole [] none e = absurd (cc)
memory_closed_ok memory whole (item ∷ rest) none e = memory_closed_by_ok item memory whole item.what rest refl none e

-- a type in brackets, and the end behind it
pub record TypesMemory (load : Bool) (items : List Item) (whole : Memory) : Type 0 where
  pub loads : whole.load ≡ load
  pub tokens : Tokens items (type_whats whole.ty ++ (align_whats whole.align ++ (what.Close ∷ []))) []

memory_type_ok : (bracket : Item) (load : Bool) (whole : Memory) (items : List Item) → bracket.what ≡ what.Open → read_memory_type load items ≡ Ok whole → TypesMemory load (bracket ∷ items) whole
memory_type_ok bracket load whole [] opens e = absurd (cc)
memory_type_ok bracket load whole (item ∷ rest) opens e =
    let p = then_ok (read_type item) (λ (ty : Llt). read_memory_closed (record { load = load; ty = ty; align = None }) rest) whole e in
    let memory : Memory = record { load = load; ty = p.0; align = None } in
    let closes = memory_closed_ok memory whole rest refl p.2 in
    let ends = what.Close ∷ (align_whats whole.align ++ (what.Close ∷ [])) in
    let is : item.what ≡ word_what (word.Type whole.ty) = type_ok item.what item p.0 p.1 ∙ ap (λ ty. word_what (word.Type ty)) (sym closes.ty) in
    record {
      loads = closes.load;
      tokens = one_more bracket (item ∷ rest) what.Open (word_what (word.Type whole.ty) ∷ ends) [] opens refl (one_more item rest (word_what (word.Type whole.ty)) ends [] is refl closes.tokens);
    }

memory_opened_by_ok : (item : Item) (load : Bool) (whole : Memory) (w : What) (rest : List Item) → item.what ≡ w → memory_opened_by load w item rest ≡ Ok whole → TypesMemory load (item ∷ rest) whole
memory_opened_by_ok item load whole what.Open rest is e = memory_type_ok item load whole rest is e
memory_opened_by_ok item load whole (what.Word w) rest is e = absurd (wrong_word_never w item whole e)
memory_opened_by_ok item load whole w rest is e = absurd (cc)

memory_opened_ok : (load : Bool) (whole : Memory) (items : List Item) → read_memory_opened load items ≡ Ok whole → TypesMemory load items whole
memory_opened_ok load whole [] e = absurd (cc)
memory_opened_ok load whole (item ∷ rest) e = memory_opened_by_ok item load whole item.what rest refl e

access_ok : (w : What) (item : Item) (load : Bool) → access_by w item ≡ Ok load → w ≡ word_what (if load then word.Load else word.Store)
access_ok (what.Word word.Load) item true e = refl
access_ok (what.Word word.Load) item false e = absurd (cc)
access_ok (what.Word word.Store) item true e = absurd (cc)
access_ok (what.Word word.Store) item false e = refl
access_ok w item load e = absurd (cc)

abbrev inner_whats : Memory → List What
inner_whats memory = word_what (if memory.load then word.Load else word.Store) ∷ (type_whats memory.ty ++ (align_whats memory.align ++ (what.Close ∷ [])))

read_access_ok : (whole : Memory) (items : List Item) → read_access items ≡ Ok whole → Tokens items (inner_whats whole) []
read_access_ok whole [] e = absurd (cc)
read_access_ok whole (item ∷ rest) e =
    let p = then_ok (access_by item.what item) (λ (load : Bool). read_memory_opened load rest) whole e in
    let typed = memory_opened_ok p.0 whole rest p.2 in
    let is : item.what ≡ word_what (if whole.load then word.Load else word.Store) =
    access_ok item.what item p.0 p.1 ∙ ap (λ (load : Bool). word_what (if load then word.Load else word.Store)) (sym typed.loads) in
    one_more item rest (word_what (if whole.load then word.Load else word.Store)) (type_whats whole.ty ++ (align_whats whole.align ++ (what.Close ∷ []))) [] is refl typed.tokens

memory_by_ok : (item : Item) (whole : Memory) (w : What) (rest : List Item) → item.what ≡ w → memory_by w rest ≡ Ok whole → Tokens (item ∷ rest) (what.Open ∷ inner_whats whole) []
memory_by_ok item whole what.Open rest is e = one_more item rest what.Open (inner_whats whole) [] is refl (read_access_ok whole rest e)
memory_by_ok item whole w rest is e = absurd (cc)

read_memory_ok : (whole : Memory) (items : List Item) → read_memory items ≡ Ok whole → Tokens items (what.Open ∷ inner_whats whole) []
read_memory_ok whole [] e = absurd (cc)
read_memory_ok whole (item ∷ rest) e = memory_by_ok item whole item.what rest refl e

-- ══ Flags ══

no_unsigned_wrap_is : (w : Option What) → is_no_unsigned_wrap w ≡ true → w ≡ Some (word_what (word.Flag flag.NoUnsignedWrap))
no_unsigned_wrap_is (Some (what.Word (word.Flag flag.NoUnsignedWrap))) e = refl
no_unsigned_wrap_is w e = absurd (cc)

no_signed_wrap_is : (w : Option What) → is_no_signed_wrap w ≡ true → w ≡ Some (word_what (word.Flag flag.NoSignedWrap))
no_signed_wrap_is (Some (what.Word (word.Flag flag.NoSignedWrap))) e = refl
no_signed_wrap_is w e = absurd (cc)

exact_is : (w : Option What) → is_exact w ≡ true → w ≡ Some (word_what (word.Flag flag.Exact))
exact_is (Some (what.Word (word.Flag flag.Exact))) e = refl
exact_is w e = absurd (cc)

disjoint_is : (w : Option What) → is_disjoint w ≡ true → w ≡ Some (word_what (word.Flag flag.Disjoint))
disjoint_is (Some (what.Word (word.Flag flag.Disjoint))) e = refl
disjoint_is w e = absurd (cc)

non_negative_is : (w : Option What) → is_non_negative w ≡ true → w ≡ Some (word_what (word.Flag flag.NonNegative))
non_negative_is (Some (what.Word (word.Flag flag.NonNegative))) e = refl
non_negative_is w e = absurd (cc)

flag_ok : (test : Option What → Bool) (f : Flag) → ((w : Option What) → test w ≡ true → w ≡ Some (word_what (word.Flag f))) → (items : List Item) (b : Bool) → test (flag_at items) ≡ b
    → (whats : List What) (places : List ℕ) → Tokens (past_flag b items) whats places → Tokens items (flag_whats b f ++ whats) places
flag_ok test f exactly items false is whats places later = later
flag_ok test f exactly [] true is whats places later =
    let wrong : None ≡ Some (word_what (word.Flag f)) = exactly None is in
    absurd (cc)
flag_ok test f exactly (item ∷ rest) true is whats places later =
    let whole : Some item.what ≡ Some (word_what (word.Flag f)) = exactly (Some item.what) is in
    let same : item.what ≡ word_what (word.Flag f) = cc in
    one_more item rest (word_what (word.Flag f)) whats places same refl later

flags_ok : (items : List Item) (whats : List What) (places : List ℕ) → Tokens (read_flags items).rest whats places → Tokens items (flags_whats (read_flags items).flags ++ whats) places
flags_ok items whats places later =
    let flags = (read_flags items).flags in
    let after_nuw = past_flag flags.nuw items in
    let after_nsw = past_flag flags.nsw after_nuw in
    let after_exact = past_flag flags.exact after_nsw in
    let after_disjoint = past_flag flags.disjoint after_exact in
    let nneg = flag_whats flags.nneg flag.NonNegative in
    let disjoint = flag_whats flags.disjoint flag.Disjoint in
    let exact = flag_whats flags.exact flag.Exact in
    let nsw = flag_whats flags.nsw flag.NoSignedWrap in
    let nuw = flag_whats flags.nuw flag.NoUnsignedWrap in
    let grouped : nuw ++ (nsw ++ (exact ++ (disjoint ++ (nneg ++ whats)))) ≡ flags_whats flags ++ whats = simp append_assoc in
    subst (λ all. Tokens items all places) grouped
    (flag_ok is_no_unsigned_wrap flag.NoUnsignedWrap no_unsigned_wrap_is items flags.nuw refl (nsw ++ (exact ++ (disjoint ++ (nneg ++ whats)))) places
    (flag_ok is_no_signed_wrap flag.NoSignedWrap no_signed_wrap_is after_nuw flags.nsw refl (exact ++ (disjoint ++ (nneg ++ whats))) places
    (flag_ok is_exact flag.Exact exact_is after_nsw flags.exact refl (disjoint ++ (nneg ++ whats)) places
    (flag_ok is_disjoint flag.Disjoint disjoint_is after_exact flags.disjoint refl (nneg ++ whats) places
    (flag_ok is_non_negative flag.NonNegative non_negative_is after_disjoint flags.nneg refl whats places later)))))

-- ══ The line ══

opcode_ok : (w : What) (item : Item) (op : Opcode) → opcode_by w item ≡ Ok op → w ≡ word_what (word.Opcode op)
opcode_ok (what.Word (word.Opcode own)) item op e = cc
opcode_ok w item op e = absurd (cc)

abbrev tail_whats : WrittenData → List What
tail_whats written = listed_whats (map source_whats written.sources) ++ memory_whats written.memory

behind_ok : (items : List Item) (places : List ℕ) (whats : List What) (memory : Option Memory) → read_memory_behind (split_at Colons items).after ≡ Ok memory
    → Tokens (split_at Colons items).before whats places → Tokens items (whats ++ memory_whats memory) places
behind_ok items places whats memory e before = chosen (split_at Colons items).after refl e
  where
    chosen : (after : Option (List Item)) → (split_at Colons items).after ≡ after → read_memory_behind after ≡ Ok memory → Tokens items (whats ++ memory_whats memory) places
    chosen None is e =
        settled (λ memory. Tokens items (whats ++ memory_whats memory) places) None memory e
        (subst (λ all. Tokens items all places) (sym (append-nil whats)) (subst (λ items. Tokens items whats places) (no_colons_split items is) before))
    chosen (Some rest) is e =
        let p = then_ok (read_memory rest) (λ (memory : Memory). Ok (Some memory)) memory e in
        let q = colons_split items rest is in
        let first = q.0 in
        let second = q.1 in
        let inner = what.Open ∷ inner_whats p.0 in
        let colons : Tokens (first ∷ second ∷ rest) (what.Colon ∷ what.Colon ∷ inner) [] =
        one_more first (second ∷ rest) what.Colon (what.Colon ∷ inner) [] q.2 refl (one_more second rest what.Colon inner [] q.3 refl (read_memory_ok p.0 rest p.1)) in
        settled (λ memory. Tokens items (whats ++ memory_whats memory) places) (Some p.0) memory p.2
        (subst (λ items. Tokens items (whats ++ memory_whats (Some p.0)) places) (sym q.4)
        (subst (Tokens ((split_at Colons items).before ++ (first ∷ second ∷ rest)) (whats ++ memory_whats (Some p.0))) (append-nil places)
        (both_tokens (split_at Colons items).before (first ∷ second ∷ rest) whats (what.Colon ∷ what.Colon ∷ inner) places [] before colons)))

-- what is read with definitions and flags
pub record IsRead (definitions : List Definition) (flags : Flags) (op : Opcode) (items : List Item) (written : WrittenData) : Type 0 where
  pub defined : written.definitions ≡ definitions
  pub flagged : written.flags ≡ flags
  pub named : written.op ≡ op
  pub tokens : Tokens items (tail_whats written) (places_of written)

tail_ok : (definitions : List Definition) (flags : Flags) (op : Opcode) (items : List Item) (written : WrittenData) → read_tail definitions flags op items ≡ Ok written
    → IsRead definitions flags op items written
tail_ok definitions flags op items written e =
    let p = then_ok (read_sources op (split_at Colons items).before) (λ (sources : List Source). then_read (read_memory_behind (split_at Colons items).after)
    (λ (memory : Option Memory). Ok (record { definitions = definitions; flags = flags; op = op; sources = sources; memory = memory }))) written e in
    let q = then_ok (read_memory_behind (split_at Colons items).after)
    (λ (memory : Option Memory). Ok (record { definitions = definitions; flags = flags; op = op; sources = p.0; memory = memory })) written p.2 in
    let whole : WrittenData = record { definitions = definitions; flags = flags; op = op; sources = p.0; memory = q.0 } in
    settled (IsRead definitions flags op items) whole written q.2 (record {
      defined = refl;
      flagged = refl;
      named = refl;
      tokens = behind_ok items (places_of whole) (listed_whats (map source_whats p.0)) q.0 q.1 (read_sources_ok op (split_at Colons items).before p.0 p.1);
    })

abbrev body_whats : WrittenData → List What
body_whats written = flags_whats written.flags ++ (word_what (word.Opcode written.op) ∷ tail_whats written)

pub record IsBody (definitions : List Definition) (items : List Item) (written : WrittenData) : Type 0 where
  pub defined : written.definitions ≡ definitions
  pub tokens : Tokens items (body_whats written) (places_of written)

opcode_line_ok : (definitions : List Definition) (items rest : List Item) (written : WrittenData) → (read_flags items).rest ≡ rest → read_opcode definitions (read_flags items).flags rest ≡ Ok written
    → IsBody definitions items written
opcode_line_ok definitions items [] written is e = absurd (cc)
opcode_line_ok definitions items (item ∷ rest) written is e =
    let flags = (read_flags items).flags in
    let p = then_ok (opcode_by item.what item) (λ (op : Opcode). read_tail definitions flags op rest) written e in
    let tail = tail_ok definitions flags p.0 rest written p.2 in
    let named : item.what ≡ word_what (word.Opcode written.op) = opcode_ok item.what item p.0 p.1 ∙ ap (λ op. word_what (word.Opcode op)) (sym tail.named) in
    let behind = word_what (word.Opcode written.op) ∷ tail_whats written in
    let here : Tokens (item ∷ rest) behind (places_of written) = one_more item rest (word_what (word.Opcode written.op)) (tail_whats written) (places_of written) named refl tail.tokens in
    let all : Tokens items (flags_whats flags ++ behind) (places_of written) = flags_ok items behind (places_of written) (subst (λ items. Tokens items behind (places_of written)) (sym is) here) in
    record {
      defined = tail.defined;
      tokens = subst (λ (own : Flags). Tokens items (flags_whats own ++ behind) (places_of written)) (sym tail.flagged) all;
    }

body_ok : (definitions : List Definition) (items : List Item) (written : WrittenData) → read_body definitions items ≡ Ok written → IsBody definitions items written
body_ok definitions items written e = opcode_line_ok definitions items (read_flags items).rest written refl e

no_places_at : (definitions : List Definition) → flat_map no_places definitions ≡ []
no_places_at [] = refl
no_places_at (d ∷ definitions) = no_places_at definitions

definition_part : (part : List Item) (d : Definition) → read_definition part ≡ Ok d → IsPart definition_whats no_places part d
definition_part part d e = record { tokens = definition_ok part d e }

are_written : (items : List Item) (written : WrittenData) → Tokens items (whats_of written) (places_of written) → AreWritten items written
are_written items written tokens = record { same = tokens.same; places = tokens.at }

-- behind the definitions stands `=`
defined_ok : (before rest : List Item) (eq : Item) (definitions : List Definition) (written : WrittenData) → eq.what ≡ what.Equals
    → Tokens before (listed_whats (map definition_whats definitions)) [] → defined_whats (map definition_whats definitions) ≡ listed_whats (map definition_whats definitions) ++ (what.Equals ∷ [])
    → IsBody definitions rest written → Tokens (before ++ (eq ∷ rest)) (whats_of written) (places_of written)
defined_ok before rest eq definitions written is defines one body =
    let behind : Tokens (eq ∷ rest) (what.Equals ∷ body_whats written) (places_of written) = one_more eq rest what.Equals (body_whats written) (places_of written) is refl body.tokens in
    let whats = listed_whats (map definition_whats definitions) in
    let all : Tokens (before ++ (eq ∷ rest)) (whats ++ (what.Equals ∷ body_whats written)) (places_of written) = both_tokens before (eq ∷ rest) whats (what.Equals ∷ body_whats written) [] (places_of written) defines behind in
    let same : whats ++ (what.Equals ∷ body_whats written) ≡ whats_of written =
    sym (append_assoc whats (what.Equals ∷ []) (body_whats written)) ∙ (ap (λ own. own ++ body_whats written) (sym one) ∙ ap (λ (own : List Definition). defined_whats (map definition_whats own) ++ body_whats written) (sym body.defined)) in
    subst (λ all. Tokens (before ++ (eq ∷ rest)) all (places_of written)) same all

first_definition : (part : List Item) (parts : List (List Item)) (definitions : List Definition) → AllZip (IsPart definition_whats no_places) (part ∷ parts) definitions
    → defined_whats (map definition_whats definitions) ≡ listed_whats (map definition_whats definitions) ++ (what.Equals ∷ [])
first_definition part parts [] all = absurd all
first_definition part parts (d ∷ definitions) all = refl

defined_line_ok : (items : List Item) (written : WrittenData) → read_defined_line (split_at Equals items) ≡ Ok written → AreWritten items written
defined_line_ok items written e =
    let before = (split_at Equals items).before in
    let p = then_ok (read_all read_definition (parts_of before)) (λ (definitions : List Definition). read_behind definitions (split_at Equals items).after) written e in
    let zip = all_ok definition_whats no_places read_definition definition_part (parts_of before) p.0 p.1 in
    let parts = some_parts before in
    let one = first_definition parts.0 parts.1 p.0 (subst (λ parts. AllZip (IsPart definition_whats no_places) parts p.0) parts.2 zip) in
    let defines : Tokens before (listed_whats (map definition_whats p.0)) [] = subst (Tokens before (listed_whats (map definition_whats p.0))) (no_places_at p.0) (parts_spelled definition_whats no_places before p.0 zip) in
    chosen p.0 one defines (split_at Equals items).after refl p.2
  where
    chosen : (definitions : List Definition) → defined_whats (map definition_whats definitions) ≡ listed_whats (map definition_whats definitions) ++ (what.Equals ∷ [])
        → Tokens (split_at Equals items).before (listed_whats (map definition_whats definitions)) []
        → (after : Option (List Item)) → (split_at Equals items).after ≡ after → read_behind definitions after ≡ Ok written → AreWritten items written
    chosen definitions one defines None is e = absurd (cc)
    chosen definitions one defines (Some rest) is e =
        let q = equals_split items rest is in
        are_written items written (subst (λ items. Tokens items (whats_of written) (places_of written)) (sym q.2)
        (defined_ok (split_at Equals items).before rest q.0 definitions written q.1 defines one (body_ok definitions rest written e)))

pub line_written : (items : List Item) (written : WrittenData) → read_instr items ≡ Ok written → AreWritten items written
line_written items written e = chosen (begins_definition items) e
  where
    chosen : (defines : Bool) → (if defines then read_defined_line (split_at Equals items) else read_body [] items) ≡ Ok written → AreWritten items written
    chosen true e = defined_line_ok items written e
    chosen false e =
        let body = body_ok [] items written e in
        let whole : body_whats written ≡ whats_of written = ap (λ (own : List Definition). defined_whats (map definition_whats own) ++ body_whats written) (sym body.defined) in
        are_written items written (subst (λ all. Tokens items all (places_of written)) whole body.tokens)
