-- The stack objects that a document spells can be written again: their ids are numbers of tokens.
use Rattle.std.proofs.Common.{◌≡◌, ℕ, zero, suc, ◌+◌, ◌<◌, ◌≤◌, Bool, true, false, List, [], ◌∷◌, length, Option, Some, None, Ok, Err, refl, subst, arith, eqb-true}
use Rattle.std.specs.Prelude.{◌^◌, ◌&&◌, ◌||◌, ◌==◌, nat_lt, nat_le, min, if◌then◌else◌}
use Rattle.std.specs.List.{list_all, AllByRecursion, cons_option}
use Rattle.std.specs.Option.{option_map_or}
use Rattle.std.specs.Cmp.Derive.{both_true}
use Rattle.std.proofs.lemmas.Bool.{and_parts}
use Rattle.std.proofs.lemmas.Bool.Decides.{nat_tests}
use Rattle.gi_spelling.specs.Kept.{is_comma}
use Rattle.gi_mir.specs.declared.operand.StackObject.{StackObject}
use Rattle.gi_spelling.specs.Documents.{entry_front, continued_by, continued, behind_line, whole_fields, stack_entry, ended_by, next_by, is_last, stack_entries_from, stack_entries, object_by, object_at, objects_from}
use Rattle.gi_spelling.specs.Entries.{counts, has_field, entry, key_by, colon_by, value_by, separator_by, passed_at, opens, closes, is_close_brace, dash_by, brace_by, step, steps, has_all, is_at_end}
use Rattle.gi_spelling.specs.Items.{items_of_line, end_of}
use Rattle.gi_spelling.specs.Lines.{Line}
use Rattle.gi_spelling.specs.Printable.{is_writable_object}
use Rattle.gi_spelling.specs.Reading.{Read, syntax, then_read, size_by, class_by}
use Rattle.gi_spelling.specs.Words.{greatest_size}
use Rattle.gi_spelling.specs.declared.token.Item.{Item}
use Rattle.gi_spelling.specs.declared.token.RegisterClass.{RegisterClass}
use Rattle.gi_spelling.specs.declared.token.Word.{Word}
use Rattle.gi_spelling.specs.declared.token.Word.TheVariants as word
use Rattle.gi_spelling.specs.declared.token.What.{What}
use Rattle.gi_spelling.specs.declared.token.What.TheVariants as what
use Rattle.gi_spelling.specs.declared.written.Fields.{Fields}
use Rattle.gi_spelling.specs.declared.written.Entry.{Entry}
use Rattle.gi_spelling.specs.declared.written.StackEntry.{StackEntry}
use Rattle.gi_spelling.specs.declared.written.EntryState.{EntryState}
use Rattle.gi_spelling.specs.declared.written.EntryState.TheVariants as state
use Rattle.gi_spelling.specs.declared.written.EntryKind.{EntryKind}
use Rattle.gi_spelling.specs.declared.written.EntryKind.TheVariants as entry_kind
use Rattle.gi_spelling.proofs.ItemBounds.{is_token_at, is_item, items_fine}
use Rattle.gi_spelling.proofs.SpelledEntries.{there_fewer}

-- ══ The id of an entry ══

abbrev is_small : Fields → Bool
is_small fields = option_map_or (λ id. nat_lt id (2 ^ 128)) fields.id true

stays : (e next : Entry) (read : Read Entry) → read ≡ Ok e → read ≡ Ok next → is_small e.fields ≡ true → is_small next.fields ≡ true
stays e next read own is small = let same : e ≡ next = cc in subst (λ (e : Entry). is_small e.fields ≡ true) same small

size_fine : (text : List ℕ) (start : ℕ) (w : What) (n : ℕ) → is_token_at text start w ≡ true → size_by w ≡ Ok n → nat_lt n (2 ^ 128) ≡ true
size_fine text start (what.Number number true) n fine is = chosen number.negative is
  where
    chosen : (b : Bool) → (if b then syntax else Ok number.size) ≡ Ok n → nat_lt n (2 ^ 128) ≡ true
    chosen true is = absurd (cc)
    chosen false is = let same : number.size ≡ n = cc in subst (λ n. nat_lt n (2 ^ 128) ≡ true) same fine
size_fine text start w n fine is = absurd (cc)

module _ (text : List ℕ) (k : EntryKind) where
  then_small : {X : Type 0} (read : Read X) (made : X → Entry) (next : Entry) → ((x : X) → read ≡ Ok x → is_small (made x).fields ≡ true) → then_read read (λ x. Ok (made x)) ≡ Ok next → is_small next.fields ≡ true
  then_small (Err error) made next one is = absurd (cc)
  then_small (Ok x) made next one is = stays (made x) next (Ok (made x)) refl is (one x refl)

  dash_small : (fields : Fields) (w : What) (next : Entry) → is_small fields ≡ true → dash_by fields w ≡ Ok next → is_small next.fields ≡ true
  dash_small fields what.Minus next small is = stays (entry state.AtBrace fields) next (dash_by fields what.Minus) refl is small
  dash_small fields w next small is = absurd (cc)

  brace_small : (fields : Fields) (w : What) (next : Entry) → is_small fields ≡ true → brace_by fields w ≡ Ok next → is_small next.fields ≡ true
  brace_small fields what.OpenBrace next small is = stays (entry state.AtKey fields) next (brace_by fields what.OpenBrace) refl is small
  brace_small fields w next small is = absurd (cc)

  key_small : (fields : Fields) (w : What) (next : Entry) → is_small fields ≡ true → key_by k fields w ≡ Ok next → is_small next.fields ≡ true
  key_small fields (what.Word w) next small is = chosen (counts k w && has_field fields w) is
    where
      chosen : (b : Bool) → (if b then syntax else Ok (entry (state.AtColon w) fields)) ≡ Ok next → is_small next.fields ≡ true
      chosen true is = absurd (cc)
      chosen false is = stays (entry (state.AtColon w) fields) next (Ok (entry (state.AtColon w) fields)) refl is small
  key_small fields w next small is = absurd (cc)

  colon_small : (fields : Fields) (word : Word) (w : What) (next : Entry) → is_small fields ≡ true → colon_by k fields word w ≡ Ok next → is_small next.fields ≡ true
  colon_small fields word what.Colon next small is =
      let own = entry (if counts k word then state.AtValue word else state.Passing 0) fields in
      stays own next (Ok own) refl is small
  colon_small fields word w next small is = absurd (cc)

  value_small : (fields : Fields) (word : Word) (item : Item) (next : Entry) → is_item text item ≡ true → is_small fields ≡ true → value_by fields word item ≡ Ok next → is_small next.fields ≡ true
  value_small fields word.Id item next fine small is =
      then_small (size_by item.what) (λ id. entry state.AtSeparator (record fields { id = Some id })) next (λ id own. size_fine text item.start item.what id fine own) is
  value_small fields word.ClassField item next fine small is =
      then_small (class_by item.what item) (λ (class : RegisterClass). entry state.AtSeparator (record fields { class = Some class })) next (λ class own. small) is
  value_small fields word.Size item next fine small is =
      then_small (size_by item.what) (λ size. entry state.AtSeparator (record fields { size = Some size })) next (λ size own. small) is
  value_small fields word.Alignment item next fine small is =
      then_small (size_by item.what) (λ alignment. entry state.AtSeparator (record fields { alignment = Some alignment })) next (λ alignment own. small) is
  value_small fields w item next fine small is = absurd (cc)

  separator_small : (fields : Fields) (w : What) (next : Entry) → is_small fields ≡ true → separator_by fields w ≡ Ok next → is_small next.fields ≡ true
  separator_small fields what.Comma next small is = stays (entry state.AtKey fields) next (separator_by fields what.Comma) refl is small
  separator_small fields what.CloseBrace next small is = stays (entry state.AtEnd fields) next (separator_by fields what.CloseBrace) refl is small
  separator_small fields w next small is = absurd (cc)

  passed_small : (depth : ℕ) (a b c d : Bool) (fields : Fields) (next : Entry) → is_small fields ≡ true → passed_at depth a b c d fields ≡ Ok next → is_small next.fields ≡ true
  passed_small depth true b c d fields next small is = stays (entry (state.Passing (suc depth)) fields) next (Ok (entry (state.Passing (suc depth)) fields)) refl is small
  passed_small zero false true c true fields next small is = stays (entry state.AtEnd fields) next (Ok (entry state.AtEnd fields)) refl is small
  passed_small zero false true c false fields next small is = absurd (cc)
  passed_small (suc depth) false true c d fields next small is = stays (entry (state.Passing depth) fields) next (Ok (entry (state.Passing depth) fields)) refl is small
  passed_small zero false false true d fields next small is = stays (entry state.AtKey fields) next (Ok (entry state.AtKey fields)) refl is small
  passed_small zero false false false d fields next small is = stays (entry (state.Passing zero) fields) next (Ok (entry (state.Passing zero) fields)) refl is small
  passed_small (suc depth) false false c d fields next small is = stays (entry (state.Passing (suc depth)) fields) next (Ok (entry (state.Passing (suc depth)) fields)) refl is small

  step_small : (s : EntryState) (fields : Fields) (item : Item) (next : Entry) → is_item text item ≡ true → is_small fields ≡ true → step k s fields item ≡ Ok next → is_small next.fields ≡ true
  step_small state.AtDash fields item next fine small is = dash_small fields item.what next small is
  step_small state.AtBrace fields item next fine small is = brace_small fields item.what next small is
  step_small state.AtKey fields item next fine small is = key_small fields item.what next small is
  step_small (state.AtColon word) fields item next fine small is = colon_small fields word item.what next small is
  step_small (state.AtValue word) fields item next fine small is = value_small fields word item next fine small is
  step_small state.AtSeparator fields item next fine small is = separator_small fields item.what next small is
  step_small (state.Passing depth) fields item next fine small is =
      passed_small depth (opens item.what) (closes item.what) (is_comma item.what) (is_close_brace item.what) fields next small is
  step_small state.AtEnd fields item next fine small is = absurd (cc)

  steps_small : (at : Entry) (items : List Item) (next : Entry) → list_all (is_item text) items ≡ true → is_small at.fields ≡ true → steps k at items ≡ Ok next → is_small next.fields ≡ true
  steps_small at [] next all small is = stays at next (Ok at) refl is small
  steps_small at (item ∷ items) next all small is =
      let parts = and_parts (is_item text item) (list_all (is_item text) items) all in
      chosen (step k at.state at.fields item) refl is (step_small at.state at.fields item) parts.0 (λ at. steps_small at items next parts.1)
    where
      chosen : (read : Read Entry) → step k at.state at.fields item ≡ read → then_read read (λ next. steps k next items) ≡ Ok next
          → ((next : Entry) → is_item text item ≡ true → is_small at.fields ≡ true → step k at.state at.fields item ≡ Ok next → is_small next.fields ≡ true) → is_item text item ≡ true
          → ((at : Entry) → is_small at.fields ≡ true → steps k at items ≡ Ok next → is_small next.fields ≡ true) → is_small next.fields ≡ true
      chosen (Err error) own is one fine later = absurd (cc)
      chosen (Ok middle) own is one fine later = later middle (one middle fine small own) is

-- ══ Entries over lines ══

abbrev is_small_entry : Option Entry → Bool
is_small_entry at = option_map_or (λ at. is_small at.fields) at true

abbrev are_small : StackEntry → Bool
are_small one = option_map_or is_small one.fields true

line_small : (text : List ℕ) (at : Entry) (line : Line) → is_small at.fields ≡ true → is_small_entry (behind_line text at line) ≡ true
line_small text at line small = chosen (items_of_line text line) refl
  where
    stepped : (items : List Item) → list_all (is_item text) items ≡ true → (read : Read Entry) → steps entry_kind.Object at items ≡ read → is_small_entry (continued_by read) ≡ true
    stepped items all (Err error) is = refl
    stepped items all (Ok next) is = steps_small text entry_kind.Object at items next all small is

    chosen : (items : Option (List Item)) → items_of_line text line ≡ items → is_small_entry (continued at items) ≡ true
    chosen None is = refl
    chosen (Some items) is = stepped items (items_fine text line.start (end_of line) items is) (steps entry_kind.Object at items) refl

next_small : (read : Option Entry) → is_small_entry read ≡ true → is_small (next_by read).fields ≡ true
next_small None small = refl
next_small (Some at) small = chosen (is_at_end at.state)
  where
    chosen : (ends : Bool) → is_small (if ends then entry_front else at).fields ≡ true
    chosen true = refl
    chosen false = small

whole_small : (line : ℕ) (at : Entry) → is_small at.fields ≡ true → are_small (stack_entry line (whole_fields at)) ≡ true
whole_small line at small = chosen (is_at_end at.state && has_all entry_kind.Object at.fields)
  where
    chosen : (whole : Bool) → are_small (stack_entry line (if whole then Some at.fields else None)) ≡ true
    chosen true = small
    chosen false = refl

abbrev AreSmall : List StackEntry → Type 0
AreSmall entries = AllByRecursion (λ one. are_small one ≡ true) entries

onto_small : (line : ℕ) (last : Bool) (read : Option Entry) (later : List StackEntry) → is_small_entry read ≡ true → AreSmall later → AreSmall (cons_option (ended_by line last read) later)
onto_small line last None later small all = (refl, all)
onto_small line last (Some at) later small all = chosen (is_at_end at.state || last)
  where
    chosen : (ends : Bool) → AreSmall (cons_option (if ends then Some (stack_entry line (whole_fields at)) else None) later)
    chosen true = (whole_small line at small, all)
    chosen false = all

entries_small : (text : List ℕ) (at : Entry) (lines : List Line) → is_small at.fields ≡ true → AreSmall (stack_entries_from text at lines)
entries_small text at [] small = tt
entries_small text at (line ∷ lines) small =
    let read = line_small text at line small in
    onto_small line.number (is_last lines) (behind_line text at line) (stack_entries_from text (next_by (behind_line text at line)) lines) read
    (entries_small text (next_by (behind_line text at line)) lines (next_small (behind_line text at line) read))

-- ══ Objects ══

record IsFine (place : ℕ) (object : StackObject) : Type 0 where
  within : place < 2 ^ 128
  writable : is_writable_object object ≡ true

least_size : (n : ℕ) → nat_le (min n greatest_size) greatest_size ≡ true
least_size n = grind (arith, nat_tests)

object_fine : (place : ℕ) (fields : Fields) (object : StackObject) → is_small fields ≡ true → object_by place fields ≡ Some object → IsFine place object
object_fine place fields object small is = chosen fields.id fields.size fields.alignment small is
  where
    made : (id size align : ℕ) (b : Bool) → (id == place) ≡ b → nat_lt id (2 ^ 128) ≡ true
        → (if b then Some (record { size = min size greatest_size; align = min align greatest_size }) else None) ≡ Some object → IsFine place object
    made id size align false own small is = absurd (cc)
    made id size align true own small is =
        let same : record { size = min size greatest_size; align = min align greatest_size } ≡ object = cc in
        let place_is : id ≡ place = eqb-true id place own in
        record {
          within = grind (arith, nat_tests, small, place_is);
          writable = subst (λ (object : StackObject). is_writable_object object ≡ true) same (both_true (least_size size) (least_size align));
        }

    chosen : (id size align : Option ℕ) → option_map_or (λ id. nat_lt id (2 ^ 128)) id true ≡ true
        → option_map_or (λ id. option_map_or (λ size. option_map_or (λ align. if id == place then Some (record { size = min size greatest_size; align = min align greatest_size }) else None) align None) size None) id None ≡ Some object
        → IsFine place object
    chosen None size align small is = absurd (cc)
    chosen (Some id) None align small is = absurd (cc)
    chosen (Some id) (Some size) None small is = absurd (cc)
    chosen (Some id) (Some size) (Some align) small is = made id size align (id == place) refl small is

entry_fine : (place : ℕ) (one : StackEntry) (object : StackObject) → are_small one ≡ true → object_at place one ≡ Some object → IsFine place object
entry_fine place one object small is = chosen one.fields small is
  where
    chosen : (fields : Option Fields) → option_map_or is_small fields true ≡ true → option_map_or (object_by place) fields None ≡ Some object → IsFine place object
    chosen None small is = absurd (cc)
    chosen (Some fields) small is = object_fine place fields object small is

pub record AreObjects (place : ℕ) (objects : List StackObject) : Type 0 where
  pub few : place + length objects ≤ 2 ^ 128
  pub writable : list_all is_writable_object objects ≡ true

objects_of : (place : ℕ) (entries : List StackEntry) → place ≤ 2 ^ 128 → AreSmall entries → length (objects_from place entries) ≡ length entries → AreObjects place (objects_from place entries)
objects_of place [] within all each = record { few = omega (arith, within); writable = refl }
objects_of place (one ∷ entries) within all each = chosen (object_at place one) refl each (there_fewer (suc place) entries) (λ within. objects_of (suc place) entries within all.1)
  where
    chosen : (o : Option StackObject) → object_at place one ≡ o → length (cons_option o (objects_from (suc place) entries)) ≡ suc (length entries) → length (objects_from (suc place) entries) ≤ length entries
        → (suc place ≤ 2 ^ 128 → length (objects_from (suc place) entries) ≡ length entries → AreObjects (suc place) (objects_from (suc place) entries)) → AreObjects place (cons_option o (objects_from (suc place) entries))
    chosen None is each less later = absurd (omega (arith, each, less))
    chosen (Some object) is each less later =
        let fine = entry_fine place one object all.0 is in
        let rest = later (omega (arith, fine.within)) (omega (arith, each)) in
        record { few = omega (arith, rest.few); writable = both_true fine.writable rest.writable }

pub objects_fine : (text : List ℕ) (lines : List Line) → length (objects_from 0 (stack_entries text lines)) ≡ length (stack_entries text lines) → AreObjects 0 (objects_from 0 (stack_entries text lines))
objects_fine text lines each = objects_of 0 (stack_entries text lines) (omega arith) (entries_small text entry_front lines refl) each
