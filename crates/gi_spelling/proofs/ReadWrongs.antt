-- What holds of the entries of a document in which nothing is wrong.
use Rattle.std.proofs.Common.{◌≡◌, ℕ, suc, Bool, true, false, List, [], ◌∷◌, ◌++◌, length, Option, Some, None, Ok, Err, map, refl, sym, ap, ◌∙◌, subst, inl, inr}
use Rattle.std.specs.Prelude.{◌&&◌, ◌||◌, not, filter, find, fold, option_map, bytes_eq, nat_lt, ◌==◌, is_some, codes, min, if◌then◌else◌}
use Rattle.std.specs.List.{list_all, list_any, cons_option}
use Rattle.std.specs.Option.{option_map_or}
use Rattle.std.specs.Cmp.Derive.{both_true}
use Rattle.std.proofs.lemmas.Bool.{and_parts, or_right, eqb-true}
use Rattle.gi_spelling.specs.declared.token.Word.TheVariants as word
use Rattle.gi_spelling.specs.declared.token.What.{What}
use Rattle.gi_spelling.specs.declared.token.What.TheVariants as what
use Rattle.gi_spelling.specs.declared.token.Item.{Item}
use Rattle.gi_spelling.specs.declared.token.RegisterClass.{RegisterClass}
use Rattle.gi_spelling.specs.declared.written.Fields.{Fields}
use Rattle.gi_spelling.specs.declared.written.StackEntry.{StackEntry}
use Rattle.gi_spelling.specs.declared.written.EntryKind.{EntryKind}
use Rattle.gi_spelling.specs.declared.written.EntryKind.TheVariants as entry_kind
use Rattle.gi_spelling.specs.declared.written.Fault.{Fault}
use Rattle.gi_spelling.specs.declared.written.Fault.TheVariants as fault
use Rattle.gi_spelling.specs.declared.written.ListValue.{ListValue}
use Rattle.gi_spelling.specs.declared.written.ListValue.TheVariants.{Entries, NoEntries, NoList}
use Rattle.gi_spelling.specs.declared.written.Key.{Key}
use Rattle.gi_spelling.specs.declared.written.Key.TheVariants.{Name, Legalized, Banked, Selected, Registers, Stack, Body}
use Rattle.gi_spelling.specs.declared.written.Wrong.{Wrong}
use Rattle.gi_mir.specs.declared.operand.StackObject.{StackObject}
use Rattle.gi_spelling.specs.Items.{what_in, value_items, items_of_line}
use Rattle.gi_spelling.specs.Lines.{Line, Section, is_entry, is_entry_of, key_of}
use Rattle.gi_spelling.specs.Reading.{Read}
use Rattle.gi_spelling.specs.declared.written.Entry.{Entry}
use Rattle.gi_spelling.specs.Entries.{is_at_end, has_all, whole_entry, steps, entry, no_fields, read_entry}
use Rattle.gi_spelling.specs.Blocks.{wrong}
use Rattle.gi_spelling.specs.Documents.{is_name, name_value, is_true, truth_by, truth_fault, square_by, list_value, bar_by, is_bar, read_line_entry, line_entry, fields_wrong, register_wrongs, register_by, registers_in, object_at, objects_from, object_wrong, object_wrongs, known_keys, key_word, key_spelled, under_wrongs, fault_then, list_wrongs, key_wrongs, keyed_wrongs, is_again, entry_wrongs, entries_wrongs, entry_of, is_key_true, list_under, body_lines, is_missing, lower, lowest, first_wrong}
use Rattle.gi_spelling.specs.Spelling.{word_what, entries_with, SpellsTruth, Lists, SpellsName, SpellsBody}
use Rattle.gi_spelling.proofs.TokenLists.{then_ok}

-- ══ Nothing is wrong ══

lowest_some : (ws : List Wrong) (first : Wrong) → fold lower (Some first) ws ≡ None → ⊥
lowest_some [] first e = cc
lowest_some (w ∷ ws) first e = chosen (nat_lt w.line first.line) (λ next. lowest_some ws next) e
  where
    chosen : (less : Bool) → ((next : Wrong) → fold lower (Some next) ws ≡ None → ⊥) → fold lower (if less then Some w else Some first) ws ≡ None → ⊥
    chosen true later e = later w e
    chosen false later e = later first e

none_lowest : (ws : List Wrong) → lowest ws ≡ None → ws ≡ []
none_lowest [] e = refl
none_lowest (w ∷ ws) e = absurd (lowest_some ws w e)

pub first_none : (wrongs : List Wrong) (later : List (List Wrong)) → first_wrong (wrongs ∷ later) ≡ None → (wrongs ≡ []) × (first_wrong later ≡ None)
first_none wrongs later e = chosen (lowest wrongs) refl e
  where
    chosen : (found : Option Wrong) → lowest wrongs ≡ found → option_map_or (λ (w : Wrong). Some w) found (first_wrong later) ≡ None → (wrongs ≡ []) × (first_wrong later ≡ None)
    chosen None is e = (none_lowest wrongs is, e)
    chosen (Some w) is e = absurd (cc)

pub append_none : {X : Type 0} (xs ys : List X) → xs ++ ys ≡ [] → (xs ≡ []) × (ys ≡ [])
append_none [] ys e = (refl, e)
append_none (x ∷ xs) ys e = absurd (cc)

pub map_none : {X Y : Type 0} (f : X → Y) (xs : List X) → map f xs ≡ [] → xs ≡ []
map_none f [] e = refl
map_none f (x ∷ xs) e = absurd (cc)

-- ══ Entries ══

record IsFine (text : List ℕ) (earlier : List Section) (section : Section) : Type 0 where
  is_one : is_entry section.head.bytes ≡ true
  once : is_again earlier section ≡ false
  right : keyed_wrongs text (key_spelled (key_of section.head.bytes)) section ≡ []

fine_entry : (text : List ℕ) (earlier : List Section) (section : Section) → entry_wrongs text earlier section ≡ [] → IsFine text earlier section
fine_entry text earlier section e = chosen (is_entry section.head.bytes) refl (is_again earlier section) refl e
  where
    chosen : (one : Bool) → is_entry section.head.bytes ≡ one → (again : Bool) → is_again earlier section ≡ again
        → (if not one || again then wrong section.head.number fault.Syntax ∷ [] else keyed_wrongs text (key_spelled (key_of section.head.bytes)) section) ≡ [] → IsFine text earlier section
    chosen true one false again e = record { is_one = one; once = again; right = e }
    chosen true one true again e = absurd (cc)
    chosen false one again is e = absurd (cc)

pub all_keyed : (text : List ℕ) (earlier sections : List Section) → entries_wrongs text earlier sections ≡ [] → list_all (λ (section : Section). is_entry section.head.bytes) sections ≡ true
all_keyed text earlier [] e = refl
all_keyed text earlier (section ∷ sections) e =
    let parts = append_none (entry_wrongs text earlier section) (entries_wrongs text (earlier ++ (section ∷ [])) sections) e in
    both_true (fine_entry text earlier section parts.0).is_one (all_keyed text (earlier ++ (section ∷ [])) sections parts.1)

any_earlier : {X : Type 0} (p : X → Bool) (xs ys : List X) → list_any p xs ≡ true → list_any p (xs ++ ys) ≡ true
any_earlier p [] ys e = absurd (cc)
any_earlier p (x ∷ xs) ys e = chosen (p x) e (any_earlier p xs ys)
  where
    chosen : (b : Bool) → (b || list_any p xs) ≡ true → (list_any p xs ≡ true → list_any p (xs ++ ys) ≡ true) → (b || list_any p (xs ++ ys)) ≡ true
    chosen true e later = refl
    chosen false e later = later e

any_last : {X : Type 0} (p : X → Bool) (xs : List X) (x : X) → p x ≡ true → list_any p (xs ++ (x ∷ [])) ≡ true
any_last p [] x e = rw e refl
any_last p (y ∷ ys) x e = or_right (p y) (list_any p (ys ++ (x ∷ []))) (any_last p ys x e)

pub same_bytes : (xs ys : List ℕ) → bytes_eq xs ys ≡ true → xs ≡ ys
same_bytes [] [] e = refl
same_bytes [] (y ∷ ys) e = absurd (cc)
same_bytes (x ∷ xs) [] e = absurd (cc)
same_bytes (x ∷ xs) (y ∷ ys) e =
    let parts = and_parts (x == y) (bytes_eq xs ys) e in
    cc (eqb-true x y parts.0, same_bytes xs ys parts.1)

-- words and keys
found_is : {X : Type 0} (p : X → Bool) (xs : List X) (x : X) → find p xs ≡ Some x → p x ≡ true
found_is p [] x e = absurd (cc)
found_is p (y ∷ ys) x e = chosen (p y) refl e (found_is p ys x)
  where
    chosen : (b : Bool) → p y ≡ b → (if b then Some y else find p ys) ≡ Some x → (find p ys ≡ Some x → p x ≡ true) → p x ≡ true
    chosen true is e later =
        let same : y ≡ x = cc in
        ap p (sym same) ∙ is
    chosen false is e later = later e

pub spelled_word : (bytes : List ℕ) (key : Key) → key_spelled bytes ≡ Some key → bytes ≡ key_word key
spelled_word bytes key is = same_bytes bytes (key_word key) (found_is (λ key. bytes_eq bytes (key_word key)) known_keys key is)

pub spelled_back : (key : Key) → key_spelled (key_word key) ≡ Some key
spelled_back Name = refl
spelled_back Legalized = refl
spelled_back Banked = refl
spelled_back Selected = refl
spelled_back Registers = refl
spelled_back Stack = refl
spelled_back Body = refl

-- the word of an entry of a key, which stood before
key_is : (word : List ℕ) (section : Section) → is_entry_of word section ≡ true → key_of section.head.bytes ≡ word
key_is word section e = same_bytes (key_of section.head.bytes) word (and_parts (is_entry section.head.bytes) (bytes_eq (key_of section.head.bytes) word) e).1

stood_before : (text : List ℕ) (key : Key) (earlier : List Section) (section : Section) → is_entry_of (key_word key) section ≡ true → IsFine text earlier section
    → list_any (is_entry_of (key_word key)) earlier ≡ false
stood_before text key earlier section one fine =
    let again : (is_some (key_spelled (key_word key)) && list_any (is_entry_of (key_word key)) earlier) ≡ false =
    subst (λ (own : List ℕ). (is_some (key_spelled own) && list_any (is_entry_of own) earlier) ≡ false) (key_is (key_word key) section one) fine.once in
    ap (λ spelled. is_some spelled && list_any (is_entry_of (key_word key)) earlier) (sym (spelled_back key)) ∙ again

none_later : (text : List ℕ) (key : Key) (earlier sections : List Section) → list_any (is_entry_of (key_word key)) earlier ≡ true → entries_wrongs text earlier sections ≡ []
    → filter (is_entry_of (key_word key)) sections ≡ []
none_later text key earlier [] before e = refl
none_later text key earlier (section ∷ sections) before e =
    let parts = append_none (entry_wrongs text earlier section) (entries_wrongs text (earlier ++ (section ∷ [])) sections) e in
    let later = none_later text key (earlier ++ (section ∷ [])) sections (any_earlier (is_entry_of (key_word key)) earlier (section ∷ []) before) parts.1 in
    chosen (is_entry_of (key_word key) section) refl (fine_entry text earlier section parts.0) later
  where
    chosen : (one : Bool) → is_entry_of (key_word key) section ≡ one → IsFine text earlier section → filter (is_entry_of (key_word key)) sections ≡ []
        → (if one then section ∷ filter (is_entry_of (key_word key)) sections else filter (is_entry_of (key_word key)) sections) ≡ []
    chosen true is fine later =
        let none : list_any (is_entry_of (key_word key)) earlier ≡ false = stood_before text key earlier section is fine in
        absurd (cc)
    chosen false is fine later = later

-- none or one
pub data AtMostOne (text : List ℕ) (key : Key) (sections : List Section) : Type 0 where
  NoEntry : filter (is_entry_of (key_word key)) sections ≡ [] → find (is_entry_of (key_word key)) sections ≡ None → AtMostOne text key sections
  OneEntry : (section : Section) → filter (is_entry_of (key_word key)) sections ≡ section ∷ [] → find (is_entry_of (key_word key)) sections ≡ Some section → key_wrongs text key section ≡ [] → AtMostOne text key sections

pub at_most_one : (text : List ℕ) (key : Key) (earlier sections : List Section) → entries_wrongs text earlier sections ≡ [] → AtMostOne text key sections
at_most_one text key earlier [] e = NoEntry refl refl
at_most_one text key earlier (section ∷ sections) e =
    let parts = append_none (entry_wrongs text earlier section) (entries_wrongs text (earlier ++ (section ∷ [])) sections) e in
    chosen (is_entry_of (key_word key) section) refl (fine_entry text earlier section parts.0) (at_most_one text key (earlier ++ (section ∷ [])) sections parts.1)
    (λ is. none_later text key (earlier ++ (section ∷ [])) sections (any_last (is_entry_of (key_word key)) earlier section is) parts.1)
  where
    unlike : is_entry_of (key_word key) section ≡ false → AtMostOne text key sections → AtMostOne text key (section ∷ sections)
    unlike is (NoEntry none not_found) = NoEntry (rw is none) (rw is not_found)
    unlike is (OneEntry own one found right) = OneEntry own (rw is one) (rw is found) right

    right_of : is_entry_of (key_word key) section ≡ true → IsFine text earlier section → key_wrongs text key section ≡ []
    right_of is fine =
        ap (λ spelled. keyed_wrongs text spelled section) (sym (spelled_back key) ∙ ap key_spelled (sym (key_is (key_word key) section is))) ∙ fine.right

    chosen : (one : Bool) → is_entry_of (key_word key) section ≡ one → IsFine text earlier section → AtMostOne text key sections
        → (is_entry_of (key_word key) section ≡ true → filter (is_entry_of (key_word key)) sections ≡ []) → AtMostOne text key (section ∷ sections)
    chosen true is fine rest none = OneEntry section (rw (is, none is) refl) (rw is refl) (right_of is fine)
    chosen false is fine rest none = unlike is rest

-- ══ Values ══

no_under : (lines : List Line) → under_wrongs lines ≡ [] → lines ≡ []
no_under [] e = refl
no_under (line ∷ lines) e = absurd (cc)

-- a truth
record IsTruth (items : Option (List Item)) : Type 0 where
  same : option_map (map what_in) items ≡ Some (word_what (if is_true items then word.True else word.False) ∷ [])

truth_item : (w : What) (item : Item) (rest : List Item) → item.what ≡ w → truth_by w item rest ≡ None → IsTruth (Some (item ∷ rest))
truth_item (what.Word word.True) item [] is e = record { same = rw is refl }
truth_item (what.Word word.False) item [] is e = record { same = rw is refl }
truth_item (what.Word word.True) item (next ∷ rest) is e = absurd (cc)
truth_item (what.Word word.False) item (next ∷ rest) is e = absurd (cc)
truth_item w item rest is e = absurd (cc)

truth_is : (items : Option (List Item)) → truth_fault items ≡ None → IsTruth items
truth_is None e = absurd (cc)
truth_is (Some []) e = absurd (cc)
truth_is (Some (item ∷ rest)) e = truth_item item.what item rest refl e

fault_none : (line : ℕ) (found : Option Fault) (rest : List Wrong) → fault_then line found rest ≡ [] → (found ≡ None) × (rest ≡ [])
fault_none line None rest e = (refl, e)
fault_none line (Some error) rest e = absurd (cc)

pub truth_spells : (text : List ℕ) (key : Key) (sections : List Section) → AtMostOne text key sections
    → ((section : Section) → key_wrongs text key section ≡ fault_then section.head.number (truth_fault (value_items text section.head)) (under_wrongs section.under))
    → SpellsTruth text (entries_with (key_word key) sections) (is_key_true text (key_word key) sections)
truth_spells text key sections (NoEntry none not_found) by = rw (none, not_found) refl
truth_spells text key sections (OneEntry section one found right) by =
    let parts = fault_none section.head.number (truth_fault (value_items text section.head)) (under_wrongs section.under) (sym (by section) ∙ right) in
    let truth = truth_is (value_items text section.head) parts.0 in
    rw (one, found) (truth.same, no_under section.under parts.1)

-- a list
square_is : (first second : Item) (w v : What) → first.what ≡ w → second.what ≡ v → (square_by w v ≡ NoEntries) → map what_in (first ∷ second ∷ []) ≡ what.OpenSquare ∷ what.CloseSquare ∷ []
square_is first second what.OpenSquare what.CloseSquare is also e = rw (is, also) refl
square_is first second w v is also e = absurd (cc)

square_no_entries : (w v : What) → square_by w v ≡ Entries → ⊥
square_no_entries what.OpenSquare what.CloseSquare e = cc
square_no_entries w v e = cc

entries_value : (items : Option (List Item)) → list_value items ≡ Entries → option_map (map what_in) items ≡ Some []
entries_value None e = absurd (cc)
entries_value (Some []) e = refl
entries_value (Some (first ∷ [])) e = absurd (cc)
entries_value (Some (first ∷ second ∷ [])) e = absurd (square_no_entries first.what second.what e)
entries_value (Some (first ∷ second ∷ third ∷ rest)) e = absurd (cc)

no_entries_value : (items : Option (List Item)) → list_value items ≡ NoEntries → option_map (map what_in) items ≡ Some (what.OpenSquare ∷ what.CloseSquare ∷ [])
no_entries_value None e = absurd (cc)
no_entries_value (Some []) e = absurd (cc)
no_entries_value (Some (first ∷ [])) e = absurd (cc)
no_entries_value (Some (first ∷ second ∷ [])) e = ap Some (square_is first second first.what second.what refl refl e)
no_entries_value (Some (first ∷ second ∷ third ∷ rest)) e = absurd (cc)

-- the lines of a list, in which nothing is wrong
pub record IsList (text : List ℕ) (key : Key) (sections : List Section) (wrongs : List Line → List Wrong) : Type 0 where
  pub lists : Lists text (entries_with (key_word key) sections) (list_under text (key_word key) sections)
  pub right : wrongs (list_under text (key_word key) sections) ≡ []

list_by_value : (text : List ℕ) (key : Key) (sections : List Section) (wrongs : List Line → List Wrong) (section : Section) (value : ListValue) → wrongs [] ≡ []
    → filter (is_entry_of (key_word key)) sections ≡ section ∷ [] → find (is_entry_of (key_word key)) sections ≡ Some section → list_value (value_items text section.head) ≡ value
    → list_wrongs value section (wrongs section.under) ≡ [] → IsList text key sections wrongs
list_by_value text key sections wrongs section Entries nothing one found is e =
    let lines : list_under text (key_word key) sections ≡ section.under = rw (found, is) refl in
    record {
      lists = subst (λ lines. Lists text (entries_with (key_word key) sections) lines) (sym lines) (rw one (inl (entries_value (value_items text section.head) is, refl)));
      right = ap wrongs lines ∙ e;
    }
list_by_value text key sections wrongs section NoEntries nothing one found is e =
    let lines : list_under text (key_word key) sections ≡ [] = rw (found, is) refl in
    record {
      lists = subst (λ lines. Lists text (entries_with (key_word key) sections) lines) (sym lines) (rw one (inr (no_entries_value (value_items text section.head) is, no_under section.under e, refl)));
      right = ap wrongs lines ∙ nothing;
    }
list_by_value text key sections wrongs section NoList nothing one found is e = absurd (cc)

pub list_spells : (text : List ℕ) (key : Key) (sections : List Section) (wrongs : List Line → List Wrong) → wrongs [] ≡ [] → AtMostOne text key sections
    → ((section : Section) → key_wrongs text key section ≡ list_wrongs (list_value (value_items text section.head)) section (wrongs section.under))
    → IsList text key sections wrongs
list_spells text key sections wrongs nothing (NoEntry none not_found) by =
    let lines : list_under text (key_word key) sections ≡ [] = rw not_found refl in
    record {
      lists = subst (λ lines. Lists text (entries_with (key_word key) sections) lines) (sym lines) (rw none refl);
      right = ap wrongs lines ∙ nothing;
    }
list_spells text key sections wrongs nothing (OneEntry section one found right) by =
    list_by_value text key sections wrongs section (list_value (value_items text section.head)) nothing one found refl (sym (by section) ∙ right)

-- each line of `registers` is an entry
has_all_fields : (k : EntryKind) (items : List Item) (fields : Fields) → read_entry k items ≡ Ok fields → has_all k fields ≡ true
has_all_fields k items fields e =
    let p = then_ok (steps k (entry _ no_fields) items) (whole_entry k) fields e in
    chosen p.0 (is_at_end p.0.state) (has_all k p.0.fields) refl p.2
  where
    chosen : (at : Entry) (ends all : Bool) → has_all k at.fields ≡ all → (if ends && all then Ok at.fields else Err fault.Syntax) ≡ Ok fields → has_all k fields ≡ true
    chosen at true true is e =
        let same : at.fields ≡ fields = cc in
        ap (has_all k) (sym same) ∙ is
    chosen at true false is e = absurd (cc)
    chosen at false all is e = absurd (cc)

some_register : (fields : Fields) → has_all entry_kind.Register fields ≡ true → (entry : ℕ × RegisterClass) × (register_by (Ok fields) ≡ Some entry)
some_register fields all = chosen fields.id fields.class refl refl all
  where
    chosen : (id : Option ℕ) (class : Option RegisterClass) → fields.id ≡ id → fields.class ≡ class → (is_some id && is_some class) ≡ true → (entry : ℕ × RegisterClass) × (register_by (Ok fields) ≡ Some entry)
    chosen (Some id) (Some class) is also all = ((min id 4294967294, class), rw (is, also) refl)
    chosen (Some id) None is also all = absurd (cc)
    chosen None class is also all = absurd (cc)

line_fields : (text : List ℕ) (line : Line) (read : Read Fields) → line_entry text line ≡ read → fields_wrong line.number read ≡ [] → (entry : ℕ × RegisterClass) × (register_by read ≡ Some entry)
line_fields text line (Err error) is e = absurd (cc)
line_fields text line (Ok fields) is e = some_register fields (all_of (items_of_line text line) is)
  where
    all_of : (items : Option (List Item)) → read_line_entry items ≡ Ok fields → has_all entry_kind.Register fields ≡ true
    all_of None is = absurd (cc)
    all_of (Some items) is = has_all_fields entry_kind.Register items fields is

pub each_register : (text : List ℕ) (lines : List Line) → register_wrongs text lines ≡ [] → length (registers_in text lines) ≡ length lines
each_register text [] e = refl
each_register text (line ∷ lines) e =
    let parts = append_none (fields_wrong line.number (line_entry text line)) (register_wrongs text lines) e in
    let some = line_fields text line (line_entry text line) refl parts.0 in
    rw (some.1) (ap suc (each_register text lines parts.1))

object_there : (line : ℕ) (object : Option StackObject) (objects : List StackObject) → object_wrong line object ≡ [] → length (cons_option object objects) ≡ suc (length objects)
object_there line None objects e = absurd (cc)
object_there line (Some object) objects e = refl

pub each_object : (place : ℕ) (entries : List StackEntry) → object_wrongs place entries ≡ [] → length (objects_from place entries) ≡ length entries
each_object place [] e = refl
each_object place (one ∷ entries) e =
    let parts = append_none (object_wrong one.line (object_at place one)) (object_wrongs (suc place) entries) e in
    object_there one.line (object_at place one) (objects_from (suc place) entries) parts.0 ∙ ap suc (each_object (suc place) entries parts.1)

-- ══ The name and the body ══

pub any_filtered : {X : Type 0} (p : X → Bool) (xs : List X) → filter p xs ≡ [] → list_any p xs ≡ false
any_filtered p [] e = refl
any_filtered p (x ∷ xs) e = chosen (p x) e (any_filtered p xs)
  where
    chosen : (b : Bool) → (if b then x ∷ filter p xs else filter p xs) ≡ [] → (filter p xs ≡ [] → list_any p xs ≡ false) → (b || list_any p xs) ≡ false
    chosen true e later = absurd (cc)
    chosen false e later = later e

pub name_spells : (text : List ℕ) (sections : List Section) → AtMostOne text Name sections → is_missing (codes "name") sections ≡ false
    → SpellsName (option_map_or name_value (entry_of (codes "name") sections) []) (entries_with (codes "name") sections)
name_spells text sections (NoEntry none not_found) there =
    let none_any : list_any (is_entry_of (codes "name")) sections ≡ false = any_filtered (is_entry_of (codes "name")) sections none in
    absurd (cc (ap not none_any))
name_spells text sections (OneEntry section one found right) there = chosen (is_name (name_value section)) refl right
  where
    chosen : (named : Bool) → is_name (name_value section) ≡ named → (if named then under_wrongs section.under else wrong section.head.number fault.Syntax ∷ []) ≡ []
        → SpellsName (option_map_or name_value (entry_of (codes "name") sections) []) (entries_with (codes "name") sections)
    chosen true named e = rw (one, found) (refl, named, no_under section.under e)
    chosen false named e = absurd (cc)

bar_what : (item : Item) (w : What) → item.what ≡ w → bar_by w ≡ true → item.what ≡ what.Bar
bar_what item what.Bar is e = is
bar_what item w is e = absurd (cc)

bar_value : (items : Option (List Item)) → is_bar items ≡ true → option_map (map what_in) items ≡ Some (what.Bar ∷ [])
bar_value None e = absurd (cc)
bar_value (Some []) e = absurd (cc)
bar_value (Some (item ∷ [])) e = ap (λ w. Some (w ∷ [])) (bar_what item item.what refl e)
bar_value (Some (item ∷ next ∷ rest)) e = absurd (cc)

pub body_spells : (text : List ℕ) (sections : List Section) → AtMostOne text Body sections → is_missing (codes "body") sections ≡ false
    → SpellsBody text (entries_with (codes "body") sections) (body_lines text sections)
body_spells text sections (NoEntry none not_found) there =
    let none_any : list_any (is_entry_of (codes "body")) sections ≡ false = any_filtered (is_entry_of (codes "body")) sections none in
    absurd (cc (ap not none_any))
body_spells text sections (OneEntry section one found right) there = chosen (is_bar (value_items text section.head)) refl right
  where
    chosen : (bar : Bool) → is_bar (value_items text section.head) ≡ bar → (if bar then [] else wrong section.head.number fault.Syntax ∷ []) ≡ []
        → SpellsBody text (entries_with (codes "body") sections) (body_lines text sections)
    chosen true is e =
        let lines : body_lines text sections ≡ section.under = rw (found, is) refl in
        subst (λ lines. SpellsBody text (entries_with (codes "body") sections) lines) (sym lines) (rw one (bar_value (value_items text section.head) is, refl))
    chosen false is e = absurd (cc)
