-- Nothing is wrong in the entries of a document that spells a function.
use Rattle.std.proofs.Common.{◌≡◌, ℕ, suc, ◌≤◌, Bool, true, false, List, [], ◌∷◌, ◌++◌, length, Option, Some, None, Ok, Err, map, refl, sym, ap, ◌∙◌, subst, inl, inr, arith, append_assoc}
use Rattle.std.specs.Prelude.{◌&&◌, ◌==◌, filter, filter_map, find, bytes_eq, is_some, option_map, codes, if◌then◌else◌}
use Rattle.std.specs.List.{list_all, list_any, cons_option}
use Rattle.std.proofs.lemmas.Bool.{and_parts, and_right}
use Rattle.std.proofs.lemmas.Bool.Decides.{nat_tests}
use Rattle.std.proofs.lemmas.List.Elements.{filter-append}
use Rattle.gi_mir.specs.declared.operand.StackObject.{StackObject}
use Rattle.gi_spelling.specs.declared.token.RegisterClass.{RegisterClass}
use Rattle.gi_spelling.specs.declared.token.Word.TheVariants as word
use Rattle.gi_spelling.specs.declared.token.What.{What}
use Rattle.gi_spelling.specs.declared.token.What.TheVariants as what
use Rattle.gi_spelling.specs.declared.token.Item.{Item}
use Rattle.gi_spelling.specs.declared.written.Fields.{Fields}
use Rattle.gi_spelling.specs.declared.written.StackEntry.{StackEntry}
use Rattle.gi_spelling.specs.declared.written.ListValue.TheVariants.{Entries, NoEntries}
use Rattle.gi_spelling.specs.declared.written.Key.{Key}
use Rattle.gi_spelling.specs.declared.written.Key.TheVariants.{Name, Body}
use Rattle.gi_spelling.specs.declared.written.Wrong.{Wrong}
use Rattle.gi_spelling.specs.Items.{what_in, value_items}
use Rattle.gi_spelling.specs.Lines.{Line, Section, is_entry, is_entry_of, key_of}
use Rattle.gi_spelling.specs.Reading.{Read}
use Rattle.gi_spelling.specs.Documents.{is_name, name_value, truth_fault, list_value, line_entry, fields_wrong, register_wrongs, register_by, registers_in, object_at, objects_from, object_wrong, object_wrongs, key_word, key_spelled, under_wrongs, fault_then, list_wrongs, key_wrongs, keyed_wrongs, is_again, entry_wrongs, entries_wrongs, list_under}
use Rattle.gi_spelling.specs.Spelling.{word_what, entries_with, SpellsTruth, Lists, SpellsName, SpellsBody}
use Rattle.gi_spelling.proofs.ReadWrongs.{any_filtered, spelled_word}

-- ══ Entries that stand once ══

pub data Single (text : List ℕ) (key : Key) (sections : List Section) : Type 0 where
  Absent : filter (is_entry_of (key_word key)) sections ≡ [] → Single text key sections
  Present : (section : Section) → filter (is_entry_of (key_word key)) sections ≡ section ∷ [] → key_wrongs text key section ≡ [] → Single text key sections

record StandsOnce (text : List ℕ) (key : Key) (earlier : List Section) (section : Section) : Type 0 where
  new : list_any (is_entry_of (key_word key)) earlier ≡ false
  right : key_wrongs text key section ≡ []

only_one : (xs ys : List Section) (a s : Section) → xs ++ (a ∷ ys) ≡ s ∷ [] → (xs ≡ []) × (a ≡ s)
only_one [] ys a s e = (refl, cc)
only_one (x ∷ []) ys a s e = absurd (cc)
only_one (x ∷ next ∷ xs) ys a s e = absurd (cc)

never_none : (xs ys : List Section) (a : Section) → xs ++ (a ∷ ys) ≡ [] → ⊥
never_none [] ys a e = cc
never_none (x ∷ xs) ys a e = cc

stands_once : (text : List ℕ) (key : Key) (earlier later : List Section) (section : Section) → Single text key (earlier ++ (section ∷ later)) → is_entry_of (key_word key) section ≡ true → StandsOnce text key earlier section
stands_once text key earlier later section single one = chosen single
  where
    cut : filter (is_entry_of (key_word key)) (earlier ++ (section ∷ later)) ≡ filter (is_entry_of (key_word key)) earlier ++ (section ∷ filter (is_entry_of (key_word key)) later)
    cut = filter-append (is_entry_of (key_word key)) earlier (section ∷ later)
        ∙ ap (λ b. filter (is_entry_of (key_word key)) earlier ++ (if b then section ∷ filter (is_entry_of (key_word key)) later else filter (is_entry_of (key_word key)) later)) one

    chosen : Single text key (earlier ++ (section ∷ later)) → StandsOnce text key earlier section
    chosen (Absent none) = absurd (never_none (filter (is_entry_of (key_word key)) earlier) (filter (is_entry_of (key_word key)) later) section (sym cut ∙ none))
    chosen (Present own alone right) =
        let parts = only_one (filter (is_entry_of (key_word key)) earlier) (filter (is_entry_of (key_word key)) later) section own (sym cut ∙ alone) in
        record { new = any_filtered (is_entry_of (key_word key)) earlier parts.0; right = subst (λ s. key_wrongs text key s ≡ []) (sym parts.1) right }

same_byte : (byte : ℕ) → (byte == byte) ≡ true
same_byte byte = grind (arith, nat_tests)

same_key : (key : List ℕ) → bytes_eq key key ≡ true
same_key [] = refl
same_key (byte ∷ bytes) = rw (same_byte byte) (same_key bytes)

own_key : (section : Section) (key : List ℕ) → is_entry section.head.bytes ≡ true → key_of section.head.bytes ≡ key → is_entry_of key section ≡ true
own_key section key one is = rw (one, is) (same_key key)

entry_right : (text : List ℕ) (earlier later : List Section) (section : Section) → ((key : Key) → Single text key (earlier ++ (section ∷ later))) → is_entry section.head.bytes ≡ true
    → entry_wrongs text earlier section ≡ []
entry_right text earlier later section singles one = chosen (key_spelled (key_of section.head.bytes)) refl
  where
    right_by : is_again earlier section ≡ false → keyed_wrongs text (key_spelled (key_of section.head.bytes)) section ≡ [] → entry_wrongs text earlier section ≡ []
    right_by again right = rw (one, again) right

    chosen : (spelled : Option Key) → key_spelled (key_of section.head.bytes) ≡ spelled → entry_wrongs text earlier section ≡ []
    chosen None is =
        right_by (ap (λ spelled. is_some spelled && list_any (is_entry_of (key_of section.head.bytes)) earlier) is) (ap (λ spelled. keyed_wrongs text spelled section) is)
    chosen (Some key) is =
        let same = spelled_word (key_of section.head.bytes) key is in
        let once = stands_once text key earlier later section (singles key) (own_key section (key_word key) one same) in
        let again : list_any (is_entry_of (key_of section.head.bytes)) earlier ≡ false = ap (λ bytes. list_any (is_entry_of bytes) earlier) same ∙ once.new in
        right_by (ap (λ b. is_some (key_spelled (key_of section.head.bytes)) && b) again ∙ and_right (is_some (key_spelled (key_of section.head.bytes))) false refl)
        (ap (λ spelled. keyed_wrongs text spelled section) is ∙ once.right)

pub entries_right : (text : List ℕ) (earlier sections : List Section) → ((key : Key) → Single text key (earlier ++ sections)) → list_all (λ (section : Section). is_entry section.head.bytes) sections ≡ true
    → entries_wrongs text earlier sections ≡ []
entries_right text earlier [] singles keyed = refl
entries_right text earlier (section ∷ sections) singles keyed =
    let parts = and_parts (is_entry section.head.bytes) (list_all (λ (section : Section). is_entry section.head.bytes) sections) keyed in
    let here = entry_right text earlier sections section singles parts.0 in
    let later = entries_right text (earlier ++ (section ∷ [])) sections (λ key. subst (Single text key) (sym (append_assoc earlier (section ∷ []) sections)) (singles key)) parts.1 in
    rw (here, later) refl

-- ══ Each key ══

pub find_by : (p : Section → Bool) (sections : List Section) (s : Section) → filter p sections ≡ s ∷ [] → find p sections ≡ Some s
find_by p [] s e = absurd (cc)
find_by p (x ∷ xs) s e = chosen (p x) e (find_by p xs s)
  where
    chosen : (b : Bool) → (if b then x ∷ filter p xs else filter p xs) ≡ s ∷ [] → (filter p xs ≡ s ∷ [] → find p xs ≡ Some s) → (if b then Some x else find p xs) ≡ Some s
    chosen true e later = cc
    chosen false e later = later e

pub find_none : (p : Section → Bool) (sections : List Section) → filter p sections ≡ [] → find p sections ≡ None
find_none p [] e = refl
find_none p (x ∷ xs) e = chosen (p x) e (find_none p xs)
  where
    chosen : (b : Bool) → (if b then x ∷ filter p xs else filter p xs) ≡ [] → (filter p xs ≡ [] → find p xs ≡ None) → (if b then Some x else find p xs) ≡ None
    chosen true e later = absurd (cc)
    chosen false e later = later e

one_item : (items : Option (List Item)) (w : What) → option_map (map what_in) items ≡ Some (w ∷ []) → (item : Item) × (items ≡ Some (item ∷ [])) × (item.what ≡ w)
one_item None w e = absurd (cc)
one_item (Some []) w e = absurd (cc)
one_item (Some (item ∷ [])) w e = (item, refl, cc)
one_item (Some (item ∷ next ∷ rest)) w e = absurd (cc)

truth_right : (items : Option (List Item)) (truth : Bool) → option_map (map what_in) items ≡ Some (word_what (if truth then word.True else word.False) ∷ []) → truth_fault items ≡ None
truth_right items true e =
    let p = one_item items (word_what word.True) e in
    rw (p.1, p.2) refl
truth_right items false e =
    let p = one_item items (word_what word.False) e in
    rw (p.1, p.2) refl

pub truth_single : (text : List ℕ) (key : Key) (sections found : List Section) (truth : Bool) → entries_with (key_word key) sections ≡ found → SpellsTruth text found truth
    → ((section : Section) → key_wrongs text key section ≡ fault_then section.head.number (truth_fault (value_items text section.head)) (under_wrongs section.under)) → Single text key sections
truth_single text key sections [] truth e spelled by = Absent e
truth_single text key sections (section ∷ []) truth e spelled by =
    Present section e (by section ∙ rw (truth_right (value_items text section.head) truth spelled.0, spelled.1) refl)
truth_single text key sections (section ∷ other ∷ more) truth e spelled by = absurd spelled

pub name_single : (text name : List ℕ) (sections found : List Section) → entries_with (codes "name") sections ≡ found → SpellsName name found → Single text Name sections
name_single text name sections [] e spelled = Absent e
name_single text name sections (section ∷ []) e spelled =
    let named : is_name (name_value section) ≡ true = ap is_name spelled.0 ∙ spelled.1 in
    Present section e (rw (named, spelled.2) refl)
name_single text name sections (section ∷ other ∷ more) e spelled = absurd spelled

pub body_single : (text : List ℕ) (sections found : List Section) (lines : List Line) → entries_with (codes "body") sections ≡ found → SpellsBody text found lines → Single text Body sections
body_single text sections [] lines e spelled = Absent e
body_single text sections (section ∷ []) lines e spelled =
    let p = one_item (value_items text section.head) what.Bar spelled.0 in
    Present section e (rw (p.1, p.2) refl)
body_single text sections (section ∷ other ∷ more) lines e spelled = absurd spelled

no_items : (items : Option (List Item)) → option_map (map what_in) items ≡ Some [] → list_value items ≡ Entries
no_items None e = absurd (cc)
no_items (Some []) e = refl
no_items (Some (item ∷ rest)) e = absurd (cc)

square_items : (items : Option (List Item)) → option_map (map what_in) items ≡ Some (what.OpenSquare ∷ what.CloseSquare ∷ []) → list_value items ≡ NoEntries
square_items None e = absurd (cc)
square_items (Some []) e = absurd (cc)
square_items (Some (first ∷ [])) e = absurd (cc)
square_items (Some (first ∷ second ∷ [])) e =
    let opens : first.what ≡ what.OpenSquare = cc in
    let closes : second.what ≡ what.CloseSquare = cc in
    rw (opens, closes) refl
square_items (Some (first ∷ second ∷ third ∷ rest)) e = absurd (cc)

-- a list, and the lines that are read of it
pub record ListRead (text : List ℕ) (key : Key) (sections : List Section) (lines : List Line) : Type 0 where
  pub single : Single text key sections
  pub under : list_under text (key_word key) sections ≡ lines

pub list_read : (text : List ℕ) (key : Key) (sections found : List Section) (lines : List Line) (wrongs : List Line → List Wrong) → entries_with (key_word key) sections ≡ found → Lists text found lines → wrongs lines ≡ []
    → ((section : Section) → key_wrongs text key section ≡ list_wrongs (list_value (value_items text section.head)) section (wrongs section.under)) → ListRead text key sections lines
list_read text key sections [] lines wrongs e listed right by = record { single = Absent e; under = rw (find_none (is_entry_of (key_word key)) sections e) (sym listed) }
list_read text key sections (section ∷ []) lines wrongs e (inl listed) right by =
    let value = no_items (value_items text section.head) listed.0 in
    record {
      single = Present section e (by section ∙ rw value (ap wrongs (sym listed.1) ∙ right));
      under = rw (find_by (is_entry_of (key_word key)) sections section e, value) (sym listed.1);
    }
list_read text key sections (section ∷ []) lines wrongs e (inr listed) right by =
    let value = square_items (value_items text section.head) listed.0 in
    record {
      single = Present section e (by section ∙ rw (value, listed.1) refl);
      under = rw (find_by (is_entry_of (key_word key)) sections section e, value) (sym listed.2);
    }
list_read text key sections (section ∷ other ∷ more) lines wrongs e listed right by = absurd listed

-- each entry is read
fewer : {X Y : Type 0} (f : X → Option Y) (xs : List X) → length (filter_map f xs) ≤ length xs
fewer f [] = omega arith
fewer {X} {Y} f (x ∷ xs) = chosen (f x) (fewer f xs)
  where
    chosen : (y : Option Y) → length (filter_map f xs) ≤ length xs → length (cons_option y (filter_map f xs)) ≤ suc (length xs)
    chosen None less = omega (arith, less)
    chosen (Some y) less = omega (arith, less)

pub registers_right : (text : List ℕ) (lines : List Line) → length (registers_in text lines) ≡ length lines → register_wrongs text lines ≡ []
registers_right text [] e = refl
registers_right text (line ∷ lines) e = chosen (line_entry text line) e (registers_right text lines) (fewer (λ (line : Line). register_by (line_entry text line)) lines)
  where
    some_by : (entry : Option (ℕ × RegisterClass)) → length (cons_option entry (registers_in text lines)) ≡ suc (length lines) → length (registers_in text lines) ≤ length lines
        → length (registers_in text lines) ≡ length lines
    some_by None e less = absurd (omega (arith, e, less))
    some_by (Some entry) e less = omega (arith, e)

    chosen : (read : Read Fields) → length (cons_option (register_by read) (registers_in text lines)) ≡ suc (length lines)
        → (length (registers_in text lines) ≡ length lines → register_wrongs text lines ≡ []) → length (registers_in text lines) ≤ length lines
        → fields_wrong line.number read ++ register_wrongs text lines ≡ []
    chosen (Err error) e later less = absurd (omega (arith, e, less))
    chosen (Ok fields) e later less = later (some_by (register_by (Ok fields)) e less)

pub there_fewer : (place : ℕ) (entries : List StackEntry) → length (objects_from place entries) ≤ length entries
there_fewer place [] = omega arith
there_fewer place (one ∷ entries) = chosen (object_at place one) (there_fewer (suc place) entries)
  where
    chosen : (object : Option StackObject) → length (objects_from (suc place) entries) ≤ length entries → length (cons_option object (objects_from (suc place) entries)) ≤ suc (length entries)
    chosen None less = omega (arith, less)
    chosen (Some object) less = omega (arith, less)

pub objects_right : (place : ℕ) (entries : List StackEntry) → length (objects_from place entries) ≡ length entries → object_wrongs place entries ≡ []
objects_right place [] e = refl
objects_right place (one ∷ entries) e = chosen (object_at place one) e (objects_right (suc place) entries) (there_fewer (suc place) entries)
  where
    chosen : (object : Option StackObject) → length (cons_option object (objects_from (suc place) entries)) ≡ suc (length entries)
        → (length (objects_from (suc place) entries) ≡ length entries → object_wrongs (suc place) entries ≡ []) → length (objects_from (suc place) entries) ≤ length entries
        → object_wrong one.line object ++ object_wrongs (suc place) entries ≡ []
    chosen None e later less = absurd (omega (arith, e, less))
    chosen (Some object) e later less = later (omega (arith, e))
