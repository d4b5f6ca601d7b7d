-- The first entry of each key, entry by entry.
use Rattle.std.proofs.Common.{◌≡◌, ◌≢◌, ℕ, ◌==◌, Bool, true, false, cond, List, [], ◌∷◌, ◌++◌, Some, None, length, refl, sym, ap, ◌∙◌, subst}
use Rattle.std.specs.Prelude.{not, ◌&&◌, ◌||◌, Option, IfSome, is_none, is_some, find, fold, option_map, bytes_eq}
use Rattle.std.specs.List.{list_any}
use Rattle.std.proofs.lemmas.Slice.Eq.{bytes_eq-Decides}
use Rattle.gi_spelling.specs.Lines as lines
use Rattle.gi_spelling.specs.Lines.{is_entry, is_entry_of, key_of}
use Rattle.gi_spelling.specs.Blocks.{wrong}
use Rattle.gi_spelling.specs.declared.written.Fault.TheVariants as fault
use Rattle.gi_spelling.specs.declared.written.Wrong.{Wrong}
use Rattle.gi_spelling.specs.Documents.{entry_of, entry_wrongs, is_again, is_missing, key_spelled, key_word, key_wrongs, keyed_wrongs, lower}
use Rattle.gi_mir_read.specs.declared.document.keys.Firsts.{Firsts}
use Rattle.gi_spelling.specs.declared.written.Key.{Key}
use Rattle.gi_spelling.specs.declared.written.Key.TheVariants.{Name, Legalized, Banked, Selected, Registers, Stack, Body}
use Rattle.gi_mir_read.specs.declared.text.sections.Section.{Section}
use Rattle.gi_mir_read.specs.Documents.Keyed.{AreFirsts, first_of, place_of}
use Rattle.gi_mir_read.specs.Texts.Sectioned.{IsSectionIn, section_at}
use Rattle.gi_spelling.proofs.ReadWrongs.{spelled_back, spelled_word}

same_bytes : (xs ys : List ℕ) → bytes_eq xs ys ≡ true → xs ≡ ys
same_bytes xs ys is = (bytes_eq-Decides xs ys).0 is

-- ══ First entries ══

find_behind : {X : Type 0} (p : X → Bool) (xs : List X) (x : X) → find p xs ≡ None → find p (xs ++ x ∷ []) ≡ find p (x ∷ [])
find_behind p [] x none = refl
find_behind p (y ∷ xs) x none = chosen (p y) none (find_behind p xs x)
  where
    chosen : (test : Bool) → cond test (Some y) (find p xs) ≡ None → (find p xs ≡ None → find p (xs ++ x ∷ []) ≡ find p (x ∷ [])) → cond test (Some y) (find p (xs ++ x ∷ [])) ≡ find p (x ∷ [])
    chosen true none more = cc
    chosen false none more = more none

find_before : {X : Type 0} (p : X → Bool) (xs : List X) (x y : X) → find p xs ≡ Some y → find p (xs ++ x ∷ []) ≡ Some y
find_before p [] x y found = cc
find_before p (z ∷ xs) x y found = chosen (p z) found (find_before p xs x y)
  where
    chosen : (test : Bool) → cond test (Some z) (find p xs) ≡ Some y → (find p xs ≡ Some y → find p (xs ++ x ∷ []) ≡ Some y) → cond test (Some z) (find p (xs ++ x ∷ [])) ≡ Some y
    chosen true found more = found
    chosen false found more = more found

find_other : {X : Type 0} (p : X → Bool) (xs : List X) (x : X) → p x ≡ false → find p (xs ++ x ∷ []) ≡ find p xs
find_other p [] x other = rw other refl
find_other p (y ∷ xs) x other = ap (λ found. cond (p y) (Some y) found) (find_other p xs x other)

pub any_found : {X : Type 0} (p : X → Bool) (xs : List X) → list_any p xs ≡ is_some (find p xs)
any_found p [] = refl
any_found p (x ∷ xs) = chosen (p x) (any_found p xs)
  where
    chosen : (test : Bool) → list_any p xs ≡ is_some (find p xs) → (test || list_any p xs) ≡ is_some (cond test (Some x) (find p xs))
    chosen true more = refl
    chosen false more = more

abbrev key_at : ℕ → Key
key_at n = cond (n == 0) Name (cond (n == 1) Legalized (cond (n == 2) Banked (cond (n == 3) Selected (cond (n == 4) Registers (cond (n == 5) Stack Body)))))

key_back : (key : Key) → key_at (place_of key) ≡ key
key_back Name = refl
key_back Legalized = refl
key_back Banked = refl
key_back Selected = refl
key_back Registers = refl
key_back Stack = refl
key_back Body = refl

abbrev word_at : (text : List ℕ) → Section → List ℕ
word_at text section = key_of (section_at text section).head.bytes

same_key : (word : List ℕ) (key other : Key) → key_spelled word ≡ Some key → bytes_eq word (key_word other) ≡ true → other ≡ key
same_key word key other spelled is =
    let back : Some other ≡ Some key = sym (spelled_back other) ∙ ap key_spelled (sym (same_bytes word (key_word other) is)) ∙ spelled in
    cc

other_place : (word : List ℕ) (key other : Key) → key_spelled word ≡ Some key → bytes_eq word (key_word other) ≡ false → place_of other ≢ place_of key
other_place word key other spelled is same =
    let e : other ≡ key = sym (key_back other) ∙ ap key_at same ∙ key_back key in
    let t : bytes_eq word (key_word other) ≡ true = (bytes_eq-Decides word (key_word other)).1 (spelled_word word key spelled ∙ ap key_word (sym e)) in
    cc

pub firsts_none : (text : List ℕ) (firsts : Firsts) → ((key : Key) → first_of firsts key ≡ None) → length firsts.entries ≡ 7 → AreFirsts text [] firsts
firsts_none text firsts none count = record {
  count = count;
  first = λ key. ap (option_map (section_at text)) (none key);
  within = λ key. subst (λ (found : Option Section). IfSome found (IsSectionIn text)) (sym (none key)) tt;
}

pub firsts_skip : (text : List ℕ) (earlier : List lines.Section) (firsts : Firsts) (section : Section) → AreFirsts text earlier firsts
    → ((key : Key) → is_entry_of (key_word key) (section_at text section) ≡ false) → AreFirsts text (earlier ++ section_at text section ∷ []) firsts
firsts_skip text earlier firsts section are no_entry = record {
  count = are.count;
  first = λ key. are.first key ∙ sym (find_other (is_entry_of (key_word key)) earlier (section_at text section) (no_entry key));
  within = are.within;
}

pub no_entry_of : (section : lines.Section) (word : List ℕ) → is_entry section.head.bytes ≡ false → is_entry_of word section ≡ false
no_entry_of section word is = ap (λ test. test && bytes_eq (key_of section.head.bytes) word) is

and_false : (test : Bool) → (test && false) ≡ false
and_false true = refl
and_false false = refl

pub other_entry_of : (section : lines.Section) (key : Key) → key_spelled (key_of section.head.bytes) ≡ None → is_entry_of (key_word key) section ≡ false
other_entry_of section key none = chosen (bytes_eq (key_of section.head.bytes) (key_word key)) refl
  where
    chosen : (same : Bool) → bytes_eq (key_of section.head.bytes) (key_word key) ≡ same → (is_entry section.head.bytes && same) ≡ false
    chosen true is =
        let back : Some key ≡ None = sym (spelled_back key) ∙ ap key_spelled (sym (same_bytes (key_of section.head.bytes) (key_word key) is)) ∙ none in
        cc
    chosen false is = and_false (is_entry section.head.bytes)

pub firsts_again : (text : List ℕ) (earlier : List lines.Section) (firsts : Firsts) (section found : Section) (key : Key) → AreFirsts text earlier firsts
    → key_spelled (word_at text section) ≡ Some key → first_of firsts key ≡ Some found → AreFirsts text (earlier ++ section_at text section ∷ []) firsts
firsts_again text earlier firsts section found key are spelled is = record {
  count = are.count;
  first = λ k. chosen k (bytes_eq (word_at text section) (key_word k)) refl;
  within = are.within;
}
  where
    chosen : (k : Key) (same : Bool) → bytes_eq (word_at text section) (key_word k) ≡ same → option_map (section_at text) (first_of firsts k) ≡ entry_of (key_word k) (earlier ++ section_at text section ∷ [])
    chosen k true same =
        let e : k ≡ key = same_key (word_at text section) key k spelled same in
        let there : option_map (section_at text) (first_of firsts k) ≡ Some (section_at text found) = ap (option_map (section_at text)) (ap (first_of firsts) e ∙ is) in
        there ∙ sym (find_before (is_entry_of (key_word k)) earlier (section_at text section) (section_at text found) (sym (are.first k) ∙ there))
    chosen k false same =
        are.first k ∙ sym (find_other (is_entry_of (key_word k)) earlier (section_at text section) (ap (λ test. is_entry (section_at text section).head.bytes && test) same ∙ and_false (is_entry (section_at text section).head.bytes)))

pub firsts_kept : (text : List ℕ) (earlier : List lines.Section) (old new : Firsts) (section : Section) (key : Key) → AreFirsts text earlier old
    → is_entry (section_at text section).head.bytes ≡ true → key_spelled (word_at text section) ≡ Some key → first_of old key ≡ None
    → first_of new key ≡ Some section → ((other : Key) → place_of other ≢ place_of key → first_of new other ≡ first_of old other) → length new.entries ≡ 7 → IsSectionIn text section
    → AreFirsts text (earlier ++ section_at text section ∷ []) new
firsts_kept text earlier old new section key are entry spelled none kept others count within = record {
  count = count;
  first = λ k. chosen k (bytes_eq (word_at text section) (key_word k)) refl;
  within = λ k. inside k (bytes_eq (word_at text section) (key_word k)) refl;
}
  where
    chosen : (k : Key) (same : Bool) → bytes_eq (word_at text section) (key_word k) ≡ same → option_map (section_at text) (first_of new k) ≡ entry_of (key_word k) (earlier ++ section_at text section ∷ [])
    chosen k true same =
        let e : k ≡ key = same_key (word_at text section) key k spelled same in
        let there : option_map (section_at text) (first_of new k) ≡ Some (section_at text section) = ap (option_map (section_at text)) (ap (first_of new) e ∙ kept) in
        let before : entry_of (key_word k) earlier ≡ None = sym (are.first k) ∙ ap (option_map (section_at text)) (ap (first_of old) e ∙ none) in
        let test : is_entry_of (key_word k) (section_at text section) ≡ true = ap (λ t. t && bytes_eq (word_at text section) (key_word k)) entry ∙ same in
        there ∙ sym (find_behind (is_entry_of (key_word k)) earlier (section_at text section) before ∙ ap (λ t. cond t (Some (section_at text section)) None) test)
    chosen k false same =
        ap (option_map (section_at text)) (others k (other_place (word_at text section) key k spelled same)) ∙ are.first k
        ∙ sym (find_other (is_entry_of (key_word k)) earlier (section_at text section) (ap (λ test. is_entry (section_at text section).head.bytes && test) same ∙ and_false (is_entry (section_at text section).head.bytes)))

    inside : (k : Key) (same : Bool) → bytes_eq (word_at text section) (key_word k) ≡ same → IfSome (first_of new k) (IsSectionIn text)
    inside k true same = subst (λ (found : Option Section). IfSome found (IsSectionIn text)) (sym (ap (first_of new) (same_key (word_at text section) key k spelled same) ∙ kept)) within
    inside k false same = subst (λ (found : Option Section). IfSome found (IsSectionIn text)) (sym (others k (other_place (word_at text section) key k spelled same))) (are.within k)

-- ══ What is wrong ══

pub wrong_no_entry : (text : List ℕ) (earlier : List lines.Section) (section : lines.Section) → is_entry section.head.bytes ≡ false
    → entry_wrongs text earlier section ≡ wrong section.head.number fault.Syntax ∷ []
wrong_no_entry text earlier section is = rw is refl

no_again : (earlier : List lines.Section) (section : lines.Section) → key_spelled (key_of section.head.bytes) ≡ None → is_again earlier section ≡ false
no_again earlier section none =
    ap (λ spelled. is_some spelled && list_any (is_entry_of (key_of section.head.bytes)) earlier) none

pub wrong_unknown : (text : List ℕ) (earlier : List lines.Section) (section : lines.Section) → is_entry section.head.bytes ≡ true → key_spelled (key_of section.head.bytes) ≡ None
    → entry_wrongs text earlier section ≡ []
wrong_unknown text earlier section is none =
    ap (λ test. cond (not test || is_again earlier section) (wrong section.head.number fault.Syntax ∷ []) (keyed_wrongs text (key_spelled (key_of section.head.bytes)) section)) is
    ∙ ap (λ test. cond test (wrong section.head.number fault.Syntax ∷ []) (keyed_wrongs text (key_spelled (key_of section.head.bytes)) section)) (no_again earlier section none)
    ∙ ap (λ spelled. keyed_wrongs text spelled section) none

again_is : (text : List ℕ) (earlier : List lines.Section) (firsts : Firsts) (section : lines.Section) (key : Key) → AreFirsts text earlier firsts → key_spelled (key_of section.head.bytes) ≡ Some key
    → is_again earlier section ≡ is_some (option_map (section_at text) (first_of firsts key))
again_is text earlier firsts section key are spelled =
    ap (λ found. is_some found && list_any (is_entry_of (key_of section.head.bytes)) earlier) spelled
    ∙ any_found (is_entry_of (key_of section.head.bytes)) earlier
    ∙ ap (λ word. is_some (entry_of word earlier)) (spelled_word (key_of section.head.bytes) key spelled)
    ∙ ap is_some (sym (are.first key))

pub wrong_again : (text : List ℕ) (earlier : List lines.Section) (firsts : Firsts) (section : lines.Section) (found : Section) (key : Key) → AreFirsts text earlier firsts
    → is_entry section.head.bytes ≡ true → key_spelled (key_of section.head.bytes) ≡ Some key → first_of firsts key ≡ Some found
    → entry_wrongs text earlier section ≡ wrong section.head.number fault.Syntax ∷ []
wrong_again text earlier firsts section found key are is spelled there =
    ap (λ test. cond (not test || is_again earlier section) (wrong section.head.number fault.Syntax ∷ []) (keyed_wrongs text (key_spelled (key_of section.head.bytes)) section)) is
    ∙ ap (λ test. cond test (wrong section.head.number fault.Syntax ∷ []) (keyed_wrongs text (key_spelled (key_of section.head.bytes)) section))
    (again_is text earlier firsts section key are spelled ∙ ap (λ first. is_some (option_map (section_at text) first)) there)

pub wrong_first : (text : List ℕ) (earlier : List lines.Section) (firsts : Firsts) (section : lines.Section) (key : Key) → AreFirsts text earlier firsts
    → is_entry section.head.bytes ≡ true → key_spelled (key_of section.head.bytes) ≡ Some key → first_of firsts key ≡ None
    → entry_wrongs text earlier section ≡ key_wrongs text key section
wrong_first text earlier firsts section key are is spelled none =
    ap (λ test. cond (not test || is_again earlier section) (wrong section.head.number fault.Syntax ∷ []) (keyed_wrongs text (key_spelled (key_of section.head.bytes)) section)) is
    ∙ ap (λ test. cond test (wrong section.head.number fault.Syntax ∷ []) (keyed_wrongs text (key_spelled (key_of section.head.bytes)) section))
    (again_is text earlier firsts section key are spelled ∙ ap (λ first. is_some (option_map (section_at text) first)) none)
    ∙ ap (λ found. keyed_wrongs text found section) spelled

pub missing_is : (text : List ℕ) (sections : List lines.Section) (firsts : Firsts) (key : Key) → AreFirsts text sections firsts → is_none (first_of firsts key) ≡ is_missing (key_word key) sections
missing_is text sections firsts key are = none_there (first_of firsts key) ∙ ap (λ found. not (is_some found)) (are.first key) ∙ ap not (sym (any_found (is_entry_of (key_word key)) sections))
  where
    none_there : (found : Option Section) → is_none found ≡ not (is_some (option_map (section_at text) found))
    none_there None = refl
    none_there (Some section) = refl

pub missing_noted : (name body : Bool) (end : ℕ) (old new : Option Wrong) → (name || body) ≡ true → new ≡ lower old (wrong end fault.Syntax)
    → new ≡ fold lower old (cond (name || body) (wrong end fault.Syntax ∷ []) [])
missing_noted name body end old new is noted = noted ∙ ap (λ test. fold lower old (cond test (wrong end fault.Syntax ∷ []) [])) (sym is)

pub none_missing : (name body : Bool) (end : ℕ) (old : Option Wrong) → name ≡ false → body ≡ false → old ≡ fold lower old (cond (name || body) (wrong end fault.Syntax ∷ []) [])
none_missing true body end old no_name no_body = cc
none_missing false true end old no_name no_body = cc
none_missing false false end old no_name no_body = refl

pub or_right : (name body : Bool) → body ≡ true → (name || body) ≡ true
or_right true body is = refl
or_right false body is = is

pub or_left : (name body : Bool) → name ≡ true → (name || body) ≡ true
or_left true body is = refl
or_left false body is = cc
