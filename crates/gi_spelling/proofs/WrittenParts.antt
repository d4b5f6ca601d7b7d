-- Tokens that are spelled with commas, `=` and `::` split there.
use Rattle.std.proofs.Common.{◌≡◌, ℕ, Bool, true, false, List, [], ◌∷◌, ◌++◌, Option, Some, None, map, refl, ap, ◌∙◌}
use Rattle.std.specs.Prelude.{not, if◌then◌else◌}
use Rattle.std.specs.List.{list_all}
use Rattle.std.proofs.lemmas.Bool.{and_parts, not-true}
use Rattle.gi_spelling.specs.Kept.{is_comma}
use Rattle.gi_spelling.specs.declared.token.What.{What}
use Rattle.gi_spelling.specs.declared.token.What.TheVariants as what
use Rattle.gi_spelling.specs.declared.token.Item.{Item}
use Rattle.gi_spelling.specs.Items.{what_in}
use Rattle.gi_spelling.specs.declared.written.Separator.TheVariants.{Equals, Colons}
use Rattle.gi_spelling.specs.Reading.{onto_first_part, parts_of, is_equals, is_colon, Split, onto_split, split_at}
use Rattle.gi_spelling.specs.Spelling.{name_place, name_places, listed_whats}
use Rattle.gi_spelling.proofs.TokenLists.{names_nothing, no_place}
use Rattle.gi_spelling.proofs.ItemParts.{parts_whats}

-- ══ Parts ══

-- parts of what tokens are
onto_first_what : What → List (List What) → List (List What)
onto_first_what w [] = (w ∷ []) ∷ []
onto_first_what w (part ∷ parts) = (w ∷ part) ∷ parts

what_parts : List What → List (List What)
what_parts [] = [] ∷ []
what_parts (w ∷ ws) = if is_comma w then [] ∷ what_parts ws else onto_first_what w (what_parts ws)

onto_same : (item : Item) (parts : List (List Item)) → parts_whats (onto_first_part item parts) ≡ onto_first_what item.what (parts_whats parts)
unfolding onto_first_what
onto_same item [] = refl
onto_same item (part ∷ parts) = refl

parts-whats : (items : List Item) → parts_whats (parts_of items) ≡ what_parts (map what_in items)
unfolding what_parts
parts-whats [] = refl
parts-whats (item ∷ rest) = chosen (is_comma item.what) (parts-whats rest)
  where
    chosen : (comma : Bool) → parts_whats (parts_of rest) ≡ what_parts (map what_in rest)
        → parts_whats (if comma then [] ∷ parts_of rest else onto_first_part item (parts_of rest))
        ≡ (if comma then [] ∷ what_parts (map what_in rest) else onto_first_what item.what (what_parts (map what_in rest)))
    chosen true later = ap (λ parts. [] ∷ parts) later
    chosen false later = onto_same item (parts_of rest) ∙ ap (onto_first_what item.what) later

abbrev pub no_comma : What → Bool
no_comma w = not (is_comma w)

last_part : (whats : List What) → list_all no_comma whats ≡ true → what_parts whats ≡ whats ∷ []
unfolding what_parts onto_first_what
last_part [] none = refl
last_part (w ∷ ws) none =
    let parts = and_parts (no_comma w) (list_all no_comma ws) none in
    rw (not-true (is_comma w) parts.0, last_part ws parts.1) refl

next_part : (whats later : List What) → list_all no_comma whats ≡ true → what_parts (whats ++ (what.Comma ∷ later)) ≡ whats ∷ what_parts later
unfolding what_parts onto_first_what
next_part [] later none = refl
next_part (w ∷ ws) later none =
    let parts = and_parts (no_comma w) (list_all no_comma ws) none in
    rw (not-true (is_comma w) parts.0, next_part ws later parts.1) refl

parts-listed_whats : {X : Type 0} (spell : X → List What) → ((x : X) → list_all no_comma (spell x) ≡ true) → (x : X) (xs : List X)
    → what_parts (listed_whats (map spell (x ∷ xs))) ≡ map spell (x ∷ xs)
parts-listed_whats spell quiet x [] = last_part (spell x) (quiet x)
parts-listed_whats spell quiet x (next ∷ xs) =
    next_part (spell x) (listed_whats (map spell (next ∷ xs))) (quiet x) ∙ ap (λ parts. spell x ∷ parts) (parts-listed_whats spell quiet next xs)

pub parts_written : {X : Type 0} (spell : X → List What) → ((x : X) → list_all no_comma (spell x) ≡ true) → (x : X) (xs : List X) (items : List Item)
    → map what_in items ≡ listed_whats (map spell (x ∷ xs)) → parts_whats (parts_of items) ≡ map spell (x ∷ xs)
parts_written spell quiet x xs items e = parts-whats items ∙ (ap what_parts e ∙ parts-listed_whats spell quiet x xs)

-- ══ Names ══

pub quiet_places : (items : List Item) (whats : List What) → map what_in items ≡ whats → list_all names_nothing whats ≡ true → name_places items ≡ []
quiet_places [] whats e quiet = refl
quiet_places (item ∷ rest) [] e quiet = absurd (cc)
quiet_places (item ∷ rest) (w ∷ ws) e quiet =
    let parts = and_parts (names_nothing w) (list_all names_nothing ws) quiet in
    let is : item.what ≡ w = cc in
    let later : map what_in rest ≡ ws = cc in
    let nowhere : name_place item item.what ≡ None = ap (name_place item) is ∙ no_place item w parts.0 in
    rw nowhere (quiet_places rest ws later parts.1)

-- ══ Splitting ══

-- tokens in two parts, with something between them that names nothing
pub record InTwo (items before rest : List Item) (first second : List What) : Type 0 where
  pub first_same : map what_in before ≡ first
  pub second_same : map what_in rest ≡ second
  pub at : name_places items ≡ name_places before ++ name_places rest

pub record SplitsAt (split : List Item → Split) (items : List Item) (first second : List What) : Type 0 where
  pub before : List Item
  pub rest : List Item
  pub found : split items ≡ record { before = before; after = Some rest }
  pub parts : InTwo items before rest first second

abbrev onto_option : Option ℕ → List ℕ → List ℕ
onto_option None places = places
onto_option (Some place) places = place ∷ places

onto_name : (item : Item) (before more places : List Item) → name_places places ≡ name_places before ++ name_places more
    → name_places (item ∷ places) ≡ name_places (item ∷ before) ++ name_places more
onto_name item before more places e = chosen (name_place item item.what)
  where
    chosen : (place : Option ℕ) → onto_option place (name_places places) ≡ onto_option place (name_places before) ++ name_places more
    chosen None = e
    chosen (Some place) = ap (λ later. place ∷ later) e

abbrev pub no_equals : What → Bool
no_equals w = not (is_equals w)

pub equals_written : (first second : List What) (items : List Item) → list_all no_equals first ≡ true → map what_in items ≡ first ++ (what.Equals ∷ second)
    → SplitsAt (split_at Equals) items first second
equals_written first second [] none e = absurd (clash first e)
  where
    clash : (first : List What) → [] ≡ first ++ (what.Equals ∷ second) → ⊥
    clash [] e = cc
    clash (w ∷ ws) e = cc
equals_written [] second (item ∷ rest) none e =
    let is : item.what ≡ what.Equals = cc in
    record { before = []; rest = rest; found = rw is refl; parts = record { first_same = refl; second_same = cc; at = rw is refl } }
equals_written (w ∷ ws) second (item ∷ rest) none e =
    let parts = and_parts (no_equals w) (list_all no_equals ws) none in
    let is : item.what ≡ w = cc in
    let other : is_equals item.what ≡ false = ap is_equals is ∙ not-true (is_equals w) parts.0 in
    let later : map what_in rest ≡ ws ++ (what.Equals ∷ second) = cc in
    let split = equals_written ws second rest parts.1 later in
    record {
      before = item ∷ split.before;
      rest = split.rest;
      found = rw other (ap (onto_split item) split.found);
      parts = record { first_same = cc (is, split.parts.first_same); second_same = split.parts.second_same; at = onto_name item split.before split.rest rest split.parts.at };
    }

abbrev pub no_colon : What → Bool
no_colon w = not (is_colon w)

pub no_colons_written : (whats : List What) (items : List Item) → list_all no_colon whats ≡ true → map what_in items ≡ whats
    → split_at Colons items ≡ record { before = items; after = None }
no_colons_written whats [] none e = refl
no_colons_written [] (item ∷ rest) none e = absurd (cc)
no_colons_written (w ∷ ws) (item ∷ rest) none e =
    let parts = and_parts (no_colon w) (list_all no_colon ws) none in
    let is : item.what ≡ w = cc in
    let other : is_colon item.what ≡ false = ap is_colon is ∙ not-true (is_colon w) parts.0 in
    let later : map what_in rest ≡ ws = cc in
    rw other (ap (onto_split item) (no_colons_written ws rest parts.1 later))

pub colons_written : (first second : List What) (items : List Item) → list_all no_colon first ≡ true → map what_in items ≡ first ++ (what.Colon ∷ what.Colon ∷ second)
    → SplitsAt (split_at Colons) items first second
colons_written first second [] none e = absurd (clash first e)
  where
    clash : (first : List What) → [] ≡ first ++ (what.Colon ∷ what.Colon ∷ second) → ⊥
    clash [] e = cc
    clash (w ∷ ws) e = cc
colons_written [] second (item ∷ []) none e = absurd (cc)
colons_written [] second (item ∷ next ∷ rest) none e =
    let is : item.what ≡ what.Colon = cc in
    let also : next.what ≡ what.Colon = cc in
    record { before = []; rest = rest; found = rw (is, also) refl; parts = record { first_same = refl; second_same = cc; at = rw (is, also) refl } }
colons_written (w ∷ ws) second (item ∷ rest) none e =
    let parts = and_parts (no_colon w) (list_all no_colon ws) none in
    let is : item.what ≡ w = cc in
    let other : is_colon item.what ≡ false = ap is_colon is ∙ not-true (is_colon w) parts.0 in
    let later : map what_in rest ≡ ws ++ (what.Colon ∷ what.Colon ∷ second) = cc in
    let split = colons_written ws second rest parts.1 later in
    record {
      before = item ∷ split.before;
      rest = split.rest;
      found = rw other (ap (onto_split item) split.found);
      parts = record { first_same = cc (is, split.parts.first_same); second_same = split.parts.second_same; at = onto_name item split.before split.rest rest split.parts.at };
    }
