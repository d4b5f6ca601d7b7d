-- Tokens between commas, and tokens split at `=` and at `::`.
use Rattle.std.proofs.Common.{◌≡◌, ℕ, Bool, true, false, List, [], ◌∷◌, ◌++◌, Some, None, Ok, map, refl, sym, ap, ◌∙◌, append_assoc}
use Rattle.std.specs.Prelude.{◌&&◌, drop, flat_map, if◌then◌else◌}
use Rattle.std.specs.List.{AllZip}
use Rattle.std.proofs.lemmas.Bool.{and_parts}
use Rattle.std.proofs.lemmas.List.Elements.{filter_map-append}
use Rattle.gi_spelling.specs.Kept.{is_comma}
use Rattle.gi_spelling.specs.declared.token.What.{What}
use Rattle.gi_spelling.specs.declared.token.What.TheVariants as what
use Rattle.gi_spelling.specs.declared.token.Item.{Item}
use Rattle.gi_spelling.specs.Items.{what_in}
use Rattle.gi_spelling.specs.declared.written.Separator.TheVariants.{Equals, Colons}
use Rattle.gi_spelling.specs.Reading.{Read, then_read, onto_first_part, parts_of, read_all, is_equals, is_colon, onto_split, split_at, begins_with_colon}
use Rattle.gi_spelling.specs.Spelling.{name_place, name_places, listed_whats}
use Rattle.gi_spelling.proofs.TokenLists.{Tokens, then_ok, settled}

comma_is : (w : What) → is_comma w ≡ true → w ≡ what.Comma
comma_is what.Comma e = refl
comma_is w e = absurd (cc)

equals_is : (w : What) → is_equals w ≡ true → w ≡ what.Equals
equals_is what.Equals e = refl
equals_is w e = absurd (cc)

colon_is : (w : What) → is_colon w ≡ true → w ≡ what.Colon
colon_is what.Colon e = refl
colon_is w e = absurd (cc)

-- ══ Parts ══

abbrev pub parts_whats : List (List Item) → List (List What)
parts_whats parts = map (map what_in) parts

pub some_parts : (items : List Item) → (part : List Item) × (parts : List (List Item)) × (parts_of items ≡ part ∷ parts)
some_parts [] = ([], [], refl)
some_parts (item ∷ rest) = chosen (is_comma item.what) (parts_of rest)
  where
    chosen : (comma : Bool) (later : List (List Item)) → (part : List Item) × (parts : List (List Item)) × ((if comma then [] ∷ later else onto_first_part item later) ≡ part ∷ parts)
    chosen true later = ([], later, refl)
    chosen false [] = (item ∷ [], [], refl)
    chosen false (part ∷ parts) = (item ∷ part, parts, refl)

onto_listed : (item : Item) (parts : List (List Item)) → listed_whats (parts_whats (onto_first_part item parts)) ≡ item.what ∷ listed_whats (parts_whats parts)
onto_listed item [] = refl
onto_listed item (part ∷ []) = refl
onto_listed item (part ∷ next ∷ parts) = refl

behind_comma : (items : List Item) → listed_whats ([] ∷ parts_whats (parts_of items)) ≡ what.Comma ∷ listed_whats (parts_whats (parts_of items))
behind_comma items =
    let p = some_parts items in
    rw (p.2) refl

pub parts-listed : (items : List Item) → listed_whats (parts_whats (parts_of items)) ≡ map what_in items
parts-listed [] = refl
parts-listed (item ∷ rest) = chosen (is_comma item.what) refl (parts-listed rest)
  where
    chosen : (comma : Bool) → is_comma item.what ≡ comma → listed_whats (parts_whats (parts_of rest)) ≡ map what_in rest
        → listed_whats (parts_whats (if comma then [] ∷ parts_of rest else onto_first_part item (parts_of rest))) ≡ item.what ∷ map what_in rest
    chosen true is later = behind_comma rest ∙ cc (comma_is item.what is, later)
    chosen false is later = onto_listed item (parts_of rest) ∙ ap (λ whats. item.what ∷ whats) later

onto_places : (item : Item) (parts : List (List Item)) → flat_map name_places (onto_first_part item parts) ≡ name_places (item ∷ []) ++ flat_map name_places parts
onto_places item [] = refl
onto_places item (part ∷ parts) =
    ap (λ places. places ++ flat_map name_places parts) (filter_map-append (λ (item : Item). name_place item item.what) (item ∷ []) part) ∙ append_assoc (name_places (item ∷ [])) (name_places part) (flat_map name_places parts)

pub parts-places : (items : List Item) → flat_map name_places (parts_of items) ≡ name_places items
parts-places [] = refl
parts-places (item ∷ rest) = chosen (is_comma item.what) refl (parts-places rest)
  where
    chosen : (comma : Bool) → is_comma item.what ≡ comma → flat_map name_places (parts_of rest) ≡ name_places rest
        → flat_map name_places (if comma then [] ∷ parts_of rest else onto_first_part item (parts_of rest)) ≡ name_places (item ∷ rest)
    chosen true is later = rw (comma_is item.what is) later
    chosen false is later =
        onto_places item (parts_of rest)
        ∙ (ap (λ places. name_places (item ∷ []) ++ places) later ∙ sym (filter_map-append (λ (item : Item). name_place item item.what) (item ∷ []) rest))

-- parts, each of which spells a thing
pub record IsPart {X : Type 0} (spell : X → List What) (places : X → List ℕ) (part : List Item) (x : X) : Type 0 where
  pub tokens : Tokens part (spell x) (places x)

zip_whats : {X : Type 0} (spell : X → List What) (places : X → List ℕ) (parts : List (List Item)) (xs : List X) → AllZip (IsPart spell places) parts xs
    → (parts_whats parts ≡ map spell xs) × (flat_map name_places parts ≡ flat_map places xs)
zip_whats spell places [] [] all = (refl, refl)
zip_whats spell places [] (x ∷ xs) all = absurd all
zip_whats spell places (part ∷ parts) [] all = absurd all
zip_whats spell places (part ∷ parts) (x ∷ xs) all =
    let later = zip_whats spell places parts xs all.1 in
    let same : map what_in part ≡ spell x = all.0.tokens.same in
    let at : name_places part ≡ places x = all.0.tokens.at in
    (cc (same, later.0), cc (at, later.1))

pub parts_spelled : {X : Type 0} (spell : X → List What) (places : X → List ℕ) (items : List Item) (xs : List X) → AllZip (IsPart spell places) (parts_of items) xs
    → Tokens items (listed_whats (map spell xs)) (flat_map places xs)
parts_spelled spell places items xs all =
    let p = zip_whats spell places (parts_of items) xs all in
    record {
      same = sym (parts-listed items) ∙ ap listed_whats p.0;
      at = sym (parts-places items) ∙ p.1;
    }

pub all_ok : {X : Type 0} (spell : X → List What) (places : X → List ℕ) (read : List Item → Read X) → ((part : List Item) (x : X) → read part ≡ Ok x → IsPart spell places part x)
    → (parts : List (List Item)) (xs : List X) → read_all read parts ≡ Ok xs → AllZip (IsPart spell places) parts xs
all_ok spell places read each [] xs e = settled (AllZip (IsPart spell places) []) [] xs e tt
all_ok {X} spell places read each (part ∷ parts) xs e =
    let p = then_ok (read part) (λ (x : X). then_read (read_all read parts) (λ (xs : List X). Ok (x ∷ xs))) xs e in
    let q = then_ok (read_all read parts) (λ (xs : List X). Ok (p.0 ∷ xs)) xs p.2 in
    settled (AllZip (IsPart spell places) (part ∷ parts)) (p.0 ∷ q.0) xs q.2 (each part p.0 p.1, all_ok spell places read each parts q.0 q.1)

-- ══ Splitting ══

pub equals_split : (items rest : List Item) → (split_at Equals items).after ≡ Some rest → (item : Item) × (item.what ≡ what.Equals) × (items ≡ (split_at Equals items).before ++ (item ∷ rest))
equals_split [] rest e = absurd (cc)
equals_split (item ∷ items) rest e = chosen (is_equals item.what) refl (equals_split items rest) e
  where
    chosen : (found : Bool) → is_equals item.what ≡ found
        → ((split_at Equals items).after ≡ Some rest → (eq : Item) × (eq.what ≡ what.Equals) × (items ≡ (split_at Equals items).before ++ (eq ∷ rest)))
        → (if found then record { before = []; after = Some items } else onto_split item (split_at Equals items)).after ≡ Some rest
        → (eq : Item) × (eq.what ≡ what.Equals) × (item ∷ items ≡ (if found then record { before = []; after = Some items } else onto_split item (split_at Equals items)).before ++ (eq ∷ rest))
    chosen true is later e = (item, equals_is item.what is, cc)
    chosen false is later e =
        let p = later e in
        (p.0, p.1, ap (λ more. item ∷ more) p.2)

pub no_colons_split : (items : List Item) → (split_at Colons items).after ≡ None → (split_at Colons items).before ≡ items
no_colons_split [] e = refl
no_colons_split (item ∷ items) e = chosen (is_colon item.what && begins_with_colon items) (no_colons_split items) e
  where
    chosen : (found : Bool) → ((split_at Colons items).after ≡ None → (split_at Colons items).before ≡ items)
        → (if found then record { before = []; after = Some (drop 1 items) } else onto_split item (split_at Colons items)).after ≡ None
        → (if found then record { before = []; after = Some (drop 1 items) } else onto_split item (split_at Colons items)).before ≡ item ∷ items
    chosen true later e = absurd (cc)
    chosen false later e = ap (λ more. item ∷ more) (later e)

first_colon : (items : List Item) → begins_with_colon items ≡ true → (item : Item) × (item.what ≡ what.Colon) × (items ≡ item ∷ drop 1 items)
first_colon [] e = absurd (cc)
first_colon (item ∷ items) e = (item, colon_is item.what e, refl)

pub colons_split : (items rest : List Item) → (split_at Colons items).after ≡ Some rest
    → (first second : Item) × (first.what ≡ what.Colon) × (second.what ≡ what.Colon) × (items ≡ (split_at Colons items).before ++ (first ∷ second ∷ rest))
colons_split [] rest e = absurd (cc)
colons_split (item ∷ items) rest e = chosen (is_colon item.what && begins_with_colon items) refl (colons_split items rest) e
  where
    chosen : (found : Bool) → (is_colon item.what && begins_with_colon items) ≡ found
        → ((split_at Colons items).after ≡ Some rest
        → (first second : Item) × (first.what ≡ what.Colon) × (second.what ≡ what.Colon) × (items ≡ (split_at Colons items).before ++ (first ∷ second ∷ rest)))
        → (if found then record { before = []; after = Some (drop 1 items) } else onto_split item (split_at Colons items)).after ≡ Some rest
        → (first second : Item) × (first.what ≡ what.Colon) × (second.what ≡ what.Colon)
        × (item ∷ items ≡ (if found then record { before = []; after = Some (drop 1 items) } else onto_split item (split_at Colons items)).before ++ (first ∷ second ∷ rest))
    chosen true is later e =
        let parts = and_parts (is_colon item.what) (begins_with_colon items) is in
        let second = first_colon items parts.1 in
        let whole : items ≡ second.0 ∷ drop 1 items = second.2 in
        let same : drop 1 items ≡ rest = cc in
        (item, second.0, colon_is item.what parts.0, second.1, cc (whole, same))
    chosen false is later e =
        let p = later e in
        (p.0, p.1, p.2, p.3, ap (λ more. item ∷ more) p.4)
