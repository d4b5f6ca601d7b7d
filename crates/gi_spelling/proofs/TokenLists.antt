-- Tokens by what they are and by the places of their names.
use Rattle.std.proofs.Common.{◌≡◌, ℕ, Bool, true, false, List, [], ◌∷◌, ◌++◌, Some, None, Ok, Err, map, refl, sym, ap, ◌∙◌, subst}
use Rattle.std.proofs.lemmas.List.{map-append}
use Rattle.std.proofs.lemmas.List.Elements.{filter_map-append}
use Rattle.gi_spelling.specs.declared.token.What.{What}
use Rattle.gi_spelling.specs.declared.token.What.TheVariants as what
use Rattle.gi_spelling.specs.declared.token.Item.{Item}
use Rattle.gi_spelling.specs.Items.{what_in}
use Rattle.gi_spelling.specs.Spelling.{name_place, name_places}
use Rattle.gi_spelling.specs.Reading.{Read, then_read, at_end, closed_by, closed}

pub record Tokens (items : List Item) (whats : List What) (places : List ℕ) : Type 0 where
  pub same : map what_in items ≡ whats
  pub at : name_places items ≡ places

abbrev pub names_nothing : What → Bool
names_nothing what.Global = false
names_nothing w = true

pub no_place : (item : Item) (w : What) → names_nothing w ≡ true → name_place item w ≡ None
no_place item what.Global none = absurd (cc)
no_place item w none = refl

pub no_tokens : Tokens [] [] []
no_tokens = record { same = refl; at = refl }

-- one more token, which is no name
pub one_more : (item : Item) (rest : List Item) (w : What) (whats : List What) (places : List ℕ) → item.what ≡ w → names_nothing w ≡ true → Tokens rest whats places
    → Tokens (item ∷ rest) (w ∷ whats) places
one_more item rest w whats places is none later =
    let nowhere : name_place item item.what ≡ None = ap (name_place item) is ∙ no_place item w none in
    record {
      same = cc (is, later.same);
      at = rw nowhere later.at;
    }

-- one more token, which is a name
pub one_name : (item : Item) (rest : List Item) (whats : List What) (places : List ℕ) → item.what ≡ what.Global → Tokens rest whats places
    → Tokens (item ∷ rest) (what.Global ∷ whats) (item.start ∷ places)
one_name item rest whats places is later =
    let here : name_place item item.what ≡ Some item.start = ap (name_place item) is in
    record {
      same = cc (is, later.same);
      at = rw here (ap (λ more. item.start ∷ more) later.at);
    }

pub both_tokens : (items more : List Item) (whats later : List What) (places behind : List ℕ) → Tokens items whats places → Tokens more later behind
    → Tokens (items ++ more) (whats ++ later) (places ++ behind)
both_tokens items more whats later places behind first second = record {
  same = map-append what_in items more ∙ cc (first.same, second.same);
  at = filter_map-append (λ (item : Item). name_place item item.what) items more ∙ cc (first.at, second.at);
}

-- what isn't refused
pub then_ok : {X Y : Type 0} (first : Read X) (next : X → Read Y) (y : Y) → then_read first next ≡ Ok y → (x : X) × (first ≡ Ok x) × (next x ≡ Ok y)
then_ok (Ok x) next y e = (x, refl, e)
then_ok (Err error) next y e = absurd (cc)

pub at_end_ok : {X : Type 0} (x y : X) (rest : List Item) → at_end x rest ≡ Ok y → (x ≡ y) × (rest ≡ [])
at_end_ok x y [] e = (cc, refl)
at_end_ok x y (item ∷ rest) e = absurd (cc)

closed_by_ok : {X : Type 0} (w : What) (x y : X) (rest : List Item) → closed_by w x rest ≡ Ok y → (w ≡ what.Close) × (x ≡ y) × (rest ≡ [])
closed_by_ok what.Close x y rest e = let p = at_end_ok x y rest e in (refl, p.0, p.1)
closed_by_ok w x y rest e = absurd (cc)

pub closed_ok : {X : Type 0} (x y : X) (rest : List Item) → closed x rest ≡ Ok y → (x ≡ y) × Tokens rest (what.Close ∷ []) []
closed_ok x y [] e = absurd (cc)
closed_ok x y (item ∷ rest) e =
    let p = closed_by_ok item.what x y rest e in
    let P : List Item → Type 0 = λ more. Tokens more [] [] in
    (p.1, one_more item rest what.Close [] [] p.0 refl (subst P (sym p.2) no_tokens))

pub ended_ok : {X : Type 0} (x y : X) (rest : List Item) → at_end x rest ≡ Ok y → (x ≡ y) × Tokens rest [] []
ended_ok x y [] e = (cc, no_tokens)
ended_ok x y (item ∷ rest) e = absurd (cc)

pub settled : {X : Type 0} (P : X → Type 0) (x y : X) → ◌≡◌ {A = Read X} (Ok x) (Ok y) → P x → P y
settled P x y e known =
    let same : x ≡ y = cc in
    subst P same known
