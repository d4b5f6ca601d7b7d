-- The types at the places of a letter, place by place.
use Rattle.std.proofs.Common.{◌≡◌, ℕ, ◌+◌, ◌<◌, ◌⊎◌, inl, inr, zero, suc, Bool, true, false, cond, List, [], ◌∷◌, ◌++◌, Option, Some, None, length, get_or, drop, refl, sym, subst, ◌∙◌, ap, ap₂, arith, add-one, length-append, nat_eq, nat_le}
use Rattle.std.specs.Prelude.{slice_get, unwrap_or}
use Rattle.std.proofs.Math.Seq.{drop-nil}
use Rattle.std.proofs.lemmas.Bool.Decides.{nat_tests}
use Rattle.gi_llt.specs.declared.Llt.{Llt}
use Rattle.gi_mir.specs.declared.typing.Letter.{Letter}
use Rattle.std.specs.List.{list_all}
use Rattle.std.specs.Prelude.{◌&&◌}
use Rattle.std.proofs.lemmas.Bool.{eq-eqb}
use Rattle.std.proofs.lemmas.Option.{none-some}
use Rattle.gi_llt.specs.declared.Llt.TheVariants.{Scalar, Pointer}
use Rattle.gi_mir.specs.declared.typing.Class.{Class}
use Rattle.gi_mir.specs.declared.typing.Relation.{Relation}
use Rattle.gi_mir.specs.Types.{same_type, is_of}
use Rattle.gi_mir.specs.Accepted.{are_one, is_free, is_related, are_related, is_letter, is_there, letter_at, have_letters, types_at}

both_longer : (m n : ℕ) → nat_eq (suc m) (suc n) ≡ nat_eq m n
both_longer m n = grind (arith, nat_tests)

both_longer_or_as_long : (m n : ℕ) → nat_le (suc m) (suc n) ≡ nat_le m n
both_longer_or_as_long m n = grind (arith, nat_tests)

pub exact_letters : (ls : List Letter) (types : List Llt) → nat_eq (length ls) (length types) ≡ have_letters ls None types
exact_letters [] [] = refl
exact_letters [] (ty ∷ types) = let h : nat_eq 0 (suc (length types)) ≡ false = grind (arith, nat_tests) in h
exact_letters (l ∷ ls) [] = let h : nat_eq (suc (length ls)) 0 ≡ false = grind (arith, nat_tests) in h
exact_letters (l ∷ ls) (ty ∷ types) = both_longer (length ls) (length types) ∙ exact_letters ls types

pub further_letters : (m : Letter) (ls : List Letter) (types : List Llt) → nat_le (length ls) (length types) ≡ have_letters ls (Some m) types
further_letters m [] types = let h : nat_le 0 (length types) ≡ true = grind (arith, nat_tests) in h
further_letters m (l ∷ ls) [] = let h : nat_le (suc (length ls)) 0 ≡ false = grind (arith, nat_tests) in h
further_letters m (l ∷ ls) (ty ∷ types) = both_longer_or_as_long (length ls) (length types) ∙ further_letters m ls types

-- a type before others where its place has the letter
abbrev with_there : Bool → Llt → List Llt → List Llt
with_there there ty types = cond there (ty ∷ types) types

further : (l : Letter) (more : Option Letter) (ty : Llt) (types : List Llt) → types_at l [] more (ty ∷ types) ≡ with_there (is_there l more) ty (types_at l [] more types)
further l None ty types = refl
further l (Some m) ty types = by (is_letter l m)
  where
    by : (b : Bool) → cond b (ty ∷ types) [] ≡ with_there b ty (cond b types [])
    by true = refl
    by false = refl

types_step : (l : Letter) (ls : List Letter) (more : Option Letter) (types : List Llt) (k : ℕ) (d : Llt) → k < length types
    → types_at l (drop k ls) more (drop k types) ≡ with_there (is_there l (letter_at ls more k)) (get_or types k d) (types_at l (drop (suc k) ls) more (drop (suc k) types))
types_step l ls more [] k d h = absurd (omega arith)
types_step l [] more (ty ∷ types) zero d h = further l more ty types
types_step l (m ∷ ms) more (ty ∷ types) zero d h = refl
types_step l [] more (ty ∷ types) (suc k) d h =
    let low : k < length types = omega (arith, h) in
    ap (λ ls. types_at l ls more (drop k types)) (sym (drop-nil k)) ∙ types_step l [] more types k d low
types_step l (m ∷ ms) more (ty ∷ types) (suc k) d h =
    let low : k < length types = omega (arith, h) in
    types_step l ms more types k d low

next : (l : Letter) (ls : List Letter) (more : Option Letter) (types : List Llt) (k : ℕ) → types_at l (drop (suc k) ls) more (drop (suc k) types) ≡ types_at l (drop (k + 1) ls) more (drop (k + 1) types)
next l ls more types k = ap (λ n. types_at l (drop n ls) more (drop n types)) (sym (add-one k))

-- a place with the letter, and one with another
pub types_here : (l : Letter) (ls : List Letter) (more : Option Letter) (types : List Llt) (k : ℕ) (d : Llt) → k < length types → is_there l (letter_at ls more k) ≡ true
    → types_at l (drop k ls) more (drop k types) ≡ get_or types k d ∷ types_at l (drop (k + 1) ls) more (drop (k + 1) types)
types_here l ls more types k d h there =
    types_step l ls more types k d h
    ∙ ap₂ (λ b rest. with_there b (get_or types k d) rest) there (next l ls more types k)

pub types_elsewhere : (l : Letter) (ls : List Letter) (more : Option Letter) (types : List Llt) (k : ℕ) (d : Llt) → k < length types → is_there l (letter_at ls more k) ≡ false
    → types_at l (drop k ls) more (drop k types) ≡ types_at l (drop (k + 1) ls) more (drop (k + 1) types)
types_elsewhere l ls more types k d h there =
    types_step l ls more types k d h
    ∙ ap₂ (λ b rest. with_there b (get_or types k d) rest) there (next l ls more types k)

-- past the last type there is none
pub types_end : (l : Letter) (ls : List Letter) (more : Option Letter) → types_at l ls more [] ≡ []
types_end l [] None = refl
types_end l [] (Some m) = by (is_letter l m)
  where
    by : (b : Bool) → cond {A = List Llt} b [] [] ≡ []
    by true = refl
    by false = refl
types_end l (m ∷ ms) more = refl

drop-all : {A : Type 0} (xs : List A) → drop (length xs) xs ≡ []
drop-all [] = refl
drop-all (x ∷ xs) = drop-all xs

pub types_past : (l : Letter) (ls : List Letter) (more : Option Letter) (types : List Llt) (k : ℕ) → k ≡ length types → types_at l (drop k ls) more (drop k types) ≡ []
types_past l ls more types k h =
    ap (λ rest. types_at l (drop k ls) more rest) (ap (λ n. drop n types) h ∙ drop-all types) ∙ types_end l (drop k ls) more

-- ══ One type ══

pub same_self : (ty : Llt) → same_type ty ty ≡ true
same_self (Scalar n) = eq-eqb n n refl
same_self Pointer = refl

pub in_both : (p : Llt → Bool) (xs ys : List Llt) → list_all p (xs ++ ys) ≡ (list_all p xs && list_all p ys)
in_both p [] ys = refl
in_both p (x ∷ xs) ys = by (p x) (in_both p xs ys)
  where
    by : (b : Bool) → list_all p (xs ++ ys) ≡ (list_all p xs && list_all p ys) → (b && list_all p (xs ++ ys)) ≡ ((b && list_all p xs) && list_all p ys)
    by true h = h
    by false h = refl

-- types are one type where each is the first one
pub one_by_first : (x : ℕ) (class : Class) (ty : Llt) (types : List Llt) → slice_get types 0 ≡ Some ty → are_one x class types ≡ (is_of x class ty && list_all (λ other. same_type ty other) types)
one_by_first x class ty [] h = absurd (none-some ty h)
one_by_first x class ty (first ∷ types) h =
    subst (λ t. are_one x class (first ∷ types) ≡ (is_of x class t && list_all (λ other. same_type t other) (first ∷ types))) (ap (λ o. unwrap_or o first) h)
    (ap (λ b. is_of x class first && (b && list_all (λ other. same_type first other) types)) (sym (same_self first)))

pub one_in_none : (x : ℕ) (class : Class) (types : List Llt) → slice_get types 0 ≡ None → are_one x class types ≡ true
one_in_none x class [] h = refl
one_in_none x class (ty ∷ types) h = absurd (none-some ty (sym h))

-- ══ Two types ══

pub length_in_both : (xs ys : List Llt) → length (xs ++ ys) ≡ length xs + length ys
length_in_both xs ys = length-append xs ys

pub related_firsts : (relation : Relation) (a b : Llt) (firsts seconds : List Llt) → slice_get firsts 0 ≡ Some a → slice_get seconds 0 ≡ Some b
    → are_related relation firsts seconds ≡ is_related relation a b (length seconds)
related_firsts relation a b [] seconds h k = absurd (none-some a h)
related_firsts relation a b (first ∷ firsts) [] h k = absurd (none-some b k)
related_firsts relation a b (first ∷ firsts) (second ∷ seconds) h k =
    ap₂ (λ c d. is_related relation c d (length (second ∷ seconds))) (ap (λ o. unwrap_or o first) h) (ap (λ o. unwrap_or o second) k)

pub related_none : (relation : Relation) (firsts seconds : List Llt) → (slice_get firsts 0 ≡ None) ⊎ (slice_get seconds 0 ≡ None) → are_related relation firsts seconds ≡ is_free relation
related_none relation [] seconds h = refl
related_none relation (a ∷ firsts) [] h = refl
related_none relation (a ∷ firsts) (b ∷ seconds) (inl h) = absurd (none-some a (sym h))
related_none relation (a ∷ firsts) (b ∷ seconds) (inr h) = absurd (none-some b (sym h))
