-- A row whose types aren't related is met as well where the types of fewer registers are known.
use Rattle.std.proofs.Common.{◌≡◌, ℕ, zero, suc, ◌-◌, ◌<◌, ◌≤◌, Bool, true, false, cond, ◌&&◌, List, [], ◌∷◌, ◌++◌, Option, Some, None, length, take, drop, replicate, refl, sym, ap, ap₂, ◌∙◌, true≢false, arith}
use Rattle.std.specs.List.{list_all}
use Rattle.std.proofs.lemmas.List.Folds.{list_all-append}
use Rattle.gi_llt.specs.declared.Llt.{Llt}
use Rattle.gi_mir.specs.Accepted.{letters, is_letter, class_of, are_one}
use Rattle.gi_mir.specs.Types.{same_type, is_of}
use Rattle.gi_mir.specs.Typings.{TypingData}
use Rattle.gi_mir.specs.declared.typing.Class.{Class}
use Rattle.gi_mir.specs.declared.typing.Letter.{Letter}
use Rattle.gi_mir.specs.declared.typing.Letter.TheVariants.{A, B}
use Rattle.gi_mir.specs.declared.typing.Relation.TheVariants.{Free}
use Rattle.gi_valid.specs.Typing.{places_with, places_of_letter, known, may_relate}
use Rattle.gi_verify.specs.Met.{masked, is_met_with}

-- ══ The first types of a list ══

-- the first so many types, and for each other one every type
abbrev hidden : ℕ → List (Option Llt) → List (Option Llt)
hidden n [] = []
hidden zero (ty ∷ types) = None ∷ hidden zero types
hidden (suc n) (ty ∷ types) = ty ∷ hidden n types

masked_is : (n : ℕ) (types : List (Option Llt)) → masked types n ≡ hidden n types
masked_is zero [] = refl
masked_is (suc n) [] = ap (λ m. replicate m None) (none n)
  where
    none : (n : ℕ) → 0 - suc n ≡ 0
    none n = omega arith
masked_is zero (ty ∷ types) = ap (λ m. replicate m None) (more (length types)) ∙ ap (λ l. None ∷ l) (masked_is zero types)
  where
    more : (m : ℕ) → suc m - 0 ≡ suc (m - 0)
    more m = omega arith
masked_is (suc n) (ty ∷ types) = ap (λ m. ty ∷ (take n types ++ replicate m None)) (less (length types)) ∙ ap (λ l. ty ∷ l) (masked_is n types)
  where
    less : (m : ℕ) → suc m - suc n ≡ m - n
    less m = omega arith

-- ══ What is known of a letter's types ══

record IsPrefix (xs ys : List Llt) : Type 0 where
  rest : List Llt
  joined : xs ++ rest ≡ ys

prefix_of_same : (xs : List Llt) → IsPrefix xs xs
prefix_of_same xs = record { rest = []; joined = no_more xs }
  where
    no_more : (xs : List Llt) → xs ++ [] ≡ xs
    no_more [] = refl
    no_more (x ∷ xs) = ap (λ l. x ∷ l) (no_more xs)

one_more : (ty : Option Llt) (xs ys : List (Option Llt)) → IsPrefix (known xs) (known ys) → IsPrefix (known (ty ∷ xs)) (known (ty ∷ ys))
one_more None xs ys h = h
one_more (Some ty) xs ys h = record { rest = h.rest; joined = ap (λ l. ty ∷ l) h.joined }

-- the known types of a letter, of the results and then of the sources
abbrev known_of : Letter → (ms : List Letter) → (more : Option Letter) → (ss : List Letter) → (others : Option Letter) → (results : ℕ) → List (Option Llt) → List Llt
known_of l ms more ss others results types = known (places_with l ms more (take results types) ++ places_with l ss others (drop results types))

nothing : (types : List (Option Llt)) → known (hidden zero types) ≡ []
nothing [] = refl
nothing (ty ∷ types) = nothing types

nothing_with : (l : Letter) (ms : List Letter) (more : Option Letter) (types : List (Option Llt)) → known (places_with l ms more (hidden zero types)) ≡ []
nothing_with l [] None types = refl
nothing_with l [] (Some m) types = by (is_letter l m)
  where
    by : (t : Bool) → known (cond t (hidden zero types) []) ≡ []
    by true = nothing types
    by false = refl
nothing_with l (m ∷ ms) more [] = refl
nothing_with l (m ∷ ms) more (ty ∷ types) = by (is_letter l m) (nothing_with l ms more types)
  where
    by : (t : Bool) → known (places_with l ms more (hidden zero types)) ≡ [] → known (cond t (None ∷ places_with l ms more (hidden zero types)) (places_with l ms more (hidden zero types))) ≡ []
    by true h = h
    by false h = h

known_in_both : (xs ys : List (Option Llt)) → known (xs ++ ys) ≡ known xs ++ known ys
known_in_both [] ys = refl
known_in_both (None ∷ xs) ys = known_in_both xs ys
known_in_both (Some ty ∷ xs) ys = ap (λ l. ty ∷ l) (known_in_both xs ys)

none_taken : (n : ℕ) (types : List (Option Llt)) → take n (hidden zero types) ≡ hidden zero (take n types)
none_taken zero types = refl
none_taken (suc n) [] = refl
none_taken (suc n) (ty ∷ types) = ap (λ l. None ∷ l) (none_taken n types)

none_dropped : (n : ℕ) (types : List (Option Llt)) → drop n (hidden zero types) ≡ hidden zero (drop n types)
none_dropped zero types = refl
none_dropped (suc n) [] = refl
none_dropped (suc n) (ty ∷ types) = none_dropped n types

nothing_of : (l : Letter) (ms : List Letter) (more : Option Letter) (ss : List Letter) (others : Option Letter) (results : ℕ) (types : List (Option Llt)) → known_of l ms more ss others results (hidden zero types) ≡ []
nothing_of l ms more ss others results types =
    known_in_both (places_with l ms more (take results (hidden zero types))) (places_with l ss others (drop results (hidden zero types)))
    ∙ ap₂ ◌++◌
    (ap (λ ts. known (places_with l ms more ts)) (none_taken results types) ∙ nothing_with l ms more (take results types))
    (ap (λ ts. known (places_with l ss others ts)) (none_dropped results types) ∙ nothing_with l ss others (drop results types))

no_places : (l : Letter) (ms : List Letter) (more : Option Letter) → places_with l ms more [] ≡ []
no_places l [] None = refl
no_places l [] (Some m) = by (is_letter l m)
  where
    by : (t : Bool) → cond {A = List (Option Llt)} t [] [] ≡ []
    by true = refl
    by false = refl
no_places l (m ∷ ms) more = refl

from_nothing : (xs ys : List Llt) → xs ≡ [] → IsPrefix xs ys
from_nothing xs ys e = record { rest = ys; joined = ap (λ l. l ++ ys) e }

fewer_all : (types : List (Option Llt)) (n m : ℕ) → n ≤ m → IsPrefix (known (hidden n types)) (known (hidden m types))
fewer_all [] n m h = prefix_of_same []
fewer_all (ty ∷ types) zero m h = from_nothing (known (hidden zero types)) (known (hidden m (ty ∷ types))) (nothing types)
fewer_all (ty ∷ types) (suc n) zero h = absurd (omega (arith, h))
fewer_all (ty ∷ types) (suc n) (suc m) h = one_more ty (hidden n types) (hidden m types) (fewer_all types n m (omega (arith, h)))

-- of fewer types those that are known at a letter's places begin those of more
fewer_with : (l : Letter) (ms : List Letter) (more : Option Letter) (types : List (Option Llt)) (n m : ℕ) → n ≤ m
    → IsPrefix (known (places_with l ms more (hidden n types))) (known (places_with l ms more (hidden m types)))
fewer_with l [] None types n m h = prefix_of_same []
fewer_with l [] (Some q) types n m h = by (is_letter l q)
  where
    by : (t : Bool) → IsPrefix (known (cond t (hidden n types) [])) (known (cond t (hidden m types) []))
    by true = fewer_all types n m h
    by false = prefix_of_same []
fewer_with l (q ∷ ms) more [] n m h = prefix_of_same []
fewer_with l (q ∷ ms) more (ty ∷ types) zero m h =
    from_nothing (known (places_with l (q ∷ ms) more (hidden zero (ty ∷ types)))) (known (places_with l (q ∷ ms) more (hidden m (ty ∷ types)))) (nothing_with l (q ∷ ms) more (ty ∷ types))
fewer_with l (q ∷ ms) more (ty ∷ types) (suc n) zero h = absurd (omega (arith, h))
fewer_with l (q ∷ ms) more (ty ∷ types) (suc n) (suc m) h = by (is_letter l q) (fewer_with l ms more types n m (omega (arith, h)))
  where
    by : (t : Bool) → IsPrefix (known (places_with l ms more (hidden n types))) (known (places_with l ms more (hidden m types)))
        → IsPrefix (known (cond t (ty ∷ places_with l ms more (hidden n types)) (places_with l ms more (hidden n types)))) (known (cond t (ty ∷ places_with l ms more (hidden m types)) (places_with l ms more (hidden m types))))
    by true k = one_more ty (places_with l ms more (hidden n types)) (places_with l ms more (hidden m types)) k
    by false k = k

fewer_of : (l : Letter) (ms : List Letter) (more : Option Letter) (ss : List Letter) (others : Option Letter) (results : ℕ) (types : List (Option Llt)) (n m : ℕ) → n ≤ m
    → IsPrefix (known_of l ms more ss others results (hidden n types)) (known_of l ms more ss others results (hidden m types))
fewer_of l ms more ss others zero types n m h = rw (no_places l ms more) (fewer_with l ss others types n m h)
fewer_of l ms more ss others (suc results) [] n m h = prefix_of_same (known_of l ms more ss others (suc results) [])
fewer_of l ms more ss others (suc results) (ty ∷ types) zero m h =
    from_nothing (known_of l ms more ss others (suc results) (hidden zero (ty ∷ types))) (known_of l ms more ss others (suc results) (hidden m (ty ∷ types))) (nothing_of l ms more ss others (suc results) (ty ∷ types))
fewer_of l ms more ss others (suc results) (ty ∷ types) (suc n) zero h = absurd (omega (arith, h))
fewer_of l [] None ss others (suc results) (ty ∷ types) (suc n) (suc m) h = fewer_of l [] None ss others results types n m (omega (arith, h))
fewer_of l [] (Some q) ss others (suc results) (ty ∷ types) (suc n) (suc m) h = by (is_letter l q) (fewer_of l [] (Some q) ss others results types n m (omega (arith, h)))
  where
    by : (t : Bool) → IsPrefix (known (cond t (take results (hidden n types)) [] ++ places_with l ss others (drop results (hidden n types)))) (known (cond t (take results (hidden m types)) [] ++ places_with l ss others (drop results (hidden m types))))
        → IsPrefix (known (cond t (ty ∷ take results (hidden n types)) [] ++ places_with l ss others (drop results (hidden n types)))) (known (cond t (ty ∷ take results (hidden m types)) [] ++ places_with l ss others (drop results (hidden m types))))
    by true k = one_more ty (take results (hidden n types) ++ places_with l ss others (drop results (hidden n types))) (take results (hidden m types) ++ places_with l ss others (drop results (hidden m types))) k
    by false k = k
fewer_of l (q ∷ ms) more ss others (suc results) (ty ∷ types) (suc n) (suc m) h = by (is_letter l q) (fewer_of l ms more ss others results types n m (omega (arith, h)))
  where
    by : (t : Bool) → IsPrefix (known (places_with l ms more (take results (hidden n types)) ++ places_with l ss others (drop results (hidden n types)))) (known (places_with l ms more (take results (hidden m types)) ++ places_with l ss others (drop results (hidden m types))))
        → IsPrefix (known (cond t (ty ∷ places_with l ms more (take results (hidden n types))) (places_with l ms more (take results (hidden n types))) ++ places_with l ss others (drop results (hidden n types)))) (known (cond t (ty ∷ places_with l ms more (take results (hidden m types))) (places_with l ms more (take results (hidden m types))) ++ places_with l ss others (drop results (hidden m types))))
    by true k = one_more ty (places_with l ms more (take results (hidden n types)) ++ places_with l ss others (drop results (hidden n types))) (places_with l ms more (take results (hidden m types)) ++ places_with l ss others (drop results (hidden m types))) k
    by false k = k

-- ══ The row ══

all_of_first : {X : Type 0} (p : X → Bool) (xs ys : List X) → list_all p (xs ++ ys) ≡ true → list_all p xs ≡ true
all_of_first p xs ys h = by (list_all p xs) (sym (list_all-append p xs ys) ∙ h)
  where
    by : (t : Bool) → (t && list_all p ys) ≡ true → t ≡ true
    by true h = refl
    by false h = h

one_of_first : (x : ℕ) (class : Class) (xs ys : List Llt) → IsPrefix xs ys → are_one x class ys ≡ true → are_one x class xs ≡ true
one_of_first x class [] ys first h = refl
one_of_first x class (ty ∷ xs) ys first h = by (is_of x class ty) (ap (are_one x class) first.joined ∙ h)
  where
    by : (t : Bool) → (t && list_all (λ other. same_type ty other) (xs ++ first.rest)) ≡ true → (t && list_all (λ other. same_type ty other) xs) ≡ true
    by true h = all_of_first (λ other. same_type ty other) xs first.rest h
    by false h = h

all_as_well : {X : Type 0} (p q : X → Bool) → ((x : X) → p x ≡ true → q x ≡ true) → (xs : List X) → list_all p xs ≡ true → list_all q xs ≡ true
all_as_well p q h [] e = refl
all_as_well p q h (x ∷ xs) e = by (p x) (q x) (h x) (all_as_well p q h xs) e
  where
    by : (s t : Bool) → (s ≡ true → t ≡ true) → (list_all p xs ≡ true → list_all q xs ≡ true) → (s && list_all p xs) ≡ true → (t && list_all q xs) ≡ true
    by true t g k e = rw (g refl) (k e)
    by false t g k e = cc

and_free : (x : ℕ) (typing : TypingData) (firsts seconds : List Llt) (count : ℕ) → typing.relation ≡ Free → (t : Bool) → (t && may_relate x typing.relation firsts seconds count) ≡ t
and_free x typing firsts seconds count free t = rw free (by t)
  where
    by : (t : Bool) → (t && true) ≡ t
    by true = refl
    by false = refl

abbrev is_one_at : (x : ℕ) → TypingData → (results : ℕ) → List (Option Llt) → Letter → Bool
is_one_at x typing results types l = are_one x (class_of typing l) (known_of l typing.results typing.more_results typing.sources typing.more_sources results types)

fewer_one : (x : ℕ) (typing : TypingData) (results : ℕ) (types : List (Option Llt)) (n m : ℕ) → n ≤ m → (l : Letter) → is_one_at x typing results (masked types m) l ≡ true → is_one_at x typing results (masked types n) l ≡ true
fewer_one x typing results types n m h l e =
    ap (λ ts. is_one_at x typing results ts l) (masked_is n types)
    ∙ one_of_first x (class_of typing l) (at (hidden n types)) (at (hidden m types))
    (fewer_of l typing.results typing.more_results typing.sources typing.more_sources results types n m h)
    (ap (λ ts. is_one_at x typing results ts l) (sym (masked_is m types)) ∙ e)
  where
    at : List (Option Llt) → List Llt
    at ts = known_of l typing.results typing.more_results typing.sources typing.more_sources results ts

abbrev all_one : (x : ℕ) → TypingData → (results : ℕ) → List (Option Llt) → Bool
all_one x typing results types = list_all (is_one_at x typing results types) letters

free_met : (x : ℕ) (typing : TypingData) (results : ℕ) (types : List (Option Llt)) (n : ℕ) → typing.relation ≡ Free → is_met_with x typing results types n ≡ all_one x typing results (masked types n)
free_met x typing results types n free =
    and_free x typing (known (places_of_letter A typing (take results (masked types n)) (drop results (masked types n)))) (known (places_of_letter B typing (take results (masked types n)) (drop results (masked types n))))
    (length (places_of_letter B typing (take results (masked types n)) (drop results (masked types n)))) free (all_one x typing results (masked types n))

pub fewer_met : (x : ℕ) (typing : TypingData) (results : ℕ) (types : List (Option Llt)) (n m : ℕ) → typing.relation ≡ Free → n ≤ m → is_met_with x typing results types m ≡ true → is_met_with x typing results types n ≡ true
fewer_met x typing results types n m free h met =
    free_met x typing results types n free
    ∙ all_as_well (is_one_at x typing results (masked types m)) (is_one_at x typing results (masked types n)) (fewer_one x typing results types n m h) letters (sym (free_met x typing results types m free) ∙ met)

-- the row is met where no type is known
pub none_met : (x : ℕ) (typing : TypingData) (results : ℕ) (types : List (Option Llt)) → typing.relation ≡ Free → is_met_with x typing results types 0 ≡ true
none_met x typing results types free =
    free_met x typing results types 0 free
    ∙ ap (all_one x typing results) (masked_is 0 types)
    ∙ all_as_well (λ l. true) (is_one_at x typing results (hidden 0 types)) (λ l h. ap (are_one x (class_of typing l)) (nothing_of l typing.results typing.more_results typing.sources typing.more_sources results types)) letters refl

pub some_unmet : (x : ℕ) (typing : TypingData) (results : ℕ) (types : List (Option Llt)) (count : ℕ) → typing.relation ≡ Free → is_met_with x typing results types count ≡ false → 0 < count
some_unmet x typing results types zero free unmet = absurd (true≢false (sym (none_met x typing results types free) ∙ unmet))
some_unmet x typing results types (suc n) free unmet = omega arith
