-- The types at the places of a letter, place by place.
use Rattle.std.proofs.Common.{◌≡◌, ℕ, ◌+◌, ◌<◌, zero, suc, Bool, true, false, cond, List, [], ◌∷◌, ◌++◌, Option, Some, None, length, get_or, drop, refl, sym, ◌∙◌, ap, ap₂, arith, add-one, append_assoc}
use Rattle.std.proofs.Math.Seq.{drop-nil}
use Rattle.gi_llt.specs.declared.Llt.{Llt}
use Rattle.gi_mir.specs.declared.typing.Letter.{Letter}
use Rattle.gi_mir.specs.Accepted.{is_letter, is_there, letter_at}
use Rattle.gi_valid.specs.Typing.{places_with}

-- a type before others where its place has the letter
abbrev with_there : Bool → Option Llt → List (Option Llt) → List (Option Llt)
with_there there ty types = cond there (ty ∷ []) [] ++ types

further : (l : Letter) (more : Option Letter) (ty : Option Llt) (types : List (Option Llt)) → places_with l [] more (ty ∷ types) ≡ with_there (is_there l more) ty (places_with l [] more types)
further l None ty types = refl
further l (Some m) ty types = by (is_letter l m)
  where
    by : (b : Bool) → cond b (ty ∷ types) [] ≡ with_there b ty (cond b types [])
    by true = refl
    by false = refl

step_by : (b : Bool) (ty : Option Llt) (types : List (Option Llt)) → cond b (ty ∷ types) types ≡ with_there b ty types
step_by true ty types = refl
step_by false ty types = refl

places_step : (l : Letter) (ls : List Letter) (more : Option Letter) (types : List (Option Llt)) (k : ℕ) (d : Option Llt) → k < length types
    → places_with l (drop k ls) more (drop k types) ≡ with_there (is_there l (letter_at ls more k)) (get_or types k d) (places_with l (drop (suc k) ls) more (drop (suc k) types))
places_step l ls more [] k d h = absurd (omega arith)
places_step l [] more (ty ∷ types) zero d h = further l more ty types
places_step l (m ∷ ms) more (ty ∷ types) zero d h = step_by (is_letter l m) ty (places_with l ms more types)
places_step l [] more (ty ∷ types) (suc k) d h =
    let low : k < length types = omega (arith, h) in
    ap (λ ls. places_with l ls more (drop k types)) (sym (drop-nil k)) ∙ places_step l [] more types k d low
places_step l (m ∷ ms) more (ty ∷ types) (suc k) d h =
    let low : k < length types = omega (arith, h) in
    places_step l ms more types k d low

pub places_next : (l : Letter) (ls : List Letter) (more : Option Letter) (types : List (Option Llt)) (k : ℕ) (d : Option Llt) → k < length types
    → places_with l (drop k ls) more (drop k types) ≡ cond (is_there l (letter_at ls more k)) (get_or types k d ∷ []) [] ++ places_with l (drop (k + 1) ls) more (drop (k + 1) types)
places_next l ls more types k d h =
    places_step l ls more types k d h
    ∙ ap (λ n. with_there (is_there l (letter_at ls more k)) (get_or types k d) (places_with l (drop n ls) more (drop n types))) (sym (add-one k))

places_end : (l : Letter) (ls : List Letter) (more : Option Letter) → places_with l ls more [] ≡ []
places_end l [] None = refl
places_end l [] (Some m) = by (is_letter l m)
  where
    by : (b : Bool) → cond {A = List (Option Llt)} b [] [] ≡ []
    by true = refl
    by false = refl
places_end l (m ∷ ms) more = refl

drop-all : {A : Type 0} (xs : List A) → drop (length xs) xs ≡ []
drop-all [] = refl
drop-all (x ∷ xs) = drop-all xs

pub places_past : (l : Letter) (ls : List Letter) (more : Option Letter) (types : List (Option Llt)) (k : ℕ) → k ≡ length types → places_with l (drop k ls) more (drop k types) ≡ []
places_past l ls more types k h = ap (λ rest. places_with l (drop k ls) more rest) (ap (λ n. drop n types) h ∙ drop-all types) ∙ places_end l (drop k ls) more

-- one more piece
pub piece_step : {X : Type 0} (o piece rest o1 total : List X) → o1 ≡ o ++ piece → o ++ (piece ++ rest) ≡ total → o1 ++ rest ≡ total
piece_step o piece rest o1 total first all = ap (λ bs. bs ++ rest) first ∙ append_assoc o piece rest ∙ all

pub places_grow : (l : Letter) (ls : List Letter) (more : Option Letter) (types : List (Option Llt)) (k : ℕ) (ty : Option Llt) → k < length types → ty ≡ get_or types k ty → (there : Bool) → there ≡ is_there l (letter_at ls more k)
    → (o o1 total : List (Option Llt)) → o1 ≡ o ++ cond there (ty ∷ []) [] → o ++ places_with l (drop k ls) more (drop k types) ≡ total → o1 ++ places_with l (drop (k + 1) ls) more (drop (k + 1) types) ≡ total
places_grow l ls more types k ty h is there there_is o o1 total put all =
    piece_step o (cond there (ty ∷ []) []) (places_with l (drop (k + 1) ls) more (drop (k + 1) types)) o1 total put
    (ap₂ (λ t e. o ++ (cond t (e ∷ []) [] ++ places_with l (drop (k + 1) ls) more (drop (k + 1) types))) there_is is
    ∙ ap (λ r. o ++ r) (sym (places_next l ls more types k ty h)) ∙ all)

pub get_or_any : {X : Type 0} (xs : List X) (i : ℕ) (d e : X) → i < length xs → get_or xs i d ≡ get_or xs i e
get_or_any [] i d e h = absurd (omega arith)
get_or_any (x ∷ xs) zero d e h = refl
get_or_any (x ∷ xs) (suc i) d e h = let low : i < length xs = omega (arith, h) in get_or_any xs i d e low
