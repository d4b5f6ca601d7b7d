-- A number among some.
use Rattle.std.proofs.Common.{◌≡◌, ℕ, true, ◌==◌, List, [], ◌∷◌, ◌++◌, ◌⊎◌, inl, inr, ⊎_elim}
use Rattle.std.proofs.lemmas.Bool.{or_cases, or_left, or_right}
use Rattle.gi_change_valid.specs.Numbers.{is_in}

pub in_first_or_rest : (p : ℕ) (xs ys : List ℕ) → is_in p (xs ++ ys) ≡ true → (is_in p xs ≡ true) ⊎ (is_in p ys ≡ true)
in_first_or_rest p [] ys h = inr h
in_first_or_rest p (x ∷ xs) ys h =
    ⊎_elim (λ now. inl (or_left (p == x) (is_in p xs) now)) (λ later. ⊎_elim (λ l. inl (or_right (p == x) (is_in p xs) l)) (λ l. inr l) (in_first_or_rest p xs ys later)) (or_cases (p == x) (is_in p (xs ++ ys)) h)
