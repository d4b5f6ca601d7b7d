-- The first place at which a test passes.
use Rattle.std.proofs.Common.{◌≡◌, ℕ, suc, ◌+◌, ◌≤◌, Bool, true, false, not, ◌||◌, List, [], ◌∷◌, Option, Some, None, cond, length, get_or, nat_lt, refl, arith, ap}
use Rattle.std.specs.Prelude.{position, unwrap_or}
use Rattle.std.specs.List.{list_any, position_or_len}
use Rattle.std.proofs.lemmas.Bool.Decides.{nat_tests}

pub position_or_len-bound : {X : Type 0} (p : X → Bool) (xs : List X) → position_or_len p xs ≤ length xs
position_or_len-bound p [] = omega arith
position_or_len-bound p (x ∷ xs) = by (p x) (position_or_len-bound p xs)
  where
    by : (b : Bool) → position_or_len p xs ≤ length xs → cond (not b) (1 + position_or_len p xs) 0 ≤ length (x ∷ xs)
    by true h = omega arith
    by false h = omega arith

pub unwrap_or-position : {X : Type 0} (p : X → Bool) (xs : List X) → unwrap_or (position p xs) (length xs) ≡ position_or_len p xs
unwrap_or-position p xs = by (position_or_len p xs) (length xs) (position_or_len-bound p xs)
  where
    by : (m n : ℕ) → m ≤ n → unwrap_or (cond (nat_lt m n) (Some m) None) n ≡ m
    by m n h = grind (arith, nat_tests)

-- the answer of a search, and its place
pub place_of_answer : {X : Type 0} (p : X → Bool) (xs : List X) (r : Option ℕ) (m : ℕ) → r ≡ position p xs → m ≡ unwrap_or r (length xs) → m ≡ position_or_len p xs
place_of_answer p xs r m e f = cc (unwrap_or-position p xs, ap (λ o. unwrap_or o (length xs)) e)

-- and that element passes
pub position_or_len-passes : {X : Type 0} (p : X → Bool) (xs : List X) (d : X) → list_any p xs ≡ true → p (get_or xs (position_or_len p xs) d) ≡ true
position_or_len-passes p [] d h = cc
position_or_len-passes p (x ∷ xs) d h = by (p x) refl (position_or_len-passes p xs d) h
  where
    by : (b : Bool) → p x ≡ b → (list_any p xs ≡ true → p (get_or xs (position_or_len p xs) d) ≡ true) → (b || list_any p xs) ≡ true → p (get_or (x ∷ xs) (cond (not b) (1 + position_or_len p xs) 0) d) ≡ true
    by true e more h = e
    by false e more h = let one : 1 + position_or_len p xs ≡ suc (position_or_len p xs) = omega arith in rw one (more h)
