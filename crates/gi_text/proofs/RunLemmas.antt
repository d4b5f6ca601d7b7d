-- Runs of bytes at the front of a line, and what stands there in a line's bytes.
use Rattle.std.proofs.Common.{◌≡◌, ℕ, suc, ◌+◌, Bool, true, false, cond, List, [], ◌∷◌, ◌++◌, length, Option, Some, None, refl, sym, ap, ◌∙◌, arith}
use Rattle.std.specs.Prelude.{if◌then◌else◌, option_map, ◌==◌}
use Rattle.std.specs.List.{position_from, position}
use Rattle.std.proofs.lemmas.Iterator.Adapters.{position_from-zero}
use Rattle.gi_llt.specs.Tokens.{run_of, past_run, through}

-- a run and what follows it
pub run_split : (test : ℕ → Bool) (xs : List ℕ) → xs ≡ run_of test xs ++ past_run test xs
run_split test [] = refl
run_split test (x ∷ xs) = chosen (test x) (run_split test xs)
  where
    chosen : (passes : Bool) → xs ≡ run_of test xs ++ past_run test xs
        → x ∷ xs ≡ (if passes then x ∷ run_of test xs else []) ++ (if passes then past_run test xs else x ∷ xs)
    chosen true split = ap (λ ys. x ∷ ys) split
    chosen false split = refl

longer : (x from : ℕ) (r : Option (List ℕ)) → option_map (λ bytes. from + length bytes) (option_map (λ bytes. x ∷ bytes) r) ≡ option_map (λ bytes. from + 1 + length bytes) r
longer x from None = refl
longer x from (Some bytes) = let same : from + suc (length bytes) ≡ from + 1 + length bytes = omega arith in ap Some same

through_from : (last : ℕ) (xs : List ℕ) (from : ℕ) → option_map (λ bytes. from + length bytes) (through last xs) ≡ option_map (λ k. k + 1) (position_from (λ other. other == last) from xs)
through_from last [] from = refl
through_from last (x ∷ xs) from = chosen (x == last) (through_from last xs (from + 1))
  where
    chosen : (is_last : Bool) → option_map (λ bytes. from + 1 + length bytes) (through last xs) ≡ option_map (λ k. k + 1) (position_from (λ other. other == last) (from + 1) xs)
        → option_map (λ bytes. from + length bytes) (if is_last then Some (x ∷ []) else option_map (λ bytes. x ∷ bytes) (through last xs))
        ≡ option_map (λ k. k + 1) (cond is_last (Some from) (position_from (λ other. other == last) (from + 1) xs))
    chosen true later = refl
    chosen false later = longer x from (through last xs) ∙ later

-- how many bytes reach through the first one that is this byte
pub through_position : (last : ℕ) (xs : List ℕ) → option_map (λ bytes. 0 + length bytes) (through last xs) ≡ option_map (λ k. k + 1) (position (λ other. other == last) xs)
through_position last xs = through_from last xs 0 ∙ ap (option_map (λ k. k + 1)) (sym (position_from-zero (λ other. other == last) xs))

-- what reaches through a byte stands at the front
pub through_split : (last : ℕ) (xs : List ℕ) (more : List ℕ) → through last xs ≡ Some more → (later : List ℕ) × (xs ≡ more ++ later)
through_split last [] more found = cc
through_split last (x ∷ xs) more found = chosen (x == last) found (through_split last xs)
  where
    under : (r : Option (List ℕ)) → option_map (λ bytes. x ∷ bytes) r ≡ Some more → ((bytes : List ℕ) → r ≡ Some bytes → (later : List ℕ) × (xs ≡ bytes ++ later))
        → (later : List ℕ) × (x ∷ xs ≡ more ++ later)
    under None found split = cc
    under (Some bytes) found split =
        let inner = split bytes refl in
        let same : x ∷ bytes ≡ more = cc in
        (inner.0, ap (λ ys. x ∷ ys) inner.1 ∙ ap (λ ys. ys ++ inner.0) same)

    chosen : (is_last : Bool) → (if is_last then Some (x ∷ []) else option_map (λ bytes. x ∷ bytes) (through last xs)) ≡ Some more
        → ((bytes : List ℕ) → through last xs ≡ Some bytes → (later : List ℕ) × (xs ≡ bytes ++ later)) → (later : List ℕ) × (x ∷ xs ≡ more ++ later)
    chosen true found split = let same : x ∷ [] ≡ more = cc in (xs, ap (λ ys. ys ++ xs) same)
    chosen false found split = under (through last xs) found split
