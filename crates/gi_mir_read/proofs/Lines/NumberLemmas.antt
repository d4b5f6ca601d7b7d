-- What stands behind a run as a slice, and the value of digits up to a bound.
use Rattle.std.proofs.Common.{subst, get_or, drop-cons, add-one, ◌≡◌, ℕ, suc, ◌+◌, ◌*◌, ◌<◌, ◌≤◌, Bool, true, false, List, [], ◌∷◌, length, drop, refl, ap, ◌∙◌, arith}
use Rattle.std.specs.Prelude.{min, if◌then◌else◌, nat_le}
use Rattle.std.proofs.lemmas.Bool.Decides.{nat_tests}
use Rattle.gi_llt.specs.Tokens.{run_of, past_run}
use Rattle.gi_text.specs.Numbers.{digit_value, value_after}
use Rattle.gi_text.proofs.NumberLemmas.{value-le}

pub drop-run : (test : ℕ → Bool) (xs : List ℕ) → drop (length (run_of test xs)) xs ≡ past_run test xs
drop-run test [] = refl
drop-run test (x ∷ xs) = chosen (test x) (drop-run test xs)
  where
    chosen : (passes : Bool) → drop (length (run_of test xs)) xs ≡ past_run test xs
        → drop (length (if passes then x ∷ run_of test xs else [])) (x ∷ xs) ≡ (if passes then past_run test xs else x ∷ xs)
    chosen true later = later
    chosen false later = refl

-- a value that is cut to the bound before the digits that are left is cut to the same behind them
pub value-cut : (v bound : ℕ) (digits : List ℕ) → min (value_after 10 (min v bound) digits) bound ≡ min (value_after 10 v digits) bound
value-cut v bound digits = chosen (nat_le v bound) refl
  where
    chosen : (small : Bool) → nat_le v bound ≡ small → min (value_after 10 (min v bound) digits) bound ≡ min (value_after 10 v digits) bound
    chosen true is = let same : min v bound ≡ v = grind (arith, nat_tests) in ap (λ n. min (value_after 10 n digits) bound) same
    chosen false is =
        let past : bound ≤ v = grind (arith, nat_tests) in
        let same : min v bound ≡ bound = omega (arith, past) in
        let own : v ≤ value_after 10 v digits = value-le 10 v digits (omega arith) in
        let cut : min v bound ≤ value_after 10 (min v bound) digits = value-le 10 (min v bound) digits (omega arith) in
        omega (arith, past, same, own, cut)

-- one digit more
pub value-more : (v next bound whole i : ℕ) (digits : List ℕ) → i < length digits → next ≡ min (v * 10 + digit_value (get_or digits i 0)) bound
    → min (value_after 10 v (drop i digits)) bound ≡ whole → min (value_after 10 next (drop (i + 1) digits)) bound ≡ whole
value-more v next bound whole i digits within is so_far =
    let split : min (value_after 10 v (get_or digits i 0 ∷ drop (suc i) digits)) bound ≡ whole = subst (λ ys. min (value_after 10 v ys) bound ≡ whole) (drop-cons digits i 0 within) so_far in
    rw (add-one i, is) (value-cut (v * 10 + digit_value (get_or digits i 0)) bound (drop (suc i) digits) ∙ split)
