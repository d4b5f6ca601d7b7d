-- Different registers get different numbers.
use Rattle.std.proofs.Common.{◌≡◌, ℕ, ◌+◌, ◌<◌, List, length, Option, Some, None, unwrap_or, position, get_or, nat_eq, refl, sym, ap, ◌∙◌, arith, eqb-true}
use Rattle.std.proofs.lemmas.List.Quantifiers.{position-Some}
use Rattle.gi_mir.specs.Renaming.{IsInjective}
use Rattle.gi_mir.specs.Numbering.{number_in}

found : (order : List ℕ) (r i : ℕ) → position (nat_eq r) order ≡ Some i → (i < length order) × (r ≡ get_or order i 0)
found order r i h = let at = position-Some (nat_eq r) order i 0 h in (at.0, eqb-true r (get_or order i 0) at.1)

apart_at : (order : List ℕ) (a b : ℕ) (i j : Option ℕ) → position (nat_eq a) order ≡ i → position (nat_eq b) order ≡ j
    → unwrap_or i (length order + a) ≡ unwrap_or j (length order + b) → a ≡ b
apart_at order a b (Some i) (Some j) p q same =
    (found order a i p).1 ∙ ap (λ k. get_or order k 0) same ∙ sym (found order b j q).1
apart_at order a b (Some i) None p q same = let f = found order a i p in absurd (omega (arith, f.0, same))
apart_at order a b None (Some j) p q same = let f = found order b j q in absurd (omega (arith, f.0, same))
apart_at order a b None None p q same = omega (arith, same)

pub number_in_apart : (order : List ℕ) → IsInjective (number_in order)
number_in_apart order = record { apart = λ a b same. apart_at order a b (position (nat_eq a) order) (position (nat_eq b) order) refl refl same }
