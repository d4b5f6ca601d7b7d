-- A table whose entries are seen as those of another.
use Rattle.std.proofs.Common.{◌≡◌, Bool, true, false, cond, List, [], ◌∷◌, Some, map, refl}
use Rattle.std.specs.Prelude.{find, option_map}

pub find-map : {A B C : Type 0} (seen : A → B) (test : B → Bool) (answer : B → C) (xs : List A)
    → option_map (λ x. answer (seen x)) (find (λ x. test (seen x)) xs) ≡ option_map answer (find test (map seen xs))
find-map seen test answer [] = refl
find-map {A} {B} {C} seen test answer (x ∷ xs) = chosen (test (seen x)) (find-map seen test answer xs)
  where
    chosen : (found : Bool) → option_map (λ x. answer (seen x)) (find (λ x. test (seen x)) xs) ≡ option_map answer (find test (map seen xs))
        → option_map (λ x. answer (seen x)) (cond found (Some x) (find (λ x. test (seen x)) xs)) ≡ option_map answer (cond found (Some (seen x)) (find test (map seen xs)))
    chosen true later = refl
    chosen false later = later
