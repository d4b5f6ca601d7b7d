-- What stands behind a prefix.
use Rattle.std.proofs.Common.{◌≡◌, ◌≢◌, ℕ, Bool, true, false, List, [], ◌∷◌, ◌++◌, Some, None, refl, ap, sym, ◌==◌, if◌then◌else◌, ◌∙◌}
use Rattle.std.proofs.lemmas.Bool.{eq-eqb, eqb-true}
use Rattle.gi_options.specs.Options.{without_prefix}

pub without_prefix_some : (prefix rest : List ℕ) → without_prefix prefix (prefix ++ rest) ≡ Some rest
without_prefix_some [] rest = refl
without_prefix_some (first ∷ prefix) rest = ap (λ t. if t then without_prefix prefix (prefix ++ rest) else None) (eq-eqb first first refl) ∙ without_prefix_some prefix rest

pub without_prefix_of : (prefix word rest : List ℕ) → word ≡ prefix ++ rest → without_prefix prefix word ≡ Some rest
without_prefix_of prefix word rest same = ap (without_prefix prefix) same ∙ without_prefix_some prefix rest

chosen : (first byte : ℕ) (prefix word : List ℕ) → ((rest : List ℕ) → (byte ∷ word) ≢ (first ∷ prefix) ++ rest)
    → (((rest : List ℕ) → word ≢ prefix ++ rest) → without_prefix prefix word ≡ None)
    → (t : Bool) → (first == byte) ≡ t → (if t then without_prefix prefix word else None) ≡ None
chosen first byte prefix word never later true same = later (λ rest equal. never rest (ap (λ bs. byte ∷ bs) equal ∙ ap (λ b. b ∷ (prefix ++ rest)) (sym (eqb-true first byte same))))
chosen first byte prefix word never later false same = refl

pub without_prefix_none : (prefix word : List ℕ) → ((rest : List ℕ) → word ≢ prefix ++ rest) → without_prefix prefix word ≡ None
without_prefix_none [] word never = absurd (never word refl)
without_prefix_none (first ∷ prefix) [] never = refl
without_prefix_none (first ∷ prefix) (byte ∷ word) never = chosen first byte prefix word never (without_prefix_none prefix word) (first == byte) refl
