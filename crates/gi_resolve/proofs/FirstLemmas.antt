-- The first of the entries of a number, where one more entry comes last.
use Rattle.std.proofs.Common.{◌≡◌, ℕ, suc, ◌+◌, Bool, true, false, cond, List, [], ◌∷◌, ◌++◌, length, map, Option, Some, None, refl, sym, ap, ◌∙◌, subst, arith}
use Rattle.std.specs.Prelude.{nat_eq, ◌==◌, is_some, find, option_map, position, if◌then◌else◌}
use Rattle.std.specs.List.{position_from}
use Rattle.std.proofs.lemmas.Iterator.Adapters.{position_from-zero}
use Rattle.std.specs.Map.{lookup}
use Rattle.std.proofs.lemmas.Bool.{eqb-true}
use Rattle.std.proofs.lemmas.Bool.Decides.{nat_tests}
use Rattle.std.specs.Option.{option_or}
use Rattle.gi_resolve.specs.Numbered.{last_of}
use Rattle.gi_mir.specs.Data.{reg_of}
use Rattle.gi_spelling.specs.Resolved.{class_in}
use Rattle.gi_spelling.specs.declared.token.RegisterClass.{RegisterClass}

pub first-kept : {V : Type 0} (map first : ℕ → Option V) (number : ℕ) (value : V) → ((key : ℕ) → map key ≡ first key) → is_some (map number) ≡ true
    → (key : ℕ) → map key ≡ option_or (first key) (last_of number value key)
first-kept {V} map first number value same has key = chosen (first key) refl (nat_eq key number) refl
  where
    chosen : (found : Option V) → first key ≡ found → (test : Bool) → nat_eq key number ≡ test → map key ≡ option_or found (if test then Some value else None)
    chosen (Some x) is test tested = same key ∙ is
    chosen None is false tested = same key ∙ is
    chosen None is true tested =
        let here : key ≡ number = eqb-true key number tested in
        let none : map number ≡ None = subst (λ k. map k ≡ None) here (same key ∙ is) in
        let no : is_some {T = V} None ≡ true = subst (λ r. is_some r ≡ true) none has in
        cc

pub first-added : {V : Type 0} (map first : ℕ → Option V) (number : ℕ) (value : V) → ((key : ℕ) → map key ≡ first key) → map number ≡ None
    → (key : ℕ) → cond (nat_eq number key) (Some value) (map key) ≡ option_or (first key) (last_of number value key)
first-added {V} map first number value same none key = chosen (nat_eq number key) refl (nat_eq key number) refl (first key) refl
  where
    chosen : (a : Bool) → nat_eq number key ≡ a → (b : Bool) → nat_eq key number ≡ b → (found : Option V) → first key ≡ found
        → cond a (Some value) (map key) ≡ option_or found (if b then Some value else None)
    chosen true is_a true is_b None is = refl
    chosen true is_a b is_b (Some x) is =
        let here : number ≡ key = eqb-true number key is_a in
        let some : map number ≡ Some x = subst (λ k. map k ≡ Some x) (sym here) (same key ∙ is) in
        cc
    chosen true is_a false is_b None is = absurd (let no : ⊥ = grind (arith, nat_tests) in no)
    chosen false is_a true is_b found is = absurd (let no : ⊥ = grind (arith, nat_tests) in no)
    chosen false is_a false is_b None is = same key ∙ is
    chosen false is_a false is_b (Some x) is = same key ∙ is

pub lookup-last : {V : Type 0} (entries : List (ℕ × V)) (number : ℕ) (value : V) (key : ℕ)
    → lookup (nat_eq key) (entries ++ (number, value) ∷ []) ≡ option_or (lookup (nat_eq key) entries) (last_of number value key)
lookup-last [] number value key = refl
lookup-last {V} (entry ∷ entries) number value key = chosen (nat_eq key entry.0) (lookup-last entries number value key)
  where
    chosen : (test : Bool) → lookup (nat_eq key) (entries ++ (number, value) ∷ []) ≡ option_or (lookup (nat_eq key) entries) (last_of number value key) → cond test (Some entry.1) (lookup (nat_eq key) (entries ++ (number, value) ∷ []))
        ≡ option_or (cond test (Some entry.1) (lookup (nat_eq key) entries)) (last_of number value key)
    chosen true later = refl
    chosen false later = later

position_from-last : (numbers : List ℕ) (start number key : ℕ)
    → position_from (nat_eq key) start (numbers ++ number ∷ []) ≡ option_or (position_from (nat_eq key) start numbers) (last_of number (start + length numbers) key)
position_from-last [] start number key = let same : start ≡ start + 0 = omega arith in ap (λ n. last_of number n key) same
position_from-last (first ∷ numbers) start number key = chosen (nat_eq key first) (position_from-last numbers (start + 1) number key)
  where
    same : start + 1 + length numbers ≡ start + suc (length numbers)
    same = omega arith

    chosen : (test : Bool) → position_from (nat_eq key) (start + 1) (numbers ++ number ∷ []) ≡ option_or (position_from (nat_eq key) (start + 1) numbers) (last_of number (start + 1 + length numbers) key)
        → cond test (Some start) (position_from (nat_eq key) (start + 1) (numbers ++ number ∷ []))
        ≡ option_or (cond test (Some start) (position_from (nat_eq key) (start + 1) numbers)) (last_of number (start + suc (length numbers)) key)
    chosen true later = refl
    chosen false later = later ∙ ap (λ n. option_or (position_from (nat_eq key) (start + 1) numbers) (last_of number n key)) same

pub position-last : (numbers : List ℕ) (number key : ℕ) → position (nat_eq key) (numbers ++ number ∷ []) ≡ option_or (position (nat_eq key) numbers) (last_of number (length numbers) key)
position-last numbers number key =
    let same : 0 + length numbers ≡ length numbers = omega arith in
    position_from-zero (nat_eq key) (numbers ++ number ∷ []) ∙ position_from-last numbers 0 number key
    ∙ ap (λ n. option_or (position_from (nat_eq key) 0 numbers) (last_of number n key)) same
    ∙ ap (λ found. option_or found (last_of number (length numbers) key)) (sym (position_from-zero (nat_eq key) numbers))

-- a class by a look-up
pub class-lookup : (classes : List (ℕ × RegisterClass)) (number : ℕ) → lookup (nat_eq number) classes ≡ class_in classes (reg_of number)
class-lookup [] number = refl
class-lookup (entry ∷ classes) number = chosen (class-lookup classes number) (nat_eq number entry.0) refl (nat_eq entry.0 number) refl
  where
    chosen : lookup (nat_eq number) classes ≡ class_in classes (reg_of number) → (a : Bool) → nat_eq number entry.0 ≡ a → (b : Bool) → nat_eq entry.0 number ≡ b
        → cond a (Some entry.1) (lookup (nat_eq number) classes) ≡ option_map (λ e. e.1) (cond b (Some entry) (find (λ e. e.0 == number) classes))
    chosen later true is_a true is_b = refl
    chosen later true is_a false is_b = absurd (let no : ⊥ = grind (arith, nat_tests) in no)
    chosen later false is_a true is_b = absurd (let no : ⊥ = grind (arith, nat_tests) in no)
    chosen later false is_a false is_b = later
