-- What stands in front, one instruction after the other.
use Rattle.std.proofs.Common.{◌≡◌, ℕ, Bool, true, false, ◌||◌, ◌&&◌, List, [], ◌∷◌, ◌++◌, refl, sym, ap, ◌∙◌, append_assoc, append-nil}
use Rattle.std.specs.List.{list_all, list_any}
use Rattle.gi_mir.specs.Data.{InstrData}
use Rattle.gi_mir.specs.Row.{is_terminator_op, is_unconditional_op}
use Rattle.gi_meaning.specs.Runs.{is_phi}
use Rattle.gi_valid.specs.Faults.{is_late, has_late}
use Rattle.gi_verify.specs.declared.passed.Passed.{Passed}
use Rattle.gi_verify.specs.Passed.{IsPassed}

pub or_nothing : (b : Bool) → (b || false) ≡ b
or_nothing true = refl
or_nothing false = refl

or_three : (a b c : Bool) → (a || (b || c)) ≡ ((a || b) || c)
or_three true b c = refl
or_three false b c = refl

and_three : (a b c : Bool) → (a && (b && c)) ≡ ((a && b) && c)
and_three true b c = refl
and_three false b c = refl

pub any_with : {X : Type 0} (p : X → Bool) (xs : List X) (x : X) → list_any p (xs ++ x ∷ []) ≡ (list_any p xs || p x)
any_with p [] x = or_nothing (p x)
any_with p (y ∷ xs) x = ap (λ b. p y || b) (any_with p xs x) ∙ or_three (p y) (list_any p xs) (p x)

and_all : (b : Bool) → (b && true) ≡ b
and_all true = refl
and_all false = refl

pub all_with : {X : Type 0} (p : X → Bool) (xs : List X) (x : X) → list_all p (xs ++ x ∷ []) ≡ (list_all p xs && p x)
all_with p [] x = and_all (p x)
all_with p (y ∷ xs) x = ap (λ b. p y && b) (all_with p xs x) ∙ and_three (p y) (list_all p xs) (p x)

late_with : (before is : List (ℕ × InstrData)) (n : ℕ × InstrData) → has_late before (is ++ n ∷ []) ≡ (has_late before is || is_late (before ++ is) n.1)
late_with before [] n = or_nothing (is_late before n.1) ∙ ap (λ l. is_late l n.1) (sym (append-nil before))
late_with before (i ∷ is) n =
    ap (λ b. is_late before i.1 || b) (late_with (before ++ i ∷ []) is n)
    ∙ or_three (is_late before i.1) (has_late (before ++ i ∷ []) is) (is_late ((before ++ i ∷ []) ++ is) n.1)
    ∙ ap (λ l. (is_late before i.1 || has_late (before ++ i ∷ []) is) || is_late l n.1) (append_assoc before (i ∷ []) is)

pub passed_one : (front : List (ℕ × InstrData)) (n : ℕ × InstrData) (old new : Passed) → IsPassed front old
    → new.terminator ≡ (old.terminator || is_terminator_op n.1.op) → new.unconditional ≡ (old.unconditional || is_unconditional_op n.1.op)
    → new.late ≡ (old.late || is_late front n.1) → new.phis ≡ (old.phis && is_phi n.1) → IsPassed (front ++ n ∷ []) new
passed_one front n old new before terminator unconditional late phis = record {
  terminators = terminator ∙ ap (λ b. b || is_terminator_op n.1.op) before.terminators ∙ sym (any_with (λ p. is_terminator_op p.1.op) front n);
  unconditionals = unconditional ∙ ap (λ b. b || is_unconditional_op n.1.op) before.unconditionals ∙ sym (any_with (λ p. is_unconditional_op p.1.op) front n);
  lates = late ∙ ap (λ b. b || is_late front n.1) before.lates ∙ sym (late_with [] front n);
  each = phis ∙ ap (λ b. b && is_phi n.1) before.each ∙ sym (all_with (λ p. is_phi p.1) front n);
}
