-- What is owed of instructions that stay, from tests of them.
use Rattle.std.proofs.Common.{◌≡◌, ℕ, Bool, true, not, ◌&&◌, ◌==◌, List, [], ◌∷◌, ◌++◌, refl, sym, subst}
use Rattle.std.proofs.lemmas.Bool.{eqb-true, and_parts, not-true}
use Rattle.gi_mir.specs.Data.{InstrData, FunctionData}
use Rattle.gi_mir.specs.declared.operand.Operand.{Operand}
use Rattle.gi_mir.specs.declared.operand.Operand.TheVariants as operand
use Rattle.gi_meaning.specs.State.{State}
use Rattle.gi_meaning.specs.Runs.{Setting}
use Rattle.gi_refine.specs.Examples.{names}
use Rattle.gi_refine_cases.specs.Idle.{AreShown, AllShown}
use Rattle.gi_refine.specs.Kept.{AreSeenAs, AllSeenAs, HasSameValue, UsesHold, PhisHold, BodyHolds}
use Rattle.gi_refine.specs.OnePlace.{only_virtual}
use Rattle.gi_refine.proofs.Staying.{has_same_value}

-- whether a register that isn't hidden replaces each, and is of its width
abbrev pub is_seen : (s t : Setting) → (hidden : ℕ → Bool) → (rename : ℕ → ℕ) → List Operand → Bool
is_seen s t hidden rename [] = true
is_seen s t hidden rename (operand.Use r ∷ os) =
    not (hidden (rename r.0)) && ((s.width (rename r.0) == s.width r.0) && ((t.width (rename r.0) == s.width r.0) && is_seen s t hidden rename os))
is_seen s t hidden rename (operand.Def r k ∷ os) = (t.width r.0 == s.width r.0) && is_seen s t hidden rename os
is_seen s t hidden rename (_ ∷ os) = is_seen s t hidden rename os

abbrev pub are_seen : (s t : Setting) → (hidden : ℕ → Bool) → (rename : ℕ → ℕ) → List (ℕ × InstrData) → Bool
are_seen s t hidden rename [] = true
are_seen s t hidden rename (i ∷ is) = is_seen s t hidden rename i.1.operands && are_seen s t hidden rename is

pub seen_by : (s t : Setting) (hidden : ℕ → Bool) (rename : ℕ → ℕ) (os : List Operand) → is_seen s t hidden rename os ≡ true → AreSeenAs s t (only_virtual hidden) rename os
seen_by s t hidden rename [] h = tt
seen_by s t hidden rename (operand.Use r ∷ os) h =
    let a : (not (hidden (rename r.0)) ≡ true) × (((s.width (rename r.0) == s.width r.0) && ((t.width (rename r.0) == s.width r.0) && is_seen s t hidden rename os)) ≡ true) = and_parts (not (hidden (rename r.0))) _ h in
    let b : ((s.width (rename r.0) == s.width r.0) ≡ true) × (((t.width (rename r.0) == s.width r.0) && is_seen s t hidden rename os) ≡ true) = and_parts (s.width (rename r.0) == s.width r.0) _ a.1 in
    let c : ((t.width (rename r.0) == s.width r.0) ≡ true) × (is_seen s t hidden rename os ≡ true) = and_parts (t.width (rename r.0) == s.width r.0) _ b.1 in
    (not-true (hidden (rename r.0)) a.0, eqb-true (s.width (rename r.0)) (s.width r.0) b.0, eqb-true (t.width (rename r.0)) (s.width r.0) c.0, seen_by s t hidden rename os c.1)
seen_by s t hidden rename (operand.Def r k ∷ os) h =
    let a : ((t.width r.0 == s.width r.0) ≡ true) × (is_seen s t hidden rename os ≡ true) = and_parts (t.width r.0 == s.width r.0) _ h in
    (eqb-true (t.width r.0) (s.width r.0) a.0, seen_by s t hidden rename os a.1)
seen_by s t hidden rename (operand.Phys n ∷ os) h = (refl, seen_by s t hidden rename os h)
seen_by s t hidden rename (operand.ImplicitUse n ∷ os) h = (refl, seen_by s t hidden rename os h)
seen_by s t hidden rename (_ ∷ os) h = seen_by s t hidden rename os h

pub all_seen_by : (s t : Setting) (hidden : ℕ → Bool) (rename : ℕ → ℕ) (is : List (ℕ × InstrData)) → are_seen s t hidden rename is ≡ true → AllSeenAs s t (only_virtual hidden) rename is
all_seen_by s t hidden rename [] h = tt
all_seen_by s t hidden rename (i ∷ is) h =
    let a : (is_seen s t hidden rename i.1.operands ≡ true) × (are_seen s t hidden rename is ≡ true) = and_parts (is_seen s t hidden rename i.1.operands) _ h in
    (seen_by s t hidden rename i.1.operands a.0, all_seen_by s t hidden rename is a.1)

-- whether each register that is used is its own replacement
abbrev pub is_alone : (rename : ℕ → ℕ) → List Operand → Bool
is_alone rename [] = true
is_alone rename (operand.Use r ∷ os) = (rename r.0 == r.0) && is_alone rename os
is_alone rename (_ ∷ os) = is_alone rename os

abbrev pub are_alone : (rename : ℕ → ℕ) → List (ℕ × InstrData) → Bool
are_alone rename [] = true
are_alone rename (i ∷ is) = is_alone rename i.1.operands && are_alone rename is

pub alone_holds : (rename : ℕ → ℕ) (state : State) (os : List Operand) → is_alone rename os ≡ true → UsesHold rename state os
alone_holds rename state [] h = tt
alone_holds rename state (operand.Use r ∷ os) h =
    let a : ((rename r.0 == r.0) ≡ true) × (is_alone rename os ≡ true) = and_parts (rename r.0 == r.0) _ h in
    (subst (λ q. HasSameValue (state.values r.0) (state.values q)) (sym (eqb-true (rename r.0) r.0 a.0)) (has_same_value (state.values r.0)), alone_holds rename state os a.1)
alone_holds rename state (operand.Def r k ∷ os) h = alone_holds rename state os h
alone_holds rename state (_ ∷ os) h = alone_holds rename state os h

pub alone_at : (rename : ℕ → ℕ) (front : List (ℕ × InstrData)) (i : ℕ × InstrData) (back : List (ℕ × InstrData)) → are_alone rename (front ++ (i ∷ back)) ≡ true → is_alone rename i.1.operands ≡ true
alone_at rename [] i back h = (and_parts (is_alone rename i.1.operands) _ h).0
alone_at rename (k ∷ front) i back h = alone_at rename front i back ((and_parts (is_alone rename k.1.operands) _ h).1)

pub body_alone : (f : FunctionData) (b : ℕ) (rename : ℕ → ℕ) (before is : List (ℕ × InstrData)) → are_alone rename is ≡ true → BodyHolds 32 names f b rename before is
body_alone f b rename before is h = record {
  by = λ w is_world front i back split state reached. alone_holds rename state i.1.operands (alone_at rename front i back (subst (λ js. are_alone rename js ≡ true) split h));
}

pub no_phis : (f : FunctionData) (b : ℕ) (rename : ℕ → ℕ) → PhisHold 32 names f b rename []
no_phis f b rename = record { by = λ w is_world entries from state arrives. tt }

abbrev pub is_shown : (hidden : ℕ → Bool) → (rename : ℕ → ℕ) → List Operand → Bool
is_shown hidden rename [] = true
is_shown hidden rename (operand.Use r ∷ os) = not (hidden (rename r.0)) && is_shown hidden rename os
is_shown hidden rename (_ ∷ os) = is_shown hidden rename os

abbrev pub are_shown : (hidden : ℕ → Bool) → (rename : ℕ → ℕ) → List (ℕ × InstrData) → Bool
are_shown hidden rename [] = true
are_shown hidden rename (i ∷ is) = is_shown hidden rename i.1.operands && are_shown hidden rename is

pub one_shown_by : (hidden : ℕ → Bool) (rename : ℕ → ℕ) (os : List Operand) → is_shown hidden rename os ≡ true → AreShown hidden rename os
one_shown_by hidden rename [] h = tt
one_shown_by hidden rename (operand.Use r ∷ os) h =
    let a : (not (hidden (rename r.0)) ≡ true) × (is_shown hidden rename os ≡ true) = and_parts (not (hidden (rename r.0))) _ h in
    (not-true (hidden (rename r.0)) a.0, one_shown_by hidden rename os a.1)
one_shown_by hidden rename (operand.Def r k ∷ os) h = one_shown_by hidden rename os h
one_shown_by hidden rename (_ ∷ os) h = one_shown_by hidden rename os h

pub shown_by : (hidden : ℕ → Bool) (rename : ℕ → ℕ) (is : List (ℕ × InstrData)) → are_shown hidden rename is ≡ true → AllShown hidden rename is
shown_by hidden rename [] h = tt
shown_by hidden rename (i ∷ is) h =
    let a : (is_shown hidden rename i.1.operands ≡ true) × (are_shown hidden rename is ≡ true) = and_parts (is_shown hidden rename i.1.operands) _ h in
    (one_shown_by hidden rename i.1.operands a.0, shown_by hidden rename is a.1)
