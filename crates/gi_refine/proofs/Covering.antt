-- Tests and values that show what a use of a rule owes.
use Rattle.std.proofs.Common.{◌≡◌, ℕ, suc, Bool, true, false, cond, ◌==◌, not, ◌||◌, List, [], ◌∷◌, Option, Some, ⊎_elim, refl, sym, ap, ◌∙◌, subst, eqb-true}
use Rattle.std.proofs.lemmas.Bool.{and_parts, or_cases}
use Rattle.std.proofs.lemmas.Option.{same_Some}
use Rattle.gi_meaning.specs.State.{World, State, outside_of, Place, Virtual, Physical}
use Rattle.gi_meaning.specs.Runs.{Setting, is_among}
use Rattle.gi_refine.specs.Values.{Environment, Slot, AllHold, Rule}
use Rattle.gi_refine.specs.Lifting.{all_grown, is_result, Placing, is_kept, left_hidden, are_covered, all_covered, covers, Reads, AreSized, first_slots, HasValue, AreThere, IsKnown}

-- ══ What is hidden after ══

covered_among : (after : Place → Bool) (kept : ℕ → Bool) (r : ℕ) (rs : List ℕ) → is_among r rs ≡ true → are_covered after kept rs ≡ true → (kept r || after (Virtual r)) ≡ true
covered_among after kept r [] is covered = cc
covered_among after kept r (q ∷ rs) is covered =
    ⊎_elim
    (λ here. subst (λ k. (kept k || after (Virtual k)) ≡ true) (sym (eqb-true r q here)) (and_parts (kept q || after (Virtual q)) (are_covered after kept rs) covered).0)
    (λ later. covered_among after kept r rs later (and_parts (kept q || after (Virtual q)) (are_covered after kept rs) covered).1)
    (or_cases (r == q) (is_among r rs) is)

covered_result : (after : Place → Bool) (kept : ℕ → Bool) (r : ℕ) (rss : List (List ℕ)) → is_result r rss ≡ true → all_covered after kept rss ≡ true → (kept r || after (Virtual r)) ≡ true
covered_result after kept r [] is covered = cc
covered_result after kept r (rs ∷ rss) is covered =
    ⊎_elim
    (λ here. covered_among after kept r rs here (and_parts (are_covered after kept rs) (all_covered after kept rss) covered).0)
    (λ later. covered_result after kept r rss later (and_parts (are_covered after kept rs) (all_covered after kept rss) covered).1)
    (or_cases (is_among r rs) (is_result r rss) is)

kept_or_hidden : (kept hidden : Bool) → (kept || hidden) ≡ true → hidden ≡ false → kept ≡ true
kept_or_hidden true hidden h shown = refl
kept_or_hidden false hidden h shown = cc

not_hidden : (is kept hidden : Bool) → (is ≡ true → kept ≡ true) → hidden ≡ false → cond is (not kept) hidden ≡ false
not_hidden true true hidden result other = refl
not_hidden true false hidden result other = let no : false ≡ true = result refl in cc
not_hidden false kept hidden result other = other

-- where each result is kept or hidden after, and nothing else is shown after that was hidden before
pub covered_by : (before after : Place → Bool) (rule : Rule) (placing : Placing) → covers after rule placing ≡ true → ((p : Place) → after p ≡ false → before p ≡ false)
    → (p : Place) → after p ≡ false → left_hidden before rule placing p ≡ false
covered_by before after rule placing covers others (Virtual r) shown =
    let kept : ℕ → Bool = is_kept (all_grown placing.inputs placing.old) (all_grown placing.inputs placing.new) rule.kept in
    not_hidden (is_result r placing.old || is_result r placing.new) (kept r) (before (Virtual r))
    (λ is. kept_or_hidden (kept r) (after (Virtual r))
    (⊎_elim
    (λ old. covered_result after kept r placing.old old (and_parts (all_covered after kept placing.old) (all_covered after kept placing.new) covers).0)
    (λ new. covered_result after kept r placing.new new (and_parts (all_covered after kept placing.old) (all_covered after kept placing.new) covers).1)
    (or_cases (is_result r placing.old) (is_result r placing.new) is)) shown)
    (others (Virtual r) shown)
covered_by before after rule placing covers others (Physical n) shown = others (Physical n) shown

-- ══ Inputs whose values are known ══

abbrev pub HaveAll : (values : ℕ → Option ℕ) → (registers vs : List ℕ) → Type 0
HaveAll values [] [] = Unit {0}
HaveAll values (r ∷ rs) (v ∷ vs) = (values r ≡ Some v) × HaveAll values rs vs
HaveAll values _ _ = ⊥

abbrev pub environment_of : (width : ℕ → ℕ) → (registers vs : List ℕ) → Environment
environment_of width (r ∷ rs) (v ∷ vs) = (width r, v) ∷ environment_of width rs vs
environment_of width _ _ = []

same_entry : (n : ℕ) (entry : ℕ × ℕ) (v : ℕ) (value : Option ℕ) → entry.0 ≡ n → value ≡ Some entry.1 → value ≡ Some v → entry ≡ (n, v)
same_entry n entry v value width read has = ap (λ k. (k, entry.1)) width ∙ ap (λ u. (n, u)) (same_Some entry.1 v (sym read ∙ has))

environment_is : (width : ℕ → ℕ) (values : ℕ → Option ℕ) (rs vs : List ℕ) (env : Environment) → HaveAll values rs vs → Reads width values rs env → env ≡ environment_of width rs vs
environment_is width values [] [] [] have reads = refl
environment_is width values [] [] (entry ∷ env) have reads = absurd reads
environment_is width values [] (v ∷ vs) env have reads = absurd have
environment_is width values (r ∷ rs) [] env have reads = absurd have
environment_is width values (r ∷ rs) (v ∷ vs) [] have reads = absurd reads
environment_is width values (r ∷ rs) (v ∷ vs) (entry ∷ env) have reads =
    ap (λ e. e ∷ env) (same_entry (width r) entry v (values r) reads.0 reads.1 have.0)
    ∙ ap (λ e. (width r, v) ∷ e) (environment_is width values rs vs env have.1 reads.2)

are_there : (slots : List Slot) (values : ℕ → Option ℕ) (place : ℕ) (rs vs : List ℕ) → HaveAll values rs vs → AreThere slots values place rs
are_there slots values place [] [] have = tt
are_there slots values place [] (v ∷ vs) have = absurd have
are_there slots values place (r ∷ rs) [] have = absurd have
are_there slots values place (r ∷ rs) (v ∷ vs) have = ((λ taken. subst HasValue (sym have.0) tt), are_there slots values (suc place) rs vs have.1)

-- enough is known where the inputs have these values
pub known_at : (s : Setting) (w : World) (rule : Rule) (rs vs : List ℕ) (state : State) → HaveAll state.values rs vs → AreSized (environment_of s.width rs vs)
    → AllHold s.x w (outside_of state) (environment_of s.width rs vs) rule.facts → IsKnown s w rule rs state
known_at s w rule rs vs state have sized facts = record {
  there = are_there (first_slots rule.old) state.values 0 rs vs have;
  sized = λ env reads. subst AreSized (sym (environment_is s.width state.values rs vs env have reads)) sized;
  facts = λ env reads. subst (λ e. AllHold s.x w (outside_of state) e rule.facts) (sym (environment_is s.width state.values rs vs env have reads)) facts;
}
