-- The one instruction that defines a register, and where it can't stand.
use Rattle.std.proofs.Common.{◌≡◌, ℕ, zero, suc, ◌≤◌, Bool, true, false, cond, ◌&&◌, List, [], ◌∷◌, ◌++◌, find, Some, slice_get, ◌⊎◌, inl, inr, ⊎_elim, refl, sym, ap, ◌∙◌, subst, true≢false}
use Rattle.std.proofs.lemmas.Bool.{or_from, and_parts, and_from, false_from_ne_true}
use Rattle.std.proofs.lemmas.Option.{same_Some}
use Rattle.std.specs.List.{list_any, list_all}
use Rattle.gi_mir.specs.Data.{InstrData, BlockData, FunctionData}
use Rattle.gi_mir.specs.Edit.{all_instrs, defines}
use Rattle.gi_mir.specs.Row.{is_terminator_op}
use Rattle.gi_meaning.specs.Meaning.{meaning_of}
use Rattle.gi_meaning.specs.Runs.{is_phi, phis_of}
use Rattle.gi_valid.specs.Definitions.{definition}
use Rattle.gi_valid.specs.Faults.{definitions, times, sites, told, terminator}
use Rattle.gi_valid.proofs.Answering.{is_valued, ends_nothing, joins_nothing}
use Rattle.gi_valid.proofs.Single.{IsIn, one_definition}

-- ══ Elements ══

pub in_either : (p : ℕ × InstrData) (xs ys : List (ℕ × InstrData)) → IsIn p xs ⊎ IsIn p ys → IsIn p (xs ++ ys)
in_either p [] ys there = ⊎_elim (λ h. absurd h) (λ h. h) there
in_either p (x ∷ xs) ys there =
    ⊎_elim (λ h. ⊎_elim (λ same. inl same) (λ later. inr (in_either p xs ys (inl later))) h) (λ h. inr (in_either p xs ys (inr h))) there

pub in_function : (blocks : List BlockData) (b : ℕ) (block : BlockData) → slice_get blocks b ≡ Some block → (p : ℕ × InstrData) → IsIn p block.instrs → IsIn p (all_instrs blocks)
in_function [] b block found p there = cc
in_function (k ∷ blocks) zero block found p there = in_either p k.instrs (all_instrs blocks) (inl (subst (λ (c : BlockData). IsIn p c.instrs) (sym (same_Some k block found)) there))
in_function (k ∷ blocks) (suc b) block found p there = in_either p k.instrs (all_instrs blocks) (inr (in_function blocks b block found p there))

-- the definition of a register is one of the instructions, and defines it
pub record IsDefinition (f : FunctionData) (r : ℕ) (d : ℕ × InstrData) : Type 0 where
  pub inside : IsIn d (all_instrs f.blocks)
  pub defined : defines r d ≡ true

found_in : (r : ℕ) (is : List (ℕ × InstrData)) (d : ℕ × InstrData) → find (defines r) is ≡ Some d → IsIn d is × (defines r d ≡ true)
found_in r [] d h = cc
found_in r (i ∷ is) d h = by (defines r i) refl h (λ l. found_in r is d l)
  where
    by : (t : Bool) → defines r i ≡ t → cond t (Some i) (find (defines r) is) ≡ Some d → (find (defines r) is ≡ Some d → IsIn d is × (defines r d ≡ true)) → IsIn d (i ∷ is) × (defines r d ≡ true)
    by true so h rest =
        let same : i ≡ d = same_Some i d h in (inl (sym same), subst (λ k. defines r k ≡ true) same so)
    by false so h rest = (inr (rest h).0, (rest h).1)

pub definition_is : (f : FunctionData) (r : ℕ) (d : ℕ × InstrData) → definition f r ≡ Some d → IsDefinition f r d
definition_is f r d h = let both : IsIn d (all_instrs f.blocks) × (defines r d ≡ true) = found_in r (all_instrs f.blocks) d h in record { inside = both.0; defined = both.1 }

-- ══ What can't define it ══

-- what is known of a valid function
pub record IsOrderly (f : FunctionData) : Type 0 where
  pub once : (r : ℕ) → times r (definitions (all_instrs f.blocks)) ≤ 1
  pub ends : told (terminator f) (sites f) ≡ []

-- an instruction that isn't the definition of a register, by some test, doesn't define it
not_defined : (f : FunctionData) → IsOrderly f → (d : ℕ × InstrData) → IsIn d (all_instrs f.blocks) → (q : ℕ) → defines q d ≡ true
    → (test : InstrData → Bool) → test d.1 ≡ false → (j : ℕ × InstrData) → IsIn j (all_instrs f.blocks) → test j.1 ≡ true → defines q j ≡ false
not_defined f orderly d inside q defined test fails j there passes =
    false_from_ne_true (defines q j) (λ h.
    let same : j ≡ d = one_definition q (all_instrs f.blocks) (orderly.once q) j d there inside h defined in
    true≢false (sym passes ∙ ap (λ (k : ℕ × InstrData). test k.1) same ∙ fails))

-- no phi defines what no phi defines first
pub no_phi_defines : (f : FunctionData) → IsOrderly f → (d : ℕ × InstrData) → IsIn d (all_instrs f.blocks) → is_phi d.1 ≡ false → (q : ℕ) → defines q d ≡ true
    → (is : List (ℕ × InstrData)) → ((j : ℕ × InstrData) → IsIn j is → IsIn j (all_instrs f.blocks)) → list_any (defines q) (phis_of is) ≡ false
no_phi_defines f orderly d inside plain q defined [] there = refl
no_phi_defines f orderly d inside plain q defined (i ∷ is) there =
    by (is_phi i.1) refl (no_phi_defines f orderly d inside plain q defined is (λ j later. there j (inr later)))
  where
    by : (t : Bool) → is_phi i.1 ≡ t → list_any (defines q) (phis_of is) ≡ false → list_any (defines q) (cond t (i ∷ phis_of is) []) ≡ false
    by true so rest = or_from (defines q i) (list_any (defines q) (phis_of is)) (not_defined f orderly d inside q defined is_phi plain i (there i (inl refl)) so) rest
    by false so rest = refl

-- no terminator defines what no terminator defines first
pub no_terminator_defines : (f : FunctionData) → IsOrderly f → (d : ℕ × InstrData) → IsIn d (all_instrs f.blocks) → is_terminator_op d.1.op ≡ false → (q : ℕ) → defines q d ≡ true
    → (is : List (ℕ × InstrData)) → ((j : ℕ × InstrData) → IsIn j is → IsIn j (all_instrs f.blocks)) → list_all (λ p. is_terminator_op p.1.op) is ≡ true → list_any (defines q) is ≡ false
no_terminator_defines f orderly d inside plain q defined [] there ends = refl
no_terminator_defines f orderly d inside plain q defined (i ∷ is) there ends =
    let each : (is_terminator_op i.1.op ≡ true) × (list_all (λ p. is_terminator_op p.1.op) is ≡ true) = and_parts (is_terminator_op i.1.op) (list_all (λ p. is_terminator_op p.1.op) is) ends in
    or_from (defines q i) (list_any (defines q) is)
    (not_defined f orderly d inside q defined (λ k. is_terminator_op k.op) plain i (there i (inl refl)) each.0)
    (no_terminator_defines f orderly d inside plain q defined is (λ j later. there j (inr later)) each.1)

pub second_fails : (a b : Bool) → (a && b) ≡ false → a ≡ true → b ≡ false
second_fails a b none h = false_from_ne_true b (λ l. true≢false (sym (and_from a b h l) ∙ none))

-- what writes results is neither
pub valued_is_no_phi : (i : InstrData) → is_valued (meaning_of i.flags i.op) ≡ true → is_phi i ≡ false
valued_is_no_phi i valued = second_fails (is_valued (meaning_of i.flags i.op)) (is_phi i) (joins_nothing (meaning_of i.flags i.op)) valued

pub valued_is_no_terminator : (i : InstrData) → is_valued (meaning_of i.flags i.op) ≡ true → is_terminator_op i.op ≡ false
valued_is_no_terminator i valued = second_fails (is_valued (meaning_of i.flags i.op)) (is_terminator_op i.op) (ends_nothing i.flags i.op) valued

pub no_end_defines : (f : FunctionData) → IsOrderly f → (d : ℕ × InstrData) → IsIn d (all_instrs f.blocks) → is_valued (meaning_of d.1.flags d.1.op) ≡ true → (q : ℕ) → defines q d ≡ true
    → (is : List (ℕ × InstrData)) → ((j : ℕ × InstrData) → IsIn j is → IsIn j (all_instrs f.blocks)) → list_all (λ p. is_terminator_op p.1.op) is ≡ true → list_any (defines q) is ≡ false
no_end_defines f orderly d inside valued = no_terminator_defines f orderly d inside (valued_is_no_terminator d.1 valued)
