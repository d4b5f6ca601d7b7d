-- The sets of small functions.
use Rattle.std.proofs.Common.{◌≡◌, ℕ, zero, suc, ◌<◌, Bool, true, false, cond, not, ◌&&◌, ◌||◌, ◌==◌, List, [], ◌∷◌, Option, Some, None, length, find, ◌⊎◌, inl, inr, ⊎_elim, refl, sym, ap, ◌∙◌, subst, arith, true≢false}
use Rattle.std.proofs.lemmas.Bool.{or_cases, and_parts, and_from, not-true, eqb-true}
use Rattle.std.specs.List.{list_any, list_all}
use Rattle.gi_mir.specs.Data.{InstrData, FunctionData}
use Rattle.gi_mir.specs.Edit.{all_instrs, is_use_of, is_def_of, defines, uses}
use Rattle.gi_mir.specs.Formed.{is_use}
use Rattle.gi_mir.specs.declared.operand.Operand.{Operand}
use Rattle.gi_mir.specs.declared.operand.Operand.TheVariants as operand
use Rattle.gi_meaning.specs.Runs.{is_among}
use Rattle.gi_valid.specs.Available.{successors_of, IsReachedBlock, at_end, IsExtent}
use Rattle.gi_valid.specs.Definitions.{is_pure, definition, uses_purely, IsComputedOver, IsComputedFrom}
use Rattle.gi_meaning.specs.State.{State, start, Virtual, put}
use Rattle.gi_valid.specs.Examples.{extents_of, world_with}
use Rattle.gi_meaning.specs.InRow.{results_in, sources_in}
use Rattle.gi_valid.specs.Valid.{IsGreatest}

-- ══ What is computed from what ══

-- pure instructions that use registers define these from those alone
abbrev keeps_to : (computed origins : List ℕ) → ℕ × InstrData → Bool
keeps_to computed origins p =
    not (is_pure p.1) || not (list_any is_use p.1.operands)
    || (list_all (λ r. is_among r computed) (results_in p.1.operands) && list_all (λ x. is_among x origins) (sources_in p.1.operands))

abbrev pub keep_to : (computed origins : List ℕ) → FunctionData → Bool
keep_to computed origins f = list_all (keeps_to computed origins) (all_instrs f.blocks)

found_passes : (r : ℕ) (test : ℕ × InstrData → Bool) (is : List (ℕ × InstrData)) (d : ℕ × InstrData) → list_all test is ≡ true → find (defines r) is ≡ Some d → (test d ≡ true) × (defines r d ≡ true)
found_passes r test [] d all h = cc
found_passes r test (i ∷ is) d all h = by (defines r i) refl h (λ l. found_passes r test is d (and_parts (test i) (list_all test is) all).1 l)
  where
    by : (t : Bool) → defines r i ≡ t → cond t (Some i) (find (defines r) is) ≡ Some d → (find (defines r) is ≡ Some d → (test d ≡ true) × (defines r d ≡ true)) → (test d ≡ true) × (defines r d ≡ true)
    by true so h rest = let same : i ≡ d = cc in (subst (λ k. test k ≡ true) same (and_parts (test i) (list_all test is) all).0, subst (λ k. defines r k ≡ true) same so)
    by false so h rest = rest h

among_results : (computed : List ℕ) (r : ℕ) (os : List Operand) → list_all (λ q. is_among q computed) (results_in os) ≡ true → list_any (is_def_of r) os ≡ true → is_among r computed ≡ true
among_results computed r [] all h = cc
among_results computed r (operand.Def q kind ∷ os) all h =
    let each : (is_among q.0 computed ≡ true) × (list_all (λ k. is_among k computed) (results_in os) ≡ true) = and_parts (is_among q.0 computed) (list_all (λ k. is_among k computed) (results_in os)) all in
    ⊎_elim (λ here. subst (λ k. is_among k computed ≡ true) (eqb-true q.0 r here) each.0) (λ later. among_results computed r os each.1 later) (or_cases (q.0 == r) (list_any (is_def_of r) os) h)
among_results computed r (_ ∷ os) all h = among_results computed r os all h

among_sources : (origins : List ℕ) (x : ℕ) (os : List Operand) → list_all (λ q. is_among q origins) (sources_in os) ≡ true → list_any (is_use_of x) os ≡ true → is_among x origins ≡ true
among_sources origins x [] all h = cc
among_sources origins x (operand.Use q ∷ os) all h =
    let each : (is_among q.0 origins ≡ true) × (list_all (λ k. is_among k origins) (sources_in os) ≡ true) = and_parts (is_among q.0 origins) (list_all (λ k. is_among k origins) (sources_in os)) all in
    ⊎_elim (λ here. subst (λ k. is_among k origins ≡ true) (eqb-true q.0 x here) each.0) (λ later. among_sources origins x os each.1 later) (or_cases (q.0 == x) (list_any (is_use_of x) os) h)
among_sources origins x (_ ∷ os) all h = among_sources origins x os all h

some_use : (x : ℕ) (os : List Operand) → list_any (is_use_of x) os ≡ true → list_any is_use os ≡ true
some_use x [] h = cc
some_use x (operand.Use q ∷ os) h = refl
some_use x (_ ∷ os) h = some_use x os h

used_by : (computed origins : List ℕ) (f : FunctionData) → keep_to computed origins f ≡ true → (y x : ℕ) (found : Option (ℕ × InstrData)) → definition f y ≡ found → uses_purely found x ≡ true
    → (is_among y computed ≡ true) × (is_among x origins ≡ true)
used_by computed origins f keep y x None is h = cc
used_by computed origins f keep y x (Some d) is h =
    let both : (is_pure d.1 ≡ true) × (uses x d ≡ true) = and_parts (is_pure d.1) (uses x d) h in
    let passes : (keeps_to computed origins d ≡ true) × (defines y d ≡ true) = found_passes y (keeps_to computed origins) (all_instrs f.blocks) d keep is in
    let fits : Bool = list_all (λ r. is_among r computed) (results_in d.1.operands) && list_all (λ k. is_among k origins) (sources_in d.1.operands) in
    let kept : fits ≡ true = ⊎_elim
    (λ free. ⊎_elim
    (λ impure. absurd (true≢false (sym both.0 ∙ not-true (is_pure d.1) impure)))
    (λ unused. absurd (true≢false (sym (some_use x d.1.operands both.1) ∙ not-true (list_any is_use d.1.operands) unused)))
    (or_cases (not (is_pure d.1)) (not (list_any is_use d.1.operands)) free))
    (λ k. k) (or_cases (not (is_pure d.1) || not (list_any is_use d.1.operands)) fits passes.0) in
    let each : (list_all (λ r. is_among r computed) (results_in d.1.operands) ≡ true) × (list_all (λ k. is_among k origins) (sources_in d.1.operands) ≡ true) =
    and_parts (list_all (λ r. is_among r computed) (results_in d.1.operands)) (list_all (λ k. is_among k origins) (sources_in d.1.operands)) kept in
    (among_results computed y d.1.operands each.0 passes.1, among_sources origins x d.1.operands each.1 both.1)

used_purely : (computed origins : List ℕ) (f : FunctionData) → keep_to computed origins f ≡ true → (y x : ℕ) → uses_purely (definition f y) x ≡ true → (is_among y computed ≡ true) × (is_among x origins ≡ true)
used_purely computed origins f keep y x h = used_by computed origins f keep y x (definition f y) refl h

computed_over : (computed origins : List ℕ) (f : FunctionData) → keep_to computed origins f ≡ true → (n y x : ℕ) → IsComputedOver n f y x → (is_among y computed ≡ true) × (is_among x origins ≡ true)
computed_over computed origins f keep zero y x h = used_purely computed origins f keep y x h
computed_over computed origins f keep (suc n) y x h = ((used_purely computed origins f keep y h.0 h.1).0, (computed_over computed origins f keep n h.0 x h.2).1)

pub computed_within : (computed origins entering : List ℕ) (f : FunctionData) → keep_to computed origins f ≡ true → (r x : ℕ) → IsComputedFrom f r x → (extents_of computed origins entering r).origins x ≡ true
computed_within computed origins entering f keep r x from =
    let both : (is_among r computed ≡ true) × (is_among x origins ≡ true) = computed_over computed origins f keep from.others r x from.over in
    and_from (is_among r computed) (is_among x origins) both.0 both.1

-- ══ One block ══

never : (computed origins : List ℕ) (r b : ℕ) → (extents_of computed origins [] r).starts b ≡ true → ⊥
never computed origins r b starts = true≢false (sym (and_parts (b == 1) false starts).1)

pub alone_contained : (computed origins : List ℕ) (f : FunctionData) → keep_to computed origins f ≡ true → (r : ℕ) → IsExtent f r (extents_of computed origins [] r)
alone_contained computed origins f keep r = record {
  computed = computed_within computed origins [] f keep r;
  first = refl;
  joined = λ a b reached among starts. absurd (never computed origins r b starts);
  apart = λ b unreached starts. absurd (never computed origins r b starts);
}

pub alone_greatest : (computed origins : List ℕ) (f : FunctionData) → keep_to computed origins f ≡ true → length f.blocks ≡ 1
    → ((r x : ℕ) → is_among r computed ≡ true → is_among x origins ≡ true → IsComputedFrom f r x) → (r : ℕ) → IsGreatest f r (extents_of computed origins [] r)
alone_greatest computed origins f keep one each r = record {
  contained = alone_contained computed origins f keep r;
  alone = λ x own. let both : (is_among r computed ≡ true) × (is_among x origins ≡ true) = and_parts (is_among r computed) (is_among x origins) own in each r x both.0 both.1;
  greatest = λ other contained b within starts. absurd (true≢false (sym starts ∙ ap other.starts (only_first b (length f.blocks) within one) ∙ contained.first));
}
  where
    only_first : (b n : ℕ) → b < n → n ≡ 1 → b ≡ 0
    only_first b n h l = omega (arith, h, l)

-- nothing is computed from anything
pub nothing_computed : (f : FunctionData) (r x : ℕ) → is_among r [] ≡ true → is_among x [] ≡ true → IsComputedFrom f r x
nothing_computed f r x none other = cc

pub among_one : (r a : ℕ) → is_among r (a ∷ []) ≡ true → r ≡ a
among_one r a h = ⊎_elim (λ here. eqb-true r a here) (λ later. cc) (or_cases (r == a) false h)

pub among_two : (r a b : ℕ) → is_among r (a ∷ b ∷ []) ≡ true → (r ≡ a) ⊎ (r ≡ b)
among_two r a b h = ⊎_elim (λ here. inl (eqb-true r a here)) (λ later. inr (among_one r b later)) (or_cases (r == a) (is_among r (b ∷ [])) h)

-- ══ A loop of the second of two blocks ══

pub loop_contained : (computed origins : List ℕ) (f : FunctionData) → keep_to computed origins f ≡ true
    → successors_of f 0 ≡ 1 ∷ [] → successors_of f 1 ≡ 1 ∷ [] → ((a : ℕ) → successors_of f (suc (suc a)) ≡ [])
    → (at_end f 0 (extents_of computed origins (0 ∷ 1 ∷ []) 0) 0 ≡ true) × (at_end f 1 (extents_of computed origins (0 ∷ 1 ∷ []) 1) 0 ≡ true)
    × (at_end f 0 (extents_of computed origins (0 ∷ 1 ∷ []) 0) 1 ≡ true) × (at_end f 1 (extents_of computed origins (0 ∷ 1 ∷ []) 1) 1 ≡ true)
    → (r : ℕ) → IsExtent f r (extents_of computed origins (0 ∷ 1 ∷ []) r)
loop_contained computed origins f keep first second others ends r = record {
  computed = computed_within computed origins (0 ∷ 1 ∷ []) f keep r;
  first = refl;
  joined = λ a b reached among starts. from a b among (and_parts (b == 1) (is_among r (0 ∷ 1 ∷ [])) starts).1;
  apart = λ b unreached starts. absurd (unreached (second_reached b (eqb-true b 1 (and_parts (b == 1) (is_among r (0 ∷ 1 ∷ [])) starts).0)));
}
  where
    second_reached : (b : ℕ) → b ≡ 1 → IsReachedBlock f b
    second_reached b h = subst (IsReachedBlock f) (sym h) (record { steps = 1; path = (0, refl, ap (is_among 1) first) })

    at_first : is_among r (0 ∷ 1 ∷ []) ≡ true → at_end f r (extents_of computed origins (0 ∷ 1 ∷ []) r) 0 ≡ true
    at_first own =
        ⊎_elim (λ h. subst (λ k. at_end f k (extents_of computed origins (0 ∷ 1 ∷ []) k) 0 ≡ true) (sym h) ends.0)
        (λ h. subst (λ k. at_end f k (extents_of computed origins (0 ∷ 1 ∷ []) k) 0 ≡ true) (sym h) ends.1) (among_two r 0 1 own)

    at_second : is_among r (0 ∷ 1 ∷ []) ≡ true → at_end f r (extents_of computed origins (0 ∷ 1 ∷ []) r) 1 ≡ true
    at_second own =
        ⊎_elim (λ h. subst (λ k. at_end f k (extents_of computed origins (0 ∷ 1 ∷ []) k) 1 ≡ true) (sym h) ends.2)
        (λ h. subst (λ k. at_end f k (extents_of computed origins (0 ∷ 1 ∷ []) k) 1 ≡ true) (sym h) ends.3) (among_two r 0 1 own)

    from : (a b : ℕ) → is_among b (successors_of f a) ≡ true → is_among r (0 ∷ 1 ∷ []) ≡ true → at_end f r (extents_of computed origins (0 ∷ 1 ∷ []) r) a ≡ true
    from zero b among own = at_first own
    from (suc zero) b among own = at_second own
    from (suc (suc a)) b among own = absurd (true≢false (sym among ∙ ap (is_among b) (others a)))

-- ══ States of runs in which x10 is 5 ══

-- behind the copy of x10 to %0
abbrev pub copied : State
copied = put (start (world_with 5)) (Virtual 0) 5

-- behind the constant 1 in %1
abbrev pub copied_and_set : State
copied_and_set = put copied (Virtual 1) 1
