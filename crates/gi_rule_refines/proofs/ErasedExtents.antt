-- Registers that the erased instruction doesn't define are available where they were, and nothing reads the others.
use Rattle.std.proofs.Common.{◌≡◌, ℕ, zero, suc, Bool, true, false, cond, not, ◌||◌, ◌==◌, nat_lt, List, [], ◌∷◌, ◌++◌, Option, Some, None, find, length, inl, inr, ⊎_elim, refl, sym, ap, ap₂, ◌∙◌, subst, true≢false, append-nil}
use Rattle.std.proofs.lemmas.Bool.{and_from, and_parts, or_cases, or_left, or_right, eq-eqb, false_from_ne_true}
use Rattle.std.specs.List.{list_all, list_any}
use Rattle.std.specs.Option.{option_or}
use Rattle.gi_mir.specs.Data.{InstrData, BlockData, FunctionData, reg_of}
use Rattle.gi_mir.specs.Edit.{all_instrs, defines, is_use_of, uses, without_instr}
use Rattle.gi_mir.specs.Places.{body_at}
use Rattle.gi_mir.specs.declared.operand.Operand.{Operand}
use Rattle.gi_mir.specs.declared.operand.Operand.TheVariants as operand
use Rattle.gi_meaning.specs.Runs.{entry_of, is_among, is_phi}
use Rattle.gi_valid.specs.Available.{Extent, IsDefinedInReach, IsExtent, at_end, behind, is_physical_there}
use Rattle.gi_valid.specs.Definitions.{IsComputedOver, definition, defines_physical, uses_purely}
use Rattle.gi_valid.specs.Faults.{Site, is_there, missing_entries, missing_entry, missing_use, not_available, sites, told}
use Rattle.gi_valid.specs.Typing.{Phase}
use Rattle.gi_valid.specs.declared.invalid.Invalid.{Invalid}
use Rattle.gi_valid.specs.declared.invalid.Invalid.TheVariants.{NotAvailable}
use Rattle.gi_valid.proofs.Sited.{neither, site_of}
use Rattle.gi_change_valid.specs.Rewriting.{IsOneOf, IsRewritten, Rewriting}
use Rattle.gi_change_valid.proofs.Across.{same_start}
use Rattle.gi_change_valid.proofs.Available.{reached_after, reached_before}
use Rattle.gi_change_valid.proofs.Circles.{IsKnown, all_there, phis_before, walk, walk_body}
use Rattle.gi_change_valid.proofs.Frames.{as_many_blocks, body_after, same_successors}
use Rattle.gi_change_valid.proofs.Listed.{instrs_after, rewritten_append}
use Rattle.gi_change_valid.proofs.Reading.{entry_used, none_told}
use Rattle.gi_change_valid.proofs.Sites.{AreQuiet, IsSite, nothing_new, site_inside, site_own}
use Rattle.gi_change_valid.proofs.Stepwise.{ByDefinition, ByPhi, ByStaying, CameBy, are_phis, came_by, defined_behind, phis_behind, stays_behind}
use Rattle.gi_change_valid.proofs.Typed.{origin_used}
use Rattle.gi_change_valid.proofs.Valid.{great_of, known_of}
use Rattle.gi_rule_valid.proofs.InPlace.{entry_stays}
use Rattle.gi_rule_refines.proofs.Erased.{IsErased, erased, erasing, gone_defines_none, gone_unused, is_gone, used_stays}
use Rattle.gi_rule_refines.proofs.ErasedLists.{IsAlone, all_left, any_left, find_left, left, left_next}

-- ══ Sites ══

-- nothing is made, so nothing is told of it
pub quiet_kept : (f : FunctionData) (id : ℕ) (root : InstrData) (old new : Site → Option Invalid)
    → ((b : ℕ) (front : List (ℕ × InstrData)) (p : ℕ × InstrData) (back : List (ℕ × InstrData)) → IsSite f b front p back → (p.0 == id) ≡ false → old (site_of b front p back) ≡ None
    → new (site_of b (left f id root front) p (left f id root back)) ≡ None)
    → AreQuiet (erasing f id root) f old new
quiet_kept f id root old new each = record {
  kept = λ b front p back site other h. subst (λ q. new (site_of b (left f id root front) q (left f id root back)) ≡ None) (sym (entry_stays p)) (each b front p back site other h);
  made = λ b front back site h earlier i later splits. absurd (nothing_made earlier i later splits);
}
  where
    nothing_made : (earlier : List (ℕ × InstrData)) (i : ℕ × InstrData) (later : List (ℕ × InstrData)) → [] ≡ earlier ++ i ∷ later → ⊥
    nothing_made [] i later h = cc
    nothing_made (e ∷ earlier) i later h = cc

-- the body of a block without it
pub body_left : (x : ℕ) (phase : Phase) (f : FunctionData) (id : ℕ) → (c : IsErased x phase f id) → (b : ℕ) → (body_at (without_instr f id).blocks b).instrs ≡ left f id c.root (body_at f.blocks b).instrs
body_left x phase f id c b = ap (λ (k : BlockData). k.instrs) (body_after (erasing f id c.root) f (without_instr f id) (erased x phase f id c) b)

-- ══ Computed from ══

definition_left : (x : ℕ) (phase : Phase) (f : FunctionData) (id : ℕ) → (c : IsErased x phase f id) → (r : ℕ) → is_gone c.root r ≡ false → definition (without_instr f id) r ≡ definition f r
definition_left x phase f id c r stays =
    ap (find (defines r)) (instrs_after (erasing f id c.root) f (without_instr f id) (erased x phase f id c)) ∙ find_left f id c.root (defines r) stays (all_instrs f.blocks) (erased x phase f id c).root

-- what a register is computed from is used, and so it stays
origin_stays : (x : ℕ) (phase : Phase) (f : FunctionData) (id : ℕ) → (c : IsErased x phase f id) → (r z : ℕ) → uses_purely (definition f r) z ≡ true → is_gone c.root z ≡ false
origin_stays x phase f id c r z h = false_from_ne_true (is_gone c.root z) (λ gone. true≢false (sym (origin_used f r z (record { others = 0; over = h })) ∙ gone_unused x phase f id c z gone))

computed_over : (x : ℕ) (phase : Phase) (f : FunctionData) (id : ℕ) → (c : IsErased x phase f id) → (n r y : ℕ) → is_gone c.root r ≡ false → IsComputedOver n (without_instr f id) r y → IsComputedOver n f r y
computed_over x phase f id c zero r y stays h = ap (λ d. uses_purely d y) (sym (definition_left x phase f id c r stays)) ∙ h
computed_over x phase f id c (suc n) r y stays h =
    let first : uses_purely (definition f r) h.0 ≡ true = ap (λ d. uses_purely d h.0) (sym (definition_left x phase f id c r stays)) ∙ h.1 in
    (h.0, first, computed_over x phase f id c n h.0 y (origin_stays x phase f id c r h.0 first) h.2)

-- ══ Still available ══

abbrev Stays : (f : FunctionData) (id : ℕ) (root : InstrData) (r b : ℕ) → List (ℕ × InstrData) → Type 0
Stays f id root r b front = behind r (great_of f r).origins ((great_of f r).starts b) front ≡ true → behind r (great_of f r).origins ((great_of f r).starts b) (left f id root front) ≡ true

stay_step : (x : ℕ) (phase : Phase) (f : FunctionData) (id : ℕ) → (c : IsErased x phase f id) → (r : ℕ) → is_gone c.root r ≡ false → (b : ℕ) (front : List (ℕ × InstrData)) (i : ℕ × InstrData) (back : List (ℕ × InstrData)) → IsSite f b front i back
    → Stays f id c.root r b front → Stays f id c.root r b (front ++ i ∷ [])
stay_step x phase f id c r stays b front i back site so h =
    subst (λ l. behind r origins starts l ≡ true) (sym (rewritten_append (erasing f id c.root) front (i ∷ []) ∙ ap (λ l. left f id c.root front ++ l) (left_next f id c.root i [])))
    (by (i.0 == id) refl (came_by r origins starts front i (phis_before f known.entries b front i back site) h))
  where
    known : IsKnown f (great_of f)
    known = known_of x phase f c.valid

    origins : ℕ → Bool
    origins = (great_of f r).origins

    starts : Bool
    starts = (great_of f r).starts b

    now : List (ℕ × InstrData)
    now = left f id c.root front

    first : is_phi i.1 ≡ true → are_phis now ≡ true
    first phi = all_left f id c.root (λ p. is_phi p.1) front (phis_before f known.entries b front i back site phi)

    own : IsAlone id c.root front
    own = (site_own (erasing f id c.root) f (without_instr f id) (erased x phase f id c) b front i back site).0

    kept : CameBy r origins starts front i → behind r origins starts (now ++ i ∷ []) ≡ true
    kept (ByDefinition defined) = defined_behind r origins starts now i first defined
    kept (ByStaying there none) = stays_behind r origins starts now i first (so there) none
    kept (ByPhi phi defined phis there) = phis_behind r origins starts now i phi (first phi) (any_left f id c.root (defines r) stays front own defined)

    gone : i ≡ (id, c.root) → CameBy r origins starts front i → behind r origins starts now ≡ true
    gone same (ByDefinition defined) = absurd (true≢false (sym defined ∙ ap (defines r) same ∙ stays))
    gone same (ByStaying there none) = so there
    gone same (ByPhi phi defined phis there) = so there

    by : (t : Bool) → (i.0 == id) ≡ t → CameBy r origins starts front i → behind r origins starts (now ++ cond t [] (i ∷ [])) ≡ true
    by true is came = ap (behind r origins starts) (append-nil now) ∙ gone ((erased x phase f id c).root i (site_inside f b front i back site) is) came
    by false is came = kept came

still_here : (x : ℕ) (phase : Phase) (f : FunctionData) (id : ℕ) → (c : IsErased x phase f id) → (r : ℕ) → is_gone c.root r ≡ false → (b : ℕ) (front : List (ℕ × InstrData)) (p : ℕ × InstrData) (back : List (ℕ × InstrData)) → IsSite f b front p back
    → Stays f id c.root r b front
still_here x phase f id c r stays b front p back site = walk f b site.block site.found (Stays f id c.root r b) (λ h. h) (stay_step x phase f id c r stays b) front (p ∷ back) site.splits

still_at_end : (x : ℕ) (phase : Phase) (f : FunctionData) (id : ℕ) → (c : IsErased x phase f id) → (r : ℕ) → is_gone c.root r ≡ false → (b : ℕ) → at_end f r (great_of f r) b ≡ true → at_end (without_instr f id) r (great_of f r) b ≡ true
still_at_end x phase f id c r stays b h =
    ap (behind r (great_of f r).origins ((great_of f r).starts b)) (body_left x phase f id c b) ∙ walk_body f b (Stays f id c.root r b) (λ h. h) (stay_step x phase f id c r stays b) h

-- ══ Extents ══

-- a register without a definition is available nowhere
abbrev nowhere : Extent
nowhere = record { origins = λ r. true; starts = λ b. false }

abbrev pub extent_left : (f : FunctionData) (root : InstrData) → ℕ → Extent
extent_left f root r = cond (is_gone root r) nowhere (great_of f r)

great_left : (x : ℕ) (phase : Phase) (f : FunctionData) (id : ℕ) → (c : IsErased x phase f id) → (r : ℕ) → is_gone c.root r ≡ false → IsExtent (without_instr f id) r (great_of f r)
great_left x phase f id c r stays = record {
  computed = λ y from. old.computed y (record { others = from.others; over = computed_over x phase f id c from.others r y stays from.over });
  first = old.first;
  joined = λ a b reached among h.
      still_at_end x phase f id c r stays a
      (old.joined a b (record { steps = reached.steps; path = reached_before w f g is reached.steps a reached.path }) (sym (ap (is_among b) (same_successors w f g is a)) ∙ among) h);
  apart = λ b unreached h.
      let reach : IsDefinedInReach f r = old.apart b (λ reached. unreached (record { steps = reached.steps; path = reached_after w f g is reached.steps b reached.path })) h in
      record {
        block = reach.block;
        reached = record { steps = reach.reached.steps; path = reached_after w f g is reach.reached.steps reach.block reach.reached.path };
        defined = ap (list_any (defines r)) (body_left x phase f id c reach.block) ∙ any_left f id c.root (defines r) stays (body_at f.blocks reach.block).instrs (own reach.block) reach.defined;
      };
}
  where
    w : Rewriting
    w = erasing f id c.root

    g : FunctionData
    g = without_instr f id

    is : IsRewritten (erasing f id c.root) f (without_instr f id)
    is = erased x phase f id c

    old : IsExtent f r (great_of f r)
    old = ((known_of x phase f c.valid).greatest r).contained

    own : (b : ℕ) → IsAlone id c.root (body_at f.blocks b).instrs
    own b = walk_body f b (IsAlone id c.root) (λ p there same. absurd there) (λ front i back site alone p there same. one_of front i (λ q there. alone q there) (λ same. (erased x phase f id c).root i (site_inside f b front i back site) same) p there same)
      where
        one_of : (front : List (ℕ × InstrData)) (i : ℕ × InstrData) → IsAlone id c.root front → ((i.0 == id) ≡ true → i ≡ (id, c.root)) → IsAlone id c.root (front ++ i ∷ [])
        one_of [] i alone here p there same = ⊎_elim (λ is. subst (λ q. q ≡ (id, c.root)) (sym is) (here (subst (λ q. (q.0 == id) ≡ true) is same))) (λ none. absurd none) there
        one_of (q ∷ front) i alone here p there same =
            ⊎_elim (λ is. alone p (inl is) same) (λ later. one_of front i (λ k inside. alone k (inr inside)) here p later same) there

pub extent_holds : (x : ℕ) (phase : Phase) (f : FunctionData) (id : ℕ) → (c : IsErased x phase f id) → (r : ℕ) → IsExtent (without_instr f id) r (extent_left f c.root r)
extent_holds x phase f id c r = by (is_gone c.root r) refl
  where
    by : (t : Bool) → is_gone c.root r ≡ t → IsExtent (without_instr f id) r (cond t nowhere (great_of f r))
    by true so = record { computed = λ y from. refl; first = refl; joined = λ a b reached among h. cc; apart = λ b unreached h. cc }
    by false so = great_left x phase f id c r so

-- ══ What is read ══

physical_left : (x : ℕ) (phase : Phase) (f : FunctionData) (id : ℕ) → (c : IsErased x phase f id) → (b : ℕ) (front : List (ℕ × InstrData)) (p : ℕ × InstrData) (back : List (ℕ × InstrData)) → IsSite f b front p back → (n : ℕ)
    → is_physical_there f b front n ≡ true → is_physical_there (without_instr f id) b (left f id c.root front) n ≡ true
physical_left x phase f id c b front p back site n h =
    ⊎_elim
    (λ start. or_left _ (list_any (defines_physical n) (left f id c.root front)) (same_start (erasing f id c.root) f (without_instr f id) (erased x phase f id c) b n ∙ start))
    (λ defined. or_right _ (list_any (defines_physical n) (left f id c.root front))
    (any_left f id c.root (defines_physical n) (gone_defines_none x phase f id c n) front (site_own (erasing f id c.root) f (without_instr f id) (erased x phase f id c) b front p back site).0 defined))
    (or_cases _ (list_any (defines_physical n) front) h)

operands_there : (x : ℕ) (phase : Phase) (f : FunctionData) (id : ℕ) → (c : IsErased x phase f id) → (b : ℕ) (front : List (ℕ × InstrData)) (p : ℕ × InstrData) (back : List (ℕ × InstrData)) → IsSite f b front p back
    → (os : List Operand) → ((z : ℕ) → list_any (is_use_of z) os ≡ true → uses z p ≡ true) → list_all (is_there f (great_of f) (site_of b front p back)) os ≡ true
    → list_all (is_there (without_instr f id) (extent_left f c.root) (site_of b (left f id c.root front) p (left f id c.root back))) os ≡ true
operands_there x phase f id c b front p back site [] used all = refl
operands_there x phase f id c b front p back site (o ∷ os) used all =
    let old : Site = site_of b front p back in
    let now : Site = site_of b (left f id c.root front) p (left f id c.root back) in
    let each = and_parts (is_there f (great_of f) old o) (list_all (is_there f (great_of f) old) os) all in
    and_from (is_there (without_instr f id) (extent_left f c.root) now o) (list_all (is_there (without_instr f id) (extent_left f c.root) now) os)
    (by o (λ z h. used z (or_left (is_use_of z o) (list_any (is_use_of z) os) h)) each.0)
    (operands_there x phase f id c b front p back site os (λ z h. used z (or_right (is_use_of z o) (list_any (is_use_of z) os) h)) each.1)
  where
    by : (o : Operand) → ((z : ℕ) → is_use_of z o ≡ true → uses z p ≡ true) → is_there f (great_of f) (site_of b front p back) o ≡ true
        → is_there (without_instr f id) (extent_left f c.root) (site_of b (left f id c.root front) p (left f id c.root back)) o ≡ true
    by (operand.Use z) used h =
        let stays = used_stays x phase f id c p (site_inside f b front p back site) z.0 (used z.0 (eq-eqb z.0 z.0 refl)) in
        ap (λ t. behind z.0 (cond t nowhere (great_of f z.0)).origins ((cond t nowhere (great_of f z.0)).starts b) (left f id c.root front)) stays ∙ still_here x phase f id c z.0 stays b front p back site h
    by (operand.Phys n) used h = physical_left x phase f id c b front p back site n h
    by (operand.ImplicitUse n) used h = physical_left x phase f id c b front p back site n h
    by (_) used h = refl

entry_there : (x : ℕ) (phase : Phase) (f : FunctionData) (id : ℕ) → (c : IsErased x phase f id) → (p : ℕ × InstrData) → IsOneOf p (all_instrs f.blocks) → (found : Option (ℕ × ℕ)) → ((e : ℕ × ℕ) → found ≡ Some e → uses e.0 p ≡ true)
    → missing_entry f (great_of f) found ≡ None → missing_entry (without_instr f id) (extent_left f c.root) found ≡ None
entry_there x phase f id c p there None used h = refl
entry_there x phase f id c p there (Some e) used h =
    let stays = used_stays x phase f id c p there e.0 (used e refl) in
    ap₂ (λ n t. cond (not (nat_lt e.1 n) || at_end (without_instr f id) e.0 (cond t nowhere (great_of f e.0)) e.1) None (Some (NotAvailable (operand.Use (reg_of e.0)))))
    (as_many_blocks (erasing f id c.root) f (without_instr f id) (erased x phase f id c)) stays
    ∙ by (not (nat_lt e.1 (length f.blocks))) (at_end f e.0 (great_of f e.0) e.1) (at_end (without_instr f id) e.0 (great_of f e.0) e.1) (λ k. still_at_end x phase f id c e.0 stays e.1 k) h
  where
    by : (t u v : Bool) → (u ≡ true → v ≡ true) → cond (t || u) None (Some (NotAvailable (operand.Use (reg_of e.0)))) ≡ None → cond (t || v) None (Some (NotAvailable (operand.Use (reg_of e.0)))) ≡ None
    by true u v more h = refl
    by false true v more h = ap (λ k. cond k None (Some (NotAvailable (operand.Use (reg_of e.0))))) (more refl)
    by false false v more h = cc

entries_there : (x : ℕ) (phase : Phase) (f : FunctionData) (id : ℕ) → (c : IsErased x phase f id) → (p : ℕ × InstrData) → IsOneOf p (all_instrs f.blocks) → (os : List Operand) → ((z : ℕ) → list_any (is_use_of z) os ≡ true → uses z p ≡ true)
    → missing_entries f (great_of f) os ≡ None → missing_entries (without_instr f id) (extent_left f c.root) os ≡ None
entries_there x phase f id c p there [] used h = refl
entries_there x phase f id c p there (o ∷ os) used h =
    let (here, rest) = neither (missing_entry f (great_of f) (entry_of (o ∷ os))) (missing_entries f (great_of f) os) h in
    ap₂ option_or (entry_there x phase f id c p there (entry_of (o ∷ os)) (λ e is. used e.0 (entry_used (o ∷ os) e is)) here)
    (entries_there x phase f id c p there os (λ z h. used z (or_right (is_use_of z o) (list_any (is_use_of z) os) h)) rest)

pub all_available : (x : ℕ) (phase : Phase) (f : FunctionData) (id : ℕ) → (c : IsErased x phase f id) → told (not_available (without_instr f id) (extent_left f c.root)) (sites (without_instr f id)) ≡ []
all_available x phase f id c =
    nothing_new (erasing f id c.root) f (without_instr f id) (erased x phase f id c) (not_available f (great_of f)) (not_available (without_instr f id) (extent_left f c.root))
    (quiet_kept f id c.root (not_available f (great_of f)) (not_available (without_instr f id) (extent_left f c.root)) kept) (known_of x phase f c.valid).available
  where
    kept : (b : ℕ) (front : List (ℕ × InstrData)) (p : ℕ × InstrData) (back : List (ℕ × InstrData)) → IsSite f b front p back → (p.0 == id) ≡ false → not_available f (great_of f) (site_of b front p back) ≡ None
        → not_available (without_instr f id) (extent_left f c.root) (site_of b (left f id c.root front) p (left f id c.root back)) ≡ None
    kept b front p back site other old = by (is_phi p.1) refl
      where
        now : Site
        now = site_of b (left f id c.root front) p (left f id c.root back)

        by : (t : Bool) → is_phi p.1 ≡ t → not_available (without_instr f id) (extent_left f c.root) now ≡ None
        by true so =
            ap (λ t. cond t (missing_entries (without_instr f id) (extent_left f c.root) p.1.operands) (missing_use (without_instr f id) (extent_left f c.root) now)) so
            ∙ entries_there x phase f id c p (site_inside f b front p back site) p.1.operands (λ z h. h)
            (sym (ap (λ t. cond t (missing_entries f (great_of f) p.1.operands) (missing_use f (great_of f) (site_of b front p back))) so) ∙ old)
        by false so =
            none_told (without_instr f id) (extent_left f c.root) now so
            (operands_there x phase f id c b front p back site p.1.operands (λ z h. h) (all_there f (great_of f) (known_of x phase f c.valid) b front p back site so))
