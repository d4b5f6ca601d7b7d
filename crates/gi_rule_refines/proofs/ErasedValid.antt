-- A valid function without a dead instruction is valid.
use Rattle.std.proofs.Common.{◌≡◌, ℕ, Bool, true, false, cond, not, ◌&&◌, ◌||◌, ◌==◌, List, [], ◌∷◌, Option, Some, None, find, option_map, inl, inr, ⊎_elim, refl, sym, ap, ap₂, ◌∙◌, subst, arith, true≢false}
use Rattle.std.proofs.lemmas.Bool.{and_from, and_parts, or_cases, or_from, or_left, or_parts, or_right}
use Rattle.std.specs.List.{list_all, list_any, range_with_len}
use Rattle.gi_mir.specs.Data.{InstrData, FunctionData, reg_of}
use Rattle.gi_mir.specs.Edit.{all_instrs, defines, without_instr}
use Rattle.gi_mir.specs.Registers.{type_of_kind}
use Rattle.gi_mir.specs.Row.{is_branch_op, is_call_op, is_terminator_op, is_unconditional_op}
use Rattle.gi_meaning.specs.InRow.{results_in}
use Rattle.gi_meaning.specs.Runs.{is_among, is_phi}
use Rattle.gi_valid.specs.Available.{is_physical_there, predecessors}
use Rattle.gi_valid.specs.Definitions.{defines_physical, reads_physical}
use Rattle.gi_valid.specs.Faults.{Site, are_entries, blocks_in, goes_across, is_division, is_product, is_used_first, is_wider, phi_entries, physical_across, sites, stands_first, terminator, told, type_mismatch, unknown_block}
use Rattle.gi_valid.specs.Typing.{Phase, mismatch, type_in}
use Rattle.gi_valid.specs.Valid.{IsValid}
use Rattle.gi_valid.specs.declared.invalid.Invalid.{Invalid}
use Rattle.gi_valid.specs.declared.invalid.Invalid.TheVariants.{PhiEntries, PhysicalAcross, TypeMismatch}
use Rattle.gi_valid.proofs.Existing.{greatest_sets}
use Rattle.gi_valid.proofs.Greatest.{faultless_in_greatest}
use Rattle.gi_valid.proofs.Sited.{site_of}
use Rattle.gi_valid.proofs.Valid.{nothing_mapped}
use Rattle.gi_change_valid.specs.Conditions.{DefinesAnew}
use Rattle.gi_change_valid.specs.Rewriting.{IsOneOf, IsRewritten, Rewriting}
use Rattle.gi_change_valid.proofs.Across.{same_start, wider_alike}
use Rattle.gi_change_valid.proofs.Faultless.{none_told, ordered, same_unknown, successors_still_there}
use Rattle.gi_change_valid.proofs.Frames.{same_predecessors, same_successors}
use Rattle.gi_change_valid.proofs.Single.{none_defined_twice}
use Rattle.gi_change_valid.proofs.Sites.{IsSite, nothing_new, site_inside, site_own}
use Rattle.gi_change_valid.proofs.Typed.{mismatch_left, results_alike, type_alike}
use Rattle.gi_change_valid.proofs.Valid.{AreQuietAll, faultless_of, great_of, quiet_of}
use Rattle.gi_rule_valid.proofs.InPlace.{entry_stays}
use Rattle.gi_rule_refines.proofs.Erased.{IsErased, defined_stays, erased, erasing, gone_defines_none, kind_stays, used_stays}
use Rattle.gi_rule_refines.proofs.ErasedExtents.{all_available, extent_holds, extent_left, quiet_kept}
use Rattle.gi_rule_refines.proofs.ErasedLists.{IsAlone, all_left, any_before, left, left_next, none_comes}

-- what holds of each other instruction in its place
abbrev pub Keeps : (f : FunctionData) (id : ℕ) (root : InstrData) → (old new : Site → Option Invalid) → Type 0
Keeps f id root old new =
    (b : ℕ) (front : List (ℕ × InstrData)) (p : ℕ × InstrData) (back : List (ℕ × InstrData)) → IsSite f b front p back → (p.0 == id) ≡ false → old (site_of b front p back) ≡ None
    → new (site_of b (left f id root front) p (left f id root back)) ≡ None

nothing_told : (x : ℕ) (phase : Phase) (f : FunctionData) (id : ℕ) → (c : IsErased x phase f id) → (old new : Site → Option Invalid) → Keeps f id c.root old new → told old (sites f) ≡ [] → told new (sites (without_instr f id)) ≡ []
nothing_told x phase f id c old new keeps none = nothing_new (erasing f id c.root) f (without_instr f id) (erased x phase f id c) old new (quiet_kept f id c.root old new keeps) none

-- ══ Types ══

defined_type : (x : ℕ) (phase : Phase) (f : FunctionData) (id : ℕ) → (c : IsErased x phase f id) → (p : ℕ × InstrData) → IsOneOf p (all_instrs f.blocks) → (p.0 == id) ≡ false → (r : ℕ) → defines r p ≡ true → type_in phase (without_instr f id) r ≡ type_in phase f r
defined_type x phase f id c p there other r own = type_alike phase f (without_instr f id) r r (ap type_of_kind (kind_stays x phase f id c r (defined_stays x phase f id c p there other r own)))

types_meet : (x : ℕ) (phase : Phase) (f : FunctionData) (id : ℕ) → (c : IsErased x phase f id) → Keeps f id c.root (type_mismatch x phase f) (type_mismatch x phase (without_instr f id))
types_meet x phase f id c b front p back site other old =
    let there : IsOneOf p (all_instrs f.blocks) = site_inside f b front p back site in
    ap (option_map (λ r. TypeMismatch (reg_of r)))
    (subst (λ (q : ℕ × InstrData). mismatch x phase (without_instr f id) q.1 ≡ None) (entry_stays p)
    (mismatch_left x phase f (without_instr f id) (λ r. r) p (λ r own. defined_type x phase f id c p there other r own)
    (λ r used. type_alike phase f (without_instr f id) r r (ap type_of_kind (kind_stays x phase f id c r (used_stays x phase f id c p there r used))))
    (nothing_mapped (λ r. TypeMismatch (reg_of r)) (mismatch x phase f p.1) old)))

-- ══ Blocks ══

blocks_there : (x : ℕ) (phase : Phase) (f : FunctionData) (id : ℕ) → (c : IsErased x phase f id) → Keeps f id c.root (unknown_block f) (unknown_block (without_instr f id))
blocks_there x phase f id c b front p back site other old = same_unknown (erasing f id c.root) f (without_instr f id) (erased x phase f id c) (blocks_in p.1.operands) ∙ old

phis_first : (x : ℕ) (phase : Phase) (f : FunctionData) (id : ℕ) → (c : IsErased x phase f id) → Keeps f id c.root (phi_entries f) (phi_entries (without_instr f id))
phis_first x phase f id c b front p back site other old =
    ap (λ ps. cond (is_phi p.1 && not (stands_first now && are_entries ps (blocks_in p.1.operands))) (Some PhiEntries) None) (same_predecessors (erasing f id c.root) f (without_instr f id) (erased x phase f id c) b)
    ∙ by (is_phi p.1) (stands_first (site_of b front p back)) (stands_first now) (are_entries (predecessors f b) (blocks_in p.1.operands))
    (λ h. let each = and_parts (not (b == 0)) (list_all (λ q. is_phi q.1) front) h in and_from (not (b == 0)) (list_all (λ q. is_phi q.1) (left f id c.root front)) each.0 (all_left f id c.root (λ q. is_phi q.1) front each.1))
    old
  where
    now : Site
    now = site_of b (left f id c.root front) p (left f id c.root back)

    by : (phi s t e : Bool) → (s ≡ true → t ≡ true) → cond (phi && not (s && e)) (Some PhiEntries) None ≡ None → cond (phi && not (t && e)) (Some PhiEntries) None ≡ None
    by false s t e more h = refl
    by true false t e more h = cc
    by true true t true more h = ap (λ k. cond (not (k && true)) (Some PhiEntries) None) (more refl)
    by true true t false more h = cc

-- ══ Terminators ══

ends_last : (x : ℕ) (phase : Phase) (f : FunctionData) (id : ℕ) → (c : IsErased x phase f id) → told (terminator f) (sites f) ≡ [] → Keeps f id c.root (terminator f) (terminator (without_instr f id))
ends_last x phase f id c none b front p back site other old =
    let before = ordered f none b front p back site in
    let parts = or_parts (list_any (λ q. is_unconditional_op q.1.op) front) (list_any (λ q. is_terminator_op q.1.op) front && not (is_terminator_op p.1.op)) before.early in
    none_told (without_instr f id) (site_of b (left f id c.root front) p (left f id c.root back))
    (or_from (list_any (λ q. is_unconditional_op q.1.op) (left f id c.root front)) (list_any (λ q. is_terminator_op q.1.op) (left f id c.root front) && not (is_terminator_op p.1.op))
    (none_comes f id c.root (λ q. is_unconditional_op q.1.op) front parts.0)
    (by (list_any (λ q. is_terminator_op q.1.op) front) (list_any (λ q. is_terminator_op q.1.op) (left f id c.root front)) (not (is_terminator_op p.1.op)) (none_comes f id c.root (λ q. is_terminator_op q.1.op) front) parts.1))
    (ap (λ bs. is_branch_op p.1.op && not (list_all (λ k. is_among k bs) (blocks_in p.1.operands))) (same_successors (erasing f id c.root) f (without_instr f id) (erased x phase f id c) b) ∙ before.aimed)
  where
    by : (s t n : Bool) → (s ≡ false → t ≡ false) → (s && n) ≡ false → (t && n) ≡ false
    by false t n less h = ap (λ k. k && n) (less refl)
    by true true n less h = h
    by true false n less h = refl

-- ══ Physical registers across calls ══

used_first_before : (x : ℕ) (phase : Phase) (f : FunctionData) (id : ℕ) → (c : IsErased x phase f id) → (n : ℕ) (is : List (ℕ × InstrData)) → IsAlone id c.root is → is_used_first n (left f id c.root is) ≡ true → is_used_first n is ≡ true
used_first_before x phase f id c n [] own h = cc
used_first_before x phase f id c n (p ∷ is) own h = by (p.0 == id) refl (used_first_before x phase f id c n is (λ q there. own q (inr there))) (sym (ap (is_used_first n) (left_next f id c.root p is)) ∙ h)
  where
    now : List (ℕ × InstrData)
    now = left f id c.root is

    by : (t : Bool) → (p.0 == id) ≡ t → (is_used_first n now ≡ true → is_used_first n is ≡ true) → is_used_first n (cond t now (p ∷ now)) ≡ true → is_used_first n (p ∷ is) ≡ true
    by true so rest h =
        let none : defines_physical n p ≡ false = ap (defines_physical n) (own p (inl refl) so) ∙ gone_defines_none x phase f id c n in
        or_right (reads_physical n p) (not (defines_physical n p) && is_used_first n is) (and_from (not (defines_physical n p)) (is_used_first n is) (ap not none) (rest h))
    by false so rest h =
        ⊎_elim (λ reads. or_left (reads_physical n p) (not (defines_physical n p) && is_used_first n is) reads)
        (λ later. let each = and_parts (not (defines_physical n p)) (is_used_first n now) later in
        or_right (reads_physical n p) (not (defines_physical n p) && is_used_first n is) (and_from (not (defines_physical n p)) (is_used_first n is) each.0 (rest each.1)))
        (or_cases (reads_physical n p) (not (defines_physical n p) && is_used_first n now) h)

physical_before : (x : ℕ) (phase : Phase) (f : FunctionData) (id : ℕ) → (c : IsErased x phase f id) → (b : ℕ) (front : List (ℕ × InstrData)) (n : ℕ) → is_physical_there (without_instr f id) b (left f id c.root front) n ≡ true → is_physical_there f b front n ≡ true
physical_before x phase f id c b front n h =
    ⊎_elim (λ start. or_left _ (list_any (defines_physical n) front) (sym (same_start (erasing f id c.root) f (without_instr f id) (erased x phase f id c) b n) ∙ start))
    (λ defined. or_right _ (list_any (defines_physical n) front) (any_before f id c.root (defines_physical n) front defined)) (or_cases _ (list_any (defines_physical n) (left f id c.root front)) h)

across_before : (x : ℕ) (phase : Phase) (f : FunctionData) (id : ℕ) → (c : IsErased x phase f id) → (b : ℕ) (front : List (ℕ × InstrData)) (p : ℕ × InstrData) (back : List (ℕ × InstrData)) → IsSite f b front p back → (n : ℕ)
    → goes_across (without_instr f id) (site_of b (left f id c.root front) p (left f id c.root back)) n ≡ true → goes_across f (site_of b front p back) n ≡ true
across_before x phase f id c b front p back site n h =
    by (not (n == 0) && not (n == 2)) (is_physical_there (without_instr f id) b (left f id c.root front) n) (is_physical_there f b front n) (not (defines_physical n (0, p.1)))
    (is_used_first n (left f id c.root back)) (is_used_first n back) (physical_before x phase f id c b front n)
    (used_first_before x phase f id c n back (site_own (erasing f id c.root) f (without_instr f id) (erased x phase f id c) b front p back site).1) h
  where
    by : (s t t' d u u' : Bool) → (t ≡ true → t' ≡ true) → (u ≡ true → u' ≡ true) → (((s && t) && d) && u) ≡ true → (((s && t') && d) && u') ≡ true
    by true true t' true true u' first then h = ap₂ (λ a b. ((true && a) && true) && b) (first refl) (then refl)
    by false t t' d u u' first then h = cc
    by true false t' d u u' first then h = cc
    by true true t' false u u' first then h = cc
    by true true t' true false u' first then h = cc

none_found : (old new : ℕ → Bool) → ((n : ℕ) → new n ≡ true → old n ≡ true) → (ns : List ℕ) → find old ns ≡ None → find new ns ≡ None
none_found old new less [] h = refl
none_found old new less (n ∷ ns) h = by (old n) (new n) (less n) h (none_found old new less ns)
  where
    by : (s t : Bool) → (t ≡ true → s ≡ true) → cond s (Some n) (find old ns) ≡ None → (find old ns ≡ None → find new ns ≡ None) → cond t (Some n) (find new ns) ≡ None
    by true t less h rest = cc
    by false true less h rest = absurd (true≢false (sym (less refl)))
    by false false less h rest = rest h

across_none : (x : ℕ) (phase : Phase) (f : FunctionData) (id : ℕ) → (c : IsErased x phase f id) → Keeps f id c.root (physical_across x phase f) (physical_across x phase (without_instr f id))
across_none x phase f id c b front p back site other old =
    let there : IsOneOf p (all_instrs f.blocks) = site_inside f b front p back site in
    let wider : is_wider x phase (without_instr f id) (results_in p.1.operands) ≡ is_wider x phase f (results_in p.1.operands) =
    wider_alike x phase f (without_instr f id) (results_in p.1.operands) (results_alike (type_in phase f) (type_in phase (without_instr f id)) p.1.operands (λ r own. defined_type x phase f id c p there other r own)) in
    ap (λ t. cond (is_call_op p.1.op || is_division p.1.op || (is_product p.1.op && t)) (option_map PhysicalAcross (find (goes_across (without_instr f id) now) (range_with_len 0 32))) None) wider
    ∙ by (is_call_op p.1.op || is_division p.1.op || (is_product p.1.op && is_wider x phase f (results_in p.1.operands))) old
  where
    now : Site
    now = site_of b (left f id c.root front) p (left f id c.root back)

    by : (t : Bool) → cond t (option_map PhysicalAcross (find (goes_across f (site_of b front p back)) (range_with_len 0 32))) None ≡ None → cond t (option_map PhysicalAcross (find (goes_across (without_instr f id) now) (range_with_len 0 32))) None ≡ None
    by true h =
        ap (option_map PhysicalAcross)
        (none_found (goes_across f (site_of b front p back)) (goes_across (without_instr f id) now) (across_before x phase f id c b front p back site) (range_with_len 0 32)
        (nothing_mapped PhysicalAcross (find (goes_across f (site_of b front p back)) (range_with_len 0 32)) h))
    by false h = refl

-- ══ All ══

makes_none : (f : FunctionData) (id : ℕ) (root : InstrData) → DefinesAnew (erasing f id root) f
makes_none f id root = record { once = λ r. omega arith; own = λ r h. cc }

pub erased_valid : (x : ℕ) (phase : Phase) (f : FunctionData) (id : ℕ) → IsErased x phase f id → IsValid x phase (without_instr f id)
erased_valid x phase f id c =
    let w : Rewriting = erasing f id c.root in
    let g : FunctionData = without_instr f id in
    let is : IsRewritten (erasing f id c.root) f (without_instr f id) = erased x phase f id c in
    let q : AreQuietAll x phase f (great_of f) = quiet_of x phase f (great_of f) (faultless_in_greatest x phase f c.valid (great_of f) (λ r. (greatest_sets f r).is)) in
    record {
      extents = extent_left f c.root;
      contained = extent_holds x phase f id c;
      faultless = faultless_of x phase g (extent_left f c.root) (record {
        double = none_defined_twice w f g is (makes_none f id c.root) q.double;
        unavailable = all_available x phase f id c;
        mismatch = nothing_told x phase f id c (type_mismatch x phase f) (type_mismatch x phase g) (types_meet x phase f id c) q.mismatch;
        unknown = nothing_told x phase f id c (unknown_block f) (unknown_block g) (blocks_there x phase f id c) q.unknown;
        entries = nothing_told x phase f id c (phi_entries f) (phi_entries g) (phis_first x phase f id c) q.entries;
        across = nothing_told x phase f id c (physical_across x phase f) (physical_across x phase g) (across_none x phase f id c) q.across;
        ends = nothing_told x phase f id c (terminator f) (terminator g) (ends_last x phase f id c q.ends) q.ends;
        successors = successors_still_there w f g is q.successors;
      });
    }
