-- In a valid function no register is computed from itself, and where one is available, so is each that it is computed from.
use Rattle.std.proofs.Common.{◌≡◌, ℕ, zero, suc, ◌≤◌, Bool, true, false, cond, not, ◌&&◌, ◌||◌, ◌==◌, List, [], ◌∷◌, ◌++◌, Option, Some, None, find, slice_get, ◌⊎◌, inl, inr, ⊎_elim, refl, sym, ap, ◌∙◌, subst, true≢false, append-nil, append_assoc}
use Rattle.std.proofs.lemmas.Bool.{or_cases, and_parts, not-true, eqb-true, false_from_ne_true}
use Rattle.std.specs.List.{list_any, list_all}
use Rattle.gi_mir.specs.Data.{InstrData, BlockData, FunctionData}
use Rattle.gi_mir.specs.Edit.{empty_block, all_instrs, is_use_of, defines, uses}
use Rattle.gi_mir.specs.Places.{body_at}
use Rattle.gi_mir.specs.Row.{access_of, is_phi_op}
use Rattle.gi_mir.specs.declared.opcode.Opcode.{Opcode}
use Rattle.gi_mir.specs.declared.opcode.Opcode.TheVariants as op
use Rattle.gi_mir.specs.declared.operand.Flags.{Flags}
use Rattle.gi_mir.specs.declared.operand.Operand.{Operand}
use Rattle.gi_mir.specs.declared.operand.Operand.TheVariants as operand
use Rattle.gi_meaning.specs.Meaning.{meaning_of, is_joining}
use Rattle.gi_meaning.specs.Runs.{is_phi}
use Rattle.gi_valid.specs.Available.{IsReachedIn, predecessors, Extent, behind, at_end, IsDefinedInReach}
use Rattle.gi_valid.specs.Definitions.{is_load, copies_physical, is_erasable, is_pure, definition, uses_purely, IsComputedOver, IsComputedFrom}
use Rattle.gi_valid.specs.Faults.{Site, sites, told, definitions, times, blocks_in, is_there, missing_use, missing_entries, not_available, are_entries, stands_first, phi_entries}
use Rattle.gi_valid.specs.Valid.{IsGreatest}
use Rattle.gi_valid.specs.declared.invalid.Invalid.TheVariants.{NotAvailable, PhiEntries}
use Rattle.gi_valid.proofs.Single.{one_definition}
use Rattle.gi_valid.proofs.Sited.{site_of, at_site}
use Rattle.gi_valid.proofs.Valid.{nothing_mapped}
use Rattle.gi_valid.proofs.Walking.{body_is}
use Rattle.gi_change_valid.specs.Rewriting.{IsOneOf}
use Rattle.gi_change_valid.proofs.Sites.{IsSite, site_inside}
use Rattle.gi_change_valid.proofs.Stepwise.{are_phis, CameBy, ByDefinition, ByStaying, ByPhi, came_by}
use Rattle.gi_change_valid.proofs.Typed.{in_list, found_there}

-- what is known of a function by its greatest sets
pub record IsKnown (f : FunctionData) (great : ℕ → Extent) : Type 0 where
  pub greatest : (r : ℕ) → IsGreatest f r (great r)
  pub available : told (not_available f great) (sites f) ≡ []
  pub entries : told (phi_entries f) (sites f) ≡ []
  pub once : (r : ℕ) → times r (definitions (all_instrs f.blocks)) ≤ 1

-- available in front of a place
abbrev pub is_here : (great : ℕ → Extent) → (b : ℕ) → (front : List (ℕ × InstrData)) → (r : ℕ) → Bool
is_here great b front r = behind r (great r).origins ((great r).starts b) front

-- ══ Sites ══

-- each front of a block, by its instructions one after the other
walk_on : (f : FunctionData) (b : ℕ) (block : BlockData) → slice_get f.blocks b ≡ Some block → (Q : List (ℕ × InstrData) → Type 0)
    → ((front : List (ℕ × InstrData)) (i : ℕ × InstrData) (back : List (ℕ × InstrData)) → IsSite f b front i back → Q front → Q (front ++ i ∷ []))
    → (done front back : List (ℕ × InstrData)) → block.instrs ≡ done ++ (front ++ back) → Q done → Q (done ++ front)
walk_on f b block found Q step done [] back splits q = subst Q (sym (append-nil done)) q
walk_on f b block found Q step done (i ∷ front) back splits q =
    subst Q (append_assoc done (i ∷ []) front)
    (walk_on f b block found Q step (done ++ i ∷ []) front back (splits ∙ sym (append_assoc done (i ∷ []) (front ++ back)))
    (step done i (front ++ back) (record { block = block; found = found; splits = splits }) q))

pub walk : (f : FunctionData) (b : ℕ) (block : BlockData) → slice_get f.blocks b ≡ Some block → (Q : List (ℕ × InstrData) → Type 0) → Q []
    → ((front : List (ℕ × InstrData)) (i : ℕ × InstrData) (back : List (ℕ × InstrData)) → IsSite f b front i back → Q front → Q (front ++ i ∷ []))
    → (front back : List (ℕ × InstrData)) → block.instrs ≡ front ++ back → Q front
walk f b block found Q none step front back splits = walk_on f b block found Q step [] front back splits none

body_none : (blocks : List BlockData) (b : ℕ) → slice_get blocks b ≡ None → body_at blocks b ≡ empty_block
body_none [] b h = refl
body_none (k ∷ blocks) zero h = cc
body_none (k ∷ blocks) (suc b) h = body_none blocks b h

pub walk_body : (f : FunctionData) (b : ℕ) (Q : List (ℕ × InstrData) → Type 0) → Q []
    → ((front : List (ℕ × InstrData)) (i : ℕ × InstrData) (back : List (ℕ × InstrData)) → IsSite f b front i back → Q front → Q (front ++ i ∷ []))
    → Q (body_at f.blocks b).instrs
walk_body f b Q none step = by (slice_get f.blocks b) refl
  where
    by : (found : Option BlockData) → slice_get f.blocks b ≡ found → Q (body_at f.blocks b).instrs
    by None so = subst (λ (k : BlockData). Q k.instrs) (sym (body_none f.blocks b so)) none
    by (Some block) so = subst (λ (k : BlockData). Q k.instrs) (sym (body_is f b block so)) (walk f b block so Q none step block.instrs [] (sym (append-nil block.instrs)))

-- a site that passes a test
pub record HasSite (f : FunctionData) (b : ℕ) (test : ℕ × InstrData → Bool) : Type 0 where
  pub front : List (ℕ × InstrData)
  pub instr : ℕ × InstrData
  pub back : List (ℕ × InstrData)
  pub site : IsSite f b front instr back
  pub passes : test instr ≡ true

record IsSplit (test : ℕ × InstrData → Bool) (is : List (ℕ × InstrData)) : Type 0 where
  front : List (ℕ × InstrData)
  instr : ℕ × InstrData
  back : List (ℕ × InstrData)
  splits : is ≡ front ++ instr ∷ back
  passes : test instr ≡ true

split_at : (test : ℕ × InstrData → Bool) (is : List (ℕ × InstrData)) → list_any test is ≡ true → IsSplit test is
split_at test [] h = cc
split_at test (i ∷ is) h =
    ⊎_elim (λ here. record { front = []; instr = i; back = is; splits = refl; passes = here })
    (λ later. let rest : IsSplit test is = split_at test is later in record { front = i ∷ rest.front; instr = rest.instr; back = rest.back; splits = ap (λ l. i ∷ l) rest.splits; passes = rest.passes })
    (or_cases (test i) (list_any test is) h)

pub site_in_body : (f : FunctionData) (b : ℕ) (test : ℕ × InstrData → Bool) → list_any test (body_at f.blocks b).instrs ≡ true → HasSite f b test
site_in_body f b test h = by (slice_get f.blocks b) refl
  where
    by : (found : Option BlockData) → slice_get f.blocks b ≡ found → HasSite f b test
    by None so = absurd (true≢false (sym (sym (ap (λ (k : BlockData). list_any test k.instrs) (body_none f.blocks b so)) ∙ h)))
    by (Some block) so =
        let split : IsSplit test block.instrs = split_at test block.instrs (sym (ap (λ (k : BlockData). list_any test k.instrs) (body_is f b block so)) ∙ h) in
        record { front = split.front; instr = split.instr; back = split.back; site = record { block = block; found = so; splits = split.splits }; passes = split.passes }

-- where an instruction of a function stands
pub record HasPlace (f : FunctionData) (i : ℕ × InstrData) : Type 0 where
  pub block : ℕ
  pub front : List (ℕ × InstrData)
  pub back : List (ℕ × InstrData)
  pub site : IsSite f block front i back

pub one_of_either : (i : ℕ × InstrData) (xs ys : List (ℕ × InstrData)) → IsOneOf i (xs ++ ys) → IsOneOf i xs ⊎ IsOneOf i ys
one_of_either i [] ys there = inr there
one_of_either i (x ∷ xs) ys there =
    ⊎_elim (λ same. inl (inl same)) (λ later. ⊎_elim (λ l. inl (inr l)) (λ l. inr l) (one_of_either i xs ys later)) there

pub split_one : (i : ℕ × InstrData) (is : List (ℕ × InstrData)) → IsOneOf i is → (front : List (ℕ × InstrData)) × (back : List (ℕ × InstrData)) × (is ≡ front ++ i ∷ back)
split_one i [] there = absurd there
split_one i (k ∷ is) there =
    ⊎_elim (λ same. ([], is, ap (λ l. l ∷ is) (sym same))) (λ later. let (front, back, splits) = split_one i is later in (k ∷ front, back, ap (λ l. k ∷ l) splits)) there

place_in : (i : ℕ × InstrData) (blocks : List BlockData) → IsOneOf i (all_instrs blocks) → (b : ℕ) × (block : BlockData) × (slice_get blocks b ≡ Some block) × IsOneOf i block.instrs
place_in i [] there = absurd there
place_in i (k ∷ blocks) there =
    ⊎_elim (λ now. (0, k, refl, now)) (λ later. let (b, block, found, own) = place_in i blocks later in (suc b, block, found, own)) (one_of_either i k.instrs (all_instrs blocks) there)

pub site_of_one : (f : FunctionData) (i : ℕ × InstrData) → IsOneOf i (all_instrs f.blocks) → HasPlace f i
site_of_one f i there =
    let (b, block, found, own) = place_in i f.blocks there in
    let (front, back, splits) = split_one i block.instrs own in
    record { block = b; front = front; back = back; site = record { block = block; found = found; splits = splits } }

-- ══ Definitions ══

pub joining_is : (flags : Flags) (o : Opcode) → is_joining (meaning_of flags o) ≡ is_phi_op o
joining_is flags op.Copy = refl
joining_is flags _ = refl

pub pure_is_no_phi : (i : InstrData) → is_pure i ≡ true → is_phi i ≡ false
pure_is_no_phi i h =
    let first : ((is_erasable i && not (is_load (access_of i.op)) && not (is_phi_op i.op)) ≡ true) × (not (copies_physical i) ≡ true) = and_parts (is_erasable i && not (is_load (access_of i.op)) && not (is_phi_op i.op)) (not (copies_physical i)) h in
    let second : ((is_erasable i && not (is_load (access_of i.op))) ≡ true) × (not (is_phi_op i.op) ≡ true) = and_parts (is_erasable i && not (is_load (access_of i.op))) (not (is_phi_op i.op)) first.0 in
    joining_is i.flags i.op ∙ not-true (is_phi_op i.op) second.1

-- an instruction that defines a register is its definition
pub purely_at : (f : FunctionData) → ((r : ℕ) → times r (definitions (all_instrs f.blocks)) ≤ 1) → (z y : ℕ) → uses_purely (definition f z) y ≡ true → (i : ℕ × InstrData) → IsOneOf i (all_instrs f.blocks) → defines z i ≡ true
    → (is_pure i.1 ≡ true) × (uses y i ≡ true)
purely_at f once z y purely i there defined = by (definition f z) refl purely
  where
    by : (found : Option (ℕ × InstrData)) → definition f z ≡ found → uses_purely found y ≡ true → (is_pure i.1 ≡ true) × (uses y i ≡ true)
    by None so h = cc
    by (Some e) so h =
        let own : IsOneOf e (all_instrs f.blocks) × (defines z e ≡ true) = found_there (defines z) (all_instrs f.blocks) e so in
        let same : e ≡ i = one_definition z (all_instrs f.blocks) (once z) e i (in_list e (all_instrs f.blocks) own.0) (in_list i (all_instrs f.blocks) there) own.1 defined in
        subst (λ (k : ℕ × InstrData). (is_pure k.1 ≡ true) × (uses y k ≡ true)) same (and_parts (is_pure e.1) (uses y e) h)

-- and so it is of what it defines
pub is_definition : (f : FunctionData) → ((r : ℕ) → times r (definitions (all_instrs f.blocks)) ≤ 1) → (z : ℕ) (i : ℕ × InstrData) → IsOneOf i (all_instrs f.blocks) → defines z i ≡ true → definition f z ≡ Some i
is_definition f once z i there defined = by (definition f z) refl
  where
    none_found : (is : List (ℕ × InstrData)) → find (defines z) is ≡ None → IsOneOf i is → ⊥
    none_found [] h inside = inside
    none_found (k ∷ is) h inside = first (defines z k) refl h (λ l. ⊎_elim (λ same. none_first same) (λ later. none_found is l later) inside)
      where
        none_first : i ≡ k → ⊥
        none_first same = absurd (first_not (defines z k) refl h (subst (λ q. defines z q ≡ true) same defined))
          where
            first_not : (t : Bool) → defines z k ≡ t → cond t (Some k) (find (defines z) is) ≡ None → defines z k ≡ true → ⊥
            first_not true so none own = cc
            first_not false so none own = true≢false (sym own ∙ so)

        first : (t : Bool) → defines z k ≡ t → cond t (Some k) (find (defines z) is) ≡ None → (find (defines z) is ≡ None → ⊥) → ⊥
        first true so none rest = cc
        first false so none rest = rest none

    by : (found : Option (ℕ × InstrData)) → definition f z ≡ found → definition f z ≡ Some i
    by None so = absurd (none_found (all_instrs f.blocks) so there)
    by (Some e) so =
        let own : IsOneOf e (all_instrs f.blocks) × (defines z e ≡ true) = found_there (defines z) (all_instrs f.blocks) e so in
        so ∙ ap (λ k. Some k) (one_definition z (all_instrs f.blocks) (once z) e i (in_list e (all_instrs f.blocks) own.0) (in_list i (all_instrs f.blocks) there) own.1 defined)

-- ══ Uses ══

none_missing : (f : FunctionData) (extents : ℕ → Extent) (site : Site) (os : List Operand) → find (λ o. not (is_there f extents site o)) os ≡ None → list_all (is_there f extents site) os ≡ true
none_missing f extents site [] h = refl
none_missing f extents site (o ∷ os) h = by (is_there f extents site o) h (λ l. none_missing f extents site os l)
  where
    by : (t : Bool) → cond (not t) (Some o) (find (λ o. not (is_there f extents site o)) os) ≡ None → (find (λ o. not (is_there f extents site o)) os ≡ None → list_all (is_there f extents site) os ≡ true)
        → (t && list_all (is_there f extents site) os) ≡ true
    by true h rest = rest h
    by false h rest = cc

use_there : (f : FunctionData) (extents : ℕ → Extent) (site : Site) (r : ℕ) (os : List Operand) → list_all (is_there f extents site) os ≡ true → list_any (is_use_of r) os ≡ true
    → behind r (extents r).origins ((extents r).starts site.block) site.before ≡ true
use_there f extents site r [] all h = cc
use_there f extents site r (operand.Use q ∷ os) all h =
    let each : (is_there f extents site (operand.Use q) ≡ true) × (list_all (is_there f extents site) os ≡ true) = and_parts (is_there f extents site (operand.Use q)) (list_all (is_there f extents site) os) all in
    ⊎_elim
    (λ here. subst (λ k. behind k (extents k).origins ((extents k).starts site.block) site.before ≡ true) (eqb-true q.0 r here) each.0)
    (λ later. use_there f extents site r os each.1 later)
    (or_cases (q.0 == r) (list_any (is_use_of r) os) h)
use_there f extents site r (o ∷ os) all h = use_there f extents site r os (and_parts (is_there f extents site o) (list_all (is_there f extents site) os) all).1 h

-- all that an instruction reads is there
pub all_there : (f : FunctionData) (great : ℕ → Extent) → IsKnown f great → (b : ℕ) (front : List (ℕ × InstrData)) (i : ℕ × InstrData) (back : List (ℕ × InstrData)) → IsSite f b front i back → is_phi i.1 ≡ false
    → list_all (is_there f great (site_of b front i back)) i.1.operands ≡ true
all_there f great k b front i back site other =
    let here : Site = site_of b front i back in
    let none : not_available f great here ≡ None = at_site f (not_available f great) k.available b site.block site.found front i back site.splits in
    let missing : missing_use f great here ≡ None = sym (ap (λ t. cond t (missing_entries f great i.1.operands) (missing_use f great here)) other) ∙ none in
    none_missing f great here i.1.operands (nothing_mapped NotAvailable (find (λ o. not (is_there f great here o)) i.1.operands) missing)

pub use_at : (f : FunctionData) (great : ℕ → Extent) → IsKnown f great → (b : ℕ) (front : List (ℕ × InstrData)) (i : ℕ × InstrData) (back : List (ℕ × InstrData)) → IsSite f b front i back → is_phi i.1 ≡ false
    → (r : ℕ) → uses r i ≡ true → is_here great b front r ≡ true
use_at f great k b front i back site other r used = use_there f great (site_of b front i back) r i.1.operands (all_there f great k b front i back site other) used

-- in front of a phi are phis alone
pub phis_before : (f : FunctionData) → told (phi_entries f) (sites f) ≡ [] → (b : ℕ) (front : List (ℕ × InstrData)) (i : ℕ × InstrData) (back : List (ℕ × InstrData)) → IsSite f b front i back → is_phi i.1 ≡ true → are_phis front ≡ true
phis_before f entries b front i back site phi =
    first (stands_first here && good) refl (sym (ap (λ t. cond (t && not (stands_first here && good)) (Some PhiEntries) None) phi) ∙ at_site f (phi_entries f) entries b site.block site.found front i back site.splits)
  where
    here : Site
    here = site_of b front i back

    good : Bool
    good = are_entries (predecessors f b) (blocks_in i.1.operands)

    first : (t : Bool) → (stands_first here && good) ≡ t → cond (true && not t) (Some PhiEntries) None ≡ None → are_phis front ≡ true
    first true so none = (and_parts (not (b == 0)) (are_phis front) (and_parts (stands_first here) good so).0).1
    first false so none = cc

-- ══ Computed from ══

over_over : (f : FunctionData) (n : ℕ) (a b c : ℕ) → IsComputedOver n f a b → IsComputedFrom f b c → IsComputedFrom f a c
over_over f zero a b c h l = record { others = suc l.others; over = (b, h, l.over) }
over_over f (suc n) a b c h l =
    let rest : IsComputedFrom f h.0 c = over_over f n h.0 b c h.2 l in record { others = suc rest.others; over = (h.0, h.1, rest.over) }

pub computed_on : (f : FunctionData) (a b c : ℕ) → IsComputedFrom f a b → IsComputedFrom f b c → IsComputedFrom f a c
computed_on f a b c h l = over_over f h.others a b c h.over l

-- the next register on the way
record HasNext (f : FunctionData) (z d : ℕ) : Type 0 where
  next : ℕ
  used : uses_purely (definition f z) next ≡ true
  rest : IsComputedFrom f next d

next_of : (f : FunctionData) (d : ℕ) → IsComputedFrom f d d → (z : ℕ) → IsComputedFrom f z d → HasNext f z d
next_of f d loop z c = by c.others c.over
  where
    by : (n : ℕ) → IsComputedOver n f z d → HasNext f z d
    by zero h = record { next = d; used = h; rest = loop }
    by (suc n) h = record { next = h.0; used = h.1; rest = record { others = n; over = h.2 } }

-- ══ No circle ══

abbrev NoneHere : (f : FunctionData) → (great : ℕ → Extent) → (d b : ℕ) → List (ℕ × InstrData) → Type 0
NoneHere f great d b front = (z : ℕ) → IsComputedFrom f z d → is_here great b front z ≡ false

none_step : (f : FunctionData) (great : ℕ → Extent) → IsKnown f great → (d : ℕ) → IsComputedFrom f d d → (b : ℕ) (front : List (ℕ × InstrData)) (i : ℕ × InstrData) (back : List (ℕ × InstrData)) → IsSite f b front i back
    → NoneHere f great d b front → NoneHere f great d b (front ++ i ∷ [])
none_step f great k d loop b front i back site none z c =
    false_from_ne_true (is_here great b (front ++ i ∷ []) z) (λ h. by (came_by z (great z).origins ((great z).starts b) front i (phis_before f k.entries b front i back site) h))
  where
    by : CameBy z (great z).origins ((great z).starts b) front i → ⊥
    by (ByDefinition defined) =
        let next : HasNext f z d = next_of f d loop z c in
        let own : (is_pure i.1 ≡ true) × (uses next.next i ≡ true) = purely_at f k.once z next.next next.used i (site_inside f b front i back site) defined in
        true≢false (sym (use_at f great k b front i back site (pure_is_no_phi i.1 own.0) next.next own.1) ∙ none next.next next.rest)
    by (ByStaying there kept) = true≢false (sym there ∙ none z c)
    by (ByPhi phi defined phis there) = true≢false (sym there ∙ none z c)

none_at_start : (f : FunctionData) (great : ℕ → Extent) (d b : ℕ) → ((z : ℕ) → IsComputedFrom f z d → (great z).starts b ≡ false) → NoneHere f great d b []
none_at_start f great d b none z c = ap (λ t. false || (t && true)) (none z c)

none_reached : (f : FunctionData) (great : ℕ → Extent) → IsKnown f great → (d : ℕ) → IsComputedFrom f d d → (n b : ℕ) → IsReachedIn n f b → (z : ℕ) → IsComputedFrom f z d → (great z).starts b ≡ false
none_reached f great k d loop zero b path z c = subst (λ a. (great z).starts a ≡ false) (sym path) (k.greatest z).contained.first
none_reached f great k d loop (suc n) b path z c =
    false_from_ne_true ((great z).starts b) (λ h.
    let ends : at_end f z (great z) path.0 ≡ true = (k.greatest z).contained.joined path.0 b (record { steps = n; path = path.1 }) path.2 h in
    let none : NoneHere f great d path.0 (body_at f.blocks path.0).instrs =
    walk_body f path.0 (NoneHere f great d path.0) (none_at_start f great d path.0 (none_reached f great k d loop n path.0 path.1)) (none_step f great k d loop path.0) in
    true≢false (sym ends ∙ none z c))

none_starts : (f : FunctionData) (great : ℕ → Extent) → IsKnown f great → (d : ℕ) → IsComputedFrom f d d → (b z : ℕ) → IsComputedFrom f z d → (great z).starts b ≡ false
none_starts f great k d loop b z c =
    false_from_ne_true ((great z).starts b) (λ h.
    let reach : IsDefinedInReach f z = (k.greatest z).contained.apart b (λ reached. true≢false (sym h ∙ none_reached f great k d loop reached.steps b reached.path z c)) h in
    let own : HasSite f reach.block (defines z) = site_in_body f reach.block (defines z) reach.defined in
    let next : HasNext f z d = next_of f d loop z c in
    let used : (is_pure own.instr.1 ≡ true) × (uses next.next own.instr ≡ true) = purely_at f k.once z next.next next.used own.instr (site_inside f reach.block own.front own.instr own.back own.site) own.passes in
    let none : NoneHere f great d reach.block own.front =
    walk f reach.block own.site.block own.site.found (NoneHere f great d reach.block) (none_at_start f great d reach.block (none_reached f great k d loop reach.reached.steps reach.block reach.reached.path)) (none_step f great k d loop reach.block)
    own.front (own.instr ∷ own.back) own.site.splits in
    true≢false (sym (use_at f great k reach.block own.front own.instr own.back own.site (pure_is_no_phi own.instr.1 used.0) next.next used.1) ∙ none next.next next.rest))

-- what is computed from a register that is computed from itself is nowhere available
pub none_in_circle : (f : FunctionData) (great : ℕ → Extent) → IsKnown f great → (d : ℕ) → IsComputedFrom f d d → (b : ℕ) (block : BlockData) → slice_get f.blocks b ≡ Some block
    → (front back : List (ℕ × InstrData)) → block.instrs ≡ front ++ back → (z : ℕ) → IsComputedFrom f z d → is_here great b front z ≡ false
none_in_circle f great k d loop b block found front back splits =
    walk f b block found (NoneHere f great d b) (none_at_start f great d b (none_starts f great k d loop b)) (none_step f great k d loop b) front back splits
