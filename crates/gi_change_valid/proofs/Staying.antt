-- Where a register is available, each that it is computed from is.
use Rattle.std.proofs.Common.{◌≡◌, ℕ, zero, suc, ◌<◌, Bool, true, false, cond, ◌&&◌, ◌||◌, ◌==◌, List, [], ◌∷◌, ◌++◌, Some, length, slice_get, ◌⊎◌, inl, inr, ⊎_elim, refl, sym, ap, ap₂, ◌∙◌, subst, arith, true≢false, nat_lt, ltb-true, lt-ltb, append-nil}
use Rattle.std.proofs.lemmas.Bool.{or_cases, or_left, or_right, and_parts, eq-eqb, eqb-true, false_from_ne_true, and_from}
use Rattle.std.specs.List.{list_any}
use Rattle.gi_mir.specs.Data.{InstrData, BlockData, FunctionData}
use Rattle.gi_mir.specs.Edit.{all_instrs, is_def_of, defines, uses}
use Rattle.gi_mir.specs.Places.{body_at}
use Rattle.gi_mir.specs.declared.operand.Operand.{Operand}
use Rattle.gi_mir.specs.declared.operand.Operand.TheVariants as operand
use Rattle.gi_meaning.specs.Runs.{is_phi, phis_of, after_phis}
use Rattle.gi_valid.specs.Available.{IsReachedIn, IsReachedBlock, Extent, is_origin, defines_origin, at_once, behind, at_end, IsDefinedInReach, IsExtent}
use Rattle.gi_valid.specs.Definitions.{is_pure, definition, uses_purely, IsComputedOver, IsComputedFrom}
use Rattle.gi_valid.proofs.Greatest.{more_behind}
use Rattle.gi_valid.proofs.Walking.{body_is}
use Rattle.gi_change_valid.specs.Rewriting.{IsOneOf}
use Rattle.gi_change_valid.proofs.Circles.{IsKnown, is_here, walk, walk_body, HasSite, site_in_body, pure_is_no_phi, purely_at, is_definition, use_at, phis_before, computed_on, none_in_circle}
use Rattle.gi_change_valid.proofs.Sites.{IsSite, site_inside, front_inside}
use Rattle.gi_change_valid.proofs.Stepwise.{are_phis, CameBy, ByDefinition, ByStaying, ByPhi, came_by, stays_behind, defined_or_there}

-- ══ What an instruction takes away ══

-- the register that an instruction defines and takes others away with
pub record TakesWith (origins : ℕ → Bool) (p : ℕ × InstrData) : Type 0 where
  pub register : ℕ
  pub defined : defines register p ≡ true
  pub origin : origins register ≡ true

def_first : (r : ℕ) (os : List Operand) → ((r == r) || list_any (is_def_of r) os) ≡ true
def_first r os = or_left (r == r) (list_any (is_def_of r) os) (eq-eqb r r refl)

origin_among : (origins : ℕ → Bool) (os : List Operand) → list_any (is_origin origins) os ≡ true → (r : ℕ) × (list_any (is_def_of r) os ≡ true) × (origins r ≡ true)
origin_among origins [] h = cc
origin_among origins (operand.Def r kind ∷ os) h =
    ⊎_elim (λ here. (r.0, def_first r.0 os, here))
    (λ later. let (q, defined, origin) = origin_among origins os later in (q, or_right (r.0 == q) (list_any (is_def_of q) os) defined, origin))
    (or_cases (origins r.0) (list_any (is_origin origins) os) h)
origin_among origins (_ ∷ os) h = origin_among origins os h

pub takes_with : (origins : ℕ → Bool) (p : ℕ × InstrData) → defines_origin origins p ≡ true → TakesWith origins p
takes_with origins p h = let (r, defined, origin) = origin_among origins p.1.operands h in record { register = r; defined = defined; origin = origin }

origin_there : (origins : ℕ → Bool) (r : ℕ) (os : List Operand) → list_any (is_def_of r) os ≡ true → origins r ≡ true → list_any (is_origin origins) os ≡ true
origin_there origins r [] h o = cc
origin_there origins r (operand.Def q kind ∷ os) h o =
    ⊎_elim (λ here. or_left (origins q.0) (list_any (is_origin origins) os) (subst (λ k. origins k ≡ true) (sym (eqb-true q.0 r here)) o))
    (λ later. or_right (origins q.0) (list_any (is_origin origins) os) (origin_there origins r os later o)) (or_cases (q.0 == r) (list_any (is_def_of r) os) h)
origin_there origins r (_ ∷ os) h o = origin_there origins r os h o

pub takes_origin : (origins : ℕ → Bool) (r : ℕ) (p : ℕ × InstrData) → defines r p ≡ true → origins r ≡ true → defines_origin origins p ≡ true
takes_origin origins r p defined o = origin_there origins r p.1.operands defined o

pub takes_none : (origins : ℕ → Bool) (p : ℕ × InstrData) → ((r : ℕ) → defines r p ≡ true → origins r ≡ true → ⊥) → defines_origin origins p ≡ false
takes_none origins p none = false_from_ne_true (defines_origin origins p) (λ h. let one : TakesWith origins p = takes_with origins p h in none one.register one.defined one.origin)

-- ══ Defined in reach ══

behind_defined : (r : ℕ) (origins : ℕ → Bool) (here : Bool) (front : List (ℕ × InstrData)) → behind r origins here front ≡ true → (list_any (defines r) front ≡ true) ⊎ (here ≡ true)
behind_defined r origins here front h =
    ⊎_elim (λ later. inl (in_others front later)) (λ now. ⊎_elim (λ d. inl (in_phis front d)) (λ k. inr (and_parts here _ k).0) (or_cases (list_any (defines r) (phis_of front)) (here && _) now))
    (defined_or_there r origins (at_once r origins here (phis_of front)) (after_phis front) h)
  where
    in_phis : (is : List (ℕ × InstrData)) → list_any (defines r) (phis_of is) ≡ true → list_any (defines r) is ≡ true
    in_phis [] d = d
    in_phis (i ∷ is) d = by (is_phi i.1) d (λ l. in_phis is l)
      where
        by : (t : Bool) → list_any (defines r) (cond t (i ∷ phis_of is) []) ≡ true → (list_any (defines r) (phis_of is) ≡ true → list_any (defines r) is ≡ true) → (defines r i || list_any (defines r) is) ≡ true
        by true d rest = ⊎_elim (λ now. or_left (defines r i) (list_any (defines r) is) now) (λ later. or_right (defines r i) (list_any (defines r) is) (rest later)) (or_cases (defines r i) (list_any (defines r) (phis_of is)) d)
        by false d rest = cc

    in_others : (is : List (ℕ × InstrData)) → list_any (defines r) (after_phis is) ≡ true → list_any (defines r) is ≡ true
    in_others [] d = d
    in_others (i ∷ is) d = by (is_phi i.1) d (λ l. in_others is l)
      where
        by : (t : Bool) → list_any (defines r) (cond t (after_phis is) (i ∷ is)) ≡ true → (list_any (defines r) (after_phis is) ≡ true → list_any (defines r) is ≡ true) → (defines r i || list_any (defines r) is) ≡ true
        by true d rest = or_right (defines r i) (list_any (defines r) is) (rest d)
        by false d rest = d

starts_in_reach : (f : FunctionData) (r : ℕ) (extent : Extent) → IsExtent f r extent → (n b : ℕ) → IsReachedIn n f b → extent.starts b ≡ true → IsDefinedInReach f r
starts_in_reach f r extent contained zero b path h = absurd (true≢false (sym h ∙ subst (λ a. extent.starts a ≡ false) (sym path) contained.first))
starts_in_reach f r extent contained (suc n) b path h =
    let reached : IsReachedBlock f path.0 = record { steps = n; path = path.1 } in
    ⊎_elim (λ d. record { block = path.0; reached = reached; defined = d }) (λ s. starts_in_reach f r extent contained n path.0 path.1 s)
    (behind_defined r extent.origins (extent.starts path.0) (body_at f.blocks path.0).instrs (contained.joined path.0 b reached path.2 h))

list_front : (test : ℕ × InstrData → Bool) (front back : List (ℕ × InstrData)) → list_any test front ≡ true → list_any test (front ++ back) ≡ true
list_front test [] back h = cc
list_front test (i ∷ front) back h =
    ⊎_elim (λ now. or_left (test i) (list_any test (front ++ back)) now) (λ later. or_right (test i) (list_any test (front ++ back)) (list_front test front back later)) (or_cases (test i) (list_any test front) h)

-- one that is available in a reached block is defined in a reached block
pub here_in_reach : (f : FunctionData) (great : ℕ → Extent) → IsKnown f great → (b : ℕ) → IsReachedBlock f b → (front : List (ℕ × InstrData)) (i : ℕ × InstrData) (back : List (ℕ × InstrData)) → IsSite f b front i back → (r : ℕ) → is_here great b front r ≡ true
    → IsDefinedInReach f r
here_in_reach f great k b reached front i back site r h =
    ⊎_elim
    (λ d. record {
      block = b;
      reached = reached;
      defined = subst (λ (c : BlockData). list_any (defines r) c.instrs ≡ true) (sym (body_is f b site.block site.found)) (subst (λ l. list_any (defines r) l ≡ true) (sym site.splits) (list_front (defines r) front (i ∷ back) d));
    })
    (λ s. starts_in_reach f r (great r) (k.greatest r).contained reached.steps b reached.path s)
    (behind_defined r (great r).origins ((great r).starts b) front h)

-- ══ One step ══

-- sets of y that hold where it is available, and where d is
abbrev joint : (great : ℕ → Extent) → (d y : ℕ) → Extent
joint great d y = record { origins = (great y).origins; starts = λ b. (great y).starts b || (great d).starts b }

abbrev Follows : (great : ℕ → Extent) → (d y b : ℕ) → List (ℕ × InstrData) → Type 0
Follows great d y b front = is_here great b front d ≡ true → behind y (great y).origins ((great y).starts b || (great d).starts b) front ≡ true

more_here : (great : ℕ → Extent) (d y b : ℕ) (front : List (ℕ × InstrData)) → is_here great b front y ≡ true → behind y (great y).origins ((great y).starts b || (great d).starts b) front ≡ true
more_here great d y b front h = more_behind y (great y).origins (great y).origins (λ x o. o) ((great y).starts b) ((great y).starts b || (great d).starts b) (λ s. or_left ((great y).starts b) ((great d).starts b) s) front h

-- a phi among some that defines a register
record HasPhi (d : ℕ) (front : List (ℕ × InstrData)) : Type 0 where
  phi : ℕ × InstrData
  among : IsOneOf phi front
  own : defines d phi ≡ true
  joins : is_phi phi.1 ≡ true

phi_in : (d : ℕ) (is : List (ℕ × InstrData)) → are_phis is ≡ true → list_any (defines d) is ≡ true → HasPhi d is
phi_in d [] all some = cc
phi_in d (i ∷ is) all some =
    let each : (is_phi i.1 ≡ true) × (are_phis is ≡ true) = and_parts (is_phi i.1) (are_phis is) all in
    ⊎_elim (λ now. record { phi = i; among = inl refl; own = now; joins = each.0 })
    (λ later. let rest : HasPhi d is = phi_in d is each.1 later in record { phi = rest.phi; among = inr rest.among; own = rest.own; joins = rest.joins })
    (or_cases (defines d i) (list_any (defines d) is) some)

follow_step : (f : FunctionData) (great : ℕ → Extent) → IsKnown f great → (d y : ℕ) → uses_purely (definition f d) y ≡ true → (b : ℕ) (front : List (ℕ × InstrData)) (i : ℕ × InstrData) (back : List (ℕ × InstrData)) → IsSite f b front i back
    → Follows great d y b front → Follows great d y b (front ++ i ∷ [])
follow_step f great k d y purely b front i back site follows h = by (came_by d (great d).origins ((great d).starts b) front i first h)
  where
    first : is_phi i.1 ≡ true → are_phis front ≡ true
    first phi = phis_before f k.entries b front i back site phi

    inside : IsOneOf i (all_instrs f.blocks)
    inside = site_inside f b front i back site

    direct : IsComputedFrom f d y
    direct = record { others = 0; over = purely }

    by : CameBy d (great d).origins ((great d).starts b) front i → behind y (great y).origins ((great y).starts b || (great d).starts b) (front ++ i ∷ []) ≡ true
    by (ByDefinition defined) =
        let own : (is_pure i.1 ≡ true) × (uses y i ≡ true) = purely_at f k.once d y purely i inside defined in
        let here : is_here great b front y ≡ true = use_at f great k b front i back site (pure_is_no_phi i.1 own.0) y own.1 in
        stays_behind y (great y).origins ((great y).starts b || (great d).starts b) front i first (more_here great d y b front here)
        (takes_none (great y).origins i (λ e e_defined origin.
        let back_to : IsComputedFrom f y e = (k.greatest y).alone e origin in
        let purely_e : uses_purely (definition f e) y ≡ true = ap (λ o. uses_purely o y) (is_definition f k.once e i inside e_defined) ∙ and_from (is_pure i.1) (uses y i) own.0 own.1 in
        let on : IsComputedFrom f e y = record { others = 0; over = purely_e } in
        true≢false (sym here ∙ none_in_circle f great k e (computed_on f e y e on back_to) b site.block site.found front (i ∷ back) site.splits y back_to)))
    by (ByStaying there kept) =
        stays_behind y (great y).origins ((great y).starts b || (great d).starts b) front i first (follows there)
        (takes_none (great y).origins i (λ e defined origin.
        true≢false (sym (takes_origin (great d).origins e i defined ((k.greatest d).contained.computed e (computed_on f d y e direct ((k.greatest y).alone e origin)))) ∙ kept)))
    by (ByPhi phi defined phis there) =
        let one : HasPhi d front = phi_in d front phis defined in
        let own : (is_pure one.phi.1 ≡ true) × (uses y one.phi ≡ true) = purely_at f k.once d y purely one.phi (front_inside f b front i back site one.phi one.among) one.own in
        absurd (true≢false (sym one.joins ∙ pure_is_no_phi one.phi.1 own.0))

-- the sets hold as asked
joint_holds : (f : FunctionData) (great : ℕ → Extent) → IsKnown f great → (d y : ℕ) → uses_purely (definition f d) y ≡ true → IsExtent f y (joint great d y)
joint_holds f great k d y purely = record {
  computed = own.computed;
  first = ap₂ (λ s t. s || t) own.first (k.greatest d).contained.first;
  joined = λ a b reached among h.
      ⊎_elim (λ s. more_here great d y a (body_at f.blocks a).instrs (own.joined a b reached among s))
      (λ s. walk_body f a (Follows great d y a) (λ there. at_start a there) (follow_step f great k d y purely a) ((k.greatest d).contained.joined a b reached among s))
      (or_cases ((great y).starts b) ((great d).starts b) h);
  apart = λ b unreached h.
      ⊎_elim (λ s. own.apart b unreached s) (λ s. through ((k.greatest d).contained.apart b unreached s)) (or_cases ((great y).starts b) ((great d).starts b) h);
}
  where
    own : IsExtent f y (great y)
    own = (k.greatest y).contained

    start_of : (t : Bool) → (false || (t && true)) ≡ true → t ≡ true
    start_of true h = refl
    start_of false h = cc

    of_start : (t : Bool) → t ≡ true → (false || (t && true)) ≡ true
    of_start t h = ap (λ u. false || (u && true)) h

    at_start : (a : ℕ) → is_here great a [] d ≡ true → behind y (great y).origins ((great y).starts a || (great d).starts a) [] ≡ true
    at_start a there = of_start ((great y).starts a || (great d).starts a) (or_right ((great y).starts a) ((great d).starts a) (start_of ((great d).starts a) there))

    through : IsDefinedInReach f d → IsDefinedInReach f y
    through reach =
        let one : HasSite f reach.block (defines d) = site_in_body f reach.block (defines d) reach.defined in
        let used : (is_pure one.instr.1 ≡ true) × (uses y one.instr ≡ true) = purely_at f k.once d y purely one.instr (site_inside f reach.block one.front one.instr one.back one.site) one.passes in
        here_in_reach f great k reach.block reach.reached one.front one.instr one.back one.site y (use_at f great k reach.block one.front one.instr one.back one.site (pure_is_no_phi one.instr.1 used.0) y used.1)

start_of : (t : Bool) → (false || (t && true)) ≡ true → t ≡ true
start_of true h = refl
start_of false h = cc

follows_at : (f : FunctionData) (great : ℕ → Extent) → IsKnown f great → (d y : ℕ) → uses_purely (definition f d) y ≡ true → (b : ℕ) (block : BlockData) → slice_get f.blocks b ≡ Some block
    → (front back : List (ℕ × InstrData)) → block.instrs ≡ front ++ back → is_here great b front d ≡ true → is_here great b front y ≡ true
follows_at f great k d y purely b block found front back splits h =
    more_behind y (great y).origins (great y).origins (λ x o. o) ((great y).starts b || (great d).starts b) ((great y).starts b)
    (λ s. (k.greatest y).greatest (joint great d y) (joint_holds f great k d y purely) b (within f.blocks b block found) s) front
    (walk f b block found (Follows great d y b) (λ there. ap (λ u. false || (u && true)) (or_right ((great y).starts b) ((great d).starts b) (start_of ((great d).starts b) there))) (follow_step f great k d y purely b) front back splits h)
  where
    within : (blocks : List BlockData) (b : ℕ) (block : BlockData) → slice_get blocks b ≡ Some block → b < length blocks
    within [] b block h = cc
    within (c ∷ blocks) zero block h = omega arith
    within (c ∷ blocks) (suc b) block h = let less : b < length blocks = within blocks b block h in omega (arith, less)

over_at : (f : FunctionData) (great : ℕ → Extent) → IsKnown f great → (n d y : ℕ) → IsComputedOver n f d y → (b : ℕ) (block : BlockData) → slice_get f.blocks b ≡ Some block
    → (front back : List (ℕ × InstrData)) → block.instrs ≡ front ++ back → is_here great b front d ≡ true → is_here great b front y ≡ true
over_at f great k zero d y c b block found front back splits h = follows_at f great k d y c b block found front back splits h
over_at f great k (suc n) d y c b block found front back splits h =
    over_at f great k n c.0 y c.2 b block found front back splits (follows_at f great k d c.0 c.1 b block found front back splits h)

-- where a register is available, each that it is computed from is
pub origin_here : (f : FunctionData) (great : ℕ → Extent) → IsKnown f great → (d y : ℕ) → IsComputedFrom f d y → (b : ℕ) (block : BlockData) → slice_get f.blocks b ≡ Some block
    → (front back : List (ℕ × InstrData)) → block.instrs ≡ front ++ back → is_here great b front d ≡ true → is_here great b front y ≡ true
origin_here f great k d y c b block found front back splits h = over_at f great k c.others d y c.over b block found front back splits h

-- the same at the end of a block
pub origin_at_end : (f : FunctionData) (great : ℕ → Extent) → IsKnown f great → (d y : ℕ) → IsComputedFrom f d y → (b : ℕ) → nat_lt b (length f.blocks) ≡ true → at_end f d (great d) b ≡ true → at_end f y (great y) b ≡ true
origin_at_end f great k d y c b within h =
    let (block, found) = there f.blocks b within in
    subst (λ (body : BlockData). is_here great b body.instrs y ≡ true) (sym (body_is f b block found))
    (origin_here f great k d y c b block found block.instrs [] (sym (append-nil block.instrs)) (subst (λ (body : BlockData). is_here great b body.instrs d ≡ true) (body_is f b block found) h))
  where
    there : (blocks : List BlockData) (b : ℕ) → nat_lt b (length blocks) ≡ true → (block : BlockData) × (slice_get blocks b ≡ Some block)
    there [] b h = absurd (none b h)
      where
        none : (b : ℕ) → nat_lt b 0 ≡ true → ⊥
        none b h = let less : b < 0 = ltb-true b 0 h in omega (arith, less)
    there (k ∷ blocks) zero h = (k, refl)
    there (k ∷ blocks) (suc b) h =
        let less : suc b < suc (length blocks) = ltb-true (suc b) (suc (length blocks)) h in there blocks b (lt-ltb b (length blocks) (omega (arith, less)))
