-- What is known of a valid function.
use Rattle.std.proofs.Common.{◌≡◌, ℕ, Bool, true, false, cond, not, ◌&&◌, ◌==◌, List, [], ◌∷◌, ◌++◌, find, Option, Some, None, option_map, slice_get, ⊎_elim, refl, sym, ap, ap₂, ◌∙◌, subst, true≢false}
use Rattle.std.proofs.lemmas.Bool.{or_cases, and_parts, eqb-true}
use Rattle.std.specs.List.{list_any, list_all}
use Rattle.gi_mir.specs.Data.{InstrData, BlockData, FunctionData}
use Rattle.gi_mir.specs.Edit.{is_use_of, uses}
use Rattle.gi_mir.specs.declared.operand.Operand.{Operand}
use Rattle.gi_mir.specs.declared.operand.Operand.TheVariants as operand
use Rattle.gi_meaning.specs.Runs.{is_phi, phis_of, after_phis}
use Rattle.gi_valid.specs.Available.{predecessors, Extent, behind, IsAvailable}
use Rattle.gi_valid.specs.Faults.{with_fault, Site, sites, told, blocks_in, is_there, missing_use, missing_entries, not_available, double_definitions, type_mismatch, unknown_block, unknown_successors, are_entries, stands_first, phi_entries, physical_across, terminator, others_in, fault_in, faults}
use Rattle.gi_valid.specs.Typing.{Phase}
use Rattle.gi_valid.specs.Valid.{IsValid}
use Rattle.gi_valid.specs.declared.invalid.Invalid.TheVariants.{NotAvailable, PhiEntries}
use Rattle.gi_valid.proofs.Defining.{IsOrderly}
use Rattle.gi_valid.proofs.Single.{defined_once}
use Rattle.gi_valid.proofs.Sited.{nothing_in_either, nothing_in_front, neither, site_of, at_site, splits_whole}
use Rattle.gi_valid.specs.declared.invalid.Fault.{Fault}
use Rattle.gi_valid.specs.declared.invalid.Invalid.{Invalid}
use Rattle.std.specs.Option.{option_or}

-- nothing is at fault
pub record AreMissing (x : ℕ) (phase : Phase) (f : FunctionData) (extents : ℕ → Extent) : Type 0 where
  pub double : double_definitions f ≡ []
  pub sites : told (fault_in x phase f extents) (sites f) ≡ []
  pub successors : unknown_successors f 1 f.blocks ≡ []

pub missing : (x : ℕ) (phase : Phase) (f : FunctionData) (extents : ℕ → Extent) → faults x phase f extents ≡ [] → AreMissing x phase f extents
missing x phase f extents h =
    let a : List Fault = double_definitions f in
    let b : List Fault = told (fault_in x phase f extents) (sites f) in
    let c : List Fault = unknown_successors f 1 f.blocks in
    let front : ((a ++ b) ≡ []) × (c ≡ []) = nothing_in_either (a ++ b) c h in
    let first : (a ≡ []) × (b ≡ []) = nothing_in_either a b front.0 in
    record { double = first.0; sites = first.1; successors = front.1 }

-- of a site nothing of any kind
pub record HasNothing (x : ℕ) (phase : Phase) (f : FunctionData) (extents : ℕ → Extent) (site : Site) : Type 0 where
  pub unavailable : not_available f extents site ≡ None
  pub others : others_in x phase f site ≡ None
  pub entries : phi_entries f site ≡ None
  pub ends : terminator f site ≡ None

pub nothing : (x : ℕ) (phase : Phase) (f : FunctionData) (extents : ℕ → Extent) (site : Site) → fault_in x phase f extents site ≡ None → HasNothing x phase f extents site
nothing x phase f extents site h =
    let a : (not_available f extents site ≡ None) × (others_in x phase f site ≡ None) = neither (not_available f extents site) (others_in x phase f site) h in
    let b : Option Invalid = option_or (phi_entries f site) (option_or (physical_across x phase f site) (terminator f site)) in
    let c : (type_mismatch x phase f site ≡ None) × (option_or (unknown_block f site) b ≡ None) = neither (type_mismatch x phase f site) (option_or (unknown_block f site) b) a.1 in
    let d : (unknown_block f site ≡ None) × (b ≡ None) = neither (unknown_block f site) b c.1 in
    let e : (phi_entries f site ≡ None) × (option_or (physical_across x phase f site) (terminator f site) ≡ None) = neither (phi_entries f site) (option_or (physical_across x phase f site) (terminator f site)) d.1 in
    let g : (physical_across x phase f site ≡ None) × (terminator f site ≡ None) = neither (physical_across x phase f site) (terminator f site) e.1 in
    record { unavailable = a.0; others = a.1; entries = e.0; ends = g.1 }

-- where nothing is told of sites, no less is told by a part of it
fewer_told : (g h : Site → Option Invalid) → ((site : Site) → g site ≡ None → h site ≡ None) → (sites : List Site) → told g sites ≡ [] → told h sites ≡ []
fewer_told g h less [] none = refl
fewer_told g h less (site ∷ sites) none =
    let each : (g site ≡ None) × (told g sites ≡ []) = nothing_in_front site.instr.line (g site) (told g sites) none in
    ap₂ (with_fault site.instr.line) (less site each.0) (fewer_told g h less sites each.1)

pub orderly : (x : ℕ) (phase : Phase) (f : FunctionData) → IsValid x phase f → IsOrderly f
orderly x phase f valid =
    let none : AreMissing x phase f valid.extents = missing x phase f valid.extents valid.faultless in
    record { once = defined_once f none.double; ends = fewer_told (fault_in x phase f valid.extents) (terminator f) (λ site h. (nothing x phase f valid.extents site h).ends) (sites f) none.sites }

-- ══ A use ══

-- behind the phis of a block stands none first
first_other : (is : List (ℕ × InstrData)) (j : ℕ × InstrData) (rest : List (ℕ × InstrData)) → after_phis is ≡ j ∷ rest → is_phi j.1 ≡ false
first_other [] j rest h = cc
first_other (i ∷ is) j rest h = by (is_phi i.1) refl h (λ l. first_other is j rest l)
  where
    by : (t : Bool) → is_phi i.1 ≡ t → cond t (after_phis is) (i ∷ is) ≡ j ∷ rest → (after_phis is ≡ j ∷ rest → is_phi j.1 ≡ false) → is_phi j.1 ≡ false
    by true so h later = later h
    by false so h later = let same : i ≡ j = cc in subst (λ (k : ℕ × InstrData). is_phi k.1 ≡ false) same so

all_of_second : (p : (ℕ × InstrData) → Bool) (xs ys : List (ℕ × InstrData)) → list_all p (xs ++ ys) ≡ true → list_all p ys ≡ true
all_of_second p [] ys h = h
all_of_second p (x ∷ xs) ys h = all_of_second p xs ys (and_parts (p x) (list_all p (xs ++ ys)) h).1

front_phi : (is before : List (ℕ × InstrData)) (i : ℕ × InstrData) (after : List (ℕ × InstrData)) → after_phis is ≡ before ++ i ∷ after → list_all (λ p. is_phi p.1) before ≡ true → is_phi i.1 ≡ true → ⊥
front_phi is [] i after splits all phi = true≢false (sym phi ∙ first_other is i after splits)
front_phi is (j ∷ before) i after splits all phi =
    true≢false (sym (and_parts (is_phi j.1) (list_all (λ p. is_phi p.1) before) all).0 ∙ first_other is j (before ++ i ∷ after) splits)

no_phi_there : (f : FunctionData) (b : ℕ) (block : BlockData) (before : List (ℕ × InstrData)) (i : ℕ × InstrData) (after : List (ℕ × InstrData)) → after_phis block.instrs ≡ before ++ i ∷ after
    → phi_entries f (site_of b (phis_of block.instrs ++ before) i after) ≡ None → is_phi i.1 ≡ false
no_phi_there f b block before i after splits none = by (is_phi i.1) refl none
  where
    site : Site
    site = site_of b (phis_of block.instrs ++ before) i after

    good : Bool
    good = are_entries (predecessors f b) (blocks_in i.1.operands)

    by : (t : Bool) → is_phi i.1 ≡ t → cond (t && not (stands_first site && good)) (Some PhiEntries) None ≡ None → is_phi i.1 ≡ false
    by false so none = so
    by true so none = absurd (front_phi block.instrs before i after splits (all_of_second (λ p. is_phi p.1) (phis_of block.instrs) before (first (stands_first site && good) refl none)) so)
      where
        first : (t : Bool) → (stands_first site && good) ≡ t → cond (not t) (Some PhiEntries) None ≡ None → list_all (λ p. is_phi p.1) (phis_of block.instrs ++ before) ≡ true
        first true is none = (and_parts (not (b == 0)) (list_all (λ p. is_phi p.1) (phis_of block.instrs ++ before)) (and_parts (stands_first site) good is).0).1
        first false is none = cc

none_missing : (f : FunctionData) (extents : ℕ → Extent) (site : Site) (os : List Operand) → find (λ o. not (is_there f extents site o)) os ≡ None → list_all (is_there f extents site) os ≡ true
none_missing f extents site [] h = refl
none_missing f extents site (o ∷ os) h = by (is_there f extents site o) h (λ l. none_missing f extents site os l)
  where
    by : (t : Bool) → cond (not t) (Some o) (find (λ o. not (is_there f extents site o)) os) ≡ None → (find (λ o. not (is_there f extents site o)) os ≡ None → list_all (is_there f extents site) os ≡ true)
        → (t && list_all (is_there f extents site) os) ≡ true
    by true h rest = rest h
    by false h rest = cc

pub nothing_mapped : {A B : Type 0} (g : A → B) (o : Option A) → option_map g o ≡ None → o ≡ None
nothing_mapped g None h = refl
nothing_mapped g (Some a) h = cc

use_there : (f : FunctionData) (extents : ℕ → Extent) (site : Site) (r : ℕ) (os : List Operand) → list_all (is_there f extents site) os ≡ true → list_any (is_use_of r) os ≡ true
    → behind r (extents r).origins ((extents r).starts site.block) site.before ≡ true
use_there f extents site r [] all h = cc
use_there f extents site r (operand.Use q ∷ os) all h =
    let each : (is_there f extents site (operand.Use q) ≡ true) × (list_all (is_there f extents site) os ≡ true) = and_parts (is_there f extents site (operand.Use q)) (list_all (is_there f extents site) os) all in
    ⊎_elim
    (λ here. subst (λ k. behind k (extents k).origins ((extents k).starts site.block) site.before ≡ true) (eqb-true q.0 r here) each.0)
    (λ later. use_there f extents site r os each.1 later)
    (or_cases (q.0 == r) (list_any (is_use_of r) os) h)
use_there f extents site r (o ∷ os) all h = use_there f extents site r os (and_parts (is_there f extents site o) (list_all (is_there f extents site) os) all).1 h

pub use_available : (x : ℕ) (phase : Phase) (f : FunctionData) → IsValid x phase f → (b : ℕ) (block : BlockData) (before : List (ℕ × InstrData)) (i : ℕ × InstrData) (after : List (ℕ × InstrData))
    → slice_get f.blocks b ≡ Some block → after_phis block.instrs ≡ before ++ i ∷ after → (r : ℕ) → uses r i ≡ true → IsAvailable f b (phis_of block.instrs ++ before) r
use_available x phase f valid b block before i after found splits r used =
    let none : AreMissing x phase f valid.extents = missing x phase f valid.extents valid.faultless in
    let front : List (ℕ × InstrData) = phis_of block.instrs ++ before in
    let whole : block.instrs ≡ front ++ i ∷ after = splits_whole block.instrs before i after splits in
    let site : Site = site_of b front i after in
    let here : HasNothing x phase f valid.extents site = nothing x phase f valid.extents site (at_site f (fault_in x phase f valid.extents) none.sites b block found front i after whole) in
    let other : is_phi i.1 ≡ false = no_phi_there f b block before i after splits here.entries in
    let use_missing : missing_use f valid.extents site ≡ None =
    sym (ap (λ t. cond t (missing_entries f valid.extents i.1.operands) (missing_use f valid.extents site)) other) ∙ here.unavailable in
    record {
      extent = valid.extents r;
      contained = valid.contained r;
      holds = use_there f valid.extents site r i.1.operands (none_missing f valid.extents site i.1.operands (nothing_mapped NotAvailable (find (λ o. not (is_there f valid.extents site o)) i.1.operands) use_missing)) used;
    }
