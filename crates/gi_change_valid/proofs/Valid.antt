-- A rewriting that meets what is asked keeps a valid function valid.
use Rattle.std.proofs.Common.{◌≡◌, ℕ, List, [], ◌∷◌, ◌++◌, Option, Some, None, slice_get, refl, ap₂}
use Rattle.std.specs.Option.{option_or}
use Rattle.gi_mir.specs.Data.{InstrData, BlockData, FunctionData, reg_of}
use Rattle.gi_mir.specs.Edit.{all_instrs}
use Rattle.gi_valid.specs.Available.{Extent}
use Rattle.gi_valid.specs.Faults.{with_fault, Site, sites, told, double_definitions, not_available, type_mismatch, unknown_block, unknown_successors, phi_entries, physical_across, terminator, others_in, fault_in, faults}
use Rattle.gi_valid.specs.Typing.{Phase, mismatch}
use Rattle.gi_valid.specs.Valid.{IsValid, IsGreatest}
use Rattle.gi_valid.specs.declared.invalid.Invalid.{Invalid}
use Rattle.gi_valid.specs.declared.invalid.Invalid.TheVariants.{TypeMismatch}
use Rattle.gi_valid.proofs.Existing.{greatest_sets}
use Rattle.gi_valid.proofs.Greatest.{faultless_in_greatest}
use Rattle.gi_valid.proofs.Single.{defined_once}
use Rattle.gi_valid.proofs.Sited.{neither, nothing_in_front, site_of, at_site}
use Rattle.gi_valid.proofs.Valid.{AreMissing, missing, nothing_mapped}
use Rattle.gi_change_valid.specs.Conditions.{DefinesAnew, AccountsForResults, ArePlain, ReadsOrigins, KeepsTypes, MakesNoNewCall}
use Rattle.gi_change_valid.specs.Rewriting.{Rewriting, IsOneOf, IsRewritten}
use Rattle.gi_change_valid.proofs.Accounted.{accounted, types_met, no_call_across}
use Rattle.gi_change_valid.proofs.Available.{extent_holds}
use Rattle.gi_change_valid.proofs.Circles.{HasPlace, IsKnown, site_of_one}
use Rattle.gi_change_valid.proofs.Faultless.{blocks_still_there, successors_still_there, phis_still_first, terminators_still_last}
use Rattle.gi_change_valid.proofs.Origins.{IsReady, extent_after}
use Rattle.gi_change_valid.proofs.Reading.{registers_available}
use Rattle.gi_change_valid.proofs.Single.{none_defined_twice}
use Rattle.gi_change_valid.proofs.Sites.{all_quiet}

-- each kind of fault by itself
pub record AreQuietAll (x : ℕ) (phase : Phase) (f : FunctionData) (extents : ℕ → Extent) : Type 0 where
  pub double : double_definitions f ≡ []
  pub unavailable : told (not_available f extents) (sites f) ≡ []
  pub mismatch : told (type_mismatch x phase f) (sites f) ≡ []
  pub unknown : told (unknown_block f) (sites f) ≡ []
  pub entries : told (phi_entries f) (sites f) ≡ []
  pub across : told (physical_across x phase f) (sites f) ≡ []
  pub ends : told (terminator f) (sites f) ≡ []
  pub successors : unknown_successors f 1 f.blocks ≡ []

record HasNone (x : ℕ) (phase : Phase) (f : FunctionData) (extents : ℕ → Extent) (site : Site) : Type 0 where
  unavailable : not_available f extents site ≡ None
  mismatch : type_mismatch x phase f site ≡ None
  unknown : unknown_block f site ≡ None
  entries : phi_entries f site ≡ None
  across : physical_across x phase f site ≡ None
  ends : terminator f site ≡ None

none_of : (x : ℕ) (phase : Phase) (f : FunctionData) (extents : ℕ → Extent) (site : Site) → fault_in x phase f extents site ≡ None → HasNone x phase f extents site
none_of x phase f extents site h =
    let (unavailable, others) = neither (not_available f extents site) (others_in x phase f site) h in
    let (mismatch, second) = neither (type_mismatch x phase f site) (option_or (unknown_block f site) (option_or (phi_entries f site) (option_or (physical_across x phase f site) (terminator f site)))) others in
    let (unknown, third) = neither (unknown_block f site) (option_or (phi_entries f site) (option_or (physical_across x phase f site) (terminator f site))) second in
    let (entries, fourth) = neither (phi_entries f site) (option_or (physical_across x phase f site) (terminator f site)) third in
    let (across, ends) = neither (physical_across x phase f site) (terminator f site) fourth in
    record { unavailable = unavailable; mismatch = mismatch; unknown = unknown; entries = entries; across = across; ends = ends }

pub fewer : (g h : Site → Option Invalid) → ((site : Site) → g site ≡ None → h site ≡ None) → (sites : List Site) → told g sites ≡ [] → told h sites ≡ []
fewer g h less [] none = refl
fewer g h less (site ∷ sites) none =
    let each : (g site ≡ None) × (told g sites ≡ []) = nothing_in_front site.instr.line (g site) (told g sites) none in ap₂ (with_fault site.instr.line) (less site each.0) (fewer g h less sites each.1)

pub quiet_of : (x : ℕ) (phase : Phase) (f : FunctionData) (extents : ℕ → Extent) → faults x phase f extents ≡ [] → AreQuietAll x phase f extents
quiet_of x phase f extents none =
    let m : AreMissing x phase f extents = missing x phase f extents none in
    record {
      double = m.double;
      unavailable = fewer (fault_in x phase f extents) (not_available f extents) (λ site h. (none_of x phase f extents site h).unavailable) (sites f) m.sites;
      mismatch = fewer (fault_in x phase f extents) (type_mismatch x phase f) (λ site h. (none_of x phase f extents site h).mismatch) (sites f) m.sites;
      unknown = fewer (fault_in x phase f extents) (unknown_block f) (λ site h. (none_of x phase f extents site h).unknown) (sites f) m.sites;
      entries = fewer (fault_in x phase f extents) (phi_entries f) (λ site h. (none_of x phase f extents site h).entries) (sites f) m.sites;
      across = fewer (fault_in x phase f extents) (physical_across x phase f) (λ site h. (none_of x phase f extents site h).across) (sites f) m.sites;
      ends = fewer (fault_in x phase f extents) (terminator f) (λ site h. (none_of x phase f extents site h).ends) (sites f) m.sites;
      successors = m.successors;
    }

-- and all together
pub faultless_of : (x : ℕ) (phase : Phase) (f : FunctionData) (extents : ℕ → Extent) → AreQuietAll x phase f extents → faults x phase f extents ≡ []
faultless_of x phase f extents q = ap₂ (λ a b. a ++ b) (ap₂ (λ a b. a ++ b) q.double (all_quiet f (fault_in x phase f extents) each)) q.successors
  where
    each : (b : ℕ) (block : BlockData) → slice_get f.blocks b ≡ Some block → (before : List (ℕ × InstrData)) (i : ℕ × InstrData) (after : List (ℕ × InstrData)) → block.instrs ≡ before ++ i ∷ after
        → fault_in x phase f extents (site_of b before i after) ≡ None
    each b block found before i after splits =
        ap₂ option_or (at_site f (not_available f extents) q.unavailable b block found before i after splits)
        (ap₂ option_or (at_site f (type_mismatch x phase f) q.mismatch b block found before i after splits)
        (ap₂ option_or (at_site f (unknown_block f) q.unknown b block found before i after splits)
        (ap₂ option_or (at_site f (phi_entries f) q.entries b block found before i after splits)
        (ap₂ option_or (at_site f (physical_across x phase f) q.across b block found before i after splits) (at_site f (terminator f) q.ends b block found before i after splits)))))

-- the greatest sets of a function
abbrev pub great_of : FunctionData → ℕ → Extent
great_of f r = (greatest_sets f r).extent

pub known_of : (x : ℕ) (phase : Phase) (f : FunctionData) → IsValid x phase f → IsKnown f (great_of f)
known_of x phase f valid =
    let greatest : (r : ℕ) → IsGreatest f r (great_of f r) = λ r. (greatest_sets f r).is in
    let q : AreQuietAll x phase f (great_of f) = quiet_of x phase f (great_of f) (faultless_in_greatest x phase f valid (great_of f) greatest) in
    record { greatest = greatest; available = q.unavailable; entries = q.entries; once = defined_once f q.double }

pub stays_valid : (x : ℕ) (phase : Phase) (w : Rewriting) (f g : FunctionData) → IsRewritten w f g → ArePlain w → DefinesAnew w f → AccountsForResults w f → ReadsOrigins w f → KeepsTypes x phase w f g → MakesNoNewCall x phase w f g
    → IsValid x phase f → IsValid x phase g
stays_valid x phase w f g is are anew results reads keeps calls valid =
    let great : ℕ → Extent = great_of f in
    let known : IsKnown f (great_of f) = known_of x phase f valid in
    let q : AreQuietAll x phase f (great_of f) = quiet_of x phase f (great_of f) (faultless_in_greatest x phase f valid (great_of f) (λ r. (greatest_sets f r).is)) in
    let ready : IsReady w f g (great_of f) = record { account = accounted w f g is anew results q.double; plain = are; known = known; reads = reads } in
    record {
      extents = extent_after w (great_of f);
      contained = λ r. extent_holds w f g (great_of f) ready r;
      faultless = faultless_of x phase g (extent_after w (great_of f)) (record {
        double = none_defined_twice w f g is anew q.double;
        unavailable = registers_available w f g (great_of f) ready;
        mismatch = types_met x phase w f g is anew results keeps q.double q.mismatch;
        unknown = blocks_still_there w f g is are q.unknown;
        entries = phis_still_first w f g is are q.entries;
        across = no_call_across x phase w f g is are anew results keeps calls q.double q.across;
        ends = terminators_still_last w f g is are q.ends;
        successors = successors_still_there w f g is q.successors;
      });
    }

-- the types of each instruction of a valid function meet its row
pub instr_met : (x : ℕ) (phase : Phase) (f : FunctionData) → IsValid x phase f → (p : ℕ × InstrData) → IsOneOf p (all_instrs f.blocks) → mismatch x phase f p.1 ≡ None
instr_met x phase f valid p there =
    let q : AreQuietAll x phase f (great_of f) = quiet_of x phase f (great_of f) (faultless_in_greatest x phase f valid (great_of f) (λ r. (greatest_sets f r).is)) in
    let place : HasPlace f p = site_of_one f p there in
    nothing_mapped (λ r. TypeMismatch (reg_of r)) (mismatch x phase f p.1) (at_site f (type_mismatch x phase f) q.mismatch place.block place.site.block place.site.found place.front p place.back place.site.splits)
