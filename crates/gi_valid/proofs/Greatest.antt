-- In greater sets nothing more is at fault, so a valid function isn't invalid.
use Rattle.std.proofs.Common.{◌≡◌, ℕ, suc, ◌+◌, ◌<◌, Bool, true, false, cond, not, ◌&&◌, ◌||◌, List, [], ◌∷◌, ◌++◌, find, Option, Some, None, option_map, length, nat_lt, ⊎_elim, refl, sym, ap, ap₂, ◌∙◌, arith, true≢false, ltb-true}
use Rattle.std.proofs.lemmas.Bool.{or_cases, or_left, or_right, and_parts, and_from, not-true, not_from_false, false_from_ne_true}
use Rattle.std.specs.List.{list_any}
use Rattle.gi_mir.specs.Data.{InstrData, BlockData, FunctionData, reg_of}
use Rattle.gi_mir.specs.Edit.{defines}
use Rattle.gi_mir.specs.Places.{body_at}
use Rattle.gi_mir.specs.declared.operand.Operand.{Operand}
use Rattle.gi_mir.specs.declared.operand.Operand.TheVariants as operand
use Rattle.gi_meaning.specs.Runs.{is_phi, phis_of, after_phis, entry_of}
use Rattle.gi_valid.specs.Available.{Extent, is_origin, defines_origin, at_once, one_by_one, behind, at_end, IsExtent}
use Rattle.gi_valid.specs.Faults.{with_fault, Site, sites_in, sites_from, sites, told, is_there, missing_entry, missing_entries, missing_use, not_available, fault_in, faults}
use Rattle.gi_valid.specs.Typing.{Phase}
use Rattle.gi_valid.specs.Valid.{IsValid, IsGreatest, of_lowest_line, IsInvalid}
use Rattle.gi_valid.specs.declared.invalid.Invalid.{Invalid}
use Rattle.gi_valid.specs.declared.invalid.Invalid.TheVariants.{NotAvailable}
use Rattle.gi_valid.proofs.Sited.{nothing_in_either, nothing_in_front, neither, told_append}
use Rattle.gi_valid.proofs.Valid.{AreMissing, missing, HasNothing, nothing, nothing_mapped}
use Rattle.gi_valid.specs.declared.invalid.Fault.{Fault}
use Rattle.std.specs.Option.{option_or}

-- ══ More is available where less is taken away ══

fewer_taken : (small great : ℕ → Bool) → ((x : ℕ) → small x ≡ true → great x ≡ true) → (os : List Operand) → list_any (is_origin small) os ≡ true → list_any (is_origin great) os ≡ true
fewer_taken small great within [] h = cc
fewer_taken small great within (operand.Def r kind ∷ os) h =
    ⊎_elim (λ here. or_left (great r.0) (list_any (is_origin great) os) (within r.0 here)) (λ later. or_right (great r.0) (list_any (is_origin great) os) (fewer_taken small great within os later))
    (or_cases (small r.0) (list_any (is_origin small) os) h)
fewer_taken small great within (_ ∷ os) h = fewer_taken small great within os h

fewer_among : (small great : ℕ → Bool) → ((x : ℕ) → small x ≡ true → great x ≡ true) → (is : List (ℕ × InstrData)) → list_any (defines_origin small) is ≡ true → list_any (defines_origin great) is ≡ true
fewer_among small great within [] h = cc
fewer_among small great within (i ∷ is) h =
    ⊎_elim
    (λ here. or_left (defines_origin great i) (list_any (defines_origin great) is) (fewer_taken small great within i.1.operands here))
    (λ later. or_right (defines_origin great i) (list_any (defines_origin great) is) (fewer_among small great within is later))
    (or_cases (defines_origin small i) (list_any (defines_origin small) is) h)

more_at_once : (r : ℕ) (small great : ℕ → Bool) → ((x : ℕ) → small x ≡ true → great x ≡ true) → (here there : Bool) → (here ≡ true → there ≡ true) → (is : List (ℕ × InstrData))
    → at_once r great here is ≡ true → at_once r small there is ≡ true
more_at_once r small great within here there more is h =
    ⊎_elim
    (λ own. or_left (list_any (defines r) is) (there && not (list_any (defines_origin small) is)) own)
    (λ kept.
    let both : (here ≡ true) × (not (list_any (defines_origin great) is) ≡ true) = and_parts here (not (list_any (defines_origin great) is)) kept in
    let none : list_any (defines_origin small) is ≡ false =
    false_from_ne_true (list_any (defines_origin small) is) (λ k. true≢false (sym (fewer_among small great within is k) ∙ not-true (list_any (defines_origin great) is) both.1)) in
    or_right (list_any (defines r) is) (there && not (list_any (defines_origin small) is))
    (and_from there (not (list_any (defines_origin small) is)) (more both.0) (not_from_false (list_any (defines_origin small) is) none)))
    (or_cases (list_any (defines r) is) (here && not (list_any (defines_origin great) is)) h)

more_one_by_one : (r : ℕ) (small great : ℕ → Bool) → ((x : ℕ) → small x ≡ true → great x ≡ true) → (here there : Bool) → (here ≡ true → there ≡ true) → (is : List (ℕ × InstrData))
    → one_by_one r great here is ≡ true → one_by_one r small there is ≡ true
more_one_by_one r small great within here there more [] h = more h
more_one_by_one r small great within here there more (i ∷ is) h =
    more_one_by_one r small great within (at_once r great here (i ∷ [])) (at_once r small there (i ∷ [])) (more_at_once r small great within here there more (i ∷ [])) is h

pub more_behind : (r : ℕ) (small great : ℕ → Bool) → ((x : ℕ) → small x ≡ true → great x ≡ true) → (here there : Bool) → (here ≡ true → there ≡ true) → (is : List (ℕ × InstrData))
    → behind r great here is ≡ true → behind r small there is ≡ true
more_behind r small great within here there more is h =
    more_one_by_one r small great within (at_once r great here (phis_of is)) (at_once r small there (phis_of is)) (more_at_once r small great within here there more (phis_of is)) (after_phis is) h

-- ══ Sets that are greater at each block ══

-- for each register, and each block that is there
pub record AreGreater (f : FunctionData) (small great : ℕ → Extent) : Type 0 where
  pub fewer : (r x : ℕ) → (great r).origins x ≡ true → (small r).origins x ≡ true
  pub more : (r b : ℕ) → b < length f.blocks → (small r).starts b ≡ true → (great r).starts b ≡ true

there_still : (f : FunctionData) (small great : ℕ → Extent) → AreGreater f small great → (site : Site) → site.block < length f.blocks → (o : Operand) → is_there f small site o ≡ true → is_there f great site o ≡ true
there_still f small great g site within (operand.Use r) h =
    more_behind r.0 (great r.0).origins (small r.0).origins (g.fewer r.0) ((small r.0).starts site.block) ((great r.0).starts site.block) (g.more r.0 site.block within) site.before h
there_still f small great g site within (operand.Phys n) h = h
there_still f small great g site within (operand.ImplicitUse n) h = h
there_still f small great g site within _ h = refl

uses_still : (f : FunctionData) (small great : ℕ → Extent) → AreGreater f small great → (site : Site) → site.block < length f.blocks → (os : List Operand)
    → find (λ o. not (is_there f small site o)) os ≡ None → find (λ o. not (is_there f great site o)) os ≡ None
uses_still f small great g site within [] h = refl
uses_still f small great g site within (o ∷ os) h = by (is_there f small site o) refl h (λ l. uses_still f small great g site within os l)
  where
    by : (t : Bool) → is_there f small site o ≡ t → cond (not t) (Some o) (find (λ k. not (is_there f small site k)) os) ≡ None
        → (find (λ k. not (is_there f small site k)) os ≡ None → find (λ k. not (is_there f great site k)) os ≡ None) → find (λ k. not (is_there f great site k)) (o ∷ os) ≡ None
    by true so h rest =
        ap (λ t. cond (not t) (Some o) (find (λ k. not (is_there f great site k)) os)) (there_still f small great g site within o so) ∙ rest h
    by false so h rest = cc

entry_still : (f : FunctionData) (small great : ℕ → Extent) → AreGreater f small great → (e : Option (ℕ × ℕ)) → missing_entry f small e ≡ None → missing_entry f great e ≡ None
entry_still f small great g None h = refl
entry_still f small great g (Some e) h = by (nat_lt e.1 (length f.blocks)) refl h
  where
    missed : Option Invalid
    missed = Some (NotAvailable (operand.Use (reg_of e.0)))

    by : (t : Bool) → nat_lt e.1 (length f.blocks) ≡ t → cond (not t || at_end f e.0 (small e.0) e.1) None missed ≡ None → cond (not (nat_lt e.1 (length f.blocks)) || at_end f e.0 (great e.0) e.1) None missed ≡ None
    by false so h = ap (λ t. cond (not t || at_end f e.0 (great e.0) e.1) None missed) so
    by true so h = ap₂ (λ t u. cond (not t || u) None missed) so (further (at_end f e.0 (small e.0) e.1) refl h)
      where
        further : (t : Bool) → at_end f e.0 (small e.0) e.1 ≡ t → cond t None missed ≡ None → at_end f e.0 (great e.0) e.1 ≡ true
        further true is h =
            more_behind e.0 (great e.0).origins (small e.0).origins (g.fewer e.0) ((small e.0).starts e.1) ((great e.0).starts e.1) (g.more e.0 e.1 (ltb-true e.1 (length f.blocks) so))
            (body_at f.blocks e.1).instrs is
        further false is h = cc

entries_still : (f : FunctionData) (small great : ℕ → Extent) → AreGreater f small great → (os : List Operand) → missing_entries f small os ≡ None → missing_entries f great os ≡ None
entries_still f small great g [] h = refl
entries_still f small great g (o ∷ os) h =
    let each : (missing_entry f small (entry_of (o ∷ os)) ≡ None) × (missing_entries f small os ≡ None) = neither (missing_entry f small (entry_of (o ∷ os))) (missing_entries f small os) h in
    ap₂ option_or (entry_still f small great g (entry_of (o ∷ os)) each.0) (entries_still f small great g os each.1)

site_still : (f : FunctionData) (small great : ℕ → Extent) → AreGreater f small great → (site : Site) → site.block < length f.blocks → not_available f small site ≡ None → not_available f great site ≡ None
site_still f small great g site within h = by (is_phi site.instr) h
  where
    by : (t : Bool) → cond t (missing_entries f small site.instr.operands) (missing_use f small site) ≡ None → cond t (missing_entries f great site.instr.operands) (missing_use f great site) ≡ None
    by true h = entries_still f small great g site.instr.operands h
    by false h = ap (option_map NotAvailable) (uses_still f small great g site within site.instr.operands (nothing_mapped NotAvailable (find (λ o. not (is_there f small site o)) site.instr.operands) h))

fault_still : (x : ℕ) (phase : Phase) (f : FunctionData) (small great : ℕ → Extent) → AreGreater f small great → (site : Site) → site.block < length f.blocks → fault_in x phase f small site ≡ None → fault_in x phase f great site ≡ None
fault_still x phase f small great g site within h =
    let here : HasNothing x phase f small site = nothing x phase f small site h in ap₂ option_or (site_still f small great g site within here.unavailable) here.others

-- ══ A function ══

block_still : (x : ℕ) (phase : Phase) (f : FunctionData) (small great : ℕ → Extent) → AreGreater f small great → (b : ℕ) → b < length f.blocks → (done is : List (ℕ × InstrData)) → told (fault_in x phase f small) (sites_in b done is) ≡ []
    → told (fault_in x phase f great) (sites_in b done is) ≡ []
block_still x phase f small great g b within done [] h = refl
block_still x phase f small great g b within done (i ∷ is) h =
    let site : Site = record { block = b; before = done; instr = i.1; after = is } in
    let each : (fault_in x phase f small site ≡ None) × (told (fault_in x phase f small) (sites_in b (done ++ i ∷ []) is) ≡ []) =
    nothing_in_front i.1.line (fault_in x phase f small site) (told (fault_in x phase f small) (sites_in b (done ++ i ∷ []) is)) h in
    ap₂ (with_fault i.1.line) (fault_still x phase f small great g site within each.0) (block_still x phase f small great g b within (done ++ i ∷ []) is each.1)

blocks_still : (x : ℕ) (phase : Phase) (f : FunctionData) (small great : ℕ → Extent) → AreGreater f small great → (place : ℕ) (blocks : List BlockData) → place + length blocks ≡ length f.blocks
    → told (fault_in x phase f small) (sites_from place blocks) ≡ [] → told (fault_in x phase f great) (sites_from place blocks) ≡ []
blocks_still x phase f small great g place [] count h = refl
blocks_still x phase f small great g place (k ∷ blocks) count h =
    let each : (told (fault_in x phase f small) (sites_in place [] k.instrs) ≡ []) × (told (fault_in x phase f small) (sites_from (place + 1) blocks) ≡ []) =
    nothing_in_either (told (fault_in x phase f small) (sites_in place [] k.instrs)) (told (fault_in x phase f small) (sites_from (place + 1) blocks))
    (sym (told_append (fault_in x phase f small) (sites_in place [] k.instrs) (sites_from (place + 1) blocks)) ∙ h) in
    let within : place < length f.blocks = below place (length blocks) (length f.blocks) count in
    told_append (fault_in x phase f great) (sites_in place [] k.instrs) (sites_from (place + 1) blocks)
    ∙ ap₂ (λ xs ys. xs ++ ys) (block_still x phase f small great g place within [] k.instrs each.0)
    (blocks_still x phase f small great g (place + 1) blocks (next place (length blocks) (length f.blocks) count) each.1)
  where
    below : (p n m : ℕ) → p + suc n ≡ m → p < m
    below p n m h = omega (arith, h)

    next : (p n m : ℕ) → p + suc n ≡ m → p + 1 + n ≡ m
    next p n m h = omega (arith, h)

greatest_are_greater : (f : FunctionData) (extents great : ℕ → Extent) → ((r : ℕ) → IsExtent f r (extents r)) → ((r : ℕ) → IsGreatest f r (great r)) → AreGreater f extents great
greatest_are_greater f extents great contained greatest = record {
  fewer = λ r x own. (contained r).computed x ((greatest r).alone x own);
  more = λ r b within starts. (greatest r).greatest (extents r) (contained r) b within starts;
}

nothing_told : (fault : Fault) → of_lowest_line [] ≡ Some fault → ⊥
nothing_told fault h = cc

-- in the greatest sets nothing is at fault where nothing is in some sets
pub faultless_in_greatest : (x : ℕ) (phase : Phase) (f : FunctionData) → IsValid x phase f → (great : ℕ → Extent) → ((r : ℕ) → IsGreatest f r (great r)) → faults x phase f great ≡ []
faultless_in_greatest x phase f valid great greatest =
    let none : AreMissing x phase f valid.extents = missing x phase f valid.extents valid.faultless in
    let still : told (fault_in x phase f great) (sites f) ≡ [] =
    blocks_still x phase f valid.extents great (greatest_are_greater f valid.extents great valid.contained greatest) 0 f.blocks (zero_more (length f.blocks)) none.sites in
    ap₂ (λ l k. l ++ k) (ap₂ (λ l k. l ++ k) none.double still) none.successors
  where
    zero_more : (n : ℕ) → 0 + n ≡ n
    zero_more n = omega arith

pub valid_or_invalid : (x : ℕ) (phase : Phase) (f : FunctionData) (fault : Fault) → IsValid x phase f → IsInvalid x phase f fault → ⊥
valid_or_invalid x phase f fault valid invalid =
    nothing_told fault (sym (ap of_lowest_line (faultless_in_greatest x phase f valid invalid.extents invalid.greatest)) ∙ invalid.told)
