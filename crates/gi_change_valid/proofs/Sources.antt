-- What an instruction's results are computed from is none of them; definitions by their ids.
use Rattle.std.proofs.Common.{◌≡◌, ℕ, true, zero, suc, Bool, false, List, [], ◌∷◌, ⊎_elim, sym, ◌∙◌, subst, true≢false}
use Rattle.gi_mir.specs.Data.{InstrData, FunctionData}
use Rattle.gi_mir.specs.Edit.{defines, all_instrs, uses}
use Rattle.gi_valid.specs.Definitions.{IsComputedFrom, is_pure, definition, uses_purely, IsComputedOver}
use Rattle.std.proofs.lemmas.Bool.{and_parts, false_from_ne_true}
use Rattle.std.specs.List.{list_all}
use Rattle.gi_valid.specs.Available.{Extent}
use Rattle.gi_change_valid.specs.Rewriting.{IsOneOf}
use Rattle.gi_change_valid.proofs.Circles.{HasPlace, IsKnown, is_here, none_in_circle, pure_is_no_phi, purely_at, site_of_one, use_at}

-- all results of an instruction are computed from a register
abbrev pub FromRoot : FunctionData → ℕ × InstrData → ℕ → Type 0
FromRoot f root n = (d : ℕ) → defines d root ≡ true → IsComputedFrom f d n

pub one_passes : (test : ℕ × InstrData → Bool) (p : ℕ × InstrData) (is : List (ℕ × InstrData)) → list_all test is ≡ true → IsOneOf p is → test p ≡ true
one_passes test p [] all there = absurd there
one_passes test p (q ∷ is) all there =
    let each : (test q ≡ true) × (list_all test is ≡ true) = and_parts (test q) (list_all test is) all in
    ⊎_elim (λ same. subst (λ k. test k ≡ true) (sym same) each.0) (λ later. one_passes test p is each.1 later) there

-- a register that the root's results are computed from is none of them
pub source_apart : (f : FunctionData) (great : ℕ → Extent) → IsKnown f great → (root : ℕ × InstrData) → IsOneOf root (all_instrs f.blocks) → (n : ℕ) → FromRoot f root n → defines n root ≡ false
source_apart f great k root there n source = false_from_ne_true (defines n root) (λ own. by own (source n own).others (source n own).over)
  where
    read : defines n root ≡ true → (z : ℕ) → uses_purely (definition f n) z ≡ true → IsComputedFrom f z n → ⊥
    read own z purely round =
        let place : HasPlace f root = site_of_one f root there in
        let used : (is_pure root.1 ≡ true) × (uses z root ≡ true) = purely_at f k.once n z purely root there own in
        let here : is_here great place.block place.front z ≡ true = use_at f great k place.block place.front root place.back place.site (pure_is_no_phi root.1 used.0) z used.1 in
        true≢false (sym here ∙ none_in_circle f great k n (source n own) place.block place.site.block place.site.found place.front (root ∷ place.back) place.site.splits z round)

    by : defines n root ≡ true → (others : ℕ) → IsComputedOver others f n n → ⊥
    by own zero h = read own n h (source n own)
    by own (suc others) h = read own h.0 h.1 (record { others = others; over = h.2 })
