-- The ids of instructions change no run.
use Rattle.std.proofs.Common.{◌≡◌, ℕ, zero, suc, false, ◌||◌, List, [], ◌∷◌, slice_get, unwrap_or, refl, ap, ap₂}
use Rattle.std.specs.List.{AllZip}
use Rattle.gi_mir.specs.Data.{InstrData, BlockData, FunctionData}
use Rattle.gi_mir.specs.Registers.{first_there, kind_in_operands, kind_in_instrs, kind_in_blocks}
use Rattle.gi_mir.specs.declared.operand.Kind.TheVariants.{Class}
use Rattle.gi_mir.specs.declared.operand.Operand.{Operand}
use Rattle.gi_mir.specs.declared.operand.Operand.TheVariants as operand
use Rattle.gi_meaning.specs.Runs.{Setting, setting_of, width_of_kind, phis_of, after_phis}
use Rattle.gi_refine.specs.Agreement.{Agree, AgreeAt, AgreeEntering}
use Rattle.gi_refine.specs.Kept.{AreKept}
use Rattle.gi_refine.specs.OnePlace.{only_virtual, StaysAt}
use Rattle.gi_refine.specs.Refinement.{RefinesUnchecked}
use Rattle.gi_refine.specs.Replacing.{IsSameBlock, AreSameBlocks, any_touches, touches}
use Rattle.gi_refine.proofs.OnePlaceFollows.{option_stays}
use Rattle.gi_refine.proofs.Reaching.{refined_where_reached}
use Rattle.gi_refine.proofs.Staying.{KeepsWidths, kept_alone, all_seen_untouched, phis_hold_alone, body_holds_alone}

pub kept_of_same : (is js : List (ℕ × InstrData)) → AllZip (λ i j. j.1 ≡ i.1) is js → AreKept (λ r. r) is js
kept_of_same [] [] same = tt
kept_of_same [] (j ∷ js) same = absurd same
kept_of_same (i ∷ is) [] same = absurd same
kept_of_same (i ∷ is) (j ∷ js) same = (kept_alone i.1 j.1 same.0, kept_of_same is js same.1)

-- ══ Kinds ══

instrs_kind : (r : ℕ) (is js : List (ℕ × InstrData)) → AllZip (λ i j. j.1 ≡ i.1) is js → kind_in_instrs r js ≡ kind_in_instrs r is
instrs_kind r [] [] same = refl
instrs_kind r [] (j ∷ js) same = absurd same
instrs_kind r (i ∷ is) [] same = absurd same
instrs_kind r (i ∷ is) (j ∷ js) same = ap₂ first_there (ap (λ k. kind_in_operands r k.operands) same.0) (instrs_kind r is js same.1)

blocks_kind : (r : ℕ) (bs cs : List BlockData) → AllZip IsSameBlock bs cs → kind_in_blocks r cs ≡ kind_in_blocks r bs
blocks_kind r [] [] same = refl
blocks_kind r [] (c ∷ cs) same = absurd same
blocks_kind r (b ∷ bs) [] same = absurd same
blocks_kind r (b ∷ bs) (c ∷ cs) same = ap₂ first_there (instrs_kind r b.instrs c.instrs same.0.instrs) (blocks_kind r bs cs same.1)

-- ══ Nothing is hidden ══

untouched_operands : (os : List Operand) → touches (λ r. false) (λ r. r) os ≡ false
untouched_operands [] = refl
untouched_operands (operand.Def r k ∷ os) = untouched_operands os
untouched_operands (operand.Use r ∷ os) = untouched_operands os
untouched_operands (_ ∷ os) = untouched_operands os

pub untouched : (is : List (ℕ × InstrData)) → any_touches (λ r. false) (λ r. r) is ≡ false
untouched [] = refl
untouched (i ∷ is) = ap₂ (λ a b. a || b) (untouched_operands i.1.operands) (untouched is)

-- ══ Blocks ══

places_stay : (x : ℕ) (names : List (List ℕ)) (f g : FunctionData) → KeepsWidths (setting_of x names f) (setting_of x names g) (λ r. false) (λ r. r) → (b k : ℕ) (bs cs : List BlockData) → AllZip IsSameBlock bs cs
    → StaysAt x names f g (λ r. false) (λ r. r) b (slice_get bs k) (slice_get cs k)
places_stay x names f g widths b k [] [] same = tt
places_stay x names f g widths b k [] (c ∷ cs) same = absurd same
places_stay x names f g widths b k (d ∷ bs) [] same = absurd same
places_stay x names f g widths b (suc k) (d ∷ bs) (c ∷ cs) same = places_stay x names f g widths b k bs cs same.1
places_stay x names f g widths b zero (d ∷ bs) (c ∷ cs) same = record {
  successors = same.0.successors;
  kept = kept_of_same d.instrs c.instrs same.0.instrs;
  seen = all_seen_untouched (setting_of x names f) (setting_of x names g) (λ r. false) (λ r. r) widths d.instrs (untouched d.instrs);
  phis = phis_hold_alone x names f b (phis_of d.instrs);
  body = body_holds_alone x names f b [] (after_phis d.instrs);
}

-- ══ The whole function ══

pub same_blocks_refine : (x : ℕ) (names : List (List ℕ)) (f g : FunctionData) → AreSameBlocks f g → RefinesUnchecked x names f g
same_blocks_refine x names f g same =
    let s : Setting = setting_of x names f in
    let t : Setting = setting_of x names g in
    let widths : KeepsWidths s t (λ r. false) (λ r. r) = record {
      same = λ r shown. ap (λ k. width_of_kind x (unwrap_or k Class)) (blocks_kind r f.blocks g.blocks same);
      replaced = λ r. refl;
    } in
    refined_where_reached x names f g (λ w. AgreeEntering s t (λ c. only_virtual (λ r. false))) (λ w b. Agree s t (only_virtual (λ r. false))) (λ w b. Agree s t (only_virtual (λ r. false)))
    (λ w b. AgreeAt s t (λ c. only_virtual (λ r. false)))
    (λ w is_world. record { values = λ r seen. tt; words = λ n seen. refl; memory = refl; taken = refl })
    (λ w is_world b. option_stays x names f g (λ r. false) (λ r. r) b (slice_get f.blocks b) (slice_get g.blocks b) (places_stay x names f g widths b b f.blocks g.blocks same) w is_world)
    (λ w is_world from b old new agree. (agree.memory, agree.taken))
