-- The function in which each use of a copy's result is one of its source does what the one before may do.
use Rattle.std.proofs.Common.{◌≡◌, ℕ, false, ◌||◌, List, [], ◌∷◌, Option, Some, None, map, option_map, slice_get, refl, sym, ap, ◌∙◌, subst}
use Rattle.gi_mir.specs.Data.{InstrData, BlockData, FunctionData}
use Rattle.gi_mir.specs.Uses.{block_replaced, entry_replaced, instr_replaced, with_reg_replaced}
use Rattle.gi_mir.specs.declared.operand.Operand.{Operand}
use Rattle.gi_mir.specs.declared.operand.Operand.TheVariants as operand
use Rattle.gi_meaning.specs.Runs.{Setting, setting_of, width_of_kind}
use Rattle.gi_meaning.specs.State.{State}
use Rattle.gi_refine.specs.Agreement.{Agree, AgreeAt, AgreeEntering}
use Rattle.gi_refine.specs.Kept.{AreKept, IsKept, without_kind}
use Rattle.gi_refine.specs.OnePlace.{StaysAt, nothing, only_virtual}
use Rattle.gi_refine.specs.Refinement.{RefinesUnchecked}
use Rattle.gi_refine.specs.Replacing.{any_touches, touches}
use Rattle.gi_refine.proofs.OnePlaceFollows.{option_stays}
use Rattle.gi_refine.proofs.Reaching.{refined_where_reached}
use Rattle.gi_refine.proofs.Staying.{all_seen_untouched}
use Rattle.gi_valid.specs.Typing.{Phase}
use Rattle.gi_rule_refines.proofs.Copied.{IsCopied, kind_same, kind_stands}
use Rattle.gi_rule_refines.proofs.CopyLists.{block_mapped, operands_reused, stand_in}
use Rattle.gi_rule_refines.proofs.CopyReads.{body_holds, phis_hold}

one_kept : (d s : ℕ) (i : InstrData) → IsKept (stand_in d s) i (instr_replaced d s i)
one_kept d s i = record { op = refl; flags = refl; mem = refl; operands = ap (map without_kind) (operands_reused d s i.operands) }

all_kept : (d s : ℕ) (is : List (ℕ × InstrData)) → AreKept (stand_in d s) is (map (entry_replaced d s) is)
all_kept d s [] = tt
all_kept d s (i ∷ is) = (one_kept d s i.1, all_kept d s is)

-- nothing is hidden
none_touched : (rename : ℕ → ℕ) (os : List Operand) → touches nothing rename os ≡ false
none_touched rename [] = refl
none_touched rename (operand.Def r kind ∷ os) = none_touched rename os
none_touched rename (operand.Use r ∷ os) = none_touched rename os
none_touched rename (_ ∷ os) = none_touched rename os

none_touch : (rename : ℕ → ℕ) (is : List (ℕ × InstrData)) → any_touches nothing rename is ≡ false
none_touch rename [] = refl
none_touch rename (i ∷ is) = ap (λ t. t || any_touches nothing rename is) (none_touched rename i.1.operands) ∙ none_touch rename is

block_stays : (x : ℕ) (phase : Phase) (names : List (List ℕ)) (f : FunctionData) (id d s : ℕ) → IsCopied x phase f id d s → (b : ℕ) (o : Option BlockData) → slice_get f.blocks b ≡ o
    → StaysAt x names f (with_reg_replaced d s f) nothing (stand_in d s) b o (option_map (block_replaced d s) o)
block_stays x phase names f id d s c b None found = tt
block_stays x phase names f id d s c b (Some block) found = record {
  successors = refl;
  kept = all_kept d s block.instrs;
  seen = all_seen_untouched (setting_of x names f) (setting_of x names (with_reg_replaced d s f)) nothing (stand_in d s)
      (record { same = λ r shown. ap (width_of_kind x) (kind_same x phase f id d s c r); replaced = λ r. ap (width_of_kind x) (kind_stands x phase f id d s c r) })
      block.instrs (none_touch (stand_in d s) block.instrs);
  phis = phis_hold x phase names f id d s c b block found;
  body = body_holds x phase names f id d s c b block found;
}

pub copied_refines : (x : ℕ) (phase : Phase) (names : List (List ℕ)) (f : FunctionData) (id d s : ℕ) → IsCopied x phase f id d s → RefinesUnchecked x names f (with_reg_replaced d s f)
copied_refines x phase names f id d s c =
    let old : Setting = setting_of x names f in
    let new : Setting = setting_of x names (with_reg_replaced d s f) in
    let agree : State → State → Type 0 = Agree old new (only_virtual nothing) in
    refined_where_reached x names f (with_reg_replaced d s f) (λ w. AgreeEntering old new (λ k. only_virtual nothing)) (λ w b. agree) (λ w b. agree) (λ w b. AgreeAt old new (λ k. only_virtual nothing))
    (λ w is_world. record { values = λ r seen. tt; words = λ n seen. refl; memory = refl; taken = refl })
    (λ w is_world b.
    option_stays x names f (with_reg_replaced d s f) nothing (stand_in d s) b (slice_get f.blocks b) (slice_get (with_reg_replaced d s f).blocks b)
    (subst (λ o. StaysAt x names f (with_reg_replaced d s f) nothing (stand_in d s) b (slice_get f.blocks b) o) (sym (block_mapped d s f.blocks b)) (block_stays x phase names f id d s c b (slice_get f.blocks b) refl)) w is_world)
    (λ w is_world from b older newer h. (h.memory, h.taken))
