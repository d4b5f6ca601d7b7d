-- A good function without a dead instruction is good, and so it is without any number of them.
use Rattle.std.proofs.Common.{◌≡◌, ℕ, Bool, true, false, ◌==◌, List, [], ◌∷◌, refl, sym, ap, ◌∙◌, ⊎_elim}
use Rattle.std.specs.List.{list_all, list_any}
use Rattle.gi_mir.specs.Data.{InstrData, FunctionData}
use Rattle.gi_mir.specs.Edit.{IsLive, all_instrs, defines, uses, without_instr}
use Rattle.gi_meaning.specs.Meaning.{meaning_of}
use Rattle.gi_meaning.specs.Runs.{setting_of, width_of_kind}
use Rattle.gi_refine.specs.Refinement.{RefinesUnchecked}
use Rattle.gi_refine.specs.RuleUse.{width_in}
use Rattle.gi_refine.proofs.Refining.{refines_itself, refines_through}
use Rattle.gi_change_valid.specs.Rewriting.{IsOneOf}
use Rattle.gi_change_valid.specs.Numbers.{HasHadAll}
use Rattle.gi_change_valid.proofs.Listed.{instrs_after}
use Rattle.gi_valid.specs.Typing.{Phase}
use Rattle.gi_change_refines.specs.Widths.{keeps_values, values_keep}
use Rattle.gi_rule_refines.specs.Dead.{AreDead, is_dead, without_all}
use Rattle.gi_rule_refines.specs.Good.{IsGood}
use Rattle.gi_rule_refines.proofs.Erased.{IsErased, defined_stays, erased, erased_of, erasing, kind_stays, used_stays}
use Rattle.gi_rule_refines.proofs.ErasedLists.{all_left_as, any_before}
use Rattle.gi_rule_refines.proofs.ErasedRuns.{erased_refines}
use Rattle.gi_rule_refines.proofs.ErasedValid.{erased_valid}
use Rattle.gi_rule_refines.proofs.Good.{operands_same}
use Rattle.gi_rule_refines.proofs.Numbered.{own_replaced}
use Rattle.gi_rule_refines.proofs.Widths.{as_wide}

had_left : (x : ℕ) (phase : Phase) (f : FunctionData) (id : ℕ) → (c : IsErased x phase f id) → HasHadAll f → HasHadAll (without_instr f id)
had_left x phase f id c had = record { defined = λ r there. had.defined r (before (defines r) there); used = λ r there. had.used r (before (uses r) there) }
  where
    before : (test : ℕ × InstrData → Bool) → list_any test (all_instrs (without_instr f id).blocks) ≡ true → list_any test (all_instrs f.blocks) ≡ true
    before test there = any_before f id c.root test (all_instrs f.blocks) (sym (ap (list_any test) (instrs_after (erasing f id c.root) f (without_instr f id) (erased x phase f id c))) ∙ there)

fit_left : (x : ℕ) (phase : Phase) (names : List (List ℕ)) (f : FunctionData) (id : ℕ) → (c : IsErased x phase f id) → values_keep (setting_of x names f) f ≡ true → values_keep (setting_of x names (without_instr f id)) (without_instr f id) ≡ true
fit_left x phase names f id c fit =
    ap (list_all new) (instrs_after (erasing f id c.root) f (without_instr f id) (erased x phase f id c)) ∙ all_left_as f id c.root old new (all_instrs f.blocks) (λ p there other h. same p there other ∙ h) fit
  where
    old : ℕ × InstrData → Bool
    old p = keeps_values (setting_of x names f) (meaning_of p.1.flags p.1.op) p.1

    new : ℕ × InstrData → Bool
    new p = keeps_values (setting_of x names (without_instr f id)) (meaning_of p.1.flags p.1.op) p.1

    same : (p : ℕ × InstrData) → IsOneOf p (all_instrs f.blocks) → (p.0 == id) ≡ false → new p ≡ old p
    same p there other =
        as_wide (setting_of x names (without_instr f id)) (setting_of x names f) (meaning_of p.1.flags p.1.op) p.1 p.1 refl refl refl
        (operands_same (width_in x f) (width_in x (without_instr f id)) p.1.operands
        (λ r named. ap (width_of_kind x) (kind_stays x phase f id c r (⊎_elim (λ own. defined_stays x phase f id c p there other r own) (λ used. used_stays x phase f id c p there r used) named))))

pub erased_good : (x : ℕ) (phase : Phase) (names : List (List ℕ)) (f : FunctionData) (id : ℕ) → IsGood x phase names f → IsLive f id → is_dead f id ≡ true → IsGood x phase names (without_instr f id)
erased_good x phase names f id good live dead =
    let c : IsErased x phase f id = erased_of x phase names f id good live dead in
    record { valid = erased_valid x phase f id c; own = own_replaced f id [] good.own live; had = had_left x phase f id c good.had; fit = fit_left x phase names f id c good.fit }

-- ══ One after another ══

pub all_erased_good : (x : ℕ) (phase : Phase) (names : List (List ℕ)) (f : FunctionData) (ids : List ℕ) → IsGood x phase names f → AreDead f ids → IsGood x phase names (without_all f ids)
all_erased_good x phase names f [] good dead = good
all_erased_good x phase names f (id ∷ ids) good dead = all_erased_good x phase names (without_instr f id) ids (erased_good x phase names f id good dead.0 dead.1) dead.2

pub all_erased_refine : (x : ℕ) (phase : Phase) (names : List (List ℕ)) (f : FunctionData) (ids : List ℕ) → IsGood x phase names f → AreDead f ids → RefinesUnchecked x names f (without_all f ids)
all_erased_refine x phase names f [] good dead = refines_itself x names f
all_erased_refine x phase names f (id ∷ ids) good dead =
    refines_through x names f (without_instr f id) (without_all f (id ∷ ids)) (erased_refines x phase names f id (erased_of x phase names f id good dead.0 dead.1))
    (all_erased_refine x phase names (without_instr f id) ids (erased_good x phase names f id good dead.0 dead.1) dead.2)
