-- A good function without a copy of it is good, and refines the one before.
use Rattle.std.proofs.Common.{◌≡◌, ℕ, ◌+◌, ◌≤◌, ◌<◌, Bool, true, false, cond, not, ◌&&◌, ◌||◌, ◌==◌, List, [], ◌∷◌, Option, Some, map, option_map, ⊎_elim, refl, sym, ap, ap₂, ◌∙◌, subst, arith, true≢false, eq-eqb}
use Rattle.std.proofs.lemmas.Bool.Decides.{nat_tests}
use Rattle.std.specs.Prelude.{max}
use Rattle.std.specs.List.{list_all, list_any}
use Rattle.std.specs.Option.{option_map_or}
use Rattle.gi_llt.specs.declared.Llt.{Llt}
use Rattle.gi_mir.specs.Accepted.{is_result_type, is_source_type}
use Rattle.gi_mir.specs.Data.{InstrData, FunctionData, reg_of}
use Rattle.gi_mir.specs.Edit.{all_instrs, defines, instr_of, uses}
use Rattle.gi_mir.specs.Uses.{entry_replaced, instr_replaced, operand_replaced, with_reg_replaced}
use Rattle.gi_mir.specs.declared.operand.Kind.TheVariants.{Class}
use Rattle.gi_mir.specs.declared.operand.Operand.{Operand}
use Rattle.gi_mir.specs.declared.operand.Operand.TheVariants as operand
use Rattle.gi_mir.proofs.Replaced.{uses-replaced}
use Rattle.gi_mir.proofs.Replacing.{all_instrs-replaced}
use Rattle.gi_meaning.specs.InRow.{sources_in}
use Rattle.gi_meaning.specs.Meaning.{meaning_of}
use Rattle.gi_meaning.specs.Runs.{setting_of, width_of_kind}
use Rattle.gi_refine.specs.Refinement.{RefinesUnchecked}
use Rattle.gi_refine.specs.RuleUse.{width_in}
use Rattle.gi_refine.proofs.Refining.{refines_itself, refines_through}
use Rattle.gi_rules.specs.Fitting.{is_defined_in}
use Rattle.gi_change_valid.specs.Numbers.{HasHadAll}
use Rattle.gi_change_valid.proofs.Computed.{any_one}
use Rattle.gi_valid.specs.Typing.{Phase, type_in}
use Rattle.gi_change_refines.specs.Widths.{keeps_values, values_keep}
use Rattle.gi_rule_refines.specs.Copies.{AreCopies, CopyData, IsCopy, all_propagated, propagated}
use Rattle.gi_rule_refines.specs.Dead.{can_go, is_dead, is_unused}
use Rattle.gi_rule_refines.specs.Good.{IsGood}
use Rattle.gi_rule_refines.specs.Stages.{IsGoodAt, each_passes, has_opcode, is_accepted, is_of_stage, phase_at, registers_of, stand_at}
use Rattle.gi_rule_refines.specs.declared.stages.RuleStage.{RuleStage}
use Rattle.gi_rule_refines.proofs.Copied.{IsCopied, copied_valid, copy_apart, copy_there, kind_same, kind_stands, root_of, stays_itself, type_stands, types_same, uses_it}
use Rattle.gi_rule_refines.proofs.CopiedRuns.{copied_refines}
use Rattle.gi_rule_refines.proofs.CopyLists.{any_defined_before, any_used_before, instr_kept, live_kept, own_kept, results_kept, sources_kept, stand_in}
use Rattle.gi_rule_refines.proofs.Erased.{erased_of}
use Rattle.gi_rule_refines.proofs.ErasedAt.{all_erased_at}
use Rattle.gi_rule_refines.proofs.ErasedGood.{erased_good}
use Rattle.gi_rule_refines.proofs.ErasedRuns.{erased_refines}
use Rattle.gi_rule_refines.proofs.Widths.{as_wide, widthed}

-- ══ Registers ══

more_regs : (d s : ℕ) (f : FunctionData) → f.next_reg ≤ (with_reg_replaced d s f).next_reg
more_regs d s f = by (list_any (uses d) (all_instrs f.blocks)) f.next_reg
  where
    by : (t : Bool) (n : ℕ) → n ≤ cond t (max n (s + 1)) n
    by true n = grind (arith, nat_tests)
    by false n = omega arith

had_kept : (f : FunctionData) (id d s : ℕ) → IsCopy f id d s → HasHadAll f → HasHadAll (with_reg_replaced d s f)
had_kept f id d s c had = record {
  defined = λ r there. more r (had.defined r (sym (ap (list_any (defines r)) (all_instrs-replaced d s f.blocks) ∙ any_defined_before d s r (all_instrs f.blocks)) ∙ there));
  used = λ r there.
      more r
      (⊎_elim (λ same. subst (λ k. k < f.next_reg) same (had.used s (any_one (uses s) (id, root_of f id d s c) (all_instrs f.blocks) (copy_there f id d s c) (uses_it f id d s c)))) (λ old. had.used r old)
      (any_used_before d s r (all_instrs f.blocks) (sym (ap (list_any (uses r)) (all_instrs-replaced d s f.blocks)) ∙ there)));
}
  where
    more : (r : ℕ) → r < f.next_reg → r < (with_reg_replaced d s f).next_reg
    more r less = let grows : f.next_reg ≤ (with_reg_replaced d s f).next_reg = more_regs d s f in omega (arith, less, grows)

-- ══ Tests of all instructions ══

all_mapped : {X : Type 0} (g : X → X) (old new : X → Bool) → ((x : X) → new (g x) ≡ old x) → (xs : List X) → list_all new (map g xs) ≡ list_all old xs
all_mapped g old new same [] = refl
all_mapped g old new same (x ∷ xs) = ap₂ (λ a b. a && b) (same x) (all_mapped g old new same xs)

all_tested : (d s : ℕ) (f : FunctionData) (old new : ℕ × InstrData → Bool) → ((p : ℕ × InstrData) → new (entry_replaced d s p) ≡ old p) → list_all new (all_instrs (with_reg_replaced d s f).blocks) ≡ list_all old (all_instrs f.blocks)
all_tested d s f old new same = ap (list_all new) (all_instrs-replaced d s f.blocks) ∙ all_mapped (entry_replaced d s) old new same (all_instrs f.blocks)

-- ══ Widths ══

widths_kept : (d s : ℕ) (old new : ℕ → ℕ) → ((r : ℕ) → new r ≡ old r) → ((r : ℕ) → old (stand_in d s r) ≡ old r) → (os : List Operand) → map (widthed new) (map (operand_replaced d s) os) ≡ map (widthed old) os
widths_kept d s old new same stands [] = refl
widths_kept d s old new same stands (operand.Def r kind ∷ os) = ap₂ (λ n rest. operand.Def (reg_of n) Class ∷ rest) (same r.0) (widths_kept d s old new same stands os)
widths_kept d s old new same stands (operand.Use r ∷ os) = ap₂ (λ n rest. operand.Use (reg_of n) ∷ rest) (same (stand_in d s r.0) ∙ stands r.0) (widths_kept d s old new same stands os)
widths_kept d s old new same stands (o ∷ os) = ap (λ rest. widthed old o ∷ rest) (widths_kept d s old new same stands os)

fit_kept : (x : ℕ) (phase : Phase) (names : List (List ℕ)) (f : FunctionData) (id d s : ℕ) → IsCopied x phase f id d s → values_keep (setting_of x names f) f ≡ true → values_keep (setting_of x names (with_reg_replaced d s f)) (with_reg_replaced d s f) ≡ true
fit_kept x phase names f id d s c fit = all_tested d s f old new same ∙ fit
  where
    old : ℕ × InstrData → Bool
    old p = keeps_values (setting_of x names f) (meaning_of p.1.flags p.1.op) p.1

    new : ℕ × InstrData → Bool
    new p = keeps_values (setting_of x names (with_reg_replaced d s f)) (meaning_of p.1.flags p.1.op) p.1

    same : (p : ℕ × InstrData) → new (entry_replaced d s p) ≡ old p
    same p =
        as_wide (setting_of x names (with_reg_replaced d s f)) (setting_of x names f) (meaning_of p.1.flags p.1.op) (instr_replaced d s p.1) p.1 refl refl refl
        (widths_kept d s (width_in x f) (width_in x (with_reg_replaced d s f)) (λ r. ap (width_of_kind x) (kind_same x phase f id d s c r)) (λ r. ap (width_of_kind x) (kind_stands x phase f id d s c r)) p.1.operands)

-- ══ Uses replaced ══

copied_of : (x : ℕ) (phase : Phase) (names : List (List ℕ)) (f : FunctionData) (id d s : ℕ) → IsGood x phase names f → IsCopy f id d s → IsCopied x phase f id d s
copied_of x phase names f id d s good copy = record { valid = good.valid; own = good.own; copy = copy }

replaced_good : (x : ℕ) (phase : Phase) (names : List (List ℕ)) (f : FunctionData) (id d s : ℕ) → IsGood x phase names f → IsCopy f id d s → IsGood x phase names (with_reg_replaced d s f)
replaced_good x phase names f id d s good copy =
    let c : IsCopied x phase f id d s = copied_of x phase names f id d s good copy in
    record { valid = copied_valid x phase f id d s c; own = own_kept d s f good.own; had = had_kept f id d s copy good.had; fit = fit_kept x phase names f id d s c good.fit }

-- ══ The copy is dead ══

none_use : (d s : ℕ) → (d == s) ≡ false → (is : List (ℕ × InstrData)) → list_any (uses d) (map (entry_replaced d s) is) ≡ false
none_use d s apart [] = refl
none_use d s apart (p ∷ is) = ap₂ (λ a b. a || b) (uses-replaced d s p (λ e. true≢false (sym (eq-eqb d s e) ∙ apart))) (none_use d s apart is)

copy_dead : (x : ℕ) (phase : Phase) (f : FunctionData) (id d s : ℕ) → IsCopied x phase f id d s → is_dead (with_reg_replaced d s f) id ≡ true
copy_dead x phase f id d s c = ap (λ o. option_map_or (λ i. can_go i && is_unused (with_reg_replaced d s f) i) o false) found ∙ ap (λ t. not t && true) unused
  where
    found : instr_of (with_reg_replaced d s f) id ≡ Some (root_of f id d s c.copy)
    found = instr_kept d s id f ∙ ap (option_map (instr_replaced d s)) c.copy.is ∙ ap (λ (p : ℕ × InstrData). Some p.1) (stays_itself f id d s c.copy)

    unused : list_any (uses d) (all_instrs (with_reg_replaced d s f).blocks) ≡ false
    unused = ap (list_any (uses d)) (all_instrs-replaced d s f.blocks) ∙ none_use d s (copy_apart x phase f id d s c) (all_instrs f.blocks)

-- ══ The law ══

pub propagated_good : (x : ℕ) (phase : Phase) (names : List (List ℕ)) (f : FunctionData) (id d s : ℕ) → IsGood x phase names f → IsCopy f id d s → IsGood x phase names (propagated f id d s)
propagated_good x phase names f id d s good copy =
    erased_good x phase names (with_reg_replaced d s f) id (replaced_good x phase names f id d s good copy) (live_kept d s id f copy.live) (copy_dead x phase f id d s (copied_of x phase names f id d s good copy))

pub propagated_refines : (x : ℕ) (phase : Phase) (names : List (List ℕ)) (f : FunctionData) (id d s : ℕ) → IsGood x phase names f → IsCopy f id d s → RefinesUnchecked x names f (propagated f id d s)
propagated_refines x phase names f id d s good copy =
    let c : IsCopied x phase f id d s = copied_of x phase names f id d s good copy in
    let g : FunctionData = with_reg_replaced d s f in
    refines_through x names f g (propagated f id d s) (copied_refines x phase names f id d s c)
    (erased_refines x phase names g id (erased_of x phase names g id (replaced_good x phase names f id d s good copy) (live_kept d s id f copy.live) (copy_dead x phase f id d s c)))

-- ══ At a stage ══

of_stage : (x : ℕ) (stage : RuleStage) (d s : ℕ) (i : InstrData) → is_of_stage x stage (instr_replaced d s i) ≡ is_of_stage x stage i
of_stage x stage d s i = ap (λ t. has_opcode x stage i.op && t) (all_mapped (operand_replaced d s) (is_defined_in (registers_of stage)) (is_defined_in (registers_of stage)) one i.operands)
  where
    one : (o : Operand) → is_defined_in (registers_of stage) (operand_replaced d s o) ≡ is_defined_in (registers_of stage) o
    one (operand.Use r) = refl
    one _ = refl

accepted_kept : (x : ℕ) (phase : Phase) (f : FunctionData) (id d s : ℕ) → IsCopied x phase f id d s → (i : InstrData) → is_accepted x (type_in phase (with_reg_replaced d s f)) (instr_replaced d s i) ≡ is_accepted x (type_in phase f) i
accepted_kept x phase f id d s c i =
    ap (λ (types : ℕ → Option Llt). is_accepted x types (instr_replaced d s i)) (types_same x phase f id d s c)
    ∙ ap₂ (λ a b. each_passes (is_result_type x i.op) 0 a && each_passes (is_source_type x i.op) 0 b) (ap (map (type_in phase f)) (results_kept d s i.operands))
    (ap (map (type_in phase f)) (sources_kept d s i.operands) ∙ twice (sources_in i.operands))
  where
    twice : (rs : List ℕ) → map (type_in phase f) (map (stand_in d s) rs) ≡ map (type_in phase f) rs
    twice [] = refl
    twice (r ∷ rs) = ap₂ (λ a l. a ∷ l) (type_stands x phase f id d s c r) (twice rs)

stand_kept : (x : ℕ) (stage : RuleStage) (f : FunctionData) (id d s : ℕ) → IsCopied x (phase_at stage) f id d s → stand_at x stage f ≡ true → stand_at x stage (with_reg_replaced d s f) ≡ true
stand_kept x stage f id d s c stand =
    ap₂ (λ a b. a && b)
    (all_tested d s f (λ p. is_of_stage x stage p.1) (λ p. is_of_stage x stage p.1) (λ p. of_stage x stage d s p.1))
    (all_tested d s f (λ p. is_accepted x (type_in (phase_at stage) f) p.1) (λ p. is_accepted x (type_in (phase_at stage) (with_reg_replaced d s f)) p.1) (λ p. accepted_kept x (phase_at stage) f id d s c p.1))
    ∙ stand

pub propagated_at : (x : ℕ) (stage : RuleStage) (names : List (List ℕ)) (f : FunctionData) (id d s : ℕ) → IsGoodAt x stage names f → IsCopy f id d s → IsGoodAt x stage names (propagated f id d s)
propagated_at x stage names f id d s good copy =
    let c : IsCopied x (phase_at stage) f id d s = copied_of x (phase_at stage) names f id d s good.good copy in
    let now : IsGoodAt x stage names (with_reg_replaced d s f) = record { good = replaced_good x (phase_at stage) names f id d s good.good copy; banked = good.banked; stand = stand_kept x stage f id d s c good.stand } in
    all_erased_at x stage names (with_reg_replaced d s f) (id ∷ []) now (live_kept d s id f copy.live, copy_dead x (phase_at stage) f id d s c, tt)

-- ══ One after another ══

pub all_propagated_good : (x : ℕ) (phase : Phase) (names : List (List ℕ)) (f : FunctionData) (cs : List CopyData) → IsGood x phase names f → AreCopies f cs → IsGood x phase names (all_propagated f cs)
all_propagated_good x phase names f [] good copies = good
all_propagated_good x phase names f (c ∷ cs) good copies = all_propagated_good x phase names (propagated f c.id c.d c.s) cs (propagated_good x phase names f c.id c.d c.s good copies.0) copies.1

pub all_propagated_refine : (x : ℕ) (phase : Phase) (names : List (List ℕ)) (f : FunctionData) (cs : List CopyData) → IsGood x phase names f → AreCopies f cs → RefinesUnchecked x names f (all_propagated f cs)
all_propagated_refine x phase names f [] good copies = refines_itself x names f
all_propagated_refine x phase names f (c ∷ cs) good copies =
    refines_through x names f (propagated f c.id c.d c.s) (all_propagated f (c ∷ cs)) (propagated_refines x phase names f c.id c.d c.s good copies.0)
    (all_propagated_refine x phase names (propagated f c.id c.d c.s) cs (propagated_good x phase names f c.id c.d c.s good copies.0) copies.1)

pub all_propagated_at : (x : ℕ) (stage : RuleStage) (names : List (List ℕ)) (f : FunctionData) (cs : List CopyData) → IsGoodAt x stage names f → AreCopies f cs → IsGoodAt x stage names (all_propagated f cs)
all_propagated_at x stage names f [] good copies = good
all_propagated_at x stage names f (c ∷ cs) good copies = all_propagated_at x stage names (propagated f c.id c.d c.s) cs (propagated_at x stage names f c.id c.d c.s good copies.0) copies.1
