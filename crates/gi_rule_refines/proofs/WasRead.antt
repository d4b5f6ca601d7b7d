-- A function that was read is good at its stage.
use Rattle.std.proofs.Common.{◌≡◌, ◌⊎◌, ℕ, zero, suc, Bool, true, false, cond, ◌&&◌, List, [], ◌∷◌, Some, None, slice_get, refl, sym, ◌∙◌, subst}
use Rattle.std.proofs.lemmas.Bool.{and_from, and_parts}
use Rattle.std.proofs.lemmas.List.Folds.{list_all-append}
use Rattle.std.specs.List.{AllByRecursion, cons_option, list_all}
use Rattle.gi_mir.specs.Data.{BlockData, FunctionData, InstrData, ModuleData}
use Rattle.gi_mir.specs.Edit.{all_instrs}
use Rattle.gi_mir.specs.Formed.{is_formed}
use Rattle.gi_rules.specs.Fitting.{fits_stage, has_legalized, illegal_in, illegal_in_blocks, illegal_in_instrs, is_defined_in, stands_on}
use Rattle.gi_rules.specs.Legal.{is_legal}
use Rattle.gi_spelling.specs.Printable.{Counts, IsPrintableBlock, IsPrintableFunction, IsPrintableInstr, counts_of}
use Rattle.gi_spelling.specs.Read.{IsReadModule}
use Rattle.gi_spelling.specs.There.{NamesBlocksThatAreThere}
use Rattle.gi_spelling.proofs.ReadSpells.{read_spelled}
use Rattle.gi_spelling.proofs.SpelledPrintable.{spelled_printable}
use Rattle.gi_valid.specs.Typing.{Typed}
use Rattle.gi_valid.specs.Valid.{IsValid}
use Rattle.gi_valid.proofs.Sited.{nothing_in_either}
use Rattle.gi_change_refines.specs.Numbered.{is_numbered}
use Rattle.gi_rule_refines.specs.Stages.{IsGoodAt, are_accepted, has_banks, has_opcode, is_of_stage, phase_at, registers_of}
use Rattle.gi_rule_refines.specs.declared.stages.RuleStage.{RuleStage}
use Rattle.gi_rule_refines.specs.declared.stages.RuleStage.TheVariants as at
use Rattle.gi_rule_refines.proofs.Begun.{checked}

-- ══ Formed ══

instrs_formed : (names : List (List ℕ)) (counts : Counts) (is : List (ℕ × InstrData)) → AllByRecursion (IsPrintableInstr names counts) is → list_all (λ p. is_formed p.1) is ≡ true
instrs_formed names counts [] each = refl
instrs_formed names counts (p ∷ is) each = and_from (is_formed p.1) (list_all (λ p. is_formed p.1) is) each.0.formed (instrs_formed names counts is each.1)

pub blocks_formed : (names : List (List ℕ)) (counts : Counts) (blocks : List BlockData) → AllByRecursion (IsPrintableBlock names counts) blocks → list_all (λ p. is_formed p.1) (all_instrs blocks) ≡ true
blocks_formed names counts [] each = refl
blocks_formed names counts (block ∷ blocks) each =
    list_all-append (λ p. is_formed p.1) block.instrs (all_instrs blocks) ∙ and_from _ _ (instrs_formed names counts block.instrs each.0.instrs) (blocks_formed names counts blocks each.1)

pub one_of : (names : List (List ℕ)) (fs : List FunctionData) (place : ℕ) (f : FunctionData) → AllByRecursion (IsPrintableFunction names) fs → slice_get fs place ≡ Some f → IsPrintableFunction names f
one_of names [] place f each there = cc
one_of names (g ∷ fs) zero f each there = let same : g ≡ f = cc in subst (IsPrintableFunction names) same each.0
one_of names (g ∷ fs) (suc place) f each there = one_of names fs place f each.1 there

-- ══ Of the stage ══

fits_one : (x : ℕ) (stage : RuleStage) (f : FunctionData) (i : InstrData) → phase_at stage ≡ Typed → fits_stage x (registers_of stage) f i ≡ true → is_of_stage x stage i ≡ true
fits_one x stage f i phase fits =
    let outer = and_parts (stands_on x (registers_of stage) i.op && list_all (is_defined_in (registers_of stage)) i.operands) (cond (has_legalized (registers_of stage)) (is_legal x f i) true) fits in
    let inner = and_parts (stands_on x (registers_of stage) i.op) (list_all (is_defined_in (registers_of stage)) i.operands) outer.0 in
    and_from (has_opcode x stage i.op) (list_all (is_defined_in (registers_of stage)) i.operands) (by stage phase inner.0) inner.1
  where
    by : (stage : RuleStage) → phase_at stage ≡ Typed → stands_on x (registers_of stage) i.op ≡ true → has_opcode x stage i.op ≡ true
    by at.Before phase h = h
    by at.Legalized phase h = h
    by at.Banked phase h = h
    by at.Selecting phase h = cc
    by at.Selected phase h = cc

instrs_fit : (x : ℕ) (stage : RuleStage) (f : FunctionData) (is : List (ℕ × InstrData)) → phase_at stage ≡ Typed → illegal_in_instrs x (registers_of stage) f is ≡ [] → list_all (λ p. is_of_stage x stage p.1) is ≡ true
instrs_fit x stage f [] phase none = refl
instrs_fit x stage f (p ∷ is) phase none = by (fits_stage x (registers_of stage) f p.1) (λ later. instrs_fit x stage f is phase later) refl none
  where
    by : (fits : Bool) → (illegal_in_instrs x (registers_of stage) f is ≡ [] → list_all (λ p. is_of_stage x stage p.1) is ≡ true) → fits_stage x (registers_of stage) f p.1 ≡ fits → cons_option (cond fits None (Some (p.1.line, p.1.op))) (illegal_in_instrs x (registers_of stage) f is) ≡ [] → list_all (λ p. is_of_stage x stage p.1) (p ∷ is) ≡ true
    by true rest so none = and_from (is_of_stage x stage p.1) _ (fits_one x stage f p.1 phase so) (rest none)
    by false rest so none = cc

pub blocks_fit : (x : ℕ) (stage : RuleStage) (f : FunctionData) (blocks : List BlockData) → phase_at stage ≡ Typed → illegal_in_blocks x (registers_of stage) f blocks ≡ [] → list_all (λ p. is_of_stage x stage p.1) (all_instrs blocks) ≡ true
blocks_fit x stage f [] phase none = refl
blocks_fit x stage f (block ∷ blocks) phase none =
    let each = nothing_in_either (illegal_in_instrs x (registers_of stage) f block.instrs) (illegal_in_blocks x (registers_of stage) f blocks) none in
    list_all-append (λ p. is_of_stage x stage p.1) block.instrs (all_instrs blocks) ∙ and_from _ _ (instrs_fit x stage f block.instrs phase each.0) (blocks_fit x stage f blocks phase each.1)

-- ══ A function ══

pub read_good : (x : ℕ) (stage : RuleStage) (names : List (List ℕ)) (text : List ℕ) (m : ModuleData) (place : ℕ) (f : FunctionData) → (x ≡ 32) ⊎ (x ≡ 64) → phase_at stage ≡ Typed → IsReadModule text m → NamesBlocksThatAreThere m
    → slice_get m.functions place ≡ Some f → IsValid x Typed f → illegal_in x (registers_of stage) f ≡ [] → are_accepted x Typed f ≡ true → is_numbered f ≡ true → f.banked ≡ has_banks stage → IsGoodAt x stage names f
read_good x stage names text m place f word phase read names_there there valid legal accepted numbered banked =
    checked x stage names f word phase valid numbered
    (blocks_formed m.names (counts_of f) f.blocks (one_of m.names m.functions place f (spelled_printable text m (read_spelled text m read) names_there).functions there).blocks) banked
    (and_from _ _ (blocks_fit x stage f f.blocks phase legal) (subst (λ q. are_accepted x q f ≡ true) (sym phase) accepted))
