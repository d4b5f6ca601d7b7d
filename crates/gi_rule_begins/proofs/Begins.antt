-- A function of a module that was read and checked is good.
use Rattle.std.proofs.Common.{◌≡◌, ◌⊎◌, ℕ, zero, suc, true, List, [], ◌∷◌, Some, slice_get, refl, subst}
use Rattle.std.proofs.lemmas.Bool.{and_from}
use Rattle.std.specs.List.{AllByRecursion, list_all}
use Rattle.gi_mir.specs.Data.{FunctionData, ModuleData}
use Rattle.gi_mir.specs.Edit.{all_instrs}
use Rattle.gi_spelling.specs.Printable.{counts_of}
use Rattle.gi_spelling.specs.Read.{IsReadModule}
use Rattle.gi_spelling.specs.There.{NamesBlocksThatAreThere, names_blocks_there}
use Rattle.gi_spelling.proofs.ReadSpells.{read_spelled}
use Rattle.gi_spelling.proofs.SpelledPrintable.{spelled_printable}
use Rattle.gi_valid.specs.Typing.{Typed}
use Rattle.gi_change_refines.specs.Sized.{are_formed}
use Rattle.gi_rule_refines.specs.Stages.{IsGoodAt, is_of_stage, phase_at}
use Rattle.gi_rule_refines.specs.declared.stages.RuleStage.{RuleStage}
use Rattle.gi_rule_refines.proofs.WasRead.{blocks_fit, blocks_formed, one_of, read_good}
use Rattle.gi_rule_begins.specs.Checked.{AreCheckedAt, IsCheckedAt}
use Rattle.gi_rule_begins.proofs.BlocksThere.{valid_there}
use Rattle.gi_rule_begins.proofs.ReadNumbers.{read_numbered}
use Rattle.gi_rule_begins.proofs.Typed.{all_accepted}

one_checked : (x : ℕ) (stage : RuleStage) (fs : List FunctionData) (place : ℕ) (f : FunctionData) → AllByRecursion (IsCheckedAt x stage) fs → slice_get fs place ≡ Some f → IsCheckedAt x stage f
one_checked x stage [] place f each there = cc
one_checked x stage (g ∷ fs) zero f each there = let same : g ≡ f = cc in subst (IsCheckedAt x stage) same each.0
one_checked x stage (g ∷ fs) (suc place) f each there = one_checked x stage fs place f each.1 there

all_there : (x : ℕ) (stage : RuleStage) (fs : List FunctionData) → AllByRecursion (IsCheckedAt x stage) fs → list_all names_blocks_there fs ≡ true
all_there x stage [] each = refl
all_there x stage (f ∷ fs) each = and_from (names_blocks_there f) (list_all names_blocks_there fs) (valid_there x Typed f each.0.valid) (all_there x stage fs each.1)

pub checked_good : (x : ℕ) (stage : RuleStage) (names : List (List ℕ)) (text : List ℕ) (m : ModuleData) (place : ℕ) (f : FunctionData) → (x ≡ 32) ⊎ (x ≡ 64) → phase_at stage ≡ Typed → IsReadModule text m → AreCheckedAt x stage m
    → slice_get m.functions place ≡ Some f → IsGoodAt x stage names f
checked_good x stage names text m place f word phase read checked there =
    let own : IsCheckedAt x stage f = one_checked x stage m.functions place f checked.each there in
    let named : NamesBlocksThatAreThere m = record { each = all_there x stage m.functions checked.each } in
    let formed : are_formed f ≡ true = blocks_formed m.names (counts_of f) f.blocks (one_of m.names m.functions place f (spelled_printable text m (read_spelled text m read) named).functions there).blocks in
    let stands : list_all (λ p. is_of_stage x stage p.1) (all_instrs f.blocks) ≡ true = blocks_fit x stage f f.blocks phase own.fits in
    read_good x stage names text m place f word phase read named there own.valid own.fits (all_accepted x stage f phase own.valid stands formed) (read_numbered text m place f read there) own.banked
