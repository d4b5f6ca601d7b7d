-- What the checks of a module say of its functions, at a stage before selection.
use Rattle.std.specs.Prelude.{◌≡◌, ℕ, []}
use Rattle.std.specs.List.{AllByRecursion}
use Rattle.gi_mir.specs.Data.{FunctionData, ModuleData}
use Rattle.gi_rules.specs.Fitting.{illegal_in}
use Rattle.gi_valid.specs.Typing.{Typed}
use Rattle.gi_valid.specs.Valid.{IsValid}
use Rattle.gi_rule_refines.specs.Stages.{has_banks, registers_of}
use Rattle.gi_rule_refines.specs.declared.stages.RuleStage.{RuleStage}

-- the verifier takes it, no instruction is told as one that doesn't fit the stage, and its key tells whether registers are in banks
pub record IsCheckedAt (x : ℕ) (stage : RuleStage) (f : FunctionData) : Type 0 where
  pub valid : IsValid x Typed f
  pub fits : illegal_in x (registers_of stage) f ≡ []
  pub banked : f.banked ≡ has_banks stage

-- so it is with each function
pub record AreCheckedAt (x : ℕ) (stage : RuleStage) (m : ModuleData) : Type 0 where
  pub each : AllByRecursion (IsCheckedAt x stage) m.functions
