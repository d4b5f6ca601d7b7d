-- Stages at which rules run, what is asked of a function there, and which rewrites may be made.
use Rattle.std.specs.Prelude.{◌≡◌, ℕ, ◌+◌, Bool, true, false, ◌&&◌, ◌||◌, List, [], ◌∷◌, Option, Some, None, map}
use Rattle.std.specs.List.{list_all}
use Rattle.gi_llt.specs.declared.Llt.{Llt}
use Rattle.gi_mir.specs.Accepted.{is_result_type, is_source_type}
use Rattle.gi_mir.specs.Data.{InstrData, FunctionData}
use Rattle.gi_mir.specs.Edit.{all_instrs}
use Rattle.gi_mir.specs.declared.opcode.Opcode.{Opcode}
use Rattle.gi_mir.specs.declared.stage.Stage.{Stage}
use Rattle.gi_mir.specs.declared.stage.Stage.TheVariants as function_stage
use Rattle.gi_meaning.specs.InRow.{results_in, sources_in}
use Rattle.gi_rules.specs.Fitting.{is_defined_in, stands_on}
use Rattle.gi_valid.specs.Typing.{Phase, Typed, Selecting, Untyped, type_in}
use Rattle.gi_rule_values.specs.Data.{RewriteData}
use Rattle.gi_rule_valid.specs.Keeping.{on_each}
use Rattle.gi_rule_valid.specs.Using.{UseData, rewritten_at}
use Rattle.gi_rule_refines.specs.Good.{IsGood, IsGoodRewrite, IsMade}
use Rattle.gi_rule_refines.specs.declared.stages.RuleStage.{RuleStage}
use Rattle.gi_rule_refines.specs.declared.stages.RuleStage.TheVariants as at

-- ══ A stage ══

-- whether registers have types
abbrev pub phase_at : RuleStage → Phase
phase_at at.Selecting = Selecting
phase_at at.Selected = Untyped
phase_at _ = Typed

-- the stage of a function that has such registers: while selection goes on they have banks
abbrev pub registers_of : RuleStage → Stage
registers_of at.Before = function_stage.Before
registers_of at.Legalized = function_stage.Legalized
registers_of at.Banked = function_stage.Banked
registers_of at.Selecting = function_stage.Banked
registers_of at.Selected = function_stage.Selected

abbrev pub has_banks : RuleStage → Bool
has_banks at.Banked = true
has_banks at.Selecting = true
has_banks _ = false

-- while selection goes on, opcodes of before and behind it
abbrev pub has_opcode : (x : ℕ) → RuleStage → Opcode → Bool
has_opcode x at.Selecting op = stands_on x function_stage.Banked op || stands_on x function_stage.Selected op
has_opcode x stage op = stands_on x (registers_of stage) op

-- ══ An instruction ══

-- each type alone passes, in order of places
abbrev pub each_passes : (test : ℕ → Llt → Bool) → (place : ℕ) → List (Option Llt) → Bool
each_passes test place [] = true
each_passes test place (None ∷ types) = false
each_passes test place (Some ty ∷ types) = test place ty && each_passes test (place + 1) types

-- the opcode accepts each type
abbrev pub is_accepted : (x : ℕ) → (type_of : ℕ → Option Llt) → InstrData → Bool
is_accepted x type_of i =
    each_passes (is_result_type x i.op) 0 (map type_of (results_in i.operands)) && each_passes (is_source_type x i.op) 0 (map type_of (sources_in i.operands))

-- the opcode and the registers that are defined are of the stage
abbrev pub is_of_stage : (x : ℕ) → RuleStage → InstrData → Bool
is_of_stage x stage i = has_opcode x stage i.op && list_all (is_defined_in (registers_of stage)) i.operands

-- ══ A function ══

abbrev pub are_accepted : (x : ℕ) → Phase → FunctionData → Bool
are_accepted x phase f = list_all (λ p. is_accepted x (type_in phase f) p.1) (all_instrs f.blocks)

abbrev pub stand_at : (x : ℕ) → RuleStage → FunctionData → Bool
stand_at x stage f = list_all (λ p. is_of_stage x stage p.1) (all_instrs f.blocks) && are_accepted x (phase_at stage) f

-- It is good in the stage's phase; its registers are in banks where they are so at the stage; and its instructions are of the
-- stage, and accept each type that they have.
pub record IsGoodAt (x : ℕ) (stage : RuleStage) (names : List (List ℕ)) (f : FunctionData) : Type 0 where
  pub good : IsGood x (phase_at stage) names f
  pub banked : f.banked ≡ has_banks stage
  pub stand : stand_at x stage f ≡ true

-- ══ A rewrite ══

-- what is made is of the stage, and accepts its types
abbrev pub may_be_made : (x : ℕ) → RuleStage → RewriteData → Bool
may_be_made x stage rewrite = list_all (λ o. has_opcode x stage o.op) rewrite.made && on_each (is_accepted x) rewrite.inputs rewrite.made

-- a rewrite that is good in the stage's phase, and may be made
pub record IsGoodRewriteAt (x : ℕ) (stage : RuleStage) (rewrite : RewriteData) : Type 0 where
  pub good : IsGoodRewrite x (phase_at stage) rewrite
  pub may : may_be_made x stage rewrite ≡ true

-- one that fits at a live instruction
pub record IsMadeAt (x : ℕ) (stage : RuleStage) (f : FunctionData) (id : ℕ) (u : UseData) : Type 0 where
  pub made : IsMade x (phase_at stage) f id u
  pub may : may_be_made x stage u.rewrite ≡ true

-- each fits in what those before it made
abbrev pub AreMadeAt : (x : ℕ) → RuleStage → FunctionData → List (ℕ × UseData) → Type 0
AreMadeAt x stage f [] = Unit {0}
AreMadeAt x stage f (p ∷ us) = IsMadeAt x stage f p.0 p.1 × AreMadeAt x stage (rewritten_at f p.0 p.1) us
