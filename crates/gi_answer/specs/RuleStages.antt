-- The stage at which rules begin to run, behind each pass at which a text may start.
use Rattle.gi_observe.specs.declared.pass.Pass.{Pass}
use Rattle.gi_observe.specs.declared.pass.Pass.TheVariants.{IrTranslator, PreCombiner, Legalizer, PostCombiner, RegBankSelect, Select}
use Rattle.gi_rule_refines.specs.declared.stages.RuleStage.{RuleStage}
use Rattle.gi_rule_refines.specs.declared.stages.RuleStage.TheVariants.{Before, Legalized, Banked, Selected}

abbrev pub rule_stage_after : Pass → RuleStage
rule_stage_after IrTranslator = Before
rule_stage_after PreCombiner = Before
rule_stage_after Legalizer = Legalized
rule_stage_after PostCombiner = Legalized
rule_stage_after RegBankSelect = Banked
rule_stage_after Select = Selected
