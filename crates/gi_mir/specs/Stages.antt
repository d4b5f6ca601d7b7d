-- The stages of a function: which opcodes stand in each, and of what kind its registers are.
use Rattle.std.specs.Prelude.{Bool, true, false}
use Rattle.gi_mir.specs.declared.entry.Standing.{Standing}
use Rattle.gi_mir.specs.declared.entry.Standing.TheVariants as standing
use Rattle.gi_mir.specs.declared.opcode.Opcode.{Opcode}
use Rattle.gi_mir.specs.declared.operand.Kind.{Kind}
use Rattle.gi_mir.specs.declared.operand.Kind.TheVariants.{Generic, Banked, Class}
use Rattle.gi_mir.specs.declared.stage.Stage.{Stage}
use Rattle.gi_mir.specs.declared.stage.Stage.TheVariants as stage
use Rattle.gi_mir.specs.Row.{standing_of}

-- what stands in a stage: before the last one generic opcodes, in the last one those of the target, and in each
-- stage those that stand in both
abbrev pub stands_in : Stage → Standing → Bool
stands_in _ standing.Both = true
stands_in stage.Selected standing.Generic = false
stands_in stage.Selected standing.Target = true
stands_in _ standing.Generic = true
stands_in _ standing.Target = false

abbrev pub is_opcode_of : Stage → Opcode → Bool
is_opcode_of stage op = stands_in stage (standing_of op)

-- `_`, `_`, `gprb` and `gpr`
abbrev pub is_kind_of : Stage → Kind → Bool
is_kind_of stage.Before (Generic ty) = true
is_kind_of stage.Legalized (Generic ty) = true
is_kind_of stage.Banked (Banked ty) = true
is_kind_of stage.Selected Class = true
is_kind_of _ _ = false

abbrev pub is_before_selection : Standing → Bool
is_before_selection standing.Generic = true
is_before_selection _ = false
