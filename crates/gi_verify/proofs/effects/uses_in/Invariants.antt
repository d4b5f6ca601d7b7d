use Rattle.std.proofs.Common.{take}
use Rattle.std.specs.List.{list_any}
use Rattle.gi_valid.specs.Definitions.{is_physical_use_of}
use Rattle.gi_verify.specs.Masks.{IsMaskOf}
use Rattle.gi_verify.proofs.effects.uses_in.Given as goal

-- those of the operands passed
abbrev pub invariant-loop-operand : goal.invariant-loop-operand
invariant-loop-operand l = IsMaskOf (λ n. list_any (is_physical_use_of n) (take l.operand-index l.operands)) l.mask
