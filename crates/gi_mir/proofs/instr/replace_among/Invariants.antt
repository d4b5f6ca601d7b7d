use Rattle.std.proofs.Common.{◌≡◌, ◌++◌, take, drop, map}
use Rattle.gi_mir.specs.Uses.{operand_replaced}
use Rattle.gi_mir.proofs.instr.replace_among.Given as goal

abbrev pub invariant-loop-x : goal.invariant-loop-x
invariant-loop-x l = l.operands ≡ map (operand_replaced l.old.0 l.new.0) (take l.x-index l.initial.operands) ++ drop l.x-index l.initial.operands
