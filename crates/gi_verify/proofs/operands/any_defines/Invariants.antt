use Rattle.std.proofs.Common.{◌≡◌}
use Rattle.std.specs.List.{list_any}
use Rattle.gi_mir.specs.Instrs.{left}
use Rattle.gi_mir.specs.Edit.{defines}
use Rattle.gi_verify.proofs.operands.any_defines.Given as goal

abbrev pub invariant-loop-numbered : goal.invariant-loop-numbered
invariant-loop-numbered l = list_any (defines l.r) (left l.instrs) ≡ list_any (defines l.r) (left l.numbered-iterator)
