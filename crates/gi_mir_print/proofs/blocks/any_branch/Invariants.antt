use Rattle.std.proofs.Common.{◌≡◌}
use Rattle.std.specs.List.{list_any}
use Rattle.gi_mir.specs.Instrs.{left}
use Rattle.gi_mir_print.specs.Shown.{has_target}
use Rattle.gi_mir_print.proofs.blocks.any_branch.Given as goal

abbrev pub invariant-loop-numbered : goal.invariant-loop-numbered
invariant-loop-numbered l = list_any has_target (left l.instrs) ≡ list_any has_target (left l.numbered-iterator)
