use Rattle.std.proofs.Common.{◌≡◌}
use Rattle.gi_mir.specs.Instrs.{left}
use Rattle.gi_spelling.specs.Printed.{falls_through}
use Rattle.gi_mir_print.proofs.LineLemmas.{falls_behind}
use Rattle.gi_mir_print.proofs.blocks.falls_through.Given as goal

-- what is left decides behind those passed
abbrev pub invariant-loop-numbered : goal.invariant-loop-numbered
invariant-loop-numbered l = falls_through (left l.instrs) ≡ falls_behind l.goes (left l.numbered-iterator)
