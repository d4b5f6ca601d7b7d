use Rattle.std.proofs.Common.{◌≡◌}
use Rattle.gi_mir.specs.Instrs.{left}
use Rattle.gi_valid.specs.Faults.{last_line}
use Rattle.gi_verify.proofs.site.last_line.Given as goal

abbrev pub invariant-loop-numbered : goal.invariant-loop-numbered
invariant-loop-numbered l = last_line l.last (left l.numbered-iterator) ≡ last_line l.line (left l.instrs)
