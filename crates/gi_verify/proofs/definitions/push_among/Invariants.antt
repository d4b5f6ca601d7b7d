use Rattle.std.proofs.Common.{◌≡◌, ◌++◌}
use Rattle.gi_mir.specs.Instrs.{left}
use Rattle.gi_valid.specs.Faults.{definitions}
use Rattle.gi_verify.proofs.definitions.push_among.Given as goal

abbrev pub invariant-loop-numbered : goal.invariant-loop-numbered
invariant-loop-numbered l = l.out.items ++ definitions (left l.numbered-iterator) ≡ l.fn.out.items ++ definitions (left l.instrs)
