use Rattle.std.proofs.Common.{◌≡◌, ◌+◌, length}
use Rattle.gi_mir.specs.Arena.{chain}
use Rattle.gi_mir.specs.Instrs.{left}
use Rattle.gi_mir.proofs.instrs.chain_length.Given as goal

-- those passed, and those that are left
abbrev pub invariant-loop-numbered : goal.invariant-loop-numbered
invariant-loop-numbered l = l.length + length (left l.numbered-iterator) ≡ length (chain l.slots l.count l.fn.next)
