use Rattle.gi_mir.specs.Instrs.{left}
use Rattle.gi_verify.proofs.Missing.{AreThere}
use Rattle.gi_verify.proofs.uses.missing_among.Given as goal

-- those passed are there
abbrev pub invariant-loop-k : goal.invariant-loop-k
invariant-loop-k l = AreThere l.function l.b (left l.front) l.operands l.k
