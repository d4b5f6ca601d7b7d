use Rattle.std.proofs.Common.{◌≡◌}
use Rattle.std.specs.Prelude.{fold}
use Rattle.gi_mir.specs.Instrs.{left}
use Rattle.gi_registers.specs.Noted.{with_instr}
use Rattle.gi_registers.proofs.kinds.RegisterKinds.note_instrs.Given as goal

-- noting what is left ends as noting all
abbrev pub invariant-loop-numbered : goal.invariant-loop-numbered
invariant-loop-numbered l = fold with_instr l.self (left l.numbered-iterator) ≡ fold with_instr l.fn.self (left l.instrs)
