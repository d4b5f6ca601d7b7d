use Rattle.gi_mir.specs.Edit.{block_at}
use Rattle.gi_verify.proofs.Masking.{AreUsedFrom}
use Rattle.gi_verify.proofs.effects.used_behind.Given as goal

abbrev pub invariant-loop-done : goal.invariant-loop-done
invariant-loop-done l = AreUsedFrom (block_at l.function l.b).instrs l.done l.used.items l.behind
