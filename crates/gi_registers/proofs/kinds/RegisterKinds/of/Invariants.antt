use Rattle.std.proofs.Common.{◌≡◌, [], drop}
use Rattle.std.specs.Prelude.{fold}
use Rattle.gi_registers.specs.Noted.{with_block}
use Rattle.gi_registers.proofs.kinds.RegisterKinds.of.Given as goal

-- noting what is left ends as noting all
abbrev pub invariant-loop-block : goal.invariant-loop-block
invariant-loop-block l = fold with_block l.kinds (drop l.block l.function.blocks) ≡ fold with_block [] l.function.blocks
