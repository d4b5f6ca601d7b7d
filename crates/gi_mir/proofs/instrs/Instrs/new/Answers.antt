use Rattle.std.proofs.Common.{refl}
use Rattle.gi_mir.specs.Instrs.{left}
use Rattle.gi_mir.proofs.instrs.Instrs.new.Goals as goal

pub returns : goal.returns
unfolding left
returns c = refl
