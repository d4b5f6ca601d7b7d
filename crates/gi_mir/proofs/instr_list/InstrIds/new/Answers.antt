use Rattle.std.proofs.Common.{refl}
use Rattle.gi_mir.specs.InstrLists.{ids_left}
use Rattle.gi_mir.proofs.instr_list.InstrIds.new.Goals as goal

pub returns : goal.returns
unfolding ids_left
returns c = refl
