use Rattle.gi_mir.specs.Groups.{group_at}
use Rattle.gi_mir.proofs.row.group.Goals as goal

pub returns : goal.returns
unfolding group_at
returns c = c.opcodes_at.ensures
