use Rattle.std.proofs.Common.{rules}
use Rattle.gi_mir_print.proofs.pieces.push_name.Goals as goal

pub returns : goal.returns
returns c = rw (← c.name.ensures) (search rules)
