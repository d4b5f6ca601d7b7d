use Rattle.gi_spelling.proofs.NumberedSame.{numbered_same}
use Rattle.gi_spelling.proofs.one.same_modules_are_numbered_alike.Goals as goal

pub returns : goal.returns
returns c = numbered_same
