use Rattle.gi_spelling.proofs.NumberedAgain.{numbered_again}
use Rattle.gi_spelling.proofs.one.numbered_again.Goals as goal

pub returns : goal.returns
returns c = numbered_again
