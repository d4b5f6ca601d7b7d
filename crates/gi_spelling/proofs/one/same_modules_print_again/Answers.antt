use Rattle.gi_spelling.proofs.ReadsBack.{printed_again}
use Rattle.gi_spelling.proofs.one.same_modules_print_again.Goals as goal

pub returns : goal.returns
returns c = printed_again
