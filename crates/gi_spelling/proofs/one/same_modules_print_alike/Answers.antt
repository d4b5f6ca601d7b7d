use Rattle.gi_spelling.proofs.SamePrints.{printed_alike}
use Rattle.gi_spelling.proofs.one.same_modules_print_alike.Goals as goal

pub returns : goal.returns
returns c = printed_alike
