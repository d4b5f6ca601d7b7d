use Rattle.gi_spelling.proofs.SamePrintable.{same_printable}
use Rattle.gi_spelling.proofs.one.same_modules_are_printable.Goals as goal

pub returns : goal.returns
returns c = same_printable
