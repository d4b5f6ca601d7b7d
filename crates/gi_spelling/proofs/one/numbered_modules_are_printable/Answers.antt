use Rattle.gi_spelling.proofs.NumberedPrintable.{numbered_printable}
use Rattle.gi_spelling.proofs.one.numbered_modules_are_printable.Goals as goal

pub returns : goal.returns
returns c = numbered_printable
