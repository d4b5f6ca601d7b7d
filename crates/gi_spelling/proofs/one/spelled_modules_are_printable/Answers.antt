use Rattle.gi_spelling.proofs.SpelledPrintable.{spelled_printable}
use Rattle.gi_spelling.proofs.one.spelled_modules_are_printable.Goals as goal

pub returns : goal.returns
returns c = spelled_printable
