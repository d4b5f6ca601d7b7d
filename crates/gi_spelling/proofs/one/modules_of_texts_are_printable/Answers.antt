use Rattle.gi_spelling.proofs.ReadsBack.{some_printable}
use Rattle.gi_spelling.proofs.one.modules_of_texts_are_printable.Goals as goal

pub returns : goal.returns
returns c = some_printable
