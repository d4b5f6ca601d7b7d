use Rattle.gi_spelling.proofs.PrintedTexts.{printed_spells}
use Rattle.gi_spelling.proofs.ReadsBack.{told_apart}
use Rattle.gi_spelling.proofs.one.modules_printed_alike_are_the_same.Goals as goal

pub returns : goal.returns
returns c = told_apart printed_spells
