use Rattle.gi_spelling.proofs.PrintedTexts.{printed_spells}
use Rattle.gi_spelling.proofs.ReadsBack.{some_spells, some_read, some_again}
use Rattle.gi_spelling.proofs.one.modules_of_texts_read_back.Goals as goal

pub returns : goal.returns
returns c = record { spelled = some_spells printed_spells; same = some_read printed_spells; again = some_again printed_spells }
