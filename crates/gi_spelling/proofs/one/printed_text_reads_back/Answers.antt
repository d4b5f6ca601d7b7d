use Rattle.gi_spelling.proofs.PrintedTexts.{printed_spells}
use Rattle.gi_spelling.proofs.ReadsBack.{numbered_spells, reads_back, prints_again}
use Rattle.gi_spelling.proofs.one.printed_text_reads_back.Goals as goal

pub returns : goal.returns
returns c = record { spelled = numbered_spells printed_spells; same = reads_back printed_spells; again = prints_again printed_spells }
