use Rattle.gi_spelling.proofs.PrintedTexts.{printed_spells}
use Rattle.gi_spelling.proofs.laws.printed_text_spells.Goals as goal

pub returns : goal.returns
returns c = printed_spells
