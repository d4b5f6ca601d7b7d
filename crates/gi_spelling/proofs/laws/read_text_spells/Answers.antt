use Rattle.gi_spelling.proofs.ReadSpells.{read_spelled}
use Rattle.gi_spelling.proofs.laws.read_text_spells.Goals as goal

pub returns : goal.returns
returns c = read_spelled
