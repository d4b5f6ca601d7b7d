use Rattle.gi_spelling.proofs.AddExample.{spells_stated, spells_selected}
use Rattle.gi_spelling.proofs.laws.example_texts_spell.Goals as goal

pub returns : goal.returns
returns c = record { stated = spells_stated; chosen = spells_selected }
