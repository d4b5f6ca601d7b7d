use Rattle.gi_text.proofs.LawLemmas.{none_of}
use Rattle.gi_text.proofs.laws.refused_is_not_of_the_table.Goals as goal

pub returns : goal.returns
returns c = none_of
