use Rattle.gi_text.proofs.LawLemmas.{table_of}
use Rattle.gi_text.proofs.laws.tokens_are_of_the_table.Goals as goal

pub returns : goal.returns
returns c = table_of
