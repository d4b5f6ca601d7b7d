use Rattle.gi_valid.proofs.Telling.{valid_or_told}
use Rattle.gi_valid.proofs.laws.each_function_is_one.Goals as goal

pub returns : goal.returns
returns c = valid_or_told
