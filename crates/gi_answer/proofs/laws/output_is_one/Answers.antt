use Rattle.gi_answer.proofs.OneOutput.{one_output}
use Rattle.gi_answer.proofs.laws.output_is_one.Goals as goal

pub returns : goal.returns
returns c = one_output
