use Rattle.gi_answer.proofs.LegalOutput.{output_legal}
use Rattle.gi_answer.proofs.laws.output_is_legal.Goals as goal

pub returns : goal.returns
returns c = output_legal
