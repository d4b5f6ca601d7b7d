use Rattle.gi_rule_refines.proofs.WasRead.{read_good}
use Rattle.gi_rule_refines.proofs.reading.read_function_is_good.Goals as goal

pub returns : goal.returns
returns c = read_good
