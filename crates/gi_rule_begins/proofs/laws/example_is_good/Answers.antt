use Rattle.gi_rule_begins.proofs.Example.{sum_checked, sum_good, sum_read}
use Rattle.gi_rule_begins.proofs.laws.example_is_good.Goals as goal

pub returns-clause-reads : goal.returns-clause-reads
returns-clause-reads c = sum_read

pub returns-clause-checked : goal.returns-clause-checked
returns-clause-checked c = sum_checked

pub returns-clause-good : goal.returns-clause-good
returns-clause-good c = sum_good
