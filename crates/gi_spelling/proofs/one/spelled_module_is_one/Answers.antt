use Rattle.gi_spelling.proofs.OneModule.{spelled_one}
use Rattle.gi_spelling.proofs.one.spelled_module_is_one.Goals as goal

pub returns : goal.returns
returns c = spelled_one
