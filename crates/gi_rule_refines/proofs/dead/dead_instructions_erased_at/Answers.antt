use Rattle.gi_rule_refines.proofs.ErasedAt.{all_erased_at}
use Rattle.gi_rule_refines.proofs.dead.dead_instructions_erased_at.Goals as goal

pub returns : goal.returns
returns c = all_erased_at
