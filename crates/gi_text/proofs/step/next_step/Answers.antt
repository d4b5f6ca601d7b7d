use Rattle.gi_text.proofs.StepLemmas.{step_within_rest}
use Rattle.gi_text.proofs.step.next_step.Goals as goal

pub returns-in-len1-up-clause-within : goal.returns-in-len1-up-clause-within
returns-in-len1-up-clause-within c = step_within_rest c.step_from.result c.args.bytes.now c.in-len1-up.len_at_least c.step_from.ensures
