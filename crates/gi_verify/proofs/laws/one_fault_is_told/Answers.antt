use Rattle.gi_verify.proofs.Same.{one_is_told}
use Rattle.gi_verify.proofs.laws.one_fault_is_told.Goals as goal

pub returns : goal.returns
returns c = one_is_told
