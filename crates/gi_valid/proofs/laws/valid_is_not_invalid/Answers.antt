use Rattle.gi_valid.proofs.Greatest.{valid_or_invalid}
use Rattle.gi_valid.proofs.laws.valid_is_not_invalid.Goals as goal

pub returns : goal.returns
returns c = valid_or_invalid
