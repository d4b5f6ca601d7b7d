use Rattle.gi_rule_values.proofs.ByNumbers.{sound_by_numbers}
use Rattle.gi_rule_values.proofs.laws.sound_by_numbers.Goals as goal

pub returns : goal.returns
returns c = sound_by_numbers
