use Rattle.gi_change_valid.proofs.Accounted.{no_call_across}
use Rattle.gi_change_valid.proofs.laws.physical_registers_stay.Goals as goal

pub returns : goal.returns
returns c = no_call_across
