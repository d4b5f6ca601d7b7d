use Rattle.std.proofs.Common.{refl}
use Rattle.gi_change_refines.proofs.Loads.{loads_byte_fits, loads_too_much_formed, loads_too_much_invalid}
use Rattle.gi_change_refines.proofs.laws.loads_have_room.Goals as goal

pub returns : goal.returns
returns c = record {
  fit = loads_byte_fits;
  formed = loads_too_much_formed;
  typed = refl;
  invalid = loads_too_much_invalid;
}
