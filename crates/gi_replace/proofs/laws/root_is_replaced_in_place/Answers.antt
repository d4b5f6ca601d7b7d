use Rattle.gi_replace.proofs.InPlace.{blocks-replaced}
use Rattle.gi_replace.proofs.laws.root_is_replaced_in_place.Goals as goal

pub returns : goal.returns
returns c = blocks-replaced
