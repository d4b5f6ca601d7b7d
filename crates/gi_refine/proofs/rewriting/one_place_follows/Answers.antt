use Rattle.gi_refine.proofs.OnePlaceFollows.{one_place_refines}
use Rattle.gi_refine.proofs.rewriting.one_place_follows.Goals as goal

pub returns : goal.returns
returns c = one_place_refines
