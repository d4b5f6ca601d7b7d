use Rattle.gi_valid.proofs.Defining.{definition_is}
use Rattle.gi_valid.proofs.Holding.{definition_holds, load_holds}
use Rattle.gi_valid.proofs.Pure.{pure_is_steady}
use Rattle.gi_valid.proofs.Valid.{orderly}
use Rattle.gi_valid.proofs.laws.unchecked_definitions_hold.Goals as goal

pub returns : goal.returns
returns c = record {
  computed = λ x phase names f w is_world valid rows b block before back found splits r d available defined pure.
      definition_holds x names f w is_world (orderly x phase f valid) b block before back found splits r d available defined (pure_is_steady x f rows d (definition_is f r d defined).inside pure);
  extended = λ x phase names f w is_world valid. load_holds x names f w is_world (orderly x phase f valid);
}
