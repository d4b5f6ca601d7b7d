use Rattle.gi_meaning.specs.InRow.{type_in, is_in_row}
use Rattle.gi_valid.proofs.Holding.{passed_definition_holds, passed_load_holds}
use Rattle.gi_valid.proofs.Pure.{pure_is_no_terminator, steady_in_row}
use Rattle.gi_valid.proofs.Valid.{orderly}
use Rattle.gi_valid.proofs.laws.definitions_hold.Goals as goal

pub returns : goal.returns
returns c = record {
  computed = λ x phase names f w is_world valid b block before back found splits r d available defined pure formed.
      passed_definition_holds x names f w is_world (is_in_row x (type_in x f)) (orderly x phase f valid) b block before back found splits r d available defined pure
      (pure_is_no_terminator d.1 pure formed) (steady_in_row x (type_in x f) d.1 pure);
  extended = λ x phase names f w is_world valid. passed_load_holds x names f w is_world (is_in_row x (type_in x f)) (orderly x phase f valid);
}
