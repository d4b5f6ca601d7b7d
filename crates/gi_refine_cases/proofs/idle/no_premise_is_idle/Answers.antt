use Rattle.gi_refine_cases.proofs.IdlePieces.{no_piece_idle, rewritten_all}
use Rattle.gi_refine_cases.proofs.IdlePlaces.{none_idle, owes_all}
use Rattle.gi_refine_cases.proofs.ReachNeeded.{by_reach}
use Rattle.gi_refine_cases.proofs.idle.no_premise_is_idle.Goals as goal

pub returns-clause-place : goal.returns-clause-place
returns-clause-place c = owes_all

pub returns-clause-of_place : goal.returns-clause-of_place
returns-clause-of_place c = none_idle

pub returns-clause-pieces : goal.returns-clause-pieces
returns-clause-pieces c = rewritten_all

pub returns-clause-of_pieces : goal.returns-clause-of_pieces
returns-clause-of_pieces c = no_piece_idle

pub returns-clause-reach : goal.returns-clause-reach
returns-clause-reach c = by_reach
