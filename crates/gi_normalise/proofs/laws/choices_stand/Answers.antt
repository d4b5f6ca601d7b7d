use Rattle.gi_normalise.proofs.Clear.{last-live}
use Rattle.gi_normalise.proofs.Firsts.{first-live}
use Rattle.gi_normalise.proofs.laws.choices_stand.Goals as goal

pub returns-clause-last : goal.returns-clause-last
returns-clause-last c = record { live = last-live }

pub returns-clause-first : goal.returns-clause-first
returns-clause-first c = record { live = first-live }
