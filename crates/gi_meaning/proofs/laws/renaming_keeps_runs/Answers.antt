use Rattle.gi_meaning.proofs.Renaming.{runs_renamed}
use Rattle.gi_meaning.proofs.laws.renaming_keeps_runs.Goals as goal

pub returns : goal.returns
returns c = runs_renamed
