use Rattle.gi_refine.specs.Agreement.{AgreeAt, setting}
use Rattle.gi_refine.proofs.ValuesFollowed.{values_followed}
use Rattle.gi_refine.proofs.values.values_follow.Goals as goal

pub returns : goal.returns
returns c = λ x names old new world rule placing before after out a b. values_followed x names old new world rule placing before after (AgreeAt (setting x names old) (setting x names new) out) a b
