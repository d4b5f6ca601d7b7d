use Rattle.std.proofs.Common.{refl}
use Rattle.gi_meaning.specs.Runs.{setting_of}
use Rattle.gi_refine.specs.Agreement.{AgreeAt, AgreeEntering}
use Rattle.gi_refine.proofs.Simulating.{refined_by_following}
use Rattle.gi_refine.proofs.laws.whole_runs_follow.Goals as goal

pub returns : goal.returns
returns c = λ x names old new entry middle after out followed.
    refined_by_following x names old new (λ w. AgreeEntering (setting_of x names old) (setting_of x names new) entry) (λ w. AgreeAt (setting_of x names old) (setting_of x names new) middle)
    (λ w. AgreeAt (setting_of x names old) (setting_of x names new) after) (λ w b. AgreeAt (setting_of x names old) (setting_of x names new) (out b))
    (λ w is_world. record { values = λ r seen. tt; words = λ n seen. refl; memory = refl; taken = refl }) followed
