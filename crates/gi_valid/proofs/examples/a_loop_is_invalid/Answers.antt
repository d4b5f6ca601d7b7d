use Rattle.std.proofs.Common.{[], ◌∷◌, refl}
use Rattle.gi_valid.specs.Examples.{ahead_of_itself}
use Rattle.gi_valid.proofs.Trials.{loop_contained}
use Rattle.gi_valid.proofs.examples.a_loop_is_invalid.Goals as goal

pub returns-clause-contained : goal.returns-clause-contained
returns-clause-contained c = loop_contained (3 ∷ 4 ∷ []) (1 ∷ 2 ∷ 3 ∷ 4 ∷ []) ahead_of_itself refl refl refl (λ a. refl) (refl, refl, refl, refl)

pub returns-clause-told : goal.returns-clause-told
returns-clause-told c = refl
