use Rattle.gi_refine.specs.Agreement.{AgreeAt, setting}
use Rattle.gi_refine.proofs.Agreeing.{same_instruction}
use Rattle.gi_refine.proofs.laws.same_instruction_follows.Goals as goal

pub returns : goal.returns
returns c = λ x names old new world hidden i j same seen alike.
    same_instruction x names old new world hidden (AgreeAt (setting x names old) (setting x names new) (λ b. hidden)) (record { by = λ b s t agree. agree }) i j same seen alike
