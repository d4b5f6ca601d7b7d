use Rattle.gi_meaning.specs.State.{outside_of}
use Rattle.gi_refine.specs.Constants.{HoldsOnly}
use Rattle.gi_refine.proofs.ConstantsHeld.{constant_where_reached, constant_fact}
use Rattle.gi_refine.proofs.fitting.constants_hold.Goals as goal

pub returns : goal.returns
returns c =
    λ s w blocks r value h b block before back here splits state reached.
    let holds : HoldsOnly r value state = constant_where_reached s w blocks r value h b block before back here splits state reached in
    (holds, λ registers k at env reads. constant_fact s w (outside_of state) r value k state holds registers at env reads)
