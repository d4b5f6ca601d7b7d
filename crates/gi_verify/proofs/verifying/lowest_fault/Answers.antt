use Rattle.gi_valid.specs.Typing.{phase_of}
use Rattle.gi_verify.proofs.Told.{lowest_of_all}
use Rattle.gi_verify.proofs.verifying.lowest_fault.Goals as goal

pub returns : goal.returns
returns c =
    lowest_of_all c.args.target.xlen (phase_of c.args.stage) c.args.function.now c.in_ok-double.double c.in_ok-lowest.lowest c.tell_successors.result c.in_ok-double.ensures c.in_ok-lowest.ensures c.tell_successors.ensures
