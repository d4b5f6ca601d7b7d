use Rattle.std.proofs.Common.{subst}
use Rattle.gi_valid.specs.Typing.{phase_of}
use Rattle.gi_verify.specs.Sets.{IsLowestFault}
use Rattle.gi_verify.proofs.Told.{no_fault, one_fault}
use Rattle.gi_verify.proofs.verifying.verify.Goals as goal

pub returns-in-Ok-Some-clause-refused : goal.returns-in-Ok-Some-clause-refused
returns-in-Ok-Some-clause-refused c =
    one_fault c.args.target.xlen (phase_of c.args.stage) c.args.function.now c.in-Ok-Some.fault
    (subst (IsLowestFault c.args.target.xlen (phase_of c.args.stage) c.args.function.now) c.in-Ok-Some.field-0-is c.in-Ok-Some.ensures)

pub returns-in-Ok-None-clause-ok : goal.returns-in-Ok-None-clause-ok
returns-in-Ok-None-clause-ok c =
    no_fault c.args.target.xlen (phase_of c.args.stage) c.args.function.now
    (subst (IsLowestFault c.args.target.xlen (phase_of c.args.stage) c.args.function.now) c.in-Ok-None.field-0-is c.in-Ok-None.ensures)
