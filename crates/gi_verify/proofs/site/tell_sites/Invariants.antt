use Rattle.gi_valid.specs.Typing.{phase_of}
use Rattle.gi_verify.proofs.Told.{AllToldTo}
use Rattle.gi_verify.proofs.site.tell_sites.Given as goal

abbrev pub invariant-loop-b : goal.invariant-loop-b
invariant-loop-b l = AllToldTo l.target.xlen (phase_of l.stage) l.function l.b l.fn.told l.lowest
