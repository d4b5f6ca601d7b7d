use Rattle.std.proofs.Common.{◌≡◌, take}
use Rattle.gi_answer.specs.Selecting.{emptied}
use Rattle.gi_answer.proofs.select.emptied.Given as goal

abbrev pub invariant-loop-object : goal.invariant-loop-object
invariant-loop-object l = l.selected ≡ record (emptied l.function) { stack = take l.object-index l.function.stack }
