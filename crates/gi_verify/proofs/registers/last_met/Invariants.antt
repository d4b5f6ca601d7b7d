use Rattle.std.proofs.Common.{◌≡◌, ◌<◌, ◌≤◌, ◌-◌, true, false}
use Rattle.gi_verify.specs.Met.{is_met_with}
use Rattle.gi_verify.proofs.registers.last_met.Given as goal

abbrev pub invariant-loop-met : goal.invariant-loop-met
invariant-loop-met l =
    (l.met < l.unmet) × (l.unmet ≤ l.count)
    × (is_met_with l.x l.typing l.results l.types l.met ≡ true)
    × (is_met_with l.x l.typing l.results l.types l.unmet ≡ false)

abbrev pub decreases-loop-met : goal.decreases-loop-met
decreases-loop-met l = l.unmet - l.met
