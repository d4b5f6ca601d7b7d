use Rattle.std.proofs.Common.{◌≡◌}
use Rattle.gi_meaning.specs.Runs.{after_phis}
use Rattle.gi_mir.specs.Instrs.{left}
use Rattle.gi_verify.proofs.available.behind_phis.Given as goal

-- those passed are phis
abbrev pub invariant-loop-numbered : goal.invariant-loop-numbered
invariant-loop-numbered l =
    (after_phis (left l.instrs) ≡ after_phis (left l.numbered-iterator)) × (left l.rest ≡ left l.numbered-iterator)
