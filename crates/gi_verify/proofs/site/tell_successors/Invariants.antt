use Rattle.std.proofs.Common.{◌≡◌, drop}
use Rattle.gi_valid.specs.Faults.{unknown_successors}
use Rattle.gi_valid.specs.Valid.{of_lowest_line}
use Rattle.gi_verify.specs.Sets.{lowest_of}
use Rattle.gi_verify.proofs.site.tell_successors.Given as goal

abbrev pub invariant-loop-b : goal.invariant-loop-b
invariant-loop-b l =
    lowest_of l.lowest (of_lowest_line (unknown_successors l.function l.line (drop l.b l.function.blocks))) ≡ lowest_of l.fn.told (of_lowest_line (unknown_successors l.function 1 l.function.blocks))
