use Rattle.std.proofs.Common.{◌≡◌, ◌-◌, length, drop}
use Rattle.gi_valid.specs.Valid.{of_lowest_line}
use Rattle.gi_verify.proofs.lowest.of_lowest_line.Given as goal

-- of those behind some the lowest
abbrev pub invariant-loop-done : goal.invariant-loop-done
invariant-loop-done l = l.lowest ≡ of_lowest_line (drop (length l.faults - l.done) l.faults)
