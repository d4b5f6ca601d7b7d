use Rattle.std.proofs.Common.{◌≡◌, ℕ, length, ◌+◌, ◌-◌}
use Rattle.gi_verify.specs.Counted.{times_at}
use Rattle.gi_verify.proofs.page.make_room.Given as goal

-- what there is says the same as before
abbrev pub invariant-loop-times : goal.invariant-loop-times
invariant-loop-times l = (k : ℕ) → times_at l.times.items k ≡ times_at l.initial.times.items k

abbrev pub decreases-loop-times : goal.decreases-loop-times
decreases-loop-times l = l.at + 1 - length l.times.items
