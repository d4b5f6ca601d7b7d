use Rattle.std.proofs.Common.{◌≡◌, ℕ, length, ◌+◌, ◌-◌}
use Rattle.gi_mir.specs.Pages.{list_at}
use Rattle.gi_mir.proofs.page.make_room.Given as goal

-- what there is has no more instructions than before
abbrev pub invariant-loop-alloc : goal.invariant-loop-alloc
invariant-loop-alloc l = (k : ℕ) → list_at l.lists.items k ≡ list_at l.initial.lists.items k

abbrev pub decreases-loop-alloc : goal.decreases-loop-alloc
decreases-loop-alloc l = l.at + 1 - length l.lists.items
