use Rattle.std.proofs.Common.{◌≡◌, ℕ, ◌<◌, true, length}
use Rattle.gi_valid.specs.Available.{IsReachedBlock}
use Rattle.gi_verify.specs.Sets.{marked}
use Rattle.gi_verify.proofs.reached.first_reached.Given as goal

abbrev pub invariant-loop-a : goal.invariant-loop-a
invariant-loop-a l =
    (length l.marks.items ≡ length l.function.blocks)
    × (0 < length l.function.blocks → marked l.marks.items 0 ≡ true)
    × ((b : ℕ) → marked l.marks.items b ≡ true → IsReachedBlock l.function b)
