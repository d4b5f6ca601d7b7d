use Rattle.std.proofs.Common.{◌≡◌, ℕ, ◌<◌, ◌+◌, true, false, cond, length}
use Rattle.gi_meaning.specs.Runs.{is_among}
use Rattle.gi_valid.specs.Available.{successors_of, IsReachedBlock}
use Rattle.gi_valid.proofs.Existing.{numbers}
use Rattle.gi_valid.proofs.Settling.{missing_of}
use Rattle.gi_verify.specs.Sets.{marked}
use Rattle.gi_verify.proofs.reached.reached.Given as goal

abbrev pub invariant-loop-is_new : goal.invariant-loop-is_new
invariant-loop-is_new l =
    (length l.marks.items ≡ length l.function.blocks)
    × (0 < length l.function.blocks → marked l.marks.items 0 ≡ true)
    × ((b : ℕ) → marked l.marks.items b ≡ true → IsReachedBlock l.function b)
    × (l.is_new ≡ false → (a b : ℕ) → marked l.marks.items a ≡ true → is_among b (successors_of l.function a) ≡ true → b < length l.function.blocks → marked l.marks.items b ≡ true)

abbrev pub decreases-loop-is_new : goal.decreases-loop-is_new
decreases-loop-is_new l = missing_of (marked l.marks.items) (numbers (length l.function.blocks)) + cond l.is_new 1 0
