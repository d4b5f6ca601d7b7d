use Rattle.std.proofs.Common.{◌≡◌, ℕ, ◌<◌, true, length}
use Rattle.gi_verify.specs.Sets.{marked}
use Rattle.gi_verify.proofs.reached.first_marked.Given as goal

abbrev pub invariant-loop-b : goal.invariant-loop-b
invariant-loop-b l = (length l.marks.items ≡ l.b) × (0 < l.b → marked l.marks.items 0 ≡ true) × ((b : ℕ) → marked l.marks.items b ≡ true → b ≡ 0)
