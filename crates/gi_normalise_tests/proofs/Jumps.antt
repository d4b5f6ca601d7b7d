-- The machine's branch is formed.
use Rattle.std.proofs.Common.{◌≡◌, ℕ, true, refl}
use Rattle.gi_mir.specs.Formed.{is_formed}
use Rattle.gi_normalise_tests.specs.Branches.{jump_to}

pub jump-formed : (block line : ℕ) → is_formed (jump_to block line) ≡ true
unfolding is_formed
jump-formed block line = refl
