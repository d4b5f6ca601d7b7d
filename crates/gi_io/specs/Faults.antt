-- Faults of reading and writing, as counts that never fall.
use Rattle.std.specs.Prelude.{◌≡◌, ◌⊎◌, ◌<◌, ℕ, ◌-◌, ◌^◌}

-- the count rose, or it stands at its last value
pub record Rose (old new : ℕ) : Type 0 where
  pub rose : (old < new) ⊎ (new ≡ 2 ^ 64 - 1)
