-- What a write leaves.
use Rattle.std.specs.Prelude.{◌≡◌, ◌≤◌, ℕ, List, ◌++◌, length, take}

-- the new bytes are the old ones and then a prefix of the bytes
pub record AppendsPrefix (old new bytes : List ℕ) : Type 0 where
  pub count : ℕ
  pub within : count ≤ length bytes
  pub appended : new ≡ old ++ take count bytes
