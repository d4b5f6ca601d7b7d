-- A text that is written behind what is there.
use Rattle.std.specs.Prelude.{◌≡◌, ℕ, List, ◌++◌}
use Rattle.gi_mir.specs.Data.{ModuleData}
use Rattle.gi_spelling.specs.Spelling.{Spells}

-- what was there, and then a text that spells the module
pub record AppendsSpelling (m : ModuleData) (before after : List ℕ) : Type 0 where
  pub written : List ℕ
  pub appended : after ≡ before ++ written
  pub spells : Spells written m
