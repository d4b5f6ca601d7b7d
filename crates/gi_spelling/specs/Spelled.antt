-- The modules that some text spells, up to what a text doesn't show and up to the numbers of registers.
use Rattle.std.specs.Prelude.{ℕ, List}
use Rattle.gi_mir.specs.Data.{ModuleData}
use Rattle.gi_mir.specs.Numbering.{numbered_module}
use Rattle.gi_spelling.specs.Same.{IsSameModule}
use Rattle.gi_spelling.specs.Spelling.{Spells}

-- a text spells a module that is the same once registers are numbered in the order in which they appear
pub record IsSpelled (m : ModuleData) : Type 0 where
  pub text : List ℕ
  pub spelled_module : ModuleData
  pub spells : Spells text spelled_module
  pub same : IsSameModule (numbered_module spelled_module) (numbered_module m)
