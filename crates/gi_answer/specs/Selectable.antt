-- The functions that selection takes so far: they have no block, or one block of instructions of the five shapes in their
-- order.
use Rattle.std.specs.Prelude.{◌≡◌, ◌⊎◌, List, [], ◌∷◌, true, ⊤}
use Rattle.std.specs.List.{AllZip}
use Rattle.gi_mir.specs.Data.{BlockData, FunctionData}
use Rattle.gi_answer.specs.Shapes.{ShapedInstr, IsShapedInstr, are_in_order}

pub record IsOneBlock (f : FunctionData) : Type 0 where
  pub shapes : List ShapedInstr
  pub block : BlockData
  pub blocks : f.blocks ≡ block ∷ []
  pub shaped : AllZip IsShapedInstr shapes block.instrs
  pub ordered : are_in_order [] shapes ≡ true

abbrev pub IsSelectable : FunctionData → Type 0
IsSelectable f = (f.blocks ≡ []) ⊎ IsOneBlock f

abbrev pub AllSelectable : List FunctionData → Type 0
AllSelectable [] = ⊤
AllSelectable (f ∷ fs) = IsSelectable f × AllSelectable fs
