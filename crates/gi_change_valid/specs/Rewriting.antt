-- A rewriting seen at every instruction: what stands in the place of each.
use Rattle.std.specs.Prelude.{◌≡◌, ◌⊎◌, ℕ, true, List, [], ◌∷◌, ◌==◌, if◌then◌else◌, map, flat_map}
use Rattle.gi_mir.specs.Data.{InstrData, BlockData, FunctionData}
use Rattle.gi_mir.specs.Ids.{uses_among}
use Rattle.gi_mir.specs.Edit.{all_instrs}
use Rattle.gi_replace.specs.InPlace.{entry_renamed}

-- the root, with its id; the register that stands for each in uses; and what is made in the root's place
pub record Rewriting : Type 0 where
  pub root : ℕ × InstrData
  pub rename : ℕ → ℕ
  pub made : List (ℕ × InstrData)

-- what is made stands for the root, and each other instruction for itself with its uses renamed
abbrev pub standing_for : Rewriting → ℕ × InstrData → List (ℕ × InstrData)
standing_for w p = if p.0 == w.root.0 then w.made else entry_renamed w.rename p ∷ []

abbrev pub rewritten : Rewriting → List (ℕ × InstrData) → List (ℕ × InstrData)
rewritten w is = flat_map (standing_for w) is

abbrev pub block_rewritten : Rewriting → BlockData → BlockData
block_rewritten w b = record b { instrs = rewritten w b.instrs }

-- an instruction is one of these
abbrev pub IsOneOf : (ℕ × InstrData) → List (ℕ × InstrData) → Type 0
IsOneOf p [] = ⊥
IsOneOf p (q ∷ qs) = (p ≡ q) ⊎ IsOneOf p qs

-- g is f after the rewriting, and the root stands in f, once
pub record IsRewritten (w : Rewriting) (f g : FunctionData) : Type 0 where
  pub once : uses_among w.root.0 (all_instrs f.blocks) ≡ 1
  pub root : (p : ℕ × InstrData) → IsOneOf p (all_instrs f.blocks) → (p.0 == w.root.0) ≡ true → p ≡ w.root
  pub there : IsOneOf w.root (all_instrs f.blocks)
  pub blocks : g.blocks ≡ map (block_rewritten w) f.blocks
