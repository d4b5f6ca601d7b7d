-- Sets of physical registers as masks.
use Rattle.std.specs.Prelude.{◌≡◌, ℕ, ◌<◌, ◌-◌, Bool, ◌==◌, List, [], ◌∷◌, Some, length, drop, slice_get}
use Rattle.std.specs.Int.{bit_at}
use Rattle.gi_mir.specs.Data.{InstrData}
use Rattle.gi_valid.specs.Definitions.{defines_physical, reads_physical}
use Rattle.gi_valid.specs.Faults.{is_used_first}
use Rattle.gi_verify.specs.declared.mask.Mask.{Mask}
use Rattle.gi_verify.specs.declared.effects.Effect.{Effect}

-- whether a register is in a mask
abbrev pub has : Mask → ℕ → Bool
has mask n = bit_at mask.bits n == 1

-- of the registers below 32 those are in a mask that pass a test
pub record IsMaskOf (test : ℕ → Bool) (mask : Mask) : Type 0 where
  pub by : (n : ℕ) → n < 32 → has mask n ≡ test n

-- the registers that an instruction reads and defines
pub record IsEffect (i : ℕ × InstrData) (effect : Effect) : Type 0 where
  pub uses : IsMaskOf (λ n. reads_physical n i) effect.uses
  pub definitions : IsMaskOf (λ n. defines_physical n i) effect.definitions

abbrev pub AreEffects : (instrs : List (ℕ × InstrData)) → List Effect → Type 0
AreEffects [] [] = Unit {0}
AreEffects (i ∷ is) (e ∷ es) = IsEffect i e × AreEffects is es
AreEffects _ _ = ⊥

-- the registers that are used first behind each of the last so many instructions, from the last one on
pub record AreUsedBehind (instrs : List (ℕ × InstrData)) (count : ℕ) (used : List Mask) : Type 0 where
  pub so_many : length used ≡ count
  pub by : (k : ℕ) (mask : Mask) → slice_get used k ≡ Some mask → IsMaskOf (λ n. is_used_first n (drop (length instrs - k) instrs)) mask
