-- What is shown of the example's runs.
use Rattle.std.specs.Prelude.{◌≡◌, ℕ, suc, ◌+◌, List, [], ◌∷◌, true, codes}
use Rattle.gi_llt.specs.Bits.{wrapped}
use Rattle.gi_llt.specs.declared.Llt.TheVariants.{Scalar}
use Rattle.gi_spelling.specs.AddExample.{function_of}
use Rattle.gi_mir.specs.Data.{FunctionData}
use Rattle.gi_mir.specs.declared.opcode.Opcode.TheVariants.{GenericAdd, Add}
use Rattle.gi_mir.specs.declared.operand.Kind.TheVariants.{Banked, Class}
use Rattle.gi_meaning.specs.State.{World, Outcome, Returned, Going}
use Rattle.gi_meaning.specs.Runs.{Runs}

abbrev pub names : List (List ℕ)
names = codes "add" ∷ []

-- the function of `generic_module`, and that of `selected_module`
abbrev pub before : FunctionData
before = function_of (Banked (Scalar 32)) GenericAdd

abbrev pub after : FunctionData
after = record (function_of Class Add) { selected = true }

-- the sum of the world's words in x10 and x11
abbrev pub sum_in : World → ℕ
sum_in w = wrapped 32 (w.words 10 + w.words 11)

-- with the words 4294967295 and 2 it returns 1, and does nothing else; with no block entry it is going on
pub record ReturnsOne (f : FunctionData) : Type 0 where
  pub returns : (w : World) (n : ℕ) → w.words 10 ≡ 4294967295 → w.words 11 ≡ 2 → Runs 32 names f w (suc n) (Returned (1 ∷ []) w.memory 0)
  pub only : (w : World) (n : ℕ) (o : Outcome) → w.words 10 ≡ 4294967295 → w.words 11 ≡ 2 → Runs 32 names f w (suc n) o → o ≡ Returned (1 ∷ []) w.memory 0
  pub goes_on : (w : World) → Runs 32 names f w 0 (Going w.memory 0)
  pub goes_on_only : (w : World) (o : Outcome) → Runs 32 names f w 0 o → o ≡ Going w.memory 0
