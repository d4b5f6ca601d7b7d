-- What a function comes to in a world, and nothing else, where rows aren't looked at.
use Rattle.std.specs.Prelude.{◌≡◌, ℕ, ◌%◌, ◌^◌, ◌==◌, ◌&&◌, nat_lt, Bool, true, List, [], ◌∷◌}
use Rattle.gi_mir.specs.Data.{FunctionData}
use Rattle.gi_meaning.specs.Memory.{Memory}
use Rattle.gi_meaning.specs.State.{World, Outcome, Returned}
use Rattle.gi_meaning.specs.Runs.{RunsUnchecked}

-- within n block entries the function comes to this outcome and to no other
pub record ComesTo (x : ℕ) (names : List (List ℕ)) (f : FunctionData) (w : World) (n : ℕ) (outcome : Outcome) : Type 0 where
  pub can : RunsUnchecked x names f w n outcome
  pub only : (other : Outcome) → RunsUnchecked x names f w n other → other ≡ outcome

-- within n block entries the function returns each word that passes the test, with memory and the events taken as told, and
-- comes to nothing else
pub record ReturnsAny (x : ℕ) (names : List (List ℕ)) (f : FunctionData) (w : World) (n : ℕ) (test : ℕ → Bool) (memory : Memory) (taken : ℕ) : Type 0 where
  pub can : (word : ℕ) → test word ≡ true → RunsUnchecked x names f w n (Returned (word ∷ []) memory taken)
  pub only : (other : Outcome) → RunsUnchecked x names f w n other → (word : ℕ) × (test word ≡ true) × (other ≡ Returned (word ∷ []) memory taken)

-- a word of so many bits whose low bits are those of a value
abbrev pub has_low_bits : (known width value : ℕ) → ℕ → Bool
has_low_bits known width value word = nat_lt word (2 ^ width) && (word % 2 ^ known == value % 2 ^ known)
