-- The blocks that name each block as a successor, as they are kept.
use Rattle.std.specs.Prelude.{◌≡◌, ◌≢◌, ℕ, Bool, not, ◌&&◌, ◌||◌, ◌==◌, List, [], ◌∷◌, ◌++◌, take, if◌then◌else◌}
use Rattle.std.specs.Option.{option_map_or}
use Rattle.std.specs.BTreeMap.{get}
use Rattle.std.specs.Ordering.{nat_cmp}
use Rattle.gi_mir.specs.Data.{FunctionData}
use Rattle.gi_meaning.specs.Runs.{is_among}
use Rattle.gi_valid.specs.Available.{naming, predecessors}
use Rattle.gi_verify.specs.declared.predecessors.Predecessors.{Predecessors}

-- the blocks that are kept as naming one
abbrev pub names : Predecessors → ℕ → List ℕ
names all b = option_map_or (λ v. v.items) (get nat_cmp all.lists b) []

-- one block, in a list of its own, where that is so
abbrev pub only_if : Bool → ℕ → List ℕ
only_if t a = if t then a ∷ [] else []

-- one more block names one
pub record IsGrown (old new : Predecessors) (b a : ℕ) : Type 0 where
  pub here : names new b ≡ names old b ++ a ∷ []
  pub others : (q : ℕ) → q ≢ b → names new q ≡ names old q

-- one more block names one, unless it is among those that it named before
pub record IsNamedOnce (old new : Predecessors) (a : ℕ) (front : List ℕ) (b : ℕ) : Type 0 where
  pub each : (q : ℕ) → names new q ≡ names old q ++ only_if ((q == b) && not (is_among b front)) a

-- it names one more, and that is in the list of those that it named
pub record IsNamedNext (old new : Predecessors) (a : ℕ) (front more : List ℕ) (b : ℕ) : Type 0 where
  pub named : IsNamedOnce old new a front b
  pub listed : (q : ℕ) → is_among q more ≡ (is_among q front || (q == b))

-- one more block names these
pub record AreNamed (old new : Predecessors) (a : ℕ) (successors : List ℕ) : Type 0 where
  pub each : (q : ℕ) → names new q ≡ names old q ++ only_if (is_among q successors) a

-- the blocks below one are kept where they name it, and all are
pub record AreNamedBelow (f : FunctionData) (end : ℕ) (all : Predecessors) : Type 0 where
  pub each : (q : ℕ) → names all q ≡ naming q 0 (take end f.blocks)

pub record ArePredecessors (f : FunctionData) (all : Predecessors) : Type 0 where
  pub each : (q : ℕ) → names all q ≡ predecessors f q
