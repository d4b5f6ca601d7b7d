-- States that agree but for hidden places.
use Rattle.std.specs.Prelude.{◌≡◌, ℕ, ◌%◌, ◌^◌, ◌<◌, Bool, false, cond, ◌==◌, List, [], ◌∷◌, Option, Some, None}
use Rattle.gi_mir.specs.declared.operand.Operand.{Operand}
use Rattle.gi_mir.specs.declared.operand.Operand.TheVariants as operand
use Rattle.gi_meaning.specs.State.{State, Place, Virtual, Physical}
use Rattle.gi_meaning.specs.Runs.{Setting}

-- The new value of a register stands for the old one. Where the old function gives the register m bits and the new one n, it
-- is the old one if m is n; and where a register of fewer bits than a word became a word, any word with these low bits.
abbrev pub StandsFor : (x m n : ℕ) → (value value' : ℕ) → Type 0
StandsFor x m n value value' = cond (m == n) (value' ≡ value) ((n ≡ x) × (m < x) × (value' < 2 ^ x) × (value' % 2 ^ m ≡ value))

-- where the old register has no value, the new one may have any
abbrev pub ValueStands : (x m n : ℕ) → (old new : Option ℕ) → Type 0
ValueStands x m n None new = Unit {0}
ValueStands x m n (Some value) None = ⊥
ValueStands x m n (Some value) (Some value') = StandsFor x m n value value'

-- the states agree in each place that isn't hidden, in memory and in the events taken
pub record Agree (s t : Setting) (hidden : Place → Bool) (old new : State) : Type 0 where
  pub values : (r : ℕ) → hidden (Virtual r) ≡ false → ValueStands s.x (s.width r) (t.width r) (old.values r) (new.values r)
  pub words : (n : ℕ) → hidden (Physical n) ≡ false → new.words n ≡ old.words n
  pub memory : new.memory ≡ old.memory
  pub taken : new.taken ≡ old.taken

abbrev pub is_same_place : Place → Place → Bool
is_same_place (Virtual r) (Virtual q) = r == q
is_same_place (Physical n) (Physical m) = n == m
is_same_place _ _ = false

-- what is hidden once both sides have written to a place, and to several
abbrev pub shown : (Place → Bool) → Place → Place → Bool
shown hidden p q = cond (is_same_place q p) false (hidden q)

abbrev pub all_shown : (Place → Bool) → List Place → Place → Bool
all_shown hidden [] = hidden
all_shown hidden (p ∷ ps) = all_shown (shown hidden p) ps

-- the places that operands read
abbrev pub read_places : List Operand → List Place
read_places [] = []
read_places (operand.Use r ∷ os) = Virtual r.0 ∷ read_places os
read_places (operand.Phys n ∷ os) = Physical n ∷ read_places os
read_places (operand.ImplicitUse n ∷ os) = Physical n ∷ read_places os
read_places (_ ∷ os) = read_places os

-- none of these places is hidden, and both settings give it one width
abbrev pub AreSeen : (hidden : Place → Bool) → (width width' : ℕ → ℕ) → List Place → Type 0
AreSeen hidden width width' [] = Unit {0}
AreSeen hidden width width' (Virtual r ∷ ps) = (hidden (Virtual r) ≡ false) × (width' r ≡ width r) × AreSeen hidden width width' ps
AreSeen hidden width width' (Physical n ∷ ps) = (hidden (Physical n) ≡ false) × AreSeen hidden width width' ps

-- both settings give each place that is written one width
abbrev pub AreAlike : (width width' : ℕ → ℕ) → List Place → Type 0
AreAlike width width' [] = Unit {0}
AreAlike width width' (Virtual r ∷ ps) = (width' r ≡ width r) × AreAlike width width' ps
AreAlike width width' (Physical n ∷ ps) = AreAlike width width' ps

-- for each block, agreement with what is hidden there
abbrev pub AgreeAt : (s t : Setting) → (hidden : ℕ → Place → Bool) → ℕ → State → State → Type 0
AgreeAt s t hidden b = Agree s t (hidden b)

-- the same at the entry of a block, whichever block was left
abbrev pub AgreeEntering : (s t : Setting) → (hidden : ℕ → Place → Bool) → Option ℕ → ℕ → State → State → Type 0
AgreeEntering s t hidden from b = Agree s t (hidden b)

-- the setting of a register width, names and widths of registers
abbrev pub setting : (x : ℕ) (names : List (List ℕ)) (width : ℕ → ℕ) → Setting
setting x names width = record { x = x; names = names; width = width }
