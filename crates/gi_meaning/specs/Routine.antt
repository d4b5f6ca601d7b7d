-- The routines of the runtime for products, quotients and remainders of two words each.
-- (RISC-V ELF psABI, "Procedure Calling Convention"; the names are those of libgcc's "Routines for integer arithmetic".)
use Rattle.std.specs.Prelude.{◌≡◌, ℕ, Bool, false, List, [], ◌∷◌, length, ◌==◌}
use Rattle.std.specs.Option.{option_map_or}
use Rattle.gi_mir.specs.declared.routine.Routine.{Routine}
use Rattle.gi_mir.specs.Data.{no_flags}
use Rattle.gi_mir.specs.Routines.{data_of, routine_at}
use Rattle.gi_meaning.specs.Argument.{Value}
use Rattle.gi_meaning.specs.Given.{Given, Exactly, Undefined}
use Rattle.gi_meaning.specs.Generic.{parts_of}
use Rattle.gi_meaning.specs.Meaning.{Meaning, Generic, meaning_of}
use Rattle.gi_meaning.specs.State.{AreWords}

-- what a generic operation gives of two numbers of n bits
abbrev pub of_two_values : Meaning → (n a b : ℕ) → Given
of_two_values (Generic gives) n a b = gives (n ∷ []) (Value n a ∷ Value n b ∷ [])
of_two_values _ n a b = Undefined

-- a routine computes on two numbers of n bits what its opcode gives of them
abbrev pub computation : Routine → (n a b : ℕ) → Given
computation routine n a b = of_two_values (meaning_of no_flags (data_of routine).op) n a b

-- the same of the routine at a place
abbrev pub computation_at : (place n a b : ℕ) → Given
computation_at place n a b = option_map_or (λ routine. computation routine n a b) (routine_at place) Undefined

-- a machine with registers of x bits has the routine at this place
abbrev pub has_routine : (x place : ℕ) → Bool
has_routine x place = option_map_or (λ routine. (data_of routine).x == x) (routine_at place) false

-- the result in two words, the low one first; any words where the division has no result
abbrev pub InTwoWords : (x : ℕ) → Given → List ℕ → Type 0
InTwoWords x (Exactly (value ∷ [])) words = words ≡ parts_of (x ∷ x ∷ []) value
InTwoWords x _ words = AreWords x words × (length words ≡ 2)
