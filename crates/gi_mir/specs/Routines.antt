-- The routines of the runtime for products, quotients and remainders of two words each.
-- (The names are those of libgcc's "Routines for integer arithmetic".)
use Rattle.std.specs.Prelude.{ℕ, Bool, ◌&&◌, ◌==◌, List, [], ◌∷◌, Option, bytes_eq, codes, find, map, slice_get}
use Rattle.gi_mir.specs.declared.opcode.Opcode.{Opcode}
use Rattle.gi_mir.specs.declared.opcode.Opcode.TheVariants as op
use Rattle.gi_mir.specs.declared.routine.Routine.{Routine}
use Rattle.gi_mir.specs.declared.routine.Routine.TheVariants.{Muldi3, Divdi3, Udivdi3, Moddi3, Umoddi3, Multi3, Divti3, Udivti3, Modti3, Umodti3}
use Rattle.gi_mir.specs.Row.{word_of}

-- what is known of a routine: its place among the routines, its name, the opcode whose value it gives, and the width
-- of a register, on twice which it computes
pub record RoutineData : Type 0 where
  pub place : ℕ
  pub name : List ℕ
  pub op : Opcode
  pub x : ℕ

abbrev pub made : (place : ℕ) → (name : List ℕ) → Opcode → (x : ℕ) → RoutineData
made place name op x = record { place = place; name = name; op = op; x = x }

-- the table
abbrev pub data_of : Routine → RoutineData
data_of Muldi3 = made 0 (codes "__muldi3") op.GenericMultiply 32
data_of Divdi3 = made 1 (codes "__divdi3") op.GenericSignedDivide 32
data_of Udivdi3 = made 2 (codes "__udivdi3") op.GenericUnsignedDivide 32
data_of Moddi3 = made 3 (codes "__moddi3") op.GenericSignedRemainder 32
data_of Umoddi3 = made 4 (codes "__umoddi3") op.GenericUnsignedRemainder 32
data_of Multi3 = made 5 (codes "__multi3") op.GenericMultiply 64
data_of Divti3 = made 6 (codes "__divti3") op.GenericSignedDivide 64
data_of Udivti3 = made 7 (codes "__udivti3") op.GenericUnsignedDivide 64
data_of Modti3 = made 8 (codes "__modti3") op.GenericSignedRemainder 64
data_of Umodti3 = made 9 (codes "__umodti3") op.GenericUnsignedRemainder 64

-- each routine, by its place
abbrev pub routines : List Routine
routines = Muldi3 ∷ Divdi3 ∷ Udivdi3 ∷ Moddi3 ∷ Umoddi3 ∷ Multi3 ∷ Divti3 ∷ Udivti3 ∷ Modti3 ∷ Umodti3 ∷ []

abbrev pub routine_at : (place : ℕ) → Option Routine
routine_at place = slice_get routines place

abbrev pub name_of : Routine → List ℕ
name_of routine = (data_of routine).name

abbrev pub routine_names : List (List ℕ)
routine_names = map name_of routines

-- a routine stands for an opcode on values of 2x bits
abbrev pub stands_for : Opcode → (x : ℕ) → Routine → Bool
stands_for op x routine = bytes_eq (word_of (data_of routine).op) (word_of op) && ((data_of routine).x == x)

-- the routine that stands for an opcode on values of 2x bits, where there is one
abbrev pub routine_of : Opcode → (x : ℕ) → Option Routine
routine_of op x = find (λ routine. stands_for op x routine) routines
