-- Each opcode is found again by its word, so that no two have one word.
use Rattle.std.proofs.Common.{◌≡◌, ◌≢◌, ℕ, ◌<◌, arith, List, Option, Some, None, IfNone, refl, ap}
use Rattle.gi_mir.specs.declared.opcode.Opcode.{Opcode}
use Rattle.gi_mir.specs.declared.opcode.Opcode.TheVariants.{Copy}
use Rattle.gi_mir.specs.Row.{word_of, opcode_of, is_generic_op, standing_of}
use Rattle.gi_mir.specs.Stages.{is_before_selection}
use Rattle.gi_mir.specs.Routines.{data_of, routine_at}
use Rattle.gi_mir.specs.declared.routine.Routine.{Routine}
use Rattle.gi_mir.specs.declared.routine.Routine.TheVariants.{Muldi3}

pub opcode_of-word_of : (op : Opcode) → opcode_of (word_of op) ≡ Some op
unfolding opcode_of
opcode_of-word_of Copy = refl
opcode_of-word_of _ = refl

-- no opcode has a word that is not found
pub IfNone-opcode_of : (r : Option Opcode) (w : List ℕ) → r ≡ opcode_of w → IfNone r ((op : Opcode) → word_of op ≢ w)
IfNone-opcode_of None w h = λ op e. cc (h, opcode_of-word_of op, ap opcode_of e)
IfNone-opcode_of (Some x) w h = tt

-- the opcodes whose word begins with `G_` stand before selection alone
pub generic_by_word : (op : Opcode) → is_generic_op op ≡ is_before_selection (standing_of op)
generic_by_word Copy = refl
generic_by_word _ = refl

-- ══ Routines ══

pub routine_at_place : (routine : Routine) → routine_at (data_of routine).place ≡ Some routine
routine_at_place Muldi3 = refl
routine_at_place _ = refl

pub place_within : (routine : Routine) → (data_of routine).place < 10
place_within Muldi3 = omega arith
place_within _ = omega arith
