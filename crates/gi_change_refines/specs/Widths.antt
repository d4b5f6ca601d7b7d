-- A test of a function by the widths of its registers, by which values fit them wherever runs come: it knows every opcode.
use Rattle.std.specs.Prelude.{ℕ, ◌+◌, Bool, true, false, ◌&&◌, ◌||◌, not, nat_lt, nat_le, List, [], ◌∷◌, drop, map, Option, Some}
use Rattle.std.specs.List.{list_all}
use Rattle.gi_llt.specs.Llt.{width_of}
use Rattle.gi_mir.specs.Data.{InstrData, FunctionData}
use Rattle.gi_mir.specs.Edit.{all_instrs}
use Rattle.gi_mir.specs.Entries.{Room}
use Rattle.gi_mir.specs.Entries as room
use Rattle.gi_mir.specs.Row.{room_of}
use Rattle.gi_mir.specs.declared.opcode.Opcode.{Opcode}
use Rattle.gi_mir.specs.declared.opcode.Opcode.TheVariants as op
use Rattle.gi_mir.specs.declared.operand.MemOp.{MemOp}
use Rattle.gi_mir.specs.declared.operand.Operand.{Operand}
use Rattle.gi_mir.specs.declared.operand.Operand.TheVariants as operand
use Rattle.gi_meaning.specs.Meaning.{Meaning, Copying, Generic, Loading, Storing, Jumping, Branching, Machine, MachineLoading, MachineBranching, MachineStoring, Calling, Returning, Nothing, Joining, Extension, Anything, Zeros, Signs, meaning_of}
use Rattle.gi_meaning.specs.Runs.{Setting, places_of, width_of_place}
use Rattle.gi_refine.specs.Fitting.{always_fits, is_fitting_constant, phi_fits}
use Rattle.gi_refine.specs.Worded.{has_virtual}

-- ══ What an instruction writes and reads ══

-- the widths of the places that are written
abbrev pub widths_written : Setting → List Operand → List ℕ
widths_written s os = map (width_of_place s) (places_of os)

-- the widths of the values that are read
abbrev pub widths_read : Setting → List Operand → List ℕ
widths_read s [] = []
widths_read s (operand.Use r ∷ os) = s.width r.0 ∷ widths_read s os
widths_read s (operand.Phys n ∷ os) = s.x ∷ widths_read s os
widths_read s (operand.Frame object ∷ os) = s.x ∷ widths_read s os
widths_read s (_ ∷ os) = widths_read s os

-- ══ Generic operations ══

-- no value that is read is wider than the result
abbrev pub none_wider : (written read : List ℕ) → Bool
none_wider [] ms = true
none_wider (n ∷ ns) ms = list_all (λ m. nat_le m n) ms

-- a place has a bit
abbrev pub have_bits : (written : List ℕ) → Bool
have_bits ns = list_all (λ n. nat_lt 0 n) ns

abbrev pub total : List ℕ → ℕ
total [] = 0
total (m ∷ ms) = m + total ms

-- the result has room for all that is read
abbrev pub holds_all : (written read : List ℕ) → Bool
holds_all [] ms = true
holds_all (n ∷ ns) ms = nat_le (total ms) n

-- by these widths there is room for the results
abbrev pub has_room : Room → (written read : List ℕ) → Bool
has_room room.NoneWider ns ms = none_wider ns ms
has_room room.NoneWiderThanCondition ns ms = none_wider ns (drop 1 ms)
has_room room.OneBit ns ms = have_bits ns
has_room room.AllTogether ns ms = holds_all ns ms
has_room _ ns ms = false

abbrev pub fits_by_widths : Opcode → (written read : List ℕ) → Bool
fits_by_widths o ns ms = has_room (room_of o) ns ms

-- the address of a global, in a register that has a word
abbrev pub is_fitting_address : Setting → Opcode → List Operand → Bool
is_fitting_address s op.GenericGlobalValue (operand.Def r kind ∷ operand.Global flag n ∷ []) = nat_le s.x (s.width r.0)
is_fitting_address s _ os = false

abbrev pub is_fitting_result : Setting → Opcode → List Operand → Bool
is_fitting_result s o os =
    always_fits o || fits_by_widths o (widths_written s os) (widths_read s os) || is_fitting_constant s.width o os || is_fitting_address s o os

-- ══ Loads ══

-- what is loaded has no more bits than the register
abbrev pub is_fitting_load : (x : ℕ) → Extension → Option MemOp → (written : List ℕ) → Bool
is_fitting_load x Anything mem ns = true
is_fitting_load x Signs mem ns = true
is_fitting_load x Zeros (Some mem) (n ∷ ns) = nat_le (width_of x mem.ty) n
is_fitting_load x Zeros mem ns = false

-- ══ Instructions of the machine ══

-- Words in places of at most as many bits, from values that are no wider. While selection goes on a place of fewer bits has the
-- low ones.
abbrev pub has_words : Setting → List Operand → Bool
has_words s os = list_all (λ n. nat_le n s.x) (widths_written s os) && list_all (λ m. nat_le m s.x) (widths_read s os)

-- ══ All ══

-- what a phi takes is as wide as its result, and a call has no virtual registers
abbrev pub keeps_values : Setting → Meaning → InstrData → Bool
keeps_values s Copying i = true
keeps_values s (Generic gives) i = is_fitting_result s i.op i.operands
keeps_values s (Loading extension) i = is_fitting_load s.x extension i.mem (widths_written s i.operands)
keeps_values s Storing i = true
keeps_values s (MachineStoring exists bytes) i = true
keeps_values s Jumping i = true
keeps_values s Branching i = true
keeps_values s (MachineBranching test) i = true
keeps_values s Calling i = not (has_virtual i.operands)
keeps_values s Returning i = true
keeps_values s Nothing i = true
keeps_values s Joining i = phi_fits s (places_of i.operands) i.operands
keeps_values s (Machine gives) i = has_words s i.operands
keeps_values s (MachineLoading exists bytes extension) i = has_words s i.operands

abbrev pub values_keep : Setting → FunctionData → Bool
values_keep s f = list_all (λ p. keeps_values s (meaning_of p.1.flags p.1.op) p.1) (all_instrs f.blocks)

-- ══ What validity doesn't say ══

-- instructions of the machine have at most words, where validity says nothing of their types
abbrev pub machine_has_words : Setting → Meaning → InstrData → Bool
machine_has_words s (Machine gives) i = has_words s i.operands
machine_has_words s (MachineLoading exists bytes extension) i = has_words s i.operands
machine_has_words s _ i = true

abbrev pub has_machine_words : Setting → FunctionData → Bool
has_machine_words s f = list_all (λ p. machine_has_words s (meaning_of p.1.flags p.1.op) p.1) (all_instrs f.blocks)
