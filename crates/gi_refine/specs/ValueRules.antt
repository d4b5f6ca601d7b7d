-- Operations on one value and on two, and rules on values that are sound at every width.
use Rattle.std.specs.Prelude.{ℕ, ◌-◌, ◌^◌, [], ◌∷◌, None}
use Rattle.gi_mir.specs.Data.{no_flags}
use Rattle.gi_mir.specs.declared.opcode.Opcode.{Opcode}
use Rattle.gi_mir.specs.declared.opcode.Opcode.TheVariants as op
use Rattle.gi_mir.specs.declared.operand.Flags.{Flags}
use Rattle.gi_meaning.specs.Argument.{Bits}
use Rattle.gi_refine.specs.Values.{At, Fixed, Operation, Defines, Rule}

-- ══ Operations ══

abbrev pub constant : (n value : ℕ) → Operation
constant n value = record { op = op.GenericConstant; flags = no_flags; slots = Fixed (Bits n value) ∷ []; mem = None; widths = n ∷ [] }

-- on the values at one place, and at two
abbrev pub on_one : Opcode → (n a : ℕ) → Operation
on_one op n a = record { op = op; flags = no_flags; slots = At a ∷ []; mem = None; widths = n ∷ [] }

abbrev pub on_two : Opcode → Flags → (n a b : ℕ) → Operation
on_two op flags n a b = record { op = op; flags = flags; slots = At a ∷ At b ∷ []; mem = None; widths = n ∷ [] }

-- ══ Rules ══

-- x - x is 0
abbrev pub subtract_self : Flags → (n : ℕ) → Rule
subtract_self flags n = record {
  inputs = n ∷ [];
  facts = [];
  old = on_two op.GenericSubtract flags n 0 0 ∷ [];
  new = constant n 0 ∷ [];
  kept = (1, 1) ∷ [];
}

-- x + 0 is x: the uses of the sum are replaced
abbrev pub add_zero : Flags → (n : ℕ) → Rule
add_zero flags n = record {
  inputs = n ∷ n ∷ [];
  facts = Defines (constant n 0) (1 ∷ []) ∷ [];
  old = on_two op.GenericAdd flags n 0 1 ∷ [];
  new = [];
  kept = (2, 0) ∷ [];
}

-- a remainder by a power of two is a mask
abbrev pub remainder_to_mask : (n k : ℕ) → Rule
remainder_to_mask n k = record {
  inputs = n ∷ n ∷ [];
  facts = Defines (constant n (2 ^ k)) (1 ∷ []) ∷ [];
  old = on_two op.GenericUnsignedRemainder no_flags n 0 1 ∷ [];
  new = constant n (2 ^ k - 1) ∷ on_two op.GenericAnd no_flags n 0 2 ∷ [];
  kept = (2, 3) ∷ [];
}
