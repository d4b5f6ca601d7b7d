-- Rules on values, one of each kind: a fold, a cheaper operation, widening, narrowing and a load by bytes.
use Rattle.gi_llt.specs.declared.Llt.TheVariants.{Scalar}
use Rattle.std.specs.Prelude.{ℕ, ◌+◌, ◌^◌, [], ◌∷◌, None, Some, true}
use Rattle.gi_mir.specs.Data.{no_flags}
use Rattle.gi_mir.specs.declared.opcode.Opcode.{Opcode}
use Rattle.gi_mir.specs.declared.opcode.Opcode.TheVariants as op
use Rattle.gi_mir.specs.declared.operand.Flags.{Flags}
use Rattle.gi_refine.specs.Values.{At, Operation, Defines, Rule, HoldsBytes}
use Rattle.gi_refine.specs.ValueRules.{constant, on_one, on_two}

-- ══ A fold ══

-- any operation on two constants is the constant that it may give
abbrev pub fold_constants : Opcode → Flags → (l a m b n value : ℕ) → Rule
fold_constants op flags l a m b n value = record {
  inputs = l ∷ m ∷ [];
  facts = Defines (constant l a) (0 ∷ []) ∷ Defines (constant m b) (1 ∷ []) ∷ [];
  old = on_two op flags n 0 1 ∷ [];
  new = constant n value ∷ [];
  kept = (2, 2) ∷ [];
}

-- ══ A cheaper operation ══

-- a product with a power of two that has no sign is a shift
abbrev pub multiply_to_shift : Flags → (n k : ℕ) → Rule
multiply_to_shift flags n k = record {
  inputs = n ∷ n ∷ [];
  facts = Defines (constant n (2 ^ k)) (1 ∷ []) ∷ [];
  old = on_two op.GenericMultiply flags n 0 1 ∷ [];
  new = constant n k ∷ on_two op.GenericShiftLeft flags n 0 2 ∷ [];
  kept = (2, 3) ∷ [];
}

-- ══ Widening and narrowing ══

-- a sum of n bits by one of y + n bits
abbrev pub widen_add : Flags → (n y : ℕ) → Rule
widen_add flags n y = record {
  inputs = n ∷ n ∷ [];
  facts = [];
  old = on_two op.GenericAdd flags n 0 1 ∷ [];
  new = on_one op.GenericAnyExtend (y + n) 0 ∷ on_one op.GenericAnyExtend (y + n) 1
      ∷ on_two op.GenericAdd no_flags (y + n) 2 3 ∷ on_one op.GenericTruncate n 4 ∷ [];
  kept = (2, 5) ∷ [];
}

-- the two halves of the value at a place
abbrev pub halves : (n a : ℕ) → Operation
halves n a = record { op = op.GenericUnmergeValues; flags = no_flags; slots = At a ∷ []; mem = None; widths = n ∷ n ∷ [] }

-- a sum of 2n bits by sums of halves with a carry
abbrev pub narrow_add : Flags → (n : ℕ) → Rule
narrow_add flags n = record {
  inputs = (n + n) ∷ (n + n) ∷ [];
  facts = [];
  old = on_two op.GenericAdd flags (n + n) 0 1 ∷ [];
  new = halves n 0 ∷ halves n 1
      ∷ record { op = op.GenericUnsignedAddOverflow; flags = no_flags; slots = At 2 ∷ At 4 ∷ []; mem = None; widths = n ∷ 1 ∷ [] }
      ∷ record { op = op.GenericUnsignedAddCarry; flags = no_flags; slots = At 3 ∷ At 5 ∷ At 7 ∷ []; mem = None; widths = n ∷ 1 ∷ [] }
      ∷ on_two op.GenericMergeValues no_flags (n + n) 6 8 ∷ [];
  kept = (2, 10) ∷ [];
}

-- ══ A load by bytes ══

-- a load of so many bits, from any address, into n bits
abbrev pub load_of : Opcode → (n size a : ℕ) → Operation
load_of op n size a = record {
  op = op;
  flags = no_flags;
  slots = At a ∷ [];
  mem = Some (record { load = true; ty = Scalar size; align = 1 });
  widths = n ∷ [];
}

-- a load of 16 bits from any address is two of 8 bits, a shift and an or
abbrev pub split_load : (x : ℕ) → Rule
split_load x = record {
  inputs = x ∷ [];
  facts = HoldsBytes ∷ [];
  old = load_of op.GenericLoad 32 16 0 ∷ [];
  new = load_of op.GenericZeroExtendLoad 32 8 0
      ∷ constant x 1 ∷ on_two op.GenericPointerAdd no_flags x 0 2 ∷ load_of op.GenericLoad 32 8 3
      ∷ constant 32 8 ∷ on_two op.GenericShiftLeft no_flags 32 4 5 ∷ on_two op.GenericOr no_flags 32 6 1 ∷ [];
  kept = (1, 7) ∷ [];
}
