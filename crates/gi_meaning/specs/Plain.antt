-- How the program keeps numbers with a sign, and what an operation gives.
use Rattle.std.specs.Prelude.{ℕ, ◌+◌, ◌*◌, ◌^◌, Bool, true, false, not, cond, ℤ, pos, neg_ℤ, List, [], ◌∷◌}
use Rattle.gi_mir.specs.declared.opcode.Opcode.{Opcode}
use Rattle.gi_mir.specs.declared.opcode.Opcode.TheVariants as op
use Rattle.gi_meaning.specs.Given.{Given, Exactly, LowBits, Undefined}
use Rattle.gi_meaning.specs.declared.gives.Gives.{Gives}
use Rattle.gi_meaning.specs.declared.gives.Gives.TheVariants as gives

-- the number of a sign and a size
abbrev pub with_sign : Bool → ℕ → ℤ
with_sign negative size = cond negative (neg_ℤ (pos size)) (pos size)

-- what an answer of the program says that an operation gives
abbrev pub given_of : Gives → Given
given_of (gives.One value) = Exactly (value ∷ [])
given_of (gives.Two value bit) = Exactly (value ∷ bit ∷ [])
given_of (gives.LowBits known width value) = LowBits known width value
given_of gives.Undefined = Undefined

-- one of two is true, and not both
abbrev pub differ : Bool → Bool → Bool
differ left right = cond left (not right) right

-- neither parts and their whole, nor a high product
abbrev pub is_plain : Opcode → Bool
is_plain op.GenericMergeValues = false
is_plain op.GenericUnmergeValues = false
is_plain op.GenericUnsignedMultiplyHigh = false
is_plain op.GenericSignedMultiplyHigh = false
is_plain _ = true

-- equal parts of w bits, the first in the lowest bits
abbrev pub merged_of : ℕ → List ℕ → ℕ
merged_of w [] = 0
merged_of w (value ∷ values) = value + 2 ^ w * merged_of w values
