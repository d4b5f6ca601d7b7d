-- A register that nothing but one constant defines: a fact of rules on values, from a test.
use Rattle.std.specs.Prelude.{◌≡◌, ℕ, Bool, true, false, not, ◌&&◌, ◌||◌, ◌==◌, List, [], ◌∷◌, IfSome}
use Rattle.gi_mir.specs.Data.{InstrData, BlockData}
use Rattle.gi_mir.specs.declared.opcode.Opcode.{Opcode}
use Rattle.gi_mir.specs.declared.opcode.Opcode.TheVariants as op
use Rattle.gi_mir.specs.declared.operand.Operand.{Operand}
use Rattle.gi_mir.specs.declared.operand.Operand.TheVariants as operand
use Rattle.gi_meaning.specs.State.{State, Place, Virtual, Physical}
use Rattle.gi_meaning.specs.Meaning.{meaning_of}
use Rattle.gi_meaning.specs.Runs.{places_of, written_places, phis_of, after_phis}

-- the place is this virtual register, and one of the places is
abbrev pub is_virtual : (r : ℕ) → Place → Bool
is_virtual r (Virtual q) = r == q
is_virtual r (Physical n) = false

abbrev pub writes : (r : ℕ) → List Place → Bool
writes r [] = false
writes r (place ∷ places) = is_virtual r place || writes r places

-- `%r = G_CONSTANT VALUE`
abbrev pub is_constant_of : (r value : ℕ) → Opcode → List Operand → Bool
is_constant_of r value op.GenericConstant (operand.Def q kind ∷ operand.Constant n v ∷ []) = (q.0 == r) && (v == value)
is_constant_of r value _ _ = false

-- it doesn't write the register, or it is the constant
abbrev pub keeps_constant : (r value : ℕ) → InstrData → Bool
keeps_constant r value i = not (writes r (written_places (meaning_of i.flags i.op) i.operands)) || is_constant_of r value i.op i.operands

abbrev pub all_keep_constant : (r value : ℕ) → List (ℕ × InstrData) → Bool
all_keep_constant r value [] = true
all_keep_constant r value (i ∷ is) = keeps_constant r value i.1 && all_keep_constant r value is

-- no phi is of the register
abbrev pub no_phi_writes : (r : ℕ) → List (ℕ × InstrData) → Bool
no_phi_writes r [] = true
no_phi_writes r (i ∷ is) = not (writes r (places_of i.1.operands)) && no_phi_writes r is

-- nothing in these blocks defines the register but the constant
abbrev pub only_constant : (r value : ℕ) → List BlockData → Bool
only_constant r value [] = true
only_constant r value (block ∷ blocks) = no_phi_writes r (phis_of block.instrs) && all_keep_constant r value (after_phis block.instrs) && only_constant r value blocks

-- the register has no value or this one
pub record HoldsOnly (r value : ℕ) (state : State) : Type 0 where
  pub is : IfSome (state.values r) (λ v. v ≡ value)
