-- The address of a symbol, made by LUI of its high part and ADDI of its low part.
-- (RISC-V ELF psABI, "Absolute Addresses": %hi and %lo. RISC-V code models: the medium low code model.)
use Rattle.std.specs.Prelude.{◌≡◌, ℕ, ◌+◌, ◌-◌, ◌^◌, ◌<◌, List, [], ◌∷◌, pos, negsuc, ◌≤ℤ◌}
use Rattle.gi_llt.specs.Bits.{signed}
use Rattle.gi_mir.specs.declared.opcode.Opcode.TheVariants as op
use Rattle.gi_mir.specs.declared.operand.Flags.{Flags}
use Rattle.gi_mir.specs.declared.operand.SymbolFlag.TheVariants.{Hi, Lo}
use Rattle.gi_meaning.specs.Argument.{Value, Symbol}
use Rattle.gi_meaning.specs.Given.{one}
use Rattle.gi_meaning.specs.Meaning.{meaning_of}
use Rattle.gi_meaning.specs.Words.{word_given}

-- each address of RV32, and on RV64 one within 2 ^ 31 of 0, but 2 ^ 11 lower, since the low part has a sign
pub record IsReached (x address : ℕ) : Type 0 where
  pub fits : address < 2 ^ x
  pub near : x ≡ 64 → (negsuc (2 ^ 31 + 2 ^ 11 - 1) ≤ℤ signed x address) × (signed x address ≤ℤ pos (2 ^ 31 - 2 ^ 11 - 1))

-- LUI gives a word of the high part, and ADDI the address of that word and the low part
abbrev pub AddressIsMade : Flags → (x : ℕ) → (name : List ℕ) → (address : ℕ) → Type 0
AddressIsMade flags x name address = (upper : ℕ)
    × (word_given (meaning_of flags op.LoadUpperImmediate) x (Symbol Hi name address ∷ []) ≡ one upper)
    × (word_given (meaning_of flags op.AddImmediate) x (Value x upper ∷ Symbol Lo name address ∷ []) ≡ one address)
