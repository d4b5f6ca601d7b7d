-- What an instruction takes once its operands have been read: the values of registers, the addresses of
-- symbols and stack objects, and the numbers that stand in the instruction itself.
use Rattle.std.specs.Prelude.{ℕ, ℤ, List}
use Rattle.gi_mir.specs.declared.operand.Pred.{Pred}
use Rattle.gi_mir.specs.declared.operand.SymbolFlag.{SymbolFlag}

pub data Argument : Type 0 where
  -- what a register holds, or the address of a stack object, and its width
  Value : (width value : ℕ) → Argument
  -- the word of a physical register that is read beside what the instruction shows
  Implicit : (register word : ℕ) → Argument
  -- a physical register that is written beside what the instruction shows
  Defined : (register : ℕ) → Argument
  -- a whole number
  Number : (number : ℤ) → Argument
  -- a constant of so many bits
  Bits : (width value : ℕ) → Argument
  -- the address of a symbol, its name, and which part of the address is meant
  Symbol : (flag : SymbolFlag) → (name : List ℕ) → (address : ℕ) → Argument
  -- a routine of the runtime
  Called : (flag : SymbolFlag) → (routine : ℕ) → Argument
  -- a block
  To : (block : ℕ) → Argument
  -- the predicate of a comparison
  Test : (pred : Pred) → Argument
  -- the registers that a call keeps
  Saved : Argument
