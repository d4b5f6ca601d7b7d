-- What a sequence of steps makes of a word, by the meaning of RISC-V's instructions.
-- (RISC-V unprivileged ISA, "Integer Computational Instructions".)
use Rattle.std.specs.Prelude.{◌≡◌, ℕ, List, [], ◌∷◌, pos}
use Rattle.gi_mir.specs.Data.{no_flags}
use Rattle.gi_mir.specs.declared.opcode.Opcode.{Opcode}
use Rattle.gi_mir.specs.declared.opcode.Opcode.TheVariants as op
use Rattle.gi_meaning.specs.Argument.{Argument, Value, Number}
use Rattle.gi_meaning.specs.Given.{Given, one}
use Rattle.gi_meaning.specs.Meaning.{meaning_of}
use Rattle.gi_meaning.specs.Words.{word_given}
use Rattle.gi_riscv.specs.declared.constants.Step.{Step}
use Rattle.gi_riscv.specs.declared.constants.Step.TheVariants.{Lui, Addi, Addiw, Slli}

-- the instruction of a step
abbrev pub opcode_of : Step → Opcode
opcode_of (Lui number) = op.LoadUpperImmediate
opcode_of (Addi number) = op.AddImmediate
opcode_of (Addiw number) = op.AddImmediateWord
opcode_of (Slli amount) = op.ShiftLeftLogicalImmediate

-- what it takes: the word before it, but for LUI, and its number
abbrev pub arguments_of : (x word : ℕ) → Step → List Argument
arguments_of x word (Lui number) = Number (pos number) ∷ []
arguments_of x word (Addi number) = Value x word ∷ Number number ∷ []
arguments_of x word (Addiw number) = Value x word ∷ Number number ∷ []
arguments_of x word (Slli amount) = Value x word ∷ Number (pos amount) ∷ []

-- what a step gives
abbrev pub step_gives : (x word : ℕ) → Step → Given
step_gives x word step = word_given (meaning_of no_flags (opcode_of step)) x (arguments_of x word step)

-- each step gives one word from the word before it, and the last of them is this one
abbrev pub Make : (x word : ℕ) → List Step → (made : ℕ) → Type 0
Make x word [] made = made ≡ word
Make x word (step ∷ steps) made = (next : ℕ) × (step_gives x word step ≡ one next) × Make x next steps made
