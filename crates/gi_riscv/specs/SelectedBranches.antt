-- Which branch of RISC-V stands for a generic one: the two have the same answers.
-- (RISC-V unprivileged ISA, "Conditional Branches": BGT, BGTU, BLE and BLEU are BLT, BLTU, BGE and BGEU with the operands
-- swapped.)
use Rattle.std.specs.Prelude.{ℕ, List, [], ◌∷◌, None, Bool, true, false}
use Rattle.gi_mir.specs.Data.{no_flags}
use Rattle.gi_mir.specs.declared.opcode.Opcode.{Opcode}
use Rattle.gi_mir.specs.declared.opcode.Opcode.TheVariants as op
use Rattle.gi_mir.specs.declared.operand.Flags.{Flags}
use Rattle.gi_mir.specs.declared.operand.Pred.{Pred}
use Rattle.gi_mir.specs.declared.operand.Pred.TheVariants.{Eq, Ne, Ugt, Uge, Ult, Ule, Sgt, Sge, Slt, Sle}
use Rattle.gi_meaning.specs.Argument.{Argument, Value, Test, To}
use Rattle.gi_meaning.specs.State.{World, Outside}
use Rattle.gi_meaning.specs.Meaning.{meaning_of}
use Rattle.gi_meaning.specs.Act.{Answer, Results, Act}

-- an instruction, and whether it takes the operands of the comparison swapped
pub record BranchRow : Type 0 where
  pub instruction : Opcode
  pub swapped : Bool

abbrev row : Opcode → Bool → BranchRow
row instruction swapped = record { instruction = instruction; swapped = swapped }

abbrev pub branch_of : Pred → BranchRow
branch_of Eq = row op.BranchEqual false
branch_of Ne = row op.BranchNotEqual false
branch_of Ugt = row op.BranchLessUnsigned true
branch_of Uge = row op.BranchGreaterEqualUnsigned false
branch_of Ult = row op.BranchLessUnsigned false
branch_of Ule = row op.BranchGreaterEqualUnsigned true
branch_of Sgt = row op.BranchLess true
branch_of Sge = row op.BranchGreaterEqual false
branch_of Slt = row op.BranchLess false
branch_of Sle = row op.BranchGreaterEqual true

abbrev pub branch_arguments : (swapped : Bool) → (x a b block : ℕ) → List Argument
branch_arguments false x a b block = Value x a ∷ Value x b ∷ To block ∷ []
branch_arguments true x a b block = Value x b ∷ Value x a ∷ To block ∷ []

-- what the one may answer, the other may
abbrev pub HaveSameAnswers : (old new : Answer → Type 0) → Type 0
HaveSameAnswers old new = (answer : Answer) → (new answer → old answer) × (old answer → new answer)

-- a branch on the bit that a comparison of two words gave: as the row's branch on the words
pub record IsSelectedBranch (x : ℕ) (w : World) (pred : Pred) (r : BranchRow) : Type 0 where
  pub by : (outside : Outside) (flags flags' : Flags) (a b n c block : ℕ)
      → Act x w (meaning_of flags op.GenericCompare) None (n ∷ []) (Test pred ∷ Value x a ∷ Value x b ∷ []) outside (Results (c ∷ []) outside)
      → HaveSameAnswers
      (Act x w (meaning_of flags' op.GenericBranchConditional) None [] (Value n c ∷ To block ∷ []) outside)
      (Act x w (meaning_of no_flags r.instruction) None [] (branch_arguments r.swapped x a b block) outside)

-- a branch on a word that isn't zero: as BNE on the word and `$x0`
pub record IsSelectedTest (x : ℕ) (w : World) : Type 0 where
  pub by : (outside : Outside) (flags : Flags) (c block : ℕ)
      → HaveSameAnswers
      (Act x w (meaning_of flags op.GenericBranchConditional) None [] (Value x c ∷ To block ∷ []) outside)
      (Act x w (meaning_of no_flags op.BranchNotEqual) None [] (Value x c ∷ Value x 0 ∷ To block ∷ []) outside)

-- a branch that is always taken
pub record IsSelectedJump (x : ℕ) (w : World) : Type 0 where
  pub by : (outside : Outside) (flags : Flags) (block : ℕ)
      → HaveSameAnswers (Act x w (meaning_of flags op.GenericBranch) None [] (To block ∷ []) outside) (Act x w (meaning_of no_flags op.PseudoBranch) None [] (To block ∷ []) outside)
