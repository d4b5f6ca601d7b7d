-- A copy of a virtual register, and the function that reads what is copied in its place.
use Rattle.std.specs.Prelude.{◌≡◌, ℕ, List, [], ◌∷◌, Option, Some}
use Rattle.gi_mir.specs.Data.{InstrData, FunctionData, reg_of}
use Rattle.gi_mir.specs.Edit.{IsLive, instr_of, without_instr}
use Rattle.gi_mir.specs.Registers.{kind_of}
use Rattle.gi_mir.specs.Uses.{with_reg_replaced}
use Rattle.gi_mir.specs.declared.opcode.Opcode.TheVariants as op
use Rattle.gi_mir.specs.declared.operand.Flags.{Flags}
use Rattle.gi_mir.specs.declared.operand.Kind.{Kind}
use Rattle.gi_mir.specs.declared.operand.MemOp.{MemOp}
use Rattle.gi_mir.specs.declared.operand.Operand.TheVariants.{Block, Def, Use}
use Rattle.gi_valid.specs.Examples.{block_of, copy_in, def_of, function_of, jump_to, of_two, on, use_of}

-- `%d:kind = COPY %s`
abbrev pub copy_between : (d s : ℕ) → Kind → Flags → Option MemOp → (line : ℕ) → InstrData
copy_between d s kind flags mem line = record { op = op.Copy; flags = flags; operands = Def (reg_of d) kind ∷ Use (reg_of s) ∷ []; mem = mem; line = line }

-- such an instruction has this id, and both registers are of one kind
pub record IsCopy (f : FunctionData) (id d s : ℕ) : Type 0 where
  pub kind : Kind
  pub flags : Flags
  pub mem : Option MemOp
  pub line : ℕ
  pub live : IsLive f id
  pub is : instr_of f id ≡ Some (copy_between d s kind flags mem line)
  pub alike : kind_of f d ≡ kind_of f s

-- each use of d is one of s, and the copy is gone
abbrev pub propagated : FunctionData → (id d s : ℕ) → FunctionData
propagated f id d s = without_instr (with_reg_replaced d s f) id

-- ══ One after another ══

-- a copy's id, and its two registers
pub record CopyData : Type 0 where
  pub id : ℕ
  pub d : ℕ
  pub s : ℕ

-- each is a copy in what those before it left
abbrev pub AreCopies : FunctionData → List CopyData → Type 0
AreCopies f [] = Unit {0}
AreCopies f (c ∷ cs) = IsCopy f c.id c.d c.s × AreCopies (propagated f c.id c.d c.s) cs

abbrev pub all_propagated : FunctionData → List CopyData → FunctionData
all_propagated f [] = f
all_propagated f (c ∷ cs) = all_propagated (propagated f c.id c.d c.s) cs

-- ══ An example ══

-- a sum, a copy of it, and what reads the copy: the difference behind it, and the phi before it in the next round
abbrev pub copies_in_loop : FunctionData
copies_in_loop = function_of
    (block_of (1 ∷ []) (10 ∷ 11 ∷ []) (copy_in 7 0 10 ∷ copy_in 8 1 11 ∷ jump_to 9 1 ∷ [])
    ∷ block_of (1 ∷ []) []
    (on 12 op.GenericPhi (def_of 2 32 ∷ use_of 0 ∷ Block 0 ∷ use_of 4 ∷ Block 1 ∷ [])
    ∷ of_two 13 op.GenericAdd 3 2 1
    ∷ on 14 op.Copy (def_of 4 32 ∷ use_of 3 ∷ [])
    ∷ of_two 15 op.GenericSubtract 5 4 0
    ∷ jump_to 16 1
    ∷ [])
    ∷ [])

-- both read the sum
abbrev pub reads_the_sum : FunctionData
reads_the_sum = function_of
    (block_of (1 ∷ []) (10 ∷ 11 ∷ []) (copy_in 7 0 10 ∷ copy_in 8 1 11 ∷ jump_to 9 1 ∷ [])
    ∷ block_of (1 ∷ []) []
    (on 12 op.GenericPhi (def_of 2 32 ∷ use_of 0 ∷ Block 0 ∷ use_of 3 ∷ Block 1 ∷ [])
    ∷ of_two 13 op.GenericAdd 3 2 1
    ∷ of_two 15 op.GenericSubtract 5 3 0
    ∷ jump_to 16 1
    ∷ [])
    ∷ [])
