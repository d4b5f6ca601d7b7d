-- Small functions, valid and invalid, and the sets of their registers.
use Rattle.std.specs.Prelude.{ℕ, pos, true, false, ◌&&◌, ◌==◌, if◌then◌else◌, List, [], ◌∷◌, Some, None}
use Rattle.gi_llt.specs.declared.Llt.{Llt}
use Rattle.gi_llt.specs.declared.Llt.TheVariants.{Scalar, Pointer}
use Rattle.gi_mir.specs.Data.{InstrData, BlockData, FunctionData, reg_of, no_flags}
use Rattle.gi_mir.specs.declared.opcode.Opcode.{Opcode}
use Rattle.gi_mir.specs.declared.opcode.Opcode.TheVariants as op
use Rattle.gi_mir.specs.declared.operand.Kind.TheVariants.{Generic, Class}
use Rattle.gi_mir.specs.declared.operand.Operand.{Operand}
use Rattle.gi_mir.specs.declared.operand.Operand.TheVariants.{Def, Use, Phys, PhysDef, ImplicitUse, ImplicitDef, Int, Block, Constant, Global, SavedMask}
use Rattle.gi_mir.specs.declared.operand.SymbolFlag.TheVariants.{Call}
use Rattle.gi_meaning.specs.Runs.{is_among}
use Rattle.gi_meaning.specs.State.{World}
use Rattle.gi_refine.specs.Examples.{bits}
use Rattle.gi_valid.specs.Available.{Extent}

-- ══ Making functions ══

-- an instruction on a line
abbrev pub on : (line : ℕ) → Opcode → List Operand → ℕ × InstrData
on line op operands = (line, record { op = op; flags = no_flags; operands = operands; mem = None; line = line })

abbrev pub block_of : (successors liveins : List ℕ) → List (ℕ × InstrData) → BlockData
block_of successors liveins instrs = record { successors = successors; liveins = liveins; instrs = instrs }

abbrev pub function_of : List BlockData → FunctionData
function_of blocks = record { name = 0; legalized = false; banked = false; selected = false; stack = []; blocks = blocks; next_reg = 9; next_id = 99 }

abbrev pub one_block : (liveins : List ℕ) → List (ℕ × InstrData) → FunctionData
one_block liveins instrs = function_of (block_of [] liveins instrs ∷ [])

abbrev pub use_of : ℕ → Operand
use_of r = Use (reg_of r)

abbrev pub def_of : ℕ → (width : ℕ) → Operand
def_of r width = Def (reg_of r) (bits width)

abbrev pub copy_in : (line r n : ℕ) → ℕ × InstrData
copy_in line r n = on line op.Copy (def_of r 32 ∷ Phys n ∷ [])

abbrev pub copy_out : (line n r : ℕ) → ℕ × InstrData
copy_out line n r = on line op.Copy (PhysDef n ∷ use_of r ∷ [])

abbrev pub constant : (line r width value : ℕ) → ℕ × InstrData
constant line r width value = on line op.GenericConstant (def_of r width ∷ Constant width value ∷ [])

abbrev pub of_two : (line : ℕ) → Opcode → (r a b : ℕ) → ℕ × InstrData
of_two line op r a b = on line op (def_of r 32 ∷ use_of a ∷ use_of b ∷ [])

abbrev pub return_of : (line n : ℕ) → ℕ × InstrData
return_of line n = on line op.PseudoReturn (ImplicitUse n ∷ [])

abbrev pub jump_to : (line b : ℕ) → ℕ × InstrData
jump_to line b = on line op.GenericBranch (Block b ∷ [])

-- `ADJCALLSTACKDOWN 0, 0, implicit-def $x2, implicit $x2`
abbrev pub stack_moved : (line : ℕ) → Opcode → ℕ × InstrData
stack_moved line op = on line op (Int (pos 0) ∷ Int (pos 0) ∷ ImplicitDef 2 ∷ ImplicitUse 2 ∷ [])

-- ══ A loop ══

-- the loop's block in front of its difference: the phi and the sum
abbrev pub loop_phi : ℕ × InstrData
loop_phi = on 11 op.GenericPhi (def_of 2 32 ∷ use_of 0 ∷ Block 0 ∷ use_of 3 ∷ Block 1 ∷ [])

abbrev pub loop_sum : ℕ × InstrData
loop_sum = of_two 12 op.GenericAdd 4 2 1

-- `%4` is computed from `%3` before `%3` is defined
abbrev pub ahead_of_itself : FunctionData
ahead_of_itself = function_of
    (block_of (1 ∷ []) (10 ∷ []) (copy_in 7 0 10 ∷ constant 8 1 32 1 ∷ jump_to 9 1 ∷ [])
    ∷ block_of (1 ∷ []) []
    (loop_phi
    ∷ of_two 12 op.GenericAdd 4 3 1
    ∷ of_two 13 op.GenericSubtract 3 2 4
    ∷ jump_to 14 1
    ∷ [])
    ∷ [])

-- the same with the sum of `%2`
abbrev pub goes_round : FunctionData
goes_round = function_of
    (block_of (1 ∷ []) (10 ∷ []) (copy_in 7 0 10 ∷ constant 8 1 32 1 ∷ jump_to 9 1 ∷ [])
    ∷ block_of (1 ∷ []) []
    (loop_phi
    ∷ loop_sum
    ∷ of_two 13 op.GenericSubtract 3 2 4
    ∷ jump_to 14 1
    ∷ [])
    ∷ [])

-- ══ One block each ══

abbrev pub defines_twice : FunctionData
defines_twice = one_block (10 ∷ []) (copy_in 7 0 10 ∷ constant 8 0 32 1 ∷ return_of 9 10 ∷ [])

abbrev pub adds_a_byte : FunctionData
adds_a_byte = one_block (10 ∷ []) (copy_in 7 0 10 ∷ constant 8 1 8 1 ∷ of_two 9 op.GenericAdd 2 0 1 ∷ return_of 10 10 ∷ [])

-- a byte in a register of 32 bits
abbrev pub widens_a_constant : FunctionData
widens_a_constant = one_block (10 ∷ []) (on 7 op.GenericConstant (def_of 0 32 ∷ Constant 8 5 ∷ []) ∷ return_of 8 10 ∷ [])

-- a pointer is as wide as a register
abbrev pub points_to_zero : FunctionData
points_to_zero = one_block (10 ∷ []) (on 7 op.GenericConstant (Def (reg_of 0) (Generic Pointer) ∷ Constant 32 0 ∷ []) ∷ return_of 8 10 ∷ [])

-- what $x10 points to
abbrev pub loads : Opcode → (register memory : Llt) → FunctionData
loads opcode register memory = one_block (10 ∷ [])
    (on 7 op.Copy (Def (reg_of 0) (Generic Pointer) ∷ Phys 10 ∷ [])
    ∷ (8, record { op = opcode; flags = no_flags; operands = Def (reg_of 1) (Generic register) ∷ use_of 0 ∷ []; mem = Some (record { load = true; ty = memory; align = 1 }); line = 8 })
    ∷ return_of 9 10 ∷ [])

-- as many bits as the register has, of which a load with zeros above needs fewer; and a pointer as a number
abbrev pub loads_all : Opcode → FunctionData
loads_all opcode = loads opcode (Scalar 16) (Scalar 16)

abbrev pub loads_a_pointer : FunctionData
loads_a_pointer = loads op.GenericLoad (Scalar 32) Pointer

abbrev pub goes_nowhere : FunctionData
goes_nowhere = one_block (10 ∷ []) (copy_in 7 0 10 ∷ jump_to 8 65540 ∷ [])

abbrev pub joins_at_start : FunctionData
joins_at_start = one_block (10 ∷ []) (copy_in 7 0 10 ∷ on 8 op.GenericPhi (def_of 1 32 ∷ use_of 0 ∷ Block 0 ∷ []) ∷ return_of 9 10 ∷ [])

abbrev pub returns_nothing_there : FunctionData
returns_nothing_there = one_block (11 ∷ []) (constant 7 0 32 0 ∷ return_of 8 10 ∷ constant 9 1 32 1 ∷ [])

abbrev pub goes_on_behind : FunctionData
goes_on_behind = one_block (11 ∷ []) (constant 7 0 32 0 ∷ on 8 op.PseudoReturn [] ∷ constant 9 1 32 1 ∷ [])

-- x10 is given to a division, which may overwrite it, and then to a call
abbrev pub divides_between : FunctionData
divides_between = one_block (10 ∷ 11 ∷ [])
    (copy_in 7 0 10
    ∷ copy_in 8 1 11
    ∷ copy_out 9 10 0
    ∷ of_two 10 op.GenericUnsignedDivide 2 0 1
    ∷ on 11 op.PseudoCall (Global Call 0 ∷ SavedMask ∷ ImplicitDef 1 ∷ ImplicitUse 10 ∷ [])
    ∷ copy_out 12 10 2
    ∷ return_of 13 10
    ∷ [])

-- the same with the division before the copy; what is read and written of x2 behind it is no matter
abbrev pub divides_first : FunctionData
divides_first = one_block (10 ∷ 11 ∷ [])
    (copy_in 7 0 10
    ∷ copy_in 8 1 11
    ∷ of_two 9 op.GenericUnsignedDivide 2 0 1
    ∷ copy_out 10 10 0
    ∷ stack_moved 11 op.AdjustCallStackDown
    ∷ on 12 op.PseudoCall (Global Call 0 ∷ SavedMask ∷ ImplicitDef 1 ∷ ImplicitUse 10 ∷ [])
    ∷ stack_moved 13 op.AdjustCallStackUp
    ∷ copy_out 14 10 2
    ∷ return_of 15 10
    ∷ [])

-- a return behind a return
abbrev pub returns_twice : FunctionData
returns_twice = one_block (10 ∷ []) (return_of 7 10 ∷ return_of 8 10 ∷ [])

-- ══ Outside its row ══

abbrev pub def_of_class : ℕ → Operand
def_of_class r = Def (reg_of r) Class

abbrev pub class_copy : ℕ × InstrData
class_copy = on 7 op.Copy (def_of_class 0 ∷ Phys 10 ∷ [])

abbrev pub class_sum : ℕ × InstrData
class_sum = on 8 op.Add (def_of_class 1 ∷ use_of 0 ∷ use_of 0 ∷ [])

-- the second sum reads $x10, where its row has virtual registers and $x0
abbrev pub adds_x10 : FunctionData
adds_x10 = one_block (10 ∷ []) (class_copy ∷ class_sum ∷ on 9 op.Add (def_of_class 2 ∷ use_of 1 ∷ Phys 10 ∷ []) ∷ return_of 10 10 ∷ [])

-- ══ A terminator that isn't formed ══

-- the second branch defines %2, as no row of a branch has it, and the first one may leave the block before
abbrev pub jump_with_result : ℕ × InstrData
jump_with_result = on 10 op.GenericBranch (def_of 2 32 ∷ Block 2 ∷ [])

abbrev pub jumps_with_result : FunctionData
jumps_with_result = function_of
    (block_of (1 ∷ 2 ∷ []) (10 ∷ []) (copy_in 7 0 10 ∷ constant 8 1 1 1 ∷ on 9 op.GenericBranchConditional (use_of 1 ∷ Block 1 ∷ []) ∷ jump_with_result ∷ [])
    ∷ block_of [] [] (on 11 op.PseudoReturn [] ∷ [])
    ∷ block_of [] [] (on 12 op.PseudoReturn [] ∷ [])
    ∷ [])

-- ══ Sets, and a world ══

-- each of some registers is computed from each of others, and those of a list are available at the start of block 1
abbrev pub extents_of : (computed origins entering : List ℕ) → ℕ → Extent
extents_of computed origins entering r = record { origins = λ x. is_among r computed && is_among x origins; starts = λ b. (b == 1) && is_among r entering }

-- %0 and %1 come into the loop, and are available there in each round
abbrev pub extents_of_ahead : ℕ → Extent
extents_of_ahead = extents_of (3 ∷ 4 ∷ []) (1 ∷ 2 ∷ 3 ∷ 4 ∷ []) (0 ∷ 1 ∷ [])

abbrev pub extents_of_round : ℕ → Extent
extents_of_round = extents_of (3 ∷ 4 ∷ []) (1 ∷ 2 ∷ 4 ∷ []) (0 ∷ 1 ∷ [])

-- x10 has this word, and all others are 0
abbrev pub world_with : ℕ → World
world_with word = record { words = λ n. if n == 10 then word else 0; memory = λ a. None; global = λ name. 0; stack = λ object. 0; trace = [] }
