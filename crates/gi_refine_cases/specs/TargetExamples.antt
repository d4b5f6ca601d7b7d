-- Small functions of generic instructions and of RISC-V's, one for each kind of effect.
use Rattle.std.specs.Prelude.{ℕ, ℤ, pos, negsuc, true, false, List, [], ◌∷◌, ◌++◌, Option, Some, None}
use Rattle.gi_llt.specs.declared.Llt.TheVariants.{Scalar}
use Rattle.gi_mir.specs.Data.{InstrData, FunctionData, reg_of, no_flags}
use Rattle.gi_mir.specs.declared.opcode.Opcode.{Opcode}
use Rattle.gi_mir.specs.declared.opcode.Opcode.TheVariants as op
use Rattle.gi_mir.specs.declared.operand.Kind.{Kind}
use Rattle.gi_mir.specs.declared.operand.Kind.TheVariants.{Class}
use Rattle.gi_mir.specs.declared.operand.MemOp.{MemOp}
use Rattle.gi_mir.specs.declared.operand.Operand.{Operand}
use Rattle.gi_mir.specs.declared.operand.Operand.TheVariants.{Def, ImplicitUse, ImplicitDef, Int, Block, Global, Routine, SavedMask}
use Rattle.gi_mir.specs.declared.operand.SymbolFlag.TheVariants.{Call, Hi, Lo}
use Rattle.gi_meaning.specs.State.{World}
use Rattle.gi_refine.specs.Examples.{made, block_of, function_of, s32, use_of, copy_in, copy_out, return_of, world_of, s8, of_two, constant_in}

-- ══ Making functions of one block ══

-- `%0` and `%1` are the words in x10 and x11, these instructions follow, and `%r` is returned
abbrev pub computing : Kind → List (ℕ × InstrData) → (r : ℕ) → FunctionData
computing kind instrs r = function_of (block_of [] (copy_in 0 10 kind ∷ copy_in 1 11 kind ∷ (instrs ++ copy_out 10 r ∷ return_of 10 ∷ [])) ∷ [])

-- `%d = OP %a, i`
abbrev pub on_number : Opcode → (d : ℕ) → Kind → (a : ℕ) → ℤ → ℕ × InstrData
on_number opcode d kind a i = made opcode (Def (reg_of d) kind ∷ use_of a ∷ Int i ∷ []) None

-- ══ Generic instructions ══

abbrev pub adds : FunctionData
adds = computing s32 (of_two op.GenericAdd 2 s32 0 1 ∷ []) 2

abbrev pub multiplies : FunctionData
multiplies = computing s32 (of_two op.GenericMultiply 2 s32 0 1 ∷ []) 2

abbrev pub is_seven : FunctionData
is_seven = computing s32 (constant_in 2 32 7 s32 ∷ []) 2

abbrev pub divides_signed : FunctionData
divides_signed = computing s32 (of_two op.GenericSignedDivide 2 s32 0 1 ∷ []) 2

-- `%5` has no definition
abbrev pub reads_nothing : FunctionData
reads_nothing = computing s32 [] 5

-- counts x10 down to 0, and returns that
abbrev pub counts_down : FunctionData
counts_down = function_of
    (block_of (1 ∷ []) (copy_in 0 10 s32 ∷ constant_in 3 32 4294967295 s32 ∷ made op.GenericBranch (Block 1 ∷ []) None ∷ [])
    ∷ block_of (1 ∷ 2 ∷ [])
    (made op.GenericPhi (Def (reg_of 1) s32 ∷ use_of 0 ∷ Block 0 ∷ use_of 2 ∷ Block 1 ∷ []) None
    ∷ of_two op.GenericAdd 2 s32 1 3
    ∷ made op.GenericBranchConditional (use_of 2 ∷ Block 1 ∷ []) None
    ∷ [])
    ∷ block_of [] (copy_out 10 2 ∷ return_of 10 ∷ [])
    ∷ [])

-- returns the words of x10 and x11, between lines that do nothing
abbrev pub returns_two : FunctionData
returns_two = function_of (block_of []
    (made op.AdjustCallStackDown (Int (pos 0) ∷ Int (pos 0) ∷ ImplicitDef 2 ∷ ImplicitUse 2 ∷ []) None
    ∷ made op.AdjustCallStackUp (Int (pos 0) ∷ Int (pos 0) ∷ ImplicitDef 2 ∷ ImplicitUse 2 ∷ []) None
    ∷ made op.PseudoReturn (ImplicitUse 10 ∷ ImplicitUse 11 ∷ []) None
    ∷ []) ∷ [])

-- ══ RISC-V's instructions on words ══

abbrev pub adds_words : FunctionData
adds_words = computing Class (of_two op.Add 2 Class 0 1 ∷ []) 2

abbrev pub adds_minus_one : FunctionData
adds_minus_one = computing Class (on_number op.AddImmediate 2 Class 0 (negsuc 0) ∷ []) 2

abbrev pub is_below_five : FunctionData
is_below_five = computing Class (on_number op.SetLessImmediateUnsigned 2 Class 0 (pos 5) ∷ []) 2

-- `%2 = LUI 524288`
abbrev pub upper_half : FunctionData
upper_half = computing Class (made op.LoadUpperImmediate (Def (reg_of 2) Class ∷ Int (pos 524288) ∷ []) None ∷ []) 2

abbrev pub adds_low_words : FunctionData
adds_low_words = computing Class (of_two op.AddWord 2 Class 0 1 ∷ []) 2

abbrev pub extends_low_word : FunctionData
extends_low_word = computing Class (on_number op.AddImmediateWord 2 Class 0 (pos 0) ∷ []) 2

-- the address of the function g, in two steps
abbrev pub address_of_g : FunctionData
address_of_g = computing Class
    (made op.LoadUpperImmediate (Def (reg_of 2) Class ∷ Global Hi 1 ∷ []) None
    ∷ made op.AddImmediate (Def (reg_of 3) Class ∷ use_of 2 ∷ Global Lo 1 ∷ []) None
    ∷ []) 3

-- a world in which each global lies here
abbrev pub world_with_globals : ℕ → World
world_with_globals address = record (world_of 0 0 0 []) { global = λ name. address }

-- ══ RISC-V's memory and branches ══

abbrev pub word_memory : Option MemOp
word_memory = Some (record { load = true; ty = Scalar 32; align = 4 })

-- `SW %1, %0, 4`, `%2 = LW %0, 4`
abbrev pub stores_and_loads_words : FunctionData
stores_and_loads_words = computing Class
    (made op.StoreWord (use_of 1 ∷ use_of 0 ∷ Int (pos 4) ∷ []) (Some (record { load = false; ty = Scalar 32; align = 4 }))
    ∷ made op.LoadWord (Def (reg_of 2) Class ∷ use_of 0 ∷ Int (pos 4) ∷ []) word_memory
    ∷ []) 2

abbrev pub loads_word : FunctionData
loads_word = computing Class (made op.LoadWord (Def (reg_of 2) Class ∷ use_of 0 ∷ Int (pos 0) ∷ []) word_memory ∷ []) 2

abbrev pub loads_double : FunctionData
loads_double = computing Class
    (made op.LoadDouble (Def (reg_of 2) Class ∷ use_of 0 ∷ Int (pos 0) ∷ []) (Some (record { load = true; ty = Scalar 64; align = 8 })) ∷ []) 2

-- returns x12 where x10 and x11 are equal, and x10 elsewhere
abbrev pub compares : FunctionData
compares = function_of
    (block_of (2 ∷ 1 ∷ [])
    (copy_in 0 10 Class
    ∷ copy_in 1 11 Class
    ∷ made op.BranchEqual (use_of 0 ∷ use_of 1 ∷ Block 2 ∷ []) None
    ∷ made op.PseudoBranch (Block 1 ∷ []) None
    ∷ [])
    ∷ block_of [] (return_of 10 ∷ [])
    ∷ block_of [] (return_of 12 ∷ [])
    ∷ [])

-- ══ Free choices ══

-- the bits of an s8 in a register of 32, the others free
abbrev pub extends_anyhow : List (ℕ × InstrData)
extends_anyhow = copy_in 0 10 s8 ∷ made op.GenericAnyExtend (Def (reg_of 2) s32 ∷ use_of 0 ∷ []) None ∷ copy_out 10 2 ∷ return_of 10 ∷ []

-- any word
abbrev pub takes_anything : List (ℕ × InstrData)
takes_anything = made op.GenericImplicitDef (Def (reg_of 2) s32 ∷ []) None ∷ copy_out 10 2 ∷ return_of 10 ∷ []

-- an addition that promises not to wrap
abbrev pub adds_without_wrapping : List (ℕ × InstrData)
adds_without_wrapping =
    copy_in 0 10 s32
    ∷ copy_in 1 11 s32
    ∷ (0, record { op = op.GenericAdd; flags = record no_flags { nuw = true }; operands = Def (reg_of 2) s32 ∷ use_of 0 ∷ use_of 1 ∷ []; mem = None; line = 1 })
    ∷ copy_out 10 2
    ∷ return_of 10
    ∷ []

-- x10 by x11 to the left
abbrev pub shifts : List (ℕ × InstrData)
shifts = copy_in 0 10 s32 ∷ copy_in 1 11 s32 ∷ of_two op.GenericShiftLeft 2 s32 0 1 ∷ copy_out 10 2 ∷ return_of 10 ∷ []

-- the low half of x10 through a register of 32 bits
abbrev pub copies_low_half : List (ℕ × InstrData)
copies_low_half = copy_in 0 10 s32 ∷ copy_out 10 0 ∷ return_of 10 ∷ []

-- instructions of RV64 that read registers of 32 bits: the sum of low halves, and the upper half
abbrev pub adds_low_halves : List (ℕ × InstrData)
adds_low_halves = copy_in 0 10 s32 ∷ copy_in 1 11 s32 ∷ of_two op.AddWord 2 Class 0 1 ∷ copy_out 10 2 ∷ return_of 10 ∷ []

abbrev pub takes_upper_half : List (ℕ × InstrData)
takes_upper_half = copy_in 0 10 s32 ∷ on_number op.ShiftRightLogicalImmediate 2 Class 0 (pos 32) ∷ copy_out 10 2 ∷ return_of 10 ∷ []

-- ══ Routines of the runtime ══

-- `PseudoCALL &__udivdi3` of x10 to x13
abbrev pub routine_call : ℕ × InstrData
routine_call = made op.PseudoCall
    (Routine Call 2 ∷ SavedMask ∷ ImplicitDef 1
    ∷ ImplicitUse 10 ∷ ImplicitUse 11 ∷ ImplicitUse 12 ∷ ImplicitUse 13 ∷ ImplicitDef 10 ∷ ImplicitDef 11 ∷ []) None

-- the call, and then the return of these registers
abbrev pub divides_by_routine : List Operand → List (ℕ × InstrData)
divides_by_routine registers = routine_call ∷ made op.PseudoReturn registers None ∷ []
