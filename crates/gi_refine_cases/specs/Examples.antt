-- Small functions, one for each kind of instruction.
use Rattle.std.specs.Prelude.{List, [], ◌∷◌, Some, None, true, false, codes}
use Rattle.gi_llt.specs.declared.Llt.TheVariants.{Scalar, Pointer}
use Rattle.gi_mir.specs.Data.{FunctionData, reg_of}
use Rattle.gi_mir.specs.declared.opcode.Opcode.TheVariants as op
use Rattle.gi_mir.specs.declared.operand.Kind.TheVariants.{Generic}
use Rattle.gi_mir.specs.declared.operand.Operand.{Operand}
use Rattle.gi_mir.specs.declared.operand.Operand.TheVariants.{Def, ImplicitUse, ImplicitDef, Block, Global, SavedMask}
use Rattle.gi_mir.specs.declared.operand.SymbolFlag.TheVariants.{Call}
use Rattle.gi_meaning.specs.State.{Event}
use Rattle.gi_refine.specs.Examples.{made, block_of, function_of, s32, use_of, copy_in, copy_out, return_of, counting}

-- the low byte of what was stored: `G_STORE %1, %0 :: (store (s16))`, `%2 = G_ZEXTLOAD %0 :: (load (s8))`
abbrev pub stores_and_loads : FunctionData
stores_and_loads = function_of (block_of []
    (copy_in 0 10 (Generic Pointer)
    ∷ copy_in 1 11 s32
    ∷ made op.GenericStore (use_of 1 ∷ use_of 0 ∷ []) (Some (record { load = false; ty = Scalar 16; align = 2 }))
    ∷ made op.GenericZeroExtendLoad (Def (reg_of 2) s32 ∷ use_of 0 ∷ []) (Some (record { load = true; ty = Scalar 8; align = 1 }))
    ∷ copy_out 10 2
    ∷ return_of 10
    ∷ []) ∷ [])

-- a load from an address that its alignment doesn't allow
abbrev pub loads_misaligned : FunctionData
loads_misaligned = function_of (block_of []
    (copy_in 0 10 (Generic Pointer)
    ∷ made op.GenericLoad (Def (reg_of 1) s32 ∷ use_of 0 ∷ []) (Some (record { load = true; ty = Scalar 32; align = 4 }))
    ∷ copy_out 10 1
    ∷ return_of 10
    ∷ []) ∷ [])

-- by x10 the value of x11 or that of x12, through a phi
abbrev pub chooses : FunctionData
chooses = function_of
    (block_of (2 ∷ 1 ∷ [])
    (copy_in 0 10 s32
    ∷ copy_in 1 11 s32
    ∷ copy_in 2 12 s32
    ∷ made op.GenericBranchConditional (use_of 0 ∷ Block 2 ∷ []) None
    ∷ made op.GenericBranch (Block 1 ∷ []) None
    ∷ [])
    ∷ block_of (2 ∷ []) (made op.GenericBranch (Block 2 ∷ []) None ∷ [])
    ∷ block_of []
    (made op.GenericPhi (Def (reg_of 3) s32 ∷ use_of 1 ∷ Block 0 ∷ use_of 2 ∷ Block 1 ∷ []) None
    ∷ copy_out 10 3
    ∷ return_of 10
    ∷ [])
    ∷ [])

-- a division by x11
abbrev pub divides : FunctionData
divides = function_of (block_of []
    (copy_in 0 10 s32
    ∷ copy_in 1 11 s32
    ∷ made op.GenericUnsignedDivide (Def (reg_of 2) s32 ∷ use_of 0 ∷ use_of 1 ∷ []) None
    ∷ copy_out 10 2
    ∷ return_of 10
    ∷ []) ∷ [])

abbrev pub called_operands : List Operand
called_operands = Global Call 1 ∷ SavedMask ∷ ImplicitDef 1 ∷ ImplicitUse 10 ∷ ImplicitDef 10 ∷ []

-- a call of g with x10, whose result is returned
abbrev pub calls : FunctionData
calls = function_of (block_of []
    (made op.PseudoCall called_operands None
    ∷ return_of 10
    ∷ []) ∷ [])

-- g gets 5 and gives 7
abbrev pub answered : List Event
answered = record { callee = codes "g"; arguments = 5 ∷ []; before = counting; results = 7 ∷ []; after = counting } ∷ []
