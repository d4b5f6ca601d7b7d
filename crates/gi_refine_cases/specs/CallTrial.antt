-- A trial rule: a product of 64 bits becomes a call of the runtime's routine, on RV32.
use Rattle.std.specs.Prelude.{ℕ, Bool, ◌&&◌, nat_le, List, [], ◌∷◌, ◌++◌, None}
use Rattle.gi_mir.specs.Data.{InstrData, FunctionData, reg_of}
use Rattle.gi_mir.specs.declared.opcode.Opcode.TheVariants as op
use Rattle.gi_mir.specs.declared.operand.Operand.TheVariants as operand
use Rattle.gi_mir.specs.declared.operand.SymbolFlag.TheVariants.{Call}
use Rattle.gi_meaning.specs.State.{Place, Virtual, Physical}
use Rattle.gi_meaning.specs.Act.{clobbered}
use Rattle.gi_meaning.specs.Runs.{is_among}
use Rattle.gi_refine.specs.Examples.{made, of_two, block_of, function_of, s32, use_of, copy_in, copy_out, s64}

-- `%d:s64 = G_MERGE_VALUES %l, %h`, `%l:s32, %h:s32 = G_UNMERGE_VALUES %r`
abbrev pub joins : (d l h : ℕ) → ℕ × InstrData
joins d l h = of_two op.GenericMergeValues d s64 l h

abbrev pub parts : (l h r : ℕ) → ℕ × InstrData
parts l h r = made op.GenericUnmergeValues (operand.Def (reg_of l) s32 ∷ operand.Def (reg_of h) s32 ∷ use_of r ∷ []) None

-- `%6:s64 = G_MUL %4, %5`
abbrev pub product : ℕ × InstrData
product = of_two op.GenericMultiply 6 s64 4 5

-- the call of `__muldi3`, the first of the runtime's routines
abbrev pub routine_call : ℕ × InstrData
routine_call = made op.PseudoCall
    (operand.Routine Call 0 ∷ operand.SavedMask ∷ operand.ImplicitDef 1 ∷ operand.ImplicitUse 10 ∷ operand.ImplicitUse 11 ∷ operand.ImplicitUse 12
    ∷ operand.ImplicitUse 13 ∷ operand.ImplicitDef 10 ∷ operand.ImplicitDef 11 ∷ []) None

-- the operands as words in x10 to x13
abbrev pub passing : List (ℕ × InstrData)
passing = parts 10 11 4 ∷ parts 12 13 5 ∷ copy_out 10 10 ∷ copy_out 11 11 ∷ copy_out 12 12 ∷ copy_out 13 13 ∷ []

-- the result from x10 and x11
abbrev pub taking : List (ℕ × InstrData)
taking = copy_in 14 10 s32 ∷ copy_in 15 11 s32 ∷ joins 6 14 15 ∷ []

-- all that stands for the product
abbrev pub called : List (ℕ × InstrData)
called = passing ++ (routine_call ∷ taking)

-- the two operands, each of two words, from x10 to x13
abbrev pub reading : List (ℕ × InstrData)
reading = copy_in 0 10 s32 ∷ copy_in 1 11 s32 ∷ copy_in 2 12 s32 ∷ copy_in 3 13 s32 ∷ joins 4 0 1 ∷ joins 5 2 3 ∷ []

-- `PseudoRET implicit $x10, implicit $x11`
abbrev pub return_both : ℕ × InstrData
return_both = made op.PseudoReturn (operand.ImplicitUse 10 ∷ operand.ImplicitUse 11 ∷ []) None

-- the words of the product
abbrev pub returning : List (ℕ × InstrData)
returning = parts 7 8 6 ∷ copy_out 10 7 ∷ copy_out 11 8 ∷ return_both ∷ []

-- the function by the product, and by the call
abbrev pub multiplies : FunctionData
multiplies = function_of (block_of [] (reading ++ (product ∷ returning)) ∷ [])

abbrev pub multiplies_by_call : FunctionData
multiplies_by_call = function_of (block_of [] (reading ++ (called ++ returning)) ∷ [])

-- what the call hides: the new registers, and what a call clobbers
abbrev pub call_hides : Place → Bool
call_hides (Virtual r) = nat_le 10 r && nat_le r 15
call_hides (Physical n) = is_among n clobbered
