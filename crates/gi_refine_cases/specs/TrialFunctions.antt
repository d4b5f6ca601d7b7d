-- Small functions and what rules make of them.
use Rattle.gi_mir.specs.declared.operand.Operand.{Operand}
use Rattle.gi_llt.specs.declared.Llt.TheVariants.{Scalar, Pointer}
use Rattle.gi_mir.specs.declared.operand.Kind.TheVariants.{Generic}
use Rattle.std.specs.Prelude.{ℕ, ◌==◌, if◌then◌else◌, List, [], ◌∷◌, None, false, ◌++◌, ◌||◌, Bool, ◌+◌, Some, true}
use Rattle.gi_mir.specs.Data.{InstrData, FunctionData, BlockData, reg_of}
use Rattle.gi_mir.specs.declared.opcode.Opcode.{Opcode}
use Rattle.gi_mir.specs.declared.opcode.Opcode.TheVariants as op
use Rattle.gi_mir.specs.declared.operand.Kind.{Kind}
use Rattle.gi_mir.specs.declared.operand.Operand.TheVariants.{Def, ImplicitUse, Block}
use Rattle.gi_refine.specs.Examples.{made, block_of, function_of, s32, use_of, copy_in, copy_out, return_of, bits, of_one, of_two, constant_in, one_block}
use Rattle.gi_refine.specs.Lifting.{Placing}
use Rattle.gi_refine.specs.OnePlace.{OnePlace}
use Rattle.gi_refine.specs.Replacing.{Replacement}

-- ══ x - x ══

-- `%0 = COPY $x10`, `%1 = G_SUB %0, %0`, `$x10 = COPY %1`
abbrev pub subtracts_itself : FunctionData
subtracts_itself = one_block (copy_in 0 10 s32 ∷ of_two op.GenericSubtract 1 s32 0 0 ∷ copy_out 10 1 ∷ return_of 10 ∷ [])

-- `%1 = G_CONSTANT i32 0` in its place
abbrev pub gives_zero : FunctionData
gives_zero = one_block (copy_in 0 10 s32 ∷ constant_in 1 32 0 s32 ∷ copy_out 10 1 ∷ return_of 10 ∷ [])

abbrev pub subtraction_folded : Replacement
subtraction_folded = record {
  block = 0;
  before = copy_in 0 10 s32 ∷ [];
  old = of_two op.GenericSubtract 1 s32 0 0 ∷ [];
  new = constant_in 1 32 0 s32 ∷ [];
  after = copy_out 10 1 ∷ return_of 10 ∷ [];
  hidden = λ r. false;
}

abbrev pub subtraction_placed : Placing
subtraction_placed = record { inputs = 0 ∷ []; old = (1 ∷ []) ∷ []; new = (1 ∷ []) ∷ [] }

-- ══ x + 0 ══

-- `%0 = COPY $x10`, `%1 = G_CONSTANT i32 0`
abbrev pub word_and_zero : List (ℕ × InstrData)
word_and_zero = copy_in 0 10 s32 ∷ constant_in 1 32 0 s32 ∷ []

-- `%2 = G_ADD %0, %1`, `$x10 = COPY %2`
abbrev pub adds_zero : FunctionData
adds_zero = one_block (copy_in 0 10 s32 ∷ constant_in 1 32 0 s32 ∷ of_two op.GenericAdd 2 s32 0 1 ∷ copy_out 10 2 ∷ return_of 10 ∷ [])

-- `$x10 = COPY %0` without the sum
abbrev pub gives_summand : FunctionData
gives_summand = one_block (copy_in 0 10 s32 ∷ constant_in 1 32 0 s32 ∷ copy_out 10 0 ∷ return_of 10 ∷ [])

abbrev pub sum_replaced : OnePlace
sum_replaced = record {
  block = 0;
  before = word_and_zero;
  old = of_two op.GenericAdd 2 s32 0 1 ∷ [];
  after = copy_out 10 2 ∷ return_of 10 ∷ [];
  new_before = word_and_zero;
  new = [];
  new_after = copy_out 10 0 ∷ return_of 10 ∷ [];
  hidden = λ r. r == 2;
  rename = λ r. if r == 2 then 0 else r;
}

abbrev pub sum_placed : Placing
sum_placed = record { inputs = 0 ∷ 1 ∷ []; old = (2 ∷ []) ∷ []; new = [] }

-- ══ A sum of parts of words ══

-- the low n bits of the words in x10 and x11, in %2 and %3
abbrev pub two_parts : (x n : ℕ) → List (ℕ × InstrData)
two_parts x n =
    copy_in 0 10 (bits x) ∷ copy_in 1 11 (bits x) ∷ of_one op.GenericTruncate 2 (bits n) 0 ∷ of_one op.GenericTruncate 3 (bits n) 1 ∷ []

-- `%5 = G_ANYEXT %4`, `$x10 = COPY %5`
abbrev pub part_returned : (x : ℕ) → List (ℕ × InstrData)
part_returned x = of_one op.GenericAnyExtend 5 (bits x) 4 ∷ copy_out 10 5 ∷ return_of 10 ∷ []

-- `%4 = G_ADD %2, %3`
abbrev pub sum_of_parts : (n : ℕ) → List (ℕ × InstrData)
sum_of_parts n = of_two op.GenericAdd 4 (bits n) 2 3 ∷ []

-- the sum of the parts extended to words, truncated
abbrev pub wide_sum : (x n : ℕ) → List (ℕ × InstrData)
wide_sum x n =
    of_one op.GenericAnyExtend 6 (bits x) 2 ∷ of_one op.GenericAnyExtend 7 (bits x) 3
    ∷ of_two op.GenericAdd 8 (bits x) 6 7 ∷ of_one op.GenericTruncate 4 (bits n) 8 ∷ []

-- between the parts and what is returned
abbrev pub on_parts : (x n : ℕ) → List (ℕ × InstrData) → FunctionData
on_parts x n is = one_block (two_parts x n ++ (is ++ part_returned x))

abbrev pub wide_hidden : ℕ → Bool
wide_hidden r = (6 == r) || (7 == r) || (8 == r)

abbrev pub wide_placed : Placing
wide_placed = record { inputs = 2 ∷ 3 ∷ []; old = (4 ∷ []) ∷ []; new = (6 ∷ []) ∷ (7 ∷ []) ∷ (8 ∷ []) ∷ (4 ∷ []) ∷ [] }

-- ══ A sum of two words each ══

-- `%d, %e = OP ..`
abbrev pub of_pair : Opcode → (d e : ℕ) → Kind → Kind → List Operand → ℕ × InstrData
of_pair op d e kind other uses = made op (Def (reg_of d) kind ∷ Def (reg_of e) other ∷ uses) None

-- the words in x10 to x13, merged two by two in %4 and %5
abbrev pub two_doubles : (x : ℕ) → List (ℕ × InstrData)
two_doubles x =
    copy_in 0 10 (bits x) ∷ copy_in 1 11 (bits x) ∷ copy_in 2 12 (bits x) ∷ copy_in 3 13 (bits x)
    ∷ of_two op.GenericMergeValues 4 (bits (x + x)) 0 1 ∷ of_two op.GenericMergeValues 5 (bits (x + x)) 2 3 ∷ []

-- the halves of %6 in x10 and x11
abbrev pub double_returned : (x : ℕ) → List (ℕ × InstrData)
double_returned x =
    of_pair op.GenericUnmergeValues 7 8 (bits x) (bits x) (use_of 6 ∷ [])
    ∷ copy_out 10 7 ∷ copy_out 11 8 ∷ made op.PseudoReturn (ImplicitUse 10 ∷ ImplicitUse 11 ∷ []) None ∷ []

-- `%6 = G_ADD %4, %5`
abbrev pub sum_of_doubles : (x : ℕ) → List (ℕ × InstrData)
sum_of_doubles x = of_two op.GenericAdd 6 (bits (x + x)) 4 5 ∷ []

-- the sum by halves, with a carry
abbrev pub sum_by_words : (x : ℕ) → List (ℕ × InstrData)
sum_by_words x =
    of_pair op.GenericUnmergeValues 9 10 (bits x) (bits x) (use_of 4 ∷ [])
    ∷ of_pair op.GenericUnmergeValues 11 12 (bits x) (bits x) (use_of 5 ∷ [])
    ∷ of_pair op.GenericUnsignedAddOverflow 13 14 (bits x) (bits 1) (use_of 9 ∷ use_of 11 ∷ [])
    ∷ of_pair op.GenericUnsignedAddCarry 15 16 (bits x) (bits 1) (use_of 10 ∷ use_of 12 ∷ use_of 14 ∷ [])
    ∷ of_two op.GenericMergeValues 6 (bits (x + x)) 13 15 ∷ []

abbrev pub on_doubles : (x : ℕ) → List (ℕ × InstrData) → FunctionData
on_doubles x is = one_block (two_doubles x ++ (is ++ double_returned x))

abbrev pub is_one_of : List ℕ → ℕ → Bool
is_one_of [] q = false
is_one_of (r ∷ rs) q = (r == q) || is_one_of rs q

abbrev pub word_registers : List ℕ
word_registers = 9 ∷ 10 ∷ 11 ∷ 12 ∷ 13 ∷ 14 ∷ 15 ∷ 16 ∷ []

abbrev pub double_placed : Placing
double_placed = record {
  inputs = 4 ∷ 5 ∷ [];
  old = (6 ∷ []) ∷ [];
  new = (9 ∷ 10 ∷ []) ∷ (11 ∷ 12 ∷ []) ∷ (13 ∷ 14 ∷ []) ∷ (15 ∷ 16 ∷ []) ∷ (6 ∷ []) ∷ [];
}

-- ══ A load by bytes ══

-- `%d = OP %a :: (load (sSIZE), align 1)`
abbrev pub load_in : Opcode → (d n size a : ℕ) → ℕ × InstrData
load_in op d n size a = made op (Def (reg_of d) (bits n) ∷ use_of a ∷ []) (Some (record { load = true; ty = Scalar size; align = 1 }))

-- the address in x10, in %0
abbrev pub address_in : List (ℕ × InstrData)
address_in = copy_in 0 10 (Generic Pointer) ∷ []

-- a load of 16 bits from any address
abbrev pub half_loaded : List (ℕ × InstrData)
half_loaded = load_in op.GenericLoad 1 32 16 0 ∷ []

-- two loads of 8 bits, a shift and an or
abbrev pub bytes_loaded : (x : ℕ) → List (ℕ × InstrData)
bytes_loaded x =
    load_in op.GenericZeroExtendLoad 2 32 8 0
    ∷ constant_in 3 x 1 (bits x) ∷ of_two op.GenericPointerAdd 4 (Generic Pointer) 0 3 ∷ load_in op.GenericLoad 5 32 8 4
    ∷ constant_in 6 32 8 s32 ∷ of_two op.GenericShiftLeft 7 s32 5 6 ∷ of_two op.GenericOr 1 s32 7 2 ∷ []

abbrev pub on_address : List (ℕ × InstrData) → FunctionData
on_address is = one_block (address_in ++ (is ++ (copy_out 10 1 ∷ return_of 10 ∷ [])))

abbrev pub byte_registers : List ℕ
byte_registers = 2 ∷ 3 ∷ 4 ∷ 5 ∷ 6 ∷ 7 ∷ []

abbrev pub bytes_placed : Placing
bytes_placed = record {
  inputs = 0 ∷ [];
  old = (1 ∷ []) ∷ [];
  new = (2 ∷ []) ∷ (3 ∷ []) ∷ (4 ∷ []) ∷ (5 ∷ []) ∷ (6 ∷ []) ∷ (7 ∷ []) ∷ (1 ∷ []) ∷ [];
}

-- ══ A product behind a phi ══

-- the words in x10 to x12 and the constant 8; by the first of them to block 2, or first to block 1
abbrev pub first_block : BlockData
first_block = block_of (2 ∷ 1 ∷ [])
    (copy_in 0 10 s32 ∷ copy_in 1 11 s32 ∷ copy_in 2 12 s32 ∷ constant_in 4 32 8 s32
    ∷ made op.GenericBranchConditional (use_of 0 ∷ Block 2 ∷ []) None ∷ made op.GenericBranch (Block 1 ∷ []) None ∷ [])

abbrev pub second_block : BlockData
second_block = block_of (2 ∷ []) (made op.GenericBranch (Block 2 ∷ []) None ∷ [])

-- `%3 = G_PHI %1, %bb.0, %2, %bb.1`
abbrev pub chosen_word : List (ℕ × InstrData)
chosen_word = made op.GenericPhi (Def (reg_of 3) s32 ∷ use_of 1 ∷ Block 0 ∷ use_of 2 ∷ Block 1 ∷ []) None ∷ []

-- `%5 = G_MUL %3, %4`
abbrev pub product_by_eight : List (ℕ × InstrData)
product_by_eight = of_two op.GenericMultiply 5 s32 3 4 ∷ []

-- `%6 = G_CONSTANT i32 3`, `%5 = G_SHL %3, %6`
abbrev pub shift_by_three : List (ℕ × InstrData)
shift_by_three = constant_in 6 32 3 s32 ∷ of_two op.GenericShiftLeft 5 s32 3 6 ∷ []

abbrev pub fifth_returned : List (ℕ × InstrData)
fifth_returned = copy_out 10 5 ∷ return_of 10 ∷ []

abbrev pub on_chosen : List (ℕ × InstrData) → FunctionData
on_chosen is = function_of (first_block ∷ second_block ∷ block_of [] (chosen_word ++ (is ++ fifth_returned)) ∷ [])

abbrev pub product_placed : Placing
product_placed = record { inputs = 3 ∷ 4 ∷ []; old = (5 ∷ []) ∷ []; new = (6 ∷ []) ∷ (5 ∷ []) ∷ [] }

abbrev pub product_shifted : Replacement
product_shifted = record { block = 2; before = chosen_word; old = product_by_eight; new = shift_by_three; after = fifth_returned; hidden = λ r. 6 == r }
