-- Rules of the legaliser that make an operation of others, as rewrites.
use Rattle.std.specs.Prelude.{ℕ, zero, suc, pos, ◌+◌, ◌-◌, ◌*◌, ◌/◌, ◌%◌, ◌^◌, ◌++◌, List, [], ◌∷◌}
use Rattle.gi_mir.specs.Data.{no_flags}
use Rattle.gi_mir.specs.declared.opcode.Opcode.TheVariants as op
use Rattle.gi_mir.specs.declared.opcode.Opcode.{Opcode}
use Rattle.gi_mir.specs.declared.operand.Flags.{Flags}
use Rattle.gi_mir.specs.declared.operand.Operand.TheVariants as operand
use Rattle.gi_mir.specs.declared.operand.Pred.{Pred}
use Rattle.gi_mir.specs.declared.operand.Pred.TheVariants.{Ult}
use Rattle.gi_rule_values.specs.Data.{OperationData, RewriteData}
use Rattle.gi_rule_values.specs.Forms.{compare, constant, flagged, number, on_one, on_two, parts, plain, rewrite, s, slots_from}
use Rattle.gi_rule_values.specs.declared.rewrite.Slot.TheVariants.{At, Stands}

-- a sum with a carry in and a carry out: two sums, of which at most one carries
abbrev pub lower_uadde : Flags → (n : ℕ) → RewriteData
lower_uadde flags n = record {
  inputs = s n ∷ s n ∷ s 1 ∷ [];
  definitions = [];
  root = flagged flags op.GenericUnsignedAddCarry (At 0 ∷ At 1 ∷ At 2 ∷ []) (s n ∷ s 1 ∷ []);
  made = on_two op.GenericAdd 0 1 (s n)
      ∷ on_one op.GenericZeroExtend 2 (s n)
      ∷ on_two op.GenericAdd 3 4 (s n)
      ∷ compare Ult 3 0 (s 1)
      ∷ compare Ult 5 3 (s 1)
      ∷ on_two op.GenericOr 6 7 (s 1)
      ∷ [];
  results = 5 ∷ 8 ∷ [];
}

-- the size of a number with a sign: where it is below zero, all bits are turned and one is added
abbrev pub lower_abs : Flags → (n : ℕ) → RewriteData
lower_abs flags n =
    rewrite (s n ∷ []) [] (flagged flags op.GenericAbsolute (At 0 ∷ []) (s n ∷ []))
    (number n (n - 1) ∷ on_two op.GenericArithmeticShiftRight 0 1 (s n) ∷ on_two op.GenericXor 0 2 (s n) ∷ on_two op.GenericSubtract 3 2 (s n) ∷ []) 4

-- logic of twice x bits, half by half
abbrev pub narrow_logic : Opcode → Flags → (x : ℕ) → RewriteData
narrow_logic logic flags x =
    rewrite (s (2 * x) ∷ s (2 * x) ∷ []) [] (flagged flags logic (At 0 ∷ At 1 ∷ []) (s (2 * x) ∷ []))
    (flagged no_flags op.GenericUnmergeValues (At 0 ∷ []) (s x ∷ s x ∷ [])
    ∷ flagged no_flags op.GenericUnmergeValues (At 1 ∷ []) (s x ∷ s x ∷ [])
    ∷ on_two logic 2 4 (s x)
    ∷ on_two logic 3 5 (s x)
    ∷ on_two op.GenericMergeValues 6 7 (s (2 * x))
    ∷ []) 8

-- a constant directly before the operation that takes it
abbrev pub with_constant : Opcode → (a next bits value : ℕ) → List OperationData
with_constant opcode a next bits value = number bits value ∷ on_two opcode a next (s bits) ∷ []

-- the ones of x bits, x being 32 or 64: of each two bits, of each four, of each byte, and then of all bytes. The masks are
-- bytes of 55, 33, 0F and 01.
abbrev pub lower_ctpop : Flags → (x pairs nibbles bytes units : ℕ) → RewriteData
lower_ctpop flags x pairs nibbles bytes units =
    rewrite (s x ∷ []) [] (flagged flags op.GenericPopulationCount (At 0 ∷ []) (s x ∷ []))
    (number x 1 ∷ on_two op.GenericLogicalShiftRight 0 1 (s x)
    ∷ number x pairs ∷ on_two op.GenericAnd 2 3 (s x)
    ∷ on_two op.GenericSubtract 0 4 (s x)
    ∷ number x nibbles ∷ on_two op.GenericAnd 5 6 (s x)
    ∷ number x 2 ∷ on_two op.GenericLogicalShiftRight 5 8 (s x)
    ∷ number x nibbles ∷ on_two op.GenericAnd 9 10 (s x)
    ∷ on_two op.GenericAdd 7 11 (s x)
    ∷ number x 4 ∷ on_two op.GenericLogicalShiftRight 12 13 (s x)
    ∷ on_two op.GenericAdd 12 14 (s x)
    ∷ number x bytes ∷ on_two op.GenericAnd 15 16 (s x)
    ∷ number x units ∷ on_two op.GenericMultiply 17 18 (s x)
    ∷ number x (x - 8) ∷ on_two op.GenericLogicalShiftRight 19 20 (s x)
    ∷ []) 21

abbrev pub lower_ctpop_32 : Flags → RewriteData
lower_ctpop_32 flags = lower_ctpop flags 32 1431655765 858993459 252645135 16843009

abbrev pub lower_ctpop_64 : Flags → RewriteData
lower_ctpop_64 flags = lower_ctpop flags 64 6148914691236517205 3689348814741910323 1085102592571150095 72340172838076673

-- groups of so many bits change places with their neighbours: what stands at a, where next is the first place that is free
abbrev pub groups_swapped : (x a next size mask : ℕ) → List OperationData
groups_swapped x a next size mask =
    number x size ∷ on_two op.GenericLogicalShiftRight a next (s x)
    ∷ number x mask ∷ on_two op.GenericAnd (next + 1) (next + 2) (s x)
    ∷ number x mask ∷ on_two op.GenericAnd a (next + 4) (s x)
    ∷ number x size ∷ on_two op.GenericShiftLeft (next + 5) (next + 6) (s x)
    ∷ on_two op.GenericOr (next + 3) (next + 7) (s x)
    ∷ []

abbrev pub lower_bswap_32 : Flags → RewriteData
lower_bswap_32 flags =
    rewrite (s 32 ∷ []) [] (flagged flags op.GenericByteSwap (At 0 ∷ []) (s 32 ∷ []))
    (groups_swapped 32 0 1 8 16711935 ++ groups_swapped 32 9 10 16 65535) 18

abbrev pub lower_bswap_64 : Flags → RewriteData
lower_bswap_64 flags =
    rewrite (s 64 ∷ []) [] (flagged flags op.GenericByteSwap (At 0 ∷ []) (s 64 ∷ []))
    (groups_swapped 64 0 1 8 71777214294589695 ++ groups_swapped 64 9 10 16 281470681808895 ++ groups_swapped 64 18 19 32 4294967295) 27

-- ══ Parts ══

-- each further part is extended, shifted to its place and joined to the sum of those below it
abbrev pub merge_steps : (bits width sum next i left : ℕ) → List OperationData
merge_steps bits width sum next i zero = []
merge_steps bits width sum next i (suc left) =
    on_one op.GenericZeroExtend i (s bits)
    ∷ number bits (i * width) ∷ on_two op.GenericShiftLeft next (next + 1) (s bits)
    ∷ on_two op.GenericOr sum (next + 2) (s bits)
    ∷ merge_steps bits width (next + 3) (next + 4) (i + 1) left

abbrev pub merge_place : (sum next left : ℕ) → ℕ
merge_place sum next zero = sum
merge_place sum next (suc left) = merge_place (next + 3) (next + 4) left

-- one part and so many further ones
abbrev pub lower_merge : Flags → (width further : ℕ) → RewriteData
lower_merge flags width further =
    let bits = suc further * width in
    let count = suc further in
    rewrite (parts count width) [] (flagged flags op.GenericMergeValues (slots_from 0 count) (s bits ∷ []))
    (on_one op.GenericZeroExtend 0 (s bits) ∷ merge_steps bits width count (count + 1) 1 further) (merge_place count (count + 1) further)

-- ══ Sums and differences with one bit ══

-- a sum that carries is below its summands
abbrev pub lower_uaddo : Flags → (n : ℕ) → RewriteData
lower_uaddo flags n = record {
  inputs = s n ∷ s n ∷ [];
  definitions = [];
  root = flagged flags op.GenericUnsignedAddOverflow (At 0 ∷ At 1 ∷ []) (s n ∷ s 1 ∷ []);
  made = on_two op.GenericAdd 0 1 (s n) ∷ compare Ult 2 0 (s 1) ∷ [];
  results = 2 ∷ 3 ∷ [];
}

abbrev pub lower_usubo : Flags → (n : ℕ) → RewriteData
lower_usubo flags n = record {
  inputs = s n ∷ s n ∷ [];
  definitions = [];
  root = flagged flags op.GenericUnsignedSubtractOverflow (At 0 ∷ At 1 ∷ []) (s n ∷ s 1 ∷ []);
  made = on_two op.GenericSubtract 0 1 (s n) ∷ compare Ult 0 1 (s 1) ∷ [];
  results = 2 ∷ 3 ∷ [];
}

-- two differences, of which at most one borrows
abbrev pub lower_usube : Flags → (n : ℕ) → RewriteData
lower_usube flags n = record {
  inputs = s n ∷ s n ∷ s 1 ∷ [];
  definitions = [];
  root = flagged flags op.GenericUnsignedSubtractBorrow (At 0 ∷ At 1 ∷ At 2 ∷ []) (s n ∷ s 1 ∷ []);
  made = on_two op.GenericSubtract 0 1 (s n)
      ∷ on_one op.GenericZeroExtend 2 (s n)
      ∷ on_two op.GenericSubtract 3 4 (s n)
      ∷ compare Ult 0 1 (s 1)
      ∷ compare Ult 3 4 (s 1)
      ∷ on_two op.GenericOr 6 7 (s 1)
      ∷ [];
  results = 5 ∷ 8 ∷ [];
}

-- ══ Choices ══

-- the operation, and the predicate by which the first is taken
abbrev pub lower_better : Opcode → Pred → Flags → (x n : ℕ) → RewriteData
lower_better root pred flags x n =
    rewrite (s n ∷ s n ∷ []) [] (flagged flags root (At 0 ∷ At 1 ∷ []) (s n ∷ []))
    (compare pred 0 1 (s x) ∷ plain op.GenericSelect (At 2 ∷ At 0 ∷ At 1 ∷ []) (s n) ∷ []) 3

-- ══ Operations that another is more than ══

abbrev pub lower_rotate : (root funnel : Opcode) → Flags → (n : ℕ) → RewriteData
lower_rotate root funnel flags n =
    rewrite (s n ∷ s n ∷ []) [] (flagged flags root (At 0 ∷ At 1 ∷ []) (s n ∷ [])) (plain funnel (At 0 ∷ At 0 ∷ At 1 ∷ []) (s n) ∷ []) 2

abbrev pub lower_zero_undef : (root count : Opcode) → Flags → (n : ℕ) → RewriteData
lower_zero_undef root count flags n = rewrite (s n ∷ []) [] (flagged flags root (At 0 ∷ []) (s n ∷ [])) (on_one count 0 (s n) ∷ []) 1

-- ══ Signs ══

-- the low k bits are shifted to the left end, and back with their sign
abbrev pub lower_sext_inreg : Flags → (x k : ℕ) → RewriteData
lower_sext_inreg flags x k =
    rewrite (s x ∷ []) [] (flagged flags op.GenericSignExtendInRegister (At 0 ∷ Stands (operand.Int (pos k)) ∷ []) (s x ∷ []))
    (number x (x - k) ∷ on_two op.GenericShiftLeft 0 1 (s x) ∷ number x (x - k) ∷ on_two op.GenericArithmeticShiftRight 2 3 (s x) ∷ []) 4

-- each further part is shifted down and cut
abbrev pub unmerge_steps : (bits width next i left : ℕ) → List OperationData
unmerge_steps bits width next i zero = []
unmerge_steps bits width next i (suc left) =
    number bits (i * width) ∷ on_two op.GenericLogicalShiftRight 0 next (s bits) ∷ on_one op.GenericTruncate (next + 1) (s width)
    ∷ unmerge_steps bits width (next + 3) (i + 1) left

abbrev pub unmerge_places : (next left : ℕ) → List ℕ
unmerge_places next zero = []
unmerge_places next (suc left) = (next + 2) ∷ unmerge_places (next + 3) left

-- one part and so many further ones
abbrev pub lower_unmerge : Flags → (width further : ℕ) → RewriteData
lower_unmerge flags width further = record {
  inputs = s (suc further * width) ∷ [];
  definitions = [];
  root = flagged flags op.GenericUnmergeValues (At 0 ∷ []) (parts (suc further) width);
  made = on_one op.GenericTruncate 0 (s width) ∷ unmerge_steps (suc further * width) width 2 1 further;
  results = 1 ∷ unmerge_places 2 further;
}

-- ══ Sums and differences by halves ══

abbrev pub halves : (a : ℕ) → (x : ℕ) → OperationData
halves a x = flagged no_flags op.GenericUnmergeValues (At a ∷ []) (s x ∷ s x ∷ [])

-- the low halves, and the high ones with what they carry or borrow
abbrev pub narrow_sum : (root low high : Opcode) → Flags → (x : ℕ) → RewriteData
narrow_sum root low high flags x =
    rewrite (s (2 * x) ∷ s (2 * x) ∷ []) [] (flagged flags root (At 0 ∷ At 1 ∷ []) (s (2 * x) ∷ []))
    (halves 0 x ∷ halves 1 x
    ∷ flagged no_flags low (At 2 ∷ At 4 ∷ []) (s x ∷ s 1 ∷ [])
    ∷ flagged no_flags high (At 3 ∷ At 5 ∷ At 7 ∷ []) (s x ∷ s 1 ∷ [])
    ∷ on_two op.GenericMergeValues 6 8 (s (2 * x)) ∷ []) 10

abbrev pub narrow_add : Flags → (x : ℕ) → RewriteData
narrow_add flags x = narrow_sum op.GenericAdd op.GenericUnsignedAddOverflow op.GenericUnsignedAddCarry flags x

abbrev pub narrow_sub : Flags → (x : ℕ) → RewriteData
narrow_sub flags x = narrow_sum op.GenericSubtract op.GenericUnsignedSubtractOverflow op.GenericUnsignedSubtractBorrow flags x

-- ══ Other operations by halves ══

abbrev pub narrow_select : Flags → (c x : ℕ) → RewriteData
narrow_select flags c x =
    rewrite (s c ∷ s (2 * x) ∷ s (2 * x) ∷ []) [] (flagged flags op.GenericSelect (At 0 ∷ At 1 ∷ At 2 ∷ []) (s (2 * x) ∷ []))
    (halves 1 x ∷ halves 2 x
    ∷ plain op.GenericSelect (At 0 ∷ At 3 ∷ At 5 ∷ []) (s x) ∷ plain op.GenericSelect (At 0 ∷ At 4 ∷ At 6 ∷ []) (s x)
    ∷ on_two op.GenericMergeValues 7 8 (s (2 * x)) ∷ []) 9

abbrev pub narrow_bswap : Flags → (x : ℕ) → RewriteData
narrow_bswap flags x =
    rewrite (s (2 * x) ∷ []) [] (flagged flags op.GenericByteSwap (At 0 ∷ []) (s (2 * x) ∷ []))
    (halves 0 x ∷ on_one op.GenericByteSwap 2 (s x) ∷ on_one op.GenericByteSwap 1 (s x) ∷ on_two op.GenericMergeValues 3 4 (s (2 * x)) ∷ []) 5

abbrev pub narrow_zext : Flags → (x : ℕ) → RewriteData
narrow_zext flags x =
    rewrite (s x ∷ []) [] (flagged flags op.GenericZeroExtend (At 0 ∷ []) (s (2 * x) ∷ [])) (number x 0 ∷ on_two op.GenericMergeValues 0 1 (s (2 * x)) ∷ []) 2

abbrev pub narrow_anyext : Flags → (x : ℕ) → RewriteData
narrow_anyext flags x =
    rewrite (s x ∷ []) [] (flagged flags op.GenericAnyExtend (At 0 ∷ []) (s (2 * x) ∷ [])) (plain op.GenericImplicitDef [] (s x) ∷ on_two op.GenericMergeValues 0 1 (s (2 * x)) ∷ []) 2

abbrev pub narrow_implicit_def : Flags → (x : ℕ) → RewriteData
narrow_implicit_def flags x =
    rewrite [] [] (flagged flags op.GenericImplicitDef [] (s (2 * x) ∷ []))
    (plain op.GenericImplicitDef [] (s x) ∷ plain op.GenericImplicitDef [] (s x) ∷ on_two op.GenericMergeValues 0 1 (s (2 * x)) ∷ []) 2

abbrev pub narrow_constant : Flags → (x value : ℕ) → RewriteData
narrow_constant flags x value =
    rewrite [] [] (constant flags (2 * x) value) (number x (value % 2 ^ x) ∷ number x (value / 2 ^ x) ∷ on_two op.GenericMergeValues 0 1 (s (2 * x)) ∷ []) 2
