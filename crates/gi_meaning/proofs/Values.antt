-- Values of what opcodes mean, edges first. Those of operations were computed by LLVM's constant folder, those of
-- instructions by an emulator of the machine; those of memory are written by hand from the manuals.
use Rattle.std.proofs.Common.{◌≡◌, [], ◌∷◌, true, false, refl, ◌==◌, if◌then◌else◌, pos, negsuc}
use Rattle.std.specs.Prelude.{Some, None}
use Rattle.gi_llt.specs.declared.Llt.TheVariants.{Scalar, Pointer}
use Rattle.gi_mir.specs.declared.opcode.Opcode.TheVariants as op
use Rattle.gi_mir.specs.declared.operand.Pred.TheVariants as pred
use Rattle.gi_meaning.specs.Act.{load, generic_load, machine_load, Stores}
use Rattle.gi_meaning.specs.Act as an_answer
use Rattle.gi_meaning.specs.Argument.{Value, Number, Test}
use Rattle.gi_meaning.specs.Fold.{gives_of}
use Rattle.gi_meaning.specs.Given.{Exactly, LowBits, one, free}
use Rattle.gi_meaning.specs.Given as a_given
use Rattle.gi_meaning.specs.Meaning.{meaning_of, always, only_64, Anything, Zeros, Signs}
use Rattle.gi_meaning.specs.Memory.{Memory, stored}
use Rattle.gi_mir.specs.Data.{no_flags}
use Rattle.gi_meaning.specs.State.{Outside}
use Rattle.gi_meaning.specs.Words.{word_given}

sum_nuw_broken : gives_of (meaning_of (record no_flags { nuw = true }) op.GenericAdd) (100 ∷ []) (Value 100 633825300114114700748351602688 ∷ Value 100 633825300114114700748351602688 ∷ []) ≡ free 100
sum_nuw_broken = refl

sum_nuw_kept : gives_of (meaning_of (record no_flags { nuw = true }) op.GenericAdd) (100 ∷ []) (Value 100 2 ∷ Value 100 1 ∷ []) ≡ Exactly (3 ∷ [])
sum_nuw_kept = refl

difference_nuw_broken : gives_of (meaning_of (record no_flags { nuw = true }) op.GenericSubtract) (100 ∷ []) (Value 100 0 ∷ Value 100 2 ∷ []) ≡ free 100
difference_nuw_broken = refl

difference_nuw_kept : gives_of (meaning_of (record no_flags { nuw = true }) op.GenericSubtract) (100 ∷ []) (Value 100 2 ∷ Value 100 1 ∷ []) ≡ Exactly (1 ∷ [])
difference_nuw_kept = refl

product_nuw_broken : gives_of (meaning_of (record no_flags { nuw = true }) op.GenericMultiply) (100 ∷ []) (Value 100 372261440123417862572384428344 ∷ Value 100 422550200076076467165567735125 ∷ []) ≡ free 100
product_nuw_broken = refl

product_nuw_kept : gives_of (meaning_of (record no_flags { nuw = true }) op.GenericMultiply) (100 ∷ []) (Value 100 2 ∷ Value 100 1 ∷ []) ≡ Exactly (2 ∷ [])
product_nuw_kept = refl

left_nuw_broken : gives_of (meaning_of (record no_flags { nuw = true }) op.GenericShiftLeft) (100 ∷ []) (Value 100 2 ∷ Value 100 99 ∷ []) ≡ free 100
left_nuw_broken = refl

left_nuw_kept : gives_of (meaning_of (record no_flags { nuw = true }) op.GenericShiftLeft) (100 ∷ []) (Value 100 2 ∷ Value 100 0 ∷ []) ≡ Exactly (2 ∷ [])
left_nuw_kept = refl

sum_nsw_broken : gives_of (meaning_of (record no_flags { nsw = true }) op.GenericAdd) (100 ∷ []) (Value 100 372261440123417862572384428344 ∷ Value 100 422550200076076467165567735125 ∷ []) ≡ free 100
sum_nsw_broken = refl

sum_nsw_kept : gives_of (meaning_of (record no_flags { nsw = true }) op.GenericAdd) (100 ∷ []) (Value 100 2 ∷ Value 100 1 ∷ []) ≡ Exactly (3 ∷ [])
sum_nsw_kept = refl

difference_nsw_broken : gives_of (meaning_of (record no_flags { nsw = true }) op.GenericSubtract) (100 ∷ []) (Value 100 633825300114114700748351602688 ∷ Value 100 2 ∷ []) ≡ free 100
difference_nsw_broken = refl

difference_nsw_kept : gives_of (meaning_of (record no_flags { nsw = true }) op.GenericSubtract) (100 ∷ []) (Value 100 2 ∷ Value 100 1 ∷ []) ≡ Exactly (1 ∷ [])
difference_nsw_kept = refl

product_nsw_broken : gives_of (meaning_of (record no_flags { nsw = true }) op.GenericMultiply) (100 ∷ []) (Value 100 372261440123417862572384428344 ∷ Value 100 422550200076076467165567735125 ∷ []) ≡ free 100
product_nsw_broken = refl

product_nsw_kept : gives_of (meaning_of (record no_flags { nsw = true }) op.GenericMultiply) (100 ∷ []) (Value 100 2 ∷ Value 100 1 ∷ []) ≡ Exactly (2 ∷ [])
product_nsw_kept = refl

left_nsw_broken : gives_of (meaning_of (record no_flags { nsw = true }) op.GenericShiftLeft) (100 ∷ []) (Value 100 2 ∷ Value 100 99 ∷ []) ≡ free 100
left_nsw_broken = refl

left_nsw_kept : gives_of (meaning_of (record no_flags { nsw = true }) op.GenericShiftLeft) (100 ∷ []) (Value 100 2 ∷ Value 100 0 ∷ []) ≡ Exactly (2 ∷ [])
left_nsw_kept = refl

unsigned_quotient_exact_broken : gives_of (meaning_of (record no_flags { exact = true }) op.GenericUnsignedDivide) (100 ∷ []) (Value 100 372261440123417862572384428344 ∷ Value 100 422550200076076467165567735125 ∷ []) ≡ free 100
unsigned_quotient_exact_broken = refl

unsigned_quotient_exact_kept : gives_of (meaning_of (record no_flags { exact = true }) op.GenericUnsignedDivide) (100 ∷ []) (Value 100 2 ∷ Value 100 1 ∷ []) ≡ Exactly (2 ∷ [])
unsigned_quotient_exact_kept = refl

signed_quotient_exact_broken : gives_of (meaning_of (record no_flags { exact = true }) op.GenericSignedDivide) (100 ∷ []) (Value 100 372261440123417862572384428344 ∷ Value 100 422550200076076467165567735125 ∷ []) ≡ free 100
signed_quotient_exact_broken = refl

signed_quotient_exact_kept : gives_of (meaning_of (record no_flags { exact = true }) op.GenericSignedDivide) (100 ∷ []) (Value 100 2 ∷ Value 100 1 ∷ []) ≡ Exactly (2 ∷ [])
signed_quotient_exact_kept = refl

right_exact_broken : gives_of (meaning_of (record no_flags { exact = true }) op.GenericLogicalShiftRight) (100 ∷ []) (Value 100 2 ∷ Value 100 50 ∷ []) ≡ free 100
right_exact_broken = refl

right_exact_kept : gives_of (meaning_of (record no_flags { exact = true }) op.GenericLogicalShiftRight) (100 ∷ []) (Value 100 2 ∷ Value 100 0 ∷ []) ≡ Exactly (2 ∷ [])
right_exact_kept = refl

arithmetic_right_exact_broken : gives_of (meaning_of (record no_flags { exact = true }) op.GenericArithmeticShiftRight) (100 ∷ []) (Value 100 2 ∷ Value 100 50 ∷ []) ≡ free 100
arithmetic_right_exact_broken = refl

arithmetic_right_exact_kept : gives_of (meaning_of (record no_flags { exact = true }) op.GenericArithmeticShiftRight) (100 ∷ []) (Value 100 2 ∷ Value 100 0 ∷ []) ≡ Exactly (2 ∷ [])
arithmetic_right_exact_kept = refl

or_disjoint_broken : gives_of (meaning_of (record no_flags { disjoint = true }) op.GenericOr) (1 ∷ []) (Value 1 1 ∷ Value 1 1 ∷ []) ≡ free 1
or_disjoint_broken = refl

zero_extension_nneg_broken : gives_of (meaning_of (record no_flags { nneg = true }) op.GenericZeroExtend) (100 ∷ []) (Value 1 1 ∷ []) ≡ LowBits 1 100 1
zero_extension_nneg_broken = refl

unsigned_quotient_by_zero : gives_of (meaning_of no_flags op.GenericUnsignedDivide) (1 ∷ []) (Value 1 0 ∷ Value 1 0 ∷ []) ≡ a_given.Undefined
unsigned_quotient_by_zero = refl

signed_quotient_by_zero : gives_of (meaning_of no_flags op.GenericSignedDivide) (1 ∷ []) (Value 1 0 ∷ Value 1 0 ∷ []) ≡ a_given.Undefined
signed_quotient_by_zero = refl

unsigned_remainder_by_zero : gives_of (meaning_of no_flags op.GenericUnsignedRemainder) (1 ∷ []) (Value 1 0 ∷ Value 1 0 ∷ []) ≡ a_given.Undefined
unsigned_remainder_by_zero = refl

signed_remainder_by_zero : gives_of (meaning_of no_flags op.GenericSignedRemainder) (1 ∷ []) (Value 1 0 ∷ Value 1 0 ∷ []) ≡ a_given.Undefined
signed_remainder_by_zero = refl

signed_quotient_of_negative : gives_of (meaning_of no_flags op.GenericSignedDivide) (31 ∷ []) (Value 31 1073741825 ∷ Value 31 1073741823 ∷ []) ≡ Exactly (2147483647 ∷ [])
signed_quotient_of_negative = refl

signed_remainder_of_least_by_minus_one : gives_of (meaning_of no_flags op.GenericSignedRemainder) (1 ∷ []) (Value 1 1 ∷ Value 1 1 ∷ []) ≡ a_given.Undefined
signed_remainder_of_least_by_minus_one = refl

signed_remainder_of_negative : gives_of (meaning_of no_flags op.GenericSignedRemainder) (13 ∷ []) (Value 13 4832 ∷ Value 13 4095 ∷ []) ≡ Exactly (4832 ∷ [])
signed_remainder_of_negative = refl

left_by_width : gives_of (meaning_of no_flags op.GenericShiftLeft) (100 ∷ []) (Value 100 0 ∷ Value 100 100 ∷ []) ≡ free 100
left_by_width = refl

left_by_less : gives_of (meaning_of no_flags op.GenericShiftLeft) (100 ∷ []) (Value 100 633825300114114700748351602688 ∷ Value 100 99 ∷ []) ≡ Exactly (0 ∷ [])
left_by_less = refl

right_by_width : gives_of (meaning_of no_flags op.GenericLogicalShiftRight) (100 ∷ []) (Value 100 0 ∷ Value 100 100 ∷ []) ≡ free 100
right_by_width = refl

right_by_less : gives_of (meaning_of no_flags op.GenericLogicalShiftRight) (100 ∷ []) (Value 100 633825300114114700748351602688 ∷ Value 100 99 ∷ []) ≡ Exactly (1 ∷ [])
right_by_less = refl

arithmetic_right_by_width : gives_of (meaning_of no_flags op.GenericArithmeticShiftRight) (100 ∷ []) (Value 100 0 ∷ Value 100 100 ∷ []) ≡ free 100
arithmetic_right_by_width = refl

arithmetic_right_by_less : gives_of (meaning_of no_flags op.GenericArithmeticShiftRight) (100 ∷ []) (Value 100 633825300114114700748351602688 ∷ Value 100 99 ∷ []) ≡ Exactly (1267650600228229401496703205375 ∷ [])
arithmetic_right_by_less = refl

leading_zeros_of_zero : gives_of (meaning_of no_flags op.GenericCountLeadingZeros) (100 ∷ []) (Value 100 0 ∷ []) ≡ Exactly (100 ∷ [])
leading_zeros_of_zero = refl

trailing_zeros_of_zero : gives_of (meaning_of no_flags op.GenericCountTrailingZeros) (100 ∷ []) (Value 100 0 ∷ []) ≡ Exactly (100 ∷ [])
trailing_zeros_of_zero = refl

leading_zeros_not_of_zero_of_zero : gives_of (meaning_of no_flags op.GenericCountLeadingZerosNotOfZero) (100 ∷ []) (Value 100 0 ∷ []) ≡ free 100
leading_zeros_not_of_zero_of_zero = refl

trailing_zeros_not_of_zero_of_zero : gives_of (meaning_of no_flags op.GenericCountTrailingZerosNotOfZero) (100 ∷ []) (Value 100 0 ∷ []) ≡ free 100
trailing_zeros_not_of_zero_of_zero = refl

absolute_of_least : gives_of (meaning_of no_flags op.GenericAbsolute) (100 ∷ []) (Value 100 633825300114114700748351602688 ∷ []) ≡ Exactly (633825300114114700748351602688 ∷ [])
absolute_of_least = refl

sum_with_carry_out : gives_of (meaning_of no_flags op.GenericUnsignedAddCarry) (64 ∷ 1 ∷ []) (Value 64 9223372036854775808 ∷ Value 64 9223372036854775808 ∷ Value 1 1 ∷ []) ≡ Exactly (1 ∷ 1 ∷ [])
sum_with_carry_out = refl

difference_with_borrow_out : gives_of (meaning_of no_flags op.GenericUnsignedSubtractBorrow) (100 ∷ 1 ∷ []) (Value 100 0 ∷ Value 100 2 ∷ Value 1 1 ∷ []) ≡ Exactly (1267650600228229401496703205373 ∷ 1 ∷ [])
difference_with_borrow_out = refl

less_signed : gives_of (meaning_of no_flags op.GenericCompare) (1 ∷ []) (Test pred.Eq ∷ Value 64 9223372036854775809 ∷ Value 64 1 ∷ []) ≡ Exactly (0 ∷ [])
less_signed = refl

quotient_word_by_zero : word_given (meaning_of no_flags op.Divide) 32 (Value 32 5 ∷ Value 32 0 ∷ []) ≡ one 4294967295
quotient_word_by_zero = refl

quotient_word_of_least_by_minus_one : word_given (meaning_of no_flags op.Divide) 64 (Value 64 9223372036854775808 ∷ Value 64 18446744073709551615 ∷ []) ≡ one 9223372036854775808
quotient_word_of_least_by_minus_one = refl

remainder_word_by_zero : word_given (meaning_of no_flags op.Remainder) 32 (Value 32 2147483649 ∷ Value 32 0 ∷ []) ≡ one 2147483649
remainder_word_by_zero = refl

remainder_word_of_least_by_minus_one : word_given (meaning_of no_flags op.Remainder) 64 (Value 64 9223372036854775808 ∷ Value 64 18446744073709551615 ∷ []) ≡ one 0
remainder_word_of_least_by_minus_one = refl

left_word_by_more_than_width : word_given (meaning_of no_flags op.ShiftLeftLogical) 32 (Value 32 63 ∷ Value 32 3827405575 ∷ []) ≡ one 8064
left_word_by_more_than_width = refl

arithmetic_right_half_word : word_given (meaning_of no_flags op.ShiftRightArithmeticWord) 64 (Value 64 18446744073709551614 ∷ Value 64 9323745168453557910 ∷ []) ≡ one 18446744073709551615
arithmetic_right_half_word = refl

high_product_word : word_given (meaning_of no_flags op.MultiplyHigh) 64 (Value 64 9223372036854775809 ∷ Value 64 32 ∷ []) ≡ one 18446744073709551600
high_product_word = refl

high_unsigned_product_word : word_given (meaning_of no_flags op.MultiplyHighUnsigned) 64 (Value 64 9223372036854775809 ∷ Value 64 2147483647 ∷ []) ≡ one 1073741823
high_unsigned_product_word = refl

less_word : word_given (meaning_of no_flags op.SetLess) 32 (Value 32 2147483648 ∷ Value 32 32 ∷ []) ≡ one 1
less_word = refl

-- written by hand: the least value by -1 at other widths
signed_quotient_overflow : gives_of (meaning_of no_flags op.GenericSignedDivide) (32 ∷ []) (Value 32 2147483648 ∷ Value 32 4294967295 ∷ []) ≡ a_given.Undefined
signed_quotient_overflow = refl

signed_remainder_overflow : gives_of (meaning_of no_flags op.GenericSignedRemainder) (64 ∷ []) (Value 64 9223372036854775808 ∷ Value 64 18446744073709551615 ∷ []) ≡ a_given.Undefined
signed_remainder_overflow = refl

-- ══ Memory: four bytes from 4096 on, and the last and the first byte of 32 bits of addresses ══

abbrev bytes : Memory
bytes a =
    if a == 4096 then Some 1 else if a == 4097 then Some 130 else if a == 4098 then Some 255 else
    if a == 4099 then Some 128 else if a == 4294967295 then Some 7 else if a == 0 then Some 9 else None

lowest_byte_first : load 32 4 32 32 Zeros bytes 4096 ≡ one 2164228609
lowest_byte_first = refl

misaligned : load 32 4 32 32 Zeros bytes 4098 ≡ a_given.Undefined
misaligned = refl

aligned_to_two : load 32 2 16 32 Zeros bytes 4098 ≡ one 33023
aligned_to_two = refl

missing_byte : load 32 1 16 32 Zeros bytes 4099 ≡ a_given.Undefined
missing_byte = refl

around_the_end : load 32 1 16 32 Zeros bytes 4294967295 ≡ one 2311
around_the_end = refl

byte_with_zeros : load 64 1 8 64 Zeros bytes 4097 ≡ one 130
byte_with_zeros = refl

byte_with_signs : load 64 1 8 64 Signs bytes 4097 ≡ one 18446744073709551490
byte_with_signs = refl

byte_with_anything : load 64 1 8 64 Anything bytes 4097 ≡ LowBits 8 64 130
byte_with_anything = refl

whole_with_anything : load 64 1 8 8 Anything bytes 4097 ≡ one 130
whole_with_anything = refl

-- a pointer without an alignment has that of a word
pointer_alignment : generic_load 32 Anything (Some (record { load = true; ty = Pointer; align = 0 })) (32 ∷ []) (Value 32 4096 ∷ []) bytes ≡ one 2164228609
pointer_alignment = refl

pointer_misaligned : generic_load 32 Anything (Some (record { load = true; ty = Pointer; align = 0 })) (32 ∷ []) (Value 32 4097 ∷ []) bytes ≡ a_given.Undefined
pointer_misaligned = refl

load_of_a_store : generic_load 32 Anything (Some (record { load = false; ty = Scalar 8; align = 1 })) (32 ∷ []) (Value 32 4096 ∷ []) bytes ≡ a_given.Undefined
load_of_a_store = refl

load_word : machine_load 64 always 4 Signs (Value 64 4100 ∷ Number (negsuc 3) ∷ []) bytes ≡ one 18446744071578812929
load_word = refl

load_word_unsigned : machine_load 64 only_64 4 Zeros (Value 64 4096 ∷ Number (pos 0) ∷ []) bytes ≡ one 2164228609
load_word_unsigned = refl

load_word_unsigned_on_32 : machine_load 32 only_64 4 Zeros (Value 32 4096 ∷ Number (pos 0) ∷ []) bytes ≡ a_given.Undefined
load_word_unsigned_on_32 = refl

load_half_misaligned : machine_load 64 always 2 Signs (Value 64 4096 ∷ Number (pos 1) ∷ []) bytes ≡ a_given.Undefined
load_half_misaligned = refl

load_beyond_immediates : machine_load 64 always 1 Signs (Value 64 2048 ∷ Number (pos 2048) ∷ []) bytes ≡ a_given.Undefined
load_beyond_immediates = refl

stored_low : stored 32 2 bytes 4096 66051 4096 ≡ Some 3
stored_low = refl

stored_high : stored 32 2 bytes 4096 66051 4097 ≡ Some 2
stored_high = refl

stored_no_more : stored 32 2 bytes 4096 66051 4098 ≡ Some 255
stored_no_more = refl

store_misaligned : (outside : Outside) → Stores 32 2 2 4097 7 outside an_answer.Undefined
store_misaligned outside = refl

store_at_missing_byte : Stores 32 1 4 4098 7 (record { memory = bytes; taken = 0 }) an_answer.Undefined
store_at_missing_byte = refl
