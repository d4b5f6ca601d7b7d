-- Sequences of constants, and addresses at the ends of what LUI and ADDI reach.
use Rattle.std.proofs.Common.{◌≡◌, [], ◌∷◌, refl, pos, negsuc, lit<, arith}
use Rattle.std.proofs.lemmas.Int.{ints}
use Rattle.gi_mir.specs.Data.{no_flags}
use Rattle.gi_mir.specs.declared.opcode.Opcode.TheVariants as op
use Rattle.gi_mir.specs.declared.operand.SymbolFlag.TheVariants.{Hi, Lo}
use Rattle.gi_meaning.specs.Argument.{Value, Symbol}
use Rattle.gi_meaning.specs.Given.{one}
use Rattle.gi_meaning.specs.Meaning.{meaning_of}
use Rattle.gi_meaning.specs.Words.{word_given}
use Rattle.gi_riscv.specs.Addresses.{IsReached}
use Rattle.gi_riscv.specs.Materialised.{materialised}
use Rattle.gi_riscv.specs.declared.constants.Step.TheVariants.{Lui, Addi, Addiw, Slli}

just_above_immediates : materialised 32 2048 ≡ Lui 1 ∷ Addi (negsuc 2047) ∷ []
just_above_immediates = refl

greatest_of_32_bits : materialised 64 2147483647 ≡ Lui 524288 ∷ Addiw (negsuc 0) ∷ []
greatest_of_32_bits = refl

longest : materialised 64 1311768467463790320 ≡ Lui 583 ∷ Addiw (negsuc 1874) ∷ Slli 14 ∷ Addi (negsuc 946) ∷ Slli 12 ∷ Addi (pos 1511) ∷ Slli 13 ∷ Addi (negsuc 271) ∷ []
unfolding lib.Count.count_trailing_zeros
longest = refl

just_above_32_bits : materialised 64 4294967296 ≡ Addi (pos 1) ∷ Slli 32 ∷ []
unfolding lib.Count.count_trailing_zeros
just_above_32_bits = refl

minus_one : materialised 64 18446744073709551615 ≡ Addi (negsuc 0) ∷ []
minus_one = refl

-- ══ Addresses: the lowest and the highest that are reached, and the next one, which isn't ══

lowest_is_reached : IsReached 64 18446744071562065920
lowest_is_reached = record { fits = lit< tt; near = λ e. (omega (arith, ints), omega (arith, ints)) }

highest_is_reached : IsReached 64 2147481599
highest_is_reached = record { fits = lit< tt; near = λ e. (omega (arith, ints), omega (arith, ints)) }

high_part_beyond : word_given (meaning_of no_flags op.LoadUpperImmediate) 64 (Symbol Hi [] 2147481600 ∷ []) ≡ one 18446744071562067968
high_part_beyond = refl

other_address_beyond : word_given (meaning_of no_flags op.AddImmediate) 64 (Value 64 18446744071562067968 ∷ Symbol Lo [] 2147481600 ∷ []) ≡ one 18446744071562065920
other_address_beyond = refl
