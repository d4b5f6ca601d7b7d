-- The operations on words that the instructions of RISC-V share, as the program names them.
use Rattle.std.specs.Prelude.{ℕ, List}
use Rattle.gi_llt.specs.Bits.{signed_high_product, unsigned_high_product}
use Rattle.gi_meaning.specs.declared.words.Operation.{Operation}
use Rattle.gi_meaning.specs.declared.words.Operation.TheVariants as operation
use Rattle.gi_meaning.specs.Argument.{Argument}
use Rattle.gi_meaning.specs.Generic.{difference_of}
use Rattle.gi_meaning.specs.Given.{Given, Undefined}
use Rattle.gi_meaning.specs.Machine.{sum_word, product_word, and_word, or_word, xor_word, less_word, less_unsigned_word, left_word, right_word, arithmetic_right_word, quotient_word, quotient_unsigned_word, remainder_word, remainder_unsigned_word}
use Rattle.gi_meaning.specs.Meaning.{Meaning, Machine}

abbrev pub word_of : Operation → (x a b : ℕ) → ℕ
word_of operation.Sum = sum_word
word_of operation.Difference = difference_of
word_of operation.Product = product_word
word_of operation.And = and_word
word_of operation.Or = or_word
word_of operation.Xor = xor_word
word_of operation.Less = less_word
word_of operation.LessUnsigned = less_unsigned_word
word_of operation.Left = left_word
word_of operation.Right = right_word
word_of operation.ArithmeticRight = arithmetic_right_word
word_of operation.High = signed_high_product
word_of operation.HighUnsigned = unsigned_high_product
word_of operation.Quotient = quotient_word
word_of operation.QuotientUnsigned = quotient_unsigned_word
word_of operation.Remainder = remainder_word
word_of operation.RemainderUnsigned = remainder_unsigned_word

-- what an instruction of the target gives from the width of a register
abbrev pub word_given : Meaning → ℕ → List Argument → Given
word_given (Machine gives) = gives
word_given _ = λ x arguments. Undefined
