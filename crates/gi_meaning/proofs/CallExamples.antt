-- Where a routine of the runtime takes its operands and gives its result.
use Rattle.std.proofs.Common.{◌≡◌, true, false, List, [], ◌∷◌, refl}
use Rattle.gi_meaning.specs.Argument.{Argument, Implicit, Defined}
use Rattle.gi_meaning.specs.Act.{has_operands, passed, result_registers, result_words, routine_given}
use Rattle.gi_meaning.specs.Given.{one}

-- the operands in some order, with another register beside them
abbrev arguments : List Argument
arguments = Implicit 14 5 ∷ Implicit 13 0 ∷ Implicit 12 3 ∷ Implicit 11 0 ∷ Implicit 10 7 ∷ Defined 11 ∷ Defined 10 ∷ []

operands_in_any_order : has_operands (passed arguments) ≡ true
operands_in_any_order = refl

without_the_last_operand : has_operands (passed (Implicit 10 7 ∷ Implicit 11 0 ∷ Implicit 12 3 ∷ [])) ≡ false
without_the_last_operand = refl

product_in_any_order : routine_given 32 0 (passed arguments) ≡ one 21
product_in_any_order = refl

-- each word in its register, in the order in which these are defined
words_as_defined : result_words (1 ∷ 2 ∷ []) (result_registers arguments) ≡ 2 ∷ 1 ∷ []
words_as_defined = refl

high_word_alone : result_words (1 ∷ 2 ∷ []) (result_registers (Defined 11 ∷ [])) ≡ 2 ∷ []
high_word_alone = refl
