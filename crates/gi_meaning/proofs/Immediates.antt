-- Words: numbers with a sign, and the bounds of what operations give.
use Rattle.std.proofs.Common.{◌≡◌, ℕ, ◌+◌, ◌-◌, ◌*◌, ◌/◌, ◌%◌, ◌^◌, ◌<◌, ◌≤◌, refl, ap, arith, lit<, Bool, true, false, ℤ, pos, negsuc, ◌==◌, if◌then◌else◌}
use Rattle.std.specs.Prelude.{int_lt, unsigned_abs, int_div, int_rem}
use Rattle.std.proofs.lemmas.Bool.{le-ltb}
use Rattle.std.proofs.lemmas.Nat.{pow_pos, and_le_l, or_lt, xor_lt, shr_le}
use Rattle.std.proofs.Math.Nat.{mod-lt, mod-le, div-le_self, pow-le-pow_right}
use Rattle.gi_llt.specs.Bits.{signed, unsigned, sign_extended}
use Rattle.gi_meaning.specs.Generic.{bit_of}
use Rattle.gi_meaning.specs.declared.words.Operation.{Operation}
use Rattle.gi_meaning.specs.declared.words.Operation.TheVariants as operation
use Rattle.gi_meaning.specs.Plain.{with_sign}
use Rattle.gi_meaning.specs.Words.{word_of}
use Rattle.gi_meaning.proofs.Numbers.{unsigned_below}

pub number_is : (x : ℕ) (z : ℤ) → (unsigned x (with_sign (int_lt z (pos 0)) (unsigned_abs z)) ≡ unsigned x z) × (unsigned x z < 2 ^ x)
number_is x (pos n) = (ap (λ b. unsigned x (with_sign b n)) (le-ltb n 0 (omega arith)), unsigned_below x (pos n))
number_is x (negsuc n) = (refl, unsigned_below x (negsuc n))

bit_below : (x : ℕ) (b : Bool) → 0 < x → bit_of b < 2 ^ x
bit_below x true h = let p : 2 ^ 1 ≤ 2 ^ x = pow-le-pow_right (lit< tt) h in omega arith
bit_below x false h = pow_pos x

choice_below : (p m n : ℕ) (b : Bool) → m < p → n < p → (if b then m else n) < p
choice_below p m n true h l = h
choice_below p m n false h l = l

-- what an operation on two words gives is a word
pub word_below : (operation : Operation) (x a b : ℕ) → 0 < x → a < 2 ^ x → b < 2 ^ x → word_of operation x a b < 2 ^ x
word_below operation.Sum x a b p h l = mod-lt (a + b) (pow_pos x)
word_below operation.Difference x a b p h l = unsigned_below x _
word_below operation.Product x a b p h l = mod-lt (a * b) (pow_pos x)
word_below operation.And x a b p h l = omega (arith, and_le_l a b)
word_below operation.Or x a b p h l = or_lt x a b h l
word_below operation.Xor x a b p h l = xor_lt x a b h l
word_below operation.Less x a b p h l = bit_below x _ p
word_below operation.LessUnsigned x a b p h l = bit_below x _ p
word_below operation.Left x a b p h l = mod-lt (a * 2 ^ (b % x)) (pow_pos x)
word_below operation.Right x a b p h l = omega (arith, shr_le a (b % x))
word_below operation.ArithmeticRight x a b p h l = mod-lt (sign_extended x (x + b % x) a / 2 ^ (b % x)) (pow_pos x)
word_below operation.High x a b p h l = mod-lt _ (pow_pos x)
word_below operation.HighUnsigned x a b p h l = mod-lt (a * b / 2 ^ (1 * x)) (pow_pos x)
word_below operation.Quotient x a b p h l = choice_below (2 ^ x) (2 ^ x - 1) (unsigned x (int_div (signed x a) (signed x b))) (b == 0) (omega (arith, pow_pos x)) (unsigned_below x (int_div (signed x a) (signed x b)))
word_below operation.QuotientUnsigned x a b p h l = choice_below (2 ^ x) (2 ^ x - 1) (a / b) (b == 0) (omega (arith, pow_pos x)) (omega (arith, div-le_self a b))
word_below operation.Remainder x a b p h l = choice_below (2 ^ x) a (unsigned x (int_rem (signed x a) (signed x b))) (b == 0) h (unsigned_below x (int_rem (signed x a) (signed x b)))
word_below operation.RemainderUnsigned x a b p h l = choice_below (2 ^ x) a (a % b) (b == 0) h (omega (arith, mod-le a b))
