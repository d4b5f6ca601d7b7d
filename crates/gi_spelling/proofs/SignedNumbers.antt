-- A printed number is read as the number that it writes, and a printed constant as its bits.
use Rattle.std.proofs.Common.{◌≡◌, ℕ, suc, ◌-◌, ◌*◌, ◌%◌, ◌^◌, ◌<◌, ◌≤◌, Bool, true, false, List, [], ◌∷◌, Some, refl, sym, ap, ◌∙◌, subst, arith, lit<, pos, negsuc}
use Rattle.std.specs.Prelude.{◌&&◌, ◌==◌, nat_lt, nat_le, min, decimal}
use Rattle.std.specs.Fmt.{signed_decimal}
use Rattle.std.specs.List.{list_all}
use Rattle.std.proofs.lemmas.Bool.{and_parts, and_right}
use Rattle.std.proofs.lemmas.Bool.Decides.{nat_tests}
use Rattle.std.proofs.Math.Nat.{pow-suc, pow-le-pow_right, mod-eq_of_lt}
use Rattle.gi_llt.specs.Bits.{signed}
use Rattle.gi_llt.specs.Tokens.{is_digit, Number as OfNumber}
use Rattle.gi_llt.proofs.Apart.{is_digits, decimal_digits}
use Rattle.gi_text.specs.Numbers.{value_after, size_spelled, is_negative, is_too_great}
use Rattle.gi_mir.specs.declared.operand.Operand.TheVariants as operand
use Rattle.gi_spelling.specs.Words.{number_written}
use Rattle.gi_spelling.specs.Resolved.{is_in_width, constant_value, resolved_constant}
use Rattle.gi_spelling.proofs.Numerals.{decimal_value}

pub digit_no_minus : (byte : ℕ) → is_digit byte ≡ true → (byte == 45) ≡ false
digit_no_minus byte digit = grind (arith, nat_tests)

digit_no_letter : (byte : ℕ) → is_digit byte ≡ true → (byte == 120) ≡ false
digit_no_letter byte digit = grind (arith, nat_tests)

size_of_digits : (digits : List ℕ) → is_digits digits ≡ true → size_spelled digits ≡ value_after 10 0 digits
size_of_digits [] some = refl
size_of_digits (digit ∷ []) some =
    let parts = and_parts (is_digit digit) true some in
    rw (digit_no_minus digit parts.0) refl
size_of_digits (digit ∷ next ∷ more) some =
    let outer = and_parts (is_digit digit) (is_digit next && list_all is_digit more) some in
    let inner = and_parts (is_digit next) (list_all is_digit more) outer.1 in
    rw (digit_no_minus digit outer.0, digit_no_letter next inner.0, and_right (digit == 48) false refl) refl

unsigned_digits : (digits : List ℕ) → is_digits digits ≡ true → is_negative digits ≡ false
unsigned_digits [] some = refl
unsigned_digits (digit ∷ more) some = digit_no_minus digit (and_parts (is_digit digit) (list_all is_digit more) some).0

pub decimal_size : (n : ℕ) → n < 10 ^ 64 → size_spelled (decimal n) ≡ n
decimal_size n within = size_of_digits (decimal n) (decimal_digits n) ∙ decimal_value n within

pub decimal_written : (n : ℕ) → n < 10 ^ 64 → number_written (decimal n) ≡ record { negative = false; size = n }
decimal_written n within = rw (unsigned_digits (decimal n) (decimal_digits n), decimal_size n within) refl

pub negative_written : (n : ℕ) → suc n < 10 ^ 64 → number_written (signed_decimal (negsuc n)) ≡ record { negative = true; size = suc n }
negative_written n within = ap (λ size. record { negative = true; size = size }) (decimal_value (suc n) within)

not_great : (n : ℕ) → n < 2 ^ 128 → nat_le (2 ^ 128) n ≡ false
not_great n within = grind (arith, nat_tests)

pub decimal_sized : (n : ℕ) → n < 2 ^ 128 → is_too_great OfNumber (decimal n) ≡ false
decimal_sized n within = ap (nat_le (2 ^ 128)) (decimal_size n (omega arith)) ∙ not_great n within

pub negative_sized : (n : ℕ) → suc n < 2 ^ 128 → is_too_great OfNumber (signed_decimal (negsuc n)) ≡ false
negative_sized n within = ap (nat_le (2 ^ 128)) (decimal_value (suc n) (omega arith)) ∙ not_great (suc n) within

-- ══ Constants ══

-- a number that a constant of so many bits is written as
pub record WritesConstant (bits value : ℕ) (bytes : List ℕ) : Type 0 where
  pub sized : is_too_great OfNumber bytes ≡ false
  pub means : resolved_constant bits (number_written bytes) ≡ Some (operand.Constant bits value)

in_width : (value power : ℕ) → value < power → nat_lt value power ≡ true
in_width value power within = grind (arith, nat_tests)

below_in_width : (size half : ℕ) → size ≤ half → nat_le size half ≡ true
below_in_width size half within = grind (arith, nat_tests)

pub plain_constant : (bits value : ℕ) → value < 2 ^ bits → resolved_constant bits (record { negative = false; size = value }) ≡ Some (operand.Constant bits value)
plain_constant bits value within = rw (in_width value (2 ^ bits) within) refl

negative_constant : (k n value : ℕ) → k < 128 → 2 ^ suc k ≡ 2 ^ k * 2 → 2 ^ k ≤ value → value < 2 ^ suc k → suc n ≡ 2 ^ suc k - value → 0 < 2 ^ k
    → resolved_constant (suc k) (record { negative = true; size = suc n }) ≡ Some (operand.Constant (suc k) value)
negative_constant k n value small twice above within size some =
    let less : suc k - 1 ≡ k = omega arith in
    let fits : nat_le (suc n) (2 ^ k) ≡ true = below_in_width (suc n) (2 ^ k) (omega (arith, twice, size)) in
    let least : min (suc k) 128 ≡ suc k = omega arith in
    let whole : suc n % 2 ^ suc k ≡ suc n = mod-eq_of_lt (omega (arith, twice, size, above, some)) in
    let back : 2 ^ suc k - suc n ≡ value = omega (arith, size, within) in
    let kept : value % 2 ^ suc k ≡ value = mod-eq_of_lt within in
    let some_size : (suc n == 0) ≡ false = grind (arith, nat_tests) in
    let some_width : nat_lt 0 (suc k) ≡ true = grind (arith, nat_tests) in
    let fine : is_in_width (suc k) (record { negative = true; size = suc n }) ≡ true = rw (some_size, some_width, less, fits) refl in
    let valued : constant_value (suc k) (record { negative = true; size = suc n }) ≡ value = rw (some_size, least, whole, back, kept) refl in
    rw (fine, valued) refl

pub signed_low : (k value : ℕ) → value < 2 ^ k → signed (suc k) value ≡ pos value
signed_low k value below =
    let less : suc k - 1 ≡ k = omega arith in
    let test : nat_lt value (2 ^ k) ≡ true = in_width value (2 ^ k) below in
    rw (less, test) refl

signed_high : (k value n : ℕ) → 2 ^ k ≤ value → suc n ≡ 2 ^ suc k - value → signed (suc k) value ≡ negsuc n
signed_high k value n above size =
    let less : suc k - 1 ≡ k = omega arith in
    let test : nat_lt value (2 ^ k) ≡ false = grind (arith, nat_tests) in
    rw (less, test, ← size) refl

high_constant : (k value n : ℕ) → k < 128 → value < 2 ^ suc k → 2 ^ k ≤ value → suc n ≡ 2 ^ suc k - value → WritesConstant (suc k) value (signed_decimal (signed (suc k) value))
high_constant k value n small within above size =
    let twice : 2 ^ suc k ≡ 2 ^ k * 2 = pow-suc 2 k in
    let least : 0 ≤ k = omega arith in
    let most : suc k ≤ 128 = omega arith in
    let some : 2 ^ 0 ≤ 2 ^ k = pow-le-pow_right (lit< tt) least in
    let bound : 2 ^ suc k ≤ 2 ^ 128 = pow-le-pow_right (lit< tt) most in
    let great : suc n < 2 ^ 128 = omega (arith, size, above, some, bound, within) in
    subst (λ z. WritesConstant (suc k) value (signed_decimal z)) (sym (signed_high k value n above size)) (record {
      sized = negative_sized n great;
      means = ap (resolved_constant (suc k)) (negative_written n (omega arith)) ∙ negative_constant k n value small twice above within size (omega arith);
    })

low_constant : (k value : ℕ) → k < 128 → value < 2 ^ k → WritesConstant (suc k) value (signed_decimal (signed (suc k) value))
low_constant k value small below =
    let twice : 2 ^ suc k ≡ 2 ^ k * 2 = pow-suc 2 k in
    let most : suc k ≤ 128 = omega arith in
    let bound : 2 ^ suc k ≤ 2 ^ 128 = pow-le-pow_right (lit< tt) most in
    let within : value < 2 ^ suc k = omega arith in
    subst (λ z. WritesConstant (suc k) value (signed_decimal z)) (sym (signed_low k value below)) (record {
      sized = decimal_sized value (omega arith);
      means = ap (resolved_constant (suc k)) (decimal_written value (omega arith)) ∙ plain_constant (suc k) value within;
    })

-- a constant of 1 to 128 bits
pub constant_written : (k value : ℕ) → k < 128 → value < 2 ^ suc k → WritesConstant (suc k) value (signed_decimal (signed (suc k) value))
constant_written k value small within = chosen (nat_lt value (2 ^ k)) refl
  where
    chosen : (low : Bool) → nat_lt value (2 ^ k) ≡ low → WritesConstant (suc k) value (signed_decimal (signed (suc k) value))
    chosen true is = low_constant k value small (let below : value < 2 ^ k = grind (arith, nat_tests) in below)
    chosen false is =
        let above : 2 ^ k ≤ value = grind (arith, nat_tests) in
        let size : suc (2 ^ suc k - value - 1) ≡ 2 ^ suc k - value = omega arith in
        high_constant k value (2 ^ suc k - value - 1) small within above size
