-- A printed number is a numeral of its value.
use Rattle.std.proofs.Common.{◌≡◌, ℕ, zero, suc, ◌+◌, ◌*◌, ◌/◌, ◌%◌, ◌^◌, ◌<◌, Bool, true, false, cond, List, [], ◌∷◌, Some, refl, ap, ◌∙◌, arith}
use Rattle.std.specs.Prelude.{◌&&◌, not, ◌==◌, min, decimal}
use Rattle.std.specs.Fmt.{digits, digits_onto, digit_glyph}
use Rattle.std.specs.List.{list_all}
use Rattle.std.specs.Cmp.Derive.{both_true}
use Rattle.std.proofs.lemmas.Bool.{and_parts}
use Rattle.std.proofs.lemmas.Bool.Decides.{nat_tests}
use Rattle.std.proofs.Math.Nat.{pow-suc}
use Rattle.gi_llt.specs.Tokens.{is_digit}
use Rattle.gi_text.specs.Numbers.{digit_value, value_after}
use Rattle.gi_spelling.specs.Words.{is_plain, numeral}

glyph_value : (d : ℕ) → d < 10 → digit_value (digit_glyph false d) ≡ d
glyph_value d small = grind (arith, nat_tests)

glyph_digit : (d : ℕ) → d < 10 → is_digit (digit_glyph false d) ≡ true
glyph_digit d small = grind (arith, nat_tests)

glyph_first : (d : ℕ) → d < 10 → 0 < d → not (digit_glyph false d == 48) ≡ true
glyph_first d small some = grind (arith, nat_tests)

below_ten : (n : ℕ) → (n / 10 == 0) ≡ true → n < 10
below_ten n none = grind (arith, nat_tests)

above_ten : (n : ℕ) → (n / 10 == 0) ≡ false → 0 < n / 10
above_ten n some = grind (arith, nat_tests)

fewer : (n fuel : ℕ) → n < 10 ^ suc fuel → n / 10 < 10 ^ fuel
fewer n fuel within =
    let grown : 10 ^ suc fuel ≡ 10 ^ fuel * 10 = pow-suc 10 fuel in
    omega (arith, grown)

onto_value : (fuel n : ℕ) (after : List ℕ) → n < 10 ^ fuel → value_after 10 0 (digits_onto fuel 10 false n after) ≡ value_after 10 n after
onto_value zero n after within =
    let none : 0 ≡ n = omega arith in
    ap (λ m. value_after 10 m after) none
onto_value (suc fuel) n after within = chosen (n / 10 == 0) refl (onto_value fuel (n / 10) (digit_glyph false (n % 10) ∷ after) (fewer n fuel within))
  where
    chosen : (last : Bool) → (n / 10 == 0) ≡ last → value_after 10 0 (digits_onto fuel 10 false (n / 10) (digit_glyph false (n % 10) ∷ after)) ≡ value_after 10 (n / 10) (digit_glyph false (n % 10) ∷ after)
        → value_after 10 0 (cond last (digit_glyph false (n % 10) ∷ after) (digits_onto fuel 10 false (n / 10) (digit_glyph false (n % 10) ∷ after))) ≡ value_after 10 n after
    chosen true is later =
        let small = below_ten n is in
        let value : digit_value (digit_glyph false (n % 10)) ≡ n % 10 = glyph_value (n % 10) (omega arith) in
        let whole : 0 * 10 + digit_value (digit_glyph false (n % 10)) ≡ n = omega (arith, value, small) in
        ap (λ m. value_after 10 m after) whole
    chosen false is later =
        let value : digit_value (digit_glyph false (n % 10)) ≡ n % 10 = glyph_value (n % 10) (omega arith) in
        let whole : n / 10 * 10 + digit_value (digit_glyph false (n % 10)) ≡ n = omega (arith, value) in
        later ∙ ap (λ m. value_after 10 m after) whole

-- digits of which the first isn't zero
is_significant : List ℕ → Bool
is_significant [] = false
is_significant (digit ∷ digits) = (is_digit digit && not (digit == 48)) && list_all is_digit digits

onto_significant : (fuel n : ℕ) (after : List ℕ) → 0 < n → n < 10 ^ fuel → list_all is_digit after ≡ true → is_significant (digits_onto fuel 10 false n after) ≡ true
unfolding is_significant
onto_significant zero n after some within all = absurd (omega arith)
onto_significant (suc fuel) n after some within all =
    chosen (n / 10 == 0) refl (λ more. onto_significant fuel (n / 10) (digit_glyph false (n % 10) ∷ after) more (fewer n fuel within) (both_true (glyph_digit (n % 10) (omega arith)) all))
  where
    chosen : (last : Bool) → (n / 10 == 0) ≡ last → (0 < n / 10 → is_significant (digits_onto fuel 10 false (n / 10) (digit_glyph false (n % 10) ∷ after)) ≡ true)
        → is_significant (cond last (digit_glyph false (n % 10) ∷ after) (digits_onto fuel 10 false (n / 10) (digit_glyph false (n % 10) ∷ after))) ≡ true
    chosen true is later =
        let small = below_ten n is in
        both_true (both_true (glyph_digit (n % 10) (omega arith)) (glyph_first (n % 10) (omega arith) (omega (arith, small)))) all
    chosen false is later = later (above_ten n is)

significant_plain : (digits : List ℕ) → is_significant digits ≡ true → is_plain digits ≡ true
unfolding is_significant
significant_plain [] some = some
significant_plain (digit ∷ []) some =
    let outer = and_parts (is_digit digit && not (digit == 48)) true some in
    (and_parts (is_digit digit) (not (digit == 48)) outer.0).0
significant_plain (digit ∷ next ∷ more) some = some

pub decimal_value : (n : ℕ) → n < 10 ^ 64 → value_after 10 0 (decimal n) ≡ n
unfolding digits
decimal_value n within = onto_value 64 n [] within

some_plain : (n : ℕ) → 0 < n → n < 10 ^ 64 → is_plain (decimal n) ≡ true
unfolding digits
some_plain n some within = significant_plain (decimal n) (onto_significant 64 n [] some within refl)

zero_plain : is_plain (decimal 0) ≡ true
unfolding digits
zero_plain = refl

pub decimal_plain : (n : ℕ) → n < 10 ^ 64 → is_plain (decimal n) ≡ true
decimal_plain zero within = zero_plain
decimal_plain (suc n) within = some_plain (suc n) (omega arith) within

-- a printed number up to a bound
pub numeral-decimal : (bound n : ℕ) → n < 10 ^ 64 → n < bound + 1 → numeral bound (decimal n) ≡ Some n
numeral-decimal bound n within small =
    let least : min n bound ≡ n = omega arith in
    rw (decimal_plain n within, decimal_value n within, least) refl
