-- Constants of a width that 128 bits may not hold.
use Rattle.std.proofs.Common.{◌≡◌, ℕ, suc, ◌-◌, ◌*◌, ◌<◌, ◌≤◌, ◌^◌, ◌%◌, Bool, true, false, refl, sym, ap, ◌∙◌, subst, arith}
use Rattle.std.specs.Prelude.{min, not, nat_le, nat_lt, ◌==◌, ◌&&◌, if◌then◌else◌}
use Rattle.std.proofs.lemmas.Bool.{and_parts}
use Rattle.std.proofs.Math.Nat.{mod-eq_of_lt, pow-suc}
use Rattle.gi_text.specs.declared.token.Number.{Number}
use Rattle.gi_spelling.specs.Resolved.{constant_value, is_below_zero, is_in_width}
use Rattle.std.proofs.lemmas.Bool.Decides.{nat_tests}
use Rattle.std.proofs.Math.Pow.{pow_mono}

-- a number of 128 bits is below 2 to a width where it is below 2 to as much of it as 128 bits hold
pub below-cut : (bits size : ℕ) → size < 2 ^ 128 → nat_le size (2 ^ min bits 128 - 1) ≡ nat_lt size (2 ^ bits)
below-cut bits size held = chosen (nat_le bits 128) refl
  where
    chosen : (small : Bool) → nat_le bits 128 ≡ small → nat_le size (2 ^ min bits 128 - 1) ≡ nat_lt size (2 ^ bits)
    chosen true is =
        let same : min bits 128 ≡ bits = grind (arith, nat_tests) in
        let some : 2 ^ 0 ≤ 2 ^ bits = pow_mono {i = 0} (omega arith) in
        rw same (grind (arith, nat_tests, some))
    chosen false is =
        let past : 128 ≤ bits = grind (arith, nat_tests) in
        let same : min bits 128 ≡ 128 = omega (arith, past) in
        let more : 2 ^ 128 ≤ 2 ^ bits = pow_mono past in
        rw same (grind (arith, nat_tests, more, held))

at_most-cut : (bits size : ℕ) → 0 < size → size < 2 ^ 128 → nat_le (size - 1) (2 ^ min bits 128 - 1) ≡ nat_le size (2 ^ bits)
at_most-cut bits size some held = chosen (nat_le bits 128) refl
  where
    chosen : (small : Bool) → nat_le bits 128 ≡ small → nat_le (size - 1) (2 ^ min bits 128 - 1) ≡ nat_le size (2 ^ bits)
    chosen true is =
        let same : min bits 128 ≡ bits = grind (arith, nat_tests) in
        let power : 2 ^ 0 ≤ 2 ^ bits = pow_mono {i = 0} (omega arith) in
        rw same (grind (arith, nat_tests, power, some))
    chosen false is =
        let past : 128 ≤ bits = grind (arith, nat_tests) in
        let same : min bits 128 ≡ 128 = omega (arith, past) in
        let more : 2 ^ 128 ≤ 2 ^ bits = pow_mono past in
        rw same (grind (arith, nat_tests, more, held, some))

size_some : (number : Number) → is_below_zero number ≡ true → 0 < number.size
size_some number below =
    let tested : not (number.size == 0) ≡ true = (and_parts number.negative (not (number.size == 0)) below).1 in
    grind (arith, nat_tests)

-- the test of the width, where a number is below zero, and where it isn't
pub width-below : (bits : ℕ) (number : Number) → is_below_zero number ≡ true → 0 < bits → number.size < 2 ^ 128
    → nat_le (number.size - 1) (2 ^ min (bits - 1) 128 - 1) ≡ is_in_width bits number
width-below bits number below some held =
    let positive : nat_lt 0 bits ≡ true = grind (arith, nat_tests) in
    let here : is_in_width bits number ≡ nat_le number.size (2 ^ (bits - 1)) =
    ap (λ t. if t then nat_lt 0 bits && nat_le number.size (2 ^ (bits - 1)) else nat_lt number.size (2 ^ bits)) below ∙ ap (λ t. t && nat_le number.size (2 ^ (bits - 1))) positive in
    at_most-cut (bits - 1) number.size (size_some number below) held ∙ sym here

pub width-above : (bits : ℕ) (number : Number) → is_below_zero number ≡ false → number.size < 2 ^ 128 → nat_le number.size (2 ^ min bits 128 - 1) ≡ is_in_width bits number
width-above bits number above held =
    below-cut bits number.size held
    ∙ sym (ap (λ t. if t then nat_lt 0 bits && nat_le number.size (2 ^ (bits - 1)) else nat_lt number.size (2 ^ bits)) above)

-- what stands for a number below zero
negated : (size power : ℕ) → 0 < size → size < power → power - 1 - (size - 1) ≡ (power - size % power) % power
negated size power some less =
    let own : size % power ≡ size = mod-eq_of_lt less in
    let rest : (power - size) % power ≡ power - size = mod-eq_of_lt (omega arith) in
    rw (own, rest) (omega arith)

-- a number below zero that its width holds is no greater than what is kept of it
size_kept : (bits size : ℕ) → 0 < bits → size < 2 ^ 128 → size ≤ 2 ^ (bits - 1) → size < 2 ^ min bits 128
size_kept bits size some held within = chosen (nat_le bits 128) refl
  where
    chosen : (small : Bool) → nat_le bits 128 ≡ small → size < 2 ^ min bits 128
    chosen true is =
        let same : min bits 128 ≡ bits = grind (arith, nat_tests) in
        let next : suc (bits - 1) ≡ bits = omega arith in
        let double : 2 ^ suc (bits - 1) ≡ 2 ^ (bits - 1) * 2 = pow-suc 2 (bits - 1) in
        let power : 2 ^ 0 ≤ 2 ^ (bits - 1) = pow_mono {i = 0} (omega arith) in
        let less : size < 2 ^ suc (bits - 1) = omega (arith, double, power, within) in
        rw same (subst (λ n. size < 2 ^ n) next less)
    chosen false is =
        let past : 128 ≤ bits = grind (arith, nat_tests) in
        let same : min bits 128 ≡ 128 = omega (arith, past) in
        rw same held

pub value-below : (bits : ℕ) (number : Number) → is_below_zero number ≡ true → is_in_width bits number ≡ true → number.size < 2 ^ 128
    → 2 ^ min bits 128 - 1 - (number.size - 1) ≡ constant_value bits number
value-below bits number below fits held =
    let tests : (nat_lt 0 bits && nat_le number.size (2 ^ (bits - 1))) ≡ true =
    sym (ap (λ t. if t then nat_lt 0 bits && nat_le number.size (2 ^ (bits - 1)) else nat_lt number.size (2 ^ bits)) below) ∙ fits in
    let parts = and_parts (nat_lt 0 bits) (nat_le number.size (2 ^ (bits - 1))) tests in
    let first : nat_lt 0 bits ≡ true = parts.0 in
    let second : nat_le number.size (2 ^ (bits - 1)) ≡ true = parts.1 in
    let some : 0 < bits = grind (arith, nat_tests, first) in
    let within : number.size ≤ 2 ^ (bits - 1) = grind (arith, nat_tests, second) in
    negated number.size (2 ^ min bits 128) (size_some number below) (size_kept bits number.size some held within)
    ∙ sym (ap (λ t. if t then (2 ^ min bits 128 - number.size % 2 ^ min bits 128) % 2 ^ min bits 128 else number.size) below)
