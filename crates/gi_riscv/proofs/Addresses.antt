-- The address of a symbol is the word of its high part and its low part.
use Rattle.std.proofs.Common.{◌≡◌, ℕ, ◌+◌, ◌*◌, ◌/◌, ◌%◌, ◌^◌, ◌<◌, ◌⊎◌, inl, inr, refl, sym, ap, ap₂, ◌∙◌, subst, arith, List, ℤ, pos, negsuc, ◌-ℤ◌, ◌*ℤ◌, ◌≤ℤ◌, true}
use Rattle.std.proofs.lemmas.Int.{ints}
use Rattle.std.proofs.Math.Nat.{mod-eq_of_lt}
use Rattle.gi_llt.specs.Bits.{signed, unsigned, sign_extended}
use Rattle.gi_mir.specs.declared.operand.Flags.{Flags}
use Rattle.gi_meaning.specs.Given.{one}
use Rattle.gi_meaning.specs.Machine.{upper_word, upper_of, rest_of, sum_word}
use Rattle.gi_meaning.specs.State.{World, IsWorld}
use Rattle.gi_riscv.specs.Addresses.{IsReached, AddressIsMade}
use Rattle.gi_riscv.specs.Materialised.{low_part, high_part, fits_32}
use Rattle.gi_riscv.proofs.Parts.{parts, sum_64}
use Rattle.gi_riscv.proofs.Words.{unsigned_signed, high_and_low, high_below, extended_from_32}

made_32 : (flags : Flags) (name : List ℕ) (address : ℕ) → address < 2 ^ 32 → AddressIsMade flags 32 name address
made_32 flags name address fits =
    let v = pos address in
    let h : high_part v < 2 ^ 20 = high_below v in
    let high : upper_of address ≡ high_part v = omega arith in
    let small : 4096 * upper_of address % 2 ^ 32 ≡ 4096 * upper_of address = omega arith in
    let upper : upper_word 32 (upper_of address) ≡ 4096 * upper_of address =
    ap (λ m. unsigned 32 (signed 32 m)) small ∙ unsigned_signed 32 (4096 * upper_of address) (omega arith) in
    let low : rest_of 32 address ≡ unsigned 32 (low_part v) = ap (λ m. unsigned 32 (signed 12 m)) (let e : address % 2 ^ 12 % 2 ^ 12 ≡ address % 2 ^ 12 = omega arith in e) in
    let sum : sum_word 32 (upper_word 32 (upper_of address)) (rest_of 32 address) ≡ address =
    ap₂ (λ i j. (i + j) % 2 ^ 32) (upper ∙ ap (λ m. 4096 * m) high) low ∙ (high_and_low v ∙ mod-eq_of_lt fits) in
    (upper_word 32 (upper_of address), refl, ap one sum)

-- what is above the low part, by the bits of the number
above : (v l d q : ℤ) → d ≡ v -ℤ l → d ≡ pos 4096 *ℤ q → negsuc 2047 ≤ℤ l → l ≤ℤ pos 2047
    → 4096 * ((unsigned 64 v + 2048) / 4096 % 2 ^ 20) ≡ unsigned 32 d
above (pos v) (pos l) (pos d) q c e a b = omega (arith, ints)
above (pos v) (pos l) (negsuc d) q c e a b = omega (arith, ints)
above (pos v) (negsuc l) (pos d) q c e a b = omega (arith, ints)
above (pos v) (negsuc l) (negsuc d) q c e a b = omega (arith, ints)
above (negsuc v) (pos l) (pos d) q c e a b = omega (arith, ints)
above (negsuc v) (pos l) (negsuc d) q c e a b = omega (arith, ints)
above (negsuc v) (negsuc l) (pos d) q c e a b = omega (arith, ints)
above (negsuc v) (negsuc l) (negsuc d) q c e a b = omega (arith, ints)

fits_above : (v l d q : ℤ) → d ≡ v -ℤ l → d ≡ pos 4096 *ℤ q → negsuc 2047 ≤ℤ l → l ≤ℤ pos 2047
    → negsuc 2147485695 ≤ℤ v → v ≤ℤ pos 2147481599 → fits_32 d ≡ true
fits_above v l d q c e a b low high =
    let least : negsuc 2147483647 ≤ℤ d = omega (arith, ints) in
    let most : d ≤ℤ pos 2147483647 = omega (arith, ints) in
    grind (arith, ints)

low_bits : (v : ℤ) → unsigned 64 v % 2 ^ 12 % 2 ^ 12 ≡ unsigned 12 v
low_bits (pos n) = omega arith
low_bits (negsuc n) = omega arith

-- an address that the bits of a number stand for
made_at : (flags : Flags) (name : List ℕ) (v : ℤ) → negsuc 2147485695 ≤ℤ v → v ≤ℤ pos 2147481599 → AddressIsMade flags 64 name (unsigned 64 v)
made_at flags name v low high =
    let (q, e, a, b) = parts v in
    let d = v -ℤ low_part v in
    let multiple : d ≡ pos 4096 *ℤ q = omega (arith, ints) in
    let fits : fits_32 d ≡ true = fits_above v (low_part v) d q refl multiple a b low high in
    let bits : 4096 * upper_of (unsigned 64 v) ≡ unsigned 32 d = above v (low_part v) d q refl multiple a b in
    let upper : upper_word 64 (upper_of (unsigned 64 v)) ≡ unsigned 64 d = ap (sign_extended 32 64) bits ∙ extended_from_32 d fits in
    let rest : rest_of 64 (unsigned 64 v) ≡ unsigned 64 (low_part v) = ap (λ m. unsigned 64 (signed 12 m)) (low_bits v) in
    let sum : sum_word 64 (upper_word 64 (upper_of (unsigned 64 v))) (rest_of 64 (unsigned 64 v)) ≡ unsigned 64 v =
    ap₂ (λ i j. (i + j) % 2 ^ 64) upper rest ∙ sum_64 v d (low_part v) (omega (arith, ints)) in
    (upper_word 64 (upper_of (unsigned 64 v)), refl, ap one sum)

made_64 : (flags : Flags) (name : List ℕ) (address : ℕ) → IsReached 64 address → AddressIsMade flags 64 name address
made_64 flags name address reached =
    let (low, high) = reached.near refl in
    subst (AddressIsMade flags 64 name) (unsigned_signed 64 address reached.fits) (made_at flags name (signed 64 address) low high)

pub address_made : (flags : Flags) (x : ℕ) (name : List ℕ) (address : ℕ) → (x ≡ 32) ⊎ (x ≡ 64) → IsReached x address → AddressIsMade flags x name address
address_made flags x name address (inl e) reached = subst (λ y. AddressIsMade flags y name address) (sym e) (made_32 flags name address (subst (λ y. address < 2 ^ y) e reached.fits))
address_made flags x name address (inr e) reached = subst (λ y. AddressIsMade flags y name address) (sym e) (made_64 flags name address (subst (λ y. IsReached y address) e reached))

pub global_made : (flags : Flags) (x : ℕ) (name : List ℕ) (world : World) → (x ≡ 32) ⊎ (x ≡ 64) → IsWorld x world → AddressIsMade flags x name (world.global name)
global_made flags x name world xlen is_world = address_made flags x name (world.global name) xlen (record { fits = is_world.global name; near = is_world.reached name })
