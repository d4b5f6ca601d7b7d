-- Numbers by groups of bits: masks that repeat, and groups that change places with their neighbours.
use Rattle.std.proofs.Common.{◌≡◌, ℕ, suc, ◌+◌, ◌-◌, ◌*◌, ◌/◌, ◌%◌, ◌^◌, ◌<◌, ◌≤◌, sym, ap, ap₂, ◌∙◌, subst, arith, lit<}
use Rattle.std.specs.Prelude.{bit_and, bit_or}
use Rattle.std.specs.Int.Bits.{or_shifted_r}
use Rattle.std.proofs.Math.Nat.{div-add-mod', mod-eq_of_lt, mul-le-mul_right, pow-le-pow_right}
use Rattle.std.proofs.lemmas.Nat.{and_block, and_le_r, and_mask, and_mod, div-mul-add, div_below, mod_below, mod-mul-add, mul-add-lt, or_block, or_lt, pow-add, pow_pos}
use Rattle.gi_llt.specs.Bits.{wrapped}
use Rattle.gi_meaning.specs.Generic.{byte_swap_of}

-- ══ A mask that repeats ══

-- a mask sees no bit above its own
pub and_below : (k v m : ℕ) → m < 2 ^ k → bit_and v m ≡ bit_and (v % 2 ^ k) m
and_below k v m fits =
    sym (mod-eq_of_lt (omega (arith, and_le_r v m, fits))) ∙ and_mod v m k ∙ ap (bit_and (v % 2 ^ k)) (mod-eq_of_lt fits)

-- two parts, shifted to the right: the low bits of the upper one come into the lower one
pub shift_parts : (q k h l : ℕ) → 0 < k → (h * (q * k) + l) / k ≡ h / k * (q * k) + (h % k * q + l / k)
shift_parts q k h l some =
    ap (λ v. v / k) (gathered (l / k) (l % k) l (div-add-mod' l k)) ∙ div-mul-add (h * q + l / k) k (l % k) (mod_below l k some) ∙ apart (h / k) (h % k) (div-add-mod' h k)
  where
    gathered : (d r v : ℕ) → d * k + r ≡ v → h * (q * k) + v ≡ (h * q + d) * k + r
    gathered d r v is = omega (arith, is)

    apart : (d r : ℕ) → d * k + r ≡ h → h * q + l / k ≡ d * (q * k) + (r * q + l / k)
    apart d r is = subst (λ (u : ℕ). u * q + l / k ≡ d * (q * k) + (r * q + l / k)) is (omega arith)

pub in_more : (t k m : ℕ) → m < 2 ^ t → m < 2 ^ (t + k)
in_more t k m fits = let more : 2 ^ t ≤ 2 ^ (t + k) = pow-le-pow_right (lit< tt) (omega arith) in omega (arith, fits, more)

-- a shift to the right and a mask, on two parts of t + k bits
pub shifted_parts : (t k m h l : ℕ) → l < 2 ^ (t + k) → m < 2 ^ t
    → bit_and ((h * 2 ^ (t + k) + l) / 2 ^ k) (m * 2 ^ (t + k) + m) ≡ bit_and (h / 2 ^ k) m * 2 ^ (t + k) + bit_and (l / 2 ^ k) m
shifted_parts t k m h l fits mask_fits =
    let whole : 2 ^ (t + k) ≡ 2 ^ t * 2 ^ k = pow-add 2 t k in
    let high : l / 2 ^ k < 2 ^ t = div_below l (2 ^ k) (2 ^ t) (pow_pos k) (subst (λ (p : ℕ). l < p) whole fits) in
    let inside : h % 2 ^ k * 2 ^ t + l / 2 ^ k < 2 ^ t * 2 ^ k = mul-add-lt (h % 2 ^ k) (2 ^ t) (l / 2 ^ k) (2 ^ k) (mod_below h (2 ^ k) (pow_pos k)) high in
    let mask_inside : m < 2 ^ (t + k) = in_more t k m mask_fits in
    let parts : (h * 2 ^ (t + k) + l) / 2 ^ k ≡ h / 2 ^ k * 2 ^ (t + k) + (h % 2 ^ k * 2 ^ t + l / 2 ^ k) =
    ap (λ p. (h * p + l) / 2 ^ k) whole ∙ shift_parts (2 ^ t) (2 ^ k) h l (pow_pos k) ∙ ap (λ p. h / 2 ^ k * p + (h % 2 ^ k * 2 ^ t + l / 2 ^ k)) (sym whole) in
    let low : (h % 2 ^ k * 2 ^ t + l / 2 ^ k) % 2 ^ t ≡ l / 2 ^ k = mod-mul-add (h % 2 ^ k) (2 ^ t) (l / 2 ^ k) high in
    ap (λ v. bit_and v (m * 2 ^ (t + k) + m)) parts
    ∙ and_block (t + k) (h / 2 ^ k) m (h % 2 ^ k * 2 ^ t + l / 2 ^ k) m (subst (λ (p : ℕ). h % 2 ^ k * 2 ^ t + l / 2 ^ k < p) (sym whole) inside) mask_inside
    ∙ ap (λ v. bit_and (h / 2 ^ k) m * 2 ^ (t + k) + v) (and_below t (h % 2 ^ k * 2 ^ t + l / 2 ^ k) m mask_fits ∙ ap (λ v. bit_and v m) low)

-- ══ Groups of k bits that change places with their neighbours ══

abbrev pub swapped : (k m v : ℕ) → ℕ
swapped k m v = bit_or (bit_and (v / 2 ^ k) m) (bit_and v m * 2 ^ k)

-- nothing is shifted out
pub not_cut : (n k m v : ℕ) → m * 2 ^ k < 2 ^ n → bit_or (bit_and (v / 2 ^ k) m) (wrapped n (bit_and v m * 2 ^ k)) ≡ swapped k m v
not_cut n k m v fits = ap (bit_or (bit_and (v / 2 ^ k) m)) (mod-eq_of_lt (omega (arith, mul-le-mul_right (2 ^ k) (and_le_r v m), fits)))

-- one pair
pub swapped_pair : (k v : ℕ) → v < 2 ^ k * 2 ^ k → swapped k (2 ^ k - 1) v ≡ v % 2 ^ k * 2 ^ k + v / 2 ^ k
swapped_pair k v fits =
    let high : v / 2 ^ k < 2 ^ k = div_below v (2 ^ k) (2 ^ k) (pow_pos k) fits in
    ap₂ (λ u w. bit_or u (w * 2 ^ k)) (and_mask (v / 2 ^ k) k ∙ mod-eq_of_lt high) (and_mask v k) ∙ or_shifted_r (v % 2 ^ k) k (v / 2 ^ k) high

-- two parts of t + k bits
pub swapped_parts : (t k m h l : ℕ) → l < 2 ^ (t + k) → m < 2 ^ t → swapped k (m * 2 ^ (t + k) + m) (h * 2 ^ (t + k) + l) ≡ swapped k m h * 2 ^ (t + k) + swapped k m l
swapped_parts t k m h l fits mask_fits =
    let whole : 2 ^ (t + k) ≡ 2 ^ t * 2 ^ k = pow-add 2 t k in
    let right : bit_and (l / 2 ^ k) m < 2 ^ (t + k) = omega (arith, and_le_r (l / 2 ^ k) m, in_more t k m mask_fits) in
    let inside : bit_and l m * 2 ^ k < 2 ^ t * 2 ^ k = scaled (bit_and l m) (omega (arith, and_le_r l m, mask_fits)) in
    ap₂ (λ u v. bit_or u (v * 2 ^ k)) (shifted_parts t k m h l fits mask_fits) (and_block (t + k) h m l m fits (in_more t k m mask_fits))
    ∙ ap (bit_or (bit_and (h / 2 ^ k) m * 2 ^ (t + k) + bit_and (l / 2 ^ k) m)) (spread (bit_and h m) (2 ^ (t + k)) (bit_and l m))
    ∙ or_block (t + k) (bit_and (h / 2 ^ k) m) (bit_and h m * 2 ^ k) (bit_and (l / 2 ^ k) m) (bit_and l m * 2 ^ k) right (subst (λ (p : ℕ). bit_and l m * 2 ^ k < p) (sym whole) inside)
  where
    spread : (a j b : ℕ) → (a * j + b) * 2 ^ k ≡ a * 2 ^ k * j + b * 2 ^ k
    spread a j b = omega arith

    scaled : (c : ℕ) → c < 2 ^ t → c * 2 ^ k < 2 ^ t * 2 ^ k
    scaled c less = let there : 0 < 2 ^ k = pow_pos k in let more : suc c * 2 ^ k ≤ 2 ^ t * 2 ^ k = mul-le-mul_right (2 ^ k) less in omega (arith, more, there)

-- ══ The bytes of a value, turned around ══

abbrev swap_16 : ℕ → ℕ
swap_16 v = swapped 8 255 v

swap_16_is : (v : ℕ) → v < 2 ^ 16 → swap_16 v ≡ v % 256 * 256 + v / 256
swap_16_is v fits = swapped_pair 8 v fits

pub swap_32_is : (v : ℕ) → v < 2 ^ 32 → swapped 16 65535 (swapped 8 16711935 v) ≡ byte_swap_of 32 v
swap_32_is v fits =
    let h : ℕ = v / 65536 in
    let l : ℕ = v % 65536 in
    let parts : h * 65536 + l ≡ v = div-add-mod' v 65536 in
    let first : swapped 8 16711935 v ≡ (h % 256 * 256 + h / 256) * 65536 + (l % 256 * 256 + l / 256) =
    ap (swapped 8 16711935) (sym parts) ∙ swapped_parts 8 8 255 h l (omega arith) (lit< tt)
    ∙ ap₂ (λ p q. p * 65536 + q) (swap_16_is h (omega (arith, fits))) (swap_16_is l (omega arith)) in
    ap (swapped 16 65535) first ∙ swapped_pair 16 ((h % 256 * 256 + h / 256) * 65536 + (l % 256 * 256 + l / 256)) (omega (arith, fits)) ∙ omega (arith, fits)

-- what was swapped has its bits
swapped_fits : (n k m v : ℕ) → m < 2 ^ n → m * 2 ^ k < 2 ^ n → swapped k m v < 2 ^ n
swapped_fits n k m v fits shifted =
    or_lt n (bit_and (v / 2 ^ k) m) (bit_and v m * 2 ^ k) (omega (arith, and_le_r (v / 2 ^ k) m, fits)) (omega (arith, mul-le-mul_right (2 ^ k) (and_le_r v m), shifted))

pub reversed_halves : (v : ℕ) → byte_swap_of 32 (v % 4294967296) * 4294967296 + byte_swap_of 32 (v / 4294967296) ≡ byte_swap_of 64 v
reversed_halves v = omega arith

pub swap_64_is : (v : ℕ) → v < 2 ^ 64 → swapped 32 4294967295 (swapped 16 281470681808895 (swapped 8 71777214294589695 v)) ≡ byte_swap_of 64 v
swap_64_is v fits =
    let h : ℕ = v / 4294967296 in
    let l : ℕ = v % 4294967296 in
    let p : ℕ = swapped 8 16711935 h in
    let q : ℕ = swapped 8 16711935 l in
    let low : l < 2 ^ 32 = omega arith in
    let high : h < 2 ^ 32 = omega (arith, fits) in
    let first : swapped 8 71777214294589695 v ≡ p * 4294967296 + q = ap (swapped 8 71777214294589695) (sym (div-add-mod' v 4294967296)) ∙ swapped_parts 24 8 16711935 h l low (lit< tt) in
    let second : swapped 16 281470681808895 (p * 4294967296 + q) ≡ byte_swap_of 32 h * 4294967296 + byte_swap_of 32 l =
    swapped_parts 16 16 65535 p q (swapped_fits 32 8 16711935 l (lit< tt) (lit< tt)) (lit< tt) ∙ ap₂ (λ a b. a * 4294967296 + b) (swap_32_is h high) (swap_32_is l low) in
    let first_fits : byte_swap_of 32 h < 2 ^ 32 = subst (λ (u : ℕ). u < 2 ^ 32) (swap_32_is h high) (swapped_fits 32 16 65535 p (lit< tt) (lit< tt)) in
    let second_fits : byte_swap_of 32 l < 2 ^ 32 = subst (λ (u : ℕ). u < 2 ^ 32) (swap_32_is l low) (swapped_fits 32 16 65535 q (lit< tt) (lit< tt)) in
    ap (λ u. swapped 32 4294967295 (swapped 16 281470681808895 u)) first ∙ ap (swapped 32 4294967295) second
    ∙ turned (byte_swap_of 32 h) (byte_swap_of 32 l) first_fits second_fits ∙ reversed_halves v
  where
    turned : (a b : ℕ) → a < 4294967296 → b < 4294967296 → swapped 32 4294967295 (a * 4294967296 + b) ≡ b * 4294967296 + a
    turned a b first second = swapped_pair 32 (a * 4294967296 + b) (omega (arith, first, second)) ∙ omega (arith, first, second)
