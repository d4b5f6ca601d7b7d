-- The ones of a number, counted in all its bytes at once.
use Rattle.std.proofs.Common.{◌≡◌, ℕ, zero, suc, ◌+◌, ◌-◌, ◌*◌, ◌/◌, ◌%◌, ◌^◌, ◌<◌, ◌≤◌, ◌==◌, ◌&&◌, Bool, true, false, pos, ◌-ℤ◌, refl, sym, ap, ap₂, ◌∙◌, subst, arith, lit<, ⊎_elim}
use Rattle.std.specs.Prelude.{bit_and}
use Rattle.std.proofs.Math.Nat.{add-mul-mod_self_right, div-add-mod', div-le_self, mod-eq_of_lt, mul-le-mul_right}
use Rattle.std.proofs.lemmas.Bool.{cases_lt, eqb-true}
use Rattle.std.proofs.lemmas.Int.{ints}
use Rattle.std.proofs.lemmas.Nat.{and_block, and_le_l, and_le_r, and_mod, pow-add}
use Rattle.gi_llt.specs.Bits.{unsigned, wrapped}
use Rattle.gi_meaning.specs.Generic.{difference_of, ones}
use Rattle.gi_rule_values.proofs.Groups.{and_below, in_more, shift_parts, shifted_parts}

-- the ones of each two bits, of each four, and of each byte
abbrev pairs : (m v : ℕ) → ℕ
pairs m v = v - bit_and (v / 2) m

abbrev nibbles : (m v : ℕ) → ℕ
nibbles m v = bit_and v m + bit_and (v / 4) m

abbrev bytes : (m v : ℕ) → ℕ
bytes m v = bit_and (v + v / 16) m

abbrev pub counted : (a b c v : ℕ) → ℕ
counted a b c v = bytes c (nibbles b (pairs a v))

-- ══ On two parts ══

less_parts : (j h p l q : ℕ) → p ≤ h → q ≤ l → h * j + l - (p * j + q) ≡ (h - p) * j + (l - q)
less_parts j h p l q first second =
    let is : h ≡ p + (h - p) = omega (arith, first) in
    subst (λ (u : ℕ). u * j + l - (p * j + q) ≡ (h - p) * j + (l - q)) (sym is) (omega (arith, second))

pairs_parts : (t m h l : ℕ) → l < 2 ^ (t + 1) → m < 2 ^ t → pairs (m * 2 ^ (t + 1) + m) (h * 2 ^ (t + 1) + l) ≡ pairs m h * 2 ^ (t + 1) + pairs m l
pairs_parts t m h l fits mask_fits =
    ap (λ v. h * 2 ^ (t + 1) + l - v) (shifted_parts t 1 m h l fits mask_fits)
    ∙ less_parts (2 ^ (t + 1)) h (bit_and (h / 2) m) l (bit_and (l / 2) m)
    (omega (arith, and_le_l (h / 2) m, div-le_self h 2)) (omega (arith, and_le_l (l / 2) m, div-le_self l 2))

nibbles_parts : (t m h l : ℕ) → l < 2 ^ (t + 2) → m < 2 ^ t → nibbles (m * 2 ^ (t + 2) + m) (h * 2 ^ (t + 2) + l) ≡ nibbles m h * 2 ^ (t + 2) + nibbles m l
nibbles_parts t m h l fits mask_fits =
    ap₂ (λ u v. u + v) (and_block (t + 2) h m l m fits (in_more t 2 m mask_fits)) (shifted_parts t 2 m h l fits mask_fits)
    ∙ gathered (2 ^ (t + 2)) (bit_and h m) (bit_and l m) (bit_and (h / 4) m) (bit_and (l / 4) m)
  where
    gathered : (j p q r s : ℕ) → p * j + q + (r * j + s) ≡ (p + r) * j + (q + s)
    gathered j p q r s = omega arith

-- no byte carries into the next one
bytes_parts : (t m h l : ℕ) → l + l / 16 + h % 16 * 2 ^ t < 2 ^ (t + 4) → m < 2 ^ t → bytes (m * 2 ^ (t + 4) + m) (h * 2 ^ (t + 4) + l) ≡ bytes m h * 2 ^ (t + 4) + bytes m l
bytes_parts t m h l fits mask_fits =
    let whole : 2 ^ (t + 4) ≡ 2 ^ t * 16 = pow-add 2 t 4 in
    let shifted : (h * 2 ^ (t + 4) + l) / 16 ≡ h / 16 * 2 ^ (t + 4) + (h % 16 * 2 ^ t + l / 16) =
    ap (λ p. (h * p + l) / 16) whole ∙ shift_parts (2 ^ t) 16 h l (lit< tt) ∙ ap (λ p. h / 16 * p + (h % 16 * 2 ^ t + l / 16)) (sym whole) in
    let summed : h * 2 ^ (t + 4) + l + (h * 2 ^ (t + 4) + l) / 16 ≡ (h + h / 16) * 2 ^ (t + 4) + (l + l / 16 + h % 16 * 2 ^ t) =
    ap (λ v. h * 2 ^ (t + 4) + l + v) shifted ∙ gathered (2 ^ (t + 4)) (2 ^ t) (h / 16) (h % 16) (l / 16) in
    ap (λ v. bit_and v (m * 2 ^ (t + 4) + m)) summed
    ∙ and_block (t + 4) (h + h / 16) m (l + l / 16 + h % 16 * 2 ^ t) m fits (in_more t 4 m mask_fits)
    ∙ ap (λ v. bytes m h * 2 ^ (t + 4) + v)
    (and_below t (l + l / 16 + h % 16 * 2 ^ t) m mask_fits ∙ ap (λ v. bit_and v m) (add-mul-mod_self_right (l + l / 16) (h % 16) (2 ^ t)) ∙ sym (and_below t (l + l / 16) m mask_fits))
  where
    gathered : (j q d r s : ℕ) → h * j + l + (d * j + (r * q + s)) ≡ (h + d) * j + (l + s + r * q)
    gathered j q d r s = omega arith

-- a count of ones of four bits is 6 at most, as each of its two sums is 3
few : (m v : ℕ) → m % 16 ≡ 3 → nibbles m v % 16 ≤ 6
few m v three = omega (arith, part v, part (v / 4))
  where
    part : (u : ℕ) → bit_and u m % 16 ≤ 3
    part u = omega (arith, and_mod u m 4, and_le_r (u % 16) (m % 16), three)

-- how far masks of j bits reach
record AreMasks (j a b c : ℕ) : Type 0 where
  enough : 4 ≤ j
  first : a < 2 ^ (j - 1)
  second : b < 2 ^ (j - 2)
  third : c < 2 ^ (j - 4)
  three : b % 16 ≡ 3
  room : b + b + (b + b) / 16 + 6 * 2 ^ (j - 4) < 2 ^ j

counted_parts : (j a b c h l : ℕ) → AreMasks j a b c → l < 2 ^ j → counted (a * 2 ^ j + a) (b * 2 ^ j + b) (c * 2 ^ j + c) (h * 2 ^ j + l) ≡ counted a b c h * 2 ^ j + counted a b c l
counted_parts j a b c h l masks fits =
    let one : j - 1 + 1 ≡ j = omega (arith, masks.enough) in
    let two : j - 2 + 2 ≡ j = omega (arith, masks.enough) in
    let four : j - 4 + 4 ≡ j = omega (arith, masks.enough) in
    let p : ℕ = pairs a h in
    let q : ℕ = pairs a l in
    let r : ℕ = nibbles b p in
    let s : ℕ = nibbles b q in
    let small : q < 2 ^ j = omega (arith, fits) in
    let least : s ≤ b + b = omega (arith, and_le_r q b, and_le_r (q / 4) b) in
    let nibble : r % 16 * 2 ^ (j - 4) ≤ 6 * 2 ^ (j - 4) = mul-le-mul_right (2 ^ (j - 4)) (few b p masks.three) in
    let room : s + s / 16 + r % 16 * 2 ^ (j - 4) < 2 ^ j = omega (arith, least, nibble, masks.room) in
    let in_pairs : pairs (a * 2 ^ j + a) (h * 2 ^ j + l) ≡ p * 2 ^ j + q =
    subst (λ (k : ℕ). l < 2 ^ k → pairs (a * 2 ^ k + a) (h * 2 ^ k + l) ≡ p * 2 ^ k + q) one (λ fits. pairs_parts (j - 1) a h l fits masks.first) fits in
    let in_nibbles : nibbles (b * 2 ^ j + b) (p * 2 ^ j + q) ≡ r * 2 ^ j + s =
    subst (λ (k : ℕ). q < 2 ^ k → nibbles (b * 2 ^ k + b) (p * 2 ^ k + q) ≡ r * 2 ^ k + s) two (λ fits. nibbles_parts (j - 2) b p q fits masks.second) small in
    let in_bytes : bytes (c * 2 ^ j + c) (r * 2 ^ j + s) ≡ bytes c r * 2 ^ j + bytes c s =
    subst (λ (k : ℕ). s + s / 16 + r % 16 * 2 ^ (j - 4) < 2 ^ k → bytes (c * 2 ^ k + c) (r * 2 ^ k + s) ≡ bytes c r * 2 ^ k + bytes c s) four (λ fits. bytes_parts (j - 4) c r s fits masks.third) room in
    ap (λ v. bytes (c * 2 ^ j + c) (nibbles (b * 2 ^ j + b) v)) in_pairs ∙ ap (bytes (c * 2 ^ j + c)) in_nibbles ∙ in_bytes

-- ══ A byte ══

abbrev all_below : (ℕ → Bool) → ℕ → Bool
all_below f zero = true
all_below f (suc n) = f n && all_below f n

holds_below : (f : ℕ → Bool) (n k : ℕ) → all_below f n ≡ true → k < n → f k ≡ true
holds_below f zero k all below = absurd (omega (arith, below))
holds_below f (suc n) k all below = ⊎_elim (λ less. holds_below f n k (second (f n) (all_below f n) all) less) (λ least. let is : n ≡ k = omega (arith, below, least) in subst (λ (i : ℕ). f i ≡ true) is (first (f n) (all_below f n) all)) (cases_lt k n)
  where
    first : (a b : Bool) → (a && b) ≡ true → a ≡ true
    first true b h = refl
    first false b h = cc

    second : (a b : Bool) → (a && b) ≡ true → b ≡ true
    second true b h = h
    second false b h = cc

-- tried with each byte
byte_counted : (v : ℕ) → v < 256 → counted 85 51 15 v ≡ ones 8 v
byte_counted v fits = eqb-true (counted 85 51 15 v) (ones 8 v) (holds_below (λ b. counted 85 51 15 b == ones 8 b) 256 v refl fits)

-- ══ All bytes ══

pub ones_fit : (n v : ℕ) → ones n v ≤ n
ones_fit zero v = omega arith
ones_fit (suc n) v = omega (arith, ones_fit n (v / 2))

-- the ones of a byte, and those above it
ones_parts : (n v : ℕ) → ones (suc (suc (suc (suc (suc (suc (suc (suc n)))))))) v ≡ ones 8 (v % 256) + ones n (v / 256)
ones_parts n v =
    let above : v / 2 / 2 / 2 / 2 / 2 / 2 / 2 / 2 ≡ v / 256 = omega arith in
    ap (λ u. v % 2 + (v / 2 % 2 + (v / 2 / 2 % 2 + (v / 2 / 2 / 2 % 2 + (v / 2 / 2 / 2 / 2 % 2 + (v / 2 / 2 / 2 / 2 / 2 % 2 + (v / 2 / 2 / 2 / 2 / 2 / 2 % 2 + (v / 2 / 2 / 2 / 2 / 2 / 2 / 2 % 2 + ones n u)))))))) above
    ∙ low (ones n (v / 256))
  where
    low : (k : ℕ) → v % 2 + (v / 2 % 2 + (v / 2 / 2 % 2 + (v / 2 / 2 / 2 % 2 + (v / 2 / 2 / 2 / 2 % 2 + (v / 2 / 2 / 2 / 2 / 2 % 2 + (v / 2 / 2 / 2 / 2 / 2 / 2 % 2 + (v / 2 / 2 / 2 / 2 / 2 / 2 / 2 % 2 + k))))))) ≡ ones 8 (v % 256) + k
    low k = omega arith

count_16 : (v : ℕ) → v < 65536 → counted 21845 13107 3855 v ≡ ones 8 (v / 256) * 256 + ones 8 (v % 256)
count_16 v fits =
    ap (counted 21845 13107 3855) (sym (div-add-mod' v 256))
    ∙ counted_parts 8 85 51 15 (v / 256) (v % 256) (record { enough = omega arith; first = omega arith; second = omega arith; third = omega arith; three = refl; room = omega arith }) (omega arith)
    ∙ ap₂ (λ p q. p * 256 + q) (byte_counted (v / 256) (omega (arith, fits))) (byte_counted (v % 256) (omega arith))

count_32 : (v : ℕ) → v < 4294967296 → counted 1431655765 858993459 252645135 v
    ≡ (ones 8 (v / 256 / 256 / 256 % 256) * 256 + ones 8 (v / 256 / 256 % 256)) * 65536 + (ones 8 (v / 256 % 256) * 256 + ones 8 (v % 256))
count_32 v fits =
    let fourth : v / 65536 / 256 ≡ v / 256 / 256 / 256 % 256 = omega (arith, fits) in
    let third : v / 65536 % 256 ≡ v / 256 / 256 % 256 = omega arith in
    let second : v % 65536 / 256 ≡ v / 256 % 256 = omega arith in
    let lowest : v % 65536 % 256 ≡ v % 256 = omega arith in
    ap (counted 1431655765 858993459 252645135) (sym (div-add-mod' v 65536))
    ∙ counted_parts 16 21845 13107 3855 (v / 65536) (v % 65536) (record { enough = omega arith; first = omega arith; second = omega arith; third = omega arith; three = refl; room = omega arith }) (omega arith)
    ∙ ap₂ (λ p q. p * 65536 + q) (count_16 (v / 65536) (omega (arith, fits))) (count_16 (v % 65536) (omega arith))
    ∙ ap₂ (λ p q. p * 65536 + q) (ap₂ (λ b c. ones 8 b * 256 + ones 8 c) fourth third) (ap₂ (λ b c. ones 8 b * 256 + ones 8 c) second lowest)

ones_32 : (v : ℕ) → ones 32 v ≡ ones 8 (v % 256) + (ones 8 (v / 256 % 256) + (ones 8 (v / 256 / 256 % 256) + ones 8 (v / 256 / 256 / 256 % 256)))
ones_32 v =
    ones_parts 24 v ∙ ap (λ k. ones 8 (v % 256) + k) (ones_parts 16 (v / 256)
    ∙ ap (λ k. ones 8 (v / 256 % 256) + k) (ones_parts 8 (v / 256 / 256) ∙ ap (λ k. ones 8 (v / 256 / 256 % 256) + k) (ones_parts 0 (v / 256 / 256 / 256) ∙ omega arith)))

sum_of_4 : (p q r s : ℕ) → p ≤ 8 → q ≤ 8 → r ≤ 8 → s ≤ 8 → ((p * 256 + q) * 65536 + (r * 256 + s)) * 16843009 % 4294967296 / 16777216 ≡ s + (r + (q + p))
sum_of_4 p q r s first second third fourth = omega (arith, first, second, third, fourth)

pub counted_32 : (v : ℕ) → v < 2 ^ 32 → wrapped 32 (counted 1431655765 858993459 252645135 v * 16843009) / 2 ^ 24 ≡ ones 32 v
counted_32 v fits =
    ap (λ k. k * 16843009 % 4294967296 / 16777216) (count_32 v fits)
    ∙ sum_of_4 (ones 8 (v / 256 / 256 / 256 % 256)) (ones 8 (v / 256 / 256 % 256)) (ones 8 (v / 256 % 256)) (ones 8 (v % 256))
    (ones_fit 8 (v / 256 / 256 / 256 % 256)) (ones_fit 8 (v / 256 / 256 % 256)) (ones_fit 8 (v / 256 % 256)) (ones_fit 8 (v % 256))
    ∙ sym (ones_32 v)

-- ══ 64 bits ══

ones_64 : (v : ℕ) → ones 64 v ≡ ones 32 (v % 4294967296) + ones 32 (v / 4294967296)
ones_64 v =
    let first : v % 4294967296 % 256 ≡ v % 256 = omega arith in
    let second : v % 4294967296 / 256 % 256 ≡ v / 256 % 256 = omega arith in
    let third : v % 4294967296 / 256 / 256 % 256 ≡ v / 256 / 256 % 256 = omega arith in
    let fourth : v % 4294967296 / 256 / 256 / 256 % 256 ≡ v / 256 / 256 / 256 % 256 = omega arith in
    let above : v / 256 / 256 / 256 / 256 ≡ v / 4294967296 = omega arith in
    let low : ones 32 (v % 4294967296) ≡ ones 8 (v % 256) + (ones 8 (v / 256 % 256) + (ones 8 (v / 256 / 256 % 256) + ones 8 (v / 256 / 256 / 256 % 256))) =
    ones_32 (v % 4294967296) ∙ ap₂ (λ a b. a + b) (ap (ones 8) first) (ap₂ (λ a b. a + b) (ap (ones 8) second) (ap₂ (λ a b. a + b) (ap (ones 8) third) (ap (ones 8) fourth))) in
    let whole : ones 64 v ≡ ones 8 (v % 256) + (ones 8 (v / 256 % 256) + (ones 8 (v / 256 / 256 % 256) + (ones 8 (v / 256 / 256 / 256 % 256) + ones 32 (v / 256 / 256 / 256 / 256)))) =
    ones_parts 56 v ∙ ap (λ k. ones 8 (v % 256) + k) (ones_parts 48 (v / 256)
    ∙ ap (λ k. ones 8 (v / 256 % 256) + k) (ones_parts 40 (v / 256 / 256) ∙ ap (λ k. ones 8 (v / 256 / 256 % 256) + k) (ones_parts 32 (v / 256 / 256 / 256)))) in
    whole ∙ joined (ones 8 (v % 256)) (ones 8 (v / 256 % 256)) (ones 8 (v / 256 / 256 % 256)) (ones 8 (v / 256 / 256 / 256 % 256)) (ones 32 (v / 256 / 256 / 256 / 256)) ∙ ap₂ (λ a b. a + b) (sym low) (ap (ones 32) above)
  where
    joined : (a b c d k : ℕ) → a + (b + (c + (d + k))) ≡ a + (b + (c + d)) + k
    joined a b c d k = omega arith

sum_of_8 : (p q r s t u v w : ℕ) → p ≤ 8 → q ≤ 8 → r ≤ 8 → s ≤ 8 → t ≤ 8 → u ≤ 8 → v ≤ 8 → w ≤ 8
    → (((p * 256 + q) * 65536 + (r * 256 + s)) * 4294967296 + ((t * 256 + u) * 65536 + (v * 256 + w))) * 72340172838076673 % 18446744073709551616 / 72057594037927936
    ≡ (w + (v + (u + t))) + (s + (r + (q + p)))
sum_of_8 p q r s t u v w p_fits q_fits r_fits s_fits t_fits u_fits v_fits w_fits = omega (arith, p_fits, q_fits, r_fits, s_fits, t_fits, u_fits, v_fits, w_fits)

pub counted_64 : (v : ℕ) → v < 2 ^ 64 → wrapped 64 (counted 6148914691236517205 3689348814741910323 1085102592571150095 v * 72340172838076673) / 2 ^ 56 ≡ ones 64 v
counted_64 v fits =
    let h : ℕ = v / 4294967296 in
    let l : ℕ = v % 4294967296 in
    let parts : counted 6148914691236517205 3689348814741910323 1085102592571150095 v ≡ counted 1431655765 858993459 252645135 h * 4294967296 + counted 1431655765 858993459 252645135 l =
    ap (counted 6148914691236517205 3689348814741910323 1085102592571150095) (sym (div-add-mod' v 4294967296))
    ∙ counted_parts 32 1431655765 858993459 252645135 h l (record { enough = omega arith; first = omega arith; second = omega arith; third = omega arith; three = refl; room = omega arith }) (omega arith) in
    ap (λ k. k * 72340172838076673 % 18446744073709551616 / 72057594037927936) (parts ∙ ap₂ (λ a b. a * 4294967296 + b) (count_32 h (omega (arith, fits))) (count_32 l (omega arith)))
    ∙ sum_of_8 (ones 8 (h / 256 / 256 / 256 % 256)) (ones 8 (h / 256 / 256 % 256)) (ones 8 (h / 256 % 256)) (ones 8 (h % 256))
    (ones 8 (l / 256 / 256 / 256 % 256)) (ones 8 (l / 256 / 256 % 256)) (ones 8 (l / 256 % 256)) (ones 8 (l % 256))
    (ones_fit 8 (h / 256 / 256 / 256 % 256)) (ones_fit 8 (h / 256 / 256 % 256)) (ones_fit 8 (h / 256 % 256)) (ones_fit 8 (h % 256))
    (ones_fit 8 (l / 256 / 256 / 256 % 256)) (ones_fit 8 (l / 256 / 256 % 256)) (ones_fit 8 (l / 256 % 256)) (ones_fit 8 (l % 256))
    ∙ ap₂ (λ a b. a + b) (sym (ones_32 l)) (sym (ones_32 h)) ∙ sym (ones_64 v)

-- ══ Nothing is cut ══

less_plain : (n v c : ℕ) → v < 2 ^ n → c ≤ v → difference_of n v c ≡ v - c
less_plain n v c fits least =
    let is : pos v -ℤ pos c ≡ pos (v - c) = omega (arith, ints, least) in ap (unsigned n) is ∙ mod-eq_of_lt (omega (arith, fits))

abbrev summed : (n b d : ℕ) → ℕ
summed n b d = wrapped n (bit_and d b + bit_and (d / 2 ^ 2) b)

pub plainly : (n a b c v : ℕ) → v < 2 ^ n → b + b + (b + b) / 16 < 2 ^ n
    → bit_and (wrapped n (summed n b (difference_of n v (bit_and (v / 2 ^ 1) a)) + summed n b (difference_of n v (bit_and (v / 2 ^ 1) a)) / 2 ^ 4)) c ≡ counted a b c v
plainly n a b c v fits room =
    let d : ℕ = pairs a v in
    let s : ℕ = nibbles b d in
    let d_is : difference_of n v (bit_and (v / 2) a) ≡ d = less_plain n v (bit_and (v / 2) a) fits (omega (arith, and_le_l (v / 2) a, div-le_self v 2)) in
    let least : s ≤ b + b = omega (arith, and_le_r d b, and_le_r (d / 4) b) in
    let s_is : wrapped n s ≡ s = mod-eq_of_lt (omega (arith, least, room)) in
    ap (λ u. bit_and (wrapped n (summed n b u + summed n b u / 2 ^ 4)) c) d_is ∙ ap (λ u. bit_and (wrapped n (u + u / 16)) c) s_is
    ∙ ap (λ u. bit_and u c) (mod-eq_of_lt (omega (arith, least, room)))
