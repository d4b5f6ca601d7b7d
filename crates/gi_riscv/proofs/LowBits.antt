-- The low bits of words.
use Rattle.std.proofs.Common.{◌≡◌, ℕ, ◌+◌, ◌-◌, ◌*◌, ◌/◌, ◌%◌, ◌^◌, ◌<◌, ◌≤◌, Bool, true, false, cond, refl, sym, ap, ap₂, ◌∙◌, subst, arith, nat_lt, ℤ, pos, negsuc, ⊎_elim}
use Rattle.std.proofs.lemmas.Nat.{pow_pos, mod_below, div_below, pow-add, mod-mul-add}
use Rattle.std.proofs.lemmas.Bool.{cases_lt, ltb-false}
use Rattle.std.specs.Prelude.{neg_ℤ}
use Rattle.std.proofs.Math.Nat.{div-add-mod', mod-eq_of_lt}
use Rattle.std.proofs.Math.Pow.{mod-mod-pow}
use Rattle.gi_meaning.proofs.Numbers.{signed-low, signed-high, unsigned-neg, unsigned_below}
use Rattle.gi_llt.specs.Bits.{sign_extended, signed, unsigned, wrapped}
use Rattle.gi_meaning.specs.Given.{Given}
use Rattle.gi_meaning.specs.Act.{fitted}
use Rattle.gi_riscv.proofs.MachineSteps.{MayGive, IsReadAs}

-- ══ A number as a word, and as a value of fewer bits ══

complement_of : (k d r q : ℕ) → r < q → (k + d + 1) * q - 1 - (d * q + r) ≡ k * q + (q - 1 - r)
complement_of k d r q h = omega arith

-- the low bits of a complement are the complement of the low bits
complement_low : (p q m : ℕ) → 0 < q → m < p * q → (p * q - 1 - m) % q ≡ q - 1 - m % q
complement_low p q m positive below =
    let high : m / q < p = div_below m q p positive (omega (arith, below)) in
    let p_is : p ≡ (p - 1 - m / q) + m / q + 1 = omega (arith, high) in
    let m_is : m ≡ m / q * q + m % q = sym (div-add-mod' m q) in
    let low : m % q < q = mod_below m q positive in
    ap₂ (λ s t. (s * q - 1 - t) % q) p_is m_is
    ∙ (ap (λ s. s % q) (complement_of (p - 1 - m / q) (m / q) (m % q) q low)
    ∙ mod-mul-add (p - 1 - m / q) q (q - 1 - m % q) (omega (arith, low)))

unsigned_low_at : (j n : ℕ) (i : ℤ) → wrapped n (unsigned (j + n) i) ≡ unsigned n i
unsigned_low_at j n (pos m) = mod-mod-pow m j n
unsigned_low_at j n (negsuc m) =
    let below : m % 2 ^ (j + n) < 2 ^ j * 2 ^ n = subst (λ s. m % 2 ^ (j + n) < s) (pow-add 2 j n) (mod_below m (2 ^ (j + n)) (pow_pos (j + n))) in
    ap (λ s. (s - 1 - m % 2 ^ (j + n)) % 2 ^ n) (pow-add 2 j n)
    ∙ (complement_low (2 ^ j) (2 ^ n) (m % 2 ^ (j + n)) (pow_pos n) below ∙ ap (λ s. 2 ^ n - 1 - s) (mod-mod-pow m j n))

-- the low bits of a number's word are the number's bits
pub unsigned_low : (x n : ℕ) (i : ℤ) → n ≤ x → wrapped n (unsigned x i) ≡ unsigned n i
unsigned_low x n i within =
    let e : (x - n) + n ≡ x = omega (arith, within) in subst (λ y. wrapped n (unsigned y i) ≡ unsigned n i) e (unsigned_low_at (x - n) n i)

number_reads_at : (b : Bool) (x n : ℕ) (i : ℤ) → nat_lt n x ≡ b → n ≤ x → cond b ((unsigned x i < 2 ^ x) × (unsigned x i % 2 ^ n ≡ unsigned n i)) (unsigned x i ≡ unsigned n i)
number_reads_at true x n i is within = (unsigned_below x i, unsigned_low x n i within)
number_reads_at false x n i is within = let e : x ≡ n = omega (arith, ltb-false n x is, within) in ap (λ y. unsigned y i) e

-- a number's word is what a register that holds the number may be read as
pub number_reads : (x n : ℕ) (i : ℤ) → n ≤ x → IsReadAs x n (unsigned n i) (unsigned x i)
number_reads x n i within = number_reads_at (nat_lt n x) x n i refl within

-- ══ Functions bit by bit ══

-- the low bits of what is made are made of the low bits
abbrev pub KeepsLow : (ℕ → ℕ → ℕ) → Type 0
KeepsLow f = (a b k : ℕ) → f a b % 2 ^ k ≡ f (a % 2 ^ k) (b % 2 ^ k)

low_at : (t : Bool) (x n a u b v : ℕ) (f : ℕ → ℕ → ℕ) → KeepsLow f → cond t ((u < 2 ^ x) × (u % 2 ^ n ≡ a)) (u ≡ a) → cond t ((v < 2 ^ x) × (v % 2 ^ n ≡ b)) (v ≡ b)
    → cond t (wrapped n (f u v)) (f u v) ≡ f a b
low_at true x n a u b v f keeps left right = keeps u v n ∙ ap₂ f left.1 right.1
low_at false x n a u b v f keeps left right = ap₂ f left right

pub low_is : (x n a u b v : ℕ) (f : ℕ → ℕ → ℕ) → KeepsLow f → IsReadAs x n a u → IsReadAs x n b v → fitted x n (f u v) ≡ f a b
low_is x n a u b v f keeps left right = low_at (nat_lt n x) x n a u b v f keeps left right

pub low_may : (given : Given) (x n a u b v : ℕ) (f : ℕ → ℕ → ℕ) → KeepsLow f → IsReadAs x n a u → IsReadAs x n b v → MayGive given (f a b) → MayGive given (fitted x n (f u v))
low_may given x n a u b v f keeps left right may = subst (MayGive given) (sym (low_is x n a u b v f keeps left right)) may

low_reads_at : (t : Bool) (x n m : ℕ) → nat_lt n x ≡ t → n ≤ x → m < 2 ^ x → cond t ((m < 2 ^ x) × (m % 2 ^ n ≡ wrapped n m)) (m ≡ wrapped n m)
low_reads_at true x n m is within fits = (fits, refl)
low_reads_at false x n m is within fits = let e : x ≡ n = omega (arith, ltb-false n x is, within) in sym (mod-eq_of_lt (subst (λ k. m < 2 ^ k) e fits))

-- a word is what a register that holds its low bits may be read as
pub low_reads : (x n m : ℕ) → n ≤ x → m < 2 ^ x → IsReadAs x n (wrapped n m) m
low_reads x n m within fits = low_reads_at (nat_lt n x) x n m refl within fits

-- ══ The low half of a word to which it was extended with its sign ══

extended_low_below : (v : ℕ) → v < 2 ^ 31 → wrapped 32 (sign_extended 32 64 v) ≡ v
extended_low_below v low =
    let whole : wrapped 32 v ≡ v = mod-eq_of_lt (omega (arith, low)) in
    ap (λ u. wrapped 32 (unsigned 64 (signed 32 u))) whole ∙ ap (λ z. wrapped 32 (unsigned 64 z)) (signed-low 32 v low) ∙ omega (arith, low)

extended_low_above : (v : ℕ) → v < 2 ^ 32 → 2 ^ 31 ≤ v → wrapped 32 (sign_extended 32 64 v) ≡ v
extended_low_above v fits high =
    let whole : wrapped 32 v ≡ v = mod-eq_of_lt fits in
    let size : ℕ = 2 ^ 32 - v in
    let bits : unsigned 64 (neg_ℤ (pos size)) ≡ 2 ^ 64 - 1 - (size % 2 ^ 64 - 1) = unsigned-neg 64 size (omega (arith, fits, high)) in
    ap (λ u. wrapped 32 (unsigned 64 (signed 32 u))) whole ∙ ap (λ z. wrapped 32 (unsigned 64 z)) (signed-high 32 v high) ∙ ap (wrapped 32) bits ∙ omega (arith, fits, high)

-- the low 32 bits of a word that they were extended to with their sign
pub extended_low : (v : ℕ) → v < 2 ^ 32 → wrapped 32 (sign_extended 32 64 v) ≡ v
extended_low v fits = ⊎_elim (λ low. extended_low_below v low) (λ high. extended_low_above v fits high) (cases_lt v (2 ^ 31))
