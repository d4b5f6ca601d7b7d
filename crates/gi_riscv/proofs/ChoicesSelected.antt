-- A choice between two values is selected.
use Rattle.std.proofs.Common.{◌≡◌, ℕ, ◌-◌, ◌%◌, ◌^◌, ◌<◌, ◌≤◌, ◌==◌, Bool, true, false, cond, not, nat_lt, List, [], ◌∷◌, ◌++◌, Option, Some, None, refl, sym, ap, ◌∙◌, subst, arith, pos, ◌-ℤ◌}
use Rattle.std.specs.Prelude.{bit_and, bit_xor}
use Rattle.std.specs.Int.Bits.{xor_self, xor_assoc, xor_zero_l, xor_zero_r, and_zero_r}
use Rattle.std.proofs.lemmas.Nat.{pow_pos, and_le_l, and_mask, and_mod, xor_mod, xor_lt, xor_comm}
use Rattle.std.proofs.Math.Nat.{mod-eq_of_lt}
use Rattle.gi_llt.specs.Bits.{wrapped, unsigned}
use Rattle.gi_mir.specs.Data.{no_flags}
use Rattle.gi_mir.specs.declared.opcode.Opcode.TheVariants as op
use Rattle.gi_mir.specs.declared.operand.Flags.{Flags}
use Rattle.gi_meaning.specs.Argument.{Value}
use Rattle.gi_meaning.specs.Given.{one}
use Rattle.gi_meaning.specs.Generic.{ternary, bit_of, difference_of}
use Rattle.gi_meaning.specs.Machine.{on_words, less_unsigned_word}
use Rattle.gi_meaning.specs.Meaning.{Meaning, Machine, meaning_of}
use Rattle.gi_meaning.specs.State.{World, Outside}
use Rattle.gi_meaning.specs.Act.{Answer, Act}
use Rattle.gi_meaning.proofs.Numbers.{unsigned_below}
use Rattle.gi_refine.specs.Values.{Environment, At, Operation, Makes, Then, answered, IsSound}
use Rattle.gi_refine.specs.ValueRules.{on_two}
use Rattle.gi_riscv.specs.SelectionRules.{with_zero, choose}
use Rattle.gi_riscv.proofs.ComparisonsSelected.{is_above}
use Rattle.gi_riscv.proofs.LowBits.{KeepsLow, low_is, low_reads, unsigned_low}
use Rattle.gi_riscv.proofs.MachineSteps.{may_make, OnTwo, on_two_words, read_as, whole_is, IsReadAs}
use Rattle.gi_riscv.proofs.WordSteps.{word_step}

-- ══ Bits ══

-- the mask of a condition: all ones where it holds, and else none
abbrev mask : (n : ℕ) → Bool → ℕ
mask n holds = unsigned n (pos 0 -ℤ pos (bit_of holds))

none_left : (n : ℕ) → 0 % 2 ^ n ≡ 0
none_left n = mod-eq_of_lt (pow_pos n)

all_left : (n : ℕ) → 2 ^ n - 1 - 0 % 2 ^ n ≡ 2 ^ n - 1
all_left n = omega (arith, none_left n)

twice_differing : (a b : ℕ) → bit_xor b (bit_xor a b) ≡ a
twice_differing a b = ap (bit_xor b) (xor_comm a b) ∙ (sym (xor_assoc b b a) ∙ (ap (λ m. bit_xor m a) (xor_self b) ∙ xor_zero_l a))

chosen : (n a b : ℕ) (holds : Bool) → a < 2 ^ n → b < 2 ^ n → bit_xor b (bit_and (bit_xor a b) (mask n holds)) ≡ cond holds a b
chosen n a b true a_fits b_fits =
    ap (λ m. bit_xor b (bit_and (bit_xor a b) m)) (all_left n)
    ∙ (ap (bit_xor b) (and_mask (bit_xor a b) n ∙ mod-eq_of_lt (xor_lt n a b a_fits b_fits)) ∙ twice_differing a b)
chosen n a b false a_fits b_fits =
    ap (λ m. bit_xor b (bit_and (bit_xor a b) m)) (none_left n) ∙ (ap (bit_xor b) (and_zero_r (bit_xor a b)) ∙ xor_zero_r b)

chosen_otherwise : (q t : Bool) (a b : ℕ) → t ≡ not q → cond t a b ≡ cond q b a
chosen_otherwise true true a b is = cc
chosen_otherwise true false a b is = refl
chosen_otherwise false true a b is = refl
chosen_otherwise false false a b is = cc

-- ══ Steps ══

-- bit by bit on two registers of one width
bit_step : (x : ℕ) (w : World) (outside : Outside) (meaning : Meaning) (f : ℕ → ℕ → ℕ) (n a b : ℕ) (env : Environment) (rest : Environment → Option Environment → Type 0) (made : Option Environment) (answer : Answer)
    → meaning ≡ Machine (on_words (λ x a b. f a b)) → KeepsLow f → a < 2 ^ n → b < 2 ^ n → Act x w meaning None (n ∷ []) (Value n a ∷ Value n b ∷ []) outside answer → Then (answered env (n ∷ []) answer) rest made → rest (env ++ (n, f a b) ∷ []) made
bit_step x w outside meaning f n a b env rest made answer means keeps a_fits b_fits act more =
    let step : OnTwo x (λ x a b. f a b) n a n b n env rest made =
    on_two_words x w outside (λ x a b. f a b) n a n b n env rest made answer (subst (λ m. Act x w m None (n ∷ []) (Value n a ∷ Value n b ∷ []) outside answer) means act) more in
    subst (λ r. rest (env ++ (n, r) ∷ []) made) (low_is x n a step.left b step.right f keeps (read_as x n a step.left a_fits step.left_reads) (read_as x n b step.right b_fits step.right_reads)) step.more

-- a register, and the low bits of a word
low_step : (x : ℕ) (w : World) (outside : Outside) (meaning : Meaning) (f : ℕ → ℕ → ℕ) (n a m : ℕ) (env : Environment) (rest : Environment → Option Environment → Type 0) (made : Option Environment) (answer : Answer)
    → meaning ≡ Machine (on_words (λ x a b. f a b)) → KeepsLow f → a < 2 ^ n → n ≤ x → m < 2 ^ x → Act x w meaning None (n ∷ []) (Value n a ∷ Value x m ∷ []) outside answer → Then (answered env (n ∷ []) answer) rest made
    → rest (env ++ (n, f a (wrapped n m)) ∷ []) made
low_step x w outside meaning f n a m env rest made answer means keeps a_fits within fits act more =
    let step : OnTwo x (λ x a b. f a b) n a x m n env rest made =
    on_two_words x w outside (λ x a b. f a b) n a x m n env rest made answer (subst (λ m'. Act x w m' None (n ∷ []) (Value n a ∷ Value x m ∷ []) outside answer) means act) more in
    let word : IsReadAs x n (wrapped n m) step.right = subst (IsReadAs x n (wrapped n m)) (sym (whole_is x m step.right step.right_reads)) (low_reads x n m within fits) in
    subst (λ r. rest (env ++ (n, r) ∷ []) made) (low_is x n a step.left (wrapped n m) step.right f keeps (read_as x n a step.left a_fits step.left_reads) word) step.more

-- ══ The rule ══

-- the mask of the condition as a word, behind the inputs
masked : (x : ℕ) (w : World) (outside : Outside) (c : ℕ) (l a m b : ℕ) (os : List Operation) (made : Option Environment)
    → Makes x w outside (with_zero op.SetLessUnsigned x 0 ∷ with_zero op.Subtract x 3 ∷ os) ((x, c) ∷ (l, a) ∷ (m, b) ∷ []) made
    → Makes x w outside os ((x, c) ∷ (l, a) ∷ (m, b) ∷ (x, bit_of (nat_lt 0 c)) ∷ (x, mask x (nat_lt 0 c)) ∷ []) made
masked x w outside c l a m b os made makes =
    let env : Environment = (x, c) ∷ (l, a) ∷ (m, b) ∷ [] in
    let t : ℕ = bit_of (nat_lt 0 c) in
    let second : Operation = with_zero op.Subtract x 3 in
    let more : Makes x w outside (second ∷ os) (env ++ (x, t) ∷ []) made =
    word_step x w outside (meaning_of no_flags op.SetLessUnsigned) less_unsigned_word 0 c env (Makes x w outside (second ∷ os)) made makes.0 refl makes.1 makes.2 in
    word_step x w outside (meaning_of no_flags op.Subtract) difference_of 0 t (env ++ (x, t) ∷ []) (Makes x w outside os) made more.0 refl more.1 more.2

pub choose_sound : (x : ℕ) (w : World) (n : ℕ) (flags : Flags) → n ≤ x → IsSound x w (choose x n flags)
choose_sound x w n flags within = record {
  by = λ outside c c_fits a a_fits b b_fits facts made makes.
      let env : Environment = (x, c) ∷ (n, a) ∷ (n, b) ∷ [] in
      let holds : Bool = nat_lt 0 c in
      let m : ℕ = mask x holds in
      let fifth : Operation = on_two op.Xor no_flags n 2 6 in
      let fourth : Operation = on_two op.And no_flags n 5 4 in
      let third : Operation = on_two op.Xor no_flags n 1 2 in
      let env3 : Environment = env ++ (x, bit_of holds) ∷ (x, m) ∷ [] in
      let makes3 : Makes x w outside (third ∷ fourth ∷ fifth ∷ []) env3 made = masked x w outside c n a n b (third ∷ fourth ∷ fifth ∷ []) made makes in
      let p : ℕ = bit_xor a b in
      let makes4 : Makes x w outside (fourth ∷ fifth ∷ []) (env3 ++ (n, p) ∷ []) made =
      bit_step x w outside (meaning_of no_flags op.Xor) bit_xor n a b env3 (Makes x w outside (fourth ∷ fifth ∷ [])) made makes3.0 refl xor_mod a_fits b_fits makes3.1 makes3.2 in
      let p_fits : p < 2 ^ n = xor_lt n a b a_fits b_fits in
      let y : ℕ = bit_and p (wrapped n m) in
      let makes5 : Makes x w outside (fifth ∷ []) (env3 ++ (n, p) ∷ (n, y) ∷ []) made =
      low_step x w outside (meaning_of no_flags op.And) bit_and n p m (env3 ++ (n, p) ∷ []) (Makes x w outside (fifth ∷ [])) made makes4.0 refl and_mod p_fits within (unsigned_below x (pos 0 -ℤ pos (bit_of holds))) makes4.1 makes4.2 in
      let r : ℕ = bit_xor b y in
      let is : made ≡ Some (env3 ++ (n, p) ∷ (n, y) ∷ (n, r) ∷ []) =
      bit_step x w outside (meaning_of no_flags op.Xor) bit_xor n b y (env3 ++ (n, p) ∷ (n, y) ∷ []) (Makes x w outside []) made makes5.0 refl xor_mod b_fits (omega (arith, and_le_l p (wrapped n m), p_fits)) makes5.1 makes5.2 in
      let right : r ≡ cond (c == 0) b a =
      ap (λ k. bit_xor b (bit_and p k)) (unsigned_low x n (pos 0 -ℤ pos (bit_of holds)) within) ∙ (chosen n a b holds a_fits b_fits ∙ chosen_otherwise (c == 0) holds a b (is_above c)) in
      may_make x w outside (x ∷ n ∷ n ∷ []) [] op.GenericSelect flags (At 0 ∷ At 1 ∷ At 2 ∷ [])
      (with_zero op.SetLessUnsigned x 0 ∷ with_zero op.Subtract x 3 ∷ third ∷ fourth ∷ fifth ∷ []) 3 7 n r env (env3 ++ (n, p) ∷ (n, y) ∷ (n, r) ∷ [])
      (ternary (λ n c a b. one (cond (c == 0) b a))) (Value x c ∷ Value n a ∷ Value n b ∷ []) made refl refl refl (ap (λ v. v ∷ []) right) is;
}
