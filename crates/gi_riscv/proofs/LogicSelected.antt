-- Logic is selected.
use Rattle.std.proofs.Common.{◌≡◌, ℕ, ◌≤◌, true, refl, subst, ℤ}
use Rattle.std.specs.Prelude.{bit_and, bit_or, bit_xor}
use Rattle.std.proofs.lemmas.Nat.{and_mod, or_mod, xor_mod, or_lt, and_comm, or_comm, xor_comm}
use Rattle.gi_llt.specs.Bits.{unsigned}
use Rattle.gi_mir.specs.declared.opcode.Opcode.{Opcode}
use Rattle.gi_mir.specs.declared.opcode.Opcode.TheVariants as op
use Rattle.gi_mir.specs.Data.{no_flags}
use Rattle.gi_mir.specs.declared.operand.Flags.{Flags}
use Rattle.gi_meaning.specs.Given.{Given, one}
use Rattle.gi_meaning.specs.Generic.{binary, disjunction}
use Rattle.gi_meaning.specs.Machine.{and_word, or_word, xor_word, is_immediate, on_immediate}
use Rattle.gi_meaning.specs.Meaning.{Generic, Machine, meaning_of}
use Rattle.gi_meaning.specs.State.{World}
use Rattle.gi_meaning.proofs.Numbers.{unsigned_below}
use Rattle.gi_refine.specs.Values.{IsSound}
use Rattle.gi_riscv.specs.SelectionRules.{by_number, by_first_number, logical_and, logical_or, logical_xor, and_number, or_number, xor_number, and_first_number, or_first_number, xor_first_number}
use Rattle.gi_riscv.proofs.LowBits.{KeepsLow, low_may, number_reads}
use Rattle.gi_riscv.proofs.MachineSteps.{MayGive, may_unless}
use Rattle.gi_riscv.proofs.OneInstruction.{NumbersLaw, registers_sound, immediate_sound, first_immediate_sound}

-- ══ Numbers ══

and_law : (n : ℕ) → NumbersLaw n (λ n a b. one (bit_and a b)) and_word
and_law n a b a_fits b_fits = refl

or_law : (flags : Flags) (n : ℕ) → NumbersLaw n (disjunction flags) or_word
or_law flags n a b a_fits b_fits = may_unless _ n (bit_or a b) (or_lt n a b a_fits b_fits)

xor_law : (n : ℕ) → NumbersLaw n (λ n a b. one (bit_xor a b)) xor_word
xor_law n a b a_fits b_fits = refl

-- ══ With a number, either way ══

logic_number : (x : ℕ) (w : World) (old : Opcode) (flags : Flags) (n : ℕ) (new : Opcode) (i : ℤ) (gives : ℕ → ℕ → ℕ → Given) (f : ℕ → ℕ → ℕ) → meaning_of flags old ≡ Generic (binary gives)
    → meaning_of no_flags new ≡ Machine (on_immediate (λ x a b. f a b)) → KeepsLow f → NumbersLaw n gives (λ n a b. f a b) → n ≤ x → is_immediate i ≡ true → IsSound x w (by_number old flags n (unsigned n i) new i)
logic_number x w old flags n new i gives f means means' keeps law within short =
    immediate_sound x w old flags n (unsigned n i) new i gives (λ x a b. f a b) means means' short
    (λ a u a_fits left. low_may (gives n a (unsigned n i)) x n a u (unsigned n i) (unsigned x i) f keeps left (number_reads x n i within) (law a (unsigned n i) a_fits (unsigned_below n i)))

logic_first_number : (x : ℕ) (w : World) (old : Opcode) (flags : Flags) (n : ℕ) (new : Opcode) (i : ℤ) (gives : ℕ → ℕ → ℕ → Given) (f : ℕ → ℕ → ℕ) → meaning_of flags old ≡ Generic (binary gives)
    → meaning_of no_flags new ≡ Machine (on_immediate (λ x a b. f a b)) → KeepsLow f → ((a b : ℕ) → f a b ≡ f b a) → NumbersLaw n gives (λ n a b. f a b) → n ≤ x → is_immediate i ≡ true
    → IsSound x w (by_first_number old flags n (unsigned n i) new i)
logic_first_number x w old flags n new i gives f means means' keeps commutes law within short =
    first_immediate_sound x w old flags n (unsigned n i) new i gives (λ x a b. f a b) means means' short
    (λ b u b_fits left. low_may (gives n (unsigned n i) b) x n b u (unsigned n i) (unsigned x i) f keeps left (number_reads x n i within)
    (subst (MayGive (gives n (unsigned n i) b)) (commutes (unsigned n i) b) (law (unsigned n i) b (unsigned_below n i) b_fits)))

-- ══ Rules ══

pub logical_and_sound : (x : ℕ) (w : World) (n : ℕ) (flags : Flags) → IsSound x w (logical_and n flags)
logical_and_sound x w n flags =
    registers_sound x w op.GenericAnd flags n op.And (λ n a b. one (bit_and a b)) and_word refl (λ answer outside arguments act. act)
    (λ a b u v a_fits b_fits left right. low_may (one (bit_and a b)) x n a u b v bit_and and_mod left right ((and_law n) a b a_fits b_fits))

pub and_number_sound : (x : ℕ) (w : World) (n : ℕ) (flags : Flags) (i : ℤ) → n ≤ x → is_immediate i ≡ true → IsSound x w (and_number n flags i)
and_number_sound x w n flags i = logic_number x w op.GenericAnd flags n op.AndImmediate i (λ n a b. one (bit_and a b)) bit_and refl refl and_mod (and_law n)

pub and_first_number_sound : (x : ℕ) (w : World) (n : ℕ) (flags : Flags) (i : ℤ) → n ≤ x → is_immediate i ≡ true → IsSound x w (and_first_number n flags i)
and_first_number_sound x w n flags i = logic_first_number x w op.GenericAnd flags n op.AndImmediate i (λ n a b. one (bit_and a b)) bit_and refl refl and_mod and_comm (and_law n)

pub logical_or_sound : (x : ℕ) (w : World) (n : ℕ) (flags : Flags) → IsSound x w (logical_or n flags)
logical_or_sound x w n flags =
    registers_sound x w op.GenericOr flags n op.Or (disjunction flags) or_word refl (λ answer outside arguments act. act)
    (λ a b u v a_fits b_fits left right. low_may ((disjunction flags) n a b) x n a u b v bit_or or_mod left right ((or_law flags n) a b a_fits b_fits))

pub or_number_sound : (x : ℕ) (w : World) (n : ℕ) (flags : Flags) (i : ℤ) → n ≤ x → is_immediate i ≡ true → IsSound x w (or_number n flags i)
or_number_sound x w n flags i = logic_number x w op.GenericOr flags n op.OrImmediate i (disjunction flags) bit_or refl refl or_mod (or_law flags n)

pub or_first_number_sound : (x : ℕ) (w : World) (n : ℕ) (flags : Flags) (i : ℤ) → n ≤ x → is_immediate i ≡ true → IsSound x w (or_first_number n flags i)
or_first_number_sound x w n flags i = logic_first_number x w op.GenericOr flags n op.OrImmediate i (disjunction flags) bit_or refl refl or_mod or_comm (or_law flags n)

pub logical_xor_sound : (x : ℕ) (w : World) (n : ℕ) (flags : Flags) → IsSound x w (logical_xor n flags)
logical_xor_sound x w n flags =
    registers_sound x w op.GenericXor flags n op.Xor (λ n a b. one (bit_xor a b)) xor_word refl (λ answer outside arguments act. act)
    (λ a b u v a_fits b_fits left right. low_may (one (bit_xor a b)) x n a u b v bit_xor xor_mod left right ((xor_law n) a b a_fits b_fits))

pub xor_number_sound : (x : ℕ) (w : World) (n : ℕ) (flags : Flags) (i : ℤ) → n ≤ x → is_immediate i ≡ true → IsSound x w (xor_number n flags i)
xor_number_sound x w n flags i = logic_number x w op.GenericXor flags n op.XorImmediate i (λ n a b. one (bit_xor a b)) bit_xor refl refl xor_mod (xor_law n)

pub xor_first_number_sound : (x : ℕ) (w : World) (n : ℕ) (flags : Flags) (i : ℤ) → n ≤ x → is_immediate i ≡ true → IsSound x w (xor_first_number n flags i)
xor_first_number_sound x w n flags i = logic_first_number x w op.GenericXor flags n op.XorImmediate i (λ n a b. one (bit_xor a b)) bit_xor refl refl xor_mod xor_comm (xor_law n)
