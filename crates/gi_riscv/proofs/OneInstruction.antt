-- One instruction for one operation.
use Rattle.std.proofs.Common.{◌≡◌, ℕ, ◌^◌, ◌<◌, Bool, true, false, cond, List, [], ◌∷◌, None, refl, sym, ap, ap₂, ◌∙◌, subst, ℤ}
use Rattle.std.proofs.lemmas.Nat.{pow_pos, mod_below}
use Rattle.gi_llt.specs.Bits.{unsigned, wrapped, sign_extended}
use Rattle.gi_mir.specs.Data.{no_flags}
use Rattle.gi_mir.specs.declared.opcode.Opcode.{Opcode}
use Rattle.gi_mir.specs.declared.operand.Flags.{Flags}
use Rattle.gi_meaning.specs.Argument.{Argument, Value, Number}
use Rattle.gi_meaning.specs.Given.{Given, Undefined, one}
use Rattle.gi_meaning.specs.Generic.{binary}
use Rattle.gi_meaning.specs.Machine.{on_immediate, is_immediate, on_words, on_low_half}
use Rattle.gi_meaning.specs.Meaning.{Generic, Machine, meaning_of}
use Rattle.gi_meaning.specs.State.{World, Outside}
use Rattle.gi_meaning.specs.Act.{Answer, Act, fitted}
use Rattle.gi_refine.specs.Values.{Environment, At, Defines, Makes, IsSound}
use Rattle.gi_refine.specs.ValueRules.{constant, on_two}
use Rattle.gi_refine.proofs.Basics.{whole_fitted}
use Rattle.gi_refine.proofs.RuleSteps.{constant_known, entry_value}
use Rattle.gi_riscv.proofs.LowBits.{extended_low}
use Rattle.gi_riscv.specs.SelectionRules.{on_registers, by_number, by_first_number, with_number}
use Rattle.gi_riscv.proofs.MachineSteps.{MayGive, may_make, IsReadAs, read_as, whole_read, OnTwo, on_two_words, OnNumber, on_word_and_number}

-- ══ One instruction for one operation ══

-- an instruction's word, cut to the register, is what the operation may give
abbrev pub RegistersLaw : (x n : ℕ) → (gives : ℕ → ℕ → ℕ → Given) → (f : ℕ → ℕ → ℕ → ℕ) → Type 0
RegistersLaw x n gives f =
    (a b u v : ℕ) → a < 2 ^ n → b < 2 ^ n → IsReadAs x n a u → IsReadAs x n b v → MayGive (gives n a b) (fitted x n (f x u v))

pub registers_sound : (x : ℕ) (w : World) (old : Opcode) (flags : Flags) (n : ℕ) (new : Opcode) (gives : ℕ → ℕ → ℕ → Given) (f : ℕ → ℕ → ℕ → ℕ)
    → meaning_of flags old ≡ Generic (binary gives) → ((answer : Answer) (outside : Outside) (arguments : List Argument) → Act x w (meaning_of no_flags new) None (n ∷ []) arguments outside answer → Act x w (Machine (on_words f)) None (n ∷ []) arguments outside answer)
    → RegistersLaw x n gives f → IsSound x w (on_registers old flags n new)
registers_sound x w old flags n new gives f means acted law = record {
  by = λ outside a a_fits b b_fits facts made makes.
      let env : Environment = (n, a) ∷ (n, b) ∷ [] in
      let step : OnTwo x f n a n b n env (Makes x w outside []) made =
      on_two_words x w outside f n a n b n env (Makes x w outside []) made makes.0 (acted makes.0 outside (Value n a ∷ Value n b ∷ []) makes.1) makes.2 in
      let r : ℕ = fitted x n (f x step.left step.right) in
      may_make x w outside (n ∷ n ∷ []) [] old flags (At 0 ∷ At 1 ∷ []) (on_two new no_flags n 0 1 ∷ []) 2 2 n r env ((n, a) ∷ (n, b) ∷ (n, r) ∷ [])
      (binary gives) (Value n a ∷ Value n b ∷ []) made means refl refl (law a b step.left step.right a_fits b_fits (read_as x n a step.left a_fits step.left_reads) (read_as x n b step.right b_fits step.right_reads)) step.more;
}

-- the same for a number that stands for a constant
abbrev pub NumberLaw : (x n : ℕ) → (gives : ℕ → Given) → (f : ℕ → ℕ) → Type 0
NumberLaw x n gives f = (a u : ℕ) → a < 2 ^ n → IsReadAs x n a u → MayGive (gives a) (fitted x n (f u))

pub number_sound : (x : ℕ) (w : World) (old : Opcode) (flags : Flags) (n value : ℕ) (new : Opcode) (i : ℤ) (gives : ℕ → ℕ → ℕ → Given) (words : ℕ → List Argument → Given) (f : ℕ → ℕ)
    → meaning_of flags old ≡ Generic (binary gives) → meaning_of no_flags new ≡ Machine words → ((width word : ℕ) → words x (Value width word ∷ Number i ∷ []) ≡ one (f word))
    → NumberLaw x n (λ a. gives n a value) f → IsSound x w (by_number old flags n value new i)
number_sound x w old flags n value new i gives words f means means' is law = record {
  by = λ outside a a_fits b b_fits facts made makes.
      let env : Environment = (n, a) ∷ (n, b) ∷ [] in
      let b_is : b ≡ value = entry_value n b n value (constant_known x w outside env n value 1 facts.0) in
      let act : Act x w (Machine words) None (n ∷ []) (Value n a ∷ Number i ∷ []) outside makes.0 =
      subst (λ meaning. Act x w meaning None (n ∷ []) (Value n a ∷ Number i ∷ []) outside makes.0) means' makes.1 in
      let step : OnNumber x f n a n env (Makes x w outside []) made =
      on_word_and_number x w outside words f n a n i env (Makes x w outside []) made makes.0 is act makes.2 in
      let r : ℕ = fitted x n (f step.left) in
      may_make x w outside (n ∷ n ∷ []) (Defines (constant n value) (1 ∷ []) ∷ []) old flags (At 0 ∷ At 1 ∷ []) (with_number new n 0 i ∷ []) 2 2 n r env ((n, a) ∷ (n, b) ∷ (n, r) ∷ []) (binary gives)
      (Value n a ∷ Value n b ∷ []) made means refl refl (subst (λ c. MayGive (gives n a c) r) (sym b_is) (law a step.left a_fits (read_as x n a step.left a_fits step.left_reads))) step.more;
}

pub first_number_sound : (x : ℕ) (w : World) (old : Opcode) (flags : Flags) (n value : ℕ) (new : Opcode) (i : ℤ) (gives : ℕ → ℕ → ℕ → Given) (words : ℕ → List Argument → Given) (f : ℕ → ℕ)
    → meaning_of flags old ≡ Generic (binary gives) → meaning_of no_flags new ≡ Machine words → ((width word : ℕ) → words x (Value width word ∷ Number i ∷ []) ≡ one (f word))
    → NumberLaw x n (λ b. gives n value b) f → IsSound x w (by_first_number old flags n value new i)
first_number_sound x w old flags n value new i gives words f means means' is law = record {
  by = λ outside a a_fits b b_fits facts made makes.
      let env : Environment = (n, a) ∷ (n, b) ∷ [] in
      let a_is : a ≡ value = entry_value n a n value (constant_known x w outside env n value 0 facts.0) in
      let act : Act x w (Machine words) None (n ∷ []) (Value n b ∷ Number i ∷ []) outside makes.0 =
      subst (λ meaning. Act x w meaning None (n ∷ []) (Value n b ∷ Number i ∷ []) outside makes.0) means' makes.1 in
      let step : OnNumber x f n b n env (Makes x w outside []) made =
      on_word_and_number x w outside words f n b n i env (Makes x w outside []) made makes.0 is act makes.2 in
      let r : ℕ = fitted x n (f step.left) in
      may_make x w outside (n ∷ n ∷ []) (Defines (constant n value) (0 ∷ []) ∷ []) old flags (At 0 ∷ At 1 ∷ []) (with_number new n 1 i ∷ []) 2 2 n r env ((n, a) ∷ (n, b) ∷ (n, r) ∷ []) (binary gives)
      (Value n a ∷ Value n b ∷ []) made means refl refl (subst (λ c. MayGive (gives n c b) r) (sym a_is) (law b step.left b_fits (read_as x n b step.left b_fits step.left_reads))) step.more;
}

-- ══ From numbers to words ══

-- on numbers below 2 ^ n the function is what the operation may give
abbrev pub NumbersLaw : (n : ℕ) → (gives : ℕ → ℕ → ℕ → Given) → (f : ℕ → ℕ → ℕ → ℕ) → Type 0
NumbersLaw n gives f = (a b : ℕ) → a < 2 ^ n → b < 2 ^ n → MayGive (gives n a b) (f n a b)

abbrev pub NumbersFit : (n : ℕ) → (f : ℕ → ℕ → ℕ → ℕ) → Type 0
NumbersFit n f = (a b : ℕ) → a < 2 ^ n → b < 2 ^ n → f n a b < 2 ^ n

-- the low half of a word, extended, and cut again
half_fitted : (v : ℕ) → v < 2 ^ 32 → fitted 64 32 (sign_extended 32 64 v) ≡ v
half_fitted v fits = extended_low v fits

low_below : (v : ℕ) → wrapped 32 v < 2 ^ 32
low_below v = mod_below v (2 ^ 32) (pow_pos 32)

pub whole_law : (x : ℕ) (gives : ℕ → ℕ → ℕ → Given) (f : ℕ → ℕ → ℕ → ℕ) → NumbersLaw x gives f → RegistersLaw x x gives f
whole_law x gives f law a b u v a_fits b_fits left right =
    subst (MayGive (gives x a b)) (sym (whole_fitted x (f x u v) ∙ ap₂ (f x) (whole_read x a u left) (whole_read x b v right))) (law a b a_fits b_fits)

pub half_law : (gives : ℕ → ℕ → ℕ → Given) (f : ℕ → ℕ → ℕ → ℕ) → NumbersLaw 32 gives f → NumbersFit 32 f → RegistersLaw 64 32 gives (on_low_half f)
half_law gives f law fit a b u v a_fits b_fits left right =
    subst (MayGive (gives 32 a b)) (sym (half_fitted (f 32 (wrapped 32 u) (wrapped 32 v)) (fit (wrapped 32 u) (wrapped 32 v) (low_below u) (low_below v)) ∙ ap₂ (f 32) left.1 right.1)) (law a b a_fits b_fits)

-- what may be given of a register's value, may be given of its word
pub whole_may : (given : Given) (x a u : ℕ) (f : ℕ → ℕ) → IsReadAs x x a u → MayGive given (f a) → MayGive given (fitted x x (f u))
whole_may given x a u f left may = subst (MayGive given) (sym (whole_fitted x (f u) ∙ ap f (whole_read x a u left))) may

-- a number as a word of 64 bits, and its low half
pub half_may : (given : Given) (a u value wide : ℕ) (f : ℕ → ℕ → ℕ → ℕ) → IsReadAs 64 32 a u → wrapped 32 wide ≡ value → NumbersFit 32 f → MayGive given (f 32 a value) → MayGive given (fitted 64 32 (on_low_half f 64 u wide))
half_may given a u value wide f left low fit may =
    subst (MayGive given)
    (sym (half_fitted (f 32 (wrapped 32 u) (wrapped 32 wide)) (fit (wrapped 32 u) (wrapped 32 wide) (low_below u) (low_below wide)) ∙ ap₂ (f 32) left.1 low)) may

pub whole_number_law : (x value : ℕ) (gives : ℕ → ℕ → ℕ → Given) (f : ℕ → ℕ → ℕ → ℕ) → NumbersLaw x gives f → value < 2 ^ x → NumberLaw x x (λ a. gives x a value) (λ u. f x u value)
whole_number_law x value gives f law below a u a_fits left = whole_may (gives x a value) x a u (λ v. f x v value) left (law a value a_fits below)

pub half_number_law : (value wide : ℕ) (gives : ℕ → ℕ → ℕ → Given) (f : ℕ → ℕ → ℕ → ℕ) → NumbersLaw 32 gives f → NumbersFit 32 f → wrapped 32 wide ≡ value
    → NumberLaw 64 32 (λ a. gives 32 a value) (λ u. on_low_half f 64 u wide)
half_number_law value wide gives f law fit low a u a_fits left =
    half_may (gives 32 a value) a u value wide f left low fit (law a value a_fits (subst (λ v. v < 2 ^ 32) low (low_below wide)))

-- an immediate is read as its word
pub if_true : (b : Bool) (g : Given) → b ≡ true → cond b g Undefined ≡ g
if_true true g is = refl
if_true false g is = cc

pub immediate_sound : (x : ℕ) (w : World) (old : Opcode) (flags : Flags) (n value : ℕ) (new : Opcode) (i : ℤ) (gives : ℕ → ℕ → ℕ → Given) (f : ℕ → ℕ → ℕ → ℕ)
    → meaning_of flags old ≡ Generic (binary gives) → meaning_of no_flags new ≡ Machine (on_immediate f) → is_immediate i ≡ true
    → NumberLaw x n (λ a. gives n a value) (λ u. f x u (unsigned x i)) → IsSound x w (by_number old flags n value new i)
immediate_sound x w old flags n value new i gives f means means' short law =
    number_sound x w old flags n value new i gives (on_immediate f) (λ u. f x u (unsigned x i)) means means' (λ width word. if_true (is_immediate i) (one (f x word (unsigned x i))) short) law

pub first_immediate_sound : (x : ℕ) (w : World) (old : Opcode) (flags : Flags) (n value : ℕ) (new : Opcode) (i : ℤ) (gives : ℕ → ℕ → ℕ → Given) (f : ℕ → ℕ → ℕ → ℕ)
    → meaning_of flags old ≡ Generic (binary gives) → meaning_of no_flags new ≡ Machine (on_immediate f) → is_immediate i ≡ true
    → NumberLaw x n (λ b. gives n value b) (λ u. f x u (unsigned x i)) → IsSound x w (by_first_number old flags n value new i)
first_immediate_sound x w old flags n value new i gives f means means' short law =
    first_number_sound x w old flags n value new i gives (on_immediate f) (λ u. f x u (unsigned x i)) means means' (λ width word. if_true (is_immediate i) (one (f x word (unsigned x i))) short) law
