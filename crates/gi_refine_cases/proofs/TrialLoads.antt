-- A load by bytes is sound.
use Rattle.std.proofs.Common.{lit≤, ◌≡◌, ℕ, ◌+◌, ◌*◌, ◌%◌, ◌^◌, ◌<◌, ◌==◌, true, cond, List, [], ◌∷◌, ◌++◌, Option, Some, None, inl, inr, refl, sym, ap, ap₂, ◌∙◌, subst, arith, ◌/◌}
use Rattle.std.specs.Prelude.{bit_or, IfSome}
use Rattle.std.proofs.Math.Nat.{mod-one, mod-mod}
use Rattle.std.proofs.lemmas.Nat.{or_of_32, or_shifted}
use Rattle.gi_llt.specs.Bits.{wrapped}
use Rattle.gi_mir.specs.Data.{no_flags}
use Rattle.gi_mir.specs.declared.opcode.Opcode.TheVariants as op
use Rattle.gi_meaning.specs.Given.{one}
use Rattle.gi_meaning.specs.Given as a_given
use Rattle.gi_meaning.specs.Memory.{Memory, with_byte, above, loaded, is_aligned}
use Rattle.gi_meaning.specs.Meaning.{Extension, Anything, Zeros}
use Rattle.gi_meaning.specs.State.{World, Outside}
use Rattle.gi_meaning.specs.Act.{Results, Answers, load, from_loaded}
use Rattle.gi_meaning.specs.Act as an_answer
use Rattle.gi_refine.specs.Values.{Environment, Operation, Makes, MayMake, Rule, IsSound}
use Rattle.gi_refine.specs.ValueRules.{constant, on_two}
use Rattle.gi_refine_cases.specs.TrialRules.{load_of, split_load}
use Rattle.gi_refine.proofs.RuleSteps.{exactly, OneOf, from_low_bits, after_one}

-- ══ Bytes ══

pub aligned_to_one : (a : ℕ) → is_aligned 1 a ≡ true
aligned_to_one a = ap (λ r. r == 0) (mod-one a)

load_is : (x m n : ℕ) (extension : Extension) (memory : Memory) (a : ℕ) → load x 1 m n extension memory a ≡ from_loaded (loaded x (m / 8) memory a) extension m n
load_is x m n extension memory a = ap (λ b. cond b (from_loaded (loaded x (m / 8) memory a) extension m n) a_given.Undefined) (aligned_to_one a)

-- two bytes, and one
two_bytes : (x : ℕ) (memory : Memory) (a : ℕ) (low high : Option ℕ) → memory (wrapped x a) ≡ low → memory (wrapped x (a + 1)) ≡ high
    → load x 1 16 32 Anything memory a ≡ from_loaded (with_byte low (above (with_byte high (above (Some 0))))) Anything 16 32
two_bytes x memory a low high is_low is_high =
    load_is x 16 32 Anything memory a
    ∙ ap₂ (λ l h. from_loaded (with_byte l (above (with_byte h (above (Some 0))))) Anything 16 32) is_low is_high

pub one_byte : (x n : ℕ) (extension : Extension) (memory : Memory) (a : ℕ) (byte : Option ℕ) → memory (wrapped x a) ≡ byte
    → load x 1 8 n extension memory a ≡ from_loaded (with_byte byte (above (Some 0))) extension 8 n
one_byte x n extension memory a byte is = load_is x 8 n extension memory a ∙ ap (λ l. from_loaded (with_byte l (above (Some 0))) extension 8 n) is

-- the low 16 bits of the two bytes, put together
bytes_together : (f low high : ℕ) → low < 256 → f % 256 ≡ (high + 256 * 0) % 256 → bit_or (wrapped 32 (f * 2 ^ 8)) (low + 256 * 0) % 2 ^ 16 ≡ (low + 256 * (high + 256 * 0)) % 2 ^ 16
bytes_together f low high fits same =
    let shifted : wrapped 32 (f * 2 ^ 8) ≡ (f % 2 ^ 24) * 2 ^ 8 = omega arith in
    let whole : low + 256 * 0 ≡ low = omega arith in
    let together : bit_or (wrapped 32 (f * 2 ^ 8)) (low + 256 * 0) ≡ (f % 2 ^ 24) * 2 ^ 8 + low = ap₂ bit_or shifted whole ∙ or_shifted (f % 2 ^ 24) 8 low fits in
    ap (λ r. r % 2 ^ 16) together ∙ omega (arith, fits, same)

together_fits : (f low : ℕ) → low < 256 → bit_or (wrapped 32 (f * 2 ^ 8)) (low + 256 * 0) < 2 ^ 32
together_fits f low fits = or_of_32 (wrapped 32 (f * 2 ^ 8)) (low + 256 * 0) (omega arith) (omega (arith, fits))

-- ══ The rule ══

-- where the old operations are undefined, the new may do anything
pub undefined_may : (x : ℕ) (w : World) (outside : Outside) (rule : Rule) (env : Environment) (made : Option Environment) → Makes x w outside rule.old env None → MayMake x w outside rule env made
undefined_may x w outside rule env None h = h
undefined_may x w outside rule env (Some new) h = inr h

missing_byte : (x : ℕ) (w : World) (outside : Outside) (a : ℕ) (made : Option Environment) → load x 1 16 32 Anything outside.memory a ≡ a_given.Undefined → MayMake x w outside (split_load x) ((x, a) ∷ []) made
missing_byte x w outside a made undefined =
    undefined_may x w outside (split_load x) ((x, a) ∷ []) made (an_answer.Undefined, subst (λ g. Answers g outside an_answer.Undefined) (sym undefined) refl, refl)

-- the old load may make a value with these low bits
half_made : (x : ℕ) (w : World) (outside : Outside) (a low high l next f s v : ℕ) → outside.memory (wrapped x a) ≡ Some low → outside.memory (wrapped x (a + 1)) ≡ Some high
    → v < 2 ^ 32 → v % 2 ^ 16 ≡ (low + 256 * (high + 256 * 0)) % 2 ^ 16
    → MayMake x w outside (split_load x) ((x, a) ∷ []) (Some ((x, a) ∷ (32, l) ∷ (x, 1) ∷ (x, next) ∷ (32, f) ∷ (32, 8) ∷ (32, s) ∷ (32, v) ∷ []))
half_made x w outside a low high l next f s v is_low is_high fits same =
    inl (
      (x, a) ∷ (32, v) ∷ [],
      (
        Results (v ∷ []) outside,
        subst (λ g. Answers g outside (Results (v ∷ []) outside)) (sym (two_bytes x outside.memory a (Some low) (Some high) is_low is_high))
            (v ∷ [], (v, fits, same, refl), refl),
        refl,
      ),
      (refl, tt),
    )

-- the shift and the or of a low byte and what a load of the high one gave
abbrev last_operations : List Operation
last_operations = constant 32 8 ∷ on_two op.GenericShiftLeft no_flags 32 4 5 ∷ on_two op.GenericOr no_flags 32 6 1 ∷ []

put_together : (x : ℕ) (w : World) (outside : Outside) (a low high next f : ℕ) (made : Option Environment) → outside.memory (wrapped x a) ≡ Some low → outside.memory (wrapped x (a + 1)) ≡ Some high → low < 256
    → f % 2 ^ 8 ≡ (high + 256 * 0) % 2 ^ 8
    → Makes x w outside last_operations ((x, a) ∷ (32, low + 256 * 0) ∷ (x, 1) ∷ (x, next) ∷ (32, f) ∷ []) made → MayMake x w outside (split_load x) ((x, a) ∷ []) made
put_together x w outside a low high next f made is_low is_high fits same makes =
    let rest_2 : List Operation = on_two op.GenericOr no_flags 32 6 1 ∷ [] in
    let rest_1 : List Operation = on_two op.GenericShiftLeft no_flags 32 4 5 ∷ rest_2 in
    let l : ℕ = low + 256 * 0 in
    let env : Environment = (x, a) ∷ (32, l) ∷ (x, 1) ∷ (x, next) ∷ (32, f) ∷ [] in
    let more_1 : Makes x w outside rest_1 (env ++ (32, 8) ∷ []) made = exactly (8 ∷ []) outside makes.0 env (32 ∷ []) (Makes x w outside rest_1) made makes.1 makes.2 in
    let env_1 : Environment = (x, a) ∷ (32, l) ∷ (x, 1) ∷ (x, next) ∷ (32, f) ∷ (32, 8) ∷ [] in
    let s : ℕ = wrapped 32 (f * 2 ^ 8) in
    let more_2 : Makes x w outside rest_2 (env_1 ++ (32, s) ∷ []) made = exactly (s ∷ []) outside more_1.0 env_1 (32 ∷ []) (Makes x w outside rest_2) made more_1.1 more_1.2 in
    let env_2 : Environment = (x, a) ∷ (32, l) ∷ (x, 1) ∷ (x, next) ∷ (32, f) ∷ (32, 8) ∷ (32, s) ∷ [] in
    let v : ℕ = bit_or s l in
    let is : made ≡ Some (env_2 ++ (32, v) ∷ []) = exactly (v ∷ []) outside more_2.0 env_2 (32 ∷ []) (Makes x w outside []) made more_2.1 more_2.2 in
    subst (MayMake x w outside (split_load x) ((x, a) ∷ [])) (sym is)
    (half_made x w outside a low high l next f s v is_low is_high (together_fits f low fits) (bytes_together f low high fits same))

both_bytes : (x : ℕ) (w : World) (outside : Outside) (a low high : ℕ) (made : Option Environment) → outside.memory (wrapped x a) ≡ Some low → outside.memory (wrapped x (a + 1)) ≡ Some high → low < 256
    → Makes x w outside (split_load x).new ((x, a) ∷ []) made → MayMake x w outside (split_load x) ((x, a) ∷ []) made
both_bytes x w outside a low high made is_low is_high fits makes =
    let memory : Memory = outside.memory in
    let rest_3 : List Operation = load_of op.GenericLoad 32 8 3 ∷ last_operations in
    let rest_2 : List Operation = on_two op.GenericPointerAdd no_flags x 0 2 ∷ rest_3 in
    let rest_1 : List Operation = constant x 1 ∷ rest_2 in
    let next : ℕ = wrapped x (a + 1) in
    let l : ℕ = low + 256 * 0 in
    let first : Answers (one l) outside makes.0 = subst (λ g. Answers g outside makes.0) (one_byte x 32 Zeros memory a (Some low) is_low) makes.1 in
    let env : Environment = (x, a) ∷ [] in
    let more_1 : Makes x w outside rest_1 (env ++ (32, l) ∷ []) made = exactly (l ∷ []) outside makes.0 env (32 ∷ []) (Makes x w outside rest_1) made first makes.2 in
    let env_1 : Environment = (x, a) ∷ (32, l) ∷ [] in
    let more_2 : Makes x w outside rest_2 (env_1 ++ (x, 1) ∷ []) made = exactly (1 ∷ []) outside more_1.0 env_1 (x ∷ []) (Makes x w outside rest_2) made more_1.1 more_1.2 in
    let env_2 : Environment = (x, a) ∷ (32, l) ∷ (x, 1) ∷ [] in
    let more_3 : Makes x w outside rest_3 (env_2 ++ (x, next) ∷ []) made = exactly (next ∷ []) outside more_2.0 env_2 (x ∷ []) (Makes x w outside rest_3) made more_2.1 more_2.2 in
    let env_3 : Environment = (x, a) ∷ (32, l) ∷ (x, 1) ∷ (x, next) ∷ [] in
    let next_byte : memory (wrapped x next) ≡ Some high = ap memory (mod-mod (a + 1) (2 ^ x)) ∙ is_high in
    let second : OneOf 8 (high + 256 * 0) outside more_3.0 =
    from_low_bits 8 32 (high + 256 * 0) outside more_3.0 (lit≤ tt) (subst (λ g. Answers g outside more_3.0) (one_byte x 32 Anything memory next (Some high) next_byte) more_3.1) in
    put_together x w outside a low high next second.result made is_low is_high fits second.low
    (after_one second.result 32 outside more_3.0 env_3 (Makes x w outside last_operations) made second.is more_3.2)

split_load_by : (x : ℕ) (w : World) (outside : Outside) (a : ℕ) (made : Option Environment) (low high : Option ℕ) → outside.memory (wrapped x a) ≡ low → outside.memory (wrapped x (a + 1)) ≡ high
    → IfSome low (λ byte. byte < 256) → Makes x w outside (split_load x).new ((x, a) ∷ []) made → MayMake x w outside (split_load x) ((x, a) ∷ []) made
split_load_by x w outside a made None high is_low is_high fits makes = missing_byte x w outside a made (two_bytes x outside.memory a None high is_low is_high)
split_load_by x w outside a made (Some low) None is_low is_high fits makes = missing_byte x w outside a made (two_bytes x outside.memory a (Some low) None is_low is_high)
split_load_by x w outside a made (Some low) (Some high) is_low is_high fits makes = both_bytes x w outside a low high made is_low is_high fits makes

pub split_load_sound : (x : ℕ) (w : World) → IsSound x w (split_load x)
split_load_sound x w = record {
  by = λ outside a a_fits facts made makes.
      split_load_by x w outside a made (outside.memory (wrapped x a)) (outside.memory (wrapped x (a + 1))) refl refl (facts.0 (wrapped x a)) makes;
}
