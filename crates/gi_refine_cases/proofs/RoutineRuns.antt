-- What a call of the routine that divides comes to, whatever words it leaves free.
use Rattle.std.proofs.Common.{◌≡◌, ℕ, zero, suc, ◌^◌, ◌<◌, true, List, [], ◌∷◌, ◌++◌, length, get_or, map, Some, None, lit<, refl, ap, ◌∙◌, subst, arith}
use Rattle.std.proofs.Math.Nat.{mod-one}
use Rattle.gi_mir.specs.declared.opcode.Opcode.TheVariants as op
use Rattle.gi_mir.specs.declared.operand.Operand.{Operand}
use Rattle.gi_mir.specs.declared.operand.Operand.TheVariants.{ImplicitUse}
use Rattle.gi_mir.specs.Data.{InstrData}
use Rattle.gi_meaning.specs.Routine.{InTwoWords}
use Rattle.gi_meaning.specs.State.{World, outside_of, start, Outcome, Returned, Place, Physical, AreWords}
use Rattle.gi_meaning.specs.Act.{Results, clobbered, routine_given, result_words, LeavesFree}
use Rattle.gi_meaning.specs.Runs.{Setting, progress_of, Progress, Over, Steps, After, Executes}
use Rattle.gi_refine.specs.Examples.{made, counting, names, world_of, one_block}
use Rattle.gi_refine.specs.Outcomes.{ComesTo, ReturnsAny, has_low_bits}
use Rattle.gi_refine_cases.specs.TargetExamples.{routine_call, divides_by_routine}
use Rattle.gi_refine.proofs.Doing.{DoesAll, EntersSo, enters_over}
use Rattle.gi_refine.specs.Evaluation.{then_on, steps_of}
use Rattle.gi_refine_cases.proofs.Choosing.{low_bits_of, has_low, one_after, ReturnsAll, returns_any}
use Rattle.gi_refine_cases.proofs.FreeRuns.{set_of}

-- ══ Lists of a length that is known ══

abbrev listed : ℕ → (ℕ → ℕ) → List ℕ
listed zero f = []
listed (suc n) f = f 0 ∷ listed n (λ i. f (suc i))

abbrev at : List ℕ → ℕ → ℕ
at words i = get_or words i 0

taken_apart : (n : ℕ) (words : List ℕ) → length words ≡ n → words ≡ listed n (at words)
taken_apart zero [] h = refl
taken_apart zero (word ∷ words) h = absurd (omega (arith, h))
taken_apart (suc n) [] h = absurd (omega (arith, h))
taken_apart (suc n) (word ∷ words) h = ap (λ rest. word ∷ rest) (taken_apart n words (omega (arith, h)))

small_at : (words : List ℕ) (i : ℕ) → AreWords 32 words → at words i < 2 ^ 32
small_at [] i h = lit< tt
small_at (word ∷ words) zero h = h.0
small_at (word ∷ words) (suc i) h = small_at words i h.1

are_small : (n : ℕ) (f : ℕ → ℕ) → ((i : ℕ) → f i < 2 ^ 32) → AreWords 32 (listed n f)
are_small zero f h = tt
are_small (suc n) f h = (h 0, are_small n (λ i. f (suc i)) (λ i. h (suc i)))

-- ══ The call ══

-- 2 ^ 32 + 7 is divided by this
abbrev dividing : ℕ → World
dividing d = world_of 7 1 d []

abbrev AreQuotient : ℕ → List ℕ → Type 0
AreQuotient d words = InTwoWords 32 (routine_given 32 2 ((10, 7) ∷ (11, 1) ∷ (12, d) ∷ (13, 0) ∷ [])) words

abbrev places : List Place
places = map Physical clobbered ++ Physical 10 ∷ Physical 11 ∷ []

-- where it came to, with these words left free and these results
abbrev called : ℕ → (ℕ → ℕ) → List ℕ → Progress
called d free words = progress_of (start (dividing d)) places (Results (listed 16 free ++ result_words words (10 ∷ 11 ∷ [])) (outside_of (start (dividing d))))

record Called (d : ℕ) (next : Progress) : Type 0 where
  free : ℕ → ℕ
  small : (i : ℕ) → free i < 2 ^ 32
  words : List ℕ
  quotient : AreQuotient d words
  same : next ≡ called d free words

called_can : (d : ℕ) (registers : List Operand) (free : ℕ → ℕ) (words : List ℕ) → ((i : ℕ) → free i < 2 ^ 32) → AreQuotient d words
    → Steps (set_of 32 (divides_by_routine registers)) (dividing d) routine_call.1 (start (dividing d)) (called d free words)
called_can d registers free words small quotient =
    (Results (listed 16 free ++ result_words words (10 ∷ 11 ∷ [])) (outside_of (start (dividing d))), (words, quotient, (listed 16 free, are_small 16 free small, refl, refl)), refl)

called_only : (d : ℕ) (registers : List Operand) (next : Progress) → Steps (set_of 32 (divides_by_routine registers)) (dividing d) routine_call.1 (start (dividing d)) next → Called d next
called_only d registers next step =
    let words : List ℕ = step.1.0 in
    let left : LeavesFree 32 (result_words words (10 ∷ 11 ∷ [])) (outside_of (start (dividing d))) step.0 = step.1.2 in
    record {
      free = at left.0;
      small = λ i. small_at left.0 i left.1;
      words = words;
      quotient = step.1.1;
      same = step.2 ∙ ap (progress_of (start (dividing d)) places) (left.3 ∙ ap (λ fs. Results (fs ++ result_words words (10 ∷ 11 ∷ [])) (outside_of (start (dividing d)))) (taken_apart 16 left.0 left.2));
    }

-- ══ What is returned ══

abbrev rest_of : List Operand → List (ℕ × InstrData)
rest_of registers = made op.PseudoReturn registers None ∷ []

-- the quotient is exact
quotient_words : (words : List ℕ) → AreQuotient 2 words → words ≡ 2147483651 ∷ 0 ∷ []
quotient_words words h = h

returns_one_way : (registers : List Operand) (o : Outcome) (n : ℕ)
    → ((free : ℕ → ℕ) → then_on (Some (called 2 free (2147483651 ∷ 0 ∷ []))) (steps_of (set_of 32 (divides_by_routine registers)) (dividing 2) (rest_of registers)) ≡ Some (Over o))
    → ComesTo 32 names (one_block (divides_by_routine registers)) (dividing 2) (suc n) o
returns_one_way registers o n goes =
    let s : Setting = set_of 32 (divides_by_routine registers) in
    let w : World = dividing 2 in
    let all : DoesAll s w (divides_by_routine registers) (start w) (Over o) = record {
      can = (
        called 2 (λ i. 0) (2147483651 ∷ 0 ∷ []),
        called_can 2 registers (λ i. 0) (2147483651 ∷ 0 ∷ []) (λ i. lit< tt) refl,
        (one_after s w (rest_of registers) (called 2 (λ i. 0) (2147483651 ∷ 0 ∷ [])) (Over o) (goes (λ i. 0))).can,
      );
      only = λ other run.
          let c : Called 2 run.0 = called_only 2 registers run.0 run.1 in
          let same : run.0 ≡ called 2 c.free (2147483651 ∷ 0 ∷ []) = c.same ∙ ap (called 2 c.free) (quotient_words c.words c.quotient) in
          (one_after s w (rest_of registers) (called 2 c.free (2147483651 ∷ 0 ∷ [])) (Over o) (goes c.free)).only other (subst (λ q. After q (Executes s w (rest_of registers)) other) same run.2);
    } in
    let enters : EntersSo s w (one_block (divides_by_routine registers)).blocks (suc n) None 0 (start w) o =
    enters_over s w (one_block (divides_by_routine registers)).blocks n None 0 (start w) (start w) _ o refl refl all in
    record { can = enters.can; only = enters.only }

pub quotient_comes_to : (n : ℕ) → ComesTo 32 names (one_block (divides_by_routine (ImplicitUse 10 ∷ ImplicitUse 11 ∷ []))) (dividing 2) (suc n) (Returned (2147483651 ∷ 0 ∷ []) counting 0)
quotient_comes_to n = returns_one_way (ImplicitUse 10 ∷ ImplicitUse 11 ∷ []) (Returned (2147483651 ∷ 0 ∷ []) counting 0) n (λ free. refl)

pub kept_register_comes_to : (n : ℕ) → ComesTo 32 names (one_block (divides_by_routine (ImplicitUse 8 ∷ []))) (dividing 2) (suc n) (Returned (0 ∷ []) counting 0)
kept_register_comes_to n = returns_one_way (ImplicitUse 8 ∷ []) (Returned (0 ∷ []) counting 0) n (λ free. refl)

any_word : (v : ℕ) → v < 2 ^ 32 → has_low_bits 0 32 0 v ≡ true
any_word v small = has_low 0 32 0 v small (mod-one v)

-- x12 is left free
pub free_register_returns : (n : ℕ) → ReturnsAny 32 names (one_block (divides_by_routine (ImplicitUse 12 ∷ []))) (dividing 2) (suc n) (has_low_bits 0 32 0) counting 0
free_register_returns n =
    let s : Setting = set_of 32 (divides_by_routine (ImplicitUse 12 ∷ [])) in
    let w : World = dividing 2 in
    let rest : List (ℕ × InstrData) = rest_of (ImplicitUse 12 ∷ []) in
    let all : ReturnsAll s w (divides_by_routine (ImplicitUse 12 ∷ [])) (start w) (has_low_bits 0 32 0) counting 0 = record {
      can = λ v h. (
        called 2 (λ i. v) (2147483651 ∷ 0 ∷ []),
        called_can 2 (ImplicitUse 12 ∷ []) (λ i. v) (2147483651 ∷ 0 ∷ []) (λ i. (low_bits_of 0 32 0 v h).0) refl,
        (one_after s w rest (called 2 (λ i. v) (2147483651 ∷ 0 ∷ [])) (Over (Returned (v ∷ []) counting 0)) refl).can,
      );
      only = λ other run.
          let c : Called 2 run.0 = called_only 2 (ImplicitUse 12 ∷ []) run.0 run.1 in
          let same : run.0 ≡ called 2 c.free (2147483651 ∷ 0 ∷ []) = c.same ∙ ap (called 2 c.free) (quotient_words c.words c.quotient) in (
            c.free 6,
            any_word (c.free 6) (c.small 6),
            (one_after s w rest (called 2 c.free (2147483651 ∷ 0 ∷ [])) (Over (Returned (c.free 6 ∷ []) counting 0)) refl).only other (subst (λ q. After q (Executes s w rest) other) same run.2),
          );
    } in
    returns_any 32 names (divides_by_routine (ImplicitUse 12 ∷ [])) w n (has_low_bits 0 32 0) counting 0 refl all

-- by zero the routine gives any two words
record AnyTwo (words : List ℕ) : Type 0 where
  low : ℕ
  high : ℕ
  small : low < 2 ^ 32
  same : words ≡ low ∷ high ∷ []

any_two : (words : List ℕ) → AreQuotient 0 words → AnyTwo words
any_two words h = record { low = at words 0; high = at words 1; small = small_at words 0 h.0; same = taken_apart 2 words h.1 }

pub by_zero_returns : (n : ℕ) → ReturnsAny 32 names (one_block (divides_by_routine (ImplicitUse 10 ∷ []))) (dividing 0) (suc n) (has_low_bits 0 32 0) counting 0
by_zero_returns n =
    let s : Setting = set_of 32 (divides_by_routine (ImplicitUse 10 ∷ [])) in
    let w : World = dividing 0 in
    let rest : List (ℕ × InstrData) = rest_of (ImplicitUse 10 ∷ []) in
    let all : ReturnsAll s w (divides_by_routine (ImplicitUse 10 ∷ [])) (start w) (has_low_bits 0 32 0) counting 0 = record {
      can = λ v h.
          let small : v < 2 ^ 32 = (low_bits_of 0 32 0 v h).0 in (
            called 0 (λ i. 0) (v ∷ 0 ∷ []),
            called_can 0 (ImplicitUse 10 ∷ []) (λ i. 0) (v ∷ 0 ∷ []) (λ i. lit< tt) ((small, (lit< tt, tt)), refl),
            (one_after s w rest (called 0 (λ i. 0) (v ∷ 0 ∷ [])) (Over (Returned (v ∷ []) counting 0)) refl).can,
          );
      only = λ other run.
          let c : Called 0 run.0 = called_only 0 (ImplicitUse 10 ∷ []) run.0 run.1 in
          let two : AnyTwo c.words = any_two c.words c.quotient in
          let same : run.0 ≡ called 0 c.free (two.low ∷ two.high ∷ []) = c.same ∙ ap (called 0 c.free) two.same in (
            two.low,
            any_word two.low two.small,
            (one_after s w rest (called 0 c.free (two.low ∷ two.high ∷ [])) (Over (Returned (two.low ∷ []) counting 0)) refl).only other (subst (λ q. After q (Executes s w rest) other) same run.2),
          );
    } in
    returns_any 32 names (divides_by_routine (ImplicitUse 10 ∷ [])) w n (has_low_bits 0 32 0) counting 0 refl all
