-- Steps of a proof that a rule on values is sound.
use Rattle.std.proofs.Common.{◌≡◌, ℕ, ◌^◌, ◌%◌, ◌<◌, ◌≤◌, ◌==◌, nat_lt, Bool, true, false, cond, List, [], ◌∷◌, ◌++◌, Option, Some, None, slice_get, refl, sym, ap, ◌∙◌, subst, arith}
use Rattle.std.proofs.lemmas.Bool.{eq-eqb, ltb-false, true≢false}
use Rattle.std.proofs.Math.Nat.{mod-one}
use Rattle.gi_meaning.specs.Argument.{Argument, Value}
use Rattle.gi_meaning.specs.Given.{Given, Exactly, LowBits, IsGiven, one, in_low_bits, unless_broken}
use Rattle.gi_meaning.specs.Given as a_given
use Rattle.gi_meaning.specs.State.{World, Outside}
use Rattle.gi_meaning.specs.Act.{Answer, Results, Answers, AnswersWords, all_fitted, IsWordOf}
use Rattle.gi_meaning.specs.Act as an_answer
use Rattle.gi_refine.specs.Values.{Environment, appended, answered, Then, Holds, Defines, StandAt}
use Rattle.gi_refine.specs.ValueRules.{constant}
use Rattle.gi_refine.proofs.Basics.{not_below_itself}

-- ══ What is given ══

-- an operation may answer what is given
pub answers_given : (given : Given) (outside : Outside) (results : List ℕ) → IsGiven given results → Answers given outside (Results results outside)
answers_given a_given.Undefined outside results h = absurd h
answers_given (Exactly given) outside results h = (results, h, refl)
answers_given (LowBits known width value) outside results h = (results, h, refl)

-- any value of the width, where a promise may be broken and else this is the value
pub unless_given : (b : Bool) (n v u : ℕ) → u < 2 ^ n → v ≡ u → IsGiven (unless_broken b n v) (u ∷ [])
unless_given true n v u fits same = (u, fits, mod-one u, refl)
unless_given false n v u fits same = ap (λ r. r ∷ []) (sym same)

-- the one list of results that an operation gives
pub exactly : (results : List ℕ) (outside : Outside) (answer : Answer) (env : Environment) (widths : List ℕ) (rest : Environment → Option Environment → Type 0) (made : Option Environment)
    → Answers (Exactly results) outside answer → Then (answered env widths answer) rest made → Then (appended env widths results) rest made
exactly results outside answer env widths rest made h more =
    subst (λ rs. Then (appended env widths rs) rest made) h.1 (subst (λ a. Then (answered env widths a) rest made) h.2 more)

-- ══ Facts ══

-- what is defined by a constant holds it
pub constant_known : (x : ℕ) (w : World) (outside : Outside) (env : Environment) (n value place : ℕ) → Holds x w outside env (Defines (constant n value) (place ∷ [])) → slice_get env place ≡ Some (n, value)
constant_known x w outside env n value place h =
    let same : h.0 ≡ value ∷ [] = results_are h.0 h.1.0 outside h.1.2 ∙ h.1.1 in
    let stands : StandAt env (place ∷ []) (n ∷ []) (value ∷ []) = subst (λ vs. StandAt env (place ∷ []) (n ∷ []) vs) same h.2 in
    stands.0
  where
    results_are : (a b : List ℕ) (outside : Outside) → Results a outside ≡ Results b outside → a ≡ b
    results_are a b outside h = cc

-- two entries that are one have one value
abbrev pub entry : (n value : ℕ) → Option (ℕ × ℕ)
entry n value = Some (n, value)

pub entry_value : (n a m b : ℕ) → entry n a ≡ entry m b → a ≡ b
entry_value n a m b h = ap value_of h
  where
    value_of : Option (ℕ × ℕ) → ℕ
    value_of None = 0
    value_of (Some e) = e.1

-- ══ Words ══

-- a register of a word's width is read as it is
pub whole_word : (x a : ℕ) (word : Argument) → IsWordOf x x a word → word ≡ Value x a
whole_word x a word h =
    subst (λ b. cond b ((u : ℕ) × (u < 2 ^ x) × (u % 2 ^ x ≡ a % 2 ^ x) × (word ≡ Value x u)) (word ≡ Value x a)) (not_below_itself x) h

-- the one list of words that a machine instruction gives
pub words_exactly : (x : ℕ) (widths words : List ℕ) (outside : Outside) (answer : Answer) (env : Environment) (rest : Environment → Option Environment → Type 0) (made : Option Environment)
    → AnswersWords x widths (Exactly words) outside answer → Then (answered env widths answer) rest made → Then (appended env widths (all_fitted x widths words)) rest made
words_exactly x widths words outside answer env rest made h more =
    subst (λ ws. Then (appended env widths (all_fitted x widths ws)) rest made) h.1 (subst (λ a. Then (answered env widths a) rest made) h.2 more)

-- ══ Free bits ══

-- a value whose low bits are known
pub record OneOf (known value : ℕ) (outside : Outside) (answer : Answer) : Type 0 where
  pub result : ℕ
  pub low : result % 2 ^ known ≡ value % 2 ^ known
  pub is : answer ≡ Results (result ∷ []) outside

-- a value in a place of more bits, or in one of as many, or else what is undefined
given_low_bits : (less same : Bool) (known width value : ℕ) (outside : Outside) (answer : Answer) → (less ≡ false → same ≡ false → answer ≡ an_answer.Undefined → ⊥)
    → Answers (cond less (LowBits known width value) (cond same (one value) a_given.Undefined)) outside answer → OneOf known value outside answer
given_low_bits true same known width value outside answer defined h = record { result = h.1.0; low = h.1.2; is = h.2 ∙ ap (λ rs. Results rs outside) h.1.3 }
given_low_bits false true known width value outside answer defined h = record { result = value; low = refl; is = h.2 ∙ ap (λ rs. Results rs outside) h.1 }
given_low_bits false false known width value outside answer defined h = absurd (defined refl refl h)

-- a place has fewer bits where it has neither more nor as many
not_within : (known width : ℕ) → known ≤ width → nat_lt known width ≡ false → (known == width) ≡ false → ⊥
not_within known width within less same =
    let least : width ≤ known = ltb-false known width less in
    let equal : known ≡ width = omega (arith, within, least) in
    true≢false (sym (eq-eqb known width equal) ∙ same)

pub from_low_bits : (known width value : ℕ) (outside : Outside) (answer : Answer) → known ≤ width → Answers (in_low_bits known width value) outside answer → OneOf known value outside answer
from_low_bits known width value outside answer within h =
    given_low_bits (nat_lt known width) (known == width) known width value outside answer (λ less same undefined. not_within known width within less same) h

-- the same of an answer that isn't undefined
pub low_of_results : (known width value : ℕ) (outside : Outside) (results : List ℕ) → Answers (in_low_bits known width value) outside (Results results outside) → OneOf known value outside (Results results outside)
low_of_results known width value outside results h =
    given_low_bits (nat_lt known width) (known == width) known width value outside (Results results outside) (λ less same undefined. cc) h

-- the rest of a run after one result
pub after_one : (v n : ℕ) (outside : Outside) (answer : Answer) (env : Environment) (rest : Environment → Option Environment → Type 0) (made : Option Environment)
    → answer ≡ Results (v ∷ []) outside → Then (answered env (n ∷ []) answer) rest made → rest (env ++ (n, v) ∷ []) made
after_one v n outside answer env rest made is more = subst (λ a. Then (answered env (n ∷ []) a) rest made) is more

-- ══ The same given ══

-- the new operation gives one result, which the old may give as well, or both are undefined
pub data SameGiven (given : Given) (outside : Outside) (n : ℕ) (env env' : Environment) (made : Option Environment) : Type 0 where
  Gives : (v : ℕ) → made ≡ Some (env' ++ (n, v) ∷ []) → Answers given outside (Results (v ∷ []) outside) → SameGiven given outside n env env' made
  GivesNone : made ≡ None → (answer : Answer) → Answers given outside answer → answered env (n ∷ []) answer ≡ None → SameGiven given outside n env env' made

same_results : (given : Given) (outside : Outside) (n : ℕ) (env env' : Environment) (made : Option Environment) (results : List ℕ) → Answers given outside (Results results outside)
    → Then (appended env' (n ∷ []) results) (λ e m. m ≡ Some e) made → SameGiven given outside n env env' made
same_results given outside n env env' made [] h more = GivesNone more (Results [] outside) h refl
same_results given outside n env env' made (v ∷ []) h more = Gives v more h
same_results given outside n env env' made (v ∷ u ∷ results) h more = GivesNone more (Results (v ∷ u ∷ results) outside) h refl

pub same_given : (given : Given) (outside : Outside) (n : ℕ) (env env' : Environment) (answer : Answer) (made : Option Environment) → Answers given outside answer
    → Then (answered env' (n ∷ []) answer) (λ e m. m ≡ Some e) made → SameGiven given outside n env env' made
same_given a_given.Undefined outside n env env' answer made h more = GivesNone (subst (λ a. Then (answered env' (n ∷ []) a) (λ e m. m ≡ Some e) made) h more) an_answer.Undefined refl refl
same_given (Exactly results) outside n env env' answer made h more =
    same_results (Exactly results) outside n env env' made h.0 (answers_given (Exactly results) outside h.0 h.1) (subst (λ a. Then (answered env' (n ∷ []) a) (λ e m. m ≡ Some e) made) h.2 more)
same_given (LowBits known width value) outside n env env' answer made h more =
    same_results (LowBits known width value) outside n env env' made h.0 (answers_given (LowBits known width value) outside h.0 h.1) (subst (λ a. Then (answered env' (n ∷ []) a) (λ e m. m ≡ Some e) made) h.2 more)
