-- What one instruction makes of words.
use Rattle.std.proofs.Common.{◌≡◌, ℕ, List, [], ◌∷◌, ◌++◌, Option, None, ap, ap₂, ◌∙◌, subst, ℤ, true}
use Rattle.gi_llt.specs.Bits.{unsigned}
use Rattle.gi_meaning.specs.Argument.{Argument, Value, Number}
use Rattle.gi_meaning.specs.Given.{Given, one}
use Rattle.gi_meaning.specs.Machine.{on_words, on_immediate, is_immediate}
use Rattle.gi_meaning.specs.Meaning.{Meaning, Machine}
use Rattle.gi_meaning.specs.State.{World, Outside}
use Rattle.gi_meaning.specs.Act.{Answer, Act}
use Rattle.gi_refine.specs.Values.{Environment, Then, answered}
use Rattle.gi_refine.proofs.Basics.{whole_fitted}
use Rattle.gi_riscv.proofs.MachineSteps.{OnTwo, on_two_words, OnNumber, on_word_and_number, whole_is}
use Rattle.gi_riscv.proofs.OneInstruction.{if_true}

-- on two words
pub word_step : (x : ℕ) (w : World) (outside : Outside) (meaning : Meaning) (f : ℕ → ℕ → ℕ → ℕ) (a b : ℕ) (env : Environment) (rest : Environment → Option Environment → Type 0) (made : Option Environment) (answer : Answer)
    → meaning ≡ Machine (on_words f) → Act x w meaning None (x ∷ []) (Value x a ∷ Value x b ∷ []) outside answer → Then (answered env (x ∷ []) answer) rest made → rest (env ++ (x, f x a b) ∷ []) made
word_step x w outside meaning f a b env rest made answer means act more =
    let step : OnTwo x f x a x b x env rest made =
    on_two_words x w outside f x a x b x env rest made answer (subst (λ m. Act x w m None (x ∷ []) (Value x a ∷ Value x b ∷ []) outside answer) means act) more in
    subst (λ r. rest (env ++ (x, r) ∷ []) made)
    (whole_fitted x (f x step.left step.right) ∙ ap₂ (f x) (whole_is x a step.left step.left_reads) (whole_is x b step.right step.right_reads)) step.more

-- on a word and a number
pub number_step : (x : ℕ) (w : World) (outside : Outside) (meaning : Meaning) (gives : ℕ → List Argument → Given) (f : ℕ → ℕ) (a : ℕ) (i : ℤ) (env : Environment) (rest : Environment → Option Environment → Type 0) (made : Option Environment) (answer : Answer)
    → meaning ≡ Machine gives → ((width word : ℕ) → gives x (Value width word ∷ Number i ∷ []) ≡ one (f word))
    → Act x w meaning None (x ∷ []) (Value x a ∷ Number i ∷ []) outside answer → Then (answered env (x ∷ []) answer) rest made → rest (env ++ (x, f a) ∷ []) made
number_step x w outside meaning gives f a i env rest made answer means is act more =
    let step : OnNumber x f x a x env rest made =
    on_word_and_number x w outside gives f x a x i env rest made answer is (subst (λ m. Act x w m None (x ∷ []) (Value x a ∷ Number i ∷ []) outside answer) means act) more in
    subst (λ r. rest (env ++ (x, r) ∷ []) made) (whole_fitted x (f step.left) ∙ ap f (whole_is x a step.left step.left_reads)) step.more

pub immediate_step : (x : ℕ) (w : World) (outside : Outside) (meaning : Meaning) (f : ℕ → ℕ → ℕ → ℕ) (a : ℕ) (i : ℤ) (env : Environment) (rest : Environment → Option Environment → Type 0) (made : Option Environment) (answer : Answer)
    → meaning ≡ Machine (on_immediate f) → is_immediate i ≡ true
    → Act x w meaning None (x ∷ []) (Value x a ∷ Number i ∷ []) outside answer → Then (answered env (x ∷ []) answer) rest made → rest (env ++ (x, f x a (unsigned x i)) ∷ []) made
immediate_step x w outside meaning f a i env rest made answer means short act more =
    number_step x w outside meaning (on_immediate f) (λ u. f x u (unsigned x i)) a i env rest made answer means (λ width word. if_true (is_immediate i) (one (f x word (unsigned x i))) short) act more
