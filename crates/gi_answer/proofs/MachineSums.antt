-- What ADD and ADDI of RV32 answer on registers of 32 bits.
use Rattle.std.proofs.Common.{◌≡◌, ℕ, ℤ, ◌+◌, Bool, true, cond, List, [], ◌∷◌, None, ap, ap₂, ◌∙◌, subst}
use Rattle.gi_llt.specs.Bits.{wrapped, unsigned}
use Rattle.gi_meaning.specs.Act.{Answer, Results, Act, AnswersWords, all_fitted}
use Rattle.gi_meaning.specs.Argument.{Argument, Value, Number}
use Rattle.gi_meaning.specs.Given.{Undefined, one}
use Rattle.gi_meaning.specs.Machine.{on_words, sum_word, add_immediate, is_immediate}
use Rattle.gi_meaning.specs.Meaning.{Machine}
use Rattle.gi_meaning.specs.State.{World, Outside}

-- an instruction that gives one word into a place of 32 bits answers that
one_word : (word : ℕ) (outside : Outside) (answer : Answer) → AnswersWords 32 (32 ∷ []) (one word) outside answer → answer ≡ Results (word ∷ []) outside
one_word word outside answer h = h.2 ∙ ap (λ ws. Results (all_fitted 32 (32 ∷ []) ws) outside) h.1

pub sum_answers : (w : World) (a b : ℕ) (outside : Outside) (answer : Answer)
    → Act 32 w (Machine (on_words sum_word)) None (32 ∷ []) (Value 32 a ∷ Value 32 b ∷ []) outside answer
    → answer ≡ Results (wrapped 32 (a + b) ∷ []) outside
sum_answers w a b outside answer act =
    let words : List Argument = act.0 in
    let read = act.1 in
    let second = read.3 in
    let both : words ≡ Value 32 a ∷ Value 32 b ∷ [] = read.4 ∙ ap₂ (λ v vs. v ∷ vs) read.2 (second.4 ∙ ap₂ (λ v vs. v ∷ vs) second.2 second.3) in
    one_word (wrapped 32 (a + b)) outside answer (subst (λ ws. AnswersWords 32 (32 ∷ []) (on_words sum_word 32 ws) outside answer) both act.2)

immediate_answers : (a : ℕ) (i : ℤ) (outside : Outside) (answer : Answer) (test : Bool) → test ≡ true
    → AnswersWords 32 (32 ∷ []) (cond test (one (wrapped 32 (a + unsigned 32 i))) Undefined) outside answer → answer ≡ Results (wrapped 32 (a + unsigned 32 i) ∷ []) outside
immediate_answers a i outside answer test h given =
    one_word (wrapped 32 (a + unsigned 32 i)) outside answer
    (subst (λ b. AnswersWords 32 (32 ∷ []) (cond b (one (wrapped 32 (a + unsigned 32 i))) Undefined) outside answer) h given)

pub immediate_sum_answers : (w : World) (a : ℕ) (i : ℤ) (outside : Outside) (answer : Answer) → is_immediate i ≡ true
    → Act 32 w (Machine add_immediate) None (32 ∷ []) (Value 32 a ∷ Number i ∷ []) outside answer
    → answer ≡ Results (wrapped 32 (a + unsigned 32 i) ∷ []) outside
immediate_sum_answers w a i outside answer short act =
    let words : List Argument = act.0 in
    let read = act.1 in
    let second = read.3 in
    let both : words ≡ Value 32 a ∷ Number i ∷ [] = read.4 ∙ ap₂ (λ v vs. v ∷ vs) read.2 (second.4 ∙ ap₂ (λ v vs. v ∷ vs) second.2 second.3) in
    immediate_answers a i outside answer (is_immediate i) short
    (subst (λ ws. AnswersWords 32 (32 ∷ []) (add_immediate 32 ws) outside answer) both act.2)
