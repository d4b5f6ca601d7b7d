-- Steps of the proofs that instructions stand for a generic operation.
use Rattle.std.proofs.Common.{◌≡◌, ℕ, ◌%◌, ◌^◌, ◌<◌, Bool, true, false, cond, List, [], ◌∷◌, ◌++◌, Option, Some, None, slice_get, refl, sym, ap₂, ◌∙◌, subst, inl, inr, nat_lt, ℤ}
use Rattle.std.proofs.Math.Nat.{mod-eq_of_lt}
use Rattle.gi_mir.specs.declared.opcode.Opcode.{Opcode}
use Rattle.gi_mir.specs.declared.operand.Flags.{Flags}
use Rattle.gi_meaning.specs.Argument.{Argument, Value, Number}
use Rattle.gi_meaning.specs.Given.{Given, Exactly, LowBits, IsGiven, one, unless_broken}
use Rattle.gi_meaning.specs.Given as a_given
use Rattle.gi_meaning.specs.Machine.{on_words}
use Rattle.gi_meaning.specs.Meaning.{Generic, Machine, meaning_of}
use Rattle.gi_meaning.specs.State.{World, Outside}
use Rattle.gi_meaning.specs.Act.{Answer, Results, Act, Answers, AnswersWords, fitted, IsWordOf}
use Rattle.gi_meaning.specs.Act as an_answer
use Rattle.gi_refine.specs.Values.{Environment, Slot, Operation, Fact, Rule, Acts, ActsFrom, Makes, MayMake, Then, answered, arguments_at}
use Rattle.gi_refine.proofs.Basics.{not_below_itself}
use Rattle.gi_refine.proofs.RuleSteps.{SameGiven, Gives, GivesNone, answers_given, unless_given, words_exactly}

-- ══ What the old operation may give ══

-- the value is among what is given, or nothing is promised
abbrev pub MayGive : Given → ℕ → Type 0
MayGive a_given.Undefined v = Unit {0}
MayGive (Exactly results) v = IsGiven (Exactly results) (v ∷ [])
MayGive (LowBits known width value) v = IsGiven (LowBits known width value) (v ∷ [])

-- any value that fits where a promise is broken, and else this one
pub may_unless : (b : Bool) (n v : ℕ) → v < 2 ^ n → MayGive (unless_broken b n v) v
may_unless true n v fits = unless_given true n v v fits refl
may_unless false n v fits = refl

-- one operation whose result is the last value of the environment
abbrev pub rule_of : (inputs : List ℕ) → List Fact → Operation → List Operation → (k j : ℕ) → Rule
rule_of inputs facts old new k j = record { inputs = inputs; facts = facts; old = old ∷ []; new = new; kept = (k, j) ∷ [] }

abbrev pub generic : Opcode → Flags → List Slot → (n : ℕ) → Operation
generic op flags slots n = record { op = op; flags = flags; slots = slots; mem = None; widths = n ∷ [] }

-- what is given, the operation may answer
pub acts : (x : ℕ) (w : World) (outside : Outside) (op : Opcode) (flags : Flags) (slots : List Slot) (n : ℕ) (env : Environment) (gives : List ℕ → List Argument → Given) (arguments : List Argument) (answer : Answer)
    → meaning_of flags op ≡ Generic gives → arguments_at env slots ≡ Some arguments → Answers (gives (n ∷ []) arguments) outside answer → Acts x w (generic op flags slots n) outside env answer
acts x w outside op flags slots n env gives arguments answer means are given =
    subst (λ found. ActsFrom x w (generic op flags slots n) outside found answer) (sym are)
    (subst (λ meaning. Act x w meaning None (n ∷ []) arguments outside answer) (sym means) given)

may_make_of : (x : ℕ) (w : World) (outside : Outside) (inputs : List ℕ) (facts : List Fact) (o : Operation) (new : List Operation) (k j n v : ℕ) (env env' : Environment) (given : Given)
    → ((answer : Answer) → Answers given outside answer → Acts x w o outside env answer) → o.widths ≡ n ∷ [] → slice_get env' j ≡ slice_get (env ++ (n, v) ∷ []) k → MayGive given v
    → MayMake x w outside (rule_of inputs facts o new k j) env (Some env')
may_make_of x w outside inputs facts o new k j n v env env' a_given.Undefined act widths there may =
    inr (an_answer.Undefined, act an_answer.Undefined refl, refl)
may_make_of x w outside inputs facts o new k j n v env env' (Exactly results) act widths there may =
    inl (
      env ++ (n, v) ∷ [],
      (
        Results (v ∷ []) outside,
        act (Results (v ∷ []) outside) (answers_given (Exactly results) outside (v ∷ []) may),
        subst (λ ws. Then (answered env ws (Results (v ∷ []) outside)) (Makes x w outside []) (Some (env ++ (n, v) ∷ []))) (sym widths) refl,
      ),
      (there, tt),
    )
may_make_of x w outside inputs facts o new k j n v env env' (LowBits known width value) act widths there may =
    inl (
      env ++ (n, v) ∷ [],
      (
        Results (v ∷ []) outside,
        act (Results (v ∷ []) outside) (answers_given (LowBits known width value) outside (v ∷ []) may),
        subst (λ ws. Then (answered env ws (Results (v ∷ []) outside)) (Makes x w outside []) (Some (env ++ (n, v) ∷ []))) (sym widths) refl,
      ),
      (there, tt),
    )

-- what the old operation may give, it may make
pub may_make : (x : ℕ) (w : World) (outside : Outside) (inputs : List ℕ) (facts : List Fact) (op : Opcode) (flags : Flags) (slots : List Slot) (new : List Operation) (k j n v : ℕ) (env env' : Environment)
    (gives : List ℕ → List Argument → Given) (arguments : List Argument) (made : Option Environment)
    → meaning_of flags op ≡ Generic gives → arguments_at env slots ≡ Some arguments → slice_get env' j ≡ slice_get (env ++ (n, v) ∷ []) k → MayGive (gives (n ∷ []) arguments) v → made ≡ Some env'
    → MayMake x w outside (rule_of inputs facts (generic op flags slots n) new k j) env made
may_make x w outside inputs facts op flags slots new k j n v env env' gives arguments made means are there may is =
    subst (MayMake x w outside (rule_of inputs facts (generic op flags slots n) new k j) env) (sym is)
    (may_make_of x w outside inputs facts (generic op flags slots n) new k j n v env env' (gives (n ∷ []) arguments)
    (λ answer given. acts x w outside op flags slots n env gives arguments answer means are given) refl there may)

-- what an instruction made that answers as the old operation may
pub same_made : (x : ℕ) (w : World) (outside : Outside) (inputs : List ℕ) (facts : List Fact) (op : Opcode) (flags : Flags) (slots : List Slot) (new : List Operation) (k n : ℕ) (env : Environment) (given : Given) (made : Option Environment)
    → ((answer : Answer) → Answers given outside answer → Acts x w (generic op flags slots n) outside env answer) → SameGiven given outside n env env made
    → MayMake x w outside (rule_of inputs facts (generic op flags slots n) new k k) env made
same_made x w outside inputs facts op flags slots new k n env given made act (Gives v is may) =
    subst (MayMake x w outside (rule_of inputs facts (generic op flags slots n) new k k) env) (sym is)
    (inl (env ++ (n, v) ∷ [], (Results (v ∷ []) outside, act (Results (v ∷ []) outside) may, refl), (refl, tt)))
same_made x w outside inputs facts op flags slots new k n env given made act (GivesNone is answer may none) =
    subst (MayMake x w outside (rule_of inputs facts (generic op flags slots n) new k k) env) (sym is)
    (answer, act answer may, subst (λ e. Then e (Makes x w outside []) None) (sym none) refl)

-- ══ Registers as words ══

-- a register of n bits that holds a, read as the word u
abbrev pub IsReadAs : (x n a u : ℕ) → Type 0
IsReadAs x n a u = cond (nat_lt n x) ((u < 2 ^ x) × (u % 2 ^ n ≡ a)) (u ≡ a)

-- the same where the register may hold a number that isn't of its bits: the word has the number's low bits
abbrev pub HasLowBits : (x n a u : ℕ) → Type 0
HasLowBits x n a u = cond (nat_lt n x) ((u < 2 ^ x) × (u % 2 ^ n ≡ a % 2 ^ n)) (u ≡ a)

read_as_at : (t : Bool) (x n a u : ℕ) → a < 2 ^ n → cond t ((u < 2 ^ x) × (u % 2 ^ n ≡ a % 2 ^ n)) (u ≡ a) → cond t ((u < 2 ^ x) × (u % 2 ^ n ≡ a)) (u ≡ a)
read_as_at true x n a u fits h = (h.0, h.1 ∙ mod-eq_of_lt fits)
read_as_at false x n a u fits h = h

pub read_as : (x n a u : ℕ) → a < 2 ^ n → HasLowBits x n a u → IsReadAs x n a u
read_as x n a u fits h = read_as_at (nat_lt n x) x n a u fits h

pub record Read (x n a : ℕ) (argument : Argument) : Type 0 where
  pub width : ℕ
  pub word : ℕ
  pub is : argument ≡ Value width word
  pub reads : HasLowBits x n a word

read_at : (x n a : ℕ) (argument : Argument) (b : Bool)
    → cond b ((word : ℕ) × (word < 2 ^ x) × (word % 2 ^ n ≡ a % 2 ^ n) × (argument ≡ Value x word)) (argument ≡ Value n a)
    → (width : ℕ) × (word : ℕ) × (argument ≡ Value width word) × cond b ((word < 2 ^ x) × (word % 2 ^ n ≡ a % 2 ^ n)) (word ≡ a)
read_at x n a argument true h = (x, h.0, h.3, (h.1, h.2))
read_at x n a argument false h = (n, a, h, refl)

pub read : (x n a : ℕ) (argument : Argument) → IsWordOf x n a argument → Read x n a argument
read x n a argument h =
    let r = read_at x n a argument (nat_lt n x) h in record { width = r.0; word = r.1; is = r.2; reads = r.3 }

-- a register of a word's width holds the word
pub whole_read : (x a u : ℕ) → IsReadAs x x a u → u ≡ a
whole_read x a u h = subst (λ b. cond b ((u < 2 ^ x) × (u % 2 ^ x ≡ a)) (u ≡ a)) (not_below_itself x) h

pub whole_is : (x a u : ℕ) → HasLowBits x x a u → u ≡ a
whole_is x a u h = subst (λ b. cond b ((u < 2 ^ x) × (u % 2 ^ x ≡ a % 2 ^ x)) (u ≡ a)) (not_below_itself x) h

-- ══ One instruction ══

-- what a machine instruction did with two registers
pub record OnTwo (x : ℕ) (f : ℕ → ℕ → ℕ → ℕ) (l a m b n : ℕ) (env : Environment) (rest : Environment → Option Environment → Type 0) (made : Option Environment) : Type 0 where
  pub left : ℕ
  pub right : ℕ
  pub left_reads : HasLowBits x l a left
  pub right_reads : HasLowBits x m b right
  pub more : rest (env ++ (n, fitted x n (f x left right)) ∷ []) made

pub on_two_words : (x : ℕ) (w : World) (outside : Outside) (f : ℕ → ℕ → ℕ → ℕ) (l a m b n : ℕ) (env : Environment) (rest : Environment → Option Environment → Type 0) (made : Option Environment) (answer : Answer)
    → Act x w (Machine (on_words f)) None (n ∷ []) (Value l a ∷ Value m b ∷ []) outside answer → Then (answered env (n ∷ []) answer) rest made → OnTwo x f l a m b n env rest made
on_two_words x w outside f l a m b n env rest made answer act more =
    let left : Read x l a act.1.0 = read x l a act.1.0 act.1.2 in
    let right : Read x m b act.1.3.0 = read x m b act.1.3.0 act.1.3.2 in
    let are : act.0 ≡ Value left.width left.word ∷ Value right.width right.word ∷ [] =
    act.1.4 ∙ ap₂ (λ p q. p ∷ q) left.is (act.1.3.4 ∙ ap₂ (λ p q. p ∷ q) right.is act.1.3.3) in
    record {
      left = left.word;
      right = right.word;
      left_reads = left.reads;
      right_reads = right.reads;
      more = words_exactly x (n ∷ []) (f x left.word right.word ∷ []) outside answer env rest made
          (subst (λ ws. AnswersWords x (n ∷ []) (on_words f x ws) outside answer) are act.2) more;
    }

-- with a register and a number
pub record OnNumber (x : ℕ) (f : ℕ → ℕ) (l a n : ℕ) (env : Environment) (rest : Environment → Option Environment → Type 0) (made : Option Environment) : Type 0 where
  pub left : ℕ
  pub left_reads : HasLowBits x l a left
  pub more : rest (env ++ (n, fitted x n (f left)) ∷ []) made

pub on_word_and_number : (x : ℕ) (w : World) (outside : Outside) (gives : ℕ → List Argument → Given) (f : ℕ → ℕ) (l a n : ℕ) (i : ℤ) (env : Environment) (rest : Environment → Option Environment → Type 0) (made : Option Environment) (answer : Answer)
    → ((width word : ℕ) → gives x (Value width word ∷ Number i ∷ []) ≡ one (f word))
    → Act x w (Machine gives) None (n ∷ []) (Value l a ∷ Number i ∷ []) outside answer → Then (answered env (n ∷ []) answer) rest made → OnNumber x f l a n env rest made
on_word_and_number x w outside gives f l a n i env rest made answer is act more =
    let left : Read x l a act.1.0 = read x l a act.1.0 act.1.2 in
    let are : act.0 ≡ Value left.width left.word ∷ Number i ∷ [] =
    act.1.4 ∙ ap₂ (λ p q. p ∷ q) left.is (act.1.3.4 ∙ ap₂ (λ p q. p ∷ q) act.1.3.2 act.1.3.3) in
    record {
      left = left.word;
      left_reads = left.reads;
      more = words_exactly x (n ∷ []) (f left.word ∷ []) outside answer env rest made
          (subst (λ g. AnswersWords x (n ∷ []) g outside answer) (is left.width left.word)
          (subst (λ ws. AnswersWords x (n ∷ []) (gives x ws) outside answer) are act.2)) more;
    }
