-- An instruction leaves its block for one of the blocks among its operands, and for no other.
use Rattle.std.proofs.Common.{◌≡◌, ℕ, Bool, true, false, cond, ◌&&◌, ◌||◌, ◌==◌, List, [], ◌∷◌, ◌++◌, length, map, Option, Some, None, option_map, ◌⊎◌, inl, inr, ⊎_elim, nat_lt, ◌%◌, ◌^◌, ◌<◌, refl, sym, subst}
use Rattle.std.proofs.lemmas.Bool.{eq-eqb, or_cases, or_left, or_right}
use Rattle.gi_mir.specs.Data.{InstrData}
use Rattle.gi_mir.specs.declared.operand.MemOp.{MemOp}
use Rattle.gi_mir.specs.declared.operand.Operand.{Operand}
use Rattle.gi_mir.specs.declared.operand.Operand.TheVariants as operand
use Rattle.gi_mir.specs.declared.operand.SymbolFlag.TheVariants.{Plain, Call, Hi, Lo}
use Rattle.gi_meaning.specs.Argument.{Argument, Value, Symbol, Called, To, Number}
use Rattle.gi_meaning.specs.Given.{Given, Exactly, LowBits}
use Rattle.gi_meaning.specs.Given as a_given
use Rattle.gi_meaning.specs.Memory.{is_aligned, loaded}
use Rattle.gi_meaning.specs.State.{World, State, Outside, outside_of, Place}
use Rattle.gi_meaning.specs.Machine.{is_immediate}
use Rattle.gi_meaning.specs.Meaning.{Meaning, Copying, Generic, Machine, Loading, Storing, MachineLoading, MachineStoring, Jumping, Branching, MachineBranching, Calling, Returning, Nothing, Joining, meaning_of}
use Rattle.gi_meaning.specs.Routine.{has_routine}
use Rattle.gi_meaning.specs.Act.{Answer, Results, Leaves, Returns, Asks, Answers, AnswersWords, ReadsAs, AllReadAs, copy, generic_load, machine_load, StoresThere, Stores, GenericStores, MachineStores, jump, branch, machine_branch, CallsGlobal, Calls, Act, has_operands, result_registers, passed, words_of, alignment}
use Rattle.gi_meaning.specs.Act as an_answer
use Rattle.gi_meaning.specs.Runs.{Setting, argument_of, arguments_of, joined_lists, written_places, width_of_place, put_all, Progress, Left, going_on, progress_of, StepsFrom, Steps}
use Rattle.gi_refine.specs.Rewriting.{is_target}

-- where an answer, or a progress, leaves the block, the block that it goes to has a property
abbrev LeavesIn : (P : ℕ → Type 0) → Answer → Type 0
LeavesIn P (Leaves c) = P c
LeavesIn P _ = Unit {0}

abbrev pub ProgressIn : (P : ℕ → Type 0) → Progress → Type 0
ProgressIn P (Left c state) = P c
ProgressIn P _ = Unit {0}

going_in : (P : ℕ → Type 0) (state : Option State) → ProgressIn P (going_on state)
going_in P None = tt
going_in P (Some state) = tt

progress_in : (P : ℕ → Type 0) (state : State) (ps : List Place) (a : Answer) → LeavesIn P a → ProgressIn P (progress_of state ps a)
progress_in P state ps (Results results outside) h = going_in P (put_all (record state { memory = outside.memory; taken = outside.taken }) ps results)
progress_in P state ps (Leaves c) h = h
progress_in P state ps (Returns words) h = tt
progress_in P state ps (Asks callee words) h = tt
progress_in P state ps an_answer.Undefined h = tt

-- ══ Targets among arguments ══

abbrev is_aimed : (c : ℕ) → List Argument → Bool
is_aimed c [] = false
is_aimed c (To b ∷ arguments) = (b == c) || is_aimed c arguments
is_aimed c (_ ∷ arguments) = is_aimed c arguments

abbrev is_aimed_at : (c : ℕ) → Option (List Argument) → Bool
is_aimed_at c None = false
is_aimed_at c (Some arguments) = is_aimed c arguments

aimed_appended : (c : ℕ) (xs ys : List Argument) → is_aimed c (xs ++ ys) ≡ true → (is_aimed c xs ≡ true) ⊎ (is_aimed c ys ≡ true)
aimed_appended c [] ys h = inr h
aimed_appended c (To b ∷ xs) ys h = ⊎_elim
    (λ here. inl (or_left (b == c) (is_aimed c xs) here))
    (λ later. ⊎_elim (λ first. inl (or_right (b == c) (is_aimed c xs) first)) (λ second. inr second) (aimed_appended c xs ys later))
    (or_cases (b == c) (is_aimed c (xs ++ ys)) h)
aimed_appended c (Value n v ∷ xs) ys h = aimed_appended c xs ys h
aimed_appended c (_ ∷ xs) ys h = aimed_appended c xs ys h

aimed_joined : (c : ℕ) (a b : Option (List Argument)) → is_aimed_at c (joined_lists a b) ≡ true → (is_aimed_at c a ≡ true) ⊎ (is_aimed_at c b ≡ true)
aimed_joined c None b h = cc
aimed_joined c (Some xs) None h = cc
aimed_joined c (Some xs) (Some ys) h = aimed_appended c xs ys h

value_not_aimed : (c width : ℕ) (v : Option ℕ) → is_aimed_at c (option_map (λ u. Value width u ∷ []) v) ≡ true → false ≡ true
value_not_aimed c width None h = h
value_not_aimed c width (Some v) h = h

argument_target : (s : Setting) (w : World) (state : State) (c : ℕ) (o : Operand) (os : List Operand) → is_aimed_at c (argument_of s w state o) ≡ true → is_target c (o ∷ os) ≡ true
argument_target s w state c (operand.Block b) os h = ⊎_elim (λ here. or_left (b == c) (is_target c os) here) (λ never. cc) (or_cases (b == c) false h)
argument_target s w state c (operand.Use r) os h = absurd (true_is (value_not_aimed c (s.width r.0) (state.values r.0) h))
  where
    true_is : false ≡ true → ⊥
    true_is e = cc
argument_target s w state c (operand.Def r k) os h = cc
argument_target s w state c _ os h = cc

later_target : (c : ℕ) (o : Operand) (os : List Operand) → is_target c os ≡ true → is_target c (o ∷ os) ≡ true
later_target c (operand.Block b) os h = or_right (b == c) (is_target c os) h
later_target c (operand.Def r k) os h = h
later_target c _ os h = h

arguments_target : (s : Setting) (w : World) (state : State) (c : ℕ) (os : List Operand) → is_aimed_at c (arguments_of s w state os) ≡ true → is_target c os ≡ true
arguments_target s w state c [] h = h
arguments_target s w state c (o ∷ os) h = ⊎_elim
    (λ here. argument_target s w state c o os here)
    (λ later. later_target c o os (arguments_target s w state c os later))
    (aimed_joined c (argument_of s w state o) (arguments_of s w state os) h)

-- ══ Answers ══

answers_in : (P : ℕ → Type 0) (g : Given) (outside : Outside) (a : Answer) → Answers g outside a → LeavesIn P a
answers_in P a_given.Undefined outside a h = subst (LeavesIn P) (sym h) tt
answers_in P (Exactly results) outside a h = subst (LeavesIn P) (sym h.2) tt
answers_in P (LowBits known width value) outside a h = subst (LeavesIn P) (sym h.2) tt

words_in : (P : ℕ → Type 0) (x : ℕ) (widths : List ℕ) (g : Given) (outside : Outside) (a : Answer) → AnswersWords x widths g outside a → LeavesIn P a
words_in P x widths a_given.Undefined outside a h = subst (LeavesIn P) (sym h) tt
words_in P x widths (Exactly results) outside a h = subst (LeavesIn P) (sym h.2) tt
words_in P x widths (LowBits known width value) outside a h = subst (LeavesIn P) (sym h.2) tt

-- one of two, or undefined
pub or_undefined : (Q : Answer → Type 0) → Q an_answer.Undefined → (b : Bool) (T : Type 0) (a : Answer) → (T → Q a) → cond b T (a ≡ an_answer.Undefined) → Q a
or_undefined Q undefined true T a f h = f h
or_undefined Q undefined false T a f h = subst Q (sym h) undefined

pub undefined_or : (Q : Answer → Type 0) → Q an_answer.Undefined → (b : Bool) (T : Type 0) (a : Answer) → (T → Q a) → cond b (a ≡ an_answer.Undefined) T → Q a
undefined_or Q undefined true T a f h = subst Q (sym h) undefined
undefined_or Q undefined false T a f h = f h

-- a store has no results, or is undefined
stores_there_have : (Q : Answer → Type 0) → Q an_answer.Undefined → ((outside : Outside) → Q (Results [] outside)) → (o : Option ℕ) (x bytes address value : ℕ) (outside : Outside) (a : Answer)
    → StoresThere o x bytes address value outside a → Q a
stores_there_have Q undefined stores None x bytes address value outside a h = subst Q (sym h) undefined
stores_there_have Q undefined stores (Some v) x bytes address value outside a h = subst Q (sym h) (stores _)

stores_have : (Q : Answer → Type 0) → Q an_answer.Undefined → ((outside : Outside) → Q (Results [] outside)) → (x align bytes address value : ℕ) (outside : Outside) (a : Answer) → Stores x align bytes address value outside a → Q a
stores_have Q undefined stores x align bytes address value outside a h =
    or_undefined Q undefined (is_aligned align address) (StoresThere (loaded x bytes outside.memory address) x bytes address value outside a) a
    (stores_there_have Q undefined stores (loaded x bytes outside.memory address) x bytes address value outside a) h

generic_stores_have : (Q : Answer → Type 0) → Q an_answer.Undefined → ((outside : Outside) → Q (Results [] outside)) → (x : ℕ) (mem : Option MemOp) (arguments : List Argument) (outside : Outside) (a : Answer)
    → GenericStores x mem arguments outside a → Q a
generic_stores_have Q undefined stores x (Some mem) (Value n value ∷ Value l address ∷ []) outside a h =
    undefined_or Q undefined mem.load (Stores x (alignment x mem) _ address value outside a) a (stores_have Q undefined stores x (alignment x mem) _ address value outside a) h
generic_stores_have Q undefined stores x _ _ outside a h = subst Q (sym h) undefined

pub machine_stores_have : (Q : Answer → Type 0) → Q an_answer.Undefined → ((outside : Outside) → Q (Results [] outside)) → (x : ℕ) (exists : ℕ → Bool) (bytes : ℕ) (arguments : List Argument) (outside : Outside) (a : Answer)
    → MachineStores x exists bytes arguments outside a → Q a
machine_stores_have Q undefined stores x exists bytes (Value n value ∷ Value l base ∷ Number offset ∷ []) outside a h =
    or_undefined Q undefined (exists x && is_immediate offset) (Stores x bytes bytes _ value outside a) a (stores_have Q undefined stores x bytes bytes _ value outside a) h
machine_stores_have Q undefined stores x exists bytes _ outside a h = subst Q (sym h) undefined

jump_in : (arguments : List Argument) → LeavesIn (λ c. is_aimed c arguments ≡ true) (jump arguments)
jump_in (To b ∷ []) = or_left (b == b) false (eq-eqb b b refl)
jump_in _ = tt

either_in : (P : ℕ → Type 0) (b : Bool) (c : ℕ) (outside : Outside) → P c → LeavesIn P (cond b (Results [] outside) (Leaves c))
either_in P true c outside h = tt
either_in P false c outside h = h

or_in : (P : ℕ → Type 0) (b : Bool) (c : ℕ) (outside : Outside) → P c → LeavesIn P (cond b (Leaves c) (Results [] outside))
or_in P true c outside h = h
or_in P false c outside h = tt

branch_in : (arguments : List Argument) (outside : Outside) → LeavesIn (λ c. is_aimed c arguments ≡ true) (branch arguments outside)
branch_in (Value n v ∷ To b ∷ []) outside = either_in (λ c. is_aimed c (To b ∷ []) ≡ true) (v == 0) b outside (or_left (b == b) false (eq-eqb b b refl))
branch_in _ outside = tt

machine_branch_in : (x : ℕ) (test : ℕ → ℕ → ℕ → Bool) (arguments : List Argument) (outside : Outside) → LeavesIn (λ c. is_aimed c arguments ≡ true) (machine_branch x test arguments outside)
machine_branch_in x test (Value l v ∷ Value m u ∷ To b ∷ []) outside = or_in (λ c. is_aimed c (To b ∷ []) ≡ true) (test x v u) b outside (or_left (b == b) false (eq-eqb b b refl))
machine_branch_in x test _ outside = tt

global_in : (P : ℕ → Type 0) (x : ℕ) (w : World) (callee words : List ℕ) (results : ℕ) (outside : Outside) (a : Answer) → CallsGlobal x w callee words results outside a → LeavesIn P a
global_in P x w callee words results outside a = ⊎_elim (λ event. subst (LeavesIn P) (sym event.3.3) tt) (λ none. subst (LeavesIn P) (sym none.1) tt)

calls_in : (P : ℕ → Type 0) (x : ℕ) (w : World) (arguments : List Argument) (outside : Outside) (a : Answer) → Calls x w arguments outside a → LeavesIn P a
calls_in P x w (Symbol Call callee address ∷ rest) outside a h = global_in P x w callee (words_of (passed rest)) (length (result_registers rest)) outside a h
calls_in P x w (Called Call routine ∷ rest) outside a h =
    or_undefined (LeavesIn P) tt (has_operands (passed rest) && has_routine x routine) _ a
    (λ answered. subst (LeavesIn P) (sym answered.2.3) tt) h
calls_in P x w (Symbol Plain callee address ∷ rest) outside a h = subst (LeavesIn P) (sym h) tt
calls_in P x w (Symbol Hi callee address ∷ rest) outside a h = subst (LeavesIn P) (sym h) tt
calls_in P x w (Symbol Lo callee address ∷ rest) outside a h = subst (LeavesIn P) (sym h) tt
calls_in P x w (Called Plain routine ∷ rest) outside a h = subst (LeavesIn P) (sym h) tt
calls_in P x w (Called Hi routine ∷ rest) outside a h = subst (LeavesIn P) (sym h) tt
calls_in P x w (Called Lo routine ∷ rest) outside a h = subst (LeavesIn P) (sym h) tt
calls_in P x w _ outside a h = subst (LeavesIn P) (sym h) tt

-- a register's word is no block
word_not_aimed : (c x width value : ℕ) (b : Bool) (word : Argument) (rest : List Argument)
    → cond b ((v : ℕ) × (v < 2 ^ x) × (v % 2 ^ width ≡ value % 2 ^ width) × (word ≡ Value x v)) (word ≡ Value width value)
    → is_aimed c (word ∷ rest) ≡ true → is_aimed c rest ≡ true
word_not_aimed c x width value true word rest h aimed = subst (λ u. is_aimed c (u ∷ rest) ≡ true) h.3 aimed
word_not_aimed c x width value false word rest h aimed = subst (λ u. is_aimed c (u ∷ rest) ≡ true) h aimed

read_aimed : (x c : ℕ) (argument word : Argument) (rest arguments : List Argument) → ReadsAs x argument word → (is_aimed c rest ≡ true → is_aimed c arguments ≡ true)
    → is_aimed c (word ∷ rest) ≡ true → is_aimed c (argument ∷ arguments) ≡ true
read_aimed x c (Value width value) word rest arguments reads goes aimed = goes (word_not_aimed c x width value (nat_lt width x) word rest reads aimed)
read_aimed x c (To b) word rest arguments reads goes aimed = ⊎_elim
    (λ here. or_left (b == c) (is_aimed c arguments) here)
    (λ later. or_right (b == c) (is_aimed c arguments) (goes later))
    (or_cases (b == c) (is_aimed c rest) (subst (λ u. is_aimed c (u ∷ rest) ≡ true) reads aimed))
read_aimed x c (Number z) word rest arguments reads goes aimed = goes (subst (λ u. is_aimed c (u ∷ rest) ≡ true) reads aimed)
read_aimed x c _ word rest arguments reads goes aimed = goes (subst (λ u. is_aimed c (u ∷ rest) ≡ true) reads aimed)

all_read_aimed : (x c : ℕ) (arguments words : List Argument) → AllReadAs x arguments words → is_aimed c words ≡ true → is_aimed c arguments ≡ true
all_read_aimed x c [] words reads aimed = subst (λ ws. is_aimed c ws ≡ true) reads aimed
all_read_aimed x c (argument ∷ arguments) words reads aimed =
    read_aimed x c argument reads.0 reads.1 arguments reads.2 (all_read_aimed x c arguments reads.1 reads.3) (subst (λ ws. is_aimed c ws ≡ true) reads.4 aimed)

leaves_more : (P Q : ℕ → Type 0) → ((c : ℕ) → P c → Q c) → (a : Answer) → LeavesIn P a → LeavesIn Q a
leaves_more P Q f (Results results outside) h = tt
leaves_more P Q f (Leaves c) h = f c h
leaves_more P Q f (Returns words) h = tt
leaves_more P Q f (Asks callee words) h = tt
leaves_more P Q f an_answer.Undefined h = tt

act_in : (x : ℕ) (w : World) (m : Meaning) (mem : Option MemOp) (widths : List ℕ) (arguments : List Argument) (outside : Outside) (a : Answer)
    → Act x w m mem widths arguments outside a → LeavesIn (λ c. is_aimed c arguments ≡ true) a
act_in x w Copying mem widths arguments outside a h = answers_in (λ c. is_aimed c arguments ≡ true) (copy widths arguments) outside a h
act_in x w (Generic gives) mem widths arguments outside a h = answers_in (λ c. is_aimed c arguments ≡ true) (gives widths arguments) outside a h
act_in x w (Machine gives) mem widths arguments outside a h = words_in (λ c. is_aimed c arguments ≡ true) x widths (gives x h.0) outside a h.2
act_in x w (Loading extension) mem widths arguments outside a h =
    answers_in (λ c. is_aimed c arguments ≡ true) (generic_load x extension mem widths arguments outside.memory) outside a h
act_in x w Storing mem widths arguments outside a h = generic_stores_have (LeavesIn (λ c. is_aimed c arguments ≡ true)) tt (λ o. tt) x mem arguments outside a h
act_in x w (MachineLoading exists bytes extension) mem widths arguments outside a h =
    words_in (λ c. is_aimed c arguments ≡ true) x widths (machine_load x exists bytes extension h.0 outside.memory) outside a h.2
act_in x w (MachineStoring exists bytes) mem widths arguments outside a h = machine_stores_have (LeavesIn (λ c. is_aimed c arguments ≡ true)) tt (λ o. tt) x exists bytes h.0 outside a h.2
act_in x w Jumping mem widths arguments outside a h = subst (LeavesIn (λ c. is_aimed c arguments ≡ true)) (sym h) (jump_in arguments)
act_in x w Branching mem widths arguments outside a h = subst (LeavesIn (λ c. is_aimed c arguments ≡ true)) (sym h) (branch_in arguments outside)
act_in x w (MachineBranching test) mem widths arguments outside a h =
    subst (LeavesIn (λ c. is_aimed c arguments ≡ true)) (sym h.2)
    (leaves_more (λ c. is_aimed c h.0 ≡ true) (λ c. is_aimed c arguments ≡ true) (λ c aimed. all_read_aimed x c arguments h.0 h.1 aimed) (machine_branch x test h.0 outside)
    (machine_branch_in x test h.0 outside))
act_in x w Calling mem widths arguments outside a h = calls_in (λ c. is_aimed c arguments ≡ true) x w arguments outside a h
act_in x w Returning mem widths arguments outside a h = subst (LeavesIn (λ c. is_aimed c arguments ≡ true)) (sym h) tt
act_in x w Nothing mem widths arguments outside a h = subst (LeavesIn (λ c. is_aimed c arguments ≡ true)) (sym h) tt
act_in x w Joining mem widths arguments outside a h = subst (LeavesIn (λ c. is_aimed c arguments ≡ true)) (sym h) tt

-- ══ A step ══

steps_from_in : (P : ℕ → Type 0) (s : Setting) (w : World) (i : InstrData) (state : State) (arguments : Option (List Argument)) (p : Progress)
    → ((c : ℕ) → is_aimed_at c arguments ≡ true → P c) → StepsFrom s w i state arguments p → ProgressIn P p
steps_from_in P s w i state None p has step = subst (ProgressIn P) (sym step) tt
steps_from_in P s w i state (Some arguments) p has step =
    let m : Meaning = meaning_of i.flags i.op in
    subst (ProgressIn P) (sym step.2)
    (progress_in P state (written_places m i.operands) step.0
    (leaves_more (λ c. is_aimed c arguments ≡ true) P has step.0
    (act_in s.x w m i.mem (map (width_of_place s) (written_places m i.operands)) arguments (outside_of state) step.0 step.1)))

-- a step leaves for one of the blocks among the operands
pub step_target : (s : Setting) (w : World) (i : InstrData) (state : State) (p : Progress) → Steps s w i state p → ProgressIn (λ c. is_target c i.operands ≡ true) p
step_target s w i state p step =
    steps_from_in (λ c. is_target c i.operands ≡ true) s w i state (arguments_of s w state i.operands) p (λ c aimed. arguments_target s w state c i.operands aimed) step
