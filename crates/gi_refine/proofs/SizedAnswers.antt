-- What instructions answer to words are words, and memory keeps bytes.
use Rattle.std.proofs.Common.{◌≡◌, ℕ, zero, suc, ◌+◌, ◌*◌, ◌/◌, ◌%◌, ◌^◌, ◌<◌, ◌≤◌, Bool, true, false, cond, ◌&&◌, ◌==◌, if◌then◌else◌, nat_lt, List, [], ◌∷◌, ◌++◌, length, Option, Some, None, slice_get, unwrap_or, IfSome, le_refl, ◌⊎◌, inl, inr, ⊎_elim, refl, sym, ap, subst, arith, lit<}
use Rattle.std.proofs.lemmas.Nat.{pow_pos, pow-add}
use Rattle.std.proofs.Math.Nat.{mod-lt, mod-le, pow-le-pow_right}
use Rattle.gi_llt.specs.Bits.{wrapped, sign_extended}
use Rattle.gi_mir.specs.declared.opcode.Opcode.{Opcode}
use Rattle.gi_mir.specs.declared.opcode.Opcode.TheVariants as op
use Rattle.gi_mir.specs.declared.operand.Flags.{Flags}
use Rattle.gi_mir.specs.declared.operand.MemOp.{MemOp}
use Rattle.gi_mir.specs.declared.operand.Operand.{Operand}
use Rattle.gi_mir.specs.declared.operand.SymbolFlag.TheVariants.{Plain, Call, Hi, Lo}
use Rattle.gi_meaning.specs.Argument.{Argument, Value, Number, Symbol, Called, To}
use Rattle.gi_meaning.specs.Given.{Given, Exactly, LowBits, Undefined, one, free}
use Rattle.gi_meaning.specs.Generic.{nullary, parts_of}
use Rattle.gi_meaning.specs.Machine.{is_immediate}
use Rattle.gi_meaning.specs.Meaning.{Meaning, Copying, Generic, Machine, Loading, Storing, MachineLoading, MachineStoring, Jumping, Branching, MachineBranching, Calling, Returning, Nothing, Joining, Extension, Anything, Zeros, Signs, meaning_of}
use Rattle.gi_meaning.specs.Memory.{Memory, above, with_byte, loaded, stored, with_byte_at, is_aligned}
use Rattle.gi_meaning.specs.Routine.{has_routine, InTwoWords}
use Rattle.gi_meaning.specs.Act.{Answer, Results, Leaves, Answers, AnswersWords, all_fitted, copied, copy, extended, from_loaded, load, machine_load, StoresThere, Stores, MachineStores, jump, machine_branch, LeavesFree, CallsGlobal, Calls, Act, AllReadAs, has_operands, result_registers, result_word, result_words, passed, words_of}
use Rattle.gi_refine.proofs.Basics.{value_holds}
use Rattle.gi_refine.proofs.Targets.{or_undefined}
use Rattle.gi_refine.specs.Worded.{is_implicit_definition, may_have_words}
use Rattle.gi_meaning.specs.State.{Event, World, IsWorld, Outside, AreWords, AreBytes, AreEvents}
use Rattle.gi_meaning.proofs.Numbers.{unsigned_below}
use Rattle.gi_refine.proofs.SizedOperations.{AreSmall, GivesWords, one_word, no_word, word_if, IsBounded, meaning_bounded}

-- ══ Answers ══

-- results are words and memory has bytes
abbrev pub IsAnswerSized : (x : ℕ) → Answer → Type 0
IsAnswerSized x (Results results outside) = AreWords x results × AreBytes outside.memory
IsAnswerSized x _ = Unit {0}

pub words_appended : (x : ℕ) (vs us : List ℕ) → AreWords x vs → AreWords x us → AreWords x (vs ++ us)
words_appended x [] us h l = l
words_appended x (v ∷ vs) us h l = (h.0, words_appended x vs us h.1 l)

fitted_small : (b : Bool) (x n v : ℕ) → v < 2 ^ x → cond b (wrapped n v) v < 2 ^ x
fitted_small true x n v h = omega (arith, mod-le v (2 ^ n))
fitted_small false x n v h = h

all_fitted_small : (x : ℕ) (widths vs : List ℕ) → AreWords x vs → AreWords x (all_fitted x widths vs)
all_fitted_small x [] vs h = h
all_fitted_small x (n ∷ widths) [] h = h
all_fitted_small x (n ∷ widths) (v ∷ vs) h = (fitted_small (nat_lt n x) x n v h.0, all_fitted_small x widths vs h.1)

answers_sized : (x : ℕ) (g : Given) (outside : Outside) (a : Answer) → GivesWords x g → AreBytes outside.memory → Answers g outside a → IsAnswerSized x a
answers_sized x Undefined outside a gives bytes h = subst (IsAnswerSized x) (sym h) tt
answers_sized x (Exactly results) outside a gives bytes h = subst (IsAnswerSized x) (sym h.2) (gives h.0 h.1, bytes)
answers_sized x (LowBits known width value) outside a gives bytes h = subst (IsAnswerSized x) (sym h.2) (gives h.0 h.1, bytes)

words_sized : (x : ℕ) (widths : List ℕ) (g : Given) (outside : Outside) (a : Answer) → GivesWords x g → AreBytes outside.memory → AnswersWords x widths g outside a → IsAnswerSized x a
words_sized x widths Undefined outside a gives bytes h = subst (IsAnswerSized x) (sym h) tt
words_sized x widths (Exactly results) outside a gives bytes h = subst (IsAnswerSized x) (sym h.2) (all_fitted_small x widths h.0 (gives h.0 h.1), bytes)
words_sized x widths (LowBits known width value) outside a gives bytes h = subst (IsAnswerSized x) (sym h.2) (all_fitted_small x widths h.0 (gives h.0 h.1), bytes)

-- ══ Copies and free words ══

abbrev pub AtMost : (x : ℕ) → List ℕ → Type 0
AtMost x [] = Unit {0}
AtMost x (n ∷ widths) = (n ≤ x) × AtMost x widths

free_small : (x known n value : ℕ) → n ≤ x → GivesWords x (LowBits known n value)
free_small x known n value within results is =
    let low : 2 ^ n ≤ 2 ^ x = pow-le-pow_right (lit< tt) within in
    subst (AreWords x) (sym is.3) (omega (arith, low, is.1), tt)

copied_small : (x m n value : ℕ) → n ≤ x → value < 2 ^ x → GivesWords x (copied m n value)
copied_small x m n value within h = either (nat_lt m n) (m == n)
  where
    either : (less same : Bool) → GivesWords x (if less then LowBits m n value else if same then one value else one (wrapped n value))
    either true same = free_small x m n value within
    either false true = one_word x value h
    either false false = one_word x (wrapped n value) (omega (arith, mod-le value (2 ^ n)))

copy_small : (x : ℕ) (widths : List ℕ) (arguments : List Argument) → AtMost x widths → AreSmall x arguments → GivesWords x (copy widths arguments)
copy_small x (n ∷ []) (Value m value ∷ []) within small = copied_small x m n value within.0 small.0
copy_small x _ _ within small = no_word x

nullary_small : (x : ℕ) (widths : List ℕ) (arguments : List Argument) → AtMost x widths → GivesWords x (nullary free widths arguments)
nullary_small x (n ∷ []) [] within = free_small x 0 n 0 within.0
nullary_small x _ _ within = no_word x

-- ══ Memory ══

byte_above : (x bits byte : ℕ) (high : Option ℕ) → byte < 256 → IfSome high (λ v. v < 2 ^ bits) → IfSome (above high byte) (λ v. v < 2 ^ (8 + bits))
byte_above x bits byte None h l = tt
byte_above x bits byte (Some v) h l =
    let e : 2 ^ (8 + bits) ≡ 2 ^ 8 * 2 ^ bits = pow-add 2 8 bits in
    omega (arith, e, l, h)

with_byte_small : (x bits : ℕ) (first : Option ℕ) (high : Option ℕ) → IfSome first (λ byte. byte < 256) → IfSome high (λ v. v < 2 ^ bits) → IfSome (with_byte first (above high)) (λ v. v < 2 ^ (8 + bits))
with_byte_small x bits None high h l = tt
with_byte_small x bits (Some byte) high h l = byte_above x bits byte high h l

pub loaded_small : (x bytes : ℕ) (memory : Memory) (address : ℕ) → AreBytes memory → IfSome (loaded x bytes memory address) (λ v. v < 2 ^ (8 * bytes))
loaded_small x zero memory address bytes = lit< tt
loaded_small x (suc k) memory address bytes =
    let e : 8 * suc k ≡ 8 + 8 * k = omega arith in
    subst (λ n. IfSome (loaded x (suc k) memory address) (λ v. v < 2 ^ n)) (sym e)
    (with_byte_small x (8 * k) (memory (wrapped x address)) (loaded x k memory (address + 1)) (bytes (wrapped x address)) (loaded_small x k memory (address + 1) bytes))

extended_small : (x m value : ℕ) (extension : Extension) → value < 2 ^ x → GivesWords x (extended extension m x value)
extended_small x m value Anything h = either (nat_lt m x) (m == x)
  where
    either : (less same : Bool) → GivesWords x (if less then LowBits m x value else if same then one value else Undefined)
    either true same = free_small x m x value (le_refl x)
    either false true = one_word x value h
    either false false = no_word x
extended_small x m value Zeros h = one_word x value h
extended_small x m value Signs h = one_word x (sign_extended m x value) (unsigned_below x _)

from_loaded_small : (x bits m : ℕ) (read : Option ℕ) (extension : Extension) → bits ≤ x → IfSome read (λ v. v < 2 ^ bits) → GivesWords x (from_loaded read extension m x)
from_loaded_small x bits m None extension within h = no_word x
from_loaded_small x bits m (Some v) extension within h =
    let low : 2 ^ bits ≤ 2 ^ x = pow-le-pow_right (lit< tt) within in
    extended_small x m v extension (omega (arith, low, h))

load_small : (x bytes address : ℕ) (extension : Extension) (memory : Memory) → 8 * bytes ≤ x → AreBytes memory → GivesWords x (load x bytes (bytes * 8) x extension memory address)
load_small x bytes address extension memory within are_bytes =
    let e : bytes * 8 / 8 ≡ bytes = omega arith in
    word_if x (is_aligned bytes address) (from_loaded (loaded x (bytes * 8 / 8) memory address) extension (bytes * 8) x)
    (from_loaded_small x (8 * (bytes * 8 / 8)) (bytes * 8) (loaded x (bytes * 8 / 8) memory address) extension (subst (λ k. 8 * k ≤ x) (sym e) within)
    (loaded_small x (bytes * 8 / 8) memory address are_bytes))

word_if_both : (x : ℕ) (a b : Bool) (g : Given) → (a ≡ true → GivesWords x g) → GivesWords x (if a && b then g else Undefined)
word_if_both x true true g h = h refl
word_if_both x true false g h = no_word x
word_if_both x false b g h = no_word x

pub machine_load_small : (x : ℕ) (exists : ℕ → Bool) (bytes : ℕ) (extension : Extension) (arguments : List Argument) (memory : Memory) → (exists x ≡ true → 8 * bytes ≤ x) → AreBytes memory
    → GivesWords x (machine_load x exists bytes extension arguments memory)
machine_load_small x exists bytes extension (Value l base ∷ Number offset ∷ []) memory within are_bytes =
    word_if_both x (exists x) (is_immediate offset) _ (λ there. load_small x bytes _ extension memory (within there) are_bytes)
machine_load_small x exists bytes extension _ memory within are_bytes = no_word x

pub stored_bytes : (x bytes : ℕ) (memory : Memory) (address value : ℕ) → AreBytes memory → AreBytes (stored x bytes memory address value)
stored_bytes x zero memory address value are_bytes = are_bytes
stored_bytes x (suc k) memory address value are_bytes =
    stored_bytes x k (with_byte_at memory (wrapped x address) (value % 256)) (address + 1) (value / 256)
    (λ a. value_holds (λ v. v < 256) (a == wrapped x address) (value % 256) (memory a) (λ same. mod-lt value (lit< tt)) (are_bytes a))

stores_there_sized : (x bytes address value : ℕ) (old : Option ℕ) (outside : Outside) (a : Answer) → AreBytes outside.memory → StoresThere old x bytes address value outside a → IsAnswerSized x a
stores_there_sized x bytes address value None outside a are_bytes h = subst (IsAnswerSized x) (sym h) tt
stores_there_sized x bytes address value (Some old) outside a are_bytes h = subst (IsAnswerSized x) (sym h) (tt, stored_bytes x bytes outside.memory address value are_bytes)

stores_sized : (x align bytes address value : ℕ) (outside : Outside) (a : Answer) → AreBytes outside.memory → Stores x align bytes address value outside a → IsAnswerSized x a
stores_sized x align bytes address value outside a are_bytes h =
    or_undefined (IsAnswerSized x) tt (is_aligned align address) (StoresThere (loaded x bytes outside.memory address) x bytes address value outside a) a
    (stores_there_sized x bytes address value (loaded x bytes outside.memory address) outside a are_bytes) h

machine_stores_sized : (x : ℕ) (exists : ℕ → Bool) (bytes : ℕ) (arguments : List Argument) (outside : Outside) (a : Answer) → AreBytes outside.memory → MachineStores x exists bytes arguments outside a → IsAnswerSized x a
machine_stores_sized x exists bytes (Value n value ∷ Value l base ∷ Number offset ∷ []) outside a are_bytes h =
    or_undefined (IsAnswerSized x) tt (exists x && is_immediate offset) (Stores x bytes bytes _ value outside a) a (stores_sized x bytes bytes _ value outside a are_bytes) h
machine_stores_sized x exists bytes _ outside a are_bytes h = subst (IsAnswerSized x) (sym h) tt

-- ══ Branches and calls ══

jump_sized : (x : ℕ) (arguments : List Argument) → IsAnswerSized x (jump arguments)
jump_sized x (To b ∷ []) = tt
jump_sized x _ = tt

either_leaves : (x : ℕ) (b : Bool) (c : ℕ) (outside : Outside) → AreBytes outside.memory → IsAnswerSized x (if b then Leaves c else Results [] outside)
either_leaves x true c outside are_bytes = tt
either_leaves x false c outside are_bytes = (tt, are_bytes)

machine_branch_sized : (x : ℕ) (test : ℕ → ℕ → ℕ → Bool) (arguments : List Argument) (outside : Outside) → AreBytes outside.memory → IsAnswerSized x (machine_branch x test arguments outside)
machine_branch_sized x test (Value l v ∷ Value m u ∷ To b ∷ []) outside are_bytes = either_leaves x (test x v u) b outside are_bytes
machine_branch_sized x test _ outside are_bytes = tt

leaves_free_sized : (x : ℕ) (results : List ℕ) (outside : Outside) (a : Answer) → AreWords x results → AreBytes outside.memory → LeavesFree x results outside a → IsAnswerSized x a
leaves_free_sized x results outside a words are_bytes h = subst (IsAnswerSized x) (sym h.3) (words_appended x h.0 results h.1 words, are_bytes)

event_sized : (x : ℕ) (events : List Event) (k : ℕ) (event : Event) → AreEvents x events → slice_get events k ≡ Some event → AreWords x event.results × AreBytes event.after
event_sized x [] k event are h = absurd (none_is (slice_get [] k) refl h)
  where
    none_is : (o : Option Event) → o ≡ None → o ≡ Some event → ⊥
    none_is o e l = cc
event_sized x (e ∷ events) zero event are h = subst (λ k. AreWords x (k.results) × AreBytes (k.after)) (ap (λ o. unwrap_or o e) h) (are.0, are.1)
event_sized x (e ∷ events) (suc k) event are h = event_sized x events k event are.2 h

calls_global_sized : (x : ℕ) (w : World) → IsWorld x w → (callee words : List ℕ) (results : ℕ) (outside : Outside) (a : Answer) → CallsGlobal x w callee words results outside a → IsAnswerSized x a
calls_global_sized x w is_world callee words results outside a = ⊎_elim
    (λ met.
    let sized : AreWords x (met.0).results × AreBytes (met.0).after = event_sized x w.trace outside.taken met.0 is_world.trace met.1 in
    leaves_free_sized x (met.0).results (record { memory = (met.0).after; taken = outside.taken + 1 }) a sized.0 sized.1 met.3)
    (λ none. subst (IsAnswerSized x) (sym none.1) tt)

two_parts_small : (x value : ℕ) → AreWords x (parts_of (x ∷ x ∷ []) value)
two_parts_small x value = (mod-lt value (pow_pos x), (mod-lt (value / 2 ^ x) (pow_pos x), tt))

two_words_small : (x : ℕ) (g : Given) (words : List ℕ) → InTwoWords x g words → AreWords x words
two_words_small x (Exactly (value ∷ [])) words h = subst (AreWords x) (sym h) (two_parts_small x value)
two_words_small x (Exactly []) words h = h.0
two_words_small x (Exactly (v ∷ u ∷ vs)) words h = h.0
two_words_small x (LowBits known width value) words h = h.0
two_words_small x Undefined words h = h.0

-- so is what a call gives of them
chosen_small : (x : ℕ) (b : Bool) (u v : ℕ) → u < 2 ^ x → v < 2 ^ x → cond b u v < 2 ^ x
chosen_small x true u v first second = first
chosen_small x false u v first second = second

result_word_small : (x : ℕ) (words : List ℕ) (register : ℕ) → AreWords x words → result_word words register < 2 ^ x
result_word_small x [] register h = pow_pos x
result_word_small x (u ∷ []) register h = pow_pos x
result_word_small x (u ∷ v ∷ []) register h = chosen_small x (register == 10) u v h.0 h.1.0
result_word_small x (u ∷ v ∷ z ∷ words) register h = pow_pos x

result_words_small : (x : ℕ) (words registers : List ℕ) → AreWords x words → AreWords x (result_words words registers)
result_words_small x words [] h = tt
result_words_small x words (r ∷ registers) h = (result_word_small x words r h, result_words_small x words registers h)

calls_sized : (x : ℕ) (w : World) → IsWorld x w → (arguments : List Argument) (outside : Outside) (a : Answer) → AreBytes outside.memory → Calls x w arguments outside a → IsAnswerSized x a
calls_sized x w is_world (Symbol Call callee address ∷ rest) outside a are_bytes h =
    calls_global_sized x w is_world callee (words_of (passed rest)) (length (result_registers rest)) outside a h
calls_sized x w is_world (Called Call routine ∷ rest) outside a are_bytes h =
    or_undefined (IsAnswerSized x) tt (has_operands (passed rest) && has_routine x routine) _ a
    (λ answered. leaves_free_sized x (result_words answered.0 (result_registers rest)) outside a
    (result_words_small x answered.0 (result_registers rest) (two_words_small x _ answered.0 answered.1)) are_bytes answered.2) h
calls_sized x w is_world (Symbol Plain callee address ∷ rest) outside a are_bytes h = subst (IsAnswerSized x) (sym h) tt
calls_sized x w is_world (Symbol Hi callee address ∷ rest) outside a are_bytes h = subst (IsAnswerSized x) (sym h) tt
calls_sized x w is_world (Symbol Lo callee address ∷ rest) outside a are_bytes h = subst (IsAnswerSized x) (sym h) tt
calls_sized x w is_world (Called Plain routine ∷ rest) outside a are_bytes h = subst (IsAnswerSized x) (sym h) tt
calls_sized x w is_world (Called Hi routine ∷ rest) outside a are_bytes h = subst (IsAnswerSized x) (sym h) tt
calls_sized x w is_world (Called Lo routine ∷ rest) outside a are_bytes h = subst (IsAnswerSized x) (sym h) tt
calls_sized x w is_world _ outside a are_bytes h = subst (IsAnswerSized x) (sym h) tt

-- ══ The meanings ══

abbrev pub IsPlain : Meaning → Type 0
IsPlain (Generic gives) = ⊥
IsPlain (Loading extension) = ⊥
IsPlain Storing = ⊥
IsPlain Branching = ⊥
IsPlain Joining = ⊥
IsPlain _ = Unit {0}

implicit_is : (o : Opcode) → is_implicit_definition o ≡ true → o ≡ op.ImplicitDef
implicit_is op.ImplicitDef h = refl
implicit_is _ h = cc

plain_by : (m : Meaning) (o : Opcode) (os : List Operand) → (is_implicit_definition o ≡ true → m ≡ Generic (nullary free)) → may_have_words m o os ≡ true → (m ≡ Generic (nullary free)) ⊎ IsPlain m
plain_by (Generic gives) o os is h = inl (is h)
plain_by (Loading extension) o os is h = inr (absurd (false_is h))
  where
    false_is : false ≡ true → ⊥
    false_is e = cc
plain_by Storing o os is h = cc
plain_by Branching o os is h = cc
plain_by Joining o os is h = cc
plain_by Copying o os is h = inr tt
plain_by _ o os is h = inr tt

pub plain_or_free : (flags : Flags) (o : Opcode) (os : List Operand) → may_have_words (meaning_of flags o) o os ≡ true → (meaning_of flags o ≡ Generic (nullary free)) ⊎ IsPlain (meaning_of flags o)
plain_or_free flags o os h = plain_by (meaning_of flags o) o os (λ is. ap (meaning_of flags) (implicit_is o is)) h

-- words are read as words
word_read_small : (x width value : ℕ) (b : Bool) (word : Argument) (rest : List Argument) → value < 2 ^ x → AreSmall x rest
    → cond b ((v : ℕ) × (v < 2 ^ x) × (v % 2 ^ width ≡ value % 2 ^ width) × (word ≡ Value x v)) (word ≡ Value width value) → AreSmall x (word ∷ rest)
word_read_small x width value true word rest small more h = subst (λ u. AreSmall x (u ∷ rest)) (sym h.3) (h.1, more)
word_read_small x width value false word rest small more h = subst (λ u. AreSmall x (u ∷ rest)) (sym h) (small, more)

pub reads_small : (x : ℕ) (arguments words : List Argument) → AreSmall x arguments → AllReadAs x arguments words → AreSmall x words
reads_small x [] words small reads = subst (AreSmall x) (sym reads) tt
reads_small x (Value width value ∷ arguments) words small reads =
    subst (AreSmall x) (sym reads.4) (word_read_small x width value (nat_lt width x) reads.0 reads.1 small.0 (reads_small x arguments reads.1 small.1 reads.3) reads.2)
reads_small x (Number z ∷ arguments) words small reads =
    subst (AreSmall x) (sym reads.4) (subst (λ u. AreSmall x (u ∷ reads.1)) (sym reads.2) (reads_small x arguments reads.1 small reads.3))
reads_small x (argument ∷ arguments) words small reads =
    subst (AreSmall x) (sym reads.4) (subst (λ u. AreSmall x (u ∷ reads.1)) (sym reads.2) (reads_small x arguments reads.1 small reads.3))

plain_sized : (x : ℕ) (w : World) → IsWorld x w → (m : Meaning) (mem : Option MemOp) (widths : List ℕ) (arguments : List Argument) (outside : Outside) (a : Answer) → IsPlain m → IsBounded x m → AtMost x widths
    → AreSmall x arguments → AreBytes outside.memory → Act x w m mem widths arguments outside a → IsAnswerSized x a
plain_sized x w is_world Copying mem widths arguments outside a plain bounded within small are_bytes h =
    answers_sized x (copy widths arguments) outside a (copy_small x widths arguments within small) are_bytes h
plain_sized x w is_world (Generic gives) mem widths arguments outside a plain bounded within small are_bytes h = absurd plain
plain_sized x w is_world (Machine gives) mem widths arguments outside a plain bounded within small are_bytes h =
    words_sized x widths (gives x h.0) outside a (bounded h.0 (reads_small x arguments h.0 small h.1)) are_bytes h.2
plain_sized x w is_world (Loading extension) mem widths arguments outside a plain bounded within small are_bytes h = absurd plain
plain_sized x w is_world Storing mem widths arguments outside a plain bounded within small are_bytes h = absurd plain
plain_sized x w is_world (MachineLoading exists bytes extension) mem widths arguments outside a plain bounded within small are_bytes h =
    words_sized x widths (machine_load x exists bytes extension h.0 outside.memory) outside a (machine_load_small x exists bytes extension h.0 outside.memory bounded are_bytes) are_bytes h.2
plain_sized x w is_world (MachineStoring exists bytes) mem widths arguments outside a plain bounded within small are_bytes h = machine_stores_sized x exists bytes h.0 outside a are_bytes h.2
plain_sized x w is_world Jumping mem widths arguments outside a plain bounded within small are_bytes h = subst (IsAnswerSized x) (sym h) (jump_sized x arguments)
plain_sized x w is_world Branching mem widths arguments outside a plain bounded within small are_bytes h = absurd plain
plain_sized x w is_world (MachineBranching test) mem widths arguments outside a plain bounded within small are_bytes h = subst (IsAnswerSized x) (sym h.2) (machine_branch_sized x test h.0 outside are_bytes)
plain_sized x w is_world Calling mem widths arguments outside a plain bounded within small are_bytes h = calls_sized x w is_world arguments outside a are_bytes h
plain_sized x w is_world Returning mem widths arguments outside a plain bounded within small are_bytes h = subst (IsAnswerSized x) (sym h) tt
plain_sized x w is_world Nothing mem widths arguments outside a plain bounded within small are_bytes h = subst (IsAnswerSized x) (sym h) (tt, are_bytes)
plain_sized x w is_world Joining mem widths arguments outside a plain bounded within small are_bytes h = absurd plain

pub act_sized : (x : ℕ) → 32 ≤ x → (w : World) → IsWorld x w → (flags : Flags) (o : Opcode) (os : List Operand) (mem : Option MemOp) (widths : List ℕ) (arguments : List Argument) (outside : Outside) (a : Answer)
    → may_have_words (meaning_of flags o) o os ≡ true → AtMost x widths → AreSmall x arguments → AreBytes outside.memory → Act x w (meaning_of flags o) mem widths arguments outside a → IsAnswerSized x a
act_sized x wide w is_world flags o os mem widths arguments outside a worded within small are_bytes act = ⊎_elim
    (λ is. answers_sized x (nullary free widths arguments) outside a (nullary_small x widths arguments within) are_bytes (subst (λ m. Act x w m mem widths arguments outside a) is act))
    (λ plain. plain_sized x w is_world (meaning_of flags o) mem widths arguments outside a plain (meaning_bounded x wide flags o) within small are_bytes act)
    (plain_or_free flags o os worded)
