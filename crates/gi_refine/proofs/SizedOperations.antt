-- What operations of RISC-V give on words are words.
use Rattle.std.proofs.Common.{◌≡◌, ℕ, ◌+◌, ◌*◌, ◌^◌, ◌<◌, ◌≤◌, Bool, true, false, ◌==◌, if◌then◌else◌, List, [], ◌∷◌, sym, subst, arith}
use Rattle.std.proofs.lemmas.Bool.{eqb-true}
use Rattle.std.proofs.lemmas.Nat.{pow_pos}
use Rattle.std.proofs.Math.Nat.{mod-lt}
use Rattle.gi_llt.specs.Bits.{unsigned}
use Rattle.gi_mir.specs.declared.opcode.Opcode.{Opcode}
use Rattle.gi_mir.specs.declared.opcode.Opcode.TheVariants as op
use Rattle.gi_mir.specs.declared.operand.Flags.{Flags}
use Rattle.gi_mir.specs.declared.operand.SymbolFlag.TheVariants.{Hi, Lo}
use Rattle.gi_meaning.specs.Argument.{Argument, Value, Number, Symbol}
use Rattle.gi_meaning.specs.Given.{Given, Undefined, IsGiven, one}
use Rattle.gi_meaning.specs.Machine.{sum_word, is_immediate, is_amount, on_words, on_immediate, add_immediate, by_amount, load_upper, on_rv64, on_low_half, rest_of}
use Rattle.gi_meaning.specs.Meaning.{Meaning, Machine, MachineLoading, meaning_of}
use Rattle.gi_meaning.specs.State.{AreWords}
use Rattle.gi_meaning.specs.Words.{word_of}
use Rattle.gi_meaning.specs.declared.words.Operation.{Operation}
use Rattle.gi_meaning.specs.declared.words.Operation.TheVariants as operation
use Rattle.gi_meaning.proofs.Immediates.{word_below}
use Rattle.gi_meaning.proofs.Numbers.{unsigned_below}

-- ══ Operations ══

abbrev pub AreSmall : (x : ℕ) → List Argument → Type 0
AreSmall x [] = Unit {0}
AreSmall x (Value width value ∷ arguments) = (value < 2 ^ x) × AreSmall x arguments
AreSmall x (_ ∷ arguments) = AreSmall x arguments

-- what is given are words
abbrev pub GivesWords : (x : ℕ) → Given → Type 0
GivesWords x g = (results : List ℕ) → IsGiven g results → AreWords x results

pub one_word : (x v : ℕ) → v < 2 ^ x → GivesWords x (one v)
one_word x v h results is = subst (AreWords x) (sym is) (h, tt)

pub no_word : (x : ℕ) → GivesWords x Undefined
no_word x results is = absurd is

pub word_if : (x : ℕ) (b : Bool) (g : Given) → GivesWords x g → GivesWords x (if b then g else Undefined)
word_if x true g h = h
word_if x false g h = no_word x

on_words_small : (f : ℕ → ℕ → ℕ → ℕ) (x : ℕ) → ((a b : ℕ) → a < 2 ^ x → b < 2 ^ x → f x a b < 2 ^ x) → (arguments : List Argument) → AreSmall x arguments → GivesWords x (on_words f x arguments)
on_words_small f x h (Value l a ∷ Value m b ∷ []) small = one_word x (f x a b) (h a b small.0 small.1.0)
on_words_small f x h _ small = no_word x

on_immediate_small : (f : ℕ → ℕ → ℕ → ℕ) (x : ℕ) → ((a b : ℕ) → a < 2 ^ x → b < 2 ^ x → f x a b < 2 ^ x) → (arguments : List Argument) → AreSmall x arguments → GivesWords x (on_immediate f x arguments)
on_immediate_small f x h (Value l a ∷ Number i ∷ []) small =
    word_if x (is_immediate i) (one (f x a (unsigned x i))) (one_word x (f x a (unsigned x i)) (h a (unsigned x i) small.0 (unsigned_below x i)))
on_immediate_small f x h _ small = no_word x

add_immediate_small : (x : ℕ) → ((a b : ℕ) → a < 2 ^ x → b < 2 ^ x → sum_word x a b < 2 ^ x) → (arguments : List Argument) → AreSmall x arguments → GivesWords x (add_immediate x arguments)
add_immediate_small x h (Value l a ∷ Symbol Lo name address ∷ []) small = one_word x (sum_word x a (rest_of x address)) (mod-lt (a + rest_of x address) (pow_pos x))
add_immediate_small x h (Value l a ∷ Number i ∷ []) small = on_immediate_small sum_word x h (Value l a ∷ Number i ∷ []) small
add_immediate_small x h _ small = no_word x

by_amount_small : (limit : ℕ → ℕ) (f : ℕ → ℕ → ℕ → ℕ) (x : ℕ) → ((a b : ℕ) → a < 2 ^ x → b < 2 ^ x → f x a b < 2 ^ x) → (arguments : List Argument) → AreSmall x arguments → GivesWords x (by_amount limit f x arguments)
by_amount_small limit f x h (Value l a ∷ Number i ∷ []) small =
    word_if x (is_amount (limit x) i) (one (f x a (unsigned x i))) (one_word x (f x a (unsigned x i)) (h a (unsigned x i) small.0 (unsigned_below x i)))
by_amount_small limit f x h _ small = no_word x

load_upper_small : (x : ℕ) (arguments : List Argument) → GivesWords x (load_upper x arguments)
load_upper_small x (Number i ∷ []) = word_if x (is_amount (2 ^ 20) i) _ (one_word x _ (unsigned_below x _))
load_upper_small x (Symbol Hi name address ∷ []) = one_word x _ (unsigned_below x _)
load_upper_small x _ = no_word x

on_rv64_small : (f : ℕ → List Argument → Given) (x : ℕ) (arguments : List Argument) → GivesWords x (f x arguments) → GivesWords x (on_rv64 f x arguments)
on_rv64_small f x arguments h = word_if x (x == 64) (f x arguments) h

low_half_small : (f : ℕ → ℕ → ℕ → ℕ) (x a b : ℕ) → on_low_half f x a b < 2 ^ x
low_half_small f x a b = unsigned_below x _

-- what a meaning promises of words
abbrev pub IsBounded : (x : ℕ) → Meaning → Type 0
IsBounded x (Machine gives) = (arguments : List Argument) → AreSmall x arguments → GivesWords x (gives x arguments)
IsBounded x (MachineLoading exists bytes extension) = exists x ≡ true → 8 * bytes ≤ x
IsBounded x _ = Unit {0}

only_64_is : (x : ℕ) → (x == 64) ≡ true → 64 ≤ x
only_64_is x h = let e : x ≡ 64 = eqb-true x 64 h in omega (arith, e)

two_words : (o : Operation) (x : ℕ) → 32 ≤ x → (arguments : List Argument) → AreSmall x arguments → GivesWords x (on_words (word_of o) x arguments)
two_words o x wide arguments small = on_words_small (word_of o) x (λ a b h l. word_below o x a b (omega arith) h l) arguments small

word_and_immediate : (o : Operation) (x : ℕ) → 32 ≤ x → (arguments : List Argument) → AreSmall x arguments → GivesWords x (on_immediate (word_of o) x arguments)
word_and_immediate o x wide arguments small = on_immediate_small (word_of o) x (λ a b h l. word_below o x a b (omega arith) h l) arguments small

word_by_amount : (o : Operation) (x : ℕ) → 32 ≤ x → (arguments : List Argument) → AreSmall x arguments → GivesWords x (by_amount (λ y. y) (word_of o) x arguments)
word_by_amount o x wide arguments small = by_amount_small (λ y. y) (word_of o) x (λ a b h l. word_below o x a b (omega arith) h l) arguments small

half_words : (o : Operation) (x : ℕ) (arguments : List Argument) → AreSmall x arguments → GivesWords x (on_rv64 (on_words (on_low_half (word_of o))) x arguments)
half_words o x arguments small =
    on_rv64_small (on_words (on_low_half (word_of o))) x arguments (on_words_small (on_low_half (word_of o)) x (λ a b h l. low_half_small (word_of o) x a b) arguments small)

half_and_immediate : (o : Operation) (x : ℕ) (arguments : List Argument) → AreSmall x arguments → GivesWords x (on_rv64 (on_immediate (on_low_half (word_of o))) x arguments)
half_and_immediate o x arguments small =
    on_rv64_small (on_immediate (on_low_half (word_of o))) x arguments (on_immediate_small (on_low_half (word_of o)) x (λ a b h l. low_half_small (word_of o) x a b) arguments small)

half_by_amount : (o : Operation) (x : ℕ) (arguments : List Argument) → AreSmall x arguments → GivesWords x (on_rv64 (by_amount (λ y. 32) (on_low_half (word_of o))) x arguments)
half_by_amount o x arguments small =
    on_rv64_small (by_amount (λ y. 32) (on_low_half (word_of o))) x arguments (by_amount_small (λ y. 32) (on_low_half (word_of o)) x (λ a b h l. low_half_small (word_of o) x a b) arguments small)

pub meaning_bounded : (x : ℕ) → 32 ≤ x → (flags : Flags) (o : Opcode) → IsBounded x (meaning_of flags o)
meaning_bounded x wide flags op.Add = two_words operation.Sum x wide
meaning_bounded x wide flags op.Subtract = two_words operation.Difference x wide
meaning_bounded x wide flags op.And = two_words operation.And x wide
meaning_bounded x wide flags op.Or = two_words operation.Or x wide
meaning_bounded x wide flags op.Xor = two_words operation.Xor x wide
meaning_bounded x wide flags op.SetLess = two_words operation.Less x wide
meaning_bounded x wide flags op.SetLessUnsigned = two_words operation.LessUnsigned x wide
meaning_bounded x wide flags op.ShiftLeftLogical = two_words operation.Left x wide
meaning_bounded x wide flags op.ShiftRightLogical = two_words operation.Right x wide
meaning_bounded x wide flags op.ShiftRightArithmetic = two_words operation.ArithmeticRight x wide
meaning_bounded x wide flags op.Multiply = two_words operation.Product x wide
meaning_bounded x wide flags op.MultiplyHigh = two_words operation.High x wide
meaning_bounded x wide flags op.MultiplyHighUnsigned = two_words operation.HighUnsigned x wide
meaning_bounded x wide flags op.Divide = two_words operation.Quotient x wide
meaning_bounded x wide flags op.DivideUnsigned = two_words operation.QuotientUnsigned x wide
meaning_bounded x wide flags op.Remainder = two_words operation.Remainder x wide
meaning_bounded x wide flags op.RemainderUnsigned = two_words operation.RemainderUnsigned x wide
meaning_bounded x wide flags op.AddImmediate = add_immediate_small x (λ a b h l. word_below operation.Sum x a b (omega arith) h l)
meaning_bounded x wide flags op.SetLessImmediate = word_and_immediate operation.Less x wide
meaning_bounded x wide flags op.SetLessImmediateUnsigned = word_and_immediate operation.LessUnsigned x wide
meaning_bounded x wide flags op.AndImmediate = word_and_immediate operation.And x wide
meaning_bounded x wide flags op.OrImmediate = word_and_immediate operation.Or x wide
meaning_bounded x wide flags op.XorImmediate = word_and_immediate operation.Xor x wide
meaning_bounded x wide flags op.ShiftLeftLogicalImmediate = word_by_amount operation.Left x wide
meaning_bounded x wide flags op.ShiftRightLogicalImmediate = word_by_amount operation.Right x wide
meaning_bounded x wide flags op.ShiftRightArithmeticImmediate = word_by_amount operation.ArithmeticRight x wide
meaning_bounded x wide flags op.LoadUpperImmediate = λ arguments small. load_upper_small x arguments
meaning_bounded x wide flags op.AddWord = half_words operation.Sum x
meaning_bounded x wide flags op.SubtractWord = half_words operation.Difference x
meaning_bounded x wide flags op.MultiplyWord = half_words operation.Product x
meaning_bounded x wide flags op.ShiftLeftLogicalWord = half_words operation.Left x
meaning_bounded x wide flags op.ShiftRightLogicalWord = half_words operation.Right x
meaning_bounded x wide flags op.ShiftRightArithmeticWord = half_words operation.ArithmeticRight x
meaning_bounded x wide flags op.DivideWord = half_words operation.Quotient x
meaning_bounded x wide flags op.DivideUnsignedWord = half_words operation.QuotientUnsigned x
meaning_bounded x wide flags op.RemainderWord = half_words operation.Remainder x
meaning_bounded x wide flags op.RemainderUnsignedWord = half_words operation.RemainderUnsigned x
meaning_bounded x wide flags op.AddImmediateWord = half_and_immediate operation.Sum x
meaning_bounded x wide flags op.ShiftLeftLogicalImmediateWord = half_by_amount operation.Left x
meaning_bounded x wide flags op.ShiftRightLogicalImmediateWord = half_by_amount operation.Right x
meaning_bounded x wide flags op.ShiftRightArithmeticImmediateWord = half_by_amount operation.ArithmeticRight x
meaning_bounded x wide flags op.LoadByte = λ there. omega arith
meaning_bounded x wide flags op.LoadHalf = λ there. omega arith
meaning_bounded x wide flags op.LoadWord = λ there. omega arith
meaning_bounded x wide flags op.LoadByteUnsigned = λ there. omega arith
meaning_bounded x wide flags op.LoadHalfUnsigned = λ there. omega arith
meaning_bounded x wide flags op.LoadWordUnsigned = λ there. let big : 64 ≤ x = only_64_is x there in omega arith
meaning_bounded x wide flags op.LoadDouble = λ there. only_64_is x there
meaning_bounded x wide flags _ = tt
