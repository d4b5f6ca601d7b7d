-- The results of an instruction that passes a test fit their widths.
use Rattle.std.proofs.Common.{◌≡◌, ℕ, ◌+◌, ◌*◌, ◌/◌, ◌^◌, ◌<◌, ◌==◌, Bool, true, false, cond, ◌&&◌, List, [], ◌∷◌, ◌++◌, Option, Some, None, option_map, refl, sym, subst, eqb-true, ◌%◌, ◌||◌, not}
use Rattle.std.specs.Prelude.{IfSome, nat_lt, nat_le, pos, int_div, int_rem, nat_abs, not}
use Rattle.std.proofs.lemmas.Nat.{pow_pos, mod_below}
use Rattle.gi_llt.specs.Bits.{wrapped, signed, unsigned}
use Rattle.gi_mir.specs.declared.opcode.Opcode.{Opcode}
use Rattle.gi_mir.specs.declared.opcode.Opcode.TheVariants as op
use Rattle.gi_mir.specs.declared.operand.Flags.{Flags}
use Rattle.gi_mir.specs.declared.operand.MemOp.{MemOp}
use Rattle.gi_mir.specs.declared.operand.Operand.{Operand}
use Rattle.gi_mir.specs.declared.operand.Operand.TheVariants as operand
use Rattle.gi_meaning.specs.Argument.{Argument, Value, To, Number}
use Rattle.gi_meaning.specs.Given.{Given, Exactly, LowBits, Undefined, IsGiven, one, free, unless_broken}
use Rattle.gi_meaning.specs.Generic.{nullary, unary, binary, unmerge, parts_of, ternary, extension_in_register, signed_quotient, signed_remainder, overflows_division}
use Rattle.gi_meaning.specs.State.{World, IsWorld, State, Outside}
use Rattle.gi_meaning.specs.Meaning.{Meaning, Copying, Generic, Jumping, Branching, MachineBranching, Returning, Nothing, meaning_of}
use Rattle.gi_meaning.specs.Act.{Answer, Results, Leaves, Act, Answers, copy, jump, branch, machine_branch}
use Rattle.gi_meaning.specs.Runs.{Setting, argument_of, arguments_of, joined_lists}
use Rattle.gi_refine.specs.Fitting.{IsFit, always_fits}
use Rattle.gi_refine.proofs.Basics.{word_holds}
use Rattle.gi_meaning.proofs.Numbers.{unsigned_below}

-- ══ What operations give ══

abbrev pub AreFit : (widths values : List ℕ) → Type 0
AreFit (n ∷ ns) (v ∷ vs) = (v < 2 ^ n) × AreFit ns vs
AreFit _ _ = Unit {0}

abbrev GivenFits : (widths : List ℕ) → Given → Type 0
GivenFits widths given = (results : List ℕ) → IsGiven given results → AreFit widths results

pub one_fits : (n v : ℕ) → v < 2 ^ n → GivenFits (n ∷ []) (one v)
one_fits n v fits results h = subst (AreFit (n ∷ [])) (sym h) (fits, tt)

low_bits_fit : (k n v : ℕ) → GivenFits (n ∷ []) (LowBits k n v)
low_bits_fit k n v results h = subst (AreFit (n ∷ [])) (sym h.3) (h.1, tt)

unless_fits : (b : Bool) (n v : ℕ) → v < 2 ^ n → GivenFits (n ∷ []) (unless_broken b n v)
unless_fits true n v fits = low_bits_fit 0 n 0
unless_fits false n v fits = one_fits n v fits

wrapped_fits : (n v : ℕ) → wrapped n v < 2 ^ n
wrapped_fits n v = mod_below v (2 ^ n) (pow_pos n)

-- a value of m bits in a place of n, where they may be one
pub in_place_fits : (m n v : ℕ) (less same : Bool) → (m == n) ≡ same → v < 2 ^ m → GivenFits (n ∷ []) (cond less (LowBits m n v) (cond same (one v) Undefined))
in_place_fits m n v true same is fits = low_bits_fit m n v
in_place_fits m n v false true is fits = one_fits n v (subst (λ k. v < 2 ^ k) (eqb-true m n is) fits)
in_place_fits m n v false false is fits = λ results h. absurd h

copied_fits : (m n v : ℕ) (b c : Bool) → (m == n) ≡ c → v < 2 ^ m → GivenFits (n ∷ []) (cond b (LowBits m n v) (cond c (one v) (one (wrapped n v))))
copied_fits m n v true c same fits = low_bits_fit m n v
copied_fits m n v false true same fits = one_fits n v (subst (λ k. v < 2 ^ k) (eqb-true m n same) fits)
copied_fits m n v false false same fits = one_fits n (wrapped n v) (wrapped_fits n v)

shifted_fits : (b c : Bool) (n v : ℕ) → v < 2 ^ n → GivenFits (n ∷ []) (cond b (free n) (unless_broken c n v))
shifted_fits true c n v fits = low_bits_fit 0 n 0
shifted_fits false c n v fits = unless_fits c n v fits

partial_fits : (b : Bool) (n : ℕ) (given : Given) → GivenFits (n ∷ []) given → GivenFits (n ∷ []) (cond b Undefined given)
partial_fits true n given fits = λ results h. absurd h
partial_fits false n given fits = fits

quotient_fits : (flags : Flags) (n a b : ℕ) → GivenFits (n ∷ []) (signed_quotient flags n a b)
quotient_fits flags n a b =
    let given : ℕ = unsigned n (int_div (signed n a) (signed n b)) in
    let broken : Bool = flags.exact && not (nat_abs (signed n a) % nat_abs (signed n b) == 0) in
    partial_fits ((b == 0) || overflows_division n a b) n (unless_broken broken n given) (unless_fits broken n given (unsigned_below n (int_div (signed n a) (signed n b))))

remainder_fits : (n a b : ℕ) → GivenFits (n ∷ []) (signed_remainder n a b)
remainder_fits n a b =
    let given : ℕ = unsigned n (int_rem (signed n a) (signed n b)) in
    partial_fits ((b == 0) || overflows_division n a b) n (one given) (one_fits n given (unsigned_below n (int_rem (signed n a) (signed n b))))

parts_fit : (widths : List ℕ) (v : ℕ) → AreFit widths (parts_of widths v)
parts_fit [] v = tt
parts_fit (n ∷ ns) v = (mod_below v (2 ^ n) (pow_pos n), parts_fit ns (v / 2 ^ n))

-- ══ Arguments ══

abbrev IsArgumentFit : Argument → Type 0
IsArgumentFit (Value width value) = value < 2 ^ width
IsArgumentFit _ = Unit {0}

abbrev pub AreArgumentsFit : List Argument → Type 0
AreArgumentsFit [] = Unit {0}
AreArgumentsFit (argument ∷ arguments) = IsArgumentFit argument × AreArgumentsFit arguments

abbrev pub AreThereFit : Option (List Argument) → Type 0
AreThereFit None = Unit {0}
AreThereFit (Some arguments) = AreArgumentsFit arguments

appended_fit : (a b : List Argument) → AreArgumentsFit a → AreArgumentsFit b → AreArgumentsFit (a ++ b)
appended_fit [] b h g = g
appended_fit (argument ∷ a) b h g = (h.0, appended_fit a b h.1 g)

joined_fit : (a b : Option (List Argument)) → AreThereFit a → AreThereFit b → AreThereFit (joined_lists a b)
joined_fit None b h g = tt
joined_fit (Some a) None h g = tt
joined_fit (Some a) (Some b) h g = appended_fit a b h g

use_fit : (width : ℕ) (value : Option ℕ) → IfSome value (λ v. v < 2 ^ width) → AreThereFit (option_map (λ v. Value width v ∷ []) value)
use_fit width None h = tt
use_fit width (Some v) h = (h, tt)

argument_fit : (s : Setting) (w : World) → IsWorld s.x w → (state : State) → IsFit s state → (o : Operand) → AreThereFit (argument_of s w state o)
argument_fit s w is_world state fit (operand.Use r) = use_fit (s.width r.0) (state.values r.0) (fit.values r.0)
argument_fit s w is_world state fit (operand.Phys n) = (word_holds (λ u. u < 2 ^ s.x) (n == 0) 0 (state.words n) (pow_pos s.x) (fit.words n), tt)
argument_fit s w is_world state fit (operand.Frame object) = (is_world.stack object, tt)
argument_fit s w is_world state fit (operand.Def r kind) = tt
argument_fit s w is_world state fit (operand.PhysDef n) = tt
argument_fit s w is_world state fit _ = (tt, tt)

pub arguments_fit : (s : Setting) (w : World) → IsWorld s.x w → (state : State) → IsFit s state → (os : List Operand) → AreThereFit (arguments_of s w state os)
arguments_fit s w is_world state fit [] = tt
arguments_fit s w is_world state fit (o ∷ os) =
    joined_fit (argument_of s w state o) (arguments_of s w state os) (argument_fit s w is_world state fit o) (arguments_fit s w is_world state fit os)

-- ══ Meanings ══

abbrev GivesFit : (gives : List ℕ → List Argument → Given) → Type 0
GivesFit gives = (widths : List ℕ) (arguments : List Argument) → AreArgumentsFit arguments → GivenFits widths (gives widths arguments)

nullary_fits : (f : ℕ → Given) → ((n : ℕ) → GivenFits (n ∷ []) (f n)) → GivesFit (nullary f)
nullary_fits f h (n ∷ []) [] fits = h n
nullary_fits f h _ _ fits = λ results given. absurd given

unary_fits : (f : ℕ → ℕ → ℕ → Given) → ((m n a : ℕ) → a < 2 ^ m → GivenFits (n ∷ []) (f m n a)) → GivesFit (unary f)
unary_fits f h (n ∷ []) (Value m a ∷ []) fits = h m n a fits.0
unary_fits f h _ _ fits = λ results given. absurd given

binary_fits : (f : ℕ → ℕ → ℕ → Given) → ((n a b : ℕ) → GivenFits (n ∷ []) (f n a b)) → GivesFit (binary f)
binary_fits f h (n ∷ []) (Value l a ∷ Value m b ∷ []) fits = h n a b
binary_fits f h _ _ fits = λ results given. absurd given

ternary_fits : (f : ℕ → ℕ → ℕ → ℕ → Given) → ((n a b c : ℕ) → GivenFits (n ∷ []) (f n a b c)) → GivesFit (ternary f)
ternary_fits f h (n ∷ []) (Value l a ∷ Value m b ∷ Value k c ∷ []) fits = h n a b c
ternary_fits f h _ _ fits = λ results given. absurd given

in_register_fits : GivesFit extension_in_register
in_register_fits (n ∷ []) (Value m a ∷ Number (pos k) ∷ []) fits = one_fits n _ (unsigned_below n _)
in_register_fits _ _ fits = λ results given. absurd given

unmerge_fits : GivesFit unmerge
unmerge_fits widths (Value m a ∷ []) fits = λ results given. subst (AreFit widths) (sym given) (parts_fit widths a)
unmerge_fits _ _ fits = λ results given. absurd given

copy_fits : GivesFit copy
copy_fits (n ∷ []) (Value m a ∷ []) fits = copied_fits m n a (nat_lt m n) (m == n) refl fits.0
copy_fits _ _ fits = λ results given. absurd given

abbrev pub MeaningFits : Meaning → Type 0
MeaningFits (Generic gives) = GivesFit gives
MeaningFits _ = Unit {0}

pub opcode_fits : (flags : Flags) (o : Opcode) → always_fits o ≡ true → MeaningFits (meaning_of flags o)
opcode_fits flags op.ImplicitDef h = nullary_fits _ (λ n. low_bits_fit 0 n 0)
opcode_fits flags op.GenericImplicitDef h = nullary_fits _ (λ n. low_bits_fit 0 n 0)
opcode_fits flags op.GenericTruncate h = unary_fits _ (λ m n a fits. one_fits n _ (wrapped_fits n a))
opcode_fits flags op.GenericAnyExtend h = unary_fits _ (λ m n a fits. in_place_fits m n a (nat_lt m n) (m == n) refl fits)
opcode_fits flags op.GenericSignExtend h = unary_fits _ (λ m n a fits. one_fits n _ (unsigned_below n _))
opcode_fits flags op.GenericPointerAdd h = binary_fits _ (λ n a b. one_fits n _ (wrapped_fits n (a + b)))
opcode_fits flags op.GenericPointerToInteger h = unary_fits _ (λ m n a fits. one_fits n _ (wrapped_fits n a))
opcode_fits flags op.GenericIntegerToPointer h = unary_fits _ (λ m n a fits. one_fits n _ (wrapped_fits n a))
opcode_fits flags op.GenericAdd h = binary_fits _ (λ n a b. unless_fits _ n _ (wrapped_fits n (a + b)))
opcode_fits flags op.GenericSubtract h = binary_fits _ (λ n a b. unless_fits _ n _ (unsigned_below n _))
opcode_fits flags op.GenericMultiply h = binary_fits _ (λ n a b. unless_fits _ n _ (wrapped_fits n (a * b)))
opcode_fits flags op.GenericShiftLeft h = binary_fits _ (λ n a b. shifted_fits (nat_le n b) _ n _ (wrapped_fits n (a * 2 ^ b)))
opcode_fits flags op.GenericArithmeticShiftRight h = binary_fits _ (λ n a b. shifted_fits (nat_le n b) _ n _ (wrapped_fits n _))
opcode_fits flags op.GenericSignedDivide h = binary_fits _ (λ n a b. quotient_fits flags n a b)
opcode_fits flags op.GenericSignedRemainder h = binary_fits _ (λ n a b. remainder_fits n a b)
opcode_fits flags op.GenericSignExtendInRegister h = in_register_fits
opcode_fits flags op.GenericAbsolute h = unary_fits _ (λ m n a fits. one_fits n (unsigned n (pos (nat_abs (signed m a)))) (unsigned_below n (pos (nat_abs (signed m a)))))
opcode_fits flags op.GenericFunnelShiftLeft h = ternary_fits _ (λ n a b c. one_fits n _ (wrapped_fits n _))
opcode_fits flags op.GenericFunnelShiftRight h = ternary_fits _ (λ n a b c. one_fits n _ (wrapped_fits n _))
opcode_fits flags op.GenericRotateLeft h = binary_fits _ (λ n a b. one_fits n _ (wrapped_fits n _))
opcode_fits flags op.GenericRotateRight h = binary_fits _ (λ n a b. one_fits n _ (wrapped_fits n _))
opcode_fits flags op.GenericUnmergeValues h = unmerge_fits
opcode_fits flags op.GenericUnsignedMultiplyHigh h = binary_fits _ (λ n a b. one_fits n _ (wrapped_fits n _))
opcode_fits flags op.GenericSignedMultiplyHigh h = binary_fits _ (λ n a b. one_fits n _ (wrapped_fits n _))
opcode_fits flags _ h = cc

-- ══ Steps ══

abbrev pub AnswerFits : (widths : List ℕ) → Answer → Type 0
AnswerFits widths (Results results outside) = AreFit widths results
AnswerFits widths _ = Unit {0}

pub answers_fit : (widths : List ℕ) (given : Given) (outside : Outside) (answer : Answer) → GivenFits widths given → Answers given outside answer → AnswerFits widths answer
answers_fit widths Undefined outside answer fits h = subst (AnswerFits widths) (sym h) tt
answers_fit widths (Exactly results) outside answer fits h = subst (AnswerFits widths) (sym h.2) (fits h.0 h.1)
answers_fit widths (LowBits known width value) outside answer fits h = subst (AnswerFits widths) (sym h.2) (fits h.0 h.1)

nothing_fits : (widths : List ℕ) → AreFit widths []
nothing_fits [] = tt
nothing_fits (n ∷ ns) = tt

-- an answer of results and what was outside
no_results_fit : (widths : List ℕ) (b : Bool) (block : ℕ) (outside : Outside) → AnswerFits widths (cond b (Results [] outside) (Leaves block))
no_results_fit widths true block outside = nothing_fits widths
no_results_fit widths false block outside = tt

jump_fits : (widths : List ℕ) (arguments : List Argument) → AnswerFits widths (jump arguments)
jump_fits widths (To block ∷ []) = tt
jump_fits widths _ = tt

branch_fits : (widths : List ℕ) (arguments : List Argument) (outside : Outside) → AnswerFits widths (branch arguments outside)
branch_fits widths (Value n condition ∷ To block ∷ []) outside = no_results_fit widths (condition == 0) block outside
branch_fits widths _ outside = tt

no_results_fit_turned : (widths : List ℕ) (b : Bool) (block : ℕ) (outside : Outside) → AnswerFits widths (cond b (Leaves block) (Results [] outside))
no_results_fit_turned widths true block outside = tt
no_results_fit_turned widths false block outside = nothing_fits widths

machine_branch_fits : (widths : List ℕ) (x : ℕ) (test : ℕ → ℕ → ℕ → Bool) (arguments : List Argument) (outside : Outside) → AnswerFits widths (machine_branch x test arguments outside)
machine_branch_fits widths x test (Value l a ∷ Value m b ∷ To block ∷ []) outside = no_results_fit_turned widths (test x a b) block outside
machine_branch_fits widths x test _ outside = tt

-- copies, generic operations, and what has no results
abbrev pub has_no_words : Meaning → Bool
has_no_words Copying = true
has_no_words (Generic gives) = true
has_no_words Jumping = true
has_no_words Branching = true
has_no_words (MachineBranching test) = true
has_no_words Returning = true
has_no_words Nothing = true
has_no_words _ = false

pub act_fits : (x : ℕ) (w : World) (m : Meaning) (mem : Option MemOp) (widths : List ℕ) (arguments : List Argument) (outside : Outside) (answer : Answer) → MeaningFits m → has_no_words m ≡ true → AreArgumentsFit arguments
    → Act x w m mem widths arguments outside answer → AnswerFits widths answer
act_fits x w Copying mem widths arguments outside answer fits h small act = answers_fit widths (copy widths arguments) outside answer (copy_fits widths arguments small) act
act_fits x w (Generic gives) mem widths arguments outside answer fits h small act = answers_fit widths (gives widths arguments) outside answer (fits widths arguments small) act
act_fits x w Jumping mem widths arguments outside answer fits h small act = subst (AnswerFits widths) (sym act) (jump_fits widths arguments)
act_fits x w Branching mem widths arguments outside answer fits h small act = subst (AnswerFits widths) (sym act) (branch_fits widths arguments outside)
act_fits x w (MachineBranching test) mem widths arguments outside answer fits h small act = subst (AnswerFits widths) (sym act.2) (machine_branch_fits widths x test act.0 outside)
act_fits x w Returning mem widths arguments outside answer fits h small act = subst (AnswerFits widths) (sym act) tt
act_fits x w Nothing mem widths arguments outside answer fits h small act = subst (AnswerFits widths) (sym act) (nothing_fits widths)
act_fits x w _ mem widths arguments outside answer fits h small act = cc
