-- Values fit their registers wherever runs come, in a function that passes the test of widths.
use Rattle.std.proofs.Common.{◌≡◌, ◌⊎◌, ℕ, ◌*◌, ◌/◌, ◌^◌, ◌<◌, ◌≤◌, ◌==◌, Bool, true, false, cond, not, ◌&&◌, ◌||◌, nat_lt, nat_le, List, [], ◌∷◌, ◌++◌, map, Option, Some, None, option_map, inl, inr, ⊎_elim, refl, sym, ap, ◌∙◌, subst, arith, lit<, leb-true, ltb-false, ltb-true, eqb-true, le-leb}
use Rattle.std.specs.Prelude.{IfSome}
use Rattle.std.proofs.lemmas.Bool.{and_parts, and_from, or_cases, not-true}
use Rattle.std.specs.List.{list_all}
use Rattle.std.proofs.lemmas.Option.{same_Some}
use Rattle.std.proofs.Math.Nat.{div-mul-le_self, pow-le-pow_right}
use Rattle.std.proofs.lemmas.Nat.{mod_below, pow_pos}
use Rattle.gi_llt.specs.Bits.{wrapped}
use Rattle.gi_llt.specs.Llt.{width_of}
use Rattle.gi_mir.specs.Data.{InstrData, BlockData, FunctionData}
use Rattle.gi_mir.specs.Names.{name_at}
use Rattle.gi_mir.specs.Edit.{all_instrs}
use Rattle.gi_mir.specs.declared.opcode.Opcode.{Opcode}
use Rattle.gi_mir.specs.declared.opcode.Opcode.TheVariants as op
use Rattle.gi_mir.specs.declared.operand.Flags.{Flags}
use Rattle.gi_mir.specs.declared.operand.MemOp.{MemOp}
use Rattle.gi_mir.specs.declared.operand.Operand.{Operand}
use Rattle.gi_mir.specs.declared.operand.Operand.TheVariants as operand
use Rattle.gi_meaning.specs.Act.{Act, Answer, AnswersWords, Asks, GenericStores, Leaves, MachineStores, Results, Returns, Stores, StoresThere, alignment, all_fitted, clobbered, extended, from_loaded, generic_load, is_result_register, load, machine_load}
use Rattle.gi_meaning.specs.Act as an_answer
use Rattle.gi_meaning.specs.Argument.{Argument, Bits, Number, Symbol, Value}
use Rattle.gi_meaning.specs.Generic.{constant, symbol_address}
use Rattle.gi_meaning.specs.Given.{Given}
use Rattle.gi_meaning.specs.Given as a_given
use Rattle.gi_meaning.specs.Machine.{is_immediate}
use Rattle.gi_meaning.specs.Meaning.{Meaning, Copying, Generic, Loading, Storing, MachineLoading, MachineStoring, Machine, Jumping, Branching, MachineBranching, Calling, Returning, Nothing, Joining, Extension, Anything, Zeros, Signs, is_joining, meaning_of}
use Rattle.gi_meaning.specs.Memory.{Memory, is_aligned, loaded}
use Rattle.gi_meaning.specs.Runs.{Progress, Setting, Steps, StepsFrom, after_phis, argument_of, arguments_of, from_block, going_on, is_phi, joined, joined_lists, phis_of, places_of, progress_of, put_all, put_value, result_places, setting_of, value_at, width_of_place, written_places}
use Rattle.gi_meaning.specs.State.{AreBytes, AreWords, IsWorld, Outside, Physical, Place, State, Virtual, World, outside_of, put}
use Rattle.gi_meaning.proofs.Numbers.{unsigned_below}
use Rattle.gi_refine.specs.Fitting.{IsFit, always_fits, is_fitting_constant, phi_fits}
use Rattle.gi_refine.specs.Invariant.{AllKeep, BlockKeeps, GoesOnWith}
use Rattle.gi_refine.specs.Worded.{has_virtual, may_have_words}
use Rattle.gi_refine.proofs.Basics.{value_holds, word_holds}
use Rattle.gi_refine.proofs.Fitted.{taken_fits}
use Rattle.gi_refine.proofs.FittedSteps.{AnswerFits, AreArgumentsFit, AreFit, AreThereFit, MeaningFits, act_fits, answers_fit, arguments_fit, has_no_words, in_place_fits, one_fits, opcode_fits}
use Rattle.gi_refine.proofs.Invariants.{invariant_holds}
use Rattle.gi_refine.proofs.SizedAnswers.{AtMost, IsAnswerSized, act_sized, loaded_small}
use Rattle.gi_refine.proofs.SizedOperations.{AreSmall}
use Rattle.gi_refine.proofs.Targets.{or_undefined, undefined_or}
use Rattle.gi_valid.proofs.Answering.{act_fine}
use Rattle.gi_valid.proofs.Defining.{in_function}
use Rattle.gi_valid.proofs.Single.{IsIn}
use Rattle.gi_change_valid.specs.Rewriting.{IsOneOf}
use Rattle.gi_change_valid.proofs.Sources.{one_passes}
use Rattle.gi_change_valid.proofs.Typed.{in_list}
use Rattle.gi_change_refines.specs.Sized.{FitsAnywhere}
use Rattle.gi_change_refines.specs.Widths.{has_words, is_fitting_address, is_fitting_load, is_fitting_result, fits_by_widths, keeps_values, values_keep, widths_read, widths_written}
use Rattle.gi_change_refines.proofs.WidthsGiven.{FitsGiven, GivenFits, always_given, nothing_given, widths_fit, widths_given}

-- ══ Arguments ══

given_appended : (xs ys : List Argument) → widths_given (xs ++ ys) ≡ widths_given xs ++ widths_given ys
given_appended [] ys = refl
given_appended (Value m v ∷ xs) ys = ap (λ l. m ∷ l) (given_appended xs ys)
given_appended (_ ∷ xs) ys = given_appended xs ys

-- what an operand gives has the widths that are read of it
abbrev IsGivenBy : (ms : List ℕ) → Option (List Argument) → Type 0
IsGivenBy ms arguments = IfSome arguments (λ given. widths_given given ≡ ms)

given_joined : (ms ns : List ℕ) (xs ys : Option (List Argument)) → IsGivenBy ms xs → IsGivenBy ns ys → IsGivenBy (ms ++ ns) (joined_lists xs ys)
given_joined ms ns None ys first second = tt
given_joined ms ns (Some xs) None first second = tt
given_joined ms ns (Some xs) (Some ys) first second = given_appended xs ys ∙ ap (λ l. l ++ widths_given ys) first ∙ ap (λ l. ms ++ l) second

use_given : (m : ℕ) (value : Option ℕ) → IsGivenBy (m ∷ []) (option_map (λ v. Value m v ∷ []) value)
use_given m None = tt
use_given m (Some v) = refl

operands_given : (s : Setting) (w : World) (state : State) (os : List Operand) → IsGivenBy (widths_read s os) (arguments_of s w state os)
operands_given s w state [] = refl
operands_given s w state (operand.Use r ∷ os) = given_joined (s.width r.0 ∷ []) (widths_read s os) (argument_of s w state (operand.Use r)) (arguments_of s w state os) (use_given (s.width r.0) (state.values r.0)) (operands_given s w state os)
operands_given s w state (operand.Phys n ∷ os) = given_joined (s.x ∷ []) (widths_read s os) (argument_of s w state (operand.Phys n)) (arguments_of s w state os) refl (operands_given s w state os)
operands_given s w state (operand.Frame object ∷ os) = given_joined (s.x ∷ []) (widths_read s os) (argument_of s w state (operand.Frame object)) (arguments_of s w state os) refl (operands_given s w state os)
operands_given s w state (o ∷ os) = given_joined [] (widths_read s os) (argument_of s w state o) (arguments_of s w state os) refl (operands_given s w state os)

arguments_given : (s : Setting) (w : World) (state : State) (os : List Operand) (arguments : List Argument) → arguments_of s w state os ≡ Some arguments → widths_given arguments ≡ widths_read s os
arguments_given s w state os arguments read = subst (IsGivenBy (widths_read s os)) read (operands_given s w state os)

-- ══ States: values fit, and memory has bytes ══

record IsKeeping (s : Setting) (state : State) : Type 0 where
  fit : IsFit s state
  bytes : AreBytes state.memory

put_fit : (s : Setting) (state : State) (p : Place) (v : ℕ) → v < 2 ^ width_of_place s p → IsKeeping s state → IsKeeping s (put state p v)
put_fit s state (Virtual q) v h keeping = record {
  fit = record {
    values = λ r. value_holds (λ u. u < 2 ^ s.width r) (r == q) v (state.values r) (λ same. subst (λ k. v < 2 ^ s.width k) (sym (eqb-true r q same)) h) (keeping.fit.values r);
    words = keeping.fit.words;
  };
  bytes = keeping.bytes;
}
put_fit s state (Physical m) v h keeping = record {
  fit = record { values = keeping.fit.values; words = λ n. word_holds (λ u. u < 2 ^ s.x) (n == m) v (state.words n) h (keeping.fit.words n) };
  bytes = keeping.bytes;
}

put_all_fit : (s : Setting) (state : State) (ps : List Place) (vs : List ℕ) → AreFit (map (width_of_place s) ps) vs → IsKeeping s state → IfSome (put_all state ps vs) (IsKeeping s)
put_all_fit s state [] [] fits keeping = keeping
put_all_fit s state [] (v ∷ vs) fits keeping = tt
put_all_fit s state (p ∷ ps) [] fits keeping = tt
put_all_fit s state (p ∷ ps) (v ∷ vs) fits keeping = put_all_fit s (put state p v) ps vs fits.1 (put_fit s state p v fits.0 keeping)

going_fit : (s : Setting) (state : Option State) → IfSome state (IsKeeping s) → GoesOnWith (IsKeeping s) (going_on state)
going_fit s None h = tt
going_fit s (Some state) h = h

-- what an answer leaves outside the registers
abbrev LeavesBytes : Answer → Type 0
LeavesBytes (Results results outside) = AreBytes outside.memory
LeavesBytes _ = Unit {0}

progress_fit : (s : Setting) (state : State) (ps : List Place) (answer : Answer) → AnswerFits (map (width_of_place s) ps) answer → LeavesBytes answer → IsKeeping s state → GoesOnWith (IsKeeping s) (progress_of state ps answer)
progress_fit s state ps (Results results outside) fits bytes keeping =
    going_fit s (put_all (record state { memory = outside.memory; taken = outside.taken }) ps results)
    (put_all_fit s (record state { memory = outside.memory; taken = outside.taken }) ps results fits (record { fit = record { values = keeping.fit.values; words = keeping.fit.words }; bytes = bytes }))
progress_fit s state ps (Leaves block) fits bytes keeping = keeping
progress_fit s state ps (Returns words) fits bytes keeping = tt
progress_fit s state ps (Asks callee words) fits bytes keeping = tt
progress_fit s state ps an_answer.Undefined fits bytes keeping = tt

-- ══ What an instruction answers ══

-- an answer to arguments that are read in such a state
record IsAnswered (s : Setting) (w : World) (i : InstrData) (state : State) (arguments : List Argument) (answer : Answer) : Type 0 where
  keeping : IsKeeping s state
  read : arguments_of s w state i.operands ≡ Some arguments
  small : AreArgumentsFit arguments

abbrev FitsBy : (s : Setting) (w : World) (m : Meaning) (i : InstrData) → Type 0
FitsBy s w m i = (state : State) (arguments : List Argument) (answer : Answer) → IsAnswered s w i state arguments answer
    → Act s.x w m i.mem (map (width_of_place s) (written_places m i.operands)) arguments (outside_of state) answer → AnswerFits (map (width_of_place s) (written_places m i.operands)) answer

plain_fits : (s : Setting) (w : World) (m : Meaning) (i : InstrData) → MeaningFits m → has_no_words m ≡ true → FitsBy s w m i
plain_fits s w m i fits none = λ state arguments answer answered act.
    act_fits s.x w m i.mem (map (width_of_place s) (written_places m i.operands)) arguments (outside_of state) answer fits none answered.small act

-- ══ Generic operations ══

-- as the opcode means it
abbrev FitsHere : (s : Setting) (w : World) (gives : List ℕ → List Argument → Given) (i : InstrData) → Type 0
FitsHere s w gives i = (state : State) (arguments : List Argument) → IsKeeping s state → arguments_of s w state i.operands ≡ Some arguments → AreArgumentsFit arguments → GivenFits (widths_written s i.operands) (gives (widths_written s i.operands) arguments)

given_here : (s : Setting) (w : World) (gives : List ℕ → List Argument → Given) (i : InstrData) → FitsHere s w gives i → FitsBy s w (Generic gives) i
given_here s w gives i fits = λ state arguments answer answered act.
    answers_fit (widths_written s i.operands) (gives (widths_written s i.operands) arguments) (outside_of state) answer (fits state arguments answered.keeping answered.read answered.small) act

always_here : (s : Setting) (w : World) (gives : List ℕ → List Argument → Given) (i : InstrData) → meaning_of i.flags i.op ≡ Generic gives → always_fits i.op ≡ true → FitsHere s w gives i
always_here s w gives i is always = λ state arguments keeping read small.
    subst (λ m. FitsGiven m (widths_written s i.operands) arguments) is
    (always_given (meaning_of i.flags i.op) (widths_written s i.operands) arguments small (opcode_fits i.flags i.op always))

widths_here : (s : Setting) (w : World) (gives : List ℕ → List Argument → Given) (i : InstrData) → meaning_of i.flags i.op ≡ Generic gives
    → fits_by_widths i.op (widths_written s i.operands) (widths_read s i.operands) ≡ true → FitsHere s w gives i
widths_here s w gives i is passes = λ state arguments keeping read small.
    subst (λ m. FitsGiven m (widths_written s i.operands) arguments) is
    (widths_fit i.flags i.op (widths_written s i.operands) arguments small
    (subst (λ ms. fits_by_widths i.op (widths_written s i.operands) ms ≡ true) (sym (arguments_given s w state i.operands arguments read)) passes))

-- a constant and an address stand in the operands
abbrev SameGiven : (s : Setting) (w : World) (m : Meaning) (os : List Operand) → Type 0
SameGiven s w m os = (state : State) (arguments : List Argument) → arguments_of s w state os ≡ Some arguments → FitsGiven m (widths_written s os) arguments

constant_here : (s : Setting) (w : World) (flags : Flags) (o : Opcode) (os : List Operand) → is_fitting_constant s.width o os ≡ true → SameGiven s w (meaning_of flags o) os
constant_here s w flags op.GenericConstant (operand.Def r kind ∷ operand.Constant n v ∷ []) h = λ state arguments read.
    subst (λ list. GivenFits (s.width r.0 ∷ []) (constant (s.width r.0 ∷ []) list)) (same_Some (Bits n v ∷ []) arguments read)
    (one_fits (s.width r.0) v (ltb-true v (2 ^ s.width r.0) h))
constant_here s w flags _ _ h = cc

address_here : (s : Setting) (w : World) → IsWorld s.x w → (flags : Flags) (o : Opcode) (os : List Operand) → is_fitting_address s o os ≡ true → SameGiven s w (meaning_of flags o) os
address_here s w is_world flags op.GenericGlobalValue (operand.Def r kind ∷ operand.Global flag n ∷ []) h = λ state arguments read.
    let room : 2 ^ s.x ≤ 2 ^ s.width r.0 = pow-le-pow_right (lit< tt) (leb-true s.x (s.width r.0) h) in
    let address : ℕ = w.global (name_at s.names n) in
    subst (λ list. GivenFits (s.width r.0 ∷ []) (symbol_address (s.width r.0 ∷ []) list)) (same_Some (Symbol flag (name_at s.names n) address ∷ []) arguments read)
    (one_fits (s.width r.0) address (omega (arith, room, is_world.global (name_at s.names n))))
address_here s w is_world flags _ _ h = cc

same_here : (s : Setting) (w : World) (gives : List ℕ → List Argument → Given) (i : InstrData) → meaning_of i.flags i.op ≡ Generic gives → SameGiven s w (meaning_of i.flags i.op) i.operands → FitsHere s w gives i
same_here s w gives i is same = λ state arguments keeping read small. subst (λ m. FitsGiven m (widths_written s i.operands) arguments) is (same state arguments read)

results_here : (s : Setting) (w : World) → IsWorld s.x w → (gives : List ℕ → List Argument → Given) (i : InstrData) → meaning_of i.flags i.op ≡ Generic gives → is_fitting_result s i.op i.operands ≡ true → FitsHere s w gives i
results_here s w is_world gives i is passes =
    let always : Bool = always_fits i.op in
    let widths : Bool = fits_by_widths i.op (widths_written s i.operands) (widths_read s i.operands) in
    let number : Bool = is_fitting_constant s.width i.op i.operands in
    let address : Bool = is_fitting_address s i.op i.operands in
    ⊎_elim (λ h. ⊎_elim (λ l. ⊎_elim (λ k. always_here s w gives i is k) (λ k. widths_here s w gives i is k) (or_cases always widths l))
    (λ l. same_here s w gives i is (constant_here s w i.flags i.op i.operands l)) (or_cases (always || widths) number h))
    (λ h. same_here s w gives i is (address_here s w is_world i.flags i.op i.operands h)) (or_cases (always || widths || number) address passes)

-- ══ Memory ══

either_fits : (b : Bool) (ns : List ℕ) (g h : Given) → (b ≡ true → GivenFits ns g) → GivenFits ns h → GivenFits ns (cond b g h)
either_fits true ns g h first second = first refl
either_fits false ns g h first second = second

extended_fits : (extension : Extension) (x : ℕ) (mem : MemOp) (n v : ℕ) → is_fitting_load x extension (Some mem) (n ∷ []) ≡ true → v < 2 ^ width_of x mem.ty → GivenFits (n ∷ []) (extended extension (width_of x mem.ty) n v)
extended_fits Anything x mem n v passes small =
    in_place_fits (width_of x mem.ty) n v (nat_lt (width_of x mem.ty) n) (width_of x mem.ty == n) refl small
extended_fits Zeros x mem n v passes small =
    let room : 2 ^ width_of x mem.ty ≤ 2 ^ n = pow-le-pow_right (lit< tt) (leb-true (width_of x mem.ty) n passes) in one_fits n v (omega (arith, room, small))
extended_fits Signs x mem n v passes small = one_fits n _ (unsigned_below n _)

read_fits : (extension : Extension) (x : ℕ) (mem : MemOp) (n : ℕ) (read : Option ℕ) → is_fitting_load x extension (Some mem) (n ∷ []) ≡ true → IfSome read (λ v. v < 2 ^ width_of x mem.ty) → GivenFits (n ∷ []) (from_loaded read extension (width_of x mem.ty) n)
read_fits extension x mem n None passes small = nothing_given (n ∷ [])
read_fits extension x mem n (Some v) passes small = extended_fits extension x mem n v passes small

some_below : (m n : ℕ) (read : Option ℕ) → m ≤ n → IfSome read (λ v. v < 2 ^ m) → IfSome read (λ v. v < 2 ^ n)
some_below m n None within small = tt
some_below m n (Some v) within small = let room : 2 ^ m ≤ 2 ^ n = pow-le-pow_right (lit< tt) within in omega (arith, room, small)

load_fits : (extension : Extension) (x : ℕ) (mem : Option MemOp) (ns : List ℕ) (arguments : List Argument) (memory : Memory) → AreBytes memory → is_fitting_load x extension mem ns ≡ true → GivenFits ns (generic_load x extension mem ns arguments memory)
load_fits extension x (Some mem) (n ∷ []) (Value l address ∷ []) memory bytes passes =
    let m : ℕ = width_of x mem.ty in
    let whole : 8 * (m / 8) ≤ m = omega (arith, div-mul-le_self m 8) in
    let read : Option ℕ = loaded x (m / 8) memory address in
    either_fits mem.load (n ∷ []) (load x (alignment x mem) m n extension memory address) a_given.Undefined
    (λ loads. either_fits (is_aligned (alignment x mem) address) (n ∷ []) (from_loaded read extension m n) a_given.Undefined
    (λ aligned. read_fits extension x mem n read passes (some_below (8 * (m / 8)) m read whole (loaded_small x (m / 8) memory address bytes))) (nothing_given (n ∷ [])))
    (nothing_given (n ∷ []))
load_fits extension x _ _ _ memory bytes passes = λ results given. absurd given

loading_fits : (s : Setting) (w : World) (extension : Extension) (i : InstrData) → is_fitting_load s.x extension i.mem (widths_written s i.operands) ≡ true → FitsBy s w (Loading extension) i
loading_fits s w extension i passes = λ state arguments answer answered act.
    answers_fit (widths_written s i.operands) (generic_load s.x extension i.mem (widths_written s i.operands) arguments state.memory) (outside_of state) answer
    (load_fits extension s.x i.mem (widths_written s i.operands) arguments state.memory answered.keeping.bytes passes) act

nothing_fits : (ns : List ℕ) → AreFit ns []
nothing_fits [] = tt
nothing_fits (n ∷ ns) = tt

stored_there_fits : (ns : List ℕ) (old : Option ℕ) (x bytes address value : ℕ) (outside : Outside) (a : Answer) → StoresThere old x bytes address value outside a → AnswerFits ns a
stored_there_fits ns None x bytes address value outside a h = subst (AnswerFits ns) (sym h) tt
stored_there_fits ns (Some v) x bytes address value outside a h = subst (AnswerFits ns) (sym h) (nothing_fits ns)

stored_fits : (ns : List ℕ) (x align bytes address value : ℕ) (outside : Outside) (a : Answer) → Stores x align bytes address value outside a → AnswerFits ns a
stored_fits ns x align bytes address value outside a h =
    or_undefined (AnswerFits ns) tt (is_aligned align address) (StoresThere (loaded x bytes outside.memory address) x bytes address value outside a) a
    (stored_there_fits ns (loaded x bytes outside.memory address) x bytes address value outside a) h

store_fits : (ns : List ℕ) (x : ℕ) (mem : Option MemOp) (arguments : List Argument) (outside : Outside) (a : Answer) → GenericStores x mem arguments outside a → AnswerFits ns a
store_fits ns x (Some mem) (Value n value ∷ Value l address ∷ []) outside a h =
    undefined_or (AnswerFits ns) tt mem.load (Stores x (alignment x mem) _ address value outside a) a (stored_fits ns x (alignment x mem) _ address value outside a) h
store_fits ns x _ _ outside a h = subst (AnswerFits ns) (sym h) tt

machine_store_fits : (ns : List ℕ) (x : ℕ) (exists : ℕ → Bool) (bytes : ℕ) (arguments : List Argument) (outside : Outside) (a : Answer) → MachineStores x exists bytes arguments outside a → AnswerFits ns a
machine_store_fits ns x exists bytes (Value n value ∷ Value l base ∷ Number offset ∷ []) outside a h =
    or_undefined (AnswerFits ns) tt (exists x && is_immediate offset) (Stores x bytes bytes _ value outside a) a (stored_fits ns x bytes bytes _ value outside a) h
machine_store_fits ns x exists bytes _ outside a h = subst (AnswerFits ns) (sym h) tt

-- ══ Calls, and instructions of the machine ══

-- places that all hold words
abbrev AreWide : (x : ℕ) → List ℕ → Type 0
AreWide x [] = Unit {0}
AreWide x (n ∷ ns) = (n ≡ x) × AreWide x ns

results_wide : (s : Setting) (os : List Operand) → AreWide s.x (map (width_of_place s) (result_places os))
results_wide s [] = tt
results_wide s (operand.ImplicitDef n ∷ os) = by (is_result_register n) (results_wide s os)
  where
    by : (t : Bool) → AreWide s.x (map (width_of_place s) (result_places os)) → AreWide s.x (map (width_of_place s) (cond t (Physical n ∷ result_places os) (result_places os)))
    by true rest = (refl, rest)
    by false rest = rest
results_wide s (_ ∷ os) = results_wide s os

clobbered_wide : (s : Setting) (registers : List ℕ) (os : List Operand) → AreWide s.x (map (width_of_place s) (map Physical registers ++ result_places os))
clobbered_wide s [] os = results_wide s os
clobbered_wide s (n ∷ registers) os = (refl, clobbered_wide s registers os)

wide_at_most : (x : ℕ) (ns : List ℕ) → AreWide x ns → AtMost x ns
wide_at_most x [] wide = tt
wide_at_most x (n ∷ ns) wide = (let same : n ≡ x = wide.0 in omega (arith, same), wide_at_most x ns wide.1)

words_fit : (x : ℕ) (ns vs : List ℕ) → AreWide x ns → AreWords x vs → AreFit ns vs
words_fit x [] vs wide words = tt
words_fit x (n ∷ ns) [] wide words = tt
words_fit x (n ∷ ns) (v ∷ vs) wide words = (subst (λ k. v < 2 ^ k) (sym wide.0) words.0, words_fit x ns vs wide.1 words.1)

sized_fits : (x : ℕ) (ns : List ℕ) (a : Answer) → AreWide x ns → IsAnswerSized x a → AnswerFits ns a
sized_fits x ns (Results results outside) wide sized = words_fit x ns results wide sized.0
sized_fits x ns (Leaves block) wide sized = tt
sized_fits x ns (Returns words) wide sized = tt
sized_fits x ns (Asks callee words) wide sized = tt
sized_fits x ns an_answer.Undefined wide sized = tt

-- values that are no wider are words
words_given : (x : ℕ) (arguments : List Argument) → AreArgumentsFit arguments → list_all (λ m. nat_le m x) (widths_given arguments) ≡ true → AreSmall x arguments
words_given x [] fits narrow = tt
words_given x (Value m v ∷ arguments) fits narrow =
    let each : (nat_le m x ≡ true) × (list_all (λ n. nat_le n x) (widths_given arguments) ≡ true) = and_parts (nat_le m x) (list_all (λ n. nat_le n x) (widths_given arguments)) narrow in
    let room : 2 ^ m ≤ 2 ^ x = pow-le-pow_right (lit< tt) (leb-true m x each.0) in (omega (arith, room, fits.0), words_given x arguments fits.1 each.1)
words_given x (_ ∷ arguments) fits narrow = words_given x arguments fits.1 narrow

-- what gives words, in places that hold them, from values that are no wider
words_answered : (s : Setting) (w : World) → 32 ≤ s.x → IsWorld s.x w → (i : InstrData) (m : Meaning) → meaning_of i.flags i.op ≡ m → may_have_words m i.op i.operands ≡ true
    → AtMost s.x (map (width_of_place s) (written_places m i.operands)) → list_all (λ n. nat_le n s.x) (widths_read s i.operands) ≡ true
    → ((arguments : List Argument) (outside : Outside) (answer : Answer) → Act s.x w m i.mem (map (width_of_place s) (written_places m i.operands)) arguments outside answer → IsAnswerSized s.x answer
    → AnswerFits (map (width_of_place s) (written_places m i.operands)) answer) → FitsBy s w m i
words_answered s w wide is_world i m is worded all narrow fits = λ state arguments answer answered act.
    let places : List ℕ = map (width_of_place s) (written_places m i.operands) in
    let small : AreSmall s.x arguments =
    words_given s.x arguments answered.small (subst (λ ms. list_all (λ n. nat_le n s.x) ms ≡ true) (sym (arguments_given s w state i.operands arguments answered.read)) narrow) in
    fits arguments (outside_of state) answer act
    (act_sized s.x wide w is_world i.flags i.op i.operands i.mem places arguments (outside_of state) answer (subst (λ k. may_have_words k i.op i.operands ≡ true) (sym is) worded) all small answered.keeping.bytes
    (subst (λ k. Act s.x w k i.mem places arguments (outside_of state) answer) (sym is) act))

reads_words : (s : Setting) (os : List Operand) → has_virtual os ≡ false → list_all (λ n. nat_le n s.x) (widths_read s os) ≡ true
reads_words s [] none = refl
reads_words s (operand.Def r kind ∷ os) none = cc
reads_words s (operand.Use r ∷ os) none = cc
reads_words s (operand.Phys n ∷ os) none = and_from (nat_le s.x s.x) (list_all (λ m. nat_le m s.x) (widths_read s os)) (le-leb s.x s.x (omega arith)) (reads_words s os none)
reads_words s (operand.Frame object ∷ os) none = and_from (nat_le s.x s.x) (list_all (λ m. nat_le m s.x) (widths_read s os)) (le-leb s.x s.x (omega arith)) (reads_words s os none)
reads_words s (_ ∷ os) none = reads_words s os none

at_most : (x : ℕ) (ns : List ℕ) → list_all (λ n. nat_le n x) ns ≡ true → AtMost x ns
at_most x [] within = tt
at_most x (n ∷ ns) within = let each : (nat_le n x ≡ true) × (list_all (λ m. nat_le m x) ns ≡ true) = and_parts (nat_le n x) (list_all (λ m. nat_le m x) ns) within in (leb-true n x each.0, at_most x ns each.1)

-- a word in a place of at most as many bits
fitted_fits : (t : Bool) (x n v : ℕ) → nat_lt n x ≡ t → n ≤ x → cond t (wrapped n v) v < 2 ^ x → cond t (wrapped n v) v < 2 ^ n
fitted_fits true x n v so within small = mod_below v (2 ^ n) (pow_pos n)
fitted_fits false x n v so within small = let same : n ≡ x = omega (arith, ltb-false n x so, within) in subst (λ k. v < 2 ^ k) (sym same) small

all_fitted_fit : (x : ℕ) (ns vs : List ℕ) → AtMost x ns → AreWords x (all_fitted x ns vs) → AreFit ns (all_fitted x ns vs)
all_fitted_fit x [] vs within words = tt
all_fitted_fit x (n ∷ ns) [] within words = tt
all_fitted_fit x (n ∷ ns) (v ∷ vs) within words = (fitted_fits (nat_lt n x) x n v refl within.0 words.0, all_fitted_fit x ns vs within.1 words.1)

words_fitted : (x : ℕ) (ns : List ℕ) (given : Given) (outside : Outside) (a : Answer) → AtMost x ns → AnswersWords x ns given outside a → IsAnswerSized x a → AnswerFits ns a
words_fitted x ns a_given.Undefined outside a within h sized = subst (AnswerFits ns) (sym h) tt
words_fitted x ns (a_given.Exactly results) outside a within h sized = subst (AnswerFits ns) (sym h.2) (all_fitted_fit x ns h.0 within (subst (IsAnswerSized x) h.2 sized).0)
words_fitted x ns (a_given.LowBits known width value) outside a within h sized = subst (AnswerFits ns) (sym h.2) (all_fitted_fit x ns h.0 within (subst (IsAnswerSized x) h.2 sized).0)

calling_fits : (s : Setting) (w : World) → 32 ≤ s.x → IsWorld s.x w → (i : InstrData) → meaning_of i.flags i.op ≡ Calling → not (has_virtual i.operands) ≡ true → FitsBy s w Calling i
calling_fits s w wide is_world i is none =
    let places : List ℕ = map (width_of_place s) (written_places Calling i.operands) in
    words_answered s w wide is_world i Calling is none (wide_at_most s.x places (clobbered_wide s clobbered i.operands)) (reads_words s i.operands (not-true (has_virtual i.operands) none))
    (λ arguments outside answer act sized. sized_fits s.x places answer (clobbered_wide s clobbered i.operands) sized)

machine_fits : (s : Setting) (w : World) → 32 ≤ s.x → IsWorld s.x w → (i : InstrData) (m : Meaning) → meaning_of i.flags i.op ≡ m → may_have_words m i.op i.operands ≡ true → written_places m i.operands ≡ places_of i.operands
    → ((arguments : List Argument) (outside : Outside) (answer : Answer) → Act s.x w m i.mem (map (width_of_place s) (written_places m i.operands)) arguments outside answer
    → (given : Given) × AnswersWords s.x (map (width_of_place s) (written_places m i.operands)) given outside answer)
    → has_words s i.operands ≡ true → FitsBy s w m i
machine_fits s w wide is_world i m is worded written gives words =
    let each : (list_all (λ n. nat_le n s.x) (widths_written s i.operands) ≡ true) × (list_all (λ n. nat_le n s.x) (widths_read s i.operands) ≡ true) =
    and_parts (list_all (λ n. nat_le n s.x) (widths_written s i.operands)) (list_all (λ n. nat_le n s.x) (widths_read s i.operands)) words in
    let places : List ℕ = map (width_of_place s) (written_places m i.operands) in
    let within : AtMost s.x places = subst (λ ps. AtMost s.x (map (width_of_place s) ps)) (sym written) (at_most s.x (widths_written s i.operands) each.0) in
    words_answered s w wide is_world i m is worded within each.1
    (λ arguments outside answer act sized. let given = gives arguments outside answer act in words_fitted s.x places given.0 outside answer within given.1 sized)

-- ══ Instructions ══

answer_fits : (s : Setting) (w : World) → 32 ≤ s.x → IsWorld s.x w → (i : InstrData) (m : Meaning) → meaning_of i.flags i.op ≡ m → keeps_values s m i ≡ true → FitsBy s w m i
answer_fits s w wide is_world i Copying is keeps = plain_fits s w Copying i tt refl
answer_fits s w wide is_world i (Generic gives) is keeps = given_here s w gives i (results_here s w is_world gives i is keeps)
answer_fits s w wide is_world i (Machine gives) is keeps = machine_fits s w wide is_world i (Machine gives) is refl refl (λ arguments outside answer act. (gives s.x act.0, act.2)) keeps
answer_fits s w wide is_world i (Loading extension) is keeps = loading_fits s w extension i keeps
answer_fits s w wide is_world i Storing is keeps = λ state arguments answer answered act. store_fits (widths_written s i.operands) s.x i.mem arguments (outside_of state) answer act
answer_fits s w wide is_world i (MachineLoading exists bytes extension) is keeps = machine_fits s w wide is_world i (MachineLoading exists bytes extension) is refl refl
    (λ arguments outside answer act. (machine_load s.x exists bytes extension act.0 outside.memory, act.2)) keeps
answer_fits s w wide is_world i (MachineStoring exists bytes) is keeps = λ state arguments answer answered act.
    machine_store_fits (widths_written s i.operands) s.x exists bytes act.0 (outside_of state) answer act.2
answer_fits s w wide is_world i Jumping is keeps = plain_fits s w Jumping i tt refl
answer_fits s w wide is_world i Branching is keeps = plain_fits s w Branching i tt refl
answer_fits s w wide is_world i (MachineBranching test) is keeps = plain_fits s w (MachineBranching test) i tt refl
answer_fits s w wide is_world i Calling is keeps = calling_fits s w wide is_world i is keeps
answer_fits s w wide is_world i Returning is keeps = plain_fits s w Returning i tt refl
answer_fits s w wide is_world i Nothing is keeps = plain_fits s w Nothing i tt refl
answer_fits s w wide is_world i Joining is keeps = λ state arguments answer answered act. subst (AnswerFits (widths_written s i.operands)) (sym act) tt

bytes_left : (s : Setting) (w : World) → IsWorld s.x w → (m : Meaning) (mem : Option MemOp) (ns : List ℕ) (arguments : List Argument) (state : State) (answer : Answer) → AreBytes state.memory
    → Act s.x w m mem ns arguments (outside_of state) answer → LeavesBytes answer
bytes_left s w is_world m mem ns arguments state (Results results outside) bytes act = act_fine s.x w is_world m mem ns arguments (outside_of state) (Results results outside) act bytes
bytes_left s w is_world m mem ns arguments state (Leaves block) bytes act = tt
bytes_left s w is_world m mem ns arguments state (Returns words) bytes act = tt
bytes_left s w is_world m mem ns arguments state (Asks callee words) bytes act = tt
bytes_left s w is_world m mem ns arguments state an_answer.Undefined bytes act = tt

step_from_keeps : (s : Setting) (w : World) → IsWorld s.x w → (i : InstrData) → FitsBy s w (meaning_of i.flags i.op) i → (state : State) → IsKeeping s state → (arguments : Option (List Argument)) → arguments_of s w state i.operands ≡ arguments
    → AreThereFit arguments → (p : Progress) → StepsFrom s w i state arguments p → GoesOnWith (IsKeeping s) p
step_from_keeps s w is_world i fits state keeping None read small p step = subst (GoesOnWith (IsKeeping s)) (sym step) tt
step_from_keeps s w is_world i fits state keeping (Some arguments) read small p step =
    let m : Meaning = meaning_of i.flags i.op in
    subst (GoesOnWith (IsKeeping s)) (sym step.2)
    (progress_fit s state (written_places m i.operands) step.0 (fits state arguments step.0 (record { keeping = keeping; read = read; small = small }) step.1)
    (bytes_left s w is_world m i.mem (map (width_of_place s) (written_places m i.operands)) arguments state step.0 keeping.bytes step.1) keeping)

step_keeps : (s : Setting) (w : World) → 32 ≤ s.x → IsWorld s.x w → (i : InstrData) → keeps_values s (meaning_of i.flags i.op) i ≡ true → (state : State) → IsKeeping s state → (p : Progress) → Steps s w i state p → GoesOnWith (IsKeeping s) p
step_keeps s w wide is_world i keeps state keeping p step =
    step_from_keeps s w is_world i (answer_fits s w wide is_world i (meaning_of i.flags i.op) refl keeps) state keeping (arguments_of s w state i.operands) refl (arguments_fit s w is_world state keeping.fit i.operands) p step

-- ══ Phis ══

value_put : (s : Setting) (state : Option State) (ps : List Place) (value : Option ℕ) → IfSome state (IsKeeping s) → ((p : Place) → ps ≡ p ∷ [] → IfSome value (λ v. v < 2 ^ width_of_place s p)) → IfSome (put_value state ps value) (IsKeeping s)
value_put s (Some state) (p ∷ []) (Some v) keeping fits = put_fit s state p v (fits p refl) keeping
value_put s _ _ _ keeping fits = tt

joined_keeps : (s : Setting) (state : State) → IsKeeping s state → (from : Option ℕ) (is : List (ℕ × InstrData)) → ((p : ℕ × InstrData) → IsOneOf p is → phi_fits s (places_of p.1.operands) p.1.operands ≡ true)
    → IfSome (joined state from is) (IsKeeping s)
joined_keeps s state keeping from [] each = keeping
joined_keeps s state keeping from (i ∷ is) each =
    value_put s (joined state from is) (places_of i.1.operands) (value_at state (from_block from i.1.operands)) (joined_keeps s state keeping from is (λ p there. each p (inr there)))
    (λ p is_place. taken_fits s state keeping.fit (width_of_place s p) from i.1.operands (subst (λ ps. phi_fits s ps i.1.operands ≡ true) is_place (each i (inl refl))))

-- ══ Functions ══

abbrev KeepsAt : (s : Setting) → ℕ × InstrData → Type 0
KeepsAt s p = keeps_values s (meaning_of p.1.flags p.1.op) p.1 ≡ true

phi_keeps : (s : Setting) (m : Meaning) (i : InstrData) → is_joining m ≡ true → keeps_values s m i ≡ true → phi_fits s (places_of i.operands) i.operands ≡ true
phi_keeps s Joining i joins keeps = keeps
phi_keeps s _ i joins keeps = cc

phis_keep : (s : Setting) (is : List (ℕ × InstrData)) → ((p : ℕ × InstrData) → IsOneOf p is → KeepsAt s p) → (p : ℕ × InstrData) → IsOneOf p (phis_of is) → phi_fits s (places_of p.1.operands) p.1.operands ≡ true
phis_keep s [] each p there = absurd there
phis_keep s (i ∷ is) each p there = by (is_phi i.1) refl there (λ later. phis_keep s is (λ q among. each q (inr among)) p later)
  where
    by : (t : Bool) → is_phi i.1 ≡ t → IsOneOf p (cond t (i ∷ phis_of is) []) → (IsOneOf p (phis_of is) → phi_fits s (places_of p.1.operands) p.1.operands ≡ true) → phi_fits s (places_of p.1.operands) p.1.operands ≡ true
    by true phi here rest = ⊎_elim
        (λ same. subst (λ (q : ℕ × InstrData). phi_fits s (places_of q.1.operands) q.1.operands ≡ true) (sym same) (phi_keeps s (meaning_of i.1.flags i.1.op) i.1 phi (each i (inl refl))))
        rest here
    by false phi here rest = absurd here

body_keeps : (s : Setting) (w : World) → 32 ≤ s.x → IsWorld s.x w → (is : List (ℕ × InstrData)) → ((p : ℕ × InstrData) → IsOneOf p is → KeepsAt s p) → AllKeep s w (IsKeeping s) is
body_keeps s w wide is_world [] each = tt
body_keeps s w wide is_world (i ∷ is) each = (step_keeps s w wide is_world i.1 (each i (inl refl)), body_keeps s w wide is_world is (λ p there. each p (inr there)))

behind_phis : (is : List (ℕ × InstrData)) (p : ℕ × InstrData) → IsOneOf p (after_phis is) → IsOneOf p is
behind_phis [] p there = there
behind_phis (i ∷ is) p there = by (is_phi i.1) there (behind_phis is p)
  where
    by : (t : Bool) → IsOneOf p (cond t (after_phis is) (i ∷ is)) → (IsOneOf p (after_phis is) → IsOneOf p is) → IsOneOf p (i ∷ is)
    by true here later = inr (later here)
    by false here later = here

block_keeps : (s : Setting) (w : World) → 32 ≤ s.x → IsWorld s.x w → (block : BlockData) → ((p : ℕ × InstrData) → IsOneOf p block.instrs → KeepsAt s p) → BlockKeeps s w (IsKeeping s) block
block_keeps s w wide is_world block each = record {
  phis = λ from entered middle keeping here. subst (λ (o : Option State). IfSome o (IsKeeping s)) here (joined_keeps s entered keeping from (phis_of block.instrs) (phis_keep s block.instrs each));
  body = body_keeps s w wide is_world (after_phis block.instrs) (λ p there. each p (behind_phis block.instrs p there));
}

one_of : (p : ℕ × InstrData) (is : List (ℕ × InstrData)) → IsIn p is → IsOneOf p is
one_of p [] there = absurd there
one_of p (i ∷ is) there = ⊎_elim (λ same. inl same) (λ later. inr (one_of p is later)) there

-- where each instruction keeps it, values fit wherever runs come
pub all_kept : (x : ℕ) (names : List (List ℕ)) (f : FunctionData) → (x ≡ 32) ⊎ (x ≡ 64) → ((p : ℕ × InstrData) → IsOneOf p (all_instrs f.blocks) → keeps_values (setting_of x names f) (meaning_of p.1.flags p.1.op) p.1 ≡ true)
    → FitsAnywhere x names f
all_kept x names f word each = record {
  by = λ w is_world b block before back here splits state reached.
      (invariant_holds s w f.blocks (IsKeeping s)
      (record {
        starts = record { fit = record { values = λ r. tt; words = is_world.words }; bytes = is_world.memory };
        keeps = λ c body there. block_keeps s w wide is_world body (λ p among. each p (one_of p (all_instrs f.blocks) (in_function f.blocks c body there p (in_list p body.instrs among))));
      })
      b block before back here splits state reached).fit;
}
  where
    s : Setting
    s = setting_of x names f

    wide : 32 ≤ x
    wide = ⊎_elim (λ is. omega (arith, is)) (λ is. omega (arith, is)) word

pub widths_kept : (x : ℕ) (names : List (List ℕ)) (f : FunctionData) → (x ≡ 32) ⊎ (x ≡ 64) → values_keep (setting_of x names f) f ≡ true → FitsAnywhere x names f
widths_kept x names f word passes = all_kept x names f word (λ p there. one_passes (λ q. keeps_values (setting_of x names f) (meaning_of q.1.flags q.1.op) q.1) p (all_instrs f.blocks) passes there)
