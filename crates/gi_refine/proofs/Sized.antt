-- Instructions whose registers are words keep words in registers and bytes in memory.
use Rattle.std.proofs.Common.{◌≡◌, ℕ, ◌^◌, ◌<◌, ◌≤◌, true, ◌==◌, List, [], ◌∷◌, ◌++◌, map, Option, Some, None, option_map, IfSome, sym, subst}
use Rattle.std.proofs.lemmas.Nat.{pow_pos}
use Rattle.gi_mir.specs.Data.{InstrData}
use Rattle.gi_mir.specs.declared.operand.Operand.{Operand}
use Rattle.gi_mir.specs.declared.operand.Operand.TheVariants as operand
use Rattle.gi_meaning.specs.Argument.{Argument, Value, Number}
use Rattle.gi_meaning.specs.Meaning.{meaning_of}
use Rattle.gi_meaning.specs.Act.{Answer, Results, Leaves, Returns, Asks, Undefined}
use Rattle.gi_meaning.specs.Runs.{argument_of, arguments_of, joined_lists, written_places, width_of_place, put_all, Progress, On, Left, Over, going_on, progress_of, StepsFrom}
use Rattle.gi_refine.specs.Agreement.{setting}
use Rattle.gi_refine.proofs.Basics.{value_holds, word_holds}
use Rattle.gi_refine.specs.Worded.{is_worded, IsSized}
use Rattle.gi_meaning.specs.State.{World, IsWorld, State, outside_of, Place, Virtual, Physical, word_in, put, AreWords}
use Rattle.gi_refine.proofs.SizedAnswers.{IsAnswerSized, AtMost, act_sized}
use Rattle.gi_refine.proofs.SizedOperations.{AreSmall}

-- ══ States ══

pub put_sized : (x : ℕ) (state : State) (p : Place) (v : ℕ) → v < 2 ^ x → IsSized x state → IsSized x (put state p v)
put_sized x state (Virtual q) v h sized = record { values = λ r. value_holds (λ u. u < 2 ^ x) (r == q) v (state.values r) (λ same. h) (sized.values r); words = sized.words; memory = sized.memory }
put_sized x state (Physical m) v h sized = record { values = sized.values; words = λ n. word_holds (λ u. u < 2 ^ x) (n == m) v (state.words n) h (sized.words n); memory = sized.memory }

abbrev pub IsOptionSized : (x : ℕ) → Option State → Type 0
IsOptionSized x None = Unit {0}
IsOptionSized x (Some state) = IsSized x state

put_all_sized : (x : ℕ) (state : State) (ps : List Place) (vs : List ℕ) → AreWords x vs → IsSized x state → IsOptionSized x (put_all state ps vs)
put_all_sized x state [] [] words sized = sized
put_all_sized x state [] (v ∷ vs) words sized = tt
put_all_sized x state (p ∷ ps) [] words sized = tt
put_all_sized x state (p ∷ ps) (v ∷ vs) words sized = put_all_sized x (put state p v) ps vs words.1 (put_sized x state p v words.0 sized)

-- the state that a run has come to is sized
abbrev pub IsProgressSized : (x : ℕ) → Progress → Type 0
IsProgressSized x (On state) = IsSized x state
IsProgressSized x (Left c state) = IsSized x state
IsProgressSized x (Over o) = Unit {0}

going_sized : (x : ℕ) (state : Option State) → IsOptionSized x state → IsProgressSized x (going_on state)
going_sized x None h = tt
going_sized x (Some state) h = h

pub progress_sized : (x : ℕ) (state : State) (ps : List Place) (a : Answer) → IsAnswerSized x a → IsSized x state → IsProgressSized x (progress_of state ps a)
progress_sized x state ps (Results results outside) h sized =
    going_sized x (put_all (record state { memory = outside.memory; taken = outside.taken }) ps results)
    (put_all_sized x (record state { memory = outside.memory; taken = outside.taken }) ps results h.0 (record { values = sized.values; words = sized.words; memory = h.1 }))
progress_sized x state ps (Leaves c) h sized = sized
progress_sized x state ps (Returns words) h sized = tt
progress_sized x state ps (Asks callee words) h sized = tt
progress_sized x state ps Undefined h sized = tt

-- ══ Reading ══

abbrev pub AreOptionSmall : (x : ℕ) → Option (List Argument) → Type 0
AreOptionSmall x None = Unit {0}
AreOptionSmall x (Some arguments) = AreSmall x arguments

small_appended : (x : ℕ) (xs ys : List Argument) → AreSmall x xs → AreSmall x ys → AreSmall x (xs ++ ys)
small_appended x [] ys h l = l
small_appended x (Value n v ∷ xs) ys h l = (h.0, small_appended x xs ys h.1 l)
small_appended x (Number z ∷ xs) ys h l = small_appended x xs ys h l
small_appended x (_ ∷ xs) ys h l = small_appended x xs ys h l

small_joined : (x : ℕ) (a b : Option (List Argument)) → AreOptionSmall x a → AreOptionSmall x b → AreOptionSmall x (joined_lists a b)
small_joined x None b h l = tt
small_joined x (Some xs) None h l = tt
small_joined x (Some xs) (Some ys) h l = small_appended x xs ys h l

value_small : (x width : ℕ) (v : Option ℕ) → IfSome v (λ u. u < 2 ^ x) → AreOptionSmall x (option_map (λ u. Value width u ∷ []) v)
value_small x width None h = tt
value_small x width (Some v) h = (h, tt)

pub word_in_small : (x n : ℕ) (state : State) → IsSized x state → word_in state n < 2 ^ x
word_in_small x n state sized = word_holds (λ u. u < 2 ^ x) (n == 0) 0 (state.words n) (pow_pos x) (sized.words n)

argument_small : (x : ℕ) (names : List (List ℕ)) (width : ℕ → ℕ) (w : World) → IsWorld x w → (state : State) → IsSized x state → (o : Operand) → AreOptionSmall x (argument_of (setting x names width) w state o)
argument_small x names width w is_world state sized (operand.Use r) = value_small x (width r.0) (state.values r.0) (sized.values r.0)
argument_small x names width w is_world state sized (operand.Phys n) = (word_in_small x n state sized, tt)
argument_small x names width w is_world state sized (operand.Frame object) = (is_world.stack object, tt)
argument_small x names width w is_world state sized (operand.Def r k) = tt
argument_small x names width w is_world state sized _ = tt

pub arguments_small : (x : ℕ) (names : List (List ℕ)) (width : ℕ → ℕ) (w : World) → IsWorld x w → (state : State) → IsSized x state → (os : List Operand) → AreOptionSmall x (arguments_of (setting x names width) w state os)
arguments_small x names width w is_world state sized [] = tt
arguments_small x names width w is_world state sized (o ∷ os) =
    small_joined x (argument_of (setting x names width) w state o) (arguments_of (setting x names width) w state os) (argument_small x names width w is_world state sized o)
    (arguments_small x names width w is_world state sized os)

-- ══ A step ══

pub step_sized : (x : ℕ) → 32 ≤ x → (names : List (List ℕ)) (width : ℕ → ℕ) (w : World) → IsWorld x w → (i : InstrData) → is_worded i ≡ true
    → AtMost x (map (width_of_place (setting x names width)) (written_places (meaning_of i.flags i.op) i.operands)) → (state : State) → IsSized x state → (arguments : Option (List Argument)) → AreOptionSmall x arguments
    → (p : Progress) → StepsFrom (setting x names width) w i state arguments p → IsProgressSized x p
step_sized x wide names width w is_world i worded within state sized None small p step = subst (IsProgressSized x) (sym step) tt
step_sized x wide names width w is_world i worded within state sized (Some arguments) small p step =
    subst (IsProgressSized x) (sym step.2)
    (progress_sized x state (written_places (meaning_of i.flags i.op) i.operands) step.0
    (act_sized x wide w is_world i.flags i.op i.operands i.mem (map (width_of_place (setting x names width)) (written_places (meaning_of i.flags i.op) i.operands)) arguments (outside_of state) step.0 worded within small
    sized.memory step.1) sized)
