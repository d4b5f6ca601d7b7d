-- The values of registers fit their widths wherever runs reach, in a function that passes a test.
use Rattle.gi_refine.specs.Lifting.{Reads, AreSized}
use Rattle.gi_refine.specs.Values.{Environment}
use Rattle.std.proofs.Common.{◌≡◌, ℕ, zero, suc, ◌^◌, ◌<◌, ◌==◌, Bool, true, false, cond, ◌&&◌, List, [], ◌∷◌, ◌++◌, map, Option, Some, None, slice_get, ⊎_elim, refl, sym, subst, eqb-true}
use Rattle.std.proofs.lemmas.Option.{same_Some}
use Rattle.std.specs.Prelude.{IfSome}
use Rattle.std.proofs.lemmas.Bool.{ltb-true, and_parts, or_cases}
use Rattle.gi_mir.specs.Data.{InstrData, BlockData, FunctionData}
use Rattle.gi_mir.specs.declared.opcode.Opcode.{Opcode}
use Rattle.gi_mir.specs.declared.opcode.Opcode.TheVariants as op
use Rattle.gi_mir.specs.declared.operand.Flags.{Flags}
use Rattle.gi_mir.specs.declared.operand.MemOp.{MemOp}
use Rattle.gi_mir.specs.declared.operand.Operand.{Operand}
use Rattle.gi_mir.specs.declared.operand.Operand.TheVariants as operand
use Rattle.gi_meaning.specs.Argument.{Argument, Bits}
use Rattle.gi_meaning.specs.Given.{one}
use Rattle.gi_meaning.specs.Generic.{constant}
use Rattle.gi_meaning.specs.State.{World, IsWorld, State, outside_of, Place, Virtual, Physical, put}
use Rattle.gi_meaning.specs.Meaning.{Meaning, Copying, Generic, Jumping, Branching, MachineBranching, Returning, Nothing, meaning_of}
use Rattle.gi_meaning.specs.Act.{Answer, Results, Leaves, Returns, Asks, Undefined, Act, Answers}
use Rattle.gi_meaning.specs.Runs.{Setting, setting_of, arguments_of, places_of, written_places, width_of_place, put_all, Progress, going_on, progress_of, StepsFrom, Steps, phis_of, after_phis, entry_for, value_at, from_block, put_value, joined}
use Rattle.gi_refine.specs.Fitting.{IsFit, always_fits, is_fitting_constant, keeps_fit, all_keep_fit, uses_have, phi_fits, phis_fit, blocks_fit}
use Rattle.gi_refine.specs.Invariant.{GoesOnWith, AllKeep, BlockKeeps}
use Rattle.gi_refine.specs.Reached.{IsReached}
use Rattle.gi_refine.proofs.Basics.{value_holds, word_holds}
use Rattle.gi_refine.proofs.Invariants.{invariant_holds}
use Rattle.gi_refine.proofs.FittedSteps.{AreFit, one_fits, AreArgumentsFit, AreThereFit, arguments_fit, MeaningFits, opcode_fits, AnswerFits, answers_fit, has_no_words, act_fits}

-- ══ States ══

put_fit : (s : Setting) (state : State) (p : Place) (v : ℕ) → v < 2 ^ width_of_place s p → IsFit s state → IsFit s (put state p v)
put_fit s state (Virtual q) v h fit = record {
  values = λ r. value_holds (λ u. u < 2 ^ s.width r) (r == q) v (state.values r) (λ same. subst (λ k. v < 2 ^ s.width k) (sym (eqb-true r q same)) h) (fit.values r);
  words = fit.words;
}
put_fit s state (Physical m) v h fit = record {
  values = fit.values;
  words = λ n. word_holds (λ u. u < 2 ^ s.x) (n == m) v (state.words n) h (fit.words n);
}

abbrev IsThereFit : (s : Setting) → Option State → Type 0
IsThereFit s None = Unit {0}
IsThereFit s (Some state) = IsFit s state

put_all_fit : (s : Setting) (state : State) (ps : List Place) (vs : List ℕ) → AreFit (map (width_of_place s) ps) vs → IsFit s state → IsThereFit s (put_all state ps vs)
put_all_fit s state [] [] fits fit = fit
put_all_fit s state [] (v ∷ vs) fits fit = tt
put_all_fit s state (p ∷ ps) [] fits fit = tt
put_all_fit s state (p ∷ ps) (v ∷ vs) fits fit = put_all_fit s (put state p v) ps vs fits.1 (put_fit s state p v fits.0 fit)

going_fit : (s : Setting) (state : Option State) → IsThereFit s state → GoesOnWith (IsFit s) (going_on state)
going_fit s None h = tt
going_fit s (Some state) h = h

progress_fit : (s : Setting) (state : State) (ps : List Place) (answer : Answer) → AnswerFits (map (width_of_place s) ps) answer → IsFit s state → GoesOnWith (IsFit s) (progress_of state ps answer)
progress_fit s state ps (Results results outside) fits fit =
    going_fit s (put_all (record state { memory = outside.memory; taken = outside.taken }) ps results)
    (put_all_fit s (record state { memory = outside.memory; taken = outside.taken }) ps results fits (record { values = fit.values; words = fit.words }))
progress_fit s state ps (Leaves block) fits fit = fit
progress_fit s state ps (Returns words) fits fit = tt
progress_fit s state ps (Asks callee words) fits fit = tt
progress_fit s state ps Undefined fits fit = tt

-- what an instruction does from arguments that fit
abbrev ActsFit : (s : Setting) (w : World) (i : InstrData) → Type 0
ActsFit s w i = (state : State) → IsFit s state → (arguments : List Argument) → arguments_of s w state i.operands ≡ Some arguments → AreArgumentsFit arguments → (answer : Answer)
    → Act s.x w (meaning_of i.flags i.op) i.mem (map (width_of_place s) (written_places (meaning_of i.flags i.op) i.operands)) arguments (outside_of state) answer
    → AnswerFits (map (width_of_place s) (written_places (meaning_of i.flags i.op) i.operands)) answer

step_from_fit : (s : Setting) (w : World) (i : InstrData) → ActsFit s w i → (state : State) → IsFit s state → (arguments : Option (List Argument)) → arguments_of s w state i.operands ≡ arguments → AreThereFit arguments
    → (p : Progress) → StepsFrom s w i state arguments p → GoesOnWith (IsFit s) p
step_from_fit s w i acts state fit None read small p step = subst (GoesOnWith (IsFit s)) (sym step) tt
step_from_fit s w i acts state fit (Some arguments) read small p step =
    subst (GoesOnWith (IsFit s)) (sym step.2)
    (progress_fit s state (written_places (meaning_of i.flags i.op) i.operands) step.0 (acts state fit arguments read small step.0 step.1) fit)

step_fit : (s : Setting) (w : World) → IsWorld s.x w → (i : InstrData) → ActsFit s w i → (state : State) → IsFit s state → (p : Progress) → Steps s w i state p → GoesOnWith (IsFit s) p
step_fit s w is_world i acts state fit p step =
    step_from_fit s w i acts state fit (arguments_of s w state i.operands) refl (arguments_fit s w is_world state fit i.operands) p step

-- ══ Instructions ══

meaning_fits : (s : Setting) (w : World) (i : InstrData) → MeaningFits (meaning_of i.flags i.op) → has_no_words (meaning_of i.flags i.op) ≡ true → ActsFit s w i
meaning_fits s w i fits h = λ state fit arguments read small answer act.
    act_fits s.x w (meaning_of i.flags i.op) i.mem (map (width_of_place s) (written_places (meaning_of i.flags i.op) i.operands)) arguments (outside_of state) answer fits h small act

constant_fits : (s : Setting) (w : World) (flags : Flags) (o : Opcode) (os : List Operand) (mem : Option MemOp) (line : ℕ) → is_fitting_constant s.width o os ≡ true
    → ActsFit s w (record { op = o; flags = flags; operands = os; mem = mem; line = line })
constant_fits s w flags op.GenericConstant (operand.Def r kind ∷ operand.Constant n v ∷ []) mem line h = λ state fit arguments read small answer act.
    answers_fit (s.width r.0 ∷ []) (one v) (outside_of state) answer (one_fits (s.width r.0) v (ltb-true v (2 ^ s.width r.0) h))
    (subst (λ list. Answers (constant (s.width r.0 ∷ []) list) (outside_of state) answer) (same_Some arguments (Bits n v ∷ []) (sym read)) act)
constant_fits s w flags _ _ mem line h = cc

other_fits : (s : Setting) (w : World) (i : InstrData) (m : Meaning) → meaning_of i.flags i.op ≡ m → MeaningFits m → has_no_words m ≡ true → ActsFit s w i
other_fits s w i m is fits h = meaning_fits s w i (subst MeaningFits (sym is) fits) (subst (λ k. has_no_words k ≡ true) (sym is) h)

instruction_fits : (s : Setting) (w : World) (i : InstrData) (m : Meaning) → meaning_of i.flags i.op ≡ m → keeps_fit s.width m i.op i.operands ≡ true → ActsFit s w i
instruction_fits s w i Copying is keeps = other_fits s w i Copying is tt refl
instruction_fits s w i (Generic gives) is keeps =
    ⊎_elim
    (λ always. meaning_fits s w i (opcode_fits i.flags i.op always) (subst (λ k. has_no_words k ≡ true) (sym is) refl))
    (λ constant. constant_fits s w i.flags i.op i.operands i.mem i.line constant)
    (or_cases (always_fits i.op) (is_fitting_constant s.width i.op i.operands) keeps)
instruction_fits s w i Jumping is keeps = other_fits s w i Jumping is tt refl
instruction_fits s w i Branching is keeps = other_fits s w i Branching is tt refl
instruction_fits s w i (MachineBranching test) is keeps = other_fits s w i (MachineBranching test) is tt refl
instruction_fits s w i Returning is keeps = other_fits s w i Returning is tt refl
instruction_fits s w i Nothing is keeps = other_fits s w i Nothing is tt refl
instruction_fits s w i _ is keeps = cc

instructions_fit : (s : Setting) (w : World) → IsWorld s.x w → (is : List (ℕ × InstrData)) → all_keep_fit s.width is ≡ true → AllKeep s w (IsFit s) is
instructions_fit s w is_world [] h = tt
instructions_fit s w is_world (i ∷ is) h = (
  step_fit s w is_world i.1
      (instruction_fits s w i.1 (meaning_of i.1.flags i.1.op) refl (and_parts (keeps_fit s.width (meaning_of i.1.flags i.1.op) i.1.op i.1.operands) (all_keep_fit s.width is) h).0),
  instructions_fit s w is_world is (and_parts (keeps_fit s.width (meaning_of i.1.flags i.1.op) i.1.op i.1.operands) (all_keep_fit s.width is) h).1,
)

-- ══ Phis ══

-- what a register holds, if it is one
abbrev at_register : (values : ℕ → Option ℕ) → Option ℕ → Option ℕ
at_register values None = None
at_register values (Some r) = values r

chosen_fits : (width : ℕ → ℕ) (values : ℕ → Option ℕ) (n : ℕ) → ((r : ℕ) → IfSome (values r) (λ v. v < 2 ^ width r)) → (b : Bool) (r : ℕ) (later : Option ℕ) → width r ≡ n
    → IfSome (at_register values later) (λ v. v < 2 ^ n) → IfSome (at_register values (cond b (Some r) later)) (λ v. v < 2 ^ n)
chosen_fits width values n fit true r later same h = subst (λ k. IfSome (values r) (λ v. v < 2 ^ k)) same (fit r)
chosen_fits width values n fit false r later same h = h

value_at_is : (state : State) (r : Option ℕ) → value_at state r ≡ at_register state.values r
value_at_is state None = refl
value_at_is state (Some r) = refl

entry_fits : (width : ℕ → ℕ) (values : ℕ → Option ℕ) (n from : ℕ) → ((r : ℕ) → IfSome (values r) (λ v. v < 2 ^ width r)) → (os : List Operand) → uses_have width n os ≡ true
    → IfSome (at_register values (entry_for from os)) (λ v. v < 2 ^ n)
entry_fits width values n from fit [] h = tt
entry_fits width values n from fit (operand.Use r ∷ operand.Block b ∷ os) h =
    chosen_fits width values n fit (b == from) r.0 (entry_for from (operand.Block b ∷ os)) (eqb-true (width r.0) n (and_parts (width r.0 == n) (uses_have width n os) h).0)
    (entry_fits width values n from fit (operand.Block b ∷ os) (and_parts (width r.0 == n) (uses_have width n os) h).1)
entry_fits width values n from fit (operand.Use r ∷ os) h = entry_fits width values n from fit os (and_parts (width r.0 == n) (uses_have width n os) h).1
entry_fits width values n from fit (o ∷ os) h = entry_fits width values n from fit os h

pub taken_fits : (s : Setting) (state : State) → IsFit s state → (n : ℕ) (from : Option ℕ) (os : List Operand) → uses_have s.width n os ≡ true → IfSome (value_at state (from_block from os)) (λ v. v < 2 ^ n)
taken_fits s state fit n None os h = tt
taken_fits s state fit n (Some from) os h =
    subst (λ v. IfSome v (λ u. u < 2 ^ n)) (sym (value_at_is state (entry_for from os))) (entry_fits s.width state.values n from fit.values os h)

put_value_fits : (s : Setting) (state : Option State) (places : List Place) (value : Option ℕ) → IsThereFit s state
    → ((place : Place) → places ≡ place ∷ [] → IfSome value (λ v. v < 2 ^ width_of_place s place)) → IsThereFit s (put_value state places value)
put_value_fits s (Some state) (place ∷ []) (Some v) there h = put_fit s state place v (h place refl) there
put_value_fits s _ _ _ there h = tt

phi_taken_fits : (s : Setting) (state : State) → IsFit s state → (from : Option ℕ) (places : List Place) (os : List Operand) → phi_fits s places os ≡ true
    → (place : Place) → places ≡ place ∷ [] → IfSome (value_at state (from_block from os)) (λ v. v < 2 ^ width_of_place s place)
phi_taken_fits s state fit from places os h place is = taken_fits s state fit (width_of_place s place) from os (subst (λ ps. phi_fits s ps os ≡ true) is h)

phis_joined_fit : (s : Setting) (state : State) → IsFit s state → (from : Option ℕ) (is : List (ℕ × InstrData)) → phis_fit s is ≡ true → IsThereFit s (joined state from is)
phis_joined_fit s state fit from [] h = fit
phis_joined_fit s state fit from (i ∷ is) h =
    put_value_fits s (joined state from is) (places_of i.1.operands) (value_at state (from_block from i.1.operands))
    (phis_joined_fit s state fit from is (and_parts (phi_fits s (places_of i.1.operands) i.1.operands) (phis_fit s is) h).1)
    (phi_taken_fits s state fit from (places_of i.1.operands) i.1.operands (and_parts (phi_fits s (places_of i.1.operands) i.1.operands) (phis_fit s is) h).0)

-- ══ Functions ══

block_keeps_fit : (s : Setting) (w : World) → IsWorld s.x w → (block : BlockData) → phis_fit s (phis_of block.instrs) ≡ true → all_keep_fit s.width (after_phis block.instrs) ≡ true → BlockKeeps s w (IsFit s) block
block_keeps_fit s w is_world block phis body = record {
  phis = λ from entered middle fit here. subst (IsThereFit s) here (phis_joined_fit s entered fit from (phis_of block.instrs) phis);
  body = instructions_fit s w is_world (after_phis block.instrs) body;
}

blocks_keep_fit : (s : Setting) (w : World) → IsWorld s.x w → (blocks : List BlockData) → blocks_fit s blocks ≡ true → (b : ℕ) (block : BlockData) → slice_get blocks b ≡ Some block → BlockKeeps s w (IsFit s) block
blocks_keep_fit s w is_world [] h b block here = cc
blocks_keep_fit s w is_world (k ∷ blocks) h zero block here =
    subst (BlockKeeps s w (IsFit s)) (same_Some k block here)
    (block_keeps_fit s w is_world k
    (and_parts (phis_fit s (phis_of k.instrs)) (all_keep_fit s.width (after_phis k.instrs)) (and_parts (phis_fit s (phis_of k.instrs) && all_keep_fit s.width (after_phis k.instrs)) (blocks_fit s blocks) h).0).0
    (and_parts (phis_fit s (phis_of k.instrs)) (all_keep_fit s.width (after_phis k.instrs)) (and_parts (phis_fit s (phis_of k.instrs) && all_keep_fit s.width (after_phis k.instrs)) (blocks_fit s blocks) h).0).1)
blocks_keep_fit s w is_world (k ∷ blocks) h (suc b) block here =
    blocks_keep_fit s w is_world blocks (and_parts (phis_fit s (phis_of k.instrs) && all_keep_fit s.width (after_phis k.instrs)) (blocks_fit s blocks) h).1 b block here

-- wherever runs reach, values fit their widths
pub fit_where_reached : (x : ℕ) (names : List (List ℕ)) (f : FunctionData) (w : World) → IsWorld x w → blocks_fit (setting_of x names f) f.blocks ≡ true
    → (b : ℕ) (block : BlockData) (before back : List (ℕ × InstrData)) → slice_get f.blocks b ≡ Some block → after_phis block.instrs ≡ before ++ back
    → (state : State) → IsReached (setting_of x names f) w f.blocks b before state → IsFit (setting_of x names f) state
fit_where_reached x names f w is_world h b block before back here splits state reached =
    invariant_holds (setting_of x names f) w f.blocks (IsFit (setting_of x names f))
    (record { starts = record { values = λ r. tt; words = is_world.words }; keeps = blocks_keep_fit (setting_of x names f) w is_world f.blocks h })
    b block before back here splits state reached

-- registers of such a state have values of their sizes
pub fit_sized : (s : Setting) (state : State) → IsFit s state → (rs : List ℕ) (env : Environment) → Reads s.width state.values rs env → AreSized env
fit_sized s state fit [] [] reads = tt
fit_sized s state fit [] (entry ∷ env) reads = absurd reads
fit_sized s state fit (r ∷ rs) [] reads = absurd reads
fit_sized s state fit (r ∷ rs) (entry ∷ env) reads = (
  subst (λ n. entry.1 < 2 ^ n) (sym reads.0) (subst (λ v. IfSome v (λ u. u < 2 ^ s.width r)) reads.1 (fit.values r)),
  fit_sized s state fit rs env reads.2,
)
