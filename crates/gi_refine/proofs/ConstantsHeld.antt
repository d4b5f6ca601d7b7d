-- A register that nothing but one constant defines holds it wherever it has a value.
use Rattle.gi_refine.specs.ValueRules.{constant}
use Rattle.gi_refine.specs.Lifting.{Reads}
use Rattle.gi_refine.specs.Values.{Environment, Holds, Defines}
use Rattle.std.proofs.Common.{◌≡◌, ℕ, zero, suc, true, false, not, ◌&&◌, ◌==◌, List, [], ◌∷◌, ◌++◌, Option, Some, None, slice_get, ⊎_elim, refl, sym, ap, ◌∙◌, subst, eqb-true}
use Rattle.std.proofs.lemmas.Bool.{and_parts, or_parts, or_cases, not-true}
use Rattle.std.proofs.lemmas.Option.{same_Some}
use Rattle.std.specs.Prelude.{IfSome}
use Rattle.gi_mir.specs.Data.{InstrData, BlockData}
use Rattle.gi_mir.specs.declared.opcode.Opcode.{Opcode}
use Rattle.gi_mir.specs.declared.opcode.Opcode.TheVariants as op
use Rattle.gi_mir.specs.declared.operand.Flags.{Flags}
use Rattle.gi_mir.specs.declared.operand.MemOp.{MemOp}
use Rattle.gi_mir.specs.declared.operand.Operand.{Operand}
use Rattle.gi_mir.specs.declared.operand.Operand.TheVariants as operand
use Rattle.gi_meaning.specs.Argument.{Argument}
use Rattle.gi_meaning.specs.State.{World, State, Outside, outside_of, Place, Virtual, Physical, put}
use Rattle.gi_meaning.specs.Meaning.{meaning_of}
use Rattle.gi_meaning.specs.Act.{Answer, Results, Leaves, Returns, Asks, Undefined}
use Rattle.gi_meaning.specs.Runs.{Setting, arguments_of, places_of, written_places, put_all, Progress, On, going_on, progress_of, StepsFrom, Steps, phis_of, after_phis, value_at, from_block, put_value, joined}
use Rattle.gi_refine.specs.Constants.{is_virtual, writes, is_constant_of, keeps_constant, all_keep_constant, no_phi_writes, only_constant, HoldsOnly}
use Rattle.gi_refine.specs.Invariant.{GoesOnWith, AllKeep, BlockKeeps}
use Rattle.gi_refine.specs.Reached.{IsReached}
use Rattle.gi_refine.proofs.Basics.{value_stays, value_holds}
use Rattle.gi_refine.proofs.Invariants.{invariant_holds}
use Rattle.gi_refine.proofs.ValuesStepped.{BothRead, both_read}

-- ══ Writes to other places ══

put_other : (r v : ℕ) (state : State) (p : Place) → is_virtual r p ≡ false → (put state p v).values r ≡ state.values r
put_other r v state (Virtual q) h = value_stays (r == q) v (state.values r) h
put_other r v state (Physical n) h = refl

abbrev StaysSo : (r : ℕ) (old : Option ℕ) → Option State → Type 0
StaysSo r old None = Unit {0}
StaysSo r old (Some state) = state.values r ≡ old

put_all_others : (r : ℕ) (old : Option ℕ) (state : State) (ps : List Place) (vs : List ℕ) → writes r ps ≡ false → state.values r ≡ old → StaysSo r old (put_all state ps vs)
put_all_others r old state [] [] h is = is
put_all_others r old state [] (v ∷ vs) h is = tt
put_all_others r old state (p ∷ ps) [] h is = tt
put_all_others r old state (p ∷ ps) (v ∷ vs) h is =
    put_all_others r old (put state p v) ps vs (or_parts (is_virtual r p) (writes r ps) h).1 (put_other r v state p (or_parts (is_virtual r p) (writes r ps) h).0 ∙ is)

holds_still : (r value : ℕ) (old : Option ℕ) (state : Option State) → IfSome old (λ v. v ≡ value) → StaysSo r old state → GoesOnWith (HoldsOnly r value) (going_on state)
holds_still r value old None holds stays = tt
holds_still r value old (Some state) holds stays = record { is = subst (λ v. IfSome v (λ u. u ≡ value)) (sym stays) holds }

progress_holds : (r value : ℕ) (state : State) (ps : List Place) (answer : Answer) → writes r ps ≡ false → HoldsOnly r value state → GoesOnWith (HoldsOnly r value) (progress_of state ps answer)
progress_holds r value state ps (Results results outside) h holds =
    holds_still r value (state.values r) (put_all (record state { memory = outside.memory; taken = outside.taken }) ps results) holds.is
    (put_all_others r (state.values r) (record state { memory = outside.memory; taken = outside.taken }) ps results h refl)
progress_holds r value state ps (Leaves block) h holds = holds
progress_holds r value state ps (Returns words) h holds = tt
progress_holds r value state ps (Asks callee words) h holds = tt
progress_holds r value state ps Undefined h holds = tt

other_holds : (s : Setting) (w : World) (r value : ℕ) (i : InstrData) → writes r (written_places (meaning_of i.flags i.op) i.operands) ≡ false → (state : State) → HoldsOnly r value state
    → (arguments : Option (List Argument)) (p : Progress) → StepsFrom s w i state arguments p → GoesOnWith (HoldsOnly r value) p
other_holds s w r value i h state holds None p step = subst (GoesOnWith (HoldsOnly r value)) (sym step) tt
other_holds s w r value i h state holds (Some arguments) p step =
    subst (GoesOnWith (HoldsOnly r value)) (sym step.2) (progress_holds r value state (written_places (meaning_of i.flags i.op) i.operands) step.0 h holds)

-- ══ The constant ══

constant_holds : (s : Setting) (w : World) (r value : ℕ) (flags : Flags) (o : Opcode) (os : List Operand) (mem : Option MemOp) (line : ℕ) → is_constant_of r value o os ≡ true → (state : State) → HoldsOnly r value state
    → (p : Progress) → Steps s w (record { op = o; flags = flags; operands = os; mem = mem; line = line }) state p → GoesOnWith (HoldsOnly r value) p
constant_holds s w r value flags op.GenericConstant (operand.Def q kind ∷ operand.Constant n v ∷ []) mem line h state holds p step =
    let answered : step.0 ≡ Results (v ∷ []) (outside_of state) = step.1.2 ∙ ap (λ rs. Results rs (outside_of state)) step.1.1 in
    let made : p ≡ On (put state (Virtual q.0) v) = step.2 ∙ ap (progress_of state (Virtual q.0 ∷ [])) answered in
    let here : HoldsOnly r value (put state (Virtual q.0) v) =
    record { is = value_holds (λ u. u ≡ value) (r == q.0) v (state.values r) (λ same. eqb-true v value (and_parts (q.0 == r) (v == value) h).1) holds.is } in
    subst (GoesOnWith (HoldsOnly r value)) (sym made) here
constant_holds s w r value flags _ _ mem line h state holds p step = cc

instruction_holds : (s : Setting) (w : World) (r value : ℕ) (i : InstrData) → keeps_constant r value i ≡ true → (state : State) → HoldsOnly r value state → (p : Progress) → Steps s w i state p → GoesOnWith (HoldsOnly r value) p
instruction_holds s w r value i h state holds p step =
    ⊎_elim
    (λ other. other_holds s w r value i (not-true (writes r (written_places (meaning_of i.flags i.op) i.operands)) other) state holds (arguments_of s w state i.operands) p step)
    (λ constant. constant_holds s w r value i.flags i.op i.operands i.mem i.line constant state holds p step)
    (or_cases (not (writes r (written_places (meaning_of i.flags i.op) i.operands))) (is_constant_of r value i.op i.operands) h)

instructions_hold : (s : Setting) (w : World) (r value : ℕ) (is : List (ℕ × InstrData)) → all_keep_constant r value is ≡ true → AllKeep s w (HoldsOnly r value) is
instructions_hold s w r value [] h = tt
instructions_hold s w r value (i ∷ is) h = (
  instruction_holds s w r value i.1 (and_parts (keeps_constant r value i.1) (all_keep_constant r value is) h).0,
  instructions_hold s w r value is (and_parts (keeps_constant r value i.1) (all_keep_constant r value is) h).1,
)

-- ══ Phis ══

put_value_others : (r : ℕ) (old : Option ℕ) (state : Option State) (ps : List Place) (value : Option ℕ) → writes r ps ≡ false → StaysSo r old state → StaysSo r old (put_value state ps value)
put_value_others r old (Some state) (p ∷ []) (Some v) h stays = put_other r v state p (or_parts (is_virtual r p) false h).0 ∙ stays
put_value_others r old _ _ _ h stays = tt

joined_others : (r : ℕ) (state : State) (from : Option ℕ) (is : List (ℕ × InstrData)) → no_phi_writes r is ≡ true → StaysSo r (state.values r) (joined state from is)
joined_others r state from [] h = refl
joined_others r state from (i ∷ is) h =
    put_value_others r (state.values r) (joined state from is) (places_of i.1.operands) (value_at state (from_block from i.1.operands))
    (not-true (writes r (places_of i.1.operands)) (and_parts (not (writes r (places_of i.1.operands))) (no_phi_writes r is) h).0)
    (joined_others r state from is (and_parts (not (writes r (places_of i.1.operands))) (no_phi_writes r is) h).1)

-- ══ Functions ══

block_holds : (s : Setting) (w : World) (r value : ℕ) (block : BlockData) → no_phi_writes r (phis_of block.instrs) ≡ true → all_keep_constant r value (after_phis block.instrs) ≡ true → BlockKeeps s w (HoldsOnly r value) block
block_holds s w r value block phis body = record {
  phis = λ from entered middle holds here. record {
    is = subst (λ v. IfSome v (λ u. u ≡ value)) (sym (subst (StaysSo r (entered.values r)) here (joined_others r entered from (phis_of block.instrs) phis))) holds.is;
  };
  body = instructions_hold s w r value (after_phis block.instrs) body;
}

blocks_hold : (s : Setting) (w : World) (r value : ℕ) (blocks : List BlockData) → only_constant r value blocks ≡ true → (b : ℕ) (block : BlockData) → slice_get blocks b ≡ Some block → BlockKeeps s w (HoldsOnly r value) block
blocks_hold s w r value [] h b block here = cc
blocks_hold s w r value (k ∷ blocks) h zero block here =
    let first : (no_phi_writes r (phis_of k.instrs) && all_keep_constant r value (after_phis k.instrs)) ≡ true =
    (and_parts (no_phi_writes r (phis_of k.instrs) && all_keep_constant r value (after_phis k.instrs)) (only_constant r value blocks) h).0 in
    subst (BlockKeeps s w (HoldsOnly r value)) (same_Some k block here)
    (block_holds s w r value k
    (and_parts (no_phi_writes r (phis_of k.instrs)) (all_keep_constant r value (after_phis k.instrs)) first).0
    (and_parts (no_phi_writes r (phis_of k.instrs)) (all_keep_constant r value (after_phis k.instrs)) first).1)
blocks_hold s w r value (k ∷ blocks) h (suc b) block here =
    blocks_hold s w r value blocks (and_parts (no_phi_writes r (phis_of k.instrs) && all_keep_constant r value (after_phis k.instrs)) (only_constant r value blocks) h).1 b block here

-- wherever runs reach, the register has no value or the constant
pub constant_where_reached : (s : Setting) (w : World) (blocks : List BlockData) (r value : ℕ) → only_constant r value blocks ≡ true
    → (b : ℕ) (block : BlockData) (before back : List (ℕ × InstrData)) → slice_get blocks b ≡ Some block → after_phis block.instrs ≡ before ++ back
    → (state : State) → IsReached s w blocks b before state → HoldsOnly r value state
constant_where_reached s w blocks r value h b block before back here splits state reached =
    invariant_holds s w blocks (HoldsOnly r value) (record { starts = record { is = tt }; keeps = blocks_hold s w r value blocks h }) b block before back here splits state reached

-- ══ Facts ══

entry_of_width : (n value : ℕ) (entry : ℕ × ℕ) → entry.0 ≡ n → entry.1 ≡ value → entry ≡ (n, value)
entry_of_width n value entry width is = ap (λ k. (k, entry.1)) width ∙ ap (λ v. (n, v)) is

entry_held : (width : ℕ → ℕ) (values : ℕ → Option ℕ) (r value : ℕ) (entry : Option (ℕ × ℕ)) → IfSome (values r) (λ v. v ≡ value) → BothRead width values (Some r) entry → entry ≡ Some (width r, value)
entry_held width values r value None holds both = absurd both
entry_held width values r value (Some e) holds both = ap Some (entry_of_width (width r) value e both.0 (subst (λ v. IfSome v (λ u. u ≡ value)) both.1 holds))

-- the fact of the constant, at a place of a rule
pub constant_fact : (s : Setting) (w : World) (outside : Outside) (r value k : ℕ) (state : State) → HoldsOnly r value state → (registers : List ℕ) → slice_get registers k ≡ Some r
    → (env : Environment) → Reads s.width state.values registers env → Holds s.x w outside env (Defines (constant (s.width r) value) (k ∷ []))
constant_fact s w outside r value k state holds registers here env reads = (
  value ∷ [],
  (value ∷ [], refl, refl),
  (entry_held s.width state.values r value (slice_get env k) holds.is (subst (λ q. BothRead s.width state.values q (slice_get env k)) here (both_read s.width state.values registers env k reads)), tt),
)
