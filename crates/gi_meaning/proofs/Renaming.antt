-- The numbers of virtual registers don't matter to a run.
use Rattle.std.proofs.Common.{◌≡◌, ℕ, zero, suc, ◌+◌, Bool, true, false, cond, ◌&&◌, ◌==◌, List, [], ◌∷◌, ◌++◌, map, Option, Some, None, option_map, unwrap_or, slice_get, refl, ap, ap₂, ◌∙◌, subst}
use mathlib.Core.Path.{fun_ext}
use Rattle.std.specs.List.{list_all}
use Rattle.std.proofs.lemmas.Option.{slice_get-map}
use Rattle.gi_llt.specs.declared.Llt.{Llt}
use Rattle.gi_mir.specs.Data.{InstrData, BlockData, FunctionData}
use Rattle.gi_mir.specs.Row.{access_of, typing_of}
use Rattle.gi_mir.specs.declared.opcode.Opcode.{Opcode}
use Rattle.gi_mir.specs.declared.operand.Kind.TheVariants as kind
use Rattle.gi_mir.specs.declared.operand.Operand.{Operand}
use Rattle.gi_mir.specs.declared.operand.Operand.TheVariants as operand
use Rattle.gi_meaning.specs.Argument.{Argument}
use Rattle.gi_meaning.specs.InRow.{type_held, type_in, results_in, sources_in, have_types, has_memory, is_operand_of, has_row, is_in_row, nowhere, checked_instr, checked_pair, checked_block, checked_blocks}
use Rattle.gi_meaning.specs.State.{World, State, outside_of, start, Outcome, Place, Virtual, Physical, put}
use Rattle.gi_meaning.specs.State as an_outcome
use Rattle.gi_meaning.specs.Meaning.{Meaning, Calling, Nothing, meaning_of}
use Rattle.gi_meaning.specs.Act.{Answer, Results, Leaves, Returns, Asks, Act, clobbered, is_result_register}
use Rattle.gi_meaning.specs.Act as an_answer
use Rattle.gi_meaning.specs.Runs.{Setting, width_of_kind, setting_of, argument_of, joined_lists, arguments_of, places_of, result_places, written_places, width_of_place, put_all, Progress, On, Left, Over, going_on, progress_of, StepsFrom, Steps, After, Executes, is_phi, phis_of, after_phis, entry_of, chosen, entry_for, value_at, from_block, put_value, joined, is_among, Follows, RunsAfterPhis, RunsBlock, Enters, Runs}
use Rattle.gi_mir.proofs.KindLemmas.{same_test, kind_in_blocks_old}
use Rattle.gi_mir.specs.Renaming.{IsInjective, renamed_operand, renamed_instr, renamed_pair, renamed_block, renamed}

-- ══ The old setting and the old state ══

abbrev pub old_setting : (ℕ → ℕ) → Setting → Setting
old_setting number s = record s { width = λ r. s.width (number r) }

abbrev pub old_state : (ℕ → ℕ) → State → State
old_state number state = record state { values = λ r. state.values (number r) }

abbrev pub old_option : (ℕ → ℕ) → Option State → Option State
old_option number None = None
old_option number (Some state) = Some (old_state number state)

abbrev pub old_progress : (ℕ → ℕ) → Progress → Progress
old_progress number (On state) = On (old_state number state)
old_progress number (Left b state) = Left b (old_state number state)
old_progress number (Over o) = Over o

abbrev pub new_place : (ℕ → ℕ) → Place → Place
new_place number (Virtual r) = Virtual (number r)
new_place number (Physical n) = Physical n

-- ══ Reads ══

argument_old : (number : ℕ → ℕ) (s : Setting) (w : World) (state : State) (o : Operand)
    → argument_of s w state (renamed_operand number o) ≡ argument_of (old_setting number s) w (old_state number state) o
argument_old number s w state (operand.Def r k) = refl
argument_old number s w state (operand.Use r) = refl
argument_old number s w state _ = refl

arguments_old : (number : ℕ → ℕ) (s : Setting) (w : World) (state : State) (os : List Operand)
    → arguments_of s w state (map (renamed_operand number) os) ≡ arguments_of (old_setting number s) w (old_state number state) os
arguments_old number s w state [] = refl
arguments_old number s w state (o ∷ os) = ap₂ joined_lists (argument_old number s w state o) (arguments_old number s w state os)

-- ══ Writes ══

places_old : (number : ℕ → ℕ) (os : List Operand) → places_of (map (renamed_operand number) os) ≡ map (new_place number) (places_of os)
places_old number [] = refl
places_old number (operand.Def r k ∷ os) = ap (λ ps. Virtual (number r.0) ∷ ps) (places_old number os)
places_old number (operand.PhysDef n ∷ os) = ap (λ ps. Physical n ∷ ps) (places_old number os)
places_old number (_ ∷ os) = places_old number os

with_result : (number : ℕ → ℕ) (n : ℕ) (b : Bool) (ps qs : List Place) → ps ≡ map (new_place number) qs
    → cond b (Physical n ∷ ps) ps ≡ map (new_place number) (cond b (Physical n ∷ qs) qs)
with_result number n true ps qs h = ap (λ rest. Physical n ∷ rest) h
with_result number n false ps qs h = h

results_old : (number : ℕ → ℕ) (os : List Operand) → result_places (map (renamed_operand number) os) ≡ map (new_place number) (result_places os)
results_old number [] = refl
results_old number (operand.ImplicitDef n ∷ os) = with_result number n (is_result_register n) _ _ (results_old number os)
results_old number (_ ∷ os) = results_old number os

written_old : (number : ℕ → ℕ) (m : Meaning) (os : List Operand)
    → written_places m (map (renamed_operand number) os) ≡ map (new_place number) (written_places m os)
written_old number Calling os = ap (λ ps. map Physical clobbered ++ ps) (results_old number os)
written_old number Nothing os = refl
written_old number _ os = places_old number os

width_old : (number : ℕ → ℕ) (s : Setting) (p : Place) → width_of_place s (new_place number p) ≡ width_of_place (old_setting number s) p
width_old number s (Virtual r) = refl
width_old number s (Physical n) = refl

widths_old : (number : ℕ → ℕ) (s : Setting) (ps : List Place)
    → map (width_of_place s) (map (new_place number) ps) ≡ map (width_of_place (old_setting number s)) ps
widths_old number s [] = refl
widths_old number s (p ∷ ps) = ap₂ (λ w ws. w ∷ ws) (width_old number s p) (widths_old number s ps)

put_old : (number : ℕ → ℕ) → IsInjective number → (state : State) (p : Place) (v : ℕ)
    → old_state number (put state (new_place number p) v) ≡ put (old_state number state) p v
put_old number h state (Virtual r) v =
    ap (λ (f : ℕ → Option ℕ). record state { values = f })
    (fun_ext (λ q. ap (λ b. cond b (Some v) (state.values (number q))) (same_test number h q r)))
put_old number h state (Physical n) v = refl

put_all_old : (number : ℕ → ℕ) → IsInjective number → (state : State) (ps : List Place) (vs : List ℕ)
    → old_option number (put_all state (map (new_place number) ps) vs) ≡ put_all (old_state number state) ps vs
put_all_old number h state [] [] = refl
put_all_old number h state [] (v ∷ vs) = refl
put_all_old number h state (p ∷ ps) [] = refl
put_all_old number h state (p ∷ ps) (v ∷ vs) =
    put_all_old number h (put state (new_place number p) v) ps vs ∙ ap (λ s. put_all s ps vs) (put_old number h state p v)

-- ══ A step ══

going_old : (number : ℕ → ℕ) (o : Option State) → old_progress number (going_on o) ≡ going_on (old_option number o)
going_old number None = refl
going_old number (Some state) = refl

progress_old : (number : ℕ → ℕ) → IsInjective number → (state : State) (ps : List Place) (a : Answer)
    → old_progress number (progress_of state (map (new_place number) ps) a) ≡ progress_of (old_state number state) ps a
progress_old number h state ps (Results results outside) =
    going_old number _ ∙ ap going_on (put_all_old number h (record state { memory = outside.memory; taken = outside.taken }) ps results)
progress_old number h state ps (Leaves block) = refl
progress_old number h state ps (Returns words) = refl
progress_old number h state ps (Asks callee words) = refl
progress_old number h state ps an_answer.Undefined = refl

steps_from_old : (number : ℕ → ℕ) → IsInjective number → (s : Setting) (w : World) (i : InstrData) (state : State) (p : Progress) (arguments : Option (List Argument))
    → StepsFrom s w (renamed_instr number i) state arguments p
    → StepsFrom (old_setting number s) w i (old_state number state) arguments (old_progress number p)
steps_from_old number h s w i state p None step = ap (old_progress number) step
steps_from_old number h s w i state p (Some arguments) step =
    let m : Meaning = meaning_of i.flags i.op in
    let places = written_old number m i.operands in (
      step.0,
      subst (λ widths. Act s.x w m i.mem widths arguments (outside_of state) step.0) (ap (map (width_of_place s)) places ∙ widths_old number s (written_places m i.operands)) step.1,
      ap (old_progress number) step.2 ∙ ap (λ ps. old_progress number (progress_of state ps step.0)) places ∙ progress_old number h state (written_places m i.operands) step.0,
    )

steps_old : (number : ℕ → ℕ) → IsInjective number → (s : Setting) (w : World) (i : InstrData) (state : State) (p : Progress)
    → Steps s w (renamed_instr number i) state p → Steps (old_setting number s) w i (old_state number state) (old_progress number p)
steps_old number h s w i state p step =
    steps_from_old number h s w i state p _ (subst (λ arguments. StepsFrom s w (renamed_instr number i) state arguments p) (arguments_old number s w state i.operands) step)

-- ══ A list of instructions ══

after_old : (number : ℕ → ℕ) (rest rest' : State → Progress → Type 0)
    → ((state : State) (p : Progress) → rest state p → rest' (old_state number state) (old_progress number p))
    → (next p : Progress) → After next rest p → After (old_progress number next) rest' (old_progress number p)
after_old number rest rest' goes (On state) p h = goes state p h
after_old number rest rest' goes (Left b state) p h = ap (old_progress number) h
after_old number rest rest' goes (Over o) p h = ap (old_progress number) h

executes_old : (number : ℕ → ℕ) → IsInjective number → (s : Setting) (w : World) (is : List (ℕ × InstrData)) (state : State) (p : Progress)
    → Executes s w (map (renamed_pair number) is) state p → Executes (old_setting number s) w is (old_state number state) (old_progress number p)
executes_old number h s w [] state p run = ap (old_progress number) run
executes_old number h s w (i ∷ is) state p run =
    (old_progress number run.0, steps_old number h s w i.1 state run.0 run.1, after_old number _ _ (executes_old number h s w is) run.0 p run.2)

-- ══ Phis ══

kept_front : (number : ℕ → ℕ) (i : ℕ × InstrData) (b : Bool) (is js : List (ℕ × InstrData)) → is ≡ map (renamed_pair number) js
    → cond b (renamed_pair number i ∷ is) [] ≡ map (renamed_pair number) (cond b (i ∷ js) [])
kept_front number i true is js h = ap (λ rest. renamed_pair number i ∷ rest) h
kept_front number i false is js h = refl

phis_old : (number : ℕ → ℕ) (is : List (ℕ × InstrData)) → phis_of (map (renamed_pair number) is) ≡ map (renamed_pair number) (phis_of is)
phis_old number [] = refl
phis_old number (i ∷ is) = kept_front number i (is_phi i.1) _ _ (phis_old number is)

dropped_front : (number : ℕ → ℕ) (i : ℕ × InstrData) (b : Bool) (is js rest : List (ℕ × InstrData)) → is ≡ map (renamed_pair number) js
    → cond b is (renamed_pair number i ∷ map (renamed_pair number) rest) ≡ map (renamed_pair number) (cond b js (i ∷ rest))
dropped_front number i true is js rest h = h
dropped_front number i false is js rest h = refl

after_phis_old : (number : ℕ → ℕ) (is : List (ℕ × InstrData)) → after_phis (map (renamed_pair number) is) ≡ map (renamed_pair number) (after_phis is)
after_phis_old number [] = refl
after_phis_old number (i ∷ is) = dropped_front number i (is_phi i.1) _ _ is (after_phis_old number is)

entry_old : (number : ℕ → ℕ) (o : Operand) (os : List Operand)
    → entry_of (renamed_operand number o ∷ map (renamed_operand number) os) ≡ option_map (λ e. (number e.0, e.1)) (entry_of (o ∷ os))
entry_old number (operand.Use r) [] = refl
entry_old number (operand.Use r) (operand.Block b ∷ os) = refl
entry_old number (operand.Use r) (_ ∷ os) = refl
entry_old number _ os = refl

chosen_at : (number : ℕ → ℕ) (b : Bool) (r : ℕ) (later : Option ℕ)
    → cond b (Some (number r)) (option_map number later) ≡ option_map number (cond b (Some r) later)
chosen_at number true r later = refl
chosen_at number false r later = refl

chosen_old : (number : ℕ → ℕ) (from : ℕ) (e : Option (ℕ × ℕ)) (later : Option ℕ)
    → chosen from (option_map (λ e. (number e.0, e.1)) e) (option_map number later) ≡ option_map number (chosen from e later)
chosen_old number from None later = refl
chosen_old number from (Some e) later = chosen_at number (e.1 == from) e.0 later

entry_for_old : (number : ℕ → ℕ) (from : ℕ) (os : List Operand) → entry_for from (map (renamed_operand number) os) ≡ option_map number (entry_for from os)
entry_for_old number from [] = refl
entry_for_old number from (o ∷ os) =
    ap₂ (chosen from) (entry_old number o os) (entry_for_old number from os) ∙ chosen_old number from (entry_of (o ∷ os)) (entry_for from os)

from_block_old : (number : ℕ → ℕ) (from : Option ℕ) (os : List Operand) → from_block from (map (renamed_operand number) os) ≡ option_map number (from_block from os)
from_block_old number None os = refl
from_block_old number (Some from) os = entry_for_old number from os

value_old : (number : ℕ → ℕ) (state : State) (e : Option ℕ) → value_at state (option_map number e) ≡ value_at (old_state number state) e
value_old number state None = refl
value_old number state (Some r) = refl

put_value_old : (number : ℕ → ℕ) → IsInjective number → (o : Option State) (ps : List Place) (v : Option ℕ)
    → old_option number (put_value o (map (new_place number) ps) v) ≡ put_value (old_option number o) ps v
put_value_old number h None ps v = refl
put_value_old number h (Some state) [] v = refl
put_value_old number h (Some state) (p ∷ []) None = refl
put_value_old number h (Some state) (p ∷ []) (Some v) = ap Some (put_old number h state p v)
put_value_old number h (Some state) (p ∷ q ∷ ps) v = refl

joined_old : (number : ℕ → ℕ) → IsInjective number → (state : State) (from : Option ℕ) (is : List (ℕ × InstrData))
    → old_option number (joined state from (map (renamed_pair number) is)) ≡ joined (old_state number state) from is
joined_old number h state from [] = refl
joined_old number h state from (i ∷ is) =
    ap₂ (λ ps v. old_option number (put_value (joined state from (map (renamed_pair number) is)) ps v)) (places_old number i.1.operands)
    (ap (value_at state) (from_block_old number from i.1.operands) ∙ value_old number state (from_block from i.1.operands))
    ∙ put_value_old number h (joined state from (map (renamed_pair number) is)) (places_of i.1.operands) (value_at (old_state number state) (from_block from i.1.operands))
    ∙ ap (λ o. put_value o (places_of i.1.operands) (value_at (old_state number state) (from_block from i.1.operands))) (joined_old number h state from is)

-- ══ Blocks and whole runs ══

-- from the old state the old blocks may come to the same outcome
record GoesOld (number : ℕ → ℕ) (enters enters' : Option ℕ → ℕ → State → Outcome → Type 0) : Type 0 where
  by : (from : Option ℕ) (b : ℕ) (state : State) (o : Outcome) → enters from b state o → enters' from b (old_state number state) o

falls_old : (number : ℕ → ℕ) (enters enters' : Option ℕ → ℕ → State → Outcome → Type 0) → GoesOld number enters enters'
    → (test : Bool) (from : Option ℕ) (b : ℕ) (state : State) (o : Outcome)
    → cond test (enters from b state o) (o ≡ an_outcome.Undefined) → cond test (enters' from b (old_state number state) o) (o ≡ an_outcome.Undefined)
falls_old number enters enters' goes true from b state o run = goes.by from b state o run
falls_old number enters enters' goes false from b state o run = run

follows_old : (number : ℕ → ℕ) (enters enters' : Option ℕ → ℕ → State → Outcome → Type 0) → GoesOld number enters enters'
    → (b : ℕ) (successors : List ℕ) (p : Progress) (o : Outcome)
    → Follows b successors enters p o → Follows b successors enters' (old_progress number p) o
follows_old number enters enters' goes b successors (On state) o run = falls_old number enters enters' goes (is_among (b + 1) successors) (Some b) (b + 1) state o run
follows_old number enters enters' goes b successors (Left c state) o run = goes.by (Some b) c state o run
follows_old number enters enters' goes b successors (Over over) o run = run

after_joined_old : (number : ℕ → ℕ) → IsInjective number → (s : Setting) (w : World) (b : ℕ) (block : BlockData)
    → (enters enters' : Option ℕ → ℕ → State → Outcome → Type 0) → GoesOld number enters enters' → (state : Option State) (o : Outcome)
    → RunsAfterPhis s w b (renamed_block number block) enters state o
    → RunsAfterPhis (old_setting number s) w b block enters' (old_option number state) o
after_joined_old number h s w b block enters enters' goes None o run = run
after_joined_old number h s w b block enters enters' goes (Some state) o run = (
  old_progress number run.0,
  executes_old number h s w (after_phis block.instrs) state run.0
      (subst (λ is. Executes s w is state run.0) (after_phis_old number block.instrs) run.1),
  follows_old number enters enters' goes b block.successors run.0 o run.2,
)

block_old : (number : ℕ → ℕ) → IsInjective number → (s : Setting) (w : World) (block : Option BlockData)
    → (enters enters' : Option ℕ → ℕ → State → Outcome → Type 0) → GoesOld number enters enters'
    → (from : Option ℕ) (b : ℕ) (state : State) (o : Outcome)
    → RunsBlock s w (option_map (renamed_block number) block) enters from b state o
    → RunsBlock (old_setting number s) w block enters' from b (old_state number state) o
block_old number h s w None enters enters' goes from b state o run = run
block_old number h s w (Some block) enters enters' goes from b state o run =
    let start : old_option number (joined state from (phis_of (map (renamed_pair number) block.instrs))) ≡ joined (old_state number state) from (phis_of block.instrs) =
    ap (λ is. old_option number (joined state from is)) (phis_old number block.instrs) ∙ joined_old number h state from (phis_of block.instrs) in
    subst (λ st. RunsAfterPhis (old_setting number s) w b block enters' st o) start
    (after_joined_old number h s w b block enters enters' goes (joined state from (phis_of (map (renamed_pair number) block.instrs))) o run)

enters_old : (number : ℕ → ℕ) → IsInjective number → (s : Setting) (w : World) (blocks : List BlockData) (n : ℕ)
    → GoesOld number (Enters s w (map (renamed_block number) blocks) n) (Enters (old_setting number s) w blocks n)
enters_old number h s w blocks zero = record { by = λ from b state o run. run }
enters_old number h s w blocks (suc n) = record {
  by = λ from b state o run.
      block_old number h s w (slice_get blocks b) (Enters s w (map (renamed_block number) blocks) n) (Enters (old_setting number s) w blocks n)
      (enters_old number h s w blocks n) from b state o
      (subst (λ block. RunsBlock s w block (Enters s w (map (renamed_block number) blocks) n) from b state o)
      (slice_get-map (renamed_block number) blocks b) run);
}

-- ══ Kinds ══

setting_old : (number : ℕ → ℕ) → IsInjective number → (x : ℕ) (names : List (List ℕ)) (f : FunctionData)
    → old_setting number (setting_of x names (renamed number f)) ≡ setting_of x names f
setting_old number h x names f =
    ap (λ (width : ℕ → ℕ). let s : Setting = record { x = x; names = names; width = width } in s)
    (fun_ext (λ r. ap (λ k. width_of_kind x (unwrap_or k kind.Class)) (kind_in_blocks_old number h r f.blocks)))

-- ══ Rows ══

results_renamed : (number : ℕ → ℕ) (os : List Operand) → results_in (map (renamed_operand number) os) ≡ map number (results_in os)
results_renamed number [] = refl
results_renamed number (operand.Def r k ∷ os) = ap (λ rs. number r.0 ∷ rs) (results_renamed number os)
results_renamed number (_ ∷ os) = results_renamed number os

sources_renamed : (number : ℕ → ℕ) (os : List Operand) → sources_in (map (renamed_operand number) os) ≡ map number (sources_in os)
sources_renamed number [] = refl
sources_renamed number (operand.Use r ∷ os) = ap (λ rs. number r.0 ∷ rs) (sources_renamed number os)
sources_renamed number (_ ∷ os) = sources_renamed number os

types_renamed : (number : ℕ → ℕ) (old new : ℕ → Llt) → ((r : ℕ) → new (number r) ≡ old r) → (rs : List ℕ) → map new (map number rs) ≡ map old rs
types_renamed number old new same [] = refl
types_renamed number old new same (r ∷ rs) = ap₂ (λ t ts. t ∷ ts) (same r) (types_renamed number old new same rs)

operand_renamed : (number : ℕ → ℕ) (x : ℕ) (o : Opcode) (types : List Llt) (each : Operand) → is_operand_of x o types (renamed_operand number each) ≡ is_operand_of x o types each
operand_renamed number x o types (operand.Def r k) = refl
operand_renamed number x o types (operand.Use r) = refl
operand_renamed number x o types _ = refl

operands_renamed : (number : ℕ → ℕ) (x : ℕ) (o : Opcode) (types : List Llt) (os : List Operand)
    → list_all (is_operand_of x o types) (map (renamed_operand number) os) ≡ list_all (is_operand_of x o types) os
operands_renamed number x o types [] = refl
operands_renamed number x o types (each ∷ os) = ap₂ (λ a b. a && b) (operand_renamed number x o types each) (operands_renamed number x o types os)

in_row_renamed : (number : ℕ → ℕ) (x : ℕ) (old new : ℕ → Llt) → ((r : ℕ) → new (number r) ≡ old r) → (i : InstrData)
    → is_in_row x new (renamed_instr number i) ≡ is_in_row x old i
in_row_renamed number x old new same i =
    let results : map new (results_in (map (renamed_operand number) i.operands)) ≡ map old (results_in i.operands) =
    ap (map new) (results_renamed number i.operands) ∙ types_renamed number old new same (results_in i.operands) in
    let sources : map new (sources_in (map (renamed_operand number) i.operands)) ≡ map old (sources_in i.operands) =
    ap (map new) (sources_renamed number i.operands) ∙ types_renamed number old new same (sources_in i.operands) in
    let types : List Llt = map old (results_in i.operands) ++ map old (sources_in i.operands) in
    ap₂ (has_row x (renamed_instr number i)) results sources
    ∙ ap (λ b. have_types x i.op (typing_of i.op) (map old (results_in i.operands)) (map old (sources_in i.operands)) && has_memory x (access_of i.op) i.op types i.mem && b)
    (operands_renamed number x i.op types i.operands)

chosen_renamed : (number : ℕ → ℕ) (i : InstrData) (b : Bool)
    → cond b (renamed_instr number i) (nowhere (renamed_instr number i)) ≡ renamed_instr number (cond b i (nowhere i))
chosen_renamed number i true = refl
chosen_renamed number i false = refl

instr_checked : (number : ℕ → ℕ) (x : ℕ) (old new : ℕ → Llt) → ((r : ℕ) → new (number r) ≡ old r) → (i : InstrData)
    → checked_instr x new (renamed_instr number i) ≡ renamed_instr number (checked_instr x old i)
instr_checked number x old new same i =
    ap (λ b. cond b (renamed_instr number i) (nowhere (renamed_instr number i))) (in_row_renamed number x old new same i) ∙ chosen_renamed number i (is_in_row x old i)

instrs_checked : (number : ℕ → ℕ) (x : ℕ) (old new : ℕ → Llt) → ((r : ℕ) → new (number r) ≡ old r) → (is : List (ℕ × InstrData))
    → map (checked_pair x new) (map (renamed_pair number) is) ≡ map (renamed_pair number) (map (checked_pair x old) is)
instrs_checked number x old new same [] = refl
instrs_checked number x old new same (i ∷ is) =
    ap₂ (λ (d : InstrData) (ds : List (ℕ × InstrData)). (i.0, d) ∷ ds) (instr_checked number x old new same i.1) (instrs_checked number x old new same is)

blocks_checked : (number : ℕ → ℕ) (x : ℕ) (old new : ℕ → Llt) → ((r : ℕ) → new (number r) ≡ old r) → (blocks : List BlockData)
    → map (checked_block x new) (map (renamed_block number) blocks) ≡ map (renamed_block number) (map (checked_block x old) blocks)
blocks_checked number x old new same [] = refl
blocks_checked number x old new same (b ∷ blocks) =
    ap₂ (λ (is : List (ℕ × InstrData)) (bs : List BlockData). (record b { instrs = is }) ∷ bs) (instrs_checked number x old new same b.instrs) (blocks_checked number x old new same blocks)

checked_renamed : (number : ℕ → ℕ) → IsInjective number → (x : ℕ) (f : FunctionData) → checked_blocks x (renamed number f) ≡ map (renamed_block number) (checked_blocks x f)
checked_renamed number h x f =
    blocks_checked number x (type_in x f) (type_in x (renamed number f))
    (λ r. ap (λ k. type_held x (unwrap_or k kind.Class)) (kind_in_blocks_old number h r f.blocks)) f.blocks

-- what the renamed function may come to, the function may come to
pub runs_renamed : (number : ℕ → ℕ) → IsInjective number → (x : ℕ) (names : List (List ℕ)) (f : FunctionData) (w : World) (n : ℕ) (o : Outcome)
    → Runs x names (renamed number f) w n o → Runs x names f w n o
runs_renamed number h x names f w n o run =
    subst (λ s. Enters s w (checked_blocks x f) n None 0 (start w) o) (setting_old number h x names f)
    ((enters_old number h (setting_of x names (renamed number f)) w (checked_blocks x f) n).by None 0 (start w) o
    (subst (λ blocks. Enters (setting_of x names (renamed number f)) w blocks n None 0 (start w) o) (checked_renamed number h x f) run))
