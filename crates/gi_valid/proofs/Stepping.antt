-- What a step that goes on, or one that leaves its block, says of what was read and what is written.
use Rattle.std.proofs.Common.{◌≡◌, ℕ, Bool, true, false, cond, ◌==◌, List, [], ◌∷◌, ◌++◌, map, Option, Some, None, option_map, ⊎_elim, refl, sym, ap, ap₂, ◌∙◌, subst, true≢false}
use Rattle.std.proofs.lemmas.Bool.{or_parts, or_from, or_cases, or_left, or_right, and_parts, false_from_ne_true, eq-eqb, eqb-true}
use Rattle.std.proofs.lemmas.Option.{none-some, same_Some}
use Rattle.std.specs.List.{list_any, list_all}
use Rattle.gi_mir.specs.Data.{InstrData}
use Rattle.gi_mir.specs.Edit.{is_def_of, is_use_of, defines}
use Rattle.gi_mir.specs.declared.operand.Operand.{Operand}
use Rattle.gi_mir.specs.declared.operand.Operand.TheVariants as operand
use Rattle.gi_meaning.specs.Argument.{Argument, Value, Implicit}
use Rattle.gi_meaning.specs.State.{World, State, Outside, outside_of, Place, Virtual, Physical, put, word_in}
use Rattle.gi_meaning.specs.Meaning.{Meaning, Calling, Nothing, meaning_of}
use Rattle.gi_meaning.specs.Act.{Answer, Results, Leaves, Returns, Asks, Undefined, Act, clobbered, is_result_register}
use Rattle.gi_meaning.specs.Runs.{Setting, argument_of, joined_lists, arguments_of, places_of, result_places, written_places, width_of_place, put_all, On, Left, going_on, progress_of, StepsFrom, Steps}
use Rattle.gi_refine.specs.Constants.{is_virtual, writes}
use Rattle.gi_refine.proofs.Basics.{value_stays}
use Rattle.gi_valid.specs.Facts.{is_fixed}

-- ══ A step that goes on ══

pub record Ran (s : Setting) (w : World) (i : InstrData) (state state' : State) : Type 0 where
  pub arguments : List Argument
  pub results : List ℕ
  pub outside : Outside
  pub read : arguments_of s w state i.operands ≡ Some arguments
  pub act : Act s.x w (meaning_of i.flags i.op) i.mem (map (width_of_place s) (written_places (meaning_of i.flags i.op) i.operands)) arguments (outside_of state) (Results results outside)
  pub puts : put_all (record state { memory = outside.memory; taken = outside.taken }) (written_places (meaning_of i.flags i.op) i.operands) results ≡ Some state'

on_is : (a b : State) → On a ≡ On b → a ≡ b
on_is a b h = cc

going : (made : Option State) (state' : State) → On state' ≡ going_on made → made ≡ Some state'
going None state' h = cc
going (Some state) state' h = ap Some (sym (on_is state' state h))

ran_by : (s : Setting) (w : World) (i : InstrData) (state state' : State) (arguments : List Argument) → arguments_of s w state i.operands ≡ Some arguments → (answer : Answer)
    → Act s.x w (meaning_of i.flags i.op) i.mem (map (width_of_place s) (written_places (meaning_of i.flags i.op) i.operands)) arguments (outside_of state) answer
    → On state' ≡ progress_of state (written_places (meaning_of i.flags i.op) i.operands) answer → Ran s w i state state'
ran_by s w i state state' arguments read (Results results outside) act h = record {
  arguments = arguments;
  results = results;
  outside = outside;
  read = read;
  act = act;
  puts = going (put_all (record state { memory = outside.memory; taken = outside.taken }) (written_places (meaning_of i.flags i.op) i.operands) results) state' h;
}
ran_by s w i state state' arguments read (Leaves c) act h = cc
ran_by s w i state state' arguments read (Returns words) act h = cc
ran_by s w i state state' arguments read (Asks callee words) act h = cc
ran_by s w i state state' arguments read Undefined act h = cc

ran_from : (s : Setting) (w : World) (i : InstrData) (state state' : State) (arguments : Option (List Argument)) → arguments_of s w state i.operands ≡ arguments → StepsFrom s w i state arguments (On state') → Ran s w i state state'
ran_from s w i state state' None read step = cc
ran_from s w i state state' (Some arguments) read step = ran_by s w i state state' arguments read step.0 step.1 step.2

pub ran : (s : Setting) (w : World) (i : InstrData) (state state' : State) → Steps s w i state (On state') → Ran s w i state state'
ran s w i state state' step = ran_from s w i state state' (arguments_of s w state i.operands) refl step

-- ══ One that leaves its block ══

pub record Went (s : Setting) (w : World) (i : InstrData) (state : State) (c : ℕ) (state' : State) : Type 0 where
  pub arguments : List Argument
  pub act : Act s.x w (meaning_of i.flags i.op) i.mem (map (width_of_place s) (written_places (meaning_of i.flags i.op) i.operands)) arguments (outside_of state) (Leaves c)
  pub same : state' ≡ state

left_is : (b c : ℕ) (state' state : State) → Left c state' ≡ Left b state → (b ≡ c) × (state' ≡ state)
left_is b c state' state h = (cc, cc)

went_going : (made : Option State) (c : ℕ) (state' : State) → Left c state' ≡ going_on made → ⊥
went_going None c state' h = cc
went_going (Some state) c state' h = cc

went_by : (s : Setting) (w : World) (i : InstrData) (state : State) (c : ℕ) (state' : State) (arguments : List Argument) (answer : Answer)
    → Act s.x w (meaning_of i.flags i.op) i.mem (map (width_of_place s) (written_places (meaning_of i.flags i.op) i.operands)) arguments (outside_of state) answer
    → Left c state' ≡ progress_of state (written_places (meaning_of i.flags i.op) i.operands) answer → Went s w i state c state'
went_by s w i state c state' arguments (Results results outside) act h =
    absurd (went_going (put_all (record state { memory = outside.memory; taken = outside.taken }) (written_places (meaning_of i.flags i.op) i.operands) results) c state' h)
went_by s w i state c state' arguments (Leaves b) act h =
    let each : (b ≡ c) × (state' ≡ state) = left_is b c state' state h in record {
      arguments = arguments;
      act = subst (λ k. Act s.x w (meaning_of i.flags i.op) i.mem (map (width_of_place s) (written_places (meaning_of i.flags i.op) i.operands)) arguments (outside_of state) (Leaves k)) each.0 act;
      same = each.1;
    }
went_by s w i state c state' arguments (Returns words) act h = cc
went_by s w i state c state' arguments (Asks callee words) act h = cc
went_by s w i state c state' arguments Undefined act h = cc

went_from : (s : Setting) (w : World) (i : InstrData) (state : State) (c : ℕ) (state' : State) (arguments : Option (List Argument)) → StepsFrom s w i state arguments (Left c state') → Went s w i state c state'
went_from s w i state c state' None step = cc
went_from s w i state c state' (Some arguments) step = went_by s w i state c state' arguments step.0 step.1 step.2

pub went : (s : Setting) (w : World) (i : InstrData) (state : State) (c : ℕ) (state' : State) → Steps s w i state (Left c state') → Went s w i state c state'
went s w i state c state' step = went_from s w i state c state' (arguments_of s w state i.operands) step

-- ══ What isn't written stays ══

other_way : (m n : ℕ) → (m == n) ≡ false → (n == m) ≡ false
other_way m n h = false_from_ne_true (n == m) (λ same. true≢false (sym (eq-eqb m n (sym (eqb-true n m same))) ∙ h))

put_other : (q v : ℕ) (state : State) (p : Place) → is_virtual q p ≡ false → (put state p v).values q ≡ state.values q
put_other q v state (Virtual r) h = value_stays (q == r) v (state.values q) h
put_other q v state (Physical n) h = refl

pub put_all_keeps : (q : ℕ) (state : State) (ps : List Place) (vs : List ℕ) (state' : State) → writes q ps ≡ false → put_all state ps vs ≡ Some state' → state'.values q ≡ state.values q
put_all_keeps q state [] [] state' h puts = ap (λ (k : State). k.values q) (sym (same_Some state state' puts))
put_all_keeps q state [] (v ∷ vs) state' h puts = absurd (none-some state' puts)
put_all_keeps q state (p ∷ ps) [] state' h puts = absurd (none-some state' puts)
put_all_keeps q state (p ∷ ps) (v ∷ vs) state' h puts =
    put_all_keeps q (put state p v) ps vs state' (or_parts (is_virtual q p) (writes q ps) h).1 puts ∙ put_other q v state p (or_parts (is_virtual q p) (writes q ps) h).0

pub places_not : (q : ℕ) (os : List Operand) → list_any (is_def_of q) os ≡ false → writes q (places_of os) ≡ false
places_not q [] h = refl
places_not q (operand.Def r kind ∷ os) h =
    let each : ((r.0 == q) ≡ false) × (list_any (is_def_of q) os ≡ false) = or_parts (r.0 == q) (list_any (is_def_of q) os) h in
    or_from (q == r.0) (writes q (places_of os)) (other_way r.0 q each.0) (places_not q os each.1)
places_not q (operand.PhysDef n ∷ os) h = places_not q os h
places_not q (_ ∷ os) h = places_not q os h

physical_not : (q : ℕ) (ns : List ℕ) (ps : List Place) → writes q ps ≡ false → writes q (map Physical ns ++ ps) ≡ false
physical_not q [] ps h = h
physical_not q (n ∷ ns) ps h = physical_not q ns ps h

either : (q : ℕ) (t : Bool) (ps qs : List Place) → writes q ps ≡ false → writes q qs ≡ false → writes q (cond t ps qs) ≡ false
either q true ps qs h l = h
either q false ps qs h l = l

result_not : (q : ℕ) (os : List Operand) → writes q (result_places os) ≡ false
result_not q [] = refl
result_not q (operand.ImplicitDef n ∷ os) = either q (is_result_register n) (Physical n ∷ result_places os) (result_places os) (result_not q os) (result_not q os)
result_not q (_ ∷ os) = result_not q os

pub written_not : (q : ℕ) (m : Meaning) (os : List Operand) → list_any (is_def_of q) os ≡ false → writes q (written_places m os) ≡ false
written_not q Calling os h = physical_not q clobbered (result_places os) (result_not q os)
written_not q Nothing os h = refl
written_not q _ os h = places_not q os h

pub step_keeps : (s : Setting) (w : World) (i : ℕ × InstrData) (state state' : State) → Ran s w i.1 state state' → (q : ℕ) → defines q i ≡ false → state'.values q ≡ state.values q
step_keeps s w i state state' ran q none =
    put_all_keeps q (record state { memory = ran.outside.memory; taken = ran.outside.taken }) (written_places (meaning_of i.1.flags i.1.op) i.1.operands) ran.results state'
    (written_not q (meaning_of i.1.flags i.1.op) i.1.operands none) ran.puts

-- ══ What is read ══

word_same : (n : ℕ) (state state' : State) → (n == 0) ≡ true → word_in state' n ≡ word_in state n
word_same n state state' zero = ap (λ t. cond t 0 (state'.words n)) zero ∙ sym (ap (λ t. cond t 0 (state.words n)) zero)

argument_same : (s : Setting) (w : World) (state state' : State) (o : Operand) → ((u : ℕ) → is_use_of u o ≡ true → state'.values u ≡ state.values u) → is_fixed o ≡ true → argument_of s w state' o ≡ argument_of s w state o
argument_same s w state state' (operand.Use r) same fixed = ap (λ v. option_map (λ value. Value (s.width r.0) value ∷ []) v) (same r.0 (eq-eqb r.0 r.0 refl))
argument_same s w state state' (operand.Phys n) same fixed = ap (λ v. Some (Value s.x v ∷ [])) (word_same n state state' fixed)
argument_same s w state state' (operand.ImplicitUse n) same fixed = ap (λ v. Some (Implicit n v ∷ [])) (word_same n state state' fixed)
argument_same s w state state' (operand.Def r k) same fixed = refl
argument_same s w state state' (operand.PhysDef n) same fixed = refl
argument_same s w state state' (operand.ImplicitDef n) same fixed = refl
argument_same s w state state' (operand.Int n) same fixed = refl
argument_same s w state state' (operand.Constant n v) same fixed = refl
argument_same s w state state' (operand.Block b) same fixed = refl
argument_same s w state state' (operand.Predicate p) same fixed = refl
argument_same s w state state' (operand.Frame n) same fixed = refl
argument_same s w state state' (operand.Global flag n) same fixed = refl
argument_same s w state state' (operand.Routine flag n) same fixed = refl
argument_same s w state state' operand.SavedMask same fixed = refl

-- operands that are read alike where their registers hold the same
pub reads_same : (s : Setting) (w : World) (state state' : State) (os : List Operand) → ((u : ℕ) → list_any (is_use_of u) os ≡ true → state'.values u ≡ state.values u) → list_all is_fixed os ≡ true
    → arguments_of s w state' os ≡ arguments_of s w state os
reads_same s w state state' [] same fixed = refl
reads_same s w state state' (o ∷ os) same fixed =
    let each : (is_fixed o ≡ true) × (list_all is_fixed os ≡ true) = and_parts (is_fixed o) (list_all is_fixed os) fixed in
    ap₂ joined_lists (argument_same s w state state' o (λ u uses_it. same u (or_left (is_use_of u o) (list_any (is_use_of u) os) uses_it)) each.0)
    (reads_same s w state state' os (λ u uses_it. same u (or_right (is_use_of u o) (list_any (is_use_of u) os) uses_it)) each.1)

argument_missing : (s : Setting) (w : World) (state : State) (o : Operand) (u : ℕ) → is_use_of u o ≡ true → state.values u ≡ None → argument_of s w state o ≡ None
argument_missing s w state (operand.Use r) u uses_it none =
    ap (λ v. option_map (λ value. Value (s.width r.0) value ∷ []) v) (ap state.values (eqb-true r.0 u uses_it) ∙ none)
argument_missing s w state _ u uses_it none = cc

first_missing : {A : Type 0} (a b : Option (List A)) → a ≡ None → joined_lists a b ≡ None
first_missing a b h = ap (λ o. joined_lists o b) h

second_missing : {A : Type 0} (a b : Option (List A)) → b ≡ None → joined_lists a b ≡ None
second_missing None b h = refl
second_missing (Some a) b h = ap (joined_lists (Some a)) h

all_missing : (s : Setting) (w : World) (state : State) (os : List Operand) (u : ℕ) → list_any (is_use_of u) os ≡ true → state.values u ≡ None → arguments_of s w state os ≡ None
all_missing s w state [] u uses_it none = cc
all_missing s w state (o ∷ os) u uses_it none =
    ⊎_elim
    (λ here. first_missing (argument_of s w state o) (arguments_of s w state os) (argument_missing s w state o u here none))
    (λ later. second_missing (argument_of s w state o) (arguments_of s w state os) (all_missing s w state os u later none))
    (or_cases (is_use_of u o) (list_any (is_use_of u) os) uses_it)

-- a register that is read has a value
pub read_there : (s : Setting) (w : World) (state : State) (os : List Operand) (arguments : List Argument) → arguments_of s w state os ≡ Some arguments → (u : ℕ) → list_any (is_use_of u) os ≡ true → state.values u ≡ None → ⊥
read_there s w state os arguments read u uses_it none = none-some arguments (sym (all_missing s w state os u uses_it none) ∙ read)
