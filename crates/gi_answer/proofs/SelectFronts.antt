-- What stands before a place in a block of instructions of the five shapes: it defines registers, each once, and wherever it has
-- run the registers of short constants hold them.
use Rattle.std.proofs.Common.{◌≡◌, ℕ, ℤ, Bool, true, false, not, cond, ◌||◌, ◌&&◌, ◌==◌, List, [], ◌∷◌, ◌++◌, Option, Some, None, option_map, refl, sym, ap, ap₂, ◌∙◌, subst, if◌then◌else◌}
use Rattle.std.specs.Prelude.{find, ⊤, unwrap_or}
use Rattle.std.specs.List.{list_any}
use Rattle.std.specs.Option.{option_or}
use Rattle.std.proofs.lemmas.Bool.{and_parts, not-true, eqb-true, eq-eqb}
use Rattle.std.proofs.lemmas.List.Folds.{find-append, list_any-append}
use mathlib.Core.Path.{fun_ext}
use Rattle.gi_llt.specs.Bits.{unsigned}
use Rattle.gi_mir.specs.Data.{InstrData, BlockData, FunctionData}
use Rattle.gi_mir.specs.Edit.{defines, uses}
use Rattle.gi_mir.specs.Registers.{first_there, kind_in_operands, kind_in_instrs}
use Rattle.gi_answer.specs.Shapes.{ShapedInstr, CopyIn, MakeConstant, AddUp, CopyOut, Return, shaped_instr, stands_behind, is_short, defined_after}
use Rattle.gi_mir.specs.declared.operand.Kind.{Kind}
use Rattle.gi_mir.specs.declared.operand.Kind.TheVariants as kind
use Rattle.gi_mir.specs.declared.operand.Operand.{Operand}
use Rattle.gi_mir.specs.declared.operand.Operand.TheVariants as operand
use Rattle.gi_meaning.specs.Act.{Answer, Results, Leaves, Returns, Asks, Undefined, Answers}
use Rattle.gi_meaning.specs.Argument.{Argument}
use Rattle.gi_meaning.specs.Given.{one}
use Rattle.gi_meaning.specs.Machine.{is_immediate}
use Rattle.gi_meaning.specs.Meaning.{meaning_of}
use Rattle.gi_meaning.specs.State.{World, State, Outside, outside_of, Place, Virtual, Physical, put}
use Rattle.gi_meaning.specs.Runs.{Setting, width_of_kind, setting_of, arguments_of, written_places, put_all, Progress, On, Left, Over, going_on, progress_of, StepsFrom, Steps, After, Executes, phis_of, is_among}
use Rattle.gi_refine.proofs.Staying.{phis_before}
use Rattle.gi_answer.specs.Rows.{short_where, short_number}
use Rattle.gi_answer.specs.Selecting.{short_among}
use Rattle.gi_answer.proofs.SelectFits.{IsShort, short_value}
use Rattle.gi_answer.proofs.SelectShapes.{or_false, or_none, or_swapped, shaped}

-- ══ Registers of 32 bits ══

-- the setting in which every register is of 32 bits
abbrev pub plain : List (List ℕ) → Setting
plain names = record { x = 32; names = names; width = λ r. 32 }

abbrev pub Are32 : List Operand → Type 0
Are32 [] = ⊤
Are32 (operand.Def r k ∷ os) = (width_of_kind 32 k ≡ 32) × Are32 os
Are32 (_ ∷ os) = Are32 os

-- each definition is of 32 bits
abbrev pub All32 : List (ℕ × InstrData) → Type 0
All32 [] = ⊤
All32 (i ∷ is) = Are32 i.1.operands × All32 is

pub all_32 : (is js : List (ℕ × InstrData)) → All32 is → All32 js → All32 (is ++ js)
all_32 [] js h g = g
all_32 (i ∷ is) js h g = (h.0, all_32 is js h.1 g)

abbrev Is32 : Option Kind → Type 0
Is32 None = ⊤
Is32 (Some k) = width_of_kind 32 k ≡ 32

first_32 : (a b : Option Kind) → Is32 a → Is32 b → Is32 (first_there a b)
first_32 None b p q = q
first_32 (Some k) b p q = p

at_32 : (b : Bool) (k : Kind) → width_of_kind 32 k ≡ 32 → Is32 (cond b (Some k) None)
at_32 true k h = h
at_32 false k h = tt

kind_32 : (r : ℕ) (os : List Operand) → Are32 os → Is32 (kind_in_operands r os)
kind_32 r [] h = tt
kind_32 r (operand.Def d k ∷ os) h = first_32 _ (kind_in_operands r os) (at_32 (d.0 == r) k h.0) (kind_32 r os h.1)
kind_32 r (o ∷ os) h = kind_32 r os h

kinds_32 : (r : ℕ) (is : List (ℕ × InstrData)) → All32 is → Is32 (kind_in_instrs r is)
kinds_32 r [] h = tt
kinds_32 r (i ∷ is) h = first_32 _ (kind_in_instrs r is) (kind_32 r i.1.operands h.0) (kinds_32 r is h.1)

width_32 : (k : Option Kind) → Is32 k → width_of_kind 32 (unwrap_or k kind.Class) ≡ 32
width_32 None h = refl
width_32 (Some k) h = h

pub is_plain : (names : List (List ℕ)) (f : FunctionData) (b : BlockData) (instrs : List (ℕ × InstrData)) (reg id : ℕ) → All32 instrs
    → setting_of 32 names (shaped f b instrs reg id) ≡ plain names
is_plain names f b instrs reg id h =
    ap (λ (width : ℕ → ℕ). let s : Setting = record { x = 32; names = names; width = width } in s)
    (fun_ext (λ r. width_32 (first_there (kind_in_instrs r instrs) None) (first_32 (kind_in_instrs r instrs) None (kinds_32 r instrs h) tt)))

-- ══ A step leaves what it doesn't write ══

abbrev pub Untouched : (r : ℕ) → List Place → Type 0
Untouched r [] = ⊤
Untouched r (Virtual d ∷ ps) = ((r == d) ≡ false) × Untouched r ps
Untouched r (Physical n ∷ ps) = Untouched r ps

put_leaves : (r : ℕ) (ps : List Place) (vs : List ℕ) (state after : State) → Untouched r ps → put_all state ps vs ≡ Some after → after.values r ≡ state.values r
put_leaves r [] [] state after h e = ap (λ (o : Option State). values_in o) (sym e)
  where
    values_in : Option State → Option ℕ
    values_in None = None
    values_in (Some s) = s.values r
put_leaves r [] (v ∷ vs) state after h e = cc
put_leaves r (p ∷ ps) [] state after h e = cc
put_leaves r (Virtual d ∷ ps) (v ∷ vs) state after h e =
    put_leaves r ps vs (put state (Virtual d) v) after h.1 e ∙ ap (λ b. if b then Some v else state.values r) h.0
put_leaves r (Physical n ∷ ps) (v ∷ vs) state after h e = put_leaves r ps vs (put state (Physical n) v) after h e

went_on : (state : Option State) (after : State) → On after ≡ going_on state → state ≡ Some after
went_on None after e = cc
went_on (Some state) after e = cc

answer_leaves : (r : ℕ) (ps : List Place) (state after : State) (answer : Answer) → Untouched r ps → On after ≡ progress_of state ps answer → after.values r ≡ state.values r
answer_leaves r ps state after (Results results outside) h e =
    put_leaves r ps results (record state { memory = outside.memory; taken = outside.taken }) after h (went_on _ after e)
answer_leaves r ps state after (Leaves block) h e = cc
answer_leaves r ps state after (Returns words) h e = cc
answer_leaves r ps state after (Asks callee words) h e = cc
answer_leaves r ps state after Undefined h e = cc

pub step_leaves : (s : Setting) (w : World) (r : ℕ) (i : InstrData) (state after : State) (arguments : Option (List Argument)) → Untouched r (written_places (meaning_of i.flags i.op) i.operands)
    → StepsFrom s w i state arguments (On after) → after.values r ≡ state.values r
step_leaves s w r i state after None h step = cc
step_leaves s w r i state after (Some arguments) h step = answer_leaves r (written_places (meaning_of i.flags i.op) i.operands) state after step.0 h step.2

-- ══ The last of several instructions ══

ended_on : (s : Setting) (w : World) (next : Progress) (after : State) → After next (Executes s w []) (On after) → next ≡ On after
ended_on s w (On state) after h = sym h
ended_on s w (Left b state) after h = sym h
ended_on s w (Over o) after h = sym h

record LastStep (s : Setting) (w : World) (front : List (ℕ × InstrData)) (i : ℕ × InstrData) (state after : State) : Type 0 where
  middle : State
  first : Executes s w front state (On middle)
  step : Steps s w i.1 middle (On after)

last_step_after : (s : Setting) (w : World) (x : ℕ × InstrData) (front : List (ℕ × InstrData)) (i : ℕ × InstrData) (state after : State) (next : Progress) → Steps s w x.1 state next
    → ((state' : State) → Executes s w (front ++ (i ∷ [])) state' (On after) → LastStep s w front i state' after)
    → After next (Executes s w (front ++ (i ∷ []))) (On after) → LastStep s w (x ∷ front) i state after
last_step_after s w x front i state after (On state') step goes run =
    let more : LastStep s w front i state' after = goes state' run in record { middle = more.middle; first = (On state', step, more.first); step = more.step }
last_step_after s w x front i state after (Left b state') step goes run = cc
last_step_after s w x front i state after (Over o) step goes run = cc

last_step : (s : Setting) (w : World) (front : List (ℕ × InstrData)) (i : ℕ × InstrData) (state after : State) → Executes s w (front ++ (i ∷ [])) state (On after) → LastStep s w front i state after
last_step s w [] i state after run = record { middle = state; first = refl; step = subst (λ q. Steps s w i.1 state q) (ended_on s w run.0 after run.2) run.1 }
last_step s w (x ∷ front) i state after run =
    last_step_after s w x front i state after run.0 run.1 (λ state' more. last_step s w front i state' after more) run.2

-- ══ Fronts ══

-- a register holds a short constant
pub record HoldsShort (state : State) (r : ℕ) (number : ℤ) : Type 0 where
  pub holds : state.values r ≡ Some (unsigned 32 number)
  pub immediate : is_immediate number ≡ true

-- instructions that define these registers, read no others, and leave their short constants in them
pub record IsFront (defined : List ℕ) (front : List (ℕ × InstrData)) : Type 0 where
  pub defines_all : (r : ℕ) → list_any (defines r) front ≡ is_among r defined
  pub reads_only : (r : ℕ) → is_among r defined ≡ false → list_any (uses r) front ≡ false
  pub no_phis : phis_of front ≡ []
  pub of_32 : All32 front
  pub constants : (names : List (List ℕ)) (w : World) (state after : State) → Executes (plain names) w front state (On after)
      → (r : ℕ) (number : ℤ) → short_among front r ≡ Some number → HoldsShort after r number

pub nothing_before : IsFront [] []
nothing_before = record {
  defines_all = λ r. refl;
  reads_only = λ r h. refl;
  no_phis = refl;
  of_32 = tt;
  constants = λ names w state after run r number h. cc;
}

-- ══ One more instruction ══

found_by : {X : Type 0} (p : X → Bool) (x : X) (xs : List X) (t : Bool) → p x ≡ t → (p x || list_any p xs) ≡ true → (list_any p xs ≡ true → (y : X) × (find p xs ≡ Some y))
    → (y : X) × (find p (x ∷ xs) ≡ Some y)
found_by p x xs true same any rest = (x, ap (λ b. cond b (Some x) (find p xs)) same)
found_by p x xs false same any rest =
    let more = rest (subst (λ b. (b || list_any p xs) ≡ true) same any) in (more.0, ap (λ b. cond b (Some x) (find p xs)) same ∙ more.1)

found : {X : Type 0} (p : X → Bool) (xs : List X) → list_any p xs ≡ true → (x : X) × (find p xs ≡ Some x)
found p [] h = cc
found p (x ∷ xs) h = found_by p x xs (p x) refl h (λ any. found p xs any)

pub not_found : {X : Type 0} (p : X → Bool) (xs : List X) → list_any p xs ≡ false → find p xs ≡ None
not_found p [] h = refl
not_found p (x ∷ xs) h = let parts = or_false (p x) (list_any p xs) h in ap (λ b. cond b (Some x) (find p xs)) parts.0 ∙ not_found p xs parts.1

-- a definition in the front is the first one, whatever stands behind
pub short_before : (front back : List (ℕ × InstrData)) (r : ℕ) → list_any (defines r) front ≡ true → short_among (front ++ back) r ≡ short_among front r
short_before front back r h =
    let first = found (defines r) front h in
    ap (λ (o : Option (ℕ × InstrData)). short_where (option_map (λ i. i.1) o)) (find-append (defines r) front back ∙ ap (λ o. option_or o (find (defines r) back)) first.1 ∙ sym first.1)

pub short_behind : (front back : List (ℕ × InstrData)) (r : ℕ) → list_any (defines r) front ≡ false → short_among (front ++ back) r ≡ short_among back r
short_behind front back r h =
    ap (λ (o : Option (ℕ × InstrData)). short_where (option_map (λ i. i.1) o)) (find-append (defines r) front back ∙ ap (λ o. option_or o (find (defines r) back)) (not_found (defines r) front h))

apart_by : (defined : List ℕ) (a r : ℕ) (t : Bool) → (a == r) ≡ t → is_among a defined ≡ true → is_among r defined ≡ false → t ≡ false
apart_by defined a r true same here absent = cc (subst (λ q. is_among q defined ≡ true) (eqb-true a r same) here, absent)
apart_by defined a r false same here absent = refl

-- what is defined isn't what is not
pub apart : (defined : List ℕ) (a r : ℕ) → is_among a defined ≡ true → is_among r defined ≡ false → (a == r) ≡ false
apart defined a r here absent = apart_by defined a r (a == r) refl here absent

pub new_is_absent : (defined : List ℕ) (d : ℕ) → not (is_among d defined) ≡ true → is_among d defined ≡ false
new_is_absent defined d h = not-true (is_among d defined) h

-- which of two numbers is compared with which doesn't matter
both_turned : (a b : ℕ) (t u : Bool) → (a == b) ≡ t → (b == a) ≡ u → t ≡ u
both_turned a b true true one other = refl
both_turned a b true false one other = sym (eq-eqb b a (sym (eqb-true a b one))) ∙ other
both_turned a b false true one other = sym one ∙ eq-eqb a b (sym (eqb-true b a other))
both_turned a b false false one other = refl

equal_turned : (a b : ℕ) → (a == b) ≡ (b == a)
equal_turned a b = both_turned a b (a == b) (b == a) refl refl

pub defines_next : (defined : List ℕ) (s : ShapedInstr) (id line r : ℕ)
    → (list_any (defines r) ((id, shaped_instr s line) ∷ []) || is_among r defined) ≡ is_among r (defined_after defined s)
defines_next defined (CopyIn d p) id line r = ap (λ b. b || is_among r defined) (or_none ((d == r) || false) ∙ or_none (d == r) ∙ equal_turned d r)
defines_next defined (MakeConstant d v) id line r = ap (λ b. b || is_among r defined) (or_none ((d == r) || false) ∙ or_none (d == r) ∙ equal_turned d r)
defines_next defined (AddUp d a b) id line r = ap (λ b. b || is_among r defined) (or_none ((d == r) || false) ∙ or_none (d == r) ∙ equal_turned d r)
defines_next defined (CopyOut p q) id line r = refl
defines_next defined Return id line r = refl

absent_before : (defined : List ℕ) (s : ShapedInstr) (r : ℕ) → is_among r (defined_after defined s) ≡ false → is_among r defined ≡ false
absent_before defined (CopyIn d p) r h = (or_false (r == d) (is_among r defined) h).1
absent_before defined (MakeConstant d v) r h = (or_false (r == d) (is_among r defined) h).1
absent_before defined (AddUp d a b) r h = (or_false (r == d) (is_among r defined) h).1
absent_before defined (CopyOut p q) r h = h
absent_before defined Return r h = h

-- what may stand
pub copy_absent : (defined : List ℕ) (d p : ℕ) → stands_behind defined (CopyIn d p) ≡ true → is_among d defined ≡ false
copy_absent defined d p h = new_is_absent defined d h

pub constant_parts : (defined : List ℕ) (d v : ℕ) → stands_behind defined (MakeConstant d v) ≡ true → (is_among d defined ≡ false) × (is_short v ≡ true)
constant_parts defined d v h = let parts = and_parts (not (is_among d defined)) (is_short v) h in (new_is_absent defined d parts.0, parts.1)

pub sum_parts : (defined : List ℕ) (d a b : ℕ) → stands_behind defined (AddUp d a b) ≡ true → (is_among d defined ≡ false) × (is_among a defined ≡ true) × (is_among b defined ≡ true)
sum_parts defined d a b h =
    let parts = and_parts (not (is_among d defined) && is_among a defined) (is_among b defined) h in
    let more = and_parts (not (is_among d defined)) (is_among a defined) parts.0 in
    (new_is_absent defined d more.0, more.1, parts.1)

pub reads_defined : (defined : List ℕ) (s : ShapedInstr) (id line r : ℕ) → stands_behind defined s ≡ true → is_among r defined ≡ false → uses r (id, shaped_instr s line) ≡ false
reads_defined defined (CopyIn d p) id line r h absent = refl
reads_defined defined (MakeConstant d v) id line r h absent = refl
reads_defined defined (AddUp d a b) id line r h absent =
    let parts = sum_parts defined d a b h in
    ap₂ (λ x y. x || (y || false)) (apart defined a r parts.1 absent) (apart defined b r parts.2 absent)
reads_defined defined (CopyOut p q) id line r h absent = ap (λ x. x || false) (apart defined q r h absent)
reads_defined defined Return id line r h absent = refl

pub no_phi : (s : ShapedInstr) (id line : ℕ) → phis_of ((id, shaped_instr s line) ∷ []) ≡ []
no_phi (CopyIn d p) id line = refl
no_phi (MakeConstant d v) id line = refl
no_phi (AddUp d a b) id line = refl
no_phi (CopyOut p q) id line = refl
no_phi Return id line = refl

pub stated_32 : (s : ShapedInstr) (id line : ℕ) → All32 ((id, shaped_instr s line) ∷ [])
stated_32 (CopyIn d p) id line = ((refl, tt), tt)
stated_32 (MakeConstant d v) id line = ((refl, tt), tt)
stated_32 (AddUp d a b) id line = ((refl, tt), tt)
stated_32 (CopyOut p q) id line = (tt, tt)
stated_32 Return id line = (tt, tt)

-- ══ Short constants stay ══

untouched : (defined : List ℕ) (s : ShapedInstr) (line r : ℕ) → stands_behind defined s ≡ true → is_among r defined ≡ true
    → Untouched r (written_places (meaning_of (shaped_instr s line).flags (shaped_instr s line).op) (shaped_instr s line).operands)
untouched defined (CopyIn d p) line r h here = (apart defined r d here (copy_absent defined d p h), tt)
untouched defined (MakeConstant d v) line r h here = (apart defined r d here (constant_parts defined d v h).0, tt)
untouched defined (AddUp d a b) line r h here = (apart defined r d here (sum_parts defined d a b h).0, tt)
untouched defined (CopyOut p q) line r h here = tt
untouched defined Return line r h here = tt

-- an instruction that defines a register as a short constant
record IsConstantOf (r : ℕ) (number : ℤ) (s : ShapedInstr) : Type 0 where
  value : ℕ
  same : s ≡ MakeConstant r value
  short : short_number 32 value ≡ Some number

constant_by : (r d v id line : ℕ) (number : ℤ) (t : Bool) → (d == r) ≡ t
    → short_where (option_map (λ (i : ℕ × InstrData). i.1) (cond (t || false) (Some (id, shaped_instr (MakeConstant d v) line)) None)) ≡ Some number → IsConstantOf r number (MakeConstant d v)
constant_by r d v id line number true same h = record { value = v; same = ap (λ q. MakeConstant q v) (eqb-true d r same); short = h }
constant_by r d v id line number false same h = cc

none_some : {X : Type 0} (x : X) → None ≡ Some x → ⊥
none_some x h = cc

some_same : {X : Type 0} (x y : X) → Some x ≡ Some y → x ≡ y
some_same x y h = cc

no_constant : {P : Type 0} (i : ℕ × InstrData) (number : ℤ) (t : Bool) → short_where (Some i.1) ≡ None → short_where (option_map (λ (j : ℕ × InstrData). j.1) (cond t (Some i) None)) ≡ Some number → P
no_constant i number true none h = absurd (none_some number (sym none ∙ h))
no_constant i number false none h = absurd (none_some number h)

alone_short : (r : ℕ) (s : ShapedInstr) (id line : ℕ) (number : ℤ) → short_among ((id, shaped_instr s line) ∷ []) r ≡ Some number → IsConstantOf r number s
alone_short r (CopyIn d p) id line number h = no_constant (id, shaped_instr (CopyIn d p) line) number ((d == r) || false) refl h
alone_short r (MakeConstant d v) id line number h = constant_by r d v id line number (d == r) refl h
alone_short r (AddUp d a b) id line number h = no_constant (id, shaped_instr (AddUp d a b) line) number ((d == r) || false) refl h
alone_short r (CopyOut p q) id line number h = cc
alone_short r Return id line number h = cc

-- an operation that gives one value answers that
answer_one : (v : ℕ) (outside : Outside) (answer : Answer) → Answers (one v) outside answer → answer ≡ Results (v ∷ []) outside
answer_one v outside answer h = h.2 ∙ ap (λ rs. Results rs outside) h.1

value_in : ℕ → Option State → Option ℕ
value_in r None = None
value_in r (Some state) = state.values r

pub constant_step : (names : List (List ℕ)) (w : World) (d v line : ℕ) (state after : State) → Steps (plain names) w (shaped_instr (MakeConstant d v) line) state (On after) → after.values d ≡ Some v
unfolding value_in
constant_step names w d v line state after step =
    let answered : step.0 ≡ Results (v ∷ []) (outside_of state) = answer_one v (outside_of state) step.0 step.1 in
    let went : Some (put state (Virtual d) v) ≡ Some after = went_on (Some (put state (Virtual d) v)) after (step.2 ∙ ap (progress_of state (Virtual d ∷ [])) answered) in
    ap (value_in d) (sym went) ∙ ap (λ b. if b then Some v else state.values d) (eq-eqb d d refl)

constant_held : (names : List (List ℕ)) (w : World) (r : ℕ) (number : ℤ) (s : ShapedInstr) (defined : List ℕ) (line : ℕ) (state after : State) → IsConstantOf r number s
    → stands_behind defined s ≡ true → Steps (plain names) w (shaped_instr s line) state (On after) → HoldsShort after r number
constant_held names w r number s defined line state after constant stands step =
    let made : ShapedInstr = MakeConstant r constant.value in
    let short : IsShort constant.value = short_value constant.value (constant_parts defined r constant.value (subst (λ t. stands_behind defined t ≡ true) constant.same stands)).1 in
    let same : short.number ≡ number = some_same short.number number (sym short.by_table ∙ constant.short) in
    let held : after.values r ≡ Some constant.value = constant_step names w r constant.value line state after (subst (λ t. Steps (plain names) w (shaped_instr t line) state (On after)) constant.same step) in
    record {
      holds = held ∙ ap Some (sym short.bits ∙ ap (unsigned 32) same);
      immediate = subst (λ n. is_immediate n ≡ true) same short.immediate;
    }

constants_next : (defined : List ℕ) (front : List (ℕ × InstrData)) (s : ShapedInstr) (id line : ℕ) → IsFront defined front → stands_behind defined s ≡ true
    → (names : List (List ℕ)) (w : World) (state after : State) → LastStep (plain names) w front (id, shaped_instr s line) state after
    → (r : ℕ) (number : ℤ) → short_among (front ++ ((id, shaped_instr s line) ∷ [])) r ≡ Some number → (t : Bool) → is_among r defined ≡ t → HoldsShort after r number
constants_next defined front s id line before stands names w state after last r number h true here =
    let held : HoldsShort last.middle r number = before.constants names w state last.middle last.first r number
    (sym (short_before front ((id, shaped_instr s line) ∷ []) r (before.defines_all r ∙ here)) ∙ h) in
    record {
      holds = step_leaves (plain names) w r (shaped_instr s line) last.middle after (arguments_of (plain names) w last.middle (shaped_instr s line).operands) (untouched defined s line r stands here) last.step ∙ held.holds;
      immediate = held.immediate;
    }
constants_next defined front s id line before stands names w state after last r number h false here =
    constant_held names w r number s defined line last.middle after
    (alone_short r s id line number (sym (short_behind front ((id, shaped_instr s line) ∷ []) r (before.defines_all r ∙ here)) ∙ h)) stands last.step

pub front_next : (defined : List ℕ) (front : List (ℕ × InstrData)) (s : ShapedInstr) (id line : ℕ) → IsFront defined front → stands_behind defined s ≡ true
    → IsFront (defined_after defined s) (front ++ ((id, shaped_instr s line) ∷ []))
front_next defined front s id line before stands =
    let i : ℕ × InstrData = (id, shaped_instr s line) in record {
      defines_all = λ r. list_any-append (defines r) front (i ∷ []) ∙ ap (λ b. b || list_any (defines r) (i ∷ [])) (before.defines_all r)
          ∙ or_swapped (is_among r defined) (list_any (defines r) (i ∷ [])) ∙ defines_next defined s id line r;
      reads_only = λ r absent. let earlier : is_among r defined ≡ false = absent_before defined s r absent in
          list_any-append (uses r) front (i ∷ []) ∙ ap₂ (λ a b. a || (b || false)) (before.reads_only r earlier) (reads_defined defined s id line r stands earlier);
      no_phis = phis_before front (i ∷ []) (no_phi s id line) ∙ before.no_phis;
      of_32 = all_32 front (i ∷ []) before.of_32 (stated_32 s id line);
      constants = λ names w state after run r number h. constants_next defined front s id line before stands names w state after
          (last_step (plain names) w front i state after run) r number h (is_among r defined) refl;
    }
