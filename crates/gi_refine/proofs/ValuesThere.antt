-- Where an input has no value, the first old instruction, which takes it, is undefined.
use Rattle.std.proofs.Common.{◌≡◌, ℕ, suc, ◌+◌, Bool, true, false, ◌==◌, List, [], ◌∷◌, Option, Some, None, option_map, slice_get, ◌⊎◌, inl, inr, ⊎_elim, refl, sym, ap, ◌∙◌, subst, eqb-true, arith}
use Rattle.std.proofs.lemmas.Bool.{or_cases}
use Rattle.std.proofs.lemmas.Option.{same_Some}
use Rattle.gi_mir.specs.Data.{InstrData}
use Rattle.gi_mir.specs.declared.operand.Operand.{Operand}
use Rattle.gi_mir.specs.declared.operand.Operand.TheVariants as operand
use Rattle.gi_meaning.specs.Argument.{Argument, Value}
use Rattle.gi_meaning.specs.State.{World, State, Undefined, Place}
use Rattle.gi_meaning.specs.Runs.{Setting, argument_of, arguments_of, joined_lists, StepsFrom, Progress, Over, After, Executes}
use Rattle.gi_refine.specs.Agreement.{Agree, setting}
use Rattle.gi_refine.specs.Simulation.{IsFollowed}
use Rattle.gi_refine.specs.Values.{Environment, Slot, At, Fixed, Operation, Rule, IsSound}
use Rattle.gi_refine.specs.Lifting.{ShowsSlot, ShowsSlots, ShowsOperands, Shows, AllShow, Placing, IsPlaced, Reads, AgreeReady, takes, first_slots, HasValue, AreThere, AgreeKnown}
use Rattle.gi_refine.proofs.ValuesFollowed.{values_followed}

-- a register of the list, from the place on, that has no value though the slots take its place
pub record Missing (slots : List Slot) (values : ℕ → Option ℕ) (place : ℕ) (rs : List ℕ) : Type 0 where
  pub at : ℕ
  pub register : ℕ
  pub here : slice_get rs at ≡ Some register
  pub taken : takes (place + at) slots ≡ true
  pub none : values register ≡ None

missing_later : (slots : List Slot) (values : ℕ → Option ℕ) (place r : ℕ) (rs : List ℕ) → Missing slots values (suc place) rs → Missing slots values place (r ∷ rs)
missing_later slots values place r rs m = record {
  at = suc m.at;
  register = m.register;
  here = m.here;
  taken = subst (λ k. takes k slots ≡ true) (omega arith) m.taken;
  none = m.none;
}

missing_here : (slots : List Slot) (values : ℕ → Option ℕ) (place r : ℕ) (rs : List ℕ) → (takes place slots ≡ false → HasValue (values r)) → values r ≡ None → (b : Bool) → takes place slots ≡ b
    → Missing slots values place (r ∷ rs)
missing_here slots values place r rs there none true is = record {
  at = 0;
  register = r;
  here = refl;
  taken = subst (λ k. takes k slots ≡ true) (omega arith) is;
  none = none;
}
missing_here slots values place r rs there none false is = absurd (subst HasValue none (there is))

value_or_none : (v : Option ℕ) → ((value : ℕ) × (v ≡ Some value)) ⊎ (v ≡ None)
value_or_none None = inr refl
value_or_none (Some value) = inl (value, refl)

-- all registers read, or one is missing
pub read_or_missing : (slots : List Slot) (width : ℕ → ℕ) (values : ℕ → Option ℕ) (place : ℕ) (rs : List ℕ) → AreThere slots values place rs
    → ((env : Environment) × Reads width values rs env) ⊎ Missing slots values place rs
read_or_missing slots width values place [] there = inl ([], tt)
read_or_missing slots width values place (r ∷ rs) there =
    ⊎_elim
    (λ has. ⊎_elim
    (λ later. inl ((width r, has.0) ∷ later.0, (refl, has.1, later.1)))
    (λ m. inr (missing_later slots values place r rs m))
    (read_or_missing slots width values (suc place) rs there.1))
    (λ none. inr (missing_here slots values place r rs there.0 none (takes place slots) refl))
    (value_or_none (values r))

-- ══ The first instruction is undefined ══

joined_none : (arguments : Option (List Argument)) → joined_lists arguments None ≡ None
joined_none None = refl
joined_none (Some arguments) = refl

use_missing : (s : Setting) (w : World) (state : State) (rs : List ℕ) (at r : ℕ) (o : Operand) → slice_get rs at ≡ Some r → state.values r ≡ None → ShowsSlot s w rs (At at) o → argument_of s w state o ≡ None
use_missing s w state rs at r (operand.Use q) here none shows =
    let same : r ≡ q.0 = same_Some r q.0 (sym here ∙ shows) in
    ap (option_map (λ value. Value (s.width q.0) value ∷ [])) (subst (λ k. state.values k ≡ None) same none)
use_missing s w state rs at r _ here none shows = absurd shows

slots_missing : (s : Setting) (w : World) (state : State) (rs : List ℕ) (at r : ℕ) → slice_get rs at ≡ Some r → state.values r ≡ None → (slots : List Slot) (os : List Operand) → takes at slots ≡ true
    → ShowsSlots s w rs slots os → arguments_of s w state os ≡ None
slots_missing s w state rs at r here none [] os taken shows = cc
slots_missing s w state rs at r here none (slot ∷ slots) [] taken shows = absurd shows
slots_missing s w state rs at r here none (Fixed argument ∷ slots) (o ∷ os) taken shows =
    ap (joined_lists (argument_of s w state o)) (slots_missing s w state rs at r here none slots os taken shows.1) ∙ joined_none (argument_of s w state o)
slots_missing s w state rs at r here none (At k ∷ slots) (o ∷ os) taken shows =
    ⊎_elim
    (λ is. ap (λ a. joined_lists a (arguments_of s w state os)) (use_missing s w state rs at r o here none (subst (λ j. ShowsSlot s w rs (At j) o) (eqb-true k at is) shows.0)))
    (λ later. ap (joined_lists (argument_of s w state o)) (slots_missing s w state rs at r here none slots os later shows.1) ∙ joined_none (argument_of s w state o))
    (or_cases (k == at) (takes at slots) taken)

operands_missing : (s : Setting) (w : World) (state : State) (rs : List ℕ) (at r : ℕ) → slice_get rs at ≡ Some r → state.values r ≡ None → (results : List ℕ) (slots : List Slot) (os : List Operand) → takes at slots ≡ true
    → ShowsOperands s w rs results slots os → arguments_of s w state os ≡ None
operands_missing s w state rs at r here none [] slots os taken shows = slots_missing s w state rs at r here none slots os taken shows
operands_missing s w state rs at r here none (q ∷ results) slots [] taken shows = absurd shows
operands_missing s w state rs at r here none (q ∷ results) slots (operand.Def p kind ∷ os) taken shows =
    ap (joined_lists (Some [])) (operands_missing s w state rs at r here none results slots os taken shows.1)
operands_missing s w state rs at r here none (q ∷ results) slots (o ∷ os) taken shows = absurd shows

first_missing : (s : Setting) (w : World) (state : State) (rs results : List ℕ) (o : Operation) (i : InstrData) → Shows s w rs results o i → Missing o.slots state.values 0 rs → arguments_of s w state i.operands ≡ None
first_missing s w state rs results o i shows m =
    operands_missing s w state rs m.at m.register m.here m.none results o.slots i.operands (subst (λ k. takes k o.slots ≡ true) (omega arith) m.taken) shows.operands

missing_undefined : (s : Setting) (w : World) (state : State) (rss : List (List ℕ)) (os : List Operation) (is : List (ℕ × InstrData)) (rs : List ℕ) → AllShow s w rs rss os is
    → Missing (first_slots os) state.values 0 rs → Executes s w is state (Over Undefined)
missing_undefined s w state [] [] is rs shown m = let no : false ≡ true = m.taken in cc
missing_undefined s w state [] (o ∷ os) is rs shown m = absurd shown
missing_undefined s w state (results ∷ rss) [] is rs shown m = absurd shown
missing_undefined s w state (results ∷ rss) (o ∷ os) [] rs shown m = absurd shown
missing_undefined s w state (results ∷ rss) (o ∷ os) (i ∷ is) rs shown m =
    (Over Undefined, subst (λ a. StepsFrom s w i.1 state a (Over Undefined)) (sym (first_missing s w state rs results o i.1 shown.0 m)) refl, refl)

-- and does nothing else
pub missing_over : (s : Setting) (w : World) (state : State) (rss : List (List ℕ)) (os : List Operation) (is : List (ℕ × InstrData)) (rs : List ℕ) → AllShow s w rs rss os is
    → Missing (first_slots os) state.values 0 rs → (p : Progress) → Executes s w is state p → p ≡ Over Undefined
missing_over s w state [] [] is rs shown m p run = let no : false ≡ true = m.taken in cc
missing_over s w state [] (o ∷ os) is rs shown m p run = absurd shown
missing_over s w state (results ∷ rss) [] is rs shown m p run = absurd shown
missing_over s w state (results ∷ rss) (o ∷ os) [] rs shown m p run = absurd shown
missing_over s w state (results ∷ rss) (o ∷ os) (i ∷ is) rs shown m p run =
    let over : run.0 ≡ Over Undefined = subst (λ a. StepsFrom s w i.1 state a run.0) (first_missing s w state rs results o i.1 shown.0 m) run.1 in
    subst (λ q. After q (Executes s w is) p) over run.2

-- ══ The law ══

known_ready : (s t : Setting) (w : World) (rule : Rule) (placing : Placing) (is : List (ℕ × InstrData)) (hidden : Place → Bool) (old new : State) → AllShow s w placing.inputs placing.old rule.old is
    → AgreeKnown s t w rule placing.inputs hidden old new → AgreeReady s t w rule placing.inputs hidden old new ⊎ Executes s w is old (Over Undefined)
known_ready s t w rule placing is hidden old new shown known =
    ⊎_elim
    (λ read. inl (record {
      agree = known.agree;
      ready = record { env = read.0; read = read.1; sized = known.known.sized read.0 read.1; facts = known.known.facts read.0 read.1 };
    }))
    (λ m. inr (missing_undefined s w old placing.old rule.old is placing.inputs shown m))
    (read_or_missing (first_slots rule.old) s.width old.values 0 placing.inputs known.known.there)

-- a sound rule lifts also where inputs that the first old instruction takes have no value
pub known_values_followed : (x : ℕ) (names : List (List ℕ)) (width width' : ℕ → ℕ) (w : World) (rule : Rule) (placing : Placing) (before after : Place → Bool) (exit : ℕ → State → State → Type 0) (is is' : List (ℕ × InstrData))
    → IsSound x w rule → IsPlaced x names width width' w rule placing before after is is'
    → IsFollowed (setting x names width) (setting x names width') w (AgreeKnown (setting x names width) (setting x names width') w rule placing.inputs before) (Agree (setting x names width) (setting x names width') after) exit is is'
known_values_followed x names width width' w rule placing before after exit is is' sound placed = record {
  by = λ old new known p' run. ⊎_elim
      (λ ready. (values_followed x names width width' w rule placing before after exit is is' sound placed).by old new ready p' run)
      (λ undefined. inr undefined)
      (known_ready (setting x names width) (setting x names width') w rule placing is before old new placed.old_shown known);
}
