-- A step of an instruction that shows an operation is an answer of the operation.
use Rattle.std.proofs.Common.{◌≡◌, ℕ, zero, suc, Bool, true, false, cond, ◌==◌, List, [], ◌∷◌, map, Option, Some, None, option_map, slice_get, refl, sym, ap, ap₂, ◌∙◌, subst}
use Rattle.gi_mir.specs.Data.{InstrData}
use Rattle.gi_mir.specs.declared.operand.MemOp.{MemOp}
use Rattle.gi_mir.specs.declared.operand.Operand.{Operand}
use Rattle.gi_mir.specs.declared.operand.Operand.TheVariants as operand
use Rattle.gi_meaning.specs.Argument.{Argument, Value}
use Rattle.gi_meaning.specs.Given.{Given, Exactly, LowBits}
use Rattle.gi_meaning.specs.Given as a_given
use Rattle.gi_meaning.specs.State.{World, State, Outside, outside_of, Place, Virtual}
use Rattle.gi_meaning.specs.State as an_outcome
use Rattle.gi_meaning.specs.Meaning.{Meaning, Copying, Generic, Machine, meaning_of, Loading, MachineLoading}
use Rattle.gi_meaning.specs.Act.{Answer, Results, Act, Answers, AnswersWords, copy, generic_load, machine_load}
use Rattle.gi_meaning.specs.Act as an_answer
use Rattle.gi_meaning.specs.Runs.{Setting, argument_of, arguments_of, joined_lists, places_of, written_places, width_of_place, Progress, Over, progress_of, StepsFrom, Steps}
use Rattle.gi_refine.specs.Values.{Environment, Slot, At, Fixed, Operation, is_pure, argument_at, arguments_at, ActsFrom}
use Rattle.gi_refine.specs.Lifting.{fixed_argument, ShowsSlot, ShowsSlots, ShowsOperands, Shows, Reads}

-- ══ Reads ══

-- a register and an entry at one place have one width and one value
abbrev pub BothRead : (width : ℕ → ℕ) (values : ℕ → Option ℕ) → Option ℕ → Option (ℕ × ℕ) → Type 0
BothRead width values None None = Unit {0}
BothRead width values (Some r) (Some entry) = (entry.0 ≡ width r) × (values r ≡ Some entry.1)
BothRead width values _ _ = ⊥

pub both_read : (width : ℕ → ℕ) (values : ℕ → Option ℕ) (rs : List ℕ) (env : Environment) (k : ℕ) → Reads width values rs env → BothRead width values (slice_get rs k) (slice_get env k)
both_read width values [] [] k reads = tt
both_read width values [] (entry ∷ env) k reads = absurd reads
both_read width values (r ∷ rs) [] k reads = absurd reads
both_read width values (r ∷ rs) (entry ∷ env) zero reads = (reads.0, reads.1)
both_read width values (r ∷ rs) (entry ∷ env) (suc k) reads = both_read width values rs env k reads.2

use_gives : (width : ℕ → ℕ) (values : ℕ → Option ℕ) (r : ℕ) (entry : Option (ℕ × ℕ)) → BothRead width values (Some r) entry
    → option_map (λ v. Value (width r) v ∷ []) (values r) ≡ option_map (λ e. Value e.0 e.1 ∷ []) entry
use_gives width values r None both = absurd both
use_gives width values r (Some entry) both =
    ap (option_map (λ v. Value (width r) v ∷ [])) both.1 ∙ ap (λ n. Some (Value n entry.1 ∷ [])) (sym both.0)

zero_gives : (x word : ℕ) (argument : Argument) (b : Bool) → cond b (Some (Value x 0)) None ≡ Some argument → Some (Value x (cond b 0 word) ∷ []) ≡ Some (argument ∷ [])
zero_gives x word argument true h = ap (option_map (λ a. a ∷ [])) h
zero_gives x word argument false h = cc

fixed_gives : (s : Setting) (w : World) (state : State) (argument : Argument) (o : Operand) → fixed_argument s w o ≡ Some argument → argument_of s w state o ≡ Some (argument ∷ [])
fixed_gives s w state argument (operand.Phys n) h = zero_gives s.x (state.words n) argument (n == 0) h
fixed_gives s w state argument (operand.Def r kind) h = cc
fixed_gives s w state argument (operand.Use r) h = cc
fixed_gives s w state argument (operand.PhysDef n) h = cc
fixed_gives s w state argument (operand.ImplicitUse n) h = cc
fixed_gives s w state argument (operand.ImplicitDef n) h = cc
fixed_gives s w state argument (operand.Routine flag n) h = cc
fixed_gives s w state argument operand.SavedMask h = cc
fixed_gives s w state argument _ h = ap (option_map (λ a. a ∷ [])) h

slot_gives : (s : Setting) (w : World) (state : State) (rs : List ℕ) (env : Environment) → Reads s.width state.values rs env → (slot : Slot) (o : Operand)
    → ShowsSlot s w rs slot o → argument_of s w state o ≡ argument_at env slot
slot_gives s w state rs env reads (At place) (operand.Use r) h =
    use_gives s.width state.values r.0 (slice_get env place)
    (subst (λ q. BothRead s.width state.values q (slice_get env place)) h (both_read s.width state.values rs env place reads))
slot_gives s w state rs env reads (At place) _ h = absurd h
slot_gives s w state rs env reads (Fixed argument) o h = fixed_gives s w state argument o h

slots_give : (s : Setting) (w : World) (state : State) (rs : List ℕ) (env : Environment) → Reads s.width state.values rs env → (slots : List Slot) (os : List Operand)
    → ShowsSlots s w rs slots os → arguments_of s w state os ≡ arguments_at env slots
slots_give s w state rs env reads [] [] h = refl
slots_give s w state rs env reads [] (o ∷ os) h = absurd h
slots_give s w state rs env reads (slot ∷ slots) [] h = absurd h
slots_give s w state rs env reads (slot ∷ slots) (o ∷ os) h =
    ap₂ joined_lists (slot_gives s w state rs env reads slot o h.0) (slots_give s w state rs env reads slots os h.1)

joined_empty : (arguments : Option (List Argument)) → joined_lists (Some []) arguments ≡ arguments
joined_empty None = refl
joined_empty (Some arguments) = refl

operands_give : (s : Setting) (w : World) (state : State) (rs : List ℕ) (env : Environment) → Reads s.width state.values rs env → (results : List ℕ) (slots : List Slot) (os : List Operand)
    → ShowsOperands s w rs results slots os → arguments_of s w state os ≡ arguments_at env slots
operands_give s w state rs env reads [] slots os h = slots_give s w state rs env reads slots os h
operands_give s w state rs env reads (r ∷ results) slots [] h = absurd h
operands_give s w state rs env reads (r ∷ results) slots (operand.Def q kind ∷ os) h =
    joined_empty (arguments_of s w state os) ∙ operands_give s w state rs env reads results slots os h.1
operands_give s w state rs env reads (r ∷ results) slots (o ∷ os) h = absurd h

-- ══ Writes ══

slot_writes_none : (s : Setting) (w : World) (rs : List ℕ) (slot : Slot) (o : Operand) (os : List Operand) → ShowsSlot s w rs slot o → places_of (o ∷ os) ≡ places_of os
slot_writes_none s w rs (At place) (operand.Use r) os h = refl
slot_writes_none s w rs (At place) _ os h = absurd h
slot_writes_none s w rs (Fixed argument) (operand.Def r kind) os h = cc
slot_writes_none s w rs (Fixed argument) (operand.PhysDef n) os h = cc
slot_writes_none s w rs (Fixed argument) _ os h = refl

slots_write_none : (s : Setting) (w : World) (rs : List ℕ) (slots : List Slot) (os : List Operand) → ShowsSlots s w rs slots os → places_of os ≡ []
slots_write_none s w rs [] [] h = refl
slots_write_none s w rs [] (o ∷ os) h = absurd h
slots_write_none s w rs (slot ∷ slots) [] h = absurd h
slots_write_none s w rs (slot ∷ slots) (o ∷ os) h = slot_writes_none s w rs slot o os h.0 ∙ slots_write_none s w rs slots os h.1

operands_write : (s : Setting) (w : World) (rs results : List ℕ) (slots : List Slot) (os : List Operand) → ShowsOperands s w rs results slots os → places_of os ≡ map Virtual results
operands_write s w rs [] slots os h = slots_write_none s w rs slots os h
operands_write s w rs (r ∷ results) slots [] h = absurd h
operands_write s w rs (r ∷ results) slots (operand.Def q kind ∷ os) h = ap₂ (λ p ps. Virtual p ∷ ps) h.0 (operands_write s w rs results slots os h.1)
operands_write s w rs (r ∷ results) slots (o ∷ os) h = absurd h

pure_writes : (m : Meaning) (os : List Operand) → is_pure m ≡ true → written_places m os ≡ places_of os
pure_writes Copying os h = refl
pure_writes (Generic gives) os h = refl
pure_writes (Machine gives) os h = refl
pure_writes (Loading extension) os h = refl
pure_writes (MachineLoading exists bytes extension) os h = refl
pure_writes _ os h = cc

widths_of : (s : Setting) (results : List ℕ) → map (width_of_place s) (map Virtual results) ≡ map s.width results
widths_of s [] = refl
widths_of s (r ∷ results) = ap (λ ns. s.width r ∷ ns) (widths_of s results)

-- ══ Answers ══

-- results with what was outside before, or undefined
abbrev pub IsPlain : Outside → Answer → Type 0
IsPlain outside (Results results after) = after ≡ outside
IsPlain outside an_answer.Undefined = Unit {0}
IsPlain outside _ = ⊥

pub answers_plain : (given : Given) (outside : Outside) (answer : Answer) → Answers given outside answer → IsPlain outside answer
answers_plain a_given.Undefined outside answer h = subst (IsPlain outside) (sym h) tt
answers_plain (Exactly results) outside answer h = subst (IsPlain outside) (sym h.2) refl
answers_plain (LowBits known width value) outside answer h = subst (IsPlain outside) (sym h.2) refl

pub words_plain : (x : ℕ) (widths : List ℕ) (given : Given) (outside : Outside) (answer : Answer) → AnswersWords x widths given outside answer → IsPlain outside answer
words_plain x widths a_given.Undefined outside answer h = subst (IsPlain outside) (sym h) tt
words_plain x widths (Exactly results) outside answer h = subst (IsPlain outside) (sym h.2) refl
words_plain x widths (LowBits known width value) outside answer h = subst (IsPlain outside) (sym h.2) refl

pure_plain : (x : ℕ) (w : World) (m : Meaning) (mem : Option MemOp) (widths : List ℕ) (arguments : List Argument) (outside : Outside) (answer : Answer) → is_pure m ≡ true
    → Act x w m mem widths arguments outside answer → IsPlain outside answer
pure_plain x w Copying mem widths arguments outside answer h act = answers_plain (copy widths arguments) outside answer act
pure_plain x w (Generic gives) mem widths arguments outside answer h act = answers_plain (gives widths arguments) outside answer act
pure_plain x w (Machine gives) mem widths arguments outside answer h act = words_plain x widths (gives x act.0) outside answer act.2
pure_plain x w (Loading extension) mem widths arguments outside answer h act = answers_plain (generic_load x extension mem widths arguments outside.memory) outside answer act
pure_plain x w (MachineLoading exists bytes extension) mem widths arguments outside answer h act =
    words_plain x widths (machine_load x exists bytes extension act.0 outside.memory) outside answer act.2
pure_plain x w _ mem widths arguments outside answer h act = cc

pub acts_plain : (x : ℕ) (w : World) (o : Operation) (outside : Outside) (arguments : Option (List Argument)) (answer : Answer) → is_pure (meaning_of o.flags o.op) ≡ true
    → ActsFrom x w o outside arguments answer → IsPlain outside answer
acts_plain x w o outside None answer h act = subst (IsPlain outside) (sym act) tt
acts_plain x w o outside (Some arguments) answer h act = pure_plain x w (meaning_of o.flags o.op) o.mem o.widths arguments outside answer h act

-- ══ A step ══

-- a step by its parts
abbrev Stepped : (s : Setting) (w : World) (m : Meaning) (mem : Option MemOp) (widths : List ℕ) (places : List Place) (state : State) → Option (List Argument) → Progress → Type 0
Stepped s w m mem widths places state None p = p ≡ Over an_outcome.Undefined
Stepped s w m mem widths places state (Some arguments) p =
    (answer : Answer) × Act s.x w m mem widths arguments (outside_of state) answer × (p ≡ progress_of state places answer)

-- the step of an operation
abbrev OperationSteps : (s : Setting) (w : World) (o : Operation) (results : List ℕ) (state : State) → Option (List Argument) → Progress → Type 0
OperationSteps s w o results = Stepped s w (meaning_of o.flags o.op) o.mem o.widths (map Virtual results)

steps_stepped : (s : Setting) (w : World) (i : InstrData) (state : State) (arguments : Option (List Argument)) (p : Progress) → StepsFrom s w i state arguments p
    → Stepped s w (meaning_of i.flags i.op) i.mem (map (width_of_place s) (written_places (meaning_of i.flags i.op) i.operands)) (written_places (meaning_of i.flags i.op) i.operands) state arguments p
steps_stepped s w i state None p h = h
steps_stepped s w i state (Some arguments) p h = h

stepped_steps : (s : Setting) (w : World) (i : InstrData) (state : State) (arguments : Option (List Argument)) (p : Progress)
    → Stepped s w (meaning_of i.flags i.op) i.mem (map (width_of_place s) (written_places (meaning_of i.flags i.op) i.operands)) (written_places (meaning_of i.flags i.op) i.operands) state arguments p
    → StepsFrom s w i state arguments p
stepped_steps s w i state None p h = h
stepped_steps s w i state (Some arguments) p h = h

-- the parts of an instruction that shows an operation
pub record Parts (s : Setting) (w : World) (rs results : List ℕ) (env : Environment) (o : Operation) (i : InstrData) (state : State) : Type 0 where
  pub means : meaning_of i.flags i.op ≡ meaning_of o.flags o.op
  pub writes : written_places (meaning_of i.flags i.op) i.operands ≡ map Virtual results
  pub widths : map (width_of_place s) (written_places (meaning_of i.flags i.op) i.operands) ≡ o.widths
  pub reads : arguments_of s w state i.operands ≡ arguments_at env o.slots

pub parts : (s : Setting) (w : World) (rs results : List ℕ) (env : Environment) (o : Operation) (i : InstrData) (state : State) → is_pure (meaning_of o.flags o.op) ≡ true
    → Shows s w rs results o i → Reads s.width state.values rs env → Parts s w rs results env o i state
parts s w rs results env o i state pure shows reads =
    let means : meaning_of i.flags i.op ≡ meaning_of o.flags o.op = ap₂ meaning_of shows.flags shows.op in
    let writes : written_places (meaning_of i.flags i.op) i.operands ≡ map Virtual results =
    pure_writes (meaning_of i.flags i.op) i.operands (subst (λ m. is_pure m ≡ true) (sym means) pure) ∙ operands_write s w rs results o.slots i.operands shows.operands in
    record {
      means = means;
      writes = writes;
      widths = ap (map (width_of_place s)) writes ∙ widths_of s results ∙ shows.widths;
      reads = operands_give s w state rs env reads results o.slots i.operands shows.operands;
    }

pub steps_as_operation : (s : Setting) (w : World) (rs results : List ℕ) (env : Environment) (o : Operation) (i : InstrData) (state : State) → Parts s w rs results env o i state → i.mem ≡ o.mem → (p : Progress)
    → Steps s w i state p → OperationSteps s w o results state (arguments_at env o.slots) p
steps_as_operation s w rs results env o i state parts mem p step =
    subst (λ m. Stepped s w m o.mem o.widths (map Virtual results) state (arguments_at env o.slots) p) parts.means
    (subst (λ a. Stepped s w (meaning_of i.flags i.op) a o.widths (map Virtual results) state (arguments_at env o.slots) p) mem
    (subst (λ ns. Stepped s w (meaning_of i.flags i.op) i.mem ns (map Virtual results) state (arguments_at env o.slots) p) parts.widths
    (subst (λ ps. Stepped s w (meaning_of i.flags i.op) i.mem (map (width_of_place s) (written_places (meaning_of i.flags i.op) i.operands)) ps state (arguments_at env o.slots) p) parts.writes
    (subst (λ a. Stepped s w (meaning_of i.flags i.op) i.mem (map (width_of_place s) (written_places (meaning_of i.flags i.op) i.operands)) (written_places (meaning_of i.flags i.op) i.operands) state a p) parts.reads
    (steps_stepped s w i state (arguments_of s w state i.operands) p step)))))

pub operation_steps : (s : Setting) (w : World) (rs results : List ℕ) (env : Environment) (o : Operation) (i : InstrData) (state : State) → Parts s w rs results env o i state → i.mem ≡ o.mem → (p : Progress)
    → OperationSteps s w o results state (arguments_at env o.slots) p → Steps s w i state p
operation_steps s w rs results env o i state parts mem p step =
    stepped_steps s w i state (arguments_of s w state i.operands) p
    (subst (λ a. Stepped s w (meaning_of i.flags i.op) i.mem (map (width_of_place s) (written_places (meaning_of i.flags i.op) i.operands)) (written_places (meaning_of i.flags i.op) i.operands) state a p) (sym parts.reads)
    (subst (λ ps. Stepped s w (meaning_of i.flags i.op) i.mem (map (width_of_place s) (written_places (meaning_of i.flags i.op) i.operands)) ps state (arguments_at env o.slots) p) (sym parts.writes)
    (subst (λ ns. Stepped s w (meaning_of i.flags i.op) i.mem ns (map Virtual results) state (arguments_at env o.slots) p) (sym parts.widths)
    (subst (λ a. Stepped s w (meaning_of i.flags i.op) a o.widths (map Virtual results) state (arguments_at env o.slots) p) (sym mem)
    (subst (λ m. Stepped s w m o.mem o.widths (map Virtual results) state (arguments_at env o.slots) p) (sym parts.means) step)))))

-- the answer that a step took
pub record Answering (s : Setting) (w : World) (o : Operation) (results : List ℕ) (state : State) (arguments : Option (List Argument)) (p : Progress) : Type 0 where
  pub answer : Answer
  pub acts : ActsFrom s.x w o (outside_of state) arguments answer
  pub made : p ≡ progress_of state (map Virtual results) answer

pub answering : (s : Setting) (w : World) (o : Operation) (results : List ℕ) (state : State) (arguments : Option (List Argument)) (p : Progress) → OperationSteps s w o results state arguments p
    → Answering s w o results state arguments p
answering s w o results state None p h = record { answer = an_answer.Undefined; acts = refl; made = h }
answering s w o results state (Some arguments) p h = record { answer = h.0; acts = h.1; made = h.2 }

pub stepping : (s : Setting) (w : World) (o : Operation) (results : List ℕ) (state : State) (arguments : Option (List Argument)) (answer : Answer) → ActsFrom s.x w o (outside_of state) arguments answer
    → OperationSteps s w o results state arguments (progress_of state (map Virtual results) answer)
stepping s w o results state None answer h = ap (progress_of state (map Virtual results)) h
stepping s w o results state (Some arguments) answer h = (answer, h, refl)
