-- A rule on values, placed on registers: when instructions show operations, and what is hidden after them.
use Rattle.std.specs.Prelude.{◌≡◌, ℕ, suc, ◌^◌, ◌<◌, List, [], ◌∷◌, ◌++◌, map, Option, Some, None, Bool, true, false, not, ◌&&◌, ◌||◌, ◌==◌, if◌then◌else◌, slice_get}
use Rattle.gi_mir.specs.Data.{InstrData}
use Rattle.gi_mir.specs.Names.{name_at}
use Rattle.gi_mir.specs.declared.operand.Operand.{Operand}
use Rattle.gi_mir.specs.declared.operand.Operand.TheVariants as operand
use Rattle.gi_meaning.specs.Argument.{Argument, Value, Number, Bits, Symbol, To, Test}
use Rattle.gi_meaning.specs.State.{World, State, outside_of, Place, Virtual, Physical}
use Rattle.gi_meaning.specs.Runs.{Setting, is_among}
use Rattle.gi_refine.specs.Agreement.{Agree, setting}
use Rattle.gi_refine.specs.Kept.{HasSameValue}
use Rattle.gi_refine.specs.Values.{Environment, Slot, At, Fixed, Operation, are_pure, AllHold, Rule}

-- ══ Instructions that show operations ══

-- what an operand gives in every state
abbrev pub fixed_argument : Setting → World → Operand → Option Argument
fixed_argument s w (operand.Phys n) = if n == 0 then Some (Value s.x 0) else None
fixed_argument s w (operand.Int number) = Some (Number number)
fixed_argument s w (operand.Constant width value) = Some (Bits width value)
fixed_argument s w (operand.Block block) = Some (To block)
fixed_argument s w (operand.Predicate pred) = Some (Test pred)
fixed_argument s w (operand.Frame object) = Some (Value s.x (w.stack object))
fixed_argument s w (operand.Global flag n) = Some (Symbol flag (name_at s.names n) (w.global (name_at s.names n)))
fixed_argument s w _ = None

-- a use of the place's register, or an operand that gives the argument in every state
abbrev pub ShowsSlot : Setting → World → (registers : List ℕ) → Slot → Operand → Type 0
ShowsSlot s w registers (At place) (operand.Use r) = slice_get registers place ≡ Some r.0
ShowsSlot s w registers (At place) _ = ⊥
ShowsSlot s w registers (Fixed argument) o = fixed_argument s w o ≡ Some argument

abbrev pub ShowsSlots : Setting → World → (registers : List ℕ) → List Slot → List Operand → Type 0
ShowsSlots s w registers [] [] = Unit {0}
ShowsSlots s w registers (slot ∷ slots) (o ∷ os) = ShowsSlot s w registers slot o × ShowsSlots s w registers slots os
ShowsSlots s w registers _ _ = ⊥

-- the definitions of the results, and then the slots
abbrev pub ShowsOperands : Setting → World → (registers results : List ℕ) → List Slot → List Operand → Type 0
ShowsOperands s w registers [] slots os = ShowsSlots s w registers slots os
ShowsOperands s w registers (r ∷ rs) slots (operand.Def q kind ∷ os) = (q.0 ≡ r) × ShowsOperands s w registers rs slots os
ShowsOperands s w registers (r ∷ rs) slots _ = ⊥

-- the instruction is the operation on these registers
pub record Shows (s : Setting) (w : World) (registers results : List ℕ) (o : Operation) (i : InstrData) : Type 0 where
  pub op : i.op ≡ o.op
  pub flags : i.flags ≡ o.flags
  pub mem : i.mem ≡ o.mem
  pub operands : ShowsOperands s w registers results o.slots i.operands
  pub widths : map s.width results ≡ o.widths

-- registers, and behind them others
abbrev pub grown : (registers results : List ℕ) → List ℕ
grown registers [] = registers
grown registers (r ∷ rs) = grown (registers ++ r ∷ []) rs

abbrev pub all_grown : (registers : List ℕ) → (results : List (List ℕ)) → List ℕ
all_grown registers [] = registers
all_grown registers (rs ∷ rss) = all_grown (grown registers rs) rss

-- the instructions are the operations, in order, each on the inputs and the results before it
abbrev pub AllShow : Setting → World → (registers : List ℕ) → (results : List (List ℕ)) → List Operation → List (ℕ × InstrData) → Type 0
AllShow s w registers [] [] [] = Unit {0}
AllShow s w registers (rs ∷ rss) (o ∷ os) (i ∷ is) = Shows s w registers rs o i.1 × AllShow s w (grown registers rs) rss os is
AllShow s w registers _ _ _ = ⊥

-- ══ Conditions on registers ══

-- each result is another register than the inputs and the results before it
abbrev pub are_fresh : (registers results : List ℕ) → Bool
are_fresh registers [] = true
are_fresh registers (r ∷ rs) = not (is_among r registers) && are_fresh (registers ++ r ∷ []) rs

abbrev pub are_all_fresh : (registers : List ℕ) → (results : List (List ℕ)) → Bool
are_all_fresh registers [] = true
are_all_fresh registers (rs ∷ rss) = are_fresh registers rs && are_all_fresh (grown registers rs) rss

abbrev pub is_result : ℕ → List (List ℕ) → Bool
is_result r [] = false
is_result r (rs ∷ rss) = is_among r rs || is_result r rss

abbrev pub none_hidden : (hidden : Place → Bool) → List ℕ → Bool
none_hidden hidden [] = true
none_hidden hidden (r ∷ rs) = not (hidden (Virtual r)) && none_hidden hidden rs

abbrev pub is_register : ℕ → Option ℕ → Bool
is_register r None = false
is_register r (Some q) = r == q

-- where a rule is used: the registers of its inputs, and those of the results of each operation
pub record Placing : Type 0 where
  pub inputs : List ℕ
  pub old : List (List ℕ)
  pub new : List (List ℕ)

-- some kept place has this register on both sides
abbrev pub is_kept : (old new : List ℕ) → List (ℕ × ℕ) → ℕ → Bool
is_kept old new [] r = false
is_kept old new (pair ∷ pairs) r = (is_register r (slice_get old pair.0) && is_register r (slice_get new pair.1)) || is_kept old new pairs r

-- what is hidden after the operations: each result but those that are kept, and what was hidden before
abbrev pub left_hidden : (hidden : Place → Bool) → Rule → Placing → Place → Bool
left_hidden hidden rule placing (Virtual r) =
    if is_result r placing.old || is_result r placing.new
    then not (is_kept (all_grown placing.inputs placing.old) (all_grown placing.inputs placing.new) rule.kept r) else hidden (Virtual r)
left_hidden hidden rule placing (Physical n) = hidden (Physical n)

-- each of these results is kept or hidden after
abbrev pub are_covered : (after : Place → Bool) → (kept : ℕ → Bool) → List ℕ → Bool
are_covered after kept [] = true
are_covered after kept (r ∷ rs) = (kept r || after (Virtual r)) && are_covered after kept rs

abbrev pub all_covered : (after : Place → Bool) → (kept : ℕ → Bool) → List (List ℕ) → Bool
all_covered after kept [] = true
all_covered after kept (rs ∷ rss) = are_covered after kept rs && all_covered after kept rss

-- each result of the rule is kept or hidden after
abbrev pub covers : (after : Place → Bool) → Rule → Placing → Bool
covers after rule placing =
    all_covered after (is_kept (all_grown placing.inputs placing.old) (all_grown placing.inputs placing.new) rule.kept) placing.old
    && all_covered after (is_kept (all_grown placing.inputs placing.old) (all_grown placing.inputs placing.new) rule.kept) placing.new

-- Instructions that are the operations of a rule on registers: nothing hidden is read, no result is another register
-- of the rule, and what is hidden after covers what the two sides don't share.
pub record IsPlaced (x : ℕ) (names : List (List ℕ)) (width width' : ℕ → ℕ) (w : World) (rule : Rule) (placing : Placing) (before after : Place → Bool) (old new : List (ℕ × InstrData)) : Type 0 where
  pub old_pure : are_pure rule.old ≡ true
  pub new_pure : are_pure rule.new ≡ true
  pub old_shown : AllShow (setting x names width) w placing.inputs placing.old rule.old old
  pub new_shown : AllShow (setting x names width') w placing.inputs placing.new rule.new new
  pub old_fresh : are_all_fresh placing.inputs placing.old ≡ true
  pub new_fresh : are_all_fresh placing.inputs placing.new ≡ true
  pub old_widths : map width placing.inputs ≡ rule.inputs
  pub new_widths : map width' placing.inputs ≡ rule.inputs
  pub seen : none_hidden before placing.inputs ≡ true
  pub covered : (p : Place) → after p ≡ false → left_hidden before rule placing p ≡ false

-- ══ Premises on states ══

-- the registers have these widths and values
abbrev pub Reads : (width : ℕ → ℕ) → (values : ℕ → Option ℕ) → (registers : List ℕ) → Environment → Type 0
Reads width values [] [] = Unit {0}
Reads width values (r ∷ rs) (entry ∷ env) = (entry.0 ≡ width r) × (values r ≡ Some entry.1) × Reads width values rs env
Reads width values _ _ = ⊥

-- each value fits its width
abbrev pub AreSized : Environment → Type 0
AreSized [] = Unit {0}
AreSized (entry ∷ env) = (entry.1 < 2 ^ entry.0) × AreSized env

-- in the old state the inputs have values that fit their widths, of which the facts hold
pub record IsReady (s : Setting) (w : World) (rule : Rule) (registers : List ℕ) (state : State) : Type 0 where
  pub env : Environment
  pub read : Reads s.width state.values registers env
  pub sized : AreSized env
  pub facts : AllHold s.x w (outside_of state) env rule.facts

-- the states agree, and the old one is ready for the rule
pub record AgreeReady (s t : Setting) (w : World) (rule : Rule) (registers : List ℕ) (hidden : Place → Bool) (old new : State) : Type 0 where
  pub agree : Agree s t hidden old new
  pub ready : IsReady s w rule registers old

-- ══ Inputs that may have no value ══

-- some slot takes the value at the place
abbrev pub takes : ℕ → List Slot → Bool
takes place [] = false
takes place (At k ∷ slots) = (k == place) || takes place slots
takes place (Fixed argument ∷ slots) = takes place slots

-- what the first operation takes
abbrev pub first_slots : List Operation → List Slot
first_slots [] = []
first_slots (o ∷ os) = o.slots

abbrev pub HasValue : Option ℕ → Type 0
HasValue None = ⊥
HasValue (Some value) = Unit {0}

-- each register, from the place on, has a value or is taken by these slots
abbrev pub AreThere : (slots : List Slot) → (values : ℕ → Option ℕ) → (place : ℕ) → List ℕ → Type 0
AreThere slots values place [] = Unit {0}
AreThere slots values place (r ∷ rs) = (takes place slots ≡ false → HasValue (values r)) × AreThere slots values (suc place) rs

-- Whatever values the inputs have in the state, they fit their widths and the facts hold of them. An input that the
-- first old operation takes may have none, since then the old instructions are undefined.
pub record IsKnown (s : Setting) (w : World) (rule : Rule) (registers : List ℕ) (state : State) : Type 0 where
  pub there : AreThere (first_slots rule.old) state.values 0 registers
  pub sized : (env : Environment) → Reads s.width state.values registers env → AreSized env
  pub facts : (env : Environment) → Reads s.width state.values registers env → AllHold s.x w (outside_of state) env rule.facts

-- the states agree, and this much is known of the old one
pub record AgreeKnown (s t : Setting) (w : World) (rule : Rule) (registers : List ℕ) (hidden : Place → Bool) (old new : State) : Type 0 where
  pub agree : Agree s t hidden old new
  pub known : IsKnown s w rule registers old

-- ══ Registers with one value ══

abbrev pub SameAt : (values : ℕ → Option ℕ) → Option ℕ → Option ℕ → Type 0
SameAt values (Some r) (Some q) = HasSameValue (values r) (values q)
SameAt values _ _ = Unit {0}

-- at each two places the second register has the value of the first
abbrev pub AllSame : (values : ℕ → Option ℕ) → (registers : List ℕ) → List (ℕ × ℕ) → Type 0
AllSame values registers [] = Unit {0}
AllSame values registers (pair ∷ pairs) = SameAt values (slice_get registers pair.0) (slice_get registers pair.1) × AllSame values registers pairs
