-- Rules on values: what operations make of a list of values, with no state, no register and no block.
-- (Each operation means what gi_meaning says of its opcode; a rule is proved on values alone and lifted to
-- instructions over registers by the law of `Lifting`.)
use Rattle.std.specs.Prelude.{◌≡◌, ℕ, ◌^◌, ◌<◌, List, [], ◌∷◌, ◌++◌, Option, Some, None, option_map, Bool, true, false, ◌&&◌, ◌⊎◌, slice_get}
use Rattle.gi_mir.specs.declared.opcode.Opcode.{Opcode}
use Rattle.gi_mir.specs.declared.operand.Flags.{Flags}
use Rattle.gi_mir.specs.declared.operand.MemOp.{MemOp}
use Rattle.gi_meaning.specs.Argument.{Argument, Value}
use Rattle.gi_meaning.specs.State.{World, Outside, AreBytes}
use Rattle.gi_meaning.specs.Meaning.{Meaning, Copying, Generic, Machine, Loading, MachineLoading, meaning_of}
use Rattle.gi_meaning.specs.Act.{Answer, Results, Undefined, Act}
use Rattle.gi_meaning.specs.Runs.{joined_lists}

-- ══ Operations ══

-- places, each with its width and its value
abbrev pub Environment : Type 0
Environment = List (ℕ × ℕ)

-- what an operation takes: the value at a place, or an argument that stands in the instruction
pub data Slot : Type 0 where
  At : (place : ℕ) → Slot
  Fixed : (argument : Argument) → Slot

-- an operation, with its memory operand if it loads, and the widths of its results
pub record Operation : Type 0 where
  pub op : Opcode
  pub flags : Flags
  pub slots : List Slot
  pub mem : Option MemOp
  pub widths : List ℕ

-- the meaning goes from arguments, and memory, to results: it changes no memory and leaves no block
abbrev pub is_pure : Meaning → Bool
is_pure Copying = true
is_pure (Generic gives) = true
is_pure (Machine gives) = true
is_pure (Loading extension) = true
is_pure (MachineLoading exists bytes extension) = true
is_pure _ = false

abbrev pub are_pure : List Operation → Bool
are_pure [] = true
are_pure (o ∷ os) = is_pure (meaning_of o.flags o.op) && are_pure os

-- ══ What operations make ══

abbrev pub argument_at : Environment → Slot → Option (List Argument)
argument_at env (At place) = option_map (λ entry. Value entry.0 entry.1 ∷ []) (slice_get env place)
argument_at env (Fixed argument) = Some (argument ∷ [])

-- the arguments, where each place is there
abbrev pub arguments_at : Environment → List Slot → Option (List Argument)
arguments_at env [] = Some []
arguments_at env (slot ∷ slots) = joined_lists (argument_at env slot) (arguments_at env slots)

-- an answer of the operation; one that takes a place that isn't there is undefined
abbrev pub ActsFrom : (x : ℕ) → World → Operation → Outside → Option (List Argument) → Answer → Type 0
ActsFrom x w o outside None answer = answer ≡ Undefined
ActsFrom x w o outside (Some arguments) answer = Act x w (meaning_of o.flags o.op) o.mem o.widths arguments outside answer

abbrev pub Acts : (x : ℕ) → World → Operation → Outside → Environment → Answer → Type 0
Acts x w o outside env answer = ActsFrom x w o outside (arguments_at env o.slots) answer

-- each result at the end, with its width; none where there are more or fewer
abbrev pub appended : Environment → (widths values : List ℕ) → Option Environment
appended env [] [] = Some env
appended env (n ∷ ns) (v ∷ vs) = appended (env ++ (n, v) ∷ []) ns vs
appended env [] (v ∷ vs) = None
appended env (n ∷ ns) [] = None

-- the environment after an answer; none where it is undefined
abbrev pub answered : Environment → (widths : List ℕ) → Answer → Option Environment
answered env widths (Results results outside) = appended env widths results
answered env widths _ = None

-- and then the rest, unless it is undefined
abbrev pub Then : Option Environment → (Environment → Option Environment → Type 0) → Option Environment → Type 0
Then None rest made = made ≡ None
Then (Some env) rest made = rest env made

-- what a list of operations may make of an environment: a longer one, or none where it is undefined
abbrev pub Makes : (x : ℕ) → World → Outside → List Operation → Environment → Option Environment → Type 0
Makes x w outside [] env made = made ≡ Some env
Makes x w outside (o ∷ os) env made =
    (answer : Answer) × Acts x w o outside env answer × Then (answered env o.widths answer) (Makes x w outside os) made

-- ══ Facts ══

-- what is known of values before the rule is used
pub data Fact : Type 0 where
  -- a definition holds between the present values: the operation may give those at these places
  Defines : (operation : Operation) → (results : List ℕ) → Fact
  -- the value at a place is below a bound
  IsBelow : (place bound : ℕ) → Fact
  -- what memory holds are bytes
  HoldsBytes : Fact

-- the values stand at these places, with these widths
abbrev pub StandAt : Environment → (places widths values : List ℕ) → Type 0
StandAt env [] [] [] = Unit {0}
StandAt env (p ∷ ps) (n ∷ ns) (v ∷ vs) = (slice_get env p ≡ Some (n, v)) × StandAt env ps ns vs
StandAt env _ _ _ = ⊥

abbrev pub EntryIsBelow : Option (ℕ × ℕ) → ℕ → Type 0
EntryIsBelow None bound = ⊥
EntryIsBelow (Some entry) bound = entry.1 < bound

abbrev pub Holds : (x : ℕ) → World → Outside → Environment → Fact → Type 0
Holds x w outside env (Defines operation results) =
    (values : List ℕ) × Acts x w operation outside env (Results values outside) × StandAt env results operation.widths values
Holds x w outside env (IsBelow place bound) = EntryIsBelow (slice_get env place) bound
Holds x w outside env HoldsBytes = AreBytes outside.memory

abbrev pub AllHold : (x : ℕ) → World → Outside → Environment → List Fact → Type 0
AllHold x w outside env [] = Unit {0}
AllHold x w outside env (fact ∷ facts) = Holds x w outside env fact × AllHold x w outside env facts

-- ══ Rules ══

-- The widths of the inputs, what is known of them, the old and the new operations, and which places of the old
-- environment the new one has values for: by a definition of its own, or by an input.
pub record Rule : Type 0 where
  pub inputs : List ℕ
  pub facts : List Fact
  pub old : List Operation
  pub new : List Operation
  pub kept : List (ℕ × ℕ)

-- one width and one value at each two places
abbrev pub Correspond : List (ℕ × ℕ) → (old new : Environment) → Type 0
Correspond [] old new = Unit {0}
Correspond (pair ∷ pairs) old new = (slice_get new pair.1 ≡ slice_get old pair.0) × Correspond pairs old new

-- the old operations may make what the new ones made, or they are undefined
abbrev pub MayMake : (x : ℕ) → World → Outside → Rule → Environment → Option Environment → Type 0
MayMake x w outside rule env None = Makes x w outside rule.old env None
MayMake x w outside rule env (Some new) =
    ((old : Environment) × Makes x w outside rule.old env (Some old) × Correspond rule.kept old new) ⊎ Makes x w outside rule.old env None

-- for all values of these widths, in order
abbrev pub ForAllOf : (widths : List ℕ) → (Environment → Type 0) → Type 0
ForAllOf [] claim = claim []
ForAllOf (n ∷ ns) claim = (value : ℕ) → value < 2 ^ n → ForAllOf ns (λ env. claim ((n, value) ∷ env))

-- Whatever the new operations make of values of these widths of which the facts hold, the old may make with equal
-- values at the places that are kept, or they are undefined.
pub record IsSound (x : ℕ) (w : World) (rule : Rule) : Type 0 where
  pub by : (outside : Outside) → ForAllOf rule.inputs (λ env.
      AllHold x w outside env rule.facts → (made : Option Environment) → Makes x w outside rule.new env made → MayMake x w outside rule env made)

-- Whatever the old operations make, the values at the places that are kept are equal in it: uses of the one may be
-- replaced by uses of the other.
pub record IsCertain (x : ℕ) (w : World) (rule : Rule) : Type 0 where
  pub by : (outside : Outside) → ForAllOf rule.inputs (λ env.
      AllHold x w outside env rule.facts → (old : Environment) → Makes x w outside rule.old env (Some old) → Correspond rule.kept old old)
