-- Runs of a function: steps, blocks, and whole runs of so many block entries.
-- (MIR Format Reference Manual, "Basic Blocks"; Language Reference, "phi" and "Terminator Instructions".)
use Rattle.std.specs.Prelude.{◌≡◌, ℕ, zero, suc, ◌+◌, ◌≤◌, List, [], ◌∷◌, ◌++◌, map, take, Option, Some, None, option_map, Bool, false, cond, ◌||◌, ◌==◌, if◌then◌else◌, ◌⊎◌, slice_get}
use Rattle.gi_llt.specs.Llt.{width_of}
use Rattle.gi_mir.specs.Data.{InstrData, BlockData, FunctionData}
use Rattle.gi_mir.specs.Names.{name_at}
use Rattle.gi_mir.specs.Registers.{kind_of}
use Rattle.gi_mir.specs.declared.operand.Kind.{Kind}
use Rattle.gi_mir.specs.declared.operand.Kind.TheVariants as kind
use Rattle.gi_mir.specs.declared.operand.Operand.{Operand}
use Rattle.gi_mir.specs.declared.operand.Operand.TheVariants as operand
use Rattle.gi_meaning.specs.InRow.{checked_blocks}
use Rattle.gi_meaning.specs.Argument.{Argument, Value, Implicit, Defined, Number, Bits, Symbol, Called, To, Test, Saved}
use Rattle.gi_meaning.specs.State.{World, State, outside_of, start, Outcome, Returned, Going, Asking, Place, Virtual, Physical, word_in, put}
use Rattle.gi_meaning.specs.State as an_outcome
use Rattle.gi_meaning.specs.Meaning.{Meaning, Calling, Nothing, meaning_of, is_joining}
use Rattle.gi_meaning.specs.Act.{Answer, Results, Leaves, Returns, Asks, Act, clobbered, is_result_register}
use Rattle.gi_meaning.specs.Act as an_answer

-- ══ What instructions are read in ══

-- the register width, the names of the module by their numbers, and the width of each virtual register
pub record Setting : Type 0 where
  pub x : ℕ
  pub names : List (List ℕ)
  pub width : ℕ → ℕ

-- a register of class `gpr` holds a word
abbrev pub width_of_kind : (x : ℕ) → Kind → ℕ
width_of_kind x (kind.Generic ty) = width_of x ty
width_of_kind x (kind.Banked ty) = width_of x ty
width_of_kind x kind.Class = x

abbrev pub setting_of : (x : ℕ) → (names : List (List ℕ)) → FunctionData → Setting
setting_of x names f = record { x = x; names = names; width = λ r. width_of_kind x (kind_of f r) }

-- ══ Reads ══

-- an argument that an operand gives, if it gives one: none where a virtual register has no value
abbrev pub argument_of : Setting → World → State → Operand → Option (List Argument)
argument_of setting world state (operand.Def r k) = Some []
argument_of setting world state (operand.Use r) = option_map (λ value. Value (setting.width r.0) value ∷ []) (state.values r.0)
argument_of setting world state (operand.Phys n) = Some (Value setting.x (word_in state n) ∷ [])
argument_of setting world state (operand.PhysDef n) = Some []
argument_of setting world state (operand.ImplicitUse n) = Some (Implicit n (word_in state n) ∷ [])
argument_of setting world state (operand.ImplicitDef n) = Some (Defined n ∷ [])
argument_of setting world state (operand.Int number) = Some (Number number ∷ [])
argument_of setting world state (operand.Constant width value) = Some (Bits width value ∷ [])
argument_of setting world state (operand.Block block) = Some (To block ∷ [])
argument_of setting world state (operand.Predicate pred) = Some (Test pred ∷ [])
argument_of setting world state (operand.Frame object) = Some (Value setting.x (world.stack object) ∷ [])
argument_of setting world state (operand.Global flag n) = Some (Symbol flag (name_at setting.names n) (world.global (name_at setting.names n)) ∷ [])
argument_of setting world state (operand.Routine flag n) = Some (Called flag n ∷ [])
argument_of setting world state operand.SavedMask = Some (Saved ∷ [])

-- both lists, where both are there
abbrev pub joined_lists : {A : Type 0} → Option (List A) → Option (List A) → Option (List A)
joined_lists None b = None
joined_lists (Some a) None = None
joined_lists (Some a) (Some b) = Some (a ++ b)

abbrev pub arguments_of : Setting → World → State → List Operand → Option (List Argument)
arguments_of setting world state [] = Some []
arguments_of setting world state (o ∷ os) = joined_lists (argument_of setting world state o) (arguments_of setting world state os)

-- ══ Writes ══

abbrev pub places_of : List Operand → List Place
places_of [] = []
places_of (operand.Def r k ∷ os) = Virtual r.0 ∷ places_of os
places_of (operand.PhysDef n ∷ os) = Physical n ∷ places_of os
places_of (_ ∷ os) = places_of os

-- the places of a call's results
abbrev pub result_places : List Operand → List Place
result_places [] = []
result_places (operand.ImplicitDef n ∷ os) = if is_result_register n then Physical n ∷ result_places os else result_places os
result_places (_ ∷ os) = result_places os

-- the places that an instruction writes, in order
abbrev pub written_places : Meaning → List Operand → List Place
written_places Calling os = map Physical clobbered ++ result_places os
written_places Nothing os = []
written_places _ os = places_of os

abbrev pub width_of_place : Setting → Place → ℕ
width_of_place setting (Virtual r) = setting.width r
width_of_place setting (Physical n) = setting.x

-- each result in its place; none where there are more or fewer
abbrev pub put_all : State → List Place → List ℕ → Option State
put_all state [] [] = Some state
put_all state (place ∷ places) (value ∷ values) = put_all (put state place value) places values
put_all state [] (value ∷ values) = None
put_all state (place ∷ places) [] = None

-- ══ A step ══

-- how far a run has come: it goes on, it has left its block for another, or it is over
pub data Progress : Type 0 where
  On : (state : State) → Progress
  Left : (block : ℕ) → (state : State) → Progress
  Over : (outcome : Outcome) → Progress

abbrev pub going_on : Option State → Progress
going_on None = Over an_outcome.Undefined
going_on (Some state) = On state

-- what an answer makes of the state
abbrev pub progress_of : State → List Place → Answer → Progress
progress_of state places (Results results outside) = going_on (put_all (record state { memory = outside.memory; taken = outside.taken }) places results)
progress_of state places (Leaves block) = Left block state
progress_of state places (Returns words) = Over (Returned words state.memory state.taken)
progress_of state places (Asks callee words) = Over (Asking callee words state.memory state.taken)
progress_of state places an_answer.Undefined = Over an_outcome.Undefined

-- from arguments that are there; a register without a value is undefined
abbrev pub StepsFrom : Setting → World → InstrData → State → Option (List Argument) → Progress → Type 0
StepsFrom setting world i state None progress = progress ≡ Over an_outcome.Undefined
StepsFrom setting world i state (Some arguments) progress =
    (answer : Answer)
    × Act setting.x world (meaning_of i.flags i.op) i.mem
    (map (width_of_place setting) (written_places (meaning_of i.flags i.op) i.operands)) arguments (outside_of state) answer
    × (progress ≡ progress_of state (written_places (meaning_of i.flags i.op) i.operands) answer)

abbrev pub Steps : Setting → World → InstrData → State → Progress → Type 0
Steps setting world i state progress = StepsFrom setting world i state (arguments_of setting world state i.operands) progress

-- ══ A list of instructions ══

abbrev pub After : Progress → (State → Progress → Type 0) → Progress → Type 0
After (On state) rest progress = rest state progress
After (Left block state) rest progress = progress ≡ Left block state
After (Over outcome) rest progress = progress ≡ Over outcome

abbrev pub Executes : Setting → World → List (ℕ × InstrData) → State → Progress → Type 0
Executes setting world [] state progress = progress ≡ On state
Executes setting world (i ∷ is) state progress =
    (next : Progress) × Steps setting world i.1 state next × After next (Executes setting world is) progress

-- ══ Phis: they take their values all at once, by the block that was left ══

abbrev pub is_phi : InstrData → Bool
is_phi i = is_joining (meaning_of i.flags i.op)

abbrev pub phis_of : List (ℕ × InstrData) → List (ℕ × InstrData)
phis_of [] = []
phis_of (i ∷ is) = cond (is_phi i.1) (i ∷ phis_of is) []

abbrev pub after_phis : List (ℕ × InstrData) → List (ℕ × InstrData)
after_phis [] = []
after_phis (i ∷ is) = cond (is_phi i.1) (after_phis is) (i ∷ is)

-- a register and the block that it comes from, where the operands begin with the two
abbrev pub entry_of : List Operand → Option (ℕ × ℕ)
entry_of (operand.Use r ∷ operand.Block b ∷ os) = Some (r.0, b)
entry_of _ = None

-- the register of the entry for the block that was left
abbrev pub chosen : (from : ℕ) → Option (ℕ × ℕ) → Option ℕ → Option ℕ
chosen from None later = later
chosen from (Some entry) later = if entry.1 == from then Some entry.0 else later

abbrev pub entry_for : (from : ℕ) → List Operand → Option ℕ
entry_for from [] = None
entry_for from (o ∷ os) = chosen from (entry_of (o ∷ os)) (entry_for from os)

abbrev pub value_at : State → Option ℕ → Option ℕ
value_at state None = None
value_at state (Some r) = state.values r

abbrev pub from_block : Option ℕ → List Operand → Option ℕ
from_block None os = None
from_block (Some from) os = entry_for from os

abbrev pub put_value : Option State → List Place → Option ℕ → Option State
put_value (Some state) (place ∷ []) (Some value) = Some (put state place value)
put_value _ _ _ = None

-- the state after the phis, read in the state before them
abbrev pub joined : State → Option ℕ → List (ℕ × InstrData) → Option State
joined state from [] = Some state
joined state from (i ∷ is) = put_value (joined state from is) (places_of i.1.operands) (value_at state (from_block from i.1.operands))

-- ══ A block and a whole run ══

abbrev pub is_among : ℕ → List ℕ → Bool
is_among b [] = false
is_among b (c ∷ cs) = (b == c) || is_among b cs

-- how a run goes on where a block is entered: from which block, which one, in which state
abbrev pub Entering : Type 1
Entering = Option ℕ → ℕ → State → Outcome → Type 0

-- what follows a block: another one, the next in layout where it is among the successors, or the end
abbrev pub Follows : (b : ℕ) → (successors : List ℕ) → Entering → Progress → Outcome → Type 0
Follows b successors enters (On state) outcome = cond (is_among (b + 1) successors) (enters (Some b) (b + 1) state outcome) (outcome ≡ an_outcome.Undefined)
Follows b successors enters (Left block state) outcome = enters (Some b) block state outcome
Follows b successors enters (Over over) outcome = outcome ≡ over

abbrev pub RunsAfterPhis : Setting → World → (b : ℕ) → BlockData → Entering → Option State → Outcome → Type 0
RunsAfterPhis setting world b block enters None outcome = outcome ≡ an_outcome.Undefined
RunsAfterPhis setting world b block enters (Some state) outcome =
    (progress : Progress) × Executes setting world (after_phis block.instrs) state progress
    × Follows b block.successors enters progress outcome

abbrev pub RunsBlock : Setting → World → Option BlockData → Entering → Entering
RunsBlock setting world None enters from b state outcome = outcome ≡ an_outcome.Undefined
RunsBlock setting world (Some block) enters from b state outcome =
    RunsAfterPhis setting world b block enters (joined state from (phis_of block.instrs)) outcome

-- at most n blocks are entered, the first one counted
abbrev pub Enters : Setting → World → List BlockData → ℕ → Entering
Enters setting world blocks zero from b state outcome = outcome ≡ Going state.memory state.taken
Enters setting world blocks (suc n) from b state outcome =
    RunsBlock setting world (slice_get blocks b) (Enters setting world blocks n) from b state outcome

-- In a world, entering at most n of these blocks, the function comes to this outcome.
abbrev pub RunsOn : (x : ℕ) → (names : List (List ℕ)) → FunctionData → List BlockData → World → (n : ℕ) → Outcome → Type 0
RunsOn x names f blocks world n outcome = Enters (setting_of x names f) world blocks n None 0 (start world) outcome

-- In a world, entering at most n blocks, the function comes to this outcome. A run that comes to an instruction that doesn't
-- stand in its opcode's row is undefined.
abbrev pub Runs : (x : ℕ) → (names : List (List ℕ)) → FunctionData → World → (n : ℕ) → Outcome → Type 0
Runs x names f world n outcome = RunsOn x names f (checked_blocks x f) world n outcome

-- the same where rows aren't looked at: while selection goes on, a copy joins registers of any two types
abbrev pub RunsUnchecked : (x : ℕ) → (names : List (List ℕ)) → FunctionData → World → (n : ℕ) → Outcome → Type 0
RunsUnchecked x names f world n outcome = RunsOn x names f f.blocks world n outcome

-- ══ What a function allows ══

-- the world whose trace ends after k events
abbrev pub cut : World → ℕ → World
cut world k = record world { trace = take k world.trace }

-- within n block entries and after some prefix of the trace it runs to what is undefined
pub record MayBeUndefined (x : ℕ) (names : List (List ℕ)) (f : FunctionData) (world : World) (n : ℕ) : Type 0 where
  pub events : ℕ
  pub entries : ℕ
  pub within : entries ≤ n
  pub undefined : Runs x names f (cut world events) entries an_outcome.Undefined

-- A function allows an outcome that it runs to, and any outcome where it may be undefined before.
abbrev pub Allows : (x : ℕ) → (names : List (List ℕ)) → FunctionData → World → (n : ℕ) → Outcome → Type 0
Allows x names f world n outcome = Runs x names f world n outcome ⊎ MayBeUndefined x names f world n
