-- What a run comes to where it has one way to go, worked out: where a free choice comes up, or a call, there is nothing.
use Rattle.std.specs.Prelude.{ℕ, zero, suc, ◌+◌, ◌/◌, Bool, true, not, cond, ◌&&◌, nat_lt, List, [], ◌∷◌, map, Option, Some, None, slice_get}
use Rattle.gi_llt.specs.Bits.{wrapped, unsigned}
use Rattle.gi_llt.specs.Llt.{width_of}
use Rattle.gi_mir.specs.Data.{InstrData, BlockData, FunctionData}
use Rattle.gi_mir.specs.declared.operand.MemOp.{MemOp}
use Rattle.gi_meaning.specs.Argument.{Argument, Value, Number}
use Rattle.gi_meaning.specs.Given.{Given, Exactly, LowBits}
use Rattle.gi_meaning.specs.Given as a_given
use Rattle.gi_meaning.specs.Machine.{is_immediate}
use Rattle.gi_meaning.specs.Memory.{loaded, stored, is_aligned}
use Rattle.gi_meaning.specs.State.{World, State, Outside, outside_of, start, Outcome, Going}
use Rattle.gi_meaning.specs.State as an_outcome
use Rattle.gi_meaning.specs.Meaning.{Meaning, Copying, Generic, Machine, Loading, Storing, MachineLoading, MachineStoring, Jumping, Branching, MachineBranching, Returning, Nothing, Joining, meaning_of}
use Rattle.gi_meaning.specs.Act.{Answer, Results, Returns, all_fitted, alignment, copy, generic_load, machine_load, jump, branch, machine_branch, returned}
use Rattle.gi_meaning.specs.Act as an_answer
use Rattle.gi_meaning.specs.Runs.{Setting, setting_of, arguments_of, written_places, width_of_place, progress_of, Progress, On, Left, Over, phis_of, after_phis, joined, is_among}

-- ══ Answers ══

-- the one answer that is given, if there is one
abbrev pub exact : Given → Outside → Option Answer
exact (Exactly results) outside = Some (Results results outside)
exact (LowBits known width value) outside = None
exact a_given.Undefined outside = Some an_answer.Undefined

-- the same of an instruction on words, whose results fit their places
abbrev pub exact_words : (x : ℕ) → (widths : List ℕ) → Given → Outside → Option Answer
exact_words x widths (Exactly words) outside = Some (Results (all_fitted x widths words) outside)
exact_words x widths (LowBits known width value) outside = None
exact_words x widths a_given.Undefined outside = Some an_answer.Undefined

-- whether each register that is read has a word's bits, so that it is read as it is
abbrev pub are_whole : (x : ℕ) → List Argument → Bool
are_whole x [] = true
are_whole x (Value width value ∷ arguments) = not (nat_lt width x) && are_whole x arguments
are_whole x (_ ∷ arguments) = are_whole x arguments

-- the answer to a store, where the bytes at the address were these, and in all
abbrev pub store_there : Option ℕ → (x bytes address value : ℕ) → Outside → Answer
store_there None x bytes address value outside = an_answer.Undefined
store_there (Some old) x bytes address value outside = Results [] (record outside { memory = stored x bytes outside.memory address value })

abbrev pub store_at : (x align bytes address value : ℕ) → Outside → Answer
store_at x align bytes address value outside =
    cond (is_aligned align address) (store_there (loaded x bytes outside.memory address) x bytes address value outside) an_answer.Undefined

abbrev pub generic_store : (x : ℕ) → Option MemOp → List Argument → Outside → Answer
generic_store x (Some mem) (Value n value ∷ Value l address ∷ []) outside =
    cond mem.load an_answer.Undefined (store_at x (alignment x mem) (width_of x mem.ty / 8) address value outside)
generic_store x _ _ outside = an_answer.Undefined

-- by a base and an offset
abbrev pub machine_store : (x : ℕ) → (ℕ → Bool) → (bytes : ℕ) → List Argument → Outside → Answer
machine_store x exists bytes (Value n value ∷ Value l base ∷ Number offset ∷ []) outside =
    cond (exists x && is_immediate offset) (store_at x bytes bytes (wrapped x (base + unsigned x offset)) value outside) an_answer.Undefined
machine_store x exists bytes _ outside = an_answer.Undefined

-- by the meaning of an instruction; one on words that reads fewer bits has no one answer
abbrev pub answered : (x : ℕ) → Meaning → Option MemOp → (widths : List ℕ) → List Argument → Outside → Option Answer
answered x Copying mem widths arguments outside = exact (copy widths arguments) outside
answered x (Generic gives) mem widths arguments outside = exact (gives widths arguments) outside
answered x (Machine gives) mem widths arguments outside = cond (are_whole x arguments) (exact_words x widths (gives x arguments) outside) None
answered x (Loading extension) mem widths arguments outside = exact (generic_load x extension mem widths arguments outside.memory) outside
answered x Storing mem widths arguments outside = Some (generic_store x mem arguments outside)
answered x (MachineLoading exists bytes extension) mem widths arguments outside =
    cond (are_whole x arguments) (exact_words x widths (machine_load x exists bytes extension arguments outside.memory) outside) None
answered x (MachineStoring exists bytes) mem widths arguments outside = cond (are_whole x arguments) (Some (machine_store x exists bytes arguments outside)) None
answered x Jumping mem widths arguments outside = Some (jump arguments)
answered x Branching mem widths arguments outside = Some (branch arguments outside)
answered x (MachineBranching test) mem widths arguments outside = cond (are_whole x arguments) (Some (machine_branch x test arguments outside)) None
answered x Returning mem widths arguments outside = Some (Returns (returned arguments))
answered x Nothing mem widths arguments outside = Some (Results [] outside)
answered x Joining mem widths arguments outside = Some an_answer.Undefined
answered x _ mem widths arguments outside = None

-- ══ Instructions ══

-- how far an instruction comes by its answer
abbrev pub progress_by : State → Setting → InstrData → Option Answer → Option Progress
progress_by state s i None = None
progress_by state s i (Some answer) = Some (progress_of state (written_places (meaning_of i.flags i.op) i.operands) answer)

-- from the arguments that are read; without a value for each register the run is undefined
abbrev pub step_from : Setting → InstrData → State → Option (List Argument) → Option Progress
step_from s i state None = Some (Over an_outcome.Undefined)
step_from s i state (Some arguments) =
    progress_by state s i (answered s.x (meaning_of i.flags i.op) i.mem (map (width_of_place s) (written_places (meaning_of i.flags i.op) i.operands)) arguments (outside_of state))

abbrev pub step_of : Setting → World → InstrData → State → Option Progress
step_of s w i state = step_from s i state (arguments_of s w state i.operands)

-- and then the rest, where the run goes on
abbrev pub then_on : Option Progress → (State → Option Progress) → Option Progress
then_on None rest = None
then_on (Some (On state)) rest = rest state
then_on (Some (Left b state)) rest = Some (Left b state)
then_on (Some (Over outcome)) rest = Some (Over outcome)

abbrev pub steps_of : Setting → World → List (ℕ × InstrData) → State → Option Progress
steps_of s w [] state = Some (On state)
steps_of s w (i ∷ is) state = then_on (step_of s w i.1 state) (steps_of s w is)

-- ══ Blocks ══

-- what comes of a block's progress, by what comes of entries of other blocks
abbrev pub followed_by : (b : ℕ) → (successors : List ℕ) → (enters : Option ℕ → ℕ → State → Option Outcome) → Option Progress → Option Outcome
followed_by b successors enters None = None
followed_by b successors enters (Some (On state)) = cond (is_among (b + 1) successors) (enters (Some b) (b + 1) state) (Some an_outcome.Undefined)
followed_by b successors enters (Some (Left c state)) = enters (Some b) c state
followed_by b successors enters (Some (Over outcome)) = Some outcome

abbrev pub after_phis_of : Setting → World → (b : ℕ) → BlockData → (enters : Option ℕ → ℕ → State → Option Outcome) → Option State → Option Outcome
after_phis_of s w b block enters None = Some an_outcome.Undefined
after_phis_of s w b block enters (Some state) = followed_by b block.successors enters (steps_of s w (after_phis block.instrs) state)

abbrev pub block_of_run : Setting → World → (enters : Option ℕ → ℕ → State → Option Outcome) → Option BlockData → (from : Option ℕ) → (b : ℕ) → State → Option Outcome
block_of_run s w enters None from b state = Some an_outcome.Undefined
block_of_run s w enters (Some block) from b state = after_phis_of s w b block enters (joined state from (phis_of block.instrs))

-- entries of blocks, as many as are left
abbrev pub entered : Setting → World → List BlockData → ℕ → (from : Option ℕ) → (b : ℕ) → State → Option Outcome
entered s w blocks zero from b state = Some (Going state.memory state.taken)
entered s w blocks (suc n) from b state = block_of_run s w (entered s w blocks n) (slice_get blocks b) from b state

-- what the function comes to within n block entries
abbrev pub outcome_of : (x : ℕ) → (names : List (List ℕ)) → FunctionData → World → (n : ℕ) → Option Outcome
outcome_of x names f w n = entered (setting_of x names f) w f.blocks n None 0 (start w)
