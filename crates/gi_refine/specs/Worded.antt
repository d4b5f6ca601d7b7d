-- The end of instruction selection: registers of fewer bits than a word become words.
use Rattle.std.specs.Prelude.{◌≡◌, ℕ, ◌^◌, ◌<◌, ◌≤◌, Bool, true, false, not, map, List, [], ◌∷◌, IfSome}
use Rattle.gi_mir.specs.Data.{InstrData, BlockData, FunctionData}
use Rattle.gi_mir.specs.declared.opcode.Opcode.{Opcode}
use Rattle.gi_mir.specs.declared.opcode.Opcode.TheVariants as op
use Rattle.gi_mir.specs.declared.operand.Operand.{Operand}
use Rattle.gi_mir.specs.declared.operand.Operand.TheVariants as operand
use Rattle.gi_meaning.specs.State.{State, Place, Virtual, Physical, AreBytes}
use Rattle.gi_meaning.specs.Meaning.{Meaning, Copying, Generic, Machine, MachineLoading, MachineStoring, Jumping, MachineBranching, Calling, Returning, Nothing, meaning_of}
use Rattle.gi_meaning.specs.Runs.{Setting, width_of_kind, width_of_place, places_of, phis_of, after_phis}
use Rattle.gi_refine.specs.Agreement.{Agree}
use Rattle.gi_refine.specs.Kept.{without_kind}

-- ══ Instructions whose registers may become words ══

abbrev pub has_virtual : List Operand → Bool
has_virtual [] = false
has_virtual (operand.Def r k ∷ os) = true
has_virtual (operand.Use r ∷ os) = true
has_virtual (_ ∷ os) = has_virtual os

abbrev pub is_implicit_definition : Opcode → Bool
is_implicit_definition op.ImplicitDef = true
is_implicit_definition _ = false

-- a copy or an instruction of the machine, one that has no virtual register, or an implicit definition
abbrev pub may_have_words : Meaning → Opcode → List Operand → Bool
may_have_words Copying op os = true
may_have_words (Machine gives) op os = true
may_have_words (MachineLoading exists bytes extension) op os = true
may_have_words (MachineStoring exists bytes) op os = true
may_have_words (MachineBranching test) op os = true
may_have_words Jumping op os = not (has_virtual os)
may_have_words Calling op os = not (has_virtual os)
may_have_words Returning op os = not (has_virtual os)
may_have_words Nothing op os = not (has_virtual os)
may_have_words (Generic gives) op os = is_implicit_definition op
may_have_words _ op os = false

-- an instruction whose registers may become words
abbrev pub is_worded : InstrData → Bool
is_worded i = may_have_words (meaning_of i.flags i.op) i.op i.operands

-- ══ Registers that become words ══

-- What is read isn't hidden; each register has at most a word's bits in the old function, and is a word in the new one.
abbrev pub AreWorded : (s t : Setting) → (hidden : Place → Bool) → List Operand → Type 0
AreWorded s t hidden [] = Unit {0}
AreWorded s t hidden (operand.Use r ∷ os) = (hidden (Virtual r.0) ≡ false) × (s.width r.0 ≤ s.x) × (t.width r.0 ≡ s.x) × AreWorded s t hidden os
AreWorded s t hidden (operand.Def r k ∷ os) = (s.width r.0 ≤ s.x) × (t.width r.0 ≡ s.x) × AreWorded s t hidden os
AreWorded s t hidden (operand.Phys n ∷ os) = (hidden (Physical n) ≡ false) × AreWorded s t hidden os
AreWorded s t hidden (operand.ImplicitUse n ∷ os) = (hidden (Physical n) ≡ false) × AreWorded s t hidden os
AreWorded s t hidden (_ ∷ os) = AreWorded s t hidden os

-- each value is one of x bits, and memory has bytes
pub record IsSized (x : ℕ) (state : State) : Type 0 where
  pub values : (r : ℕ) → IfSome (state.values r) (λ value. value < 2 ^ x)
  pub words : (n : ℕ) → state.words n < 2 ^ x
  pub memory : AreBytes state.memory

-- the states agree, and what the new one holds are words
pub record AgreeInWords (s t : Setting) (hidden : Place → Bool) (old new : State) : Type 0 where
  pub agree : Agree s t hidden old new
  pub sized : IsSized s.x new

-- ══ A whole function ══

-- the function with class `gpr` at each definition
abbrev pub classed_instr : InstrData → InstrData
classed_instr i = record i { operands = map without_kind i.operands }

abbrev pub classed_pair : ℕ × InstrData → ℕ × InstrData
classed_pair i = (i.0, classed_instr i.1)

abbrev pub classed_block : BlockData → BlockData
classed_block block = record block { instrs = map classed_pair block.instrs }

abbrev pub classed : FunctionData → FunctionData
classed f = record f { blocks = map classed_block f.blocks }

-- no definition is of more bits than a word
abbrev pub AreNarrow : (x : ℕ) → List Operand → Type 0
AreNarrow x [] = Unit {0}
AreNarrow x (operand.Def r k ∷ os) = (width_of_kind x k ≤ x) × AreNarrow x os
AreNarrow x (_ ∷ os) = AreNarrow x os

abbrev pub AllNarrow : (x : ℕ) → List (ℕ × InstrData) → Type 0
AllNarrow x [] = Unit {0}
AllNarrow x (i ∷ is) = AreNarrow x i.1.operands × AllNarrow x is

abbrev pub AllWorded : List (ℕ × InstrData) → Type 0
AllWorded [] = Unit {0}
AllWorded (i ∷ is) = (is_worded i.1 ≡ true) × AllWorded is

-- a phi's registers are of the width of what it writes
abbrev pub UsesOfWidth : Setting → (width : ℕ) → List Operand → Type 0
UsesOfWidth s width [] = Unit {0}
UsesOfWidth s width (operand.Use r ∷ os) = (s.width r.0 ≡ width) × UsesOfWidth s width os
UsesOfWidth s width (_ ∷ os) = UsesOfWidth s width os

abbrev pub PlacesOfWidth : Setting → List Place → List Operand → Type 0
PlacesOfWidth s [] os = Unit {0}
PlacesOfWidth s (p ∷ ps) os = UsesOfWidth s (width_of_place s p) os × PlacesOfWidth s ps os

abbrev pub PhisOfWidth : Setting → List (ℕ × InstrData) → Type 0
PhisOfWidth s [] = Unit {0}
PhisOfWidth s (i ∷ is) = PlacesOfWidth s (places_of i.1.operands) i.1.operands × PhisOfWidth s is

-- a block, and blocks, whose definitions may all have class `gpr`
pub record IsBlockWorded (s : Setting) (block : BlockData) : Type 0 where
  pub narrow : AllNarrow s.x block.instrs
  pub phis : PhisOfWidth s (phis_of block.instrs)
  pub body : AllWorded (after_phis block.instrs)

abbrev pub AreBlocksWorded : Setting → List BlockData → Type 0
AreBlocksWorded s [] = Unit {0}
AreBlocksWorded s (block ∷ blocks) = IsBlockWorded s block × AreBlocksWorded s blocks
