-- Instructions that stay while the registers that they use are replaced by others.
use Rattle.std.specs.Prelude.{◌≡◌, ℕ, Bool, false, map, List, [], ◌∷◌, ◌++◌, Option, Some, None}
use Rattle.gi_mir.specs.Data.{InstrData, FunctionData}
use Rattle.gi_mir.specs.declared.operand.Kind.TheVariants.{Class}
use Rattle.gi_mir.specs.declared.operand.Operand.{Operand}
use Rattle.gi_mir.specs.declared.operand.Operand.TheVariants as operand
use Rattle.gi_meaning.specs.State.{World, IsWorld, State, Place, Virtual, Physical}
use Rattle.gi_meaning.specs.Runs.{Setting, setting_of, from_block}
use Rattle.gi_refine.specs.Reached.{Arrives, IsReached}

-- ══ Renaming ══

-- an operand that uses a register, with the one that replaces it; a definition stays
abbrev pub reused_operand : (rename : ℕ → ℕ) → Operand → Operand
reused_operand rename (operand.Use r) = operand.Use (record { 0 = rename r.0 })
reused_operand rename other = other

abbrev pub reused : (rename : ℕ → ℕ) → InstrData → InstrData
reused rename i = record i { operands = map (reused_operand rename) i.operands }

-- an operand but for the kind that a definition gives its register: class `gpr` stands for each
abbrev pub without_kind : Operand → Operand
without_kind (operand.Def r k) = operand.Def r Class
without_kind other = other

-- the same instruction with its uses renamed; its line and the kinds at its definitions may differ
pub record IsKept (rename : ℕ → ℕ) (i j : InstrData) : Type 0 where
  pub op : j.op ≡ i.op
  pub flags : j.flags ≡ i.flags
  pub mem : j.mem ≡ i.mem
  pub operands : map without_kind j.operands ≡ map without_kind (map (reused_operand rename) i.operands)

-- all of them in order, whatever their ids
abbrev pub AreKept : (rename : ℕ → ℕ) → (old new : List (ℕ × InstrData)) → Type 0
AreKept rename [] [] = Unit {0}
AreKept rename (i ∷ is) (j ∷ js) = IsKept rename i.1 j.1 × AreKept rename is js
AreKept rename _ _ = ⊥

-- ══ What they read and write ══

-- Nothing that the operands read, once their uses are renamed, is hidden; what they read has the width that it had, on
-- both sides, and so has what they define.
abbrev pub AreSeenAs : (s t : Setting) → (hidden : Place → Bool) → (rename : ℕ → ℕ) → List Operand → Type 0
AreSeenAs s t hidden rename [] = Unit {0}
AreSeenAs s t hidden rename (operand.Use r ∷ os) =
    (hidden (Virtual (rename r.0)) ≡ false) × (s.width (rename r.0) ≡ s.width r.0) × (t.width (rename r.0) ≡ s.width r.0)
    × AreSeenAs s t hidden rename os
AreSeenAs s t hidden rename (operand.Def r k ∷ os) = (t.width r.0 ≡ s.width r.0) × AreSeenAs s t hidden rename os
AreSeenAs s t hidden rename (operand.Phys n ∷ os) = (hidden (Physical n) ≡ false) × AreSeenAs s t hidden rename os
AreSeenAs s t hidden rename (operand.ImplicitUse n ∷ os) = (hidden (Physical n) ≡ false) × AreSeenAs s t hidden rename os
AreSeenAs s t hidden rename (_ ∷ os) = AreSeenAs s t hidden rename os

abbrev pub AllSeenAs : (s t : Setting) → (hidden : Place → Bool) → (rename : ℕ → ℕ) → List (ℕ × InstrData) → Type 0
AllSeenAs s t hidden rename [] = Unit {0}
AllSeenAs s t hidden rename (i ∷ is) = AreSeenAs s t hidden rename i.1.operands × AllSeenAs s t hidden rename is

-- ══ Replacements hold the same value ══

-- the register has no value, or the other has it too
abbrev pub HasSameValue : (value other : Option ℕ) → Type 0
HasSameValue None other = Unit {0}
HasSameValue (Some value) other = other ≡ Some value

-- each register that the operands use has no value in the state, or that of its replacement
abbrev pub UsesHold : (rename : ℕ → ℕ) → State → List Operand → Type 0
UsesHold rename state [] = Unit {0}
UsesHold rename state (operand.Use r ∷ os) = HasSameValue (state.values r.0) (state.values (rename r.0)) × UsesHold rename state os
UsesHold rename state (_ ∷ os) = UsesHold rename state os

-- so has the register of a phi's entry, if there is one
abbrev pub EntryHolds : (rename : ℕ → ℕ) → State → Option ℕ → Type 0
EntryHolds rename state None = Unit {0}
EntryHolds rename state (Some r) = HasSameValue (state.values r) (state.values (rename r))

-- so has what each of the phis takes from the block that was left
abbrev pub EntriesHold : (rename : ℕ → ℕ) → (from : Option ℕ) → State → List (ℕ × InstrData) → Type 0
EntriesHold rename from state [] = Unit {0}
EntriesHold rename from state (i ∷ is) = EntryHolds rename state (from_block from i.1.operands) × EntriesHold rename from state is

-- wherever a run enters the block, replacements hold at its phis
pub record PhisHold (x : ℕ) (names : List (List ℕ)) (f : FunctionData) (b : ℕ) (rename : ℕ → ℕ) (phis : List (ℕ × InstrData)) : Type 0 where
  pub by : (w : World) → IsWorld x w → (entries : ℕ) (from : Option ℕ) (state : State)
      → Arrives (setting_of x names f) w f.blocks entries from b state → EntriesHold rename from state phis

-- wherever a run comes to one of these instructions, which stand in the block behind its phis and those before, replacements hold
pub record BodyHolds (x : ℕ) (names : List (List ℕ)) (f : FunctionData) (b : ℕ) (rename : ℕ → ℕ) (before is : List (ℕ × InstrData)) : Type 0 where
  pub by : (w : World) → IsWorld x w → (front : List (ℕ × InstrData)) (i : ℕ × InstrData) (back : List (ℕ × InstrData)) → is ≡ front ++ (i ∷ back)
      → (state : State) → IsReached (setting_of x names f) w f.blocks b (before ++ front) state → UsesHold rename state i.1.operands
