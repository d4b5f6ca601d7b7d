-- Small uses of rules, each of which breaks one premise of the lifting law and no other.
use Rattle.gi_mir.specs.declared.operand.Operand.TheVariants.{Def}
use Rattle.std.specs.Prelude.{◌≡◌, ℕ, ◌==◌, if◌then◌else◌, List, [], ◌∷◌, Option, None, Bool, true, false, cond, map, ◌||◌}
use Rattle.gi_mir.specs.Data.{InstrData, no_flags, reg_of}
use Rattle.gi_mir.specs.declared.opcode.Opcode.TheVariants as op
use Rattle.gi_meaning.specs.State.{World, State, Place, outside_of}
use Rattle.gi_meaning.specs.Runs.{Setting}
use Rattle.gi_refine.specs.Agreement.{Agree, AgreeAt, setting}
use Rattle.gi_refine.specs.Examples.{counting, names, s32, world_of, made, of_one, of_two}
use Rattle.gi_refine.specs.Lifting.{Placing, AgreeReady, Reads, AllShow, are_all_fresh, none_hidden, left_hidden, IsPlaced}
use Rattle.gi_refine.specs.OnePlace.{only_virtual}
use Rattle.gi_refine.specs.Simulation.{IsFollowed}
use Rattle.gi_refine.specs.ValueRules.{constant, on_one, on_two}
use Rattle.gi_refine.specs.Values.{Operation, Defines, Rule, Environment, AllHold, IsSound, are_pure}

-- ══ States ══

abbrev pub quiet : World
quiet = world_of 0 0 0 []

-- each register is of 32 bits
abbrev pub all_32 : ℕ → ℕ
all_32 r = 32

abbrev pub words_32 : Setting
words_32 = setting 32 names all_32

-- %0 and %1 have these values
abbrev pub holding : (a b : Option ℕ) → State
holding a b = record { values = λ r. if r == 0 then a else if r == 1 then b else None; words = λ n. 0; memory = counting; taken = 0 }

-- what the law concludes, from states that agree and of which the rule's premises hold
abbrev pub Followed : (s t : Setting) → Rule → Placing → (before after : ℕ → Bool) → (old new : List (ℕ × InstrData)) → Type 0
Followed s t rule placing before after =
    IsFollowed s t quiet (AgreeReady s t quiet rule placing.inputs (only_virtual before)) (Agree s t (only_virtual after)) (AgreeAt s t (λ b. only_virtual after))

-- ══ Uses ══

-- `%2 = COPY %0`, and the same behind a constant that nothing needs
abbrev pub copied : Operation
copied = on_one op.Copy 32 0

abbrev pub copy_late : Rule
copy_late = record { inputs = 32 ∷ []; facts = []; old = copied ∷ []; new = constant 32 0 ∷ copied ∷ []; kept = (1, 2) ∷ [] }

-- the constant goes to the register that is read behind it
abbrev pub clobbering : Placing
clobbering = record { inputs = 0 ∷ []; old = (2 ∷ []) ∷ []; new = (0 ∷ []) ∷ (2 ∷ []) ∷ [] }

abbrev pub copy_of : ℕ → ℕ × InstrData
copy_of r = of_one op.Copy 2 s32 r

-- a free value used twice, and two free values
abbrev pub free_value : Operation
free_value = record { op = op.GenericImplicitDef; flags = no_flags; slots = []; mem = None; widths = 32 ∷ [] }

abbrev pub chosen_twice : Rule
chosen_twice = record {
  inputs = [];
  facts = [];
  old = free_value ∷ on_two op.GenericSubtract no_flags 32 0 0 ∷ [];
  new = free_value ∷ free_value ∷ on_two op.GenericSubtract no_flags 32 0 1 ∷ [];
  kept = (1, 2) ∷ [];
}

-- x + 0 is a copy of x, where 0 is a constant that is available, and without that fact
abbrev pub copy_summand : Rule
copy_summand = record {
  inputs = 32 ∷ 32 ∷ [];
  facts = Defines (constant 32 0) (1 ∷ []) ∷ [];
  old = on_two op.GenericAdd no_flags 32 0 1 ∷ [];
  new = copied ∷ [];
  kept = (2, 2) ∷ [];
}

abbrev pub summand_alone : Rule
summand_alone = record copy_summand { facts = [] }

abbrev pub summand_placed : Placing
summand_placed = record { inputs = 0 ∷ 1 ∷ []; old = (2 ∷ []) ∷ []; new = (2 ∷ []) ∷ [] }

abbrev pub sum_of : ℕ × InstrData
sum_of = of_two op.GenericAdd 2 s32 0 1

-- a copy for itself
abbrev pub copy_same : Rule
copy_same = record { inputs = 32 ∷ []; facts = []; old = copied ∷ []; new = copied ∷ []; kept = (1, 1) ∷ [] }

abbrev pub copy_placed : Placing
copy_placed = record { inputs = 0 ∷ []; old = (2 ∷ []) ∷ []; new = (2 ∷ []) ∷ [] }

-- a constant for nothing
abbrev pub constant_made : Rule
constant_made = record { inputs = []; facts = []; old = []; new = constant 32 0 ∷ []; kept = [] }

abbrev pub constant_placed : Placing
constant_placed = record { inputs = []; old = []; new = (0 ∷ []) ∷ [] }

-- the two free values go to %0 and %1
abbrev pub free_placed : Placing
free_placed = record { inputs = []; old = (0 ∷ []) ∷ (2 ∷ []) ∷ []; new = (0 ∷ []) ∷ (1 ∷ []) ∷ (2 ∷ []) ∷ [] }

abbrev pub first_two : ℕ → Bool
first_two r = (r == 0) || (r == 1)

-- `%r = G_IMPLICIT_DEF`, `%2 = G_SUB %a, %b`
abbrev pub free_in : ℕ → ℕ × InstrData
free_in r = made op.GenericImplicitDef (Def (reg_of r) s32 ∷ []) None

abbrev pub difference_in : (a b : ℕ) → ℕ × InstrData
difference_in a b = of_two op.GenericSubtract 2 s32 a b

-- an extension of 8 bits, where %0 has 8 bits
abbrev pub extend_same : Rule
extend_same = record { inputs = 8 ∷ []; facts = []; old = on_one op.GenericZeroExtend 32 0 ∷ []; new = on_one op.GenericZeroExtend 32 0 ∷ []; kept = (1, 1) ∷ [] }

abbrev pub extension_of : ℕ → ℕ × InstrData
extension_of r = of_one op.GenericZeroExtend 2 s32 r

abbrev pub first_of_8 : ℕ → ℕ
first_of_8 r = if r == 0 then 8 else 32

abbrev pub bytes_32 : Setting
bytes_32 = setting 32 names first_of_8

-- what the law asks of a rule and of its use
pub data Premise : Type 0 where
  Sound : Premise
  OldPure : Premise
  NewPure : Premise
  OldShown : Premise
  NewShown : Premise
  OldFresh : Premise
  NewFresh : Premise
  OldWidths : Premise
  NewWidths : Premise
  Seen : Premise
  Covered : Premise

-- their order in the law
abbrev pub order_of : Premise → ℕ
order_of Sound = 0
order_of OldPure = 1
order_of NewPure = 2
order_of OldShown = 3
order_of NewShown = 4
order_of OldFresh = 5
order_of NewFresh = 6
order_of OldWidths = 7
order_of NewWidths = 8
order_of Seen = 9
order_of Covered = 10

abbrev pub is_same_premise : Premise → Premise → Bool
is_same_premise p q = order_of p == order_of q

-- the claim, unless its premise is the one that is left out
abbrev pub Unless : (omitted premise : Premise) → Type 0 → Type 0
Unless omitted premise claim = cond (is_same_premise omitted premise) (Unit {0}) claim

-- everything that the law asks of a rule and of its use but this premise
pub record AllBut (omitted : Premise) (width width' : ℕ → ℕ) (rule : Rule) (placing : Placing) (before after : ℕ → Bool) (old new : List (ℕ × InstrData)) : Type 0 where
  pub sound : Unless omitted Sound (IsSound 32 quiet rule)
  pub old_pure : Unless omitted OldPure (are_pure rule.old ≡ true)
  pub new_pure : Unless omitted NewPure (are_pure rule.new ≡ true)
  pub old_shown : Unless omitted OldShown (AllShow (setting 32 names width) quiet placing.inputs placing.old rule.old old)
  pub new_shown : Unless omitted NewShown (AllShow (setting 32 names width') quiet placing.inputs placing.new rule.new new)
  pub old_fresh : Unless omitted OldFresh (are_all_fresh placing.inputs placing.old ≡ true)
  pub new_fresh : Unless omitted NewFresh (are_all_fresh placing.inputs placing.new ≡ true)
  pub old_widths : Unless omitted OldWidths (map width placing.inputs ≡ rule.inputs)
  pub new_widths : Unless omitted NewWidths (map width' placing.inputs ≡ rule.inputs)
  pub seen : Unless omitted Seen (none_hidden (only_virtual before) placing.inputs ≡ true)
  pub covered : Unless omitted Covered ((p : Place) → only_virtual after p ≡ false → left_hidden (only_virtual before) rule placing p ≡ false)

-- a sound rule whose operations these instructions are
pub record IsGoodUse (width width' : ℕ → ℕ) (rule : Rule) (placing : Placing) (before after : ℕ → Bool) (old new : List (ℕ × InstrData)) : Type 0 where
  pub sound : IsSound 32 quiet rule
  pub placed : IsPlaced 32 names width width' quiet rule placing (only_virtual before) (only_virtual after) old new

-- states that agree, where the inputs have values of which the facts hold, whatever their size
pub record AgreeOfAnySize (s t : Setting) (rule : Rule) (registers : List ℕ) (hidden : ℕ → Bool) (old new : State) : Type 0 where
  pub agree : Agree s t (only_virtual hidden) old new
  pub env : Environment
  pub read : Reads s.width old.values registers env
  pub facts : AllHold s.x quiet (outside_of old) env rule.facts
