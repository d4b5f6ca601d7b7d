-- An instruction that stays while its uses are renamed is followed by itself where replacements hold the same value.
use Rattle.std.proofs.Common.{◌≡◌, ℕ, Bool, true, false, cond, ◌==◌, List, [], ◌∷◌, ◌++◌, map, Option, Some, None, option_map, inl, inr, ⊎_elim, refl, sym, ap, ap₂, ◌∙◌, subst}
use Rattle.gi_mir.specs.Data.{InstrData}
use Rattle.gi_mir.specs.declared.operand.MemOp.{MemOp}
use Rattle.gi_mir.specs.declared.operand.Operand.{Operand}
use Rattle.gi_mir.specs.declared.operand.Operand.TheVariants as operand
use Rattle.gi_meaning.specs.Argument.{Argument, Value, Implicit}
use Rattle.gi_meaning.specs.State.{World, State, outside_of, Undefined, Place, Virtual, Physical, word_in, put}
use Rattle.gi_meaning.specs.Meaning.{Meaning, Copying, Calling, Nothing, meaning_of, is_joining}
use Rattle.gi_meaning.specs.Act.{Answer, Act, clobbered, is_result_register}
use Rattle.gi_meaning.specs.Runs.{Setting, argument_of, arguments_of, joined_lists, places_of, result_places, written_places, width_of_place, progress_of, Progress, Over, StepsFrom, Steps, is_phi, phis_of, after_phis, entry_for, value_at, from_block, put_value, joined}
use Rattle.gi_refine.specs.Simulation.{IsFollowed, PhisStand}
use Rattle.gi_refine.specs.Rewriting.{shown_by_phis}
use Rattle.gi_refine.specs.Agreement.{setting, StandsFor, ValueStands, Agree, is_same_place, shown, all_shown, AreAlike}
use Rattle.gi_refine.specs.Kept.{reused_operand, without_kind, IsKept, AreKept, AreSeenAs, AllSeenAs, HasSameValue, UsesHold, EntryHolds, EntriesHold}
use Rattle.gi_refine.proofs.Agreeing.{ArgumentsStand, joined_stand, word_stands, value_stands, same_value, alike_stands, PlaceStands, put_agree, Exits, StepFollowed, step_stands, alone, alone_is}

-- ══ The kinds at definitions change nothing that is read or written ══

argument_plain : (s : Setting) (w : World) (state : State) (o : Operand) → argument_of s w state (without_kind o) ≡ argument_of s w state o
argument_plain s w state (operand.Def r k) = refl
argument_plain s w state _ = refl

arguments_plain : (s : Setting) (w : World) (state : State) (os : List Operand) → arguments_of s w state (map without_kind os) ≡ arguments_of s w state os
arguments_plain s w state [] = refl
arguments_plain s w state (o ∷ os) = ap₂ joined_lists (argument_plain s w state o) (arguments_plain s w state os)

pub places_plain : (os : List Operand) → places_of (map without_kind os) ≡ places_of os
places_plain [] = refl
places_plain (operand.Def r k ∷ os) = ap (λ ps. Virtual r.0 ∷ ps) (places_plain os)
places_plain (operand.PhysDef n ∷ os) = ap (λ ps. Physical n ∷ ps) (places_plain os)
places_plain (_ ∷ os) = places_plain os

results_plain : (os : List Operand) → result_places (map without_kind os) ≡ result_places os
results_plain [] = refl
results_plain (operand.Def r k ∷ os) = results_plain os
results_plain (operand.ImplicitDef n ∷ os) = ap (λ ps. cond (is_result_register n) (Physical n ∷ ps) ps) (results_plain os)
results_plain (_ ∷ os) = results_plain os

places_reused : (rename : ℕ → ℕ) (os : List Operand) → places_of (map (reused_operand rename) os) ≡ places_of os
places_reused rename [] = refl
places_reused rename (operand.Def r k ∷ os) = ap (λ ps. Virtual r.0 ∷ ps) (places_reused rename os)
places_reused rename (operand.PhysDef n ∷ os) = ap (λ ps. Physical n ∷ ps) (places_reused rename os)
places_reused rename (_ ∷ os) = places_reused rename os

results_reused : (rename : ℕ → ℕ) (os : List Operand) → result_places (map (reused_operand rename) os) ≡ result_places os
results_reused rename [] = refl
results_reused rename (operand.Def r k ∷ os) = results_reused rename os
results_reused rename (operand.ImplicitDef n ∷ os) = ap (λ ps. cond (is_result_register n) (Physical n ∷ ps) ps) (results_reused rename os)
results_reused rename (_ ∷ os) = results_reused rename os

written_same : (m : Meaning) (os ps : List Operand) → places_of ps ≡ places_of os → result_places ps ≡ result_places os → written_places m ps ≡ written_places m os
written_same Calling os ps places results = ap (λ rs. map Physical clobbered ++ rs) results
written_same Nothing os ps places results = refl
written_same Copying os ps places results = places
written_same _ os ps places results = places

kept_places : (rename : ℕ → ℕ) (i j : InstrData) → IsKept rename i j → places_of j.operands ≡ places_of i.operands
kept_places rename i j kept =
    sym (places_plain j.operands) ∙ (ap places_of kept.operands ∙ (places_plain (map (reused_operand rename) i.operands) ∙ places_reused rename i.operands))

kept_results : (rename : ℕ → ℕ) (i j : InstrData) → IsKept rename i j → result_places j.operands ≡ result_places i.operands
kept_results rename i j kept =
    sym (results_plain j.operands) ∙ (ap result_places kept.operands ∙ (results_plain (map (reused_operand rename) i.operands) ∙ results_reused rename i.operands))

kept_arguments : (rename : ℕ → ℕ) (s : Setting) (w : World) (state : State) (i j : InstrData) → IsKept rename i j
    → arguments_of s w state j.operands ≡ arguments_of s w state (map (reused_operand rename) i.operands)
kept_arguments rename s w state i j kept =
    sym (arguments_plain s w state j.operands) ∙ (ap (arguments_of s w state) kept.operands ∙ arguments_plain s w state (map (reused_operand rename) i.operands))

kept_meaning : (rename : ℕ → ℕ) (i j : InstrData) → IsKept rename i j → meaning_of j.flags j.op ≡ meaning_of i.flags i.op
kept_meaning rename i j kept = ap₂ meaning_of kept.flags kept.op

-- a step by what it knows of its instruction
abbrev StepsBy : Setting → World → Meaning → Option MemOp → List Place → State → Option (List Argument) → Progress → Type 0
StepsBy s w m mem places state None p = p ≡ Over Undefined
StepsBy s w m mem places state (Some arguments) p =
    (answer : Answer) × Act s.x w m mem (map (width_of_place s) places) arguments (outside_of state) answer × (p ≡ progress_of state places answer)

by_parts : (s : Setting) (w : World) (i : InstrData) (state : State) (arguments : Option (List Argument)) (p : Progress)
    → StepsFrom s w i state arguments p → StepsBy s w (meaning_of i.flags i.op) i.mem (written_places (meaning_of i.flags i.op) i.operands) state arguments p
by_parts s w i state None p step = step
by_parts s w i state (Some arguments) p step = step

from_parts : (s : Setting) (w : World) (i : InstrData) (state : State) (arguments : Option (List Argument)) (p : Progress)
    → StepsBy s w (meaning_of i.flags i.op) i.mem (written_places (meaning_of i.flags i.op) i.operands) state arguments p → StepsFrom s w i state arguments p
from_parts s w i state None p step = step
from_parts s w i state (Some arguments) p step = step

-- a step of the instruction that was kept is one of the old instruction, which reads the replacements
pub kept_step : (rename : ℕ → ℕ) (s : Setting) (w : World) (state : State) (i j : InstrData) (p : Progress) → IsKept rename i j → Steps s w j state p
    → StepsFrom s w i state (arguments_of s w state (map (reused_operand rename) i.operands)) p
kept_step rename s w state i j p kept step =
    let m : Meaning = meaning_of i.flags i.op in
    let arguments : Option (List Argument) = arguments_of s w state (map (reused_operand rename) i.operands) in
    let read : StepsFrom s w j state arguments p = subst (λ a. StepsFrom s w j state a p) (kept_arguments rename s w state i j kept) step in
    from_parts s w i state arguments p
    (subst (λ ps. StepsBy s w m i.mem ps state arguments p) (written_same m i.operands j.operands (kept_places rename i j kept) (kept_results rename i j kept))
    (subst (λ mem. StepsBy s w m mem (written_places m j.operands) state arguments p) kept.mem
    (subst (λ n. StepsBy s w n j.mem (written_places n j.operands) state arguments p) (kept_meaning rename i j kept) (by_parts s w j state arguments p read))))

-- ══ Reads ══

use_stands : (x m n : ℕ) (old other new : Option ℕ) → n ≡ m → HasSameValue old other → ValueStands x m n other new
    → ArgumentsStand (option_map (λ v. Value m v ∷ []) old) (option_map (λ v. Value n v ∷ []) new)
use_stands x m n None other new e same stands = tt
use_stands x m n (Some v) other new e same stands = value_stands x m n (Some v) new e (subst (λ o. ValueStands x m n o new) same stands)

pub arguments_stand_as : (x : ℕ) (names : List (List ℕ)) (width width' : ℕ → ℕ) (w : World) (hidden : Place → Bool) (rename : ℕ → ℕ) (old new : State)
    → Agree (setting x names width) (setting x names width') hidden old new → (os : List Operand)
    → AreSeenAs (setting x names width) (setting x names width') hidden rename os → UsesHold rename old os
    → ArgumentsStand (arguments_of (setting x names width) w old os) (arguments_of (setting x names width') w new (map (reused_operand rename) os))
arguments_stand_as x names width width' w hidden rename old new agree [] seen holds = refl
arguments_stand_as x names width width' w hidden rename old new agree (operand.Use r ∷ os) seen holds =
    joined_stand _ _ _ _
    (use_stands x (width r.0) (width' (rename r.0)) (old.values r.0) (old.values (rename r.0)) (new.values (rename r.0)) seen.2 holds.0
    (subst (λ m. ValueStands x m (width' (rename r.0)) (old.values (rename r.0)) (new.values (rename r.0))) seen.1 (agree.values (rename r.0) seen.0)))
    (arguments_stand_as x names width width' w hidden rename old new agree os seen.3 holds.1)
arguments_stand_as x names width width' w hidden rename old new agree (operand.Phys n ∷ os) seen holds =
    joined_stand (Some (Value x (word_in old n) ∷ [])) _ (Some (Value x (word_in new n) ∷ [])) _
    (ap (λ v. Some (Value x v ∷ [])) (word_stands n old new (agree.words n seen.0)))
    (arguments_stand_as x names width width' w hidden rename old new agree os seen.1 holds)
arguments_stand_as x names width width' w hidden rename old new agree (operand.ImplicitUse n ∷ os) seen holds =
    joined_stand (Some (Implicit n (word_in old n) ∷ [])) _ (Some (Implicit n (word_in new n) ∷ [])) _
    (ap (λ v. Some (Implicit n v ∷ [])) (word_stands n old new (agree.words n seen.0)))
    (arguments_stand_as x names width width' w hidden rename old new agree os seen.1 holds)
arguments_stand_as x names width width' w hidden rename old new agree (operand.Def r k ∷ os) seen holds =
    joined_stand (Some []) _ (Some []) _ refl (arguments_stand_as x names width width' w hidden rename old new agree os seen.1 holds)
arguments_stand_as x names width width' w hidden rename old new agree (o ∷ os) seen holds =
    joined_stand (argument_of (setting x names width) w old o) _ (argument_of (setting x names width') w new (reused_operand rename o)) _ refl
    (arguments_stand_as x names width width' w hidden rename old new agree os seen holds)

-- ══ Writes ══

pub places_alike : (s t : Setting) (hidden : Place → Bool) (rename : ℕ → ℕ) (os : List Operand) → AreSeenAs s t hidden rename os → AreAlike s.width t.width (places_of os)
places_alike s t hidden rename [] seen = tt
places_alike s t hidden rename (operand.Def r k ∷ os) seen = (seen.0, places_alike s t hidden rename os seen.1)
places_alike s t hidden rename (operand.Use r ∷ os) seen = places_alike s t hidden rename os seen.3
places_alike s t hidden rename (operand.Phys n ∷ os) seen = places_alike s t hidden rename os seen.1
places_alike s t hidden rename (operand.ImplicitUse n ∷ os) seen = places_alike s t hidden rename os seen.1
places_alike s t hidden rename (operand.PhysDef n ∷ os) seen = places_alike s t hidden rename os seen
places_alike s t hidden rename (_ ∷ os) seen = places_alike s t hidden rename os seen

alike_either : (width width' : ℕ → ℕ) (b : Bool) (n : ℕ) (ps : List Place) → AreAlike width width' ps → AreAlike width width' (cond b (Physical n ∷ ps) ps)
alike_either width width' true n ps alike = alike
alike_either width width' false n ps alike = alike

results_alike : (width width' : ℕ → ℕ) (os : List Operand) → AreAlike width width' (result_places os)
results_alike width width' [] = tt
results_alike width width' (operand.Def r k ∷ os) = results_alike width width' os
results_alike width width' (operand.ImplicitDef n ∷ os) = alike_either width width' (is_result_register n) n (result_places os) (results_alike width width' os)
results_alike width width' (_ ∷ os) = results_alike width width' os

pub written_alike : (width width' : ℕ → ℕ) (m : Meaning) (os : List Operand) → AreAlike width width' (places_of os) → AreAlike width width' (written_places m os)
written_alike width width' Calling os alike = results_alike width width' os
written_alike width width' Nothing os alike = tt
written_alike width width' Copying os alike = alike
written_alike width width' _ os alike = alike

-- ══ An instruction that stays ══

-- what is hidden may grow
pub agree_but : (s t : Setting) (hidden hidden' : Place → Bool) (old new : State) → ((p : Place) → hidden' p ≡ false → hidden p ≡ false) → Agree s t hidden old new → Agree s t hidden' old new
agree_but s t hidden hidden' old new less agree = record {
  values = λ r seen. agree.values r (less (Virtual r) seen);
  words = λ n seen. agree.words n (less (Physical n) seen);
  memory = agree.memory;
  taken = agree.taken;
}

shown_less : (same : Bool) (h : Bool) → h ≡ false → cond same false h ≡ false
shown_less true h e = refl
shown_less false h e = e

pub all_shown_less : (hidden : Place → Bool) (ps : List Place) (q : Place) → hidden q ≡ false → all_shown hidden ps q ≡ false
all_shown_less hidden [] q e = e
all_shown_less hidden (p ∷ ps) q e = all_shown_less (shown hidden p) ps q (shown_less (is_same_place q p) (hidden q) e)

-- one step, from states that agree where replacements hold
pub kept_step_stands : (x : ℕ) (names : List (List ℕ)) (width width' : ℕ → ℕ) (w : World) (hidden : Place → Bool) (exit : ℕ → State → State → Type 0)
    → Exits (setting x names width) (setting x names width') hidden exit → (rename : ℕ → ℕ) (i j : InstrData) → IsKept rename i j
    → AreSeenAs (setting x names width) (setting x names width') hidden rename i.operands → (old new : State)
    → Agree (setting x names width) (setting x names width') hidden old new → UsesHold rename old i.operands
    → (p' : Progress) → Steps (setting x names width') w j new p'
    → StepFollowed (setting x names width) (setting x names width') w hidden exit i old (arguments_of (setting x names width) w old i.operands) p'
kept_step_stands x names width width' w hidden exit exits rename i j kept seen old new agree holds p' step =
    step_stands x names width width' w hidden exit exits i old new agree
    (written_alike width width' (meaning_of i.flags i.op) i.operands (places_alike (setting x names width) (setting x names width') hidden rename i.operands seen))
    (arguments_of (setting x names width) w old i.operands) (arguments_of (setting x names width') w new (map (reused_operand rename) i.operands))
    (arguments_stand_as x names width width' w hidden rename old new agree i.operands seen holds) p'
    (kept_step rename (setting x names width') w new i j p' kept step)

-- from states that are related so that they agree and replacements hold
pub kept_followed : (x : ℕ) (names : List (List ℕ)) (width width' : ℕ → ℕ) (w : World) (before : State → State → Type 0) (hidden : Place → Bool) (exit : ℕ → State → State → Type 0)
    → Exits (setting x names width) (setting x names width') hidden exit → (rename : ℕ → ℕ) (i j : ℕ × InstrData) → IsKept rename i.1 j.1
    → AreSeenAs (setting x names width) (setting x names width') hidden rename i.1.operands
    → ((old new : State) → before old new → Agree (setting x names width) (setting x names width') hidden old new × UsesHold rename old i.1.operands)
    → IsFollowed (setting x names width) (setting x names width') w before
    (Agree (setting x names width) (setting x names width') (all_shown hidden (written_places (meaning_of i.1.flags i.1.op) i.1.operands))) exit (i ∷ []) (j ∷ [])
kept_followed x names width width' w before hidden exit exits rename i j kept seen has = record {
  by = λ old new related p' run. ⊎_elim
      (λ stood. inl (stood.0, alone (setting x names width) w i old stood.0 stood.1, stood.2))
      (λ undefined. inr (alone (setting x names width) w i old (Over Undefined) undefined))
      (kept_step_stands x names width width' w hidden exit exits rename i.1 j.1 kept seen old new (has old new related).0 (has old new related).1 p'
      (alone_is (setting x names width') w j new p' run));
}

-- ══ Phis ══

is_phi_kept : (rename : ℕ → ℕ) (i j : InstrData) → IsKept rename i j → is_phi j ≡ is_phi i
is_phi_kept rename i j kept = ap is_joining (kept_meaning rename i j kept)

pub phis_kept : (rename : ℕ → ℕ) (is js : List (ℕ × InstrData)) → AreKept rename is js → AreKept rename (phis_of is) (phis_of js)
phis_kept rename [] [] kept = tt
phis_kept rename [] (j ∷ js) kept = absurd kept
phis_kept rename (i ∷ is) [] kept = absurd kept
phis_kept rename (i ∷ is) (j ∷ js) kept =
    subst (λ b. AreKept rename (cond (is_phi i.1) (i ∷ phis_of is) []) (cond b (j ∷ phis_of js) [])) (sym (is_phi_kept rename i.1 j.1 kept.0))
    (either (is_phi i.1) (phis_kept rename is js kept.1))
  where
    either : (b : Bool) → AreKept rename (phis_of is) (phis_of js) → AreKept rename (cond b (i ∷ phis_of is) []) (cond b (j ∷ phis_of js) [])
    either true rest = (kept.0, rest)
    either false rest = tt

pub bodies_kept : (rename : ℕ → ℕ) (is js : List (ℕ × InstrData)) → AreKept rename is js → AreKept rename (after_phis is) (after_phis js)
bodies_kept rename [] [] kept = tt
bodies_kept rename [] (j ∷ js) kept = absurd kept
bodies_kept rename (i ∷ is) [] kept = absurd kept
bodies_kept rename (i ∷ is) (j ∷ js) kept =
    subst (λ b. AreKept rename (cond (is_phi i.1) (after_phis is) (i ∷ is)) (cond b (after_phis js) (j ∷ js))) (sym (is_phi_kept rename i.1 j.1 kept.0))
    (either (is_phi i.1) (bodies_kept rename is js kept.1))
  where
    either : (b : Bool) → AreKept rename (after_phis is) (after_phis js) → AreKept rename (cond b (after_phis is) (i ∷ is)) (cond b (after_phis js) (j ∷ js))
    either true rest = rest
    either false rest = kept

pub phis_seen : (s t : Setting) (hidden : Place → Bool) (rename : ℕ → ℕ) (is : List (ℕ × InstrData)) → AllSeenAs s t hidden rename is → AllSeenAs s t hidden rename (phis_of is)
phis_seen s t hidden rename [] seen = tt
phis_seen s t hidden rename (i ∷ is) seen = either (is_phi i.1) (phis_seen s t hidden rename is seen.1)
  where
    either : (b : Bool) → AllSeenAs s t hidden rename (phis_of is) → AllSeenAs s t hidden rename (cond b (i ∷ phis_of is) [])
    either true rest = (seen.0, rest)
    either false rest = tt

pub bodies_seen : (s t : Setting) (hidden : Place → Bool) (rename : ℕ → ℕ) (is : List (ℕ × InstrData)) → AllSeenAs s t hidden rename is → AllSeenAs s t hidden rename (after_phis is)
bodies_seen s t hidden rename [] seen = tt
bodies_seen s t hidden rename (i ∷ is) seen = either (is_phi i.1) (bodies_seen s t hidden rename is seen.1)
  where
    either : (b : Bool) → AllSeenAs s t hidden rename (after_phis is) → AllSeenAs s t hidden rename (cond b (after_phis is) (i ∷ is))
    either true rest = rest
    either false rest = seen

-- the entry that a phi takes, renamed
chosen_reused : (rename : ℕ → ℕ) (b : Bool) (r : ℕ) (later : Option ℕ) → cond b (Some (rename r)) (option_map rename later) ≡ option_map rename (cond b (Some r) later)
chosen_reused rename true r later = refl
chosen_reused rename false r later = refl

use_reused : (from : ℕ) (rename : ℕ → ℕ) (r : ℕ) (os : List Operand) → entry_for from (map (reused_operand rename) os) ≡ option_map rename (entry_for from os)
    → entry_for from (operand.Use (record { 0 = rename r }) ∷ map (reused_operand rename) os) ≡ option_map rename (entry_for from (operand.Use (record { 0 = r }) ∷ os))
use_reused from rename r [] h = refl
use_reused from rename r (operand.Block b ∷ os) h =
    ap (λ later. cond (b == from) (Some (rename r)) later) h ∙ chosen_reused rename (b == from) r (entry_for from os)
use_reused from rename r (operand.Def q k ∷ os) h = h
use_reused from rename r (_ ∷ os) h = h

entry_reused : (from : ℕ) (rename : ℕ → ℕ) (os : List Operand) → entry_for from (map (reused_operand rename) os) ≡ option_map rename (entry_for from os)
entry_reused from rename [] = refl
entry_reused from rename (operand.Use r ∷ os) = use_reused from rename r.0 os (entry_reused from rename os)
entry_reused from rename (_ ∷ os) = entry_reused from rename os

use_plain : (from : ℕ) (r : ℕ) (os : List Operand) → entry_for from (map without_kind os) ≡ entry_for from os
    → entry_for from (operand.Use (record { 0 = r }) ∷ map without_kind os) ≡ entry_for from (operand.Use (record { 0 = r }) ∷ os)
use_plain from r [] h = refl
use_plain from r (operand.Block b ∷ os) h = ap (λ later. cond (b == from) (Some r) later) h
use_plain from r (operand.Def q k ∷ os) h = h
use_plain from r (_ ∷ os) h = h

pub entry_plain : (from : ℕ) (os : List Operand) → entry_for from (map without_kind os) ≡ entry_for from os
entry_plain from [] = refl
entry_plain from (operand.Use r ∷ os) = use_plain from r.0 os (entry_plain from os)
entry_plain from (operand.Def r k ∷ os) = entry_plain from os
entry_plain from (_ ∷ os) = entry_plain from os

kept_entry : (rename : ℕ → ℕ) (i j : InstrData) → IsKept rename i j → (from : Option ℕ) → from_block from j.operands ≡ option_map rename (from_block from i.operands)
kept_entry rename i j kept None = refl
kept_entry rename i j kept (Some from) =
    sym (entry_plain from j.operands) ∙ (ap (entry_for from) kept.operands ∙ (entry_plain from (map (reused_operand rename) i.operands) ∙ entry_reused from rename i.operands))

-- the replacement of a register is seen, and has its width
abbrev pub RegisterSeen : (s t : Setting) → (hidden : Place → Bool) → (rename : ℕ → ℕ) → Option ℕ → Type 0
RegisterSeen s t hidden rename None = Unit {0}
RegisterSeen s t hidden rename (Some r) = (hidden (Virtual (rename r)) ≡ false) × (s.width (rename r) ≡ s.width r) × (t.width (rename r) ≡ s.width r)

chosen_seen : (s t : Setting) (hidden : Place → Bool) (rename : ℕ → ℕ) (b : Bool) (r : ℕ) (later : Option ℕ)
    → RegisterSeen s t hidden rename (Some r) → RegisterSeen s t hidden rename later → RegisterSeen s t hidden rename (cond b (Some r) later)
chosen_seen s t hidden rename true r later here there = here
chosen_seen s t hidden rename false r later here there = there

use_seen : (s t : Setting) (hidden : Place → Bool) (rename : ℕ → ℕ) (from : ℕ) (r : ℕ) (os : List Operand) → RegisterSeen s t hidden rename (Some r)
    → RegisterSeen s t hidden rename (entry_for from os) → RegisterSeen s t hidden rename (entry_for from (operand.Use (record { 0 = r }) ∷ os))
use_seen s t hidden rename from r [] here there = tt
use_seen s t hidden rename from r (operand.Block b ∷ os) here there = chosen_seen s t hidden rename (b == from) r (entry_for from os) here there
use_seen s t hidden rename from r (operand.Def q k ∷ os) here there = there
use_seen s t hidden rename from r (_ ∷ os) here there = there

entry_seen : (s t : Setting) (hidden : Place → Bool) (rename : ℕ → ℕ) (from : ℕ) (os : List Operand) → AreSeenAs s t hidden rename os → RegisterSeen s t hidden rename (entry_for from os)
entry_seen s t hidden rename from [] seen = tt
entry_seen s t hidden rename from (operand.Use r ∷ os) seen =
    use_seen s t hidden rename from r.0 os (seen.0, seen.1, seen.2) (entry_seen s t hidden rename from os seen.3)
entry_seen s t hidden rename from (operand.Def r k ∷ os) seen = entry_seen s t hidden rename from os seen.1
entry_seen s t hidden rename from (operand.Phys n ∷ os) seen = entry_seen s t hidden rename from os seen.1
entry_seen s t hidden rename from (operand.ImplicitUse n ∷ os) seen = entry_seen s t hidden rename from os seen.1
entry_seen s t hidden rename from (_ ∷ os) seen = entry_seen s t hidden rename from os seen

pub from_seen : (s t : Setting) (hidden : Place → Bool) (rename : ℕ → ℕ) (from : Option ℕ) (os : List Operand) → AreSeenAs s t hidden rename os → RegisterSeen s t hidden rename (from_block from os)
from_seen s t hidden rename None os seen = tt
from_seen s t hidden rename (Some from) os seen = entry_seen s t hidden rename from os seen

-- the value that is taken
same_through : (old other new : Option ℕ) → HasSameValue old other → HasSameValue other new → HasSameValue old new
same_through None other new first second = tt
same_through (Some v) other new first second = subst (λ o. HasSameValue o new) first second

pub taken_same : (s t : Setting) (hidden : Place → Bool) (rename : ℕ → ℕ) (old new : State) → Agree s t hidden old new → (r : Option ℕ) → RegisterSeen s t hidden rename r → EntryHolds rename old r
    → HasSameValue (value_at old r) (value_at new (option_map rename r))
taken_same s t hidden rename old new agree None seen holds = tt
taken_same s t hidden rename old new agree (Some r) seen holds =
    same_through (old.values r) (old.values (rename r)) (new.values (rename r)) holds
    (same_value s.x (s.width r) (old.values (rename r)) (new.values (rename r))
    (subst (λ m. ValueStands s.x m (s.width r) (old.values (rename r)) (new.values (rename r))) seen.1
    (subst (λ n. ValueStands s.x (s.width (rename r)) n (old.values (rename r)) (new.values (rename r))) seen.2 (agree.values (rename r) seen.0))))

same_value_put : (s t : Setting) (hidden : Place → Bool) (old new : State) (p : Place) (v : ℕ) → AreAlike s.width t.width (p ∷ []) → Agree s t hidden old new
    → Agree s t (shown hidden p) (put old p v) (put new p v)
same_value_put s t hidden old new p v alike agree = put_agree s t hidden old new p v v (in_place p alike) agree
  where
    in_place : (q : Place) → AreAlike s.width t.width (q ∷ []) → PlaceStands s t q v v
    in_place (Virtual r) alike' = subst (λ n. StandsFor s.x (s.width r) n v v) (sym alike'.0) (alike_stands s.x (s.width r) v v refl)
    in_place (Physical n) alike' = refl

pub put_values_stand : (s t : Setting) (hidden : Place → Bool) (σ σ' : Option State) (ps : List Place) (v u : Option ℕ) → AreAlike s.width t.width ps → HasSameValue v u
    → PhisStand (Agree s t hidden) σ σ' → PhisStand (Agree s t (all_shown hidden ps)) (put_value σ ps v) (put_value σ' ps u)
put_values_stand s t hidden None σ' ps v u alike same stand = tt
put_values_stand s t hidden (Some old) None ps v u alike same stand = absurd stand
put_values_stand s t hidden (Some old) (Some new) [] v u alike same stand = tt
put_values_stand s t hidden (Some old) (Some new) (p ∷ q ∷ ps) v u alike same stand = tt
put_values_stand s t hidden (Some old) (Some new) (p ∷ []) None u alike same stand = tt
put_values_stand s t hidden (Some old) (Some new) (p ∷ []) (Some v) u alike same stand =
    subst (λ o. PhisStand (Agree s t (shown hidden p)) (Some (put old p v)) (put_value (Some new) (p ∷ []) o)) (sym same) (same_value_put s t hidden old new p v alike stand)

-- phis that stay, and show what they write
pub phis_show : (s t : Setting) (hidden : Place → Bool) (rename : ℕ → ℕ) (from : Option ℕ) (old new : State) → Agree s t hidden old new → (is js : List (ℕ × InstrData)) → AreKept rename is js
    → AllSeenAs s t hidden rename is → EntriesHold rename from old is → PhisStand (Agree s t (shown_by_phis hidden is)) (joined old from is) (joined new from js)
phis_show s t hidden rename from old new agree [] [] kept seen holds = agree
phis_show s t hidden rename from old new agree [] (j ∷ js) kept seen holds = absurd kept
phis_show s t hidden rename from old new agree (i ∷ is) [] kept seen holds = absurd kept
phis_show s t hidden rename from old new agree (i ∷ is) (j ∷ js) kept seen holds =
    subst (λ ps. PhisStand (Agree s t (shown_by_phis hidden (i ∷ is))) (joined old from (i ∷ is)) (put_value (joined new from js) ps (value_at new (from_block from j.1.operands))))
    (sym (kept_places rename i.1 j.1 kept.0))
    (subst (λ r. PhisStand (Agree s t (shown_by_phis hidden (i ∷ is))) (joined old from (i ∷ is)) (put_value (joined new from js) (places_of i.1.operands) (value_at new r)))
    (sym (kept_entry rename i.1 j.1 kept.0 from))
    (put_values_stand s t (shown_by_phis hidden is) (joined old from is) (joined new from js) (places_of i.1.operands) (value_at old (from_block from i.1.operands))
    (value_at new (option_map rename (from_block from i.1.operands))) (places_alike s t hidden rename i.1.operands seen.0)
    (taken_same s t hidden rename old new agree (from_block from i.1.operands) (from_seen s t hidden rename from i.1.operands seen.0) holds.0)
    (phis_show s t hidden rename from old new agree is js kept.1 seen.1 holds.1)))

pub phis_within : (middle middle' : State → State → Type 0) (σ σ' : Option State) → ((old new : State) → middle old new → middle' old new) → PhisStand middle σ σ' → PhisStand middle' σ σ'
phis_within middle middle' None σ' f h = tt
phis_within middle middle' (Some old) None f h = absurd h
phis_within middle middle' (Some old) (Some new) f h = f old new h

pub shown_by_phis_less : (hidden : Place → Bool) (is : List (ℕ × InstrData)) (q : Place) → hidden q ≡ false → shown_by_phis hidden is q ≡ false
shown_by_phis_less hidden [] q e = e
shown_by_phis_less hidden (i ∷ is) q e = all_shown_less (shown_by_phis hidden is) (places_of i.1.operands) q (shown_by_phis_less hidden is q e)

-- phis that stay, where no less is hidden after them
pub phis_stand : (s t : Setting) (hidden : Place → Bool) (rename : ℕ → ℕ) (from : Option ℕ) (old new : State) → Agree s t hidden old new → (is js : List (ℕ × InstrData)) → AreKept rename is js
    → AllSeenAs s t hidden rename is → EntriesHold rename from old is → PhisStand (Agree s t hidden) (joined old from is) (joined new from js)
phis_stand s t hidden rename from old new agree is js kept seen holds =
    phis_within (Agree s t (shown_by_phis hidden is)) (Agree s t hidden) (joined old from is) (joined new from js)
    (λ σ σ' h. agree_but s t (shown_by_phis hidden is) hidden σ σ' (shown_by_phis_less hidden is) h)
    (phis_show s t hidden rename from old new agree is js kept seen holds)
