-- A function whose instructions are of words refines to the one whose registers all are words.
use Rattle.std.proofs.Common.{◌≡◌, ℕ, zero, suc, ◌^◌, ◌<◌, ◌≤◌, Bool, true, false, cond, ◌==◌, List, [], ◌∷◌, map, Option, Some, None, IfSome, slice_get, unwrap_or, le_refl, refl, sym, ap, ◌∙◌, subst}
use Rattle.gi_mir.specs.Data.{InstrData, BlockData, FunctionData}
use Rattle.gi_mir.specs.Registers.{first_there, kind_in_operands, kind_in_instrs, kind_in_blocks}
use Rattle.gi_mir.specs.declared.operand.Kind.{Kind}
use Rattle.gi_mir.specs.declared.operand.Kind.TheVariants.{Class}
use Rattle.gi_mir.specs.declared.operand.Operand.{Operand}
use Rattle.gi_mir.specs.declared.operand.Operand.TheVariants as operand
use Rattle.gi_meaning.specs.State.{World, IsWorld, State, Place, Virtual, Physical, put}
use Rattle.gi_meaning.specs.Meaning.{meaning_of}
use Rattle.gi_meaning.specs.Runs.{Setting, setting_of, width_of_kind, places_of, written_places, width_of_place, is_phi, phis_of, after_phis, entry_for, value_at, from_block, put_value, joined}
use Rattle.gi_refine.specs.Agreement.{setting, ValueStands, shown, all_shown}
use Rattle.gi_refine.specs.Kept.{without_kind, IsKept}
use Rattle.gi_refine.specs.Refinement.{RefinesUnchecked}
use Rattle.gi_refine.specs.Simulation.{IsFollowed, PhisStand, IsBlockFollowed, PlaceFollowed}
use Rattle.gi_refine.specs.Worded.{AreWorded, AgreeInWords, classed_instr, classed_pair, classed_block, classed, AreNarrow, AllNarrow, AllWorded, UsesOfWidth, PlacesOfWidth, PhisOfWidth, IsBlockWorded, AreBlocksWorded}
use Rattle.gi_refine.proofs.Agreeing.{put_agree}
use Rattle.gi_refine.proofs.Keeping.{places_plain, entry_plain, agree_but, all_shown_less}
use Rattle.gi_refine.proofs.Reaching.{followed_within, nothing_followed}
use Rattle.gi_refine.proofs.Simulating.{followed_on, refined_by_following}
use Rattle.gi_refine.proofs.Sized.{put_sized}
use Rattle.gi_refine.proofs.Staying.{same_uses}
use Rattle.gi_refine.proofs.WordingValues.{PlacesWorded, place_stands}
use Rattle.gi_refine.proofs.WordedSteps.{words_followed}

-- ══ A function whose registers all become words ══

abbrev nothing : Place → Bool
nothing p = false

-- at most a word in the old function, and a word in the new one, whichever register it is
record AllWords (x : ℕ) (width width' : ℕ → ℕ) : Type 0 where
  within : (r : ℕ) → width r ≤ x
  whole : (r : ℕ) → width' r ≡ x

operands_worded : (x : ℕ) (names : List (List ℕ)) (width width' : ℕ → ℕ) → AllWords x width width' → (os : List Operand) → AreWorded (setting x names width) (setting x names width') nothing os
operands_worded x names width width' words [] = tt
operands_worded x names width width' words (operand.Use r ∷ os) = (refl, words.within r.0, words.whole r.0, operands_worded x names width width' words os)
operands_worded x names width width' words (operand.Def r k ∷ os) = (words.within r.0, words.whole r.0, operands_worded x names width width' words os)
operands_worded x names width width' words (operand.Phys n ∷ os) = (refl, operands_worded x names width width' words os)
operands_worded x names width width' words (operand.ImplicitUse n ∷ os) = (refl, operands_worded x names width width' words os)
operands_worded x names width width' words (_ ∷ os) = operands_worded x names width width' words os

plain_twice : (os : List Operand) → map without_kind (map without_kind os) ≡ map without_kind os
plain_twice [] = refl
plain_twice (operand.Def r k ∷ os) = ap (λ ps. operand.Def r Class ∷ ps) (plain_twice os)
plain_twice (operand.Use r ∷ os) = ap (λ ps. operand.Use r ∷ ps) (plain_twice os)
plain_twice (o ∷ os) = ap (λ ps. o ∷ ps) (plain_twice os)

pub classed_kept : (i : InstrData) → IsKept (λ r. r) i (classed_instr i)
classed_kept i = record { op = refl; flags = refl; mem = refl; operands = plain_twice i.operands ∙ ap (map without_kind) (sym (same_uses i.operands)) }

body_worded : (x : ℕ) → 32 ≤ x → (names : List (List ℕ)) (width width' : ℕ → ℕ) (w : World) → IsWorld x w → AllWords x width width' → (is : List (ℕ × InstrData)) → AllWorded is
    → IsFollowed (setting x names width) (setting x names width') w (AgreeInWords (setting x names width) (setting x names width') nothing) (AgreeInWords (setting x names width) (setting x names width') nothing)
    (λ c. AgreeInWords (setting x names width) (setting x names width') nothing) is (map classed_pair is)
body_worded x wide names width width' w is_world words [] worded =
    nothing_followed (setting x names width) (setting x names width') w (AgreeInWords (setting x names width) (setting x names width') nothing) (λ c. AgreeInWords (setting x names width) (setting x names width') nothing)
body_worded x wide names width width' w is_world words (i ∷ is) worded =
    let s : Setting = setting x names width in
    let t : Setting = setting x names width' in
    let at : State → State → Type 0 = AgreeInWords s t nothing in
    let ps : List Place = written_places (meaning_of i.1.flags i.1.op) i.1.operands in
    followed_on s t w at at at (λ c. at) (i ∷ []) (classed_pair i ∷ []) is (map classed_pair is)
    (followed_within s t w at at (AgreeInWords s t (all_shown nothing ps)) at (λ c. at) (λ c. at) (i ∷ []) (classed_pair i ∷ [])
    (λ old new h. h) (λ old new h. record { agree = agree_but s t (all_shown nothing ps) nothing old new (all_shown_less nothing ps) h.agree; sized = h.sized }) (λ c old new h. h)
    (words_followed x wide names width width' w is_world nothing i (classed_pair i) (classed_kept i.1) worded.0 (operands_worded x names width width' words i.1.operands)))
    (body_worded x wide names width width' w is_world words is worded.1)

-- ══ Phis ══

-- the register that a phi takes has the width
abbrev OfWidth : Setting → (width : ℕ) → Option ℕ → Type 0
OfWidth s width None = Unit {0}
OfWidth s width (Some r) = s.width r ≡ width

chosen_of_width : (s : Setting) (width : ℕ) (b : Bool) (r : ℕ) (later : Option ℕ) → s.width r ≡ width → OfWidth s width later → OfWidth s width (cond b (Some r) later)
chosen_of_width s width true r later here there = here
chosen_of_width s width false r later here there = there

use_of_width : (s : Setting) (width from r : ℕ) (os : List Operand) → s.width r ≡ width → OfWidth s width (entry_for from os) → OfWidth s width (entry_for from (operand.Use (record { 0 = r }) ∷ os))
use_of_width s width from r [] here there = tt
use_of_width s width from r (operand.Block b ∷ os) here there = chosen_of_width s width (b == from) r (entry_for from os) here there
use_of_width s width from r (operand.Def q k ∷ os) here there = there
use_of_width s width from r (_ ∷ os) here there = there

entry_of_width : (s : Setting) (width from : ℕ) (os : List Operand) → UsesOfWidth s width os → OfWidth s width (entry_for from os)
entry_of_width s width from [] uses = tt
entry_of_width s width from (operand.Use r ∷ os) uses = use_of_width s width from r.0 os uses.0 (entry_of_width s width from os uses.1)
entry_of_width s width from (operand.Def r k ∷ os) uses = entry_of_width s width from os uses
entry_of_width s width from (_ ∷ os) uses = entry_of_width s width from os uses

from_of_width : (s : Setting) (width : ℕ) (from : Option ℕ) (os : List Operand) → UsesOfWidth s width os → OfWidth s width (from_block from os)
from_of_width s width None os uses = tt
from_of_width s width (Some from) os uses = entry_of_width s width from os uses

-- what it takes stands as a word, and is one
record TakenWord (x : ℕ) (width : ℕ) (old new : Option ℕ) : Type 0 where
  stands : ValueStands x width x old new
  small : IfSome new (λ u. u < 2 ^ x)

taken_word : (x : ℕ) (names : List (List ℕ)) (width width' : ℕ → ℕ) → AllWords x width width' → (old new : State) → AgreeInWords (setting x names width) (setting x names width') nothing old new → (k : ℕ) (r : Option ℕ)
    → OfWidth (setting x names width) k r → TakenWord x k (value_at old r) (value_at new r)
taken_word x names width width' words old new agree k None of = record { stands = tt; small = tt }
taken_word x names width width' words old new agree k (Some r) of = record {
  stands = subst (λ m. ValueStands x m x (old.values r) (new.values r)) of (subst (λ n. ValueStands x (width r) n (old.values r) (new.values r)) (words.whole r) (agree.agree.values r refl));
  small = agree.sized.values r;
}

place_worded : (x : ℕ) (names : List (List ℕ)) (width width' : ℕ → ℕ) → AllWords x width width' → (p : Place) → PlacesWorded (setting x names width) (setting x names width') (p ∷ [])
place_worded x names width width' words (Virtual r) = (words.within r, words.whole r, tt)
place_worded x names width width' words (Physical n) = tt

put_word : (x : ℕ) (names : List (List ℕ)) (width width' : ℕ → ℕ) → AllWords x width width' → (σ σ' : Option State) (ps : List Place) (v u : Option ℕ)
    → ((p : Place) → ps ≡ p ∷ [] → TakenWord x (width_of_place (setting x names width) p) v u)
    → PhisStand (AgreeInWords (setting x names width) (setting x names width') nothing) σ σ'
    → PhisStand (AgreeInWords (setting x names width) (setting x names width') nothing) (put_value σ ps v) (put_value σ' ps u)
put_word x names width width' words None σ' ps v u taken stand = tt
put_word x names width width' words (Some old) None ps v u taken stand = absurd stand
put_word x names width width' words (Some old) (Some new) [] v u taken stand = tt
put_word x names width width' words (Some old) (Some new) (p ∷ q ∷ ps) v u taken stand = tt
put_word x names width width' words (Some old) (Some new) (p ∷ []) None u taken stand = tt
put_word x names width width' words (Some old) (Some new) (p ∷ []) (Some v) None taken stand = absurd ((taken p refl).stands)
put_word x names width width' words (Some old) (Some new) (p ∷ []) (Some v) (Some u) taken stand =
    let s : Setting = setting x names width in
    let t : Setting = setting x names width' in
    record {
      agree = agree_but s t (shown nothing p) nothing (put old p v) (put new p u) (all_shown_less nothing (p ∷ []))
          (put_agree s t nothing old new p v u (place_stands x names width width' p (place_worded x names width width' words p) v u ((taken p refl).stands)) stand.agree);
      sized = put_sized x new p u ((taken p refl).small) stand.sized;
    }

first_of_width : (s : Setting) (ps : List Place) (os : List Operand) (p : Place) → ps ≡ p ∷ [] → PlacesOfWidth s ps os → UsesOfWidth s (width_of_place s p) os
first_of_width s ps os p is uses = (subst (λ qs. PlacesOfWidth s qs os) is uses).0

from_plain : (from : Option ℕ) (os : List Operand) → from_block from (map without_kind os) ≡ from_block from os
from_plain None os = refl
from_plain (Some from) os = entry_plain from os

phis_worded : (x : ℕ) (names : List (List ℕ)) (width width' : ℕ → ℕ) → AllWords x width width' → (from : Option ℕ) (old new : State) → AgreeInWords (setting x names width) (setting x names width') nothing old new
    → (is : List (ℕ × InstrData)) → PhisOfWidth (setting x names width) is
    → PhisStand (AgreeInWords (setting x names width) (setting x names width') nothing) (joined old from is) (joined new from (map classed_pair is))
phis_worded x names width width' words from old new agree [] phis = agree
phis_worded x names width width' words from old new agree (i ∷ is) phis =
    let s : Setting = setting x names width in
    let os : List Operand = i.1.operands in
    let rest : Option State = joined new from (map classed_pair is) in
    let old_all : Option State = joined old from (i ∷ is) in
    let at : State → State → Type 0 = AgreeInWords s (setting x names width') nothing in
    subst (λ ps. PhisStand at old_all (put_value rest ps (value_at new (from_block from (map without_kind os))))) (sym (places_plain os))
    (subst (λ r. PhisStand at old_all (put_value rest (places_of os) (value_at new r))) (sym (from_plain from os))
    (put_word x names width width' words (joined old from is) rest (places_of os) (value_at old (from_block from os)) (value_at new (from_block from os))
    (λ p is_place. taken_word x names width width' words old new agree (width_of_place s p) (from_block from os) (from_of_width s (width_of_place s p) from os (first_of_width s (places_of os) os p is_place phis.0)))
    (phis_worded x names width width' words from old new agree is phis.1)))

-- ══ Blocks ══

classed_phis : (is : List (ℕ × InstrData)) → phis_of (map classed_pair is) ≡ map classed_pair (phis_of is)
classed_phis [] = refl
classed_phis (i ∷ is) = either (is_phi i.1) (classed_phis is)
  where
    either : (b : Bool) → phis_of (map classed_pair is) ≡ map classed_pair (phis_of is) → cond b (classed_pair i ∷ phis_of (map classed_pair is)) [] ≡ map classed_pair (cond b (i ∷ phis_of is) [])
    either true e = ap (λ js. classed_pair i ∷ js) e
    either false e = refl

classed_body : (is : List (ℕ × InstrData)) → after_phis (map classed_pair is) ≡ map classed_pair (after_phis is)
classed_body [] = refl
classed_body (i ∷ is) = either (is_phi i.1) (classed_body is)
  where
    either : (b : Bool) → after_phis (map classed_pair is) ≡ map classed_pair (after_phis is) → cond b (after_phis (map classed_pair is)) (classed_pair i ∷ map classed_pair is) ≡ map classed_pair (cond b (after_phis is) (i ∷ is))
    either true e = e
    either false e = refl

block_worded : (x : ℕ) → 32 ≤ x → (names : List (List ℕ)) (width width' : ℕ → ℕ) (w : World) → IsWorld x w → AllWords x width width' → (b : ℕ) (block : BlockData) → IsBlockWorded (setting x names width) block
    → IsBlockFollowed (setting x names width) (setting x names width') w (λ from c. AgreeInWords (setting x names width) (setting x names width') nothing)
    (AgreeInWords (setting x names width) (setting x names width') nothing) (AgreeInWords (setting x names width) (setting x names width') nothing)
    (λ c. AgreeInWords (setting x names width) (setting x names width') nothing) b block (classed_block block)
block_worded x wide names width width' w is_world words b block worded =
    let s : Setting = setting x names width in
    let t : Setting = setting x names width' in
    let at : State → State → Type 0 = AgreeInWords s t nothing in
    record {
      successors = refl;
      phis = λ from old new agree.
          subst (λ is. PhisStand at (joined old from (phis_of block.instrs)) (joined new from is)) (sym (classed_phis block.instrs)) (phis_worded x names width width' words from old new agree (phis_of block.instrs) worded.phis);
      body = subst (λ is. IsFollowed s t w at at (λ c. at) (after_phis block.instrs) is) (sym (classed_body block.instrs)) (body_worded x wide names width width' w is_world words (after_phis block.instrs) worded.body);
      falls = λ among old new agree. agree;
      leaves = λ c old new agree. agree;
    }

place_followed : (x : ℕ) → 32 ≤ x → (names : List (List ℕ)) (width width' : ℕ → ℕ) (w : World) → IsWorld x w → AllWords x width width' → (b k : ℕ) (blocks : List BlockData) → AreBlocksWorded (setting x names width) blocks
    → PlaceFollowed (setting x names width) (setting x names width') w (λ from c. AgreeInWords (setting x names width) (setting x names width') nothing)
    (AgreeInWords (setting x names width) (setting x names width') nothing) (AgreeInWords (setting x names width) (setting x names width') nothing)
    (λ c. AgreeInWords (setting x names width) (setting x names width') nothing) b (slice_get blocks k) (slice_get (map classed_block blocks) k)
place_followed x wide names width width' w is_world words b k [] worded = tt
place_followed x wide names width width' w is_world words b zero (block ∷ blocks) worded = block_worded x wide names width width' w is_world words b block worded.0
place_followed x wide names width width' w is_world words b (suc k) (block ∷ blocks) worded = place_followed x wide names width width' w is_world words b k blocks worded.1

-- ══ Widths ══

-- no kind but `Class`, and none of more than a word
abbrev IsClass : Option Kind → Type 0
IsClass None = Unit {0}
IsClass (Some k) = k ≡ Class

abbrev IsNarrow : (x : ℕ) → Option Kind → Type 0
IsNarrow x None = Unit {0}
IsNarrow x (Some k) = width_of_kind x k ≤ x

first_class : (a b : Option Kind) → IsClass a → IsClass b → IsClass (first_there a b)
first_class None b h l = l
first_class (Some k) b h l = h

first_narrow : (x : ℕ) (a b : Option Kind) → IsNarrow x a → IsNarrow x b → IsNarrow x (first_there a b)
first_narrow x None b h l = l
first_narrow x (Some k) b h l = h

if_class : (b : Bool) → IsClass (cond b (Some Class) None)
if_class true = refl
if_class false = tt

if_narrow : (x : ℕ) (k : Kind) (b : Bool) → width_of_kind x k ≤ x → IsNarrow x (cond b (Some k) None)
if_narrow x k true h = h
if_narrow x k false h = tt

operands_class : (r : ℕ) (os : List Operand) → IsClass (kind_in_operands r (map without_kind os))
operands_class r [] = tt
operands_class r (operand.Def q k ∷ os) = first_class (cond (q.0 == r) (Some Class) None) (kind_in_operands r (map without_kind os)) (if_class (q.0 == r)) (operands_class r os)
operands_class r (operand.Use q ∷ os) = operands_class r os
operands_class r (_ ∷ os) = operands_class r os

instrs_class : (r : ℕ) (is : List (ℕ × InstrData)) → IsClass (kind_in_instrs r (map classed_pair is))
instrs_class r [] = tt
instrs_class r (i ∷ is) = first_class (kind_in_operands r (map without_kind i.1.operands)) (kind_in_instrs r (map classed_pair is)) (operands_class r i.1.operands) (instrs_class r is)

blocks_class : (r : ℕ) (blocks : List BlockData) → IsClass (kind_in_blocks r (map classed_block blocks))
blocks_class r [] = tt
blocks_class r (block ∷ blocks) = first_class (kind_in_instrs r (map classed_pair block.instrs)) (kind_in_blocks r (map classed_block blocks)) (instrs_class r block.instrs) (blocks_class r blocks)

operands_narrow : (x r : ℕ) (os : List Operand) → AreNarrow x os → IsNarrow x (kind_in_operands r os)
operands_narrow x r [] narrow = tt
operands_narrow x r (operand.Def q k ∷ os) narrow = first_narrow x (cond (q.0 == r) (Some k) None) (kind_in_operands r os) (if_narrow x k (q.0 == r) narrow.0) (operands_narrow x r os narrow.1)
operands_narrow x r (operand.Use q ∷ os) narrow = operands_narrow x r os narrow
operands_narrow x r (_ ∷ os) narrow = operands_narrow x r os narrow

instrs_narrow : (x r : ℕ) (is : List (ℕ × InstrData)) → AllNarrow x is → IsNarrow x (kind_in_instrs r is)
instrs_narrow x r [] narrow = tt
instrs_narrow x r (i ∷ is) narrow = first_narrow x (kind_in_operands r i.1.operands) (kind_in_instrs r is) (operands_narrow x r i.1.operands narrow.0) (instrs_narrow x r is narrow.1)

blocks_narrow : (s : Setting) (r : ℕ) (blocks : List BlockData) → AreBlocksWorded s blocks → IsNarrow s.x (kind_in_blocks r blocks)
blocks_narrow s r [] worded = tt
blocks_narrow s r (block ∷ blocks) worded = first_narrow s.x (kind_in_instrs r block.instrs) (kind_in_blocks r blocks) (instrs_narrow s.x r block.instrs worded.0.narrow) (blocks_narrow s r blocks worded.1)

class_width : (x : ℕ) (k : Option Kind) → IsClass k → width_of_kind x (unwrap_or k Class) ≡ x
class_width x None h = refl
class_width x (Some k) h = ap (width_of_kind x) h

narrow_width : (x : ℕ) (k : Option Kind) → IsNarrow x k → width_of_kind x (unwrap_or k Class) ≤ x
narrow_width x None h = le_refl x
narrow_width x (Some k) h = h

-- ══ The whole function ══

pub classed_refines : (x : ℕ) → 32 ≤ x → (names : List (List ℕ)) (f : FunctionData) → AreBlocksWorded (setting_of x names f) f.blocks → RefinesUnchecked x names f (classed f)
classed_refines x wide names f worded =
    let s : Setting = setting_of x names f in
    let t : Setting = setting_of x names (classed f) in
    let at : State → State → Type 0 = AgreeInWords s t nothing in
    let words : AllWords x s.width t.width = record {
      within = λ r. narrow_width x (kind_in_blocks r f.blocks) (blocks_narrow s r f.blocks worded);
      whole = λ r. class_width x (kind_in_blocks r (map classed_block f.blocks)) (blocks_class r f.blocks);
    } in
    refined_by_following x names f (classed f) (λ w from b. at) (λ w b. at) (λ w b. at) (λ w b c. at)
    (λ w is_world. record {
      agree = record { values = λ r seen. tt; words = λ n seen. refl; memory = refl; taken = refl };
      sized = record { values = λ r. tt; words = is_world.words; memory = is_world.memory };
    })
    (λ w is_world. record {
      places = λ b. place_followed x wide names s.width t.width w is_world words b b f.blocks worded;
      memory = λ from b old new agree. agree.agree.memory;
      taken = λ from b old new agree. agree.agree.taken;
    })
