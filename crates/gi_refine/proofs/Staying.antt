-- What instructions that stay owe, from tests of their operands.
use Rattle.std.proofs.Common.{◌≡◌, ℕ, zero, suc, Bool, true, false, cond, ◌||◌, List, [], ◌∷◌, ◌++◌, map, Option, Some, None, slice_get, slice_set, unwrap_or, refl, sym, ap, ap₂, ◌∙◌, subst}
use Rattle.std.proofs.lemmas.Bool.{or_parts}
use Rattle.gi_mir.specs.Data.{InstrData, BlockData, FunctionData}
use Rattle.gi_mir.specs.Registers.{first_there, kind_in_operands, kind_in_instrs, kind_in_blocks}
use Rattle.gi_mir.specs.declared.operand.Kind.{Kind}
use Rattle.gi_mir.specs.declared.operand.Operand.{Operand}
use Rattle.gi_mir.specs.declared.operand.Operand.TheVariants as operand
use Rattle.gi_meaning.specs.State.{State}
use Rattle.gi_meaning.specs.Runs.{Setting, setting_of, is_phi, phis_of, after_phis, from_block}
use Rattle.gi_refine.specs.Kept.{reused_operand, reused, without_kind, IsKept, AreKept, AreSeenAs, AllSeenAs, HasSameValue, UsesHold, EntryHolds, EntriesHold, PhisHold, BodyHolds}
use Rattle.gi_refine.specs.OnePlace.{OnePlace, only_virtual, StaysAt, RewritesOnePlace}
use Rattle.gi_refine.specs.Refinement.{RefinesUnchecked}
use Rattle.gi_refine.specs.Replacing.{touches, any_touches, all_reused, Replacement, IsReplaced}
use Rattle.gi_refine.proofs.OnePlaceFollows.{one_place_refines}

-- ══ Nothing renamed ══

pub same_uses : (os : List Operand) → map (reused_operand (λ r. r)) os ≡ os
same_uses [] = refl
same_uses (operand.Use r ∷ os) = ap (λ ps. operand.Use r ∷ ps) (same_uses os)
same_uses (operand.Def r k ∷ os) = ap (λ ps. operand.Def r k ∷ ps) (same_uses os)
same_uses (o ∷ os) = ap (λ ps. o ∷ ps) (same_uses os)

-- an instruction with its uses renamed
pub kept_reused : (rename : ℕ → ℕ) (i j : InstrData) → j ≡ reused rename i → IsKept rename i j
kept_reused rename i j h = record { op = ap (λ k. k.op) h; flags = ap (λ k. k.flags) h; mem = ap (λ k. k.mem) h; operands = ap (λ k. map without_kind k.operands) h }

-- the same instruction
pub kept_alone : (i j : InstrData) → j ≡ i → IsKept (λ r. r) i j
kept_alone i j h = record {
  op = ap (λ k. k.op) h;
  flags = ap (λ k. k.flags) h;
  mem = ap (λ k. k.mem) h;
  operands = ap (λ k. map without_kind k.operands) h ∙ ap (map without_kind) (sym (same_uses i.operands));
}

pub all_kept_reused : (rename : ℕ → ℕ) (is : List (ℕ × InstrData)) → AreKept rename is (all_reused rename is)
all_kept_reused rename [] = tt
all_kept_reused rename (i ∷ is) = (kept_reused rename i.1 (reused rename i.1) refl, all_kept_reused rename is)

pub all_kept_alone : (is : List (ℕ × InstrData)) → AreKept (λ r. r) is is
all_kept_alone [] = tt
all_kept_alone (i ∷ is) = (kept_alone i.1 i.1 refl, all_kept_alone is)

pub has_same_value : (v : Option ℕ) → HasSameValue v v
has_same_value None = tt
has_same_value (Some v) = refl

pub uses_hold_alone : (state : State) (os : List Operand) → UsesHold (λ r. r) state os
uses_hold_alone state [] = tt
uses_hold_alone state (operand.Use r ∷ os) = (has_same_value (state.values r.0), uses_hold_alone state os)
uses_hold_alone state (operand.Def r k ∷ os) = uses_hold_alone state os
uses_hold_alone state (_ ∷ os) = uses_hold_alone state os

entry_holds_alone : (state : State) (r : Option ℕ) → EntryHolds (λ q. q) state r
entry_holds_alone state None = tt
entry_holds_alone state (Some r) = has_same_value (state.values r)

pub entries_hold_alone : (from : Option ℕ) (state : State) (is : List (ℕ × InstrData)) → EntriesHold (λ r. r) from state is
entries_hold_alone from state [] = tt
entries_hold_alone from state (i ∷ is) = (entry_holds_alone state (from_block from i.1.operands), entries_hold_alone from state is)

pub phis_hold_alone : (x : ℕ) (names : List (List ℕ)) (f : FunctionData) (b : ℕ) (phis : List (ℕ × InstrData)) → PhisHold x names f b (λ r. r) phis
phis_hold_alone x names f b phis = record { by = λ w is_world entries from state arrives. entries_hold_alone from state phis }

pub body_holds_alone : (x : ℕ) (names : List (List ℕ)) (f : FunctionData) (b : ℕ) (before is : List (ℕ × InstrData)) → BodyHolds x names f b (λ r. r) before is
body_holds_alone x names f b before is = record { by = λ w is_world front i back split state reached. uses_hold_alone state i.1.operands }

-- ══ Nothing hidden is touched ══

-- registers that aren't hidden have their widths, and so has what replaces one
pub record KeepsWidths (s t : Setting) (hidden : ℕ → Bool) (rename : ℕ → ℕ) : Type 0 where
  pub same : (r : ℕ) → hidden r ≡ false → t.width r ≡ s.width r
  pub replaced : (r : ℕ) → s.width (rename r) ≡ s.width r

pub seen_untouched : (s t : Setting) (hidden : ℕ → Bool) (rename : ℕ → ℕ) → KeepsWidths s t hidden rename → (os : List Operand)
    → touches hidden rename os ≡ false → AreSeenAs s t (only_virtual hidden) rename os
seen_untouched s t hidden rename widths [] clear = tt
seen_untouched s t hidden rename widths (operand.Use r ∷ os) clear =
    let each : (hidden (rename r.0) ≡ false) × (touches hidden rename os ≡ false) = or_parts (hidden (rename r.0)) (touches hidden rename os) clear in
    (each.0, widths.replaced r.0, widths.same (rename r.0) each.0 ∙ widths.replaced r.0, seen_untouched s t hidden rename widths os each.1)
seen_untouched s t hidden rename widths (operand.Def r k ∷ os) clear =
    let each : (hidden r.0 ≡ false) × (touches hidden rename os ≡ false) = or_parts (hidden r.0) (touches hidden rename os) clear in
    (widths.same r.0 each.0, seen_untouched s t hidden rename widths os each.1)
seen_untouched s t hidden rename widths (operand.Phys n ∷ os) clear = (refl, seen_untouched s t hidden rename widths os clear)
seen_untouched s t hidden rename widths (operand.ImplicitUse n ∷ os) clear = (refl, seen_untouched s t hidden rename widths os clear)
seen_untouched s t hidden rename widths (_ ∷ os) clear = seen_untouched s t hidden rename widths os clear

pub all_seen_untouched : (s t : Setting) (hidden : ℕ → Bool) (rename : ℕ → ℕ) → KeepsWidths s t hidden rename → (is : List (ℕ × InstrData))
    → any_touches hidden rename is ≡ false → AllSeenAs s t (only_virtual hidden) rename is
all_seen_untouched s t hidden rename widths [] clear = tt
all_seen_untouched s t hidden rename widths (i ∷ is) clear =
    let each : (touches hidden rename i.1.operands ≡ false) × (any_touches hidden rename is ≡ false) = or_parts (touches hidden rename i.1.operands) (any_touches hidden rename is) clear in
    (seen_untouched s t hidden rename widths i.1.operands each.0, all_seen_untouched s t hidden rename widths is each.1)

-- what parts of a block touch, the phis and the rest touch
pub phis_clear : (hidden : ℕ → Bool) (rename : ℕ → ℕ) (is : List (ℕ × InstrData)) → any_touches hidden rename is ≡ false → any_touches hidden rename (phis_of is) ≡ false
phis_clear hidden rename [] clear = refl
phis_clear hidden rename (i ∷ is) clear =
    let each : (touches hidden rename i.1.operands ≡ false) × (any_touches hidden rename is ≡ false) = or_parts (touches hidden rename i.1.operands) (any_touches hidden rename is) clear in
    either (is_phi i.1) (ap₂ (λ a b. a || b) each.0 (phis_clear hidden rename is each.1))
  where
    either : (b : Bool) → any_touches hidden rename (i ∷ phis_of is) ≡ false → any_touches hidden rename (cond b (i ∷ phis_of is) []) ≡ false
    either true h = h
    either false h = refl

pub bodies_clear : (hidden : ℕ → Bool) (rename : ℕ → ℕ) (is : List (ℕ × InstrData)) → any_touches hidden rename is ≡ false → any_touches hidden rename (after_phis is) ≡ false
bodies_clear hidden rename [] clear = refl
bodies_clear hidden rename (i ∷ is) clear =
    let each : (touches hidden rename i.1.operands ≡ false) × (any_touches hidden rename is ≡ false) = or_parts (touches hidden rename i.1.operands) (any_touches hidden rename is) clear in
    either (is_phi i.1) (bodies_clear hidden rename is each.1)
  where
    either : (b : Bool) → any_touches hidden rename (after_phis is) ≡ false → any_touches hidden rename (cond b (after_phis is) (i ∷ is)) ≡ false
    either true h = h
    either false h = clear

-- ══ Phis in front ══

phi_first : (i : ℕ × InstrData) (is : List (ℕ × InstrData)) (b : Bool) → cond b (i ∷ phis_of is) [] ≡ [] → b ≡ false
phi_first i is true h = cc
phi_first i is false h = refl

-- behind what has no phi in front the phis stay, and the rest is appended
pub no_phis_after : (is : List (ℕ × InstrData)) → phis_of is ≡ [] → after_phis is ≡ is
no_phis_after [] h = refl
no_phis_after (i ∷ is) h = subst (λ b. cond b (after_phis is) (i ∷ is) ≡ i ∷ is) (sym (phi_first i is (is_phi i.1) h)) refl

pub phis_before : (front back : List (ℕ × InstrData)) → phis_of back ≡ [] → phis_of (front ++ back) ≡ phis_of front
phis_before [] back h = h
phis_before (i ∷ front) back h = ap (λ is. cond (is_phi i.1) (i ∷ is) []) (phis_before front back h)

pub body_before : (front back : List (ℕ × InstrData)) → phis_of back ≡ [] → after_phis (front ++ back) ≡ after_phis front ++ back
body_before [] back h = no_phis_after back h
body_before (i ∷ front) back h = either (is_phi i.1) (body_before front back h)
  where
    either : (b : Bool) → after_phis (front ++ back) ≡ after_phis front ++ back → cond b (after_phis (front ++ back)) (i ∷ (front ++ back)) ≡ cond b (after_phis front) (i ∷ front) ++ back
    either true e = e
    either false e = refl

-- ══ One element set ══

pub get_set_same : {X : Type 0} (xs : List X) (k : ℕ) (old new : X) → slice_get xs k ≡ Some old → slice_get (slice_set xs k new) k ≡ Some new
get_set_same [] k old new h = cc
get_set_same (x ∷ xs) zero old new h = refl
get_set_same (x ∷ xs) (suc k) old new h = get_set_same xs k old new h

pub get_set_other : {X : Type 0} (xs : List X) (k j : ℕ) (new : X) → (j ≡ k → ⊥) → slice_get (slice_set xs k new) j ≡ slice_get xs j
get_set_other [] k j new other = refl
get_set_other (x ∷ xs) zero zero new other = absurd (other refl)
get_set_other (x ∷ xs) zero (suc j) new other = refl
get_set_other (x ∷ xs) (suc k) zero new other = refl
get_set_other (x ∷ xs) (suc k) (suc j) new other = get_set_other xs k j new (λ e. other (ap suc e))

-- ══ Kinds of registers ══

there_assoc : (a b c : Option Kind) → first_there (first_there a b) c ≡ first_there a (first_there b c)
there_assoc None b c = refl
there_assoc (Some k) b c = refl

pub kind_appended : (r : ℕ) (is js : List (ℕ × InstrData)) → kind_in_instrs r (is ++ js) ≡ first_there (kind_in_instrs r is) (kind_in_instrs r js)
kind_appended r [] js = refl
kind_appended r (i ∷ is) js =
    ap (first_there (kind_in_operands r i.1.operands)) (kind_appended r is js) ∙ sym (there_assoc (kind_in_operands r i.1.operands) (kind_in_instrs r is) (kind_in_instrs r js))

-- a block that defines a register alike
pub kind_set : (r : ℕ) (blocks : List BlockData) (b : ℕ) (old new : BlockData) → slice_get blocks b ≡ Some old → kind_in_instrs r new.instrs ≡ kind_in_instrs r old.instrs
    → kind_in_blocks r (slice_set blocks b new) ≡ kind_in_blocks r blocks
kind_set r [] b old new here same = cc
kind_set r (k ∷ blocks) zero old new here same =
    ap (λ o. first_there o (kind_in_blocks r blocks)) (same ∙ ap (λ o. kind_in_instrs r ((unwrap_or o old).instrs)) (sym here))
kind_set r (k ∷ blocks) (suc b) old new here same = ap (first_there (kind_in_instrs r k.instrs)) (kind_set r blocks b old new here same)

-- a replacement that defines a register alike
pub kind_replaced : (r : ℕ) (before old new after : List (ℕ × InstrData)) → kind_in_instrs r new ≡ kind_in_instrs r old
    → kind_in_instrs r (before ++ (new ++ after)) ≡ kind_in_instrs r (before ++ (old ++ after))
kind_replaced r before old new after same =
    kind_appended r before (new ++ after)
    ∙ (ap (first_there (kind_in_instrs r before)) (kind_appended r new after ∙ (ap (λ o. first_there o (kind_in_instrs r after)) same ∙ sym (kind_appended r old after)))
    ∙ sym (kind_appended r before (old ++ after)))

-- ══ A replacement ══

pub other_stays : (x : ℕ) (names : List (List ℕ)) (f g : FunctionData) (hidden : ℕ → Bool) → KeepsWidths (setting_of x names f) (setting_of x names g) hidden (λ q. q) → (b : ℕ) (o : Option BlockData)
    → ((other : BlockData) → o ≡ Some other → any_touches hidden (λ q. q) other.instrs ≡ false) → StaysAt x names f g hidden (λ q. q) b o o
other_stays x names f g hidden widths b None clear = tt
other_stays x names f g hidden widths b (Some block) clear = record {
  successors = refl;
  kept = all_kept_alone block.instrs;
  seen = all_seen_untouched (setting_of x names f) (setting_of x names g) hidden (λ q. q) widths block.instrs (clear block refl);
  phis = phis_hold_alone x names f b (phis_of block.instrs);
  body = body_holds_alone x names f b [] (after_phis block.instrs);
}

-- the place of a replacement
pub place_of_replacement : Replacement → OnePlace
place_of_replacement r = record {
  block = r.block;
  before = after_phis r.before;
  old = r.old;
  after = r.after;
  new_before = after_phis r.before;
  new = r.new;
  new_after = r.after;
  hidden = r.hidden;
  rename = λ q. q;
}

pub replaced_in_place : (x : ℕ) (names : List (List ℕ)) (f g : FunctionData) (r : Replacement) → IsReplaced x names f g r → RewritesOnePlace x names f g (place_of_replacement r)
unfolding place_of_replacement
replaced_in_place x names f g r replaced =
    let s : Setting = setting_of x names f in
    let t : Setting = setting_of x names g in
    let block : BlockData = replaced.block in
    let new_block : BlockData = record block { instrs = r.before ++ (r.new ++ r.after) } in
    let widths : KeepsWidths s t r.hidden (λ q. q) = record { same = replaced.widths; replaced = λ q. refl } in
    let phis : phis_of block.instrs ≡ phis_of r.before = ap phis_of replaced.instrs ∙ phis_before r.before (r.old ++ r.after) replaced.no_phi in
    let new_phis : phis_of new_block.instrs ≡ phis_of r.before = phis_before r.before (r.new ++ r.after) replaced.no_new_phi in
    record {
      block = block;
      new_block = new_block;
      here = replaced.here;
      there = ap (λ bs. slice_get bs r.block) replaced.blocks ∙ get_set_same f.blocks r.block block new_block replaced.here;
      successors = refl;
      splits = ap after_phis replaced.instrs ∙ body_before r.before (r.old ++ r.after) replaced.no_phi;
      new_splits = body_before r.before (r.new ++ r.after) replaced.no_new_phi;
      phis_kept = subst (λ is. AreKept (λ q. q) is (phis_of new_block.instrs)) (sym phis) (subst (λ is. AreKept (λ q. q) (phis_of r.before) is) (sym new_phis) (all_kept_alone (phis_of r.before)));
      before_kept = all_kept_alone (after_phis r.before);
      after_kept = all_kept_alone r.after;
      phis_seen = subst (λ is. AllSeenAs s t (only_virtual r.hidden) (λ q. q) is) (sym phis)
          (all_seen_untouched s t r.hidden (λ q. q) widths (phis_of r.before) (phis_clear r.hidden (λ q. q) r.before replaced.before_clear));
      before_seen = all_seen_untouched s t r.hidden (λ q. q) widths (after_phis r.before) (bodies_clear r.hidden (λ q. q) r.before replaced.before_clear);
      after_seen = all_seen_untouched s t r.hidden (λ q. q) widths r.after replaced.after_clear;
      phis_hold = phis_hold_alone x names f r.block (phis_of block.instrs);
      before_holds = body_holds_alone x names f r.block [] (after_phis r.before);
      after_holds = body_holds_alone x names f r.block (after_phis r.before ++ r.old) r.after;
      others = λ b other.
          subst (λ o. StaysAt x names f g r.hidden (λ q. q) b (slice_get f.blocks b) o)
          (sym (ap (λ bs. slice_get bs b) replaced.blocks ∙ get_set_other f.blocks r.block b new_block other))
          (other_stays x names f g r.hidden widths b (slice_get f.blocks b) (replaced.others_clear b other));
      follows = replaced.follows;
    }

pub replacement_refines : (x : ℕ) (names : List (List ℕ)) (f g : FunctionData) (r : Replacement) → IsReplaced x names f g r → RefinesUnchecked x names f g
replacement_refines x names f g r replaced = one_place_refines x names f g (place_of_replacement r) (replaced_in_place x names f g r replaced)
