-- On RV32 a function whose registers are of 32 bits is refined by the function with each register of class `gpr`,
-- whatever the ids of its instructions.
use Rattle.std.proofs.Common.{◌≡◌, ℕ, zero, suc, Bool, true, false, cond, List, [], ◌∷◌, ◌++◌, map, slice_get, refl, sym, ap, ◌∙◌, subst}
use Rattle.std.specs.List.{AllZip}
use Rattle.std.proofs.lemmas.List.{append-nil}
use Rattle.gi_mir.specs.Data.{InstrData, BlockData, FunctionData}
use Rattle.gi_mir.specs.declared.operand.Operand.{Operand}
use Rattle.gi_mir.specs.declared.operand.Operand.TheVariants as operand
use Rattle.gi_meaning.specs.Runs.{Setting, setting_of, is_phi, phis_of}
use Rattle.gi_refine.specs.Agreement.{Agree, AgreeAt}
use Rattle.gi_refine.specs.Kept.{without_kind, IsKept, AreKept, AllSeenAs}
use Rattle.gi_refine.specs.OnePlace.{only_virtual, OnePlace, StaysAt, RewritesOnePlace}
use Rattle.gi_refine.specs.Refinement.{RefinesUnchecked}
use Rattle.gi_refine.specs.Worded.{classed_instr, classed_pair}
use Rattle.gi_refine.proofs.Classed.{classed_kept}
use Rattle.gi_refine.proofs.OnePlaceFollows.{one_place_refines}
use Rattle.gi_refine.proofs.Reaching.{followed_within, nothing_followed}
use Rattle.gi_refine.proofs.Staying.{KeepsWidths, all_seen_untouched, body_holds_alone, phis_hold_alone, no_phis_after}
use Rattle.gi_answer.specs.Selection.{IsSameInstr}
use Rattle.gi_answer.proofs.SelectShapes.{shaped}
use Rattle.gi_answer.proofs.SelectFronts.{is_plain, Are32, All32}
use Rattle.gi_answer.proofs.SelectRuns.{nothing_hidden}
use Rattle.gi_answer.proofs.SelectSteps.{any_nothing}

-- the instructions with each register of class `gpr`
abbrev pub classed_pairs : List (ℕ × InstrData) → List (ℕ × InstrData)
classed_pairs is = map classed_pair is

-- ══ They are kept ══

kept_classed : (i j : InstrData) → j ≡ classed_instr i → IsKept (λ r. r) i j
kept_classed i j h = subst (IsKept (λ r. r) i) (sym h) (classed_kept i)

all_kept_classed : (is js : List (ℕ × InstrData)) → AllZip IsSameInstr (classed_pairs is) js → AreKept (λ r. r) is js
all_kept_classed [] [] h = tt
all_kept_classed [] (j ∷ js) h = absurd h
all_kept_classed (i ∷ is) [] h = absurd h
all_kept_classed (i ∷ is) (j ∷ js) h = (kept_classed i.1 j.1 h.0, all_kept_classed is js h.1)

no_phi_first : (i : ℕ × InstrData) (is : List (ℕ × InstrData)) (b : Bool) → cond b (i ∷ phis_of is) [] ≡ [] → b ≡ false
no_phi_first i is true h = cc
no_phi_first i is false h = refl

no_phis_classed : (is js : List (ℕ × InstrData)) → AllZip IsSameInstr (classed_pairs is) js → phis_of is ≡ [] → phis_of js ≡ []
no_phis_classed [] [] h none = refl
no_phis_classed [] (j ∷ js) h none = absurd h
no_phis_classed (i ∷ is) [] h none = absurd h
no_phis_classed (i ∷ is) (j ∷ js) h none = ap (λ b. cond b (j ∷ phis_of js) []) (ap is_phi h.0 ∙ no_phi_first i is (is_phi i.1) none)

operands_32 : (os : List Operand) → Are32 (map without_kind os)
operands_32 [] = tt
operands_32 (operand.Def r k ∷ os) = (refl, operands_32 os)
operands_32 (o ∷ os) = operands_32 os

pub classed_32 : (is js : List (ℕ × InstrData)) → AllZip IsSameInstr (classed_pairs is) js → All32 js
classed_32 [] [] h = tt
classed_32 [] (j ∷ js) h = absurd h
classed_32 (i ∷ is) [] h = absurd h
classed_32 (i ∷ is) (j ∷ js) h = (subst (λ (d : InstrData). Are32 d.operands) (sym h.0) (operands_32 i.1.operands), classed_32 is js h.1)

-- ══ The function ══

-- there is one block
no_other : (names : List (List ℕ)) (f g : FunctionData) (old new : BlockData) (b : ℕ) → (b ≡ 0 → ⊥) → StaysAt 32 names f g nothing_hidden (λ r. r) b (slice_get (old ∷ []) b) (slice_get (new ∷ []) b)
no_other names f g old new zero apart = absurd (apart refl)
no_other names f g old new (suc b) apart = tt

-- a place at which nothing is replaced, behind these instructions
abbrev behind_all : (is js : List (ℕ × InstrData)) → OnePlace
behind_all is js = record { block = 0; before = is; old = []; after = []; new_before = js; new = []; new_after = []; hidden = nothing_hidden; rename = λ r. r }

pub classed_refines : (names : List (List ℕ)) (f g : FunctionData) (b k : BlockData) (is js : List (ℕ × InstrData)) (reg id reg' id' : ℕ) → AllZip IsSameInstr (classed_pairs is) js → phis_of is ≡ [] → All32 is
    → k.successors ≡ b.successors → RefinesUnchecked 32 names (shaped f b is reg id) (shaped g k js reg' id')
classed_refines names f g b k is js reg id reg' id' same no_phis of_32 next =
    let old : FunctionData = shaped f b is reg id in
    let new : FunctionData = shaped g k js reg' id' in
    let s : Setting = setting_of 32 names old in
    let t : Setting = setting_of 32 names new in
    let no_new_phis : phis_of js ≡ [] = no_phis_classed is js same no_phis in
    let settings : t ≡ s = is_plain names g k js reg' id' (classed_32 is js same) ∙ sym (is_plain names f b is reg id of_32) in
    let widths : KeepsWidths s t nothing_hidden (λ r. r) = record { same = λ r seen. ap (λ (u : Setting). u.width r) settings; replaced = λ r. refl } in
    let rewrites : RewritesOnePlace 32 names old new (behind_all is js) = record {
      block = record b { instrs = is };
      new_block = record k { instrs = js };
      here = refl;
      there = refl;
      successors = next;
      splits = no_phis_after is no_phis ∙ sym (append-nil is);
      new_splits = no_phis_after js no_new_phis ∙ sym (append-nil js);
      phis_kept = subst (λ xs. AreKept (λ r. r) xs (phis_of js)) (sym no_phis) (subst (λ ys. AreKept (λ r. r) [] ys) (sym no_new_phis) tt);
      before_kept = all_kept_classed is js same;
      after_kept = tt;
      phis_seen = subst (λ xs. AllSeenAs s t (only_virtual nothing_hidden) (λ r. r) xs) (sym no_phis) tt;
      before_seen = all_seen_untouched s t nothing_hidden (λ r. r) widths is (any_nothing is);
      after_seen = tt;
      phis_hold = phis_hold_alone 32 names old 0 (phis_of is);
      before_holds = body_holds_alone 32 names old 0 [] is;
      after_holds = body_holds_alone 32 names old 0 (is ++ []) [];
      others = no_other names old new (record b { instrs = is }) (record k { instrs = js });
      follows = λ w is_world.
          followed_within s t w (Agree s t (only_virtual nothing_hidden)) _ (Agree s t (only_virtual nothing_hidden)) (Agree s t (only_virtual nothing_hidden))
          (AgreeAt s t (λ c. only_virtual nothing_hidden)) (AgreeAt s t (λ c. only_virtual nothing_hidden)) [] [] (λ u v h. h.relates) (λ u v h. h) (λ c u v h. h)
          (nothing_followed s t w (Agree s t (only_virtual nothing_hidden)) (AgreeAt s t (λ c. only_virtual nothing_hidden)));
    } in
    one_place_refines 32 names old new (behind_all is js) rewrites
