-- A rule used in a function of one block.
use Rattle.std.proofs.Common.{◌≡◌, ℕ, zero, suc, Bool, true, false, cond, List, [], ◌∷◌, ◌++◌, Option, Some, None, slice_get, refl, ap, unwrap_or}
use Rattle.gi_mir.specs.Data.{InstrData, BlockData, FunctionData}
use Rattle.gi_mir.specs.Registers.{first_there, kind_in_instrs}
use Rattle.gi_mir.specs.declared.operand.Kind.{Kind}
use Rattle.gi_mir.specs.declared.operand.Kind.TheVariants.{Class}
use Rattle.gi_meaning.specs.State.{World, State}
use Rattle.gi_meaning.specs.Runs.{Setting, setting_of, width_of_kind, On, Executes, phis_of, after_phis}
use Rattle.gi_refine.specs.Agreement.{AgreeAt}
use Rattle.gi_refine.specs.Examples.{block_of, one_block}
use Rattle.gi_refine.specs.Lifting.{Placing}
use Rattle.gi_refine.specs.OnePlace.{only_virtual}
use Rattle.gi_refine.specs.Refinement.{RefinesUnchecked}
use Rattle.gi_refine.specs.Replacing.{any_touches}
use Rattle.gi_refine.specs.RuleUse.{IsRuleUse}
use Rattle.gi_refine.specs.Values.{Rule}
use Rattle.gi_refine.proofs.Doing.{DoesAll}
use Rattle.gi_refine.proofs.RulesUsed.{use_followed}
use Rattle.gi_refine.proofs.Staying.{kind_replaced, replacement_refines}

-- where a run has one way to go, the state that it comes to
pub state_is : (s : Setting) (w : World) (is : List (ℕ × InstrData)) (state final other : State) → DoesAll s w is state (On final) → Executes s w is state (On other) → other ≡ final
state_is s w is state final other does run = on_same other final (does.only (On other) run)
  where
    on_same : (a b : State) → On a ≡ On b → a ≡ b
    on_same a b h = cc

no_other_block : (hidden : ℕ → Bool) (block other : BlockData) (b : ℕ) → (b ≡ 0 → ⊥) → slice_get (block ∷ []) b ≡ Some other → any_touches hidden (λ q. q) other.instrs ≡ false
no_other_block hidden block other zero apart h = absurd (apart refl)
no_other_block hidden block other (suc b) apart h = cc

-- a definition of another register
pub another_kind : (b : Bool) (k : Kind) (rest : Option Kind) → b ≡ false → first_there (first_there (cond b (Some k) None) None) rest ≡ rest
another_kind true k rest h = cc
another_kind false k rest h = refl

-- with the old instructions and with the new ones
pub record StraightUse (x : ℕ) (names : List (List ℕ)) (before old new after : List (ℕ × InstrData)) (hidden : ℕ → Bool) (rule : World → Rule) (placing : Placing) : Type 0 where
  pub used : IsRuleUse x names (one_block (before ++ (old ++ after))) (one_block (before ++ (new ++ after))) (only_virtual hidden) (only_virtual hidden) rule placing 0 (after_phis before) old new
  pub no_phi : phis_of (old ++ after) ≡ []
  pub no_new_phi : phis_of (new ++ after) ≡ []
  pub before_clear : any_touches hidden (λ q. q) before ≡ false
  pub after_clear : any_touches hidden (λ q. q) after ≡ false
  pub kinds : (q : ℕ) → hidden q ≡ false → kind_in_instrs q new ≡ kind_in_instrs q old

pub straight_refines : (x : ℕ) (names : List (List ℕ)) (before old new after : List (ℕ × InstrData)) (hidden : ℕ → Bool) (rule : World → Rule) (placing : Placing)
    → StraightUse x names before old new after hidden rule placing → RefinesUnchecked x names (one_block (before ++ (old ++ after))) (one_block (before ++ (new ++ after)))
straight_refines x names before old new after hidden rule placing use_here =
    let f : FunctionData = one_block (before ++ (old ++ after)) in
    let g : FunctionData = one_block (before ++ (new ++ after)) in
    replacement_refines x names f g (record { block = 0; before = before; old = old; new = new; after = after; hidden = hidden })
    (record {
      block = block_of [] (before ++ (old ++ after));
      here = refl;
      instrs = refl;
      blocks = refl;
      no_phi = use_here.no_phi;
      no_new_phi = use_here.no_new_phi;
      before_clear = use_here.before_clear;
      after_clear = use_here.after_clear;
      others_clear = λ b apart other here. no_other_block hidden (block_of [] (before ++ (old ++ after))) other b apart here;
      widths = λ q shown. ap (λ o. width_of_kind x (unwrap_or (first_there o None) Class)) (kind_replaced q before old new after (use_here.kinds q shown));
      follows = λ w is_world. use_followed x names f g (only_virtual hidden) (only_virtual hidden) rule placing 0 (after_phis before) old new
          (AgreeAt (setting_of x names f) (setting_of x names g) (λ b. only_virtual hidden)) use_here.used w is_world;
    })
