-- Runs in which an instruction that fails a test is undefined: the test of its row, or none.
use Rattle.std.proofs.Common.{◌≡◌, ℕ, Bool, true, false, cond, List, [], ◌∷◌, ◌++◌, map, Option, Some, None, option_map, slice_get, ◌⊎◌, inl, inr, ⊎_elim, refl, sym, ap, ap₂, ◌∙◌, subst}
use Rattle.std.proofs.lemmas.List.{map-id}
use Rattle.std.proofs.lemmas.Option.{slice_get-map, none-some, same_Some}
use Rattle.gi_mir.specs.Data.{InstrData, BlockData}
use Rattle.gi_meaning.specs.InRow.{nowhere}
use Rattle.gi_meaning.specs.State.{World, State, Undefined}
use Rattle.gi_meaning.specs.Runs.{Setting, Progress, On, Left, Over, Steps, After, Executes, is_phi, phis_of, after_phis}
use Rattle.gi_refine.specs.Reached.{GoesTo, IsReached}

-- ══ Instructions and blocks as they are run ══

abbrev pub tested : (test : InstrData → Bool) → InstrData → InstrData
tested test i = cond (test i) i (nowhere i)

abbrev pub tested_pair : (test : InstrData → Bool) → ℕ × InstrData → ℕ × InstrData
tested_pair test i = (i.0, tested test i.1)

abbrev pub tested_block : (test : InstrData → Bool) → BlockData → BlockData
tested_block test block = record block { instrs = map (tested_pair test) block.instrs }

-- without a test they are run as they stand
abbrev pub untested : InstrData → Bool
untested i = true

pub all_pass : (is : List (ℕ × InstrData)) → map (tested_pair untested) is ≡ is
all_pass is = map-id is

pub all_blocks_pass : (blocks : List BlockData) → map (tested_block untested) blocks ≡ blocks
all_blocks_pass [] = refl
all_blocks_pass (block ∷ blocks) = ap₂ (λ (is : List (ℕ × InstrData)) (bs : List BlockData). (record block { instrs = is }) ∷ bs) (all_pass block.instrs) (all_blocks_pass blocks)

pub untested_reached : (s : Setting) (w : World) (blocks : List BlockData) (b : ℕ) (before : List (ℕ × InstrData)) (state : State) → IsReached s w blocks b before state
    → IsReached s w (map (tested_block untested) blocks) b (map (tested_pair untested) before) state
untested_reached s w blocks b before state reached =
    subst (λ l. IsReached s w l b (map (tested_pair untested) before) state) (sym (all_blocks_pass blocks))
    (subst (λ l. IsReached s w blocks b l state) (sym (all_pass before)) reached)

-- a block as it is run is one of the function's
pub record IsTested (test : InstrData → Bool) (blocks : List BlockData) (b : ℕ) (run : BlockData) : Type 0 where
  pub block : BlockData
  pub found : slice_get blocks b ≡ Some block
  pub same : run ≡ tested_block test block

is_tested_by : (test : InstrData → Bool) (blocks : List BlockData) (b : ℕ) (run : BlockData) (found : Option BlockData) → slice_get blocks b ≡ found → option_map (tested_block test) found ≡ Some run → IsTested test blocks b run
is_tested_by test blocks b run None so h = absurd (none-some run h)
is_tested_by test blocks b run (Some block) so h = record { block = block; found = so; same = sym (same_Some (tested_block test block) run h) }

pub is_tested : (test : InstrData → Bool) (blocks : List BlockData) (b : ℕ) (run : BlockData) → slice_get (map (tested_block test) blocks) b ≡ Some run → IsTested test blocks b run
is_tested test blocks b run h = is_tested_by test blocks b run (slice_get blocks b) refl (sym (slice_get-map (tested_block test) blocks b) ∙ h)

-- ══ Steps ══

-- what comes to an instruction that fails is over
nowhere_over : (s : Setting) (w : World) (i : InstrData) (state : State) (p : Progress) → Steps s w (nowhere i) state p → p ≡ Over Undefined
nowhere_over s w i state p step = cc

-- what goes on, or leaves the block, has passed
pub on_passed : (s : Setting) (w : World) (test : InstrData → Bool) (i : InstrData) (state state' : State) → Steps s w (tested test i) state (On state') → (test i ≡ true) × Steps s w i state (On state')
on_passed s w test i state state' step = by (test i) refl step
  where
    by : (t : Bool) → test i ≡ t → Steps s w (cond t i (nowhere i)) state (On state') → (test i ≡ true) × Steps s w i state (On state')
    by true so step = (so, step)
    by false so step = let over : On state' ≡ Over Undefined = nowhere_over s w i state (On state') step in cc

pub left_passed : (s : Setting) (w : World) (test : InstrData → Bool) (i : InstrData) (c : ℕ) (state state' : State) → Steps s w (tested test i) state (Left c state') → Steps s w i state (Left c state')
left_passed s w test i c state state' step = by (test i) step
  where
    by : (t : Bool) → Steps s w (cond t i (nowhere i)) state (Left c state') → Steps s w i state (Left c state')
    by true step = step
    by false step = let over : Left c state' ≡ Over Undefined = nowhere_over s w i state (Left c state') step in cc

-- ══ The phis of a block ══

-- instructions of which the first has failed
pub record Fails (is : List (ℕ × InstrData)) : Type 0 where
  pub id : ℕ
  pub instr : InstrData
  pub rest : List (ℕ × InstrData)
  pub is_first : is ≡ (id, nowhere instr) ∷ rest

-- the phis that are run are the first ones of the block, and behind them its other instructions are run, where none has failed
pub record TestedPhis (test : InstrData → Bool) (is : List (ℕ × InstrData)) : Type 0 where
  pub front : List (ℕ × InstrData)
  pub back : List (ℕ × InstrData)
  pub splits : phis_of is ≡ front ++ back
  pub phis : phis_of (map (tested_pair test) is) ≡ front
  pub others : (after_phis (map (tested_pair test) is) ≡ map (tested_pair test) (after_phis is)) ⊎ Fails (after_phis (map (tested_pair test) is))

phis_by : (test : InstrData → Bool) (i : ℕ × InstrData) (is : List (ℕ × InstrData)) (p t : Bool) → is_phi i.1 ≡ p → test i.1 ≡ t → TestedPhis test is → TestedPhis test (i ∷ is)
phis_by test i is true true phi passes rest =
    let run : List (ℕ × InstrData) = map (tested_pair test) is in
    let same : tested test i.1 ≡ i.1 = ap (λ t. cond t i.1 (nowhere i.1)) passes in
    let too : is_phi (tested test i.1) ≡ true = ap is_phi same ∙ phi in
    let behind : after_phis (map (tested_pair test) (i ∷ is)) ≡ after_phis run = ap (λ t. cond t (after_phis run) (tested_pair test i ∷ run)) too in
    record {
      front = i ∷ rest.front;
      back = rest.back;
      splits = ap (λ t. cond t (i ∷ phis_of is) []) phi ∙ ap (λ l. i ∷ l) rest.splits;
      phis = ap (λ t. cond t (tested_pair test i ∷ phis_of run) []) too ∙ ap₂ (λ (k : InstrData) (l : List (ℕ × InstrData)). (i.0, k) ∷ l) same rest.phis;
      others = ⊎_elim
          (λ h. inl (behind ∙ h ∙ ap (λ t. map (tested_pair test) (cond t (after_phis is) (i ∷ is))) (sym phi)))
          (λ h. inr (subst Fails (sym behind) h)) rest.others;
    }
phis_by test i is true false phi fails rest =
    let run : List (ℕ × InstrData) = map (tested_pair test) is in
    record {
      front = [];
      back = i ∷ phis_of is;
      splits = ap (λ t. cond t (i ∷ phis_of is) []) phi;
      phis = ap (λ t. cond (is_phi (cond t i.1 (nowhere i.1))) ((i.0, cond t i.1 (nowhere i.1)) ∷ phis_of run) []) fails;
      others = inr (record {
        id = i.0;
        instr = i.1;
        rest = run;
        is_first = ap (λ t. cond (is_phi (cond t i.1 (nowhere i.1))) (after_phis run) ((i.0, cond t i.1 (nowhere i.1)) ∷ run)) fails;
      });
    }
phis_by test i is false t plain tells rest =
    let run : List (ℕ × InstrData) = map (tested_pair test) is in
    let too : is_phi (tested test i.1) ≡ false = ap (λ t. is_phi (cond t i.1 (nowhere i.1))) tells ∙ by t in
    record {
      front = [];
      back = [];
      splits = ap (λ t. cond t (i ∷ phis_of is) []) plain;
      phis = ap (λ t. cond t (tested_pair test i ∷ phis_of run) []) too;
      others = inl
          (ap (λ t. cond t (after_phis run) (tested_pair test i ∷ run)) too
          ∙ ap (λ t. map (tested_pair test) (cond t (after_phis is) (i ∷ is))) (sym plain));
    }
  where
    by : (t : Bool) → is_phi (cond t i.1 (nowhere i.1)) ≡ false
    by true = plain
    by false = refl

pub tested_phis : (test : InstrData → Bool) (is : List (ℕ × InstrData)) → TestedPhis test is
tested_phis test [] = record { front = []; back = []; splits = refl; phis = refl; others = inl refl }
tested_phis test (i ∷ is) = phis_by test i is (is_phi i.1) (test i.1) refl refl (tested_phis test is)

-- behind phis of which one has failed a run goes to no block
pub failed_goes : (s : Setting) (w : World) (is : List (ℕ × InstrData)) → Fails is → (state : State) (p : Progress) → Executes s w is state p → (a : ℕ) (successors : List ℕ) (b : ℕ) (state' : State) → GoesTo a successors p b state' → ⊥
failed_goes s w is fails state p run a successors b state' goes =
    let first : Executes s w ((fails.id, nowhere fails.instr) ∷ fails.rest) state p = subst (λ l. Executes s w l state p) fails.is_first run in
    let end : p ≡ Over Undefined = subst (λ next. After next (Executes s w fails.rest) p) (nowhere_over s w fails.instr state first.0 first.1) first.2 in
    subst (λ k. GoesTo a successors k b state') end goes
