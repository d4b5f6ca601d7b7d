-- What is kept along all runs where a register is available.
use Rattle.std.proofs.Common.{◌≡◌, ℕ, zero, suc, ◌+◌, Bool, true, false, not, cond, ◌&&◌, List, [], ◌∷◌, ◌++◌, map, Option, Some, option_map, slice_get, ⊎_elim, refl, sym, ap, ap₂, ◌∙◌, subst, append_assoc, append-nil, true≢false}
use Rattle.std.proofs.lemmas.Bool.{or_parts, or_cases, or_from, and_parts}
use Rattle.std.proofs.lemmas.Option.{get_or_from_slice_get, slice_get-map}
use Rattle.std.specs.List.{list_any}
use Rattle.gi_mir.specs.Data.{InstrData, BlockData, FunctionData}
use Rattle.gi_mir.specs.Edit.{defines, empty_block}
use Rattle.gi_mir.specs.Places.{body_at}
use Rattle.gi_meaning.specs.State.{World, State, start}
use Rattle.gi_meaning.specs.Runs.{Setting, Progress, On, Left, Over, Steps, After, Executes, is_phi, phis_of, after_phis, joined, is_among}
use Rattle.gi_refine.specs.Reached.{GoesTo, Passes, Arrives, IsReached}
use Rattle.gi_valid.specs.Available.{successors_of, IsReachedBlock, Extent, defines_origin, at_once, one_by_one, behind, at_end, IsExtent}
use Rattle.gi_valid.proofs.Tested.{tested, tested_pair, tested_block, IsTested, is_tested, on_passed, left_passed, TestedPhis, tested_phis, failed_goes}

-- ══ What is kept ══

-- J holds at each point of a run; and P holds where the register is available: the first phis of a block, an instruction that
-- passes a test and a branch that is taken keep both
pub record Keeps (s : Setting) (w : World) (test : InstrData → Bool) (f : FunctionData) (r : ℕ) (extent : Extent) (J P : State → Type 0) : Type 0 where
  pub starts : J (start w)
  pub phis : (b : ℕ) (block : BlockData) → slice_get f.blocks b ≡ Some block → (front back : List (ℕ × InstrData)) → phis_of block.instrs ≡ front ++ back
      → (from : Option ℕ) (entered middle : State) → J entered → joined entered from front ≡ Some middle
      → J middle × ((here : Bool) → (here ≡ true → P entered) → at_once r extent.origins here (phis_of block.instrs) ≡ true → P middle)
  pub step : (b : ℕ) (block : BlockData) → slice_get f.blocks b ≡ Some block → (before : List (ℕ × InstrData)) (i : ℕ × InstrData) (after : List (ℕ × InstrData)) → after_phis block.instrs ≡ before ++ i ∷ after
      → test i.1 ≡ true → (state state' : State) → J state → Steps s w i.1 state (On state')
      → J state' × ((here : Bool) → (here ≡ true → P state) → at_once r extent.origins here (i ∷ []) ≡ true → P state')
  pub leaves : (b : ℕ) (block : BlockData) → slice_get f.blocks b ≡ Some block → (before : List (ℕ × InstrData)) (i : ℕ × InstrData) (after : List (ℕ × InstrData)) → after_phis block.instrs ≡ before ++ i ∷ after
      → (c : ℕ) (state state' : State) → Steps s w i.1 state (Left c state')
      → (state' ≡ state) × (is_among c block.successors ≡ true) × (list_any (defines r) (i ∷ after) ≡ false)

-- ══ Available in a block ══

-- where nothing defines the register, it is available behind only where it was before
still_before : (r : ℕ) (origins : ℕ → Bool) (here : Bool) (is : List (ℕ × InstrData)) → list_any (defines r) is ≡ false → one_by_one r origins here is ≡ true → here ≡ true
still_before r origins here [] none h = h
still_before r origins here (i ∷ is) none h =
    let first : at_once r origins here (i ∷ []) ≡ true = still_before r origins (at_once r origins here (i ∷ [])) is (or_parts (defines r i) (list_any (defines r) is) none).1 h in
    ⊎_elim
    (λ defined. absurd (true≢false (sym defined ∙ or_from (defines r i) false (or_parts (defines r i) (list_any (defines r) is) none).0 refl)))
    (λ kept. (and_parts here (not (list_any (defines_origin origins) (i ∷ []))) kept).0)
    (or_cases (list_any (defines r) (i ∷ [])) (here && not (list_any (defines_origin origins) (i ∷ []))) first)

-- the phis at the front of a block's front are those of the block
pub record HasPhis (is before : List (ℕ × InstrData)) : Type 0 where
  pub phis : phis_of (phis_of is ++ before) ≡ phis_of is
  pub others : after_phis (phis_of is ++ before) ≡ before

no_phis : (before : List (ℕ × InstrData)) (i : ℕ × InstrData) (is back : List (ℕ × InstrData)) → is_phi i.1 ≡ false → i ∷ is ≡ before ++ back
    → (phis_of before ≡ []) × (after_phis before ≡ before)
no_phis [] i is back plain h = (refl, refl)
no_phis (j ∷ before) i is back plain h =
    let one : i ≡ j = cc in
    let same : is_phi j.1 ≡ false = ap (λ (k : ℕ × InstrData). is_phi k.1) (sym one) ∙ plain in
    (ap (λ t. cond t (j ∷ phis_of before) []) same, ap (λ t. cond t (after_phis before) (j ∷ before)) same)

first_of_front : (i : ℕ × InstrData) (is before back : List (ℕ × InstrData)) → (after_phis is ≡ before ++ back → HasPhis is before) → after_phis (i ∷ is) ≡ before ++ back → (t : Bool) → is_phi i.1 ≡ t
    → HasPhis (i ∷ is) before
first_of_front i is before back later h true same =
    let rest : HasPhis is before = later (sym (ap (λ t. cond t (after_phis is) (i ∷ is)) same) ∙ h) in record {
      phis =
          ap (λ l. phis_of (l ++ before)) (ap (λ t. cond t (i ∷ phis_of is) []) same)
          ∙ ap (λ t. cond t (i ∷ phis_of (phis_of is ++ before)) []) same
          ∙ ap (λ l. i ∷ l) rest.phis
          ∙ sym (ap (λ t. cond t (i ∷ phis_of is) []) same);
      others =
          ap (λ l. after_phis (l ++ before)) (ap (λ t. cond t (i ∷ phis_of is) []) same)
          ∙ ap (λ t. cond t (after_phis (phis_of is ++ before)) (i ∷ (phis_of is ++ before))) same
          ∙ rest.others;
    }
first_of_front i is before back later h false same =
    let rest : (phis_of before ≡ []) × (after_phis before ≡ before) =
    no_phis before i is back same (sym (ap (λ t. cond t (after_phis is) (i ∷ is)) same) ∙ h) in record {
      phis =
          ap (λ l. phis_of (l ++ before)) (ap (λ t. cond t (i ∷ phis_of is) []) same)
          ∙ rest.0
          ∙ sym (ap (λ t. cond t (i ∷ phis_of is) []) same);
      others = ap (λ l. after_phis (l ++ before)) (ap (λ t. cond t (i ∷ phis_of is) []) same) ∙ rest.1;
    }

pub phis_of_front : (is before back : List (ℕ × InstrData)) → after_phis is ≡ before ++ back → HasPhis is before
phis_of_front [] [] back h = record { phis = refl; others = refl }
phis_of_front [] (j ∷ before) back h = cc
phis_of_front (i ∷ is) before back h = first_of_front i is before back (λ later. phis_of_front is before back later) h (is_phi i.1) refl

-- how far a run of instructions comes
abbrev Comes : (J P : State → Type 0) → (on left : Bool) → (successors : List ℕ) → Progress → Type 0
Comes J P on left successors (On state) = J state × (on ≡ true → P state)
Comes J P on left successors (Left c state) = J state × (left ≡ true → P state) × (is_among c successors ≡ true)
Comes J P on left successors (Over outcome) = Unit {0}

walked_after : (s : Setting) (w : World) (J P : State → Type 0) (on left : Bool) (successors : List ℕ) (is : List (ℕ × InstrData)) (next p : Progress)
    → ((state : State) → next ≡ On state → Executes s w is state p → Comes J P on left successors p)
    → ((c : ℕ) (state : State) → next ≡ Left c state → Comes J P on left successors (Left c state))
    → After next (Executes s w is) p → Comes J P on left successors p
walked_after s w J P on left successors is (On state) p goes leaves run = goes state refl run
walked_after s w J P on left successors is (Left c state) p goes leaves run = subst (Comes J P on left successors) (sym run) (leaves c state refl)
walked_after s w J P on left successors is (Over outcome) p goes leaves run = subst (Comes J P on left successors) (sym run) tt

-- through instructions of a block behind some
walked : (s : Setting) (w : World) (test : InstrData → Bool) (f : FunctionData) (r : ℕ) (extent : Extent) (J P : State → Type 0) → Keeps s w test f r extent J P → (b : ℕ) (block : BlockData) → slice_get f.blocks b ≡ Some block
    → (done is back : List (ℕ × InstrData)) → after_phis block.instrs ≡ done ++ (is ++ back) → (here : Bool) (state : State) → J state → (here ≡ true → P state) → (p : Progress) → Executes s w (map (tested_pair test) is) state p
    → Comes J P (one_by_one r extent.origins here is) (one_by_one r extent.origins here (is ++ back)) block.successors p
walked s w test f r extent J P keeps b block found done [] back splits here state j holds p run =
    subst (Comes J P here (one_by_one r extent.origins here back) block.successors) (sym run) (j, holds)
walked s w test f r extent J P keeps b block found done (i ∷ is) back splits here state j holds p run =
    let there : after_phis block.instrs ≡ (done ++ i ∷ []) ++ (is ++ back) = splits ∙ sym (append_assoc done (i ∷ []) (is ++ back)) in
    walked_after s w J P (one_by_one r extent.origins here (i ∷ is)) (one_by_one r extent.origins here ((i ∷ is) ++ back)) block.successors (map (tested_pair test) is) run.0 p
    (λ state' so rest.
    let passed : (test i.1 ≡ true) × Steps s w i.1 state (On state') = on_passed s w test i.1 state state' (subst (Steps s w (tested test i.1) state) so run.1) in
    let kept : J state' × ((now : Bool) → (now ≡ true → P state) → at_once r extent.origins now (i ∷ []) ≡ true → P state') =
    keeps.step b block found done i (is ++ back) splits passed.0 state state' j passed.1 in
    walked s w test f r extent J P keeps b block found (done ++ i ∷ []) is back there (at_once r extent.origins here (i ∷ [])) state' kept.0 (kept.1 here holds) p rest)
    (λ c state' so.
    let left : (state' ≡ state) × (is_among c block.successors ≡ true) × (list_any (defines r) (i ∷ (is ++ back)) ≡ false) =
    keeps.leaves b block found done i (is ++ back) splits c state state' (left_passed s w test i.1 c state state' (subst (Steps s w (tested test i.1) state) so run.1)) in
    (subst J (sym left.0) j, λ end. subst P (sym left.0) (holds (still_before r extent.origins here (i ∷ (is ++ back)) left.2 end)), left.1))
    run.2

-- ══ In a function ══

pub body_is : (f : FunctionData) (b : ℕ) (block : BlockData) → slice_get f.blocks b ≡ Some block → body_at f.blocks b ≡ block
body_is f b block found = get_or_from_slice_get f.blocks b block empty_block found

-- at the entry of a block
abbrev Enters : (f : FunctionData) → Extent → (J P : State → Type 0) → ℕ → State → Type 0
Enters f extent J P b state = IsReachedBlock f b × J state × (extent.starts b ≡ true → P state)

reaches_next : (f : FunctionData) (a : ℕ) (block : BlockData) → slice_get f.blocks a ≡ Some block → (b : ℕ) → is_among b block.successors ≡ true → is_among b (successors_of f a) ≡ true
reaches_next f a block found b among = ap (λ (k : BlockData). is_among b k.successors) (body_is f a block found) ∙ among

enters_next : (f : FunctionData) (r : ℕ) (extent : Extent) → IsExtent f r extent → (J P : State → Type 0) → (a : ℕ) (block : BlockData) → slice_get f.blocks a ≡ Some block → IsReachedBlock f a
    → (state : State) → J state → (at_end f r extent a ≡ true → P state) → (b : ℕ) → is_among b block.successors ≡ true → Enters f extent J P b state
enters_next f r extent contained J P a block found reached state j holds b among =
    let next : is_among b (successors_of f a) ≡ true = reaches_next f a block found b among in
    (record { steps = suc reached.steps; path = (a, reached.path, next) }, j, λ starts. holds (contained.joined a b reached next starts))

passed : (f : FunctionData) (r : ℕ) (extent : Extent) → IsExtent f r extent → (J P : State → Type 0) → (a : ℕ) (block : BlockData) → slice_get f.blocks a ≡ Some block → IsReachedBlock f a
    → (p : Progress) → Comes J P (at_end f r extent a) (at_end f r extent a) block.successors p → (b : ℕ) (state : State) → GoesTo a block.successors p b state → Enters f extent J P b state
passed f r extent contained J P a block found reached (On state') comes b state goes =
    subst (λ k. Enters f extent J P k state) (sym goes.1)
    (subst (λ (k : State). Enters f extent J P (a + 1) k) (sym goes.2) (enters_next f r extent contained J P a block found reached state' comes.0 comes.1 (a + 1) goes.0))
passed f r extent contained J P a block found reached (Left c state') comes b state goes =
    subst (λ k. Enters f extent J P k state) (sym goes.0)
    (subst (λ (k : State). Enters f extent J P c k) (sym goes.1) (enters_next f r extent contained J P a block found reached state' comes.0 comes.1 c comes.2))
passed f r extent contained J P a block found reached (Over outcome) comes b state goes = absurd goes

-- the phis of a block that is entered
joined_here : (s : Setting) (w : World) (test : InstrData → Bool) (f : FunctionData) (r : ℕ) (extent : Extent) (J P : State → Type 0) → Keeps s w test f r extent J P → (b : ℕ) (block : BlockData) → slice_get f.blocks b ≡ Some block
    → (from : Option ℕ) (entered middle : State) → Enters f extent J P b entered → joined entered from (phis_of (tested_block test block).instrs) ≡ Some middle
    → J middle × (at_once r extent.origins (extent.starts b) (phis_of block.instrs) ≡ true → P middle)
joined_here s w test f r extent J P keeps b block found from entered middle enters joins =
    let first : TestedPhis test block.instrs = tested_phis test block.instrs in
    let kept : J middle × ((here : Bool) → (here ≡ true → P entered) → at_once r extent.origins here (phis_of block.instrs) ≡ true → P middle) =
    keeps.phis b block found first.front first.back first.splits from entered middle enters.1 (ap (joined entered from) (sym first.phis) ∙ joins) in
    (kept.0, kept.1 (extent.starts b) enters.2)

one_block : (a b : BlockData) (o : Option BlockData) → o ≡ Some a → o ≡ Some b → a ≡ b
one_block a b o h g = cc

-- from the phis of a block to the next block
passes_behind : (s : Setting) (w : World) (test : InstrData → Bool) (f : FunctionData) (r : ℕ) (extent : Extent) → IsExtent f r extent → (J P : State → Type 0) → Keeps s w test f r extent J P → (a : ℕ) (block : BlockData)
    → slice_get f.blocks a ≡ Some block → IsReachedBlock f a → (middle : State) → J middle × (at_once r extent.origins (extent.starts a) (phis_of block.instrs) ≡ true → P middle)
    → (p : Progress) → Executes s w (map (tested_pair test) (after_phis block.instrs)) middle p → (b : ℕ) (state : State) → GoesTo a block.successors p b state → Enters f extent J P b state
passes_behind s w test f r extent contained J P keeps a block found reached middle holds p run b state goes =
    let now : Bool = at_once r extent.origins (extent.starts a) (phis_of block.instrs) in
    let body : List (ℕ × InstrData) = after_phis block.instrs in
    let comes : Comes J P (one_by_one r extent.origins now body) (one_by_one r extent.origins now (body ++ [])) block.successors p =
    walked s w test f r extent J P keeps a block found [] body [] (sym (append-nil body)) now middle holds.0 holds.1 p run in
    let end : at_end f r extent a ≡ one_by_one r extent.origins now body = ap (λ (k : BlockData). behind r extent.origins (extent.starts a) k.instrs) (body_is f a block found) in
    passed f r extent contained J P a block found reached p
    (subst (λ t. Comes J P t t block.successors p) (sym end)
    (subst (λ l. Comes J P (one_by_one r extent.origins now body) (one_by_one r extent.origins now l) block.successors p) (append-nil body) comes)) b state goes

passes : (s : Setting) (w : World) (test : InstrData → Bool) (f : FunctionData) (r : ℕ) (extent : Extent) → IsExtent f r extent → (J P : State → Type 0) → Keeps s w test f r extent J P → (from : Option ℕ) (a : ℕ) (entered : State)
    → Enters f extent J P a entered → (b : ℕ) (state : State) → Passes s w (map (tested_block test) f.blocks) from a entered b state → Enters f extent J P b state
passes s w test f r extent contained J P keeps from a entered enters b state pass =
    let own : IsTested test f.blocks a pass.block = is_tested test f.blocks a pass.block pass.joins.here in
    let joins : joined entered from (phis_of (tested_block test own.block).instrs) ≡ Some pass.middle = subst (λ (k : BlockData). joined entered from (phis_of k.instrs) ≡ Some pass.middle) own.same pass.joins.phis in
    let body : Executes s w (after_phis (tested_block test own.block).instrs) pass.middle pass.progress = subst (λ (k : BlockData). Executes s w (after_phis k.instrs) pass.middle pass.progress) own.same pass.body in
    let goes : GoesTo a (own.block).successors pass.progress b state = subst (λ (k : BlockData). GoesTo a k.successors pass.progress b state) own.same pass.goes in
    ⊎_elim
    (λ others.
    passes_behind s w test f r extent contained J P keeps a own.block own.found enters.0 pass.middle
    (joined_here s w test f r extent J P keeps a own.block own.found from entered pass.middle enters joins)
    pass.progress (subst (λ l. Executes s w l pass.middle pass.progress) others body) b state goes)
    (λ fails. absurd (failed_goes s w (after_phis (tested_block test own.block).instrs) fails pass.middle pass.progress body a (own.block).successors b state goes))
    (tested_phis test (own.block).instrs).others

arrived : (s : Setting) (w : World) (test : InstrData → Bool) (f : FunctionData) (r : ℕ) (extent : Extent) → IsExtent f r extent → (J P : State → Type 0) → Keeps s w test f r extent J P → (n : ℕ) (from : Option ℕ) (b : ℕ) (state : State)
    → Arrives s w (map (tested_block test) f.blocks) n from b state → Enters f extent J P b state
arrived s w test f r extent contained J P keeps zero from b state arrives =
    subst (λ k. Enters f extent J P k state) (sym arrives.1)
    (record { steps = 0; path = refl }, subst J (sym arrives.2) keeps.starts, λ starts. absurd (true≢false (sym starts ∙ contained.first)))
arrived s w test f r extent contained J P keeps (suc n) from b state arrives =
    passes s w test f r extent contained J P keeps arrives.0 arrives.1 arrives.2 (arrived s w test f r extent contained J P keeps n arrives.0 arrives.1 arrives.2 arrives.3) b state arrives.4

-- where a run has come so far, and the register is available
pub kept_where_reached : (s : Setting) (w : World) (test : InstrData → Bool) (f : FunctionData) (r : ℕ) (extent : Extent) → IsExtent f r extent → (J P : State → Type 0) → Keeps s w test f r extent J P
    → (b : ℕ) (block : BlockData) → slice_get f.blocks b ≡ Some block → (before back : List (ℕ × InstrData)) → after_phis block.instrs ≡ before ++ back
    → (state : State) → IsReached s w (map (tested_block test) f.blocks) b (map (tested_pair test) before) state
    → behind r extent.origins (extent.starts b) (phis_of block.instrs ++ before) ≡ true → P state
kept_where_reached s w test f r extent contained J P keeps b block found before back splits state reached available =
    let here : slice_get (map (tested_block test) f.blocks) b ≡ Some (tested_block test block) = slice_get-map (tested_block test) f.blocks b ∙ ap (option_map (tested_block test)) found in
    let same : tested_block test block ≡ reached.block = one_block (tested_block test block) reached.block (slice_get (map (tested_block test) f.blocks) b) here reached.enters.joins.here in
    let front : HasPhis block.instrs before = phis_of_front block.instrs before back splits in
    let now : Bool = at_once r extent.origins (extent.starts b) (phis_of block.instrs) in
    let middle : J reached.middle × (now ≡ true → P reached.middle) =
    joined_here s w test f r extent J P keeps b block found reached.enters.from reached.enters.entered reached.middle
    (arrived s w test f r extent contained J P keeps reached.enters.entries reached.enters.from b reached.enters.entered reached.enters.arrives)
    (ap (λ (k : BlockData). joined reached.enters.entered reached.enters.from (phis_of k.instrs)) same ∙ reached.enters.joins.phis) in
    let comes : Comes J P (one_by_one r extent.origins now before) (one_by_one r extent.origins now (before ++ back)) block.successors (On state) =
    walked s w test f r extent J P keeps b block found [] before back splits now reached.middle middle.0 middle.1 (On state) reached.ran in
    comes.1
    (sym (ap₂ (λ l k. one_by_one r extent.origins (at_once r extent.origins (extent.starts b) l) k) front.phis front.others) ∙ available)
