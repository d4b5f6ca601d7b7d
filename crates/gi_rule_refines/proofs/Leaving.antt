-- Where runs leave a block, and which registers are available there.
use Rattle.std.proofs.Common.{◌≡◌, ℕ, zero, suc, ◌<◌, Bool, true, false, cond, not, ◌||◌, ◌==◌, nat_lt, List, [], ◌∷◌, ◌++◌, Option, Some, None, length, map, slice_get, ⊎_elim, refl, sym, ap, ap₂, ◌∙◌, subst, arith, append-nil, append_assoc, true≢false, eqb-true}
use Rattle.std.proofs.lemmas.Bool.{and_from, and_parts, false_from_ne_true}
use Rattle.std.specs.List.{list_all, list_any}
use Rattle.gi_mir.specs.Data.{InstrData, BlockData, FunctionData, reg_of}
use Rattle.gi_mir.specs.Edit.{defines}
use Rattle.gi_mir.specs.Row.{is_terminator_op}
use Rattle.gi_mir.specs.declared.operand.Operand.{Operand}
use Rattle.gi_mir.specs.declared.operand.Operand.TheVariants as operand
use Rattle.gi_meaning.specs.Act.{Leaves}
use Rattle.gi_meaning.specs.Meaning.{meaning_of}
use Rattle.gi_meaning.specs.Runs.{After, Executes, Left, On, Over, Progress, Setting, Steps, after_phis, chosen, entry_for, entry_of, is_phi, phis_of, setting_of, width_of_place, written_places}
use Rattle.gi_meaning.specs.State.{IsWorld, State, World, outside_of}
use Rattle.gi_refine.specs.Reached.{Arrives, GoesTo, IsReached, Passes}
use Rattle.gi_valid.specs.Available.{Extent, at_end, at_once, behind, one_by_one}
use Rattle.gi_valid.specs.Faults.{missing_entries, missing_entry}
use Rattle.gi_valid.specs.declared.invalid.Invalid.TheVariants.{NotAvailable}
use Rattle.gi_valid.proofs.Answering.{act_fine, branch_ends, is_leaving, leaving_is}
use Rattle.gi_valid.proofs.Defining.{IsOrderly}
use Rattle.gi_valid.proofs.Sited.{ends_behind, neither, splits_whole}
use Rattle.gi_valid.proofs.Stepping.{Went, went}
use Rattle.gi_valid.proofs.Walking.{HasPhis, body_is, phis_of_front}
use Rattle.gi_change_valid.proofs.Circles.{IsKnown, is_here, phis_before}
use Rattle.gi_change_valid.proofs.Sites.{IsSite}
use Rattle.gi_change_valid.proofs.Stepwise.{are_phis, defined_or_there, one_by_one_append}
use Rattle.gi_change_valid.proofs.Valid.{great_of}

-- ══ Where a run leaves a block ══

record LeftAt (s : Setting) (w : World) (is : List (ℕ × InstrData)) (state : State) (c : ℕ) (final : State) : Type 0 where
  front : List (ℕ × InstrData)
  instr : ℕ × InstrData
  back : List (ℕ × InstrData)
  splits : is ≡ front ++ instr ∷ back
  middle : State
  ran : Executes s w front state (On middle)
  step : Steps s w instr.1 middle (Left c final)

left_at : (s : Setting) (w : World) (is : List (ℕ × InstrData)) (state : State) (c : ℕ) (final : State) → Executes s w is state (Left c final) → LeftAt s w is state c final
left_at s w [] state c final run = cc
left_at s w (i ∷ is) state c final run = by run.0 run.1 run.2 (λ next rest. left_at s w is next c final rest)
  where
    by : (next : Progress) → Steps s w i.1 state next → After next (Executes s w is) (Left c final) → ((now : State) → Executes s w is now (Left c final) → LeftAt s w is now c final) → LeftAt s w (i ∷ is) state c final
    by (On now) step rest later =
        let l : LeftAt s w is now c final = later now rest in
        record { front = i ∷ l.front; instr = l.instr; back = l.back; splits = ap (λ k. i ∷ k) l.splits; middle = l.middle; ran = (On now, step, l.ran); step = l.step }
    by (Left d now) step rest later = record { front = []; instr = i; back = is; splits = refl; middle = state; ran = refl; step = subst (Steps s w i.1 state) (sym rest) step }
    by (Over outcome) step rest later = cc

-- a run came so far in a block before it went on to another one: to the block's end, or to a branch, behind which stand terminators alone
pub record EndsAt (x : ℕ) (names : List (List ℕ)) (f : FunctionData) (w : World) (a : ℕ) (state : State) : Type 0 where
  pub body : BlockData
  pub before : List (ℕ × InstrData)
  pub back : List (ℕ × InstrData)
  pub there : slice_get f.blocks a ≡ Some body
  pub splits : after_phis body.instrs ≡ before ++ back
  pub reached : IsReached (setting_of x names f) w f.blocks a before state
  pub ends : list_all (λ p. is_terminator_op p.1.op) back ≡ true

pub ends_at : (x : ℕ) (names : List (List ℕ)) (f : FunctionData) (w : World) → IsWorld x w → IsOrderly f → (n : ℕ) (from : Option ℕ) (a : ℕ) (entered : State) → Arrives (setting_of x names f) w f.blocks n from a entered
    → (b : ℕ) (state : State) → Passes (setting_of x names f) w f.blocks from a entered b state → EndsAt x names f w a state
ends_at x names f w is_world orderly n from a entered arrives b state pass = by pass.progress pass.body pass.goes
  where
    by : (p : Progress) → Executes (setting_of x names f) w (after_phis (pass.block).instrs) pass.middle p → GoesTo a (pass.block).successors p b state → EndsAt x names f w a state
    by (On now) run goes = record {
      body = pass.block;
      before = after_phis (pass.block).instrs;
      back = [];
      there = pass.joins.here;
      splits = sym (append-nil (after_phis (pass.block).instrs));
      reached = record {
        block = pass.block;
        middle = pass.middle;
        enters = record { entries = n; from = from; entered = entered; arrives = arrives; joins = pass.joins };
        ran = subst (λ (k : State). Executes (setting_of x names f) w (after_phis (pass.block).instrs) pass.middle (On k)) (sym goes.2) run;
      };
      ends = refl;
    }
    by (Left c now) run goes =
        let l : LeftAt (setting_of x names f) w (after_phis (pass.block).instrs) pass.middle c now = left_at (setting_of x names f) w (after_phis (pass.block).instrs) pass.middle c now run in
        let gone : Went (setting_of x names f) w l.instr.1 l.middle c now = went (setting_of x names f) w l.instr.1 l.middle c now l.step in
        let leaving : is_leaving (meaning_of l.instr.1.flags l.instr.1.op) ≡ true =
        act_fine x w is_world (meaning_of l.instr.1.flags l.instr.1.op) l.instr.1.mem (map (width_of_place (setting_of x names f)) (written_places (meaning_of l.instr.1.flags l.instr.1.op) l.instr.1.operands)) gone.arguments (outside_of l.middle) (Leaves c) gone.act in
        record {
          body = pass.block;
          before = l.front;
          back = l.instr ∷ l.back;
          there = pass.joins.here;
          splits = l.splits;
          reached = record {
            block = pass.block;
            middle = pass.middle;
            enters = record { entries = n; from = from; entered = entered; arrives = arrives; joins = pass.joins };
            ran = subst (λ (k : State). Executes (setting_of x names f) w l.front pass.middle (On k)) (sym (goes.1 ∙ gone.same)) l.ran;
          };
          ends = ends_behind f orderly.ends a pass.block pass.joins.here (phis_of (pass.block).instrs ++ l.front) l.instr l.back (splits_whole (pass.block).instrs l.front l.instr l.back l.splits)
              (branch_ends l.instr.1.op (sym (leaving_is l.instr.1.flags l.instr.1.op) ∙ leaving));
        }
    by (Over outcome) run goes = absurd goes

-- ══ Available there ══

-- a register that is available at the end of a block, and that nothing defines behind a place in it, is available at that place
pub still_here : (f : FunctionData) (great : ℕ → Extent) (a : ℕ) (body : BlockData) (before back : List (ℕ × InstrData)) → slice_get f.blocks a ≡ Some body → after_phis body.instrs ≡ before ++ back
    → (r : ℕ) → list_any (defines r) back ≡ false → at_end f r (great r) a ≡ true → is_here great a (phis_of body.instrs ++ before) r ≡ true
still_here f great a body before back found splits r none ends =
    ap₂ (λ l k. one_by_one r (great r).origins (at_once r (great r).origins ((great r).starts a) l) k) front.phis front.others
    ∙ ⊎_elim (λ defined. absurd (true≢false (sym defined ∙ none))) (λ here. here)
    (defined_or_there r (great r).origins (one_by_one r (great r).origins now before) back (sym (one_by_one_append r (great r).origins now before back) ∙ sym (ap (one_by_one r (great r).origins now) splits) ∙ whole))
  where
    front : HasPhis body.instrs before
    front = phis_of_front body.instrs before back splits

    now : Bool
    now = at_once r (great r).origins ((great r).starts a) (phis_of body.instrs)

    whole : one_by_one r (great r).origins (at_once r (great r).origins ((great r).starts a) (phis_of body.instrs)) (after_phis body.instrs) ≡ true
    whole = sym (ap (λ (k : BlockData). behind r (great r).origins ((great r).starts a) k.instrs) (body_is f a body found)) ∙ ends

-- ══ Behind the phis of a block ══

none_behind : (is : List (ℕ × InstrData)) → are_phis is ≡ true → after_phis is ≡ []
none_behind [] all = refl
none_behind (i ∷ is) all =
    let each : (is_phi i.1 ≡ true) × (are_phis is ≡ true) = and_parts (is_phi i.1) (are_phis is) all in
    ap (λ t. cond t (after_phis is) (i ∷ is)) each.0 ∙ none_behind is each.1

phis_and_one : (is : List (ℕ × InstrData)) (i : ℕ × InstrData) → are_phis is ≡ true → is_phi i.1 ≡ true → are_phis (is ++ i ∷ []) ≡ true
phis_and_one [] i all phi = and_from (is_phi i.1) true phi refl
phis_and_one (k ∷ is) i all phi =
    let each : (is_phi k.1 ≡ true) × (are_phis is ≡ true) = and_parts (is_phi k.1) (are_phis is) all in
    and_from (is_phi k.1) (are_phis (is ++ i ∷ [])) each.0 (phis_and_one is i each.1 phi)

-- stands no phi
pub no_phi_there : (f : FunctionData) (great : ℕ → Extent) → IsKnown f great → (b : ℕ) (body : BlockData) → slice_get f.blocks b ≡ Some body → (before : List (ℕ × InstrData)) (i : ℕ × InstrData) (back : List (ℕ × InstrData))
    → after_phis body.instrs ≡ before ++ i ∷ back → IsSite f b (phis_of body.instrs ++ before) i back → is_phi i.1 ≡ false
no_phi_there f great k b body found before i back splits site =
    false_from_ne_true (is_phi i.1) (λ phi.
    let front : are_phis (phis_of body.instrs ++ before) ≡ true = phis_before f k.entries b (phis_of body.instrs ++ before) i back site phi in
    let all : are_phis (phis_of body.instrs ++ (before ++ i ∷ [])) ≡ true = subst (λ l. are_phis l ≡ true) (append_assoc (phis_of body.instrs) before (i ∷ [])) (phis_and_one (phis_of body.instrs ++ before) i front phi) in
    let others : after_phis (phis_of body.instrs ++ (before ++ i ∷ [])) ≡ before ++ i ∷ [] = (phis_of_front body.instrs (before ++ i ∷ []) back (splits ∙ sym (append_assoc before (i ∷ []) back))).others in
    not_empty before i (sym others ∙ none_behind (phis_of body.instrs ++ (before ++ i ∷ [])) all))
  where
    not_empty : (xs : List (ℕ × InstrData)) (x : ℕ × InstrData) → xs ++ x ∷ [] ≡ [] → ⊥
    not_empty [] x h = cc
    not_empty (y ∷ xs) x h = cc

-- ══ Entries of phis ══

-- the register of an entry is available at the end of the block that it comes from
abbrev pub EntryIsThere : FunctionData → (a : ℕ) → Option ℕ → Type 0
EntryIsThere f a None = Unit {0}
EntryIsThere f a (Some r) = at_end f r (great_of f r) a ≡ true

pub entry_there : (f : FunctionData) (a : ℕ) → nat_lt a (length f.blocks) ≡ true → (os : List Operand) → missing_entries f (great_of f) os ≡ None → EntryIsThere f a (entry_for a os)
entry_there f a within [] none = tt
entry_there f a within (o ∷ os) none =
    let each : (missing_entry f (great_of f) (entry_of (o ∷ os)) ≡ None) × (missing_entries f (great_of f) os ≡ None) = neither (missing_entry f (great_of f) (entry_of (o ∷ os))) (missing_entries f (great_of f) os) none in
    by (entry_of (o ∷ os)) (entry_for a os) each.0 (entry_there f a within os each.1)
  where
    by : (found : Option (ℕ × ℕ)) (later : Option ℕ) → missing_entry f (great_of f) found ≡ None → EntryIsThere f a later → EntryIsThere f a (chosen a found later)
    by None later missing rest = rest
    by (Some entry) later missing rest = choose (entry.1 == a) refl
      where
        ends : (s t : Bool) → cond (not s || t) None (Some (NotAvailable (operand.Use (reg_of entry.0)))) ≡ None → s ≡ true → t ≡ true
        ends true true h is = refl
        ends true false h is = cc
        ends false t h is = cc

        choose : (t : Bool) → (entry.1 == a) ≡ t → EntryIsThere f a (cond t (Some entry.0) later)
        choose true so =
            let same : entry.1 ≡ a = eqb-true entry.1 a so in
            subst (λ k. at_end f entry.0 (great_of f entry.0) k ≡ true) same
            (ends (nat_lt entry.1 (length f.blocks)) (at_end f entry.0 (great_of f entry.0) entry.1) missing (subst (λ k. nat_lt k (length f.blocks) ≡ true) (sym same) within))
        choose false so = rest

pub inside_of : (blocks : List BlockData) (b : ℕ) (body : BlockData) → slice_get blocks b ≡ Some body → b < length blocks
inside_of [] b body h = cc
inside_of (c ∷ blocks) zero body h = omega arith
inside_of (c ∷ blocks) (suc b) body h = let less : b < length blocks = inside_of blocks b body h in omega (arith, less)
