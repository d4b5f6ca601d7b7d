-- Each rewriting of the table refines: what stands in the place of a generic instruction does, in the states that
-- runs reach there, what that instruction may do.
use Rattle.std.proofs.Common.{◌≡◌, ℕ, zero, suc, ℤ, ◌+◌, ◌<◌, ◌%◌, Bool, true, false, ◌==◌, List, [], ◌∷◌, ◌++◌, Option, Some, None, option_map, slice_get, ◌⊎◌, inl, inr, refl, sym, ap, ◌∙◌, subst, arith, if◌then◌else◌}
use Rattle.std.proofs.Math.Nat.{mod-eq_of_lt}
use Rattle.gi_llt.specs.Bits.{wrapped, unsigned}
use Rattle.gi_mir.specs.Data.{InstrData, BlockData, FunctionData, reg_of, no_flags}
use Rattle.gi_answer.specs.Shapes.{word_kind}
use Rattle.gi_mir.specs.declared.opcode.Opcode.TheVariants.{Add, AddImmediate}
use Rattle.gi_mir.specs.declared.operand.Operand.TheVariants.{Def, Use, Phys, Int}
use Rattle.gi_meaning.specs.Act.{Answer, Results}
use Rattle.gi_meaning.specs.Argument.{Argument, Value, Number}
use Rattle.gi_meaning.specs.Machine.{is_immediate}
use Rattle.gi_meaning.specs.State.{World, State, outside_of, Undefined, Virtual, put}
use Rattle.gi_meaning.specs.Runs.{Setting, setting_of, joined_lists, Progress, On, Over, progress_of, StepsFrom, After, Executes, phis_of, after_phis}
use Rattle.gi_refine.specs.Agreement.{ValueStands, Agree, AgreeAt}
use Rattle.gi_refine.specs.OnePlace.{only_virtual}
use Rattle.gi_refine.specs.Reached.{WhereReached}
use Rattle.gi_refine.specs.Refinement.{RefinesUnchecked}
use Rattle.gi_refine.specs.Replacing.{any_touches, Replacement, IsReplaced}
use Rattle.gi_refine.specs.Simulation.{Stands, IsFollowed}
use Rattle.gi_refine.proofs.Staying.{no_phis_after, replacement_refines}
use Rattle.gi_answer.specs.NormalForm.{with_ids}
use Rattle.gi_answer.specs.Rows.{made}
use Rattle.gi_answer.specs.Selecting.{short_among}
use Rattle.gi_answer.proofs.MachineSums.{sum_answers, immediate_sum_answers}
use Rattle.gi_answer.proofs.SelectFits.{IsShort, constant_instr, sum_instr, sum_list}
use Rattle.gi_answer.proofs.SelectShapes.{shaped}
use Rattle.gi_answer.proofs.SelectFronts.{plain, is_plain, All32, IsFront, HoldsShort}

-- ══ A place behind a front ══

-- the states agree but for these registers
abbrev pub Agreeing : (names : List (List ℕ)) → (hidden : ℕ → Bool) → State → State → Type 0
Agreeing names hidden = Agree (plain names) (plain names) (only_virtual hidden)

abbrev pub Leaving : (names : List (List ℕ)) → (hidden : ℕ → Bool) → ℕ → State → State → Type 0
Leaving names hidden = AgreeAt (plain names) (plain names) (λ b. only_virtual hidden)

-- the front has run to the old state, and the new one agrees with it
pub record Behind (names : List (List ℕ)) (w : World) (front : List (ℕ × InstrData)) (hidden : ℕ → Bool) (old new : State) : Type 0 where
  pub begun : State
  pub ran : Executes (plain names) w front begun (On old)
  pub agrees : Agreeing names hidden old new

abbrev pub IsFollowedBehind : (names : List (List ℕ)) → (front : List (ℕ × InstrData)) → (hidden : ℕ → Bool) → (old new : List (ℕ × InstrData)) → Type 0
IsFollowedBehind names front hidden old new =
    (w : World) → IsFollowed (plain names) (plain names) w (Behind names w front hidden) (Agreeing names hidden) (Leaving names hidden) old new

-- a place that follows where runs reach it
abbrev FollowsThere : (s t : Setting) → (w : World) → (blocks : List BlockData) → (front : List (ℕ × InstrData)) → (hidden : ℕ → Bool) → (old new : List (ℕ × InstrData)) → Type 0
FollowsThere s t w blocks front hidden old new =
    IsFollowed s t w (WhereReached s w blocks 0 (after_phis front) (Agree s t (only_virtual hidden))) (Agree s t (only_virtual hidden)) (AgreeAt s t (λ b. only_virtual hidden)) old new

follows_there : (names : List (List ℕ)) (w : World) (blocks : List BlockData) (front : List (ℕ × InstrData)) (hidden : ℕ → Bool) (old new : List (ℕ × InstrData)) → phis_of front ≡ []
    → IsFollowedBehind names front hidden old new → FollowsThere (plain names) (plain names) w blocks front hidden old new
follows_there names w blocks front hidden old new no_phis follows = record {
  by = λ state state' there p' run. (follows w).by state state'
      (record { begun = there.reached.middle; ran = subst (λ is. Executes (plain names) w is there.reached.middle (On state)) (no_phis_after front no_phis) there.reached.ran; agrees = there.relates }) p' run;
}

-- there is one block
no_other : (hidden : ℕ → Bool) (block : BlockData) (b : ℕ) → (b ≡ 0 → ⊥) → (other : BlockData) → slice_get (block ∷ []) b ≡ Some other → any_touches hidden (λ q. q) other.instrs ≡ false
no_other hidden block zero apart other there = absurd (apart refl)
no_other hidden block (suc b) apart other there = cc

-- what a replacement owes
pub record Fits (names : List (List ℕ)) (front : List (ℕ × InstrData)) (old new back : List (ℕ × InstrData)) (hidden : ℕ → Bool) : Type 0 where
  pub old_32 : All32 (front ++ (old ++ back))
  pub new_32 : All32 (front ++ (new ++ back))
  pub no_phi : phis_of (old ++ back) ≡ []
  pub no_new_phi : phis_of (new ++ back) ≡ []
  pub front_clear : any_touches hidden (λ q. q) front ≡ false
  pub back_clear : any_touches hidden (λ q. q) back ≡ false
  pub follows : IsFollowedBehind names front hidden old new

pub fits_refine : (names : List (List ℕ)) (f : FunctionData) (b : BlockData) (defined : List ℕ) (front old new back : List (ℕ × InstrData)) (hidden : ℕ → Bool) (reg id reg' id' : ℕ)
    → IsFront defined front → Fits names front old new back hidden
    → RefinesUnchecked 32 names (shaped f b (front ++ (old ++ back)) reg id) (shaped f b (front ++ (new ++ back)) reg' id')
fits_refine names f b defined front old new back hidden reg id reg' id' before h =
    let g : FunctionData = shaped f b (front ++ (old ++ back)) reg id in
    let k : FunctionData = shaped f b (front ++ (new ++ back)) reg' id' in
    let g_plain : setting_of 32 names g ≡ plain names = is_plain names f b (front ++ (old ++ back)) reg id h.old_32 in
    let k_plain : setting_of 32 names k ≡ plain names = is_plain names f b (front ++ (new ++ back)) reg' id' h.new_32 in
    let block : BlockData = record b { instrs = front ++ (old ++ back) } in
    let place : Replacement = record { block = 0; before = front; old = old; new = new; after = back; hidden = hidden } in
    let replaced : IsReplaced 32 names g k place = record {
      block = block;
      here = refl;
      instrs = refl;
      blocks = refl;
      no_phi = h.no_phi;
      no_new_phi = h.no_new_phi;
      before_clear = h.front_clear;
      after_clear = h.back_clear;
      others_clear = no_other hidden block;
      widths = λ q seen. ap (λ (s : Setting). s.width q) (k_plain ∙ sym g_plain);
      follows = λ w is_world.
          subst (λ s. FollowsThere s (setting_of 32 names k) w g.blocks front hidden old new) (sym g_plain)
          (subst (λ t. FollowsThere (plain names) t w g.blocks front hidden old new) (sym k_plain)
          (follows_there names w g.blocks front hidden old new before.no_phis h.follows));
    } in
    replacement_refines 32 names g k place replaced

-- ══ Writing a register ══

-- a register that is hidden may be written in the old state alone
put_hidden : (names : List (List ℕ)) (d v : ℕ) (old new : State) → Agreeing names (λ q. q == d) old new → Agreeing names (λ q. q == d) (put old (Virtual d) v) new
put_hidden names d v old new agree = record {
  values = λ r seen. subst (λ b. ValueStands 32 32 32 (if b then Some v else old.values r) (new.values r)) (sym seen) (agree.values r seen);
  words = λ n seen. agree.words n seen;
  memory = agree.memory;
  taken = agree.taken;
}

value_put : (b : Bool) (v : ℕ) (old new : Option ℕ) → ValueStands 32 32 32 old new → ValueStands 32 32 32 (if b then Some v else old) (if b then Some v else new)
value_put true v old new h = refl
value_put false v old new h = h

abbrev pub nothing_hidden : ℕ → Bool
nothing_hidden q = false

put_both : (names : List (List ℕ)) (d v : ℕ) (old new : State) → Agreeing names nothing_hidden old new → Agreeing names nothing_hidden (put old (Virtual d) v) (put new (Virtual d) v)
put_both names d v old new agree = record {
  values = λ r seen. value_put (r == d) v (old.values r) (new.values r) (agree.values r refl);
  words = λ n seen. agree.words n seen;
  memory = agree.memory;
  taken = agree.taken;
}

-- where the old register has a value, the new one has it
same_value : (x : ℕ) (new : Option ℕ) → ValueStands 32 32 32 (Some x) new → new ≡ Some x
same_value x None h = absurd h
same_value x (Some y) h = ap Some h

-- ══ What the old instruction does ══

constant_does : (names : List (List ℕ)) (w : World) (d v id line : ℕ) (state : State)
    → Executes (plain names) w ((id, constant_instr d v line) ∷ []) state (On (put state (Virtual d) v))
constant_does names w d v id line state = (On (put state (Virtual d) v), (Results (v ∷ []) (outside_of state), (v ∷ [], refl, refl), refl), refl)

abbrev two_values : Option ℕ → Option ℕ → Option (List Argument)
two_values a b = joined_lists (Some []) (joined_lists (option_map (λ v. Value 32 v ∷ []) a) (joined_lists (option_map (λ v. Value 32 v ∷ []) b) (Some [])))

-- a sum of two values, or undefined
abbrev sum_progress : State → (d : ℕ) → (x y : Option ℕ) → Progress
sum_progress state d (Some x) (Some y) = On (put state (Virtual d) (wrapped 32 (x + y)))
sum_progress state d None y = Over Undefined
sum_progress state d (Some x) None = Over Undefined

sum_steps : (names : List (List ℕ)) (w : World) (d a b line : ℕ) (state : State) (x y : Option ℕ)
    → StepsFrom (plain names) w (sum_instr d a b line) state (two_values x y) (sum_progress state d x y)
sum_steps names w d a b line state (Some x) (Some y) = (Results (wrapped 32 (x + y) ∷ []) (outside_of state), (wrapped 32 (x + y) ∷ [], refl, refl), refl)
sum_steps names w d a b line state None y = refl
sum_steps names w d a b line state (Some x) None = refl

sum_ends : (names : List (List ℕ)) (w : World) (d : ℕ) (state : State) (x y : Option ℕ) → After (sum_progress state d x y) (Executes (plain names) w []) (sum_progress state d x y)
sum_ends names w d state (Some x) (Some y) = refl
sum_ends names w d state None y = refl
sum_ends names w d state (Some x) None = refl

sum_does : (names : List (List ℕ)) (w : World) (d a b id line : ℕ) (state : State) (x y : Option ℕ) → state.values a ≡ x → state.values b ≡ y
    → Executes (plain names) w ((id, sum_instr d a b line) ∷ []) state (sum_progress state d x y)
sum_does names w d a b id line state x y one other = (
  sum_progress state d x y,
  subst (λ v. StepsFrom (plain names) w (sum_instr d a b line) state (two_values v (state.values b)) (sum_progress state d x y)) (sym one)
      (subst (λ v. StepsFrom (plain names) w (sum_instr d a b line) state (two_values x v) (sum_progress state d x y)) (sym other) (sum_steps names w d a b line state x y)),
  sum_ends names w d state x y,
)

-- ══ What the new one does ══

-- an instruction alone that answers one value goes on with it
alone_goes_on : (names : List (List ℕ)) (w : World) (d v : ℕ) (state : State) (next p : Progress) (answer : Answer) → answer ≡ Results (v ∷ []) (outside_of state)
    → next ≡ progress_of state (Virtual d ∷ []) answer → After next (Executes (plain names) w []) p → p ≡ On (put state (Virtual d) v)
alone_goes_on names w d v state next p answer same made run = subst (λ n. After n (Executes (plain names) w []) p) (made ∙ ap (progress_of state (Virtual d ∷ [])) same) run

abbrev pub constant_new : (d : ℕ) (number : ℤ) (line : ℕ) → InstrData
constant_new d number line = record { op = AddImmediate; flags = no_flags; operands = Def (reg_of d) word_kind ∷ Phys 0 ∷ Int number ∷ []; mem = None; line = line }

zero_sum : (value : ℕ) (number : ℤ) → unsigned 32 number ≡ value → value < 4294967296 → wrapped 32 (0 + unsigned 32 number) ≡ value
zero_sum value number same small = ap (λ k. wrapped 32 (0 + k)) same ∙ ap (λ k. k % 4294967296) (let e : 0 + value ≡ value = omega arith in e) ∙ mod-eq_of_lt small

constant_new_does : (names : List (List ℕ)) (w : World) (d v id line : ℕ) (h : IsShort v) (state : State) (p : Progress)
    → Executes (plain names) w ((id, constant_new d h.number line) ∷ []) state p → p ≡ On (put state (Virtual d) v)
constant_new_does names w d v id line h state p run =
    alone_goes_on names w d v state run.0 p run.1.0
    (immediate_sum_answers w 0 h.number (outside_of state) run.1.0 h.immediate run.1.1 ∙ ap (λ u. Results (u ∷ []) (outside_of state)) (zero_sum v h.number h.bits h.small))
    run.1.2 run.2

abbrev pub immediate_new : (d a : ℕ) (number : ℤ) (line : ℕ) → InstrData
immediate_new d a number line = record { op = AddImmediate; flags = no_flags; operands = Def (reg_of d) word_kind ∷ Use (reg_of a) ∷ Int number ∷ []; mem = None; line = line }

abbrev value_and_number : Option ℕ → ℤ → Option (List Argument)
value_and_number a number = joined_lists (Some []) (joined_lists (option_map (λ v. Value 32 v ∷ []) a) (Some (Number number ∷ [])))

immediate_new_does : (names : List (List ℕ)) (w : World) (d a x id line : ℕ) (number : ℤ) (state : State) (p : Progress) → is_immediate number ≡ true → state.values a ≡ Some x
    → Executes (plain names) w ((id, immediate_new d a number line) ∷ []) state p → p ≡ On (put state (Virtual d) (wrapped 32 (x + unsigned 32 number)))
immediate_new_does names w d a x id line number state p short one run =
    let step = subst (λ v. StepsFrom (plain names) w (immediate_new d a number line) state (value_and_number v number) run.0) one run.1 in
    alone_goes_on names w d (wrapped 32 (x + unsigned 32 number)) state run.0 p step.0
    (immediate_sum_answers w x number (outside_of state) step.0 short step.1) step.2 run.2

abbrev pub sum_new : (d a b line : ℕ) → InstrData
sum_new d a b line = record { op = Add; flags = no_flags; operands = Def (reg_of d) word_kind ∷ Use (reg_of a) ∷ Use (reg_of b) ∷ []; mem = None; line = line }

sum_new_does : (names : List (List ℕ)) (w : World) (d a b x y id line : ℕ) (state : State) (p : Progress) → state.values a ≡ Some x → state.values b ≡ Some y
    → Executes (plain names) w ((id, sum_new d a b line) ∷ []) state p → p ≡ On (put state (Virtual d) (wrapped 32 (x + y)))
sum_new_does names w d a b x y id line state p one other run =
    let half = subst (λ v. StepsFrom (plain names) w (sum_new d a b line) state (two_values v (state.values b)) run.0) one run.1 in
    let step = subst (λ v. StepsFrom (plain names) w (sum_new d a b line) state (two_values (Some x) v) run.0) other half in
    alone_goes_on names w d (wrapped 32 (x + y)) state run.0 p step.0 (sum_answers w x y (outside_of state) step.0 step.1) step.2 run.2

-- ══ The old follows the new ══

pub dead_constant_follows : (names : List (List ℕ)) (front : List (ℕ × InstrData)) (d v id line : ℕ) → IsFollowedBehind names front (λ q. q == d) ((id, constant_instr d v line) ∷ []) []
dead_constant_follows names front d v id line w = record {
  by = λ old new there p' run. inl (
    On (put old (Virtual d) v),
    constant_does names w d v id line old,
    subst (λ p. Stands (Agreeing names (λ q. q == d)) (Leaving names (λ q. q == d)) (On (put old (Virtual d) v)) p) (sym run) (put_hidden names d v old new there.agrees),
  );
}

-- what a sum may do from a state that agrees, if there is no more to show of it
abbrev SumFollows : (names : List (List ℕ)) → World → (hidden : ℕ → Bool) → (d a b id line : ℕ) → (old : State) → (p' : Progress) → Type 0
SumFollows names w hidden d a b id line old p' =
    ((p : Progress) × Executes (plain names) w ((id, sum_instr d a b line) ∷ []) old p × Stands (Agreeing names hidden) (Leaving names hidden) p p')
    ⊎ Executes (plain names) w ((id, sum_instr d a b line) ∷ []) old (Over Undefined)

dead_sum_by : (names : List (List ℕ)) (w : World) (d a b id line : ℕ) (old new : State) (p' : Progress) (x y : Option ℕ) → old.values a ≡ x → old.values b ≡ y
    → Agreeing names (λ q. q == d) old new → p' ≡ On new → SumFollows names w (λ q. q == d) d a b id line old p'
dead_sum_by names w d a b id line old new p' (Some x) (Some y) one other agree run = inl (
  On (put old (Virtual d) (wrapped 32 (x + y))),
  sum_does names w d a b id line old (Some x) (Some y) one other,
  subst (λ p. Stands (Agreeing names (λ q. q == d)) (Leaving names (λ q. q == d)) (On (put old (Virtual d) (wrapped 32 (x + y)))) p) (sym run)
      (put_hidden names d (wrapped 32 (x + y)) old new agree),
)
dead_sum_by names w d a b id line old new p' None y one other agree run = inr (sum_does names w d a b id line old None y one other)
dead_sum_by names w d a b id line old new p' (Some x) None one other agree run = inr (sum_does names w d a b id line old (Some x) None one other)

pub dead_sum_follows : (names : List (List ℕ)) (front : List (ℕ × InstrData)) (d a b id line : ℕ) → IsFollowedBehind names front (λ q. q == d) ((id, sum_instr d a b line) ∷ []) []
dead_sum_follows names front d a b id line w = record {
  by = λ old new there p' run. dead_sum_by names w d a b id line old new p' (old.values a) (old.values b) refl refl there.agrees run;
}

pub constant_follows : (names : List (List ℕ)) (front : List (ℕ × InstrData)) (d v id id' line : ℕ) (h : IsShort v)
    → IsFollowedBehind names front nothing_hidden ((id, constant_instr d v line) ∷ []) ((id', constant_new d h.number line) ∷ [])
constant_follows names front d v id id' line h w = record {
  by = λ old new there p' run. inl (
    On (put old (Virtual d) v),
    constant_does names w d v id line old,
    subst (λ p. Stands (Agreeing names nothing_hidden) (Leaving names nothing_hidden) (On (put old (Virtual d) v)) p) (sym (constant_new_does names w d v id' line h new p' run))
        (put_both names d v old new there.agrees),
  );
}

-- the new progress, from the values of the two registers in the new state
record GoesOn (d a b : ℕ) (new : State) (p' : Progress) : Type 0 where
  by : (x y : ℕ) → new.values a ≡ Some x → new.values b ≡ Some y → p' ≡ On (put new (Virtual d) (wrapped 32 (x + y)))

sum_by : (names : List (List ℕ)) (w : World) (d a b id line : ℕ) (old new : State) (p' : Progress) (x y : Option ℕ) → old.values a ≡ x → old.values b ≡ y
    → Agreeing names nothing_hidden old new → GoesOn d a b new p' → SumFollows names w nothing_hidden d a b id line old p'
sum_by names w d a b id line old new p' (Some x) (Some y) one other agree goes =
    let new_one : new.values a ≡ Some x = same_value x (new.values a) (subst (λ v. ValueStands 32 32 32 v (new.values a)) one (agree.values a refl)) in
    let new_other : new.values b ≡ Some y = same_value y (new.values b) (subst (λ v. ValueStands 32 32 32 v (new.values b)) other (agree.values b refl)) in
    inl (
      On (put old (Virtual d) (wrapped 32 (x + y))),
      sum_does names w d a b id line old (Some x) (Some y) one other,
      subst (λ p. Stands (Agreeing names nothing_hidden) (Leaving names nothing_hidden) (On (put old (Virtual d) (wrapped 32 (x + y)))) p) (sym (goes.by x y new_one new_other))
          (put_both names d (wrapped 32 (x + y)) old new agree),
    )
sum_by names w d a b id line old new p' None y one other agree goes = inr (sum_does names w d a b id line old None y one other)
sum_by names w d a b id line old new p' (Some x) None one other agree goes = inr (sum_does names w d a b id line old (Some x) None one other)

-- a register that holds a short constant in the old state holds it in the new one
held_new : (names : List (List ℕ)) (old new : State) (r x : ℕ) (number : ℤ) → Agreeing names nothing_hidden old new → HoldsShort old r number → new.values r ≡ Some x → unsigned 32 number ≡ x
held_new names old new r x number agree held same =
    let new_value : new.values r ≡ Some (unsigned 32 number) = same_value (unsigned 32 number) (new.values r) (subst (λ v. ValueStands 32 32 32 v (new.values r)) held.holds (agree.values r refl)) in
    same_values (unsigned 32 number) x (sym new_value ∙ same)
  where
    same_values : (u v : ℕ) → Some u ≡ Some v → u ≡ v
    same_values u v h = cc

pub sum_follows : (names : List (List ℕ)) (defined : List ℕ) (front : List (ℕ × InstrData)) (d a b id id' line : ℕ) (first second : Option ℤ) → IsFront defined front
    → short_among front a ≡ first → short_among front b ≡ second
    → IsFollowedBehind names front nothing_hidden ((id, sum_instr d a b line) ∷ []) (with_ids id' (sum_list d a b first second line))
sum_follows names defined front d a b id id' line first (Some number) before one other w = record {
  by = λ old new there p' run.
      let held : HoldsShort old b number = before.constants names w there.begun old there.ran b number other in
      sum_by names w d a b id line old new p' (old.values a) (old.values b) refl refl there.agrees (record {
        by = λ x y new_one new_other. subst (λ v. p' ≡ On (put new (Virtual d) (wrapped 32 (x + v)))) (held_new names old new b y number there.agrees held new_other)
            (immediate_new_does names w d a x id' line number new p' held.immediate new_one run);
      });
}
sum_follows names defined front d a b id id' line (Some number) None before one other w = record {
  by = λ old new there p' run.
      let held : HoldsShort old a number = before.constants names w there.begun old there.ran a number one in
      sum_by names w d a b id line old new p' (old.values a) (old.values b) refl refl there.agrees (record {
        by = λ x y new_one new_other.
            let turned : y + unsigned 32 number ≡ x + y = ap (λ v. y + v) (held_new names old new a x number there.agrees held new_one) ∙ omega arith in
            subst (λ v. p' ≡ On (put new (Virtual d) (wrapped 32 v))) turned (immediate_new_does names w d b y id' line number new p' held.immediate new_other run);
      });
}
sum_follows names defined front d a b id id' line None None before one other w = record {
  by = λ old new there p' run. sum_by names w d a b id line old new p' (old.values a) (old.values b) refl refl there.agrees (record {
    by = λ x y new_one new_other. sum_new_does names w d a b x y id' line new p' new_one new_other run;
  });
}
