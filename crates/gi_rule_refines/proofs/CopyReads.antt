-- Wherever runs read the result of a copy, its source has the same value.
use Rattle.std.proofs.Common.{◌≡◌, ℕ, zero, suc, ◌<◌, Bool, true, false, cond, ◌==◌, nat_lt, List, [], ◌∷◌, ◌++◌, Option, Some, None, length, option_map, slice_get, inr, refl, sym, ap, ap₂, ◌∙◌, subst, arith, append_assoc, eqb-true, eq-eqb, lt-ltb, ltb-true}
use Rattle.std.proofs.lemmas.Bool.{false_from_ne_true, or_left, or_right}
use Rattle.std.specs.List.{list_any}
use Rattle.gi_mir.specs.Data.{InstrData, BlockData, FunctionData}
use Rattle.gi_mir.specs.Edit.{all_instrs, defines, is_use_of}
use Rattle.gi_mir.specs.declared.operand.Operand.{Operand}
use Rattle.gi_mir.specs.declared.operand.Operand.TheVariants as operand
use Rattle.gi_meaning.specs.Act.{Answers, Results, copied, copy}
use Rattle.gi_meaning.specs.Argument.{Argument, Value}
use Rattle.gi_meaning.specs.Given.{LowBits, one}
use Rattle.gi_llt.specs.Bits.{wrapped}
use Rattle.gi_meaning.specs.Runs.{Setting, after_phis, entry_for, is_phi, joined_lists, phis_of, setting_of, width_of_kind}
use Rattle.gi_meaning.specs.State.{IsWorld, Outside, State, World, outside_of}
use Rattle.gi_refine.specs.Kept.{BodyHolds, EntriesHold, EntryHolds, HasSameValue, PhisHold, UsesHold}
use Rattle.gi_refine.specs.Reached.{Arrives, IsReached}
use Rattle.gi_refine.proofs.Staying.{has_same_value}
use Rattle.gi_valid.specs.Available.{at_end}
use Rattle.gi_valid.specs.Facts.{AreHeld, HoldsDefinition}
use Rattle.gi_valid.specs.Faults.{Site, missing_entries, missing_use, not_available}
use Rattle.gi_valid.specs.Typing.{Phase}
use Rattle.gi_valid.proofs.Defining.{in_either, in_function, no_end_defines}
use Rattle.gi_valid.proofs.Holding.{definition_holds}
use Rattle.gi_valid.proofs.Single.{IsIn}
use Rattle.gi_valid.proofs.Sited.{at_site, phis_and_others, site_of, splits_whole}
use Rattle.gi_valid.proofs.Valid.{orderly}
use Rattle.gi_change_valid.proofs.Circles.{IsKnown, is_here, use_at}
use Rattle.gi_change_valid.proofs.Sites.{IsSite}
use Rattle.gi_change_valid.proofs.Typed.{in_list}
use Rattle.gi_change_valid.proofs.Valid.{great_of, known_of}
use Rattle.gi_rule_refines.specs.Copies.{IsCopy}
use Rattle.gi_rule_refines.proofs.Copied.{IsCopied, copy_defines, copy_there, root_of}
use Rattle.gi_rule_refines.proofs.CopyLists.{stand_in}
use Rattle.gi_rule_refines.proofs.Leaving.{EndsAt, EntryIsThere, ends_at, entry_there, inside_of, no_phi_there, still_here}

-- ══ What a copy gives ══

not_less : (n : ℕ) → nat_lt n n ≡ false
not_less n = false_from_ne_true (nat_lt n n) (λ h. let less : n < n = ltb-true n n h in omega (arith, less))

as_wide_copied : (n v : ℕ) → copied n n v ≡ one v
as_wide_copied n v = ap₂ (λ less same. cond less (LowBits n n v) (cond same (one v) (one (wrapped n v)))) (not_less n) (eq-eqb n n refl)

-- from a register that is as wide, its value
gives_value : (n m v : ℕ) (outside : Outside) (results : List ℕ) → m ≡ n → Answers (copied m n v) outside (Results results outside) → results ≡ v ∷ []
gives_value n m v outside results same h = by (subst (λ g. Answers g outside (Results results outside)) (ap (λ k. copied k n v) same ∙ as_wide_copied n v) h)
  where
    by : Answers (one v) outside (Results results outside) → results ≡ v ∷ []
    by h = let is : results ≡ h.0 = cc in is ∙ h.1

-- where the definition of a copy holds, both registers have one value
held_same : (t : Setting) (w : World) (state : State) (f : FunctionData) (id d s : ℕ) → (c : IsCopy f id d s) → t.width s ≡ t.width d → HoldsDefinition t w (root_of f id d s c) state → HasSameValue (state.values d) (state.values s)
held_same t w state f id d s c wide h = by (state.values s) h.read
  where
    by : (o : Option ℕ) → joined_lists (Some []) (joined_lists (option_map (λ value. Value (t.width s) value ∷ []) o) (Some [])) ≡ Some h.arguments → HasSameValue (state.values d) o
    by None read = cc
    by (Some v) read =
        let arguments : h.arguments ≡ Value (t.width s) v ∷ [] = cc in
        let given : Answers (copied (t.width s) (t.width d) v) (outside_of state) (Results h.results (outside_of state)) =
        subst (λ (l : List Argument). Answers (copy (t.width d ∷ []) l) (outside_of state) (Results h.results (outside_of state))) arguments (h.given (outside_of state)) in
        let results : h.results ≡ v ∷ [] = gives_value (t.width d) (t.width s) v (outside_of state) h.results wide given in
        let held : state.values d ≡ Some v = (subst (AreHeld state (d ∷ [])) results h.held).0 in
        subst (λ o. HasSameValue o (Some v)) (sym held) refl

-- ══ Where the result is available ══

-- a register that is available where it is the result has the value of what stands for it
value_same : (x : ℕ) (phase : Phase) (names : List (List ℕ)) (f : FunctionData) (id d s : ℕ) → (c : IsCopied x phase f id d s) → (w : World) → IsWorld x w → (b : ℕ) (body : BlockData) → slice_get f.blocks b ≡ Some body
    → (before back : List (ℕ × InstrData)) → after_phis body.instrs ≡ before ++ back → (state : State) → IsReached (setting_of x names f) w f.blocks b before state
    → (r : ℕ) → (r ≡ d → is_here (great_of f) b (phis_of body.instrs ++ before) d ≡ true) → HasSameValue (state.values r) (state.values (stand_in d s r))
value_same x phase names f id d s c w is_world b body found before back splits state reached r there = by (r == d) refl
  where
    same : r ≡ d → HasSameValue (state.values d) (state.values s)
    same is =
        held_same (setting_of x names f) w state f id d s c.copy (ap (width_of_kind x) (sym c.copy.alike))
        (definition_holds x names f w is_world (orderly x phase f c.valid) b body before back found splits d (id, root_of f id d s c.copy)
        (record { extent = great_of f d; contained = ((known_of x phase f c.valid).greatest d).contained; holds = there is }) (copy_defines x phase f id d s c) refl state reached)

    by : (t : Bool) → (r == d) ≡ t → HasSameValue (state.values r) (state.values (cond t s r))
    by true so = let is : r ≡ d = eqb-true r d so in subst (λ k. HasSameValue (state.values k) (state.values s)) (sym is) (same is)
    by false so = has_same_value (state.values r)

-- ══ Uses in a block ══

uses_from : (rename : ℕ → ℕ) (state : State) (os : List Operand) → ((r : ℕ) → list_any (is_use_of r) os ≡ true → HasSameValue (state.values r) (state.values (rename r))) → UsesHold rename state os
uses_from rename state [] each = tt
uses_from rename state (operand.Use r ∷ os) each =
    (each r.0 (or_left (r.0 == r.0) (list_any (is_use_of r.0) os) (eq-eqb r.0 r.0 refl)), uses_from rename state os (λ q used. each q (or_right (r.0 == q) (list_any (is_use_of q) os) used)))
uses_from rename state (_ ∷ os) each = uses_from rename state os each

pub body_holds : (x : ℕ) (phase : Phase) (names : List (List ℕ)) (f : FunctionData) (id d s : ℕ) → IsCopied x phase f id d s → (b : ℕ) (body : BlockData) → slice_get f.blocks b ≡ Some body
    → BodyHolds x names f b (stand_in d s) [] (after_phis body.instrs)
body_holds x phase names f id d s c b body found = record {
  by = λ w is_world front i back parts state reached.
      let known : IsKnown f (great_of f) = known_of x phase f c.valid in
      let site : IsSite f b (phis_of body.instrs ++ front) i back = record { block = body; found = found; splits = splits_whole body.instrs front i back parts } in
      let other : is_phi i.1 ≡ false = no_phi_there f (great_of f) known b body found front i back parts site in
      uses_from (stand_in d s) state i.1.operands (λ r used.
      value_same x phase names f id d s c w is_world b body found front (i ∷ back) parts state reached r
      (λ is. use_at f (great_of f) known b (phis_of body.instrs ++ front) i back site other d (subst (λ k. list_any (is_use_of k) i.1.operands ≡ true) is used)));
}

-- ══ Entries of phis ══

-- where a run came from that block
entry_holds : (x : ℕ) (phase : Phase) (names : List (List ℕ)) (f : FunctionData) (id d s : ℕ) → (c : IsCopied x phase f id d s) → (w : World) → IsWorld x w → (a : ℕ) (state : State) → EndsAt x names f w a state
    → (found : Option ℕ) → EntryIsThere f a found → EntryHolds (stand_in d s) state found
entry_holds x phase names f id d s c w is_world a state e None there = tt
entry_holds x phase names f id d s c w is_world a state e (Some r) there =
    value_same x phase names f id d s c w is_world a e.body e.there e.before e.back e.splits state e.reached r
    (λ is. still_here f (great_of f) a e.body e.before e.back e.there e.splits d none (subst (λ k. at_end f k (great_of f k) a ≡ true) is there))
  where
    inside : (j : ℕ × InstrData) → IsIn j e.back → IsIn j (all_instrs f.blocks)
    inside j there =
        in_function f.blocks a e.body e.there j
        (subst (λ l. IsIn j l) (sym (phis_and_others (e.body).instrs ∙ ap (λ l. phis_of (e.body).instrs ++ l) e.splits))
        (in_either j (phis_of (e.body).instrs) (e.before ++ e.back) (inr (in_either j e.before e.back (inr there)))))

    none : list_any (defines d) e.back ≡ false
    none =
        no_end_defines f (orderly x phase f c.valid) (id, root_of f id d s c.copy) (in_list (id, root_of f id d s c.copy) (all_instrs f.blocks) (copy_there f id d s c.copy)) refl d
        (or_left (d == d) false (eq-eqb d d refl)) e.back inside e.ends

entries_from : (x : ℕ) (phase : Phase) (names : List (List ℕ)) (f : FunctionData) (id d s : ℕ) → (c : IsCopied x phase f id d s) → (w : World) → IsWorld x w → (a : ℕ) (state : State) → EndsAt x names f w a state
    → (b : ℕ) (body : BlockData) → slice_get f.blocks b ≡ Some body → (front is : List (ℕ × InstrData)) → body.instrs ≡ front ++ is → EntriesHold (stand_in d s) (Some a) state (phis_of is)
entries_from x phase names f id d s c w is_world a state e b body found front [] splits = tt
entries_from x phase names f id d s c w is_world a state e b body found front (i ∷ is) splits =
    by (is_phi i.1) refl (entries_from x phase names f id d s c w is_world a state e b body found (front ++ i ∷ []) is (splits ∙ sym (append_assoc front (i ∷ []) is)))
  where
    here : Site
    here = site_of b front i is

    by : (t : Bool) → is_phi i.1 ≡ t → EntriesHold (stand_in d s) (Some a) state (phis_of is) → EntriesHold (stand_in d s) (Some a) state (cond t (i ∷ phis_of is) [])
    by true so rest =
        let unavailable : not_available f (great_of f) (site_of b front i is) ≡ None = at_site f (not_available f (great_of f)) (known_of x phase f c.valid).available b body found front i is splits in
        let none : missing_entries f (great_of f) i.1.operands ≡ None =
        sym (ap (λ t. cond t (missing_entries f (great_of f) i.1.operands) (missing_use f (great_of f) (site_of b front i is))) so) ∙ unavailable in (
          entry_holds x phase names f id d s c w is_world a state e (entry_for a i.1.operands) (entry_there f a (lt-ltb a (length f.blocks) (inside_of f.blocks a e.body e.there)) i.1.operands none),
          rest,
        )
    by false so rest = tt

-- at the function's start there is no block that was left
entries_at_start : (rename : ℕ → ℕ) (state : State) (is : List (ℕ × InstrData)) → EntriesHold rename None state is
entries_at_start rename state [] = tt
entries_at_start rename state (i ∷ is) = (tt, entries_at_start rename state is)

pub phis_hold : (x : ℕ) (phase : Phase) (names : List (List ℕ)) (f : FunctionData) (id d s : ℕ) → IsCopied x phase f id d s → (b : ℕ) (body : BlockData) → slice_get f.blocks b ≡ Some body
    → PhisHold x names f b (stand_in d s) (phis_of body.instrs)
phis_hold x phase names f id d s c b body found = record { by = by }
  where
    by : (w : World) → IsWorld x w → (entries : ℕ) (from : Option ℕ) (state : State) → Arrives (setting_of x names f) w f.blocks entries from b state → EntriesHold (stand_in d s) from state (phis_of body.instrs)
    by w is_world zero from state arrives = subst (λ k. EntriesHold (stand_in d s) k state (phis_of body.instrs)) (sym arrives.0) (entries_at_start (stand_in d s) state (phis_of body.instrs))
    by w is_world (suc n) from state arrives =
        let e : EndsAt x names f w arrives.1 state = ends_at x names f w is_world (orderly x phase f c.valid) n arrives.0 arrives.1 arrives.2 arrives.3 b state arrives.4 in
        subst (λ k. EntriesHold (stand_in d s) k state (phis_of body.instrs)) (sym arrives.5) (entries_from x phase names f id d s c w is_world arrives.1 state e b body found [] body.instrs refl)
