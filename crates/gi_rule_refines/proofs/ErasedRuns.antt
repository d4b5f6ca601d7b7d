-- A function without a dead instruction does what the function with it may do.
use Rattle.std.proofs.Common.{◌≡◌, ℕ, zero, suc, Bool, true, false, cond, not, ◌&&◌, ◌==◌, List, [], ◌∷◌, ◌++◌, Option, Some, None, map, slice_get, option_map, inl, inr, ⊎_elim, refl, sym, ap, ap₂, ◌∙◌, subst, true≢false, append_assoc}
use Rattle.std.proofs.lemmas.Bool.{and_parts, and_from, false_from_ne_true, not-true}
use Rattle.std.proofs.lemmas.List.Folds.{list_all-append}
use Rattle.std.specs.List.{list_all}
use Rattle.gi_mir.specs.Data.{InstrData, BlockData, FunctionData}
use Rattle.gi_mir.specs.Edit.{all_instrs, without_instr}
use Rattle.gi_meaning.specs.Meaning.{meaning_of}
use Rattle.gi_meaning.specs.Runs.{On, Over, Setting, after_phis, from_block, is_phi, joined, phis_of, places_of, put_value, setting_of, value_at, width_of_kind, written_places}
use Rattle.gi_meaning.specs.State.{IsWorld, Place, State, World}
use Rattle.gi_meaning.specs.State as an_outcome
use Rattle.gi_refine.specs.Agreement.{Agree, AgreeAt, AgreeEntering, all_shown}
use Rattle.gi_refine.specs.Kept.{AreSeenAs, HasSameValue}
use Rattle.gi_refine.specs.OnePlace.{only_virtual}
use Rattle.gi_refine.specs.Refinement.{RefinesUnchecked}
use Rattle.gi_refine.specs.Simulation.{IsBlockFollowed, IsFollowed, PhisStand, PlaceFollowed, Stands}
use Rattle.gi_refine.proofs.Agreeing.{alone}
use Rattle.gi_refine.proofs.Keeping.{agree_but, all_shown_less, from_seen, kept_followed, phis_within, places_alike, put_values_stand, taken_same}
use Rattle.gi_refine.proofs.Reaching.{followed_within, nothing_followed}
use Rattle.gi_refine.proofs.Simulating.{followed_on, refined_by_following}
use Rattle.gi_refine.proofs.Staying.{KeepsWidths, entries_hold_alone, kept_alone, no_phis_after, seen_untouched, uses_hold_alone}
use Rattle.gi_valid.specs.Typing.{Phase}
use Rattle.gi_change_valid.specs.Rewriting.{IsOneOf, Rewriting, block_rewritten}
use Rattle.gi_change_valid.proofs.Circles.{phis_before}
use Rattle.gi_change_valid.proofs.Sites.{IsSite}
use Rattle.gi_change_valid.proofs.Stepwise.{are_phis}
use Rattle.gi_change_valid.proofs.Valid.{known_of}
use Rattle.gi_change_refines.proofs.Elsewhere.{other_inside}
use Rattle.gi_rule_refines.proofs.Erased.{IsErased, defined_stays, defines_none, erased, erasing, is_gone, kind_stays, untouched, used_stays}
use Rattle.gi_rule_refines.proofs.ErasedLists.{all_left, left, left_next}
use Rattle.gi_rule_refines.proofs.Giving.{AllHidden, goes_on, places_hidden, put_hidden}

-- ══ Phis stand first ══

abbrev no_phis : List (ℕ × InstrData) → Bool
no_phis is = list_all (λ p. not (is_phi p.1)) is

-- what stands behind one that is no phi is none
none_behind : (x : ℕ) (phase : Phase) (f : FunctionData) (id : ℕ) → (c : IsErased x phase f id) → (b : ℕ) (block : BlockData) → slice_get f.blocks b ≡ Some block
    → (done is : List (ℕ × InstrData)) → block.instrs ≡ done ++ is → are_phis done ≡ false → no_phis is ≡ true
none_behind x phase f id c b block found done [] splits other = refl
none_behind x phase f id c b block found done (i ∷ is) splits other =
    let site : IsSite f b done i is = record { block = block; found = found; splits = splits } in
    let none : is_phi i.1 ≡ false = false_from_ne_true (is_phi i.1) (λ phi. true≢false (sym (phis_before f (known_of x phase f c.valid).entries b done i is site phi) ∙ other)) in
    and_from (not (is_phi i.1)) (no_phis is) (ap not none)
    (none_behind x phase f id c b block found (done ++ i ∷ []) is (splits ∙ sym (append_assoc done (i ∷ []) is)) (list_all-append (λ p. is_phi p.1) done (i ∷ []) ∙ ap (λ t. t && are_phis (i ∷ [])) other))

none_after : (x : ℕ) (phase : Phase) (f : FunctionData) (id : ℕ) → (c : IsErased x phase f id) → (b : ℕ) (block : BlockData) → slice_get f.blocks b ≡ Some block
    → (done is : List (ℕ × InstrData)) → block.instrs ≡ done ++ is → are_phis done ≡ true → no_phis (after_phis is) ≡ true
none_after x phase f id c b block found done [] splits all = refl
none_after x phase f id c b block found done (i ∷ is) splits all = by (is_phi i.1) refl (λ next more. none_after x phase f id c b block found (done ++ i ∷ []) is next more)
  where
    next : block.instrs ≡ (done ++ i ∷ []) ++ is
    next = splits ∙ sym (append_assoc done (i ∷ []) is)

    more : (t : Bool) → is_phi i.1 ≡ t → are_phis (done ++ i ∷ []) ≡ t
    more true so = list_all-append (λ p. is_phi p.1) done (i ∷ []) ∙ and_from (are_phis done) (are_phis (i ∷ [])) all (ap (λ t. t && true) so)
    more false so = list_all-append (λ p. is_phi p.1) done (i ∷ []) ∙ ap₂ (λ a t. a && (t && true)) all so

    by : (t : Bool) → is_phi i.1 ≡ t → (block.instrs ≡ (done ++ i ∷ []) ++ is → are_phis (done ++ i ∷ []) ≡ true → no_phis (after_phis is) ≡ true) → no_phis (cond t (after_phis is) (i ∷ is)) ≡ true
    by true so rest = rest next (more true so)
    by false so rest = and_from (not (is_phi i.1)) (no_phis is) (ap not so) (none_behind x phase f id c b block found (done ++ i ∷ []) is next (more false so))

none_first : (is : List (ℕ × InstrData)) → no_phis is ≡ true → phis_of is ≡ []
none_first [] none = refl
none_first (i ∷ is) none = ap (λ t. cond t (i ∷ phis_of is) []) (not-true (is_phi i.1) (and_parts (not (is_phi i.1)) (no_phis is) none).0)

-- ══ What erasing leaves of a block ══

record LeavesApart (f : FunctionData) (id : ℕ) (root : InstrData) (is : List (ℕ × InstrData)) : Type 0 where
  phis : phis_of (left f id root is) ≡ left f id root (phis_of is)
  body : after_phis (left f id root is) ≡ left f id root (after_phis is)

leaves_apart : (f : FunctionData) (id : ℕ) (root : InstrData) (is : List (ℕ × InstrData)) → no_phis (after_phis is) ≡ true → LeavesApart f id root is
leaves_apart f id root [] none = record { phis = refl; body = refl }
leaves_apart f id root (p ∷ is) none = by (is_phi p.1) refl none (λ h. leaves_apart f id root is h)
  where
    now : List (ℕ × InstrData)
    now = left f id root is

    gone : (t : Bool) → is_phi p.1 ≡ true → LeavesApart f id root is
        → (phis_of (cond t now (p ∷ now)) ≡ cond t (left f id root (phis_of is)) (p ∷ left f id root (phis_of is))) × (after_phis (cond t now (p ∷ now)) ≡ left f id root (after_phis is))
    gone true phi rest = (rest.phis, rest.body)
    gone false phi rest = (ap (λ t. cond t (p ∷ phis_of now) []) phi ∙ ap (λ l. p ∷ l) rest.phis, ap (λ t. cond t (after_phis now) (p ∷ now)) phi ∙ rest.body)

    by : (t : Bool) → is_phi p.1 ≡ t → no_phis (cond t (after_phis is) (p ∷ is)) ≡ true → (no_phis (after_phis is) ≡ true → LeavesApart f id root is) → LeavesApart f id root (p ∷ is)
    by true so none rest =
        let both = gone (p.0 == id) so (rest none) in
        record {
          phis = ap phis_of (left_next f id root p is) ∙ both.0 ∙ sym (left_next f id root p (phis_of is)) ∙ ap (λ t. left f id root (cond t (p ∷ phis_of is) [])) (sym so);
          body = ap after_phis (left_next f id root p is) ∙ both.1 ∙ ap (λ t. left f id root (cond t (after_phis is) (p ∷ is))) (sym so);
        }
    by false so none rest =
        let first : phis_of (left f id root (p ∷ is)) ≡ [] = none_first (left f id root (p ∷ is)) (all_left f id root (λ q. not (is_phi q.1)) (p ∷ is) none) in
        record {
          phis = first ∙ ap (λ t. left f id root (cond t (p ∷ phis_of is) [])) (sym so);
          body = no_phis_after (left f id root (p ∷ is)) first ∙ ap (λ t. left f id root (cond t (after_phis is) (p ∷ is))) (sym so);
        }

-- ══ Where the two functions differ ══

abbrev hiding : InstrData → Place → Bool
hiding root = only_virtual (is_gone root)

widths_stay : (x : ℕ) (phase : Phase) (names : List (List ℕ)) (f : FunctionData) (id : ℕ) → (c : IsErased x phase f id) → KeepsWidths (setting_of x names f) (setting_of x names (without_instr f id)) (is_gone c.root) (λ q. q)
widths_stay x phase names f id c = record { same = λ r stays. ap (width_of_kind x) (kind_stays x phase f id c r stays); replaced = λ r. refl }

-- another instruction reads and writes what both have
seen_by_other : (x : ℕ) (phase : Phase) (names : List (List ℕ)) (f : FunctionData) (id : ℕ) → (c : IsErased x phase f id) → (p : ℕ × InstrData) → IsOneOf p (all_instrs f.blocks) → (p.0 == id) ≡ false
    → AreSeenAs (setting_of x names f) (setting_of x names (without_instr f id)) (hiding c.root) (λ q. q) p.1.operands
seen_by_other x phase names f id c p there other =
    seen_untouched (setting_of x names f) (setting_of x names (without_instr f id)) (is_gone c.root) (λ q. q) (widths_stay x phase names f id c) p.1.operands
    (untouched (is_gone c.root) p.1.operands (λ r own. defined_stays x phase f id c p there other r own) (λ r used. used_stays x phase f id c p there r used))

gone_places : (x : ℕ) (phase : Phase) (f : FunctionData) (id : ℕ) → (c : IsErased x phase f id) → AllHidden (hiding c.root) (places_of c.root.operands)
gone_places x phase f id c = places_hidden (is_gone c.root) c.root.operands (defines_none c.root c.erasable).shown (λ r own. own)

-- ══ Instructions ══

-- the erased one alone
one_gone : (x : ℕ) (phase : Phase) (names : List (List ℕ)) (f : FunctionData) (id : ℕ) → (c : IsErased x phase f id) → (w : World) (exit : ℕ → State → State → Type 0)
    → IsFollowed (setting_of x names f) (setting_of x names (without_instr f id)) w (Agree (setting_of x names f) (setting_of x names (without_instr f id)) (hiding c.root))
    (Agree (setting_of x names f) (setting_of x names (without_instr f id)) (hiding c.root)) exit ((id, c.root) ∷ []) []
one_gone x phase names f id c w exit =
    let s = setting_of x names f in
    let t = setting_of x names (without_instr f id) in
    record {
      by = λ old new agree p' run.
          ⊎_elim
          (λ went. inl (On went.0, alone s w (id, c.root) old (On went.0) went.1, subst (λ p. Stands (Agree s t (hiding c.root)) exit (On went.0) p) (sym run) went.2))
          (λ undefined. inr (alone s w (id, c.root) old (Over an_outcome.Undefined) undefined))
          (goes_on s t w c.root (hiding c.root) old new c.gives (gone_places x phase f id c) agree);
    }

one_stays : (x : ℕ) (phase : Phase) (names : List (List ℕ)) (f : FunctionData) (id : ℕ) → (c : IsErased x phase f id) → (w : World) (p : ℕ × InstrData) → IsOneOf p (all_instrs f.blocks) → (p.0 == id) ≡ false
    → IsFollowed (setting_of x names f) (setting_of x names (without_instr f id)) w (Agree (setting_of x names f) (setting_of x names (without_instr f id)) (hiding c.root))
    (Agree (setting_of x names f) (setting_of x names (without_instr f id)) (hiding c.root)) (AgreeAt (setting_of x names f) (setting_of x names (without_instr f id)) (λ b. hiding c.root)) (p ∷ []) (p ∷ [])
one_stays x phase names f id c w p there other =
    let s = setting_of x names f in
    let t = setting_of x names (without_instr f id) in
    let hidden : Place → Bool = hiding c.root in
    let out : ℕ → State → State → Type 0 = AgreeAt s t (λ b. hidden) in
    let then : Place → Bool = all_shown hidden (written_places (meaning_of p.1.flags p.1.op) p.1.operands) in
    followed_within s t w (Agree s t hidden) (Agree s t hidden) (Agree s t then) (Agree s t hidden) out out (p ∷ []) (p ∷ [])
    (λ old new h. h) (λ old new h. agree_but s t then hidden old new (all_shown_less hidden (written_places (meaning_of p.1.flags p.1.op) p.1.operands)) h) (λ b old new h. h)
    (kept_followed x names s.width t.width w (Agree s t hidden) hidden out (record { by = λ b old new agree. agree }) (λ q. q) p p (kept_alone p.1 p.1 refl) (seen_by_other x phase names f id c p there other)
    (λ old new agree. (agree, uses_hold_alone old p.1.operands)))

-- one after the other
all_follow : (x : ℕ) (phase : Phase) (names : List (List ℕ)) (f : FunctionData) (id : ℕ) → (c : IsErased x phase f id) → (w : World) (is : List (ℕ × InstrData)) → ((p : ℕ × InstrData) → IsOneOf p is → IsOneOf p (all_instrs f.blocks))
    → IsFollowed (setting_of x names f) (setting_of x names (without_instr f id)) w (Agree (setting_of x names f) (setting_of x names (without_instr f id)) (hiding c.root))
    (Agree (setting_of x names f) (setting_of x names (without_instr f id)) (hiding c.root)) (AgreeAt (setting_of x names f) (setting_of x names (without_instr f id)) (λ b. hiding c.root)) is (left f id c.root is)
all_follow x phase names f id c w [] inside = nothing_followed (setting_of x names f) (setting_of x names (without_instr f id)) w _ _
all_follow x phase names f id c w (p ∷ is) inside =
    let s = setting_of x names f in
    let t = setting_of x names (without_instr f id) in
    let agree : State → State → Type 0 = Agree s t (hiding c.root) in
    let out : ℕ → State → State → Type 0 = AgreeAt s t (λ b. hiding c.root) in
    subst (λ l. IsFollowed s t w agree agree out (p ∷ is) l) (sym (left_next f id c.root p is)) (by (p.0 == id) refl (all_follow x phase names f id c w is (λ q there. inside q (inr there))))
  where
    by : (b : Bool) → (p.0 == id) ≡ b
        → IsFollowed (setting_of x names f) (setting_of x names (without_instr f id)) w (Agree (setting_of x names f) (setting_of x names (without_instr f id)) (hiding c.root))
        (Agree (setting_of x names f) (setting_of x names (without_instr f id)) (hiding c.root)) (AgreeAt (setting_of x names f) (setting_of x names (without_instr f id)) (λ b. hiding c.root)) is (left f id c.root is)
        → IsFollowed (setting_of x names f) (setting_of x names (without_instr f id)) w (Agree (setting_of x names f) (setting_of x names (without_instr f id)) (hiding c.root))
        (Agree (setting_of x names f) (setting_of x names (without_instr f id)) (hiding c.root)) (AgreeAt (setting_of x names f) (setting_of x names (without_instr f id)) (λ b. hiding c.root))
        (p ∷ is) (cond b (left f id c.root is) (p ∷ left f id c.root is))
    by true so rest =
        let s = setting_of x names f in
        let t = setting_of x names (without_instr f id) in
        let same : p ≡ (id, c.root) = (erased x phase f id c).root p (inside p (inl refl)) so in
        followed_on s t w (Agree s t (hiding c.root)) (Agree s t (hiding c.root)) (Agree s t (hiding c.root)) (AgreeAt s t (λ b. hiding c.root)) (p ∷ []) [] is (left f id c.root is)
        (subst (λ q. IsFollowed s t w (Agree s t (hiding c.root)) (Agree s t (hiding c.root)) (AgreeAt s t (λ b. hiding c.root)) (q ∷ []) []) (sym same) (one_gone x phase names f id c w (AgreeAt s t (λ b. hiding c.root)))) rest
    by false so rest =
        let s = setting_of x names f in
        let t = setting_of x names (without_instr f id) in
        followed_on s t w (Agree s t (hiding c.root)) (Agree s t (hiding c.root)) (Agree s t (hiding c.root)) (AgreeAt s t (λ b. hiding c.root)) (p ∷ []) (p ∷ []) is (left f id c.root is)
        (one_stays x phase names f id c w p (inside p (inl refl)) so) rest

-- ══ Phis ══

-- a value put in hidden places
hidden_value : (s t : Setting) (hidden : Place → Bool) (ps : List Place) (v : Option ℕ) → AllHidden hidden ps → (σ σ' : Option State) → PhisStand (Agree s t hidden) σ σ' → PhisStand (Agree s t hidden) (put_value σ ps v) σ'
hidden_value s t hidden ps v own None σ' stand = tt
hidden_value s t hidden ps v own (Some old) None stand = absurd stand
hidden_value s t hidden [] v own (Some old) (Some new) stand = tt
hidden_value s t hidden (p ∷ q ∷ ps) v own (Some old) (Some new) stand = tt
hidden_value s t hidden (p ∷ []) None own (Some old) (Some new) stand = tt
hidden_value s t hidden (p ∷ []) (Some v) own (Some old) (Some new) stand = put_hidden s t hidden old new p v own.0 stand

taken_alike : (x : ℕ) (phase : Phase) (names : List (List ℕ)) (f : FunctionData) (id : ℕ) → (c : IsErased x phase f id) → (p : ℕ × InstrData) → IsOneOf p (all_instrs f.blocks) → (p.0 == id) ≡ false → (from : Option ℕ) (old new : State)
    → Agree (setting_of x names f) (setting_of x names (without_instr f id)) (hiding c.root) old new → HasSameValue (value_at old (from_block from p.1.operands)) (value_at new (from_block from p.1.operands))
taken_alike x phase names f id c p there other from old new agree =
    let s = setting_of x names f in
    let t = setting_of x names (without_instr f id) in
    subst (λ r. HasSameValue (value_at old (from_block from p.1.operands)) (value_at new r)) (nothing_renamed (from_block from p.1.operands))
    (taken_same s t (hiding c.root) (λ q. q) old new agree (from_block from p.1.operands) (from_seen s t (hiding c.root) (λ q. q) from p.1.operands (seen_by_other x phase names f id c p there other)) (entries_hold_alone from old (p ∷ [])).0)
  where
    nothing_renamed : (r : Option ℕ) → option_map (λ q. q) r ≡ r
    nothing_renamed None = refl
    nothing_renamed (Some r) = refl

phis_follow : (x : ℕ) (phase : Phase) (names : List (List ℕ)) (f : FunctionData) (id : ℕ) → (c : IsErased x phase f id) → (from : Option ℕ) (old new : State) → Agree (setting_of x names f) (setting_of x names (without_instr f id)) (hiding c.root) old new
    → (is : List (ℕ × InstrData)) → ((p : ℕ × InstrData) → IsOneOf p is → IsOneOf p (all_instrs f.blocks))
    → PhisStand (Agree (setting_of x names f) (setting_of x names (without_instr f id)) (hiding c.root)) (joined old from is) (joined new from (left f id c.root is))
phis_follow x phase names f id c from old new agree [] inside = agree
phis_follow x phase names f id c from old new agree (p ∷ is) inside =
    subst (λ l. PhisStand (Agree s t hidden) (joined old from (p ∷ is)) (joined new from l)) (sym (left_next f id c.root p is))
    (by (p.0 == id) refl (phis_follow x phase names f id c from old new agree is (λ q there. inside q (inr there))))
  where
    s : Setting
    s = setting_of x names f

    t : Setting
    t = setting_of x names (without_instr f id)

    hidden : Place → Bool
    hidden = hiding c.root

    by : (b : Bool) → (p.0 == id) ≡ b → PhisStand (Agree s t hidden) (joined old from is) (joined new from (left f id c.root is))
        → PhisStand (Agree s t hidden) (joined old from (p ∷ is)) (joined new from (cond b (left f id c.root is) (p ∷ left f id c.root is)))
    by true so rest =
        let same : p ≡ (id, c.root) = (erased x phase f id c).root p (inside p (inl refl)) so in
        hidden_value s t hidden (places_of p.1.operands) (value_at old (from_block from p.1.operands)) (subst (λ (q : ℕ × InstrData). AllHidden hidden (places_of q.1.operands)) (sym same) (gone_places x phase f id c))
        (joined old from is) (joined new from (left f id c.root is)) rest
    by false so rest =
        let there : IsOneOf p (all_instrs f.blocks) = inside p (inl refl) in
        let ps : List Place = places_of p.1.operands in
        phis_within (Agree s t (all_shown hidden ps)) (Agree s t hidden) (joined old from (p ∷ is)) (joined new from (p ∷ left f id c.root is))
        (λ a b h. agree_but s t (all_shown hidden ps) hidden a b (all_shown_less hidden ps) h)
        (put_values_stand s t hidden (joined old from is) (joined new from (left f id c.root is)) ps (value_at old (from_block from p.1.operands)) (value_at new (from_block from p.1.operands))
        (places_alike s t hidden (λ q. q) p.1.operands (seen_by_other x phase names f id c p there so)) (taken_alike x phase names f id c p there so from old new agree) rest)

-- ══ Blocks ══

in_phis : (p : ℕ × InstrData) (is : List (ℕ × InstrData)) → IsOneOf p (phis_of is) → IsOneOf p is
in_phis p [] there = there
in_phis p (i ∷ is) there = by (is_phi i.1) there (λ h. in_phis p is h)
  where
    by : (t : Bool) → IsOneOf p (cond t (i ∷ phis_of is) []) → (IsOneOf p (phis_of is) → IsOneOf p is) → IsOneOf p (i ∷ is)
    by true there rest = ⊎_elim (λ same. inl same) (λ later. inr (rest later)) there
    by false there rest = absurd there

in_body : (p : ℕ × InstrData) (is : List (ℕ × InstrData)) → IsOneOf p (after_phis is) → IsOneOf p is
in_body p [] there = there
in_body p (i ∷ is) there = by (is_phi i.1) there (λ h. in_body p is h)
  where
    by : (t : Bool) → IsOneOf p (cond t (after_phis is) (i ∷ is)) → (IsOneOf p (after_phis is) → IsOneOf p is) → IsOneOf p (i ∷ is)
    by true there rest = inr (rest there)
    by false there rest = there

block_follows : (x : ℕ) (phase : Phase) (names : List (List ℕ)) (f : FunctionData) (id : ℕ) → (c : IsErased x phase f id) → (w : World) (b : ℕ) (block : BlockData) → slice_get f.blocks b ≡ Some block
    → IsBlockFollowed (setting_of x names f) (setting_of x names (without_instr f id)) w (AgreeEntering (setting_of x names f) (setting_of x names (without_instr f id)) (λ k. hiding c.root))
    (Agree (setting_of x names f) (setting_of x names (without_instr f id)) (hiding c.root)) (Agree (setting_of x names f) (setting_of x names (without_instr f id)) (hiding c.root))
    (AgreeAt (setting_of x names f) (setting_of x names (without_instr f id)) (λ k. hiding c.root)) b block (block_rewritten (erasing f id c.root) block)
block_follows x phase names f id c w b block found =
    let s = setting_of x names f in
    let t = setting_of x names (without_instr f id) in
    let apart : LeavesApart f id c.root block.instrs = leaves_apart f id c.root block.instrs (none_after x phase f id c b block found [] block.instrs refl refl) in
    let inside = other_inside f b block found in
    record {
      successors = refl;
      phis = λ from old new agree. subst (λ l. PhisStand (Agree s t (hiding c.root)) (joined old from (phis_of block.instrs)) (joined new from l)) (sym apart.phis)
          (phis_follow x phase names f id c from old new agree (phis_of block.instrs) (λ p there. inside p (in_phis p block.instrs there)));
      body = subst (λ l. IsFollowed s t w (Agree s t (hiding c.root)) (Agree s t (hiding c.root)) (AgreeAt s t (λ k. hiding c.root)) (after_phis block.instrs) l) (sym apart.body)
          (all_follow x phase names f id c w (after_phis block.instrs) (λ p there. inside p (in_body p block.instrs there)));
      falls = λ among old new agree. agree;
      leaves = λ k old new agree. agree;
    }

mapped_at : (w : Rewriting) (blocks : List BlockData) (b : ℕ) → slice_get (map (block_rewritten w) blocks) b ≡ option_map (block_rewritten w) (slice_get blocks b)
mapped_at w [] b = refl
mapped_at w (k ∷ blocks) zero = refl
mapped_at w (k ∷ blocks) (suc b) = mapped_at w blocks b

place_follows : (x : ℕ) (phase : Phase) (names : List (List ℕ)) (f : FunctionData) (id : ℕ) → (c : IsErased x phase f id) → (w : World) (b : ℕ) (o : Option BlockData) → slice_get f.blocks b ≡ o
    → PlaceFollowed (setting_of x names f) (setting_of x names (without_instr f id)) w (AgreeEntering (setting_of x names f) (setting_of x names (without_instr f id)) (λ k. hiding c.root))
    (Agree (setting_of x names f) (setting_of x names (without_instr f id)) (hiding c.root)) (Agree (setting_of x names f) (setting_of x names (without_instr f id)) (hiding c.root))
    (AgreeAt (setting_of x names f) (setting_of x names (without_instr f id)) (λ k. hiding c.root)) b o (option_map (block_rewritten (erasing f id c.root)) o)
place_follows x phase names f id c w b None found = tt
place_follows x phase names f id c w b (Some block) found = block_follows x phase names f id c w b block found

pub erased_refines : (x : ℕ) (phase : Phase) (names : List (List ℕ)) (f : FunctionData) (id : ℕ) → IsErased x phase f id → RefinesUnchecked x names f (without_instr f id)
erased_refines x phase names f id c =
    let s = setting_of x names f in
    let t = setting_of x names (without_instr f id) in
    let agree : State → State → Type 0 = Agree s t (hiding c.root) in
    refined_by_following x names f (without_instr f id) (λ w. AgreeEntering s t (λ k. hiding c.root)) (λ w b. agree) (λ w b. agree) (λ w b. AgreeAt s t (λ k. hiding c.root))
    (λ w is_world. record { values = λ r seen. tt; words = λ n seen. refl; memory = refl; taken = refl })
    (λ w is_world. record {
      places = λ b.
          subst (λ o. PlaceFollowed s t w (AgreeEntering s t (λ k. hiding c.root)) agree agree (AgreeAt s t (λ k. hiding c.root)) b (slice_get f.blocks b) o)
          (sym (ap (λ l. slice_get l b) (erased x phase f id c).blocks ∙ mapped_at (erasing f id c.root) f.blocks b))
          (place_follows x phase names f id c w b (slice_get f.blocks b) refl);
      memory = λ from b old new h. h.memory;
      taken = λ from b old new h. h.taken;
    })
