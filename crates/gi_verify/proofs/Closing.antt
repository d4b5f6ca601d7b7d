-- The sets of a round's registers are contained as asked.
use Rattle.std.proofs.Common.{◌≡◌, ℕ, zero, suc, ◌<◌, ◌≤◌, Bool, true, false, not, ◌&&◌, ◌||◌, List, [], ◌∷◌, Option, Some, None, length, get_or, ◌⊎◌, inl, inr, ⊎_elim, refl, sym, ap, ◌∙◌, subst, true≢false, arith, cond}
use Rattle.std.specs.Prelude.{slice_get}
use Rattle.std.specs.List.{list_any}
use Rattle.std.proofs.lemmas.Bool.{or_cases, or_left, or_right, and_parts}
use Rattle.std.proofs.lemmas.List.{get_or_past}
use Rattle.gi_mir.specs.Data.{InstrData, FunctionData}
use Rattle.gi_mir.specs.Edit.{defines, uses as use_of}
use Rattle.gi_meaning.specs.Runs.{is_phi, phis_of, after_phis}
use Rattle.gi_valid.specs.Available.{defines_origin, IsReachedBlock, at_once, one_by_one, behind, IsDefinedInReach}
use Rattle.gi_valid.specs.Definitions.{definition, is_pure, uses_purely, IsComputedOver}
use Rattle.gi_valid.proofs.Existing.{source_within, within_or_past}
use Rattle.gi_valid.proofs.Greatest.{more_behind}
use Rattle.gi_verify.specs.declared.change.Change.{Change}
use Rattle.gi_verify.specs.Rounds.{has, is_named, is_taken, extent_of, AreChanges, AreMadeInReach, IsApartAt, IsChange, IsClosed, IsJoinedAt, RoundData}
use Rattle.gi_verify.specs.Sets.{marked, AreReachedBlocks, IsAnswer, IsMarkedIn}
use Rattle.gi_verify.proofs.Bits.{none_in}
use Rattle.gi_verify.proofs.Sooner.{IsFoundIn, found_in}

-- ══ What registers are computed from ══

definition_uses : (f : FunctionData) (round : RoundData) (changes : List Change) → AreChanges f round changes → (n z x : ℕ) → n < 64 → uses_purely (definition f z) x ≡ true → (is_named round n z || is_taken round n z) ≡ true → is_taken round n x ≡ true
definition_uses f round changes are n z x h uses from = by (definition f z) refl uses
  where
    by : (o : Option (ℕ × InstrData)) → definition f z ≡ o → uses_purely o x ≡ true → is_taken round n x ≡ true
    by None is l = absurd (true≢false (sym l))
    by (Some p) is l =
        let there : IsFoundIn f.blocks z p = found_in f.blocks z p is in
        let both : (is_pure p.1 ≡ true) × (use_of x p ≡ true) = and_parts (is_pure p.1) (use_of x p) l in
        (are.computed there.block there.place p there.at).by both.0 n z x h there.defined both.1 from

computed_over : (f : FunctionData) (round : RoundData) (changes : List Change) → AreChanges f round changes → (n : ℕ) → n < 64 → (others z x : ℕ) → IsComputedOver others f z x → (is_named round n z || is_taken round n z) ≡ true → is_taken round n x ≡ true
computed_over f round changes are n h zero z x over from = definition_uses f round changes are n z x h over from
computed_over f round changes are n h (suc others) z x over from =
    computed_over f round changes are n h others over.0 x over.2 (or_right (is_named round n over.0) (is_taken round n over.0) (definition_uses f round changes are n z over.0 h over.1 from))

-- ══ Blocks ══

some_change : (changes : List Change) (a : ℕ) → a < length changes → (change : Change) × (slice_get changes a ≡ Some change)
some_change [] a h = absurd (never a h)
  where
    never : (a : ℕ) → a < 0 → ⊥
    never a h = omega (arith, h)
some_change (c ∷ cs) zero h = (c, refl)
some_change (c ∷ cs) (suc a) h = some_change cs a (less a (length cs) h)
  where
    less : (a n : ℕ) → suc a < suc n → a < n
    less a n h = omega (arith, h)

pub closed : (f : FunctionData) (round : RoundData) (reached : List Bool) (changes : List Change) (starts : List ℕ) (made : ℕ) → AreReachedBlocks f reached → AreChanges f round changes → AreMadeInReach f round reached made
    → length starts ≡ length f.blocks → get_or starts 0 0 ≡ 0 → ((a : ℕ) → a < length f.blocks → IsJoinedAt f reached changes starts a) → ((b : ℕ) → b < length f.blocks → IsApartAt reached starts made b) → IsClosed f round starts
closed f round reached changes starts made are_reached are are_made count first joined apart = record {
  by = λ n r h named. record {
    computed = λ x from. computed_over f round changes are n h from.others r x from.over (or_left (is_named round n r) (is_taken round n r) named);
    first = ap (λ w. has w n) first ∙ none_in n;
    joined = λ a b is_reached among there.
        let within : a < length f.blocks = source_within f a b among in
        let mark : marked reached a ≡ true = are_reached.whole a within is_reached in
        let one : (change : Change) × (slice_get changes a ≡ Some change) = some_change changes a (subst (λ k. a < k) (sym are.count) within) in
        (are.by a one.0 one.1).by n r h named (has (get_or starts a 0) n) ((joined a within).by mark one.0 one.1 b n among h there);
    apart = λ b unreached there.
        ⊎_elim
        (λ within. reach_of ((are_made.by n r h named) ((apart b within).by (unmarked b within unreached (marked reached b) refl) n h there)))
        (λ past. absurd (true≢false (sym there ∙ ap (λ w. has w n) (get_or_past starts b 0 (subst (λ k. k ≤ b) (sym count) past)) ∙ none_in n)))
        (within_or_past b (length f.blocks));
  };
}
  where
    reach_of : {r : ℕ} → IsMarkedIn f r reached → IsDefinedInReach f r
    reach_of is = record { block = is.block; reached = are_reached.sound is.block is.is_marked; defined = is.defined }

    unmarked : (b : ℕ) → b < length f.blocks → (IsReachedBlock f b → ⊥) → (t : Bool) → marked reached b ≡ t → marked reached b ≡ false
    unmarked b within un true so = absurd (un (are_reached.sound b so))
    unmarked b within un false so = so

-- ══ Answers ══

pub answer : (f : FunctionData) (round : RoundData) (starts : List ℕ) → IsClosed f round starts → (n r : ℕ) → n < 64 → is_named round n r ≡ true → (b : ℕ) → b < length f.blocks → (front : List (ℕ × InstrData)) (change : Change) → IsChange round front change
    → (has change.made n || (has (get_or starts b 0) n && has change.kept n)) ≡ true → IsAnswer f r b front true
answer f round starts is n r h named b within front change changed there = record {
  by = λ extent greatest.
      sym (more_behind r extent.origins (is_taken round n) (λ x taken. (is.by n r h named).computed x (greatest.alone x taken)) (has (get_or starts b 0) n) (extent.starts b)
      (λ here. greatest.greatest (extent_of round starts n) (is.by n r h named) b within here) front (changed.by n r h named (has (get_or starts b 0) n) there));
}

-- ══ What is made in reached blocks ══

made_once : (r : ℕ) (o : ℕ → Bool) (is : List (ℕ × InstrData)) → at_once r o false is ≡ true → list_any (defines r) is ≡ true
made_once r o is h = ⊎_elim (λ l. l) (λ l. absurd (true≢false (sym l))) (or_cases (list_any (defines r) is) false h)

made_later : (r : ℕ) (o : ℕ → Bool) (here : Bool) (is : List (ℕ × InstrData)) → one_by_one r o here is ≡ true → (here ≡ true) ⊎ (list_any (defines r) is ≡ true)
made_later r o here [] h = inl h
made_later r o here (i ∷ is) h =
    ⊎_elim
    (λ now. ⊎_elim (λ l. inr (or_left (defines r i) (list_any (defines r) is) (only (defines r i) l))) (λ l. inl (and_parts here (not (list_any (defines_origin o) (i ∷ []))) l).0)
    (or_cases (list_any (defines r) (i ∷ [])) (here && not (list_any (defines_origin o) (i ∷ []))) now))
    (λ later. inr (or_right (defines r i) (list_any (defines r) is) later)) (made_later r o (at_once r o here (i ∷ [])) is h)
  where
    only : (t : Bool) → (t || false) ≡ true → t ≡ true
    only true h = refl
    only false h = h

in_either : (r : ℕ) (is : List (ℕ × InstrData)) → (list_any (defines r) (phis_of is) ≡ true) ⊎ (list_any (defines r) (after_phis is) ≡ true) → list_any (defines r) is ≡ true
in_either r [] h = ⊎_elim (λ l. l) (λ l. l) h
in_either r (i ∷ is) h = by (is_phi i.1) h (λ l. in_either r is l)
  where
    by : (t : Bool) → (list_any (defines r) (cond t (i ∷ phis_of is) []) ≡ true) ⊎ (list_any (defines r) (cond t (after_phis is) (i ∷ is)) ≡ true)
        → ((list_any (defines r) (phis_of is) ≡ true) ⊎ (list_any (defines r) (after_phis is) ≡ true) → list_any (defines r) is ≡ true) → list_any (defines r) (i ∷ is) ≡ true
    by true h rest =
        ⊎_elim (λ l. ⊎_elim (λ a. or_left (defines r i) (list_any (defines r) is) a) (λ a. or_right (defines r i) (list_any (defines r) is) (rest (inl a))) (or_cases (defines r i) (list_any (defines r) (phis_of is)) l))
        (λ l. or_right (defines r i) (list_any (defines r) is) (rest (inr l))) h
    by false h rest = ⊎_elim (λ l. absurd (true≢false (sym l))) (λ l. l) h

pub behind_made : (r : ℕ) (o : ℕ → Bool) (is : List (ℕ × InstrData)) → behind r o false is ≡ true → list_any (defines r) is ≡ true
behind_made r o is h = in_either r is (⊎_elim (λ l. inl (made_once r o (phis_of is) l)) (λ l. inr l) (made_later r o (at_once r o false (phis_of is)) (after_phis is) h))
