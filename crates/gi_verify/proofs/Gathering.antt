-- Blocks of a round, one after the other.
use Rattle.std.proofs.Common.{◌≡◌, ℕ, zero, suc, ◌+◌, ◌<◌, ◌≤◌, Bool, true, false, not, ◌&&◌, ◌||◌, ◌==◌, List, [], ◌∷◌, ◌++◌, Some, None, length, take, get_or, ◌⊎◌, inl, inr, ⊎_elim, refl, sym, ap, ◌∙◌, subst, true≢false, arith, take_all}
use Rattle.std.specs.Prelude.{slice_get}
use Rattle.std.proofs.lemmas.Bool.{or_cases, eqb-true}
use Rattle.std.proofs.lemmas.Option.{same_Some, slice_get-get_or}
use Rattle.gi_mir.specs.Data.{InstrData, FunctionData}
use Rattle.gi_mir.specs.Places.{body_at}
use Rattle.gi_meaning.specs.Runs.{is_among}
use Rattle.gi_valid.specs.Available.{successors_of}
use Rattle.gi_verify.specs.declared.change.Change.{Change}
use Rattle.gi_verify.specs.declared.rounds.Block.{Block}
use Rattle.gi_verify.specs.Rounds.{has, is_taken, AreChanges, AreMadeInReach, AreWithin, IsApartAt, IsChange, IsComputedAt, IsJoinedAt, IsPassedOver, IsWordOf, RoundData}
use Rattle.gi_verify.specs.Sets.{marked}
use Rattle.gi_verify.proofs.Bits.{none_in}
use Rattle.gi_verify.proofs.Closing.{behind_made}
use Rattle.gi_verify.proofs.Growing.{among_more}
use Rattle.gi_verify.proofs.Marking.{below_next, taken_next}
use Rattle.gi_verify.proofs.Ordering.{place_within}

got_last : {X : Type 0} (xs : List X) (x m : X) (k : ℕ) → slice_get (xs ++ x ∷ []) k ≡ Some m → (slice_get xs k ≡ Some m) ⊎ ((k ≡ length xs) × (m ≡ x))
got_last [] x m zero h = inr (refl, sym (same_Some x m h))
got_last [] x m (suc k) h = absurd (nothing h)
  where
    nothing : None ≡ Some m → ⊥
    nothing h = cc
got_last (y ∷ xs) x m zero h = inl h
got_last (y ∷ xs) x m (suc k) h = ⊎_elim (λ l. inl l) (λ r. inr (ap suc r.0, r.1)) (got_last xs x m k h)

-- ══ Instructions of a block ══

pub over_none : (round : RoundData) (block : Block) → IsChange round [] block.change → IsPassedOver round [] block
over_none round block change = record { change = change; computed = λ so k p at. absurd (nothing k p at) }
  where
    nothing : (k : ℕ) (p : ℕ × InstrData) → slice_get [] k ≡ Some p → ⊥
    nothing k p h = cc

pub over_one : (round : RoundData) (p : ℕ × InstrData) (old new : Block) (is_computed : Bool) → ((front : List (ℕ × InstrData)) → IsChange round front old.change → IsChange round (front ++ p ∷ []) new.change)
    → new.is_computed ≡ is_computed → (is_computed ≡ true → (old.is_computed ≡ true) × IsComputedAt round p)
    → (front : List (ℕ × InstrData)) → IsPassedOver round front old → IsPassedOver round (front ++ p ∷ []) new
over_one round p old new is_computed change same one front before = record {
  change = change front before.change;
  computed = λ so k q at.
      let both : (old.is_computed ≡ true) × IsComputedAt round p = one (sym same ∙ so) in
      ⊎_elim (λ was. before.computed both.0 k q was) (λ last. subst (IsComputedAt round) (sym last.1) both.1) (got_last front p q k at);
}

pub over_all : (round : RoundData) (instrs : List (ℕ × InstrData)) (k : ℕ) → length instrs ≤ k → (block : Block) → IsPassedOver round (take k instrs) block → IsPassedOver round instrs block
over_all round instrs k past block are = subst (λ l. IsPassedOver round l block) (take_all k instrs past) are

-- ══ Blocks ══

pub record AreChangesTo (f : FunctionData) (round : RoundData) (changes : List Change) (end : ℕ) : Type 0 where
  pub count : length changes ≡ end
  pub by : (b : ℕ) (change : Change) → slice_get changes b ≡ Some change → IsChange round (body_at f.blocks b).instrs change
  pub computed : (b k : ℕ) (p : ℕ × InstrData) → b < end → slice_get (body_at f.blocks b).instrs k ≡ Some p → IsComputedAt round p

length_with : {X : Type 0} (xs : List X) (x : X) → length (xs ++ x ∷ []) ≡ length xs + 1
length_with [] x = refl
length_with (y ∷ xs) x = more (length (xs ++ x ∷ [])) (length xs) (length_with xs x)
  where
    more : (m n : ℕ) → m ≡ n + 1 → suc m ≡ suc n + 1
    more m n h = omega (arith, h)

pub no_changes : (f : FunctionData) (round : RoundData) → AreChangesTo f round [] 0
no_changes f round = record { count = refl; by = λ b c h. absurd (nothing b c h); computed = λ b k p h at. absurd (never b h) }
  where
    nothing : (b : ℕ) (c : Change) → slice_get [] b ≡ Some c → ⊥
    nothing b c h = cc

    never : (b : ℕ) → b < 0 → ⊥
    never b h = omega (arith, h)

pub changes_on : (f : FunctionData) (round : RoundData) (old new : List Change) (b : ℕ) (block : Block) → AreChangesTo f round old b → IsPassedOver round (body_at f.blocks b).instrs block → block.is_computed ≡ true → new ≡ old ++ block.change ∷ []
    → AreChangesTo f round new (b + 1)
changes_on f round old new b block are one computed grown = record {
  count = ap length grown ∙ length_with old block.change ∙ ap (λ n. n + 1) are.count;
  by = λ a c h.
      ⊎_elim (λ was. are.by a c was)
      (λ last. subst (λ n. IsChange round (body_at f.blocks n).instrs c) (sym (last.0 ∙ are.count)) (subst (IsChange round (body_at f.blocks b).instrs) (sym last.1) one.change))
      (got_last old block.change c a (ap (λ l. slice_get l a) (sym grown) ∙ h));
  computed = λ a k p h at. ⊎_elim (λ below. are.computed a k p below at) (λ same. one.computed computed k p (ap (λ n. slice_get (body_at f.blocks n).instrs k) (sym same) ∙ at)) (below_next a b h);
}

pub not_out : (t : Bool) → not t ≡ false → t ≡ true
not_out true h = refl
not_out false h = absurd (true≢false h)

pub all_changes : (f : FunctionData) (round : RoundData) (changes : List Change) (b : ℕ) → b ≡ length f.blocks → AreChangesTo f round changes b → ((a k : ℕ) (p : ℕ × InstrData) → slice_get (body_at f.blocks a).instrs k ≡ Some p → a < length f.blocks) → AreChanges f round changes
all_changes f round changes b whole are within = record { count = are.count ∙ whole; by = are.by; computed = λ a k p at. are.computed a k p (subst (λ n. a < n) (sym whole) (within a k p at)) at }

-- ══ Starts ══

pub within_none : (starts : List ℕ) (blocks : List ℕ) (end : ℕ) → AreWithin starts (take 0 blocks) end
within_none starts blocks end = record { by = λ b n among. absurd (true≢false (sym among)) }

pub within_on : (starts : List ℕ) (blocks : List ℕ) (k : ℕ) (end : ℕ) → k < length blocks → AreWithin starts (take k blocks) end → ((n : ℕ) → n < 64 → has (get_or starts (get_or blocks k 0) 0) n ≡ true → has end n ≡ true) → AreWithin starts (take (k + 1) blocks) end
within_on starts blocks k end within are one = record {
  by = λ b n among h there.
      ⊎_elim (λ before. are.by b n before h there) (λ here. one n h (subst (λ m. has (get_or starts m 0) n ≡ true) (eqb-true b (get_or blocks k 0) here) there))
      (or_cases (is_among b (take k blocks)) (b == get_or blocks k 0) (sym (among_more b (get_or blocks k 0) (take k blocks)) ∙ sym (ap (is_among b) (taken_next blocks k within)) ∙ among));
}

pub within_all : (starts : List ℕ) (blocks : List ℕ) (k : ℕ) (end : ℕ) → length blocks ≤ k → AreWithin starts (take k blocks) end → AreWithin starts blocks end
within_all starts blocks k end past are = subst (λ l. AreWithin starts l end) (take_all k blocks past) are

pub joined_at : (f : FunctionData) (reached : List Bool) (changes : List Change) (starts : List ℕ) (a end : ℕ) (change d : Change) → change ≡ get_or changes a d → IsWordOf (λ n. has change.made n || (has (get_or starts a 0) n && has change.kept n)) end
    → AreWithin starts (successors_of f a) end → IsJoinedAt f reached changes starts a
joined_at f reached changes starts a end change d is are within = record {
  by = λ mark c at b n among h there.
      let same : change ≡ c = is ∙ same_Some (get_or changes a d) c (sym (slice_get-get_or changes a d (place_within changes a c at)) ∙ at) in
      subst (λ k. (has k.made n || (has (get_or starts a 0) n && has k.kept n)) ≡ true) same (sym (are.by n h) ∙ within.by b n among h there);
}

pub joined_out : (f : FunctionData) (reached : List Bool) (changes : List Change) (starts : List ℕ) (a : ℕ) → marked reached a ≡ false → IsJoinedAt f reached changes starts a
joined_out f reached changes starts a out = record { by = λ mark. absurd (true≢false (sym mark ∙ out)) }

pub made_none : (f : FunctionData) (round : RoundData) (reached : List Bool) → AreMadeInReach f round reached 0
made_none f round reached = record { by = λ n r h named l. absurd (true≢false (sym l ∙ none_in n)) }

pub made_on : (f : FunctionData) (round : RoundData) (reached : List Bool) (changes : List Change) → AreChanges f round changes → (a : ℕ) → a < length f.blocks → marked reached a ≡ true → (change d : Change) → change ≡ get_or changes a d → (old new : ℕ)
    → AreMadeInReach f round reached old → IsWordOf (λ n. has old n || has change.made n) new → AreMadeInReach f round reached new
made_on f round reached changes all a within mark change d is old new are one = record {
  by = λ n r h named l.
      ⊎_elim (λ was. are.by n r h named was)
      (λ here.
      let at : slice_get changes a ≡ Some change = slice_get-get_or changes a d (subst (λ k. a < k) (sym all.count) within) ∙ ap Some (sym is) in
      record {
        block = a;
        within = within;
        is_marked = mark;
        defined = behind_made r (is_taken round n) (body_at f.blocks a).instrs ((all.by a change at).by n r h named false (ap (λ t. t || false) here));
      })
      (or_cases (has old n) (has change.made n) (sym (one.by n h) ∙ l));
}

pub apart_at : (reached : List Bool) (starts : List ℕ) (made b : ℕ) → ((n : ℕ) → n < 64 → has (get_or starts b 0) n ≡ true → has made n ≡ true) → IsApartAt reached starts made b
apart_at reached starts made b within = record { by = λ out n h there. within n h there }

pub apart_in : (reached : List Bool) (starts : List ℕ) (made b : ℕ) → marked reached b ≡ true → IsApartAt reached starts made b
apart_in reached starts made b mark = record { by = λ out. absurd (true≢false (sym mark ∙ out)) }
