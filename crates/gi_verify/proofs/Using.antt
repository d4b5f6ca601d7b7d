-- What instructions use of the registers of a round.
use Rattle.std.proofs.Common.{◌≡◌, ℕ, ◌+◌, ◌<◌, ◌≤◌, Bool, true, false, not, ◌&&◌, ◌||◌, ◌==◌, List, [], ◌∷◌, Some, None, length, take, get_or, ⊎_elim, refl, sym, ap, ◌∙◌, subst, true≢false, arith}
use Rattle.std.specs.Prelude.{slice_get}
use Rattle.std.specs.List.{list_any}
use Rattle.std.proofs.lemmas.Bool.{or_cases, or_left, or_right, eqb-true}
use Rattle.std.proofs.lemmas.Option.{same_Some, slice_get-get_or}
use Rattle.gi_mir.specs.Data.{InstrData, FunctionData}
use Rattle.gi_mir.specs.Edit.{is_def_of, is_use_of}
use Rattle.gi_mir.specs.Places.{body_at}
use Rattle.gi_mir.specs.declared.operand.Operand.{Operand}
use Rattle.gi_mir.specs.declared.operand.Operand.TheVariants as operand
use Rattle.gi_meaning.specs.Runs.{is_phi}
use Rattle.gi_valid.specs.Available.{is_origin}
use Rattle.gi_valid.specs.Definitions.{is_pure}
use Rattle.gi_verify.specs.declared.change.Change.{Change}
use Rattle.gi_verify.specs.declared.seen.Seen.{Seen}
use Rattle.gi_verify.specs.Rounds.{has, is_named, is_taken, is_user, AreChanges, AreSureEntries, AreSureIn, AreSureOf, AreSureTo, IsChange, IsClosed, IsComputedAt, IsSeen, IsShrunk, IsSure, IsSureEntry, IsWordOf, RoundData}
use Rattle.gi_verify.specs.Sets.{marked, IsAnswer}
use Rattle.gi_verify.proofs.Closing.{answer}
use Rattle.gi_verify.proofs.Marking.{below_next}
use Rattle.gi_verify.proofs.Ordering.{place_within}

origin_at : (t : ℕ → Bool) (z : ℕ) (os : List Operand) → list_any (is_def_of z) os ≡ true → t z ≡ true → list_any (is_origin t) os ≡ true
origin_at t z [] h is = cc
origin_at t z (operand.Def r kind ∷ os) h is =
    ⊎_elim (λ here. or_left (t r.0) (list_any (is_origin t) os) (subst (λ n. t n ≡ true) (sym (eqb-true r.0 z here)) is)) (λ later. or_right (t r.0) (list_any (is_origin t) os) (origin_at t z os later is))
    (or_cases (r.0 == z) (list_any (is_def_of z) os) h)
origin_at t z (_ ∷ os) h is = origin_at t z os h is

user_at : (t : ℕ → Bool) (x : ℕ) (os : List Operand) → list_any (is_use_of x) os ≡ true → t x ≡ true → list_any (is_user t) os ≡ true
user_at t x [] h is = cc
user_at t x (operand.Use r ∷ os) h is =
    ⊎_elim (λ here. or_left (t r.0) (list_any (is_user t) os) (subst (λ n. t n ≡ true) (sym (eqb-true r.0 x here)) is)) (λ later. or_right (t r.0) (list_any (is_user t) os) (user_at t x os later is))
    (or_cases (r.0 == x) (list_any (is_use_of x) os) h)
user_at t x (_ ∷ os) h is = user_at t x os h is

pub computed_at : (round : RoundData) (p : ℕ × InstrData) (seen : Seen) (from : ℕ) → IsSeen round p.1.operands seen → IsWordOf (λ n. has seen.made n || has seen.taken n) from → ((n : ℕ) → n < 64 → has from n ≡ true → has seen.strange n ≡ true → ⊥) → IsComputedAt round p
computed_at round p seen from are one apart = record { by = λ pure n z x h defined used way. by n h x used (from_is n h z defined way) (is_taken round n x) refl }
  where
    from_is : (n : ℕ) → n < 64 → (z : ℕ) → list_any (is_def_of z) p.1.operands ≡ true → (is_named round n z || is_taken round n z) ≡ true → has from n ≡ true
    from_is n h z defined way =
        one.by n h
        ∙ ⊎_elim (λ l. or_left (has seen.made n) (has seen.taken n) (are.made.by n h ∙ origin_at (is_named round n) z p.1.operands defined l))
        (λ l. or_right (has seen.made n) (has seen.taken n) (are.taken.by n h ∙ origin_at (is_taken round n) z p.1.operands defined l))
        (or_cases (is_named round n z) (is_taken round n z) way)

    by : (n : ℕ) → n < 64 → (x : ℕ) → list_any (is_use_of x) p.1.operands ≡ true → has from n ≡ true → (t : Bool) → is_taken round n x ≡ t → is_taken round n x ≡ true
    by n h x used way true so = so
    by n h x used way false so =
        absurd (apart n h way (are.strange.by n h ∙ user_at (λ y. not (is_taken round n y)) x p.1.operands used (ap not so)))

pub never_pure : (round : RoundData) (p : ℕ × InstrData) → is_pure p.1 ≡ false → IsComputedAt round p
never_pure round p other = record { by = λ pure. absurd (true≢false (sym pure ∙ other)) }

-- ══ Uses ══

pub sure_use : (f : FunctionData) (round : RoundData) (starts : List ℕ) → IsClosed f round starts → (b : ℕ) → b < length f.blocks → (p : ℕ × InstrData) (seen : Seen) → IsSeen round p.1.operands seen → is_phi p.1 ≡ false → (change : Change) (there : ℕ)
    → IsWordOf (λ n. has change.made n || (has (get_or starts b 0) n && has change.kept n)) there → ((n : ℕ) → n < 64 → has seen.used n ≡ true → has there n ≡ true)
    → (front : List (ℕ × InstrData)) → IsChange round front change → IsSure f round b front p
sure_use f round starts closed b within p seen are other change there word inside front changed = record {
  body = λ l n x h named used.
      answer f round starts closed n x h named b within front change changed
      (sym (word.by n h) ∙ inside n h (are.used.by n h ∙ user_at (is_named round n) x p.1.operands used named));
  entries = λ phi. absurd (true≢false (sym phi ∙ other));
}

pub sure_phi : (f : FunctionData) (round : RoundData) (b : ℕ) (p : ℕ × InstrData) → is_phi p.1 ≡ true → AreSureEntries f round p.1.operands → (front : List (ℕ × InstrData)) → IsSure f round b front p
sure_phi f round b p phi are front = record { body = λ other. absurd (true≢false (sym phi ∙ other)); entries = λ l. are }

pub sure_end : (f : FunctionData) (round : RoundData) (changes : List Change) (starts : List ℕ) → AreChanges f round changes → IsClosed f round starts → (r a : ℕ) → a < length f.blocks → (change d : Change) → change ≡ get_or changes a d → (named start end : ℕ) → start ≡ get_or starts a 0
    → IsWordOf (λ n. has change.made n || (has start n && has change.kept n)) end → IsWordOf (λ n. is_named round n r) named → ((n : ℕ) → n < 64 → has named n ≡ true → has end n ≡ true) → IsSureEntry f round (Some (r, a))
sure_end f round changes starts are closed r a within change d is named start end from word own inside = record {
  by = λ n x c h place entry inside_c.
      let same : (r, a) ≡ (x, c) = same_Some (r, a) (x, c) entry in
      let here : slice_get changes a ≡ Some change = slice_get-get_or changes a d (subst (λ k. a < k) (sym are.count) within) ∙ ap Some (sym is) in
      let mine : is_named round n r ≡ true = subst (λ y. is_named round n y ≡ true) (sym (ap (λ e. e.0) same)) place in
      subst (λ (e : ℕ × ℕ). IsAnswer f e.0 e.1 (body_at f.blocks e.1).instrs true) same
      (answer f round starts closed n r h mine a within (body_at f.blocks a).instrs change (are.by a change here) (ap (λ w. has change.made n || (has w n && has change.kept n)) (sym from) ∙ sym (word.by n h) ∙ inside n h (own.by n h ∙ mine)));
}

pub sure_past : (f : FunctionData) (round : RoundData) (r a : ℕ) → length f.blocks ≤ a → IsSureEntry f round (Some (r, a))
sure_past f round r a past = record { by = λ n x c h place entry within. absurd (never (subst (λ k. k < length f.blocks) (sym (ap (λ e. e.1) (same_Some (r, a) (x, c) entry))) within)) }
  where
    never : a < length f.blocks → ⊥
    never h = omega (arith, h, past)

pub sure_nothing : (f : FunctionData) (round : RoundData) → IsSureEntry f round None
sure_nothing f round = record { by = λ n x a h place entry. absurd (never entry) }
  where
    never : {x : ℕ × ℕ} → None ≡ Some x → ⊥
    never h = cc

-- ══ Marks ══

pub shrunk_none : (marks : List Bool) → IsShrunk marks marks
shrunk_none marks = record { by = λ k h. h }

pub shrunk_then : (a b c : List Bool) → IsShrunk a b → IsShrunk b c → IsShrunk a c
shrunk_then a b c first then = record { by = λ k h. first.by k (then.by k h) }

pub sure_in_on : (f : FunctionData) (round : RoundData) (b k : ℕ) (old new : List Bool) (q : ℕ × InstrData) (change : Change) → slice_get (body_at f.blocks b).instrs k ≡ Some q → AreSureTo f round old b k → IsShrunk old new
    → (marked new q.0 ≡ true → (front : List (ℕ × InstrData)) → IsChange round front change → IsSure f round b front q) → IsChange round (take k (body_at f.blocks b).instrs) change → AreSureTo f round new b (k + 1)
sure_in_on f round b k old new q change here are shrunk one changed = record {
  by = λ j p h at mark.
      ⊎_elim (λ below. are.by j p below at (shrunk.by p.0 mark))
      (λ same.
      let it : q ≡ p = same_Some q p (sym here ∙ ap (slice_get (body_at f.blocks b).instrs) (sym same) ∙ at) in
      subst (λ i. IsSure f round b (take i (body_at f.blocks b).instrs) p) (sym same)
      (subst (IsSure f round b (take k (body_at f.blocks b).instrs)) it (one (subst (λ (i : ℕ × InstrData). marked new i.0 ≡ true) (sym it) mark) (take k (body_at f.blocks b).instrs) changed)))
      (below_next j k h);
}

pub sure_in_none : (f : FunctionData) (round : RoundData) (b : ℕ) (fine : List Bool) → AreSureTo f round fine b 0
sure_in_none f round b fine = record { by = λ j p h. absurd (never j h) }
  where
    never : (j : ℕ) → j < 0 → ⊥
    never j h = omega (arith, h)

pub sure_in_all : (f : FunctionData) (round : RoundData) (b k : ℕ) (fine : List Bool) → length (body_at f.blocks b).instrs ≤ k → AreSureTo f round fine b k → AreSureIn f round fine b
sure_in_all f round b k fine past are = record { by = λ j p at mark. are.by j p (less j (length (body_at f.blocks b).instrs) (place_within (body_at f.blocks b).instrs j p at) past) at mark }
  where
    less : (i n : ℕ) → i < n → n ≤ k → i < k
    less i n h g = omega (arith, h, g)

pub record AreSureBelow (f : FunctionData) (round : RoundData) (fine : List Bool) (end : ℕ) : Type 0 where
  pub by : (b : ℕ) → b < end → AreSureIn f round fine b

pub sure_none_below : (f : FunctionData) (round : RoundData) (fine : List Bool) → AreSureBelow f round fine 0
sure_none_below f round fine = record { by = λ b h. absurd (never b h) }
  where
    never : (j : ℕ) → j < 0 → ⊥
    never j h = omega (arith, h)

still_sure : (f : FunctionData) (round : RoundData) (b : ℕ) (old new : List Bool) → IsShrunk old new → AreSureIn f round old b → AreSureIn f round new b
still_sure f round b old new shrunk are = record { by = λ j p at mark. are.by j p at (shrunk.by p.0 mark) }

pub sure_below_on : (f : FunctionData) (round : RoundData) (b : ℕ) (old new : List Bool) → AreSureBelow f round old b → IsShrunk old new → AreSureIn f round new b → AreSureBelow f round new (b + 1)
sure_below_on f round b old new are shrunk one = record {
  by = λ a h. ⊎_elim (λ below. still_sure f round a old new shrunk (are.by a below)) (λ same. subst (AreSureIn f round new) (sym same) one) (below_next a b h);
}

pub sure_all : (f : FunctionData) (round : RoundData) (b : ℕ) (fine : List Bool) → length f.blocks ≤ b → ((a k : ℕ) (p : ℕ × InstrData) → slice_get (body_at f.blocks a).instrs k ≡ Some p → a < length f.blocks) → AreSureBelow f round fine b → AreSureOf f round fine
sure_all f round b fine past within are = record { by = λ a. record { by = λ k p at mark. (are.by a (less a (length f.blocks) (within a k p at) past)).by k p at mark } }
  where
    less : (i n : ℕ) → i < n → n ≤ b → i < b
    less i n h g = omega (arith, h, g)
