-- What the front of a block makes of the registers of a round, one instruction after the other.
use Rattle.std.proofs.Common.{◌≡◌, ℕ, ◌+◌, ◌<◌, Bool, true, false, cond, not, ◌&&◌, ◌||◌, ◌==◌, List, [], ◌∷◌, ◌++◌, Option, Some, None, get_or, ⊎_elim, refl, sym, ap, ap₂, ◌∙◌, subst, true≢false}
use Rattle.std.specs.List.{list_all, list_any}
use Rattle.std.specs.Option.{option_map_or}
use Rattle.std.proofs.lemmas.Bool.{or_cases, or_left, or_right, and_parts, eqb-true, eq-eqb}
use Rattle.gi_mir.specs.Data.{InstrData}
use Rattle.gi_mir.specs.Edit.{is_def_of, defines}
use Rattle.gi_mir.specs.declared.operand.Operand.{Operand}
use Rattle.gi_mir.specs.declared.operand.Operand.TheVariants as operand
use Rattle.gi_meaning.specs.Runs.{is_phi, phis_of, after_phis}
use Rattle.gi_valid.specs.Available.{is_origin, defines_origin, at_once, one_by_one, behind}
use Rattle.gi_verify.specs.declared.change.Change.{Change}
use Rattle.gi_verify.specs.declared.seen.Seen.{Seen}
use Rattle.gi_verify.specs.Rounds.{has, is_named, is_taken, IsChange, IsSeen, IsWordOf, RoundData}
use Rattle.gi_verify.specs.Sets.{place_of}
use Rattle.gi_verify.proofs.Listing.{place_is}
use Rattle.gi_verify.proofs.Passing.{all_with, any_with, or_nothing}

-- ══ Registers of a round ══

-- two of one place are one
named_at : (keys : List ℕ) (i x : ℕ) (o : Option ℕ) → place_of keys x ≡ o → option_map_or (λ j. j == i) o false ≡ true → x ≡ get_or keys i 0
named_at keys i x None at h = cc
named_at keys i x (Some j) at h = subst (λ n. x ≡ get_or keys n 0) (eqb-true j i h) (place_is keys x j at)

pub one_named : (round : RoundData) (n x y : ℕ) → is_named round n x ≡ true → is_named round n y ≡ true → x ≡ y
one_named round n x y h g = named_at round.keys (round.first + n) x (place_of round.keys x) refl h ∙ sym (named_at round.keys (round.first + n) y (place_of round.keys y) refl g)

-- what defines a register of that place defines it
named_defined : (round : RoundData) (n r : ℕ) → is_named round n r ≡ true → (os : List Operand) → list_any (is_origin (is_named round n)) os ≡ true → list_any (is_def_of r) os ≡ true
named_defined round n r named [] h = cc
named_defined round n r named (operand.Def q kind ∷ os) h =
    ⊎_elim
    (λ here. or_left (q.0 == r) (list_any (is_def_of r) os) (eq-eqb q.0 r (one_named round n q.0 r here named)))
    (λ later. or_right (q.0 == r) (list_any (is_def_of r) os) (named_defined round n r named os later))
    (or_cases (is_named round n q.0) (list_any (is_origin (is_named round n)) os) h)
named_defined round n r named (_ ∷ os) h = named_defined round n r named os h

any_defined : (round : RoundData) (n r : ℕ) → is_named round n r ≡ true → (is : List (ℕ × InstrData)) → list_any (defines_origin (is_named round n)) is ≡ true → list_any (defines r) is ≡ true
any_defined round n r named [] h = cc
any_defined round n r named (i ∷ is) h =
    ⊎_elim (λ here. or_left (defines r i) (list_any (defines r) is) (named_defined round n r named i.1.operands here))
    (λ later. or_right (defines r i) (list_any (defines r) is) (any_defined round n r named is later))
    (or_cases (defines_origin (is_named round n) i) (list_any (defines_origin (is_named round n)) is) h)

-- ══ Phis and others ══

all_phis : (is : List (ℕ × InstrData)) → list_all (λ p. is_phi p.1) is ≡ true → (phis_of is ≡ is) × (after_phis is ≡ [])
all_phis [] h = (refl, refl)
all_phis (i ∷ is) h =
    let both : (is_phi i.1 ≡ true) × (list_all (λ p. is_phi p.1) is ≡ true) = and_parts (is_phi i.1) (list_all (λ p. is_phi p.1) is) h in
    let rest : (phis_of is ≡ is) × (after_phis is ≡ []) = all_phis is both.1 in
    (ap (λ t. cond t (i ∷ phis_of is) []) both.0 ∙ ap (λ l. i ∷ l) rest.0, ap (λ t. cond t (after_phis is) (i ∷ is)) both.0 ∙ rest.1)

one_more : (r : ℕ) (o : ℕ → Bool) (here : Bool) (is : List (ℕ × InstrData)) (p : ℕ × InstrData) → one_by_one r o here (is ++ p ∷ []) ≡ at_once r o (one_by_one r o here is) (p ∷ [])
one_more r o here [] p = refl
one_more r o here (i ∷ is) p = one_more r o (at_once r o here (i ∷ [])) is p

-- behind one more that isn't a phi among phis
split_with : (is : List (ℕ × InstrData)) (p : ℕ × InstrData) → list_all (λ q. is_phi q.1) (is ++ p ∷ []) ≡ false → (phis_of (is ++ p ∷ []) ≡ phis_of is) × (after_phis (is ++ p ∷ []) ≡ after_phis is ++ p ∷ [])
split_with [] p h = by (is_phi p.1) refl h
  where
    by : (t : Bool) → is_phi p.1 ≡ t → (t && true) ≡ false → (cond (is_phi p.1) (p ∷ []) [] ≡ []) × (cond (is_phi p.1) [] (p ∷ []) ≡ p ∷ [])
    by true so l = absurd (true≢false l)
    by false so l = (ap (λ u. cond u (p ∷ []) []) so, ap (λ u. cond u [] (p ∷ [])) so)
split_with (i ∷ is) p h = by (is_phi i.1) h (λ l. split_with is p l)
  where
    by : (t : Bool) → (t && list_all (λ q. is_phi q.1) (is ++ p ∷ [])) ≡ false
        → (list_all (λ q. is_phi q.1) (is ++ p ∷ []) ≡ false → (phis_of (is ++ p ∷ []) ≡ phis_of is) × (after_phis (is ++ p ∷ []) ≡ after_phis is ++ p ∷ []))
        → (cond t (i ∷ phis_of (is ++ p ∷ [])) [] ≡ cond t (i ∷ phis_of is) []) × (cond t (after_phis (is ++ p ∷ [])) (i ∷ (is ++ p ∷ [])) ≡ cond t (after_phis is) (i ∷ is) ++ p ∷ [])
    by true l rest = (ap (λ k. i ∷ k) (rest l).0, (rest l).1)
    by false l rest = (refl, refl)

behind_with : (r : ℕ) (o : ℕ → Bool) (here : Bool) (is : List (ℕ × InstrData)) (p : ℕ × InstrData) → list_all (λ q. is_phi q.1) (is ++ p ∷ []) ≡ false → behind r o here (is ++ p ∷ []) ≡ at_once r o (behind r o here is) (p ∷ [])
behind_with r o here is p h =
    let split : (phis_of (is ++ p ∷ []) ≡ phis_of is) × (after_phis (is ++ p ∷ []) ≡ after_phis is ++ p ∷ []) = split_with is p h in
    ap₂ (λ a b. one_by_one r o (at_once r o here a) b) split.0 split.1 ∙ one_more r o (at_once r o here (phis_of is)) (after_phis is) p

behind_phis : (r : ℕ) (o : ℕ → Bool) (here : Bool) (is : List (ℕ × InstrData)) → list_all (λ q. is_phi q.1) is ≡ true → behind r o here is ≡ at_once r o here is
behind_phis r o here is h = let each : (phis_of is ≡ is) × (after_phis is ≡ []) = all_phis is h in ap₂ (λ a b. one_by_one r o (at_once r o here a) b) each.0 each.1

-- ══ One instruction more ══

once_there : (round : RoundData) (n r : ℕ) → is_named round n r ≡ true → (here : Bool) (is : List (ℕ × InstrData)) → (list_any (defines_origin (is_named round n)) is || (here && not (list_any (defines_origin (is_taken round n)) is))) ≡ true
    → at_once r (is_taken round n) here is ≡ true
once_there round n r named here is h =
    ⊎_elim (λ made. or_left (list_any (defines r) is) (here && not (list_any (defines_origin (is_taken round n)) is)) (any_defined round n r named is made))
    (λ kept. or_right (list_any (defines r) is) (here && not (list_any (defines_origin (is_taken round n)) is)) kept)
    (or_cases (list_any (defines_origin (is_named round n)) is) (here && not (list_any (defines_origin (is_taken round n)) is)) h)

pub none_changed : (round : RoundData) (change : Change) → change.phis ≡ true → ((n : ℕ) → n < 64 → has change.made n ≡ false) → ((n : ℕ) → n < 64 → has change.kept n ≡ true) → IsChange round [] change
none_changed round change phis made kept = record {
  phis = phis;
  made = λ so. record { by = λ n h. made n h };
  kept = λ so. record { by = λ n h. kept n h };
  by = λ n r h named here l.
      ⊎_elim (λ a. absurd (true≢false (sym a ∙ made n h))) (λ a. ap (λ t. t && true) (and_parts here (has change.kept n) a).0) (or_cases (has change.made n) (here && has change.kept n) l);
}

pub phi_changed : (round : RoundData) (p : ℕ × InstrData) (seen : Seen) (old new : Change) → IsSeen round p.1.operands seen → old.phis ≡ true → is_phi p.1 ≡ true → new.phis ≡ true
    → IsWordOf (λ n. has old.made n || has seen.made n) new.made → IsWordOf (λ n. not (has seen.taken n) && has old.kept n) new.kept
    → (front : List (ℕ × InstrData)) → IsChange round front old → IsChange round (front ++ p ∷ []) new
phi_changed round p seen old new are was phi phis made kept front before = record {
  phis = phis ∙ sym whole;
  made = λ so. record { by = made_is };
  kept = λ so. record { by = kept_is };
  by = λ n r h named here l.
      behind_phis r (is_taken round n) here (front ++ p ∷ []) whole
      ∙ once_there round n r named here (front ++ p ∷ []) (ap₂ (λ a b. a || (here && b)) (sym (made_is n h)) (sym (kept_is n h)) ∙ l);
}
  where
    whole : list_all (λ q. is_phi q.1) (front ++ p ∷ []) ≡ true
    whole = all_with (λ q. is_phi q.1) front p ∙ ap₂ (λ s t. s && t) (sym before.phis ∙ was) phi

    made_is : (n : ℕ) → n < 64 → has new.made n ≡ list_any (defines_origin (is_named round n)) (front ++ p ∷ [])
    made_is n h = made.by n h ∙ ap₂ (λ s t. s || t) ((before.made was).by n h) (are.made.by n h) ∙ sym (any_with (defines_origin (is_named round n)) front p)

    neither : (s t : Bool) → (not s && not t) ≡ not (t || s)
    neither true true = refl
    neither true false = refl
    neither false true = refl
    neither false false = refl

    kept_is : (n : ℕ) → n < 64 → has new.kept n ≡ not (list_any (defines_origin (is_taken round n)) (front ++ p ∷ []))
    kept_is n h =
        kept.by n h ∙ ap₂ (λ s t. not s && t) (are.taken.by n h) ((before.kept was).by n h)
        ∙ neither (defines_origin (is_taken round n) p) (list_any (defines_origin (is_taken round n)) front)
        ∙ sym (ap not (any_with (defines_origin (is_taken round n)) front p))

pub other_changed : (round : RoundData) (p : ℕ × InstrData) (seen : Seen) (old new : Change) → IsSeen round p.1.operands seen → (old.phis && is_phi p.1) ≡ false → new.phis ≡ false
    → IsWordOf (λ n. (not (has seen.taken n) && has old.made n) || has seen.made n) new.made → IsWordOf (λ n. not (has seen.taken n) && has old.kept n) new.kept
    → (front : List (ℕ × InstrData)) → IsChange round front old → IsChange round (front ++ p ∷ []) new
other_changed round p seen old new are other phis made kept front before = record {
  phis = phis ∙ sym some;
  made = λ so. absurd (true≢false (sym so ∙ phis));
  kept = λ so. absurd (true≢false (sym so ∙ phis));
  by = λ n r h named here l.
      behind_with r (is_taken round n) here front p some
      ∙ once_there round n r named (behind r (is_taken round n) here front) (p ∷ [])
      (ap₂ (λ a b. a || (behind r (is_taken round n) here front && not b)) (or_nothing (defines_origin (is_named round n) p)) (or_nothing (defines_origin (is_taken round n) p))
      ∙ ap₂ (λ a b. a || (behind r (is_taken round n) here front && not b)) (sym (are.made.by n h)) (sym (are.taken.by n h))
      ∙ joined (has seen.made n) (has seen.taken n) (has old.made n) (has old.kept n) here (behind r (is_taken round n) here front) (before.by n r h named here)
      (ap₂ (λ a b. a || (here && b)) (sym (made.by n h)) (sym (kept.by n h)) ∙ l));
}
  where
    some : list_all (λ q. is_phi q.1) (front ++ p ∷ []) ≡ false
    some = all_with (λ q. is_phi q.1) front p ∙ ap (λ t. t && is_phi p.1) (sym before.phis) ∙ other

    joined : (m t o k here b : Bool) → ((o || (here && k)) ≡ true → b ≡ true) → (((not t && o) || m) || (here && (not t && k))) ≡ true → (m || (b && not t)) ≡ true
    joined true t o k here b more h = refl
    joined false true o k true b more h = cc
    joined false true o k false b more h = cc
    joined false false true k here b more h = ap (λ s. s && true) (more refl)
    joined false false false k here b more h = ap (λ s. s && true) (more h)
