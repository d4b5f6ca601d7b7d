-- Operands noted one after another, and taken out again.
use Rattle.std.proofs.Common.{◌≡◌, ◌≢◌, ℕ, zero, suc, ◌+◌, ◌<◌, ◌≤◌, Bool, true, false, ◌||◌, cond, List, [], ◌∷◌, ◌⊎◌, inl, inr, ⊎_elim, length, take, drop, get_or, Some, refl, sym, subst, ap, ◌∙◌, arith, add-one, eqb-true, eq-eqb}
use Rattle.std.specs.Prelude.{◌==◌}
use Rattle.std.specs.List.{list_any}
use Rattle.std.specs.List.Sorted.{IsPartitionedBy}
use Rattle.std.proofs.lemmas.List.Folds.{list_any-append}
use Rattle.std.proofs.Math.Seq.{take-suc}
use Rattle.std.proofs.lemmas.List.{take-append-drop}
use Rattle.gi_mir.specs.declared.block.InstrId.{InstrId}
use Rattle.gi_mir.specs.declared.mentions.Mentions.{Mentions}
use Rattle.gi_mir.specs.declared.operand.Operand.{Operand}
use Rattle.gi_mir.specs.declared.place.Place.{Place}
use Rattle.gi_mir.specs.Mentions.{IsListed, mention_of, is_mention, precedes, noted, without, listed, HasSameLists, IsSorted, Lacks, IsNoted, IsForgotten}
use Rattle.gi_mir.proofs.Lists.{noted-twice, without-fresh, without-noted, without-twice}

-- one more operand
pub list_any-take : {X : Type 0} (p : X → Bool) (xs : List X) (i : ℕ) (d : X) → i < length xs → list_any p (take (i + 1) xs) ≡ (list_any p (take i xs) || list_any p (get_or xs i d ∷ []))
list_any-take p xs i d h = rw (add-one) (ap (list_any p) (take-suc xs i d h) ∙ list_any-append p (take i xs) (get_or xs i d ∷ []))

or_cases : (a b : Bool) → (a || b) ≡ true → (b ≡ true) ⊎ ((b ≡ false) × (a ≡ true))
or_cases a true h = inl refl
or_cases true false h = inr (refl, refl)
or_cases false false h = cc

neither : (a b : Bool) → (a || b) ≡ false → (a ≡ false) × (b ≡ false)
neither true b h = cc
neither false b h = (refl, h)

test_cases : (b : Bool) → (b ≡ true) ⊎ (b ≡ false)
test_cases true = inl refl
test_cases false = inr refl

-- of one operand
pub IsForgotten-one : (old new : Mentions) (x : Operand) (id : InstrId) (at : ℕ) → Some at ≡ mention_of x → IsListed old new at (without id (listed old at)) → IsForgotten old new (x ∷ []) id
IsForgotten-one old new x id at is gone = record {
  here = λ key h. here key (at == key) refl (rw (← is) at h);
  others = λ key h. gone.others key (apart key (rw (← is) at h));
}
  where
    here : (key : ℕ) (b : Bool) → (at == key) ≡ b → (b || false) ≡ true → listed new key ≡ without id (listed old key)
    here key true e h = subst (λ (k : ℕ). listed new k ≡ without id (listed old k)) (eqb-true at key e) gone.here
    here key false e h = cc

    apart : (key : ℕ) → ((at == key) || false) ≡ false → key ≢ at
    apart key h same = cc (eq-eqb at key (sym same))

pub IsForgotten-step : (old cur new : Mentions) (operands : List Operand) (i : ℕ) (x : Operand) (id : InstrId) → i < length operands → x ≡ get_or operands i x → IsForgotten old cur (take i operands) id → IsForgotten cur new (x ∷ []) id → IsForgotten old new (take (i + 1) operands) id
IsForgotten-step old cur new operands i x id within is before one = record {
  here = λ key h. here key (or_cases (list_any (is_mention key) (take i operands)) (list_any (is_mention key) (x ∷ [])) (sym (more key) ∙ h));
  others = λ key h. let missing = neither (list_any (is_mention key) (take i operands)) (list_any (is_mention key) (x ∷ [])) (sym (more key) ∙ h) in
      one.others key missing.1 ∙ before.others key missing.0;
}
  where
    more : (key : ℕ) → list_any (is_mention key) (take (i + 1) operands) ≡ (list_any (is_mention key) (take i operands) || list_any (is_mention key) (x ∷ []))
    more key =
        list_any-take (is_mention key) operands i x within ∙ ap (λ (y : Operand). list_any (is_mention key) (take i operands) || list_any (is_mention key) (y ∷ [])) (sym is)

    twice : (key : ℕ) → (list_any (is_mention key) (take i operands) ≡ true) ⊎ (list_any (is_mention key) (take i operands) ≡ false) → without id (listed cur key) ≡ without id (listed old key)
    twice key c = ⊎_elim
        (λ (yes : list_any (is_mention key) (take i operands) ≡ true). ap (without id) (before.here key yes) ∙ without-twice id (listed old key))
        (λ (missing : list_any (is_mention key) (take i operands) ≡ false). ap (without id) (before.others key missing)) c

    here : (key : ℕ) → (list_any (is_mention key) (x ∷ []) ≡ true) ⊎ ((list_any (is_mention key) (x ∷ []) ≡ false) × (list_any (is_mention key) (take i operands) ≡ true)) → listed new key ≡ without id (listed old key)
    here key c = ⊎_elim
        (λ (yes : list_any (is_mention key) (x ∷ []) ≡ true). one.here key yes ∙ twice key (test_cases (list_any (is_mention key) (take i operands))))
        (λ (missing : (list_any (is_mention key) (x ∷ []) ≡ false) × (list_any (is_mention key) (take i operands) ≡ true)). one.others key missing.0 ∙ before.here key missing.1) c

pub IsNoted-step : (p : InstrId → Bool) (old cur new : Mentions) (operands : List Operand) (i : ℕ) (x : Operand) (id : InstrId) → p id ≡ false → i < length operands → x ≡ get_or operands i x → IsNoted old cur p (take i operands) id → IsNoted cur new p (x ∷ []) id → IsNoted old new p (take (i + 1) operands) id
IsNoted-step p old cur new operands i x id own within is before one = record {
  here = λ key h. here key (or_cases (list_any (is_mention key) (take i operands)) (list_any (is_mention key) (x ∷ [])) (sym (more key) ∙ h));
  others = λ key h. let missing = neither (list_any (is_mention key) (take i operands)) (list_any (is_mention key) (x ∷ [])) (sym (more key) ∙ h) in
      one.others key missing.1 ∙ before.others key missing.0;
}
  where
    more : (key : ℕ) → list_any (is_mention key) (take (i + 1) operands) ≡ (list_any (is_mention key) (take i operands) || list_any (is_mention key) (x ∷ []))
    more key =
        list_any-take (is_mention key) operands i x within ∙ ap (λ (y : Operand). list_any (is_mention key) (take i operands) || list_any (is_mention key) (y ∷ [])) (sym is)

    twice : (key : ℕ) → (list_any (is_mention key) (take i operands) ≡ true) ⊎ (list_any (is_mention key) (take i operands) ≡ false) → noted p id (listed cur key) ≡ noted p id (listed old key)
    twice key c = ⊎_elim
        (λ (yes : list_any (is_mention key) (take i operands) ≡ true). ap (noted p id) (before.here key yes) ∙ noted-twice p id (listed old key) own)
        (λ (missing : list_any (is_mention key) (take i operands) ≡ false). ap (noted p id) (before.others key missing)) c

    here : (key : ℕ) → (list_any (is_mention key) (x ∷ []) ≡ true) ⊎ ((list_any (is_mention key) (x ∷ []) ≡ false) × (list_any (is_mention key) (take i operands) ≡ true)) → listed new key ≡ noted p id (listed old key)
    here key c = ⊎_elim
        (λ (yes : list_any (is_mention key) (x ∷ []) ≡ true). one.here key yes ∙ twice key (test_cases (list_any (is_mention key) (take i operands))))
        (λ (missing : (list_any (is_mention key) (x ∷ []) ≡ false) × (list_any (is_mention key) (take i operands) ≡ true)). one.others key missing.0 ∙ before.here key missing.1) c

-- ---- lists in order, and lists without an id

sorted-noted : (p : InstrId → Bool) (id : InstrId) (ids : List InstrId) → p id ≡ false → IsPartitionedBy p ids → IsPartitionedBy p (noted p id ids)
sorted-noted p id [] own sorted = λ i j d le lt passes. absurd (none j d lt passes)
  where
    none : (j : ℕ) (d : InstrId) → j < 1 → p (get_or (id ∷ []) j d) ≡ true → ⊥
    none zero d lt passes = cc
    none (suc j) d lt passes = absurd (omega arith)
sorted-noted p id (x ∷ xs) own sorted =
    by (sorted-noted p id xs own (λ i j d le lt passes. sorted (suc i) (suc j) d (omega arith) (omega arith) passes)) (p x) refl (x.0 == id.0)
  where
    by : IsPartitionedBy p (noted p id xs) → (b : Bool) → p x ≡ b → (e : Bool) → IsPartitionedBy p (cond b (x ∷ noted p id xs) (cond e (x ∷ xs) (id ∷ x ∷ xs)))
    by more true h e = λ i j d le lt passes. tail i j d le lt passes
      where
        tail : (i j : ℕ) (d : InstrId) → i ≤ j → j < length (x ∷ noted p id xs) → p (get_or (x ∷ noted p id xs) j d) ≡ true → p (get_or (x ∷ noted p id xs) i d) ≡ true
        tail zero j d le lt passes = h
        tail (suc i) zero d le lt passes = absurd (omega arith)
        tail (suc i) (suc j) d le lt passes = more i j d (omega arith) (omega arith) passes
    by more false h true = sorted
    by more false h false = λ i j d le lt passes. absurd (none j d lt passes)
      where
        none : (j : ℕ) (d : InstrId) → j < length (id ∷ x ∷ xs) → p (get_or (id ∷ x ∷ xs) j d) ≡ true → ⊥
        none zero d lt passes = cc
        none (suc j) d lt passes = cc (sorted 0 j d (omega arith) (omega arith) passes)

pub IsSorted-noted : (places : List Place) (spot : Place) (old new : Mentions) (operands : List Operand) (id : InstrId) → precedes places spot id ≡ false → IsSorted places spot old → IsNoted old new (precedes places spot) operands id → IsSorted places spot new
IsSorted-noted places spot old new operands id own sorted noted_so = record {
  sorted = λ key. by key (test_cases (list_any (is_mention key) operands));
}
  where
    by : (key : ℕ) → (list_any (is_mention key) operands ≡ true) ⊎ (list_any (is_mention key) operands ≡ false) → IsPartitionedBy (precedes places spot) (listed new key)
    by key c = ⊎_elim
        (λ (yes : list_any (is_mention key) operands ≡ true). rw (noted_so.here key yes) (sorted-noted (precedes places spot) id (listed old key) own (sorted.sorted key)))
        (λ (missing : list_any (is_mention key) operands ≡ false). rw (noted_so.others key missing) (sorted.sorted key)) c

-- what was listed so far is taken out again
pub HasSameLists-undone : (p : InstrId → Bool) (old cur failed new : Mentions) (operands : List Operand) (i : ℕ) (id : InstrId) → Lacks old id → IsNoted old cur p (take i operands) id → HasSameLists cur failed → IsForgotten failed new operands id → HasSameLists old new
HasSameLists-undone p old cur failed new operands i id fresh noted_so same gone = record {
  same = λ key. by key (test_cases (list_any (is_mention key) operands)) (test_cases (list_any (is_mention key) (take i operands)));
}
  where
    none : (key : ℕ) → list_any (is_mention key) operands ≡ false → list_any (is_mention key) (take i operands) ≡ false
    none key missing =
        let parts = list_any-append (is_mention key) (take i operands) (drop i operands) in
        let all = ap (list_any (is_mention key)) (take-append-drop i operands) in
        (neither (list_any (is_mention key) (take i operands)) (list_any (is_mention key) (drop i operands)) (sym parts ∙ all ∙ missing)).0

    by : (key : ℕ) → (list_any (is_mention key) operands ≡ true) ⊎ (list_any (is_mention key) operands ≡ false) → (list_any (is_mention key) (take i operands) ≡ true) ⊎ (list_any (is_mention key) (take i operands) ≡ false) → listed new key ≡ listed old key
    by key c d = ⊎_elim
        (λ (yes : list_any (is_mention key) operands ≡ true). gone.here key yes ∙ ap (without id) (same.same key) ∙ ⊎_elim
        (λ (so : list_any (is_mention key) (take i operands) ≡ true). ap (without id) (noted_so.here key so) ∙ without-noted p id (listed old key) (fresh.absent key))
        (λ (not_so : list_any (is_mention key) (take i operands) ≡ false). ap (without id) (noted_so.others key not_so) ∙ without-fresh id (listed old key) (fresh.absent key)) d)
        (λ (missing : list_any (is_mention key) operands ≡ false). gone.others key missing ∙ same.same key ∙ noted_so.others key (none key missing)) c
