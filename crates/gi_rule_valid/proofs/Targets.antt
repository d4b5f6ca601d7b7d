-- The registers of what is made: new ones, and each result of the root once.
use Rattle.std.proofs.Common.{◌≡◌, ℕ, zero, suc, ◌+◌, ◌≤◌, ◌<◌, Bool, true, false, cond, not, ◌&&◌, ◌||◌, ◌==◌, nat_le, List, [], ◌∷◌, Option, Some, None, length, slice_get, inl, inr, ⊎_elim, ◌⊎◌, refl, sym, ap, ◌∙◌, subst, arith, true≢false, leb-true}
use Rattle.std.specs.Prelude.{zip}
use Rattle.std.proofs.lemmas.Bool.{and_parts, or_cases, or_left, or_right, eqb-true, eq-eqb, not-true, cases_lt, false_from_ne_true}
use Rattle.std.proofs.lemmas.Bool.Decides.{nat_tests}
use Rattle.gi_llt.specs.declared.Llt.{Llt}
use Rattle.gi_mir.specs.Registers.{first_there}
use Rattle.gi_mir.specs.declared.operand.Kind.{Kind}
use Rattle.gi_change_valid.specs.Numbers.{is_in}
use Rattle.gi_valid.proofs.Single.{often}
use Rattle.gi_rule_valid.specs.Keeping.{are_results, has_type}
use Rattle.gi_rule_valid.specs.Using.{next_behind, or_new, registers_for, target_at}
use Rattle.gi_rule_valid.proofs.Lists.{among, kind_at}

-- the registers of targets
abbrev pub seconds : List (ℕ × ℕ) → List ℕ
seconds [] = []
seconds (pair ∷ pairs) = pair.1 ∷ seconds pairs

-- how many targets from a place on have a register
abbrev pub above : (place r : ℕ) → List (ℕ × ℕ) → ℕ
above place r [] = 0
above place r (pair ∷ pairs) = cond (nat_le place pair.0 && (pair.1 == r)) 1 0 + above place r pairs

abbrev is_target : (r : ℕ) → Option ℕ → Bool
is_target r None = false
is_target r (Some q) = q == r

one_or_none : (b : Bool) → cond b 1 0 ≤ 1
one_or_none true = omega arith
one_or_none false = omega arith

fewer : (a b : Bool) → (a ≡ true → b ≡ true) → cond a 1 0 ≤ cond b 1 0
fewer true b h = let is : b ≡ true = h refl in rw is (omega arith)
fewer false b h = omega (arith, one_or_none b)

above_more : (place r : ℕ) (targets : List (ℕ × ℕ)) → above (place + 1) r targets ≤ above place r targets
above_more place r [] = omega arith
above_more place r (pair ∷ pairs) =
    let rest = above_more place r pairs in
    let here : cond (nat_le (place + 1) pair.0 && (pair.1 == r)) 1 0 ≤ cond (nat_le place pair.0 && (pair.1 == r)) 1 0 =
    fewer (nat_le (place + 1) pair.0 && (pair.1 == r)) (nat_le place pair.0 && (pair.1 == r)) (λ h. grind (arith, nat_tests, h)) in
    omega (arith, rest, here)

above_step : (place r : ℕ) (targets : List (ℕ × ℕ)) → cond (is_target r (target_at targets place)) 1 0 + above (place + 1) r targets ≤ above place r targets
above_step place r [] = omega arith
above_step place r (pair ∷ pairs) = by (place == pair.0) refl (above_step place r pairs)
  where
    by : (t : Bool) → (place == pair.0) ≡ t → cond (is_target r (target_at pairs place)) 1 0 + above (place + 1) r pairs ≤ above place r pairs
        → cond (is_target r (cond t (Some pair.1) (target_at pairs place))) 1 0 + (cond (nat_le (place + 1) pair.0 && (pair.1 == r)) 1 0 + above (place + 1) r pairs) ≤ cond (nat_le place pair.0 && (pair.1 == r)) 1 0 + above place r pairs
    by true so rest =
        let same : place ≡ pair.0 = eqb-true place pair.0 so in
        let past : nat_le (place + 1) pair.0 ≡ false = grind (arith, nat_tests, same) in
        let here : nat_le place pair.0 ≡ true = grind (arith, nat_tests, same) in
        rw (past, here) (omega (arith, above_more place r pairs))
    by false so rest =
        let here : cond (nat_le (place + 1) pair.0 && (pair.1 == r)) 1 0 ≤ cond (nat_le place pair.0 && (pair.1 == r)) 1 0 =
        fewer (nat_le (place + 1) pair.0 && (pair.1 == r)) (nat_le place pair.0 && (pair.1 == r)) (λ h. grind (arith, nat_tests, h)) in
        omega (arith, rest, here)

above_all : (place r : ℕ) (targets : List (ℕ × ℕ)) → above place r targets ≤ often r (seconds targets)
above_all place r [] = omega arith
above_all place r (pair ∷ pairs) =
    let rest = above_all place r pairs in
    let here : cond (nat_le place pair.0 && (pair.1 == r)) 1 0 ≤ cond (pair.1 == r) 1 0 = fewer (nat_le place pair.0 && (pair.1 == r)) (pair.1 == r) (λ h. (and_parts (nat_le place pair.0) (pair.1 == r) h).1) in
    omega (arith, rest, here)

-- ══ New registers, and targets ══

target_among : (targets : List (ℕ × ℕ)) (place q : ℕ) → target_at targets place ≡ Some q → among q (seconds targets) ≡ true
target_among [] place q h = cc
target_among (pair ∷ pairs) place q h = by (place == pair.0) h (λ l. target_among pairs place q l)
  where
    some_is : (a b : ℕ) → Some a ≡ Some b → a ≡ b
    some_is a b h = cc

    by : (t : Bool) → cond t (Some pair.1) (target_at pairs place) ≡ Some q → (target_at pairs place ≡ Some q → among q (seconds pairs) ≡ true) → ((pair.1 == q) || among q (seconds pairs)) ≡ true
    by true h rest = or_left (pair.1 == q) (among q (seconds pairs)) (eq-eqb pair.1 q (some_is pair.1 q h))
    by false h rest = or_right (pair.1 == q) (among q (seconds pairs)) (rest h)

pub new_or_target : (targets : List (ℕ × ℕ)) (r : ℕ) (types : List Llt) (place next : ℕ) → among r (registers_for targets place next types) ≡ true → (next ≤ r) ⊎ (among r (seconds targets) ≡ true)
new_or_target targets r [] place next h = cc
new_or_target targets r (ty ∷ types) place next h =
    by (target_at targets place) refl h (λ n l. new_or_target targets r types (place + 1) n l)
  where
    by : (t : Option ℕ) → target_at targets place ≡ t → ((or_new t next == r) || among r (registers_for targets (place + 1) (next_behind t next) types)) ≡ true
        → ((n : ℕ) → among r (registers_for targets (place + 1) n types) ≡ true → (n ≤ r) ⊎ (among r (seconds targets) ≡ true)) → (next ≤ r) ⊎ (among r (seconds targets) ≡ true)
    by None so h rest =
        ⊎_elim (λ now. inl (let same : next ≡ r = eqb-true next r now in omega (arith, same))) (λ later. ⊎_elim (λ more. inl (omega (arith, more))) (λ old. inr old) (rest (next + 1) later))
        (or_cases (next == r) (among r (registers_for targets (place + 1) (next + 1) types)) h)
    by (Some q) so h rest =
        ⊎_elim (λ now. inr (subst (λ k. among k (seconds targets) ≡ true) (eqb-true q r now) (target_among targets place q so))) (λ later. rest next later)
        (or_cases (q == r) (among r (registers_for targets (place + 1) next types)) h)

-- ══ Each once ══

old_often : (targets : List (ℕ × ℕ)) (r : ℕ) (types : List Llt) (place next : ℕ) → r < next → often r (registers_for targets place next types) ≤ above place r targets
old_often targets r [] place next below = omega arith
old_often targets r (ty ∷ types) place next below =
    by (target_at targets place) refl (above_step place r targets) (λ n l. old_often targets r types (place + 1) n l)
  where
    by : (t : Option ℕ) → target_at targets place ≡ t → cond (is_target r (target_at targets place)) 1 0 + above (place + 1) r targets ≤ above place r targets
        → ((n : ℕ) → r < n → often r (registers_for targets (place + 1) n types) ≤ above (place + 1) r targets)
        → cond (or_new t next == r) 1 0 + often r (registers_for targets (place + 1) (next_behind t next) types) ≤ above place r targets
    by None so more rest =
        let other : (next == r) ≡ false = grind (arith, nat_tests, below) in
        let later = rest (next + 1) (omega (arith, below)) in
        let step : cond false 1 0 + above (place + 1) r targets ≤ above place r targets = subst (λ t. cond (is_target r t) 1 0 + above (place + 1) r targets ≤ above place r targets) so more in
        rw other (omega (arith, later, step))
    by (Some q) so more rest =
        let later = rest next below in
        let step : cond (q == r) 1 0 + above (place + 1) r targets ≤ above place r targets = subst (λ t. cond (is_target r t) 1 0 + above (place + 1) r targets ≤ above place r targets) so more in
        omega (arith, later, step)

none_often : (r : ℕ) (rs : List ℕ) → among r rs ≡ false → often r rs ≡ 0
none_often r [] h = refl
none_often r (q ∷ rs) h = by (q == r) h (λ l. none_often r rs l)
  where
    by : (t : Bool) → (t || among r rs) ≡ false → (among r rs ≡ false → often r rs ≡ 0) → cond t 1 0 + often r rs ≡ 0
    by true h rest = cc
    by false h rest = let none : often r rs ≡ 0 = rest h in omega (arith, none)

new_often : (targets : List (ℕ × ℕ)) (r : ℕ) → among r (seconds targets) ≡ false → (types : List Llt) (place next : ℕ) → often r (registers_for targets place next types) ≤ 1
new_often targets r none [] place next = omega arith
new_often targets r none (ty ∷ types) place next =
    by (target_at targets place) refl (λ n. new_often targets r none types (place + 1) n)
  where
    by : (t : Option ℕ) → target_at targets place ≡ t → ((n : ℕ) → often r (registers_for targets (place + 1) n types) ≤ 1)
        → cond (or_new t next == r) 1 0 + often r (registers_for targets (place + 1) (next_behind t next) types) ≤ 1
    by None so rest = here (next == r) refl
      where
        here : (b : Bool) → (next == r) ≡ b → cond b 1 0 + often r (registers_for targets (place + 1) (next + 1) types) ≤ 1
        here true same =
            let is : next ≡ r = eqb-true next r same in
            let few = old_often targets r types (place + 1) (next + 1) (omega (arith, is)) in
            let zero = none_often r (seconds targets) none in
            omega (arith, few, zero, above_all (place + 1) r targets)
        here false other = omega (arith, rest (next + 1))
    by (Some q) so rest =
        let other : (q == r) ≡ false = false_from_ne_true (q == r) (λ same. true≢false (sym (subst (λ k. among k (seconds targets) ≡ true) (eqb-true q r same) (target_among targets place q so)) ∙ none)) in
        rw other (omega (arith, rest next))

-- the registers of what is made stand there once, where the targets do and are old
pub made_once : (targets : List (ℕ × ℕ)) (types : List Llt) (place next r : ℕ) → often r (seconds targets) ≤ 1 → (next ≤ r → among r (seconds targets) ≡ false) → often r (registers_for targets place next types) ≤ 1
made_once targets types place next r once new = ⊎_elim
    (λ (old : r < next). omega (arith, old_often targets r types place next old, above_all place r targets, once))
    (λ (more : next ≤ r). new_often targets r (new more) types place next)
    (cases_lt r next)

-- ══ Each target is made ══

pub target_made : (targets : List (ℕ × ℕ)) (r : ℕ) (types : List Llt) (k place next : ℕ) → k < length types → target_at targets (place + k) ≡ Some r → slice_get (registers_for targets place next types) k ≡ Some r
target_made targets r [] k place next within at = absurd (omega (arith, within))
target_made targets r (ty ∷ types) zero place next within at =
    let same : place + 0 ≡ place = omega arith in
    ap (λ t. Some (or_new t next)) (sym (ap (target_at targets) same) ∙ at)
target_made targets r (ty ∷ types) (suc k) place next within at =
    let same : place + suc k ≡ place + 1 + k = omega arith in
    target_made targets r types k (place + 1) (next_behind (target_at targets place) next) (omega (arith, within)) (sym (ap (target_at targets) same) ∙ at)

pub often_at : (r : ℕ) (rs : List ℕ) (k : ℕ) → slice_get rs k ≡ Some r → 1 ≤ often r rs
often_at r [] k h = cc
often_at r (q ∷ rs) zero h = let same : q ≡ r = cc in let is : (q == r) ≡ true = eq-eqb q r same in rw is (omega arith)
often_at r (q ∷ rs) (suc k) h = omega (arith, often_at r rs k h)

pub among_at : (r : ℕ) (rs : List ℕ) (k : ℕ) → slice_get rs k ≡ Some r → among r rs ≡ true
among_at r [] k h = cc
among_at r (q ∷ rs) zero h = let same : q ≡ r = cc in or_left (q == r) (among r rs) (eq-eqb q r same)
among_at r (q ∷ rs) (suc k) h = or_right (q == r) (among r rs) (among_at r rs k h)

-- the kind of a register that stands there once
pub kind_there : (kind : Llt → Kind) (r : ℕ) (rs : List ℕ) (types : List Llt) (k : ℕ) (ty : Llt) → often r rs ≤ 1 → slice_get rs k ≡ Some r → slice_get types k ≡ Some ty → kind_at kind r rs types ≡ Some (kind ty)
kind_there kind r [] types k ty once at has = cc
kind_there kind r (q ∷ rs) [] k ty once at has = cc
kind_there kind r (q ∷ rs) (t ∷ types) zero ty once at has =
    let same : q ≡ r = cc in let type : t ≡ ty = cc in let is : (q == r) ≡ true = eq-eqb q r same in rw is (ap (λ u. Some (kind u)) type)
kind_there kind r (q ∷ rs) (t ∷ types) (suc k) ty once at has = by (q == r) refl once (λ l. kind_there kind r rs types k ty l at has)
  where
    by : (b : Bool) → (q == r) ≡ b → cond b 1 0 + often r rs ≤ 1 → (often r rs ≤ 1 → kind_at kind r rs types ≡ Some (kind ty)) → first_there (cond b (Some (kind t)) None) (kind_at kind r rs types) ≡ Some (kind ty)
    by true so once rest = absurd (let more : 1 ≤ often r rs = often_at r rs k at in omega (arith, once, more))
    by false so once rest = rest (omega (arith, once))

-- ══ The root's results ══

pub seconds_often : (r : ℕ) (places results : List ℕ) → often r (seconds (zip places results)) ≤ often r results
seconds_often r [] results = omega arith
seconds_often r (p ∷ places) [] = omega arith
seconds_often r (p ∷ places) (q ∷ results) = omega (arith, seconds_often r places results)

pub seconds_among : (r : ℕ) (places results : List ℕ) → among r (seconds (zip places results)) ≡ true → among r results ≡ true
seconds_among r [] results h = cc
seconds_among r (p ∷ places) [] h = cc
seconds_among r (p ∷ places) (q ∷ results) h =
    ⊎_elim (λ now. or_left (q == r) (among r results) now) (λ later. or_right (q == r) (among r results) (seconds_among r places results later)) (or_cases (q == r) (among r (seconds (zip places results))) h)

-- a result of the root is the target of a place of its type
pub record IsTargetOf (kind : Llt → Kind) (types : List Llt) (count : ℕ) (places results : List ℕ) (tys : List Llt) (r : ℕ) : Type 0 where
  pub place : ℕ
  pub inside : is_in place places ≡ true
  pub behind : count ≤ place
  pub at : target_at (zip places results) place ≡ Some r
  pub ty : Llt
  pub has : has_type ty (slice_get types place) ≡ true
  pub is : kind_at kind r results tys ≡ Some (kind ty)

pub target_of : (kind : Llt → Kind) (types : List Llt) (count : ℕ) (places results : List ℕ) (tys : List Llt) (r : ℕ) → are_results types count places tys ≡ true → length results ≡ length tys → among r results ≡ true
    → IsTargetOf kind types count places results tys r
target_of kind types count [] [] tys r h many there = cc
target_of kind types count [] (q ∷ results) [] r h many there = cc
target_of kind types count [] (q ∷ results) (t ∷ tys) r h many there = cc
target_of kind types count (p ∷ places) results [] r h many there = cc
target_of kind types count (p ∷ places) [] (t ∷ tys) r h many there = cc
target_of kind types count (p ∷ places) (q ∷ results) (t ∷ tys) r h many there =
    let A : Bool = nat_le count p in
    let B : Bool = has_type t (slice_get types p) in
    let C : Bool = not (is_in p places) in
    let first = and_parts (A && B && C) (are_results types count places tys) h in
    let second = and_parts (A && B) C first.0 in
    let third = and_parts A B second.0 in
    by (q == r) refl third.0 third.1 (not-true (is_in p places) second.1) there (λ l. target_of kind types count places results tys r first.1 (omega (arith, many)) l)
  where
    by : (b : Bool) → (q == r) ≡ b → nat_le count p ≡ true → has_type t (slice_get types p) ≡ true → is_in p places ≡ false → (b || among r results) ≡ true → (among r results ≡ true → IsTargetOf kind types count places results tys r)
        → IsTargetOf kind types count (p ∷ places) (q ∷ results) (t ∷ tys) r
    by true so least has apart there rest =
        let same : q ≡ r = eqb-true q r so in
        let self : (p == p) ≡ true = eq-eqb p p refl in
        record {
          place = p;
          inside = or_left (p == p) (is_in p places) self;
          behind = leb-true count p least;
          at = ap (λ b. cond b (Some q) (target_at (zip places results) p)) self ∙ ap (λ k. Some k) same;
          ty = t;
          has = has;
          is = ap (λ b. first_there (cond b (Some (kind t)) None) (kind_at kind r results tys)) so;
        }
    by false so least has apart there rest =
        let found : IsTargetOf kind types count places results tys r = rest there in
        let other : (found.place == p) ≡ false = false_from_ne_true (found.place == p) (λ same. true≢false (sym (subst (λ k. is_in k places ≡ true) (eqb-true found.place p same) found.inside) ∙ apart)) in
        record {
          place = found.place;
          inside = or_right (found.place == p) (is_in found.place places) found.inside;
          behind = found.behind;
          at = ap (λ b. cond b (Some q) (target_at (zip places results) found.place)) other ∙ found.at;
          ty = found.ty;
          has = found.has;
          is = ap (λ b. first_there (cond b (Some (kind t)) None) (kind_at kind r results tys)) so ∙ found.is;
        }
