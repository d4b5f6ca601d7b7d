-- Masks of physical registers, bit by bit.
use Rattle.std.proofs.Common.{◌≡◌, ℕ, zero, suc, ◌+◌, ◌-◌, ◌*◌, ◌/◌, ◌%◌, ◌^◌, ◌<◌, ◌≤◌, min, max, Bool, true, false, not, ◌&&◌, ◌||◌, ◌==◌, List, [], ◌∷◌, ◌++◌, Some, length, take, drop, get_or, ◌⊎◌, inl, inr, ⊎_elim, refl, sym, ap, ap₂, ◌∙◌, subst, add-one, take-suc, take_all, arith, true≢false}
use Rattle.std.specs.Prelude.{slice_get}
use Rattle.std.specs.List.{list_all, list_any}
use Rattle.std.specs.Int.{bit_at, bit_not, w32}
use Rattle.std.specs.Int.RustNames.{bit_or}
use Rattle.std.specs.Int.Bits.{bit_and}
use Rattle.std.proofs.lemmas.Bool.{eq-eqb, eqb-true, false_from_ne_true}
use Rattle.std.proofs.lemmas.List.Folds.{list_any-append}
use Rattle.std.proofs.lemmas.Nat.Bits.{bit_at-zero, bit_at-lt, bit_at_and, bit_at_or, bit_at_not, bit_at_set_same, bit_at_set_other, shr_and_one}
use Rattle.std.proofs.lemmas.Option.{same_Some, slice_get-get_or}
use Rattle.gi_mir.specs.Data.{InstrData, FunctionData}
use Rattle.gi_mir.specs.Formed.{has_access, fits_one_of, is_formed, is_in_range}
use Rattle.gi_mir.specs.Row.{access_of, rows_of}
use Rattle.gi_meaning.specs.Runs.{is_among}
use Rattle.gi_valid.specs.Available.{is_physical_at_start, is_physical_there}
use Rattle.gi_valid.specs.Definitions.{defines_physical}
use Rattle.gi_valid.specs.Faults.{goes_across, is_used_first}
use Rattle.gi_verify.specs.declared.effects.Effect.{Effect}
use Rattle.gi_verify.specs.declared.mask.Mask.{Mask}
use Rattle.gi_verify.proofs.Splitting.{IsSplit}
use Rattle.gi_verify.specs.Masks.{has, AreEffects, AreUsedBehind, IsEffect, IsMaskOf}
use Rattle.gi_verify.proofs.Counting.{swapped}
use Rattle.gi_verify.proofs.Growing.{among_more}

-- ══ Bits ══

or_true : (t : Bool) → true ≡ (t || true)
or_true true = refl
or_true false = refl

or_false : (t : Bool) → t ≡ (t || false)
or_false true = refl
or_false false = refl

or_three : (a b c : Bool) → (a || (b || c)) ≡ ((a || b) || c)
or_three true b c = refl
or_three false b c = refl

pub max_is : (x y : ℕ) → x < 2 → y < 2 → (max x y == 1) ≡ ((x == 1) || (y == 1))
max_is zero zero h g = refl
max_is zero (suc zero) h g = refl
max_is (suc zero) zero h g = refl
max_is (suc zero) (suc zero) h g = refl
max_is (suc (suc x)) y h g = absurd (past x h)
  where
    past : (n : ℕ) → suc (suc n) < 2 → ⊥
    past n h = omega (arith, h)
max_is x (suc (suc y)) h g = absurd (past y g)
  where
    past : (n : ℕ) → suc (suc n) < 2 → ⊥
    past n h = omega (arith, h)

pub min_is : (x y : ℕ) → x < 2 → y < 2 → (min (1 - x) y == 1) ≡ (not (x == 1) && (y == 1))
min_is zero zero h g = refl
min_is zero (suc zero) h g = refl
min_is (suc zero) zero h g = refl
min_is (suc zero) (suc zero) h g = refl
min_is (suc (suc x)) y h g = absurd (past x h)
  where
    past : (n : ℕ) → suc (suc n) < 2 → ⊥
    past n h = omega (arith, h)
min_is x (suc (suc y)) h g = absurd (past y g)
  where
    past : (n : ℕ) → suc (suc n) < 2 → ⊥
    past n h = omega (arith, h)

pub none_in : IsMaskOf (λ n. false) (record { bits = 0 })
none_in = record { by = λ n h. ap (λ k. k == 1) (bit_at-zero n) }

pub bit_tested : (mask : Mask) (n : ℕ) → (bit_and (mask.bits / 2 ^ n) 1 == 1) ≡ has mask n
bit_tested mask n = ap (λ k. k == 1) (shr_and_one mask.bits n)

pub bit_set : (mask : Mask) (n : ℕ) → n < 32 → IsMaskOf (λ q. has mask q || (n == q)) (record { bits = bit_or mask.bits (1 * 2 ^ n % 2 ^ 32) })
bit_set mask n within = record { by = λ q h. by q (n == q) refl }
  where
    by : (q : ℕ) (t : Bool) → (n == q) ≡ t → (bit_at (bit_or mask.bits (1 * 2 ^ n % 2 ^ 32)) q == 1) ≡ (has mask q || t)
    by q true so = ap (λ k. k == 1) (subst (λ i. bit_at (bit_or mask.bits (1 * 2 ^ n % 2 ^ 32)) i ≡ 1) (eqb-true n q so) (bit_at_set_same w32 mask.bits n within)) ∙ or_true (has mask q)
    by q false so =
        ap (λ k. k == 1) (bit_at_set_other w32 mask.bits n within q (λ e. true≢false (sym (eq-eqb n q (sym e)) ∙ so)))
        ∙ or_false (has mask q)

pub bit_past : (mask : Mask) (n : ℕ) → 32 ≤ n → IsMaskOf (λ q. has mask q || (n == q)) mask
bit_past mask n past = record {
  by = λ q h. or_false (has mask q) ∙ ap (λ t. has mask q || t) (sym (false_from_ne_true (n == q) (λ e. apart q h (eqb-true n q e))));
}
  where
    apart : (q : ℕ) → q < 32 → n ≡ q → ⊥
    apart q h e = omega (arith, past, h, e)

pub either_in : (a b : Mask) → IsMaskOf (λ n. has a n || has b n) (record { bits = bit_or a.bits b.bits })
either_in a b = record {
  by = λ n h. ap (λ k. k == 1) (bit_at_or a.bits b.bits n) ∙ max_is (bit_at a.bits n) (bit_at b.bits n) (bit_at-lt a.bits n) (bit_at-lt b.bits n);
}

pub bits_turned : (bits n : ℕ) → bits < 2 ^ 32 → n < 32 → bit_at (bit_not w32 bits) n ≡ 1 - bit_at bits n
bits_turned bits n small within = bit_at_not w32 bits n small within

pub without_in : (a b : Mask) (turned : ℕ) → ((n : ℕ) → n < 32 → bit_at turned n ≡ 1 - bit_at a.bits n) → IsMaskOf (λ n. not (has a n) && has b n) (record { bits = bit_and turned b.bits })
without_in a b turned is = record {
  by = λ n h.
      ap (λ k. k == 1) (bit_at_and turned b.bits n ∙ ap (λ k. min k (bit_at b.bits n)) (is n h))
      ∙ min_is (bit_at a.bits n) (bit_at b.bits n) (bit_at-lt a.bits n) (bit_at-lt b.bits n);
}

-- ══ One after the other ══

both_is : (x y : ℕ) → x < 2 → y < 2 → (min x y == 1) ≡ ((x == 1) && (y == 1))
both_is zero zero h g = refl
both_is zero (suc zero) h g = refl
both_is (suc zero) zero h g = refl
both_is (suc zero) (suc zero) h g = refl
both_is (suc (suc x)) y h g = absurd (past x h)
  where
    past : (n : ℕ) → suc (suc n) < 2 → ⊥
    past n h = omega (arith, h)
both_is x (suc (suc y)) h g = absurd (past y g)
  where
    past : (n : ℕ) → suc (suc n) < 2 → ⊥
    past n h = omega (arith, h)

pub both_in : (a b : Mask) → IsMaskOf (λ n. has a n && has b n) (record { bits = bit_and a.bits b.bits })
both_in a b = record { by = λ n h. ap (λ k. k == 1) (bit_at_and a.bits b.bits n) ∙ both_is (bit_at a.bits n) (bit_at b.bits n) (bit_at-lt a.bits n) (bit_at-lt b.bits n) }

pub same_in : (test : ℕ → Bool) (mask : Mask) → ((n : ℕ) → test n ≡ false) → IsMaskOf (λ n. has mask n || test n) mask
same_in test mask none = record { by = λ n h. or_false (has mask n) ∙ ap (λ t. has mask n || t) (sym (none n)) }

-- those of a list for which a test holds
pub any_none : {X : Type 0} (p : ℕ → X → Bool) (xs : List X) (mask : Mask) → IsMaskOf (λ n. false) mask → IsMaskOf (λ n. list_any (p n) (take 0 xs)) mask
any_none p xs mask none = record { by = none.by }

pub any_on : {X : Type 0} (p : ℕ → X → Bool) (xs : List X) (k : ℕ) (d : X) → k < length xs → (old new : Mask) → IsMaskOf (λ n. list_any (p n) (take k xs)) old → IsMaskOf (λ n. has old n || p n (get_or xs k d)) new
    → IsMaskOf (λ n. list_any (p n) (take (k + 1) xs)) new
any_on p xs k d within old new are one = record {
  by = λ n h.
      one.by n h
      ∙ ap (λ t. t || p n (get_or xs k d)) (are.by n h)
      ∙ ap (λ t. list_any (p n) (take k xs) || t) (or_false (p n (get_or xs k d)))
      ∙ sym (list_any-append (p n) (take k xs) (get_or xs k d ∷ []))
      ∙ ap (list_any (p n)) (sym (ap (λ j. take j xs) (add-one k) ∙ take-suc xs k d within));
}

pub any_all : {X : Type 0} (p : ℕ → X → Bool) (xs : List X) (k : ℕ) → length xs ≤ k → (mask : Mask) → IsMaskOf (λ n. list_any (p n) (take k xs)) mask → IsMaskOf (λ n. list_any (p n) xs) mask
any_all p xs k past mask are = record { by = λ n h. are.by n h ∙ ap (list_any (p n)) (take_all k xs past) }

-- registers of a list
pub among_none : (mask : Mask) (ns : List ℕ) → IsMaskOf (λ n. has mask n || is_among n (take 0 ns)) mask
among_none mask ns = record { by = λ n h. or_false (has mask n) }

pub among_on : (start : Mask) (ns : List ℕ) (k : ℕ) → k < length ns → (old new : Mask) → IsMaskOf (λ n. has start n || is_among n (take k ns)) old → IsMaskOf (λ n. has old n || (get_or ns k 0 == n)) new
    → IsMaskOf (λ n. has start n || is_among n (take (k + 1) ns)) new
among_on start ns k within old new are one = record {
  by = λ n h.
      one.by n h
      ∙ ap₂ (λ s t. s || t) (are.by n h) (swapped (get_or ns k 0) n)
      ∙ sym (or_three (has start n) (is_among n (take k ns)) (n == get_or ns k 0))
      ∙ ap (λ t. has start n || t) (sym (among_more n (get_or ns k 0) (take k ns)) ∙ ap (is_among n) (sym (ap (λ j. take j ns) (add-one k) ∙ take-suc ns k 0 within)));
}

pub among_all : (start : Mask) (ns : List ℕ) (k : ℕ) → length ns ≤ k → (mask : Mask) → IsMaskOf (λ n. has start n || is_among n (take k ns)) mask → IsMaskOf (λ n. has start n || is_among n ns) mask
among_all start ns k past mask are = record { by = λ n h. are.by n h ∙ ap (λ l. has start n || is_among n l) (take_all k ns past) }

pub always_in : (none first all : Mask) → IsMaskOf (λ n. false) none → IsMaskOf (λ n. has none n || (0 == n)) first → IsMaskOf (λ n. has first n || (2 == n)) all → IsMaskOf (λ n. (n == 0) || (n == 2)) all
always_in none first all nothing one two = record {
  by = λ n h. two.by n h ∙ ap₂ (λ s t. s || t) (one.by n h ∙ ap₂ (λ s t. s || t) (nothing.by n h) (swapped 0 n)) (swapped 2 n);
}

-- ══ What instructions read and define ══

pub effects_none : AreEffects [] []
effects_none = tt

effects_append : (is : List (ℕ × InstrData)) (es : List Effect) (i : ℕ × InstrData) (e : Effect) → AreEffects is es → IsEffect i e → AreEffects (is ++ i ∷ []) (es ++ e ∷ [])
effects_append [] [] i e are one = (one, are)
effects_append (j ∷ is) (f ∷ es) i e are one = (are.0, effects_append is es i e are.1 one)
effects_append [] (f ∷ es) i e are one = absurd are
effects_append (j ∷ is) [] i e are one = absurd are

pub effects_with : (is : List (ℕ × InstrData)) (k : ℕ) (i : ℕ × InstrData) (after : List (ℕ × InstrData)) → IsSplit is k i after → (old new : List Effect) (e : Effect) → AreEffects (take k is) old → IsEffect i e → new ≡ old ++ e ∷ []
    → AreEffects (take (k + 1) is) new
effects_with is k i after split old new e are one grown =
    subst (λ l. AreEffects l new) (sym split.front) (subst (AreEffects (take k is ++ i ∷ [])) (sym grown) (effects_append (take k is) old i e are one))

pub effects_all : (is : List (ℕ × InstrData)) (k : ℕ) (es : List Effect) → length is ≤ k → AreEffects (take k is) es → AreEffects is es
effects_all is k es past are = subst (λ l. AreEffects l es) (take_all k is past) are

pub effects_length : (is : List (ℕ × InstrData)) (es : List Effect) → AreEffects is es → length es ≡ length is
effects_length [] [] are = refl
effects_length (i ∷ is) (e ∷ es) are = ap suc (effects_length is es are.1)
effects_length [] (e ∷ es) are = absurd are
effects_length (i ∷ is) [] are = absurd are

-- ══ Along a block ══

defined_next : (is : List (ℕ × InstrData)) (es : List Effect) → AreEffects is es → (k : ℕ) → k < length is → (d : Effect) (n : ℕ) → n < 32
    → (list_any (defines_physical n) (take k is) || has (get_or es k d).definitions n) ≡ list_any (defines_physical n) (take (suc k) is)
defined_next [] es are k within d n h = absurd (never k within)
  where
    never : (k : ℕ) → k < 0 → ⊥
    never k h = omega (arith, h)
defined_next (i ∷ is) [] are k within d n h = absurd are
defined_next (i ∷ is) (e ∷ es) are zero within d n h = are.0.definitions.by n h ∙ or_false (defines_physical n i)
defined_next (i ∷ is) (e ∷ es) are (suc k) within d n h =
    sym (or_three (defines_physical n i) (list_any (defines_physical n) (take k is)) (has (get_or es k d).definitions n))
    ∙ ap (λ t. defines_physical n i || t) (defined_next is es are.1 k (less k (length is) within) d n h)
  where
    less : (k n : ℕ) → suc k < suc n → k < n
    less k n h = omega (arith, h)

pub there_next : (f : FunctionData) (b : ℕ) (is : List (ℕ × InstrData)) (es : List Effect) → AreEffects is es → (k : ℕ) → k < length is → (d : Effect) → (old new : Mask) → IsMaskOf (is_physical_there f b (take k is)) old
    → IsMaskOf (λ n. has old n || has (get_or es k d).definitions n) new → IsMaskOf (is_physical_there f b (take (k + 1) is)) new
there_next f b is es are k within d old new there one = record {
  by = λ n h.
      one.by n h
      ∙ ap (λ t. t || has (get_or es k d).definitions n) (there.by n h)
      ∙ sym (or_three (is_physical_at_start f b n) (list_any (defines_physical n) (take k is)) (has (get_or es k d).definitions n))
      ∙ ap (λ t. is_physical_at_start f b n || t) (defined_next is es are k within d n h ∙ ap (λ j. list_any (defines_physical n) (take j is)) (sym (add-one k)));
}

pub there_first : (f : FunctionData) (b : ℕ) (is : List (ℕ × InstrData)) (mask : Mask) → IsMaskOf (is_physical_at_start f b) mask → IsMaskOf (is_physical_there f b (take 0 is)) mask
there_first f b is mask start = record { by = λ n h. start.by n h ∙ or_false (is_physical_at_start f b n) }

used_step : (is : List (ℕ × InstrData)) (es : List Effect) → AreEffects is es → (k : ℕ) → k < length is → (d : Effect) (n : ℕ) → n < 32
    → (has (get_or es k d).uses n || (not (has (get_or es k d).definitions n) && is_used_first n (drop (suc k) is))) ≡ is_used_first n (drop k is)
used_step [] es are k within d n h = absurd (never k within)
  where
    never : (k : ℕ) → k < 0 → ⊥
    never k h = omega (arith, h)
used_step (i ∷ is) [] are k within d n h = absurd are
used_step (i ∷ is) (e ∷ es) are zero within d n h = ap₂ (λ s t. s || (not t && is_used_first n is)) (are.0.uses.by n h) (are.0.definitions.by n h)
used_step (i ∷ is) (e ∷ es) are (suc k) within d n h = used_step is es are.1 k (less k (length is) within) d n h
  where
    less : (k n : ℕ) → suc k < suc n → k < n
    less k n h = omega (arith, h)

-- ══ Backwards ══

-- the registers used first behind the last so many instructions, and from them on
pub record AreUsedFrom (is : List (ℕ × InstrData)) (count : ℕ) (used : List Mask) (from : Mask) : Type 0 where
  pub behind : AreUsedBehind is count used
  pub here : IsMaskOf (λ n. is_used_first n (drop (length is - count) is)) from

drop_whole : {X : Type 0} (xs : List X) → drop (length xs) xs ≡ []
drop_whole [] = refl
drop_whole (x ∷ xs) = drop_whole xs

pub used_none : (is : List (ℕ × InstrData)) (mask : Mask) → IsMaskOf (λ n. false) mask → AreUsedFrom is 0 [] mask
used_none is mask none = record {
  behind = record { so_many = refl; by = λ k m h. absurd (nothing k m h) };
  here = record { by = λ n h. none.by n h ∙ sym (ap (is_used_first n) (ap (λ j. drop j is) (all (length is)) ∙ drop_whole is)) };
}
  where
    nothing : (k : ℕ) (m : Mask) → slice_get [] k ≡ Some m → ⊥
    nothing k m h = cc

    all : (n : ℕ) → n - 0 ≡ n
    all n = omega arith

got_last : (xs : List Mask) (x m : Mask) (k : ℕ) → slice_get (xs ++ x ∷ []) k ≡ Some m → (slice_get xs k ≡ Some m) ⊎ ((k ≡ length xs) × (m ≡ x))
got_last [] x m zero h = inr (refl, sym (same_Some x m h))
got_last [] x m (suc k) h = absurd (nothing h)
  where
    nothing : slice_get [] k ≡ Some m → ⊥
    nothing h = cc
got_last (y ∷ xs) x m zero h = inl h
got_last (y ∷ xs) x m (suc k) h = ⊎_elim (λ l. inl l) (λ r. inr (ap suc r.0, r.1)) (got_last xs x m k h)

pub used_on : (is : List (ℕ × InstrData)) (es : List Effect) → AreEffects is es → (done : ℕ) → done < length es → (d : Effect) → (old new : List Mask) (from next : Mask) → AreUsedFrom is done old from → new ≡ old ++ from ∷ []
    → IsMaskOf (λ n. has (get_or es (length es - 1 - done) d).uses n || (not (has (get_or es (length es - 1 - done) d).definitions n) && has from n)) next → AreUsedFrom is (done + 1) new next
used_on is es are done within d old new from next up grown one = record {
  behind = record {
    so_many = ap length grown ∙ length_with old from ∙ ap (λ n. n + 1) up.behind.so_many;
    by = λ k m h. ⊎_elim
        (λ l. up.behind.by k m l)
        (λ r. subst (λ j. IsMaskOf (λ n. is_used_first n (drop (length is - j) is)) m) (sym (r.0 ∙ up.behind.so_many)) (subst (λ a. IsMaskOf (λ n. is_used_first n (drop (length is - done) is)) a) (sym r.1) up.here))
        (got_last old from m k (sym (ap (λ l. slice_get l k) grown) ∙ h));
  };
  here = record {
    by = λ n h.
        one.by n h
        ∙ ap (λ t. has (get_or es place d).uses n || (not (has (get_or es place d).definitions n) && t)) (up.here.by n h ∙ ap (λ j. is_used_first n (drop j is)) before)
        ∙ used_step is es are place inside d n h
        ∙ ap (λ j. is_used_first n (drop j is)) at;
  };
}
  where
    place : ℕ
    place = length es - 1 - done

    same : length es ≡ length is
    same = effects_length is es are

    length_with : (xs : List Mask) (x : Mask) → length (xs ++ x ∷ []) ≡ length xs + 1
    length_with [] x = refl
    length_with (y ∷ xs) x = let e : length (xs ++ x ∷ []) ≡ length xs + 1 = length_with xs x in omega (arith, e)

    before : length is - done ≡ suc (length es - 1 - done)
    before = omega (arith, within, same)

    inside : length es - 1 - done < length is
    inside = omega (arith, within, same)

    at : length es - 1 - done ≡ length is - (done + 1)
    at = omega (arith, within, same)

pub used_all : (is : List (ℕ × InstrData)) (count done : ℕ) (used : List Mask) (from : Mask) → done ≡ count → AreUsedFrom is done used from → AreUsedBehind is count used
used_all is count done used from so up = subst (λ n. AreUsedBehind is n used) so up.behind

pub used_here : (is : List (ℕ × InstrData)) (used : List Mask) (k : ℕ) (d : Mask) → k < length is → AreUsedBehind is (length is) used → IsMaskOf (λ n. is_used_first n (drop (k + 1) is)) (get_or used (length used - 1 - k) d)
used_here is used k d within are =
    subst (λ j. IsMaskOf (λ n. is_used_first n (drop j is)) (get_or used (length used - 1 - k) d)) at
    (are.by (length used - 1 - k) (get_or used (length used - 1 - k) d) (slice_get-get_or used (length used - 1 - k) d inside))
  where
    many : length used ≡ length is
    many = are.so_many

    at : length is - (length used - 1 - k) ≡ k + 1
    at = omega (arith, within, many)

    inside : length used - 1 - k < length used
    inside = omega (arith, within, many)

-- ══ Operands ══

last_of : (a b : Bool) → (a && b) ≡ true → b ≡ true
last_of true b h = h
last_of false b h = cc

-- the physical registers of an instruction are below 32
pub formed_in_range : (i : InstrData) → is_formed i ≡ true → list_all is_in_range i.operands ≡ true
unfolding is_formed
formed_in_range i formed = last_of (fits_one_of (rows_of i.op) i.operands && has_access (access_of i.op) i.mem) (list_all is_in_range i.operands) formed

-- ══ Registers across an instruction ══

across_is : (zeroth second own there used : Bool) → (not ((zeroth || second) || own) && (there && used)) ≡ (not zeroth && not second && there && not own && used)
across_is true second own there used = refl
across_is false true own there used = refl
across_is false false true true used = refl
across_is false false true false used = refl
across_is false false false true used = refl
across_is false false false false used = refl

pub across_in : (f : FunctionData) (b : ℕ) (front after : List (ℕ × InstrData)) (i : ℕ × InstrData) (there used always kept over all : Mask) (own : Effect)
    → IsMaskOf (is_physical_there f b front) there → IsMaskOf (λ n. is_used_first n after) used → IsEffect i own
    → IsMaskOf (λ n. (n == 0) || (n == 2)) always → IsMaskOf (λ n. has always n || has own.definitions n) kept
    → IsMaskOf (λ n. has there n && has used n) over → IsMaskOf (λ n. not (has kept n) && has over n) all
    → IsMaskOf (goes_across f (record { block = b; before = front; instr = i.1; after = after })) all
across_in f b front after i there used always kept over all own is_there is_used is_own is_always is_kept is_over is_all = record {
  by = λ n h.
      is_all.by n h
      ∙ ap₂ (λ s t. not s && t) (is_kept.by n h ∙ ap₂ ◌||◌ (is_always.by n h) (is_own.definitions.by n h)) (is_over.by n h ∙ ap₂ ◌&&◌ (is_there.by n h) (is_used.by n h))
      ∙ across_is (n == 0) (n == 2) (defines_physical n i) (is_physical_there f b front n) (is_used_first n after);
}
