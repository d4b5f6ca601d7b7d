-- What is written on pages, and where a register stands that is added to an order.
use Rattle.std.proofs.Common.{◌≡◌, ℕ, suc, ◌+◌, ◌-◌, ◌/◌, ◌%◌, ◌<◌, ◌≤◌, Bool, true, false, not, ◌||◌, cond, List, [], ◌∷◌, ◌++◌, Option, Some, None, length, replicate, set, get_or, unwrap_or, nat_eq, nat_lt, if◌then◌else◌, position, refl, sym, ap, ◌∙◌, arith, eqb-true, subst, zero}
use Rattle.std.specs.BTreeMap.{BTreeMap, get, is_at, IsEmpty, IsUnchanged, Updates}
use Rattle.std.specs.List.{list_any, position_or_len}
use Rattle.std.specs.Map.{lookup}
use Rattle.std.specs.Ordering.{is_eq, nat_cmp}
use Rattle.std.proofs.lemmas.Bool.{eqb-false, ne_eqb}
use Rattle.std.proofs.lemmas.Bool.Decides.{nat_tests}
use Rattle.std.proofs.lemmas.List.{get_or-set_same, get_or-set_other, length-append}
use Rattle.std.proofs.lemmas.List.Folds.{position_or_len_push}
use Rattle.gi_mir.proofs.Places.{position_or_len-bound}
use Rattle.gi_mir.specs.Numbering.{with_register}
use Rattle.gi_registers.specs.Pages.{number_at, one_above, IsBlank, IsPaged, IsPageWritten, AreAlike, IsWritten}

zeros : (m k : ℕ) → get_or {A = ℕ} (replicate m 0) k 0 ≡ 0
zeros zero k = refl
zeros (suc m) zero = refl
zeros (suc m) (suc k) = zeros m k

pub blank : (page : List ℕ) → page ≡ replicate 256 0 → IsBlank page
blank page e = record { nowhere = λ k. ap (λ xs. get_or xs k 0) e ∙ zeros 256 k }

pub page_written : (old : List ℕ) (at place : ℕ) → at < length old → IsPageWritten old (set old at place) at place
page_written old at place h = record {
  here = get_or-set_same old at place 0 h;
  elsewhere = λ k apart. get_or-set_other old at k place 0 (λ e. apart (sym e));
}

pub unwritten : (old new : BTreeMap ℕ (List ℕ)) → IsUnchanged old new → AreAlike old new
unwritten old new e = record { alike = λ k. ap (λ es. get_or (unwrap_or (lookup (is_at (nat_cmp (k / 256))) es) []) (k % 256) 0) e }

abbrev page_of : BTreeMap ℕ (List ℕ) → ℕ → List ℕ
page_of pages at = unwrap_or (get nat_cmp pages at) []

same_key : (a b : ℕ) → is_eq (nat_cmp a b) ≡ true → a ≡ b
same_key a b h = grind (arith, nat_tests)

pub written : (old new : BTreeMap ℕ (List ℕ)) (n place : ℕ) (before page : List ℕ) → page_of old (n / 256) ≡ before → IsPageWritten before page (n % 256) place → Updates nat_cmp old new (n / 256) (Some page) → IsWritten old new n place
written old new n place before page was wrote updates = record {
  here = ap (λ p. get_or (unwrap_or p []) (n % 256) 0) updates.1 ∙ wrote.here;
  elsewhere = λ k apart. by k apart (is_at (nat_cmp (n / 256)) (k / 256)) refl;
}
  where
    by : (k : ℕ) → nat_eq n k ≡ false → (b : Bool) → is_at (nat_cmp (n / 256)) (k / 256) ≡ b → number_at new k ≡ number_at old k
    by k apart true e =
        ap (λ at. get_or (page_of new at) (k % 256) 0) (sym here)
        ∙ ap (λ p. get_or (unwrap_or p []) (k % 256) 0) updates.1
        ∙ wrote.elsewhere (k % 256) (λ same_rest. eqb-false n k apart (one here same_rest))
        ∙ ap (λ p. get_or p (k % 256) 0) (sym was)
        ∙ ap (λ at. get_or (page_of old at) (k % 256) 0) here
      where
        here : n / 256 ≡ k / 256
        here = same_key (n / 256) (k / 256) e

        one : n / 256 ≡ k / 256 → n % 256 ≡ k % 256 → n ≡ k
        one q r = omega (arith, q, r)
    by k apart false e = ap (λ p. get_or (unwrap_or p []) (k % 256) 0) (updates.2 (k / 256) e)

pub none_paged : (pages : BTreeMap ℕ (List ℕ)) → IsEmpty pages → IsPaged [] pages
none_paged pages e = record { number_at = λ n. ap (λ es. get_or (unwrap_or (lookup (is_at (nat_cmp (n / 256))) es) []) (n % 256) 0) e }

pub put : (old new : BTreeMap ℕ (List ℕ)) (n place : ℕ) (blank page : List ℕ) → get nat_cmp old (n / 256) ≡ None → IsBlank blank → IsPageWritten blank page (n % 256) place → Updates nat_cmp old new (n / 256) (Some page) → IsWritten old new n place
put old new n place blank page none is wrote updates =
    written old new n place [] page (ap (λ p. unwrap_or p []) none) (record { here = wrote.here; elsewhere = λ k apart. wrote.elsewhere k apart ∙ is.nowhere k }) updates

pub no_place : (found : Option ℕ) → 0 ≡ one_above found → None ≡ found
no_place None h = refl
no_place (Some k) h = absurd (omega (arith, h))

pub a_place : (found : Option ℕ) (h : ℕ) → h ≡ one_above found → (h ≡ 0 → ⊥) → Some (h - 1) ≡ found
a_place None h e apart = absurd (apart e)
a_place (Some k) h e apart = ap Some (omega (arith, e))

-- ---- an order with one more register

first_of_more : (keys : List ℕ) (n k : ℕ) → position (nat_eq k) (keys ++ n ∷ []) ≡ (if nat_lt (position_or_len (nat_eq k) keys) (length keys) then position (nat_eq k) keys else if nat_eq k n then Some (length keys) else None)
first_of_more keys n k = by (position_or_len (nat_eq k) keys) (length keys) (position_or_len (nat_eq k) (keys ++ n ∷ [])) (length (keys ++ n ∷ [])) (nat_eq k n) (position_or_len-bound (nat_eq k) keys) (position_or_len_push (nat_eq k) keys n) (length-append keys (n ∷ []))
  where
    by : (m l r s : ℕ) (b : Bool) → m ≤ l → r ≡ cond (nat_eq m l) (l + cond b 0 1) m → s ≡ l + 1 → cond (nat_lt r s) (Some r) None ≡ (if nat_lt m l then cond (nat_lt m l) (Some m) None else if b then Some l else None)
    by m l r s true within e more = grind (arith, nat_tests)
    by m l r s false within e more = grind (arith, nat_tests)

any_is_first : {X : Type 0} (p : X → Bool) (xs : List X) → list_any p xs ≡ nat_lt (position_or_len p xs) (length xs)
any_is_first p [] = refl
any_is_first p (x ∷ xs) = by (p x) (position_or_len p xs) (length xs) (list_any p xs) (any_is_first p xs)
  where
    by : (b : Bool) (m l : ℕ) (t : Bool) → t ≡ nat_lt m l → (b || t) ≡ nat_lt (cond (not b) (1 + m) 0) (suc l)
    by true m l t h = grind (arith, nat_tests)
    by false m l t h = grind (arith, nat_tests)

pub is_there : (keys : List ℕ) (n k : ℕ) → Some k ≡ position (nat_eq n) keys → keys ≡ with_register keys n
is_there keys n k h = rw (any_is_first (nat_eq n) keys) (by (nat_lt (position_or_len (nat_eq n) keys) (length keys)) h)
  where
    by : (b : Bool) → Some k ≡ cond b (Some (position_or_len (nat_eq n) keys)) None → keys ≡ (if b then keys else keys ++ n ∷ [])
    by true h = refl
    by false h = cc

is_missing : (keys : List ℕ) (n : ℕ) → None ≡ position (nat_eq n) keys → nat_lt (position_or_len (nat_eq n) keys) (length keys) ≡ false
is_missing keys n h = by (nat_lt (position_or_len (nat_eq n) keys) (length keys)) h
  where
    by : (b : Bool) → None ≡ cond b (Some (position_or_len (nat_eq n) keys)) None → b ≡ false
    by true h = cc
    by false h = refl

pub is_added : (keys : List ℕ) (n : ℕ) → None ≡ position (nat_eq n) keys → keys ++ n ∷ [] ≡ with_register keys n
is_added keys n h = rw (any_is_first (nat_eq n) keys, is_missing keys n h) refl

same : (n : ℕ) → nat_eq n n ≡ true
same n = grind (arith, nat_tests)

pub place_of_added : (keys : List ℕ) (n : ℕ) → None ≡ position (nat_eq n) keys → position (nat_eq n) (keys ++ n ∷ []) ≡ Some (length keys)
place_of_added keys n h = first_of_more keys n n ∙ rw (is_missing keys n h, same n) refl

pub paged_with : (keys : List ℕ) (old new : BTreeMap ℕ (List ℕ)) (n place : ℕ) → IsPaged keys old → None ≡ position (nat_eq n) keys → place ≡ length keys + 1 → IsWritten old new n place → IsPaged (keys ++ n ∷ []) new
paged_with keys old new n place paged h count wrote = record { number_at = λ k. by k (nat_eq n k) refl }
  where
    by : (k : ℕ) (b : Bool) → nat_eq n k ≡ b → number_at new k ≡ one_above (position (nat_eq k) (keys ++ n ∷ []))
    by k true e = subst (λ m. number_at new m ≡ one_above (position (nat_eq m) (keys ++ n ∷ []))) (eqb-true n k e) (wrote.here ∙ count ∙ by_place)
      where
        by_place : length keys + 1 ≡ one_above (position (nat_eq n) (keys ++ n ∷ []))
        by_place = rw (place_of_added keys n h) (omega arith)
    by k false e = wrote.elsewhere k e ∙ paged.number_at k ∙ ap one_above (sym (first_of_more keys n k ∙ apart (nat_lt (position_or_len (nat_eq k) keys) (length keys)) refl))
      where
        other : nat_eq k n ≡ false
        other = ne_eqb k n (λ q. eqb-false n k e (sym q))

        apart : (t : Bool) → nat_lt (position_or_len (nat_eq k) keys) (length keys) ≡ t → (if t then position (nat_eq k) keys else if nat_eq k n then Some (length keys) else None) ≡ position (nat_eq k) keys
        apart true g = refl
        apart false g = rw (other, g) refl
