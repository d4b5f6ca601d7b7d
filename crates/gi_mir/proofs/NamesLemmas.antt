-- Where a name stands, and a name that is added.
use Rattle.std.proofs.Common.{◌≡◌, ℕ, ◌+◌, ◌<◌, ◌≤◌, Bool, true, false, not, List, [], ◌∷◌, ◌++◌, Option, Some, None, ◌⊎◌, ⊎_elim, cond, eqb, is_some, length, map, nat_lt, position, BTreeMap, refl, ap, ◌∙◌, sym, arith}
use Rattle.std.specs.Prelude.{String, bytes_eq}
use Rattle.std.specs.BTreeMap.{get_by_text}
use Rattle.std.specs.Cmp.Lexicographic.{bytes_decides, nat_list_eq_equiv}
use Rattle.std.specs.List.{prefix_len, position_or_len}
use Rattle.std.specs.Map.{update}
use Rattle.std.proofs.Math.Seq.{get_or-append_seam}
use Rattle.std.proofs.lemmas.Bool.Decides.{nat_tests}
use Rattle.std.proofs.lemmas.List.{length-map, length-append, get_or_append_left}
use Rattle.std.proofs.lemmas.List.Folds.{position_or_len_push}
use Rattle.gi_mir.proofs.Places.{position_or_len-bound}
use Rattle.gi_mir.specs.Names.{number_of, name_at, AreDistinct, AreFound}

pub prefix_len-map : {X Y : Type 0} (p : Y → Bool) (f : X → Y) (xs : List X) → prefix_len p (map f xs) ≡ prefix_len (λ x. p (f x)) xs
prefix_len-map p f [] = refl
prefix_len-map p f (x ∷ xs) = ap (λ n. cond (p (f x)) (1 + n) 0) (prefix_len-map p f xs)

pub position-map : {X Y : Type 0} (p : Y → Bool) (f : X → Y) (xs : List X) → position p (map f xs) ≡ position (λ x. p (f x)) xs
position-map p f xs = rw (prefix_len-map (λ y. not (p y)) f xs, length-map xs f) refl

position_push : {X : Type 0} (p : X → Bool) (xs : List X) (y : X) → position p (xs ++ y ∷ []) ≡ cond (is_some (position p xs)) (position p xs) (cond (p y) (Some (length xs)) None)
position_push p xs y =
    by (p y) (position_or_len p xs) (length xs) _ _ (position_or_len-bound p xs) (position_or_len_push p xs y) (length-append xs (y ∷ []))
  where
    by : (t : Bool) (a b c d : ℕ) → a ≤ b → c ≡ cond (eqb a b) (b + cond t 0 1) a → d ≡ b + 1
        → cond (nat_lt c d) (Some c) None ≡ cond (is_some (cond (nat_lt a b) (Some a) None)) (cond (nat_lt a b) (Some a) None) (cond t (Some b) None)
    by true a b c d le e f = grind (arith, nat_tests)
    by false a b c d le e f = grind (arith, nat_tests)

-- ---- each name has one number, which the map finds

module _ (names : List (List ℕ)) (name : List ℕ) (absent : number_of names name ≡ None) where
  added : (text : List ℕ) → bytes_eq name text ≡ true → number_of (names ++ name ∷ []) text ≡ Some (length names)
  added text same = rw (← (bytes_decides name text).0 same) (position_push (bytes_eq name) names name ∙ rw (absent, nat_list_eq_equiv.refl name) refl)

  before : (text : List ℕ) → bytes_eq name text ≡ false → number_of (names ++ name ∷ []) text ≡ number_of names text
  before text other =
      position_push (bytes_eq text) names name ∙ rw (nat_list_eq_equiv.symm text name, other) (by (number_of names text))
    where
      by : (o : Option ℕ) → cond (is_some o) o None ≡ o
      by (Some n) = refl
      by None = refl

  pub AreDistinct-append : AreDistinct names → AreDistinct (names ++ name ∷ [])
  AreDistinct-append distinct = record { apart = λ k h. by k (split k (length names)) h }
    where
      split : (a b : ℕ) → (a < b) ⊎ (b ≤ a)
      split a b = grind arith

      by : (k : ℕ) → (k < length names) ⊎ (length names ≤ k) → k < length (names ++ name ∷ []) → number_of (names ++ name ∷ []) (name_at (names ++ name ∷ []) k) ≡ Some k
      by k c h = ⊎_elim
          (λ (lt : k < length names).
          ap (λ (n : List ℕ). number_of (names ++ name ∷ []) n) (get_or_append_left names (name ∷ []) [] k lt)
          ∙ position_push (bytes_eq (name_at names k)) names name
          ∙ rw (distinct.apart k lt) refl)
          (λ (ge : length names ≤ k).
          let last : k ≡ length names = omega (arith, length-append names (name ∷ []), h) in
          ap (λ (n : List ℕ). number_of (names ++ name ∷ []) n) (rw last (get_or-append_seam names name [] []))
          ∙ added name (nat_list_eq_equiv.refl name)
          ∙ ap Some (sym last))
          c

  pub AreFound-append : {A : Type 0} (old new : BTreeMap (String A) ℕ) (number : ℕ) → AreFound old names
      → ((text : List ℕ) → get_by_text new text ≡ update bytes_eq (get_by_text old) name (Some number) text) → number ≡ length names → AreFound new (names ++ name ∷ [])
  AreFound-append old new number are noted is = record { found = λ text. noted text ∙ by text (bytes_eq name text) refl }
    where
      by : (text : List ℕ) (t : Bool) → bytes_eq name text ≡ t → cond t (Some number) (get_by_text old text) ≡ number_of (names ++ name ∷ []) text
      by text true e = ap Some is ∙ sym (added text e)
      by text false e = are.found text ∙ sym (before text e)
