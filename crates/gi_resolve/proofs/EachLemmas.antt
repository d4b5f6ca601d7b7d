-- Lists in which each element has a meaning, and operands by the numbers of their names.
use Rattle.std.proofs.Common.{◌≡◌, ℕ, zero, suc, ◌+◌, ◌<◌, List, [], ◌∷◌, ◌++◌, length, get_or, take, Option, Some, None, refl, ap, ◌∙◌, arith, add-one, append_assoc}
use Rattle.std.specs.Prelude.{option_map}
use Rattle.std.specs.Option.{option_map_or}
use Rattle.std.specs.List.{AllZip}
use Rattle.std.proofs.Math.Seq.{take-suc}
use Rattle.gi_mir.specs.declared.operand.Operand.{Operand}
use Rattle.gi_spelling.specs.Named.{Extends, IsNamedOperand}
use Rattle.gi_spelling.specs.Resolved.{each}
use Rattle.gi_spelling.proofs.NamedLemmas.{AllZip-implies, named_operand}
use Rattle.gi_resolve.specs.Meant.{AreMeant, IsMeantOperand}

each-last : {X Y : Type 0} (f : X → Option Y) (xs : List X) (x : X) (ys : List Y) (y : Y) → each f xs ≡ Some ys → f x ≡ Some y → each f (xs ++ x ∷ []) ≡ Some (ys ++ y ∷ [])
each-last f [] x ys y is last = let none : [] ≡ ys = cc in rw last (ap (λ zs. Some (zs ++ y ∷ [])) none)
each-last {X} {Y} f (first ∷ xs) x ys y is last = chosen (f first) (each f xs) refl is (λ zs at. each-last f xs x zs y at last)
  where
    chosen : (r : Option Y) (later : Option (List Y)) → each f xs ≡ later → option_map_or (λ z. option_map (λ zs. z ∷ zs) later) r None ≡ Some ys
        → ((zs : List Y) → each f xs ≡ Some zs → each f (xs ++ x ∷ []) ≡ Some (zs ++ y ∷ []))
        → option_map_or (λ z. option_map (λ zs. z ∷ zs) (each f (xs ++ x ∷ []))) r None ≡ Some (ys ++ y ∷ [])
    chosen None later at is more = cc
    chosen (Some z) None at is more = cc
    chosen (Some z) (Some zs) at is more = let all : z ∷ zs ≡ ys = cc in rw (more zs at) (ap (λ l. Some (l ++ y ∷ [])) all)

-- one more has a meaning
pub each-more : {X Y : Type 0} (f : X → Option Y) (xs : List X) (i : ℕ) (d : X) (ys : List Y) (y : Y) → i < length xs → each f (take i xs) ≡ Some ys → f (get_or xs i d) ≡ Some y
    → each f (take (i + 1) xs) ≡ Some (ys ++ y ∷ [])
each-more f xs i d ys y within so_far is = rw (add-one i, take-suc xs i d within) (each-last f (take i xs) (get_or xs i d) ys y so_far is)

-- one has none
pub each-none : {X Y : Type 0} (f : X → Option Y) (xs : List X) (i : ℕ) (d : X) → i < length xs → f (get_or xs i d) ≡ None → each f xs ≡ None
each-none f [] i d within none = absurd (let no : i < 0 = within in omega arith)
each-none f (x ∷ xs) zero d within none = rw none refl
each-none {X} {Y} f (x ∷ xs) (suc i) d within none = chosen (f x) (each-none f xs i d (omega (arith, within)) none)
  where
    chosen : (r : Option Y) → each f xs ≡ None → option_map_or (λ y. option_map (λ ys. y ∷ ys) (each f xs)) r None ≡ None
    chosen None later = refl
    chosen (Some y) later = rw later refl

pub zip-last : {A B : Type 0} (R : A → B → Type 0) (xs : List A) (ys : List B) (x : A) (y : B) → AllZip R xs ys → R x y → AllZip R (xs ++ x ∷ []) (ys ++ y ∷ [])
zip-last R [] [] x y all last = (last, tt)
zip-last R [] (z ∷ ys) x y all last = absurd all
zip-last R (z ∷ xs) [] x y all last = absurd all
zip-last R (z ∷ xs) (w ∷ ys) x y all last = (all.0, zip-last R xs ys x y all.1 last)

pub zip-append : {A B : Type 0} (R : A → B → Type 0) (xs : List A) (ys : List B) (us : List A) (vs : List B) → AllZip R xs ys → AllZip R us vs → AllZip R (xs ++ us) (ys ++ vs)
zip-append R [] [] us vs all more = more
zip-append R [] (z ∷ ys) us vs all more = absurd all
zip-append R (z ∷ xs) [] us vs all more = absurd all
zip-append R (z ∷ xs) (w ∷ ys) us vs all more = (all.0, zip-append R xs ys us vs all.1 more)

-- one more operand is meant, while the names have grown
pub meant-more : {X : Type 0} (text : List ℕ) (names grown : List (List ℕ)) (f : X → Option Operand) (xs : List X) (i : ℕ) (d : X) (before operands more : List Operand) (new : Operand)
    → i < length xs → AreMeant text names (each f (take i xs)) before operands → Extends names grown → IsMeantOperand text grown (f (get_or xs i d)) new
    → more ≡ operands ++ new ∷ [] → AreMeant text grown (each f (take (i + 1) xs)) before more
meant-more text names grown f xs i d before operands more new within are grows is added = record {
  meant = are.meant ++ is.meant ∷ [];
  more = are.more ++ new ∷ [];
  is = each-more f xs i d are.meant is.meant within are.is is.is;
  grown = added ∙ ap (λ ops. ops ++ new ∷ []) are.grown ∙ append_assoc before are.more (new ∷ []);
  named = zip-last (IsNamedOperand text grown) are.meant are.more is.meant new
      (AllZip-implies (IsNamedOperand text names) (IsNamedOperand text grown) (named_operand text names grown grows) are.meant are.more are.named) is.named;
}
