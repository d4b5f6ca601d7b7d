-- What is left of a list in a loop.
use Rattle.std.proofs.Common.{◌≡◌, ℕ, ◌++◌, Ok, Err, OnOk, append_assoc, append-nil, ◌+◌, ◌<◌, ◌≤◌, List, [], ◌∷◌, length, get_or, drop, sym, ap, ◌∙◌, add-one}
use Rattle.std.specs.Prelude.{Result}
use Rattle.std.proofs.Math.ListN.{drop_of_length-le}
use Rattle.std.proofs.Math.Seq.{drop-cons}

-- the next element and what is left after it
pub drop_step : {X : Type 0} (xs : List X) (i : ℕ) (d : X) → i < length xs → drop i xs ≡ get_or xs i d ∷ drop (i + 1) xs
drop_step xs i d h = drop-cons xs i d h ∙ ap (λ n. get_or xs i d ∷ drop n xs) (sym (add-one i))

pub drop_element : {X : Type 0} (xs : List X) (i : ℕ) (x : X) → i < length xs → x ≡ get_or xs i x → drop i xs ≡ x ∷ drop (i + 1) xs
drop_element xs i x h is = drop_step xs i x h ∙ ap (λ y. y ∷ drop (i + 1) xs) (sym is)

-- what one call added, and then what the next one did
pub on_ok_joined : {T E : Type 0} (r : Result T E) (o a b x y : List ℕ) → x ≡ o ++ a → OnOk r (y ≡ x ++ b) → OnOk r (y ≡ o ++ (a ++ b))
on_ok_joined (Ok v) o a b x y first second = second ∙ ap (λ bs. bs ++ b) first ∙ append_assoc o a b
on_ok_joined (Err e) o a b x y first second = second

pub on_ok_same : {T E : Type 0} (r : Result T E) (o a b y : List ℕ) → a ≡ b → OnOk r (y ≡ o ++ a) → OnOk r (y ≡ o ++ b)
on_ok_same (Ok v) o a b y same h = h ∙ ap (λ bs. o ++ bs) same
on_ok_same (Err e) o a b y same h = h

pub on_ok_then : {T E : Type 0} (P Q : Type 0) (r : Result T E) → (P → Q) → OnOk r P → OnOk r Q
on_ok_then P Q (Ok v) f h = f h
on_ok_then P Q (Err e) f h = h

pub drop_end : {X : Type 0} (xs : List X) (i : ℕ) → length xs ≤ i → drop i xs ≡ []
drop_end xs i h = drop_of_length-le xs h

-- one more piece of text
pub text_step : (o piece rest o1 total : List ℕ) → o1 ≡ o ++ piece → o ++ (piece ++ rest) ≡ total → o1 ++ rest ≡ total
text_step o piece rest o1 total first all = ap (λ bs. bs ++ rest) first ∙ append_assoc o piece rest ∙ all

-- nothing is left
pub text_end : (o rest total : List ℕ) → rest ≡ [] → o ++ rest ≡ total → o ≡ total
text_end o rest total none all = sym (append-nil o) ∙ ap (λ bs. o ++ bs) (sym none) ∙ all
