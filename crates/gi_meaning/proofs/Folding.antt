-- Types and values of an operation that is computed.
use Rattle.std.proofs.Common.{◌≡◌, ℕ, suc, ◌+◌, ◌*◌, ◌^◌, ◌<◌, ◌≤◌, ◌⊎◌, inl, inr, refl, sym, ◌∙◌, ap, ap₂, subst, add-one, arith, true, false, ◌&&◌, ◌==◌, List, [], ◌∷◌, length, get_or, drop, nat_lt, nat_le, All}
use Rattle.std.proofs.lemmas.Bool.{eqb-true, eq-eqb, and_from, and_parts, and_right, ltb-true, leb-true, false≢true}
use Rattle.std.proofs.lemmas.List.Elements.{All-cons}
use Rattle.std.proofs.Math.Seq.{drop-cons}
use Rattle.gi_llt.specs.declared.Llt.{Llt}
use Rattle.gi_llt.specs.declared.Llt.TheVariants.{Scalar, Pointer}
use Rattle.gi_llt.specs.Llt.{width_of}
use Rattle.std.specs.List.{list_all}
use Rattle.gi_mir.specs.Accepted.{are_typed, is_sum}
use Rattle.gi_mir.specs.Types.{is_any, is_scalar, same_type, scalar_bits}
use Rattle.gi_mir.specs.Typings.{merge}
use Rattle.gi_meaning.specs.Fold.{is_value, are_values, registers}
use Rattle.gi_meaning.specs.Generic.{merged}
use Rattle.gi_meaning.specs.Plain.{merged_of}

by_width : (x n : ℕ) → (x ≡ 32) ⊎ (x ≡ 64) → n ≤ 2 * x → n ≤ 128
by_width x n (inl e) h = omega arith
by_width x n (inr e) h = omega arith

pointer_positive : (x : ℕ) → (x ≡ 32) ⊎ (x ≡ 64) → 0 < x
pointer_positive x (inl e) = omega arith
pointer_positive x (inr e) = omega arith

pointer_limit : (x : ℕ) → (x ≡ 32) ⊎ (x ≡ 64) → x ≤ 128
pointer_limit x (inl e) = omega arith
pointer_limit x (inr e) = omega arith

pub any_width : (x : ℕ) (ty : Llt) → (x ≡ 32) ⊎ (x ≡ 64) → is_any x ty ≡ true → (0 < width_of x ty) × (width_of x ty ≤ 128)
any_width x (Scalar n) h e =
    let p : (nat_lt 0 n ≡ true) × (nat_le n (2 * x) ≡ true) = and_parts (nat_lt 0 n) (nat_le n (2 * x)) e in
    let l : n ≤ 2 * x = leb-true n (2 * x) p.1 in
    (ltb-true 0 n p.0, by_width x n h l)
any_width x Pointer h e = (pointer_positive x h, pointer_limit x h)

pub values_more : (x i : ℕ) (types : List Llt) (values : List ℕ) (t : Llt) (v : ℕ) → i < length types → i < length values → is_value x (get_or types i t) (get_or values i v) ≡ true → are_values x (drop (i + 1) types) (drop (i + 1) values) ≡ are_values x (drop i types) (drop i values)
values_more x i types values t v h l e =
    let d : drop i types ≡ get_or types i t ∷ drop (i + 1) types = drop-cons types i t h ∙ ap (λ k. get_or types i t ∷ drop k types) (sym (add-one i)) in
    let f : drop i values ≡ get_or values i v ∷ drop (i + 1) values = drop-cons values i v l ∙ ap (λ k. get_or values i v ∷ drop k values) (sym (add-one i)) in
    sym (ap₂ (are_values x) d f ∙ ap (λ b. b && are_values x (drop (i + 1) types) (drop (i + 1) values)) e)

pub values_bad : (x i : ℕ) (types : List Llt) (values : List ℕ) (t : Llt) (v : ℕ) → i < length types → i < length values → is_value x (get_or types i t) (get_or values i v) ≡ false → are_values x (drop i types) (drop i values) ≡ false
values_bad x i types values t v h l e =
    let d : drop i types ≡ get_or types i t ∷ drop (i + 1) types = drop-cons types i t h ∙ ap (λ k. get_or types i t ∷ drop k types) (sym (add-one i)) in
    let f : drop i values ≡ get_or values i v ∷ drop (i + 1) values = drop-cons values i v l ∙ ap (λ k. get_or values i v ∷ drop k values) (sym (add-one i)) in
    ap₂ (are_values x) d f ∙ ap (λ b. b && are_values x (drop (i + 1) types) (drop (i + 1) values)) e

drop-length : {A : Type 0} (xs : List A) → drop (length xs) xs ≡ []
drop-length [] = refl
drop-length (x ∷ xs) = drop-length xs

pub values_none : (x i : ℕ) (types : List Llt) (values : List ℕ) → i ≡ length types → i ≡ length values → are_values x (drop i types) (drop i values) ≡ true
values_none x i types values h l =
    let d : drop i types ≡ [] = ap (λ k. drop k types) h ∙ drop-length types in
    let f : drop i values ≡ [] = ap (λ k. drop k values) l ∙ drop-length values in
    ap₂ (are_values x) d f

pub values_uneven : (x : ℕ) (types : List Llt) (values : List ℕ) → (length types ≡ length values → ⊥) → are_values x types values ≡ false
values_uneven x [] [] h = absurd (h refl)
values_uneven x [] (v ∷ vs) h = refl
values_uneven x (t ∷ ts) [] h = refl
values_uneven x (t ∷ ts) (v ∷ vs) h = and_right (is_value x t v) (are_values x ts vs) (values_uneven x ts vs (λ e. h (ap suc e)))

pub same_width : (x : ℕ) (a b : Llt) → same_type a b ≡ true → width_of x a ≡ width_of x b
same_width x (Scalar m) (Scalar n) h = eqb-true m n h
same_width x (Scalar m) Pointer h = absurd (false≢true h)
same_width x Pointer (Scalar n) h = absurd (false≢true h)
same_width x Pointer Pointer h = refl

-- values of equal parts
pub record AreParts (x w : ℕ) (types : List Llt) (values : List ℕ) : Type 0 where
  pub fit : All (λ v. v < 2 ^ w) values
  pub whole : merged (registers x types values) ≡ merged_of w values
  pub count : length values ≡ length types

pub parts_alike : (x : ℕ) (part : Llt) (types : List Llt) (values : List ℕ) → list_all (λ other. same_type part other) types ≡ true → are_values x types values ≡ true → AreParts x (width_of x part) types values
parts_alike x part [] [] h e = record { fit = λ k d l. absurd (omega arith); whole = refl; count = refl }
parts_alike x part [] (v ∷ vs) h e = absurd (false≢true e)
parts_alike x part (t ∷ ts) [] h e = absurd (false≢true e)
parts_alike x part (t ∷ ts) (v ∷ vs) h e =
    let p : (same_type part t ≡ true) × (list_all (λ other. same_type part other) ts ≡ true) = and_parts (same_type part t) (list_all (λ other. same_type part other) ts) h in
    let q : (is_value x t v ≡ true) × (are_values x ts vs ≡ true) = and_parts (is_value x t v) (are_values x ts vs) e in
    let b : (is_any x t ≡ true) × (nat_lt v (2 ^ width_of x t) ≡ true) = and_parts (is_any x t) (nat_lt v (2 ^ width_of x t)) q.0 in
    let s : width_of x part ≡ width_of x t = same_width x part t p.0 in
    let small : v < 2 ^ width_of x part = subst (λ w. v < 2 ^ w) (sym s) (ltb-true v (2 ^ width_of x t) b.1) in
    let r : AreParts x (width_of x part) ts vs = parts_alike x part ts vs p.1 q.1 in
    record {
      fit = All-cons (λ m. m < 2 ^ width_of x part) v vs small r.fit;
      whole = ap (λ w. v + 2 ^ w * merged (registers x ts vs)) (sym s) ∙ ap (λ m. v + 2 ^ width_of x part * m) r.whole;
      count = ap suc r.count;
    }

same_self : (a : Llt) → same_type a a ≡ true
same_self (Scalar n) = eq-eqb n n refl
same_self Pointer = refl

pub scalar_width : (x : ℕ) (a : Llt) → (x ≡ 32) ⊎ (x ≡ 64) → is_scalar x a ≡ true → (scalar_bits a ≡ width_of x a) × (scalar_bits a ≤ 128)
scalar_width x (Scalar n) h e =
    let p : (nat_lt 0 n ≡ true) × (nat_le n (2 * x) ≡ true) = and_parts (nat_lt 0 n) (nat_le n (2 * x)) e in
    (refl, by_width x n h (leb-true n (2 * x) p.1))
scalar_width x Pointer h e = absurd (false≢true e)

pub record Merges (x w : ℕ) (types : List Llt) (values : List ℕ) : Type 0 where
  pub room : w * length values ≤ 128
  pub fit : All (λ v. v < 2 ^ w) values
  pub whole : merged (registers x types values) ≡ merged_of w values

pub merge_facts : (x : ℕ) (whole : Llt) (types : List Llt) (values : List ℕ) (d : Llt) → (x ≡ 32) ⊎ (x ≡ 64) → are_typed x merge (whole ∷ []) types ≡ true → are_values x types values ≡ true → Merges x (width_of x (get_or types 0 d)) types values
merge_facts x whole [] values d h m e = absurd (false≢true (and_parts ((is_scalar x whole && true) && true) false m).1)
merge_facts x whole (part ∷ parts) values d h m e =
    let a = is_scalar x whole && true in
    let k = list_all (λ other. same_type part other) parts in
    let b = is_scalar x part && k in
    let n = suc (length parts) in
    let t = scalar_bits whole == n * scalar_bits part in
    let p : ((a && (b && true)) ≡ true) × (is_sum whole part n ≡ true) = and_parts (a && (b && true)) (is_sum whole part n) m in
    let q : (a ≡ true) × ((b && true) ≡ true) = and_parts a (b && true) p.0 in
    let w : (is_scalar x whole ≡ true) × (true ≡ true) = and_parts (is_scalar x whole) true q.0 in
    let v : (is_scalar x part ≡ true) × (k ≡ true) = and_parts (is_scalar x part) k (and_parts b true q.1).0 in
    let u : ((nat_le 2 n && nat_le n 16) ≡ true) × (t ≡ true) = and_parts (nat_le 2 n && nat_le n 16) t p.1 in
    let l : scalar_bits whole ≤ 128 = (scalar_width x whole h w.0).1 in
    let s : scalar_bits part ≡ width_of x part = (scalar_width x part h v.0).0 in
    let z : scalar_bits whole ≡ suc (length parts) * scalar_bits part = eqb-true (scalar_bits whole) (suc (length parts) * scalar_bits part) u.1 in
    let r : AreParts x (width_of x part) (part ∷ parts) values = parts_alike x part (part ∷ parts) values (and_from (same_type part part) k (same_self part) v.1) e in
    let c : length values ≡ length parts + 1 = r.count ∙ sym (add-one (length parts)) in
    record {
      room = subst (λ j. width_of x part * j ≤ 128) (sym c) (subst (λ j. j * (length parts + 1) ≤ 128) s (omega arith));
      fit = r.fit;
      whole = r.whole;
    }

pub merge_at : (x w : ℕ) (whole : Llt) (types : List Llt) (values : List ℕ) (d : Llt) → w ≡ width_of x (get_or types 0 d) → (x ≡ 32) ⊎ (x ≡ 64) → are_typed x merge (whole ∷ []) types ≡ true → are_values x types values ≡ true → Merges x w types values
merge_at x w whole types values d s h m e = subst (λ (j : ℕ). Merges x j types values) (sym s) (merge_facts x whole types values d h m e)

pub value_bits : (x : ℕ) (ty : Llt) (v : ℕ) → (x ≡ 32) ⊎ (x ≡ 64) → is_value x ty v ≡ true → (v < 2 ^ width_of x ty) × (0 < width_of x ty) × (width_of x ty ≤ 128)
value_bits x ty v h e =
    let p : (is_any x ty ≡ true) × (nat_lt v (2 ^ width_of x ty) ≡ true) = and_parts (is_any x ty) (nat_lt v (2 ^ width_of x ty)) e in
    let w : (0 < width_of x ty) × (width_of x ty ≤ 128) = any_width x ty h p.0 in
    (ltb-true v (2 ^ width_of x ty) p.1, w.0, w.1)

pub values_count : (x : ℕ) (types : List Llt) (values : List ℕ) → are_values x types values ≡ true → length values ≡ length types
values_count x [] [] h = refl
values_count x [] (v ∷ vs) h = absurd (false≢true h)
values_count x (t ∷ ts) [] h = absurd (false≢true h)
values_count x (t ∷ ts) (v ∷ vs) h = ap suc (values_count x ts vs (and_parts (is_value x t v) (are_values x ts vs) h).1)

-- the width of a value of another type of the same width
pub value_like : (x : ℕ) (a b : Llt) (v : ℕ) → (x ≡ 32) ⊎ (x ≡ 64) → is_any x b ≡ true → width_of x a ≡ width_of x b → is_value x a v ≡ true → is_value x b v ≡ true
value_like x a b v h y w e =
    let p : (is_any x a ≡ true) × (nat_lt v (2 ^ width_of x a) ≡ true) = and_parts (is_any x a) (nat_lt v (2 ^ width_of x a)) e in
    and_from (is_any x b) (nat_lt v (2 ^ width_of x b)) y (subst (λ k. nat_lt v (2 ^ k) ≡ true) w p.1)
