-- The kind of a register, by its place.
use Rattle.std.proofs.Common.{◌≡◌, ℕ, suc, ◌+◌, ◌<◌, Bool, true, false, not, cond, List, [], ◌∷◌, ◌++◌, Some, None, length, nat_eq, nat_lt, slice_get, is_some, position, zero, refl, sym, ap, ◌∙◌, arith}
use Rattle.std.specs.List.{zip, position_or_len}
use Rattle.std.specs.Option.{option_and_then}
use Rattle.std.specs.Map.{lookup}
use Rattle.std.proofs.lemmas.Bool.Decides.{nat_tests}
use Rattle.std.proofs.lemmas.List.{length-append}
use Rattle.std.proofs.lemmas.List.Quantifiers.{position-Some}
use Rattle.gi_mir.specs.Numbering.{with_register}
use Rattle.gi_mir.specs.declared.operand.Kind.{Kind}
use Rattle.gi_registers.specs.Noted.{kind_noted, with_kind}
use Rattle.gi_registers.proofs.Paging.{is_added}

by_place : (keys : List ℕ) (kinds : List Kind) (reg : ℕ) → length keys ≡ length kinds → option_and_then (slice_get kinds) (position (nat_eq reg) keys) ≡ kind_noted (zip keys kinds) reg
by_place [] kinds reg h = refl
by_place (k ∷ ks) [] reg h = absurd (omega (arith, h))
by_place (k ∷ ks) (v ∷ vs) reg h = by (nat_eq reg k) (position_or_len (nat_eq reg) ks) (length ks) (by_place ks vs reg (omega (arith, h)))
  where
    by : (b : Bool) (m l : ℕ) → option_and_then (slice_get vs) (cond (nat_lt m l) (Some m) None) ≡ lookup (nat_eq reg) (zip ks vs) → option_and_then (slice_get (v ∷ vs)) (cond (nat_lt (cond (not b) (1 + m) 0) (suc l)) (Some (cond (not b) (1 + m) 0)) None) ≡ cond b (Some v) (lookup (nat_eq reg) (zip ks vs))
    by true m l e = first (nat_lt 0 (suc l)) (grind (arith, nat_tests))
      where
        first : (t : Bool) → t ≡ true → option_and_then (slice_get (v ∷ vs)) (cond t (Some 0) None) ≡ Some v
        first t g = rw g refl
    by false m l e = more (nat_lt m l) (nat_lt (1 + m) (suc l)) (1 + m) (grind (arith, nat_tests)) (omega arith) e
      where
        more : (s t : Bool) (n : ℕ) → t ≡ s → n ≡ suc m → option_and_then (slice_get vs) (cond s (Some m) None) ≡ lookup (nat_eq reg) (zip ks vs) → option_and_then (slice_get (v ∷ vs)) (cond t (Some n) None) ≡ lookup (nat_eq reg) (zip ks vs)
        more true t n g i e = rw (g, i) e
        more false t n g i e = rw g e

pub noted_at : (keys : List ℕ) (kinds : List Kind) (reg place : ℕ) → length keys ≡ length kinds → position (nat_eq reg) keys ≡ Some place → slice_get kinds place ≡ kind_noted (zip keys kinds) reg
noted_at keys kinds reg place h e = ap (option_and_then (slice_get kinds)) (sym e) ∙ by_place keys kinds reg h

pub not_noted : (keys : List ℕ) (kinds : List Kind) (reg : ℕ) → length keys ≡ length kinds → position (nat_eq reg) keys ≡ None → kind_noted (zip keys kinds) reg ≡ None
not_noted keys kinds reg h e = sym (by_place keys kinds reg h) ∙ ap (option_and_then (slice_get kinds)) e

there : (kinds : List Kind) (place : ℕ) → place < length kinds → is_some (slice_get kinds place) ≡ true
there [] place h = absurd (omega (arith, h))
there (k ∷ ks) zero h = refl
there (k ∷ ks) (suc place) h = there ks place (omega (arith, h))

within : (keys : List ℕ) (reg place : ℕ) → position (nat_eq reg) keys ≡ Some place → place < length keys
within keys reg place e = (position-Some (nat_eq reg) keys place 0 e).0

pub has_kind : (keys : List ℕ) (kinds : List Kind) (reg place : ℕ) (kind : Kind) → length keys ≡ length kinds → position (nat_eq reg) keys ≡ Some place → with_kind (zip keys kinds) reg kind ≡ zip keys kinds
has_kind keys kinds reg place kind h e = rw (sym (noted_at keys kinds reg place h e), there kinds place (rw (sym h) (within keys reg place e))) refl

zipped : (keys : List ℕ) (kinds : List Kind) (reg : ℕ) (kind : Kind) → length keys ≡ length kinds → zip (keys ++ reg ∷ []) (kinds ++ kind ∷ []) ≡ zip keys kinds ++ (reg, kind) ∷ []
zipped [] [] reg kind h = refl
zipped [] (v ∷ vs) reg kind h = absurd (omega (arith, h))
zipped (k ∷ ks) [] reg kind h = absurd (omega (arith, h))
zipped (k ∷ ks) (v ∷ vs) reg kind h = ap (λ es. (k, v) ∷ es) (zipped ks vs reg kind (omega (arith, h)))

pub with_one_more : (keys more : List ℕ) (kinds : List Kind) (reg : ℕ) (kind : Kind) → length keys ≡ length kinds → position (nat_eq reg) keys ≡ None → more ≡ with_register keys reg
    → (zip more (kinds ++ kind ∷ []) ≡ with_kind (zip keys kinds) reg kind) × (length more ≡ length (kinds ++ kind ∷ []))
with_one_more keys more kinds reg kind h e is = rw (is ∙ sym (is_added keys reg (sym e)), not_noted keys kinds reg h e) (zipped keys kinds reg kind h, lengths)
  where
    lengths : length (keys ++ reg ∷ []) ≡ length (kinds ++ kind ∷ [])
    lengths = rw (length-append keys (reg ∷ []), length-append kinds (kind ∷ []), h) refl
