-- What is met in an arena from an instruction on.
use Rattle.std.proofs.Common.{◌≡◌, ℕ, zero, suc, ◌<◌, ◌-◌, ◌≢◌, min, List, [], ◌∷◌, length, Option, Some, None, take, refl, subst, sym, ap, arith}
use Rattle.std.specs.Prelude.{slice_get}
use Rattle.std.specs.Iterator.{MakesProgress, item_count}
use Rattle.std.specs.Option.{option_map_or}
use Rattle.gi_mir.specs.declared.block.InstrId.{InstrId}
use Rattle.gi_mir.specs.declared.block.Slot.{Slot}
use Rattle.gi_mir.specs.Data.{InstrData}
use Rattle.gi_mir.specs.Arena.{chain}

pub chain-none : (slots : List Slot) (n : ℕ) → chain slots n None ≡ []
chain-none slots zero = refl
chain-none slots (suc n) = refl

pub chain-missing : (slots : List Slot) (n : ℕ) (id : InstrId) → slice_get slots id.0 ≡ None → chain slots n (Some id) ≡ []
chain-missing slots zero id h = refl
chain-missing slots (suc n) id h = rw h refl

pub chain-empty : (slots : List Slot) (n : ℕ) (id : InstrId) (s : Slot) → slice_get slots id.0 ≡ Some s → s.entry ≡ None → chain slots n (Some id) ≡ []
chain-empty slots zero id s h e = refl
chain-empty slots (suc n) id s h e = rw (h, e) refl

pub chain-step : (slots : List Slot) (n : ℕ) (id : InstrId) (s : Slot) (e : ℕ × InstrData) → n ≢ 0 → slice_get slots id.0 ≡ Some s → s.entry ≡ Some e → chain slots n (Some id) ≡ e ∷ chain slots (n - 1) s.next
chain-step slots zero id s e some h is = absurd (some refl)
chain-step slots (suc n) id s e some h is = let one : suc n - 1 ≡ n = omega arith in rw (h, is, one) refl

pub chain-take : (slots : List Slot) (k n : ℕ) (at : Option InstrId) → chain slots (min k n) at ≡ take k (chain slots n at)
chain-take slots zero n at = let z : min zero n ≡ 0 = omega arith in rw z refl
chain-take slots (suc k) zero at = let z : min (suc k) 0 ≡ 0 = omega arith in rw z refl
chain-take slots (suc k) (suc n) None = let z : min (suc k) (suc n) ≡ suc (min k n) = omega arith in rw z refl
chain-take slots (suc k) (suc n) (Some id) =
    let z : min (suc k) (suc n) ≡ suc (min k n) = omega arith in rw z (by (λ next. chain-take slots k n next) (slice_get slots id.0))
  where
    entry : (o : Option (ℕ × InstrData)) (next : Option InstrId) → chain slots (min k n) next ≡ take k (chain slots n next) → option_map_or (λ e. e ∷ chain slots (min k n) next) o [] ≡ take (suc k) (option_map_or (λ e. e ∷ chain slots n next) o [])
    entry None next more = refl
    entry (Some e) next more = ap (λ (xs : List (ℕ × InstrData)). e ∷ xs) more

    by : ((next : Option InstrId) → chain slots (min k n) next ≡ take k (chain slots n next)) → (o : Option Slot) → option_map_or (λ s. option_map_or (λ e. e ∷ chain slots (min k n) s.next) s.entry []) o [] ≡ take (suc k) (option_map_or (λ s. option_map_or (λ e. e ∷ chain slots n s.next) s.entry []) o [])
    by more None = refl
    by more (Some s) = entry s.entry s.next (more s.next)

-- an item leaves one less
pub progress : {S A B : Type 0} (can : S → Type 0) (rest : S → List A) → ((s : S) → can s) → (s t : S) (e : A) (x : B) → rest s ≡ e ∷ rest t → MakesProgress can (item_count rest) s (Some x) t
progress can rest always s t e x h = record {
  on = λ _. (always t, tt, subst (λ xs. length (rest t) < length xs) (sym h) (omega arith));
  keeps = always t;
  rests = λ _. tt;
}
