-- Lists by the place on a page, and pages by the key.
use Rattle.std.proofs.Common.{◌≡◌, ◌≢◌, ℕ, zero, suc, ◌-◌, ◌<◌, Bool, true, false, List, [], ◌∷◌, ◌++◌, length, set, refl, sym, ap, ◌∙◌, arith}
use Rattle.std.specs.Prelude.{slice_index_or}
use Rattle.std.specs.List.Sorted.{IsPartitionedBy, IsPartitionPoint}
use Rattle.gi_mir.specs.declared.block.InstrId.{InstrId}
use Rattle.gi_mir.specs.declared.page.Page.{Page}
use Rattle.gi_mir.specs.InstrLists.{last_precedes}
use Rattle.gi_mir.specs.Pages.{list_at, listed_at, IsPageWritten}

-- a list without instructions behind others
pub same_with_empty : (lists : List (List InstrId)) (last : List InstrId) → last ≡ [] → (k : ℕ) → list_at (lists ++ last ∷ []) k ≡ list_at lists k
same_with_empty [] last empty zero = empty
same_with_empty [] last empty (suc k) = refl
same_with_empty (x ∷ lists) last empty zero = refl
same_with_empty (x ∷ lists) last empty (suc k) = same_with_empty lists last empty k

-- ---- a place that is written

set_here : (lists : List (List InstrId)) (at : ℕ) (ids : List InstrId) → at < length lists → list_at (set lists at ids) at ≡ ids
set_here [] at ids within = absurd (omega (arith, within))
set_here (x ∷ lists) zero ids within = refl
set_here (x ∷ lists) (suc at) ids within = set_here lists at ids (omega (arith, within))

set_elsewhere : (lists : List (List InstrId)) (at : ℕ) (ids : List InstrId) (k : ℕ) → k ≢ at → list_at (set lists at ids) k ≡ list_at lists k
set_elsewhere [] at ids k apart = refl
set_elsewhere (x ∷ lists) zero ids zero apart = absurd (apart refl)
set_elsewhere (x ∷ lists) zero ids (suc k) apart = refl
set_elsewhere (x ∷ lists) (suc at) ids zero apart = refl
set_elsewhere (x ∷ lists) (suc at) ids (suc k) apart = set_elsewhere lists at ids k (λ e. apart (ap suc e))

-- lists that have the same instructions as before, with one of them set
pub place_set : (old new : Page) (room : List (List InstrId)) (at : ℕ) (ids : List InstrId)
    → ((k : ℕ) → list_at room k ≡ listed_at old k) → at < length room → new.lists.items ≡ set room at ids → IsPageWritten old new at ids
place_set old new room at ids same within is = record {
  here = ap (λ lists. list_at lists at) is ∙ set_here room at ids within;
  elsewhere = λ k apart. ap (λ lists. list_at lists k) is ∙ set_elsewhere room at ids k apart ∙ same k;
}

-- the last of a list is that at its last index
pub last_precedes_none : (before : InstrId → Bool) (ids : List InstrId) → length ids ≡ 0 → last_precedes before ids ≡ false
last_precedes_none before [] none = refl
last_precedes_none before (x ∷ ids) none = absurd (omega (arith, none))

pub last_precedes_some : (before : InstrId → Bool) (ids : List InstrId) (other : InstrId) → 0 < length ids → last_precedes before ids ≡ before (slice_index_or ids (length ids - 1) other)
last_precedes_some before [] other some = absurd (omega (arith, some))
last_precedes_some before (x ∷ []) other some = refl
last_precedes_some before (x ∷ y ∷ ids) other some =
    let one : length (x ∷ y ∷ ids) - 1 ≡ suc (length (y ∷ ids) - 1) = omega arith in
    rw one (last_precedes_some before (y ∷ ids) other (omega arith))

-- ---- where the last of a list stands before a place, all do

pub all_before : (before : InstrId → Bool) (ids : List InstrId) → IsPartitionedBy before ids → last_precedes before ids ≡ true
    → IsPartitionPoint (λ id. before id ≡ true) (λ id. before id ≡ false) ids (length ids)
all_before before [] sorted last = cc
all_before before (x ∷ ids) sorted last = (
  (λ k other low high. sorted k (length (x ∷ ids) - 1) other (omega (arith, high)) (omega (arith, high)) (sym (last_precedes_some before (x ∷ ids) other (omega arith)) ∙ last)),
  (λ k other low high. absurd (omega (arith, low, high))),
)
