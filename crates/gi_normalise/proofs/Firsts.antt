-- The first instruction in layout that passes a test.
use Rattle.std.proofs.Common.{◌≡◌, ℕ, suc, Bool, true, false, cond, List, [], ◌∷◌, Some, refl, ap, ◌∙◌}
use Rattle.std.specs.Prelude.{find, map, option_map, slice_get}
use Rattle.gi_mir.specs.Data.{InstrData, FunctionData}
use Rattle.gi_mir.specs.Edit.{IsLive, all_instrs}
use Rattle.gi_mir.proofs.Located.{is_live-id_in}
use Rattle.gi_observe.proofs.Told.{find_place}
use Rattle.gi_normalise.specs.Layout.{first_place}

found-at : (t : ℕ → Bool) (ps : List (ℕ × InstrData)) (id : ℕ) → find t (map (λ (p : ℕ × InstrData). p.0) ps) ≡ Some id → (k : ℕ) × (p : ℕ × InstrData) × (slice_get ps k ≡ Some p) × (p.0 ≡ id)
found-at t [] id h = cc
found-at t (p ∷ ps) id h = by (t p.0) h (λ rest. found-at t ps id rest)
  where
    by : (b : Bool) → cond b (Some p.0) (find t (map (λ (q : ℕ × InstrData). q.0) ps)) ≡ Some id
        → (find t (map (λ (q : ℕ × InstrData). q.0) ps) ≡ Some id → (k : ℕ) × (q : ℕ × InstrData) × (slice_get ps k ≡ Some q) × (q.0 ≡ id))
        → (k : ℕ) × (q : ℕ × InstrData) × (slice_get (p ∷ ps) k ≡ Some q) × (q.0 ≡ id)
    by true h more = (0, p, refl, cc)
    by false h more = let (k, q, at, same) = more h in (suc k, q, at, same)

pub first-live : (fits : ℕ → Bool) (f : FunctionData) (id : ℕ) → first_place fits f ≡ Some id → IsLive f id
first-live fits f id h =
    let (m, p, at, same) = found-at fits (all_instrs f.blocks) id h in
    let (b, k, there) = find_place f.blocks m p at in
    is_live-id_in id f.blocks b k (ap (option_map (λ (q : ℕ × InstrData). q.0)) there ∙ ap (λ (n : ℕ). Some n) same)
