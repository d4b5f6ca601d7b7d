-- The definition of a register stands in a block.
use Rattle.std.proofs.Common.{◌≡◌, ℕ, suc, Bool, true, false, cond, List, [], ◌∷◌, Option, Some, None, find, refl, sym, ap, ◌∙◌, option_map}
use Rattle.std.specs.Option.{option_or}
use Rattle.std.proofs.lemmas.Option.{same_Some}
use Rattle.gi_mir.specs.Data.{InstrData, BlockData, FunctionData}
use Rattle.gi_mir.specs.Edit.{all_instrs, defines, definition_of, IsLive}
use Rattle.gi_mir.specs.Places.{id_in, nth_id}
use Rattle.gi_mir.proofs.Located.{is_live-id_in}
use Rattle.gi_verify.proofs.Finding.{found_in_either}

record FoundAt (blocks : List BlockData) (r : ℕ) (p : ℕ × InstrData) : Type 0 where
  block : ℕ
  place : ℕ
  stands : id_in blocks block place ≡ Some p.0

nth_of : (r : ℕ) (is : List (ℕ × InstrData)) (p : ℕ × InstrData) → find (defines r) is ≡ Some p → (k : ℕ) × (nth_id is k ≡ Some p.0)
nth_of r [] p h = cc
nth_of r (i ∷ is) p h = by (λ l. nth_of r is p l) (defines r i) h
  where
    by : (find (defines r) is ≡ Some p → (k : ℕ) × (nth_id is k ≡ Some p.0)) → (t : Bool) → cond t (Some i) (find (defines r) is) ≡ Some p → (k : ℕ) × (nth_id (i ∷ is) k ≡ Some p.0)
    by again true l = (0, ap (option_map (λ q. q.0)) l)
    by again false l = let at : (k : ℕ) × (nth_id is k ≡ Some p.0) = again l in (suc at.0, at.1)

found_at : (blocks : List BlockData) (r : ℕ) (p : ℕ × InstrData) → find (defines r) (all_instrs blocks) ≡ Some p → FoundAt blocks r p
found_at [] r p h = cc
found_at (b ∷ bs) r p h = by (λ l. found_at bs r p l) (find (defines r) b.instrs) refl (sym (found_in_either (defines r) b.instrs (all_instrs bs)) ∙ h)
  where
    by : (find (defines r) (all_instrs bs) ≡ Some p → FoundAt bs r p) → (o : Option (ℕ × InstrData)) → find (defines r) b.instrs ≡ o → option_or o (find (defines r) (all_instrs bs)) ≡ Some p → FoundAt (b ∷ bs) r p
    by again (Some q) is l =
        let at : (k : ℕ) × (nth_id b.instrs k ≡ Some p.0) = nth_of r b.instrs p (is ∙ l) in
        record { block = 0; place = at.0; stands = at.1 }
    by again None is l =
        let at : FoundAt bs r p = again l in
        record { block = suc at.block; place = at.place; stands = at.stands }

record IsOf (f : FunctionData) (r id : ℕ) : Type 0 where
  entry : ℕ × InstrData
  found : find (defines r) (all_instrs f.blocks) ≡ Some entry
  same : entry.0 ≡ id

by_id : (f : FunctionData) (r id : ℕ) → Some id ≡ definition_of f r → IsOf f r id
by_id f r id h = by (find (defines r) (all_instrs f.blocks)) refl h
  where
    by : (o : Option (ℕ × InstrData)) → find (defines r) (all_instrs f.blocks) ≡ o → Some id ≡ option_map (λ p. p.0) o → IsOf f r id
    by (Some p) is l = record { entry = p; found = is; same = sym (same_Some id p.0 l) }
    by None is l = cc

pub live_of : (f : FunctionData) (r id : ℕ) → Some id ≡ definition_of f r → IsLive f id
live_of f r id h =
    let e : IsOf f r id = by_id f r id h in
    let at : FoundAt f.blocks r e.entry = found_at f.blocks r e.entry e.found in
    is_live-id_in id f.blocks at.block at.place (at.stands ∙ ap Some e.same)
