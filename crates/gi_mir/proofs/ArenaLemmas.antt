-- The arena spells the blocks that it is linked as, and what an edit of its links makes of them.
use Rattle.std.proofs.Common.{◌≡◌, ℕ, zero, suc, ◌+◌, ◌≤◌, List, [], ◌∷◌, Option, Some, None, length, get_or, map, refl, ap, ◌∙◌, arith}
use Rattle.std.specs.Prelude.{slice_get, option_map}
use Rattle.std.specs.Option.{option_map_or}
use Rattle.std.proofs.lemmas.Option.{same_Some}
use Rattle.gi_mir.specs.declared.block.Body.{Body}
use Rattle.gi_mir.specs.declared.block.InstrId.{InstrId}
use Rattle.gi_mir.specs.declared.block.Slot.{Slot}
use Rattle.gi_mir.specs.Data.{InstrData, BlockData}
use Rattle.gi_mir.specs.Edit.{empty_block}
use Rattle.gi_mir.specs.Places.{nth_id, id_in}
use Rattle.gi_mir.specs.Arena.{chain, spelled, blocks_in, nth_instr_id, slot_at, body_of, IsLinked}

-- ---- what the arena spells

-- what a walk sees of a place
abbrev seen : Slot → Option (ℕ × InstrData) × Option InstrId
seen s = (s.entry, s.next)

abbrev both : Option (ℕ × InstrData) → Option InstrId → Option (Option (ℕ × InstrData) × Option InstrId)
both entry next = Some (entry, next)

-- a chain is no longer than what it is cut at
pub chain-length : (slots : List Slot) (n : ℕ) (at : Option InstrId) → length (chain slots n at) ≤ n
chain-length slots zero at = omega arith
chain-length slots (suc n) None = omega arith
chain-length slots (suc n) (Some id) = by_slot (chain-length slots n) (slice_get slots id.0)
  where
    by_entry : (s : Slot) → length (chain slots n s.next) ≤ n → (o : Option (ℕ × InstrData)) → length (option_map_or (λ e. e ∷ chain slots n s.next) o []) ≤ suc n
    by_entry s rest None = omega arith
    by_entry s rest (Some e) = omega (arith, rest)

    by_slot : ((at : Option InstrId) → length (chain slots n at) ≤ n) → (o : Option Slot) → length (option_map_or (λ s. option_map_or (λ e. e ∷ chain slots n s.next) s.entry []) o []) ≤ suc n
    by_slot rest None = omega arith
    by_slot rest (Some s) = by_entry s (rest s.next) s.entry

-- where each instruction of a list, from a place on, is in the arena with the next one, the chain is the list
chain-list : (slots : List Slot) (es : List (ℕ × InstrData)) (first : Option InstrId) → first ≡ nth_instr_id es 0
    → ((k id : ℕ) → nth_id es k ≡ Some id → option_map seen (slice_get slots id) ≡ Some (slice_get es k, nth_instr_id es (k + 1)))
    → chain slots (length es) first ≡ es
chain-list slots [] first begins linked = refl
chain-list slots (e ∷ es) first begins linked =
    rw begins (by (λ next is. chain-list slots es next is (λ k id h. linked (suc k) id h ∙ ap (λ (n : ℕ). both (slice_get es k) (nth_instr_id (e ∷ es) n)) (later k))) (slice_get slots e.0) refl (linked 0 e.0 refl))
  where
    later : (k : ℕ) → suc k + 1 ≡ suc (k + 1)
    later k = omega arith

    by : ((next : Option InstrId) → next ≡ nth_instr_id es 0 → chain slots (length es) next ≡ es) → (o : Option Slot) → slice_get slots e.0 ≡ o → option_map seen o ≡ Some (Some e, nth_instr_id es 0)
        → option_map_or (λ s. option_map_or (λ x. x ∷ chain slots (length es) s.next) s.entry []) o [] ≡ e ∷ es
    by rest None at h = cc
    by rest (Some s) at h =
        let pair : seen s ≡ (Some e, nth_instr_id es 0) = same_Some _ _ h in
        let own : s.entry ≡ Some e = ap (λ p. p.0) pair in
        let next : s.next ≡ nth_instr_id es 0 = ap (λ p. p.1) pair in
        rw own (ap (λ xs. e ∷ xs) (rest s.next next))

spelled-block : (slots : List Slot) (b : BlockData) → ((k id : ℕ) → nth_id b.instrs k ≡ Some id → slice_get slots id ≡ Some (slot_at b.instrs k)) → spelled slots (body_of b) ≡ b
spelled-block slots b linked =
    ap (λ (es : List (ℕ × InstrData)). record b { instrs = es })
    (chain-list slots b.instrs (nth_instr_id b.instrs 0) refl (λ k id h. ap (option_map seen) (linked k id h)))

spelled-blocks : (slots : List Slot) (blocks : List BlockData) → ((id b k : ℕ) → id_in blocks b k ≡ Some id → slice_get slots id ≡ Some (slot_at (get_or blocks b empty_block).instrs k)) → blocks_in (map body_of blocks) slots ≡ blocks
spelled-blocks slots [] linked = refl
spelled-blocks slots (b ∷ bs) linked =
    let first = spelled-block slots b (λ k id h. linked id 0 k h) in
    let rest = spelled-blocks slots bs (λ id c k h. linked id (suc c) k h) in
    rw (first, rest) refl

-- an arena that is linked as blocks spells them
pub blocks_in-linked : (bodies : List Body) (slots : List Slot) (blocks : List BlockData) → IsLinked bodies slots blocks → blocks_in bodies slots ≡ blocks
blocks_in-linked bodies slots blocks has = rw has.ends (spelled-blocks slots blocks has.linked)
