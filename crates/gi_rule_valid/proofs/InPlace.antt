-- Instructions in the place of one are a rewriting that renames nothing.
use Rattle.std.proofs.Common.{◌≡◌, ℕ, suc, ◌+◌, ◌≤◌, Bool, true, false, cond, not, ◌==◌, List, [], ◌∷◌, ◌++◌, Some, map, flat_map, take, drop, get_or, set, ⊎_elim, refl, sym, ap, ap₂, ◌∙◌, subst, arith}
use Rattle.std.proofs.lemmas.Bool.{or_cases, or_parts, eq-eqb}
use Rattle.std.specs.List.{list_any, position_or_len}
use Rattle.gi_mir.specs.Data.{InstrData, BlockData, FunctionData}
use Rattle.gi_mir.specs.Edit.{IsLive, all_instrs, empty_block, has_instr, instr_of, place_of}
use Rattle.gi_mir.specs.Ids.{AreOwnIds, uses_among}
use Rattle.gi_mir.specs.declared.operand.Operand.{Operand}
use Rattle.gi_mir.specs.declared.operand.Operand.TheVariants as operand
use Rattle.gi_replace.specs.Applying.{root_replaced}
use Rattle.gi_replace.specs.InPlace.{block_with, entry_renamed, operand_renamed, with_ids}
use Rattle.gi_replace.proofs.InPlace.{blocks-replaced}
use Rattle.gi_change_valid.specs.Rewriting.{Rewriting, IsRewritten, block_rewritten, IsOneOf, rewritten}
use Rattle.gi_change_valid.proofs.Placed.{counted, found_by_id, one_with, uses_both, uses_first, uses_in_all}

-- ══ In the place of one ══

abbrev put : (id : ℕ) (made : List (ℕ × InstrData)) → ℕ × InstrData → List (ℕ × InstrData)
put id made p = cond (p.0 == id) made (p ∷ [])

abbrev block_put : (id : ℕ) (made : List (ℕ × InstrData)) → BlockData → BlockData
block_put id made k = record k { instrs = flat_map (put id made) k.instrs }

none_first : (a n : ℕ) (t : Bool) → n ≡ cond t 1 0 + a → n ≡ 0 → (t ≡ false) × (a ≡ 0)
none_first a n true all none = absurd (over (sym none ∙ all))
  where
    over : 0 ≡ 1 + a → ⊥
    over h = omega (arith, h)
none_first a n false all none = let rest : a ≡ 0 = omega (arith, all, none) in (refl, rest)

untouched : (id : ℕ) (made is : List (ℕ × InstrData)) → uses_among id is ≡ 0 → flat_map (put id made) is ≡ is
untouched id made [] none = refl
untouched id made (p ∷ is) none =
    let each : ((p.0 == id) ≡ false) × (uses_among id is ≡ 0) = none_first (uses_among id is) (uses_among id (p ∷ is)) (p.0 == id) (uses_first id p is) none in
    ap₂ (λ t l. cond t made (p ∷ []) ++ l) each.0 (untouched id made is each.1)

untouched_blocks : (id : ℕ) (made : List (ℕ × InstrData)) (blocks : List BlockData) → uses_among id (all_instrs blocks) ≡ 0 → map (block_put id made) blocks ≡ blocks
untouched_blocks id made [] none = refl
untouched_blocks id made (k ∷ blocks) none =
    let both : uses_among id (k.instrs ++ all_instrs blocks) ≡ uses_among id k.instrs + uses_among id (all_instrs blocks) = uses_both id k.instrs (all_instrs blocks) in
    ap₂ (λ is rest. record k { instrs = is } ∷ rest) (untouched id made k.instrs (omega (arith, both, none))) (untouched_blocks id made blocks (omega (arith, both, none)))

in_place : (id : ℕ) (made is : List (ℕ × InstrData)) → uses_among id is ≡ 1 → take (place_of id is) is ++ (made ++ drop (place_of id is + 1) is) ≡ flat_map (put id made) is
in_place id made [] once = cc
in_place id made (p ∷ is) once = by (p.0 == id) (uses_first id p is) (λ h. in_place id made is h)
  where
    by : (t : Bool) → uses_among id (p ∷ is) ≡ cond t 1 0 + uses_among id is → (uses_among id is ≡ 1 → take (place_of id is) is ++ (made ++ drop (place_of id is + 1) is) ≡ flat_map (put id made) is)
        → take (cond (not t) (1 + place_of id is) 0) (p ∷ is) ++ (made ++ drop (cond (not t) (1 + place_of id is) 0 + 1) (p ∷ is)) ≡ cond t made (p ∷ []) ++ flat_map (put id made) is
    by true all rest = ap (λ l. made ++ l) (sym (untouched id made is (none (uses_among id is) all)))
      where
        none : (n : ℕ) → uses_among id (p ∷ is) ≡ 1 + n → n ≡ 0
        none n h = omega (arith, h, once)
    by false all rest =
        let n : ℕ = place_of id is in
        let one : 1 + place_of id is ≡ suc (place_of id is) = omega arith in
        let two : 1 + place_of id is + 1 ≡ suc (place_of id is + 1) = omega arith in
        ap₂ (λ a b. take a (p ∷ is) ++ (made ++ drop b (p ∷ is))) one two ∙ ap (λ l. p ∷ l) (rest (omega (arith, all, once)))

has_counted : (id : ℕ) (is : List (ℕ × InstrData)) → list_any (λ (p : ℕ × InstrData). p.0 == id) is ≡ true → 1 ≤ uses_among id is
has_counted id [] h = cc
has_counted id (p ∷ is) h =
    let all : uses_among id (p ∷ is) ≡ cond (p.0 == id) 1 0 + uses_among id is = uses_first id p is in
    ⊎_elim (λ now. let one : ◌≡◌ {A = ℕ} (cond (p.0 == id) 1 0) 1 = ap (λ t. cond t 1 0) now in omega (arith, all, one))
    (λ later. let one : 1 ≤ uses_among id is = has_counted id is later in omega (arith, all, one)) (or_cases (p.0 == id) (list_any (λ (q : ℕ × InstrData). q.0 == id) is) h)

has_none : (id : ℕ) (is : List (ℕ × InstrData)) → list_any (λ (p : ℕ × InstrData). p.0 == id) is ≡ false → uses_among id is ≡ 0
has_none id [] h = refl
has_none id (p ∷ is) h =
    let each : ((p.0 == id) ≡ false) × (list_any (λ (q : ℕ × InstrData). q.0 == id) is ≡ false) = or_parts (p.0 == id) (list_any (λ (q : ℕ × InstrData). q.0 == id) is) h in
    uses_first id p is ∙ ap₂ (λ t n. cond t 1 0 + n) each.0 (has_none id is each.1)

put_in_blocks : (id : ℕ) (made : List (ℕ × InstrData)) (blocks : List BlockData) → uses_among id (all_instrs blocks) ≡ 1
    → set blocks (position_or_len (has_instr id) blocks) (block_with (get_or blocks (position_or_len (has_instr id) blocks) empty_block) (place_of id (get_or blocks (position_or_len (has_instr id) blocks) empty_block).instrs) made)
    ≡ map (block_put id made) blocks
put_in_blocks id made [] once = cc
put_in_blocks id made (k ∷ blocks) once = by (has_instr id k) refl (uses_both id k.instrs (all_instrs blocks)) (λ h. put_in_blocks id made blocks h)
  where
    home : ℕ
    home = position_or_len (has_instr id) blocks

    by : (t : Bool) → has_instr id k ≡ t → uses_among id (k.instrs ++ all_instrs blocks) ≡ uses_among id k.instrs + uses_among id (all_instrs blocks)
        → (uses_among id (all_instrs blocks) ≡ 1 → set blocks home (block_with (get_or blocks home empty_block) (place_of id (get_or blocks home empty_block).instrs) made) ≡ map (block_put id made) blocks)
        → set (k ∷ blocks) (cond (not t) (1 + home) 0) (block_with (get_or (k ∷ blocks) (cond (not t) (1 + home) 0) empty_block) (place_of id (get_or (k ∷ blocks) (cond (not t) (1 + home) 0) empty_block).instrs) made)
        ≡ block_put id made k ∷ map (block_put id made) blocks
    by true so all rest =
        let some : 1 ≤ uses_among id k.instrs = has_counted id k.instrs so in
        ap₂ (λ is ks. record k { instrs = is } ∷ ks) (in_place id made k.instrs (omega (arith, all, once, some))) (sym (untouched_blocks id made blocks (omega (arith, all, once, some))))
    by false so all rest =
        let none : uses_among id k.instrs ≡ 0 = has_none id k.instrs so in
        let one : 1 + home ≡ suc home = omega arith in
        ap (λ n. set (k ∷ blocks) n (block_with (get_or (k ∷ blocks) n empty_block) (place_of id (get_or (k ∷ blocks) n empty_block).instrs) made)) one
        ∙ ap₂ (λ is ks. record k { instrs = is } ∷ ks) (sym (untouched id made k.instrs none)) (rest (omega (arith, all, once, none)))

-- ══ Nothing is renamed ══

-- the rewriting of a root by instructions
abbrev pub replacing : (id : ℕ) (root : InstrData) (made : List InstrData) → FunctionData → Rewriting
replacing id root made f = record { root = (id, root); rename = λ r. r; made = with_ids f.next_id made }

operand_stays : (o : Operand) → operand_renamed (λ r. r) o ≡ o
operand_stays (operand.Use r) = refl
operand_stays _ = refl

operands_stay : (os : List Operand) → map (operand_renamed (λ r. r)) os ≡ os
operands_stay [] = refl
operands_stay (o ∷ os) = ap₂ (λ p ps. p ∷ ps) (operand_stays o) (operands_stay os)

pub entry_stays : (p : ℕ × InstrData) → entry_renamed (λ r. r) p ≡ p
entry_stays p = ap (λ os. (p.0, record p.1 { operands = os })) (operands_stay p.1.operands)

all_stand : (w : Rewriting) → ((p : ℕ × InstrData) → entry_renamed w.rename p ≡ p) → (is : List (ℕ × InstrData)) → flat_map (put w.root.0 w.made) is ≡ rewritten w is
all_stand w stays [] = refl
all_stand w stays (p ∷ is) = ap₂ (λ q rest. cond (p.0 == w.root.0) w.made (q ∷ []) ++ rest) (sym (stays p)) (all_stand w stays is)

blocks_stand : (w : Rewriting) → ((p : ℕ × InstrData) → entry_renamed w.rename p ≡ p) → (blocks : List BlockData) → map (block_put w.root.0 w.made) blocks ≡ map (block_rewritten w) blocks
blocks_stand w stays [] = refl
blocks_stand w stays (k ∷ blocks) = ap₂ (λ is ks. record k { instrs = is } ∷ ks) (all_stand w stays k.instrs) (blocks_stand w stays blocks)

pub is_replaced_by : (f : FunctionData) (id : ℕ) (root : InstrData) (made : List InstrData) → AreOwnIds f.blocks f.next_id → IsLive f id → instr_of f id ≡ Some root
    → IsRewritten (replacing id root made f) f (root_replaced id made f)
is_replaced_by f id root made own live found = record {
  once = once;
  root = λ p inside same. one_with id p (id, root) (all_instrs f.blocks) most inside there same (eq-eqb id id refl);
  there = there;
  blocks = blocks-replaced f id made own live ∙ put_in_blocks id (with_ids f.next_id made) f.blocks once ∙ blocks_stand (replacing id root made f) entry_stays f.blocks;
}
  where
    there : IsOneOf (id, root) (all_instrs f.blocks)
    there = found_by_id f id root live found

    most : uses_among id (all_instrs f.blocks) ≤ 1
    most = subst (λ n. n ≤ 1) (uses_in_all id f.blocks) (own.once id)

    once : uses_among id (all_instrs f.blocks) ≡ 1
    once = let some : 1 ≤ uses_among id (all_instrs f.blocks) = counted id (id, root) (all_instrs f.blocks) there (eq-eqb id id refl) in let less : uses_among id (all_instrs f.blocks) ≤ 1 = most in omega (arith, some, less)
