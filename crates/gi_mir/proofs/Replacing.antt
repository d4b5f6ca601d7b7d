-- Uses that are replaced, in one instruction after another.
use Rattle.std.proofs.Common.{◌≡◌, ◌≢◌, ℕ, zero, suc, ◌+◌, ◌<◌, ◌≤◌, Bool, true, false, not, ◌||◌, cond, List, [], ◌∷◌, ◌++◌, Option, Some, None, ⊎_elim, length, drop, get_or, set, drop-cons, add-one, refl, sym, subst, ap, ap₂, ◌∙◌, arith, eqb-true, max}
use Rattle.std.proofs.lemmas.Bool.{cases_eq}
use Rattle.std.proofs.lemmas.Bool.Decides.{nat_tests}
use Rattle.std.specs.Prelude.{slice_get, option_map, ◌==◌, map, filter}
use Rattle.std.specs.List.{list_any}
use Rattle.std.proofs.lemmas.List.{map-append}
use Rattle.std.proofs.Math.Seq.{map-set_same}
use Rattle.gi_mir.specs.declared.block.InstrId.{InstrId}
use Rattle.gi_mir.specs.declared.block.Slot.{Slot}
use Rattle.gi_mir.specs.declared.operand.Operand.{Operand}
use Rattle.gi_mir.specs.declared.operand.Operand.TheVariants as operand
use Rattle.gi_mir.specs.Data.{InstrData, BlockData, FunctionData}
use Rattle.gi_mir.specs.Edit.{all_instrs, is_use_of, uses}
use Rattle.gi_mir.specs.Mentions.{use_key, mentions, instr_id, mentioning, operands_of}
use Rattle.gi_mir.specs.Arena.{slot_changed}
use Rattle.gi_mir.specs.Uses.{operand_replaced, with_reg_replaced, instr_replaced, entry_replaced, block_replaced}
use Rattle.gi_mir.proofs.Edits.{slice_get-set_other, slice_get-set_same}
use Rattle.gi_mir.proofs.Keys.{mentions-use}
use Rattle.gi_mir.proofs.Mentioned.{apart_test, mentioning-append}
use Rattle.gi_mir.proofs.Replaced.{entry_replaced-without, uses-replaced}

-- ---- entries with no use

entries_without : (old new : ℕ) (ps : List (ℕ × InstrData)) → mentioning (use_key old) ps ≡ [] → map (entry_replaced old new) ps ≡ ps
entries_without old new [] h = refl
entries_without old new (p ∷ ps) h = by (mentions (use_key old) p) refl h (entries_without old new ps)
  where
    by : (b : Bool) → mentions (use_key old) p ≡ b → map instr_id (cond b (p ∷ filter (mentions (use_key old)) ps) (filter (mentions (use_key old)) ps)) ≡ [] → (mentioning (use_key old) ps ≡ [] → map (entry_replaced old new) ps ≡ ps) → entry_replaced old new p ∷ map (entry_replaced old new) ps ≡ p ∷ ps
    by true e g more = cc
    by false e g more = ap₂ (λ (a : ℕ × InstrData) (b : List (ℕ × InstrData)). a ∷ b) (entry_replaced-without old new p (sym (mentions-use old p) ∙ e)) (more g)

no_parts : (xs ys : List InstrId) → xs ++ ys ≡ [] → (xs ≡ []) × (ys ≡ [])
no_parts [] ys h = (refl, h)
no_parts (x ∷ xs) ys h = cc

pub blocks_without : (old new : ℕ) (blocks : List BlockData) → mentioning (use_key old) (all_instrs blocks) ≡ [] → map (block_replaced old new) blocks ≡ blocks
blocks_without old new [] h = refl
blocks_without old new (b ∷ bs) h =
    let parts = no_parts (mentioning (use_key old) b.instrs) (mentioning (use_key old) (all_instrs bs)) (sym (mentioning-append (use_key old) b.instrs (all_instrs bs)) ∙ h) in
    ap₂ (λ (c : BlockData) (cs : List BlockData). c ∷ cs)
    (ap (λ (is : List (ℕ × InstrData)). record b { instrs = is }) (entries_without old new b.instrs parts.0))
    (blocks_without old new bs parts.1)

-- ---- places of the arena with no use

entry-without : (old new : ℕ) (o : Option (ℕ × InstrData)) → list_any (is_use_of old) (operands_of o) ≡ false → option_map (λ p. (p.0, instr_replaced old new p.1)) o ≡ o
entry-without old new None h = refl
entry-without old new (Some p) h = ap Some (entry_replaced-without old new p h)

slot-without : (old new : ℕ) (s : Slot) → list_any (is_use_of old) (operands_of s.entry) ≡ false → slot_changed (instr_replaced old new) s ≡ s
slot-without old new s h = ap (λ (o : Option (ℕ × InstrData)). record s { entry = o }) (entry-without old new s.entry h)

slots-without : (old new : ℕ) (slots : List Slot) → ((k : ℕ) (s : Slot) → slice_get slots k ≡ Some s → list_any (is_use_of old) (operands_of s.entry) ≡ false) → map (slot_changed (instr_replaced old new)) slots ≡ slots
slots-without old new [] none = refl
slots-without old new (s ∷ ss) none =
    ap₂ (λ (t : Slot) (ts : List Slot). t ∷ ts) (slot-without old new s (none 0 s refl)) (slots-without old new ss (λ k. none (suc k)))

-- where its uses are replaced, there is none
slot-replaced : (old new : ℕ) (o : Option (ℕ × InstrData)) → old ≢ new → list_any (is_use_of old) (operands_of (option_map (λ p. (p.0, instr_replaced old new p.1)) o)) ≡ false
slot-replaced old new None apart = refl
slot-replaced old new (Some p) apart = uses-replaced old new p apart

-- ---- how far the replacement has come

-- the instructions of some ids are left
pub record IsReplacing (old new : ℕ) (left : List InstrId) (before after : List Slot) : Type 0 where
  pub named : (id : ℕ) (s : Slot) → slice_get after id ≡ Some s → list_any (is_use_of old) (operands_of s.entry) ≡ true → list_any (λ user. user.0 == id) left ≡ true
  pub whole : map (slot_changed (instr_replaced old new)) after ≡ map (slot_changed (instr_replaced old new)) before

-- one more instruction
IsReplacing-step : (old new : ℕ) (id : InstrId) (left : List InstrId) (before cur : List Slot) (d : Slot) → old ≢ new → id.0 < length cur → IsReplacing old new (id ∷ left) before cur → IsReplacing old new left before (set cur id.0 (slot_changed (instr_replaced old new) (get_or cur id.0 d)))
IsReplacing-step old new id left before cur d apart within so_far = record {
  named = λ k s found used. ⊎_elim
      (λ (same : k ≡ id.0).
      let is : s ≡ slot_changed (instr_replaced old new) (get_or cur id.0 d) = cc (ap (slice_get (set cur id.0 (slot_changed (instr_replaced old new) (get_or cur id.0 d)))) same, slice_get-set_same cur id.0 (slot_changed (instr_replaced old new) (get_or cur id.0 d)) within) in
      absurd (cc (ap (λ (t : Slot). list_any (is_use_of old) (operands_of t.entry)) is, slot-replaced old new (get_or cur id.0 d).entry apart)))
      (λ (ne : k ≢ id.0).
      let was = so_far.named k s (sym (slice_get-set_other cur id.0 k (slot_changed (instr_replaced old new) (get_or cur id.0 d)) ne) ∙ found) used in
      rw (apart_test id.0 k (λ e. ne (sym e))) at was)
      (cases_eq k id.0);
  whole = map-set_same (slot_changed (instr_replaced old new)) cur id.0 (slot_changed (instr_replaced old new) (get_or cur id.0 d)) d (slot-without old new (slot_changed (instr_replaced old new) (get_or cur id.0 d)) (slot-replaced old new (get_or cur id.0 d).entry apart)) ∙ so_far.whole;
}

-- ---- in the words of the loop

pub turn-done : (old new : ℕ) (ids : List InstrId) (k : ℕ) (x : InstrId) (before cur : List Slot) (d changed : Slot) → k < length ids → old ≢ new → (get_or ids k x).0 < length cur → IsReplacing old new (drop k ids) before cur
    → changed ≡ slot_changed (instr_replaced old new) (get_or cur (get_or ids k x).0 d) → IsReplacing old new (drop (k + 1) ids) before (set cur (get_or ids k x).0 changed)
turn-done old new ids k x before cur d changed within apart there so_far is =
    rw (add-one, is)
    (IsReplacing-step old new (get_or ids k x) (drop (suc k) ids) before cur d apart there (subst (λ (xs : List InstrId). IsReplacing old new xs before cur) (drop-cons ids k x within) so_far))

pub drop-end : {X : Type 0} (xs : List X) (i : ℕ) → length xs ≤ i → drop i xs ≡ []
drop-end [] zero h = refl
drop-end [] (suc i) h = refl
drop-end (x ∷ xs) zero h = absurd (omega arith)
drop-end (x ∷ xs) (suc i) h = drop-end xs i (omega arith)

-- when all are done
pub turns-end : (old new : ℕ) (ids : List InstrId) (k : ℕ) (before cur : List Slot) → length ids ≤ k → IsReplacing old new (drop k ids) before cur → cur ≡ map (slot_changed (instr_replaced old new)) before
turns-end old new ids k before cur past so_far =
    sym (slots-without old new cur (λ id s found. none id (list_any (is_use_of old) (operands_of s.entry)) (so_far.named id s found))) ∙ so_far.whole
  where
    none : (id : ℕ) (b : Bool) → (b ≡ true → list_any (λ (user : InstrId). user.0 == id) (drop k ids) ≡ true) → b ≡ false
    none id true h =
        absurd (cc (ap (list_any (λ (user : InstrId). user.0 == id)) (drop-end ids k past), h refl))
    none id false h = refl

-- ---- the instructions of blocks

pub all_instrs-replaced : (old new : ℕ) (blocks : List BlockData) → all_instrs (map (block_replaced old new) blocks) ≡ map (entry_replaced old new) (all_instrs blocks)
all_instrs-replaced old new [] = refl
all_instrs-replaced old new (b ∷ bs) =
    ap (λ (xs : List (ℕ × InstrData)). map (entry_replaced old new) b.instrs ++ xs) (all_instrs-replaced old new bs) ∙ sym (map-append (entry_replaced old new) b.instrs (all_instrs bs))

-- ---- a function whose register is replaced

none_listed : (old : ℕ) (ps : List (ℕ × InstrData)) → list_any (uses old) ps ≡ false → mentioning (use_key old) ps ≡ []
none_listed old [] h = refl
none_listed old (p ∷ ps) h = by (uses old p) (mentions (use_key old) p) (mentions-use old p) h (none_listed old ps)
  where
    by : (a b : Bool) → b ≡ a → (a || list_any (uses old) ps) ≡ false → (list_any (uses old) ps ≡ false → mentioning (use_key old) ps ≡ []) → map instr_id (cond b (p ∷ filter (mentions (use_key old)) ps) (filter (mentions (use_key old)) ps)) ≡ []
    by true b e g more = cc
    by false false e g more = more g
    by false true e g more = cc

-- no user means no use
pub any_user : (reg : ℕ) (ps : List (ℕ × InstrData)) (ids : List InstrId) → map (λ id. id.0) ids ≡ map (λ p. p.0) (filter (uses reg) ps) → list_any (uses reg) ps ≡ not (length ids == 0)
any_user reg ps ids h = by ps ids h
  where
    by : (qs : List (ℕ × InstrData)) (xs : List InstrId) → map (λ id. id.0) xs ≡ map (λ p. p.0) (filter (uses reg) qs) → list_any (uses reg) qs ≡ not (length xs == 0)
    by [] [] e = refl
    by [] (x ∷ xs) e = cc
    by (q ∷ qs) xs e = one (uses reg q) xs e (by qs xs)
      where
        one : (b : Bool) (ys : List InstrId) → map (λ id. id.0) ys ≡ map (λ p. p.0) (cond b (q ∷ filter (uses reg) qs) (filter (uses reg) qs)) → (map (λ id. id.0) ys ≡ map (λ p. p.0) (filter (uses reg) qs) → list_any (uses reg) qs ≡ not (length ys == 0)) → (b || list_any (uses reg) qs) ≡ not (length ys == 0)
        one true [] g more = cc
        one true (y ∷ ys) g more = sym (positive (length ys))
          where
            positive : (n : ℕ) → not (suc n == 0) ≡ true
            positive n = grind (arith, nat_tests)
        one false ys g more = more g

pub with_reg_replaced-none : (old new : ℕ) (f : FunctionData) → list_any (uses old) (all_instrs f.blocks) ≡ false → f ≡ with_reg_replaced old new f
with_reg_replaced-none old new f h =
    ap (λ (bs : List BlockData). record f { blocks = bs }) (sym (blocks_without old new f.blocks (none_listed old (all_instrs f.blocks) h)))
    ∙ ap (λ (b : Bool). record f { blocks = map (block_replaced old new) f.blocks; next_reg = cond b (max f.next_reg (new + 1)) f.next_reg }) (sym h)

pub with_reg_replaced-some : (old new n ids : ℕ) (f : FunctionData) (blocks : List BlockData) → list_any (uses old) (all_instrs f.blocks) ≡ true → n ≡ max f.next_reg (new + 1) → blocks ≡ map (block_replaced old new) f.blocks → ids ≡ f.next_id
    → record f { blocks = blocks; next_reg = n; next_id = ids } ≡ with_reg_replaced old new f
with_reg_replaced-some old new n ids f blocks h next is same =
    rw (is, next, same)
    (ap (λ (b : Bool). record f { blocks = map (block_replaced old new) f.blocks; next_reg = cond b (max f.next_reg (new + 1)) f.next_reg }) (sym h))

-- a register that is replaced by itself
same_operand : (n : ℕ) (x : Operand) → operand_replaced n n x ≡ x
same_operand n (operand.Use r) = ap (λ (m : ℕ). operand.Use (record { 0 = m })) (by (r.0 == n) refl)
  where
    by : (b : Bool) → (r.0 == n) ≡ b → cond b n r.0 ≡ r.0
    by true e = sym (eqb-true r.0 n e)
    by false e = refl
same_operand n _ = refl

map_same : {X : Type 0} (f : X → X) → ((x : X) → f x ≡ x) → (xs : List X) → map f xs ≡ xs
map_same f same [] = refl
map_same f same (x ∷ xs) = ap₂ (λ a b. a ∷ b) (same x) (map_same f same xs)

pub blocks_same : (n : ℕ) (blocks : List BlockData) → map (block_replaced n n) blocks ≡ blocks
blocks_same n blocks =
    map_same (block_replaced n n) (λ b. ap (λ (is : List (ℕ × InstrData)). record b { instrs = is })
    (map_same (entry_replaced n n) (λ p. ap (λ (xs : List Operand). (p.0, record p.1 { operands = xs })) (map_same (operand_replaced n n) (same_operand n) p.1.operands)) b.instrs)) blocks
