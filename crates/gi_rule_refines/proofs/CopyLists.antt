-- Uses of one register that become uses of another change no id and no place, and no definition.
use Rattle.std.proofs.Common.{◌≡◌, ℕ, zero, suc, ◌+◌, ◌≤◌, Bool, true, false, cond, not, ◌||◌, ◌==◌, List, [], ◌∷◌, Option, Some, None, map, option_map, slice_get, inl, inr, ⊎_elim, ◌⊎◌, refl, sym, ap, ap₂, ◌∙◌, subst, eqb-true}
use Rattle.std.proofs.lemmas.Bool.{or_cases, or_left, or_right}
use Rattle.std.specs.Prelude.{slice_index_or}
use Rattle.std.specs.List.{list_any, position_or_len}
use Rattle.gi_mir.specs.Data.{InstrData, BlockData, FunctionData}
use Rattle.gi_mir.specs.Edit.{IsLive, all_instrs, block_at, defines, empty_block, has_instr, home_block, home_of, instr_of, is_def_of, is_use_of, place_in_block, place_of, uses}
use Rattle.gi_mir.specs.Ids.{AreOwnIds, uses_among, uses_of}
use Rattle.gi_mir.specs.Uses.{block_replaced, entry_replaced, instr_replaced, operand_replaced, with_reg_replaced}
use Rattle.gi_mir.specs.declared.operand.Operand.{Operand}
use Rattle.gi_mir.specs.declared.operand.Operand.TheVariants as operand
use Rattle.gi_mir.proofs.Replacing.{all_instrs-replaced}
use Rattle.gi_meaning.specs.InRow.{results_in, sources_in}
use Rattle.gi_replace.specs.InPlace.{entry_renamed, operand_renamed}
use Rattle.gi_refine.specs.Kept.{reused_operand}
use Rattle.gi_change_valid.proofs.Placed.{uses_first, uses_in_all}

-- what stands for a register in uses
abbrev pub stand_in : (d s : ℕ) → ℕ → ℕ
stand_in d s r = cond (r == d) s r

-- ══ Operands ══

renamed_one : (d s : ℕ) (o : Operand) → operand_replaced d s o ≡ operand_renamed (stand_in d s) o
renamed_one d s (operand.Use r) = refl
renamed_one d s _ = refl

reused_one : (d s : ℕ) (o : Operand) → operand_replaced d s o ≡ reused_operand (stand_in d s) o
reused_one d s (operand.Use r) = refl
reused_one d s _ = refl

map_alike : {X Y : Type 0} (g h : X → Y) → ((x : X) → g x ≡ h x) → (xs : List X) → map g xs ≡ map h xs
map_alike g h same [] = refl
map_alike g h same (x ∷ xs) = ap₂ (λ a b. a ∷ b) (same x) (map_alike g h same xs)

pub entry_is_renamed : (d s : ℕ) (p : ℕ × InstrData) → entry_replaced d s p ≡ entry_renamed (stand_in d s) p
entry_is_renamed d s p = ap (λ os. (p.0, record p.1 { operands = os })) (map_alike (operand_replaced d s) (operand_renamed (stand_in d s)) (renamed_one d s) p.1.operands)

pub operands_reused : (d s : ℕ) (os : List Operand) → map (operand_replaced d s) os ≡ map (reused_operand (stand_in d s)) os
operands_reused d s os = map_alike (operand_replaced d s) (reused_operand (stand_in d s)) (reused_one d s) os

-- a test that looks at definitions alone
any_kept : (test : Operand → Bool) (d s : ℕ) → ((o : Operand) → test (operand_replaced d s o) ≡ test o) → (os : List Operand) → list_any test (map (operand_replaced d s) os) ≡ list_any test os
any_kept test d s same [] = refl
any_kept test d s same (o ∷ os) = ap₂ (λ a b. a || b) (same o) (any_kept test d s same os)

def_kept : (d s r : ℕ) (o : Operand) → is_def_of r (operand_replaced d s o) ≡ is_def_of r o
def_kept d s r (operand.Use q) = refl
def_kept d s r _ = refl

pub defines_kept : (d s r : ℕ) (p : ℕ × InstrData) → defines r (entry_replaced d s p) ≡ defines r p
defines_kept d s r p = any_kept (is_def_of r) d s (def_kept d s r) p.1.operands

pub results_kept : (d s : ℕ) (os : List Operand) → results_in (map (operand_replaced d s) os) ≡ results_in os
results_kept d s [] = refl
results_kept d s (operand.Def r kind ∷ os) = ap (λ rs. r.0 ∷ rs) (results_kept d s os)
results_kept d s (operand.Use r ∷ os) = results_kept d s os
results_kept d s (_ ∷ os) = results_kept d s os

pub sources_kept : (d s : ℕ) (os : List Operand) → sources_in (map (operand_replaced d s) os) ≡ map (stand_in d s) (sources_in os)
sources_kept d s [] = refl
sources_kept d s (operand.Use r ∷ os) = ap (λ rs. stand_in d s r.0 ∷ rs) (sources_kept d s os)
sources_kept d s (operand.Def r kind ∷ os) = sources_kept d s os
sources_kept d s (_ ∷ os) = sources_kept d s os

-- what is used was used, or it is s
use_before : (d s r : ℕ) (os : List Operand) → list_any (is_use_of r) (map (operand_replaced d s) os) ≡ true → (s ≡ r) ⊎ (list_any (is_use_of r) os ≡ true)
use_before d s r [] h = cc
use_before d s r (o ∷ os) h =
    ⊎_elim (λ here. ⊎_elim (λ is. inl is) (λ old. inr (or_left (is_use_of r o) (list_any (is_use_of r) os) old)) (one o here))
    (λ later. ⊎_elim (λ is. inl is) (λ old. inr (or_right (is_use_of r o) (list_any (is_use_of r) os) old)) (use_before d s r os later))
    (or_cases (is_use_of r (operand_replaced d s o)) (list_any (is_use_of r) (map (operand_replaced d s) os)) h)
  where
    one : (o : Operand) → is_use_of r (operand_replaced d s o) ≡ true → (s ≡ r) ⊎ (is_use_of r o ≡ true)
    one (operand.Use q) h = by (q.0 == d) h
      where
        by : (t : Bool) → (cond t s q.0 == r) ≡ true → (s ≡ r) ⊎ ((q.0 == r) ≡ true)
        by true h = inl (eqb-true s r h)
        by false h = inr h
    one (operand.Def q kind) h = cc
    one _ h = inr h

-- ══ Instructions ══

pub any_used_before : (d s r : ℕ) (is : List (ℕ × InstrData)) → list_any (uses r) (map (entry_replaced d s) is) ≡ true → (s ≡ r) ⊎ (list_any (uses r) is ≡ true)
any_used_before d s r [] h = cc
any_used_before d s r (p ∷ is) h =
    ⊎_elim (λ here. ⊎_elim (λ same. inl same) (λ old. inr (or_left (uses r p) (list_any (uses r) is) old)) (use_before d s r p.1.operands here))
    (λ later. ⊎_elim (λ same. inl same) (λ old. inr (or_right (uses r p) (list_any (uses r) is) old)) (any_used_before d s r is later))
    (or_cases (uses r (entry_replaced d s p)) (list_any (uses r) (map (entry_replaced d s) is)) h)

pub any_defined_before : (d s r : ℕ) (is : List (ℕ × InstrData)) → list_any (defines r) (map (entry_replaced d s) is) ≡ list_any (defines r) is
any_defined_before d s r [] = refl
any_defined_before d s r (p ∷ is) = ap₂ (λ a b. a || b) (defines_kept d s r p) (any_defined_before d s r is)

among_kept : (d s id : ℕ) (is : List (ℕ × InstrData)) → uses_among id (map (entry_replaced d s) is) ≡ uses_among id is
among_kept d s id [] = refl
among_kept d s id (p ∷ is) = uses_first id (entry_replaced d s p) (map (entry_replaced d s) is) ∙ ap (λ n. cond (p.0 == id) 1 0 + n) (among_kept d s id is) ∙ sym (uses_first id p is)

uses_kept : (d s id : ℕ) (blocks : List BlockData) → uses_of id (map (block_replaced d s) blocks) ≡ uses_of id blocks
uses_kept d s id blocks =
    uses_in_all id (map (block_replaced d s) blocks) ∙ ap (uses_among id) (all_instrs-replaced d s blocks) ∙ among_kept d s id (all_instrs blocks) ∙ sym (uses_in_all id blocks)

pub own_kept : (d s : ℕ) (f : FunctionData) → AreOwnIds f.blocks f.next_id → AreOwnIds (with_reg_replaced d s f).blocks (with_reg_replaced d s f).next_id
own_kept d s f own = record { once = λ id. subst (λ n. n ≤ 1) (sym (uses_kept d s id f.blocks)) (own.once id); given = λ id more. uses_kept d s id f.blocks ∙ own.given id more }

-- ══ Where instructions stand ══

positions_kept : {X : Type 0} (g : X → X) (test : X → Bool) → ((x : X) → test (g x) ≡ test x) → (xs : List X) → position_or_len test (map g xs) ≡ position_or_len test xs
positions_kept g test same [] = refl
positions_kept g test same (x ∷ xs) = ap₂ (λ t n. cond (not t) (1 + n) 0) (same x) (positions_kept g test same xs)

get_mapped : {X : Type 0} (g : X → X) (xs : List X) (k : ℕ) → slice_get (map g xs) k ≡ option_map g (slice_get xs k)
get_mapped g [] k = refl
get_mapped g (x ∷ xs) zero = refl
get_mapped g (x ∷ xs) (suc k) = get_mapped g xs k

index_mapped : {X : Type 0} (g : X → X) (xs : List X) (k : ℕ) (d : X) → slice_index_or (map g xs) k (g d) ≡ g (slice_index_or xs k d)
index_mapped g [] zero d = refl
index_mapped g [] (suc k) d = refl
index_mapped g (x ∷ xs) zero d = refl
index_mapped g (x ∷ xs) (suc k) d = index_mapped g xs k d

pub block_mapped : (d s : ℕ) (blocks : List BlockData) (b : ℕ) → slice_get (map (block_replaced d s) blocks) b ≡ option_map (block_replaced d s) (slice_get blocks b)
block_mapped d s blocks b = get_mapped (block_replaced d s) blocks b

has_kept : (d s id : ℕ) (b : BlockData) → has_instr id (block_replaced d s b) ≡ has_instr id b
has_kept d s id b = by b.instrs
  where
    by : (is : List (ℕ × InstrData)) → list_any (λ (p : ℕ × InstrData). p.0 == id) (map (entry_replaced d s) is) ≡ list_any (λ (p : ℕ × InstrData). p.0 == id) is
    by [] = refl
    by (p ∷ is) = ap (λ t. (p.0 == id) || t) (by is)

pub live_kept : (d s id : ℕ) (f : FunctionData) → IsLive f id → IsLive (with_reg_replaced d s f) id
live_kept d s id f live = by f.blocks ∙ live
  where
    by : (blocks : List BlockData) → list_any (has_instr id) (map (block_replaced d s) blocks) ≡ list_any (has_instr id) blocks
    by [] = refl
    by (b ∷ blocks) = ap₂ (λ t u. t || u) (has_kept d s id b) (by blocks)

home_kept : (d s id : ℕ) (f : FunctionData) → home_of (with_reg_replaced d s f) id ≡ home_of f id
home_kept d s id f = positions_kept (block_replaced d s) (has_instr id) (has_kept d s id) f.blocks

home_block_kept : (d s id : ℕ) (f : FunctionData) → home_block (with_reg_replaced d s f) id ≡ block_replaced d s (home_block f id)
home_block_kept d s id f = ap (λ k. block_at (with_reg_replaced d s f) k) (home_kept d s id f) ∙ index_mapped (block_replaced d s) f.blocks (home_of f id) empty_block

place_kept : (d s id : ℕ) (f : FunctionData) → place_in_block (with_reg_replaced d s f) id ≡ place_in_block f id
place_kept d s id f =
    ap (λ (b : BlockData). place_of id b.instrs) (home_block_kept d s id f) ∙ positions_kept (entry_replaced d s) (λ (p : ℕ × InstrData). p.0 == id) (λ p. refl) (home_block f id).instrs

pub instr_kept : (d s id : ℕ) (f : FunctionData) → instr_of (with_reg_replaced d s f) id ≡ option_map (instr_replaced d s) (instr_of f id)
instr_kept d s id f =
    ap₂ (λ (b : BlockData) k. option_map (λ (p : ℕ × InstrData). p.1) (slice_get b.instrs k)) (home_block_kept d s id f) (place_kept d s id f)
    ∙ ap (option_map (λ (p : ℕ × InstrData). p.1)) (get_mapped (entry_replaced d s) (home_block f id).instrs (place_in_block f id))
    ∙ by (slice_get (home_block f id).instrs (place_in_block f id))
  where
    by : (o : Option (ℕ × InstrData)) → option_map (λ (p : ℕ × InstrData). p.1) (option_map (entry_replaced d s) o) ≡ option_map (instr_replaced d s) (option_map (λ (p : ℕ × InstrData). p.1) o)
    by None = refl
    by (Some p) = refl
