-- The table is sound, and changes functions in place.
use Rattle.std.proofs.Common.{◌≡◌, ℕ, zero, suc, ◌+◌, ◌<◌, ◌==◌, Bool, true, false, cond, List, [], ◌∷◌, ◌++◌, Option, Some, None, length, get_or, set, refl, ap, subst, ◌∙◌, arith}
use Rattle.std.specs.Prelude.{insert, max, option_map, remove}
use Rattle.std.specs.Option.{option_and_then, option_map_or, option_or}
use Rattle.std.proofs.lemmas.List.{length-set}
use Rattle.gi_mir.specs.Data.{InstrData, BlockData, FunctionData}
use Rattle.gi_mir.specs.Edit.{IsLive, block_at, empty_block, home_block, home_of, instr_of, place_in_block, place_of, with_instr, without_instr}
use Rattle.gi_mir.specs.Ids.{AreOwnIds}
use Rattle.gi_mir.specs.declared.block.InstrId.{InstrId}
use Rattle.gi_mir.proofs.IdsLemmas.{AreOwnIds-inserted, AreOwnIds-removed}
use Rattle.gi_replace.specs.Applying.{line_of, next_to, root_replaced}
use Rattle.gi_replace.specs.InPlace.{with_ids}
use Rattle.gi_replace.proofs.InPlace.{blocks-replaced, remove-parts}
use Rattle.gi_replace.proofs.Standing.{home-within}
use Rattle.gi_normalise.specs.NormalForms.{first_fit}
use Rattle.gi_normalise.specs.Tables.{IsInPlace, IsLocal, IsSound}
use Rattle.gi_normalise.specs.Weights.{list_weight}
use Rattle.gi_normalise.proofs.Weighed.{weighed}
use Rattle.gi_normalise_tests.specs.Branches.{HasOwnIds, IsLike, branch_rows, branch_weight, jump_to, target_at, target_of}

-- ---- ids

read_same : {X : Type 0} (xs : List X) (n : ℕ) (d e : X) → n < length xs → get_or xs n d ≡ get_or xs n e
read_same [] n d e h = absurd (omega (arith, h))
read_same (x ∷ xs) zero d e h = refl
read_same (x ∷ xs) (suc n) d e h = read_same xs n d e (omega (arith, h))

insert_last : {X : Type 0} (xs : List X) (x : X) → insert xs (length xs) x ≡ xs ++ x ∷ []
insert_last [] x = refl
insert_last (y ∷ xs) x = ap (λ l. y ∷ l) (insert_last xs x)

own_with : (f : FunctionData) (block : ℕ) (before : Option InstrId) (i : InstrData) → block < length f.blocks → AreOwnIds f.blocks f.next_id → AreOwnIds (with_instr f block before i).blocks (f.next_id + 1)
own_with f block None i within own =
    subst (λ (is : List (ℕ × InstrData)). AreOwnIds (set f.blocks block (record (block_at f block) { instrs = is })) (f.next_id + 1)) (insert_last (block_at f block).instrs (f.next_id, i))
    (AreOwnIds-inserted f.blocks f.next_id block (length (block_at f block).instrs) (block_at f block) i within (read_same f.blocks block empty_block (block_at f block) within) own)
own_with f block (Some id) i within own =
    AreOwnIds-inserted f.blocks f.next_id block (place_of id.0 (block_at f block).instrs) (block_at f block) i within (read_same f.blocks block empty_block (block_at f block) within) own

own_without : (f : FunctionData) (id : ℕ) → AreOwnIds f.blocks f.next_id → IsLive f id → AreOwnIds (without_instr f id).blocks f.next_id
own_without f id own live =
    let within = home-within f id live in
    AreOwnIds-removed f.blocks f.next_id (home_of f id) (place_in_block f id) (home_block f id) within (read_same f.blocks (home_of f id) empty_block (home_block f id) within) own

-- ---- one step

abbrev pub size : InstrData → ℕ
size i = option_map_or (λ n. 1) (target_of i) 0

pub record IsStep (f : FunctionData) (id : ℕ) (g : FunctionData) : Type 0 where
  pub root : InstrData
  pub there : instr_of f id ≡ Some root
  pub weighs : size root ≡ 1
  pub local : IsInPlace f id g
  pub light : list_weight size local.instrs ≡ 0
  pub own : AreOwnIds g.blocks g.next_id
  pub registers : g.next_reg ≡ f.next_reg
  pub like : IsLike f g

root-at : (f : FunctionData) (id n : ℕ) → target_at f id ≡ Some n → (i : InstrData) × (instr_of f id ≡ Some i) × (size i ≡ 1)
root-at f id n h = by (instr_of f id) refl h
  where
    by : (o : Option InstrData) → instr_of f id ≡ o → option_and_then target_of o ≡ Some n → (i : InstrData) × (instr_of f id ≡ Some i) × (size i ≡ 1)
    by None e h = cc
    by (Some i) e h = (i, e, ap (λ (t : Option ℕ). option_map_or (λ (m : ℕ). 1) t 0) h)

erased-step : (f : FunctionData) (id n : ℕ) → AreOwnIds f.blocks f.next_id → IsLive f id → target_at f id ≡ Some n → IsStep f id (without_instr f id)
erased-step f id n own live h =
    let (i, there, weighs) = root-at f id n h in
    let body = home_block f id in
    record {
      root = i;
      there = there;
      weighs = weighs;
      local = record {
        instrs = [];
        blocks = ap (λ (ps : List (ℕ × InstrData)). set f.blocks (home_of f id) (record body { instrs = ps })) (remove-parts body.instrs (place_in_block f id));
      };
      light = refl;
      own = own_without f id own live;
      registers = refl;
      like = record { name = refl; blocks = length-set f.blocks (home_of f id) (record body { instrs = remove body.instrs (place_in_block f id) }) };
    }

jump-step : (f : FunctionData) (id n line : ℕ) → AreOwnIds f.blocks f.next_id → IsLive f id → target_at f id ≡ Some n → IsStep f id (root_replaced id (jump_to n line ∷ []) f)
jump-step f id n line own live h =
    let (i, there, weighs) = root-at f id n h in
    let body = home_block f id in
    let left : BlockData = record body { instrs = remove body.instrs (place_in_block f id) } in
    let within : home_of f id < length (without_instr f id).blocks = rw (length-set f.blocks (home_of f id) left) (home-within f id live) in
    let replaced = blocks-replaced f id (jump_to n line ∷ []) own live in
    let none : max f.next_reg 0 ≡ f.next_reg = omega arith in
    record {
      root = i;
      there = there;
      weighs = weighs;
      local = record { instrs = with_ids f.next_id (jump_to n line ∷ []); blocks = replaced };
      light = refl;
      own = own_with (without_instr f id) (home_of f id) (next_to f id) (jump_to n line) within (own_without f id own live);
      registers = none;
      like = record { name = refl; blocks = ap (λ (bs : List BlockData). length bs) replaced ∙ length-set f.blocks (home_of f id) _ };
    }

step : (f g : FunctionData) (id : ℕ) → HasOwnIds f → IsLive f id → first_fit branch_rows f id ≡ Some g → IsStep f id g
step f g id fit live e = by (target_at f id) refl e
  where
    by : (o : Option ℕ) → target_at f id ≡ o
        → option_or (option_and_then (λ (n : ℕ). cond (n == home_of f id + 1) (Some (without_instr f id)) None) o) (option_or (option_map (λ (n : ℕ). root_replaced id (jump_to n (line_of f id) ∷ []) f) o) None) ≡ Some g → IsStep f id g
    by None h e = cc
    by (Some n) h e = at (n == home_of f id + 1) e
      where
        at : (b : Bool) → option_or (cond b (Some (without_instr f id)) None) (Some (root_replaced id (jump_to n (line_of f id) ∷ []) f)) ≡ Some g → IsStep f id g
        at true e = let same : without_instr f id ≡ g = cc in subst (λ (k : FunctionData). IsStep f id k) same (erased-step f id n fit.own live h)
        at false e = let same : root_replaced id (jump_to n (line_of f id) ∷ []) f ≡ g = cc in subst (λ (k : FunctionData). IsStep f id k) same (jump-step f id n (line_of f id) fit.own live h)

-- ---- the table

pub branches-sound : IsSound branch_rows HasOwnIds IsLike branch_weight
branches-sound = record {
  fit = λ f g id fit live e. record { own = (step f g id fit live e).own };
  refines = λ f g id fit live e. (step f g id fit live e).like;
  registers = λ f g id fit live e. let s = step f g id fit live e in omega (arith, s.registers);
  falls = λ f g id fit live e.
      let s = step f g id fit live e in
      let w = weighed size f g id s.root live s.there s.local in
      omega (arith, s.registers, s.weighs, s.light, w);
  itself = λ f. record { name = refl; blocks = refl };
  onwards = λ f g h one two. record { name = two.name ∙ one.name; blocks = two.blocks ∙ one.blocks };
}

pub branches-local : IsLocal branch_rows HasOwnIds
branches-local = record { local = λ f g id fit live e. (step f g id fit live e).local }
