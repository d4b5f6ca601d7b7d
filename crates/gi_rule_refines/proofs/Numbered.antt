-- Instructions that are created leave ids and registers in order.
use Rattle.std.proofs.Common.{◌≡◌, ℕ, zero, suc, ◌+◌, ◌≤◌, ◌<◌, true, false, ◌||◌, ◌==◌, List, [], ◌∷◌, ◌++◌, Option, Some, None, length, get_or, set, refl, sym, ap, subst, arith, ⊎_elim}
use Rattle.std.specs.Prelude.{insert, max}
use Rattle.std.specs.List.{list_any}
use Rattle.std.proofs.lemmas.Bool.{or_cases, eqb-true}
use Rattle.std.proofs.lemmas.Bool.Decides.{nat_tests}
use Rattle.std.proofs.lemmas.List.{length-set}
use Rattle.gi_mir.specs.declared.block.InstrId.{InstrId}
use Rattle.gi_mir.specs.declared.operand.Operand.{Operand}
use Rattle.gi_mir.specs.declared.operand.Operand.TheVariants as operand
use Rattle.gi_mir.specs.Data.{InstrData, FunctionData}
use Rattle.gi_mir.specs.Edit.{IsLive, above_registers, block_at, block_with_instr, empty_block, home_block, home_of, is_def_of, is_use_of, place_in_block, place_of, register_above, with_instr, without_instr}
use Rattle.gi_mir.specs.Ids.{AreOwnIds}
use Rattle.gi_mir.proofs.IdsLemmas.{AreOwnIds-inserted, AreOwnIds-removed}
use Rattle.gi_replace.specs.Applying.{all_created, next_to, root_replaced}
use Rattle.gi_replace.proofs.Standing.{home-within}

-- ══ Ids ══

read_same : {X : Type 0} (xs : List X) (n : ℕ) (d e : X) → n < length xs → get_or xs n d ≡ get_or xs n e
read_same [] n d e h = absurd (omega (arith, h))
read_same (x ∷ xs) zero d e h = refl
read_same (x ∷ xs) (suc n) d e h = read_same xs n d e (omega (arith, h))

insert_last : {X : Type 0} (xs : List X) (x : X) → insert xs (length xs) x ≡ xs ++ x ∷ []
insert_last [] x = refl
insert_last (y ∷ xs) x = ap (λ l. y ∷ l) (insert_last xs x)

own_with : (f : FunctionData) (block : ℕ) (before : Option InstrId) (i : InstrData) → block < length f.blocks → AreOwnIds f.blocks f.next_id → AreOwnIds (with_instr f block before i).blocks (f.next_id + 1)
own_with f block None i within own =
    subst (λ (is : List (ℕ × InstrData)). AreOwnIds (set f.blocks block (record (block_at f block) { instrs = is })) (f.next_id + 1)) (insert_last (block_at f block).instrs (f.next_id, i))
    (AreOwnIds-inserted f.blocks f.next_id block (length (block_at f block).instrs) (block_at f block) i within (read_same f.blocks block empty_block (block_at f block) within) own)
own_with f block (Some id) i within own =
    AreOwnIds-inserted f.blocks f.next_id block (place_of id.0 (block_at f block).instrs) (block_at f block) i within (read_same f.blocks block empty_block (block_at f block) within) own

own_created : (made : List InstrData) (before : Option InstrId) (block : ℕ) (g : FunctionData) → block < length g.blocks → AreOwnIds g.blocks g.next_id → AreOwnIds (all_created block before made g).blocks (all_created block before made g).next_id
own_created [] before block g within own = own
own_created (i ∷ made) before block g within own =
    own_created made before block (with_instr g block before i) (subst (λ n. block < n) (sym (length-set g.blocks block (block_with_instr (block_at g block) before (g.next_id, i)))) within) (own_with g block before i within own)

pub own_replaced : (f : FunctionData) (id : ℕ) (made : List InstrData) → AreOwnIds f.blocks f.next_id → IsLive f id → AreOwnIds (root_replaced id made f).blocks (root_replaced id made f).next_id
own_replaced f id made own live =
    let within = home-within f id live in
    own_created made (next_to f id) (home_of f id) (without_instr f id) (subst (λ n. home_of f id < n) (sym (length-set f.blocks (home_of f id) _)) within)
    (AreOwnIds-removed f.blocks f.next_id (home_of f id) (place_in_block f id) (home_block f id) within (read_same f.blocks (home_of f id) empty_block (home_block f id) within) own)

-- ══ Registers ══

above_more : (n : ℕ) (os : List Operand) → n ≤ above_registers n os
above_more n [] = omega arith
above_more n (o ∷ os) = let rest = above_more (max n (register_above o)) os in let more : n ≤ max n (register_above o) = grind (arith, nat_tests) in omega (arith, rest, more)

named_above : (r : ℕ) (o : Operand) → (is_def_of r o || is_use_of r o) ≡ true → r < register_above o
named_above r (operand.Def q kind) h = ⊎_elim (λ same. let is = eqb-true q.0 r same in omega (arith, is)) (λ none. cc) (or_cases (q.0 == r) false h)
named_above r (operand.Use q) h = let is = eqb-true q.0 r h in omega (arith, is)
named_above r _ h = cc

above_all : (r n : ℕ) (os : List Operand) → list_any (λ o. is_def_of r o || is_use_of r o) os ≡ true → r < above_registers n os
above_all r n [] h = cc
above_all r n (o ∷ os) h =
    ⊎_elim
    (λ here. let below = named_above r o here in let rest = above_more (max n (register_above o)) os in let more : register_above o ≤ max n (register_above o) = grind (arith, nat_tests) in omega (arith, below, rest, more))
    (λ later. above_all r (max n (register_above o)) os later) (or_cases (is_def_of r o || is_use_of r o) (list_any (λ p. is_def_of r p || is_use_of r p) os) h)

created_more : (made : List InstrData) (before : Option InstrId) (block : ℕ) (g : FunctionData) → g.next_reg ≤ (all_created block before made g).next_reg
created_more [] before block g = omega arith
created_more (i ∷ made) before block g = let one = above_more g.next_reg i.operands in let rest = created_more made before block (with_instr g block before i) in omega (arith, one, rest)

created_above : (r : ℕ) (made : List InstrData) (before : Option InstrId) (block : ℕ) (g : FunctionData) → list_any (λ (i : InstrData). list_any (λ o. is_def_of r o || is_use_of r o) i.operands) made ≡ true → r < (all_created block before made g).next_reg
created_above r [] before block g h = cc
created_above r (i ∷ made) before block g h =
    ⊎_elim (λ here. let one = above_all r g.next_reg i.operands here in let rest = created_more made before block (with_instr g block before i) in omega (arith, one, rest))
    (λ later. created_above r made before block (with_instr g block before i) later)
    (or_cases (list_any (λ o. is_def_of r o || is_use_of r o) i.operands) (list_any (λ (j : InstrData). list_any (λ o. is_def_of r o || is_use_of r o) j.operands) made) h)

pub replaced_more : (f : FunctionData) (id : ℕ) (made : List InstrData) → f.next_reg ≤ (root_replaced id made f).next_reg
replaced_more f id made = created_more made (next_to f id) (home_of f id) (without_instr f id)

pub replaced_above : (r : ℕ) (f : FunctionData) (id : ℕ) (made : List InstrData) → list_any (λ (i : InstrData). list_any (λ o. is_def_of r o || is_use_of r o) i.operands) made ≡ true → r < (root_replaced id made f).next_reg
replaced_above r f id made h = created_above r made (next_to f id) (home_of f id) (without_instr f id) h
