-- What the tests of a function's numbers say.
use Rattle.std.proofs.Common.{◌≡◌, ℕ, ◌+◌, ◌≤◌, ◌<◌, Bool, true, false, cond, not, ◌&&◌, ◌||◌, ◌==◌, nat_lt, List, [], ◌∷◌, ⊎_elim, refl, sym, ap, ◌∙◌, subst, arith, eqb-true, ltb-true, true≢false}
use Rattle.std.proofs.lemmas.Bool.{and_parts, not-true, or_cases, or_parts}
use Rattle.std.specs.List.{list_all, list_any}
use Rattle.gi_mir.specs.Data.{InstrData, FunctionData}
use Rattle.gi_mir.specs.Edit.{all_instrs, is_def_of, is_use_of}
use Rattle.gi_mir.specs.Ids.{AreOwnIds, uses_among}
use Rattle.gi_mir.specs.declared.operand.Operand.{Operand}
use Rattle.gi_mir.specs.declared.operand.Operand.TheVariants as operand
use Rattle.gi_change_valid.specs.Numbers.{HasHadAll}
use Rattle.gi_change_valid.proofs.Placed.{uses_first, uses_in_all}
use Rattle.gi_change_refines.specs.Numbered.{are_had, is_had, is_numbered, stand_once}

-- ══ Ids ══

-- an id that isn't there isn't counted
none_there : (id : ℕ) (ps : List (ℕ × InstrData)) → list_any (λ (q : ℕ × InstrData). q.0 == id) ps ≡ false → uses_among id ps ≡ 0
none_there id [] none = refl
none_there id (p ∷ ps) none =
    let each : ((p.0 == id) ≡ false) × (list_any (λ (q : ℕ × InstrData). q.0 == id) ps ≡ false) = or_parts (p.0 == id) (list_any (λ (q : ℕ × InstrData). q.0 == id) ps) none in
    let first : uses_among id (p ∷ ps) ≡ cond (p.0 == id) 1 0 + uses_among id ps = uses_first id p ps in
    let here : ◌≡◌ {A = ℕ} (cond (p.0 == id) 1 0) 0 = ap (λ t. cond t 1 0) each.0 in
    let rest : uses_among id ps ≡ 0 = none_there id ps each.1 in
    omega (arith, first, here, rest)

-- what the test says of one that stands first
record StandsOnce (next : ℕ) (p : ℕ × InstrData) (ps : List (ℕ × InstrData)) : Type 0 where
  pub below : p.0 < next
  pub apart : list_any (λ (q : ℕ × InstrData). q.0 == p.0) ps ≡ false
  pub rest : stand_once next ps ≡ true

stands_once : (next : ℕ) (p : ℕ × InstrData) (ps : List (ℕ × InstrData)) → stand_once next (p ∷ ps) ≡ true → StandsOnce next p ps
stands_once next p ps h =
    let one : ((nat_lt p.0 next && not (list_any (λ (q : ℕ × InstrData). q.0 == p.0) ps)) ≡ true) × (stand_once next ps ≡ true) = and_parts (nat_lt p.0 next && not (list_any (λ (q : ℕ × InstrData). q.0 == p.0) ps)) (stand_once next ps) h in
    let two : (nat_lt p.0 next ≡ true) × (not (list_any (λ (q : ℕ × InstrData). q.0 == p.0) ps) ≡ true) = and_parts (nat_lt p.0 next) (not (list_any (λ (q : ℕ × InstrData). q.0 == p.0) ps)) one.0 in
    record { below = ltb-true p.0 next two.0; apart = not-true (list_any (λ (q : ℕ × InstrData). q.0 == p.0) ps) two.1; rest = one.1 }

once : (next : ℕ) (ps : List (ℕ × InstrData)) → stand_once next ps ≡ true → (id : ℕ) → uses_among id ps ≤ 1
once next [] h id = omega arith
once next (p ∷ ps) h id = by (p.0 == id) refl (once next ps own.rest id)
  where
    own : StandsOnce next p ps
    own = stands_once next p ps h

    first : uses_among id (p ∷ ps) ≡ cond (p.0 == id) 1 0 + uses_among id ps
    first = uses_first id p ps

    by : (t : Bool) → (p.0 == id) ≡ t → uses_among id ps ≤ 1 → uses_among id (p ∷ ps) ≤ 1
    by true so rest =
        let here : ◌≡◌ {A = ℕ} (cond (p.0 == id) 1 0) 1 = ap (λ t. cond t 1 0) so in
        let none : uses_among id ps ≡ 0 = none_there id ps (subst (λ k. list_any (λ (q : ℕ × InstrData). q.0 == k) ps ≡ false) (eqb-true p.0 id so) own.apart) in
        let all : uses_among id (p ∷ ps) ≡ cond (p.0 == id) 1 0 + uses_among id ps = first in
        omega (arith, all, here, none)
    by false so rest =
        let here : ◌≡◌ {A = ℕ} (cond (p.0 == id) 1 0) 0 = ap (λ t. cond t 1 0) so in
        let all : uses_among id (p ∷ ps) ≡ cond (p.0 == id) 1 0 + uses_among id ps = first in
        omega (arith, all, here, rest)

given : (next : ℕ) (ps : List (ℕ × InstrData)) → stand_once next ps ≡ true → (id : ℕ) → next ≤ id → uses_among id ps ≡ 0
given next [] h id past = refl
given next (p ∷ ps) h id past = by (p.0 == id) refl (given next ps own.rest id past)
  where
    own : StandsOnce next p ps
    own = stands_once next p ps h

    by : (t : Bool) → (p.0 == id) ≡ t → uses_among id ps ≡ 0 → uses_among id (p ∷ ps) ≡ 0
    by true so rest = absurd (over p.0 id (eqb-true p.0 id so) own.below past)
      where
        over : (n m : ℕ) → n ≡ m → n < next → next ≤ m → ⊥
        over n m same less more = omega (arith, same, less, more)
    by false so rest =
        let here : ◌≡◌ {A = ℕ} (cond (p.0 == id) 1 0) 0 = ap (λ t. cond t 1 0) so in
        let all : uses_among id (p ∷ ps) ≡ cond (p.0 == id) 1 0 + uses_among id ps = uses_first id p ps in
        omega (arith, all, here, rest)

pub own_numbered : (f : FunctionData) → is_numbered f ≡ true → AreOwnIds f.blocks f.next_id
own_numbered f h = record {
  once = λ id. subst (λ n. n ≤ 1) (sym (uses_in_all id f.blocks)) (once f.next_id (all_instrs f.blocks) ids id);
  given = λ id past. uses_in_all id f.blocks ∙ given f.next_id (all_instrs f.blocks) ids id past;
}
  where
    ids : stand_once f.next_id (all_instrs f.blocks) ≡ true
    ids = (and_parts (stand_once f.next_id (all_instrs f.blocks)) (are_had f.next_reg (all_instrs f.blocks)) h).0

-- ══ Registers ══

operand_had : (next r : ℕ) (o : Operand) → is_had next o ≡ true → (is_def_of r o || is_use_of r o) ≡ true → r < next
operand_had next r (operand.Def q kind) had there =
    ⊎_elim (λ same. subst (λ k. k < next) (eqb-true q.0 r same) (ltb-true q.0 next had)) (λ none. absurd (true≢false (sym none))) (or_cases (q.0 == r) false there)
operand_had next r (operand.Use q) had there = subst (λ k. k < next) (eqb-true q.0 r there) (ltb-true q.0 next had)
operand_had next r _ had there = cc

operands_had : (next r : ℕ) (test : Operand → Bool) → ((o : Operand) → test o ≡ true → (is_def_of r o || is_use_of r o) ≡ true) → (os : List Operand) → list_all (is_had next) os ≡ true → list_any test os ≡ true → r < next
operands_had next r test names [] had there = cc
operands_had next r test names (o ∷ os) had there =
    let each : (is_had next o ≡ true) × (list_all (is_had next) os ≡ true) = and_parts (is_had next o) (list_all (is_had next) os) had in
    ⊎_elim (λ here. operand_had next r o each.0 (names o here)) (λ later. operands_had next r test names os each.1 later) (or_cases (test o) (list_any test os) there)

all_had : (next r : ℕ) (test : Operand → Bool) → ((o : Operand) → test o ≡ true → (is_def_of r o || is_use_of r o) ≡ true) → (ps : List (ℕ × InstrData)) → are_had next ps ≡ true
    → list_any (λ (p : ℕ × InstrData). list_any test p.1.operands) ps ≡ true → r < next
all_had next r test names [] had there = cc
all_had next r test names (p ∷ ps) had there =
    let each : (list_all (is_had next) p.1.operands ≡ true) × (are_had next ps ≡ true) = and_parts (list_all (is_had next) p.1.operands) (are_had next ps) had in
    ⊎_elim (λ here. operands_had next r test names p.1.operands each.0 here) (λ later. all_had next r test names ps each.1 later)
    (or_cases (list_any test p.1.operands) (list_any (λ (q : ℕ × InstrData). list_any test q.1.operands) ps) there)

pub had_numbered : (f : FunctionData) → is_numbered f ≡ true → HasHadAll f
had_numbered f h = record {
  defined = λ r there. all_had f.next_reg r (is_def_of r) (λ o is. left (is_def_of r o) (is_use_of r o) is) (all_instrs f.blocks) had there;
  used = λ r there. all_had f.next_reg r (is_use_of r) (λ o is. right (is_def_of r o) (is_use_of r o) is) (all_instrs f.blocks) had there;
}
  where
    had : are_had f.next_reg (all_instrs f.blocks) ≡ true
    had = (and_parts (stand_once f.next_id (all_instrs f.blocks)) (are_had f.next_reg (all_instrs f.blocks)) h).1

    left : (a b : Bool) → a ≡ true → (a || b) ≡ true
    left true b h = refl
    left false b h = cc

    right : (a b : Bool) → b ≡ true → (a || b) ≡ true
    right true b h = refl
    right false b h = h
