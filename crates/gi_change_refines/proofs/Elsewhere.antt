-- Nothing in a function touches a register that it hasn't had.
use Rattle.std.proofs.Common.{◌≡◌, ℕ, zero, suc, ◌+◌, ◌≤◌, ◌<◌, true, false, ◌==◌, nat_le, List, [], ◌∷◌, ◌++◌, Some, take, drop, inl, inr, ⊎_elim, refl, sym, subst, arith, leb-true}
use Rattle.std.proofs.lemmas.Bool.{or_left, or_right, or_from, false_from_ne_true, eq-eqb}
use Rattle.std.specs.Prelude.{slice_get}
use Rattle.std.specs.List.{list_any}
use Rattle.gi_mir.specs.Data.{InstrData, BlockData, FunctionData}
use Rattle.gi_mir.specs.Edit.{IsLive, all_instrs, defines, empty_block, home_block, home_of, is_def_of, is_use_of, place_in_block, uses}
use Rattle.gi_mir.specs.declared.operand.Operand.{Operand}
use Rattle.gi_mir.specs.declared.operand.Operand.TheVariants as operand
use Rattle.gi_mir.proofs.Located.{id_in-live, id_in-within}
use Rattle.gi_refine.specs.Replacing.{any_touches, touches}
use Rattle.gi_change_refines.specs.InBlock.{back_of, front_of}
use Rattle.gi_change_refines.proofs.InBlock.{get-within}
use Rattle.gi_change_valid.specs.Rewriting.{IsOneOf}
use Rattle.gi_change_valid.specs.Numbers.{HasHadAll}
use Rattle.gi_change_valid.proofs.Computed.{any_one}
use Rattle.gi_change_refines.specs.Numbered.{is_new_in}

-- a register that the function has had isn't new
pub had_is_old : (f : FunctionData) (r : ℕ) → r < f.next_reg → is_new_in f r ≡ false
had_is_old f r below = false_from_ne_true (nat_le f.next_reg r) (λ new. over f.next_reg (leb-true f.next_reg r new) below)
  where
    over : (n : ℕ) → n ≤ r → r < n → ⊥
    over n more less = omega (arith, more, less)

operands_clear : (f : FunctionData) (os : List Operand) → ((r : ℕ) → list_any (is_def_of r) os ≡ true → r < f.next_reg) → ((r : ℕ) → list_any (is_use_of r) os ≡ true → r < f.next_reg) → touches (is_new_in f) (λ q. q) os ≡ false
operands_clear f [] defined used = refl
operands_clear f (operand.Def q kind ∷ os) defined used =
    or_from (is_new_in f q.0) (touches (is_new_in f) (λ r. r) os) (had_is_old f q.0 (defined q.0 (or_left (q.0 == q.0) (list_any (is_def_of q.0) os) (eq-eqb q.0 q.0 refl))))
    (operands_clear f os (λ r there. defined r (or_right (q.0 == r) (list_any (is_def_of r) os) there)) used)
operands_clear f (operand.Use q ∷ os) defined used =
    or_from (is_new_in f q.0) (touches (is_new_in f) (λ r. r) os) (had_is_old f q.0 (used q.0 (or_left (q.0 == q.0) (list_any (is_use_of q.0) os) (eq-eqb q.0 q.0 refl))))
    (operands_clear f os defined (λ r there. used r (or_right (q.0 == r) (list_any (is_use_of r) os) there)))
operands_clear f (_ ∷ os) defined used = operands_clear f os defined used

-- instructions of a function
abbrev pub AreInside : FunctionData → List (ℕ × InstrData) → Type 0
AreInside f is = (p : ℕ × InstrData) → IsOneOf p is → IsOneOf p (all_instrs f.blocks)

pub all_clear : (f : FunctionData) → HasHadAll f → (is : List (ℕ × InstrData)) → AreInside f is → any_touches (is_new_in f) (λ q. q) is ≡ false
all_clear f had [] inside = refl
all_clear f had (i ∷ is) inside =
    or_from (touches (is_new_in f) (λ q. q) i.1.operands) (any_touches (is_new_in f) (λ q. q) is)
    (operands_clear f i.1.operands (λ r there. had.defined r (any_one (defines r) i (all_instrs f.blocks) (inside i (inl refl)) there)) (λ r there. had.used r (any_one (uses r) i (all_instrs f.blocks) (inside i (inl refl)) there)))
    (all_clear f had is (λ p there. inside p (inr there)))

-- ══ Where instructions stand ══

pub in_left : (p : ℕ × InstrData) (xs ys : List (ℕ × InstrData)) → IsOneOf p xs → IsOneOf p (xs ++ ys)
in_left p [] ys there = absurd there
in_left p (x ∷ xs) ys there = ⊎_elim (λ same. inl same) (λ later. inr (in_left p xs ys later)) there

pub in_right : (p : ℕ × InstrData) (xs ys : List (ℕ × InstrData)) → IsOneOf p ys → IsOneOf p (xs ++ ys)
in_right p [] ys there = there
in_right p (x ∷ xs) ys there = inr (in_right p xs ys there)

block_inside : (p : ℕ × InstrData) (blocks : List BlockData) (k : ℕ) (block : BlockData) → slice_get blocks k ≡ Some block → IsOneOf p block.instrs → IsOneOf p (all_instrs blocks)
block_inside p [] k block found there = cc
block_inside p (b ∷ blocks) zero block found there =
    let same : b ≡ block = cc in in_left p b.instrs (all_instrs blocks) (subst (λ (c : BlockData). IsOneOf p c.instrs) (sym same) there)
block_inside p (b ∷ blocks) (suc k) block found there = in_right p b.instrs (all_instrs blocks) (block_inside p blocks k block found there)

in_front : (p : ℕ × InstrData) (xs : List (ℕ × InstrData)) (k : ℕ) → IsOneOf p (take k xs) → IsOneOf p xs
in_front p [] zero there = absurd there
in_front p [] (suc k) there = absurd there
in_front p (x ∷ xs) zero there = absurd there
in_front p (x ∷ xs) (suc k) there = ⊎_elim (λ same. inl same) (λ later. inr (in_front p xs k later)) there

in_back : (p : ℕ × InstrData) (xs : List (ℕ × InstrData)) (k : ℕ) → IsOneOf p (drop k xs) → IsOneOf p xs
in_back p [] zero there = there
in_back p [] (suc k) there = absurd there
in_back p (x ∷ xs) zero there = there
in_back p (x ∷ xs) (suc k) there = inr (in_back p xs k there)

home_there : (f : FunctionData) (id : ℕ) → IsLive f id → slice_get f.blocks (home_of f id) ≡ Some (home_block f id)
home_there f id live = get-within f.blocks (home_of f id) empty_block (id_in-within id f.blocks (home_of f id) (place_in_block f id) (id_in-live f id live))

pub front_inside : (f : FunctionData) (id : ℕ) → IsLive f id → AreInside f (front_of f id)
front_inside f id live = λ p there. block_inside p f.blocks (home_of f id) (home_block f id) (home_there f id live) (in_front p (home_block f id).instrs (place_in_block f id) there)

pub back_inside : (f : FunctionData) (id : ℕ) → IsLive f id → AreInside f (back_of f id)
back_inside f id live = λ p there. block_inside p f.blocks (home_of f id) (home_block f id) (home_there f id live) (in_back p (home_block f id).instrs (place_in_block f id + 1) there)

pub other_inside : (f : FunctionData) (k : ℕ) (other : BlockData) → slice_get f.blocks k ≡ Some other → AreInside f other.instrs
other_inside f k other found = λ p there. block_inside p f.blocks k other found there
