-- The kinds of registers don't depend on their numbers.
use Rattle.std.proofs.Common.{◌≡◌, ℕ, Bool, true, false, cond, ◌==◌, List, [], ◌∷◌, map, Some, None, ◌⊎◌, inl, inr, ⊎_elim, refl, sym, ap, ap₂, ◌∙◌, eqb-true, eq-eqb, true≢false}
use Rattle.gi_mir.specs.Data.{InstrData, BlockData}
use Rattle.gi_mir.specs.Registers.{first_there, kind_in_operand, kind_in_operands, kind_in_instrs, kind_in_blocks}
use Rattle.gi_mir.specs.Renaming.{IsInjective, renamed_operand, renamed_pair, renamed_block}
use Rattle.gi_mir.specs.declared.operand.Operand.{Operand}
use Rattle.gi_mir.specs.declared.operand.Operand.TheVariants as operand

test_cases : (b : Bool) → (b ≡ true) ⊎ (b ≡ false)
test_cases true = inl refl
test_cases false = inr refl

-- the same test on the new numbers
pub same_test : (number : ℕ → ℕ) → IsInjective number → (a b : ℕ) → (number a == number b) ≡ (a == b)
same_test number h a b = ⊎_elim
    (λ (yes : (a == b) ≡ true). eq-eqb (number a) (number b) (ap number (eqb-true a b yes)) ∙ sym yes)
    (λ (no : (a == b) ≡ false). ⊎_elim
    (λ (yes : (number a == number b) ≡ true). absurd (true≢false (sym (eq-eqb a b (h.apart a b (eqb-true (number a) (number b) yes))) ∙ no)))
    (λ (still : (number a == number b) ≡ false). still ∙ sym no)
    (test_cases (number a == number b)))
    (test_cases (a == b))

kind_in_operand_old : (number : ℕ → ℕ) → IsInjective number → (r : ℕ) (o : Operand) → kind_in_operand (number r) (renamed_operand number o) ≡ kind_in_operand r o
kind_in_operand_old number h r (operand.Def d k) = ap (λ b. cond b (Some k) None) (same_test number h d.0 r)
kind_in_operand_old number h r _ = refl

kind_in_operands_old : (number : ℕ → ℕ) → IsInjective number → (r : ℕ) (os : List Operand) → kind_in_operands (number r) (map (renamed_operand number) os) ≡ kind_in_operands r os
kind_in_operands_old number h r [] = refl
kind_in_operands_old number h r (o ∷ os) = ap₂ first_there (kind_in_operand_old number h r o) (kind_in_operands_old number h r os)

kind_in_instrs_old : (number : ℕ → ℕ) → IsInjective number → (r : ℕ) (is : List (ℕ × InstrData)) → kind_in_instrs (number r) (map (renamed_pair number) is) ≡ kind_in_instrs r is
kind_in_instrs_old number h r [] = refl
kind_in_instrs_old number h r (i ∷ is) = ap₂ first_there (kind_in_operands_old number h r i.1.operands) (kind_in_instrs_old number h r is)

-- the first definition of a register gives the same kind
pub kind_in_blocks_old : (number : ℕ → ℕ) → IsInjective number → (r : ℕ) (bs : List BlockData) → kind_in_blocks (number r) (map (renamed_block number) bs) ≡ kind_in_blocks r bs
kind_in_blocks_old number h r [] = refl
kind_in_blocks_old number h r (b ∷ bs) = ap₂ first_there (kind_in_instrs_old number h r b.instrs) (kind_in_blocks_old number h r bs)
