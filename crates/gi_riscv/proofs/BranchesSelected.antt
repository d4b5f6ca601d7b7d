-- Branches are selected.
use Rattle.std.proofs.Common.{◌≡◌, ℕ, ◌==◌, ◌<◌, ◌^◌, ◌%◌, Bool, true, false, cond, not, nat_lt, nat_le, [], ◌∷◌, None, refl, sym, ap, ap₂, ◌∙◌, subst}
use Rattle.std.specs.Prelude.{int_lt, int_le}
use Rattle.gi_llt.specs.Bits.{signed}
use Rattle.gi_mir.specs.declared.operand.Flags.{Flags}
use Rattle.gi_mir.specs.declared.operand.Pred.{Pred}
use Rattle.gi_mir.specs.declared.operand.Pred.TheVariants.{Eq, Ne, Ugt, Uge, Ult, Ule, Sgt, Sge, Slt, Sle}
use Rattle.gi_meaning.specs.Argument.{Value, Test, To}
use Rattle.gi_meaning.specs.Generic.{bit_of, holds, comparison}
use Rattle.gi_meaning.specs.Meaning.{MachineBranching, Generic}
use Rattle.gi_meaning.specs.State.{World, Outside}
use Rattle.gi_meaning.specs.Act.{Answer, Results, Leaves, Act, IsWordOf, AllReadAs, machine_branch, branch}
use Rattle.gi_refine.proofs.Basics.{not_below_itself}
use Rattle.gi_refine.proofs.RuleSteps.{whole_word}
use Rattle.gi_riscv.specs.SelectedBranches.{branch_of, HaveSameAnswers, IsSelectedBranch, IsSelectedJump, IsSelectedTest}

-- ══ What a machine's branch answers ══

-- a register of a word's width may be read as its word
as_itself : (x a : ℕ) → IsWordOf x x a (Value x a)
as_itself x a = subst (λ b. cond b ((u : ℕ) × (u < 2 ^ x) × (u % 2 ^ x ≡ a % 2 ^ x) × (Value x a ≡ Value x u)) (Value x a ≡ Value x a)) (sym (not_below_itself x)) refl

abbrev leaves_where : Bool → (block : ℕ) → Outside → Answer
leaves_where taken block outside = cond taken (Leaves block) (Results [] outside)

machine_only : (x : ℕ) (w : World) (test : ℕ → ℕ → ℕ → Bool) (a b block : ℕ) (outside : Outside) (answer : Answer)
    → Act x w (MachineBranching test) None [] (Value x a ∷ Value x b ∷ To block ∷ []) outside answer → answer ≡ leaves_where (test x a b) block outside
machine_only x w test a b block outside answer act =
    let left : act.1.0 ≡ Value x a = whole_word x a act.1.0 act.1.2 in
    let right : act.1.3.0 ≡ Value x b = whole_word x b act.1.3.0 act.1.3.2 in
    let last : act.1.3.1 ≡ To block ∷ [] = act.1.3.3.4 ∙ ap₂ (λ p q. p ∷ q) act.1.3.3.2 act.1.3.3.3 in
    let are : act.0 ≡ Value x a ∷ Value x b ∷ To block ∷ [] = act.1.4 ∙ ap₂ (λ p q. p ∷ q) left (act.1.3.4 ∙ ap₂ (λ p q. p ∷ q) right last) in
    act.2 ∙ ap (λ ws. machine_branch x test ws outside) are

machine_always : (x : ℕ) (w : World) (test : ℕ → ℕ → ℕ → Bool) (a b block : ℕ) (outside : Outside) (answer : Answer)
    → answer ≡ leaves_where (test x a b) block outside → Act x w (MachineBranching test) None [] (Value x a ∷ Value x b ∷ To block ∷ []) outside answer
machine_always x w test a b block outside answer is =
    let last : AllReadAs x (To block ∷ []) (To block ∷ []) = (To block, [], refl, refl, refl) in
    let both : AllReadAs x (Value x b ∷ To block ∷ []) (Value x b ∷ To block ∷ []) = (Value x b, To block ∷ [], as_itself x b, last, refl) in
    (Value x a ∷ Value x b ∷ To block ∷ [], (Value x a, Value x b ∷ To block ∷ [], as_itself x a, both, refl), is)

-- both leave for the block where one test holds
both_leave : (x : ℕ) (w : World) (test : ℕ → ℕ → ℕ → Bool) (a b n c block : ℕ) (outside : Outside) → branch (Value n c ∷ To block ∷ []) outside ≡ leaves_where (test x a b) block outside
    → HaveSameAnswers (λ answer. answer ≡ branch (Value n c ∷ To block ∷ []) outside) (Act x w (MachineBranching test) None [] (Value x a ∷ Value x b ∷ To block ∷ []) outside)
both_leave x w test a b n c block outside same answer =
    (λ act. machine_only x w test a b block outside answer act ∙ sym same, λ is. machine_always x w test a b block outside answer (is ∙ same))

-- ══ On a comparison ══

branch_on_bit : (n block : ℕ) (outside : Outside) (taken : Bool) → branch (Value n (bit_of taken) ∷ To block ∷ []) outside ≡ leaves_where taken block outside
branch_on_bit n block outside true = refl
branch_on_bit n block outside false = refl

-- the bit that was compared
first_result : (c d : ℕ) (outside : Outside) → Results (c ∷ []) outside ≡ Results (d ∷ []) outside → c ≡ d
first_result c d outside same = ap bit same
  where
    bit : Answer → ℕ
    bit (Results (v ∷ vs) outside) = v
    bit _ = 0

bit_compared : (x : ℕ) (w : World) (pred : Pred) (flags : Flags) (a b n c : ℕ) (outside : Outside)
    → Act x w (Generic comparison) None (n ∷ []) (Test pred ∷ Value x a ∷ Value x b ∷ []) outside (Results (c ∷ []) outside) → c ≡ bit_of (holds pred x a b)
bit_compared x w pred flags a b n c outside act =
    first_result c (bit_of (holds pred x a b)) outside (act.2 ∙ ap (λ rs. Results rs outside) act.1)

-- the branch on the bit leaves where the predicate holds
compared_leaves : (x : ℕ) (w : World) (pred : Pred) (flags : Flags) (a b n c block : ℕ) (outside : Outside)
    → Act x w (Generic comparison) None (n ∷ []) (Test pred ∷ Value x a ∷ Value x b ∷ []) outside (Results (c ∷ []) outside)
    → branch (Value n c ∷ To block ∷ []) outside ≡ leaves_where (holds pred x a b) block outside
compared_leaves x w pred flags a b n c block outside act =
    ap (λ v. branch (Value n v ∷ To block ∷ []) outside) (bit_compared x w pred flags a b n c outside act) ∙ branch_on_bit n block outside (holds pred x a b)

pub on_comparison : (x : ℕ) (w : World) (pred : Pred) → IsSelectedBranch x w pred (branch_of pred)
on_comparison x w Eq = record { by = λ outside flags flags' a b n c block act. both_leave x w (λ x a b. a == b) a b n c block outside (compared_leaves x w Eq flags a b n c block outside act) }
on_comparison x w Ne = record { by = λ outside flags flags' a b n c block act. both_leave x w (λ x a b. not (a == b)) a b n c block outside (compared_leaves x w Ne flags a b n c block outside act) }
on_comparison x w Ugt = record { by = λ outside flags flags' a b n c block act. both_leave x w (λ x a b. nat_lt a b) b a n c block outside (compared_leaves x w Ugt flags a b n c block outside act) }
on_comparison x w Uge = record { by = λ outside flags flags' a b n c block act. both_leave x w (λ x a b. nat_le b a) a b n c block outside (compared_leaves x w Uge flags a b n c block outside act) }
on_comparison x w Ult = record { by = λ outside flags flags' a b n c block act. both_leave x w (λ x a b. nat_lt a b) a b n c block outside (compared_leaves x w Ult flags a b n c block outside act) }
on_comparison x w Ule = record { by = λ outside flags flags' a b n c block act. both_leave x w (λ x a b. nat_le b a) b a n c block outside (compared_leaves x w Ule flags a b n c block outside act) }
on_comparison x w Sgt =
    record { by = λ outside flags flags' a b n c block act. both_leave x w (λ x a b. int_lt (signed x a) (signed x b)) b a n c block outside (compared_leaves x w Sgt flags a b n c block outside act) }
on_comparison x w Sge =
    record { by = λ outside flags flags' a b n c block act. both_leave x w (λ x a b. int_le (signed x b) (signed x a)) a b n c block outside (compared_leaves x w Sge flags a b n c block outside act) }
on_comparison x w Slt =
    record { by = λ outside flags flags' a b n c block act. both_leave x w (λ x a b. int_lt (signed x a) (signed x b)) a b n c block outside (compared_leaves x w Slt flags a b n c block outside act) }
on_comparison x w Sle =
    record { by = λ outside flags flags' a b n c block act. both_leave x w (λ x a b. int_le (signed x b) (signed x a)) b a n c block outside (compared_leaves x w Sle flags a b n c block outside act) }

-- ══ On a word ══

leaves_otherwise : (q : Bool) (block : ℕ) (outside : Outside) → cond q (Results [] outside) (Leaves block) ≡ leaves_where (not q) block outside
leaves_otherwise true block outside = refl
leaves_otherwise false block outside = refl

pub on_word : (x : ℕ) (w : World) → IsSelectedTest x w
on_word x w = record { by = λ outside flags c block. both_leave x w (λ x a b. not (a == b)) c 0 x c block outside (leaves_otherwise (c == 0) block outside) }

pub always : (x : ℕ) (w : World) → IsSelectedJump x w
always x w = record { by = λ outside flags block answer. (λ act. act, λ act. act) }
