-- A function has one normal form at most.
use Rattle.std.proofs.Common.{◌≡◌, ℕ, zero, suc, List, Option, Some, None, sym, ◌∙◌, subst}
use Rattle.gi_mir.specs.Data.{FunctionData}
use Rattle.gi_answer.specs.NormalForm.{next, Comes, IsNormalForm}
use Rattle.gi_answer.specs.Rows.{Row}

-- where there is no next function, none comes next
none_next : {F : Type 0} (before : Option F) (h : F) → before ≡ None → before ≡ Some h → ⊥
none_next None h none some = cc
none_next (Some g) h none some = cc

same_next : {F : Type 0} (before : Option F) (g h : F) → before ≡ Some g → before ≡ Some h → g ≡ h
same_next before g h one other = cc

come_alike : (rows : List Row) (n m : ℕ) (f g h : FunctionData) → Comes rows n f g → Comes rows m f h → g ≡ h
come_alike rows zero zero f g h one other = one.1 ∙ sym other.1
come_alike rows zero (suc m) f g h one other = absurd (none_next (next rows f) other.0 one.0 other.1)
come_alike rows (suc n) zero f g h one other = absurd (none_next (next rows f) one.0 other.0 one.1)
come_alike rows (suc n) (suc m) f g h one other =
    come_alike rows n m one.0 g h one.2 (subst (λ k. Comes rows m k h) (same_next (next rows f) other.0 one.0 other.1 one.1) other.2)

pub one_normal_form : (rows : List Row) (f g h : FunctionData) → IsNormalForm rows f g → IsNormalForm rows f h → g ≡ h
one_normal_form rows f g h one other = come_alike rows one.count other.count f g h one.comes other.comes
