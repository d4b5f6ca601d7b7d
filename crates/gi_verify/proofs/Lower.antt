-- The lowest fault of a list in parts.
use Rattle.std.proofs.Common.{◌≡◌, ℕ, Bool, true, false, cond, ◌||◌, ◌&&◌, ◌==◌, nat_lt, List, [], ◌∷◌, ◌++◌, Option, Some, None, refl, sym, ap, ◌∙◌, arith}
use Rattle.std.proofs.lemmas.Bool.Decides.{nat_tests}
use Rattle.gi_valid.specs.Faults.{fault_at, with_fault}
use Rattle.gi_valid.specs.Valid.{rank, comes_before, lower, of_lowest_line}
use Rattle.gi_valid.specs.declared.invalid.Fault.{Fault}
use Rattle.gi_valid.specs.declared.invalid.Invalid.{Invalid}
use Rattle.gi_verify.specs.Sets.{lowest_of, is_told_above}

-- ══ The order of faults ══

abbrev before : (l m r s : ℕ) → Bool
before l m r s = nat_lt l m || ((l == m) && nat_lt r s)

before_through : (a b c q r s : ℕ) → before c b s r ≡ true → before b a r q ≡ true → before c a s q ≡ true
before_through a b c q r s h g = grind (arith, nat_tests, h, g)

before_neither : (a b c q r s : ℕ) → before c b s r ≡ false → before b a r q ≡ false → before c a s q ≡ false
before_neither a b c q r s h g = grind (arith, nat_tests, h, g)

before_higher : (a c q s : ℕ) → nat_lt a c ≡ true → before c a s q ≡ false
before_higher a c q s h = grind (arith, nat_tests, h)

-- ══ The lower of two ══

lower_again : (a b c : Fault) → lower a (Some (lower b (Some c))) ≡ lower (lower a (Some b)) (Some c)
lower_again a b c = by (comes_before c b) refl (comes_before b a) refl
  where
    by : (s : Bool) → comes_before c b ≡ s → (t : Bool) → comes_before b a ≡ t → lower a (Some (cond s c b)) ≡ lower (cond t b a) (Some c)
    by true second true first =
        ap (λ t. cond t c a) (before_through a.line b.line c.line (rank a.what) (rank b.what) (rank c.what) second first) ∙ sym (ap (λ t. cond t c b) second)
    by true second false first = refl
    by false second true first = ap (λ t. cond t b a) first ∙ sym (ap (λ t. cond t c b) second)
    by false second false first =
        ap (λ t. cond t b a) first ∙ sym (ap (λ t. cond t c a) (before_neither a.line b.line c.line (rank a.what) (rank b.what) (rank c.what) second first))

pub lowest_again : (a b c : Option Fault) → lowest_of (lowest_of a b) c ≡ lowest_of a (lowest_of b c)
lowest_again None b c = refl
lowest_again (Some x) None c = refl
lowest_again (Some x) (Some y) None = refl
lowest_again (Some x) (Some y) (Some z) = ap Some (sym (lower_again x y z))

-- ══ Lists ══

lower_lowest : (x : Fault) (a b : Option Fault) → lower x (lowest_of a b) ≡ lower (lower x a) b
lower_lowest x None b = refl
lower_lowest x (Some y) None = refl
lower_lowest x (Some y) (Some z) = lower_again x y z

pub lowest_append : (a b : List Fault) → of_lowest_line (a ++ b) ≡ lowest_of (of_lowest_line a) (of_lowest_line b)
lowest_append [] b = refl
lowest_append (x ∷ a) b = ap (λ o. Some (lower x o)) (lowest_append a b) ∙ ap Some (lower_lowest x (of_lowest_line a) (of_lowest_line b))

pub lowest_next : (line : ℕ) (what : Option Invalid) (rest : List Fault) → lowest_of (of_lowest_line (with_fault line what [])) (of_lowest_line rest) ≡ of_lowest_line (with_fault line what rest)
lowest_next line None rest = refl
lowest_next line (Some what) rest = refl

-- a fault of a higher line isn't the lowest
pub told_above : (told : Option Fault) (line : ℕ) (what : Option Invalid) → is_told_above told line ≡ true → told ≡ lowest_of told (of_lowest_line (with_fault line what []))
told_above None line what h = cc
told_above (Some fault) line None h = refl
told_above (Some fault) line (Some what) h =
    ap Some (sym (ap (λ t. cond t (fault_at line what) fault) (before_higher fault.line line (rank fault.what) (rank what) h)))
