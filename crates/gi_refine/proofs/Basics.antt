-- Small facts that the other files share.
use Rattle.std.proofs.Common.{◌≡◌, ℕ, Bool, true, false, cond, nat_lt, ◌==◌, Option, Some, unwrap_or, refl, sym, ap, ◌∙◌, arith}
use Rattle.std.specs.Prelude.{IfSome}
use Rattle.std.proofs.lemmas.Bool.{eq-eqb}
use Rattle.gi_llt.specs.Bits.{wrapped}
use Rattle.gi_meaning.specs.Act.{copied, fitted}
use Rattle.gi_meaning.specs.Given.{LowBits, one}

pub some_is : {X : Type 0} (x y : X) → Some x ≡ Some y → y ≡ x
some_is x y h = ap (λ o. unwrap_or o x) (sym h)

-- ══ A width and itself ══

pub not_below_itself : (x : ℕ) → nat_lt x x ≡ false
not_below_itself x = grind arith

pub whole_fitted : (x v : ℕ) → fitted x x v ≡ v
whole_fitted x v = ap (λ b. cond b (wrapped x v) v) (not_below_itself x)

-- a copy between registers of one width
pub copied_whole : (x v : ℕ) → copied x x v ≡ one v
copied_whole x v =
    ap (λ b. cond b (LowBits x x v) (cond (x == x) (one v) (one (wrapped x v)))) (not_below_itself x)
    ∙ ap (λ b. cond b (one v) (one (wrapped x v))) (eq-eqb x x refl)

-- ══ A value that is put in a place ══

pub word_holds : (P : ℕ → Type 0) (b : Bool) (v old : ℕ) → P v → P old → P (cond b v old)
word_holds P true v old h l = h
word_holds P false v old h l = l

pub value_holds : (P : ℕ → Type 0) (b : Bool) (v : ℕ) (old : Option ℕ) → (b ≡ true → P v) → IfSome old P → IfSome (cond b (Some v) old) P
value_holds P true v old h l = h refl
value_holds P false v old h l = l

pub value_stays : (b : Bool) (v : ℕ) (old : Option ℕ) → b ≡ false → cond b (Some v) old ≡ old
value_stays true v old h = cc
value_stays false v old h = refl
