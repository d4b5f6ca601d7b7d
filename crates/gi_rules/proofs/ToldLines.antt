-- Which line is told of two lists, one behind the other.
use Rattle.std.proofs.Common.{◌≡◌, ℕ, ◌<◌, ◌≤◌, Bool, true, false, ◌&&◌, List, [], ◌∷◌, ◌++◌, Option, Some, None, nat_lt, nat_le, refl, sym, ap, ap₂, ◌∙◌, subst, arith, if◌then◌else◌}
use Rattle.std.specs.List.{list_all}
use Rattle.std.proofs.lemmas.Bool.{leb-true, le-leb, lt-ltb, ltb-false, ltb-true}
use Rattle.std.proofs.lemmas.List.{append_assoc, append-nil}
use Rattle.std.proofs.lemmas.List.Folds.{list_all-append}
use Rattle.gi_mir.specs.declared.opcode.Opcode.{Opcode}
use Rattle.gi_rules.specs.Fitting.{IsFirstOfLowestLine, IsTold, of_lower_line}

-- a line above another, and one that isn't below it
abbrev above : (n : ℕ) → ℕ × Opcode → Bool
above n line = nat_lt n line.0

abbrev from : (n : ℕ) → ℕ × Opcode → Bool
from n line = nat_le n line.0

-- where each line passes a test, each passes one that asks for less
weaker_more : (p q s t : Bool) → (p ≡ true → q ≡ true) → (s ≡ true → t ≡ true) → (p && s) ≡ true → (q && t) ≡ true
weaker_more true q true t here there both = ap₂ (λ a b. a && b) (here refl) (there refl)
weaker_more true q false t here there both = cc
weaker_more false q s t here there both = cc

weaker : (p q : ℕ × Opcode → Bool) → ((line : ℕ × Opcode) → p line ≡ true → q line ≡ true) → (lines : List (ℕ × Opcode)) → list_all p lines ≡ true → list_all q lines ≡ true
weaker p q less [] all = refl
weaker p q less (line ∷ lines) all = weaker_more (p line) (q line) (list_all p lines) (list_all q lines) (less line) (weaker p q less lines) all

all_in_both : (p : ℕ × Opcode → Bool) (first later : List (ℕ × Opcode)) → list_all p first ≡ true → list_all p later ≡ true → list_all p (first ++ later) ≡ true
all_in_both p first later is are = list_all-append p first later ∙ ap₂ (λ a b. a && b) is are

-- those of a list are above each line that is below the one that is told of it
module _ (n : ℕ) (lines : List (ℕ × Opcode)) (told : ℕ × Opcode) (known : IsFirstOfLowestLine lines told) where
  all_above : n < told.0 → list_all (above n) lines ≡ true
  all_above below =
      subst (λ ls. list_all (above n) ls ≡ true) (sym known.place)
      (all_in_both (above n) known.before (told ∷ known.behind)
      (weaker (above told.0) (above n) (λ line is. lt-ltb n line.0 (omega (arith, below, ltb-true told.0 line.0 is))) known.before known.sooner)
      (ap₂ (λ a b. a && b) (lt-ltb n told.0 below) (weaker (from told.0) (above n) (λ line is. lt-ltb n line.0 (omega (arith, below, leb-true told.0 line.0 is))) known.behind known.later)))

  all_from : n ≤ told.0 → list_all (from n) lines ≡ true
  all_from within =
      subst (λ ls. list_all (from n) ls ≡ true) (sym known.place)
      (all_in_both (from n) known.before (told ∷ known.behind)
      (weaker (above told.0) (from n) (λ line is. le-leb n line.0 (omega (arith, within, ltb-true told.0 line.0 is))) known.before known.sooner)
      (ap₂ (λ a b. a && b) (le-leb n told.0 within) (weaker (from told.0) (from n) (λ line is. le-leb n line.0 (omega (arith, within, leb-true told.0 line.0 is))) known.behind known.later)))

module _ (first later : List (ℕ × Opcode)) where
  told_later : (a b : ℕ × Opcode) → IsFirstOfLowestLine first a → IsFirstOfLowestLine later b → b.0 < a.0 → IsFirstOfLowestLine (first ++ later) b
  told_later a b is are lower = record {
    before = first ++ are.before;
    behind = are.behind;
    place = ap (λ lines. first ++ lines) are.place ∙ sym (append_assoc first are.before (b ∷ are.behind));
    sooner = all_in_both (above b.0) first are.before (all_above b.0 first a is lower) are.sooner;
    later = are.later;
  }

  told_first : (a b : ℕ × Opcode) → IsFirstOfLowestLine first a → IsFirstOfLowestLine later b → a.0 ≤ b.0 → IsFirstOfLowestLine (first ++ later) a
  told_first a b is are higher = record {
    before = is.before;
    behind = is.behind ++ later;
    place = ap (λ lines. lines ++ later) is.place ∙ append_assoc is.before (a ∷ is.behind) later;
    sooner = is.sooner;
    later = all_in_both (from a.0) is.behind later is.later (all_from a.0 later b are higher);
  }

  told_of : (a b : ℕ × Opcode) → IsFirstOfLowestLine first a → IsFirstOfLowestLine later b → (t : Bool) → nat_lt b.0 a.0 ≡ t → IsTold (first ++ later) (if t then Some b else Some a)
  told_of a b is are true lower = told_later a b is are (ltb-true b.0 a.0 lower)
  told_of a b is are false higher = told_first a b is are (omega (arith, ltb-false b.0 a.0 higher))

  -- of what is told of two lists the lower line is told of both
  pub told_of_both : (a b : Option (ℕ × Opcode)) → IsTold first a → IsTold later b → IsTold (first ++ later) (of_lower_line a b)
  told_of_both None None is are = ap₂ (λ ls ms. ls ++ ms) is are
  told_of_both None (Some b) is are = subst (λ ls. IsFirstOfLowestLine (ls ++ later) b) (sym is) are
  told_of_both (Some a) None is are = subst (λ lines. IsFirstOfLowestLine lines a) (sym (append-nil first) ∙ ap (λ ls. first ++ ls) (sym are)) is
  told_of_both (Some a) (Some b) is are = told_of a b is are (nat_lt b.0 a.0) refl
