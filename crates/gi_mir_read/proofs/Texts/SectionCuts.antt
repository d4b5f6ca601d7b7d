-- Lines are cut into sections at their heads.
use Rattle.std.proofs.Common.{◌≡◌, Bool, true, false, List, [], ◌∷◌, refl, ap}
use Rattle.std.specs.Prelude.{not, map, if◌then◌else◌}
use Rattle.gi_llt.specs.Tokens.{run_of, past_run}
use Rattle.gi_spelling.specs.Lines as lines
use Rattle.gi_spelling.specs.Lines.{Section, Sections, sections_of, with_head, with_line}

module _ {X : Type 0} (is_head : lines.Line → Bool) (f : X → lines.Line) where
  abbrev pub passes : X → Bool
  passes x = not (is_head (f x))

  pub front_is : (xs : List X) → map f (run_of passes xs) ≡ (sections_of is_head (map f xs)).before
  front_is [] = refl
  front_is (x ∷ xs) = chosen (is_head (f x)) (front_is xs)
    where
      chosen : (test : Bool) → map f (run_of passes xs) ≡ (sections_of is_head (map f xs)).before
          → map f (if not test then x ∷ run_of passes xs else []) ≡ (if test then with_head (f x) (sections_of is_head (map f xs)) else with_line (f x) (sections_of is_head (map f xs))).before
      chosen true more = refl
      chosen false more = ap (λ ys. f x ∷ ys) more

  pub past_is : (xs : List X) → (sections_of is_head (map f (past_run passes xs))).sections ≡ (sections_of is_head (map f xs)).sections
  past_is [] = refl
  past_is (x ∷ xs) = chosen (is_head (f x)) refl (past_is xs)
    where
      chosen : (test : Bool) → is_head (f x) ≡ test → (sections_of is_head (map f (past_run passes xs))).sections ≡ (sections_of is_head (map f xs)).sections
          → (sections_of is_head (map f (if not test then past_run passes xs else x ∷ xs))).sections ≡ (if test then with_head (f x) (sections_of is_head (map f xs)) else with_line (f x) (sections_of is_head (map f xs))).sections
      chosen true is more = rw is refl
      chosen false is more = more

  pub past_headed : (xs : List X) → (sections_of is_head (map f (past_run passes xs))).before ≡ []
  past_headed [] = refl
  past_headed (x ∷ xs) = chosen (is_head (f x)) refl (past_headed xs)
    where
      chosen : (test : Bool) → is_head (f x) ≡ test → (sections_of is_head (map f (past_run passes xs))).before ≡ []
          → (sections_of is_head (map f (if not test then past_run passes xs else x ∷ xs))).before ≡ []
      chosen true is more = rw is refl
      chosen false is more = more

-- the first section of lines that begin with a head
pub next_section : (is_head : lines.Line → Bool) (x : lines.Line) (xs : List lines.Line) → (sections_of is_head (x ∷ xs)).before ≡ []
    → (sections_of is_head (x ∷ xs)).sections ≡ record { head = x; under = (sections_of is_head xs).before } ∷ (sections_of is_head xs).sections
next_section is_head x xs headed = chosen (is_head x) headed
  where
    chosen : (test : Bool) → (if test then with_head x (sections_of is_head xs) else with_line x (sections_of is_head xs)).before ≡ []
        → (if test then with_head x (sections_of is_head xs) else with_line x (sections_of is_head xs)).sections ≡ record { head = x; under = (sections_of is_head xs).before } ∷ (sections_of is_head xs).sections
    chosen true headed = refl
    chosen false headed = cc
