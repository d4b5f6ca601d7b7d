-- Lines that agree with bytes one by one, through filters, runs and sections.
use Rattle.std.proofs.Common.{◌≡◌, ℕ, Bool, true, false, List, [], ◌∷◌}
use Rattle.std.specs.Prelude.{filter, if◌then◌else◌}
use Rattle.std.specs.List.{AllZip}
use Rattle.gi_llt.specs.Tokens.{run_of, past_run}
use Rattle.gi_spelling.specs.Lines.{Line, Section as LineSection, Sections as LineSections, with_head as head_line, with_line as next_line, sections_of as line_sections}
use Rattle.gi_spelling.proofs.PlainLines.{Section, Sections, with_head, with_line, sections_of}

module _ {A B : Type 0} (R : A → B → Type 0) (p : A → Bool) (q : B → Bool) (same : (a : A) (b : B) → R a b → p a ≡ q b) where
  pub filter_zip : (xs : List A) (ys : List B) → AllZip R xs ys → AllZip R (filter p xs) (filter q ys)
  filter_zip [] [] all = tt
  filter_zip [] (y ∷ ys) all = absurd all
  filter_zip (x ∷ xs) [] all = absurd all
  filter_zip (x ∷ xs) (y ∷ ys) all = chosen (p x) (q y) (same x y all.0) all.0 (filter_zip xs ys all.1)
    where
      chosen : (a b : Bool) → a ≡ b → R x y → AllZip R (filter p xs) (filter q ys) → AllZip R (if a then x ∷ filter p xs else filter p xs) (if b then y ∷ filter q ys else filter q ys)
      chosen true true e first later = (first, later)
      chosen true false e first later = absurd (cc)
      chosen false true e first later = absurd (cc)
      chosen false false e first later = later

  pub run_zip : (xs : List A) (ys : List B) → AllZip R xs ys → AllZip R (run_of p xs) (run_of q ys)
  run_zip [] [] all = tt
  run_zip [] (y ∷ ys) all = absurd all
  run_zip (x ∷ xs) [] all = absurd all
  run_zip (x ∷ xs) (y ∷ ys) all = chosen (p x) (q y) (same x y all.0) all.0 (run_zip xs ys all.1)
    where
      chosen : (a b : Bool) → a ≡ b → R x y → AllZip R (run_of p xs) (run_of q ys) → AllZip R (if a then x ∷ run_of p xs else []) (if b then y ∷ run_of q ys else [])
      chosen true true e first later = (first, later)
      chosen true false e first later = absurd (cc)
      chosen false true e first later = absurd (cc)
      chosen false false e first later = tt

  pub past_zip : (xs : List A) (ys : List B) → AllZip R xs ys → AllZip R (past_run p xs) (past_run q ys)
  past_zip [] [] all = tt
  past_zip [] (y ∷ ys) all = absurd all
  past_zip (x ∷ xs) [] all = absurd all
  past_zip (x ∷ xs) (y ∷ ys) all = chosen (p x) (q y) (same x y all.0) all.0 all.1 (past_zip xs ys all.1)
    where
      chosen : (a b : Bool) → a ≡ b → R x y → AllZip R xs ys → AllZip R (past_run p xs) (past_run q ys) → AllZip R (if a then past_run p xs else x ∷ xs) (if b then past_run q ys else y ∷ ys)
      chosen true true e first rest later = later
      chosen true false e first rest later = absurd (cc)
      chosen false true e first rest later = absurd (cc)
      chosen false false e first rest later = (first, rest)

-- what holds of each pair follows from what holds of each
pub zip_weaker : {A B : Type 0} (R S : A → B → Type 0) → ((a : A) (b : B) → R a b → S a b) → (xs : List A) (ys : List B) → AllZip R xs ys → AllZip S xs ys
zip_weaker R S weaker [] [] all = tt
zip_weaker R S weaker [] (y ∷ ys) all = absurd all
zip_weaker R S weaker (x ∷ xs) [] all = absurd all
zip_weaker R S weaker (x ∷ xs) (y ∷ ys) all = (weaker x y all.0, zip_weaker R S weaker xs ys all.1)

-- sections, line by line
pub record SectionsAgree (R : Line → List ℕ → Type 0) (section : LineSection) (bytes : Section) : Type 0 where
  pub head : R section.head bytes.head
  pub under : AllZip R section.under bytes.under

pub record AllAgree (R : Line → List ℕ → Type 0) (found : LineSections) (known : Sections) : Type 0 where
  pub before : AllZip R found.before known.before
  pub sections : AllZip (SectionsAgree R) found.sections known.sections

module _ (R : Line → List ℕ → Type 0) (p : Line → Bool) (q : List ℕ → Bool) (same : (line : Line) (bytes : List ℕ) → R line bytes → p line ≡ q bytes) where
  pub sections_zip : (lines : List Line) (bytes : List (List ℕ)) → AllZip R lines bytes → AllAgree R (line_sections p lines) (sections_of q bytes)
  sections_zip [] [] all = record { before = tt; sections = tt }
  sections_zip [] (b ∷ bytes) all = absurd all
  sections_zip (line ∷ lines) [] all = absurd all
  sections_zip (line ∷ lines) (b ∷ bytes) all = chosen (p line) (q b) (same line b all.0) all.0 (sections_zip lines bytes all.1)
    where
      chosen : (x y : Bool) → x ≡ y → R line b → AllAgree R (line_sections p lines) (sections_of q bytes)
          → AllAgree R (if x then head_line line (line_sections p lines) else next_line line (line_sections p lines)) (if y then with_head b (sections_of q bytes) else with_line b (sections_of q bytes))
      chosen true true e first later = record { before = tt; sections = (record { head = first; under = later.before }, later.sections) }
      chosen true false e first later = absurd (cc)
      chosen false true e first later = absurd (cc)
      chosen false false e first later = record { before = (first, later.before); sections = later.sections }
