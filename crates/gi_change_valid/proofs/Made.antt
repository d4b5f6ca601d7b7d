-- Instructions that get ids: what they define and read.
use Rattle.std.proofs.Common.{◌≡◌, ℕ, ◌+◌, Bool, true, false, not, ◌&&◌, ◌||◌, List, [], ◌∷◌, ◌++◌, map, ◌⊎◌, inl, inr, ⊎_elim, refl, sym, ap, ap₂, ◌∙◌, subst}
use Rattle.std.proofs.lemmas.Bool.{or_left}
use Rattle.std.proofs.lemmas.List.Folds.{list_any-append}
use Rattle.std.specs.List.{list_any, list_all}
use Rattle.gi_mir.specs.Data.{InstrData, FunctionData}
use Rattle.gi_mir.specs.Edit.{defines, is_def_of, is_use_of, uses}
use Rattle.gi_replace.specs.InPlace.{with_ids}
use Rattle.gi_valid.specs.Faults.{definitions, may_call, times}
use Rattle.gi_meaning.specs.InRow.{results_in}
use Rattle.gi_valid.specs.Typing.{Phase}
use Rattle.gi_valid.proofs.Single.{often}
use Rattle.gi_change_valid.proofs.Single.{times_append, times_lined}

-- ══ Ids don't matter ══

pub all_of_ids : (test : InstrData → Bool) (id : ℕ) (is : List InstrData) → list_all (λ (p : ℕ × InstrData). test p.1) (with_ids id is) ≡ list_all test is
all_of_ids test id [] = refl
all_of_ids test id (i ∷ is) = ap (λ t. test i && t) (all_of_ids test (id + 1) is)

abbrev pub has_def : (r : ℕ) → InstrData → Bool
has_def r i = list_any (is_def_of r) i.operands

pub any_of_ids : (r id : ℕ) (is : List InstrData) → list_any (defines r) (with_ids id is) ≡ list_any (has_def r) is
any_of_ids r id [] = refl
any_of_ids r id (i ∷ is) = ap (λ t. has_def r i || t) (any_of_ids r (id + 1) is)

abbrev pub count : (r : ℕ) → List InstrData → ℕ
count r [] = 0
count r (i ∷ is) = often r (results_in i.operands) + count r is

pub times_counted : (r id : ℕ) (is : List InstrData) → times r (definitions (with_ids id is)) ≡ count r is
times_counted r id [] = refl
times_counted r id (i ∷ is) =
    times_append r (map (λ q. (i.line, q)) (results_in i.operands)) (definitions (with_ids (id + 1) is)) ∙ ap₂ (λ m n. m + n) (times_lined r i.line (results_in i.operands)) (times_counted r (id + 1) is)

-- ══ Calls ══

abbrev pub never_calls : (x : ℕ) → Phase → FunctionData → InstrData → Bool
never_calls x phase g i = not (may_call x phase g i)

-- ══ Reading ══

-- each of these reads registers of which something holds, or that are defined before it
abbrev pub ReadsWell : (P : ℕ → Type 0) → (done is : List InstrData) → Type 0
ReadsWell P done [] = Unit {0}
ReadsWell P done (i ∷ is) = ((r : ℕ) → list_any (is_use_of r) i.operands ≡ true → (list_any (has_def r) done ≡ true) ⊎ P r) × ReadsWell P (done ++ i ∷ []) is

-- with ids, split in two at one of these
pub read_at : (P : ℕ → Type 0) (done is : List InstrData) (id : ℕ) (earlier : List (ℕ × InstrData)) (i : ℕ × InstrData) (later : List (ℕ × InstrData)) → ReadsWell P done is → with_ids id is ≡ earlier ++ i ∷ later
    → (r : ℕ) → uses r i ≡ true → ((list_any (has_def r) done || list_any (defines r) earlier) ≡ true) ⊎ P r
read_at P done [] id [] i later reads h r used = cc
read_at P done [] id (e ∷ earlier) i later reads h r used = cc
read_at P done (j ∷ is) id [] i later reads h r used =
    let same : i ≡ (id, j) = cc in
    ⊎_elim (λ before. inl (or_left (list_any (has_def r) done) false before)) (λ holds. inr holds) (reads.0 r (subst (λ (k : ℕ × InstrData). uses r k ≡ true) same used))
read_at P done (j ∷ is) id (e ∷ earlier) i later reads h r used =
    let same : e ≡ (id, j) = cc in
    let rest : with_ids (id + 1) is ≡ earlier ++ i ∷ later = cc in
    ⊎_elim (λ before. inl (moved (list_any (has_def r) done) (has_def r j) (list_any (defines r) earlier) (sym (ap (λ t. t || list_any (defines r) earlier) (list_any-append (has_def r) done (j ∷ []))) ∙ before) (ap (λ (k : ℕ × InstrData). defines r k) same)))
    (λ holds. inr holds) (read_at P (done ++ j ∷ []) is (id + 1) earlier i later reads.1 rest r used)
  where
    moved : (d o l : Bool) → ((d || (o || false)) || l) ≡ true → defines r e ≡ o → (d || (defines r e || l)) ≡ true
    moved true o l h so = refl
    moved false true l h so = ap (λ t. t || l) so
    moved false false l h so = ap (λ t. t || l) so ∙ h
