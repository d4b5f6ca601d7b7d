-- Types that are accepted together are accepted alone.
use Rattle.std.proofs.Common.{◌≡◌, ℕ, zero, suc, Bool, true, false, cond, List, [], ◌∷◌, Option, Some, None, refl, sym, subst, ◌∙◌, ap, ◌&&◌}
use Rattle.std.specs.Prelude.{slice_get, unwrap_or}
use Rattle.std.specs.List.{list_all}
use Rattle.std.specs.Option.{option_map_or}
use Rattle.std.proofs.lemmas.Bool.{and_parts, and_from, false≢true, eqb-true}
use Rattle.std.proofs.lemmas.Option.{none-some}
use Rattle.gi_llt.specs.declared.Llt.{Llt}
use Rattle.gi_llt.specs.declared.Llt.TheVariants.{Scalar, Pointer}
use Rattle.gi_mir.specs.declared.opcode.Opcode.{Opcode}
use Rattle.gi_mir.specs.declared.typing.Class.{Class}
use Rattle.gi_mir.specs.declared.typing.Letter.{Letter}
use Rattle.gi_mir.specs.declared.typing.Letter.TheVariants as letter
use Rattle.gi_mir.specs.Types.{same_type, is_of}
use Rattle.gi_mir.specs.Typings.{TypingData}
use Rattle.gi_mir.specs.Row.{typing_of}
use Rattle.gi_mir.specs.Accepted.{letters, is_letter, letter_at, class_of, have_letters, types_at, types_of, are_one, are_related, are_typed, accepts, is_typed_at, is_result_type, is_source_type}
use Rattle.gi_mir.proofs.LettersLemmas.{in_both}

same_is : (a b : Llt) → same_type a b ≡ true → a ≡ b
same_is (Scalar m) (Scalar n) h = ap Scalar (eqb-true m n h)
same_is (Scalar m) Pointer h = absurd (false≢true h)
same_is Pointer (Scalar n) h = absurd (false≢true h)
same_is Pointer Pointer h = refl

all_alike : (p : Llt → Bool) (ty : Llt) (types : List Llt) → p ty ≡ true → list_all (λ other. same_type ty other) types ≡ true → list_all p types ≡ true
all_alike p ty [] is h = refl
all_alike p ty (other ∷ types) is h =
    let parts : (same_type ty other ≡ true) × (list_all (λ next. same_type ty next) types ≡ true) = and_parts (same_type ty other) (list_all (λ next. same_type ty next) types) h in
    and_from (p other) (list_all p types) (subst (λ t. p t ≡ true) (same_is ty other parts.0) is) (all_alike p ty types is parts.1)

-- one type of a class: each is of the class
each_of : (x : ℕ) (class : Class) (types : List Llt) → are_one x class types ≡ true → list_all (is_of x class) types ≡ true
each_of x class [] h = refl
each_of x class (ty ∷ types) h =
    let parts : (is_of x class ty ≡ true) × (list_all (λ other. same_type ty other) types ≡ true) = and_parts (is_of x class ty) (list_all (λ other. same_type ty other) types) h in
    and_from (is_of x class ty) (list_all (is_of x class) types) parts.0 (all_alike (is_of x class) ty types parts.0 parts.1)

all_at : (p : Llt → Bool) (types : List Llt) (place : ℕ) (ty : Llt) → list_all p types ≡ true → slice_get types place ≡ Some ty → p ty ≡ true
all_at p [] place ty h at = absurd (none-some ty at)
all_at p (first ∷ types) zero ty h at = subst (λ t. p t ≡ true) (ap (λ o. unwrap_or o first) at) (and_parts (p first) (list_all p types) h).0
all_at p (first ∷ types) (suc place) ty h at = all_at p types place ty (and_parts (p first) (list_all p types) h).1 at

letter_self : (l : Letter) → is_letter l l ≡ true
letter_self letter.A = refl
letter_self _ = refl

-- a type at a place of a letter is among those that stand at the letter's places
there : (p : Llt → Bool) (l : Letter) (ls : List Letter) (more : Option Letter) (types : List Llt) (place : ℕ) (ty : Llt)
    → letter_at ls more place ≡ Some l → slice_get types place ≡ Some ty → list_all p (types_at l ls more types) ≡ true → p ty ≡ true
there p l [] None types place ty has at h = absurd (none-some l has)
there p l [] (Some m) types place ty has at h =
    let same : m ≡ l = ap (λ o. unwrap_or o m) has in
    let yes : is_letter l m ≡ true = subst (λ k. is_letter l k ≡ true) (sym same) (letter_self l) in
    all_at p types place ty (subst (λ b. list_all p (cond b types []) ≡ true) yes h) at
there p l (m ∷ ms) more [] place ty has at h = absurd (none-some ty at)
there p l (m ∷ ms) more (first ∷ types) zero ty has at h =
    let same : m ≡ l = ap (λ o. unwrap_or o m) has in
    let yes : is_letter l m ≡ true = subst (λ k. is_letter l k ≡ true) (sym same) (letter_self l) in
    let rest = types_at l ms more types in
    let all : list_all p (first ∷ rest) ≡ true = subst (λ b. list_all p (cond b (first ∷ rest) rest) ≡ true) yes h in
    all_at p (first ∷ rest) zero ty all at
there p l (m ∷ ms) more (first ∷ types) (suc place) ty has at h = there p l ms more types place ty has at (by (is_letter l m) h)
  where
    rest : List Llt
    rest = types_at l ms more types

    by : (b : Bool) → list_all p (cond b (first ∷ rest) rest) ≡ true → list_all p rest ≡ true
    by true all = (and_parts (p first) (list_all p rest) all).1
    by false all = all

-- each place of a type has a letter
lettered : (ls : List Letter) (more : Option Letter) (types : List Llt) (place : ℕ) (ty : Llt) → have_letters ls more types ≡ true → slice_get types place ≡ Some ty → letter_at ls more place ≡ None → ⊥
lettered [] None [] place ty h at none = none-some ty at
lettered [] None (first ∷ types) place ty h at none = false≢true h
lettered [] (Some m) types place ty h at none = none-some m (sym none)
lettered (l ∷ ls) more [] place ty h at none = false≢true h
lettered (l ∷ ls) more (first ∷ types) zero ty h at none = none-some l (sym none)
lettered (l ∷ ls) more (first ∷ types) (suc place) ty h at none = lettered ls more types place ty h at none

of_each : (p : Letter → Bool) (l : Letter) → list_all p letters ≡ true → p l ≡ true
of_each p letter.A h = (and_parts (p letter.A) _ h).0
of_each p letter.B h = (and_parts (p letter.B) _ (and_parts (p letter.A) _ h).1).0
of_each p letter.Pointer h = (and_parts (p letter.Pointer) _ (and_parts (p letter.B) _ (and_parts (p letter.A) _ h).1).1).0
of_each p letter.Bit h = (and_parts (p letter.Bit) _ (and_parts (p letter.Pointer) _ (and_parts (p letter.B) _ (and_parts (p letter.A) _ h).1).1).1).0
of_each p letter.Register h =
    (and_parts (p letter.Register) _ (and_parts (p letter.Bit) _ (and_parts (p letter.Pointer) _ (and_parts (p letter.B) _ (and_parts (p letter.A) _ h).1).1).1).1).0

-- what types that are typed together have
record AreTyped (x : ℕ) (typing : TypingData) (results sources : List Llt) : Type 0 where
  has_results : have_letters typing.results typing.more_results results ≡ true
  has_sources : have_letters typing.sources typing.more_sources sources ≡ true
  among_results : (l : Letter) → list_all (is_of x (class_of typing l)) (types_at l typing.results typing.more_results results) ≡ true
  among_sources : (l : Letter) → list_all (is_of x (class_of typing l)) (types_at l typing.sources typing.more_sources sources) ≡ true

typed_parts : (x : ℕ) (typing : TypingData) (results sources : List Llt) → are_typed x typing results sources ≡ true → AreTyped x typing results sources
typed_parts x typing results sources h =
    let one : Letter → Bool = λ l. are_one x (class_of typing l) (types_of l typing results sources) in
    let a = have_letters typing.results typing.more_results results in
    let b = have_letters typing.sources typing.more_sources sources in
    let related = are_related typing.relation (types_of letter.A typing results sources) (types_of letter.B typing results sources) in
    let p : ((a && b && list_all one letters) ≡ true) × (related ≡ true) = and_parts (a && b && list_all one letters) related h in
    let q : ((a && b) ≡ true) × (list_all one letters ≡ true) = and_parts (a && b) (list_all one letters) p.0 in
    let r : (a ≡ true) × (b ≡ true) = and_parts a b q.0 in
    let each : (l : Letter) → (list_all (is_of x (class_of typing l)) (types_at l typing.results typing.more_results results) && list_all (is_of x (class_of typing l)) (types_at l typing.sources typing.more_sources sources)) ≡ true =
    λ l. sym (in_both (is_of x (class_of typing l)) (types_at l typing.results typing.more_results results) (types_at l typing.sources typing.more_sources sources))
    ∙ each_of x (class_of typing l) (types_of l typing results sources) (of_each one l q.1) in
    record {
      has_results = r.0;
      has_sources = r.1;
      among_results = λ l. (and_parts _ _ (each l)).0;
      among_sources = λ l. (and_parts _ _ (each l)).1;
    }

alone : (x : ℕ) (typing : TypingData) (ls : List Letter) (more : Option Letter) (types : List Llt) (place : ℕ) (ty : Llt)
    → have_letters ls more types ≡ true → ((l : Letter) → list_all (is_of x (class_of typing l)) (types_at l ls more types) ≡ true) → slice_get types place ≡ Some ty
    → is_typed_at x typing ls more place ty ≡ true
alone x typing ls more types place ty has each at = by (letter_at ls more place) refl
  where
    by : (o : Option Letter) → letter_at ls more place ≡ o → option_map_or (λ l. is_of x (class_of typing l) ty) o false ≡ true
    by None none = absurd (lettered ls more types place ty has at none)
    by (Some l) same = there (is_of x (class_of typing l)) l ls more types place ty same at (each l)

pub result_alone : (x : ℕ) (op : Opcode) (results sources : List Llt) (place : ℕ) (ty : Llt) → accepts x op results sources ≡ true → slice_get results place ≡ Some ty → is_result_type x op place ty ≡ true
result_alone x op results sources place ty h at = by (typing_of op) h
  where
    by : (o : Option TypingData) → option_map_or (λ typing. are_typed x typing results sources) o false ≡ true
        → option_map_or (λ typing. is_typed_at x typing typing.results typing.more_results place ty) o true ≡ true
    by None _ = refl
    by (Some typing) typed =
        let parts = typed_parts x typing results sources typed in
        alone x typing typing.results typing.more_results results place ty parts.has_results parts.among_results at

pub source_alone : (x : ℕ) (op : Opcode) (results sources : List Llt) (place : ℕ) (ty : Llt) → accepts x op results sources ≡ true → slice_get sources place ≡ Some ty → is_source_type x op place ty ≡ true
source_alone x op results sources place ty h at = by (typing_of op) h
  where
    by : (o : Option TypingData) → option_map_or (λ typing. are_typed x typing results sources) o false ≡ true
        → option_map_or (λ typing. is_typed_at x typing typing.sources typing.more_sources place ty) o true ≡ true
    by None _ = refl
    by (Some typing) typed =
        let parts = typed_parts x typing results sources typed in
        alone x typing typing.sources typing.more_sources sources place ty parts.has_sources parts.among_sources at
