-- A formed instruction has no more registers than its opcode's typing has letters.
use Rattle.std.proofs.Common.{◌≡◌, ℕ, ◌+◌, ◌≤◌, Bool, true, false, cond, not, ◌&&◌, ◌||◌, nat_le, List, [], ◌∷◌, Option, Some, None, length, ⊎_elim, refl, sym, ap, ap₂, ◌∙◌, subst, arith, leb-true, le-leb, is_some}
use Rattle.std.proofs.lemmas.Bool.{and_parts, or_cases, or_left, or_parts, or_right, not-true}
use Rattle.std.specs.List.{list_all, list_any}
use Rattle.std.specs.Option.{option_map_or}
use Rattle.gi_mir.specs.Formed.{admits, fits, fits_one_of, is_def, is_repeated, is_use, taken, wanted_after, with_wanted}
use Rattle.gi_mir.specs.Row.{rows_of, typing_of}
use Rattle.gi_mir.specs.Typings.{TypingData}
use Rattle.gi_mir.specs.declared.opcode.Opcode.{Opcode}
use Rattle.gi_mir.specs.declared.opcode.Opcode.TheVariants as op
use Rattle.gi_mir.specs.declared.operand.Operand.{Operand}
use Rattle.gi_mir.specs.declared.operand.Operand.TheVariants as operand
use Rattle.gi_mir.specs.declared.row.Form.{Form}
use Rattle.gi_mir.specs.declared.row.Form.TheVariants as form
use Rattle.gi_mir.specs.declared.typing.Letter.{Letter}
use Rattle.gi_meaning.specs.InRow.{results_in, sources_in}

-- ══ Operands and forms ══

-- how many pass a test
abbrev number : {X : Type 0} (test : X → Bool) → List X → ℕ
number test [] = 0
number test (x ∷ xs) = cond (test x) 1 0 + number test xs

-- which operands are counted, which forms take one of them, and which any number
record Counting : Type 0 where
  counts : Operand → Bool
  one : Form → Bool
  many : Form → Bool

-- a form takes an operand that counts as one alone, and is followed by none that takes more
record IsCounting (c : Counting) : Type 0 where
  takes : (f : Form) (x : Operand) → c.many f ≡ false → admits f x ≡ true → c.counts x ≡ true → (c.one f ≡ true) × (wanted_after f ≡ None)
  wants : (f g : Form) → c.many f ≡ false → wanted_after f ≡ Some g → (c.one g ≡ false) × (c.many g ≡ false)

wanted_counts : (c : Counting) → IsCounting c → (f : Form) (fs : List Form) → c.many f ≡ false → list_any c.many fs ≡ false → (w : Option Form) → wanted_after f ≡ w → (number c.one (with_wanted w fs) ≡ number c.one fs) × (list_any c.many (with_wanted w fs) ≡ false)
wanted_counts c is f fs few rest None so = (refl, rest)
wanted_counts c is f fs few rest (Some g) so =
    let each = is.wants f g few so in (ap (λ t. cond t 1 0 + number c.one fs) each.0 ∙ zero_more (number c.one fs), ap₂ (λ a b. a || b) each.1 rest)
  where
    zero_more : (n : ℕ) → 0 + n ≡ n
    zero_more n = omega arith

taken_counts : (c : Counting) → IsCounting c → (x : Operand) (fs : List Form) → list_any c.many fs ≡ false → (left : List Form) → taken x fs ≡ Some left → (cond (c.counts x) 1 0 + number c.one left ≤ number c.one fs) × (list_any c.many left ≡ false)
taken_counts c is x [] few left h = cc
taken_counts c is x (f ∷ fs) few left h =
    let each = or_parts (c.many f) (list_any c.many fs) few in by (admits f x) (is_repeated f) refl h each.0 each.1 (wanted_counts c is f fs each.0 each.1 (wanted_after f) refl) (λ more. taken_counts c is x fs each.1 left more)
  where
    more_or_same : (t : Bool) (n : ℕ) → n ≤ cond t 1 0 + n
    more_or_same true n = omega arith
    more_or_same false n = omega arith

    first : (t : Bool) → c.counts x ≡ t → admits f x ≡ true → c.many f ≡ false → number c.one (with_wanted (wanted_after f) fs) ≡ number c.one fs → cond t 1 0 + number c.one (with_wanted (wanted_after f) fs) ≤ cond (c.one f) 1 0 + number c.one fs
    first true so admitted few same =
        let own = is.takes f x few admitted so in let one : ◌≡◌ {A = ℕ} (cond (c.one f) 1 0) 1 = ap (λ t. cond t 1 0) own.0 in omega (arith, one, same)
    first false so admitted few same = let less = more_or_same (c.one f) (number c.one fs) in omega (arith, less, same)

    by : (t r : Bool) → admits f x ≡ t → cond t (Some (with_wanted (wanted_after f) fs)) (cond r (taken x fs) None) ≡ Some left → c.many f ≡ false → list_any c.many fs ≡ false
        → (number c.one (with_wanted (wanted_after f) fs) ≡ number c.one fs) × (list_any c.many (with_wanted (wanted_after f) fs) ≡ false)
        → (taken x fs ≡ Some left → (cond (c.counts x) 1 0 + number c.one left ≤ number c.one fs) × (list_any c.many left ≡ false))
        → (cond (c.counts x) 1 0 + number c.one left ≤ cond (c.one f) 1 0 + number c.one fs) × (list_any c.many left ≡ false)
    by true r admitted h few rest wanted later =
        let same : with_wanted (wanted_after f) fs ≡ left = cc in (
          subst (λ l. cond (c.counts x) 1 0 + number c.one l ≤ cond (c.one f) 1 0 + number c.one fs) same (first (c.counts x) refl admitted few wanted.0),
          subst (λ l. list_any c.many l ≡ false) same wanted.1,
        )
    by false true admitted h few rest wanted later = let all = later h in let less = more_or_same (c.one f) (number c.one fs) in (omega (arith, all.0, less), all.1)
    by false false admitted h few rest wanted later = cc

fits_counts : (c : Counting) → IsCounting c → (fs : List Form) (os : List Operand) → list_any c.many fs ≡ false → fits fs os ≡ true → number c.counts os ≤ number c.one fs
fits_counts c is fs [] few h = omega arith
fits_counts c is fs (x ∷ os) few h = by (taken x fs) refl h (λ left. fits_counts c is left os)
  where
    by : (o : Option (List Form)) → taken x fs ≡ o → option_map_or (λ left. fits left os) o false ≡ true → ((left : List Form) → list_any c.many left ≡ false → fits left os ≡ true → number c.counts os ≤ number c.one left)
        → cond (c.counts x) 1 0 + number c.counts os ≤ number c.one fs
    by None so h rest = cc
    by (Some left) so h rest = let first = taken_counts c is x fs few left so in let later = rest left first.1 h in omega (arith, first.0, later)

-- ══ Results, and registers that are read ══

abbrev takes_result : Form → Bool
takes_result form.Def = true
takes_result _ = false

abbrev takes_results : Form → Bool
takes_results form.Results = true
takes_results _ = false

abbrev takes_source : Form → Bool
takes_source form.Use = true
takes_source form.TypedUse = true
takes_source form.Source = true
takes_source form.Address = true
takes_source _ = false

abbrev takes_sources : Form → Bool
takes_sources form.Parts = true
takes_sources form.Entry = true
takes_sources form.EntryBlock = true
takes_sources _ = false

abbrev results_counting : Counting
results_counting = record { counts = is_def; one = takes_result; many = takes_results }

abbrev sources_counting : Counting
sources_counting = record { counts = is_use; one = takes_source; many = takes_sources }

results_counted : IsCounting results_counting
results_counted = record { takes = takes; wants = wants }
  where
    takes : (f : Form) (x : Operand) → takes_results f ≡ false → admits f x ≡ true → is_def x ≡ true → (takes_result f ≡ true) × (wanted_after f ≡ None)
    takes f (operand.Def r k) few admitted own = one f few admitted
      where
        one : (f : Form) → takes_results f ≡ false → admits f (operand.Def r k) ≡ true → (takes_result f ≡ true) × (wanted_after f ≡ None)
        one form.Def few admitted = (refl, refl)
        one form.Results few admitted = cc
        one _ few admitted = cc
    takes f _ few admitted own = cc

    wants : (f g : Form) → takes_results f ≡ false → wanted_after f ≡ Some g → (takes_result g ≡ false) × (takes_results g ≡ false)
    wants f form.Def few wanted = absurd (none f few wanted)
      where
        none : (f : Form) → takes_results f ≡ false → wanted_after f ≡ Some form.Def → ⊥
        none form.Def few wanted = cc
        none _ few wanted = cc
    wants f form.Results few wanted = absurd (none f few wanted)
      where
        none : (f : Form) → takes_results f ≡ false → wanted_after f ≡ Some form.Results → ⊥
        none form.Results few wanted = cc
        none _ few wanted = cc
    wants f _ few wanted = (refl, refl)

sources_counted : IsCounting sources_counting
sources_counted = record { takes = takes; wants = wants }
  where
    takes : (f : Form) (x : Operand) → takes_sources f ≡ false → admits f x ≡ true → is_use x ≡ true → (takes_source f ≡ true) × (wanted_after f ≡ None)
    takes f (operand.Use r) few admitted own = one f few admitted
      where
        one : (f : Form) → takes_sources f ≡ false → admits f (operand.Use r) ≡ true → (takes_source f ≡ true) × (wanted_after f ≡ None)
        one form.Use few admitted = (refl, refl)
        one form.TypedUse few admitted = (refl, refl)
        one form.Source few admitted = (refl, refl)
        one form.Address few admitted = (refl, refl)
        one _ few admitted = cc
    takes f _ few admitted own = cc

    wants : (f g : Form) → takes_sources f ≡ false → wanted_after f ≡ Some g → (takes_source g ≡ false) × (takes_sources g ≡ false)
    wants form.Results g few wanted = let same : form.Results ≡ g = cc in subst (λ k. (takes_source k ≡ false) × (takes_sources k ≡ false)) same (refl, refl)
    wants form.Implicits g few wanted = let same : form.Implicits ≡ g = cc in subst (λ k. (takes_source k ≡ false) × (takes_sources k ≡ false)) same (refl, refl)
    wants form.ImplicitUses g few wanted = let same : form.ImplicitUses ≡ g = cc in subst (λ k. (takes_source k ≡ false) × (takes_sources k ≡ false)) same (refl, refl)
    wants _ g few wanted = cc

-- ══ Each row agrees with its typing ══

-- there is a letter for each register, as many as a row takes
abbrev has_letters_for : (c : Counting) → List Letter → (more : Option Letter) → List Form → Bool
has_letters_for c ls more fs = is_some more || (not (list_any c.many fs) && nat_le (number c.one fs) (length ls))

abbrev agrees : TypingData → List Form → Bool
agrees typing fs = has_letters_for results_counting typing.results typing.more_results fs && has_letters_for sources_counting typing.sources typing.more_sources fs

all_agree : (o : Opcode) → option_map_or (λ typing. list_all (agrees typing) (rows_of o)) (typing_of o) true ≡ true
all_agree op.Copy = refl
all_agree _ = refl

-- ══ An instruction ══

results_many : (os : List Operand) → length (results_in os) ≡ number is_def os
results_many [] = refl
results_many (operand.Def r kind ∷ os) = let rest : length (results_in os) ≡ number is_def os = results_many os in omega (arith, rest)
results_many (operand.Use r ∷ os) = let rest : length (results_in os) ≡ number is_def os = results_many os in omega (arith, rest)
results_many (_ ∷ os) = let rest : length (results_in os) ≡ number is_def os = results_many os in omega (arith, rest)

sources_many : (os : List Operand) → length (sources_in os) ≡ number is_use os
sources_many [] = refl
sources_many (operand.Use r ∷ os) = let rest : length (sources_in os) ≡ number is_use os = sources_many os in omega (arith, rest)
sources_many (_ ∷ os) = let rest : length (sources_in os) ≡ number is_use os = sources_many os in omega (arith, rest)

-- there is a letter for each of its registers
pub record HasLetters (typing : TypingData) (os : List Operand) : Type 0 where
  pub results : (is_some typing.more_results || nat_le (length (results_in os)) (length typing.results)) ≡ true
  pub sources : (is_some typing.more_sources || nat_le (length (sources_in os)) (length typing.sources)) ≡ true

letters_for : (c : Counting) → IsCounting c → (ls : List Letter) (more : Option Letter) (fs : List Form) (os : List Operand) → has_letters_for c ls more fs ≡ true → fits fs os ≡ true → (is_some more || nat_le (number c.counts os) (length ls)) ≡ true
letters_for c is ls more fs os has fit =
    ⊎_elim (λ any. or_left (is_some more) _ any)
    (λ few.
    let each = and_parts (not (list_any c.many fs)) (nat_le (number c.one fs) (length ls)) few in
    let less : number c.counts os ≤ number c.one fs = fits_counts c is fs os (not-true (list_any c.many fs) each.0) fit in
    let room : number c.one fs ≤ length ls = leb-true (number c.one fs) (length ls) each.1 in
    let all : number c.counts os ≤ length ls = omega (arith, less, room) in
    or_right (is_some more) (nat_le (number c.counts os) (length ls)) (le-leb (number c.counts os) (length ls) all))
    (or_cases (is_some more) (not (list_any c.many fs) && nat_le (number c.one fs) (length ls)) has)

row_letters : (typing : TypingData) (fs : List Form) (os : List Operand) → agrees typing fs ≡ true → fits fs os ≡ true → HasLetters typing os
row_letters typing fs os agree fit =
    let each = and_parts (has_letters_for results_counting typing.results typing.more_results fs) (has_letters_for sources_counting typing.sources typing.more_sources fs) agree in
    record {
      results = ap (λ n. is_some typing.more_results || nat_le n (length typing.results)) (results_many os) ∙ letters_for results_counting results_counted typing.results typing.more_results fs os each.0 fit;
      sources = ap (λ n. is_some typing.more_sources || nat_le n (length typing.sources)) (sources_many os) ∙ letters_for sources_counting sources_counted typing.sources typing.more_sources fs os each.1 fit;
    }

rows_letters : (typing : TypingData) (rows : List (List Form)) (os : List Operand) → list_all (agrees typing) rows ≡ true → fits_one_of rows os ≡ true → HasLetters typing os
rows_letters typing [] os agree fit = cc
rows_letters typing (fs ∷ rows) os agree fit =
    let each = and_parts (agrees typing fs) (list_all (agrees typing) rows) agree in
    ⊎_elim (λ here. row_letters typing fs os each.0 here) (λ later. rows_letters typing rows os each.1 later) (or_cases (fits fs os) (fits_one_of rows os) fit)

pub has_letters : (o : Opcode) (typing : TypingData) (os : List Operand) → typing_of o ≡ Some typing → fits_one_of (rows_of o) os ≡ true → HasLetters typing os
has_letters o typing os so fit = rows_letters typing (rows_of o) os (sym (ap (λ t. option_map_or (λ typing. list_all (agrees typing) (rows_of o)) t true) so) ∙ all_agree o) fit
