-- Instructions that are formed: their definitions stand first, before operands that have the places of their names.
use Rattle.std.proofs.Common.{◌≡◌, ℕ, Bool, true, false, List, [], ◌∷◌, ◌++◌, Option, Some, None, refl, sym, ap, ◌∙◌, inl, inr}
use Rattle.std.specs.Prelude.{◌⊎◌, not, if◌then◌else◌}
use Rattle.std.specs.List.{list_all}
use Rattle.std.specs.Option.{option_map_or}
use Rattle.std.specs.Cmp.Derive.{both_true}
use Rattle.std.proofs.lemmas.Bool.{and_parts, or_cases, not-true, false≢true}
use Rattle.gi_mir.specs.declared.opcode.Opcode.{Opcode}
use Rattle.gi_mir.specs.declared.opcode.Opcode.TheVariants.{Copy}
use Rattle.gi_mir.specs.declared.operand.Operand.{Operand}
use Rattle.gi_mir.specs.declared.operand.Operand.TheVariants.{Def, PhysDef}
use Rattle.gi_mir.specs.declared.row.Form.{Form}
use Rattle.gi_mir.specs.declared.row.Form.TheVariants as form
use Rattle.gi_mir.specs.Formed.{admits, is_repeated, wanted_after, with_wanted, taken, fits, fits_one_of}
use Rattle.gi_mir.specs.Row.{rows_of}
use Rattle.gi_spelling.specs.Printed.{is_definition, definitions_of, sources_of}
use Rattle.gi_spelling.proofs.PrintedOperands.{name_in, placed_at}

-- ══ Definitions stand first ══

abbrev pub is_source : Operand → Bool
is_source operand = not (is_definition operand)

abbrev is_defining : Form → Bool
is_defining form.Def = true
is_defining form.PhysicalDef = true
is_defining form.Results = true
is_defining f = false

abbrev none_defines : List Form → Bool
none_defines forms = list_all (λ f. not (is_defining f)) forms

abbrev defines_first : List Form → Bool
defines_first [] = true
defines_first (f ∷ forms) = if is_defining f then defines_first forms else none_defines forms

rows_define : (op : Opcode) → list_all defines_first (rows_of op) ≡ true
rows_define Copy = refl
rows_define _ = refl

-- what a form admits
source_form : (f : Form) (x : Operand) → is_defining f ≡ false → admits f x ≡ true → is_source x ≡ true
source_form form.Def x other admitted = absurd (cc)
source_form form.PhysicalDef x other admitted = absurd (cc)
source_form form.Results x other admitted = absurd (cc)
source_form form.Use (Def reg kind) other admitted = absurd (cc)
source_form form.Use (PhysDef number) other admitted = absurd (cc)
source_form _ (Def reg kind) other admitted = absurd (false≢true admitted)
source_form _ (PhysDef number) other admitted = absurd (false≢true admitted)
source_form _ _ other admitted = refl

defined_form : (f : Form) (x : Operand) → is_defining f ≡ true → admits f x ≡ true → is_definition x ≡ true
defined_form form.Def (Def reg kind) defines admitted = refl
defined_form form.Def (PhysDef number) defines admitted = refl
defined_form form.Def _ defines admitted = absurd (false≢true admitted)
defined_form form.PhysicalDef (Def reg kind) defines admitted = refl
defined_form form.PhysicalDef (PhysDef number) defines admitted = refl
defined_form form.PhysicalDef _ defines admitted = absurd (false≢true admitted)
defined_form form.Results (Def reg kind) defines admitted = refl
defined_form form.Results (PhysDef number) defines admitted = refl
defined_form form.Results _ defines admitted = absurd (false≢true admitted)
defined_form _ x defines admitted = absurd (false≢true defines)

still_none : (f : Form) (forms : List Form) → is_defining f ≡ false → none_defines forms ≡ true → none_defines (with_wanted (wanted_after f) forms) ≡ true
still_none form.Parts forms other none = none
still_none form.Entry forms other none = none
still_none form.EntryBlock forms other none = none
still_none form.Implicits forms other none = none
still_none form.ImplicitUses forms other none = none
still_none form.Results forms other none = absurd (cc)
still_none _ forms other none = none

still_first : (f : Form) (forms : List Form) → is_defining f ≡ true → defines_first forms ≡ true → defines_first (with_wanted (wanted_after f) forms) ≡ true
still_first form.Def forms defines first = first
still_first form.PhysicalDef forms defines first = first
still_first form.Results forms defines first = first
still_first _ forms defines first = absurd (false≢true defines)

-- the forms that are left where none defines
record LeftNone (x : Operand) (left : List Form) : Type 0 where
  source : is_source x ≡ true
  none : none_defines left ≡ true

taken_none : (x : Operand) (forms left : List Form) → none_defines forms ≡ true → taken x forms ≡ Some left → LeftNone x left
taken_none x [] left none is = absurd (cc)
taken_none x (f ∷ forms) left none is =
    let parts = and_parts (not (is_defining f)) (none_defines forms) none in
    chosen (admits f x) refl (not-true (is_defining f) parts.0) parts.1 (is_repeated f) is (taken_none x forms left parts.1)
  where
    chosen : (admitted : Bool) → admits f x ≡ admitted → is_defining f ≡ false → none_defines forms ≡ true → (repeated : Bool)
        → (if admitted then Some (with_wanted (wanted_after f) forms) else (if repeated then taken x forms else None)) ≡ Some left
        → (taken x forms ≡ Some left → LeftNone x left) → LeftNone x left
    chosen true a other rest repeated e later =
        let same : with_wanted (wanted_after f) forms ≡ left = cc in
        record { source = source_form f x other a; none = ap none_defines (sym same) ∙ still_none f forms other rest }
    chosen false a other rest true e later = later e
    chosen false a other rest false e later = absurd (cc)

sources_none : (forms : List Form) (operands : List Operand) → none_defines forms ≡ true → fits forms operands ≡ true → list_all is_source operands ≡ true
sources_none forms [] none fit = refl
sources_none forms (x ∷ operands) none fit = chosen (taken x forms) refl fit (λ left rest fit. sources_none left operands rest fit)
  where
    chosen : (left : Option (List Form)) → taken x forms ≡ left → option_map_or (λ left. fits left operands) left false ≡ true
        → ((left : List Form) → none_defines left ≡ true → fits left operands ≡ true → list_all is_source operands ≡ true) → list_all is_source (x ∷ operands) ≡ true
    chosen None is fit later = absurd (false≢true fit)
    chosen (Some left) is fit later =
        let one = taken_none x forms left none is in
        both_true one.source (later left one.none fit)

-- the forms that are left where definitions may stand
LeftFirst : (x : Operand) (left : List Form) → Type 0
LeftFirst x left = LeftNone x left ⊎ ((is_definition x ≡ true) × (defines_first left ≡ true))

taken_first : (x : Operand) (forms left : List Form) → defines_first forms ≡ true → taken x forms ≡ Some left → LeftFirst x left
unfolding LeftFirst
taken_first x [] left first is = absurd (cc)
taken_first x (f ∷ forms) left first is = chosen (is_defining f) refl first (admits f x) refl (is_repeated f) is (taken_first x forms left)
  where
    chosen : (defining : Bool) → is_defining f ≡ defining → (if defining then defines_first forms else none_defines forms) ≡ true → (admitted : Bool) → admits f x ≡ admitted → (repeated : Bool)
        → (if admitted then Some (with_wanted (wanted_after f) forms) else (if repeated then taken x forms else None)) ≡ Some left
        → (defines_first forms ≡ true → taken x forms ≡ Some left → LeftNone x left ⊎ ((is_definition x ≡ true) × (defines_first left ≡ true)))
        → LeftNone x left ⊎ ((is_definition x ≡ true) × (defines_first left ≡ true))
    chosen true d rest true a repeated e later =
        let same : with_wanted (wanted_after f) forms ≡ left = cc in
        inr (defined_form f x d a, ap defines_first (sym same) ∙ still_first f forms d rest)
    chosen true d rest false a true e later = later rest e
    chosen true d rest false a false e later = absurd (cc)
    chosen false d rest true a repeated e later =
        let same : with_wanted (wanted_after f) forms ≡ left = cc in
        inl (record { source = source_form f x d a; none = ap none_defines (sym same) ∙ still_none f forms d rest })
    chosen false d rest false a true e later = inl (taken_none x forms left rest e)
    chosen false d rest false a false e later = absurd (cc)

sources_past : (x : Operand) (operands : List Operand) → is_definition x ≡ true → sources_of (x ∷ operands) ≡ sources_of operands
sources_past x operands defines = rw defines refl

sources_here : (x : Operand) (operands : List Operand) → is_source x ≡ true → sources_of (x ∷ operands) ≡ x ∷ operands
sources_here x operands source = rw (not-true (is_definition x) source) refl

sources_first : (forms : List Form) (operands : List Operand) → defines_first forms ≡ true → fits forms operands ≡ true → list_all is_source (sources_of operands) ≡ true
unfolding LeftFirst
sources_first forms [] first fit = refl
sources_first forms (x ∷ operands) first fit = chosen (taken x forms) refl fit (λ left rest fit. sources_first left operands rest fit)
  where
    by_left : (left : List Form) → fits left operands ≡ true → LeftNone x left ⊎ ((is_definition x ≡ true) × (defines_first left ≡ true))
        → ((left : List Form) → defines_first left ≡ true → fits left operands ≡ true → list_all is_source (sources_of operands) ≡ true) → list_all is_source (sources_of (x ∷ operands)) ≡ true
    by_left left fit (inl one) later = ap (list_all is_source) (sources_here x operands one.source) ∙ both_true one.source (sources_none left operands one.none fit)
    by_left left fit (inr both) later = ap (list_all is_source) (sources_past x operands both.0) ∙ later left both.1 fit

    chosen : (left : Option (List Form)) → taken x forms ≡ left → option_map_or (λ left. fits left operands) left false ≡ true
        → ((left : List Form) → defines_first left ≡ true → fits left operands ≡ true → list_all is_source (sources_of operands) ≡ true) → list_all is_source (sources_of (x ∷ operands)) ≡ true
    chosen None is fit later = absurd (false≢true fit)
    chosen (Some left) is fit later = by_left left fit (taken_first x forms left first is) later

sources_one_of : (rows : List (List Form)) (operands : List Operand) → list_all defines_first rows ≡ true → fits_one_of rows operands ≡ true → list_all is_source (sources_of operands) ≡ true
sources_one_of [] operands first fit = absurd (false≢true fit)
sources_one_of (forms ∷ rows) operands first fit =
    let parts = and_parts (defines_first forms) (list_all defines_first rows) first in
    chosen (or_cases (fits forms operands) (fits_one_of rows operands) fit) parts.0 (sources_one_of rows operands parts.1)
  where
    chosen : (fits forms operands ≡ true) ⊎ (fits_one_of rows operands ≡ true) → defines_first forms ≡ true → (fits_one_of rows operands ≡ true → list_all is_source (sources_of operands) ≡ true)
        → list_all is_source (sources_of operands) ≡ true
    chosen (inl here) one later = sources_first forms operands one here
    chosen (inr there) one later = later there

-- what follows the definitions of an instruction that is formed defines nothing
pub sources_define_nothing : (op : Opcode) (operands : List Operand) → fits_one_of (rows_of op) operands ≡ true → list_all is_source (sources_of operands) ≡ true
sources_define_nothing op operands fit = sources_one_of (rows_of op) operands (rows_define op) fit

-- the definitions, and what follows them
pub definitions_define : (operands : List Operand) → list_all is_definition (definitions_of operands) ≡ true
definitions_define [] = refl
definitions_define (x ∷ operands) = chosen (is_definition x) refl (definitions_define operands)
  where
    chosen : (defines : Bool) → is_definition x ≡ defines → list_all is_definition (definitions_of operands) ≡ true
        → list_all is_definition (if defines then x ∷ definitions_of operands else []) ≡ true
    chosen true is later = both_true is later
    chosen false is later = refl

pub parts_whole : (operands : List Operand) → definitions_of operands ++ sources_of operands ≡ operands
parts_whole [] = refl
parts_whole (x ∷ operands) = chosen (is_definition x) (parts_whole operands)
  where
    chosen : (defines : Bool) → definitions_of operands ++ sources_of operands ≡ operands
        → (if defines then x ∷ definitions_of operands else []) ++ (if defines then sources_of operands else x ∷ operands) ≡ x ∷ operands
    chosen true later = ap (λ more. x ∷ more) later
    chosen false later = refl

-- ══ Operands with the places of their names ══

-- the places of names one after the other
abbrev pub first_place : List ℕ → ℕ
first_place [] = 0
first_place (place ∷ places) = place

abbrev pub places_after : Option (List ℕ) → List ℕ → List ℕ
places_after None places = places
places_after (Some name) [] = []
places_after (Some name) (place ∷ places) = places

-- operands with the places of their names for the numbers
abbrev pub placed_operands : (names : List (List ℕ)) (places : List ℕ) → List Operand → List Operand
placed_operands names places [] = []
placed_operands names places (operand ∷ operands) = placed_at (first_place places) operand ∷ placed_operands names (places_after (name_in names operand) places) operands

-- definitions have no names
pub definitions_placed : (names : List (List ℕ)) (places : List ℕ) (operands : List Operand)
    → definitions_of operands ++ placed_operands names places (sources_of operands) ≡ placed_operands names places operands
definitions_placed names places [] = refl
definitions_placed names places (Def reg kind ∷ operands) = ap (λ more. Def reg kind ∷ more) (definitions_placed names places operands)
definitions_placed names places (PhysDef number ∷ operands) = ap (λ more. PhysDef number ∷ more) (definitions_placed names places operands)
definitions_placed names places (_ ∷ operands) = refl
