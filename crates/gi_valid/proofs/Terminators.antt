-- A formed terminator defines no virtual register: none of the rows of its opcode has one.
use Rattle.std.proofs.Common.{◌≡◌, Bool, true, false, cond, ◌&&◌, ◌||◌, List, [], ◌∷◌, Option, Some, None, ⊎_elim, refl, sym, ap, ap₂, ◌∙◌, subst}
use Rattle.std.proofs.lemmas.Bool.{or_parts, or_cases, and_parts, false_from_ne_true}
use Rattle.std.proofs.lemmas.Option.{none-some, same_Some}
use Rattle.std.specs.List.{list_any, list_all}
use Rattle.std.specs.Option.{option_map_or}
use Rattle.gi_mir.specs.Data.{InstrData}
use Rattle.gi_mir.specs.Formed.{is_def, admits, is_repeated, wanted_after, with_wanted, taken, fits, fits_one_of, has_access, is_in_range, is_formed}
use Rattle.gi_mir.specs.Row.{rows_of, access_of, is_terminator_op}
use Rattle.gi_mir.specs.declared.opcode.Opcode.{Opcode}
use Rattle.gi_mir.specs.declared.opcode.Opcode.TheVariants as op
use Rattle.gi_mir.specs.declared.operand.Operand.{Operand}
use Rattle.gi_mir.specs.declared.operand.Operand.TheVariants as operand
use Rattle.gi_mir.specs.declared.row.Form.{Form}
use Rattle.gi_mir.specs.declared.row.Form.TheVariants as form
use Rattle.gi_valid.proofs.Defining.{second_fails}

-- ══ Forms that no definition has ══

abbrev is_def_form : Form → Bool
is_def_form form.Def = true
is_def_form form.Results = true
is_def_form _ = false

no_form : (o : Operand) (f : Form) → is_def o ≡ true → is_def_form f ≡ false → admits f o ≡ false
no_form (operand.Def r k) form.Def d h = cc
no_form (operand.Def r k) form.Results d h = cc
no_form (operand.Def r k) _ d h = refl
no_form _ f d h = cc

none_taken : (o : Operand) (fs : List Form) → is_def o ≡ true → list_any is_def_form fs ≡ false → taken o fs ≡ None
none_taken o [] d h = refl
none_taken o (f ∷ fs) d h =
    let each : (is_def_form f ≡ false) × (list_any is_def_form fs ≡ false) = or_parts (is_def_form f) (list_any is_def_form fs) h in
    ap (λ t. cond t (Some (with_wanted (wanted_after f) fs)) (cond (is_repeated f) (taken o fs) None)) (no_form o f d each.0) ∙ by (is_repeated f) (none_taken o fs d each.1)
  where
    by : (t : Bool) → taken o fs ≡ None → cond t (taken o fs) None ≡ None
    by true none = none
    by false none = refl

wanted_free : (f : Form) (fs : List Form) → is_def_form f ≡ false → list_any is_def_form fs ≡ false → list_any is_def_form (with_wanted (wanted_after f) fs) ≡ false
wanted_free form.Results fs own h = cc
wanted_free _ fs own h = h

left_free : (o : Operand) (fs left : List Form) → list_any is_def_form fs ≡ false → taken o fs ≡ Some left → list_any is_def_form left ≡ false
left_free o [] left h so = absurd (none-some left so)
left_free o (f ∷ fs) left h so = by (admits f o) (is_repeated f) so (left_free o fs left each.1)
  where
    each : (is_def_form f ≡ false) × (list_any is_def_form fs ≡ false)
    each = or_parts (is_def_form f) (list_any is_def_form fs) h

    by : (t s : Bool) → cond t (Some (with_wanted (wanted_after f) fs)) (cond s (taken o fs) None) ≡ Some left → (taken o fs ≡ Some left → list_any is_def_form left ≡ false) → list_any is_def_form left ≡ false
    by true s so later = subst (λ l. list_any is_def_form l ≡ false) (same_Some (with_wanted (wanted_after f) fs) left so) (wanted_free f fs each.0 each.1)
    by false true so later = later so
    by false false so later = absurd (none-some left so)

none_among : (fs : List Form) (os : List Operand) → list_any is_def_form fs ≡ false → fits fs os ≡ true → list_any is_def os ≡ false
none_among fs [] h fit = refl
none_among fs (o ∷ os) h fit = by (taken o fs) refl fit (λ left. none_among left os)
  where
    by : (t : Option (List Form)) → taken o fs ≡ t → option_map_or (λ left. fits left os) t false ≡ true → ((left : List Form) → list_any is_def_form left ≡ false → fits left os ≡ true → list_any is_def os ≡ false)
        → (is_def o || list_any is_def os) ≡ false
    by None so fit rest = cc
    by (Some left) so fit rest =
        ap₂ (λ s t. s || t) (false_from_ne_true (is_def o) (λ d. none-some left (sym (none_taken o fs d h) ∙ so))) (rest left (left_free o fs left h so) fit)

none_in_rows : (rows : List (List Form)) (os : List Operand) → list_any (list_any is_def_form) rows ≡ false → fits_one_of rows os ≡ true → list_any is_def os ≡ false
none_in_rows [] os h fit = cc
none_in_rows (fs ∷ rows) os h fit =
    let each : (list_any is_def_form fs ≡ false) × (list_any (list_any is_def_form) rows ≡ false) = or_parts (list_any is_def_form fs) (list_any (list_any is_def_form) rows) h in
    ⊎_elim (λ here. none_among fs os each.0 here) (λ later. none_in_rows rows os each.1 later) (or_cases (fits fs os) (fits_one_of rows os) fit)

-- ══ Terminators ══

rows_free : (o : Opcode) → (is_terminator_op o && list_any (list_any is_def_form) (rows_of o)) ≡ false
rows_free op.Copy = refl
rows_free _ = refl

pub terminator_defines_none : (i : InstrData) → is_formed i ≡ true → is_terminator_op i.op ≡ true → list_any is_def i.operands ≡ false
unfolding is_formed
terminator_defines_none i formed ends =
    let row : Bool = fits_one_of (rows_of i.op) i.operands in
    let access : Bool = has_access (access_of i.op) i.mem in
    none_in_rows (rows_of i.op) i.operands (second_fails (is_terminator_op i.op) (list_any (list_any is_def_form) (rows_of i.op)) (rows_free i.op) ends) (and_parts row access (and_parts (row && access) (list_all is_in_range i.operands) formed).0).0
