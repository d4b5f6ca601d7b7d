-- In a valid function of formed instructions constants are in range and as wide as their registers.
use Rattle.std.proofs.Common.{◌≡◌, ℕ, ◌*◌, ◌≤◌, ◌<◌, ◌^◌, Bool, true, false, cond, not, ◌&&◌, ◌||◌, ◌==◌, nat_lt, nat_le, List, [], ◌∷◌, Option, Some, None, ◌⊎◌, inl, inr, ⊎_elim, refl, sym, ap, ap₂, ◌∙◌, subst, arith, leb-true, ltb-true}
use Rattle.std.specs.Prelude.{is_some}
use Rattle.std.proofs.lemmas.Bool.{or_cases, or_parts, and_parts, and_from, eqb-true, eq-eqb, false_from_ne_true}
use Rattle.std.specs.List.{list_all, list_any}
use Rattle.std.specs.Option.{option_map_or}
use Rattle.gi_llt.specs.Llt.{width_of}
use Rattle.gi_llt.specs.declared.Llt.{Llt}
use Rattle.gi_llt.specs.declared.Llt.TheVariants.{Scalar, Pointer}
use Rattle.gi_mir.specs.Accepted.{is_constant_form}
use Rattle.gi_mir.specs.Data.{InstrData, FunctionData}
use Rattle.gi_mir.specs.Edit.{all_instrs}
use Rattle.gi_mir.specs.Formed.{admits, fits, fits_one_of, has_access, is_constant, is_constant_in_range, is_formed, is_in_range, is_repeated, taken, wanted_after, with_wanted}
use Rattle.gi_mir.specs.Registers.{kind_of, type_of_kind}
use Rattle.gi_mir.specs.Row.{access_of, rows_of, typing_of}
use Rattle.gi_mir.specs.Types.{is_any}
use Rattle.gi_mir.specs.Typings.{no_sources}
use Rattle.gi_mir.specs.declared.opcode.Opcode.{Opcode}
use Rattle.gi_mir.specs.declared.opcode.Opcode.TheVariants as op
use Rattle.gi_mir.specs.declared.operand.Kind.{Kind}
use Rattle.gi_mir.specs.declared.operand.Kind.TheVariants as kinds
use Rattle.gi_mir.specs.declared.operand.Operand.{Operand}
use Rattle.gi_mir.specs.declared.operand.Operand.TheVariants as operand
use Rattle.gi_mir.specs.declared.row.Form.{Form}
use Rattle.gi_mir.specs.declared.row.Form.TheVariants as form
use Rattle.gi_mir.specs.declared.typing.Class.TheVariants as class
use Rattle.gi_meaning.specs.Runs.{width_of_kind}
use Rattle.gi_refine.specs.RuleUse.{width_in}
use Rattle.gi_valid.specs.Typing.{Typed, is_as_wide, is_constant_op, meets, type_in, unmet, unsized}
use Rattle.gi_valid.specs.Valid.{IsValid}
use Rattle.gi_valid.proofs.Suited.{IsSuited, suited}
use Rattle.gi_change_valid.specs.Rewriting.{IsOneOf}
use Rattle.gi_change_valid.proofs.Sources.{one_passes}
use Rattle.gi_change_valid.proofs.Valid.{instr_met}
use Rattle.gi_change_refines.specs.Sized.{are_formed, are_sized, is_sized}
use Rattle.gi_change_refines.specs.Typed.{has_type, have_types}

-- ══ Rows without a constant ══

no_form : (o : Operand) (f : Form) → is_constant o ≡ true → is_constant_form f ≡ false → admits f o ≡ false
no_form (operand.Constant bits value) form.Constant c h = cc
no_form (operand.Constant bits value) _ c h = refl
no_form _ f c h = cc

none_taken : (o : Operand) (fs : List Form) → is_constant o ≡ true → list_any is_constant_form fs ≡ false → taken o fs ≡ None
none_taken o [] c h = refl
none_taken o (f ∷ fs) c h =
    let each : (is_constant_form f ≡ false) × (list_any is_constant_form fs ≡ false) = or_parts (is_constant_form f) (list_any is_constant_form fs) h in
    ap (λ t. cond t (Some (with_wanted (wanted_after f) fs)) (cond (is_repeated f) (taken o fs) None)) (no_form o f c each.0) ∙ by (is_repeated f) (none_taken o fs c each.1)
  where
    by : (t : Bool) → taken o fs ≡ None → cond t (taken o fs) None ≡ None
    by true none = none
    by false none = refl

wanted_free : (f : Form) (fs : List Form) → list_any is_constant_form fs ≡ false → list_any is_constant_form (with_wanted (wanted_after f) fs) ≡ false
wanted_free form.Results fs h = h
wanted_free _ fs h = h

left_free : (o : Operand) (fs left : List Form) → list_any is_constant_form fs ≡ false → taken o fs ≡ Some left → list_any is_constant_form left ≡ false
left_free o [] left h so = cc
left_free o (f ∷ fs) left h so = by (admits f o) (is_repeated f) so (λ later. left_free o fs left each.1 later)
  where
    each : (is_constant_form f ≡ false) × (list_any is_constant_form fs ≡ false)
    each = or_parts (is_constant_form f) (list_any is_constant_form fs) h

    by : (t s : Bool) → cond t (Some (with_wanted (wanted_after f) fs)) (cond s (taken o fs) None) ≡ Some left → (taken o fs ≡ Some left → list_any is_constant_form left ≡ false) → list_any is_constant_form left ≡ false
    by true s so later = let same : with_wanted (wanted_after f) fs ≡ left = cc in subst (λ l. list_any is_constant_form l ≡ false) same (wanted_free f fs each.1)
    by false true so later = later so
    by false false so later = cc

none_among : (fs : List Form) (os : List Operand) → list_any is_constant_form fs ≡ false → fits fs os ≡ true → list_any is_constant os ≡ false
none_among fs [] h fit = refl
none_among fs (o ∷ os) h fit = by (taken o fs) refl fit (λ left free. none_among left os free)
  where
    none_some : (left : List Form) → None ≡ Some left → ⊥
    none_some left h = cc

    by : (t : Option (List Form)) → taken o fs ≡ t → option_map_or (λ left. fits left os) t false ≡ true → ((left : List Form) → list_any is_constant_form left ≡ false → fits left os ≡ true → list_any is_constant os ≡ false)
        → (is_constant o || list_any is_constant os) ≡ false
    by None so fit rest = cc
    by (Some left) so fit rest =
        ap₂ (λ s t. s || t) (false_from_ne_true (is_constant o) (λ c. none_some left (sym (none_taken o fs c h) ∙ so))) (rest left (left_free o fs left h so) fit)

none_in_rows : (rows : List (List Form)) (os : List Operand) → list_any (λ forms. list_any is_constant_form forms) rows ≡ false → fits_one_of rows os ≡ true → list_any is_constant os ≡ false
none_in_rows [] os h fit = cc
none_in_rows (fs ∷ rows) os h fit =
    let each : (list_any is_constant_form fs ≡ false) × (list_any (λ forms. list_any is_constant_form forms) rows ≡ false) = or_parts (list_any is_constant_form fs) (list_any (λ forms. list_any is_constant_form forms) rows) h in
    ⊎_elim (λ here. none_among fs os each.0 here) (λ later. none_in_rows rows os each.1 later) (or_cases (fits fs os) (fits_one_of rows os) fit)

-- G_CONSTANT alone has one
rows_free : (o : Opcode) → is_constant_op o ≡ false → list_any (λ forms. list_any is_constant_form forms) (rows_of o) ≡ false
rows_free op.GenericConstant h = cc
rows_free _ h = refl

sized_other : (width : ℕ → ℕ) (o : Opcode) (os : List Operand) → is_constant_op o ≡ false → list_any is_constant os ≡ false → is_sized width o os ≡ true
sized_other width op.GenericConstant os h none = cc
sized_other width _ os h none = ap not none

-- ══ A constant ══

narrow : (x : ℕ) (ty : Llt) → x ≤ 64 → is_any x ty ≡ true → width_of x ty ≤ 128
narrow x (Scalar n) small any = let within : n ≤ 2 * x = leb-true n (2 * x) (and_parts (nat_lt 0 n) (nat_le n (2 * x)) any).1 in omega (arith, within, small)
narrow x Pointer small any = omega (arith, small)

pub holds : (t : Bool) (r : ℕ) → cond t None (Some r) ≡ None → t ≡ true
holds true r h = refl
holds false r h = cc

bare : (t : Bool) → (((t && true) && true) && true) ≡ true → t ≡ true
bare true h = refl
bare false h = cc

type_sized : (x bits value r : ℕ) (ty : Llt) → x ≤ 64 → cond (meets x (no_sources class.Any) (Some ty ∷ []) []) None (Some r) ≡ None → cond (is_as_wide x bits (Some ty)) None (Some r) ≡ None → is_constant_in_range bits value ≡ true
    → ((bits == width_of x ty) && nat_lt value (2 ^ bits)) ≡ true
type_sized x bits value r ty small met sized range =
    let wide : width_of x ty ≡ bits = eqb-true (width_of x ty) bits (holds (width_of x ty == bits) r sized) in
    let within : width_of x ty ≤ 128 = narrow x ty small (bare (is_any x ty) (holds (((is_any x ty && true) && true) && true) r met)) in
    and_from (bits == width_of x ty) (nat_lt value (2 ^ bits)) (eq-eqb bits (width_of x ty) (sym wide))
    (⊎_elim (λ past. absurd (over (subst (λ n. n ≤ 128) wide within) (ltb-true 128 bits past))) (λ below. below) (or_cases (nat_lt 128 bits) (nat_lt value (2 ^ bits)) range))
  where
    over : bits ≤ 128 → 128 < bits → ⊥
    over most past = omega (arith, most, past)

kind_sized : (x bits value r : ℕ) (kind : Kind) → x ≤ 64 → is_some (type_of_kind kind) ≡ true → cond (meets x (no_sources class.Any) (type_of_kind kind ∷ []) []) None (Some r) ≡ None
    → cond (is_as_wide x bits (type_of_kind kind)) None (Some r) ≡ None → is_constant_in_range bits value ≡ true → ((bits == width_of_kind x kind) && nat_lt value (2 ^ bits)) ≡ true
kind_sized x bits value r (kinds.Generic ty) small some met sized range = type_sized x bits value r ty small met sized range
kind_sized x bits value r (kinds.Banked ty) small some met sized range = type_sized x bits value r ty small met sized range
kind_sized x bits value r kinds.Class small some met sized range = cc

constant_sized : (x : ℕ) (f : FunctionData) (os : List Operand) → x ≤ 64 → fits (form.Def ∷ form.Constant ∷ []) os ≡ true → list_all is_in_range os ≡ true → list_all (has_type f) os ≡ true
    → unmet x (type_in Typed f) (typing_of op.GenericConstant) os ≡ None → unsized x (type_in Typed f) os ≡ None → is_sized (width_in x f) op.GenericConstant os ≡ true
constant_sized x f [] small fit range owned met sized = cc
constant_sized x f (operand.Def r kind ∷ []) small fit range owned met sized = cc
constant_sized x f (operand.Def r kind ∷ operand.Constant bits value ∷ []) small fit range owned met sized =
    kind_sized x bits value r.0 (kind_of f r.0) small (and_parts (is_some (type_of_kind (kind_of f r.0))) (list_all (has_type f) (operand.Constant bits value ∷ [])) owned).0 met sized
    (and_parts (is_constant_in_range bits value) true range).0
constant_sized x f (operand.Def r kind ∷ operand.Constant bits value ∷ o ∷ os) small fit range owned met sized = cc
constant_sized x f (operand.Def r kind ∷ _ ∷ os) small fit range owned met sized = cc
constant_sized x f (_ ∷ os) small fit range owned met sized = cc

-- ══ An instruction ══

pub record HasRow (i : InstrData) : Type 0 where
  pub row : fits_one_of (rows_of i.op) i.operands ≡ true
  pub access : has_access (access_of i.op) i.mem ≡ true
  pub range : list_all is_in_range i.operands ≡ true

pub has_row : (i : InstrData) → is_formed i ≡ true → HasRow i
unfolding is_formed
has_row i h =
    let first : Bool = fits_one_of (rows_of i.op) i.operands in
    let second : Bool = has_access (access_of i.op) i.mem in
    let last : Bool = list_all is_in_range i.operands in
    let parts : ((first && second) ≡ true) × (last ≡ true) = and_parts (first && second) last h in
    record { row = (and_parts first second parts.0).0; access = (and_parts first second parts.0).1; range = parts.1 }

constant_is : (o : Opcode) → is_constant_op o ≡ true → o ≡ op.GenericConstant
constant_is op.GenericConstant h = refl
constant_is _ h = cc

instr_sized : (x : ℕ) (f : FunctionData) (i : InstrData) → x ≤ 64 → HasRow i → list_all (has_type f) i.operands ≡ true → IsSuited x (type_in Typed f) i → is_sized (width_in x f) i.op i.operands ≡ true
instr_sized x f i small has owned suits = by (is_constant_op i.op) refl
  where
    by : (t : Bool) → is_constant_op i.op ≡ t → is_sized (width_in x f) i.op i.operands ≡ true
    by false so = sized_other (width_in x f) i.op i.operands so (none_in_rows (rows_of i.op) i.operands (rows_free i.op so) has.row)
    by true so =
        let is : i.op ≡ op.GenericConstant = constant_is i.op so in
        let one : (fits (form.Def ∷ form.Constant ∷ []) i.operands || false) ≡ true = subst (λ o. fits_one_of (rows_of o) i.operands ≡ true) is has.row in
        subst (λ o. is_sized (width_in x f) o i.operands ≡ true) (sym is)
        (constant_sized x f i.operands small (⊎_elim (λ here. here) (λ none. absurd (no none)) (or_cases (fits (form.Def ∷ form.Constant ∷ []) i.operands) false one)) has.range owned
        (subst (λ o. unmet x (type_in Typed f) (typing_of o) i.operands ≡ None) is suits.row) (suits.sized so))
      where
        no : false ≡ true → ⊥
        no h = cc

-- ══ The function ══

all_pass : (test : ℕ × InstrData → Bool) (is : List (ℕ × InstrData)) → ((p : ℕ × InstrData) → IsOneOf p is → test p ≡ true) → list_all test is ≡ true
all_pass test [] each = refl
all_pass test (i ∷ is) each = and_from (test i) (list_all test is) (each i (inl refl)) (all_pass test is (λ p there. each p (inr there)))

pub constants_fit : (x : ℕ) (f : FunctionData) → (x ≡ 32) ⊎ (x ≡ 64) → IsValid x Typed f → are_formed f ≡ true → have_types f ≡ true → are_sized x f ≡ true
constants_fit x f word valid formed owned = all_pass (λ p. is_sized (width_in x f) p.1.op p.1.operands) (all_instrs f.blocks) each
  where
    small : x ≤ 64
    small = ⊎_elim (λ is. omega (arith, is)) (λ is. omega (arith, is)) word

    each : (p : ℕ × InstrData) → IsOneOf p (all_instrs f.blocks) → is_sized (width_in x f) p.1.op p.1.operands ≡ true
    each p there =
        instr_sized x f p.1 small (has_row p.1 (one_passes (λ q. is_formed q.1) p (all_instrs f.blocks) formed there)) (one_passes (λ q. list_all (has_type f) q.1.operands) p (all_instrs f.blocks) owned there)
        (suited x Typed f p.1 refl (instr_met x Typed f valid p there))
