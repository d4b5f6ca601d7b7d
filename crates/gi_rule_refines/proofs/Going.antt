-- A formed instruction that defines virtual registers alone, and is no call, does nothing else.
use Rattle.std.proofs.Common.{◌≡◌, Bool, true, false, not, ◌&&◌, ◌||◌, List, [], ◌∷◌, Option, Some, None, cond, ⊎_elim, refl, sym, ap, ap₂, ◌∙◌, true≢false}
use Rattle.std.proofs.lemmas.Bool.{and_from, and_parts, or_cases}
use Rattle.std.specs.List.{list_all, list_any}
use Rattle.std.specs.Option.{option_map_or}
use Rattle.gi_mir.specs.Data.{InstrData}
use Rattle.gi_mir.specs.Formed.{admits, fits, fits_one_of, has_access, is_def, is_formed, is_in_range, is_repeated, taken, wanted_after, with_wanted}
use Rattle.gi_mir.specs.Row.{access_of, is_call_op, rows_of}
use Rattle.gi_mir.specs.declared.opcode.Opcode.{Opcode}
use Rattle.gi_mir.specs.declared.opcode.Opcode.TheVariants as op
use Rattle.gi_mir.specs.declared.operand.Flags.{Flags}
use Rattle.gi_mir.specs.declared.operand.Operand.{Operand}
use Rattle.gi_mir.specs.declared.operand.Operand.TheVariants as operand
use Rattle.gi_mir.specs.declared.row.Form.{Form}
use Rattle.gi_mir.specs.declared.row.Form.TheVariants as form
use Rattle.gi_meaning.specs.Meaning.{meaning_of}
use Rattle.gi_valid.specs.Definitions.{defines_any_physical, is_erasable}
use Rattle.gi_rule_refines.specs.Dead.{can_go, only_gives}

-- a form that no definition of a virtual register has
abbrev is_no_def : Form → Bool
is_no_def form.Def = false
is_no_def form.Results = false
is_no_def _ = true

admitted : (f : Form) (x : Operand) → is_no_def f ≡ true → admits f x ≡ true → is_def x ≡ false
admitted f (operand.Def r k) none h = absurd (by f none h)
  where
    by : (f : Form) → is_no_def f ≡ true → admits f (operand.Def r k) ≡ true → ⊥
    by form.Def none h = cc
    by form.Results none h = cc
    by _ none h = cc
admitted f _ none h = refl

wanted_none : (f : Form) (fs : List Form) → is_no_def f ≡ true → list_all is_no_def fs ≡ true → list_all is_no_def (with_wanted (wanted_after f) fs) ≡ true
wanted_none form.Def fs none rest = cc
wanted_none form.Results fs none rest = cc
wanted_none _ fs none rest = rest

-- what takes an operand and what is left have none
taken_none : (x : Operand) (fs : List Form) → list_all is_no_def fs ≡ true → (left : List Form) → taken x fs ≡ Some left → (is_def x ≡ false) × (list_all is_no_def left ≡ true)
taken_none x [] none left h = cc
taken_none x (f ∷ fs) none left h =
    let each = and_parts (is_no_def f) (list_all is_no_def fs) none in by (admits f x) (is_repeated f) refl h (wanted_none f fs each.0 each.1) (λ is. admitted f x each.0 is) (λ rest. taken_none x fs each.1 left rest)
  where
    by : (t r : Bool) → admits f x ≡ t → cond t (Some (with_wanted (wanted_after f) fs)) (cond r (taken x fs) None) ≡ Some left → list_all is_no_def (with_wanted (wanted_after f) fs) ≡ true → (admits f x ≡ true → is_def x ≡ false)
        → (taken x fs ≡ Some left → (is_def x ≡ false) × (list_all is_no_def left ≡ true)) → (is_def x ≡ false) × (list_all is_no_def left ≡ true)
    by true r is h wanted first rest = let same : with_wanted (wanted_after f) fs ≡ left = cc in (first is, ap (list_all is_no_def) (sym same) ∙ wanted)
    by false true is h wanted first rest = rest h
    by false false is h wanted first rest = cc

fits_none : (fs : List Form) (xs : List Operand) → list_all is_no_def fs ≡ true → fits fs xs ≡ true → list_any is_def xs ≡ false
fits_none fs [] none h = refl
fits_none fs (x ∷ xs) none h = by (taken x fs) refl h (λ left. fits_none left xs)
  where
    by : (o : Option (List Form)) → taken x fs ≡ o → option_map_or (λ left. fits left xs) o false ≡ true → ((left : List Form) → list_all is_no_def left ≡ true → fits left xs ≡ true → list_any is_def xs ≡ false) → list_any is_def (x ∷ xs) ≡ false
    by None is h rest = cc
    by (Some left) is h rest = let both = taken_none x fs none left is in ap₂ (λ a b. a || b) both.0 (rest left both.1 h)

any_fits_none : (rows : List (List Form)) (xs : List Operand) → list_all (list_all is_no_def) rows ≡ true → fits_one_of rows xs ≡ true → list_any is_def xs ≡ false
any_fits_none [] xs none h = cc
any_fits_none (fs ∷ rows) xs none h =
    let each = and_parts (list_all is_no_def fs) (list_all (list_all is_no_def) rows) none in
    ⊎_elim (λ here. fits_none fs xs each.0 here) (λ later. any_fits_none rows xs each.1 later) (or_cases (fits fs xs) (fits_one_of rows xs) h)

-- an opcode that does more is a call, or has no row with a definition
gives_or_defines_none : (flags : Flags) (o : Opcode) → (only_gives (meaning_of flags o) || (is_call_op o || list_all (list_all is_no_def) (rows_of o))) ≡ true
gives_or_defines_none flags op.Copy = refl
gives_or_defines_none flags _ = refl

gives_all : (i : InstrData) → is_formed i ≡ true → is_erasable i ≡ true → only_gives (meaning_of i.flags i.op) ≡ true
unfolding is_formed
gives_all i formed erasable =
    let first = and_parts (list_any is_def i.operands && not (defines_any_physical i)) (not (is_call_op i.op)) erasable in
    let second = and_parts (list_any is_def i.operands) (not (defines_any_physical i)) first.0 in
    let row = and_parts (fits_one_of (rows_of i.op) i.operands && has_access (access_of i.op) i.mem) (list_all is_in_range i.operands) formed in
    let fitting = and_parts (fits_one_of (rows_of i.op) i.operands) (has_access (access_of i.op) i.mem) row.0 in
    ⊎_elim (λ gives. gives)
    (λ others. ⊎_elim (λ call. absurd (true≢false (sym first.1 ∙ ap not call))) (λ none. absurd (true≢false (sym second.0 ∙ any_fits_none (rows_of i.op) i.operands none fitting.0)))
    (or_cases (is_call_op i.op) (list_all (list_all is_no_def) (rows_of i.op)) others))
    (or_cases (only_gives (meaning_of i.flags i.op)) (is_call_op i.op || list_all (list_all is_no_def) (rows_of i.op)) (gives_or_defines_none i.flags i.op))

pub formed_goes : (i : InstrData) → is_formed i ≡ true → can_go i ≡ is_erasable i
formed_goes i formed = by (is_erasable i) refl
  where
    by : (t : Bool) → is_erasable i ≡ t → can_go i ≡ t
    by true so = and_from (is_erasable i) (only_gives (meaning_of i.flags i.op)) so (gives_all i formed so)
    by false so = ap (λ t. t && only_gives (meaning_of i.flags i.op)) so
