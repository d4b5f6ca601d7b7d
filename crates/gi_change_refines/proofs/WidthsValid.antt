-- In a valid function of formed instructions, whose registers have types, the widths of registers pass the test, but for what
-- validity doesn't say.
use Rattle.std.proofs.Common.{◌≡◌, ◌⊎◌, ℕ, suc, ◌*◌, ◌^◌, ◌<◌, ◌≤◌, ◌==◌, Bool, true, false, not, ◌&&◌, ◌||◌, nat_lt, nat_le, List, [], ◌∷◌, length, drop, map, Option, Some, None, ⊎_elim, refl, sym, ap, ap₂, ◌∙◌, subst, arith, ltb-true, eqb-true, le-leb, lt-ltb, eq-eqb}
use Rattle.std.specs.Prelude.{is_some}
use Rattle.std.proofs.lemmas.Bool.{and_parts, and_from, or_cases, or_left, or_right}
use Rattle.std.specs.List.{list_all}
use Rattle.std.specs.Option.{option_map_or}
use Rattle.gi_llt.specs.Llt.{width_of}
use Rattle.gi_llt.specs.declared.Llt.{Llt}
use Rattle.gi_llt.specs.declared.Llt.TheVariants.{Scalar, Pointer}
use Rattle.gi_mir.specs.Accepted.{are_one, class_of, letters, types_of}
use Rattle.gi_mir.specs.Data.{InstrData, FunctionData}
use Rattle.gi_mir.specs.Edit.{all_instrs}
use Rattle.gi_mir.specs.Formed.{fits, fits_one_of, has_access, is_formed}
use Rattle.gi_mir.specs.Registers.{kind_of, type_of_kind}
use Rattle.gi_mir.specs.Row.{access_of, memory_of, rows_of, typing_of}
use Rattle.gi_mir.specs.Types.{is_condition, is_of, is_scalar, same_type, scalar_bits}
use Rattle.gi_mir.specs.Typings.{TypingData, carry_out, carry_through, comparison, extension, joining, merge, one_alike, one_pointer, selection, two_alike}
use Rattle.gi_mir.specs.declared.entry.InMemory.TheVariants as memory
use Rattle.gi_mir.specs.declared.opcode.Opcode.{Opcode}
use Rattle.gi_mir.specs.declared.opcode.Opcode.TheVariants as op
use Rattle.gi_mir.specs.declared.operand.Flags.{Flags}
use Rattle.gi_mir.specs.declared.operand.Kind.{Kind}
use Rattle.gi_mir.specs.declared.operand.Kind.TheVariants as kinds
use Rattle.gi_mir.specs.declared.operand.MemOp.{MemOp}
use Rattle.gi_mir.specs.declared.operand.Operand.{Operand}
use Rattle.gi_mir.specs.declared.operand.Operand.TheVariants as operand
use Rattle.gi_mir.specs.declared.operand.Pred.{Pred}
use Rattle.gi_mir.specs.declared.operand.Reg.{Reg}
use Rattle.gi_mir.specs.declared.operand.SymbolFlag.{SymbolFlag}
use Rattle.gi_mir.specs.declared.operand.SymbolFlag.TheVariants.{Plain, Call, Hi, Lo}
use Rattle.gi_mir.specs.declared.row.Form.{Form}
use Rattle.gi_mir.specs.declared.row.Form.TheVariants as form
use Rattle.gi_mir.specs.declared.typing.Class.{Class}
use Rattle.gi_mir.specs.declared.typing.Class.TheVariants as class
use Rattle.gi_mir.specs.declared.typing.Letter.{Letter}
use Rattle.gi_mir.specs.declared.typing.Letter.TheVariants as letter
use Rattle.gi_mir.specs.declared.typing.Relation.TheVariants as relation
use Rattle.gi_meaning.specs.Meaning.{Meaning, Copying, Generic, Loading, Storing, MachineLoading, MachineStoring, Machine, Jumping, Branching, MachineBranching, Calling, Returning, Nothing, Joining, Extension, Anything, Zeros, Signs, is_joining, meaning_of}
use Rattle.gi_meaning.specs.Runs.{Setting, places_of, setting_of, width_of_kind}
use Rattle.gi_meaning.specs.State.{Place, Virtual}
use Rattle.gi_refine.specs.Fitting.{always_fits, is_fitting_constant, phi_fits, uses_have}
use Rattle.gi_refine.specs.RuleUse.{width_in}
use Rattle.gi_refine.specs.Worded.{has_virtual}
use Rattle.gi_meaning.specs.InRow.{holds_more, results_in, sources_in}
use Rattle.gi_valid.specs.Typing.{Typed, is_roomy, known, may_relate, meets, places_of_letter, roomless, type_in, unmet}
use Rattle.gi_valid.specs.Valid.{IsValid}
use Rattle.gi_valid.proofs.Suited.{IsSuited, suited}
use Rattle.gi_change_valid.specs.Rewriting.{IsOneOf}
use Rattle.gi_change_valid.proofs.Sources.{one_passes}
use Rattle.gi_change_valid.proofs.Valid.{instr_met}
use Rattle.gi_change_refines.specs.Sized.{FitsAnywhere, are_formed, is_sized}
use Rattle.gi_change_refines.specs.Typed.{has_type, have_types}
use Rattle.gi_change_refines.specs.Widths.{fits_by_widths, has_machine_words, have_bits, holds_all, is_fitting_address, is_fitting_load, is_fitting_result, keeps_values, machine_has_words, none_wider, total, widths_read, widths_written}
use Rattle.gi_change_refines.proofs.Letters.{all_known, known_of_letter, of_letter, length_mapped, met_registers, some_is}
use Rattle.gi_change_refines.proofs.Sized.{HasRow, constants_fit, has_row, holds}
use Rattle.gi_change_refines.proofs.WidthsKept.{all_kept}

-- ══ The types of registers ══

-- the type of a register, where it has one
abbrev type_at : FunctionData → ℕ → Llt
type_at f r = option_map_or (λ ty. ty) (type_of_kind (kind_of f r)) (Scalar 1)

abbrev is_typed : FunctionData → ℕ → Bool
is_typed f r = is_some (type_of_kind (kind_of f r))

kind_width : (x : ℕ) (kind : Kind) → is_some (type_of_kind kind) ≡ true → width_of_kind x kind ≡ width_of x (option_map_or (λ ty. ty) (type_of_kind kind) (Scalar 1))
kind_width x (kinds.Generic ty) some = refl
kind_width x (kinds.Banked ty) some = refl
kind_width x kinds.Class some = cc

width_known : (x : ℕ) (f : FunctionData) (r : ℕ) → is_typed f r ≡ true → width_in x f r ≡ width_of x (type_at f r)
width_known x f r some = kind_width x (kind_of f r) some

results_known : (f : FunctionData) (os : List Operand) → list_all (has_type f) os ≡ true → map (type_in Typed f) (results_in os) ≡ all_known (map (type_at f) (results_in os))
results_known f [] owned = refl
results_known f (operand.Def r kind ∷ os) owned =
    let each : (is_typed f r.0 ≡ true) × (list_all (has_type f) os ≡ true) = and_parts (is_typed f r.0) (list_all (has_type f) os) owned in
    ap₂ (λ a l. a ∷ l) (some_is (type_of_kind (kind_of f r.0)) (Scalar 1) each.0) (results_known f os each.1)
results_known f (operand.Use r ∷ os) owned = results_known f os (and_parts (is_typed f r.0) (list_all (has_type f) os) owned).1
results_known f (_ ∷ os) owned = results_known f os owned

sources_known : (f : FunctionData) (os : List Operand) → list_all (has_type f) os ≡ true → map (type_in Typed f) (sources_in os) ≡ all_known (map (type_at f) (sources_in os))
sources_known f [] owned = refl
sources_known f (operand.Use r ∷ os) owned =
    let each : (is_typed f r.0 ≡ true) × (list_all (has_type f) os ≡ true) = and_parts (is_typed f r.0) (list_all (has_type f) os) owned in
    ap₂ (λ a l. a ∷ l) (some_is (type_of_kind (kind_of f r.0)) (Scalar 1) each.0) (sources_known f os each.1)
sources_known f (operand.Def r kind ∷ os) owned = sources_known f os (and_parts (is_typed f r.0) (list_all (has_type f) os) owned).1
sources_known f (_ ∷ os) owned = sources_known f os owned

-- ══ What its row says of an instruction's types ══

of_each : (test : Letter → Bool) (l : Letter) → list_all test letters ≡ true → test l ≡ true
of_each test letter.A h = (and_parts (test letter.A) (list_all test (letter.B ∷ letter.Pointer ∷ letter.Bit ∷ letter.Register ∷ [])) h).0
of_each test letter.B h =
    (and_parts (test letter.B) (list_all test (letter.Pointer ∷ letter.Bit ∷ letter.Register ∷ []))
    (and_parts (test letter.A) (list_all test (letter.B ∷ letter.Pointer ∷ letter.Bit ∷ letter.Register ∷ [])) h).1).0
of_each test letter.Pointer h =
    (and_parts (test letter.Pointer) (list_all test (letter.Bit ∷ letter.Register ∷ []))
    (and_parts (test letter.B) (list_all test (letter.Pointer ∷ letter.Bit ∷ letter.Register ∷ []))
    (and_parts (test letter.A) (list_all test (letter.B ∷ letter.Pointer ∷ letter.Bit ∷ letter.Register ∷ [])) h).1).1).0
of_each test letter.Bit h =
    (and_parts (test letter.Bit) (list_all test (letter.Register ∷ []))
    (and_parts (test letter.Pointer) (list_all test (letter.Bit ∷ letter.Register ∷ []))
    (and_parts (test letter.B) (list_all test (letter.Pointer ∷ letter.Bit ∷ letter.Register ∷ []))
    (and_parts (test letter.A) (list_all test (letter.B ∷ letter.Pointer ∷ letter.Bit ∷ letter.Register ∷ [])) h).1).1).1).0
of_each test letter.Register h =
    (and_parts (test letter.Register) true
    (and_parts (test letter.Bit) (list_all test (letter.Register ∷ []))
    (and_parts (test letter.Pointer) (list_all test (letter.Bit ∷ letter.Register ∷ []))
    (and_parts (test letter.B) (list_all test (letter.Pointer ∷ letter.Bit ∷ letter.Register ∷ []))
    (and_parts (test letter.A) (list_all test (letter.B ∷ letter.Pointer ∷ letter.Bit ∷ letter.Register ∷ [])) h).1).1).1).1).0

-- one type for each letter, and the relation of A and B
record MeetsRow (x : ℕ) (typing : TypingData) (rs ss : List Llt) : Type 0 where
  one : (l : Letter) → are_one x (class_of typing l) (types_of l typing rs ss) ≡ true
  related : may_relate x typing.relation (types_of letter.A typing rs ss) (types_of letter.B typing rs ss) (length (types_of letter.B typing rs ss)) ≡ true

row_known : (x : ℕ) (typing : TypingData) (rs ss : List Llt) → meets x typing (all_known rs) (all_known ss) ≡ true → MeetsRow x typing rs ss
row_known x typing rs ss met =
    let places : Letter → List (Option Llt) = λ l. places_of_letter l typing (all_known rs) (all_known ss) in
    let each : Bool = list_all (λ l. are_one x (class_of typing l) (known (places_of_letter l typing (all_known rs) (all_known ss)))) letters in
    let may_be : Bool = may_relate x typing.relation (known (places letter.A)) (known (places letter.B)) (length (places letter.B)) in
    let parts : (each ≡ true) × (may_be ≡ true) = and_parts each may_be met in
    let long : length (places letter.B) ≡ length (types_of letter.B typing rs ss) = ap length (of_letter letter.B typing rs ss) ∙ length_mapped (λ ty. Some ty) (types_of letter.B typing rs ss) in
    record {
      one = λ l. subst (λ ts. are_one x (class_of typing l) ts ≡ true) (known_of_letter l typing rs ss) (of_each (λ k. are_one x (class_of typing k) (known (places_of_letter k typing (all_known rs) (all_known ss)))) l parts.0);
      related = sym (ap (λ n. may_relate x typing.relation (types_of letter.A typing rs ss) (types_of letter.B typing rs ss) n) long)
          ∙ sym (ap₂ (λ a b. may_relate x typing.relation a b (length (places_of_letter letter.B typing (all_known rs) (all_known ss)))) (known_of_letter letter.A typing rs ss) (known_of_letter letter.B typing rs ss)) ∙ parts.1;
    }

-- of an instruction that defines a register first
row_of : (x : ℕ) (f : FunctionData) (typing : TypingData) (r : Reg) (kind : Kind) (os : List Operand) → list_all (has_type f) (operand.Def r kind ∷ os) ≡ true → unmet x (type_in Typed f) (Some typing) (operand.Def r kind ∷ os) ≡ None
    → MeetsRow x typing (map (type_at f) (results_in (operand.Def r kind ∷ os))) (map (type_at f) (sources_in (operand.Def r kind ∷ os)))
row_of x f typing r kind os owned met =
    let written : List Operand = operand.Def r kind ∷ os in
    row_known x typing (map (type_at f) (results_in written)) (map (type_at f) (sources_in written))
    (subst (λ ts. meets x typing ts (all_known (map (type_at f) (sources_in written))) ≡ true) (results_known f written owned)
    (subst (λ ts. meets x typing (map (type_in Typed f) (results_in written)) ts ≡ true) (sources_known f written owned) (met_registers x (type_in Typed f) typing r kind os met)))

-- ══ Widths ══

same_width : (x : ℕ) (t u : Llt) → same_type t u ≡ true → width_of x t ≡ width_of x u
same_width x (Scalar m) (Scalar n) same = eqb-true m n same
same_width x Pointer Pointer same = refl
same_width x (Scalar m) Pointer same = cc
same_width x Pointer (Scalar n) same = cc

-- registers of one type aren't wider
none_wider_of : (x : ℕ) (f : FunctionData) (r : ℕ) → is_typed f r ≡ true → (rs : List ℕ) → list_all (is_typed f) rs ≡ true → list_all (λ u. same_type (type_at f r) u) (map (type_at f) rs) ≡ true
    → list_all (λ m. nat_le m (width_in x f r)) (map (width_in x f) rs) ≡ true
none_wider_of x f r some [] all same = refl
none_wider_of x f r some (a ∷ rs) all same =
    let each : (is_typed f a ≡ true) × (list_all (is_typed f) rs ≡ true) = and_parts (is_typed f a) (list_all (is_typed f) rs) all in
    let types : (same_type (type_at f r) (type_at f a) ≡ true) × (list_all (λ u. same_type (type_at f r) u) (map (type_at f) rs) ≡ true) =
    and_parts (same_type (type_at f r) (type_at f a)) (list_all (λ u. same_type (type_at f r) u) (map (type_at f) rs)) same in
    let width : width_in x f a ≡ width_in x f r = width_known x f a each.0 ∙ sym (same_width x (type_at f r) (type_at f a) types.0) ∙ sym (width_known x f r some) in
    and_from (nat_le (width_in x f a) (width_in x f r)) (list_all (λ m. nat_le m (width_in x f r)) (map (width_in x f) rs)) (le-leb (width_in x f a) (width_in x f r) (omega (arith, width)))
    (none_wider_of x f r some rs each.1 types.1)

alike : (x : ℕ) (f : FunctionData) (c : Class) (r : ℕ) (rs : List ℕ) → (is_typed f r && list_all (is_typed f) rs) ≡ true → are_one x c (type_at f r ∷ map (type_at f) rs) ≡ true
    → list_all (λ m. nat_le m (width_in x f r)) (map (width_in x f) rs) ≡ true
alike x f c r rs typed one =
    let parts : (is_typed f r ≡ true) × (list_all (is_typed f) rs ≡ true) = and_parts (is_typed f r) (list_all (is_typed f) rs) typed in
    none_wider_of x f r parts.0 rs parts.1 (and_parts (is_of x c (type_at f r)) (list_all (λ u. same_type (type_at f r) u) (map (type_at f) rs)) one).1

-- a scalar has a bit, and its bits
scalar_has : (x : ℕ) (ty : Llt) → is_scalar x ty ≡ true → (0 < width_of x ty) × (width_of x ty ≡ scalar_bits ty)
scalar_has x (Scalar n) scalar = (ltb-true 0 n (and_parts (nat_lt 0 n) (nat_le n (2 * x)) scalar).0, refl)
scalar_has x Pointer scalar = cc

bit_has : (x : ℕ) (ty : Llt) → (scalar_bits ty == 1) ≡ true → 0 < width_of x ty
bit_has x (Scalar n) is_one = let one : n ≡ 1 = eqb-true n 1 is_one in omega (arith, one)
bit_has x Pointer is_one = cc

condition_has : (x : ℕ) (ty : Llt) → is_condition x ty ≡ true → 0 < width_of x ty
condition_has x ty is = ⊎_elim (λ bit. bit_has x ty bit) (λ word. (scalar_has x ty (and_parts (is_scalar x ty) (scalar_bits ty == x) word).0).0) (or_cases (scalar_bits ty == 1) (is_scalar x ty && (scalar_bits ty == x)) is)

has_bit : (x : ℕ) (f : FunctionData) (r : ℕ) → is_typed f r ≡ true → 0 < width_of x (type_at f r) → nat_lt 0 (width_in x f r) ≡ true
has_bit x f r some bits = let width : width_in x f r ≡ width_of x (type_at f r) = width_known x f r some in lt-ltb 0 (width_in x f r) (omega (arith, width, bits))

pointer_width : (x : ℕ) (ty : Llt) → is_of x class.Pointer ty ≡ true → width_of x ty ≡ x
pointer_width x (Scalar n) is = cc
pointer_width x Pointer is = refl

-- ══ Shapes ══

take_def : (P : List Operand → Type 0) (fs : List Form) (os : List Operand) → fits (form.Def ∷ fs) os ≡ true → ((r : Reg) (kind : Kind) (rest : List Operand) → fits fs rest ≡ true → P (operand.Def r kind ∷ rest)) → P os
take_def P fs [] fit each = cc
take_def P fs (operand.Def r kind ∷ os) fit each = each r kind os fit
take_def P fs (_ ∷ os) fit each = cc

take_use : (P : List Operand → Type 0) (fs : List Form) (os : List Operand) → fits (form.Use ∷ fs) os ≡ true → ((r : Reg) (rest : List Operand) → fits fs rest ≡ true → P (operand.Use r ∷ rest)) → P os
take_use P fs [] fit each = cc
take_use P fs (operand.Use r ∷ os) fit each = each r os fit
take_use P fs (_ ∷ os) fit each = cc

take_typed : (P : List Operand → Type 0) (fs : List Form) (os : List Operand) → fits (form.TypedUse ∷ fs) os ≡ true → ((r : Reg) (rest : List Operand) → fits fs rest ≡ true → P (operand.Use r ∷ rest)) → P os
take_typed P fs [] fit each = cc
take_typed P fs (operand.Use r ∷ os) fit each = each r os fit
take_typed P fs (_ ∷ os) fit each = cc

take_predicate : (P : List Operand → Type 0) (fs : List Form) (os : List Operand) → fits (form.Predicate ∷ fs) os ≡ true → ((pred : Pred) (rest : List Operand) → fits fs rest ≡ true → P (operand.Predicate pred ∷ rest)) → P os
take_predicate P fs [] fit each = cc
take_predicate P fs (operand.Predicate pred ∷ os) fit each = each pred os fit
take_predicate P fs (_ ∷ os) fit each = cc

take_frame : (P : List Operand → Type 0) (fs : List Form) (os : List Operand) → fits (form.Frame ∷ fs) os ≡ true → ((n : ℕ) (rest : List Operand) → fits fs rest ≡ true → P (operand.Frame n ∷ rest)) → P os
take_frame P fs [] fit each = cc
take_frame P fs (operand.Frame n ∷ os) fit each = each n os fit
take_frame P fs (_ ∷ os) fit each = cc

take_global : (P : List Operand → Type 0) (fs : List Form) (os : List Operand) → fits (form.Global ∷ fs) os ≡ true → ((flag : SymbolFlag) (n : ℕ) (rest : List Operand) → fits fs rest ≡ true → P (operand.Global flag n ∷ rest)) → P os
take_global P fs [] fit each = cc
take_global P fs (operand.Global Plain n ∷ os) fit each = each Plain n os fit
take_global P fs (operand.Global Call n ∷ os) fit each = cc
take_global P fs (operand.Global Hi n ∷ os) fit each = cc
take_global P fs (operand.Global Lo n ∷ os) fit each = cc
take_global P fs (_ ∷ os) fit each = cc

take_end : (P : List Operand → Type 0) (os : List Operand) → fits [] os ≡ true → P [] → P os
take_end P [] fit here = here
take_end P (o ∷ os) fit here = cc

-- the only row
only : (t : Bool) → (t || false) ≡ true → t ≡ true
only true h = refl
only false h = cc

-- ══ Rows ══

-- operands whose registers have types that meet a row pass a test of widths
abbrev Passes : (x : ℕ) (names : List (List ℕ)) (f : FunctionData) (typing : TypingData) (test : List ℕ → List ℕ → Bool) (os : List Operand) → Type 0
Passes x names f typing test os =
    list_all (has_type f) os ≡ true → unmet x (type_in Typed f) (Some typing) os ≡ None → test (widths_written (setting_of x names f) os) (widths_read (setting_of x names f) os) ≡ true

one_passes_row : (x : ℕ) (names : List (List ℕ)) (f : FunctionData) (c : Class) (r : Reg) (kind : Kind) (a : Reg) → Passes x names f (one_alike c) none_wider (operand.Def r kind ∷ operand.Use a ∷ [])
one_passes_row x names f c r kind a owned met = alike x f c r.0 (a.0 ∷ []) owned ((row_of x f (one_alike c) r kind (operand.Use a ∷ []) owned met).one letter.A)

two_pass : (x : ℕ) (names : List (List ℕ)) (f : FunctionData) (c : Class) (r : Reg) (kind : Kind) (a b : Reg) → Passes x names f (two_alike c) none_wider (operand.Def r kind ∷ operand.Use a ∷ operand.Use b ∷ [])
two_pass x names f c r kind a b owned met = alike x f c r.0 (a.0 ∷ b.0 ∷ []) owned ((row_of x f (two_alike c) r kind (operand.Use a ∷ operand.Use b ∷ []) owned met).one letter.A)

unary_row : (x : ℕ) (names : List (List ℕ)) (f : FunctionData) (c : Class) (os : List Operand) → fits (form.Def ∷ form.Use ∷ []) os ≡ true → Passes x names f (one_alike c) none_wider os
unary_row x names f c os fit = take_def (λ l. Passes x names f (one_alike c) none_wider l) (form.Use ∷ []) os fit
    (λ r kind l h. take_use (λ k. Passes x names f (one_alike c) none_wider (operand.Def r kind ∷ k)) [] l h
    (λ a l' h'. take_end (λ k. Passes x names f (one_alike c) none_wider (operand.Def r kind ∷ operand.Use a ∷ k)) l' h' (one_passes_row x names f c r kind a)))

unary_typed_row : (x : ℕ) (names : List (List ℕ)) (f : FunctionData) (c : Class) (os : List Operand) → fits (form.Def ∷ form.TypedUse ∷ []) os ≡ true → Passes x names f (one_alike c) none_wider os
unary_typed_row x names f c os fit = take_def (λ l. Passes x names f (one_alike c) none_wider l) (form.TypedUse ∷ []) os fit
    (λ r kind l h. take_typed (λ k. Passes x names f (one_alike c) none_wider (operand.Def r kind ∷ k)) [] l h
    (λ a l' h'. take_end (λ k. Passes x names f (one_alike c) none_wider (operand.Def r kind ∷ operand.Use a ∷ k)) l' h' (one_passes_row x names f c r kind a)))

binary_row : (x : ℕ) (names : List (List ℕ)) (f : FunctionData) (c : Class) (os : List Operand) → fits (form.Def ∷ form.Use ∷ form.Use ∷ []) os ≡ true → Passes x names f (two_alike c) none_wider os
binary_row x names f c os fit = take_def (λ l. Passes x names f (two_alike c) none_wider l) (form.Use ∷ form.Use ∷ []) os fit
    (λ r kind l h. take_use (λ k. Passes x names f (two_alike c) none_wider (operand.Def r kind ∷ k)) (form.Use ∷ []) l h
    (λ a l' h'. take_use (λ k. Passes x names f (two_alike c) none_wider (operand.Def r kind ∷ operand.Use a ∷ k)) [] l' h'
    (λ b l'' h''. take_end (λ k. Passes x names f (two_alike c) none_wider (operand.Def r kind ∷ operand.Use a ∷ operand.Use b ∷ k)) l'' h'' (two_pass x names f c r kind a b))))

shift_row : (x : ℕ) (names : List (List ℕ)) (f : FunctionData) (c : Class) (os : List Operand) → fits (form.Def ∷ form.Use ∷ form.TypedUse ∷ []) os ≡ true → Passes x names f (two_alike c) none_wider os
shift_row x names f c os fit = take_def (λ l. Passes x names f (two_alike c) none_wider l) (form.Use ∷ form.TypedUse ∷ []) os fit
    (λ r kind l h. take_use (λ k. Passes x names f (two_alike c) none_wider (operand.Def r kind ∷ k)) (form.TypedUse ∷ []) l h
    (λ a l' h'. take_typed (λ k. Passes x names f (two_alike c) none_wider (operand.Def r kind ∷ operand.Use a ∷ k)) [] l' h'
    (λ b l'' h''. take_end (λ k. Passes x names f (two_alike c) none_wider (operand.Def r kind ∷ operand.Use a ∷ operand.Use b ∷ k)) l'' h'' (two_pass x names f c r kind a b))))

extension_passes : (x : ℕ) (names : List (List ℕ)) (f : FunctionData) (r : Reg) (kind : Kind) (a : Reg) → Passes x names f extension none_wider (operand.Def r kind ∷ operand.Use a ∷ [])
extension_passes x names f r kind a owned met =
    let row : MeetsRow x extension (type_at f r.0 ∷ []) (type_at f a.0 ∷ []) = row_of x f extension r kind (operand.Use a ∷ []) owned met in
    let typed : (is_typed f r.0 ≡ true) × ((is_typed f a.0 && true) ≡ true) = and_parts (is_typed f r.0) (is_typed f a.0 && true) owned in
    let wide : width_of x (type_at f r.0) ≡ scalar_bits (type_at f r.0) = (scalar_has x (type_at f r.0) (and_parts (is_scalar x (type_at f r.0)) true (row.one letter.A)).0).1 in
    let narrow : width_of x (type_at f a.0) ≡ scalar_bits (type_at f a.0) = (scalar_has x (type_at f a.0) (and_parts (is_scalar x (type_at f a.0)) true (row.one letter.B)).0).1 in
    let less : scalar_bits (type_at f a.0) < scalar_bits (type_at f r.0) = ltb-true (scalar_bits (type_at f a.0)) (scalar_bits (type_at f r.0)) row.related in
    let result : width_in x f r.0 ≡ width_of x (type_at f r.0) = width_known x f r.0 typed.0 in
    let source : width_in x f a.0 ≡ width_of x (type_at f a.0) = width_known x f a.0 (and_parts (is_typed f a.0) true typed.1).0 in
    and_from (nat_le (width_in x f a.0) (width_in x f r.0)) true (le-leb (width_in x f a.0) (width_in x f r.0) (omega (arith, wide, narrow, less, result, source))) refl

extension_row : (x : ℕ) (names : List (List ℕ)) (f : FunctionData) (os : List Operand) → fits (form.Def ∷ form.TypedUse ∷ []) os ≡ true → Passes x names f extension none_wider os
extension_row x names f os fit = take_def (λ l. Passes x names f extension none_wider l) (form.TypedUse ∷ []) os fit
    (λ r kind l h. take_typed (λ k. Passes x names f extension none_wider (operand.Def r kind ∷ k)) [] l h
    (λ a l' h'. take_end (λ k. Passes x names f extension none_wider (operand.Def r kind ∷ operand.Use a ∷ k)) l' h' (extension_passes x names f r kind a)))

selection_passes : (x : ℕ) (names : List (List ℕ)) (f : FunctionData) (r : Reg) (kind : Kind) (c a b : Reg) → Passes x names f selection (λ ns ms. none_wider ns (drop 1 ms)) (operand.Def r kind ∷ operand.Use c ∷ operand.Use a ∷ operand.Use b ∷ [])
selection_passes x names f r kind c a b owned met =
    let typed : (is_typed f r.0 ≡ true) × ((is_typed f c.0 && (is_typed f a.0 && (is_typed f b.0 && true))) ≡ true) = and_parts (is_typed f r.0) (is_typed f c.0 && (is_typed f a.0 && (is_typed f b.0 && true))) owned in
    alike x f class.Any r.0 (a.0 ∷ b.0 ∷ [])
    (and_from (is_typed f r.0) (is_typed f a.0 && (is_typed f b.0 && true)) typed.0 (and_parts (is_typed f c.0) (is_typed f a.0 && (is_typed f b.0 && true)) typed.1).1)
    ((row_of x f selection r kind (operand.Use c ∷ operand.Use a ∷ operand.Use b ∷ []) owned met).one letter.A)

selection_row : (x : ℕ) (names : List (List ℕ)) (f : FunctionData) (os : List Operand) → fits (form.Def ∷ form.TypedUse ∷ form.Use ∷ form.Use ∷ []) os ≡ true → Passes x names f selection (λ ns ms. none_wider ns (drop 1 ms)) os
selection_row x names f os fit = take_def (λ l. Passes x names f selection (λ ns ms. none_wider ns (drop 1 ms)) l) (form.TypedUse ∷ form.Use ∷ form.Use ∷ []) os fit
    (λ r kind l h. take_typed (λ k. Passes x names f selection (λ ns ms. none_wider ns (drop 1 ms)) (operand.Def r kind ∷ k)) (form.Use ∷ form.Use ∷ []) l h
    (λ c l' h'. take_use (λ k. Passes x names f selection (λ ns ms. none_wider ns (drop 1 ms)) (operand.Def r kind ∷ operand.Use c ∷ k)) (form.Use ∷ []) l' h'
    (λ a l'' h''. take_use (λ k. Passes x names f selection (λ ns ms. none_wider ns (drop 1 ms)) (operand.Def r kind ∷ operand.Use c ∷ operand.Use a ∷ k)) [] l'' h''
    (λ b l''' h'''. take_end (λ k. Passes x names f selection (λ ns ms. none_wider ns (drop 1 ms)) (operand.Def r kind ∷ operand.Use c ∷ operand.Use a ∷ operand.Use b ∷ k)) l''' h''' (selection_passes x names f r kind c a b)))))

abbrev bits_there : List ℕ → List ℕ → Bool
bits_there ns ms = have_bits ns

comparison_passes : (x : ℕ) (names : List (List ℕ)) (f : FunctionData) (r : Reg) (kind : Kind) (pred : Pred) (a b : Reg) → Passes x names f comparison bits_there (operand.Def r kind ∷ operand.Predicate pred ∷ operand.Use a ∷ operand.Use b ∷ [])
comparison_passes x names f r kind pred a b owned met =
    let row : MeetsRow x comparison (type_at f r.0 ∷ []) (type_at f a.0 ∷ type_at f b.0 ∷ []) = row_of x f comparison r kind (operand.Predicate pred ∷ operand.Use a ∷ operand.Use b ∷ []) owned met in
    and_from (nat_lt 0 (width_in x f r.0)) true
    (has_bit x f r.0 (and_parts (is_typed f r.0) (is_typed f a.0 && (is_typed f b.0 && true)) owned).0 (condition_has x (type_at f r.0) (and_parts (is_condition x (type_at f r.0)) true (row.one letter.A)).0)) refl

comparison_row : (x : ℕ) (names : List (List ℕ)) (f : FunctionData) (os : List Operand) → fits (form.Def ∷ form.Predicate ∷ form.TypedUse ∷ form.Use ∷ []) os ≡ true → Passes x names f comparison bits_there os
comparison_row x names f os fit = take_def (λ l. Passes x names f comparison bits_there l) (form.Predicate ∷ form.TypedUse ∷ form.Use ∷ []) os fit
    (λ r kind l h. take_predicate (λ k. Passes x names f comparison bits_there (operand.Def r kind ∷ k)) (form.TypedUse ∷ form.Use ∷ []) l h
    (λ pred l' h'. take_typed (λ k. Passes x names f comparison bits_there (operand.Def r kind ∷ operand.Predicate pred ∷ k)) (form.Use ∷ []) l' h'
    (λ a l'' h''. take_use (λ k. Passes x names f comparison bits_there (operand.Def r kind ∷ operand.Predicate pred ∷ operand.Use a ∷ k)) [] l'' h''
    (λ b l''' h'''. take_end (λ k. Passes x names f comparison bits_there (operand.Def r kind ∷ operand.Predicate pred ∷ operand.Use a ∷ operand.Use b ∷ k)) l''' h''' (comparison_passes x names f r kind pred a b)))))

-- a value and a bit
value_and_bit : (x : ℕ) (f : FunctionData) (r e : ℕ) → is_typed f r ≡ true → is_typed f e ≡ true → (is_scalar x (type_at f r) && nat_lt 1 (scalar_bits (type_at f r))) ≡ true → (scalar_bits (type_at f e) == 1) ≡ true
    → have_bits (width_in x f r ∷ width_in x f e ∷ []) ≡ true
value_and_bit x f r e first second wide bit =
    and_from (nat_lt 0 (width_in x f r)) (nat_lt 0 (width_in x f e) && true)
    (has_bit x f r first (scalar_has x (type_at f r) (and_parts (is_scalar x (type_at f r)) (nat_lt 1 (scalar_bits (type_at f r))) wide).0).0)
    (and_from (nat_lt 0 (width_in x f e)) true (has_bit x f e second (bit_has x (type_at f e) bit)) refl)

carry_out_passes : (x : ℕ) (names : List (List ℕ)) (f : FunctionData) (r : Reg) (kind : Kind) (e : Reg) (kind' : Kind) (a b : Reg)
    → Passes x names f carry_out bits_there (operand.Def r kind ∷ operand.Def e kind' ∷ operand.Use a ∷ operand.Use b ∷ [])
carry_out_passes x names f r kind e kind' a b owned met =
    let row : MeetsRow x carry_out (type_at f r.0 ∷ type_at f e.0 ∷ []) (type_at f a.0 ∷ type_at f b.0 ∷ []) = row_of x f carry_out r kind (operand.Def e kind' ∷ operand.Use a ∷ operand.Use b ∷ []) owned met in
    let rest : Bool = is_typed f a.0 && (is_typed f b.0 && true) in
    let typed : (is_typed f r.0 ≡ true) × ((is_typed f e.0 && rest) ≡ true) = and_parts (is_typed f r.0) (is_typed f e.0 && rest) owned in
    value_and_bit x f r.0 e.0 typed.0 (and_parts (is_typed f e.0) rest typed.1).0
    (and_parts (is_scalar x (type_at f r.0) && nat_lt 1 (scalar_bits (type_at f r.0))) (same_type (type_at f r.0) (type_at f a.0) && (same_type (type_at f r.0) (type_at f b.0) && true)) (row.one letter.A)).0
    (and_parts (scalar_bits (type_at f e.0) == 1) true (row.one letter.Bit)).0

overflow_row : (x : ℕ) (names : List (List ℕ)) (f : FunctionData) (os : List Operand) → fits (form.Def ∷ form.Def ∷ form.Use ∷ form.Use ∷ []) os ≡ true → Passes x names f carry_out bits_there os
overflow_row x names f os fit = take_def (λ l. Passes x names f carry_out bits_there l) (form.Def ∷ form.Use ∷ form.Use ∷ []) os fit
    (λ r kind l h. take_def (λ k. Passes x names f carry_out bits_there (operand.Def r kind ∷ k)) (form.Use ∷ form.Use ∷ []) l h
    (λ e kind' l' h'. take_use (λ k. Passes x names f carry_out bits_there (operand.Def r kind ∷ operand.Def e kind' ∷ k)) (form.Use ∷ []) l' h'
    (λ a l'' h''. take_use (λ k. Passes x names f carry_out bits_there (operand.Def r kind ∷ operand.Def e kind' ∷ operand.Use a ∷ k)) [] l'' h''
    (λ b l''' h'''. take_end (λ k. Passes x names f carry_out bits_there (operand.Def r kind ∷ operand.Def e kind' ∷ operand.Use a ∷ operand.Use b ∷ k)) l''' h''' (carry_out_passes x names f r kind e kind' a b)))))

carry_through_passes : (x : ℕ) (names : List (List ℕ)) (f : FunctionData) (r : Reg) (kind : Kind) (e : Reg) (kind' : Kind) (a b c : Reg)
    → Passes x names f carry_through bits_there (operand.Def r kind ∷ operand.Def e kind' ∷ operand.Use a ∷ operand.Use b ∷ operand.Use c ∷ [])
carry_through_passes x names f r kind e kind' a b c owned met =
    let row : MeetsRow x carry_through (type_at f r.0 ∷ type_at f e.0 ∷ []) (type_at f a.0 ∷ type_at f b.0 ∷ type_at f c.0 ∷ []) =
    row_of x f carry_through r kind (operand.Def e kind' ∷ operand.Use a ∷ operand.Use b ∷ operand.Use c ∷ []) owned met in
    let rest : Bool = is_typed f a.0 && (is_typed f b.0 && (is_typed f c.0 && true)) in
    let typed : (is_typed f r.0 ≡ true) × ((is_typed f e.0 && rest) ≡ true) = and_parts (is_typed f r.0) (is_typed f e.0 && rest) owned in
    value_and_bit x f r.0 e.0 typed.0 (and_parts (is_typed f e.0) rest typed.1).0
    (and_parts (is_scalar x (type_at f r.0) && nat_lt 1 (scalar_bits (type_at f r.0))) (same_type (type_at f r.0) (type_at f a.0) && (same_type (type_at f r.0) (type_at f b.0) && true)) (row.one letter.A)).0
    (and_parts (scalar_bits (type_at f e.0) == 1) (same_type (type_at f e.0) (type_at f c.0) && true) (row.one letter.Bit)).0

carry_row : (x : ℕ) (names : List (List ℕ)) (f : FunctionData) (os : List Operand) → fits (form.Def ∷ form.Def ∷ form.Use ∷ form.Use ∷ form.Use ∷ []) os ≡ true → Passes x names f carry_through bits_there os
carry_row x names f os fit = take_def (λ l. Passes x names f carry_through bits_there l) (form.Def ∷ form.Use ∷ form.Use ∷ form.Use ∷ []) os fit
    (λ r kind l h. take_def (λ k. Passes x names f carry_through bits_there (operand.Def r kind ∷ k)) (form.Use ∷ form.Use ∷ form.Use ∷ []) l h
    (λ e kind' l' h'. take_use (λ k. Passes x names f carry_through bits_there (operand.Def r kind ∷ operand.Def e kind' ∷ k)) (form.Use ∷ form.Use ∷ []) l' h'
    (λ a l'' h''. take_use (λ k. Passes x names f carry_through bits_there (operand.Def r kind ∷ operand.Def e kind' ∷ operand.Use a ∷ k)) (form.Use ∷ []) l'' h''
    (λ b l''' h'''. take_use (λ k. Passes x names f carry_through bits_there (operand.Def r kind ∷ operand.Def e kind' ∷ operand.Use a ∷ operand.Use b ∷ k)) [] l''' h'''
    (λ c l'''' h''''. take_end (λ k. Passes x names f carry_through bits_there (operand.Def r kind ∷ operand.Def e kind' ∷ operand.Use a ∷ operand.Use b ∷ operand.Use c ∷ k)) l'''' h'''' (carry_through_passes x names f r kind e kind' a b c))))))

-- ══ Parts ══

-- operands that are all read
parts_read : (x : ℕ) (names : List (List ℕ)) (f : FunctionData) (os : List Operand) → fits (form.Parts ∷ []) os ≡ true → list_all (has_type f) os ≡ true
    → (widths_read (setting_of x names f) os ≡ map (width_in x f) (sources_in os)) × (list_all (is_typed f) (sources_in os) ≡ true)
parts_read x names f [] fit owned = (refl, refl)
parts_read x names f (operand.Use a ∷ os) fit owned =
    let each : (is_typed f a.0 ≡ true) × (list_all (has_type f) os ≡ true) = and_parts (is_typed f a.0) (list_all (has_type f) os) owned in
    let rest : (widths_read (setting_of x names f) os ≡ map (width_in x f) (sources_in os)) × (list_all (is_typed f) (sources_in os) ≡ true) = parts_read x names f os fit each.1 in
    (ap (λ l. width_in x f a.0 ∷ l) rest.0, and_from (is_typed f a.0) (list_all (is_typed f) (sources_in os)) each.0 rest.1)
parts_read x names f (_ ∷ os) fit owned = cc

total_alike : (x : ℕ) (f : FunctionData) (t : Llt) (rs : List ℕ) → list_all (is_typed f) rs ≡ true → list_all (λ u. same_type t u) (map (type_at f) rs) ≡ true → total (map (width_in x f) rs) ≡ length rs * width_of x t
total_alike x f t [] all same = omega arith
total_alike x f t (a ∷ rs) all same =
    let each : (is_typed f a ≡ true) × (list_all (is_typed f) rs ≡ true) = and_parts (is_typed f a) (list_all (is_typed f) rs) all in
    let types : (same_type t (type_at f a) ≡ true) × (list_all (λ u. same_type t u) (map (type_at f) rs) ≡ true) = and_parts (same_type t (type_at f a)) (list_all (λ u. same_type t u) (map (type_at f) rs)) same in
    let width : width_in x f a ≡ width_of x t = width_known x f a each.0 ∙ sym (same_width x t (type_at f a) types.0) in
    omega (arith, width, total_alike x f t rs each.1 types.1)

parts_room : (x : ℕ) (f : FunctionData) (r : ℕ) (rs : List ℕ) → is_typed f r ≡ true → list_all (is_typed f) rs ≡ true → is_scalar x (type_at f r) ≡ true → are_one x class.Scalar (map (type_at f) rs) ≡ true
    → may_relate x relation.Sum (type_at f r ∷ []) (map (type_at f) rs) (length (map (type_at f) rs)) ≡ true → total (map (width_in x f) rs) ≤ width_in x f r
parts_room x f r [] some all scalar one sum = omega arith
parts_room x f r (a ∷ rs) some all scalar one sum =
    let each : (is_typed f a ≡ true) × (list_all (is_typed f) rs ≡ true) = and_parts (is_typed f a) (list_all (is_typed f) rs) all in
    let types : (is_scalar x (type_at f a) ≡ true) × (list_all (λ u. same_type (type_at f a) u) (map (type_at f) rs) ≡ true) =
    and_parts (is_scalar x (type_at f a)) (list_all (λ u. same_type (type_at f a) u) (map (type_at f) rs)) one in
    let count : ℕ = suc (length (map (type_at f) rs)) in
    let whole : scalar_bits (type_at f r) ≡ count * scalar_bits (type_at f a) =
    eqb-true (scalar_bits (type_at f r)) (count * scalar_bits (type_at f a)) (and_parts (nat_le 2 count && nat_le count 16) (scalar_bits (type_at f r) == count * scalar_bits (type_at f a)) sum).1 in
    let long : length (map (type_at f) rs) ≡ length rs = length_mapped (type_at f) rs in
    let counted : scalar_bits (type_at f r) ≡ suc (length rs) * scalar_bits (type_at f a) = whole ∙ ap (λ n. suc n * scalar_bits (type_at f a)) long in
    let bits : width_of x (type_at f a) ≡ scalar_bits (type_at f a) = (scalar_has x (type_at f a) types.0).1 in
    let rest : total (map (width_in x f) rs) ≡ length rs * scalar_bits (type_at f a) = total_alike x f (type_at f a) rs each.1 types.1 ∙ ap (λ n. length rs * n) bits in
    let result : width_in x f r ≡ scalar_bits (type_at f r) = width_known x f r some ∙ (scalar_has x (type_at f r) scalar).1 in
    let first : width_in x f a ≡ scalar_bits (type_at f a) = width_known x f a each.0 ∙ bits in
    omega (arith, counted, rest, result, first)

merge_row : (x : ℕ) (names : List (List ℕ)) (f : FunctionData) (os : List Operand) → fits (form.Def ∷ form.Parts ∷ []) os ≡ true → Passes x names f merge holds_all os
merge_row x names f os fit = take_def (λ l. Passes x names f merge holds_all l) (form.Parts ∷ []) os fit (λ r kind rest left owned met.
    let row : MeetsRow x merge (type_at f r.0 ∷ map (type_at f) (results_in rest)) (map (type_at f) (sources_in rest)) = row_of x f merge r kind rest owned met in
    let typed : (is_typed f r.0 ≡ true) × (list_all (has_type f) rest ≡ true) = and_parts (is_typed f r.0) (list_all (has_type f) rest) owned in
    let read : (widths_read (setting_of x names f) rest ≡ map (width_in x f) (sources_in rest)) × (list_all (is_typed f) (sources_in rest) ≡ true) = parts_read x names f rest left typed.1 in
    let room : total (map (width_in x f) (sources_in rest)) ≤ width_in x f r.0 =
    parts_room x f r.0 (sources_in rest) typed.0 read.1 (and_parts (is_scalar x (type_at f r.0)) true (row.one letter.A)).0 (row.one letter.B) row.related in
    le-leb (total (widths_read (setting_of x names f) rest)) (width_in x f r.0) (subst (λ ms. total ms ≤ width_in x f r.0) (sym read.0) room))

-- ══ Addresses ══

address_width : (x : ℕ) (f : FunctionData) (r : Reg) (kind : Kind) (os : List Operand) → list_all (has_type f) (operand.Def r kind ∷ os) ≡ true → MeetsRow x one_pointer (type_at f r.0 ∷ []) [] → nat_le x (width_in x f r.0) ≡ true
address_width x f r kind os owned row =
    let some : is_typed f r.0 ≡ true = (and_parts (is_typed f r.0) (list_all (has_type f) os) owned).0 in
    let word : width_of x (type_at f r.0) ≡ x = pointer_width x (type_at f r.0) (and_parts (is_of x class.Pointer (type_at f r.0)) true (row.one letter.Pointer)).0 in
    let width : width_in x f r.0 ≡ width_of x (type_at f r.0) = width_known x f r.0 some in
    le-leb x (width_in x f r.0) (omega (arith, word, width))

frame_row : (x : ℕ) (names : List (List ℕ)) (f : FunctionData) (os : List Operand) → fits (form.Def ∷ form.Frame ∷ []) os ≡ true → Passes x names f one_pointer none_wider os
frame_row x names f os fit = take_def (λ l. Passes x names f one_pointer none_wider l) (form.Frame ∷ []) os fit
    (λ r kind l h. take_frame (λ k. Passes x names f one_pointer none_wider (operand.Def r kind ∷ k)) [] l h
    (λ n l' h'. take_end (λ k. Passes x names f one_pointer none_wider (operand.Def r kind ∷ operand.Frame n ∷ k)) l' h'
    (λ owned met. and_from (nat_le x (width_in x f r.0)) true (address_width x f r kind (operand.Frame n ∷ []) owned (row_of x f one_pointer r kind (operand.Frame n ∷ []) owned met)) refl)))

abbrev PassesAddress : (x : ℕ) (names : List (List ℕ)) (f : FunctionData) (os : List Operand) → Type 0
PassesAddress x names f os = list_all (has_type f) os ≡ true → unmet x (type_in Typed f) (Some one_pointer) os ≡ None → is_fitting_address (setting_of x names f) op.GenericGlobalValue os ≡ true

global_row : (x : ℕ) (names : List (List ℕ)) (f : FunctionData) (os : List Operand) → fits (form.Def ∷ form.Global ∷ []) os ≡ true → PassesAddress x names f os
global_row x names f os fit = take_def (λ l. PassesAddress x names f l) (form.Global ∷ []) os fit
    (λ r kind l h. take_global (λ k. PassesAddress x names f (operand.Def r kind ∷ k)) [] l h
    (λ flag n l' h'. take_end (λ k. PassesAddress x names f (operand.Def r kind ∷ operand.Global flag n ∷ k)) l' h'
    (λ owned met. address_width x f r kind (operand.Global flag n ∷ []) owned (row_of x f one_pointer r kind (operand.Global flag n ∷ []) owned met))))

-- ══ Phis ══

uses_wide : (x : ℕ) (f : FunctionData) (n : ℕ) (t : Llt) → width_of x t ≡ n → (os : List Operand) → list_all (has_type f) os ≡ true → list_all (λ u. same_type t u) (map (type_at f) (sources_in os)) ≡ true → uses_have (width_in x f) n os ≡ true
uses_wide x f n t wide [] owned same = refl
uses_wide x f n t wide (operand.Use a ∷ os) owned same =
    let each : (is_typed f a.0 ≡ true) × (list_all (has_type f) os ≡ true) = and_parts (is_typed f a.0) (list_all (has_type f) os) owned in
    let types : (same_type t (type_at f a.0) ≡ true) × (list_all (λ u. same_type t u) (map (type_at f) (sources_in os)) ≡ true) =
    and_parts (same_type t (type_at f a.0)) (list_all (λ u. same_type t u) (map (type_at f) (sources_in os))) same in
    and_from (width_in x f a.0 == n) (uses_have (width_in x f) n os) (eq-eqb (width_in x f a.0) n (width_known x f a.0 each.0 ∙ sym (same_width x t (type_at f a.0) types.0) ∙ wide)) (uses_wide x f n t wide os each.1 types.1)
uses_wide x f n t wide (operand.Def r kind ∷ os) owned same = uses_wide x f n t wide os (and_parts (is_typed f r.0) (list_all (has_type f) os) owned).1 same
uses_wide x f n t wide (_ ∷ os) owned same = uses_wide x f n t wide os owned same

abbrev PassesPhi : (x : ℕ) (names : List (List ℕ)) (f : FunctionData) (os : List Operand) → Type 0
PassesPhi x names f os = list_all (has_type f) os ≡ true → unmet x (type_in Typed f) (Some joining) os ≡ None → phi_fits (setting_of x names f) (places_of os) os ≡ true

any_places : (s : Setting) (r : ℕ) (ps : List Place) (os : List Operand) → uses_have s.width (s.width r) os ≡ true → phi_fits s (Virtual r ∷ ps) os ≡ true
any_places s r [] os h = h
any_places s r (p ∷ ps) os h = refl

phi_row : (x : ℕ) (names : List (List ℕ)) (f : FunctionData) (os : List Operand) → fits (form.Def ∷ form.Entry ∷ []) os ≡ true → PassesPhi x names f os
phi_row x names f os fit = take_def (λ l. PassesPhi x names f l) (form.Entry ∷ []) os fit (λ r kind rest left owned met.
    let row : MeetsRow x joining (type_at f r.0 ∷ map (type_at f) (results_in rest)) (map (type_at f) (sources_in rest)) = row_of x f joining r kind rest owned met in
    let typed : (is_typed f r.0 ≡ true) × (list_all (has_type f) rest ≡ true) = and_parts (is_typed f r.0) (list_all (has_type f) rest) owned in
    any_places (setting_of x names f) r.0 (places_of rest) (operand.Def r kind ∷ rest)
    (uses_wide x f (width_in x f r.0) (type_at f r.0) (sym (width_known x f r.0 typed.0)) rest typed.1
    (and_parts (is_of x class.Any (type_at f r.0)) (list_all (λ u. same_type (type_at f r.0) u) (map (type_at f) (sources_in rest))) (row.one letter.A)).1))

phi_passes : (x : ℕ) (names : List (List ℕ)) (f : FunctionData) (flags : Flags) (o : Opcode) (os : List Operand) → is_joining (meaning_of flags o) ≡ true → fits_one_of (rows_of o) os ≡ true → list_all (has_type f) os ≡ true
    → unmet x (type_in Typed f) (typing_of o) os ≡ None → phi_fits (setting_of x names f) (places_of os) os ≡ true
phi_passes x names f flags op.Phi os joins row owned met = phi_row x names f os (only (fits (form.Def ∷ form.Entry ∷ []) os) row) owned met
phi_passes x names f flags op.GenericPhi os joins row owned met = phi_row x names f os (only (fits (form.Def ∷ form.Entry ∷ []) os) row) owned met
phi_passes x names f flags _ os joins row owned met = cc

-- ══ Calls: formed ones have no virtual register ══

implicits_bare : (os : List Operand) → fits (form.Implicits ∷ []) os ≡ true → has_virtual os ≡ false
implicits_bare [] fit = refl
implicits_bare (operand.ImplicitUse n ∷ os) fit = implicits_bare os fit
implicits_bare (operand.ImplicitDef n ∷ os) fit = implicits_bare os fit
implicits_bare (_ ∷ os) fit = cc

defined_bare : (os : List Operand) → fits (form.ImplicitDef ∷ form.Implicits ∷ []) os ≡ true → has_virtual os ≡ false
defined_bare [] fit = cc
defined_bare (operand.ImplicitDef n ∷ os) fit = implicits_bare os fit
defined_bare (_ ∷ os) fit = cc

saved_bare : (os : List Operand) → fits (form.SavedMask ∷ form.ImplicitDef ∷ form.Implicits ∷ []) os ≡ true → has_virtual os ≡ false
saved_bare [] fit = cc
saved_bare (operand.SavedMask ∷ os) fit = defined_bare os fit
saved_bare (_ ∷ os) fit = cc

callee_bare : (os : List Operand) → fits (form.Callee ∷ form.SavedMask ∷ form.ImplicitDef ∷ form.Implicits ∷ []) os ≡ true → has_virtual os ≡ false
callee_bare [] fit = cc
callee_bare (operand.Global Call n ∷ os) fit = saved_bare os fit
callee_bare (operand.Global Plain n ∷ os) fit = cc
callee_bare (operand.Global Hi n ∷ os) fit = cc
callee_bare (operand.Global Lo n ∷ os) fit = cc
callee_bare (operand.Routine Call n ∷ os) fit = saved_bare os fit
callee_bare (operand.Routine Plain n ∷ os) fit = cc
callee_bare (operand.Routine Hi n ∷ os) fit = cc
callee_bare (operand.Routine Lo n ∷ os) fit = cc
callee_bare (_ ∷ os) fit = cc

abbrev is_calling : Meaning → Bool
is_calling Calling = true
is_calling _ = false

calls_bare : (flags : Flags) (o : Opcode) (os : List Operand) → is_calling (meaning_of flags o) ≡ true → fits_one_of (rows_of o) os ≡ true → not (has_virtual os) ≡ true
calls_bare flags op.PseudoCall os calls row = ap not (callee_bare os (only (fits (form.Callee ∷ form.SavedMask ∷ form.ImplicitDef ∷ form.Implicits ∷ []) os) row))
calls_bare flags _ os calls row = cc

-- ══ Constants ══

constant_passes : (width : ℕ → ℕ) (os : List Operand) → is_sized width op.GenericConstant os ≡ true → is_fitting_constant width op.GenericConstant os ≡ true
constant_passes width [] h = cc
constant_passes width (operand.Def r kind ∷ []) h = cc
constant_passes width (operand.Def r kind ∷ operand.Constant bits value ∷ []) h =
    let parts : ((bits == width r.0) ≡ true) × (nat_lt value (2 ^ bits) ≡ true) = and_parts (bits == width r.0) (nat_lt value (2 ^ bits)) h in
    subst (λ n. nat_lt value (2 ^ n) ≡ true) (eqb-true bits (width r.0) parts.0) parts.1
constant_passes width (operand.Def r kind ∷ operand.Constant bits value ∷ o ∷ os) h = cc
constant_passes width (operand.Def r kind ∷ _ ∷ os) h = cc
constant_passes width (_ ∷ os) h = cc

-- ══ Opcodes ══

abbrev is_generic : Meaning → Bool
is_generic (Generic gives) = true
is_generic _ = false

always_passes : (s : Setting) (o : Opcode) (os : List Operand) → always_fits o ≡ true → is_fitting_result s o os ≡ true
always_passes s o os h =
    or_left (always_fits o || fits_by_widths o (widths_written s os) (widths_read s os) || is_fitting_constant s.width o os) (is_fitting_address s o os)
    (or_left (always_fits o || fits_by_widths o (widths_written s os) (widths_read s os)) (is_fitting_constant s.width o os) (or_left (always_fits o) (fits_by_widths o (widths_written s os) (widths_read s os)) h))

by_widths : (s : Setting) (o : Opcode) (os : List Operand) → fits_by_widths o (widths_written s os) (widths_read s os) ≡ true → is_fitting_result s o os ≡ true
by_widths s o os h =
    or_left (always_fits o || fits_by_widths o (widths_written s os) (widths_read s os) || is_fitting_constant s.width o os) (is_fitting_address s o os)
    (or_left (always_fits o || fits_by_widths o (widths_written s os) (widths_read s os)) (is_fitting_constant s.width o os) (or_right (always_fits o) (fits_by_widths o (widths_written s os) (widths_read s os)) h))

by_constant : (s : Setting) (o : Opcode) (os : List Operand) → is_fitting_constant s.width o os ≡ true → is_fitting_result s o os ≡ true
by_constant s o os h =
    or_left (always_fits o || fits_by_widths o (widths_written s os) (widths_read s os) || is_fitting_constant s.width o os) (is_fitting_address s o os)
    (or_right (always_fits o || fits_by_widths o (widths_written s os) (widths_read s os)) (is_fitting_constant s.width o os) h)

by_address : (s : Setting) (o : Opcode) (os : List Operand) → is_fitting_address s o os ≡ true → is_fitting_result s o os ≡ true
by_address s o os h = or_right (always_fits o || fits_by_widths o (widths_written s os) (widths_read s os) || is_fitting_constant s.width o os) (is_fitting_address s o os) h

abbrev unary_forms : List Form
unary_forms = form.Def ∷ form.Use ∷ []

abbrev unary_typed_forms : List Form
unary_typed_forms = form.Def ∷ form.TypedUse ∷ []

abbrev binary_forms : List Form
binary_forms = form.Def ∷ form.Use ∷ form.Use ∷ []

abbrev shift_forms : List Form
shift_forms = form.Def ∷ form.Use ∷ form.TypedUse ∷ []

abbrev overflow_forms : List Form
overflow_forms = form.Def ∷ form.Def ∷ form.Use ∷ form.Use ∷ []

abbrev carry_forms : List Form
carry_forms = form.Def ∷ form.Def ∷ form.Use ∷ form.Use ∷ form.Use ∷ []

-- what is known of operands
record IsKnownBy (x : ℕ) (f : FunctionData) (o : Opcode) (os : List Operand) : Type 0 where
  row : fits_one_of (rows_of o) os ≡ true
  owned : list_all (has_type f) os ≡ true
  met : unmet x (type_in Typed f) (typing_of o) os ≡ None
  sized : is_sized (width_in x f) o os ≡ true

results_pass : (x : ℕ) (names : List (List ℕ)) (f : FunctionData) (flags : Flags) (o : Opcode) (os : List Operand) → always_fits o ≡ false → is_generic (meaning_of flags o) ≡ true → IsKnownBy x f o os
    → is_fitting_result (setting_of x names f) o os ≡ true
results_pass x names f flags op.GenericFreeze os always generic h = by_widths (setting_of x names f) op.GenericFreeze os (unary_row x names f class.Any os (only (fits unary_forms os) h.row) h.owned h.met)
results_pass x names f flags op.GenericFrameIndex os always generic h = by_widths (setting_of x names f) op.GenericFrameIndex os (frame_row x names f os (only (fits (form.Def ∷ form.Frame ∷ []) os) h.row) h.owned h.met)
results_pass x names f flags op.GenericGlobalValue os always generic h = by_address (setting_of x names f) op.GenericGlobalValue os (global_row x names f os (only (fits (form.Def ∷ form.Global ∷ []) os) h.row) h.owned h.met)
results_pass x names f flags op.GenericConstant os always generic h = by_constant (setting_of x names f) op.GenericConstant os (constant_passes (width_in x f) os h.sized)
results_pass x names f flags op.GenericZeroExtend os always generic h = by_widths (setting_of x names f) op.GenericZeroExtend os (extension_row x names f os (only (fits unary_typed_forms os) h.row) h.owned h.met)
results_pass x names f flags op.GenericMergeValues os always generic h = by_widths (setting_of x names f) op.GenericMergeValues os (merge_row x names f os (only (fits (form.Def ∷ form.Parts ∷ []) os) h.row) h.owned h.met)
results_pass x names f flags op.GenericAnd os always generic h = by_widths (setting_of x names f) op.GenericAnd os (binary_row x names f class.Scalar os (only (fits binary_forms os) h.row) h.owned h.met)
results_pass x names f flags op.GenericOr os always generic h = by_widths (setting_of x names f) op.GenericOr os (binary_row x names f class.Scalar os (only (fits binary_forms os) h.row) h.owned h.met)
results_pass x names f flags op.GenericXor os always generic h = by_widths (setting_of x names f) op.GenericXor os (binary_row x names f class.Scalar os (only (fits binary_forms os) h.row) h.owned h.met)
results_pass x names f flags op.GenericUnsignedDivide os always generic h = by_widths (setting_of x names f) op.GenericUnsignedDivide os (binary_row x names f class.Scalar os (only (fits binary_forms os) h.row) h.owned h.met)
results_pass x names f flags op.GenericUnsignedRemainder os always generic h =
    by_widths (setting_of x names f) op.GenericUnsignedRemainder os (binary_row x names f class.Scalar os (only (fits binary_forms os) h.row) h.owned h.met)
results_pass x names f flags op.GenericLogicalShiftRight os always generic h =
    by_widths (setting_of x names f) op.GenericLogicalShiftRight os (shift_row x names f class.Scalar os (only (fits shift_forms os) h.row) h.owned h.met)
results_pass x names f flags op.GenericUnsignedAddOverflow os always generic h = by_widths (setting_of x names f) op.GenericUnsignedAddOverflow os (overflow_row x names f os (only (fits overflow_forms os) h.row) h.owned h.met)
results_pass x names f flags op.GenericUnsignedSubtractOverflow os always generic h =
    by_widths (setting_of x names f) op.GenericUnsignedSubtractOverflow os (overflow_row x names f os (only (fits overflow_forms os) h.row) h.owned h.met)
results_pass x names f flags op.GenericUnsignedAddCarry os always generic h = by_widths (setting_of x names f) op.GenericUnsignedAddCarry os (carry_row x names f os (only (fits carry_forms os) h.row) h.owned h.met)
results_pass x names f flags op.GenericUnsignedSubtractBorrow os always generic h =
    by_widths (setting_of x names f) op.GenericUnsignedSubtractBorrow os (carry_row x names f os (only (fits carry_forms os) h.row) h.owned h.met)
results_pass x names f flags op.GenericCompare os always generic h =
    by_widths (setting_of x names f) op.GenericCompare os (comparison_row x names f os (only (fits (form.Def ∷ form.Predicate ∷ form.TypedUse ∷ form.Use ∷ []) os) h.row) h.owned h.met)
results_pass x names f flags op.GenericSelect os always generic h =
    by_widths (setting_of x names f) op.GenericSelect os (selection_row x names f os (only (fits (form.Def ∷ form.TypedUse ∷ form.Use ∷ form.Use ∷ []) os) h.row) h.owned h.met)
results_pass x names f flags op.GenericSignedMinimum os always generic h = by_widths (setting_of x names f) op.GenericSignedMinimum os (binary_row x names f class.Scalar os (only (fits binary_forms os) h.row) h.owned h.met)
results_pass x names f flags op.GenericSignedMaximum os always generic h = by_widths (setting_of x names f) op.GenericSignedMaximum os (binary_row x names f class.Scalar os (only (fits binary_forms os) h.row) h.owned h.met)
results_pass x names f flags op.GenericUnsignedMinimum os always generic h = by_widths (setting_of x names f) op.GenericUnsignedMinimum os (binary_row x names f class.Scalar os (only (fits binary_forms os) h.row) h.owned h.met)
results_pass x names f flags op.GenericUnsignedMaximum os always generic h = by_widths (setting_of x names f) op.GenericUnsignedMaximum os (binary_row x names f class.Scalar os (only (fits binary_forms os) h.row) h.owned h.met)
results_pass x names f flags op.GenericCountLeadingZeros os always generic h =
    by_widths (setting_of x names f) op.GenericCountLeadingZeros os (unary_typed_row x names f class.Scalar os (only (fits unary_typed_forms os) h.row) h.owned h.met)
results_pass x names f flags op.GenericCountTrailingZeros os always generic h =
    by_widths (setting_of x names f) op.GenericCountTrailingZeros os (unary_typed_row x names f class.Scalar os (only (fits unary_typed_forms os) h.row) h.owned h.met)
results_pass x names f flags op.GenericPopulationCount os always generic h =
    by_widths (setting_of x names f) op.GenericPopulationCount os (unary_typed_row x names f class.Scalar os (only (fits unary_typed_forms os) h.row) h.owned h.met)
results_pass x names f flags op.GenericCountLeadingZerosNotOfZero os always generic h =
    by_widths (setting_of x names f) op.GenericCountLeadingZerosNotOfZero os (unary_typed_row x names f class.Scalar os (only (fits unary_typed_forms os) h.row) h.owned h.met)
results_pass x names f flags op.GenericCountTrailingZerosNotOfZero os always generic h =
    by_widths (setting_of x names f) op.GenericCountTrailingZerosNotOfZero os (unary_typed_row x names f class.Scalar os (only (fits unary_typed_forms os) h.row) h.owned h.met)
results_pass x names f flags op.GenericByteSwap os always generic h = by_widths (setting_of x names f) op.GenericByteSwap os (unary_row x names f class.Swappable os (only (fits unary_forms os) h.row) h.owned h.met)
results_pass x names f flags _ os always generic h = cc

-- ══ Loads ══

more_room : (x : ℕ) (value in_memory : Llt) → holds_more value in_memory ≡ true → nat_le (width_of x in_memory) (width_of x value) ≡ true
more_room x (Scalar n) (Scalar m) more = let less : m < n = ltb-true m n more in le-leb m n (omega (arith, less))
more_room x (Scalar n) Pointer more = cc
more_room x Pointer in_memory more = cc

kind_room : (x : ℕ) (kind : Kind) (in_memory : Llt) → is_some (type_of_kind kind) ≡ true → is_roomy memory.Extended (type_of_kind kind) in_memory ≡ true → nat_le (width_of x in_memory) (width_of_kind x kind) ≡ true
kind_room x (kinds.Generic ty) in_memory some roomy = more_room x ty in_memory roomy
kind_room x (kinds.Banked ty) in_memory some roomy = more_room x ty in_memory roomy
kind_room x kinds.Class in_memory some roomy = cc

abbrev PassesZeros : (x : ℕ) (names : List (List ℕ)) (f : FunctionData) (mem : MemOp) (os : List Operand) → Type 0
PassesZeros x names f mem os =
    list_all (has_type f) os ≡ true → roomless (type_in Typed f) memory.Extended (Some mem) os ≡ None → is_fitting_load x Zeros (Some mem) (widths_written (setting_of x names f) os) ≡ true

zeros_row : (x : ℕ) (names : List (List ℕ)) (f : FunctionData) (mem : MemOp) (os : List Operand) → fits unary_typed_forms os ≡ true → PassesZeros x names f mem os
zeros_row x names f mem os fit = take_def (λ l. PassesZeros x names f mem l) (form.TypedUse ∷ []) os fit (λ r kind rest left owned room.
    kind_room x (kind_of f r.0) mem.ty (and_parts (is_typed f r.0) (list_all (has_type f) rest) owned).0 (holds (is_roomy memory.Extended (type_of_kind (kind_of f r.0)) mem.ty) r.0 room))

abbrev is_loading_zeros : Meaning → Bool
is_loading_zeros (Loading Zeros) = true
is_loading_zeros _ = false

zeros_pass : (x : ℕ) (names : List (List ℕ)) (f : FunctionData) (flags : Flags) (o : Opcode) (mem : Option MemOp) (os : List Operand) → is_loading_zeros (meaning_of flags o) ≡ true → fits_one_of (rows_of o) os ≡ true
    → has_access (access_of o) mem ≡ true → list_all (has_type f) os ≡ true → roomless (type_in Typed f) (memory_of o) mem os ≡ None → is_fitting_load x Zeros mem (widths_written (setting_of x names f) os) ≡ true
zeros_pass x names f flags op.GenericZeroExtendLoad None os zeros row access owned room = cc
zeros_pass x names f flags op.GenericZeroExtendLoad (Some mem) os zeros row access owned room = zeros_row x names f mem os (only (fits unary_typed_forms os) row) owned room
zeros_pass x names f flags _ mem os zeros row access owned room = cc

-- what is known of an instruction: of its operands and of its memory
record IsKnownAll (x : ℕ) (f : FunctionData) (i : InstrData) : Type 0 where
  operands : IsKnownBy x f i.op i.operands
  access : has_access (access_of i.op) i.mem ≡ true
  room : roomless (type_in Typed f) (memory_of i.op) i.mem i.operands ≡ None

loads_pass : (x : ℕ) (names : List (List ℕ)) (f : FunctionData) (i : InstrData) (above : Extension) → meaning_of i.flags i.op ≡ Loading above → IsKnownAll x f i
    → is_fitting_load x above i.mem (widths_written (setting_of x names f) i.operands) ≡ true
loads_pass x names f i Anything is h = refl
loads_pass x names f i Signs is h = refl
loads_pass x names f i Zeros is h = zeros_pass x names f i.flags i.op i.mem i.operands (subst (λ m. is_loading_zeros m ≡ true) (sym is) refl) h.operands.row h.access h.operands.owned h.room

-- ══ Functions ══

instruction_passes : (x : ℕ) (names : List (List ℕ)) (f : FunctionData) (i : InstrData) (m : Meaning) → meaning_of i.flags i.op ≡ m → machine_has_words (setting_of x names f) m i ≡ true → IsKnownAll x f i
    → keeps_values (setting_of x names f) m i ≡ true
instruction_passes x names f i Copying is accepted h = refl
instruction_passes x names f i (Generic gives) is accepted h = by (always_fits i.op) refl
  where
    by : (t : Bool) → always_fits i.op ≡ t → is_fitting_result (setting_of x names f) i.op i.operands ≡ true
    by true always = always_passes (setting_of x names f) i.op i.operands always
    by false always = results_pass x names f i.flags i.op i.operands always (subst (λ m. is_generic m ≡ true) (sym is) refl) h.operands
instruction_passes x names f i (Machine gives) is accepted h = accepted
instruction_passes x names f i (Loading above) is accepted h = loads_pass x names f i above is h
instruction_passes x names f i Storing is accepted h = refl
instruction_passes x names f i (MachineLoading exists bytes above) is accepted h = accepted
instruction_passes x names f i (MachineStoring exists bytes) is accepted h = refl
instruction_passes x names f i Jumping is accepted h = refl
instruction_passes x names f i Branching is accepted h = refl
instruction_passes x names f i (MachineBranching test) is accepted h = refl
instruction_passes x names f i Calling is accepted h = calls_bare i.flags i.op i.operands (subst (λ m. is_calling m ≡ true) (sym is) refl) h.operands.row
instruction_passes x names f i Returning is accepted h = refl
instruction_passes x names f i Nothing is accepted h = refl
instruction_passes x names f i Joining is accepted h = phi_passes x names f i.flags i.op i.operands (subst (λ m. is_joining m ≡ true) (sym is) refl) h.operands.row h.operands.owned h.operands.met

-- each instruction keeps it
pub keeps_valid : (x : ℕ) (names : List (List ℕ)) (f : FunctionData) → (x ≡ 32) ⊎ (x ≡ 64) → IsValid x Typed f → are_formed f ≡ true → have_types f ≡ true → has_machine_words (setting_of x names f) f ≡ true
    → (p : ℕ × InstrData) → IsOneOf p (all_instrs f.blocks) → keeps_values (setting_of x names f) (meaning_of p.1.flags p.1.op) p.1 ≡ true
keeps_valid x names f word valid formed owned accepted p there =
    let has : HasRow p.1 = has_row p.1 (one_passes (λ q. is_formed q.1) p (all_instrs f.blocks) formed there) in
    let suits : IsSuited x (type_in Typed f) p.1 = suited x Typed f p.1 refl (instr_met x Typed f valid p there) in
    instruction_passes x names f p.1 (meaning_of p.1.flags p.1.op) refl
    (one_passes (λ q. machine_has_words (setting_of x names f) (meaning_of q.1.flags q.1.op) q.1) p (all_instrs f.blocks) accepted there)
    (record {
      operands = record {
        row = has.row;
        owned = one_passes (λ q. list_all (has_type f) q.1.operands) p (all_instrs f.blocks) owned there;
        met = suits.row;
        sized = one_passes (λ q. is_sized (width_in x f) q.1.op q.1.operands) p (all_instrs f.blocks) (constants_fit x f word valid formed owned) there;
      };
      access = has.access;
      room = suits.room;
    })

pub widths_valid : (x : ℕ) (names : List (List ℕ)) (f : FunctionData) → (x ≡ 32) ⊎ (x ≡ 64) → IsValid x Typed f → are_formed f ≡ true → have_types f ≡ true → has_machine_words (setting_of x names f) f ≡ true → FitsAnywhere x names f
widths_valid x names f word valid formed owned accepted = all_kept x names f word (keeps_valid x names f word valid formed owned accepted)
