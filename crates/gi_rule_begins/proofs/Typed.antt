-- In a checked function before selection each register has a type, and each opcode accepts the types that it has.
use Rattle.std.proofs.Common.{◌≡◌, ℕ, Bool, true, false, cond, not, ◌&&◌, ◌||◌, ◌==◌, List, [], ◌∷◌, Option, Some, None, map, inl, inr, refl, sym, ap, ◌∙◌, eq-eqb, is_some, unwrap_or}
use Rattle.std.proofs.lemmas.Bool.{and_from, and_parts, or_left, or_right}
use Rattle.std.specs.List.{list_all, list_any}
use Rattle.std.specs.Option.{option_map_or}
use Rattle.gi_llt.specs.declared.Llt.{Llt}
use Rattle.gi_mir.specs.Data.{InstrData, FunctionData}
use Rattle.gi_mir.specs.Edit.{all_instrs, defines, is_def_of, is_use_of}
use Rattle.gi_mir.specs.Formed.{fits_one_of, has_access, is_formed, is_in_range}
use Rattle.gi_mir.specs.Registers.{first_there, kind_in_instrs, kind_in_operand, kind_in_operands, type_of_kind}
use Rattle.gi_mir.specs.Row.{access_of, rows_of}
use Rattle.gi_mir.specs.Stages.{is_kind_of}
use Rattle.gi_mir.specs.declared.operand.Kind.{Kind}
use Rattle.gi_mir.specs.declared.operand.Kind.TheVariants as kind
use Rattle.gi_mir.specs.declared.operand.Operand.{Operand}
use Rattle.gi_mir.specs.declared.operand.Operand.TheVariants as operand
use Rattle.gi_meaning.specs.InRow.{results_in, sources_in}
use Rattle.gi_rules.specs.Fitting.{is_defined_in}
use Rattle.gi_change_valid.specs.Rewriting.{IsOneOf}
use Rattle.gi_change_valid.proofs.Computed.{any_one}
use Rattle.gi_change_valid.proofs.Typed.{kind_in_all}
use Rattle.gi_change_valid.proofs.Valid.{instr_met}
use Rattle.gi_valid.specs.Typing.{Typed, type_in}
use Rattle.gi_valid.specs.Valid.{IsValid}
use Rattle.gi_change_refines.specs.Sized.{are_formed}
use Rattle.gi_rule_refines.specs.Stages.{are_accepted, has_opcode, is_accepted, is_of_stage, phase_at, registers_of}
use Rattle.gi_rule_refines.specs.declared.stages.RuleStage.{RuleStage}
use Rattle.gi_rule_refines.specs.declared.stages.RuleStage.TheVariants as at
use Rattle.gi_rule_begins.proofs.Accepted.{suited_accepted}
use Rattle.gi_rule_begins.proofs.Defined.{used_defined}

-- ══ Kinds ══

kind_typed : (stage : RuleStage) (k : Kind) → phase_at stage ≡ Typed → is_kind_of (registers_of stage) k ≡ true → is_some (type_of_kind k) ≡ true
kind_typed stage (kind.Generic ty) phase own = refl
kind_typed stage (kind.Banked ty) phase own = refl
kind_typed at.Before kind.Class phase own = cc
kind_typed at.Legalized kind.Class phase own = cc
kind_typed at.Banked kind.Class phase own = cc
kind_typed at.Selecting kind.Class phase own = cc
kind_typed at.Selected kind.Class phase own = cc

-- a kind that is found has a type, and none is found only where there is no definition
abbrev found_typed : Option Kind → (defined : Bool) → Bool
found_typed found defined = option_map_or (λ k. is_some (type_of_kind k)) found (not defined)

first_typed : (a b : Option Kind) (s t : Bool) → found_typed a s ≡ true → found_typed b t ≡ true → found_typed (first_there a b) (s || t) ≡ true
first_typed (Some k) b s t here later = here
first_typed None b false t here later = later
first_typed None b true t here later = cc

operands_typed : (stage : RuleStage) (r : ℕ) (os : List Operand) → phase_at stage ≡ Typed → list_all (is_defined_in (registers_of stage)) os ≡ true → found_typed (kind_in_operands r os) (list_any (is_def_of r) os) ≡ true
operands_typed stage r [] phase own = refl
operands_typed stage r (o ∷ os) phase own =
    let each = and_parts (is_defined_in (registers_of stage) o) (list_all (is_defined_in (registers_of stage)) os) own in
    first_typed (kind_in_operand r o) (kind_in_operands r os) (is_def_of r o) (list_any (is_def_of r) os) (one o each.0) (operands_typed stage r os phase each.1)
  where
    one : (o : Operand) → is_defined_in (registers_of stage) o ≡ true → found_typed (kind_in_operand r o) (is_def_of r o) ≡ true
    one (operand.Def q k) own = by (q.0 == r)
      where
        by : (t : Bool) → found_typed (cond t (Some k) None) t ≡ true
        by true = kind_typed stage k phase own
        by false = refl
    one _ own = refl

instrs_typed : (x : ℕ) (stage : RuleStage) (r : ℕ) (is : List (ℕ × InstrData)) → phase_at stage ≡ Typed → list_all (λ p. is_of_stage x stage p.1) is ≡ true → found_typed (kind_in_instrs r is) (list_any (defines r) is) ≡ true
instrs_typed x stage r [] phase own = refl
instrs_typed x stage r (p ∷ is) phase own =
    let each = and_parts (is_of_stage x stage p.1) (list_all (λ p. is_of_stage x stage p.1) is) own in
    first_typed (kind_in_operands r p.1.operands) (kind_in_instrs r is) (defines r p) (list_any (defines r) is)
    (operands_typed stage r p.1.operands phase (and_parts (has_opcode x stage p.1.op) (list_all (is_defined_in (registers_of stage)) p.1.operands) each.0).1) (instrs_typed x stage r is phase each.1)

-- a register that is defined has a type
defined_typed : (x : ℕ) (stage : RuleStage) (f : FunctionData) (r : ℕ) → phase_at stage ≡ Typed → list_all (λ p. is_of_stage x stage p.1) (all_instrs f.blocks) ≡ true → list_any (defines r) (all_instrs f.blocks) ≡ true
    → is_some (type_in Typed f r) ≡ true
defined_typed x stage f r phase own defined =
    ap (λ o. is_some (type_of_kind (unwrap_or o kind.Class))) (kind_in_all r f.blocks)
    ∙ by (kind_in_instrs r (all_instrs f.blocks)) (sym (ap (λ t. found_typed (kind_in_instrs r (all_instrs f.blocks)) t) defined) ∙ instrs_typed x stage r (all_instrs f.blocks) phase own)
  where
    by : (o : Option Kind) → found_typed o true ≡ true → is_some (type_of_kind (unwrap_or o kind.Class)) ≡ true
    by None h = cc
    by (Some k) h = h

-- ══ Types ══

results_typed : (tf : ℕ → Option Llt) (os : List Operand) → ((r : ℕ) → list_any (is_def_of r) os ≡ true → is_some (tf r) ≡ true) → list_all is_some (map tf (results_in os)) ≡ true
results_typed tf [] each = refl
results_typed tf (operand.Def r k ∷ os) each =
    and_from (is_some (tf r.0)) (list_all is_some (map tf (results_in os))) (each r.0 (or_left (r.0 == r.0) (list_any (is_def_of r.0) os) (eq-eqb r.0 r.0 refl)))
    (results_typed tf os (λ q there. each q (or_right (r.0 == q) (list_any (is_def_of q) os) there)))
results_typed tf (_ ∷ os) each = results_typed tf os each

sources_typed : (tf : ℕ → Option Llt) (os : List Operand) → ((r : ℕ) → list_any (is_use_of r) os ≡ true → is_some (tf r) ≡ true) → list_all is_some (map tf (sources_in os)) ≡ true
sources_typed tf [] each = refl
sources_typed tf (operand.Use r ∷ os) each =
    and_from (is_some (tf r.0)) (list_all is_some (map tf (sources_in os))) (each r.0 (or_left (r.0 == r.0) (list_any (is_use_of r.0) os) (eq-eqb r.0 r.0 refl)))
    (sources_typed tf os (λ q there. each q (or_right (r.0 == q) (list_any (is_use_of q) os) there)))
sources_typed tf (_ ∷ os) each = sources_typed tf os each

formed_fits : (i : InstrData) → is_formed i ≡ true → fits_one_of (rows_of i.op) i.operands ≡ true
unfolding is_formed
formed_fits i formed = (and_parts (fits_one_of (rows_of i.op) i.operands) (has_access (access_of i.op) i.mem) (and_parts (fits_one_of (rows_of i.op) i.operands && has_access (access_of i.op) i.mem) (list_all is_in_range i.operands) formed).0).0

one_accepted : (x : ℕ) (stage : RuleStage) (f : FunctionData) → phase_at stage ≡ Typed → IsValid x Typed f → list_all (λ p. is_of_stage x stage p.1) (all_instrs f.blocks) ≡ true → (p : ℕ × InstrData) → IsOneOf p (all_instrs f.blocks) → is_formed p.1 ≡ true
    → is_accepted x (type_in Typed f) p.1 ≡ true
one_accepted x stage f phase valid own p there formed =
    suited_accepted x (type_in Typed f) p.1 (instr_met x Typed f valid p there) (formed_fits p.1 formed)
    (results_typed (type_in Typed f) p.1.operands (λ r defined. defined_typed x stage f r phase own (any_one (defines r) p (all_instrs f.blocks) there defined)))
    (sources_typed (type_in Typed f) p.1.operands (λ r used. defined_typed x stage f r phase own (used_defined x Typed f valid p there (formed_fits p.1 formed) r used)))

all_passed : (test other : ℕ × InstrData → Bool) (is : List (ℕ × InstrData)) → ((p : ℕ × InstrData) → IsOneOf p is → other p ≡ true → test p ≡ true) → list_all other is ≡ true → list_all test is ≡ true
all_passed test other [] each all = refl
all_passed test other (p ∷ is) each all =
    let both = and_parts (other p) (list_all other is) all in and_from (test p) (list_all test is) (each p (inl refl) both.0) (all_passed test other is (λ q there. each q (inr there)) both.1)

pub all_accepted : (x : ℕ) (stage : RuleStage) (f : FunctionData) → phase_at stage ≡ Typed → IsValid x Typed f → list_all (λ p. is_of_stage x stage p.1) (all_instrs f.blocks) ≡ true → are_formed f ≡ true → are_accepted x Typed f ≡ true
all_accepted x stage f phase valid own formed = all_passed (λ p. is_accepted x (type_in Typed f) p.1) (λ p. is_formed p.1) (all_instrs f.blocks) (λ p there formed. one_accepted x stage f phase valid own p there formed) formed
