-- The beginnings: a function that was checked, and one whose selection begins.
use Rattle.std.proofs.Common.{◌≡◌, ◌⊎◌, ℕ, Bool, true, false, cond, List, [], ◌∷◌, ◌++◌, Option, Some, None, refl, sym, ap₂, subst, ◌+◌, map, is_some}
use Rattle.std.proofs.lemmas.Bool.{and_from, and_parts, or_left}
use Rattle.std.specs.List.{list_all}
use Rattle.std.specs.Option.{option_or}
use Rattle.std.specs.Prelude.{option_map}
use Rattle.gi_mir.specs.Data.{InstrData, FunctionData, reg_of}
use Rattle.gi_mir.specs.Edit.{all_instrs}
use Rattle.gi_mir.specs.declared.stage.Stage.TheVariants as function_stage
use Rattle.gi_llt.specs.declared.Llt.{Llt}
use Rattle.gi_mir.specs.Accepted.{is_result_type, is_source_type}
use Rattle.gi_mir.specs.Row.{standing_of}
use Rattle.gi_mir.specs.Stages.{stands_in}
use Rattle.gi_mir.specs.declared.entry.Standing.{Standing}
use Rattle.gi_mir.specs.declared.entry.Standing.TheVariants as standing
use Rattle.gi_mir.specs.declared.opcode.Opcode.{Opcode}
use Rattle.gi_mir.specs.declared.opcode.Opcode.TheVariants as op
use Rattle.gi_mir.specs.declared.operand.Flags.{Flags}
use Rattle.gi_mir.specs.declared.operand.Operand.{Operand}
use Rattle.gi_mir.specs.declared.operand.Operand.TheVariants as operand
use Rattle.gi_meaning.specs.InRow.{results_in, sources_in}
use Rattle.gi_meaning.specs.Meaning.{meaning_of}
use Rattle.gi_meaning.specs.Runs.{Setting, setting_of}
use Rattle.gi_rules.specs.Fitting.{stands_on}
use Rattle.gi_valid.specs.Available.{Extent}
use Rattle.gi_valid.specs.Faults.{Site, double_definitions, fault_in, not_available, others_in, phi_entries, physical_across, sites, terminator, told, unknown_block, unknown_successors}
use Rattle.gi_valid.specs.Typing.{Selecting, Typed, joins_any, type_in, unsuited}
use Rattle.gi_valid.specs.Valid.{IsValid}
use Rattle.gi_valid.specs.declared.invalid.Invalid.{Invalid}
use Rattle.gi_valid.specs.declared.invalid.Invalid.TheVariants.{TypeMismatch}
use Rattle.gi_valid.proofs.Sited.{nothing_in_either}
use Rattle.gi_change_valid.proofs.Valid.{fewer}
use Rattle.gi_change_refines.specs.Sized.{are_formed}
use Rattle.gi_change_refines.specs.Typed.{has_type}
use Rattle.gi_change_refines.specs.Numbered.{is_numbered}
use Rattle.gi_change_refines.specs.Widths.{machine_has_words}
use Rattle.gi_rule_refines.specs.Good.{IsGood}
use Rattle.gi_rule_refines.specs.Stages.{IsGoodAt, each_passes, has_banks, has_opcode, is_accepted, is_of_stage, phase_at, registers_of, stand_at}
use Rattle.gi_rule_refines.specs.declared.stages.RuleStage.{RuleStage}
use Rattle.gi_rule_refines.specs.declared.stages.RuleStage.TheVariants as at
use Rattle.gi_rule_refines.proofs.Rewrites.{good_valid}

-- ══ What the tests of a stage say besides ══

-- registers have types, where their opcodes accept them
passes_first : (test : ℕ → Llt → Bool) (place : ℕ) (ty : Option Llt) (types : List (Option Llt)) → each_passes test place (ty ∷ types) ≡ true → (is_some ty ≡ true) × (each_passes test (place + 1) types ≡ true)
passes_first test place None types h = cc
passes_first test place (Some ty) types h = (refl, (and_parts (test place ty) (each_passes test (place + 1) types) h).1)

operands_typed : (f : FunctionData) (test other : ℕ → Llt → Bool) (place behind : ℕ) (os : List Operand) → each_passes test place (map (type_in Typed f) (results_in os)) ≡ true → each_passes other behind (map (type_in Typed f) (sources_in os)) ≡ true
    → list_all (has_type f) os ≡ true
operands_typed f test other place behind [] results sources = refl
operands_typed f test other place behind (operand.Def r kind ∷ os) results sources =
    let first = passes_first test place (type_in Typed f r.0) (map (type_in Typed f) (results_in os)) results in
    and_from (has_type f (operand.Def r kind)) (list_all (has_type f) os) first.0 (operands_typed f test other (place + 1) behind os first.1 sources)
operands_typed f test other place behind (operand.Use r ∷ os) results sources =
    let first = passes_first other behind (type_in Typed f r.0) (map (type_in Typed f) (sources_in os)) sources in
    and_from (has_type f (operand.Use r)) (list_all (has_type f) os) first.0 (operands_typed f test other place (behind + 1) os results first.1)
operands_typed f test other place behind (_ ∷ os) results sources = operands_typed f test other place behind os results sources

all_typed : (x : ℕ) (f : FunctionData) (is : List (ℕ × InstrData)) → list_all (λ p. is_accepted x (type_in Typed f) p.1) is ≡ true → list_all (λ p. list_all (has_type f) p.1.operands) is ≡ true
all_typed x f [] h = refl
all_typed x f (p ∷ is) h =
    let each = and_parts (is_accepted x (type_in Typed f) p.1) (list_all (λ p. is_accepted x (type_in Typed f) p.1) is) h in
    let both = and_parts (each_passes (is_result_type x p.1.op) 0 (map (type_in Typed f) (results_in p.1.operands))) (each_passes (is_source_type x p.1.op) 0 (map (type_in Typed f) (sources_in p.1.operands))) each.0 in
    and_from (list_all (has_type f) p.1.operands) _ (operands_typed f (is_result_type x p.1.op) (is_source_type x p.1.op) 0 0 p.1.operands both.0 both.1) (all_typed x f is each.1)

-- before selection no instruction is the machine's
abbrev is_target : Standing → Bool
is_target standing.Target = true
is_target _ = false

no_target : (stage : RuleStage) (kind : Standing) → phase_at stage ≡ Typed → stands_in (registers_of stage) kind ≡ true → is_target kind ≡ false
no_target at.Before standing.Target phase h = cc
no_target at.Legalized standing.Target phase h = cc
no_target at.Banked standing.Target phase h = cc
no_target at.Selecting standing.Target phase h = cc
no_target at.Selected standing.Target phase h = cc
no_target stage standing.Generic phase h = refl
no_target stage standing.Both phase h = refl

no_words : (s : Setting) (i : InstrData) (flags : Flags) (o : Opcode) → is_target (standing_of o) ≡ false → machine_has_words s (meaning_of flags o) i ≡ true
no_words s i flags op.Add h = cc
no_words s i flags op.Subtract h = cc
no_words s i flags op.And h = cc
no_words s i flags op.Or h = cc
no_words s i flags op.Xor h = cc
no_words s i flags op.SetLess h = cc
no_words s i flags op.SetLessUnsigned h = cc
no_words s i flags op.ShiftLeftLogical h = cc
no_words s i flags op.ShiftRightLogical h = cc
no_words s i flags op.ShiftRightArithmetic h = cc
no_words s i flags op.Multiply h = cc
no_words s i flags op.MultiplyHigh h = cc
no_words s i flags op.MultiplyHighUnsigned h = cc
no_words s i flags op.Divide h = cc
no_words s i flags op.DivideUnsigned h = cc
no_words s i flags op.Remainder h = cc
no_words s i flags op.RemainderUnsigned h = cc
no_words s i flags op.AddImmediate h = cc
no_words s i flags op.SetLessImmediate h = cc
no_words s i flags op.SetLessImmediateUnsigned h = cc
no_words s i flags op.AndImmediate h = cc
no_words s i flags op.OrImmediate h = cc
no_words s i flags op.XorImmediate h = cc
no_words s i flags op.ShiftLeftLogicalImmediate h = cc
no_words s i flags op.ShiftRightLogicalImmediate h = cc
no_words s i flags op.ShiftRightArithmeticImmediate h = cc
no_words s i flags op.LoadUpperImmediate h = cc
no_words s i flags op.AddWord h = cc
no_words s i flags op.SubtractWord h = cc
no_words s i flags op.MultiplyWord h = cc
no_words s i flags op.ShiftLeftLogicalWord h = cc
no_words s i flags op.ShiftRightLogicalWord h = cc
no_words s i flags op.ShiftRightArithmeticWord h = cc
no_words s i flags op.DivideWord h = cc
no_words s i flags op.DivideUnsignedWord h = cc
no_words s i flags op.RemainderWord h = cc
no_words s i flags op.RemainderUnsignedWord h = cc
no_words s i flags op.AddImmediateWord h = cc
no_words s i flags op.ShiftLeftLogicalImmediateWord h = cc
no_words s i flags op.ShiftRightLogicalImmediateWord h = cc
no_words s i flags op.ShiftRightArithmeticImmediateWord h = cc
no_words s i flags op.LoadByte h = cc
no_words s i flags op.LoadHalf h = cc
no_words s i flags op.LoadWord h = cc
no_words s i flags op.LoadByteUnsigned h = cc
no_words s i flags op.LoadHalfUnsigned h = cc
no_words s i flags op.LoadWordUnsigned h = cc
no_words s i flags op.LoadDouble h = cc
no_words s i flags _ h = refl

all_words : (x : ℕ) (stage : RuleStage) (s : Setting) (is : List (ℕ × InstrData)) → phase_at stage ≡ Typed → list_all (λ p. is_of_stage x stage p.1) is ≡ true → list_all (λ p. machine_has_words s (meaning_of p.1.flags p.1.op) p.1) is ≡ true
all_words x stage s [] phase h = refl
all_words x stage s (p ∷ is) phase h =
    let each = and_parts (is_of_stage x stage p.1) (list_all (λ p. is_of_stage x stage p.1) is) h in
    and_from (machine_has_words s (meaning_of p.1.flags p.1.op) p.1) _ (no_words s p.1 p.1.flags p.1.op (no_target stage (standing_of p.1.op) phase (by stage phase (and_parts (has_opcode x stage p.1.op) _ each.0).0))) (all_words x stage s is phase each.1)
  where
    by : (stage : RuleStage) → phase_at stage ≡ Typed → has_opcode x stage p.1.op ≡ true → stands_in (registers_of stage) (standing_of p.1.op) ≡ true
    by at.Before phase h = (and_parts (stands_in function_stage.Before (standing_of p.1.op)) _ h).0
    by at.Legalized phase h = (and_parts (stands_in function_stage.Legalized (standing_of p.1.op)) _ h).0
    by at.Banked phase h = (and_parts (stands_in function_stage.Banked (standing_of p.1.op)) _ h).0
    by at.Selecting phase h = cc
    by at.Selected phase h = cc

-- ══ Checked ══

pub checked : (x : ℕ) (stage : RuleStage) (names : List (List ℕ)) (f : FunctionData) → (x ≡ 32) ⊎ (x ≡ 64) → phase_at stage ≡ Typed → IsValid x Typed f → is_numbered f ≡ true → are_formed f ≡ true → f.banked ≡ has_banks stage → stand_at x stage f ≡ true
    → IsGoodAt x stage names f
checked x stage names f word phase valid numbered formed banked stand =
    let stood = and_parts (list_all (λ p. is_of_stage x stage p.1) (all_instrs f.blocks)) (list_all (λ p. is_accepted x (type_in (phase_at stage) f) p.1) (all_instrs f.blocks)) stand in
    let accepted : list_all (λ p. is_accepted x (type_in Typed f) p.1) (all_instrs f.blocks) ≡ true = subst (λ q. list_all (λ p. is_accepted x (type_in q f) p.1) (all_instrs f.blocks) ≡ true) phase stood.1 in
    record {
      good = subst (λ p. IsGood x p names f) (sym phase)
          (good_valid x names f word valid numbered formed (all_typed x f (all_instrs f.blocks) accepted) (all_words x stage (setting_of x names f) (all_instrs f.blocks) phase stood.0));
      banked = banked;
      stand = stand;
    }

-- ══ Selection begins ══

still_none : {A : Type 0} (a b c : Option A) → (b ≡ None → c ≡ None) → option_or a b ≡ None → option_or a c ≡ None
still_none None b c less h = less h
still_none (Some a) b c less h = cc

-- a test that is left out where copies join types
left_out : (joined : Bool) (unsuited : Option ℕ) (rest : Option Invalid) → option_or (option_map (λ r. TypeMismatch (reg_of r)) unsuited) rest ≡ None → option_or (option_map (λ r. TypeMismatch (reg_of r)) (cond joined None unsuited)) rest ≡ None
left_out true None rest h = h
left_out true (Some r) rest h = cc
left_out false unsuited rest h = h

-- no more is told of a site
less_told : (x : ℕ) (f : FunctionData) (extents : ℕ → Extent) (site : Site) → fault_in x Typed f extents site ≡ None → fault_in x Selecting f extents site ≡ None
less_told x f extents site =
    still_none (not_available f extents site) (others_in x Typed f site) (others_in x Selecting f site)
    (left_out (joins_any Selecting site.instr) (unsuited x (type_in Typed f) site.instr)
    (option_or (unknown_block f site) (option_or (phi_entries f site) (option_or (physical_across x Typed f site) (terminator f site)))))

valid_begun : (x : ℕ) (f : FunctionData) → IsValid x Typed f → IsValid x Selecting f
valid_begun x f valid =
    let e : ℕ → Extent = valid.extents in
    let outer = nothing_in_either (double_definitions f ++ told (fault_in x Typed f e) (sites f)) (unknown_successors f 1 f.blocks) valid.faultless in
    let inner = nothing_in_either (double_definitions f) (told (fault_in x Typed f e) (sites f)) outer.0 in
    record {
      extents = valid.extents;
      contained = valid.contained;
      faultless = ap₂ (λ a b. a ++ b) (ap₂ (λ a b. a ++ b) inner.0 (fewer (fault_in x Typed f e) (fault_in x Selecting f e) (less_told x f e) (sites f) inner.1)) outer.1;
    }

stand_begun : (x : ℕ) (is : List (ℕ × InstrData)) → list_all (λ p. is_of_stage x at.Banked p.1) is ≡ true → list_all (λ p. is_of_stage x at.Selecting p.1) is ≡ true
stand_begun x [] h = refl
stand_begun x (p ∷ is) h =
    let each = and_parts (is_of_stage x at.Banked p.1) (list_all (λ p. is_of_stage x at.Banked p.1) is) h in
    let one = and_parts (stands_on x function_stage.Banked p.1.op) _ each.0 in
    and_from (is_of_stage x at.Selecting p.1) _ (and_from _ _ (or_left (stands_on x function_stage.Banked p.1.op) (stands_on x function_stage.Selected p.1.op) one.0) one.1) (stand_begun x is each.1)

pub begun : (x : ℕ) (names : List (List ℕ)) (f : FunctionData) → IsGoodAt x at.Banked names f → IsGoodAt x at.Selecting names f
begun x names f good =
    let stood = and_parts (list_all (λ p. is_of_stage x at.Banked p.1) (all_instrs f.blocks)) (list_all (λ p. is_accepted x (type_in Typed f) p.1) (all_instrs f.blocks)) good.stand in
    record {
      good = record { valid = valid_begun x f good.good.valid; own = good.good.own; had = good.good.had; fit = good.good.fit };
      banked = good.banked;
      stand = and_from _ _ (stand_begun x (all_instrs f.blocks) stood.0) stood.1;
    }
