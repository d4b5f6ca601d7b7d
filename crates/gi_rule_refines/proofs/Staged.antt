-- What is asked of a function at a stage goes on through a rewrite.
use Rattle.std.proofs.Common.{◌≡◌, ◌⊎◌, inl, inr, ⊎_elim, ℕ, true, ◌&&◌, List, [], ◌∷◌, ◌++◌, Option, length, map, refl, sym, ap, ap₂, ◌∙◌, subst, eq-eqb}
use Rattle.std.proofs.lemmas.Bool.{and_from, and_parts, or_left, or_right}
use Rattle.std.specs.List.{list_all, list_any}
use Rattle.gi_llt.specs.declared.Llt.{Llt}
use Rattle.gi_mir.specs.Accepted.{is_result_type, is_source_type}
use Rattle.gi_mir.specs.Data.{InstrData, FunctionData}
use Rattle.gi_mir.specs.Edit.{all_instrs, defines, is_def_of, is_use_of, uses, with_instr, without_instr}
use Rattle.gi_mir.specs.Registers.{kind_of, type_of_kind}
use Rattle.gi_mir.specs.Stages.{is_kind_of}
use Rattle.gi_mir.specs.declared.block.InstrId.{InstrId}
use Rattle.gi_mir.specs.declared.operand.Kind.{Kind}
use Rattle.gi_mir.specs.declared.operand.Operand.{Operand}
use Rattle.gi_mir.specs.declared.operand.Operand.TheVariants as operand
use Rattle.gi_mir.specs.declared.stage.Stage.{Stage}
use Rattle.gi_meaning.specs.InRow.{results_in, sources_in}
use Rattle.gi_refine.specs.Lifting.{grown}
use Rattle.gi_refine.specs.Refinement.{RefinesUnchecked}
use Rattle.gi_refine.proofs.Refining.{refines_itself, refines_through}
use Rattle.gi_replace.specs.Applying.{all_created, line_of}
use Rattle.gi_rules.specs.Fitting.{is_defined_in}
use Rattle.gi_change_valid.specs.Rewriting.{IsOneOf, IsRewritten}
use Rattle.gi_change_valid.proofs.Computed.{any_one}
use Rattle.gi_change_valid.proofs.Listed.{instrs_after}
use Rattle.gi_change_valid.proofs.Made.{all_of_ids}
use Rattle.gi_valid.specs.Typing.{Phase, Selecting, Typed, Untyped, type_in}
use Rattle.gi_rule_values.specs.Data.{OperationData}
use Rattle.gi_rule_values.specs.declared.rewrite.Slot.{Slot}
use Rattle.gi_rule_values.specs.declared.rewrite.Slot.TheVariants.{At, Stands}
use Rattle.gi_rule_valid.specs.Keeping.{are_placed, gives_types, is_fixed, is_taken, on_each, on_places}
use Rattle.gi_rule_valid.specs.Using.{UseData, all_instrs_for, defined_as, instr_for, kind_in, kind_with, made_of, next_for, operand_for, place_for, registers_for, rewritten_at, targets_of}
use Rattle.gi_rule_valid.proofs.InPlace.{entry_stays, is_replaced_by}
use Rattle.gi_rule_valid.proofs.Lists.{placed_one}
use Rattle.gi_rule_valid.proofs.Typed.{AreAlike, all_alike}
use Rattle.gi_rule_valid.proofs.Valid.{IsSeen, IsUse, inputs_typed, made_typed, rewriting_at, root_of, seen}
use Rattle.gi_rule_refines.specs.Good.{after_all}
use Rattle.gi_rule_refines.specs.Stages.{AreMadeAt, IsGoodAt, IsMadeAt, each_passes, has_banks, has_opcode, is_accepted, is_of_stage, may_be_made, phase_at, registers_of, stand_at}
use Rattle.gi_rule_refines.specs.declared.stages.RuleStage.{RuleStage}
use Rattle.gi_rule_refines.specs.declared.stages.RuleStage.TheVariants as at
use Rattle.gi_rule_refines.proofs.Good.{all_after}
use Rattle.gi_rule_refines.proofs.Refined.{old_kind}
use Rattle.gi_rule_refines.proofs.Rewrites.{good_kept, good_refines, use_of}

-- ══ Banks ══

banks_created : (block : ℕ) (before : Option InstrId) (is : List InstrData) (f : FunctionData) → (all_created block before is f).banked ≡ f.banked
banks_created block before [] f = refl
banks_created block before (i ∷ is) f = banks_created block before is (with_instr f block before i)

banks_stay : (f : FunctionData) (id : ℕ) (u : UseData) → (rewritten_at f id u).banked ≡ f.banked
banks_stay f id u = banks_created _ _ (made_of f id u) (without_instr f id)

kind_right : (stage : RuleStage) (ty : Llt) → gives_types (phase_at stage) ≡ true → is_kind_of (registers_of stage) (kind_with (has_banks stage) ty) ≡ true
kind_right at.Before ty types = refl
kind_right at.Legalized ty types = refl
kind_right at.Banked ty types = refl
kind_right at.Selecting ty types = refl
kind_right at.Selected ty types = cc

-- ══ What is made is of the stage ══

slots_right : (stage : Stage) (registers : List ℕ) (count : ℕ) (slots : List Slot) → list_all (is_taken count) slots ≡ true → list_all (is_defined_in stage) (map (operand_for registers) slots) ≡ true
slots_right stage registers count [] taken = refl
slots_right stage registers count (At place ∷ slots) taken = slots_right stage registers count slots (and_parts (is_taken count (At place)) (list_all (is_taken count) slots) taken).1
slots_right stage registers count (Stands o ∷ slots) taken =
    let each = and_parts (is_fixed o) (list_all (is_taken count) slots) taken in and_from _ _ (by o each.0) (slots_right stage registers count slots each.1)
  where
    by : (o : Operand) → is_fixed o ≡ true → is_defined_in stage o ≡ true
    by (operand.Def r kind) h = cc
    by _ h = refl

results_right : (stage : Stage) (kind : Llt → Kind) → ((ty : Llt) → is_kind_of stage (kind ty) ≡ true) → (rs : List ℕ) (types : List Llt) (os : List Operand) → list_all (is_defined_in stage) os ≡ true
    → list_all (is_defined_in stage) (defined_as kind rs types ++ os) ≡ true
results_right stage kind right [] types os rest = rest
results_right stage kind right (r ∷ rs) [] os rest = rest
results_right stage kind right (r ∷ rs) (ty ∷ types) os rest = and_from _ _ (right ty) (results_right stage kind right rs types os rest)

made_right : (x : ℕ) (stage : RuleStage) (kind : Llt → Kind) → ((ty : Llt) → is_kind_of (registers_of stage) (kind ty) ≡ true) → (line : ℕ) (targets : List (ℕ × ℕ)) (registers : List ℕ) (place next : ℕ) (os : List OperationData)
    → are_placed place os ≡ true → list_all (λ o. has_opcode x stage o.op) os ≡ true → list_all (is_of_stage x stage) (all_instrs_for kind line targets registers place next os) ≡ true
made_right x stage kind right line targets registers place next [] placed opcodes = refl
made_right x stage kind right line targets registers place next (o ∷ os) placed opcodes =
    let one = placed_one place o os placed in
    let rs : List ℕ = registers_for targets place next o.types in
    let each = and_parts (has_opcode x stage o.op) (list_all (λ o. has_opcode x stage o.op) os) opcodes in
    and_from (is_of_stage x stage (instr_for kind registers rs o line)) _
    (and_from (has_opcode x stage o.op) _ each.0 (results_right (registers_of stage) kind right rs o.types (map (operand_for registers) o.slots) (slots_right (registers_of stage) registers place o.slots one.taken)))
    (made_right x stage kind right line targets (grown registers rs) (place_for place o.types) (next_for targets place next o.types) os one.rest each.1)

-- ══ What is made accepts its types ══

accepted_alike : (x : ℕ) (tf tg : ℕ → Option Llt) (i j : InstrData) → j.op ≡ i.op → AreAlike tf tg i j → is_accepted x tg j ≡ is_accepted x tf i
accepted_alike x tf tg i j same alike =
    ap₂ (λ a b. a && b)
    (ap₂ (λ o types. each_passes (is_result_type x o) 0 types) same alike.results)
    (ap₂ (λ o types. each_passes (is_source_type x o) 0 types) same alike.sources)

-- ══ What stood before ══

pub types_same : (tf tg : ℕ → Option Llt) (os : List Operand) → ((r : ℕ) → (list_any (is_def_of r) os ≡ true) ⊎ (list_any (is_use_of r) os ≡ true) → tg r ≡ tf r)
    → (map tg (results_in os) ≡ map tf (results_in os)) × (map tg (sources_in os) ≡ map tf (sources_in os))
types_same tf tg [] same = (refl, refl)
types_same tf tg (o ∷ os) same =
    first o same (types_same tf tg os (λ r is. same r (⊎_elim (λ d. inl (or_right (is_def_of r o) (list_any (is_def_of r) os) d)) (λ u. inr (or_right (is_use_of r o) (list_any (is_use_of r) os) u)) is)))
  where
    first : (p : Operand) → ((r : ℕ) → (list_any (is_def_of r) (p ∷ os) ≡ true) ⊎ (list_any (is_use_of r) (p ∷ os) ≡ true) → tg r ≡ tf r)
        → (map tg (results_in os) ≡ map tf (results_in os)) × (map tg (sources_in os) ≡ map tf (sources_in os))
        → (map tg (results_in (p ∷ os)) ≡ map tf (results_in (p ∷ os))) × (map tg (sources_in (p ∷ os)) ≡ map tf (sources_in (p ∷ os)))
    first (operand.Def q kind) named rest =
        (ap₂ (λ a l. a ∷ l) (named q.0 (inl (or_left (is_def_of q.0 (operand.Def q kind)) (list_any (is_def_of q.0) os) (eq-eqb q.0 q.0 refl)))) rest.0, rest.1)
    first (operand.Use q) named rest =
        (rest.0, ap₂ (λ a l. a ∷ l) (named q.0 (inr (or_left (is_use_of q.0 (operand.Use q)) (list_any (is_use_of q.0) os) (eq-eqb q.0 q.0 refl)))) rest.1)
    first _ named rest = rest

-- ══ A use ══

-- what is asked of each instruction goes on
stand_after : (x : ℕ) (stage : RuleStage) (f : FunctionData) (id : ℕ) (u : UseData) → gives_types (phase_at stage) ≡ true → IsUse x (phase_at stage) f id u → f.banked ≡ has_banks stage
    → may_be_made x stage u.rewrite ≡ true → stand_at x stage f ≡ true → stand_at x stage (rewritten_at f id u) ≡ true
stand_after x stage f id u types c banked may stand = and_from _ _ of_stage accepted
  where
    s : IsSeen f id u c.fits.line
    s = seen x (phase_at stage) f id u c

    is : IsRewritten (rewriting_at f id u c.fits.line) f (rewritten_at f id u)
    is = is_replaced_by f id (root_of f u c.fits.line) (made_of f id u) c.own c.live c.fits.root

    right : (ty : Llt) → is_kind_of (registers_of stage) (kind_in f ty) ≡ true
    right ty = subst (λ b. is_kind_of (registers_of stage) (kind_with b ty) ≡ true) (sym banked) (kind_right stage ty types)

    mays : (list_all (λ o. has_opcode x stage o.op) u.rewrite.made ≡ true) × (on_each (is_accepted x) u.rewrite.inputs u.rewrite.made ≡ true)
    mays = and_parts (list_all (λ o. has_opcode x stage o.op) u.rewrite.made) (on_each (is_accepted x) u.rewrite.inputs u.rewrite.made) may

    stood : (list_all (λ p. is_of_stage x stage p.1) (all_instrs f.blocks) ≡ true) × (list_all (λ p. is_accepted x (type_in (phase_at stage) f) p.1) (all_instrs f.blocks) ≡ true)
    stood = and_parts (list_all (λ p. is_of_stage x stage p.1) (all_instrs f.blocks)) (list_all (λ p. is_accepted x (type_in (phase_at stage) f) p.1) (all_instrs f.blocks)) stand

    of_stage : list_all (λ p. is_of_stage x stage p.1) (all_instrs (rewritten_at f id u).blocks) ≡ true
    of_stage =
        ap (list_all (λ p. is_of_stage x stage p.1)) (instrs_after (rewriting_at f id u c.fits.line) f (rewritten_at f id u) is)
        ∙ all_after (rewriting_at f id u c.fits.line) (λ p. is_of_stage x stage p.1) (λ p. is_of_stage x stage p.1) entry_stays
        (all_of_ids (is_of_stage x stage) f.next_id (made_of f id u)
        ∙ made_right x stage (kind_in f) right (line_of f id) (targets_of u) u.inputs (length u.inputs) f.next_reg u.rewrite.made s.placed mays.0)
        (all_instrs f.blocks) (λ p there. refl) stood.0

    accepted : list_all (λ p. is_accepted x (type_in (phase_at stage) (rewritten_at f id u)) p.1) (all_instrs (rewritten_at f id u).blocks) ≡ true
    accepted =
        ap (list_all (λ p. is_accepted x (type_in (phase_at stage) (rewritten_at f id u)) p.1)) (instrs_after (rewriting_at f id u c.fits.line) f (rewritten_at f id u) is)
        ∙ all_after (rewriting_at f id u c.fits.line) (λ p. is_accepted x (type_in (phase_at stage) f) p.1) (λ p. is_accepted x (type_in (phase_at stage) (rewritten_at f id u)) p.1) entry_stays
        (all_of_ids (is_accepted x (type_in (phase_at stage) (rewritten_at f id u))) f.next_id (made_of f id u)
        ∙ all_alike (is_accepted x) (type_in (phase_at stage) (rewritten_at f id u)) (kind_in f) (line_of f id)
        (λ registers rs types place o set alike passed. accepted_alike x _ _ (on_places (length types) o) (instr_for (kind_in f) registers rs o (line_of f id)) refl alike ∙ passed)
        (targets_of u) u.inputs u.rewrite.inputs (length u.inputs) f.next_reg u.rewrite.made (sym s.many) (inputs_typed x (phase_at stage) f id u types c) s.placed mays.1 (made_typed x (phase_at stage) f id u types c))
        (all_instrs f.blocks) same stood.1
      where
        same : (p : ℕ × InstrData) → IsOneOf p (all_instrs f.blocks) → is_accepted x (type_in (phase_at stage) (rewritten_at f id u)) p.1 ≡ is_accepted x (type_in (phase_at stage) f) p.1
        same p there =
            let each = types_same (type_in (phase_at stage) f) (type_in (phase_at stage) (rewritten_at f id u)) p.1.operands
            (λ r named. type_kept r (old_kind x (phase_at stage) f id u c r
            (⊎_elim (λ d. c.had.defined r (any_one (defines r) p (all_instrs f.blocks) there d)) (λ d. c.had.used r (any_one (uses r) p (all_instrs f.blocks) there d)) named))) in
            ap₂ (λ a b. each_passes (is_result_type x p.1.op) 0 a && each_passes (is_source_type x p.1.op) 0 b) each.0 each.1
          where
            type_kept : (r : ℕ) → kind_of (rewritten_at f id u) r ≡ kind_of f r → type_in (phase_at stage) (rewritten_at f id u) r ≡ type_in (phase_at stage) f r
            type_kept r kept = by (phase_at stage)
              where
                by : (phase : Phase) → type_in phase (rewritten_at f id u) r ≡ type_in phase f r
                by Untyped = refl
                by Typed = ap type_of_kind kept
                by Selecting = ap type_of_kind kept

pub one_follows : (x : ℕ) (stage : RuleStage) (names : List (List ℕ)) (f : FunctionData) (id : ℕ) (u : UseData) → (x ≡ 32) ⊎ (x ≡ 64) → gives_types (phase_at stage) ≡ true → IsGoodAt x stage names f → IsMadeAt x stage f id u
    → IsGoodAt x stage names (rewritten_at f id u) × RefinesUnchecked x names f (rewritten_at f id u)
one_follows x stage names f id u word types good made = (
  record {
    good = good_kept x (phase_at stage) names f id u types good.good made.made;
    banked = banks_stay f id u ∙ good.banked;
    stand = stand_after x stage f id u types (use_of x (phase_at stage) names f id u good.good made.made) good.banked made.may good.stand;
  },
  good_refines x (phase_at stage) names f id u word good.good made.made,
)

pub all_follow_at : (x : ℕ) (stage : RuleStage) (names : List (List ℕ)) (f : FunctionData) (us : List (ℕ × UseData)) → (x ≡ 32) ⊎ (x ≡ 64) → gives_types (phase_at stage) ≡ true → IsGoodAt x stage names f → AreMadeAt x stage f us
    → IsGoodAt x stage names (after_all f us) × RefinesUnchecked x names f (after_all f us)
all_follow_at x stage names f [] word types good made = (good, refines_itself x names f)
all_follow_at x stage names f (p ∷ us) word types good made =
    let first = one_follows x stage names f p.0 p.1 word types good made.0 in
    let rest = all_follow_at x stage names (rewritten_at f p.0 p.1) us word types first.0 made.1 in
    (rest.0, refines_through x names f (rewritten_at f p.0 p.1) (after_all f (p ∷ us)) first.1 rest.1)
