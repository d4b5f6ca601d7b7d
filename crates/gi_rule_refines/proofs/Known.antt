-- What is known of the states that runs reach where a rewrite fits: its definitions hold.
use Rattle.std.proofs.Common.{◌≡◌, ℕ, suc, ◌≤◌, ◌<◌, true, ◌&&◌, ◌==◌, nat_lt, List, [], ◌∷◌, ◌++◌, Option, Some, None, option_map, length, map, slice_get, inl, inr, ⊎_elim, ◌⊎◌, refl, sym, ap, ap₂, ◌∙◌, subst, arith, append_assoc, ltb-true}
use Rattle.std.proofs.lemmas.Bool.{and_parts, and_from, or_cases, eqb-true}
use Rattle.std.specs.List.{list_all}
use Rattle.gi_llt.specs.Llt.{width_of}
use Rattle.gi_llt.specs.declared.Llt.{Llt}
use Rattle.gi_mir.specs.Data.{InstrData, BlockData, FunctionData}
use Rattle.gi_mir.specs.Edit.{all_instrs, defines}
use Rattle.gi_mir.specs.Registers.{kind_of}
use Rattle.gi_mir.specs.declared.operand.Kind.{Kind}
use Rattle.gi_mir.specs.declared.operand.Operand.{Operand}
use Rattle.gi_mir.specs.declared.operand.Operand.TheVariants as operand
use Rattle.gi_meaning.specs.Act.{Act, Results}
use Rattle.gi_meaning.specs.Argument.{Argument, Value}
use Rattle.gi_meaning.specs.InRow.{results_in}
use Rattle.gi_meaning.specs.Meaning.{meaning_of}
use Rattle.gi_meaning.specs.Runs.{Setting, after_phis, argument_of, arguments_of, joined_lists, phis_of, setting_of, width_of_kind}
use Rattle.gi_meaning.specs.State.{IsWorld, Outside, State, World}
use Rattle.gi_refine.specs.Agreement.{setting}
use Rattle.gi_refine.specs.Lifting.{HasValue, Reads}
use Rattle.gi_refine.specs.Reached.{IsReached}
use Rattle.gi_refine.specs.RuleUse.{width_in}
use Rattle.gi_refine.specs.Values.{ActsFrom, AllHold, Environment, Holds, StandAt}
use Rattle.gi_refine.proofs.ValuesStepped.{BothRead, both_read, parts}
use Rattle.gi_valid.specs.Definitions.{definition, is_pure, uses_purely}
use Rattle.gi_valid.specs.Facts.{AreHeld, HoldsDefinition, is_computing, is_fixed as is_steady_operand, is_steady}
use Rattle.gi_valid.specs.Typing.{Phase}
use Rattle.gi_valid.specs.Valid.{IsValid}
use Rattle.gi_valid.proofs.Holding.{definition_holds}
use Rattle.gi_valid.proofs.Single.{often, results_once}
use Rattle.gi_valid.proofs.Sited.{phis_and_others}
use Rattle.gi_valid.proofs.Valid.{orderly}
use Rattle.gi_change_valid.specs.Rewriting.{IsOneOf}
use Rattle.gi_change_valid.specs.Numbers.{computes, is_in}
use Rattle.gi_change_valid.proofs.Numbers.{in_first_or_rest}
use Rattle.gi_change_valid.proofs.Circles.{is_here}
use Rattle.gi_change_valid.proofs.KeptKinds.{root_kind}
use Rattle.gi_change_valid.proofs.Staying.{origin_here}
use Rattle.gi_change_valid.proofs.Typed.{found_there, in_list}
use Rattle.gi_change_valid.proofs.Valid.{great_of, known_of}
use Rattle.gi_rule_values.specs.Data.{DefinitionData, OperationData}
use Rattle.gi_rule_values.specs.OnValues.{fact_of, operation_on_values}
use Rattle.gi_rule_values.specs.declared.rewrite.Slot.{Slot}
use Rattle.gi_rule_values.specs.declared.rewrite.Slot.TheVariants.{At, Stands}
use Rattle.gi_rule_valid.specs.Keeping.{are_origins, is_asked, is_number, is_taken, places_taken}
use Rattle.gi_rule_valid.specs.Using.{AreDefined, defined_as, instr_for, kind_in, operand_for, register_at}
use Rattle.gi_rule_valid.proofs.Lists.{defines_are, kinds_are, results_are, slots_none}
use Rattle.gi_rule_valid.proofs.Origins.{asked_taken, asks_origin, has_first, is_used, pure_for}
use Rattle.gi_rule_valid.proofs.Targets.{among_at, kind_there}
use Rattle.gi_rule_refines.specs.Computing.{gives}
use Rattle.gi_rule_refines.proofs.Shown.{one_pure, place_there, shows_one, wide_kind}

-- ══ A reached state of a valid function ══

pub record Moment (x : ℕ) (names : List (List ℕ)) (f : FunctionData) (w : World) (state : State) : Type 0 where
  pub is_world : IsWorld x w
  pub phase : Phase
  pub valid : IsValid x phase f
  pub place : ℕ
  pub body : BlockData
  pub before : List (ℕ × InstrData)
  pub back : List (ℕ × InstrData)
  pub there : slice_get f.blocks place ≡ Some body
  pub splits : after_phis body.instrs ≡ before ++ back
  pub reached : IsReached (setting_of x names f) w f.blocks place before state

-- what stands in front, phis and all
abbrev pub ahead : (x : ℕ) (names : List (List ℕ)) (f : FunctionData) (w : World) (state : State) → Moment x names f w state → List (ℕ × InstrData)
ahead x names f w state t = phis_of t.body.instrs ++ t.before

pub whole : (x : ℕ) (names : List (List ℕ)) (f : FunctionData) (w : World) (state : State) (t : Moment x names f w state) → t.body.instrs ≡ ahead x names f w state t ++ t.back
whole x names f w state t = phis_and_others t.body.instrs ∙ ap (λ l. phis_of t.body.instrs ++ l) t.splits ∙ sym (append_assoc (phis_of t.body.instrs) t.before t.back)

-- a register is available there
abbrev pub IsHere : (x : ℕ) (names : List (List ℕ)) (f : FunctionData) (w : World) (state : State) → Moment x names f w state → ℕ → Type 0
IsHere x names f w state t r = is_here (great_of f) t.place (ahead x names f w state t) r ≡ true

-- ══ Steady instructions ══

number_steady : (o : Operand) → is_number o ≡ true → is_steady_operand o ≡ true
number_steady (operand.Int n) h = refl
number_steady (operand.Constant n v) h = refl
number_steady (operand.Predicate p) h = refl
number_steady (_) h = cc

slots_steady : (count : ℕ) (registers : List ℕ) (slots : List Slot) → list_all (is_asked count) slots ≡ true → list_all is_steady_operand (map (operand_for registers) slots) ≡ true
slots_steady count registers [] h = refl
slots_steady count registers (At p ∷ slots) h = slots_steady count registers slots (and_parts (nat_lt p count) (list_all (is_asked count) slots) h).1
slots_steady count registers (Stands o ∷ slots) h =
    let each = and_parts (is_number o) (list_all (is_asked count) slots) h in
    and_from (is_steady_operand o) (list_all is_steady_operand (map (operand_for registers) slots)) (number_steady o each.0) (slots_steady count registers slots each.1)

defined_steady : (kind : Llt → Kind) (rs : List ℕ) (types : List Llt) (os : List Operand) → list_all is_steady_operand os ≡ true → list_all is_steady_operand (defined_as kind rs types ++ os) ≡ true
defined_steady kind [] types os h = h
defined_steady kind (r ∷ rs) [] os h = h
defined_steady kind (r ∷ rs) (t ∷ types) os h = defined_steady kind rs types os h

pub steady_for : (kind : Llt → Kind) (registers rs : List ℕ) (o : OperationData) (line count : ℕ) → is_pure (instr_for kind registers rs o line) ≡ true → gives o ≡ true → list_all (is_asked count) o.slots ≡ true → is_steady (instr_for kind registers rs o line) ≡ true
steady_for kind registers rs o line count pure gives slots =
    and_from (is_pure (instr_for kind registers rs o line) && is_computing (meaning_of o.flags o.op)) (list_all is_steady_operand (instr_for kind registers rs o line).operands)
    (and_from (is_pure (instr_for kind registers rs o line)) (is_computing (meaning_of o.flags o.op)) pure gives)
    (defined_steady kind rs o.types (map (operand_for registers) o.slots) (slots_steady count registers o.slots slots))

-- ══ Widths of results ══

once_get : (rs : List ℕ) (k : ℕ) → k < length rs → slice_get rs k ≡ Some (register_at rs k)
once_get rs k below = place_there rs k below

-- each result of an instruction of a valid function has its type
pub result_widths : (x : ℕ) (phase : Phase) (f : FunctionData) → IsValid x phase f → (id : ℕ) (registers rs : List ℕ) (o : OperationData) (line count : ℕ) → IsOneOf (id, instr_for (kind_in f) registers rs o line) (all_instrs f.blocks) → list_all (is_taken count) o.slots ≡ true
    → length rs ≡ length o.types → map (width_in x f) rs ≡ map (width_of x) o.types
result_widths x phase f valid id registers rs o line count there taken many = each rs o.types many (λ k r ty at has. wide k r ty at has)
  where
    once : (r : ℕ) → often r rs ≤ 1
    once r =
        subst (λ l. often r l ≤ 1) (results_are (kind_in f) rs o.types (map (operand_for registers) o.slots) many (slots_none count registers o.slots taken))
        (results_once r (all_instrs f.blocks) ((known_of x phase f valid).once r) (id, instr_for (kind_in f) registers rs o line) (in_list (id, instr_for (kind_in f) registers rs o line) (all_instrs f.blocks) there))

    some_is : (a b : Kind) → Some a ≡ Some b → a ≡ b
    some_is a b h = cc

    wide : (k r : ℕ) (ty : Llt) → slice_get rs k ≡ Some r → slice_get o.types k ≡ Some ty → width_in x f r ≡ width_of x ty
    wide k r ty at has =
        let i : ℕ × InstrData = (id, instr_for (kind_in f) registers rs o line) in
        let none = slots_none count registers o.slots taken in
        let own : defines r (id, instr_for (kind_in f) registers rs o line) ≡ true = defines_are (kind_in f) r rs o.types (map (operand_for registers) o.slots) many none ∙ among_at r rs k at in
        let kind : kind_of f r ≡ kind_in f ty =
        some_is (kind_of f r) (kind_in f ty) (sym (root_kind f (known_of x phase f valid).once i there r own) ∙ kinds_are (kind_in f) r rs o.types (map (operand_for registers) o.slots) many none ∙ kind_there (kind_in f) r rs o.types k ty (once r) at has) in
        ap (width_of_kind x) kind ∙ wide_kind x f.banked ty

    each : (rs : List ℕ) (types : List Llt) → length rs ≡ length types → ((k r : ℕ) (ty : Llt) → slice_get rs k ≡ Some r → slice_get types k ≡ Some ty → width_in x f r ≡ width_of x ty) → map (width_in x f) rs ≡ map (width_of x) types
    each [] [] many h = refl
    each [] (t ∷ types) many h = cc
    each (r ∷ rs) [] many h = cc
    each (r ∷ rs) (t ∷ types) many h = ap₂ (λ a l. a ∷ l) (h 0 r t refl refl) (each rs types (omega (arith, many)) (λ k q ty at has. h (suc k) q ty at has))

-- ══ What was read has a value ══

joined_parts : (a b : Option (List Argument)) (c : List Argument) → joined_lists a b ≡ Some c → (d : List Argument) × (e : List Argument) × (a ≡ Some d) × (b ≡ Some e)
joined_parts None b c h = cc
joined_parts (Some d) None c h = cc
joined_parts (Some d) (Some e) c h = (d, e, refl, refl)

read_value : (width : ℕ → ℕ) (values : ℕ → Option ℕ) (r : ℕ) (d : List Argument) → option_map (λ v. Value (width r) v ∷ []) (values r) ≡ Some d → HasValue (values r)
read_value width values r d h = by (values r) h
  where
    by : (o : Option ℕ) → option_map (λ v. Value (width r) v ∷ []) o ≡ Some d → HasValue o
    by None h = cc
    by (Some v) h = tt

slots_read : (s : Setting) (w : World) (state : State) (registers : List ℕ) (slots : List Slot) (arguments : List Argument) → arguments_of s w state (map (operand_for registers) slots) ≡ Some arguments
    → (p : ℕ) → is_in p (places_taken slots) ≡ true → HasValue (state.values (register_at registers p))
slots_read s w state registers [] arguments read p inside = cc
slots_read s w state registers (At q ∷ slots) arguments read p inside =
    let (d, e, now, later) = joined_parts (option_map (λ v. Value (s.width (register_at registers q)) v ∷ []) (state.values (register_at registers q))) (arguments_of s w state (map (operand_for registers) slots)) arguments read in
    ⊎_elim (λ same. subst (λ k. HasValue (state.values (register_at registers k))) (sym (eqb-true p q same)) (read_value s.width state.values (register_at registers q) d now)) (λ more. slots_read s w state registers slots e later p more)
    (or_cases (p == q) (is_in p (places_taken slots)) inside)
slots_read s w state registers (Stands o ∷ slots) arguments read p inside =
    let (d, e, now, later) = joined_parts (argument_of s w state o) (arguments_of s w state (map (operand_for registers) slots)) arguments read in slots_read s w state registers slots e later p inside

defined_read : (s : Setting) (w : World) (state : State) (kind : Llt → Kind) (rs : List ℕ) (types : List Llt) (os : List Operand) (arguments : List Argument) → arguments_of s w state (defined_as kind rs types ++ os) ≡ Some arguments
    → (rest : List Argument) × (arguments_of s w state os ≡ Some rest)
defined_read s w state kind [] types os arguments h = (arguments, h)
defined_read s w state kind (r ∷ rs) [] os arguments h = (arguments, h)
defined_read s w state kind (r ∷ rs) (t ∷ types) os arguments h =
    let (d, e, now, later) = joined_parts (Some []) (arguments_of s w state (defined_as kind rs types ++ os)) arguments h in defined_read s w state kind rs types os e later

-- ══ A definition is a fact ══

entry_is : (width : ℕ → ℕ) (values : ℕ → Option ℕ) (r n v : ℕ) (entry : Option (ℕ × ℕ)) → BothRead width values (Some r) entry → width r ≡ n → values r ≡ Some v → entry ≡ Some (n, v)
entry_is width values r n v None both wide held = absurd both
entry_is width values r n v (Some entry) both wide held =
    let same : entry.1 ≡ v = alike entry.1 v (sym both.1 ∙ held) in ap₂ (λ (k : ℕ) (u : ℕ). let e : ℕ × ℕ = (k, u) in Some e) (both.0 ∙ wide) same
  where
    alike : (a b : ℕ) → Some a ≡ Some b → a ≡ b
    alike a b h = cc

stand_at : (x : ℕ) (width : ℕ → ℕ) (values : ℕ → Option ℕ) (state : State) (inputs : List ℕ) (env : Environment) → Reads width state.values inputs env → (count : ℕ) → length inputs ≡ count → (places : List ℕ) (types : List Llt) (results : List ℕ)
    → list_all (λ place. nat_lt place count) places ≡ true → map width (map (register_at inputs) places) ≡ map (width_of x) types → AreHeld state (map (register_at inputs) places) results → StandAt env places (map (width_of x) types) results
stand_at x width values state inputs env reads count many [] [] [] below wide held = tt
stand_at x width values state inputs env reads count many [] [] (v ∷ vs) below wide held = absurd held
stand_at x width values state inputs env reads count many [] (t ∷ types) results below wide held = cc
stand_at x width values state inputs env reads count many (p ∷ places) [] results below wide held = cc
stand_at x width values state inputs env reads count many (p ∷ places) (t ∷ types) [] below wide held = absurd held
stand_at x width values state inputs env reads count many (p ∷ places) (t ∷ types) (v ∷ vs) below wide held =
    let each = and_parts (nat_lt p count) (list_all (λ place. nat_lt place count) places) below in
    let less : p < count = ltb-true p count each.0 in
    let first : ◌≡◌ {A = ℕ} (width (register_at inputs p)) (width_of x t) = cc in
    let rest : map width (map (register_at inputs) places) ≡ map (width_of x) types = cc in
    let both = subst (λ o. BothRead width state.values o (slice_get env p)) (place_there inputs p (omega (arith, less, many))) (both_read width state.values inputs env p reads) in
    (entry_is width state.values (register_at inputs p) (width_of x t) v (slice_get env p) both first held.0, stand_at x width values state inputs env reads count many places types vs each.1 rest held.1)

-- what a definition that holds tells
pub record TellsOne (x : ℕ) (names : List (List ℕ)) (f : FunctionData) (w : World) (state : State) (inputs : List ℕ) (d : DefinitionData) : Type 0 where
  pub fact : (outside : Outside) (env : Environment) → Reads (width_in x f) state.values inputs env → Holds x w outside env (fact_of x names w d)
  pub there : (p : ℕ) → is_in p (places_taken d.operation.slots) ≡ true → HasValue (state.values (register_at inputs p))

map_length : {A B : Type 0} (g : A → B) (xs : List A) → length (map g xs) ≡ length xs
map_length g [] = refl
map_length g (x ∷ xs) = ap suc (map_length g xs)

tells_one : (x : ℕ) (names : List (List ℕ)) (f : FunctionData) (w : World) (state : State) (t : Moment x names f w state) (inputs : List ℕ) (count : ℕ) → length inputs ≡ count → (d : DefinitionData) (id line : ℕ) → gives d.operation ≡ true
    → list_all (is_asked count) d.operation.slots ≡ true → length d.results ≡ length d.operation.types → list_all (λ place. nat_lt place count) d.results ≡ true
    → IsOneOf (id, instr_for (kind_in f) inputs (map (register_at inputs) d.results) d.operation line) (all_instrs f.blocks)
    → HoldsDefinition (setting_of x names f) w (instr_for (kind_in f) inputs (map (register_at inputs) d.results) d.operation line) state → TellsOne x names f w state inputs d
tells_one x names f w state t inputs count many d id line computes slots results below there holds = record { fact = fact; there = has }
  where
    rs : List ℕ
    rs = map (register_at inputs) d.results

    as_many : length (map (register_at inputs) d.results) ≡ length d.operation.types
    as_many = map_length (register_at inputs) d.results ∙ results

    taken : list_all (is_taken count) d.operation.slots ≡ true
    taken = asked_taken count d.operation.slots slots

    own : results_in (instr_for (kind_in f) inputs (map (register_at inputs) d.results) d.operation line).operands ≡ map (register_at inputs) d.results
    own = results_are (kind_in f) (map (register_at inputs) d.results) d.operation.types (map (operand_for inputs) d.operation.slots) as_many (slots_none count inputs d.operation.slots taken)

    wide : map (width_in x f) (map (register_at inputs) d.results) ≡ map (width_of x) d.operation.types
    wide = result_widths x t.phase f t.valid id inputs (map (register_at inputs) d.results) d.operation line count there taken as_many

    fact : (outside : Outside) (env : Environment) → Reads (width_in x f) state.values inputs env → Holds x w outside env (fact_of x names w d)
    fact outside env reads = (
      holds.results,
      subst (λ a. ActsFrom x w (operation_on_values x names w d.operation) outside a (Results holds.results outside))
          (sym holds.read
          ∙ (parts (setting x names (width_in x f)) w inputs (map (register_at inputs) d.results) env (operation_on_values x names w d.operation) (instr_for (kind_in f) inputs (map (register_at inputs) d.results) d.operation line) state
          (one_pure x names w d.operation computes)
          (shows_one x names (width_in x f) w (kind_in f) inputs (map (register_at inputs) d.results) count d.operation line many as_many taken wide) reads).reads)
          (subst (λ ns. Act x w (meaning_of d.operation.flags d.operation.op) None ns holds.arguments outside (Results holds.results outside)) (ap (map (width_in x f)) own ∙ wide) (holds.given outside)),
      stand_at x (width_in x f) state.values state inputs env reads count many d.results d.operation.types holds.results below wide (subst (λ l. AreHeld state l holds.results) own holds.held),
    )

    has : (p : ℕ) → is_in p (places_taken d.operation.slots) ≡ true → HasValue (state.values (register_at inputs p))
    has p inside =
        let rest = defined_read (setting_of x names f) w state (kind_in f) (map (register_at inputs) d.results) d.operation.types (map (operand_for inputs) d.operation.slots) holds.arguments holds.read in
        slots_read (setting_of x names f) w state inputs d.operation.slots rest.0 rest.1 p inside

-- ══ All definitions ══

pub record TellsAll (x : ℕ) (names : List (List ℕ)) (f : FunctionData) (w : World) (state : State) (inputs : List ℕ) (known : List ℕ) (ds : List DefinitionData) (places : List ℕ) : Type 0 where
  pub facts : (outside : Outside) (env : Environment) → Reads (width_in x f) state.values inputs env → AllHold x w outside env (map (fact_of x names w) ds)
  pub there : (p : ℕ) → is_in p places ≡ true → (is_in p known ≡ true) ⊎ HasValue (state.values (register_at inputs p))

all_from : (p : ℕ) (places known : List ℕ) → list_all (λ place. is_in place known) places ≡ true → is_in p places ≡ true → is_in p known ≡ true
all_from p [] known h inside = cc
all_from p (q ∷ places) known h inside =
    let each = and_parts (is_in q known) (list_all (λ place. is_in place known) places) h in
    ⊎_elim (λ now. subst (λ k. is_in k known ≡ true) (sym (eqb-true p q now)) each.0) (λ later. all_from p places known each.1 later) (or_cases (p == q) (is_in p places) inside)

pub tells_all : (x : ℕ) (names : List (List ℕ)) (f : FunctionData) (w : World) (state : State) (t : Moment x names f w state) (inputs : List ℕ) (count : ℕ) → length inputs ≡ count → (known : List ℕ) (ds : List DefinitionData) (places : List ℕ)
    → AreDefined f inputs ds → are_origins known ds count places ≡ true → list_all (λ d. gives d.operation) ds ≡ true → ((p : ℕ) → is_in p known ≡ true → IsHere x names f w state t (register_at inputs p))
    → TellsAll x names f w state inputs known ds places
tells_all x names f w state t inputs count many known [] places defined h computes here = record { facts = λ outside env reads. tt; there = λ p inside. inl (all_from p places known h inside) }
tells_all x names f w state t inputs count many known (d ∷ ds) places defined h computes here =
    let asks = asks_origin known d ds count places h in
    let first = has_first known d.results asks.read in
    let each = and_parts (gives d.operation) (list_all (λ e. gives e.operation) ds) computes in
    let rs : List ℕ = map (register_at inputs) d.results in
    let i : InstrData = instr_for (kind_in f) inputs rs d.operation defined.0.line in
    let is : definition f (register_at inputs first.place) ≡ Some (defined.0.id, instr_for (kind_in f) inputs (map (register_at inputs) d.results) d.operation defined.0.line) = ap (λ k. definition f (register_at inputs k)) (sym first.is) ∙ defined.0.is in
    let pure = pure_for (kind_in f) inputs rs d.operation defined.0.line count asks.computes asks.slots (map_length (register_at inputs) d.results ∙ asks.many) (sym (ap (nat_lt 0) asks.many) ∙ first.some) in
    let there = found_there (defines (register_at inputs first.place)) (all_instrs f.blocks) (defined.0.id, i) is in
    let available = here first.place first.inside in
    let holds = definition_holds x names f w t.is_world (orderly x t.phase f t.valid) t.place t.body t.before t.back t.there t.splits (register_at inputs first.place) (defined.0.id, i)
    (record { extent = great_of f (register_at inputs first.place); contained = ((known_of x t.phase f t.valid).greatest (register_at inputs first.place)).contained; holds = available })
    is (steady_for (kind_in f) inputs rs d.operation defined.0.line count pure each.0 asks.slots) state t.reached in
    let one = tells_one x names f w state t inputs count many d defined.0.id defined.0.line each.0 asks.slots asks.many asks.below there.0 holds in
    let next : (p : ℕ) → is_in p (places_taken d.operation.slots) ≡ true → IsHere x names f w state t (register_at inputs p) =
    λ p inside. origin_here f (great_of f) (known_of x t.phase f t.valid) (register_at inputs first.place) (register_at inputs p) (record {
      others = 0;
      over = ap (λ found. uses_purely found (register_at inputs p)) is ∙ and_from (is_pure i) _ pure (is_used (kind_in f) inputs rs d.operation defined.0.line p inside);
    }) t.place t.body t.there (ahead x names f w state t) t.back (whole x names f w state t) available in
    let rest = tells_all x names f w state t inputs count many (known ++ places_taken d.operation.slots) ds places defined.1 asks.rest each.1
    (λ p inside. ⊎_elim (λ old. here p old) (λ new. next p new) (in_first_or_rest p known (places_taken d.operation.slots) inside)) in
    record {
      facts = λ outside env reads. (one.fact outside env reads, rest.facts outside env reads);
      there = λ p inside. ⊎_elim (λ old. ⊎_elim (λ k. inl k) (λ new. inr (one.there p new)) (in_first_or_rest p known (places_taken d.operation.slots) old)) (λ has. inr has) (rest.there p inside);
    }
