-- What is made computes from what the root's results are computed from.
use Rattle.std.proofs.Common.{◌≡◌, ℕ, zero, suc, ◌+◌, ◌≤◌, ◌<◌, Bool, true, false, not, ◌&&◌, ◌||◌, ◌==◌, nat_lt, List, [], ◌∷◌, ◌++◌, Some, length, map, slice_get, inl, inr, ⊎_elim, ◌⊎◌, refl, sym, ap, ap₂, ◌∙◌, subst, arith, ltb-true, append_assoc}
use Rattle.std.proofs.lemmas.Bool.{and_parts, and_from, or_cases, or_left, or_right, eqb-true, eq-eqb}
use Rattle.std.proofs.lemmas.List.Folds.{list_any-append}
use Rattle.std.proofs.lemmas.Bool.Decides.{nat_tests}
use Rattle.std.specs.List.{list_all, list_any}
use Rattle.std.specs.Option.{option_map_or}
use Rattle.gi_llt.specs.declared.Llt.{Llt}
use Rattle.gi_mir.specs.Data.{InstrData, FunctionData}
use Rattle.gi_mir.specs.Edit.{all_instrs, is_use_of, uses}
use Rattle.gi_mir.specs.Formed.{is_def, is_physical, is_physical_def, is_implicit_def}
use Rattle.gi_mir.specs.declared.operand.Kind.{Kind}
use Rattle.gi_mir.specs.declared.operand.Operand.{Operand}
use Rattle.gi_mir.specs.declared.operand.Operand.TheVariants as operand
use Rattle.gi_refine.specs.Lifting.{grown}
use Rattle.gi_valid.specs.Definitions.{definition, defines_any_physical, is_copy, is_erasable, is_pure, uses_purely}
use Rattle.gi_valid.specs.Faults.{definitions, times}
use Rattle.gi_change_valid.specs.Conditions.{is_plain, is_plain_operand}
use Rattle.gi_change_valid.specs.Rewriting.{IsOneOf}
use Rattle.gi_change_valid.specs.Numbers.{computes, is_in}
use Rattle.gi_change_valid.proofs.Numbers.{in_first_or_rest}
use Rattle.gi_change_valid.proofs.Circles.{computed_on, is_definition, joining_is}
use Rattle.gi_change_valid.proofs.Sources.{FromRoot}
use Rattle.gi_change_valid.proofs.Made.{ReadsWell, has_def}
use Rattle.gi_change_valid.proofs.Opcodes.{computing}
use Rattle.gi_rule_values.specs.Data.{DefinitionData, OperationData}
use Rattle.gi_rule_values.specs.declared.rewrite.Slot.{Slot}
use Rattle.gi_rule_values.specs.declared.rewrite.Slot.TheVariants.{At, Stands}
use Rattle.gi_rule_valid.specs.Keeping.{are_origins, are_placed, is_asked, is_fixed, is_number, is_taken, places_from, places_taken}
use Rattle.gi_rule_valid.specs.Using.{AreDefined, all_instrs_for, defined_as, instr_for, kind_in, next_for, operand_for, place_for, register_at, registers_for}
use Rattle.gi_rule_valid.proofs.Lists.{as_many, defines_are, placed_one, slots_none}
use Rattle.gi_rule_valid.proofs.Targets.{among_at}

-- ══ Operands ══

-- of operands that a rewrite's slots give
pub record ArePlainOperands (os : List Operand) : Type 0 where
  pub plain : list_all is_plain_operand os ≡ true
  pub no_def : list_any is_physical_def os ≡ false
  pub no_implicit : list_any is_implicit_def os ≡ false

fixed_plain : (o : Operand) (os : List Operand) → is_fixed o ≡ true → ArePlainOperands os → ArePlainOperands (o ∷ os)
fixed_plain (operand.Phys n) os h rest = record { plain = and_from ((n == 0) || (n == 2)) (list_all is_plain_operand os) (or_left (n == 0) (n == 2) h) rest.plain; no_def = rest.no_def; no_implicit = rest.no_implicit }
fixed_plain (operand.Int n) os h rest = record { plain = rest.plain; no_def = rest.no_def; no_implicit = rest.no_implicit }
fixed_plain (operand.Constant n v) os h rest = record { plain = rest.plain; no_def = rest.no_def; no_implicit = rest.no_implicit }
fixed_plain (operand.Predicate p) os h rest = record { plain = rest.plain; no_def = rest.no_def; no_implicit = rest.no_implicit }
fixed_plain (_) os h rest = cc

slots_plain : (count : ℕ) (registers : List ℕ) (slots : List Slot) → list_all (is_taken count) slots ≡ true → ArePlainOperands (map (operand_for registers) slots)
slots_plain count registers [] h = record { plain = refl; no_def = refl; no_implicit = refl }
slots_plain count registers (At p ∷ slots) h =
    let rest = slots_plain count registers slots (and_parts (nat_lt p count) (list_all (is_taken count) slots) h).1 in record { plain = rest.plain; no_def = rest.no_def; no_implicit = rest.no_implicit }
slots_plain count registers (Stands o ∷ slots) h =
    let each = and_parts (is_fixed o) (list_all (is_taken count) slots) h in fixed_plain o (map (operand_for registers) slots) each.0 (slots_plain count registers slots each.1)

defined_plain : (kind : Llt → Kind) (rs : List ℕ) (types : List Llt) (os : List Operand) → ArePlainOperands os → ArePlainOperands (defined_as kind rs types ++ os)
defined_plain kind [] types os rest = rest
defined_plain kind (r ∷ rs) [] os rest = rest
defined_plain kind (r ∷ rs) (t ∷ ts) os rest =
    let later = defined_plain kind rs ts os rest in record { plain = later.plain; no_def = later.no_def; no_implicit = later.no_implicit }

number_fixed : (o : Operand) → is_number o ≡ true → is_fixed o ≡ true
number_fixed (operand.Int n) h = refl
number_fixed (operand.Constant n v) h = refl
number_fixed (operand.Predicate p) h = refl
number_fixed (_) h = cc

pub asked_taken : (count : ℕ) (slots : List Slot) → list_all (is_asked count) slots ≡ true → list_all (is_taken count) slots ≡ true
asked_taken count [] h = refl
asked_taken count (At p ∷ slots) h =
    let each = and_parts (nat_lt p count) (list_all (is_asked count) slots) h in and_from (nat_lt p count) (list_all (is_taken count) slots) each.0 (asked_taken count slots each.1)
asked_taken count (Stands o ∷ slots) h =
    let each = and_parts (is_number o) (list_all (is_asked count) slots) h in and_from (is_fixed o) (list_all (is_taken count) slots) (number_fixed o each.0) (asked_taken count slots each.1)

number_unphysical : (o : Operand) → is_number o ≡ true → is_physical o ≡ false
number_unphysical (operand.Int n) h = refl
number_unphysical (operand.Constant n v) h = refl
number_unphysical (operand.Predicate p) h = refl
number_unphysical (_) h = cc

asked_unphysical : (count : ℕ) (registers : List ℕ) (slots : List Slot) → list_all (is_asked count) slots ≡ true → list_any is_physical (map (operand_for registers) slots) ≡ false
asked_unphysical count registers [] h = refl
asked_unphysical count registers (At p ∷ slots) h = asked_unphysical count registers slots (and_parts (nat_lt p count) (list_all (is_asked count) slots) h).1
asked_unphysical count registers (Stands o ∷ slots) h =
    let each = and_parts (is_number o) (list_all (is_asked count) slots) h in ap₂ (λ s t. s || t) (number_unphysical o each.0) (asked_unphysical count registers slots each.1)

defined_unphysical : (kind : Llt → Kind) (rs : List ℕ) (types : List Llt) (os : List Operand) → list_any is_physical os ≡ false → list_any is_physical (defined_as kind rs types ++ os) ≡ false
defined_unphysical kind [] types os rest = rest
defined_unphysical kind (r ∷ rs) [] os rest = rest
defined_unphysical kind (r ∷ rs) (t ∷ ts) os rest = defined_unphysical kind rs ts os rest

-- ══ Instructions ══

pub plain_for : (kind : Llt → Kind) (registers rs : List ℕ) (o : OperationData) (line count : ℕ) → computes o.op ≡ true → list_all (is_taken count) o.slots ≡ true → is_plain (instr_for kind registers rs o line) ≡ true
plain_for kind registers rs o line count h slots =
    let c = computing o.op h in
    let operands = defined_plain kind rs o.types (map (operand_for registers) o.slots) (slots_plain count registers o.slots slots) in
    ap₂ (λ s t. s && t) (ap₂ (λ s t. not s && not t) (joining_is o.flags o.op ∙ c.no_phi) c.no_end) operands.plain

some_def : (kind : Llt → Kind) (rs : List ℕ) (types : List Llt) (os : List Operand) → length rs ≡ length types → nat_lt 0 (length types) ≡ true → list_any is_def (defined_as kind rs types ++ os) ≡ true
some_def kind rs [] os many some = cc
some_def kind [] (t ∷ ts) os many some = cc
some_def kind (r ∷ rs) (t ∷ ts) os many some = refl

and_none : (t : Bool) → (t && false) ≡ false
and_none true = refl
and_none false = refl

pub pure_for : (kind : Llt → Kind) (registers rs : List ℕ) (o : OperationData) (line count : ℕ) → computes o.op ≡ true → list_all (is_asked count) o.slots ≡ true → length rs ≡ length o.types → nat_lt 0 (length o.types) ≡ true
    → is_pure (instr_for kind registers rs o line) ≡ true
pure_for kind registers rs o line count h slots many some =
    let c = computing o.op h in
    let operands = defined_plain kind rs o.types (map (operand_for registers) o.slots) (slots_plain count registers o.slots (asked_taken count o.slots slots)) in
    let physical : list_any is_physical (instr_for kind registers rs o line).operands ≡ false = defined_unphysical kind rs o.types (map (operand_for registers) o.slots) (asked_unphysical count registers o.slots slots) in
    let none : defines_any_physical (instr_for kind registers rs o line) ≡ false = ap₂ (λ s t. s || t) operands.no_def operands.no_implicit in
    let erasable : is_erasable (instr_for kind registers rs o line) ≡ true = ap₂ (λ s t. s && not t) (ap₂ (λ s t. s && not t) (some_def kind rs o.types (map (operand_for registers) o.slots) many some) none) c.no_call in
    ap₂ (λ s t. s && not t) (ap₂ (λ s t. s && not t) (ap₂ (λ s t. s && not t) erasable c.no_load) c.no_phi) (ap (λ t. is_copy o.op && t) physical ∙ and_none (is_copy o.op))

-- ══ What an instruction uses ══

-- a register that is used stands at a place that is taken
pub record IsUsedAt (registers : List ℕ) (slots : List Slot) (r : ℕ) : Type 0 where
  pub place : ℕ
  pub inside : is_in place (places_taken slots) ≡ true
  pub is : register_at registers place ≡ r

fixed_uses : (r : ℕ) (o : Operand) → is_fixed o ≡ true → is_use_of r o ≡ false
fixed_uses r (operand.Phys n) h = refl
fixed_uses r (operand.Int n) h = refl
fixed_uses r (operand.Constant n v) h = refl
fixed_uses r (operand.Predicate p) h = refl
fixed_uses r (_) h = cc

slots_use : (count : ℕ) (registers : List ℕ) (slots : List Slot) (r : ℕ) → list_all (is_taken count) slots ≡ true → list_any (is_use_of r) (map (operand_for registers) slots) ≡ true → IsUsedAt registers slots r
slots_use count registers [] r h used = cc
slots_use count registers (At p ∷ slots) r h used =
    ⊎_elim
    (λ now. record { place = p; inside = or_left (p == p) (is_in p (places_taken slots)) (eq-eqb p p refl); is = eqb-true (register_at registers p) r now })
    (λ later. let found = slots_use count registers slots r (and_parts (nat_lt p count) (list_all (is_taken count) slots) h).1 later in
    record { place = found.place; inside = or_right (found.place == p) (is_in found.place (places_taken slots)) found.inside; is = found.is })
    (or_cases (register_at registers p == r) (list_any (is_use_of r) (map (operand_for registers) slots)) used)
slots_use count registers (Stands o ∷ slots) r h used =
    let each = and_parts (is_fixed o) (list_all (is_taken count) slots) h in
    let found = slots_use count registers slots r each.1 (sym (ap (λ t. t || list_any (is_use_of r) (map (operand_for registers) slots)) (fixed_uses r o each.0)) ∙ used) in
    record { place = found.place; inside = found.inside; is = found.is }

defined_use : (kind : Llt → Kind) (rs : List ℕ) (types : List Llt) (os : List Operand) (r : ℕ) → list_any (is_use_of r) (defined_as kind rs types ++ os) ≡ list_any (is_use_of r) os
defined_use kind [] types os r = refl
defined_use kind (q ∷ rs) [] os r = refl
defined_use kind (q ∷ rs) (t ∷ ts) os r = defined_use kind rs ts os r

pub used_at : (kind : Llt → Kind) (registers rs : List ℕ) (o : OperationData) (line count r : ℕ) → list_all (is_taken count) o.slots ≡ true → list_any (is_use_of r) (instr_for kind registers rs o line).operands ≡ true → IsUsedAt registers o.slots r
used_at kind registers rs o line count r h used = slots_use count registers o.slots r h (sym (defined_use kind rs o.types (map (operand_for registers) o.slots) r) ∙ used)

-- and one that stands there is used
slots_used : (registers : List ℕ) (slots : List Slot) (p : ℕ) → is_in p (places_taken slots) ≡ true → list_any (is_use_of (register_at registers p)) (map (operand_for registers) slots) ≡ true
slots_used registers [] p h = cc
slots_used registers (At q ∷ slots) p h =
    let r : ℕ = register_at registers p in
    ⊎_elim
    (λ now. or_left (register_at registers q == r) (list_any (is_use_of r) (map (operand_for registers) slots)) (eq-eqb (register_at registers q) r (ap (register_at registers) (sym (eqb-true p q now)))))
    (λ later. or_right (register_at registers q == r) (list_any (is_use_of r) (map (operand_for registers) slots)) (slots_used registers slots p later))
    (or_cases (p == q) (is_in p (places_taken slots)) h)
slots_used registers (Stands o ∷ slots) p h =
    or_right (is_use_of (register_at registers p) o) (list_any (is_use_of (register_at registers p)) (map (operand_for registers) slots)) (slots_used registers slots p h)

pub is_used : (kind : Llt → Kind) (registers rs : List ℕ) (o : OperationData) (line p : ℕ) → is_in p (places_taken o.slots) ≡ true → list_any (is_use_of (register_at registers p)) (instr_for kind registers rs o line).operands ≡ true
is_used kind registers rs o line p h = defined_use kind rs o.types (map (operand_for registers) o.slots) (register_at registers p) ∙ slots_used registers o.slots p h

pub taken_below : (count : ℕ) (slots : List Slot) (p : ℕ) → list_all (is_taken count) slots ≡ true → is_in p (places_taken slots) ≡ true → p < count
taken_below count [] p h inside = cc
taken_below count (At q ∷ slots) p h inside =
    let each = and_parts (nat_lt q count) (list_all (is_taken count) slots) h in
    ⊎_elim (λ now. let same : p ≡ q = eqb-true p q now in let less : q < count = ltb-true q count each.0 in omega (arith, same, less)) (λ later. taken_below count slots p each.1 later) (or_cases (p == q) (is_in p (places_taken slots)) inside)
taken_below count (Stands o ∷ slots) p h inside = taken_below count slots p (and_parts (is_fixed o) (list_all (is_taken count) slots) h).1 inside

-- ══ Origins ══

-- all results of the root are computed from a register
pub record AreSources (f : FunctionData) (root : ℕ × InstrData) (inputs : List ℕ) (known : List ℕ) : Type 0 where
  pub by : (p : ℕ) → is_in p known ≡ true → FromRoot f root (register_at inputs p)

pub root_sources : (f : FunctionData) → ((r : ℕ) → times r (definitions (all_instrs f.blocks)) ≤ 1) → (id : ℕ) (kind : Llt → Kind) (inputs rs : List ℕ) (o : OperationData) (line : ℕ)
    → IsOneOf (id, instr_for kind inputs rs o line) (all_instrs f.blocks) → is_pure (instr_for kind inputs rs o line) ≡ true → AreSources f (id, instr_for kind inputs rs o line) inputs (places_taken o.slots)
root_sources f once id kind inputs rs o line there pure = record {
  by = λ p inside d own. record {
    others = 0;
    over = ap (λ found. uses_purely found (register_at inputs p)) (is_definition f once d (id, instr_for kind inputs rs o line) there own)
        ∙ and_from (is_pure (instr_for kind inputs rs o line)) (uses (register_at inputs p) (id, instr_for kind inputs rs o line)) pure (is_used kind inputs rs o line p inside);
  };
}

places_in : (types : List Llt) (place p : ℕ) → place ≤ p → p < place + length types → is_in p (places_from place types) ≡ true
places_in [] place p least most = absurd (omega (arith, least, most))
places_in (t ∷ types) place p least most = by (p == place) refl (λ l. places_in types (place + 1) p l (omega (arith, most)))
  where
    by : (b : Bool) → (p == place) ≡ b → (place + 1 ≤ p → is_in p (places_from (place + 1) types) ≡ true) → (b || is_in p (places_from (place + 1) types)) ≡ true
    by true so rest = refl
    by false so rest = rest (grind (arith, nat_tests, so, least))

-- what a definition asks
pub record AsksOrigin (known : List ℕ) (d : DefinitionData) (ds : List DefinitionData) (count : ℕ) (inputs : List ℕ) : Type 0 where
  pub computes : computes d.operation.op ≡ true
  pub slots : list_all (is_asked count) d.operation.slots ≡ true
  pub many : length d.results ≡ length d.operation.types
  pub below : list_all (λ place. nat_lt place count) d.results ≡ true
  pub read : option_map_or (λ place. is_in place known) (slice_get d.results 0) false ≡ true
  pub rest : are_origins (known ++ places_taken d.operation.slots) ds count inputs ≡ true

pub asks_origin : (known : List ℕ) (d : DefinitionData) (ds : List DefinitionData) (count : ℕ) (inputs : List ℕ) → are_origins known (d ∷ ds) count inputs ≡ true → AsksOrigin known d ds count inputs
asks_origin known d ds count inputs h =
    let A : Bool = computes d.operation.op in
    let B : Bool = list_all (is_asked count) d.operation.slots in
    let C : Bool = length d.results == length d.operation.types in
    let D : Bool = list_all (λ place. nat_lt place count) d.results in
    let E : Bool = option_map_or (λ place. is_in place known) (slice_get d.results 0) false in
    let first = and_parts (A && B && C && D && E) (are_origins (known ++ places_taken d.operation.slots) ds count inputs) h in
    let second = and_parts (A && B && C && D) E first.0 in
    let third = and_parts (A && B && C) D second.0 in
    let fourth = and_parts (A && B) C third.0 in
    let fifth = and_parts A B fourth.0 in
    record { computes = fifth.0; slots = fifth.1; many = eqb-true (length d.results) (length d.operation.types) fourth.1; below = third.1; read = second.1; rest = first.1 }

map_length : {A B : Type 0} (g : A → B) (xs : List A) → length (map g xs) ≡ length xs
map_length g [] = refl
map_length g (x ∷ xs) = ap suc (map_length g xs)

-- the first result of a definition
pub record HasFirst (known results : List ℕ) : Type 0 where
  pub place : ℕ
  pub is : option_map_or (λ p. p) (slice_get results 0) 0 ≡ place
  pub inside : is_in place known ≡ true
  pub some : nat_lt 0 (length results) ≡ true

pub has_first : (known results : List ℕ) → option_map_or (λ place. is_in place known) (slice_get results 0) false ≡ true → HasFirst known results
has_first known [] h = cc
has_first known (q ∷ results) h = record { place = q; is = refl; inside = h; some = grind (arith, nat_tests) }

definition_sources : (f : FunctionData) (root : ℕ × InstrData) (kind : Llt → Kind) (inputs known : List ℕ) (d : DefinitionData) (id line count : ℕ) → AreSources f root inputs known → (first : HasFirst known d.results)
    → definition f (register_at inputs (option_map_or (λ p. p) (slice_get d.results 0) 0)) ≡ Some (id, instr_for kind inputs (map (register_at inputs) d.results) d.operation line)
    → computes d.operation.op ≡ true → list_all (is_asked count) d.operation.slots ≡ true → length d.results ≡ length d.operation.types → AreSources f root inputs (known ++ places_taken d.operation.slots)
definition_sources f root kind inputs known d id line count sources first is computes slots many = record {
  by = λ p inside. ⊎_elim (λ old. sources.by p old) (λ new. from p new) (in_first_or_rest p known (places_taken d.operation.slots) inside);
}
  where
    here : definition f (register_at inputs first.place) ≡ Some (id, instr_for kind inputs (map (register_at inputs) d.results) d.operation line)
    here = ap (λ k. definition f (register_at inputs k)) (sym first.is) ∙ is

    pure : is_pure (instr_for kind inputs (map (register_at inputs) d.results) d.operation line) ≡ true
    pure = pure_for kind inputs (map (register_at inputs) d.results) d.operation line count computes slots (map_length (register_at inputs) d.results ∙ many) (sym (ap (nat_lt 0) many) ∙ first.some)

    from : (p : ℕ) → is_in p (places_taken d.operation.slots) ≡ true → FromRoot f root (register_at inputs p)
    from p inside e own =
        computed_on f e (register_at inputs first.place) (register_at inputs p) (sources.by first.place first.inside e own) (record {
          others = 0;
          over = ap (λ found. uses_purely found (register_at inputs p)) here
              ∙ and_from (is_pure (instr_for kind inputs (map (register_at inputs) d.results) d.operation line)) (uses (register_at inputs p) (id, instr_for kind inputs (map (register_at inputs) d.results) d.operation line)) pure
              (is_used kind inputs (map (register_at inputs) d.results) d.operation line p inside);
        })

all_from : (p : ℕ) (places known : List ℕ) → list_all (λ place. is_in place known) places ≡ true → is_in p places ≡ true → is_in p known ≡ true
all_from p [] known h inside = cc
all_from p (q ∷ places) known h inside =
    let each = and_parts (is_in q known) (list_all (λ place. is_in place known) places) h in
    ⊎_elim (λ now. subst (λ k. is_in k known ≡ true) (sym (eqb-true p q now)) each.0) (λ later. all_from p places known each.1 later) (or_cases (p == q) (is_in p places) inside)

pub origins_sources : (f : FunctionData) (root : ℕ × InstrData) (inputs known : List ℕ) (ds : List DefinitionData) (count : ℕ) (places : List ℕ) → AreSources f root inputs known → AreDefined f inputs ds → are_origins known ds count places ≡ true
    → AreSources f root inputs places
origins_sources f root inputs known [] count places sources defined h = record { by = λ p inside. sources.by p (all_from p places known h inside) }
origins_sources f root inputs known (d ∷ ds) count places sources defined h =
    let asks = asks_origin known d ds count places h in
    let first = has_first known d.results asks.read in
    origins_sources f root inputs (known ++ places_taken d.operation.slots) ds count places
    (definition_sources f root (kind_in f) inputs known d defined.0.id defined.0.line count sources first defined.0.is asks.computes asks.slots asks.many) defined.1 asks.rest

-- each input is one
pub input_source : (f : FunctionData) (root : ℕ × InstrData) (inputs : List ℕ) (types : List Llt) (p : ℕ) → AreSources f root inputs (places_from 0 types) → p < length types → FromRoot f root (register_at inputs p)
input_source f root inputs types p sources below = sources.by p (places_in types 0 p (omega arith) (omega (arith, below)))

-- ══ Reading ══

pub grown_is : (registers rs : List ℕ) → grown registers rs ≡ registers ++ rs
grown_is registers [] = sym (append_nil registers)
  where
    append_nil : (xs : List ℕ) → xs ++ [] ≡ xs
    append_nil [] = refl
    append_nil (x ∷ xs) = ap (λ ys. x ∷ ys) (append_nil xs)
grown_is registers (r ∷ rs) = grown_is (registers ++ r ∷ []) rs ∙ append_assoc registers (r ∷ []) rs

pub place_is : (place : ℕ) (types : List Llt) → place_for place types ≡ place + length types
place_is place [] = omega arith
place_is place (t ∷ types) = place_is (place + 1) types ∙ omega arith

pub length_of : (xs ys : List ℕ) → length (xs ++ ys) ≡ length xs + length ys
length_of [] ys = omega arith
length_of (x ∷ xs) ys = let rest : length (xs ++ ys) ≡ length xs + length ys = length_of xs ys in omega (arith, rest)

-- a place among the first of two lists, or behind it
pub data Among (xs ys : List ℕ) (p : ℕ) : Type 0 where
  First : p < length xs → register_at (xs ++ ys) p ≡ register_at xs p → Among xs ys p
  Second : (k : ℕ) → p ≡ length xs + k → slice_get ys k ≡ Some (register_at (xs ++ ys) p) → Among xs ys p

pub among_of : (xs ys : List ℕ) (p : ℕ) → p < length xs + length ys → Among xs ys p
among_of [] [] p below = absurd (omega (arith, below))
among_of [] (y ∷ ys) zero below = Second 0 refl refl
among_of [] (y ∷ ys) (suc p) below = by (among_of [] ys p (omega (arith, below)))
  where
    by : Among [] ys p → Among [] (y ∷ ys) (suc p)
    by (First less same) = absurd (omega (arith, less))
    by (Second k is at) = Second (suc k) (omega (arith, is)) at
among_of (x ∷ xs) ys zero below = First (omega arith) refl
among_of (x ∷ xs) ys (suc p) below = by (among_of xs ys p (omega (arith, below)))
  where
    by : Among xs ys p → Among (x ∷ xs) ys (suc p)
    by (First less same) = First (omega (arith, less)) same
    by (Second k is at) = Second k (omega (arith, is)) at

-- each register is made before, or something holds of it
pub record AreReady (P : ℕ → Type 0) (registers : List ℕ) (place : ℕ) (done : List InstrData) : Type 0 where
  pub many : length registers ≡ place
  pub by : (p : ℕ) → p < place → (list_any (has_def (register_at registers p)) done ≡ true) ⊎ P (register_at registers p)

ready_on : (P : ℕ → Type 0) (kind : Llt → Kind) (registers rs : List ℕ) (o : OperationData) (line place : ℕ) (done : List InstrData) → AreReady P registers place done → length rs ≡ length o.types → list_all (is_taken place) o.slots ≡ true
    → AreReady P (grown registers rs) (place_for place o.types) (done ++ instr_for kind registers rs o line ∷ [])
ready_on P kind registers rs o line place done ready many taken = record {
  many = ap length (grown_is registers rs) ∙ length_of registers rs ∙ ap₂ (λ a b. a + b) ready.many many ∙ sym (place_is place o.types);
  by = λ p below. subst (λ qs. (list_any (has_def (register_at qs p)) (done ++ i ∷ []) ≡ true) ⊎ P (register_at qs p)) (sym (grown_is registers rs))
      (from p (among_of registers rs p (omega (arith, below, place_is place o.types, ready.many, many))));
}
  where
    i : InstrData
    i = instr_for kind registers rs o line

    from : (p : ℕ) → Among registers rs p → (list_any (has_def (register_at (registers ++ rs) p)) (done ++ instr_for kind registers rs o line ∷ []) ≡ true) ⊎ P (register_at (registers ++ rs) p)
    from p (First less same) =
        subst (λ r. (list_any (has_def r) (done ++ instr_for kind registers rs o line ∷ []) ≡ true) ⊎ P r) (sym same)
        (⊎_elim (λ before. inl (list_any-append (has_def (register_at registers p)) done (instr_for kind registers rs o line ∷ []) ∙ or_left (list_any (has_def (register_at registers p)) done) (has_def (register_at registers p) (instr_for kind registers rs o line) || false) before)) (λ holds. inr holds)
        (ready.by p (omega (arith, less, ready.many))))
    from p (Second k is at) =
        let r : ℕ = register_at (registers ++ rs) p in
        let here : has_def r (instr_for kind registers rs o line) ≡ true = defines_are kind r rs o.types (map (operand_for registers) o.slots) many (slots_none place registers o.slots taken) ∙ among_at r rs k at in
        inl (list_any-append (has_def r) done (instr_for kind registers rs o line ∷ []) ∙ or_right (list_any (has_def r) done) (has_def r (instr_for kind registers rs o line) || false) (or_left (has_def r (instr_for kind registers rs o line)) false here))

pub all_ready : (P : ℕ → Type 0) (kind : Llt → Kind) (line : ℕ) (targets : List (ℕ × ℕ)) (registers : List ℕ) (place next : ℕ) (os : List OperationData) (done : List InstrData) → are_placed place os ≡ true → AreReady P registers place done
    → ReadsWell P done (all_instrs_for kind line targets registers place next os)
all_ready P kind line targets registers place next [] done h ready = tt
all_ready P kind line targets registers place next (o ∷ os) done h ready =
    let one = placed_one place o os h in
    let rs : List ℕ = registers_for targets place next o.types in
    let i : InstrData = instr_for kind registers rs o line in (
      λ r used. let found = used_at kind registers rs o line place r one.taken used in
          subst (λ k. (list_any (has_def k) done ≡ true) ⊎ P k) found.is (ready.by found.place (taken_below place o.slots found.place one.taken found.inside)),
      all_ready P kind line targets (grown registers rs) (place_for place o.types) (next_for targets place next o.types) os (done ++ i ∷ []) one.rest
          (ready_on P kind registers rs o line place done ready (as_many targets place next o.types) one.taken),
    )
