-- The root and what is made show the operations of a rewrite on values.
use Rattle.std.proofs.Common.{◌≡◌, ℕ, zero, suc, ◌+◌, ◌<◌, Bool, true, false, cond, ◌==◌, nat_lt, List, [], ◌∷◌, ◌++◌, Some, None, length, map, slice_get, refl, sym, ap, ap₂, ◌∙◌, subst, arith, ltb-true}
use Rattle.std.proofs.lemmas.Bool.{and_parts, and_from}
use Rattle.std.specs.List.{list_all}
use Rattle.std.specs.Option.{option_map_or}
use Rattle.std.specs.Prelude.{pos}
use Rattle.gi_llt.specs.Llt.{width_of}
use Rattle.gi_llt.specs.declared.Llt.{Llt}
use Rattle.gi_mir.specs.declared.operand.Kind.{Kind}
use Rattle.gi_mir.specs.declared.operand.Operand.{Operand}
use Rattle.gi_mir.specs.declared.operand.Operand.TheVariants as operand
use Rattle.gi_meaning.specs.Argument.{Number, Value}
use Rattle.gi_meaning.specs.Meaning.{Meaning, Copying, Generic, Machine, meaning_of}
use Rattle.gi_meaning.specs.Runs.{Setting, width_of_kind}
use Rattle.gi_meaning.specs.State.{World}
use Rattle.gi_refine.specs.Agreement.{setting}
use Rattle.gi_refine.specs.Lifting.{AllShow, Shows, ShowsOperands, ShowsSlot, ShowsSlots, grown}
use Rattle.gi_refine.specs.Values.{Slot as Place, Fixed, are_pure, is_pure}
use Rattle.gi_replace.specs.InPlace.{with_ids}
use Rattle.gi_valid.specs.Facts.{is_computing}
use Rattle.gi_rule_values.specs.Data.{OperationData}
use Rattle.gi_rule_values.specs.OnValues.{operation_on_values, slot_on_values}
use Rattle.gi_rule_values.specs.declared.rewrite.Slot.{Slot}
use Rattle.gi_rule_values.specs.declared.rewrite.Slot.TheVariants.{At, Stands}
use Rattle.gi_rule_valid.specs.Keeping.{are_placed, is_fixed, is_taken}
use Rattle.gi_rule_valid.specs.Using.{all_instrs_for, all_registers, defined_as, instr_for, kind_with, next_for, operand_for, place_for, register_at, registers_for}
use Rattle.gi_rule_valid.proofs.Lists.{as_many, flat, flat_types, placed_one}
use Rattle.gi_rule_valid.proofs.Origins.{grown_is, length_of, place_is}
use Rattle.gi_rule_refines.specs.Computing.{gives}

-- ══ Slots ══

pub place_there : (registers : List ℕ) (p : ℕ) → p < length registers → slice_get registers p ≡ Some (register_at registers p)
place_there [] p below = absurd (omega (arith, below))
place_there (r ∷ registers) zero below = refl
place_there (r ∷ registers) (suc p) below = place_there registers p (omega (arith, below))

-- an operand that stands in the instruction gives its argument in every state
shows_fixed : (x : ℕ) (names : List (List ℕ)) (width : ℕ → ℕ) (w : World) (registers : List ℕ) (o : Operand) → is_fixed o ≡ true → ShowsSlot (setting x names width) w registers (slot_on_values x names w (Stands o)) o
shows_fixed x names width w registers (operand.Phys n) h =
    let zero : cond (n == 0) (Some (Value x 0)) None ≡ Some (Value x 0) = ap (λ t. cond t (Some (Value x 0)) None) h in
    subst (λ (p : Place). ShowsSlot (setting x names width) w registers p (operand.Phys n)) (sym (ap (λ a. option_map_or Fixed a (Fixed (Number (pos 0)))) zero)) zero
shows_fixed x names width w registers (operand.Int n) h = refl
shows_fixed x names width w registers (operand.Constant n v) h = refl
shows_fixed x names width w registers (operand.Predicate p) h = refl
shows_fixed x names width w registers (_) h = cc

pub slots_show : (x : ℕ) (names : List (List ℕ)) (width : ℕ → ℕ) (w : World) (registers : List ℕ) (place : ℕ) (slots : List Slot) → length registers ≡ place → list_all (is_taken place) slots ≡ true
    → ShowsSlots (setting x names width) w registers (map (slot_on_values x names w) slots) (map (operand_for registers) slots)
slots_show x names width w registers place [] many h = tt
slots_show x names width w registers place (At p ∷ slots) many h =
    let each = and_parts (nat_lt p place) (list_all (is_taken place) slots) h in
    let less : p < place = ltb-true p place each.0 in
    (place_there registers p (omega (arith, less, many)), slots_show x names width w registers place slots many each.1)
slots_show x names width w registers place (Stands o ∷ slots) many h =
    let each = and_parts (is_fixed o) (list_all (is_taken place) slots) h in
    (shows_fixed x names width w registers o each.0, slots_show x names width w registers place slots many each.1)

operands_show : (s : Setting) (w : World) (registers : List ℕ) (kind : Llt → Kind) (rs : List ℕ) (types : List Llt) (slots : List Place) (os : List Operand) → length rs ≡ length types → ShowsSlots s w registers slots os
    → ShowsOperands s w registers rs slots (defined_as kind rs types ++ os)
operands_show s w registers kind [] [] slots os many shown = shown
operands_show s w registers kind [] (t ∷ types) slots os many shown = cc
operands_show s w registers kind (r ∷ rs) [] slots os many shown = cc
operands_show s w registers kind (r ∷ rs) (t ∷ types) slots os many shown = (refl, operands_show s w registers kind rs types slots os (omega (arith, many)) shown)

pub shows_one : (x : ℕ) (names : List (List ℕ)) (width : ℕ → ℕ) (w : World) (kind : Llt → Kind) (registers rs : List ℕ) (place : ℕ) (o : OperationData) (line : ℕ) → length registers ≡ place → length rs ≡ length o.types
    → list_all (is_taken place) o.slots ≡ true → map width rs ≡ map (width_of x) o.types → Shows (setting x names width) w registers rs (operation_on_values x names w o) (instr_for kind registers rs o line)
shows_one x names width w kind registers rs place o line many as_many taken wide = record {
  op = refl;
  flags = refl;
  mem = refl;
  operands = operands_show (setting x names width) w registers kind rs o.types (map (slot_on_values x names w) o.slots) (map (operand_for registers) o.slots) as_many (slots_show x names width w registers place o.slots many taken);
  widths = wide;
}

-- ══ All ══

split_widths : (x : ℕ) (width : ℕ → ℕ) (xs ys : List ℕ) (ts us : List Llt) → length xs ≡ length ts → map width (xs ++ ys) ≡ map (width_of x) (ts ++ us) → (map width xs ≡ map (width_of x) ts) × (map width ys ≡ map (width_of x) us)
split_widths x width [] ys [] us many h = (refl, h)
split_widths x width [] ys (t ∷ ts) us many h = cc
split_widths x width (r ∷ xs) ys [] us many h = cc
split_widths x width (r ∷ xs) ys (t ∷ ts) us many h =
    let first : ◌≡◌ {A = ℕ} (width r) (width_of x t) = cc in
    let rest = split_widths x width xs ys ts us (omega (arith, many)) cc in
    (ap₂ (λ a l. a ∷ l) first rest.0, rest.1)

pub all_show : (x : ℕ) (names : List (List ℕ)) (width : ℕ → ℕ) (w : World) (kind : Llt → Kind) (line : ℕ) (targets : List (ℕ × ℕ)) (registers : List ℕ) (place next id : ℕ) (os : List OperationData) → length registers ≡ place → are_placed place os ≡ true
    → map width (flat (all_registers targets place next os)) ≡ map (width_of x) (flat_types os)
    → AllShow (setting x names width) w registers (all_registers targets place next os) (map (operation_on_values x names w) os) (with_ids id (all_instrs_for kind line targets registers place next os))
all_show x names width w kind line targets registers place next id [] many placed wide = tt
all_show x names width w kind line targets registers place next id (o ∷ os) many placed wide =
    let one = placed_one place o os placed in
    let rs : List ℕ = registers_for targets place next o.types in
    let each = split_widths x width rs (flat (all_registers targets (place_for place o.types) (next_for targets place next o.types) os)) o.types (flat_types os) (as_many targets place next o.types) wide in (
      shows_one x names width w kind registers rs place o line many (as_many targets place next o.types) one.taken each.0,
      all_show x names width w kind line targets (grown registers rs) (place_for place o.types) (next_for targets place next o.types) (id + 1) os
          (ap length (grown_is registers rs) ∙ length_of registers rs ∙ ap₂ (λ a b. a + b) many (as_many targets place next o.types) ∙ sym (place_is place o.types)) one.rest each.1,
    )

-- ══ Purity ══

computing_pure : (m : Meaning) → is_computing m ≡ true → is_pure m ≡ true
computing_pure Copying h = refl
computing_pure (Generic g) h = refl
computing_pure (Machine g) h = refl
computing_pure _ h = cc

pub one_pure : (x : ℕ) (names : List (List ℕ)) (w : World) (o : OperationData) → gives o ≡ true → is_pure (meaning_of (operation_on_values x names w o).flags (operation_on_values x names w o).op) ≡ true
one_pure x names w o h = computing_pure (meaning_of o.flags o.op) h

pub all_pure : (x : ℕ) (names : List (List ℕ)) (w : World) (os : List OperationData) → list_all gives os ≡ true → are_pure (map (operation_on_values x names w) os) ≡ true
all_pure x names w [] h = refl
all_pure x names w (o ∷ os) h =
    let each = and_parts (gives o) (list_all gives os) h in
    and_from (is_pure (meaning_of o.flags o.op)) (are_pure (map (operation_on_values x names w) os)) (one_pure x names w o each.0) (all_pure x names w os each.1)

-- ══ Widths ══

pub wide_kind : (x : ℕ) (banked : Bool) (ty : Llt) → width_of_kind x (kind_with banked ty) ≡ width_of x ty
wide_kind x true ty = refl
wide_kind x false ty = refl
