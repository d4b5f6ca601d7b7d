-- Whether values go on to fit is seen by the widths of registers alone.
use Rattle.std.proofs.Common.{◌≡◌, ℕ, zero, suc, ◌+◌, ◌<◌, Bool, true, not, ◌&&◌, ◌||◌, ◌==◌, nat_lt, nat_le, List, [], ◌∷◌, ◌++◌, Option, length, map, refl, sym, ap, ap₂, ◌∙◌, subst, arith, ltb-true}
use Rattle.std.proofs.lemmas.Bool.{and_parts, and_from}
use Rattle.std.specs.List.{list_all}
use Rattle.gi_llt.specs.Llt.{width_of}
use Rattle.gi_llt.specs.declared.Llt.{Llt}
use Rattle.gi_mir.specs.Data.{InstrData, no_flags, reg_of}
use Rattle.gi_mir.specs.declared.operand.MemOp.{MemOp}
use Rattle.gi_mir.specs.declared.opcode.Opcode.{Opcode}
use Rattle.gi_mir.specs.declared.opcode.Opcode.TheVariants as op
use Rattle.gi_mir.specs.declared.operand.Kind.{Kind}
use Rattle.gi_mir.specs.declared.operand.Kind.TheVariants.{Class, Generic as OfType}
use Rattle.gi_mir.specs.declared.operand.Operand.{Operand}
use Rattle.gi_mir.specs.declared.operand.Operand.TheVariants as operand
use Rattle.gi_meaning.specs.Meaning.{Meaning, Copying, Generic, Loading, Machine, MachineLoading, Calling, Joining, meaning_of}
use Rattle.gi_meaning.specs.Runs.{Setting, places_of, width_of_place}
use Rattle.gi_meaning.specs.State.{Place, Virtual, Physical}
use Rattle.gi_refine.specs.Fitting.{always_fits, is_fitting_constant, phi_fits, uses_have}
use Rattle.gi_refine.specs.Lifting.{grown}
use Rattle.gi_refine.specs.Worded.{has_virtual}
use Rattle.gi_change_refines.specs.Widths.{fits_by_widths, is_fitting_address, is_fitting_load, is_fitting_result, has_words, keeps_values, widths_read, widths_written}
use Rattle.gi_rule_values.specs.Data.{OperationData}
use Rattle.gi_rule_values.specs.declared.rewrite.Slot.{Slot}
use Rattle.gi_rule_values.specs.declared.rewrite.Slot.TheVariants.{At, Stands}
use Rattle.gi_rule_valid.specs.Keeping.{are_placed, is_fixed, is_taken, on_places, place_operand, places_from}
use Rattle.gi_rule_valid.specs.Using.{all_instrs_for, all_registers, defined_as, instr_for, next_for, operand_for, place_for, register_at, registers_for}
use Rattle.gi_rule_valid.proofs.Lists.{as_many, flat, flat_types, placed_one}
use Rattle.gi_rule_valid.proofs.Origins.{grown_is, place_is}
use Rattle.gi_rule_refines.specs.Good.{all_fit, on_types, width_at}

-- ══ Widths in the place of registers ══

abbrev pub widthed : (width : ℕ → ℕ) → Operand → Operand
widthed width (operand.Def r kind) = operand.Def (reg_of (width r.0)) Class
widthed width (operand.Use r) = operand.Use (reg_of (width r.0))
widthed width o = o

abbrev by_width : (x : ℕ) → Setting
by_width x = record { x = x; names = []; width = λ r. r }

abbrev place_widthed : (width : ℕ → ℕ) → Place → Place
place_widthed width (Virtual r) = Virtual (width r)
place_widthed width (Physical n) = Physical n

places_widthed : (width : ℕ → ℕ) (os : List Operand) → places_of (map (widthed width) os) ≡ map (place_widthed width) (places_of os)
places_widthed width [] = refl
places_widthed width (operand.Def r kind ∷ os) = ap (λ ps. Virtual (width r.0) ∷ ps) (places_widthed width os)
places_widthed width (operand.PhysDef n ∷ os) = ap (λ ps. Physical n ∷ ps) (places_widthed width os)
places_widthed width (_ ∷ os) = places_widthed width os

place_wide : (s : Setting) (p : Place) → width_of_place (by_width s.x) (place_widthed s.width p) ≡ width_of_place s p
place_wide s (Virtual r) = refl
place_wide s (Physical n) = refl

written : (s : Setting) (os : List Operand) → widths_written (by_width s.x) (map (widthed s.width) os) ≡ widths_written s os
written s os = ap (map (width_of_place (by_width s.x))) (places_widthed s.width os) ∙ each (places_of os)
  where
    each : (ps : List Place) → map (width_of_place (by_width s.x)) (map (place_widthed s.width) ps) ≡ map (width_of_place s) ps
    each [] = refl
    each (p ∷ ps) = ap₂ (λ a l. a ∷ l) (place_wide s p) (each ps)

read : (s : Setting) (os : List Operand) → widths_read (by_width s.x) (map (widthed s.width) os) ≡ widths_read s os
read s [] = refl
read s (operand.Use r ∷ os) = ap (λ l. s.width r.0 ∷ l) (read s os)
read s (operand.Phys n ∷ os) = ap (λ l. s.x ∷ l) (read s os)
read s (operand.Frame object ∷ os) = ap (λ l. s.x ∷ l) (read s os)
read s (_ ∷ os) = read s os

uses_alike : (s : Setting) (n : ℕ) (os : List Operand) → uses_have (λ r. r) n (map (widthed s.width) os) ≡ uses_have s.width n os
uses_alike s n [] = refl
uses_alike s n (operand.Use r ∷ os) = ap (λ t. (s.width r.0 == n) && t) (uses_alike s n os)
uses_alike s n (_ ∷ os) = uses_alike s n os

phis_alike : (s : Setting) (ps : List Place) (os : List Operand) → phi_fits (by_width s.x) (map (place_widthed s.width) ps) (map (widthed s.width) os) ≡ phi_fits s ps os
phis_alike s [] os = refl
phis_alike s (p ∷ []) os = ap (λ n. uses_have (λ r. r) n (map (widthed s.width) os)) (place_wide s p) ∙ uses_alike s (width_of_place s p) os
phis_alike s (p ∷ q ∷ ps) os = refl

virtual_alike : (width : ℕ → ℕ) (os : List Operand) → has_virtual (map (widthed width) os) ≡ has_virtual os
virtual_alike width [] = refl
virtual_alike width (operand.Def r kind ∷ os) = refl
virtual_alike width (operand.Use r ∷ os) = refl
virtual_alike width (_ ∷ os) = virtual_alike width os

constant_alike : (s : Setting) (o : Opcode) (os : List Operand) → is_fitting_constant (λ r. r) o (map (widthed s.width) os) ≡ is_fitting_constant s.width o os
constant_alike s op.GenericConstant [] = refl
constant_alike s op.GenericConstant (operand.Def r kind ∷ []) = refl
constant_alike s op.GenericConstant (operand.Def r kind ∷ operand.Constant bits value ∷ []) = refl
constant_alike s op.GenericConstant (operand.Def r kind ∷ operand.Constant bits value ∷ o ∷ os) = refl
constant_alike s op.GenericConstant (operand.Def r kind ∷ _ ∷ os) = refl
constant_alike s op.GenericConstant (_ ∷ os) = refl
constant_alike s _ os = refl

address_alike : (s : Setting) (o : Opcode) (os : List Operand) → is_fitting_address (by_width s.x) o (map (widthed s.width) os) ≡ is_fitting_address s o os
address_alike s op.GenericGlobalValue [] = refl
address_alike s op.GenericGlobalValue (operand.Def r kind ∷ []) = refl
address_alike s op.GenericGlobalValue (operand.Def r kind ∷ operand.Global flag n ∷ []) = refl
address_alike s op.GenericGlobalValue (operand.Def r kind ∷ operand.Global flag n ∷ o ∷ os) = refl
address_alike s op.GenericGlobalValue (operand.Def r kind ∷ _ ∷ os) = refl
address_alike s op.GenericGlobalValue (_ ∷ os) = refl
address_alike s _ os = refl

result_alike : (s : Setting) (o : Opcode) (os : List Operand) → is_fitting_result (by_width s.x) o (map (widthed s.width) os) ≡ is_fitting_result s o os
result_alike s o os =
    ap₂ (λ a b. a || b) (ap₂ (λ a b. a || b) (ap₂ (λ ns ms. always_fits o || fits_by_widths o ns ms) (written s os) (read s os)) (constant_alike s o os)) (address_alike s o os)

words_alike : (s : Setting) (os : List Operand) → has_words (by_width s.x) (map (widthed s.width) os) ≡ has_words s os
words_alike s os = ap₂ (λ ns ms. list_all (λ n. nat_le n s.x) ns && list_all (λ m. nat_le m s.x) ms) (written s os) (read s os)

pub by_widths : (s : Setting) (m : Meaning) (i : InstrData) → keeps_values (by_width s.x) m (record i { operands = map (widthed s.width) i.operands }) ≡ keeps_values s m i
by_widths s Copying i = refl
by_widths s (Generic gives) i = result_alike s i.op i.operands
by_widths s (Loading extension) i = ap (is_fitting_load s.x extension i.mem) (written s i.operands)
by_widths s Joining i = ap (λ ps. phi_fits (by_width s.x) ps (map (widthed s.width) i.operands)) (places_widthed s.width i.operands) ∙ phis_alike s (places_of i.operands) i.operands
by_widths s Calling i = ap not (virtual_alike s.width i.operands)
by_widths s (Machine gives) i = words_alike s i.operands
by_widths s (MachineLoading exists bytes extension) i = words_alike s i.operands
by_widths s _ i = refl

-- what is looked at of an instruction
abbrev shown : (x : ℕ) → Meaning → Opcode → Option MemOp → List Operand → Bool
shown x m o mem os = keeps_values (by_width x) m (record { op = o; flags = no_flags; operands = os; mem = mem; line = 0 })

is_shown : (x : ℕ) (m : Meaning) (i : InstrData) → keeps_values (by_width x) m i ≡ shown x m i.op i.mem i.operands
is_shown x Copying i = refl
is_shown x _ i = refl

-- instructions of one opcode, whose registers are as wide in order
pub as_wide : (s t : Setting) (m : Meaning) (i j : InstrData) → s.x ≡ t.x → i.op ≡ j.op → i.mem ≡ j.mem → map (widthed s.width) i.operands ≡ map (widthed t.width) j.operands → keeps_values s m i ≡ keeps_values t m j
as_wide s t m i j one ops mems same =
    sym (by_widths s m i) ∙ is_shown s.x m (record i { operands = map (widthed s.width) i.operands })
    ∙ ap₂ (λ x o. shown x m o i.mem (map (widthed s.width) i.operands)) one ops ∙ ap₂ (λ mem os. shown t.x m j.op mem os) mems same
    ∙ sym (is_shown t.x m (record j { operands = map (widthed t.width) j.operands })) ∙ by_widths t m j

-- ══ What is made ══

split_widths : (width : ℕ → ℕ) (xs ys : List ℕ) (ws us : List ℕ) → length xs ≡ length ws → map width (xs ++ ys) ≡ ws ++ us → (map width xs ≡ ws) × (map width ys ≡ us)
split_widths width [] ys [] us many h = (refl, h)
split_widths width [] ys (w ∷ ws) us many h = cc
split_widths width (x ∷ xs) ys [] us many h = cc
split_widths width (x ∷ xs) ys (w ∷ ws) us many h =
    let first : ◌≡◌ {A = ℕ} (width x) w = cc in
    let rest = split_widths width xs ys ws us (omega (arith, many)) cc in
    (ap₂ (λ a l. a ∷ l) first rest.0, rest.1)

map_both : {X : Type 0} (g : X → ℕ) (xs ys : List X) → map g (xs ++ ys) ≡ map g xs ++ map g ys
map_both g [] ys = refl
map_both g (x ∷ xs) ys = ap (λ l. g x ∷ l) (map_both g xs ys)

operands_both : (width : ℕ → ℕ) (xs ys : List Operand) → map (widthed width) (xs ++ ys) ≡ map (widthed width) xs ++ map (widthed width) ys
operands_both width [] ys = refl
operands_both width (x ∷ xs) ys = ap (λ l. widthed width x ∷ l) (operands_both width xs ys)

-- the register at a place is as wide as the place
wide_there : (x : ℕ) (width : ℕ → ℕ) (registers : List ℕ) (types more : List Llt) (p : ℕ) → map width registers ≡ map (width_of x) types → p < length types → width (register_at registers p) ≡ width_at x (types ++ more) p
wide_there x width [] [] more p are below = absurd (omega (arith, below))
wide_there x width [] (t ∷ types) more p are below = cc
wide_there x width (r ∷ registers) [] more p are below = cc
wide_there x width (r ∷ registers) (t ∷ types) more zero are below = cc
wide_there x width (r ∷ registers) (t ∷ types) more (suc p) are below = wide_there x width registers types more p (cc) (omega (arith, below))

-- a place behind others
width_behind : (x : ℕ) (before : List Llt) (ty : Llt) (after : List Llt) (count : ℕ) → length before ≡ count → width_at x (before ++ ty ∷ after) count ≡ width_of x ty
width_behind x [] ty after zero many = refl
width_behind x [] ty after (suc n) many = cc
width_behind x (b ∷ before) ty after zero many = cc
width_behind x (b ∷ before) ty after (suc n) many = width_behind x before ty after n (omega (arith, many))

append_one : (before : List Llt) (ty : Llt) (after : List Llt) → (before ++ ty ∷ []) ++ after ≡ before ++ ty ∷ after
append_one [] ty after = refl
append_one (b ∷ before) ty after = ap (λ l. b ∷ l) (append_one before ty after)

results_wide : (x : ℕ) (width : ℕ → ℕ) (kind : Llt → Kind) (rs : List ℕ) (before types : List Llt) (count : ℕ) → length before ≡ count → map width rs ≡ map (width_of x) types
    → map (widthed width) (defined_as kind rs types) ≡ map (widthed (width_at x (before ++ types))) (defined_as OfType (places_from count types) types)
results_wide x width kind [] before [] count many are = refl
results_wide x width kind [] before (t ∷ types) count many are = cc
results_wide x width kind (r ∷ rs) before [] count many are = cc
results_wide x width kind (r ∷ rs) before (t ∷ types) count many are =
    let first : ◌≡◌ {A = ℕ} (width r) (width_of x t) = cc in
    ap₂ (λ n os. operand.Def (reg_of n) Class ∷ os) (first ∙ sym (width_behind x before t types count many))
    (results_wide x width kind rs (before ++ t ∷ []) types (count + 1) (length_types before t ∙ ap (λ n. n + 1) many) (cc)
    ∙ ap (λ ts. map (widthed (width_at x ts)) (defined_as OfType (places_from (count + 1) types) types)) (append_one before t types))
  where
    length_types : (xs : List Llt) (t : Llt) → length (xs ++ t ∷ []) ≡ length xs + 1
    length_types [] t = refl
    length_types (y ∷ xs) t = let rest : length (xs ++ t ∷ []) ≡ length xs + 1 = length_types xs t in omega (arith, rest)

slots_wide : (x : ℕ) (width : ℕ → ℕ) (registers : List ℕ) (types more : List Llt) (count : ℕ) (slots : List Slot) → length types ≡ count → map width registers ≡ map (width_of x) types → list_all (is_taken count) slots ≡ true
    → map (widthed width) (map (operand_for registers) slots) ≡ map (widthed (width_at x (types ++ more))) (map place_operand slots)
slots_wide x width registers types more count [] many are taken = refl
slots_wide x width registers types more count (At p ∷ slots) many are taken =
    let each = and_parts (nat_lt p count) (list_all (is_taken count) slots) taken in
    ap₂ (λ n os. operand.Use (reg_of n) ∷ os) (wide_there x width registers types more p are (subst (λ n. p < n) (sym many) (ltb-true p count each.0))) (slots_wide x width registers types more count slots many are each.1)
slots_wide x width registers types more count (Stands o ∷ slots) many are taken =
    let each = and_parts (is_fixed o) (list_all (is_taken count) slots) taken in
    ap₂ (λ p os. p ∷ os) (stands o each.0) (slots_wide x width registers types more count slots many are each.1)
  where
    stands : (o : Operand) → is_fixed o ≡ true → widthed width o ≡ widthed (width_at x (types ++ more)) o
    stands (operand.Use r) h = cc
    stands (operand.Def r kind) h = cc
    stands _ h = refl

-- what is made fits, where its registers are as wide as their places
pub all_made_fit : (s : Setting) (kind : Llt → Kind) (line : ℕ) (targets : List (ℕ × ℕ)) (registers : List ℕ) (types : List Llt) (place next : ℕ) (os : List OperationData) → length types ≡ place
    → map s.width registers ≡ map (width_of s.x) types → are_placed place os ≡ true → all_fit s.x types os ≡ true → map s.width (flat (all_registers targets place next os)) ≡ map (width_of s.x) (flat_types os)
    → list_all (λ i. keeps_values s (meaning_of i.flags i.op) i) (all_instrs_for kind line targets registers place next os) ≡ true
all_made_fit s kind line targets registers types place next [] many are placed fit wide = refl
all_made_fit s kind line targets registers types place next (o ∷ os) many are placed fit wide =
    let one = placed_one place o os placed in
    let rs : List ℕ = registers_for targets place next o.types in
    let each = and_parts (keeps_values (on_types s.x (types ++ o.types)) (meaning_of o.flags o.op) (on_places (length types) o)) (all_fit s.x (types ++ o.types) os) fit in
    let parts = split_widths s.width rs (flat (all_registers targets (place_for place o.types) (next_for targets place next o.types) os)) (map (width_of s.x) o.types) (map (width_of s.x) (flat_types os))
    (as_many targets place next o.types ∙ sym (mapped o.types)) (wide ∙ map_both (width_of s.x) o.types (flat_types os)) in
    let same : map (widthed s.width) (instr_for kind registers rs o line).operands ≡ map (widthed (width_at s.x (types ++ o.types))) (on_places (length types) o).operands =
    operands_both s.width (defined_as kind rs o.types) (map (operand_for registers) o.slots)
    ∙ ap₂ (λ a b. a ++ b) (results_wide s.x s.width kind rs types o.types (length types) refl parts.0) (slots_wide s.x s.width registers types o.types place o.slots many are one.taken)
    ∙ sym (operands_both (width_at s.x (types ++ o.types)) (defined_as OfType (places_from (length types) o.types) o.types) (map place_operand o.slots)) in
    and_from (keeps_values s (meaning_of o.flags o.op) (instr_for kind registers rs o line))
    (list_all (λ i. keeps_values s (meaning_of i.flags i.op) i) (all_instrs_for kind line targets (grown registers rs) (place_for place o.types) (next_for targets place next o.types) os))
    (as_wide s (on_types s.x (types ++ o.types)) (meaning_of o.flags o.op) (instr_for kind registers rs o line) (on_places (length types) o) refl refl refl same ∙ each.0)
    (all_made_fit s kind line targets (grown registers rs) (types ++ o.types) (place_for place o.types) (next_for targets place next o.types) os
    (length_both types o.types ∙ ap (λ n. n + length o.types) many ∙ sym (place_is place o.types))
    (ap (map s.width) (grown_is registers rs) ∙ map_both s.width registers rs ∙ ap₂ (λ a b. a ++ b) are parts.0 ∙ sym (map_both (width_of s.x) types o.types)) one.rest each.1 parts.1)
  where
    mapped : (ts : List Llt) → length (map (width_of s.x) ts) ≡ length ts
    mapped [] = refl
    mapped (t ∷ ts) = ap suc (mapped ts)

    length_both : (xs ys : List Llt) → length (xs ++ ys) ≡ length xs + length ys
    length_both [] ys = omega arith
    length_both (y ∷ xs) ys = let rest : length (xs ++ ys) ≡ length xs + length ys = length_both xs ys in omega (arith, rest)
