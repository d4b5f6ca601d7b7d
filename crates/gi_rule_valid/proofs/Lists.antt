-- The registers and kinds of what is made, as one list.
use Rattle.std.proofs.Common.{◌≡◌, ℕ, suc, ◌+◌, Bool, true, false, cond, ◌&&◌, ◌||◌, ◌==◌, nat_lt, List, [], ◌∷◌, ◌++◌, Option, Some, None, length, map, refl, sym, ap, ap₂, ◌∙◌, arith}
use Rattle.std.proofs.lemmas.Bool.{and_parts}
use Rattle.std.specs.List.{list_all, list_any}
use Rattle.gi_llt.specs.declared.Llt.{Llt}
use Rattle.gi_mir.specs.Data.{InstrData}
use Rattle.gi_mir.specs.Edit.{is_def_of}
use Rattle.gi_mir.specs.Registers.{first_there, kind_in_operands}
use Rattle.gi_mir.specs.declared.operand.Kind.{Kind}
use Rattle.gi_mir.specs.declared.operand.Operand.{Operand}
use Rattle.gi_mir.specs.declared.operand.Operand.TheVariants as operand
use Rattle.gi_meaning.specs.InRow.{results_in}
use Rattle.gi_refine.specs.Lifting.{grown}
use Rattle.gi_change_valid.proofs.KeptKinds.{kind_among}
use Rattle.gi_change_valid.proofs.Made.{count, has_def}
use Rattle.gi_valid.proofs.Single.{often}
use Rattle.gi_change_valid.specs.Numbers.{computes}
use Rattle.gi_rule_values.specs.Data.{OperationData}
use Rattle.gi_rule_values.specs.declared.rewrite.Slot.{Slot}
use Rattle.gi_rule_values.specs.declared.rewrite.Slot.TheVariants.{At, Stands}
use Rattle.gi_rule_valid.specs.Keeping.{are_placed, is_fixed, is_taken}
use Rattle.gi_rule_valid.specs.Using.{all_instrs_for, all_registers, defined_as, next_behind, next_for, operand_for, or_new, place_for, registers_for, target_at}

-- ══ Lists ══

-- all registers, and all types
abbrev pub flat : List (List ℕ) → List ℕ
flat [] = []
flat (rs ∷ rss) = rs ++ flat rss

abbrev pub flat_types : List OperationData → List Llt
flat_types [] = []
flat_types (o ∷ os) = o.types ++ flat_types os

abbrev pub among : (r : ℕ) → List ℕ → Bool
among r rs = list_any (λ q. q == r) rs

pub among_append : (r : ℕ) (xs ys : List ℕ) → among r (xs ++ ys) ≡ (among r xs || among r ys)
among_append r [] ys = refl
among_append r (x ∷ xs) ys = ap (λ t. (x == r) || t) (among_append r xs ys) ∙ or_assoc (x == r) (among r xs) (among r ys)
  where
    or_assoc : (a b c : Bool) → (a || (b || c)) ≡ ((a || b) || c)
    or_assoc true b c = refl
    or_assoc false b c = refl

pub often_append : (r : ℕ) (xs ys : List ℕ) → often r (xs ++ ys) ≡ often r xs + often r ys
often_append r [] ys = omega arith
often_append r (x ∷ xs) ys = let h : often r (xs ++ ys) ≡ often r xs + often r ys = often_append r xs ys in omega (arith, h)

-- the kind at the first of these that is a register
abbrev pub kind_at : (kind : Llt → Kind) → (r : ℕ) → List ℕ → List Llt → Option Kind
kind_at kind r (q ∷ qs) (ty ∷ types) = first_there (cond (q == r) (Some (kind ty)) None) (kind_at kind r qs types)
kind_at kind r _ _ = None

first_assoc : (a b c : Option Kind) → first_there (first_there a b) c ≡ first_there a (first_there b c)
first_assoc None b c = refl
first_assoc (Some k) b c = refl

first_alone : (a : Option Kind) → first_there a None ≡ a
first_alone None = refl
first_alone (Some k) = refl

kind_append : (kind : Llt → Kind) (r : ℕ) (xs ys : List ℕ) (ts us : List Llt) → length xs ≡ length ts → kind_at kind r (xs ++ ys) (ts ++ us) ≡ first_there (kind_at kind r xs ts) (kind_at kind r ys us)
kind_append kind r [] ys [] us many = refl
kind_append kind r [] ys (t ∷ ts) us many = cc
kind_append kind r (x ∷ xs) ys [] us many = cc
kind_append kind r (x ∷ xs) ys (t ∷ ts) us many =
    ap (first_there (cond (x == r) (Some (kind t)) None)) (kind_append kind r xs ys ts us (omega (arith, many)))
    ∙ sym (first_assoc (cond (x == r) (Some (kind t)) None) (kind_at kind r xs ts) (kind_at kind r ys us))

-- ══ Registers for types ══

pub as_many : (targets : List (ℕ × ℕ)) (place next : ℕ) (types : List Llt) → length (registers_for targets place next types) ≡ length types
as_many targets place next [] = refl
as_many targets place next (ty ∷ types) = ap suc (as_many targets (place + 1) (next_behind (target_at targets place) next) types)

registers_append : (targets : List (ℕ × ℕ)) (place next : ℕ) (xs ys : List Llt)
    → registers_for targets place next (xs ++ ys) ≡ registers_for targets place next xs ++ registers_for targets (place_for place xs) (next_for targets place next xs) ys
registers_append targets place next [] ys = refl
registers_append targets place next (t ∷ xs) ys = ap (λ rs. or_new (target_at targets place) next ∷ rs) (registers_append targets (place + 1) (next_behind (target_at targets place) next) xs ys)

pub flat_registers : (targets : List (ℕ × ℕ)) (place next : ℕ) (os : List OperationData) → flat (all_registers targets place next os) ≡ registers_for targets place next (flat_types os)
flat_registers targets place next [] = refl
flat_registers targets place next (o ∷ os) =
    ap (λ rs. registers_for targets place next o.types ++ rs) (flat_registers targets (place_for place o.types) (next_for targets place next o.types) os)
    ∙ sym (registers_append targets place next o.types (flat_types os))

-- ══ One instruction ══

-- an operand that defines nothing
pub record DefinesNone (os : List Operand) : Type 0 where
  pub results : results_in os ≡ []
  pub any : (r : ℕ) → list_any (is_def_of r) os ≡ false
  pub kinds : (r : ℕ) → kind_in_operands r os ≡ None

fixed_none : (o : Operand) (os : List Operand) → is_fixed o ≡ true → DefinesNone os → DefinesNone (o ∷ os)
fixed_none (operand.Phys n) os h none = record { results = none.results; any = none.any; kinds = none.kinds }
fixed_none (operand.Int n) os h none = record { results = none.results; any = none.any; kinds = none.kinds }
fixed_none (operand.Constant n v) os h none = record { results = none.results; any = none.any; kinds = none.kinds }
fixed_none (operand.Predicate p) os h none = record { results = none.results; any = none.any; kinds = none.kinds }
fixed_none (_) os h none = cc

pub slots_none : (count : ℕ) (registers : List ℕ) (slots : List Slot) → list_all (is_taken count) slots ≡ true → DefinesNone (map (operand_for registers) slots)
slots_none count registers [] h = record { results = refl; any = λ r. refl; kinds = λ r. refl }
slots_none count registers (At place ∷ slots) h =
    let rest = slots_none count registers slots (and_parts (nat_lt place count) (list_all (is_taken count) slots) h).1 in
    record { results = rest.results; any = rest.any; kinds = rest.kinds }
slots_none count registers (Stands o ∷ slots) h =
    let each : (is_fixed o ≡ true) × (list_all (is_taken count) slots ≡ true) = and_parts (is_fixed o) (list_all (is_taken count) slots) h in
    fixed_none o (map (operand_for registers) slots) each.0 (slots_none count registers slots each.1)

pub results_are : (kind : Llt → Kind) (rs : List ℕ) (types : List Llt) (os : List Operand) → length rs ≡ length types → DefinesNone os → results_in (defined_as kind rs types ++ os) ≡ rs
results_are kind [] [] os many none = none.results
results_are kind [] (t ∷ ts) os many none = cc
results_are kind (r ∷ rs) [] os many none = cc
results_are kind (r ∷ rs) (t ∷ ts) os many none = ap (λ qs. r ∷ qs) (results_are kind rs ts os (omega (arith, many)) none)

pub defines_are : (kind : Llt → Kind) (r : ℕ) (rs : List ℕ) (types : List Llt) (os : List Operand) → length rs ≡ length types → DefinesNone os → list_any (is_def_of r) (defined_as kind rs types ++ os) ≡ among r rs
defines_are kind r [] [] os many none = none.any r
defines_are kind r [] (t ∷ ts) os many none = cc
defines_are kind r (q ∷ rs) [] os many none = cc
defines_are kind r (q ∷ rs) (t ∷ ts) os many none = ap (λ t. (q == r) || t) (defines_are kind r rs ts os (omega (arith, many)) none)

pub kinds_are : (kind : Llt → Kind) (r : ℕ) (rs : List ℕ) (types : List Llt) (os : List Operand) → length rs ≡ length types → DefinesNone os → kind_in_operands r (defined_as kind rs types ++ os) ≡ kind_at kind r rs types
kinds_are kind r [] [] os many none = none.kinds r
kinds_are kind r [] (t ∷ ts) os many none = cc
kinds_are kind r (q ∷ rs) [] os many none = cc
kinds_are kind r (q ∷ rs) (t ∷ ts) os many none = ap (first_there (cond (q == r) (Some (kind t)) None)) (kinds_are kind r rs ts os (omega (arith, many)) none)

-- ══ All ══

-- what is asked of each operation
pub record IsPlacedOne (count : ℕ) (o : OperationData) (os : List OperationData) : Type 0 where
  pub computes : computes o.op ≡ true
  pub taken : list_all (is_taken count) o.slots ≡ true
  pub rest : are_placed (place_for count o.types) os ≡ true

pub placed_one : (count : ℕ) (o : OperationData) (os : List OperationData) → are_placed count (o ∷ os) ≡ true → IsPlacedOne count o os
placed_one count o os h =
    let first = and_parts (computes o.op && list_all (is_taken count) o.slots) (are_placed (place_for count o.types) os) h in
    let second = and_parts (computes o.op) (list_all (is_taken count) o.slots) first.0 in
    record { computes = second.0; taken = second.1; rest = first.1 }

pub record IsListed (kind : Llt → Kind) (is : List InstrData) (rs : List ℕ) (types : List Llt) : Type 0 where
  pub counts : (r : ℕ) → count r is ≡ often r rs
  pub defined : (r : ℕ) → list_any (has_def r) is ≡ among r rs
  pub kinds : (r : ℕ) → kind_among r is ≡ kind_at kind r rs types

pub all_listed : (kind : Llt → Kind) (line : ℕ) (targets : List (ℕ × ℕ)) (registers : List ℕ) (place next : ℕ) (os : List OperationData) → are_placed place os ≡ true
    → IsListed kind (all_instrs_for kind line targets registers place next os) (flat (all_registers targets place next os)) (flat_types os)
all_listed kind line targets registers place next [] h = record { counts = λ r. refl; defined = λ r. refl; kinds = λ r. refl }
all_listed kind line targets registers place next (o ∷ os) h =
    let one = placed_one place o os h in
    let rs : List ℕ = registers_for targets place next o.types in
    let none = slots_none place registers o.slots one.taken in
    let many = as_many targets place next o.types in
    let later : List ℕ = flat (all_registers targets (place_for place o.types) (next_for targets place next o.types) os) in
    let rest = all_listed kind line targets (grown registers rs) (place_for place o.types) (next_for targets place next o.types) os one.rest in
    record {
      counts = λ r. ap₂ (λ m n. m + n) (ap (often r) (results_are kind rs o.types (map (operand_for registers) o.slots) many none)) (rest.counts r) ∙ sym (often_append r rs later);
      defined = λ r. ap₂ (λ s t. s || t) (defines_are kind r rs o.types (map (operand_for registers) o.slots) many none) (rest.defined r) ∙ sym (among_append r rs later);
      kinds = λ r. ap₂ first_there (kinds_are kind r rs o.types (map (operand_for registers) o.slots) many none) (rest.kinds r) ∙ sym (kind_append kind r rs later o.types (flat_types os) many);
    }
