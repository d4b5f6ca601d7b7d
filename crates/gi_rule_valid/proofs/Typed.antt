-- The types of what is made meet their rows on registers, where they do on places.
use Rattle.std.proofs.Common.{◌≡◌, ℕ, zero, suc, ◌+◌, ◌<◌, Bool, true, false, cond, nat_lt, List, [], ◌∷◌, ◌++◌, Option, Some, None, length, map, slice_get, ◌||◌, ◌&&◌, ⊎_elim, refl, sym, ap, ap₂, ◌∙◌, arith, ltb-true}
use Rattle.std.proofs.lemmas.Bool.{and_parts, and_from, or_cases, or_left, or_right}
use Rattle.std.specs.List.{list_all, list_any}
use Rattle.std.specs.Option.{is_none, option_or}
use Rattle.gi_llt.specs.declared.Llt.{Llt}
use Rattle.gi_mir.specs.Data.{InstrData, reg_of}
use Rattle.gi_mir.specs.Formed.{is_use}
use Rattle.gi_mir.specs.Row.{typing_of}
use Rattle.gi_mir.specs.Typings.{TypingData}
use Rattle.gi_mir.specs.declared.operand.Kind.{Kind}
use Rattle.gi_mir.specs.declared.operand.Kind.TheVariants.{Generic}
use Rattle.gi_mir.specs.declared.operand.Operand.{Operand}
use Rattle.gi_mir.specs.declared.operand.Operand.TheVariants as operand
use Rattle.gi_meaning.specs.InRow.{results_in, sources_in}
use Rattle.gi_refine.specs.Lifting.{grown}
use Rattle.gi_valid.specs.Definitions.{is_copy}
use Rattle.gi_valid.specs.Typing.{Phase, Selecting, Typed, Untyped, first_unmet, is_as_wide, is_constant_op, joins_any, unmet, unsized, unsuited}
use Rattle.gi_change_valid.proofs.Typed.{still_unmet}
use Rattle.gi_rule_values.specs.Data.{OperationData}
use Rattle.gi_rule_values.specs.declared.rewrite.Slot.{Slot}
use Rattle.gi_rule_values.specs.declared.rewrite.Slot.TheVariants.{At, Stands}
use Rattle.gi_rule_valid.specs.Keeping.{all_types, are_met, are_placed, on_each, is_fixed, is_taken, on_places, place_operand, places_from, places_taken}
use Rattle.gi_rule_valid.specs.Using.{all_instrs_for, all_registers, defined_as, instr_for, next_for, operand_for, place_for, register_at, registers_for}
use Rattle.gi_rule_valid.proofs.Lists.{as_many, flat, flat_types, placed_one}
use Rattle.gi_rule_valid.proofs.Origins.{grown_is, place_is}

-- ══ Registers of types ══

abbrev pub somes : List Llt → List (Option Llt)
somes [] = []
somes (ty ∷ types) = Some ty ∷ somes types

pub somes_append : (xs ys : List Llt) → somes (xs ++ ys) ≡ somes xs ++ somes ys
somes_append [] ys = refl
somes_append (x ∷ xs) ys = ap (λ l. Some x ∷ l) (somes_append xs ys)

pub map_append : (tg : ℕ → Option Llt) (xs ys : List ℕ) → map tg (xs ++ ys) ≡ map tg xs ++ map tg ys
map_append tg [] ys = refl
map_append tg (x ∷ xs) ys = ap (λ l. tg x ∷ l) (map_append tg xs ys)

-- registers have types, in order
pub record HaveTypes (tg : ℕ → Option Llt) (registers : List ℕ) (types : List Llt) : Type 0 where
  pub are : map tg registers ≡ somes types

-- the type of a register at a place
pub type_there : (tg : ℕ → Option Llt) (registers : List ℕ) (types : List Llt) (p : ℕ) → map tg registers ≡ somes types → p < length types → tg (register_at registers p) ≡ slice_get types p
type_there tg [] [] p are below = absurd (omega (arith, below))
type_there tg [] (t ∷ types) p are below = cc
type_there tg (r ∷ registers) [] p are below = cc
type_there tg (r ∷ registers) (t ∷ types) zero are below = cc
type_there tg (r ∷ registers) (t ∷ types) (suc p) are below = type_there tg registers types p (cc) (omega (arith, below))

get_first : (xs ys : List Llt) (p : ℕ) → p < length xs → slice_get (xs ++ ys) p ≡ slice_get xs p
get_first [] ys p below = absurd (omega (arith, below))
get_first (x ∷ xs) ys zero below = refl
get_first (x ∷ xs) ys (suc p) below = get_first xs ys p (omega (arith, below))

-- ══ Results ══

places_type : (before types after : List Llt) (count : ℕ) → length before ≡ count → map (slice_get (before ++ types)) (places_from count types) ≡ somes types
places_type before types after count many = by types before count many
  where
    shift : (xs : List Llt) (t : Llt) (ts : List Llt) → xs ++ t ∷ ts ≡ (xs ++ t ∷ []) ++ ts
    shift [] t ts = refl
    shift (x ∷ xs) t ts = ap (λ l. x ∷ l) (shift xs t ts)

    here : (xs : List Llt) (t : Llt) (ts : List Llt) → slice_get (xs ++ t ∷ ts) (length xs) ≡ Some t
    here [] t ts = refl
    here (x ∷ xs) t ts = here xs t ts

    longer : (xs : List Llt) (t : Llt) → length (xs ++ t ∷ []) ≡ length xs + 1
    longer [] t = refl
    longer (x ∷ xs) t = ap suc (longer xs t) ∙ omega arith

    by : (ts xs : List Llt) (c : ℕ) → length xs ≡ c → map (slice_get (xs ++ ts)) (places_from c ts) ≡ somes ts
    by [] xs c many = refl
    by (t ∷ ts) xs c many =
        ap₂ (λ a l. a ∷ l) (ap (slice_get (xs ++ t ∷ ts)) (sym many) ∙ here xs t ts)
        (ap (λ l. map (slice_get l) (places_from (c + 1) ts)) (shift xs t ts) ∙ by ts (xs ++ t ∷ []) (c + 1) (longer xs t ∙ ap (λ n. n + 1) many))

-- ══ An instruction on registers and on places ══

results_of_defined : (kind : Llt → Kind) (rs : List ℕ) (types : List Llt) (os : List Operand) → length rs ≡ length types → results_in os ≡ [] → results_in (defined_as kind rs types ++ os) ≡ rs
results_of_defined kind [] [] os many none = none
results_of_defined kind [] (t ∷ ts) os many none = cc
results_of_defined kind (r ∷ rs) [] os many none = cc
results_of_defined kind (r ∷ rs) (t ∷ ts) os many none = ap (λ qs. r ∷ qs) (results_of_defined kind rs ts os (omega (arith, many)) none)

sources_of_defined : (kind : Llt → Kind) (rs : List ℕ) (types : List Llt) (os : List Operand) → sources_in (defined_as kind rs types ++ os) ≡ sources_in os
sources_of_defined kind [] types os = refl
sources_of_defined kind (r ∷ rs) [] os = refl
sources_of_defined kind (r ∷ rs) (t ∷ ts) os = sources_of_defined kind rs ts os

-- an operand that stands in the instruction has no register
record HasNone (os : List Operand) (o : Operand) : Type 0 where
  results : results_in (o ∷ os) ≡ results_in os
  sources : sources_in (o ∷ os) ≡ sources_in os

has_none : (os : List Operand) (o : Operand) → is_fixed o ≡ true → HasNone os o
has_none os (operand.Phys n) h = record { results = refl; sources = refl }
has_none os (operand.Int n) h = record { results = refl; sources = refl }
has_none os (operand.Constant n v) h = record { results = refl; sources = refl }
has_none os (operand.Predicate p) h = record { results = refl; sources = refl }
has_none os (_) h = cc

slot_results : (count : ℕ) (registers : List ℕ) (slots : List Slot) → list_all (is_taken count) slots ≡ true → results_in (map (operand_for registers) slots) ≡ []
slot_results count registers [] h = refl
slot_results count registers (At p ∷ slots) h = slot_results count registers slots (and_parts (nat_lt p count) (list_all (is_taken count) slots) h).1
slot_results count registers (Stands o ∷ slots) h =
    let each = and_parts (is_fixed o) (list_all (is_taken count) slots) h in (has_none (map (operand_for registers) slots) o each.0).results ∙ slot_results count registers slots each.1

slot_sources : (count : ℕ) (registers : List ℕ) (slots : List Slot) → list_all (is_taken count) slots ≡ true → sources_in (map (operand_for registers) slots) ≡ map (register_at registers) (places_taken slots)
slot_sources count registers [] h = refl
slot_sources count registers (At p ∷ slots) h = ap (λ l. register_at registers p ∷ l) (slot_sources count registers slots (and_parts (nat_lt p count) (list_all (is_taken count) slots) h).1)
slot_sources count registers (Stands o ∷ slots) h =
    let each = and_parts (is_fixed o) (list_all (is_taken count) slots) h in (has_none (map (operand_for registers) slots) o each.0).sources ∙ slot_sources count registers slots each.1

place_results : (count : ℕ) (slots : List Slot) → list_all (is_taken count) slots ≡ true → results_in (map place_operand slots) ≡ []
place_results count [] h = refl
place_results count (At p ∷ slots) h = place_results count slots (and_parts (nat_lt p count) (list_all (is_taken count) slots) h).1
place_results count (Stands o ∷ slots) h =
    let each = and_parts (is_fixed o) (list_all (is_taken count) slots) h in (has_none (map place_operand slots) o each.0).results ∙ place_results count slots each.1

place_sources : (count : ℕ) (slots : List Slot) → list_all (is_taken count) slots ≡ true → sources_in (map place_operand slots) ≡ places_taken slots
place_sources count [] h = refl
place_sources count (At p ∷ slots) h = ap (λ l. p ∷ l) (place_sources count slots (and_parts (nat_lt p count) (list_all (is_taken count) slots) h).1)
place_sources count (Stands o ∷ slots) h =
    let each = and_parts (is_fixed o) (list_all (is_taken count) slots) h in (has_none (map place_operand slots) o each.0).sources ∙ place_sources count slots each.1

sources_alike : (tg : ℕ → Option Llt) (registers : List ℕ) (types more : List Llt) (count : ℕ) (slots : List Slot) → map tg registers ≡ somes types → length types ≡ count → list_all (is_taken count) slots ≡ true
    → map tg (map (register_at registers) (places_taken slots)) ≡ map (slice_get (types ++ more)) (places_taken slots)
sources_alike tg registers types more count [] are many h = refl
sources_alike tg registers types more count (At p ∷ slots) are many h =
    let each = and_parts (nat_lt p count) (list_all (is_taken count) slots) h in
    let less : p < count = ltb-true p count each.0 in
    let below : p < length types = omega (arith, less, many) in
    ap₂ (λ a l. a ∷ l) (type_there tg registers types p are below ∙ sym (get_first types more p below)) (sources_alike tg registers types more count slots are many each.1)
sources_alike tg registers types more count (Stands o ∷ slots) are many h = sources_alike tg registers types more count slots are many (and_parts (is_fixed o) (list_all (is_taken count) slots) h).1

-- ══ Rows ══

pub places_many : (count : ℕ) (types : List Llt) → length (places_from count types) ≡ length types
places_many count [] = refl
places_many count (t ∷ types) = ap suc (places_many (count + 1) types)

unmet_alike : (x : ℕ) (tf tg : ℕ → Option Llt) (typing : Option TypingData) (os os' : List Operand) → length (results_in os') ≡ length (results_in os) → map tg (results_in os' ++ sources_in os') ≡ map tf (results_in os ++ sources_in os)
    → unmet x tf typing os ≡ None → unmet x tg typing os' ≡ None
unmet_alike x tf tg None os os' many same none = refl
unmet_alike x tf tg (Some typing) os os' many same none =
    ap (λ n. first_unmet x tg typing n [] (results_in os' ++ sources_in os')) many
    ∙ still_unmet x tf tg typing (length (results_in os)) [] [] (results_in os ++ sources_in os) (results_in os' ++ sources_in os') refl same none

both_none : (a b : Option ℕ) → option_or a b ≡ None → (a ≡ None) × (b ≡ None)
both_none None b h = (refl, h)
both_none (Some r) b h = cc

-- the constant of an operation is as wide as its result
width_alike : (x bits : ℕ) (r q : ℕ) (t u : Option Llt) → u ≡ t → cond (is_as_wide x bits t) None (Some r) ≡ None → cond (is_as_wide x bits u) None (Some q) ≡ None
width_alike x bits r q t u same none = ap (λ v. cond (is_as_wide x bits v) None (Some q)) same ∙ by (is_as_wide x bits t) none
  where
    by : (b : Bool) → cond b None (Some r) ≡ None → cond b None (Some q) ≡ None
    by true none = refl
    by false none = cc

unsized_slots : (x : ℕ) (tg : ℕ → Option Llt) (registers : List ℕ) (count : ℕ) (slots : List Slot) → list_all (is_taken count) slots ≡ true → unsized x tg (map (operand_for registers) slots) ≡ None
unsized_slots x tg registers count [] h = refl
unsized_slots x tg registers count (At p ∷ slots) h = refl
unsized_slots x tg registers count (Stands o ∷ slots) h = by o (and_parts (is_fixed o) (list_all (is_taken count) slots) h).0
  where
    by : (o : Operand) → is_fixed o ≡ true → unsized x tg (o ∷ map (operand_for registers) slots) ≡ None
    by (operand.Phys n) h = refl
    by (operand.Int n) h = refl
    by (operand.Constant n v) h = refl
    by (operand.Predicate p) h = refl
    by (_) h = cc

unsized_one : (x : ℕ) (tf tg : ℕ → Option Llt) (registers : List ℕ) (r q : ℕ) (k k' : Kind) (count : ℕ) (slots : List Slot) → list_all (is_taken count) slots ≡ true → tg r ≡ tf q
    → unsized x tf (operand.Def (reg_of q) k ∷ map place_operand slots) ≡ None → unsized x tg (operand.Def (reg_of r) k' ∷ map (operand_for registers) slots) ≡ None
unsized_one x tf tg registers r q k k' count [] h same none = refl
unsized_one x tf tg registers r q k k' count (At p ∷ slots) h same none = refl
unsized_one x tf tg registers r q k k' count (Stands o ∷ slots) h same none = by o slots (and_parts (is_fixed o) (list_all (is_taken count) slots) h).0 none
  where
    by : (o : Operand) (slots : List Slot) → is_fixed o ≡ true → unsized x tf (operand.Def (reg_of q) k ∷ o ∷ map place_operand slots) ≡ None → unsized x tg (operand.Def (reg_of r) k' ∷ o ∷ map (operand_for registers) slots) ≡ None
    by (operand.Phys n) slots h none = refl
    by (operand.Int n) slots h none = refl
    by (operand.Constant n v) [] h none = width_alike x n q r (tf q) (tg r) same none
    by (operand.Constant n v) (s ∷ slots) h none = refl
    by (operand.Predicate p) slots h none = refl
    by (_) slots h none = cc

unsized_alike : (x : ℕ) (tf tg : ℕ → Option Llt) (registers rs ps : List ℕ) (types : List Llt) (kind : Llt → Kind) (count : ℕ) (slots : List Slot) → list_all (is_taken count) slots ≡ true
    → length rs ≡ length types → length ps ≡ length types → map tg rs ≡ map tf ps
    → unsized x tf (defined_as Generic ps types ++ map place_operand slots) ≡ None → unsized x tg (defined_as kind rs types ++ map (operand_for registers) slots) ≡ None
unsized_alike x tf tg registers [] ps [] kind count slots h many many' same none = unsized_slots x tg registers count slots h
unsized_alike x tf tg registers (r ∷ rs) ps [] kind count slots h many many' same none = cc
unsized_alike x tf tg registers [] ps (t ∷ types) kind count slots h many many' same none = cc
unsized_alike x tf tg registers (r ∷ rs) [] (t ∷ types) kind count slots h many many' same none = cc
unsized_alike x tf tg registers (r ∷ []) (p ∷ []) (t ∷ []) kind count slots h many many' same none = let first : ◌≡◌ {A = Option Llt} (tg r) (tf p) = cc in unsized_one x tf tg registers r p (Generic t) (kind t) count slots h first none
unsized_alike x tf tg registers (r ∷ q ∷ rs) (p ∷ ps) (t ∷ []) kind count slots h many many' same none = cc
unsized_alike x tf tg registers (r ∷ []) (p ∷ p' ∷ ps) (t ∷ []) kind count slots h many many' same none = cc
unsized_alike x tf tg registers (r ∷ []) (p ∷ ps) (t ∷ u ∷ types) kind count slots h many many' same none = cc
unsized_alike x tf tg registers (r ∷ q ∷ rs) (p ∷ ps) (t ∷ u ∷ types) kind count slots h many many' same none = refl

-- registers for an operation and for what it takes
pub record IsSetOn (tg : ℕ → Option Llt) (registers rs : List ℕ) (types : List Llt) (place : ℕ) (o : OperationData) : Type 0 where
  pub many : length types ≡ place
  pub are : map tg registers ≡ somes types
  pub as_many : length rs ≡ length o.types
  pub results : map tg rs ≡ somes o.types
  pub taken : list_all (is_taken place) o.slots ≡ true

-- the registers of two instructions have the same types
pub record AreAlike (tf tg : ℕ → Option Llt) (i j : InstrData) : Type 0 where
  pub many : length (results_in j.operands) ≡ length (results_in i.operands)
  pub results : map tg (results_in j.operands) ≡ map tf (results_in i.operands)
  pub sources : map tg (sources_in j.operands) ≡ map tf (sources_in i.operands)

on_ps : (types : List Llt) (o : OperationData) → map (slice_get (types ++ o.types)) (places_from (length types) o.types) ≡ somes o.types
on_ps types o = places_type types o.types [] (length types) refl

alike : (tg : ℕ → Option Llt) (kind : Llt → Kind) (registers rs : List ℕ) (types : List Llt) (place : ℕ) (o : OperationData) (line : ℕ) → IsSetOn tg registers rs types place o
    → AreAlike (slice_get (types ++ o.types)) tg (on_places (length types) o) (instr_for kind registers rs o line)
alike tg kind registers rs types place o line c =
    let tf : ℕ → Option Llt = slice_get (types ++ o.types) in
    let ps : List ℕ = places_from (length types) o.types in
    let first : results_in (on_places (length types) o).operands ≡ places_from (length types) o.types =
    results_of_defined Generic ps o.types (map place_operand o.slots) (places_many (length types) o.types) (place_results place o.slots c.taken) in
    let first' : results_in (instr_for kind registers rs o line).operands ≡ rs = results_of_defined kind rs o.types (map (operand_for registers) o.slots) c.as_many (slot_results place registers o.slots c.taken) in
    let second : sources_in (on_places (length types) o).operands ≡ places_taken o.slots = sources_of_defined Generic ps o.types (map place_operand o.slots) ∙ place_sources place o.slots c.taken in
    let second' : sources_in (instr_for kind registers rs o line).operands ≡ map (register_at registers) (places_taken o.slots) =
    sources_of_defined kind rs o.types (map (operand_for registers) o.slots) ∙ slot_sources place registers o.slots c.taken in
    record {
      many = ap length first' ∙ c.as_many ∙ sym (places_many (length types) o.types) ∙ sym (ap length first);
      results = ap (map tg) first' ∙ c.results ∙ sym (on_ps types o) ∙ sym (ap (map tf) first);
      sources = ap (map tg) second' ∙ sources_alike tg registers types o.types place o.slots c.are c.many c.taken ∙ sym (ap (map tf) second);
    }

-- an operation whose types meet its row on places
suited : (x : ℕ) (tg : ℕ → Option Llt) (kind : Llt → Kind) (registers rs : List ℕ) (types : List Llt) (place : ℕ) (o : OperationData) (line : ℕ) → IsSetOn tg registers rs types place o
    → unsuited x (slice_get (types ++ o.types)) (on_places (length types) o) ≡ None → unsuited x tg (instr_for kind registers rs o line) ≡ None
suited x tg kind registers rs types place o line c none =
    let tf : ℕ → Option Llt = slice_get (types ++ o.types) in
    let os : List Operand = (on_places (length types) o).operands in
    let os' : List Operand = (instr_for kind registers rs o line).operands in
    let a : AreAlike (slice_get (types ++ o.types)) tg (on_places (length types) o) (instr_for kind registers rs o line) = alike tg kind registers rs types place o line c in
    let parts = both_none (unmet x tf (typing_of o.op) os) (cond (is_constant_op o.op) (unsized x tf os) None) none in
    let same : map tg (results_in os' ++ sources_in os') ≡ map tf (results_in os ++ sources_in os) =
    map_append tg (results_in os') (sources_in os') ∙ ap₂ (λ p q. p ++ q) a.results a.sources ∙ sym (map_append tf (results_in os) (sources_in os)) in
    ap₂ option_or (unmet_alike x tf tg (typing_of o.op) os os' a.many same parts.0)
    (by (is_constant_op o.op) (λ l. unsized_alike x tf tg registers rs (places_from (length types) o.types) o.types kind place o.slots c.taken c.as_many (places_many (length types) o.types) (c.results ∙ sym (on_ps types o)) l) parts.1)
  where
    by : (b : Bool) → (unsized x (slice_get (types ++ o.types)) (on_places (length types) o).operands ≡ None → unsized x tg (instr_for kind registers rs o line).operands ≡ None)
        → cond b (unsized x (slice_get (types ++ o.types)) (on_places (length types) o).operands) None ≡ None → cond b (unsized x tg (instr_for kind registers rs o line).operands) None ≡ None
    by true same none = same none
    by false same none = none

-- ══ All ══

pub split_somes : (tg : ℕ → Option Llt) (xs ys : List ℕ) (ts us : List Llt) → length xs ≡ length ts → map tg (xs ++ ys) ≡ somes (ts ++ us) → (map tg xs ≡ somes ts) × (map tg ys ≡ somes us)
split_somes tg [] ys [] us many h = (refl, h)
split_somes tg [] ys (t ∷ ts) us many h = cc
split_somes tg (x ∷ xs) ys [] us many h = cc
split_somes tg (x ∷ xs) ys (t ∷ ts) us many h =
    let first : ◌≡◌ {A = Option Llt} (tg x) (Some t) = cc in
    let rest = split_somes tg xs ys ts us (omega (arith, many)) cc in
    (ap₂ (λ a l. a ∷ l) first rest.0, rest.1)

none_of : (o : Option ℕ) → is_none o ≡ true → o ≡ None
none_of None h = refl
none_of (Some r) h = cc

length_types : (xs ys : List Llt) → length (xs ++ ys) ≡ length xs + length ys
length_types [] ys = omega arith
length_types (x ∷ xs) ys = let rest : length (xs ++ ys) ≡ length xs + length ys = length_types xs ys in omega (arith, rest)

-- what is made passes a test that looks at types, where its registers have their types
pub all_alike : (test : (ℕ → Option Llt) → InstrData → Bool) (tg : ℕ → Option Llt) (kind : Llt → Kind) (line : ℕ)
    → ((registers rs : List ℕ) (types : List Llt) (place : ℕ) (o : OperationData) → IsSetOn tg registers rs types place o → AreAlike (slice_get (types ++ o.types)) tg (on_places (length types) o) (instr_for kind registers rs o line)
    → test (slice_get (types ++ o.types)) (on_places (length types) o) ≡ true → test tg (instr_for kind registers rs o line) ≡ true)
    → (targets : List (ℕ × ℕ)) (registers : List ℕ) (types : List Llt) (place next : ℕ) (os : List OperationData) → length types ≡ place → map tg registers ≡ somes types
    → are_placed place os ≡ true → on_each test types os ≡ true → map tg (flat (all_registers targets place next os)) ≡ somes (flat_types os)
    → list_all (test tg) (all_instrs_for kind line targets registers place next os) ≡ true
all_alike test tg kind line goes targets registers types place next [] many are placed passed typed = refl
all_alike test tg kind line goes targets registers types place next (o ∷ os) many are placed passed typed =
    let one = placed_one place o os placed in
    let rs : List ℕ = registers_for targets place next o.types in
    let each = and_parts (test (slice_get (types ++ o.types)) (on_places (length types) o)) (on_each test (types ++ o.types) os) passed in
    let parts = split_somes tg rs (flat (all_registers targets (place_for place o.types) (next_for targets place next o.types) os)) o.types (flat_types os) (as_many targets place next o.types) typed in
    let set : IsSetOn tg registers rs types place o = record { many = many; are = are; as_many = as_many targets place next o.types; results = parts.0; taken = one.taken } in
    and_from (test tg (instr_for kind registers rs o line)) (list_all (test tg) (all_instrs_for kind line targets (grown registers rs) (place_for place o.types) (next_for targets place next o.types) os))
    (goes registers rs types place o set (alike tg kind registers rs types place o line set) each.0)
    (all_alike test tg kind line goes targets (grown registers rs) (types ++ o.types) (place_for place o.types) (next_for targets place next o.types) os
    (length_types types o.types ∙ ap (λ n. n + length o.types) many ∙ sym (place_is place o.types))
    (ap (map tg) (grown_is registers rs) ∙ map_append tg registers rs ∙ ap₂ (λ a b. a ++ b) are parts.0 ∙ sym (somes_append types o.types)) one.rest each.1 parts.1)

-- a copy joins any two types on registers as it does on places
uses_behind : (kind : Llt → Kind) (rs : List ℕ) (types : List Llt) (os : List Operand) → list_any is_use (defined_as kind rs types ++ os) ≡ list_any is_use os
uses_behind kind [] types os = refl
uses_behind kind (r ∷ rs) [] os = refl
uses_behind kind (r ∷ rs) (ty ∷ types) os = uses_behind kind rs types os

uses_alike : (registers : List ℕ) (slots : List Slot) → list_any is_use (map (operand_for registers) slots) ≡ list_any is_use (map place_operand slots)
uses_alike registers [] = refl
uses_alike registers (At place ∷ slots) = refl
uses_alike registers (Stands o ∷ slots) = ap (λ t. is_use o || t) (uses_alike registers slots)

joined_alike : (phase : Phase) (kind : Llt → Kind) (registers rs : List ℕ) (types : List Llt) (o : OperationData) (line : ℕ) → joins_any phase (instr_for kind registers rs o line) ≡ joins_any phase (on_places (length types) o)
joined_alike Typed kind registers rs types o line = refl
joined_alike Untyped kind registers rs types o line = refl
joined_alike Selecting kind registers rs types o line =
    ap (λ t. is_copy o.op && t) (uses_behind kind rs o.types (map (operand_for registers) o.slots) ∙ uses_alike registers o.slots ∙ sym (uses_behind Generic (places_from (length types) o.types) o.types (map place_operand o.slots)))

-- it meets its rows
pub all_suited : (x : ℕ) (phase : Phase) (tg : ℕ → Option Llt) (kind : Llt → Kind) (line : ℕ) (targets : List (ℕ × ℕ)) (registers : List ℕ) (types : List Llt) (place next : ℕ) (os : List OperationData) → length types ≡ place → map tg registers ≡ somes types
    → are_placed place os ≡ true → are_met x phase types os ≡ true → map tg (flat (all_registers targets place next os)) ≡ somes (flat_types os)
    → list_all (λ i. is_none (unsuited x tg i) || joins_any phase i) (all_instrs_for kind line targets registers place next os) ≡ true
all_suited x phase tg kind line targets registers types place next os many are placed met typed =
    all_alike (λ type_of i. is_none (unsuited x type_of i) || joins_any phase i) tg kind line
    (λ registers rs types place o set alike passed.
    let before : Option ℕ = unsuited x (slice_get (types ++ o.types)) (on_places (length types) o) in
    let after : Option ℕ = unsuited x tg (instr_for kind registers rs o line) in
    ⊎_elim (λ none. or_left (is_none after) (joins_any phase (instr_for kind registers rs o line)) (ap is_none (suited x tg kind registers rs types place o line set (none_of before none))))
    (λ joins. or_right (is_none after) (joins_any phase (instr_for kind registers rs o line)) (joined_alike phase kind registers rs types o line ∙ joins))
    (or_cases (is_none before) (joins_any phase (on_places (length types) o)) passed))
    targets registers types place next os many are placed met typed

pub all_types_are : (types : List Llt) (os : List OperationData) → all_types types os ≡ types ++ flat_types os
all_types_are types [] = sym (nothing types)
  where
    nothing : (xs : List Llt) → xs ++ [] ≡ xs
    nothing [] = refl
    nothing (x ∷ xs) = ap (λ l. x ∷ l) (nothing xs)
all_types_are types (o ∷ os) = all_types_are (types ++ o.types) os ∙ shift types o.types (flat_types os)
  where
    shift : (xs ys zs : List Llt) → (xs ++ ys) ++ zs ≡ xs ++ (ys ++ zs)
    shift [] ys zs = refl
    shift (x ∷ xs) ys zs = ap (λ l. x ∷ l) (shift xs ys zs)
