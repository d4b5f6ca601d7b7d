-- What an operation on places accepts is told by its own lists: the types of its results stand behind those before.
use Rattle.std.proofs.Common.{◌≡◌, ℕ, ◌+◌, Bool, true, false, ◌&&◌, List, [], ◌∷◌, ◌++◌, Option, Some, None, length, map, refl, sym, ap, ap₂, ◌∙◌, arith, append_assoc, length-append, slice_get}
use Rattle.gi_llt.specs.declared.Llt.{Llt}
use Rattle.gi_meaning.specs.InRow.{results_in, sources_in}
use Rattle.gi_mir.specs.Accepted.{is_result_type, is_source_type}
use Rattle.gi_mir.specs.declared.operand.Kind.TheVariants.{Generic}
use Rattle.gi_mir.specs.declared.operand.Operand.{Operand}
use Rattle.gi_rule_values.specs.Data.{OperationData}
use Rattle.gi_rule_valid.specs.Keeping.{on_places, place_operand, places_from}
use Rattle.gi_rule_valid.specs.Using.{defined_as}
use Rattle.gi_rule_refines.specs.Stages.{each_passes, is_accepted}
use Rattle.gi_rule_use.specs.Staging.{accepts_each}

results_of : (place : ℕ) (types : List Llt) (os : List Operand) → results_in (defined_as Generic (places_from place types) types ++ os) ≡ places_from place types ++ results_in os
results_of place [] os = refl
results_of place (ty ∷ types) os = ap (λ (rs : List ℕ). place ∷ rs) (results_of (place + 1) types os)

sources_of : (place : ℕ) (types : List Llt) (os : List Operand) → sources_in (defined_as Generic (places_from place types) types ++ os) ≡ sources_in os
sources_of place [] os = refl
sources_of place (ty ∷ types) os = sources_of (place + 1) types os

map_append : (f : ℕ → Option Llt) (xs ys : List ℕ) → map f (xs ++ ys) ≡ map f xs ++ map f ys
map_append f [] ys = refl
map_append f (x ∷ xs) ys = ap (λ (os : List (Option Llt)). f x ∷ os) (map_append f xs ys)

next_there : (before types : List Llt) (ty : Llt) → slice_get (before ++ ty ∷ types) (length before) ≡ Some ty
next_there [] types ty = refl
next_there (b ∷ before) types ty = next_there before types ty

own_types : (all before types : List Llt) (place : ℕ) → all ≡ before ++ types → place ≡ length before → map (slice_get all) (places_from place types) ≡ map (λ (ty : Llt). Some ty) types
own_types all before [] place e p = refl
own_types all before (ty ∷ types) place e p = ap₂
    (λ (o : Option Llt) (os : List (Option Llt)). o ∷ os)
    (ap₂ (λ (ts : List Llt) (k : ℕ). slice_get ts k) e p ∙ next_there before types ty)
    (own_types all (before ++ ty ∷ []) types (place + 1) (e ∙ sym (append_assoc before (ty ∷ []) types)) (omega (arith, p, length-append before (ty ∷ []))))

passes_append : (test : ℕ → Llt → Bool) (place : ℕ) (types : List Llt) (more : List (Option Llt)) → each_passes test place (map (λ (ty : Llt). Some ty) types ++ more) ≡ (each_passes test place (map (λ (ty : Llt). Some ty) types) && each_passes test (place + length types) more)
passes_append test place [] more = let z : place ≡ place + 0 = omega arith in ap (λ (k : ℕ). each_passes test k more) z
passes_append test place (ty ∷ types) more =
    let along : (place + 1) + length types ≡ place + length (ty ∷ types) = omega arith in
    ap (λ (b : Bool). test place ty && b) (passes_append test (place + 1) types more ∙ ap (λ (k : ℕ). each_passes test (place + 1) (map (λ (t : Llt). Some t) types) && each_passes test k more) along)
    ∙ three (test place ty) (each_passes test (place + 1) (map (λ (t : Llt). Some t) types)) (each_passes test (place + length (ty ∷ types)) more)
  where
    three : (a b c : Bool) → (a && (b && c)) ≡ ((a && b) && c)
    three true b c = refl
    three false b c = refl

pub accepted_is : (x : ℕ) (types before : List Llt) (o : OperationData) → types ≡ before ++ o.types → is_accepted x (slice_get types) (on_places (length before) o) ≡ accepts_each x types o
accepted_is x types before o e =
    let slots = map place_operand o.slots in
    let results = ap (map (slice_get types)) (results_of (length before) o.types slots)
    ∙ map_append (slice_get types) (places_from (length before) o.types) (results_in slots)
    ∙ ap (λ (os : List (Option Llt)). os ++ map (slice_get types) (results_in slots)) (own_types types before o.types (length before) e refl) in
    let behind : 0 + length o.types ≡ length o.types = omega arith in
    let own = ap (each_passes (is_result_type x o.op) 0) results
    ∙ passes_append (is_result_type x o.op) 0 o.types (map (slice_get types) (results_in slots))
    ∙ ap (λ (k : ℕ). each_passes (is_result_type x o.op) 0 (map (λ (ty : Llt). Some ty) o.types) && each_passes (is_result_type x o.op) k (map (slice_get types) (results_in slots))) behind in
    let read = ap (λ (rs : List ℕ). each_passes (is_source_type x o.op) 0 (map (slice_get types) rs)) (sources_of (length before) o.types slots) in
    ap₂ (λ (a b : Bool). a && b) own read
