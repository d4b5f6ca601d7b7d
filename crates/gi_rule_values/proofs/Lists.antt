-- Runs of lists of operations, a step at a time, over environments of any length.
use Rattle.std.proofs.Common.{◌≡◌, ℕ, zero, suc, ◌+◌, ◌*◌, ◌/◌, ◌^◌, ◌<◌, List, [], ◌∷◌, ◌++◌, length, map, Option, Some, None, option_map, slice_get, refl, sym, ap, ap₂, ◌∙◌, subst, arith, append_assoc}
use Rattle.std.proofs.Math.Nat.{add-mul-mod_self_left, mod-eq_of_lt}
use Rattle.std.proofs.lemmas.Nat.{div-mul-add}
use Rattle.gi_llt.specs.Llt.{width_of}
use Rattle.gi_meaning.specs.Argument.{Argument, Value}
use Rattle.gi_meaning.specs.Generic.{merged, parts_of}
use Rattle.gi_meaning.specs.Meaning.{meaning_of}
use Rattle.gi_meaning.specs.Runs.{joined_lists}
use Rattle.gi_meaning.specs.State.{World}
use Rattle.gi_refine.specs.Values.{At, Environment, ForAllOf, Operation, appended, arguments_at}
use Rattle.gi_rule_values.specs.Forms.{parts, places_from, slots_from}
use Rattle.gi_rule_values.specs.OnValues.{slot_on_values}
use Rattle.gi_rule_values.specs.Running.{AreEqual, AreThere, ForAllRuns, ForArguments, ForResults, ForRest, IfThere}
use Rattle.gi_rule_values.proofs.ByNumbers.{get_left, longer}

-- ══ One step ══

-- an operation whose arguments are there
pub one_step : (x : ℕ) (o : Operation) (os : List Operation) (env : Environment) (claim : Option Environment → Type 0) (arguments : List Argument) → arguments_at env o.slots ≡ Some arguments
    → ForResults x (meaning_of o.flags o.op) o.widths arguments (λ results. ForRest (appended env o.widths results) (λ later. ForAllRuns x os later claim) (claim None)) (claim None)
    → ForAllRuns x (o ∷ os) env claim
one_step x o os env claim arguments there h =
    subst (λ found. ForArguments x o found (λ results. ForRest (appended env o.widths results) (λ later. ForAllRuns x os later claim) (claim None)) (claim None)) (sym there) h

pub read_one : (env : Environment) (i n v : ℕ) → slice_get env i ≡ Some (n, v) → arguments_at env (At i ∷ []) ≡ Some (Value n v ∷ [])
read_one env i n v is = ap (λ found. joined_lists (option_map (λ entry. Value entry.0 entry.1 ∷ []) found) (Some [])) is

pub read_two : (env : Environment) (i n v j m u : ℕ) → slice_get env i ≡ Some (n, v) → slice_get env j ≡ Some (m, u) → arguments_at env (At i ∷ At j ∷ []) ≡ Some (Value n v ∷ Value m u ∷ [])
read_two env i n v j m u first second =
    ap₂ (λ found other. joined_lists (option_map (λ entry. Value entry.0 entry.1 ∷ []) found) (joined_lists (option_map (λ entry. Value entry.0 entry.1 ∷ []) other) (Some []))) first second

-- ══ Values of one width, one after another ══

abbrev pub placed : (width : ℕ) → List ℕ → Environment
placed width [] = []
placed width (v ∷ vs) = (width, v) ∷ placed width vs

abbrev pub AllFit : (width : ℕ) → List ℕ → Type 0
AllFit width [] = Unit {0}
AllFit width (v ∷ vs) = (v < 2 ^ width) × AllFit width vs

abbrev pub StandFrom : Environment → (place width : ℕ) → List ℕ → Type 0
StandFrom env place width [] = Unit {0}
StandFrom env place width (v ∷ vs) = (slice_get env place ≡ Some (width, v)) × StandFrom env (place + 1) width vs

pub for_all_parts : (x width count : ℕ) (claim : Environment → Type 0) → ((values : List ℕ) → length values ≡ count → AllFit width values → claim (placed width values)) → ForAllOf (map (width_of x) (parts count width)) claim
for_all_parts x width zero claim h = h [] refl tt
for_all_parts x width (suc count) claim h = λ v fits. for_all_parts x width count (λ env. claim ((width, v) ∷ env)) (λ values long all. h (v ∷ values) (ap suc long) (fits, all))

pub placed_long : (width : ℕ) (values : List ℕ) → length (placed width values) ≡ length values
placed_long width [] = refl
placed_long width (v ∷ vs) = ap suc (placed_long width vs)

pub stand_longer : (env more : Environment) (place width : ℕ) (values : List ℕ) → StandFrom env place width values → StandFrom (env ++ more) place width values
stand_longer env more place width [] h = tt
stand_longer env more place width (v ∷ vs) h = (get_left env more place (width, v) h.0, stand_longer env more (place + 1) width vs h.1)

pub get_at : (front rest : Environment) (e : ℕ × ℕ) (place : ℕ) → length front ≡ place → slice_get (front ++ e ∷ rest) place ≡ Some e
get_at front rest e place is = subst (λ (k : ℕ). slice_get (front ++ e ∷ rest) k ≡ Some e) is (there front)
  where
    there : (front : Environment) → slice_get (front ++ e ∷ rest) (length front) ≡ Some e
    there [] = refl
    there (z ∷ zs) = there zs

pub stand_at : (front : Environment) (width : ℕ) (values : List ℕ) (place : ℕ) → length front ≡ place → StandFrom (front ++ placed width values) place width values
stand_at front width [] place is = tt
stand_at front width (v ∷ vs) place is = (
  get_at front (placed width vs) (width, v) place is,
  subst (λ (env : Environment). StandFrom env (place + 1) width vs) (append_assoc front ((width, v) ∷ []) (placed width vs))
      (stand_at (front ++ (width, v) ∷ []) width vs (place + 1) (longer front (width, v) ∙ ap (λ k. k + 1) is)),
)

pub slots_are : (x : ℕ) (names : List (List ℕ)) (w : World) (env : Environment) (place width : ℕ) (values : List ℕ) → StandFrom env place width values
    → arguments_at env (map (slot_on_values x names w) (slots_from place (length values))) ≡ Some (map (Value width) values)
slots_are x names w env place width [] h = refl
slots_are x names w env place width (v ∷ vs) h =
    ap₂ (λ found rest. joined_lists (option_map (λ entry. Value entry.0 entry.1 ∷ []) found) rest) h.0 (slots_are x names w env (place + 1) width vs h.1)

pub are_there : (x : ℕ) (env : Environment) (place width : ℕ) (values : List ℕ) (claim : List ℕ → Type 0) → StandFrom env place width values → claim values
    → AreThere env (places_from place (length values)) (map (width_of x) (parts (length values) width)) claim
are_there x env place width [] claim h holds = holds
are_there x env place width (v ∷ vs) claim h holds =
    subst (λ found. IfThere found width (λ u. AreThere env (places_from (place + 1) (length vs)) (map (width_of x) (parts (length vs) width)) (λ us. claim (u ∷ us)))) (sym h.0)
    (refl, are_there x env (place + 1) width vs (λ us. claim (v ∷ us)) h.1 holds)

pub are_equal : (values : List ℕ) → AreEqual values values
are_equal [] = tt
are_equal (v ∷ []) = refl
are_equal (v ∷ u ∷ us) = (refl, are_equal (u ∷ us))

-- what was put together, taken apart again
pub parts_back : (x width : ℕ) (values : List ℕ) → AllFit width values → parts_of (map (width_of x) (parts (length values) width)) (merged (map (Value width) values)) ≡ values
parts_back x width [] all = refl
parts_back x width (v ∷ vs) all =
    let rest : ℕ = merged (map (Value width) vs) in
    let turned : v + 2 ^ width * rest ≡ rest * 2 ^ width + v = omega arith in
    ap₂ (λ a b. a ∷ parts_of (map (width_of x) (parts (length vs) width)) b)
    (add-mul-mod_self_left v (2 ^ width) rest ∙ mod-eq_of_lt all.0) (ap (λ k. k / 2 ^ width) turned ∙ div-mul-add rest (2 ^ width) v all.0)
    ∙ ap (λ us. v ∷ us) (parts_back x width vs all.1)
