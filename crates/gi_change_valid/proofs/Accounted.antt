-- The laws on types and physical registers, for functions in which no register is defined twice.
use Rattle.std.proofs.Common.{◌≡◌, ℕ, []}
use Rattle.gi_mir.specs.Data.{FunctionData}
use Rattle.gi_valid.specs.Faults.{double_definitions, physical_across, sites, told, type_mismatch}
use Rattle.gi_valid.specs.Typing.{Phase}
use Rattle.gi_valid.proofs.Single.{defined_once}
use Rattle.gi_change_valid.specs.Conditions.{DefinesAnew, AccountsForResults, ArePlain, KeepsTypes, MakesNoNewCall}
use Rattle.gi_change_valid.specs.Rewriting.{Rewriting, IsRewritten}
use Rattle.gi_change_valid.proofs.Across.{none_across}
use Rattle.gi_change_valid.proofs.Typed.{IsAccounted, types_still_meet}

pub accounted : (w : Rewriting) (f g : FunctionData) → IsRewritten w f g → DefinesAnew w f → AccountsForResults w f → double_definitions f ≡ [] → IsAccounted w f g
accounted w f g is anew results none = record { is = is; anew = anew; results = results; once = defined_once f none }

pub types_met : (x : ℕ) (phase : Phase) (w : Rewriting) (f g : FunctionData) → IsRewritten w f g → DefinesAnew w f → AccountsForResults w f → KeepsTypes x phase w f g → double_definitions f ≡ []
    → told (type_mismatch x phase f) (sites f) ≡ [] → told (type_mismatch x phase g) (sites g) ≡ []
types_met x phase w f g is anew results keeps none = types_still_meet x phase w f g (accounted w f g is anew results none) keeps

pub no_call_across : (x : ℕ) (phase : Phase) (w : Rewriting) (f g : FunctionData) → IsRewritten w f g → ArePlain w → DefinesAnew w f → AccountsForResults w f → KeepsTypes x phase w f g → MakesNoNewCall x phase w f g → double_definitions f ≡ []
    → told (physical_across x phase f) (sites f) ≡ [] → told (physical_across x phase g) (sites g) ≡ []
no_call_across x phase w f g is are anew results keeps calls none = none_across x phase w f g (accounted w f g is anew results none) are keeps calls
