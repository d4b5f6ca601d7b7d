-- The fault of the lowest line, where functions are looked at one after the other.
use Rattle.std.proofs.Common.{◌≡◌, ℕ, suc, ◌+◌, ◌<◌, ◌≤◌, Bool, true, false, nat_lt, List, [], ◌∷◌, length, drop, get_or, Option, Some, None, refl, sym, ap, ◌∙◌, subst, arith, if◌then◌else◌}
use Rattle.std.proofs.lemmas.Bool.{ltb-true, ltb-false}
use Rattle.std.proofs.lemmas.List.{drop_more}
use Rattle.gi_mir.specs.Data.{FunctionData}
use Rattle.gi_valid.specs.Valid.{IsInvalid, IsValid}
use Rattle.gi_valid.specs.declared.invalid.Fault.{Fault}
use Rattle.gi_valid.proofs.Greatest.{valid_or_invalid}
use Rattle.gi_verify.proofs.Same.{one_is_told}
use Rattle.gi_valid.specs.Typing.{Phase}
use Rattle.gi_answer.specs.Validity.{AreValid, HaveFaultsFrom, IsFaultAmong, IsFaultOf, IsLowestFault, of_lower_line}

-- the functions so far are valid: what is told of the rest is told of all
pub record AreValidSoFar (x : ℕ) (phase : Phase) (functions rest : List FunctionData) : Type 0 where
  pub valid : AreValid x phase rest → AreValid x phase functions
  pub told : (fault : Fault) → IsLowestFault x phase rest fault → IsLowestFault x phase functions fault

-- this fault is the lowest so far: it is that of all unless the rest has one on a lower line
pub record IsLowestSoFar (x : ℕ) (phase : Phase) (functions rest : List FunctionData) (lowest : Fault) : Type 0 where
  pub stays : HaveFaultsFrom x phase lowest.line rest → IsLowestFault x phase functions lowest
  pub told : (fault : Fault) → fault.line < lowest.line → IsLowestFault x phase rest fault → IsLowestFault x phase functions fault

abbrev pub IsSoFar : (x : ℕ) → Phase → (functions rest : List FunctionData) → Option Fault → Type 0
IsSoFar x phase functions rest None = AreValidSoFar x phase functions rest
IsSoFar x phase functions rest (Some lowest) = IsLowestSoFar x phase functions rest lowest

-- at the first function nothing was looked at
pub at_start : (x : ℕ) (phase : Phase) (functions : List FunctionData) → IsSoFar x phase functions functions None
at_start x phase functions = record { valid = λ valid. valid; told = λ fault lowest. lowest }

module _ (x : ℕ) (phase : Phase) (functions : List FunctionData) (f : FunctionData) (rest : List FunctionData) where
  -- a function has this fault, and those behind it none on a lower line
  first_lowest : (fault : Fault) → IsInvalid x phase f fault → HaveFaultsFrom x phase fault.line rest → IsLowestFault x phase (f ∷ rest) fault
  first_lowest fault invalid later = record { before = []; function = f; behind = rest; place = refl; invalid = invalid; sooner = tt; later = later }

  -- the faults of a function stand on higher lines than one of those behind it
  lowest_behind : (fault : Fault) → ((other : Fault) → IsInvalid x phase f other → suc fault.line ≤ other.line) → IsLowestFault x phase rest fault → IsLowestFault x phase (f ∷ rest) fault
  lowest_behind fault higher lowest = record {
    before = f ∷ lowest.before;
    function = lowest.function;
    behind = lowest.behind;
    place = ap (λ fs. f ∷ fs) lowest.place;
    invalid = lowest.invalid;
    sooner = (higher, lowest.sooner);
    later = lowest.later;
  }

  -- a valid function has no fault
  none_from : IsValid x phase f → (line : ℕ) (other : Fault) → IsInvalid x phase f other → line ≤ other.line
  none_from valid line other invalid = absurd (valid_or_invalid x phase f other valid invalid)

  -- a function has one fault
  one_from : (fault : Fault) → IsInvalid x phase f fault → (line : ℕ) → line ≤ fault.line → (other : Fault) → IsInvalid x phase f other → line ≤ other.line
  one_from fault invalid line within other is = subst (λ (k : Fault). line ≤ k.line) (one_is_told x phase f fault other invalid is) within

  pub behind_valid : (so_far : Option Fault) → IsValid x phase f → IsSoFar x phase functions (f ∷ rest) so_far → IsSoFar x phase functions rest so_far
  behind_valid None valid known = record {
    valid = λ others. known.valid (valid, others);
    told = λ fault lowest. known.told fault (lowest_behind fault (none_from valid (suc fault.line)) lowest);
  }
  behind_valid (Some first) valid known = record {
    stays = λ others. known.stays (none_from valid first.line, others);
    told = λ fault lower lowest. known.told fault lower (lowest_behind fault (none_from valid (suc fault.line)) lowest);
  }

  behind_other : (first fault : Fault) → IsInvalid x phase f fault → (b : Bool) → nat_lt fault.line first.line ≡ b → IsLowestSoFar x phase functions (f ∷ rest) first
      → IsSoFar x phase functions rest (if b then Some fault else Some first)
  behind_other first fault invalid true lower known =
      let below : fault.line < first.line = ltb-true fault.line first.line lower in record {
        stays = λ others. known.told fault below (first_lowest fault invalid others);
        told = λ other sooner lowest.
            known.told other (omega (arith, sooner, below)) (lowest_behind other (one_from fault invalid (suc other.line) (omega (arith, sooner))) lowest);
      }
  behind_other first fault invalid false higher known =
      let from : first.line ≤ fault.line = omega (arith, ltb-false fault.line first.line higher) in record {
        stays = λ others. known.stays (one_from fault invalid first.line from, others);
        told = λ other sooner lowest.
            known.told other sooner (lowest_behind other (one_from fault invalid (suc other.line) (omega (arith, sooner, from))) lowest);
      }

  pub behind_invalid : (so_far : Option Fault) (fault : Fault) → IsInvalid x phase f fault → IsSoFar x phase functions (f ∷ rest) so_far
      → IsSoFar x phase functions rest (of_lower_line so_far (Some fault))
  behind_invalid None fault invalid known = record {
    stays = λ others. known.told fault (first_lowest fault invalid others);
    told = λ other sooner lowest. known.told other (lowest_behind other (one_from fault invalid (suc other.line) (omega (arith, sooner))) lowest);
  }
  behind_invalid (Some first) fault invalid known = behind_other first fault invalid (nat_lt fault.line first.line) refl known

-- ══ At a place ══

at_place : (functions : List FunctionData) (k : ℕ) (f : FunctionData) → k < length functions → f ≡ get_or functions k f → drop k functions ≡ f ∷ drop (k + 1) functions
at_place functions k f within is = drop_more functions k f within ∙ ap (λ g. g ∷ drop (k + 1) functions) (sym is)

pub one_more : (x : ℕ) (phase : Phase) (functions : List FunctionData) (k : ℕ) (f : FunctionData) (so_far told : Option Fault) → k < length functions → f ≡ get_or functions k f → IsFaultOf x phase f told
    → IsSoFar x phase functions (drop k functions) so_far → IsSoFar x phase functions (drop (k + 1) functions) (of_lower_line so_far told)
one_more x phase functions k f so_far None within is valid known =
    behind_valid x phase functions f (drop (k + 1) functions) so_far valid (subst (λ rest. IsSoFar x phase functions rest so_far) (at_place functions k f within is) known)
one_more x phase functions k f so_far (Some fault) within is invalid known =
    behind_invalid x phase functions f (drop (k + 1) functions) so_far fault invalid (subst (λ rest. IsSoFar x phase functions rest so_far) (at_place functions k f within is) known)

-- behind the last
pub at_end : (x : ℕ) (phase : Phase) (functions rest : List FunctionData) (so_far : Option Fault) → rest ≡ [] → IsSoFar x phase functions rest so_far → IsFaultAmong x phase functions so_far
at_end x phase functions rest None ended known = known.valid (subst (AreValid x phase) (sym ended) tt)
at_end x phase functions rest (Some fault) ended known = known.stays (subst (HaveFaultsFrom x phase fault.line) (sym ended) tt)
