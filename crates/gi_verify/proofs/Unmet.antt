-- The first register with whose type the row can't be met, one after the other.
use Rattle.std.proofs.Common.{◌≡◌, ℕ, zero, suc, ◌+◌, ◌-◌, ◌<◌, Bool, true, false, cond, List, [], ◌∷◌, ◌++◌, Option, Some, None, length, map, get_or, take, drop, replicate, refl, sym, ap, ap₂, ◌∙◌, add-one, take-suc, length-drop, ◌≤◌, arith}
use Rattle.gi_llt.specs.declared.Llt.{Llt}
use Rattle.gi_mir.specs.Typings.{TypingData}
use Rattle.gi_mir.specs.Data.{InstrData}
use Rattle.gi_mir.specs.declared.stage.Stage.{Stage}
use Rattle.gi_mir.specs.declared.stage.Stage.TheVariants as stages
use Rattle.gi_valid.specs.Typing.{meets, is_met, first_unmet, joins_any, phase_of}
use Rattle.gi_mir.specs.declared.typing.Relation.TheVariants.{Free}
use Rattle.gi_verify.specs.Met.{IsLastMet, is_met_with}
use Rattle.gi_verify.proofs.Fewer.{fewer_met}
use Rattle.gi_verify.proofs.Finding.{drop_step}

map_taken : {A B : Type 0} (f : A → B) (n : ℕ) (xs : List A) → map f (take n xs) ≡ take n (map f xs)
map_taken f zero xs = refl
map_taken f (suc n) [] = refl
map_taken f (suc n) (x ∷ xs) = ap (λ l. f x ∷ l) (map_taken f n xs)

taken_more : (xs : List ℕ) (k : ℕ) → k < length xs → take k xs ++ get_or xs k 0 ∷ [] ≡ take (k + 1) xs
taken_more xs k h = sym (ap (λ n. take n xs) (add-one k) ∙ take-suc xs k 0 h)

met_is : (x : ℕ) (type_of : ℕ → Option Llt) (typing : TypingData) (results : ℕ) (registers : List ℕ) (types : List (Option Llt)) → types ≡ map type_of registers → length types ≡ length registers → (k : ℕ) → k < length registers
    → is_met x type_of typing results (take k registers ++ get_or registers k 0 ∷ []) (length (drop (k + 1) registers)) ≡ is_met_with x typing results types (k + 1)
met_is x type_of typing results registers types are count k h =
    ap (λ l. meets x typing (take results l) (drop results l))
    (ap₂ (λ a n. a ++ replicate n None)
    (ap (map type_of) (taken_more registers k h) ∙ map_taken type_of (k + 1) registers ∙ ap (take (k + 1)) (sym are))
    (length-drop (k + 1) registers ∙ ap (λ n. n - (k + 1)) (sym count)))

unmet_step : (x : ℕ) (type_of : ℕ → Option Llt) (typing : TypingData) (results : ℕ) (registers : List ℕ) (types : List (Option Llt)) → types ≡ map type_of registers → length types ≡ length registers → (k : ℕ) → k < length registers
    → (t : Bool) → t ≡ is_met_with x typing results types (k + 1)
    → first_unmet x type_of typing results (take k registers) (drop k registers)
    ≡ cond t (first_unmet x type_of typing results (take (k + 1) registers) (drop (k + 1) registers)) (Some (get_or registers k 0))
unmet_step x type_of typing results registers types are count k h t is =
    ap (first_unmet x type_of typing results (take k registers)) (drop_step registers k 0 h)
    ∙ ap₂ (λ b l. cond b (first_unmet x type_of typing results l (drop (k + 1) registers)) (Some (get_or registers k 0)))
    (met_is x type_of typing results registers types are count k h ∙ sym is) (taken_more registers k h)

pub unmet_on : (x : ℕ) (type_of : ℕ → Option Llt) (typing : TypingData) (results : ℕ) (registers : List ℕ) (types : List (Option Llt)) → types ≡ map type_of registers → length types ≡ length registers → (k : ℕ) → k < length registers
    → (t : Bool) → t ≡ is_met_with x typing results types (k + 1) → t ≡ true
    → first_unmet x type_of typing results (take k registers) (drop k registers) ≡ first_unmet x type_of typing results (take (k + 1) registers) (drop (k + 1) registers)
unmet_on x type_of typing results registers types are count k h t is yes_t =
    unmet_step x type_of typing results registers types are count k h t is
    ∙ ap (λ b. cond b (first_unmet x type_of typing results (take (k + 1) registers) (drop (k + 1) registers)) (Some (get_or registers k 0))) yes_t

pub unmet_here : (x : ℕ) (type_of : ℕ → Option Llt) (typing : TypingData) (results : ℕ) (registers : List ℕ) (types : List (Option Llt)) → types ≡ map type_of registers → length types ≡ length registers → (k : ℕ) → k < length registers
    → (t : Bool) → t ≡ is_met_with x typing results types (k + 1) → t ≡ false
    → first_unmet x type_of typing results (take k registers) (drop k registers) ≡ Some (get_or registers k 0)
unmet_here x type_of typing results registers types are count k h t is no_t =
    unmet_step x type_of typing results registers types are count k h t is
    ∙ ap (λ b. cond b (first_unmet x type_of typing results (take (k + 1) registers) (drop (k + 1) registers)) (Some (get_or registers k 0))) no_t

-- ══ By halves ══

-- with the types of some first registers the row is met, and so with those of fewer
unmet_behind : (x : ℕ) (type_of : ℕ → Option Llt) (typing : TypingData) (results : ℕ) (registers : List ℕ) (types : List (Option Llt)) → types ≡ map type_of registers → length types ≡ length registers → typing.relation ≡ Free → (k : ℕ) → k ≤ length registers
    → is_met_with x typing results types k ≡ true
    → first_unmet x type_of typing results [] registers ≡ first_unmet x type_of typing results (take k registers) (drop k registers)
unmet_behind x type_of typing results registers types are count free zero h met = refl
unmet_behind x type_of typing results registers types are count free (suc k) h met =
    unmet_behind x type_of typing results registers types are count free k (omega (arith, h)) (fewer_met x typing results types k (suc k) free (omega arith) met)
    ∙ unmet_on x type_of typing results registers types are count k (omega (arith, h)) true (sym met ∙ ap (is_met_with x typing results types) (sym (add-one k))) refl
    ∙ ap (λ n. first_unmet x type_of typing results (take n registers) (drop n registers)) (add-one k)

past_all : (n : ℕ) (registers : List ℕ) → length registers ≤ n → drop n registers ≡ []
past_all zero [] h = refl
past_all zero (r ∷ rs) h = absurd (omega (arith, h))
past_all (suc n) [] h = refl
past_all (suc n) (r ∷ rs) h = past_all n rs (omega (arith, h))

pub all_met : (x : ℕ) (type_of : ℕ → Option Llt) (typing : TypingData) (results : ℕ) (registers : List ℕ) (types : List (Option Llt)) → types ≡ map type_of registers → length types ≡ length registers → typing.relation ≡ Free
    → is_met_with x typing results types (length registers) ≡ true → first_unmet x type_of typing results [] registers ≡ None
all_met x type_of typing results registers types are count free met =
    unmet_behind x type_of typing results registers types are count free (length registers) (omega arith) met
    ∙ ap (first_unmet x type_of typing results (take (length registers) registers)) (past_all (length registers) registers (omega arith))

pub last_met : (x : ℕ) (type_of : ℕ → Option Llt) (typing : TypingData) (results : ℕ) (registers : List ℕ) (types : List (Option Llt)) → types ≡ map type_of registers → length types ≡ length registers → typing.relation ≡ Free
    → (k : ℕ) → k < length registers → IsLastMet x typing results types k → first_unmet x type_of typing results [] registers ≡ Some (get_or registers k 0)
last_met x type_of typing results registers types are count free k h last =
    unmet_behind x type_of typing results registers types are count free k (omega (arith, h)) last.met
    ∙ unmet_here x type_of typing results registers types are count k h false (sym last.unmet) refl

-- in no stage a copy joins any two types
pub joins_none : (stage : Stage) (i : InstrData) → joins_any (phase_of stage) i ≡ false
joins_none stages.Before i = refl
joins_none stages.Legalized i = refl
joins_none stages.Banked i = refl
joins_none stages.Selected i = refl
