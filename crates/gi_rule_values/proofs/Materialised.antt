-- A constant is made by the instructions of its sequence.
use Rattle.std.proofs.Common.{◌≡◌, ◌⊎◌, ℕ, ℤ, pos, Bool, true, false, cond, option_map, ◌+◌, ◌^◌, ◌<◌, List, [], ◌∷◌, ◌++◌, length, map, Option, Some, slice_get, refl, sym, ap, ◌∙◌, subst}
use Rattle.gi_llt.specs.Llt.{width_of}
use Rattle.gi_llt.specs.declared.Llt.{Llt}
use Rattle.gi_meaning.specs.Act.{fitted}
use Rattle.gi_meaning.specs.Argument.{Number, Value}
use Rattle.gi_meaning.specs.Given.{Given, one}
use Rattle.gi_meaning.specs.Runs.{joined_lists}
use Rattle.gi_meaning.specs.State.{World}
use Rattle.gi_mir.specs.declared.operand.Flags.{Flags}
use Rattle.gi_refine.proofs.Basics.{not_below_itself, whole_fitted}
use Rattle.gi_refine.specs.Values.{Environment, Operation, argument_at}
use Rattle.gi_meaning.specs.Machine.{is_immediate}
use Rattle.gi_llt.specs.Bits.{signed}
use Rattle.gi_mir.specs.declared.operand.Operand.TheVariants as operand
use Rattle.gi_riscv.specs.Materialised.{fits_32, high_part, low_part, lower, next_of, steps_in, unless_zero, zeros_of}
use Rattle.gi_riscv.specs.Steps.{Make, step_gives}
use Rattle.gi_riscv.specs.declared.constants.Step.{Step}
use Rattle.gi_riscv.specs.declared.constants.Step.TheVariants.{Addi, Addiw, Lui, Slli}
use Rattle.gi_riscv.proofs.Making.{word_made}
use Rattle.gi_rule_values.specs.OnValues.{operation_on_values, slot_on_values}
use Rattle.gi_rule_values.specs.Running.{ForAllRuns, ForGiven, IfThere, IsSoundRewrite, RootMay}
use Rattle.gi_rule_values.specs.Selecting.{chain, chain_place, materialize_constant, step_on}
use Rattle.gi_rule_values.specs.declared.rewrite.Slot.{Slot}
use Rattle.gi_rule_values.specs.declared.rewrite.Slot.TheVariants.{At, Stands}
use Rattle.gi_rule_values.proofs.ByNumbers.{longer}
use Rattle.gi_rule_values.proofs.Lists.{get_at, one_step}

-- what a step gives is the claim's
given_is : (given : Given) (v : ℕ) (claim : List ℕ → Type 0) (none : Type 0) → given ≡ one v → claim (v ∷ []) → ForGiven given claim none
given_is given v claim none is h = subst (λ g. ForGiven g claim none) (sym is) h

-- the word stands at the end
word_stands : (x n next : ℕ) (os : List Operation) (env : Environment) (claim : Option Environment → Type 0) → n ≡ x → ForAllRuns x os (env ++ (x, next) ∷ []) claim → ForAllRuns x os (env ++ (n, fitted x n next) ∷ []) claim
word_stands x n next os env claim wide rest =
    subst (λ k. ForAllRuns x os (env ++ (k, fitted x k next) ∷ []) claim) (sym wide) (subst (λ v. ForAllRuns x os (env ++ (x, v) ∷ []) claim) (sym (whole_fitted x next)) rest)

-- one step, on a word that is read
step_runs : (x : ℕ) (names : List (List ℕ)) (w : World) (type : Llt) (step : Step) (os : List Operation) (env : Environment) (slot : Slot) (word next : ℕ) (claim : Option Environment → Type 0)
    → width_of x type ≡ x → argument_at env (slot_on_values x names w slot) ≡ Some (Value x word ∷ []) → step_gives x word step ≡ one next
    → ForAllRuns x os (env ++ (x, next) ∷ []) claim → ForAllRuns x (operation_on_values x names w (step_on slot type step) ∷ os) env claim
step_runs x names w type (Lui number) os env slot word next claim wide there gives rest =
    given_is _ next _ _ gives (word_stands x (width_of x type) next os env claim wide rest)
step_runs x names w type (Addi number) os env slot word next claim wide there gives rest =
    one_step x (operation_on_values x names w (step_on slot type (Addi number))) os env claim (Value x word ∷ Number number ∷ []) (ap (λ found. joined_lists found (Some (Number number ∷ []))) there)
    (rw (not_below_itself x) (given_is _ next _ _ gives (word_stands x (width_of x type) next os env claim wide rest)))
step_runs x names w type (Addiw number) os env slot word next claim wide there gives rest =
    one_step x (operation_on_values x names w (step_on slot type (Addiw number))) os env claim (Value x word ∷ Number number ∷ []) (ap (λ found. joined_lists found (Some (Number number ∷ []))) there)
    (rw (not_below_itself x) (given_is _ next _ _ gives (word_stands x (width_of x type) next os env claim wide rest)))
step_runs x names w type (Slli amount) os env slot word next claim wide there gives rest =
    one_step x (operation_on_values x names w (step_on slot type (Slli amount))) os env claim (Value x word ∷ Number (pos amount) ∷ []) (ap (λ found. joined_lists found (Some (Number (pos amount) ∷ []))) there)
    (rw (not_below_itself x) (given_is _ next _ _ gives (word_stands x (width_of x type) next os env claim wide rest)))

-- the steps behind it
chain_runs : (x : ℕ) (names : List (List ℕ)) (w : World) (type : Llt) (steps : List Step) (env : Environment) (at place word made : ℕ) (claim : Option Environment → Type 0)
    → width_of x type ≡ x → slice_get env at ≡ Some (x, word) → length env ≡ place → Make x word steps made
    → ((final : Environment) → slice_get final (chain_place at place steps) ≡ Some (x, made) → claim (Some final)) → ForAllRuns x (map (operation_on_values x names w) (chain (At at) place type steps)) env claim
chain_runs x names w type [] env at place word made claim wide there long makes h = h env (there ∙ ap (λ k. Some (x, k)) (sym makes))
chain_runs x names w type (step ∷ steps) env at place word made claim wide there long makes h =
    step_runs x names w type step (map (operation_on_values x names w) (chain (At place) (place + 1) type steps)) env (At at) word makes.0 claim wide (ap (option_map (λ entry. Value entry.0 entry.1 ∷ [])) there) makes.1
    (chain_runs x names w type steps (env ++ (x, makes.0) ∷ []) place (place + 1) makes.0 made claim wide (get_at env [] (x, makes.0) place long)
    (longer env (x, makes.0) ∙ ap (λ k. k + 1) long) makes.2 h)

-- ══ There is a first step ══

abbrev pub HasFirst : List Step → Type 0
HasFirst steps = (step : Step) × (rest : List Step) × (steps ≡ step ∷ rest)

either_first : (c : Bool) (a b : List Step) → HasFirst a → HasFirst b → HasFirst (cond c a b)
either_first true a b h l = h
either_first false a b h l = l

behind : (a : List Step) (step : Step) (rest : List Step) → HasFirst (a ++ step ∷ rest)
behind [] step rest = (step, rest, refl)
behind (s ∷ ss) step rest = (s, ss ++ step ∷ rest, refl)

pub has_first : (x : ℕ) (v : ℤ) → HasFirst (steps_in 3 x v)
has_first x v =
    either_first (is_immediate v) _ _ (Addi v, [], refl)
    (either_first (fits_32 v) _ _ (Lui (high_part v), unless_zero (low_part v) (lower x (low_part v)), refl)
    (behind (steps_in 2 x (next_of v)) (Slli (zeros_of v)) (unless_zero (low_part v) (Addi (low_part v)))))

-- ══ The row ══

abbrev Owed : (x : ℕ) (names : List (List ℕ)) (w : World) → Flags → Llt → (value : ℕ) → List Step → Type 0
Owed x names w flags type value steps =
    ForAllRuns x (map (operation_on_values x names w) (chain (Stands (operand.Phys 0)) 0 type steps)) []
    (RootMay (operation_on_values x names w (materialize_constant flags x type value).root) (chain_place 0 0 steps ∷ []) [])

steps_make : (x : ℕ) (names : List (List ℕ)) (w : World) (flags : Flags) (type : Llt) (value : ℕ) (step : Step) (rest : List Step) → width_of x type ≡ x
    → Make x 0 (step ∷ rest) value → Owed x names w flags type value (step ∷ rest)
steps_make x names w flags type value step rest wide makes =
    let claim : Option Environment → Type 0 = RootMay (operation_on_values x names w (materialize_constant flags x type value).root) (chain_place 0 1 rest ∷ []) [] in
    step_runs x names w type step (map (operation_on_values x names w) (chain (At 0) 1 type rest)) [] (Stands (operand.Phys 0)) 0 makes.0 claim wide refl makes.1
    (chain_runs x names w type rest ((x, makes.0) ∷ []) 0 1 makes.0 value claim
    wide refl refl makes.2
    (λ final there. subst (λ found. IfThere found (width_of x type) (λ u. value ≡ u)) (sym there) (sym wide, refl)))

pub materialize_constant_sound : (x : ℕ) (flags : Flags) (type : Llt) (value : ℕ) → (x ≡ 32) ⊎ (x ≡ 64) → width_of x type ≡ x → value < 2 ^ x → IsSoundRewrite x (materialize_constant flags x type value)
materialize_constant_sound x flags type value machine wide fits = record {
  by = λ names w is_world.
      let (step, rest, is) = has_first x (signed x value) in
      subst (Owed x names w flags type value) (sym is) (steps_make x names w flags type value step rest wide (subst (λ steps. Make x 0 steps value) is (word_made x value machine fits)));
}
