-- What a call that nobody answers comes to.
use Rattle.std.proofs.Common.{◌≡◌, ℕ, suc, List, [], ◌∷◌, map, Some, None, inr, ⊎_elim, refl}
use Rattle.std.specs.Prelude.{codes}
use Rattle.gi_mir.specs.Data.{FunctionData}
use Rattle.gi_meaning.specs.Argument.{Argument, Implicit, Defined, Symbol, Saved}
use Rattle.gi_meaning.specs.State.{World, outside_of, start, Outcome, Asking}
use Rattle.gi_meaning.specs.Act.{Answer, Asks}
use Rattle.gi_mir.specs.declared.operand.SymbolFlag.TheVariants.{Call}
use Rattle.gi_meaning.specs.Meaning.{Calling}
use Rattle.gi_meaning.specs.Runs.{Setting, setting_of, width_of_place, written_places, Over}
use Rattle.gi_refine.specs.Outcomes.{ComesTo}
use Rattle.gi_refine.specs.Examples.{names, counting, world_of}
use Rattle.gi_refine_cases.specs.Examples.{calls, called_operands}
use Rattle.gi_refine.proofs.Doing.{ActsSo, does_from, does_end, EntersSo, enters_over}

comes : (f : FunctionData) (w : World) (n : ℕ) (o : Outcome) → EntersSo (setting_of 32 names f) w f.blocks n None 0 (start w) o → ComesTo 32 names f w n o
comes f w n o so = record { can = so.can; only = so.only }

-- the arguments of the call of g with 5
abbrev called_arguments : List Argument
called_arguments = Symbol Call (codes "g") 4096 ∷ Saved ∷ Defined 1 ∷ Implicit 10 5 ∷ Defined 10 ∷ []

abbrev asks_setting : Setting
asks_setting = setting_of 32 names calls

abbrev unanswered : World
unanswered = world_of 5 0 0 []

-- with no event in the trace the call asks
asks_so : ActsSo 32 unanswered Calling None (map (width_of_place asks_setting) (written_places Calling called_operands)) called_arguments (outside_of (start unanswered)) (Asks (codes "g") (5 ∷ []))
asks_so = record {
  can = inr (λ event there fits. cc, refl);
  only = λ other h. ⊎_elim (λ taken. none_there other taken.1) (λ asks. asks.1) h;
}
  where
    none_there : {E : Type 0} (other : Answer) → {event : E} → None ≡ Some event → other ≡ Asks (codes "g") (5 ∷ [])
    none_there other h = cc

pub asks_comes : (n : ℕ) → ComesTo 32 names calls unanswered (suc n) (Asking (codes "g") (5 ∷ []) counting 0)
asks_comes n = comes calls unanswered (suc n) (Asking (codes "g") (5 ∷ []) counting 0)
    (enters_over asks_setting unanswered calls.blocks n None 0 (start unanswered) (start unanswered) _ (Asking (codes "g") (5 ∷ []) counting 0) refl refl
    (does_end asks_setting unanswered _ _ (start unanswered) (Asking (codes "g") (5 ∷ []) counting 0)
    (does_from asks_setting unanswered _ (start unanswered) called_arguments (Asks (codes "g") (5 ∷ [])) (Over (Asking (codes "g") (5 ∷ []) counting 0)) refl asks_so refl)))
