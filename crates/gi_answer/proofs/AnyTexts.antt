-- What is promised of the modules that two texts spell holds of whatever modules they spell.
use Rattle.std.proofs.Common.{ℕ, List, [], ◌∷◌, sym, ◌∙◌, subst, inl, inr}
use Rattle.std.specs.List.{AllZip}
use Rattle.gi_mir.specs.Data.{FunctionData, ModuleData}
use Rattle.gi_meaning.specs.State.{World, Outcome, Undefined}
use Rattle.gi_meaning.specs.Runs.{cut, Runs, Allows}
use Rattle.gi_spelling.specs.Same.{IsSameFunction, IsSameModule}
use Rattle.gi_spelling.specs.Spelling.{Spells}
use Rattle.gi_spelling.proofs.OneModule.{spelled_one}
use Rattle.gi_answer.specs.Promise.{Refines}
use Rattle.gi_answer.proofs.SameRuns.{same_runs}

module _ (x : ℕ) (names others : List (List ℕ)) (f g : FunctionData) (is : IsSameFunction names others f g) where
  runs_there : (world : World) (n : ℕ) (outcome : Outcome) → Runs x names f world n outcome → Runs x others g world n outcome
  runs_there world n outcome run = subst (λ T. T) (sym (same_runs x names others f g is world n outcome)) run

  pub runs_back : (world : World) (n : ℕ) (outcome : Outcome) → Runs x others g world n outcome → Runs x names f world n outcome
  runs_back world n outcome run = subst (λ T. T) (same_runs x names others f g is world n outcome) run

  pub allows_there : (world : World) (n : ℕ) (outcome : Outcome) → Allows x names f world n outcome → Allows x others g world n outcome
  allows_there world n outcome (inl run) = inl (runs_there world n outcome run)
  allows_there world n outcome (inr may) = inr (record { events = may.events; entries = may.entries; within = may.within; undefined = runs_there (cut world may.events) may.entries Undefined may.undefined })

refines_too : (x : ℕ) (old_names new_names read_names written_names : List (List ℕ)) (old new read written : FunctionData) → IsSameFunction old_names read_names old read → IsSameFunction new_names written_names new written
    → Refines x old_names new_names old new → Refines x read_names written_names read written
refines_too x old_names new_names read_names written_names old new read written same_old same_new refines = record {
  name = same_new.name ∙ refines.name ∙ sym same_old.name;
  runs = λ world is_world n outcome run.
      allows_there x old_names read_names old read same_old world n outcome (refines.runs world is_world n outcome (runs_back x new_names written_names new written same_new world n outcome run));
}

all_refine : (x : ℕ) (old_names new_names read_names written_names : List (List ℕ)) (olds news reads writtens : List FunctionData) → AllZip (IsSameFunction old_names read_names) olds reads
    → AllZip (IsSameFunction new_names written_names) news writtens → AllZip (Refines x old_names new_names) olds news → AllZip (Refines x read_names written_names) reads writtens
all_refine x old_names new_names read_names written_names [] [] [] [] first second all = tt
all_refine x old_names new_names read_names written_names [] [] [] (w ∷ writtens) first second all = absurd second
all_refine x old_names new_names read_names written_names [] [] (r ∷ reads) writtens first second all = absurd first
all_refine x old_names new_names read_names written_names [] (n ∷ news) reads writtens first second all = absurd all
all_refine x old_names new_names read_names written_names (o ∷ olds) [] reads writtens first second all = absurd all
all_refine x old_names new_names read_names written_names (o ∷ olds) (n ∷ news) [] writtens first second all = absurd first
all_refine x old_names new_names read_names written_names (o ∷ olds) (n ∷ news) (r ∷ reads) [] first second all = absurd second
all_refine x old_names new_names read_names written_names (o ∷ olds) (n ∷ news) (r ∷ reads) (w ∷ writtens) first second all =
    (refines_too x old_names new_names read_names written_names o n r w first.0 second.0 all.0, all_refine x old_names new_names read_names written_names olds news reads writtens first.1 second.1 all.1)

pub any_refine : (x : ℕ) (read written : List ℕ) (old new m n : ModuleData) → Spells read old → Spells written new → AllZip (Refines x old.names new.names) old.functions new.functions
    → Spells read m → Spells written n → AllZip (Refines x m.names n.names) m.functions n.functions
any_refine x read written old new m n spells_old spells_new refines spells_m spells_n =
    let first : IsSameModule old m = spelled_one read old m spells_old spells_m in
    let second : IsSameModule new n = spelled_one written new n spells_new spells_n in
    all_refine x old.names new.names m.names n.names old.functions new.functions m.functions n.functions first.functions second.functions refines
