-- What is told of an input for which a pass isn't built, and the machine of one that passes the checks.
use Rattle.std.proofs.Common.{◌≡◌, ◌≤◌, ℕ, Bool, true, false, length, List, Option, Some, None, ap, sym, subst, refl}
use Rattle.std.specs.Prelude.{Result, Ok, Err}
use Rattle.gi_mir.specs.Data.{ModuleData}
use Rattle.gi_mir_read.specs.Sizes.{size_fault}
use Rattle.gi_observe.specs.declared.pass.Pass.{Pass}
use Rattle.gi_observe.specs.declared.pass.Pass.TheVariants.{RegBankSelect, Select}
use Rattle.gi_text.specs.declared.token.SizeError.{SizeError}
use Rattle.gi_answer.specs.Answers.{limit, IsAnswer, IsChecked, IsTextOf}
use Rattle.gi_spelling.specs.There.{NamesBlocksThatAreThere}
use Rattle.gi_valid.specs.Typing.{phase_of}
use Rattle.gi_answer.specs.Checks.{checked, fitting, keyed, sized, target_of}
use Rattle.gi_answer.specs.Keys.{WrongKey, wrong_in}
use Rattle.gi_options.specs.Machine.{width_of}
use Rattle.gi_options.specs.Options.{OptionsData}
use Rattle.gi_answer.specs.Promise.{Compiles, IsCompiled, IsTarget}
use Rattle.gi_answer.specs.Selectable.{AllSelectable}
use Rattle.gi_answer.specs.Unrun.{selects, unbuilt}
use Rattle.gi_answer.specs.Validity.{stage_after}
use Rattle.gi_options.specs.declared.machine.Machine.{Machine}
use Rattle.gi_options.specs.declared.machine.Machine.TheVariants.{Riscv32, Riscv64}
use Rattle.gi_answer.proofs.CompileLaws.{compiled}
use Rattle.gi_answer.proofs.PrintedLaws.{kept}
use Rattle.gi_answer.proofs.ValidBlocks.{all_there}
use Rattle.gi_answer.proofs.ValidShapes.{built_selectable}

-- ══ The machine ══

fitting_same : (found machine : Machine) (o : Option SizeError) → fitting found o ≡ Ok machine → found ≡ machine
fitting_same found machine None h = cc
fitting_same found machine (Some error) h = cc

sized_target : (m : ModuleData) (r : Result Machine (List ℕ)) (machine : Machine) → sized m r ≡ Ok machine → r ≡ Ok machine
sized_target m (Ok found) machine h = ap Ok (fitting_same found machine (size_fault (width_of found) m) h)
sized_target m (Err message) machine h = cc

keyed_same : (found machine : Machine) (o : Option WrongKey) → keyed o found ≡ Ok machine → found ≡ machine
keyed_same found machine None h = cc
keyed_same found machine (Some wrong) h = cc

checked_target : (start : Pass) (m : ModuleData) (r : Result Machine (List ℕ)) (machine : Machine) → checked start m r ≡ Ok machine → r ≡ Ok machine
checked_target start m (Ok found) machine h = ap Ok (keyed_same found machine (wrong_in start m) h)
checked_target start m (Err message) machine h = cc

pub its_told : (options : OptionsData) (read : List ℕ) (start : Pass) (machine : Machine) (source : ModuleData) → IsChecked options read start machine source → target_of options.target read source ≡ Ok machine
its_told options read start machine source passes =
    checked_target start source (target_of options.target read source) machine
    (sized_target source (checked start source (target_of options.target read source)) machine passes.right)

keyed_none : (o : Option WrongKey) (found machine : Machine) → keyed o found ≡ Ok machine → o ≡ None
keyed_none None found machine h = refl
keyed_none (Some wrong) found machine h = cc

checked_keys : (start : Pass) (m : ModuleData) (r : Result Machine (List ℕ)) (machine : Machine) → checked start m r ≡ Ok machine → wrong_in start m ≡ None
checked_keys start m (Ok found) machine h = keyed_none (wrong_in start m) found machine h
checked_keys start m (Err message) machine h = cc

pub its_keys : (options : OptionsData) (read : List ℕ) (start : Pass) (machine : Machine) (source : ModuleData) → IsChecked options read start machine source → wrong_in start source ≡ None
its_keys options read start machine source passes =
    checked_keys start source (target_of options.target read source) machine
    (sized_target source (checked start source (target_of options.target read source)) machine passes.right)

pub its_target : (options : OptionsData) (read : List ℕ) (start : Pass) (machine : Machine) (source : ModuleData) → IsChecked options read start machine source → IsTarget options.target read machine
its_target options read start machine source passes = record {
  source = source;
  reads = passes.reads;
  told = its_told options read start machine source passes;
}

-- selection is built on RV32
pub selects_32 : (start stop : Pass) (machine : Machine) → selects start stop machine ≡ true → width_of machine ≡ 32
selects_32 start stop Riscv32 h = refl
selects_32 RegBankSelect Select Riscv64 h = cc
selects_32 RegBankSelect _ Riscv64 h = cc
selects_32 _ stop Riscv64 h = cc

pub its_compiled : (options : OptionsData) (read written : List ℕ) (start : Pass) (machine : Machine) (source : ModuleData) → IsChecked options read start machine source
    → Compiles (width_of machine) read written → IsCompiled options read written
its_compiled options read written start machine source passes compiles =
    record { machine = machine; target = its_target options read start machine source passes; compiles = compiles }

-- ══ The text ══

pub its_there : (options : OptionsData) (read : List ℕ) (start : Pass) (machine : Machine) (source : ModuleData) → IsChecked options read start machine source → NamesBlocksThatAreThere source
its_there options read start machine source passes = record { each = all_there (width_of machine) (phase_of (stage_after start)) source.functions passes.valid }

-- the functions of a module that passes the checks can be selected, where selection is run and nothing of them isn't built
pub its_selectable : (options : OptionsData) (read : List ℕ) (start : Pass) (machine : Machine) (source : ModuleData) → IsChecked options read start machine source
    → unbuilt start options.stop machine source.functions ≡ None → selects start options.stop machine ≡ true → AllSelectable source.functions
its_selectable options read start machine source passes built so =
    built_selectable (width_of machine) (phase_of (stage_after start)) start options.stop machine source.functions passes.valid built so

text_compiles : (options : OptionsData) (read written : List ℕ) (start : Pass) (machine : Machine) (source : ModuleData) → IsChecked options read start machine source
    → unbuilt start options.stop machine source.functions ≡ None → (t : Bool) → selects start options.stop machine ≡ t → IsTextOf t source written → Compiles (width_of machine) read written
text_compiles options read written start machine source passes built true so text =
    subst (λ x. Compiles x read written) (sym (selects_32 start options.stop machine so))
    (compiled read written source text.selected passes.reads (its_there options read start machine source passes) (its_selectable options read start machine source passes built so) text.selects text.text)
text_compiles options read written start machine source passes built false so same =
    kept (width_of machine) read written (phase_of (stage_after start)) source passes.reads passes.valid same

pub its_text_compiles : (options : OptionsData) (read written : List ℕ) (start : Pass) (machine : Machine) (source : ModuleData) → IsChecked options read start machine source
    → unbuilt start options.stop machine source.functions ≡ None → (t : Bool) → t ≡ selects start options.stop machine → IsTextOf t source written → IsCompiled options read written
its_text_compiles options read written start machine source passes built t so text =
    its_compiled options read written start machine source passes (text_compiles options read written start machine source passes built t (sym so) text)

pub its_answer : (options : OptionsData) (read written : List ℕ) (start : Pass) (machine : Machine) (source : ModuleData) → length read ≤ limit → IsChecked options read start machine source
    → unbuilt start options.stop machine source.functions ≡ None → (t : Bool) → t ≡ selects start options.stop machine → IsTextOf t source written → IsAnswer options read written
its_answer options read written start machine source within passes built t so text = record {
  within = within;
  start = start;
  machine = machine;
  source = source;
  passes = passes;
  built = built;
  text = subst (λ u. IsTextOf u source written) so text;
}
