-- What the program answers to an input: the text that it writes, or why it refuses the input.
use Rattle.std.specs.Prelude.{◌≡◌, ◌⊎◌, ℕ, ◌≤◌, ◌<◌, Bool, true, false, List, [], length, codes, Option, Some, None, Result, Ok, Err}
use Rattle.gi_mir.specs.Data.{ModuleData}
use Rattle.gi_mir.specs.Numbering.{numbered_module}
use Rattle.gi_observe.specs.declared.pass.Pass.{Pass}
use Rattle.gi_observe.specs.declared.pass.Pass.TheVariants.{IrTranslator}
use Rattle.gi_observe.specs.Passes.{word_of}
use Rattle.gi_spelling.specs.Documents.{wrong_in}
use Rattle.gi_spelling.specs.Printed.{printed}
use Rattle.gi_spelling.specs.Read.{IsReadModule}
use Rattle.gi_spelling.specs.declared.written.Wrong.{Wrong}
use Rattle.gi_answer.specs.Checks.{check_of}
use Rattle.gi_options.specs.declared.machine.Machine.{Machine}
use Rattle.gi_answer.specs.Legality.{SaysIllegalOf, illegal_for}
use Rattle.gi_answer.specs.Messages.{message_of_wrong, not_built}
use Rattle.gi_options.specs.Options.{OptionsData, options_of}
use Rattle.gi_answer.specs.Selection.{IsSelectedModule}
use Rattle.gi_answer.specs.Unrun.{selects, unbuilt}
use Rattle.gi_answer.specs.Validity.{AreValidFor, SaysFaultOf}

-- how many bytes of input are read at most
abbrev pub limit : ℕ
limit = 8388608

-- the name of the input that the words ask for; standard input has none
abbrev pub input_in : Result OptionsData (List ℕ) → Option (List ℕ)
input_in (Ok options) = options.input
input_in (Err word) = None

abbrev pub input_of : (words : List (List ℕ)) → Option (List ℕ)
input_of words = input_in (options_of words)

-- ══ The text that is written ══

-- the input is read as this module, which passes the checks, for this machine
pub record IsChecked (options : OptionsData) (read : List ℕ) (start : Pass) (machine : Machine) (source : ModuleData) : Type 0 where
  pub started : options.start ≡ Some start
  pub reads : IsReadModule read source
  pub right : check_of options.target start read source ≡ Ok machine
  pub valid : AreValidFor machine start source.functions
  pub fits : illegal_for machine start source.functions ≡ []

-- the text of what is selected from a module, with its registers numbered by first appearance
pub record IsSelectedText (source : ModuleData) (written : List ℕ) : Type 0 where
  pub selected : ModuleData
  pub selects : IsSelectedModule source selected
  pub text : written ≡ printed (numbered_module selected)

-- the text of a module where selection is run, and where no pass is
abbrev pub IsTextOf : (is_selected : Bool) (source : ModuleData) (written : List ℕ) → Type 0
IsTextOf true source written = IsSelectedText source written
IsTextOf false source written = written ≡ printed (numbered_module source)

-- the text for these options and this input
pub record IsAnswer (options : OptionsData) (read written : List ℕ) : Type 0 where
  pub within : length read ≤ limit
  pub start : Pass
  pub machine : Machine
  pub source : ModuleData
  pub passes : IsChecked options read start machine source
  pub built : unbuilt start options.stop machine source.functions ≡ None
  pub text : IsTextOf (selects start options.stop machine) source written

-- the text for these words and this input
pub record IsOutput (words : List (List ℕ)) (read written : List ℕ) : Type 0 where
  pub options : OptionsData
  pub taken : options_of words ≡ Ok options
  pub answer : IsAnswer options read written

-- ══ Why an input is refused ══

-- it has too many bytes
pub record IsTooLong (read message : List ℕ) : Type 0 where
  pub long : limit < length read
  pub says : message ≡ codes "gisel: input: limit 8388608"

-- it is no Machine IR, and would have to be translated
pub record IsUntranslated (options : OptionsData) (message : List ℕ) : Type 0 where
  pub untold : options.start ≡ None
  pub says : message ≡ not_built (word_of IrTranslator)

-- a line of it spells nothing
pub record IsWrongLine (read message : List ℕ) : Type 0 where
  pub fault : Wrong
  pub found : wrong_in read ≡ Some fault
  pub says : message ≡ message_of_wrong read fault

pub record IsWrongText (options : OptionsData) (read message : List ℕ) : Type 0 where
  pub start : Pass
  pub started : options.start ≡ Some start
  pub line : IsWrongLine read message

-- its target is unknown, a function hasn't the keys that the start asks for, or a size isn't handled
pub record IsWrongModule (options : OptionsData) (read message : List ℕ) : Type 0 where
  pub start : Pass
  pub started : options.start ≡ Some start
  pub source : ModuleData
  pub reads : IsReadModule read source
  pub says : check_of options.target start read source ≡ Err message

-- a function isn't valid
pub record IsInvalidModule (options : OptionsData) (read message : List ℕ) : Type 0 where
  pub start : Pass
  pub started : options.start ≡ Some start
  pub machine : Machine
  pub source : ModuleData
  pub reads : IsReadModule read source
  pub right : check_of options.target start read source ≡ Ok machine
  pub fault : SaysFaultOf machine start source.functions message

-- an instruction doesn't fit the stage in which the start leaves it
pub record IsIllegalModule (options : OptionsData) (read message : List ℕ) : Type 0 where
  pub start : Pass
  pub started : options.start ≡ Some start
  pub machine : Machine
  pub source : ModuleData
  pub reads : IsReadModule read source
  pub right : check_of options.target start read source ≡ Ok machine
  pub valid : AreValidFor machine start source.functions
  pub fault : SaysIllegalOf machine start source.functions message

-- a pass that is to be run isn't built, or not for such a module
pub record IsNotBuilt (options : OptionsData) (read message : List ℕ) : Type 0 where
  pub start : Pass
  pub machine : Machine
  pub source : ModuleData
  pub passes : IsChecked options read start machine source
  pub says : unbuilt start options.stop machine source.functions ≡ Some message

abbrev pub IsRefusedText : (options : OptionsData) (read message : List ℕ) → Type 0
IsRefusedText options read message =
    IsUntranslated options message
    ⊎ (IsWrongText options read message
    ⊎ (IsWrongModule options read message
    ⊎ (IsInvalidModule options read message
    ⊎ (IsIllegalModule options read message
    ⊎ IsNotBuilt options read message))))

abbrev pub IsRefusal : (options : OptionsData) (read message : List ℕ) → Type 0
IsRefusal options read message = IsTooLong read message ⊎ ((length read ≤ limit) × IsRefusedText options read message)

pub record RefusesWith (words : List (List ℕ)) (read : List ℕ) (says : List ℕ → Type 0) : Type 0 where
  pub options : OptionsData
  pub taken : options_of words ≡ Ok options
  pub message : List ℕ
  pub refusal : IsRefusal options read message
  pub said : says message
