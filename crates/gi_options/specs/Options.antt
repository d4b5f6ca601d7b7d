-- The words of the command line: `gisel [options] [FILE]`. An option begins with one or two dashes.
--     -mtriple=T                    the target; T begins with `riscv32` or `riscv64`
--     -mattr=+m, -global-isel       no effect
--     -start-after=P, -stop-after=P the passes that are run
--     -o FILE                       where the text goes; `-` is standard output
-- Without FILE, or with `-`, standard input is read. Each word is looked at from the left; the first is at fault that is
-- no such word, that sets a thing again, or behind which a FILE is missing. A stop before the start is found last.
use Rattle.std.specs.Prelude.{ℕ, Bool, true, false, List, [], ◌∷◌, Option, Some, None, Result, Ok, Err, is_some, nat_lt, bytes_eq, codes, if◌then◌else◌, option_map, unwrap_or, ◌==◌}
use Rattle.std.specs.Option.{option_map_or, option_or}
use Rattle.gi_observe.specs.declared.pass.Pass.{Pass}
use Rattle.gi_observe.specs.declared.pass.Pass.TheVariants.{Select}
use Rattle.gi_observe.specs.Passes.{pass_of, place_of}
use Rattle.gi_options.specs.declared.machine.Machine.{Machine}
use Rattle.gi_options.specs.declared.options.Setting.{Setting}
use Rattle.gi_options.specs.declared.options.Setting.TheVariants as setting
use Rattle.gi_options.specs.Machine.{machine_of}

-- ══ A word by itself ══

-- what stands behind a prefix, if it stands there
abbrev pub without_prefix : (prefix word : List ℕ) → Option (List ℕ)
without_prefix [] word = Some word
without_prefix (first ∷ prefix) [] = None
without_prefix (first ∷ prefix) (byte ∷ word) = if first == byte then without_prefix prefix word else None

-- an option less its one or two dashes; `-` alone is none
abbrev pub option_name : List ℕ → Option (List ℕ)
option_name word = if bytes_eq word (codes "-") then None else option_or (without_prefix (codes "--") word) (without_prefix (codes "-") word)

-- the value behind a prefix decides, if the prefix stands there
abbrev pub by_prefix : Option (List ℕ) → (List ℕ → Option Setting) → (other : Option Setting) → Option Setting
by_prefix None meaning other = other
by_prefix (Some value) meaning other = meaning value

abbrev pub named_pass : List ℕ → Option Setting
named_pass name =
    by_prefix (without_prefix (codes "start-after=") name) (λ word. option_map (λ pass. setting.Start pass) (pass_of word))
    (by_prefix (without_prefix (codes "stop-after=") name) (λ word. option_map (λ pass. setting.Stop pass) (pass_of word)) None)

-- what an option of this name sets
abbrev pub named : List ℕ → Option Setting
named name =
    if bytes_eq name (codes "mattr=+m") then Some setting.Attributes
    else if bytes_eq name (codes "global-isel") then Some setting.GlobalIsel
    else if bytes_eq name (codes "o") then Some setting.Output
    else by_prefix (without_prefix (codes "mtriple=") name) (λ triple. option_map (λ machine. setting.Triple machine) (machine_of triple)) (named_pass name)

-- what a word sets: a word that is no option is the FILE
abbrev pub setting_of : List ℕ → Option Setting
setting_of word = option_map_or named (option_name word) (Some setting.File)

-- ══ The words ══

-- what the words so far have set
pub record Choice : Type 0 where
  pub target : Option Machine
  pub attributes : Bool
  pub isel : Bool
  pub start : Option Pass
  pub stop : Option Pass
  pub stop_word : List ℕ
  pub input : Option (List ℕ)
  pub output : Option (List ℕ)

abbrev pub no_choice : Choice
no_choice = record { target = None; attributes = false; isel = false; start = None; stop = None; stop_word = []; input = None; output = None }

abbrev pub is_set : Choice → Setting → Bool
is_set choice (setting.Triple machine) = is_some choice.target
is_set choice setting.Attributes = choice.attributes
is_set choice setting.GlobalIsel = choice.isel
is_set choice (setting.Start pass) = is_some choice.start
is_set choice (setting.Stop pass) = is_some choice.stop
is_set choice setting.Output = is_some choice.output
is_set choice setting.File = is_some choice.input

abbrev pub takes_next : Setting → Bool
takes_next setting.Output = true
takes_next s = false

-- what is set by a word, and by the word behind it where it takes one
abbrev pub with_setting : Choice → Setting → (word next : List ℕ) → Choice
with_setting choice (setting.Triple machine) word next = record choice { target = Some machine }
with_setting choice setting.Attributes word next = record choice { attributes = true }
with_setting choice setting.GlobalIsel word next = record choice { isel = true }
with_setting choice (setting.Start pass) word next = record choice { start = Some pass }
with_setting choice (setting.Stop pass) word next = record choice { stop = Some pass; stop_word = word }
with_setting choice setting.Output word next = record choice { output = Some next }
with_setting choice setting.File word next = record choice { input = Some word }

-- what the first of several words sets, unless it is at fault
abbrev pub right_setting : Choice → Option Setting → Option Setting
right_setting choice None = None
right_setting choice (Some s) = if is_set choice s then None else Some s

abbrev pub setting_at : Choice → List ℕ → Option Setting
setting_at choice word = right_setting choice (setting_of word)

abbrev pub first_setting : Choice → List (List ℕ) → Option Setting
first_setting choice [] = None
first_setting choice (word ∷ words) = setting_at choice word

abbrev pub last_chosen : Choice → Option Setting → List ℕ → Result Choice (List ℕ)
last_chosen choice None word = Err word
last_chosen choice (Some s) word = if takes_next s then Err word else Ok (with_setting choice s word [])

abbrev pub chosen_then : Choice → Option Setting → (word next : List ℕ) → (with_next past_next : Choice → Result Choice (List ℕ)) → Result Choice (List ℕ)
chosen_then choice None word next with_next past_next = Err word
chosen_then choice (Some s) word next with_next past_next =
    if takes_next s then past_next (with_setting choice s word next) else with_next (with_setting choice s word next)

-- what the words set, or the leftmost that is at fault
abbrev pub chosen : Choice → List (List ℕ) → Result Choice (List ℕ)
chosen choice [] = Ok choice
chosen choice (word ∷ []) = last_chosen choice (setting_at choice word) word
chosen choice (word ∷ next ∷ more) =
    chosen_then choice (setting_at choice word) word next (λ later. chosen later (next ∷ more)) (λ later. chosen later more)

-- the word at fault among words of which the last isn't UTF-8: the leftmost, which is the last where those before it are right
abbrev pub fault_or : Result Choice (List ℕ) → (last : List ℕ) → List ℕ
fault_or (Ok choice) last = last
fault_or (Err word) last = word

-- ══ What is asked for ══

-- the machine if a word sets it, the pass behind which to start if the input is Machine IR, the last pass,
-- the name of the input and that of the output; standard input and output have none
pub record OptionsData : Type 0 where
  pub target : Option Machine
  pub start : Option Pass
  pub stop : Pass
  pub input : Option (List ℕ)
  pub output : Option (List ℕ)

abbrev pub file_name : Option (List ℕ) → Option (List ℕ)
file_name None = None
file_name (Some name) = if bytes_eq name (codes "-") then None else Some name

abbrev pub options_in : Choice → OptionsData
options_in choice = record { target = choice.target; start = choice.start; stop = unwrap_or choice.stop Select; input = file_name choice.input; output = file_name choice.output }

abbrev pub is_before : Option Pass → Option Pass → Bool
is_before (Some stop) (Some start) = nat_lt (place_of stop) (place_of start)
is_before stop start = false

abbrev pub asked : Result Choice (List ℕ) → Result OptionsData (List ℕ)
asked (Ok choice) = if is_before choice.stop choice.start then Err choice.stop_word else Ok (options_in choice)
asked (Err word) = Err word

abbrev pub options_of : List (List ℕ) → Result OptionsData (List ℕ)
options_of words = asked (chosen no_choice words)
