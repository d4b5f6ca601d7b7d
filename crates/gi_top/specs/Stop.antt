-- The status of each reason to stop before a text is written, and what the program says of it.
use Rattle.std.specs.Prelude.{◌≡◌, ◌⊎◌, ◌<◌, ◌≤◌, length, ℕ, List, [], ◌∷◌, ◌++◌, codes, IsTrue, Result, Ok, Err, is_ok}
use Rattle.gi_io.specs.Faults.{Rose}
use Rattle.gi_answer.specs.Answers.{limit, IsRefusedText}
use Rattle.gi_options.specs.Options.{OptionsData}
use Rattle.gi_top.specs.declared.stop.Stop.{Stop}
use Rattle.gi_top.specs.declared.stop.Stop.TheVariants as stop

abbrev pub status_of : Stop → ℕ
status_of (stop.Usage word) = 2
status_of stop.ReadFault = 4
status_of stop.TooLong = 1
status_of (stop.Refused message) = 1
status_of stop.Memory = 3

abbrev pub message_of : Stop → List ℕ
message_of (stop.Usage word) = codes "gisel: usage: " ++ word.now
message_of stop.ReadFault = codes "gisel: read fault"
message_of stop.TooLong = codes "gisel: input: limit 8388608"
message_of (stop.Refused message) = message.items
message_of stop.Memory = codes "gisel: memory"

-- where no fault rose, what was held and then the message with a line feed
abbrev pub Says : (message : List ℕ) (old_faults new_faults : ℕ) (before after : List ℕ) → Type 0
Says message old_faults new_faults before after = (after ≡ before ++ (message ++ 10 ∷ [])) ⊎ Rose old_faults new_faults

-- a usage is of the word at fault, and any other reason is of words that are right
abbrev pub UsageOf : Result OptionsData (List ℕ) → Stop → Type 0
UsageOf found (stop.Usage word) = found ≡ Err word.now
UsageOf found other = IsTrue (is_ok found)

-- what is known of the options and the input where the program stops for this reason
abbrev pub IsCause : (options : OptionsData) (read : List ℕ) → Stop → Type 0
IsCause options read stop.TooLong = limit < length read
IsCause options read (stop.Refused message) = (length read ≤ limit) × IsRefusedText options read message.items
IsCause options read other = Unit {0}

-- the words are at fault, and the word is such a one
abbrev pub UsageSaid : Result OptionsData (List ℕ) → (List ℕ → Type 0) → Type 0
UsageSaid (Ok options) says = ⊥
UsageSaid (Err word) says = says word
