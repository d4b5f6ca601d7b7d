-- What is said of an input that is refused.
use Rattle.std.specs.Prelude.{ℕ, List, ◌++◌, codes, decimal, ⊤}
use Rattle.gi_mir.specs.Row.{word_of as opcode_word}
use Rattle.gi_mir.specs.declared.opcode.Opcode.{Opcode}
use Rattle.gi_text.specs.Cutting.{slice}
use Rattle.gi_text.specs.declared.token.SizeError.{SizeError}
use Rattle.gi_text.specs.declared.token.SizeError.TheVariants.{Width, Limit}
use Rattle.gi_spelling.specs.declared.written.Fault.{Fault}
use Rattle.gi_spelling.specs.declared.written.Fault.TheVariants as fault
use Rattle.gi_spelling.specs.declared.written.Wrong.{Wrong}
use Rattle.gi_answer.specs.declared.messages.Refused.{Refused}
use Rattle.gi_answer.specs.declared.messages.Refused.TheVariants as refused

abbrev pub at_line : ℕ → List ℕ → List ℕ
at_line line what = codes "gisel: line " ++ (decimal line ++ (codes ": " ++ what))

abbrev pub property : (function key : List ℕ) → List ℕ
property function key = codes "gisel: function " ++ (function ++ (codes ": property " ++ key))

abbrev pub not_built : (word : List ℕ) → List ℕ
not_built word = codes "gisel: not built " ++ word

-- what is said of an instruction, by its line and its opcode, that isn't built
abbrev pub unbuilt_line : ℕ × Opcode → List ℕ
unbuilt_line found = at_line found.0 (codes "not built " ++ opcode_word found.1)

-- what is said of a line that spells nothing
abbrev pub message_of_fault : (text : List ℕ) (line : ℕ) → Fault → List ℕ
message_of_fault text line fault.Syntax = at_line line (codes "syntax")
message_of_fault text line (fault.Unknown start end) = at_line line (codes "unknown " ++ slice start end text)

abbrev pub message_of_wrong : (text : List ℕ) → Wrong → List ℕ
message_of_wrong text wrong = message_of_fault text wrong.line wrong.fault

-- what is said of a type or a number that isn't handled
abbrev pub message_of_size : SizeError → List ℕ
message_of_size (Width line bits) = at_line line (codes "width " ++ decimal bits)
message_of_size (Limit line number) = at_line line (codes "limit " ++ decimal number)

-- where an input is refused, the message is such a one
abbrev pub Tells : Refused → (List ℕ → Type 0) → Type 0
Tells (refused.Message message) IsSuch = IsSuch message.items
Tells refused.Memory IsSuch = ⊤
