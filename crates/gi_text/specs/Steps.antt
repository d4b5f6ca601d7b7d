-- What stands at the front of the bytes that are left of a line, as code tells it: a token by its kind
-- and by how many bytes it has after its first.
use Rattle.std.specs.Prelude.{ℕ, suc, List, [], ◌∷◌, length}
use Rattle.gi_llt.specs.Tokens.{Register, Physical, Global, Routine, Start, OfBlank, OfComment, OfWord, OfNumber, OfMinus, OfName, OfQuoted, OfMetadata, OfMark, OfNothing, start_of, Found, FoundBlank, FoundComment, FoundToken, FoundNothing, found}
use Rattle.gi_text.specs.declared.bytes.Begin.{Begin}
use Rattle.gi_text.specs.declared.bytes.Begin.TheVariants as begin
use Rattle.gi_text.specs.declared.step.Step.{Step}
use Rattle.gi_text.specs.declared.step.Step.TheVariants as step
use Rattle.gi_text.specs.Kinds.{kind_of}

abbrev pub start_in : Begin → Start
start_in begin.Blank = OfBlank
start_in begin.Comment = OfComment
start_in begin.Word = OfWord
start_in begin.Number = OfNumber
start_in begin.Minus = OfMinus
start_in begin.Register = OfName Register
start_in begin.Physical = OfName Physical
start_in begin.Global = OfName Global
start_in begin.Routine = OfName Routine
start_in begin.Quoted = OfQuoted
start_in begin.Metadata = OfMetadata
start_in begin.Mark = OfMark
start_in begin.Nothing = OfNothing

abbrev pub step_of : Found → Step
step_of FoundBlank = step.Blank
step_of FoundComment = step.End
step_of (FoundToken kind more) = step.Token (kind_of kind) (length more)
step_of FoundNothing = step.Nothing

-- no byte is left, or the first begins something
abbrev pub step_at : List ℕ → Step
step_at [] = step.End
step_at (first ∷ rest) = step_of (found (start_of first) first rest)

-- how many bytes it takes
abbrev pub taken_by : Step → ℕ
taken_by step.Blank = 1
taken_by step.End = 0
taken_by (step.Token kind more) = suc more
taken_by step.Nothing = 0
