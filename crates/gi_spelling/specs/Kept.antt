-- What counts of a line of a block. The following is passed over wherever it stands:
-- the words of the table that say so (`killed`, `dead`, `frame-setup`, `nusw`, `invariant` ..);
-- `from` and `into` with what follows up to the next comma or closing bracket;
-- `debug-location !N`, `debug-instr-number N`, `basealign N` and `!name !N`, each with a comma directly before it;
-- the probability in brackets directly behind a block, as `%bb.1(0x40000000)`.
-- (MIR Format Reference Manual, "Machine Instructions"; that these say nothing here is this project's own.)
use Rattle.std.specs.Prelude.{zero, suc, Bool, true, false, ◌&&◌, List, [], ◌∷◌, map, if◌then◌else◌}
use Rattle.gi_spelling.specs.declared.kept.Next.{Next}
use Rattle.gi_spelling.specs.declared.kept.Next.TheVariants.{Past, PastOrigin}
use Rattle.gi_spelling.specs.declared.kept.Turn.{Turn}
use Rattle.gi_spelling.specs.declared.token.Word.TheVariants as word
use Rattle.gi_spelling.specs.declared.token.What.{What}
use Rattle.gi_spelling.specs.declared.token.What.TheVariants as what

abbrev pub is_passed : What → Bool
is_passed (what.Word word.Passed) = true
is_passed w = false

abbrev pub is_origin : What → Bool
is_origin (what.Word word.Origin) = true
is_origin w = false

abbrev pub is_comma : What → Bool
is_comma what.Comma = true
is_comma w = false

abbrev pub ends_origin : What → Bool
ends_origin what.Comma = true
ends_origin what.Close = true
ends_origin w = false

-- two tokens that say nothing together
abbrev pub is_note : (first second : What) → Bool
is_note (what.Word word.DebugLocation) (what.Metadata true) = true
is_note (what.Word word.Counted) (what.Number number plain) = true
is_note (what.Metadata numbered) (what.Metadata true) = true
is_note first second = false

-- a block and its probability
abbrev pub is_probable : (first second third fourth : What) → Bool
is_probable (what.Block number) what.Open (what.Number size plain) what.Close = true
is_probable first second third fourth = false

-- what becomes of a token
abbrev pub turn : (keeps : Bool) → Next → Turn
turn keeps next = record { keeps = keeps; next = next }

-- a token by itself
abbrev pub turn_alone : What → Turn
turn_alone first = if is_passed first then turn false (Past 0) else if is_origin first then turn false PastOrigin else turn true (Past 0)

abbrev pub turn_of_two : (first second : What) → Turn
turn_of_two first second = if is_note first second then turn false (Past 1) else turn_alone first

abbrev pub turn_of_three : (first second third : What) → Turn
turn_of_three first second third = if is_comma first && is_note second third then turn false (Past 2) else turn_of_two first second

-- the first of the tokens that are left, by what follows it
abbrev pub turn_at : (first : What) (rest : List What) → Turn
turn_at first [] = turn_alone first
turn_at first (second ∷ []) = turn_of_two first second
turn_at first (second ∷ third ∷ []) = turn_of_three first second third
turn_at first (second ∷ third ∷ fourth ∷ rest) = if is_probable first second third fourth then turn true (Past 3) else turn_of_three first second third

abbrev pub kept_turn : {X : Type 0} → Turn → X → (after : Next → List X) → List X
kept_turn turned first after = if turned.keeps then first ∷ after turned.next else after turned.next

-- the tokens that count of a line, each told by `what`
abbrev pub kept_past : {X : Type 0} (what : X → What) → Next → List X → List X
kept_past what next [] = []
kept_past what (Past zero) (first ∷ rest) = kept_turn (turn_at (what first) (map what rest)) first (λ next. kept_past what next rest)
kept_past what (Past (suc count)) (first ∷ rest) = kept_past what (Past count) rest
kept_past what PastOrigin (first ∷ rest) =
    if ends_origin (what first) then kept_turn (turn_at (what first) (map what rest)) first (λ next. kept_past what next rest)
    else kept_past what PastOrigin rest

abbrev pub kept : {X : Type 0} (what : X → What) → List X → List X
kept what tokens = kept_past what (Past 0) tokens
