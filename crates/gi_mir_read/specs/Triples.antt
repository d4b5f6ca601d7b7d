-- The target triple of an IR block: the first line whose tokens are `target`, `triple`, `=` and a quoted one. (The bytes
-- of a token tell its kind.)
use Rattle.std.specs.Prelude.{◌≡◌, ℕ, suc, min, Bool, true, false, bytes_eq, codes, List, [], ◌∷◌, Option, Some, None, Ok, Err, length, slice_get, if◌then◌else◌}
use Rattle.std.specs.Option.{option_map_or}
use Rattle.gi_text.specs.declared.token.Token.{Token}
use Rattle.gi_text.specs.declared.token.TokenKind.{TokenKind}
use Rattle.gi_text.specs.declared.token.TokenKind.TheVariants as kind
use Rattle.gi_text.specs.Cutting.{Cut, cut_of, cut_past_place, slice}
use Rattle.gi_mir.specs.Data.{ModuleData}
use Rattle.gi_spelling.specs.Lines.{Line, parts_of_text}

abbrev pub is_spelled : (line spelling : List ℕ) → Token → Bool
is_spelled line spelling token = bytes_eq (slice token.start token.end line) spelling

abbrev pub is_quoted : TokenKind → Bool
is_quoted kind.Quoted = true
is_quoted other = false

-- what the tokens behind the first tell, if the first has this spelling
abbrev pub behind_spelling : (line spelling : List ℕ) → (List Token → Option Token) → List Token → Option Token
behind_spelling line spelling tell [] = None
behind_spelling line spelling tell (token ∷ tokens) = if is_spelled line spelling token then tell tokens else None

-- a quoted token, behind which there is no other
abbrev pub last_quoted : List Token → Option Token
last_quoted [] = None
last_quoted (token ∷ []) = if is_quoted token.kind then Some token else None
last_quoted (token ∷ other ∷ tokens) = None

abbrev pub triple_told : (line : List ℕ) → List Token → Option Token
triple_told line =
    behind_spelling line (codes "target") (behind_spelling line (codes "triple") (behind_spelling line (codes "=") last_quoted))

abbrev pub told_by : (List Token → Option Token) → Cut → Option Token
told_by tell (Ok tokens) = tell tokens
told_by tell (Err fault) = None

-- whether a cut has no token
abbrev pub is_end : Cut → Bool
is_end (Ok []) = true
is_end (Ok (token ∷ tokens)) = false
is_end (Err fault) = false

-- where the first token from a place on has ended, if it has this spelling
abbrev pub IsBehind : (line spelling : List ℕ) (place : ℕ) → Option ℕ → Type 0
IsBehind line spelling place None = (tell : List Token → Option Token) → told_by (behind_spelling line spelling tell) (cut_past_place line place) ≡ None
IsBehind line spelling place (Some end) =
    (tell : List Token → Option Token) → told_by (behind_spelling line spelling tell) (cut_past_place line place) ≡ told_by tell (cut_past_place line end)

-- the quoted token of a line that tells the triple
abbrev pub triple_in : (line : List ℕ) → Option Token
triple_in line = told_by (triple_told line) (cut_of line 0 (length line))

-- the first such line, by its place, and its token; a place above 4294967295 counts as that number
abbrev pub greatest_place : ℕ
greatest_place = 4294967295

abbrev pub placed_or : (place : ℕ) → Option Token → Option (ℕ × Token) → Option (ℕ × Token)
placed_or place None later = later
placed_or place (Some token) later = Some (min place greatest_place, token)

abbrev pub triple_from : (place : ℕ) → (lines : List (List ℕ)) → Option (ℕ × Token)
triple_from place [] = None
triple_from place (line ∷ lines) = placed_or place (triple_in line) (triple_from (suc place) lines)

abbrev pub triple_of : ModuleData → Option (ℕ × Token)
triple_of m = option_map_or (triple_from 0) m.ir None

-- the number of a line of the IR block
abbrev pub number_at : Option (List Line) → (place : ℕ) → ℕ
number_at None place = 0
number_at (Some lines) place = option_map_or (λ line. line.number) (slice_get lines place) 0

abbrev pub ir_number : (text : List ℕ) (place : ℕ) → ℕ
ir_number text place = number_at (parts_of_text text).ir place
