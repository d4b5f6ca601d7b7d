-- The tokens of a line as slices of the text that it stands in, or what is wrong at the leftmost place
-- where something is.
use Rattle.std.specs.Prelude.{◌≡◌, ℕ, zero, suc, ◌+◌, ◌-◌, ◌<◌, ◌≤◌, true, false, is_err, List, [], ◌∷◌, ◌++◌, length, take, drop, Result, Ok, Err, if◌then◌else◌, ⊤}
use Rattle.gi_llt.specs.Tokens.{LexemeKind, Lexeme, lexeme, start_of, Found, FoundBlank, FoundComment, FoundToken, FoundNothing, found}
use Rattle.gi_text.specs.declared.token.NextToken.{NextToken}
use Rattle.gi_text.specs.declared.token.NextToken.TheVariants as next
use Rattle.gi_text.specs.declared.token.Token.{Token}
use Rattle.gi_text.specs.declared.token.Place.{Place}
use Rattle.gi_text.specs.declared.token.LineError.{LineError}
use Rattle.gi_text.specs.declared.token.LineError.TheVariants.{BadToken, BadNumber, Memory}
use Rattle.gi_text.specs.Kinds.{kind_of, lexeme_kind}
use Rattle.gi_text.specs.Numbers.{is_too_great}

-- a byte that begins no token, or the first byte of a number that is too great, by its place in the text
pub data Fault : Type 0 where
  NoToken : ℕ → Fault
  TooGreat : ℕ → Fault

abbrev pub Cut : Type 0
Cut = Result (List Token) Fault

-- a token of so many bytes
abbrev pub token_at : LexemeKind → (place size : ℕ) → Token
token_at kind place size = record { kind = kind_of kind; start = place; end = place + size }

-- tokens before those of a cut
abbrev pub behind : List Token → Cut → Cut
behind tokens (Ok later) = Ok (tokens ++ later)
behind tokens (Err fault) = Err fault

-- the tokens from here on, where `cut_after n` are those after the next n bytes
abbrev pub cut_from : Found → (first place : ℕ) (cut_after : ℕ → Cut) → Cut
cut_from FoundBlank first place cut_after = cut_after 0
cut_from FoundComment first place cut_after = Ok []
cut_from (FoundToken kind more) first place cut_after =
    if is_too_great kind (first ∷ more) then Err (TooGreat place)
    else behind (token_at kind place (suc (length more)) ∷ []) (cut_after (length more))
cut_from FoundNothing first place cut_after = Err (NoToken place)

-- the tokens of a line that begins at a place in the text, less its first so many bytes
abbrev pub cut_past : (place : ℕ) → List ℕ → ℕ → Cut
cut_past place [] skipped = Ok []
cut_past place (byte ∷ rest) zero = cut_from (found (start_of byte) byte rest) byte place (cut_past (suc place) rest)
cut_past place (byte ∷ rest) (suc skipped) = cut_past (suc place) rest skipped

-- the tokens of a line that begins at a place in the text
abbrev pub cut_line : (place : ℕ) → List ℕ → Cut
cut_line place line = cut_past place line 0

-- the bytes from a place up to another
abbrev pub slice : (start end : ℕ) → List ℕ → List ℕ
slice start end bytes = take (end - start) (drop start bytes)

-- the tokens of the bytes from a place up to another
abbrev pub cut_of : List ℕ → (start end : ℕ) → Cut
cut_of bytes start end = cut_line start (slice start end bytes)

-- the place in a line that begins at `start`, as it is told: columns count from 1
abbrev pub told_place : (line start place : ℕ) → Place
told_place line start place = record { line = line; column = place - start + 1 }

abbrev pub told : (line start : ℕ) → Fault → LineError
told line start (NoToken place) = BadToken (told_place line start place)
told line start (TooGreat place) = BadNumber (told_place line start place)

-- the error is the cut's fault, unless memory ran out
abbrev pub IsFaultOf : Cut → (line start : ℕ) → LineError → Type 0
IsFaultOf cut line start Memory = ⊤
IsFaultOf (Ok tokens) line start error = ⊥
IsFaultOf (Err fault) line start error = error ≡ told line start fault

-- a token as the table of tokens has it, from the text that it is a slice of
abbrev pub lexeme_in : List ℕ → Token → Lexeme
lexeme_in bytes token = lexeme (lexeme_kind token.kind) (slice token.start token.end bytes)

-- the token is a slice of the text
pub record IsSlice (bytes : List ℕ) (token : Token) : Type 0 where
  pub ordered : token.start < token.end
  pub within : token.end ≤ length bytes

-- the token is no number whose size 128 bits don't hold
pub record IsSized (bytes : List ℕ) (token : Token) : Type 0 where
  pub sized : is_too_great (lexeme_kind token.kind) (slice token.start token.end bytes) ≡ false

-- the tokens of the bytes from a place on
abbrev pub cut_past_place : List ℕ → (place : ℕ) → Cut
cut_past_place bytes place = cut_line place (drop place bytes)

-- what comes next is the first token of a cut, or its end, or nothing where the cut has a fault
abbrev pub IsNext : (bytes : List ℕ) → Cut → NextToken → Type 0
IsNext bytes cut (next.Found token) = cut ≡ behind (token ∷ []) (cut_past_place bytes token.end)
IsNext bytes cut next.End = cut ≡ Ok []
IsNext bytes cut next.Wrong = is_err cut ≡ true

-- a token that is found is a slice of the text
abbrev pub IsSliceFound : (bytes : List ℕ) → NextToken → Type 0
IsSliceFound bytes (next.Found token) = IsSlice bytes token
IsSliceFound bytes next.End = ⊤
IsSliceFound bytes next.Wrong = ⊤
