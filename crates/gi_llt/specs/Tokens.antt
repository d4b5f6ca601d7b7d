-- The tokens of a line of text, and the pieces that a printed line is made of.
-- Machine IR is written in words, numbers, names with a mark before them, and marks. (Machine IR (MIR)
-- Format Reference Manual, "MIR Format"; the exact table is this project's own.)
--     Word       a letter or `_`, then word bytes: letters, digits, `_`, `.`, `-` and `$`
--     Number     an optional `-`, then digits; or `0x` and hexadecimal digits
--     Register, Physical, Global, Routine     `%`, `$`, `@` and `&`, then one or more word bytes
--     Quoted     from `"` or `'` to the next such byte
--     Metadata   `!`, then any number of word bytes
--     Mark       one of ( ) [ ] { } < > , = : * + - # . or the vertical bar
-- Spaces, tabs and carriage returns separate tokens, and `;` ends the line's tokens. A token is as long
-- as it can be. Any other byte begins no token.
use Rattle.std.specs.Prelude.{◌≡◌, ℕ, zero, suc, Bool, true, false, not, ◌&&◌, ◌||◌, List, [], ◌∷◌, ◌++◌, length, replicate, Option, Some, None, option_map, ◌==◌, nat_le, if◌then◌else◌, codes, ⊤}
use Rattle.std.specs.List.{list_any, list_all}

-- what kind of token it is
pub data LexemeKind : Type 0 where
  Word : LexemeKind
  Number : LexemeKind
  Register : LexemeKind
  Physical : LexemeKind
  Global : LexemeKind
  Routine : LexemeKind
  Quoted : LexemeKind
  Metadata : LexemeKind
  Mark : LexemeKind

-- a token: its kind and its bytes
pub record Lexeme : Type 0 where
  pub kind : LexemeKind
  pub bytes : List ℕ

abbrev pub lexeme : LexemeKind → List ℕ → Lexeme
lexeme kind bytes = record { kind = kind; bytes = bytes }

abbrev pub is_within : (low high byte : ℕ) → Bool
is_within low high byte = nat_le low byte && nat_le byte high

abbrev pub is_digit : ℕ → Bool
is_digit byte = is_within 48 57 byte

abbrev pub is_hexadecimal_digit : ℕ → Bool
is_hexadecimal_digit byte = is_digit byte || is_within 65 70 byte || is_within 97 102 byte

-- a letter or `_`
abbrev pub is_word_start : ℕ → Bool
is_word_start byte = is_within 65 90 byte || is_within 97 122 byte || byte == 95

-- a letter, a digit, `_`, `.`, `-` or `$`
abbrev pub is_word_byte : ℕ → Bool
is_word_byte byte = is_word_start byte || is_digit byte || byte == 46 || byte == 45 || byte == 36

-- a space, a tab or a carriage return
abbrev pub is_blank : ℕ → Bool
is_blank byte = byte == 32 || byte == 9 || byte == 13

abbrev pub is_mark : ℕ → Bool
is_mark byte = list_any (λ mark. byte == mark) (codes "()[]{}<>,=:*+-#.|")

-- what may begin with a byte
pub data Start : Type 0 where
  OfBlank : Start
  OfComment : Start
  OfWord : Start
  OfNumber : Start
  OfMinus : Start
  OfName : LexemeKind → Start
  OfQuoted : Start
  OfMetadata : Start
  OfMark : Start
  OfNothing : Start

abbrev pub start_of : ℕ → Start
start_of byte = if is_word_start byte then OfWord
    else if is_digit byte then OfNumber
    else if is_blank byte then OfBlank
    else if byte == 59 then OfComment
    else if byte == 45 then OfMinus
    else if byte == 37 then OfName Register
    else if byte == 36 then OfName Physical
    else if byte == 64 then OfName Global
    else if byte == 38 then OfName Routine
    else if byte == 34 || byte == 39 then OfQuoted
    else if byte == 33 then OfMetadata
    else if is_mark byte then OfMark
    else OfNothing

-- what passes a test from the front on, and the rest after it
abbrev pub run_of : {X : Type 0} → (X → Bool) → List X → List X
run_of test [] = []
run_of test (first ∷ rest) = if test first then first ∷ run_of test rest else []

abbrev pub past_run : {X : Type 0} → (X → Bool) → List X → List X
past_run test [] = []
past_run test (first ∷ rest) = if test first then past_run test rest else first ∷ rest

-- up to a byte and with it, if it is there
abbrev pub through : ℕ → List ℕ → Option (List ℕ)
through last [] = None
through last (byte ∷ rest) = if byte == last then Some (byte ∷ []) else option_map (λ bytes. byte ∷ bytes) (through last rest)

-- what stands at the front: blanks or a comment, a token with the bytes after its first, or neither
pub data Found : Type 0 where
  FoundBlank : Found
  FoundComment : Found
  FoundToken : LexemeKind → (more : List ℕ) → Found
  FoundNothing : Found

-- one or more bytes have to follow
abbrev pub found_some : LexemeKind → List ℕ → Found
found_some kind [] = FoundNothing
found_some kind (byte ∷ more) = FoundToken kind (byte ∷ more)

-- `-` is a mark where no digit follows
abbrev pub found_minus : List ℕ → Found
found_minus [] = FoundToken Mark []
found_minus (digit ∷ more) = FoundToken Number (digit ∷ more)

-- `0x` counts where a hexadecimal digit follows
abbrev pub found_hexadecimal : (digits : List ℕ) (hexadecimal : List ℕ) → Found
found_hexadecimal digits [] = FoundToken Number digits
found_hexadecimal digits (digit ∷ more) = FoundToken Number (120 ∷ digit ∷ more)

abbrev pub found_number : (first : ℕ) (rest : List ℕ) → Found
found_number first [] = FoundToken Number []
found_number first (byte ∷ rest) =
    if first == 48 && byte == 120
    then found_hexadecimal (run_of is_digit (byte ∷ rest)) (run_of is_hexadecimal_digit rest)
    else FoundToken Number (run_of is_digit (byte ∷ rest))

abbrev pub found_quoted : Option (List ℕ) → Found
found_quoted None = FoundNothing
found_quoted (Some more) = FoundToken Quoted more

abbrev pub found : Start → (first : ℕ) (rest : List ℕ) → Found
found OfBlank first rest = FoundBlank
found OfComment first rest = FoundComment
found OfWord first rest = FoundToken Word (run_of is_word_byte rest)
found OfNumber first rest = found_number first rest
found OfMinus first rest = found_minus (run_of is_digit rest)
found (OfName kind) first rest = found_some kind (run_of is_word_byte rest)
found OfQuoted first rest = found_quoted (through first rest)
found OfMetadata first rest = FoundToken Metadata (run_of is_word_byte rest)
found OfMark first rest = FoundToken Mark []
found OfNothing first rest = FoundNothing

-- the tokens from here on, where `tokens_after n` are those after the next n bytes
abbrev pub tokens_from : Found → (first : ℕ) (tokens_after : ℕ → Option (List Lexeme)) → Option (List Lexeme)
tokens_from FoundBlank first tokens_after = tokens_after 0
tokens_from FoundComment first tokens_after = Some []
tokens_from (FoundToken kind more) first tokens_after = option_map (λ tokens. lexeme kind (first ∷ more) ∷ tokens) (tokens_after (length more))
tokens_from FoundNothing first tokens_after = None

-- the tokens of a line less its first so many bytes
abbrev pub tokens_past : List ℕ → ℕ → Option (List Lexeme)
tokens_past [] skipped = Some []
tokens_past (byte ∷ rest) zero = tokens_from (found (start_of byte) byte rest) byte (tokens_past rest)
tokens_past (byte ∷ rest) (suc skipped) = tokens_past rest skipped

-- the tokens of a line, or none where a byte begins no token
abbrev pub tokens_of : List ℕ → Option (List Lexeme)
tokens_of line = tokens_past line 0

-- a piece of a printed line: a token, or so many spaces
pub data Piece : Type 0 where
  Token : Lexeme → Piece
  Spaces : ℕ → Piece

-- a printed line in two readings: its bytes, and its tokens
abbrev pub piece_bytes : List Piece → List ℕ
piece_bytes [] = []
piece_bytes (Token token ∷ pieces) = token.bytes ++ piece_bytes pieces
piece_bytes (Spaces count ∷ pieces) = replicate count 32 ++ piece_bytes pieces

abbrev pub piece_lexemes : List Piece → List Lexeme
piece_lexemes [] = []
piece_lexemes (Token token ∷ pieces) = token ∷ piece_lexemes pieces
piece_lexemes (Spaces count ∷ pieces) = piece_lexemes pieces

abbrev pub token : LexemeKind → List ℕ → Piece
token kind bytes = Token (lexeme kind bytes)

-- the bytes are a token of the kind, among those that a printer writes: numbers in decimal, nothing quoted
abbrev pub is_formed : LexemeKind → List ℕ → Bool
is_formed kind [] = false
is_formed Word (byte ∷ more) = is_word_start byte && list_all is_word_byte more
is_formed Number (byte ∷ []) = is_digit byte
is_formed Number (byte ∷ digit ∷ more) = (is_digit byte || byte == 45) && is_digit digit && list_all is_digit more
is_formed Register (byte ∷ []) = false
is_formed Register (byte ∷ next ∷ more) = byte == 37 && is_word_byte next && list_all is_word_byte more
is_formed Physical (byte ∷ []) = false
is_formed Physical (byte ∷ next ∷ more) = byte == 36 && is_word_byte next && list_all is_word_byte more
is_formed Global (byte ∷ []) = false
is_formed Global (byte ∷ next ∷ more) = byte == 64 && is_word_byte next && list_all is_word_byte more
is_formed Routine (byte ∷ []) = false
is_formed Routine (byte ∷ next ∷ more) = byte == 38 && is_word_byte next && list_all is_word_byte more
is_formed Quoted (byte ∷ more) = false
is_formed Metadata (byte ∷ more) = byte == 33 && list_all is_word_byte more
is_formed Mark (byte ∷ []) = is_mark byte
is_formed Mark (byte ∷ next ∷ more) = false

-- what follows begins with no byte that would make a token of this kind longer
abbrev pub is_ended : LexemeKind → (following : List ℕ) → Bool
is_ended kind [] = true
is_ended Mark (byte ∷ rest) = not (is_digit byte)
is_ended Quoted (byte ∷ rest) = true
is_ended kind (byte ∷ rest) = not (is_word_byte byte)

-- each token is formed, and none touches what would make it longer
abbrev pub IsApart : List Piece → Type 0
IsApart [] = ⊤
IsApart (Token token ∷ pieces) = (is_formed token.kind token.bytes ≡ true) × (is_ended token.kind (piece_bytes pieces) ≡ true) × IsApart pieces
IsApart (Spaces count ∷ pieces) = IsApart pieces
