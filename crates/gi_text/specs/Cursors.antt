-- A walk over the tokens of a text, as what is left of them.
use Rattle.std.specs.Prelude.{◌≡◌, ℕ, List, [], ◌∷◌, drop}
use Rattle.gi_text.specs.declared.token.Token.{Token}
use Rattle.gi_text.specs.declared.token.TokenKind.TheVariants as kind
use Rattle.gi_text.specs.Cutting.{slice}

pub record CursorData : Type 0 where
  pub bytes : List ℕ
  pub left : List Token

abbrev pub cursor_at : List ℕ → List Token → CursorData
cursor_at bytes left = record { bytes = bytes; left = left }

-- without the next token
abbrev pub behind_next : CursorData → CursorData
behind_next cursor = record cursor { left = drop 1 cursor.left }

-- the token is this word
abbrev pub IsSpelledWord : List ℕ → Token → (word : List ℕ) → Type 0
IsSpelledWord bytes token word = (token.kind ≡ kind.Word) × (slice token.start token.end bytes ≡ word)

abbrev pub IsWordFirst : List ℕ → List Token → (word : List ℕ) → Type 0
IsWordFirst bytes [] word = ⊥
IsWordFirst bytes (token ∷ left) word = IsSpelledWord bytes token word

-- a token is left, and the next is this word
abbrev pub IsNextWord : CursorData → (word : List ℕ) → Type 0
IsNextWord cursor word = IsWordFirst cursor.bytes cursor.left word
