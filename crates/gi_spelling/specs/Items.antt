-- The tokens of a range of a text, each by what it is and where it stands.
use Rattle.std.specs.Prelude.{ℕ, ◌+◌, ◌-◌, List, Option, Some, None, Ok, Err, length, map, option_map}
use Rattle.gi_text.specs.declared.token.Token.{Token}
use Rattle.gi_text.specs.Cutting.{Cut, cut_of, lexeme_in}
use Rattle.gi_spelling.specs.declared.token.Item.{Item}
use Rattle.gi_spelling.specs.declared.token.What.{What}
use Rattle.gi_spelling.specs.Kept.{kept}
use Rattle.gi_spelling.specs.Lines.{Line, behind_colon}
use Rattle.gi_spelling.specs.Words.{what_of}

abbrev pub item_of : (text : List ℕ) → Token → Item
item_of text token = record { what = what_of (lexeme_in text token); start = token.start; end = token.end }

-- none where a byte begins no token, or a number is too great
abbrev pub items_cut : (text : List ℕ) → Cut → Option (List Item)
items_cut text (Ok tokens) = Some (map (item_of text) tokens)
items_cut text (Err fault) = None

abbrev pub items_in : (text : List ℕ) (start end : ℕ) → Option (List Item)
items_in text start end = items_cut text (cut_of text start end)

-- a line
abbrev pub end_of : Line → ℕ
end_of line = line.start + length line.bytes

abbrev pub items_of_line : (text : List ℕ) → Line → Option (List Item)
items_of_line text line = items_in text line.start (end_of line)

-- a line of a block, less what is passed over
abbrev pub what_in : Item → What
what_in item = item.what

abbrev pub kept_items : (text : List ℕ) → Line → Option (List Item)
kept_items text line = option_map (kept what_in) (items_of_line text line)

-- the value behind a key
abbrev pub value_items : (text : List ℕ) → Line → Option (List Item)
value_items text line = items_in text (end_of line - length (behind_colon line.bytes)) (end_of line)
