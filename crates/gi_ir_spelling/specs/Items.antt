-- The tokens of a line of a text, and what each is.
use Rattle.std.specs.Prelude.{ℕ, List, map, Option, Some, None, Ok, Err}
use Rattle.gi_text.specs.Cutting.{Cut, cut_of, lexeme_in}
use Rattle.gi_text.specs.declared.token.Token.{Token}
use Rattle.gi_ir_spelling.specs.declared.token.Item.{Item}
use Rattle.gi_ir_spelling.specs.Words.{Defined, what_of}

abbrev pub item_of : Defined → (text : List ℕ) → Token → Item
item_of defined text token = record { what = what_of defined (lexeme_in text token); start = token.start; end = token.end }

abbrev pub items_of_cut : Defined → (text : List ℕ) → Cut → Option (List Item)
items_of_cut defined text (Ok tokens) = Some (map (item_of defined text) tokens)
items_of_cut defined text (Err fault) = None

-- the tokens of the bytes from a place up to another, or none where a byte begins no token or a number is too great
abbrev pub items_in : Defined → (text : List ℕ) → (start end : ℕ) → Option (List Item)
items_in defined text start end = items_of_cut defined text (cut_of text start end)
