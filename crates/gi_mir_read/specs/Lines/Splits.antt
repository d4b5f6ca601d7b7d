-- The parts of a line that are left.
use Rattle.std.specs.Prelude.{List, [], Option, Some, None}
use Rattle.gi_spelling.specs.declared.token.Item.{Item}
use Rattle.gi_spelling.specs.Reading.{parts_of}

abbrev pub parts_left : Option (List Item) → List (List Item)
parts_left None = []
parts_left (Some items) = parts_of items
