-- What becomes of the first of the tokens that are left of a line.
use Rattle.std.specs.Prelude.{zero, suc, true, false, List, [], ◌∷◌, map, if◌then◌else◌}
use Rattle.gi_spelling.specs.declared.kept.Next.{Next}
use Rattle.gi_spelling.specs.declared.kept.Next.TheVariants.{Past, PastOrigin}
use Rattle.gi_spelling.specs.declared.kept.Turn.{Turn}
use Rattle.gi_spelling.specs.declared.token.Item.{Item}
use Rattle.gi_spelling.specs.Items.{what_in}
use Rattle.gi_spelling.specs.Kept.{ends_origin, turn, turn_at}

abbrev pub first_turn : List Item → Turn
first_turn [] = turn true (Past 0)
first_turn (first ∷ rest) = turn_at first.what (map what_in rest)

-- where an origin is passed over
abbrev pub origin_turn : List Item → Turn
origin_turn [] = turn true (Past 0)
origin_turn (first ∷ rest) = if ends_origin first.what then first_turn (first ∷ rest) else turn false PastOrigin

-- where an earlier token says what follows it
abbrev pub turn_after : Next → List Item → Turn
turn_after (Past zero) items = first_turn items
turn_after (Past (suc count)) items = turn false (Past count)
turn_after PastOrigin items = origin_turn items
