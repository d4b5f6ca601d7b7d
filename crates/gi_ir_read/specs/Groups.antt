-- What a token does to the groups that are open in metadata.
use Rattle.std.specs.Prelude.{List, ◌∷◌, drop, Option, Some, None}
use Rattle.gi_ir_spelling.specs.declared.token.Mark.{Mark}
use Rattle.gi_ir_read.specs.declared.metadata.Effect.{Effect}
use Rattle.gi_ir_read.specs.declared.metadata.Effect.TheVariants.{Stands, Opens, Closes, Wrong}

-- the brackets that are awaited then, the innermost first, or none where the token can't stand
abbrev pub outcome : (awaited : List Mark) → Effect → Option (List Mark)
outcome awaited Stands = Some awaited
outcome awaited (Opens end) = Some (end ∷ awaited)
outcome awaited Closes = Some (drop 1 awaited)
outcome awaited Wrong = None
