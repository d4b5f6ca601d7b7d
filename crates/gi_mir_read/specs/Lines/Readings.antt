-- What is read behind what has been read.
use Rattle.std.specs.Prelude.{List, ◌++◌, Ok}
use Rattle.gi_spelling.specs.Reading.{Read, then_read}

-- those so far, before those that are read of the rest
abbrev pub after_those : {X : Type 0} → List X → Read (List X) → Read (List X)
after_those so_far later = then_read later (λ xs. Ok (so_far ++ xs))
