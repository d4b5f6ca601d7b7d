-- What stands around an instruction in its block.
use Rattle.std.specs.Prelude.{ℕ, ◌+◌, List, drop, take}
use Rattle.gi_mir.specs.Data.{InstrData, FunctionData}
use Rattle.gi_mir.specs.Edit.{home_block, place_in_block}

-- what stands in front of an instruction in its block, and behind it
abbrev pub front_of : FunctionData → ℕ → List (ℕ × InstrData)
front_of f id = take (place_in_block f id) (home_block f id).instrs

abbrev pub back_of : FunctionData → ℕ → List (ℕ × InstrData)
back_of f id = drop (place_in_block f id + 1) (home_block f id).instrs
