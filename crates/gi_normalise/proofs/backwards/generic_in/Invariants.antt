use Rattle.std.proofs.Common.{suc}
use Rattle.std.specs.Option.{option_map_or}
use Rattle.gi_mir.specs.Edit.{block_at, place_in_block}
use Rattle.gi_normalise.specs.Gaps.{IsClearBehind}
use Rattle.gi_normalise.proofs.backwards.generic_in.Given as goal

abbrev pub invariant-loop-ahead : goal.invariant-loop-ahead
invariant-loop-ahead l = IsClearBehind (block_at l.function l.fn.gap.block).instrs l.ahead

-- how many stand up to it
abbrev pub decreases-loop-ahead : goal.decreases-loop-ahead
decreases-loop-ahead l = option_map_or (λ id. suc (place_in_block l.function id.0)) l.ahead 0
