use Rattle.std.proofs.Common.{◌≡◌, ◌++◌, drop}
use Rattle.std.specs.Prelude.{filter_map}
use Rattle.gi_mir_read.specs.Functions.Blocked.{head_of}
use Rattle.gi_mir_read.proofs.function.blocks.numbers_of.Given as goal

-- those so far, before those that are left
abbrev pub invariant-loop-line : goal.invariant-loop-line
invariant-loop-line l = l.numbers ++ filter_map head_of (drop l.line-index l.told) ≡ filter_map head_of l.told
