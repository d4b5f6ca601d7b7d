use Rattle.std.proofs.Common.{◌≡◌, take}
use Rattle.std.specs.Prelude.{filter_map}
use Rattle.gi_mir_read.specs.Functions.Blocked.{told_of}
use Rattle.gi_mir_read.proofs.function.told.told_lines.Given as goal

-- the lines so far
abbrev pub invariant-loop-line : goal.invariant-loop-line
invariant-loop-line l = l.told.items ≡ filter_map (told_of l.text) (take l.line-index l.lines)
