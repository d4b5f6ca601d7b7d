use Rattle.std.proofs.Common.{◌≡◌, ◌+◌, ◌-◌, ◌≤◌, ◌++◌, length, drop, map}
use Rattle.std.specs.Prelude.{All}
use Rattle.gi_spelling.specs.Lines.{lines_of, lines_in, numbered_from}
use Rattle.gi_mir_read.specs.Texts.Placed.{IsLineIn, line_at}
use Rattle.gi_mir_read.proofs.text.lines.lines.Given as goal

-- the lines so far, before those of the bytes that are left
abbrev pub invariant-loop-start : goal.invariant-loop-start
invariant-loop-start l = record {
  counted : l.number ≤ l.start + 1;
  short : l.start ≤ length l.text + 1;
  lines : map (line_at l.text) l.lines.items ++ numbered_from l.number l.start (lines_of (drop l.start l.text)) ≡ lines_in l.text;
  within : All (IsLineIn l.text) l.lines.items;
}

abbrev pub decreases-loop-start : goal.decreases-loop-start
decreases-loop-start l = length l.text - l.start
