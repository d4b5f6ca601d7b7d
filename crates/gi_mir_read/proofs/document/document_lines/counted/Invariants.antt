use Rattle.std.proofs.Common.{◌≡◌, ◌++◌, drop}
use Rattle.std.specs.Prelude.{All}
use Rattle.gi_spelling.specs.Lines.{counted_lines}
use Rattle.gi_mir_read.specs.Texts.Placed.{IsLineIn, lines_at}
use Rattle.gi_mir_read.proofs.document.document_lines.counted.Given as goal

abbrev pub invariant-loop-line : goal.invariant-loop-line
invariant-loop-line l = record {
  lines : lines_at l.text l.counted.items ++ counted_lines (lines_at l.text (drop l.line-index l.lines)) ≡ counted_lines (lines_at l.text l.lines);
  within : All (IsLineIn l.text) l.counted.items;
}
