use Rattle.std.proofs.Common.{◌≡◌, ◌++◌, drop}
use Rattle.gi_spelling.specs.Documents.{registers_in}
use Rattle.gi_mir_read.specs.Texts.Placed.{lines_at}
use Rattle.gi_mir_read.proofs.document.registers.registers.Given as goal

abbrev pub invariant-loop-line : goal.invariant-loop-line
invariant-loop-line l = l.classes.items ++ registers_in l.text (lines_at l.text (drop l.line-index l.lines)) ≡ registers_in l.text (lines_at l.text l.lines)
