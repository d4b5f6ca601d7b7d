use Rattle.std.proofs.Common.{◌≡◌, drop}
use Rattle.std.specs.Prelude.{fold}
use Rattle.gi_spelling.specs.Documents.{register_wrongs, lower}
use Rattle.gi_mir_read.specs.Texts.Placed.{lines_at}
use Rattle.gi_mir_read.proofs.document.registers.note_registers.Given as goal

abbrev pub invariant-loop-line : goal.invariant-loop-line
invariant-loop-line l =
    fold lower l.lowest (register_wrongs l.text (lines_at l.text (drop l.line-index l.lines))) ≡ fold lower l.initial.lowest (register_wrongs l.text (lines_at l.text l.lines))
