use Rattle.std.proofs.Common.{◌≡◌, ◌++◌, drop, map}
use Rattle.std.specs.Prelude.{filter, fold, string_bytes}
use Rattle.gi_spelling.specs.Documents.{is_no_text, line_wrongs, lower}
use Rattle.gi_mir_read.specs.Texts.Placed.{lines_at}
use Rattle.gi_mir_read.specs.Texts.LineTexts.{texts_of}
use Rattle.gi_mir_read.proofs.text.ir.ir_texts.Given as goal

abbrev pub invariant-loop-line : goal.invariant-loop-line
invariant-loop-line l = record {
  texts : map string_bytes l.texts.items ++ texts_of (lines_at l.text (drop l.line-index l.lines)) ≡ texts_of (lines_at l.text l.lines);
  wrongs : fold lower l.lowest (line_wrongs (filter is_no_text (lines_at l.text (drop l.line-index l.lines)))) ≡ fold lower l.initial.lowest (line_wrongs (filter is_no_text (lines_at l.text l.lines)));
}
