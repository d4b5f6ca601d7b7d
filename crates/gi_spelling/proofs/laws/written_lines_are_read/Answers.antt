use Rattle.gi_spelling.proofs.WrittenLines.{line_read}
use Rattle.gi_spelling.proofs.laws.written_lines_are_read.Goals as goal

pub returns : goal.returns
returns c = line_read
