use Rattle.gi_spelling.proofs.ReadLines.{line_written}
use Rattle.gi_spelling.proofs.laws.read_lines_are_written.Goals as goal

pub returns : goal.returns
returns c = line_written
