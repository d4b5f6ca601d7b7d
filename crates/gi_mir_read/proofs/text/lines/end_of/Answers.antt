use Rattle.gi_mir_read.proofs.Texts.LineCuts.{line_to_feed, line_to_end}
use Rattle.gi_mir_read.proofs.text.lines.end_of.Goals as goal

pub returns-in-Some-clause-line : goal.returns-in-Some-clause-line
returns-in-Some-clause-line c = line_to_feed c.args.text.now c.args.start c.in-Some.place c.in-Some.ensures.value

pub returns-in-None-clause-line : goal.returns-in-None-clause-line
returns-in-None-clause-line c = line_to_end c.args.text.now c.args.start c.requires c.in-None.ensures.value
