use Rattle.std.proofs.Common.{ap, ◌∙◌}
use Rattle.gi_mir_read.proofs.Texts.LineTests.{is_empty_rest, empty_line, empty_at, none_left}
use Rattle.gi_mir_read.proofs.text.line_bytes.is_empty_line.Goals as goal

pub returns-in-empty : goal.returns-in-empty
returns-in-empty c = none_left c.past_blanks.result.now c.in-empty.len_below ∙ ap is_empty_rest c.past_blanks.ensures.past ∙ empty_line c.args.line.now

pub returns-in-len1-up : goal.returns-in-len1-up
returns-in-len1-up c = empty_at c.past_blanks.result.now c.in-len1-up.len_at_least ∙ ap is_empty_rest c.past_blanks.ensures.past ∙ empty_line c.args.line.now
