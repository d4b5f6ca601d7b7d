use Rattle.std.proofs.Common.{sym}
use Rattle.gi_mir_read.proofs.Texts.LineTests.{key_taken}
use Rattle.gi_mir_read.proofs.text.line_bytes.key_length.Goals as goal

pub returns-in-len1-up-clause-key : goal.returns-in-len1-up-clause-key
returns-in-len1-up-clause-key c = key_taken c.args.line.now c.word_length.result c.in-len1-up.len_at_least (sym c.if-is_word_start.ensures) c.word_length.ensures.run
