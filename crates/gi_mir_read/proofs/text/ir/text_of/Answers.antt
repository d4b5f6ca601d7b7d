use Rattle.std.proofs.Common.{◌∙◌}
use Rattle.gi_mir_read.proofs.Texts.TextLemmas.{text_is, no_text_is}
use Rattle.gi_mir_read.proofs.text.ir.text_of.Goals as goal

pub returns-in-Ok-from_str : goal.returns-in-Ok-from_str
returns-in-Ok-from_str c = text_is c.args.bytes.now _ (c.in-Ok-from_str.ensures.ok ∙ c.in-Ok.ensures.cases.0) c.in-Ok.ensures.cases.1

pub returns-in-Err : goal.returns-in-Err
returns-in-Err c = no_text_is c.args.bytes.now c.in-Err.ensures.cases.0
