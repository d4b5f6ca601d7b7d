use Rattle.std.proofs.Common.{sym, ap, ◌∙◌}
use Rattle.std.specs.Option.{option_copied}
use Rattle.gi_mir_read.proofs.Documents.CountLemmas.{last_is}
use Rattle.gi_mir_read.proofs.document.document_lines.last_number.Goals as goal

pub returns-in-Some : goal.returns-in-Some
returns-in-Some c = λ text. last_is text c.args.line c.args.lines.now c.in-Some.last.now (sym (c.last.ensures.value) ∙ ap option_copied c.in-Some.is)
