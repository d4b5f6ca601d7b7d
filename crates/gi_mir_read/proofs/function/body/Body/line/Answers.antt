use Rattle.std.proofs.Common.{sym}
use Rattle.gi_mir_read.specs.Texts.Placed.{line_at}
use Rattle.gi_mir_read.proofs.Functions.BodyLemmas.{reads-blank}
use Rattle.gi_mir_read.proofs.function.body.Body.line.Goals as goal

pub returns-in-None : goal.returns-in-None
returns-in-None c =
    reads-blank c.args.site.text.now c.args.site.tables.now c.args.site.place c.args.names.now c.args.self.now c.blank_line.new.self c.args.notes.now c.blank_line.new.notes
    (line_at c.args.site.text.now c.args.line) (sym (rw c.in-None.is at c.in_ok-items.ensures)) (c.blank_line.ensures c.args.site.text.now c.args.site.tables.now c.args.names.now)
