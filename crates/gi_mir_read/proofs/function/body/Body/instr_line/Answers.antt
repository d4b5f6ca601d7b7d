use Rattle.std.proofs.Common.{true, ap}
use Rattle.std.proofs.lemmas.Result.{on_ok_weaker}
use Rattle.gi_mir_read.specs.Functions.Bodies.{BodyData}
use Rattle.gi_mir_read.specs.Texts.Placed.{line_at}
use Rattle.gi_mir_read.proofs.Functions.BodyLemmas.{reads-written}
use Rattle.gi_mir_read.proofs.function.body.Body.instr_line.Goals as goal

pub returns-in-Ok : goal.returns-in-Ok
returns-in-Ok c =
    on_ok_weaker c.written_line.result
    (reads-written c.args.site.text.now c.args.site.tables.now c.args.names.now c.written_line.new.names c.args.self.now (record { lists = c.self.inside.lists; instrs = c.self.inside.instrs.items; begun = true }) c.written_line.new.self c.args.notes.now c.written_line.new.notes
    (line_at c.args.site.text.now c.args.line) c.args.items.now c.in-Ok.written (ap (λ (body : BodyData). record body { begun = true }) c.self.view_is) c.in-Ok.ensures.ok)
    c.written_line.ensures
