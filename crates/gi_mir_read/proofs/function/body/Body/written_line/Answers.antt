use Rattle.gi_mir_read.specs.Texts.Placed.{line_at}
use Rattle.gi_mir_read.proofs.Functions.BodyLemmas.{reads-meant, reads-none}
use Rattle.gi_mir_read.proofs.function.body.Body.written_line.Goals as goal

pub returns-in_ok-keep-in-Some : goal.returns-in_ok-keep-in-Some
returns-in_ok-keep-in-Some c =
    reads-meant c.args.site.text.now c.args.names.now c.resolve.new.names c.args.self.now c.args.notes.now (line_at c.args.site.text.now c.args.line) c.args.written.now
    c.resolve.ensures.grown _ c.in-Some.instr c.keep.new.self c.keep.new.notes (rw c.in-Some.is at c.in_ok-instr.ensures.some) c.in_ok-keep-in-Some.ensures.instrs c.in_ok-keep-in-Some.ensures.notes

pub returns-in-None : goal.returns-in-None
returns-in-None c =
    reads-none c.args.site.text.now c.args.names.now c.resolve.new.names c.args.self.now c.args.notes.now (line_at c.args.site.text.now c.args.line) c.args.written.now
    c.resolve.ensures.grown _ c.note.new.self (rw c.in-None.is at c.in_ok-instr.ensures.none) c.note.ensures
