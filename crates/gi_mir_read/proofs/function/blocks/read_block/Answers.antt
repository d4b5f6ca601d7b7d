use Rattle.std.proofs.lemmas.Result.{on_ok_weaker}
use Rattle.gi_mir_read.proofs.Functions.BlockLemmas.{reads-block}
use Rattle.gi_mir_read.proofs.function.blocks.read_block.Goals as goal

pub returns : goal.returns
returns c =
    on_ok_weaker c.add_body.result
    (reads-block c.args.site.text.now c.args.site.tables.now c.args.names.now c.lines.new.names c.args.site.place c.args.block.head c.args.block.under.now
    c.args.function.now c.add_body.new.function c.args.notes.now c.note_head.new.notes c.lines.new.notes c.new-body.result c.lines.new.self
    c.requires.place c.in_ok-note_head.ensures c.new-body.ensures c.in_ok-lines.ensures)
    c.add_body.ensures
