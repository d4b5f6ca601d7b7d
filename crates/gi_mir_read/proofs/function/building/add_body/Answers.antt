use Rattle.std.proofs.Common.{ap, ◌∙◌}
use Rattle.std.proofs.lemmas.Result.{on_ok_weaker}
use Rattle.gi_mir_read.specs.Functions.Bodies.{BodyData}
use Rattle.gi_mir_read.specs.Functions.Implied.{head_by}
use Rattle.gi_mir_read.proofs.Functions.NamedBlocks.{body-added}
use Rattle.gi_mir_read.proofs.function.building.add_body.Goals as goal

pub returns : goal.returns
returns c =
    let body : BodyData = record { lists = c.body.inside.lists; instrs = c.body.inside.instrs.items; begun = c.body.inside.begun } in
    on_ok_weaker c.insert_all.result
    (body-added c.args.tables.now.blocks c.block_count-place.result body c.args.body c.in_ok-head.head c.args.function.now c.add_block.new.self c.insert_all.new.function
    c.block_count-place.ensures.count c.body.view_is (c.in_ok-head.ensures ∙ ap (head_by c.args.tables.now.blocks c.block_count-place.result c.body.inside.lists) c.as_slice.ensures.value) c.in_ok-add_block.ensures.ok)
    c.insert_all.ensures
