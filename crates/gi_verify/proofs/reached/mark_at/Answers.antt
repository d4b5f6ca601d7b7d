use Rattle.gi_verify.proofs.Marking.{marked_on}
use Rattle.gi_verify.proofs.reached.mark_at.Goals as goal

pub returns-then-a-block_count : goal.returns-then-a-block_count
returns-then-a-block_count c =
    marked_on c.args.function.now c.args.a c.args.marks.now.items c.mark_behind.new.marks.items c.mark_behind.result c.mark_behind.ensures.marked c.mark_behind.ensures.unmarked
