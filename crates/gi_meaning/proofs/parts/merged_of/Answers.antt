use Rattle.gi_meaning.proofs.Merging.{merged_turn, Turned}
use Rattle.gi_meaning.proofs.parts.merged_of.Goals as goal

pub overflow_add-total : goal.overflow_add-total
overflow_add-total c =
    let t : Turned c.args.w c.loop-done.done c.args.values.now _ = merged_turn c.args.w c.loop-done.done c.args.values.now c.loop-done.total c.loop-done-test.true c.requires.room c.requires.fits c.loop-done.invariant.value c.loop-done.invariant.bound in
    record { fits = t.fits }

pub loop-done-preserved : goal.loop-done-preserved
loop-done-preserved c =
    let t : Turned c.args.w c.loop-done.done c.args.values.now _ = merged_turn c.args.w c.loop-done.done c.args.values.now c.loop-done.total c.loop-done-test.true c.requires.room c.requires.fits c.loop-done.invariant.value c.loop-done.invariant.bound in
    record { value = t.value; bound = t.bound }
