use Rattle.gi_mir_read.proofs.Functions.NamedBlocks.{inserted}
use Rattle.gi_mir_read.proofs.function.building.insert_all.Goals as goal

pub loop-instr-preserved : goal.loop-instr-preserved
loop-instr-preserved c =
    let next = inserted c.args.place c.loop-instr.function c.insert_before.new.self c.in-Some.instr _ _ _ c.in-Some.ensures.steps.0 c.in_ok-insert_before.ensures.ok
    c.loop-instr.invariant.within c.loop-instr.invariant.formed c.loop-instr.invariant.rest in
    record { within = next.0; formed = next.1; rest = next.2 }
