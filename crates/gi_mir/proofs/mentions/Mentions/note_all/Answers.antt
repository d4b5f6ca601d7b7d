use Rattle.gi_mir.specs.Mentions.{precedes}
use Rattle.gi_mir.proofs.Located.{get_or-within}
use Rattle.gi_mir.proofs.Noted.{IsNoted-step, IsSorted-noted, HasSameLists-undone}
use Rattle.gi_mir.proofs.Ranks.{AreInRank-noted}
use Rattle.gi_mir.proofs.mentions.Mentions.note_all.Goals as goal

pub note_operand-requires : goal.note_operand-requires
note_operand-requires c = IsSorted-noted c.args.places.now c.args.spot c.args.self.now c.loop-x.self _ c.args.id c.requires.own c.requires.sorted c.loop-x.invariant

pub forget_all-requires : goal.forget_all-requires
forget_all-requires c = AreInRank-noted c.args.places.now c.args.spot c.args.id c.args.self.now c.loop-x.self c.note_operand.new.self _ c.requires.own c.requires.sorted c.requires.fresh c.loop-x.invariant c.in-Err.ensures.err

pub returns-in-Err-clause-err : goal.returns-in-Err-clause-err
returns-in-Err-clause-err c = HasSameLists-undone (precedes c.args.places.now c.args.spot) c.args.self.now c.loop-x.self c.note_operand.new.self c.forget_all.new.self c.args.operands.now c.loop-x.x-index c.args.id c.requires.fresh c.loop-x.invariant c.in-Err.ensures.err c.forget_all.ensures

pub loop-x-preserved : goal.loop-x-preserved
loop-x-preserved c = IsNoted-step (precedes c.args.places.now c.args.spot) c.args.self.now c.loop-x.self c.note_operand.new.self c.args.operands.now c.loop-x.x-index _ c.args.id c.requires.own c.loop-x-test.true (get_or-within c.args.operands.now c.loop-x.x-index _ _ c.loop-x-test.true) c.loop-x.invariant c.in-Ok.ensures.ok
