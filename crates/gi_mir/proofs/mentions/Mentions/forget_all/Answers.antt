use Rattle.gi_mir.proofs.Located.{get_or-within}
use Rattle.gi_mir.proofs.Noted.{IsForgotten-step}
use Rattle.gi_mir.proofs.Ranks.{AreInRank-forgotten}
use Rattle.gi_mir.proofs.mentions.Mentions.forget_all.Goals as goal

pub forget_operand-requires : goal.forget_operand-requires
forget_operand-requires c = AreInRank-forgotten c.args.places.now c.args.spot c.args.id c.args.self.now c.loop-x.self _ c.requires c.loop-x.invariant

pub loop-x-preserved : goal.loop-x-preserved
loop-x-preserved c = IsForgotten-step c.args.self.now c.loop-x.self c.forget_operand.new.self c.args.operands.now c.loop-x.x-index _ c.args.id c.loop-x-test.true (get_or-within c.args.operands.now c.loop-x.x-index _ _ c.loop-x-test.true) c.loop-x.invariant c.forget_operand.ensures
