use Rattle.gi_mir.proofs.Noted.{IsForgotten-one}
use Rattle.gi_mir.proofs.mentions.Mentions.forget_operand.Goals as goal

pub forget-requires : goal.forget-requires
forget-requires c = c.requires.ranks c.in-Some.key

pub returns-in-Some : goal.returns-in-Some
returns-in-Some c = IsForgotten-one c.args.self.now c.forget.new.self c.args.operand c.args.id c.in-Some.key c.in-Some.ensures c.forget.ensures
