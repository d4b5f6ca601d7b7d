use Rattle.std.proofs.Common.{◌∙◌}
use Rattle.gi_mir.proofs.Replaced.{is_formed-replaced}
use Rattle.gi_mir.proofs.block.Numbered.replace_reg.Goals as goal

pub invariant_of-self : goal.invariant_of-self
invariant_of-self c =
    rw c.replace_reg.ensures (is_formed-replaced c.args.old.0 c.args.new.0 c.self.inside.instr ∙ c.self.invariant)
