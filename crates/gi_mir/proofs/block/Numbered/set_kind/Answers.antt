use Rattle.std.proofs.Common.{◌∙◌}
use Rattle.gi_mir.proofs.FormedLemmas.{is_formed-with_kind}
use Rattle.gi_mir.proofs.block.Numbered.set_kind.Goals as goal

pub invariant_of-self : goal.invariant_of-self
invariant_of-self c =
    rw c.set_kind.ensures (is_formed-with_kind c.self.inside.instr c.args.place c.args.kind ∙ c.self.invariant)
