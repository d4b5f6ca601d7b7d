use Rattle.std.proofs.Common.{ap, ◌∙◌}
use Rattle.gi_registers.specs.Noted.{kind_or_class}
use Rattle.gi_mir_read.specs.Sizes.{instr_faults, lowest_after}
use Rattle.gi_mir_read.proofs.sizes.with_numbered.Goals as goal

pub returns-clause-lowest : goal.returns-clause-lowest
returns-clause-lowest c =
    c.with_instr-lowest.ensures ∙ ap (λ p. lowest_after c.args.lowest (instr_faults c.args.target.xlen (kind_or_class c.args.kinds.now) c.args.before p.1)) c.numbered.view_is
