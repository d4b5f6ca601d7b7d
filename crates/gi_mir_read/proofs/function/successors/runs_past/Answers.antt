use Rattle.std.proofs.Common.{◌∙◌, arith}
use Rattle.gi_mir_read.proofs.Functions.NamedBlocks.{past-last}
use Rattle.gi_mir_read.proofs.function.successors.runs_past.Goals as goal

pub returns-in-len1-up : goal.returns-in-len1-up
returns-in-len1-up c = c.goes_on.ensures ∙ past-last c.args.instrs.now c.last-item.result (omega arith) c.last-item.is
