use Rattle.std.proofs.Common.{◌∙◌}
use Rattle.std.proofs.lemmas.List.{take_rest}
use Rattle.gi_mir_print.proofs.instruction.sources.Goals as goal

pub returns : goal.returns
returns c = take_rest c.args.operands.now c.definition_count-count.result ∙ c.definition_count-count.ensures.sources
