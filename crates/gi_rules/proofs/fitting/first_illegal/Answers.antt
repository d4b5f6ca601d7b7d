use Rattle.std.proofs.Common.{take, ◌+◌, rules, sym, subst}
use Rattle.gi_mir.specs.Edit.{empty_block}
use Rattle.gi_rules.specs.Fitting.{IsTold, illegal_in_blocks}
use Rattle.gi_rules.proofs.IllegalLines.{one_block_more}
use Rattle.gi_rules.proofs.fitting.first_illegal.Goals as goal

pub loop-block-preserved : goal.loop-block-preserved
loop-block-preserved c =
    subst (λ told. IsTold (illegal_in_blocks c.args.target.xlen c.args.stage c.args.function.now (take (c.loop-block.block + 1) c.args.function.now.blocks)) told) (sym c.of_lower_line-told.ensures)
    (one_block_more c.args.target.xlen c.args.stage c.args.function.now c.args.function.now.blocks c.loop-block.block empty_block c.loop-block.told c.first_in_block.result
    (search rules) c.first_in_block.ensures c.loop-block.invariant)
