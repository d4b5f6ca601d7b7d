use Rattle.std.proofs.Common.{◌≡◌, [], arith, fold, sym, ap, ◌∙◌}
use Rattle.std.proofs.Math.ListN.{drop_of_length-le}
use Rattle.gi_registers.specs.Noted.{kind_noted, with_block}
use Rattle.gi_registers.proofs.Defining.{blocks_noted}
use Rattle.gi_registers.proofs.kinds.RegisterKinds.of.Goals as goal

pub returns : goal.returns
returns c =
    let blocks = c.args.function.now.blocks in
    let all : c.loop-block.kinds ≡ fold with_block [] blocks =
    ap (fold with_block c.loop-block.kinds) (sym (drop_of_length-le blocks (omega arith))) ∙ c.loop-block.invariant in
    λ reg. ap (λ kinds. kind_noted kinds reg) all ∙ blocks_noted [] blocks reg
