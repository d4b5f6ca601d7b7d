use Rattle.std.proofs.Common.{◌<◌, ◌≤◌, length, arith}
use Rattle.gi_valid.specs.Typing.{phase_of}
use Rattle.gi_verify.proofs.Told.{no_block_told, one_block_told, all_blocks_told}
use Rattle.gi_verify.proofs.site.tell_sites.Goals as goal

pub loop-b-init : goal.loop-b-init
loop-b-init c = no_block_told c.args.target.xlen (phase_of c.args.stage) c.args.function.now c.args.told

pub loop-b-preserved : goal.loop-b-preserved
loop-b-preserved c =
    let within : c.loop-b.b < length c.args.function.now.blocks = omega arith in
    one_block_told c.args.target.xlen (phase_of c.args.stage) c.args.function.now c.loop-b.b within c.args.told c.loop-b.lowest c.in_ok-lowest.lowest c.loop-b.invariant c.in_ok-lowest.ensures

pub returns : goal.returns
returns c =
    let past : length c.args.function.now.blocks ≤ c.loop-b.b = omega arith in
    all_blocks_told c.args.target.xlen (phase_of c.args.stage) c.args.function.now c.loop-b.b past c.args.told c.loop-b.lowest c.loop-b.invariant
