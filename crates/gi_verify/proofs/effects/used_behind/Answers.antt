use Rattle.std.proofs.Common.{◌<◌, length, arith}
use Rattle.gi_mir.specs.Edit.{block_at}
use Rattle.gi_verify.proofs.Masking.{used_on}
use Rattle.gi_verify.proofs.effects.used_behind.Goals as goal

pub loop-done-preserved : goal.loop-done-preserved
loop-done-preserved c =
    let within : c.loop-done.done < length c.args.effects.now = omega arith in
    used_on (block_at c.args.function.now c.args.b).instrs c.args.effects.now c.requires.effects c.loop-done.done within _ c.loop-done.used.items c.push_mask.new.masks.items c.loop-done.behind c.used_from-behind.result c.loop-done.invariant
    c.in_ok-push_mask.ensures c.used_from-behind.ensures
