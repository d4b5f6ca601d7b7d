use Rattle.std.proofs.Common.{◌≡◌, length, arith}
use Rattle.gi_verify.proofs.Covering.{in_block}
use Rattle.gi_verify.proofs.Gathering.{all_changes, changes_on, not_out}
use Rattle.gi_verify.proofs.rounds.changes_of.Goals as goal

pub loop-b-preserved : goal.loop-b-preserved
loop-b-preserved c =
    changes_on c.args.function.now c.args.round.now c.loop-b.changes.items c.push_change.new.changes.items c.loop-b.b c.passed_in-passed.result c.loop-b.invariant c.passed_in-passed.ensures (not_out c.passed_in-passed.result.is_computed c.if-not-passed.false) c.in_ok-push_change.ensures

pub returns : goal.returns
returns c =
    let whole : c.loop-b.b ≡ length c.args.function.now.blocks = omega arith in
    all_changes c.args.function.now c.args.round.now c.loop-b.changes.items c.loop-b.b whole c.loop-b.invariant (in_block c.args.function.now)
