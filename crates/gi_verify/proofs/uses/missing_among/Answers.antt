use Rattle.gi_mir.specs.Instrs.{left}
use Rattle.gi_verify.proofs.Missing.{none_yet, one_more_there, one_missing, all_there}
use Rattle.gi_verify.proofs.uses.missing_among.Goals as goal

pub loop-k-init : goal.loop-k-init
loop-k-init c = none_yet c.args.function.now c.args.b (left c.args.front) c.args.operands.now

pub returns-then-not-branch : goal.returns-then-not-branch
returns-then-not-branch c =
    one_missing c.args.function.now c.args.b (left c.args.front) c.args.operands.now c.loop-k.k _ c.loop-k-test.true c.loop-k.invariant c.in_ok-is_there.field-0 c.in_ok-is_there.ensures c.if-not-branch.true

pub loop-k-preserved : goal.loop-k-preserved
loop-k-preserved c =
    one_more_there c.args.function.now c.args.b (left c.args.front) c.args.operands.now c.loop-k.k _ c.loop-k-test.true c.loop-k.invariant c.in_ok-is_there.field-0 c.in_ok-is_there.ensures c.if-not-branch.false

pub returns : goal.returns
returns c = all_there c.args.function.now c.args.b (left c.args.front) c.args.operands.now c.loop-k.k c.loop-k-test.false c.loop-k.invariant
