use Rattle.std.proofs.Common.{sym, ◌∙◌}
use Rattle.gi_verify.proofs.Unmet.{unmet_on, unmet_here}
use Rattle.gi_verify.proofs.registers.first_unmet_in_turn.Goals as goal

pub returns-then-not-branch : goal.returns-then-not-branch
returns-then-not-branch c = λ type_of are.
    sym (unmet_here c.args.x type_of c.args.typing.now c.args.results c.args.registers.now c.args.types.now are c.requires.count c.loop-k.k c.loop-k-test.true c.in_ok-is_met.field-0 c.in_ok-is_met.ensures c.if-not-branch.true)
    ∙ c.loop-k.invariant type_of are

pub loop-k-preserved : goal.loop-k-preserved
loop-k-preserved c = λ type_of are.
    sym (unmet_on c.args.x type_of c.args.typing.now c.args.results c.args.registers.now c.args.types.now are c.requires.count c.loop-k.k c.loop-k-test.true c.in_ok-is_met.field-0 c.in_ok-is_met.ensures c.if-not-branch.false)
    ∙ c.loop-k.invariant type_of are
