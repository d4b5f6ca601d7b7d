use Rattle.std.proofs.Common.{◌≡◌, ◌+◌, ap, ◌∙◌, arith}
use Rattle.gi_verify.specs.Met.{is_met_with}
use Rattle.gi_verify.proofs.Fewer.{none_met, some_unmet}
use Rattle.gi_verify.proofs.registers.last_met.Goals as goal

pub loop-met-init : goal.loop-met-init
loop-met-init c = (
  some_unmet c.args.x c.args.typing.now c.args.results c.args.types.now c.args.count c.requires.free c.requires.unmet,
  omega arith,
  none_met c.args.x c.args.typing.now c.args.results c.args.types.now c.requires.free,
  c.requires.unmet,
)

pub returns-clause-last : goal.returns-clause-last
returns-clause-last c =
    let next : c.loop-met.met + 1 ≡ c.loop-met.unmet = omega arith in
    record {
      met = c.loop-met.invariant.2;
      unmet = ap (is_met_with c.args.x c.args.typing.now c.args.results c.args.types.now) next ∙ c.loop-met.invariant.3;
    }
