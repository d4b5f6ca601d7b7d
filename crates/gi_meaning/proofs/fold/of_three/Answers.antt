use Rattle.std.proofs.Common.{ℕ, get_or, arith, ◌^◌, ◌<◌, subst, sym}
use Rattle.gi_meaning.proofs.Few.{three_alike_values}
use Rattle.gi_meaning.proofs.fold.of_three.Goals as goal

pub funnelled-requires-clause-b_fits : goal.funnelled-requires-clause-b_fits
funnelled-requires-clause-b_fits c =
    subst (λ (k : ℕ). get_or c.args.values.now 1 0 < 2 ^ k) (sym c.width.ensures) (three_alike_values c.args.target.xlen c.args.outcome c.args.types.now c.args.values.now c.requires.xlen c.requires.accepted c.requires.fit).b_fits

pub returns-in_default-2 : goal.returns-in_default-2
returns-in_default-2 c = absurd (omega (arith, (three_alike_values c.args.target.xlen c.args.outcome c.args.types.now c.args.values.now c.requires.xlen c.requires.accepted c.requires.fit).three))

pub funnelled-requires-clause-a_fits : goal.funnelled-requires-clause-a_fits
funnelled-requires-clause-a_fits c =
    subst (λ (k : ℕ). get_or c.args.values.now 0 0 < 2 ^ k) (sym c.width.ensures) (three_alike_values c.args.target.xlen c.args.outcome c.args.types.now c.args.values.now c.requires.xlen c.requires.accepted c.requires.fit).a_fits
