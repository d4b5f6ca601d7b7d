use Rattle.std.proofs.Common.{arith, sym, ◌+◌, ◌≡◌, ◌^◌}
use Rattle.gi_meaning.proofs.Numbers.{wrapped_whole, power_le}
use Rattle.gi_meaning.proofs.sums.low_sum_and_carry.Goals as goal

pub returns-in-None : goal.returns-in-None
returns-in-None c =
    let whole : c.args.b + c.args.carry ≡ 2 ^ c.args.n = omega (arith, power_le c.args.n c.requires.limit, c.in-None.ensures) in
    sym (wrapped_whole c.args.n c.args.a c.args.b c.args.carry c.requires.a_fits whole)
