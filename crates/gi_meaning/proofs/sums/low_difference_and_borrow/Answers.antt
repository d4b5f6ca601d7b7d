use Rattle.std.proofs.Common.{arith, sym, ◌+◌, ◌≡◌, ◌^◌}
use Rattle.gi_meaning.proofs.Numbers.{difference_whole, power_le}
use Rattle.gi_meaning.proofs.sums.low_difference_and_borrow.Goals as goal

pub returns-in-None : goal.returns-in-None
returns-in-None c =
    let whole : c.args.b + c.args.borrow ≡ 2 ^ c.args.n = omega (arith, power_le c.args.n c.requires.limit, c.in-None.ensures) in
    sym (difference_whole c.args.n c.args.a (c.args.b + c.args.borrow) c.requires.a_fits whole)
