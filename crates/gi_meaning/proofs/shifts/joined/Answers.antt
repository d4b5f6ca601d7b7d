use Rattle.std.proofs.Common.{arith, ap, ◌∙◌, ◌+◌, ◌*◌, ◌/◌, ◌%◌, ◌^◌, ◌-◌, ◌≡◌, ◌<◌}
use Rattle.std.proofs.lemmas.Nat.{shl_whole, pow_pos}
use Rattle.std.proofs.Math.Nat.{mod-lt}
use Rattle.gi_meaning.proofs.Numbers.{power_le}
use Rattle.gi_meaning.proofs.Shifting.{joined_below}
use Rattle.gi_meaning.proofs.shifts.joined.Goals as goal

pub returns : goal.returns
returns c =
    let n = c.args.n in let s = c.args.s in
    let whole : c.args.a % 2 ^ (n - s) * 2 ^ s % 2 ^ 128 ≡ c.args.a % 2 ^ (n - s) * 2 ^ s =
    shl_whole (c.args.a % 2 ^ (n - s)) (n - s) s 128 (mod-lt c.args.a (pow_pos (n - s))) (omega arith) in
    ap (λ m. m * 2 ^ s % 2 ^ 128 + c.args.b / 2 ^ (n - s)) c.wrap.ensures
    ∙ ap (λ m. m + c.args.b / 2 ^ (n - s)) whole

pub overflow_add-result : goal.overflow_add-result
overflow_add-result c =
    let n = c.args.n in let s = c.args.s in
    let below : c.args.a % 2 ^ (n - s) * 2 ^ s + c.args.b / 2 ^ (n - s) < 2 ^ n =
    joined_below n c.args.a c.args.b s c.requires.less c.requires.b_fits in
    record { fits = omega (arith, returns c, power_le n c.requires.limit) }
