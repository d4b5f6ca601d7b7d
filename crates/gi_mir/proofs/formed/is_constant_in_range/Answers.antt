use Rattle.std.proofs.Common.{◌^◌, arith, nat_lt, ◌≡◌, false}
use Rattle.std.proofs.lemmas.Bool.Decides.{nat_tests}
use Rattle.std.proofs.lemmas.Nat.{pow_pos}
use Rattle.gi_mir.proofs.FormedLemmas.{div_is_zero}
use Rattle.gi_mir.proofs.formed.is_constant_in_range.Goals as goal

pub returns-else-bits-ge128 : goal.returns-else-bits-ge128
returns-else-bits-ge128 c =
    let wide : nat_lt 128 c.args.bits ≡ false = grind (arith, nat_tests) in
    rw wide (div_is_zero c.args.value (2 ^ c.args.bits) (pow_pos c.args.bits))
