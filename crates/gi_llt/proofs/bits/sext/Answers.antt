use Rattle.std.proofs.Common.{arith, ◌≤◌, ◌<◌, ◌^◌, ◌%◌, ◌∙◌, sym, lit<}
use Rattle.std.proofs.Math.Nat.{pow-le-pow_right, mod-lt}
use Rattle.std.proofs.lemmas.Nat.{pow_pos}
use Rattle.gi_llt.proofs.Signs.{extended_below, extended_above}
use Rattle.gi_llt.specs.Bits.{wrapped}
use Rattle.gi_llt.proofs.bits.sext.Goals as goal

pub overflow_sub-result-else-low-power : goal.overflow_sub-result-else-low-power
overflow_sub-result-else-low-power c = let up : 2 ^ c.args.from ≤ 2 ^ c.args.to = pow-le-pow_right (lit< tt) c.requires.upward in omega arith

pub returns-then-low-power : goal.returns-then-low-power
returns-then-low-power c = c.wrap-low.ensures ∙ sym (extended_below c.args.from c.args.to (wrapped c.args.from c.args.value) c.requires.upward (omega arith))

pub returns-else-low-power : goal.returns-else-low-power
returns-else-low-power c =
    let within : c.args.value % 2 ^ c.args.from < 2 ^ c.args.from = mod-lt c.args.value (pow_pos c.args.from) in
    let is_extended : _ = extended_above c.args.from c.args.to (wrapped c.args.from c.args.value) c.requires.upward (omega arith) within in
    omega (arith, is_extended)
