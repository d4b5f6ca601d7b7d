use Rattle.std.proofs.Common.{◌≡◌, ap, ◌∙◌, ◌++◌, take, w16, w64, FitsSigned, to_z, of_z, rules}
use Rattle.std.proofs.lemmas.Int.{to_z-of_z}
use Rattle.gi_riscv.specs.Materialised.{low_part, high_part, lower, unless_zero}
use Rattle.gi_riscv.proofs.Rounds.{upper_joined}
use Rattle.gi_riscv.proofs.constants.append_upper_and_lower.Goals as goal

pub returns-clause-steps : goal.returns-clause-steps
returns-clause-steps c =
    let number = c.args.number in
    let low = c.low_part-low.result in
    let low_fits : FitsSigned w16 low = search rules in
    let same : to_z w64 (of_z w64 number) ≡ number = to_z-of_z w64 number c.ranges.number in
    let same_low : to_z w16 (of_z w16 low) ≡ low = to_z-of_z w16 low low_fits in
    let s1 = take c.push.new.self.count c.push.new.self.steps in
    upper_joined
    _ _ _ c.args.target.xlen c.high_part.result number low c.lower.result
    (c.high_part.ensures ∙ ap high_part same)
    (c.low_part-low.ensures ∙ ap low_part same)
    (c.lower.ensures ∙ ap (lower c.args.target.xlen) same_low)
    c.push.ensures.steps
    (c.append_low.ensures.steps ∙ ap (λ l. s1 ++ unless_zero l c.lower.result) same_low)
