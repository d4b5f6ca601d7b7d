use Rattle.std.proofs.Common.{◌≡◌, ◌<◌, ◌≤◌, ◌+◌, ◌-◌, ◌*◌, ◌^◌, ap, sym, ◌∙◌, ◌++◌, take, nat_abs, true, false, w16, w64, FitsSigned, to_z, of_z, rules, arith}
use Rattle.std.specs.Int.{int_shr}
use Rattle.std.specs.Int.Signed.{nat_abs-le}
use Rattle.std.proofs.lemmas.Int.{to_z-of_z}
use Rattle.gi_llt.specs.Bits.{signed}
use Rattle.gi_meaning.specs.Machine.{is_immediate}
use Rattle.gi_riscv.specs.Materialised.{low_part, fits_32, without_low, zeros_of, next_of, unless_zero, upper_and_lower}
use Rattle.gi_riscv.specs.declared.constants.Step.TheVariants.{Addi}
use Rattle.gi_riscv.proofs.Rounds.{steps_of_32, round_joined, rounds_left, round_within, passed_next}
use Rattle.gi_riscv.proofs.constants.+append.Goals as goal

pub returns-then-fits_32-clause-steps : goal.returns-then-fits_32-clause-steps
returns-then-fits_32-clause-steps t c =
    let number = c.args.number in
    let same : to_z w64 (of_z w64 number) ≡ number = to_z-of_z w64 number c.ranges.number in
    let other : is_immediate number ≡ false = sym (c.is_immediate.ensures ∙ ap is_immediate same) ∙ c.if-is_immediate.false in
    let fits : fits_32 number ≡ true = sym (c.fits_32.ensures ∙ ap fits_32 same) ∙ c.if-fits_32.true in
    let s = take c.args.sequence.now.count c.args.sequence.now.steps in
    c.append_upper_and_lower.ensures.steps ∙ (ap (λ v. s ++ upper_and_lower c.args.target.xlen v) same
    ∙ ap (λ l. s ++ l) (sym (steps_of_32 c.args.rounds c.args.target.xlen number other fits)))

pub append-requires : goal.append-requires
append-requires t c =
    let number = c.args.number in
    let rest = c.without_low.result in
    let rest_fits : FitsSigned w64 rest = search rules in
    let same : to_z w64 (of_z w64 number) ≡ number = to_z-of_z w64 number c.ranges.number in
    let wide : fits_32 number ≡ false = sym (c.fits_32.ensures ∙ ap fits_32 same) ∙ c.if-fits_32.false in
    let next : to_z w64 (of_z w64 (int_shr (to_z w64 (of_z w64 rest)) c.zeros_of-zeros.result)) ≡ next_of number =
    passed_next rest c.zeros_of-zeros.result number rest_fits (c.without_low.ensures ∙ ap (λ v. signed 64 (without_low v)) same) (c.zeros_of-zeros.ensures ∙ ap zeros_of same) in
    let few : c.args.rounds ≤ 3 = omega (arith, c.requires.room) in
    let within : nat_abs (next_of number) ≤ 2 ^ (30 + 11 * (c.args.rounds - 1)) =
    round_within c.args.rounds number few c.requires.enough (nat_abs-le number c.ranges.number.sfits) wide in
    let left : 0 < c.args.rounds = rounds_left c.args.rounds number c.requires.enough wide in
    (omega (arith, c.decreases, left), (omega (arith, c.requires.room, left), omega (arith, within, ap nat_abs next)))

pub returns-clause-steps : goal.returns-clause-steps
returns-clause-steps t c =
    let number = c.args.number in
    let low = c.low_part-low.result in
    let low_fits : FitsSigned w16 low = search rules in
    let same : to_z w64 (of_z w64 number) ≡ number = to_z-of_z w64 number c.ranges.number in
    let same_low : to_z w16 (of_z w16 low) ≡ low = to_z-of_z w16 low low_fits in
    let rest = c.without_low.result in
    let rest_fits : FitsSigned w64 rest = search rules in
    let next = int_shr (to_z w64 (of_z w64 rest)) c.zeros_of-zeros.result in
    let other : is_immediate number ≡ false = sym (c.is_immediate.ensures ∙ ap is_immediate same) ∙ c.if-is_immediate.false in
    let wide : fits_32 number ≡ false = sym (c.fits_32.ensures ∙ ap fits_32 same) ∙ c.if-fits_32.false in
    let is_next : to_z w64 (of_z w64 next) ≡ next_of number =
    passed_next rest c.zeros_of-zeros.result number rest_fits (c.without_low.ensures ∙ ap (λ v. signed 64 (without_low v)) same) (c.zeros_of-zeros.ensures ∙ ap zeros_of same) in
    let s2 = take c.push-2.new.self.count c.push-2.new.self.steps in
    round_joined _ _ _ _ c.args.rounds c.args.target.xlen c.zeros_of-zeros.result number low (to_z w64 (of_z w64 next))
    (rounds_left c.args.rounds number c.requires.enough wide) other wide
    (c.zeros_of-zeros.ensures ∙ ap zeros_of same)
    (c.low_part-low.ensures ∙ ap low_part same)
    is_next
    c.append.ensures.steps
    c.push-2.ensures.steps
    (c.append_low.ensures.steps ∙ ap (λ l. s2 ++ unless_zero l (Addi l)) same_low)

pub returns-clause-count : goal.returns-clause-count
returns-clause-count t c =
    let number = c.args.number in
    let same : to_z w64 (of_z w64 number) ≡ number = to_z-of_z w64 number c.ranges.number in
    let wide : fits_32 number ≡ false = sym (c.fits_32.ensures ∙ ap fits_32 same) ∙ c.if-fits_32.false in
    let left : 0 < c.args.rounds = rounds_left c.args.rounds number c.requires.enough wide in
    omega (arith, left, c.append.ensures.count, c.push-2.ensures.count, c.append_low.ensures.count)
