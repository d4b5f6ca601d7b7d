use Rattle.std.proofs.Common.{◌≡◌, ◌++◌, OnOk, sym, subst, ap, ◌∙◌, List, ℕ}
use Rattle.std.specs.Fmt.{signed_decimal}
use Rattle.gi_llt.specs.Bits.{signed}
use Rattle.gi_mir_print.proofs.PieceLemmas.{signed_none, signed_wide}
use Rattle.gi_mir_print.proofs.pieces.push_value.Goals as goal

pub returns-then-bits-eq0 : goal.returns-then-bits-eq0
returns-then-bits-eq0 c =
    subst (λ (bs : List ℕ). OnOk c.push_wide.result (c.push_wide.new.out.items ≡ c.args.out.now.items ++ bs))
    (sym (ap (λ bits. signed_decimal (signed bits c.args.value)) c.if-bits-eq0.true ∙ signed_none c.args.value)) c.push_wide.ensures

pub returns-then-bits-gt128 : goal.returns-then-bits-gt128
returns-then-bits-gt128 c =
    subst (λ z. OnOk c.push_wide-then-bits-gt128.result (c.push_wide-then-bits-gt128.new.out.items ≡ c.args.out.now.items ++ signed_decimal z))
    (sym (signed_wide c.args.bits c.args.value c.if-bits-gt128.true c.ranges.value.fits)) c.push_wide-then-bits-gt128.ensures
