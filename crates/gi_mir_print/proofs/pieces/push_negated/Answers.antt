use Rattle.std.proofs.Common.{◌≡◌, ◌++◌, OnOk, pos, neg_ℤ, sym, subst, ap, ◌∙◌, List, ℕ, decimal}
use Rattle.std.specs.Fmt.{signed_decimal}
use Rattle.gi_mir_print.proofs.pieces.push_negated.Goals as goal

pub returns-then-size-eq0 : goal.returns-then-size-eq0
returns-then-size-eq0 c =
    let e : decimal c.args.size ≡ signed_decimal (neg_ℤ (pos c.args.size)) =
    ap decimal c.if-size-eq0.true ∙ sym (ap (λ n. signed_decimal (neg_ℤ (pos n))) c.if-size-eq0.true) in
    subst (λ (bs : List ℕ). OnOk c.push_wide.result (c.push_wide.new.out.items ≡ c.args.out.now.items ++ bs)) e c.push_wide.ensures
