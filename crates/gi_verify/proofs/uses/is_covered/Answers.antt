use Rattle.std.proofs.Common.{◌≡◌, true, subst}
use Rattle.gi_mir.specs.Instrs.{left}
use Rattle.gi_verify.specs.Sets.{marked}
use Rattle.gi_verify.proofs.Covering.{covered_use}
use Rattle.gi_verify.proofs.uses.is_covered.Goals as goal

pub returns : goal.returns
returns c = λ h.
    covered_use c.args.function.now c.args.order.now.cover c.requires.order.covered c.args.b (left c.args.front) c.args.numbered.now c.requires.placed c.requires.other c.args.r c.requires.used (c.covers.ensures.known h)
    (subst (λ n. marked c.args.order.now.cover.fine n ≡ true) c.id_of.ensures (c.covers.ensures.fine h))
