use Rattle.std.proofs.Common.{◌≡◌, ◌&&◌, false, rules}
use Rattle.gi_meaning.specs.Runs.{is_phi}
use Rattle.gi_verify.proofs.Changing.{other_changed, phi_changed}
use Rattle.gi_verify.proofs.change.change_with.Goals.{else-change-via-then-change+else-is_phi, else-change-via-else-change}
use Rattle.gi_verify.proofs.change.change_with.Goals as goal

pub returns-then-is_phi : goal.returns-then-is_phi
returns-then-is_phi c =
    phi_changed c.args.round.now c.args.numbered.now c.args.seen c.args.change c.with_phi.result c.requires c.if-change.true (search rules) c.with_phi.ensures.phis c.with_phi.ensures.made c.with_phi.ensures.kept

pub returns-else-change : goal.returns-else-change
returns-else-change c =
    let other : (c.args.change.phis && is_phi c.args.numbered.now.1) ≡ false = elim c.else-change.branch [ else-change-via-then-change+else-is_phi w ↦ search rules | else-change-via-else-change w ↦ search rules ] in
    other_changed c.args.round.now c.args.numbered.now c.args.seen c.args.change c.with_other.result c.requires other c.with_other.ensures.phis c.with_other.ensures.made c.with_other.ensures.kept
