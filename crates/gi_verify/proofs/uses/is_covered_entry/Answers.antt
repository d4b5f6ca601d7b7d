use Rattle.std.proofs.Common.{refl}
use Rattle.gi_verify.proofs.uses.is_covered_entry.Goals as goal

pub returns : goal.returns
returns c = λ h. c.requires.covered.by (c.covers.ensures.fine h) c.args.r c.args.b refl (c.covers.ensures.known h) c.requires.within
