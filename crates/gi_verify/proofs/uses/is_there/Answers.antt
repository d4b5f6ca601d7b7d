use Rattle.std.proofs.Common.{refl, ap, ◌∙◌}
use Rattle.std.proofs.lemmas.Bool.{eq-eqb}
use Rattle.gi_mir.specs.Edit.{is_use_of}
use Rattle.gi_verify.proofs.uses.is_there.Goals as goal

pub is_use_there-requires-clause-used : goal.is_use_there-requires-clause-used
is_use_there-requires-clause-used c = c.requires.used c.in-Use.r.0 (ap (is_use_of c.in-Use.r.0) c.in-Use.is ∙ eq-eqb c.in-Use.r.0 c.in-Use.r.0 refl)
