use Rattle.std.proofs.Common.{◌≡◌, drop}
use Rattle.gi_spelling.specs.Printed.{source_forms}
use Rattle.gi_mir_read.proofs.sizes.source_forms.Given as goal

abbrev pub invariant-loop-place : goal.invariant-loop-place
invariant-loop-place l = source_forms l.forms ≡ source_forms (drop l.place l.forms)
