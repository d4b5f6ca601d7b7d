use Rattle.std.proofs.Common.{add-one, arith, ap, sym, ◌∙◌}
use Rattle.gi_mir_read.specs.Lines.Telling.{begins_telling}
use Rattle.gi_mir_read.proofs.Lines.TellingLemmas.{tells_next}
use Rattle.gi_mir_read.proofs.function.told.tells.Goals as goal

pub loop-k-preserved : goal.loop-k-preserved
loop-k-preserved c =
    rw (add-one c.loop-k.k) (tells_next c.args.bytes.now c.loop-k.k 0 (omega (arith, c.loop-k-test.true)) (ap begins_telling (sym c.from_place.ensures) ∙ sym c.begins_telling.ensures ∙ c.if-begins_telling.false) ∙ c.loop-k.invariant)
