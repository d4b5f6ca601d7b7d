use Rattle.std.proofs.Common.{sym}
use Rattle.std.proofs.lemmas.Iterator.Adapters.{position_from-zero}
use Rattle.gi_mir_read.specs.Texts.Sectioned.{is_marked_at}
use Rattle.gi_mir_read.proofs.text.sections.Mark.place.Goals as goal

pub loop-place-init : goal.loop-place-init
loop-place-init c = sym (position_from-zero (is_marked_at c.args.self c.args.text.now) c.args.lines.now)
