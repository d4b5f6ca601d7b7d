use Rattle.std.proofs.Common.{◌++◌, sym, ap, ◌∙◌}
use Rattle.gi_mir.specs.Instrs.{left}
use Rattle.gi_valid.specs.Faults.{definitions}
use Rattle.gi_verify.proofs.Letters.{piece_step}
use Rattle.gi_verify.proofs.definitions.push_among.Goals as goal

pub loop-numbered-preserved : goal.loop-numbered-preserved
loop-numbered-preserved c =
    piece_step c.loop-numbered.out.items _ (definitions (left c.next.new.self)) c.push_of.new.out.items _ c.in_ok-push_of.ensures
    (ap (λ l. c.loop-numbered.out.items ++ definitions l) (sym c.in-Some.ensures.steps) ∙ c.loop-numbered.invariant)
