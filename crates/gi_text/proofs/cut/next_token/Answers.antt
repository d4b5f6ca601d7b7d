use Rattle.std.proofs.Common.{◌≡◌, ◌-◌, length, sym, ap, ◌∙◌, arith, length-drop}
use Rattle.gi_text.specs.Steps.{step_at}
use Rattle.gi_text.proofs.NextLemmas.{past_blank}
use Rattle.gi_text.proofs.cut.next_token.Goals as goal

pub loop-start-preserved : goal.loop-start-preserved
loop-start-preserved c =
    let left : length c.after.result.now ≡ length c.args.bytes.now - c.loop-start.start = ap length c.after.ensures ∙ length-drop c.loop-start.start c.args.bytes.now in
    record {
      within = omega (arith, left, c.in-Blank.ensures.within, c.loop-start.invariant.within);
      cut = past_blank c.args.bytes.now c.loop-start.start (c.in-Blank.ensures.step ∙ ap step_at c.after.ensures) ∙ c.loop-start.invariant.cut;
    }
