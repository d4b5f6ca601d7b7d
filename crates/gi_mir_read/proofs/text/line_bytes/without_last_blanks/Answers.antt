use Rattle.std.proofs.Common.{sym, ◌∙◌, arith, ap, take, ◌≡◌}
use Rattle.gi_spelling.specs.Lines.{without_last_blanks}
use Rattle.gi_mir_read.proofs.Texts.LineTests.{less_blank, no_more_blanks}
use Rattle.gi_mir_read.proofs.text.line_bytes.without_last_blanks.Goals as goal
use Rattle.gi_mir_read.proofs.text.line_bytes.without_last_blanks.Goals.{then-loop-end-test+else-is_blank, else-loop-end-test}

pub loop-end-preserved : goal.loop-end-preserved
loop-end-preserved c = record {
  within = omega (arith, c.loop-end.invariant.within);
  same = less_blank c.args.bytes.now c.loop-end.end (omega arith) c.loop-end.invariant.within (sym c.if-is_blank.ensures) ∙ c.loop-end.invariant.same;
}

pub returns : goal.returns
returns c =
    elim c.loop-end-test.branch [
      | then-loop-end-test+else-is_blank w ↦ no_more_blanks c.args.bytes.now c.loop-end.end (omega arith) c.loop-end.invariant.within (sym w.if-is_blank.ensures) ∙ c.loop-end.invariant.same
      | else-loop-end-test w ↦ (let none : c.loop-end.end ≡ 0 = omega arith in ap (λ n. take n c.args.bytes.now) none ∙ sym (ap (λ n. without_last_blanks (take n c.args.bytes.now)) none) ∙ c.loop-end.invariant.same)
    ]
