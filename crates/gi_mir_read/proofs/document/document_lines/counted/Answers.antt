use Rattle.std.proofs.Common.{◌≡◌, ◌++◌, sym, ap, subst, ◌∙◌}
use Rattle.std.specs.Prelude.{All}
use Rattle.gi_spelling.specs.Lines.{is_dropped}
use Rattle.gi_mir_read.specs.Texts.Placed.{IsLineIn}
use Rattle.gi_mir_read.proofs.Documents.CountLemmas.{counted_one, dropped_one}
use Rattle.gi_mir_read.proofs.document.document_lines.counted.Goals as goal
use Rattle.gi_mir_read.proofs.document.document_lines.counted.Goals.{then-not-is_dropped+in_ok-push, else-not-is_dropped}

pub loop-line-preserved : goal.loop-line-preserved
loop-line-preserved c =
    elim c.if-not-is_dropped.branch [
      | then-not-is_dropped+in_ok-push w ↦
          (let items : c.if-not-is_dropped.counted.items ≡ c.loop-line.counted.items ++ _ = ap (λ v. v.items) w.counted-is ∙ w.in_ok-push.ensures in
          let one = counted_one c.args.text.now c.loop-line.counted.items c.args.lines.now c.loop-line.line-index _ _ c.loop-line-test.true
          (sym (w.if-not-is_dropped.ensures ∙ ap is_dropped c.bytes.ensures)) c.loop-line.invariant.lines c.loop-line.invariant.within c.requires in
          record { lines = rw items one.lines; within = subst (All (IsLineIn c.args.text.now)) (sym items) one.within })
      | else-not-is_dropped w ↦
          (let items : c.if-not-is_dropped.counted.items ≡ c.loop-line.counted.items = ap (λ v. v.items) w.counted-is in
          let one = dropped_one c.args.text.now c.loop-line.counted.items c.args.lines.now c.loop-line.line-index _ _ c.loop-line-test.true
          (sym (w.if-not-is_dropped.ensures ∙ ap is_dropped c.bytes.ensures)) c.loop-line.invariant.lines in
          record { lines = rw items one; within = subst (All (IsLineIn c.args.text.now)) (sym items) c.loop-line.invariant.within })
    ]
