use Rattle.std.proofs.Common.{◌≡◌, ◌∷◌, Some, ap, ◌∙◌, sym, drop}
use Rattle.std.specs.Prelude.{slice_get}
use Rattle.std.specs.Option.{option_copied}
use Rattle.gi_mir_read.specs.Lines.Splits.{parts_left}
use Rattle.gi_mir_read.proofs.Lines.SplitLemmas.{parts-next}
use Rattle.gi_mir_read.proofs.line.split.Parts.next.Goals as goal

pub returns-clause-next : goal.returns-clause-next
returns-clause-next c =
    let next : c.args.self.now ≡ c.split_at-split.result.before ∷ parts_left c.split_at-split.result.after =
    parts-next c.args.self.now c.in_ok-items.items.now c.split_at-split.result
    (sym c.self.view_is ∙ ap (λ left. parts_left (option_copied left)) c.in_ok-items.was) c.split_at-split.ensures in
    ap (λ split. Some split.before) c.split.view_is ∙ sym (ap (λ parts. slice_get parts 0) next)

pub returns-clause-left : goal.returns-clause-left
returns-clause-left c =
    let next : c.args.self.now ≡ c.split_at-split.result.before ∷ parts_left c.split_at-split.result.after =
    parts-next c.args.self.now c.in_ok-items.items.now c.split_at-split.result
    (sym c.self.view_is ∙ ap (λ left. parts_left (option_copied left)) c.in_ok-items.was) c.split_at-split.ensures in
    ap (λ split. parts_left split.after) c.split.view_is ∙ sym (ap (drop 1) next)
