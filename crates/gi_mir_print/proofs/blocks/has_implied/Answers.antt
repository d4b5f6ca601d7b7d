use Rattle.gi_mir.specs.Instrs.{left}
use Rattle.std.proofs.Common.{◌||◌, sym, ap₂, ◌∙◌}
use Rattle.gi_mir_print.proofs.LineLemmas.{implied_some}
use Rattle.gi_mir_print.proofs.blocks.has_implied.Goals as goal

pub returns : goal.returns
returns c =
    c.either.ensures ∙ ap₂ (λ a b. a || b) c.goes_past.ensures c.any_branch.ensures
    ∙ sym (implied_some c.args.place c.args.count (left c.args.instrs))
