use Rattle.std.proofs.Common.{◌≡◌, sym, subst, ◌∙◌}
use Rattle.std.proofs.lemmas.Result.{IfOk-weaker}
use Rattle.gi_mir.specs.Data.{FunctionData}
use Rattle.gi_answer.specs.Selecting.{emptied}
use Rattle.gi_answer.specs.Selection.{IsSelected}
use Rattle.gi_answer.proofs.SelectLoops.{its_no_block, its_one_block, selected_without_blocks}
use Rattle.gi_answer.proofs.select.select.Goals as goal

pub select_block-requires : goal.select_block-requires
select_block-requires c = its_one_block c.args.function.now c.requires (λ none. c.if-block_count-eq0.false (c.block_count.ensures.count ∙ none))

pub returns-then-block_count-eq0 : goal.returns-then-block_count-eq0
returns-then-block_count-eq0 c =
    let f : FunctionData = c.args.function.now in
    let made : IsSelected f (emptied f) = selected_without_blocks f (its_no_block f (sym c.block_count.ensures.count ∙ c.if-block_count-eq0.true)) in
    IfOk-weaker c.emptied.result (λ g. g ≡ emptied f) (IsSelected f) (λ g same. subst (IsSelected f) (sym same) made) c.emptied.ensures
