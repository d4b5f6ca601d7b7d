use Rattle.std.proofs.Common.{◌+◌, ℕ, List, take, subst, sym, add-one}
use Rattle.std.specs.List.{AllZip}
use Rattle.gi_mir.specs.Data.{FunctionData}
use Rattle.gi_answer.specs.Selection.{IsSelected}
use Rattle.gi_answer.proofs.SelectLoops.{selectable_at, functions_more}
use Rattle.gi_answer.proofs.select.select_all.Goals as goal

pub select-requires : goal.select-requires
select-requires c = selectable_at c.args.functions.now c.loop-function.function-index c.function-item.result c.requires c.loop-function-test.true c.function-item.is

pub loop-function-preserved : goal.loop-function-preserved
loop-function-preserved c =
    let fs : List FunctionData = c.args.functions.now in
    let k : ℕ = c.loop-function.function-index in
    subst (λ gs. AllZip IsSelected (take (k + 1) fs) gs) (sym c.in_ok-append_function.ensures)
    (rw add-one (functions_more fs c.loop-function.selected.items k c.function-item.result c.in_ok-select.field-0 c.loop-function.invariant c.loop-function-test.true c.function-item.is c.in_ok-select.ensures))
