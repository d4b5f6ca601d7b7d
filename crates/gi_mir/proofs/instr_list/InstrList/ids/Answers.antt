-- No chunk is without ids.
use Rattle.std.proofs.Common.{rules, ◌≡◌, ◌∙◌, ◌∷◌, ◌++◌, ◌+◌, ◌-◌, ◌<◌, ◌≤◌, [], ℕ, suc, List, Vec, length, take, drop, get_or, set, ap, sym, subst, arith}
use Rattle.std.specs.Prelude.{insert}
use Rattle.std.proofs.lemmas.Result.{err_from_is_err_and}
use Rattle.std.specs.declared.alloc.Global.{Global}
use Rattle.std.specs.List.Sorted.{IsPartitionedBy}
use Rattle.gi_mir.specs.declared.block.InstrId.{InstrId}
use Rattle.gi_mir.specs.InstrLists.{all_ids, chunk_ids, filled_ids, AreFilled, IsCut}
use Rattle.gi_mir.specs.Mentions.{precedes, noted, without, IsInRank}
use Rattle.gi_mir.proofs.Chunks.{filled-ids}
use Rattle.gi_mir.proofs.instr_list.InstrList.ids.Goals as goal

pub returns-in-Many : goal.returns-in-Many
returns-in-Many c =
    let filled = subst IsCut c.in-Many.is c.self.invariant in
    c.new-in-Many.ensures ∙ ap filled_ids c.as_slice-in-Many.ensures.value ∙ filled-ids c.in-Many.chunks.items filled
    ∙ sym (ap all_ids c.in-Many.is) ∙ c.self.view_is
