-- The id comes into the last chunk.
use Rattle.std.proofs.Common.{rules, ◌≡◌, ◌∙◌, ◌∷◌, ◌++◌, ◌+◌, ◌-◌, ◌<◌, ◌≤◌, [], ℕ, suc, List, Vec, length, take, drop, get_or, set, ap, sym, subst, arith}
use Rattle.std.specs.Prelude.{insert}
use Rattle.std.proofs.lemmas.Result.{err_from_is_err_and}
use Rattle.std.specs.declared.alloc.Global.{Global}
use Rattle.std.specs.List.Sorted.{IsPartitionedBy}
use Rattle.gi_mir.specs.declared.block.InstrId.{InstrId}
use Rattle.gi_mir.specs.InstrLists.{all_ids, chunk_ids, filled_ids, AreFilled, IsCut}
use Rattle.gi_mir.specs.Mentions.{precedes, noted, without, IsInRank}
use Rattle.gi_mir.proofs.Chunks.{filled-at, filled-set, ids-last, ids-same}
use Rattle.gi_mir.proofs.instr_list.put_last.Goals as goal

pub returns-in_err-push-clause-err : goal.returns-in_err-push-clause-err
returns-in_err-push-clause-err c =
    let within : c.len-count.result - 1 < length c.args.chunks.now.items = search rules in
    let p = err_from_is_err_and c.from_residual.result c.from_residual.ensures.1 in
    rw p.1 (ids-same c.args.chunks.now.items (c.len-count.result - 1) c.index_mut.result.now c.push.new.ids within (c.in_err-push.ensures.err ∙ ap (λ (v : Vec InstrId Global). v.items) c.index_mut.ensures.value))

pub returns-in_err-push-clause-filled : goal.returns-in_err-push-clause-filled
returns-in_err-push-clause-filled c =
    let within : c.len-count.result - 1 < length c.args.chunks.now.items = search rules in
    let same = c.in_err-push.ensures.err ∙ ap (λ (v : Vec InstrId Global). v.items) c.index_mut.ensures.value in
    filled-set c.args.chunks.now.items (c.len-count.result - 1) c.push.new.ids c.requires
    (subst (λ (ids : List InstrId). 0 < length ids) (sym same) (filled-at c.args.chunks.now.items (c.len-count.result - 1) c.index_mut.result.now within c.requires))

pub returns-in_ok-push-clause-ok : goal.returns-in_ok-push-clause-ok
returns-in_ok-push-clause-ok c =
    let last : suc (c.len-count.result - 1) ≡ length c.args.chunks.now.items = search rules in
    ids-last c.args.chunks.now.items (c.len-count.result - 1) c.index_mut.result.now c.push.new.ids c.args.id last
    (c.in_ok-push.ensures.ok ∙ ap (λ (v : Vec InstrId Global). v.items ++ c.args.id ∷ []) c.index_mut.ensures.value)

pub returns-in_ok-push-clause-filled : goal.returns-in_ok-push-clause-filled
returns-in_ok-push-clause-filled c =
    let some : 0 < length c.push.new.ids.items = rw c.in_ok-push.ensures.ok (more c.index_mut.result.now.items) in
    filled-set c.args.chunks.now.items (c.len-count.result - 1) c.push.new.ids c.requires some
  where
    more : (xs : List InstrId) → 0 < length (xs ++ c.args.id ∷ [])
    more [] = omega arith
    more (x ∷ xs) = omega arith
