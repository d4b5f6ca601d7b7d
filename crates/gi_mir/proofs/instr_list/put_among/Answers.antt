-- The id comes into a chunk, or behind all.
use Rattle.std.proofs.Common.{rules, ◌≡◌, ◌∙◌, ◌∷◌, ◌++◌, ◌+◌, ◌-◌, ◌<◌, ◌≤◌, [], ℕ, suc, List, Vec, length, take, drop, get_or, set, ap, sym, subst, arith}
use Rattle.std.specs.Prelude.{insert}
use Rattle.std.proofs.lemmas.Result.{err_from_is_err_and}
use Rattle.std.specs.declared.alloc.Global.{Global}
use Rattle.std.specs.List.Sorted.{IsPartitionedBy}
use Rattle.gi_mir.specs.declared.block.InstrId.{InstrId}
use Rattle.gi_mir.specs.InstrLists.{all_ids, chunk_ids, filled_ids, AreFilled, IsCut}
use Rattle.gi_mir.specs.Mentions.{precedes, noted, without, IsInRank}
use Rattle.gi_mir.proofs.Chunks.{chunk-sorted, filled-at, filled-set, ids-same, noted-chunk, noted-end, noted-some}
use Rattle.gi_mir.proofs.instr_list.put_among.Goals as goal

pub put-requires : goal.put-requires
put-requires c =
    let within : c.chunk_at-at.result < length c.args.chunks.now.items = search rules in
    subst (λ (v : Vec InstrId Global). IsPartitionedBy (precedes c.args.places.now c.args.spot) v.items) (sym c.index_mut.ensures.value)
    (chunk-sorted (precedes c.args.places.now c.args.spot) c.args.chunks.now.items c.chunk_at-at.result c.index_mut.result.now within c.requires.sorted)

pub returns-in_err-put-clause-err : goal.returns-in_err-put-clause-err
returns-in_err-put-clause-err c =
    let within : c.chunk_at-at.result < length c.args.chunks.now.items = search rules in
    let p = err_from_is_err_and c.from_residual.result c.from_residual.ensures.1 in
    rw p.1 (ids-same c.args.chunks.now.items c.chunk_at-at.result c.index_mut.result.now c.put.new.ids within (c.in_err-put.ensures.err ∙ ap (λ (v : Vec InstrId Global). v.items) c.index_mut.ensures.value))

pub returns-in_err-put-clause-filled : goal.returns-in_err-put-clause-filled
returns-in_err-put-clause-filled c =
    let within : c.chunk_at-at.result < length c.args.chunks.now.items = search rules in
    let same = c.in_err-put.ensures.err ∙ ap (λ (v : Vec InstrId Global). v.items) c.index_mut.ensures.value in
    filled-set c.args.chunks.now.items c.chunk_at-at.result c.put.new.ids c.requires.filled
    (subst (λ (ids : List InstrId). 0 < length ids) (sym same) (filled-at c.args.chunks.now.items c.chunk_at-at.result c.index_mut.result.now within c.requires.filled))

pub split_long-requires-clause-filled : goal.split_long-requires-clause-filled
split_long-requires-clause-filled c =
    filled-set c.args.chunks.now.items c.chunk_at-at.result c.put.new.ids c.requires.filled
    (subst (λ (ids : List InstrId). 0 < length ids) (sym c.in_ok-put.ensures.ok) (noted-some (precedes c.args.places.now c.args.spot) c.args.id c.index_mut.result.now.items))

pub returns-in_ok-put-clause-ok : goal.returns-in_ok-put-clause-ok
returns-in_ok-put-clause-ok c =
    let within : c.chunk_at-at.result < length c.args.chunks.now.items = search rules in
    c.split_long.ensures.same
    ∙ noted-chunk (precedes c.args.places.now c.args.spot) c.args.id c.args.chunks.now.items c.chunk_at-at.result c.index_mut.result.now c.put.new.ids c.requires.filled c.requires.sorted
    (rw c.as_slice.ensures.value at c.chunk_at-at.ensures.point) within
    (c.in_ok-put.ensures.ok ∙ ap (λ (v : Vec InstrId Global). noted (precedes c.args.places.now c.args.spot) c.args.id v.items) c.index_mut.ensures.value)

pub returns-in_ok-put_last-clause-ok : goal.returns-in_ok-put_last-clause-ok
returns-in_ok-put_last-clause-ok c =
    let end : length c.args.chunks.now.items ≤ c.chunk_at-at.result = search rules in
    c.in_ok-put_last.ensures.ok
    ∙ noted-end (precedes c.args.places.now c.args.spot) c.args.id c.args.chunks.now.items c.chunk_at-at.result c.requires.sorted
    (rw c.as_slice.ensures.value at c.chunk_at-at.ensures.point) end
