-- The id goes out of a chunk, or is in none.
use Rattle.std.proofs.Common.{rules, ◌≡◌, ◌∙◌, ◌∷◌, ◌++◌, ◌+◌, ◌-◌, ◌<◌, ◌≤◌, [], ℕ, suc, List, Vec, length, take, drop, get_or, set, ap, sym, subst, arith}
use Rattle.std.specs.Prelude.{insert}
use Rattle.std.proofs.lemmas.Result.{err_from_is_err_and}
use Rattle.std.specs.declared.alloc.Global.{Global}
use Rattle.std.specs.List.Sorted.{IsPartitionedBy}
use Rattle.gi_mir.specs.declared.block.InstrId.{InstrId}
use Rattle.gi_mir.specs.InstrLists.{all_ids, chunk_ids, filled_ids, AreFilled, IsCut}
use Rattle.gi_mir.specs.Mentions.{precedes, noted, without, IsInRank}
use Rattle.gi_mir.proofs.Chunks.{chunk-ranked, filled_but-set, without-chunk, without-end}
use Rattle.gi_mir.proofs.instr_list.take_out_among.Goals as goal

pub take_out-requires : goal.take_out-requires
take_out-requires c =
    let within : c.chunk_at-at.result < length c.args.chunks.now.items = search rules in
    subst (λ (v : Vec InstrId Global). IsInRank (precedes c.args.places.now c.args.spot) c.args.id v.items) (sym c.index_mut.ensures.value)
    (chunk-ranked (precedes c.args.places.now c.args.spot) c.args.id c.args.chunks.now.items c.chunk_at-at.result c.index_mut.result.now within c.requires.ranked)

pub returns-then-at-len-clause-ids : goal.returns-then-at-len-clause-ids
returns-then-at-len-clause-ids c =
    let within : c.chunk_at-at.result < length c.args.chunks.now.items = search rules in
    c.drop_empty.ensures.same
    ∙ without-chunk (precedes c.args.places.now c.args.spot) c.args.id c.args.chunks.now.items c.chunk_at-at.result c.index_mut.result.now c.take_out.new.ids c.requires.filled c.requires.ranked
    (rw c.as_slice.ensures.value at c.chunk_at-at.ensures.point) within
    (c.take_out.ensures ∙ ap (λ (v : Vec InstrId Global). without c.args.id v.items) c.index_mut.ensures.value)

pub returns-then-at-len-clause-filled : goal.returns-then-at-len-clause-filled
returns-then-at-len-clause-filled c =
    c.drop_empty.ensures.filled (filled_but-set c.args.chunks.now.items c.chunk_at-at.result c.take_out.new.ids c.requires.filled)

pub returns-else-at-len-clause-ids : goal.returns-else-at-len-clause-ids
returns-else-at-len-clause-ids c =
    let end : length c.args.chunks.now.items ≤ c.chunk_at-at.result = search rules in
    without-end (precedes c.args.places.now c.args.spot) c.args.id c.args.chunks.now.items c.chunk_at-at.result c.requires.ranked
    (rw c.as_slice.ensures.value at c.chunk_at-at.ensures.point) end
