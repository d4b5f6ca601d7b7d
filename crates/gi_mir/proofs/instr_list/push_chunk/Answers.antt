use Rattle.std.proofs.Common.{rules, ◌≡◌, ◌∙◌, ◌∷◌, ◌++◌, ◌+◌, ◌-◌, ◌<◌, ◌≤◌, [], ℕ, suc, List, Vec, length, take, drop, get_or, set, ap, sym, subst, arith}
use Rattle.std.specs.Prelude.{insert}
use Rattle.std.proofs.lemmas.Result.{err_from_is_err_and}
use Rattle.std.specs.declared.alloc.Global.{Global}
use Rattle.std.specs.List.Sorted.{IsPartitionedBy}
use Rattle.gi_mir.specs.declared.block.InstrId.{InstrId}
use Rattle.gi_mir.specs.InstrLists.{all_ids, chunk_ids, filled_ids, AreFilled, IsCut}
use Rattle.gi_mir.specs.Mentions.{precedes, noted, without, IsInRank}
use Rattle.gi_mir.proofs.Chunks.{filled-pushed, ids-pushed}
use Rattle.gi_mir.proofs.instr_list.push_chunk.Goals as goal

pub returns-clause-ok : goal.returns-clause-ok
returns-clause-ok c =
    let count : c.len.result ≡ length c.args.chunks.now.items = search rules in
    ap chunk_ids (rw count at c.in_ok-insert.ensures.ok) ∙ ids-pushed c.args.chunks.now.items c.args.ids

pub returns-clause-filled : goal.returns-clause-filled
returns-clause-filled c =
    let count : c.len.result ≡ length c.args.chunks.now.items = search rules in
    subst AreFilled (sym (rw count at c.in_ok-insert.ensures.ok)) (filled-pushed c.args.chunks.now.items c.args.ids c.requires.filled c.requires.some)
