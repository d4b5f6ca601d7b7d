-- What was one chunk is two.
use Rattle.std.proofs.Common.{rules, ◌≡◌, ◌∙◌, ◌∷◌, ◌++◌, ◌+◌, ◌-◌, ◌<◌, ◌≤◌, [], ℕ, suc, List, Vec, length, take, drop, get_or, set, ap, sym, subst, arith}
use Rattle.std.specs.Prelude.{insert}
use Rattle.std.proofs.lemmas.Result.{err_from_is_err_and}
use Rattle.std.specs.declared.alloc.Global.{Global}
use Rattle.std.specs.List.Sorted.{IsPartitionedBy}
use Rattle.gi_mir.specs.declared.block.InstrId.{InstrId}
use Rattle.gi_mir.specs.InstrLists.{all_ids, chunk_ids, filled_ids, AreFilled, IsCut}
use Rattle.gi_mir.specs.Mentions.{precedes, noted, without, IsInRank}
use Rattle.gi_mir.proofs.Chunks.{drop-some, filled-split, get_or-any, ids-split, parts-of, same-read, take-some}
use Rattle.gi_mir.proofs.instr_list.split_long.Goals as goal

-- the chunk was its first half and what comes behind it
halves : (c : goal.After-chunks-1) → c.index-2.result.now.items ≡ c.truncate.new.self.items ++ c.in_ok-back.back.items
halves c =
    let one : c.args.at + 1 ≡ suc c.args.at = omega arith in
    let inserted : c.insert.new.chunks.items ≡ insert c.args.chunks.now.items (suc c.args.at) c.in_ok-back.back = rw one at c.in_ok-insert.ensures.ok in
    let same = same-read c.args.chunks.now.items c.insert.new.chunks.items c.args.at c.in_ok-back.back c.index-2.result.now c.index_mut.result.now c.requires.within c.index-2.ensures c.index_mut.ensures.value inserted in
    parts-of 256 c.index-2.result.now.items c.truncate.new.self.items c.in_ok-back.back.items
    (c.truncate.ensures.items ∙ ap (λ (v : Vec InstrId Global). take 256 v.items) (sym same))
    (c.in_ok-back.ensures ∙ c.behind_half.ensures ∙ ap (λ (ids : List InstrId). drop 256 ids) c.as_slice.ensures.value)

pub returns-clause-same : goal.returns-clause-same
returns-clause-same c =
    let one : c.args.at + 1 ≡ suc c.args.at = omega arith in
    let inserted : c.insert.new.chunks.items ≡ insert c.args.chunks.now.items (suc c.args.at) c.in_ok-back.back = rw one at c.in_ok-insert.ensures.ok in
    ap (λ (chunks : List (Vec InstrId Global)). chunk_ids (set chunks c.args.at c.truncate.new.self)) inserted
    ∙ ids-split c.args.chunks.now.items c.args.at c.index-2.result.now c.truncate.new.self c.in_ok-back.back c.requires.within
    (ap (λ (v : Vec InstrId Global). v.items) (sym c.index-2.ensures) ∙ halves c)

pub returns-clause-filled : goal.returns-clause-filled
returns-clause-filled c =
    let one : c.args.at + 1 ≡ suc c.args.at = omega arith in
    let inserted : c.insert.new.chunks.items ≡ insert c.args.chunks.now.items (suc c.args.at) c.in_ok-back.back = rw one at c.in_ok-insert.ensures.ok in
    let same = same-read c.args.chunks.now.items c.insert.new.chunks.items c.args.at c.in_ok-back.back c.index-2.result.now c.index_mut.result.now c.requires.within c.index-2.ensures c.index_mut.ensures.value inserted in
    let first : 256 < length c.index.result.now.items = search rules in
    let again = c.index.ensures ∙ get_or-any c.args.chunks.now.items c.args.at c.index.result.now c.index-2.result.now c.requires.within ∙ sym c.index-2.ensures in
    let long = subst (λ (v : Vec InstrId Global). 256 < length v.items) again first in
    let front = take-some 256 c.index-2.result.now.items (omega arith) (omega (arith, long)) in
    let back = drop-some 256 c.index-2.result.now.items long in
    subst (λ (chunks : List (Vec InstrId Global)). AreFilled (set chunks c.args.at c.truncate.new.self)) (sym inserted)
    (filled-split c.args.chunks.now.items c.args.at c.truncate.new.self c.in_ok-back.back c.requires.within c.requires.filled
    (subst (λ (ids : List InstrId). 0 < length ids) (sym (c.truncate.ensures.items ∙ ap (λ (v : Vec InstrId Global). take 256 v.items) (sym same))) front)
    (subst (λ (ids : List InstrId). 0 < length ids) (sym (c.in_ok-back.ensures ∙ c.behind_half.ensures ∙ ap (λ (ids : List InstrId). drop 256 ids) c.as_slice.ensures.value)) back))
