-- The list is parted at the rank.
use Rattle.std.proofs.Common.{◌∙◌, sym, ap, List}
use Rattle.std.proofs.lemmas.Result.{on_ok_weaker}
use Rattle.gi_mir.specs.declared.block.InstrId.{InstrId}
use Rattle.gi_mir.specs.Mentions.{precedes, has_at}
use Rattle.gi_mir.proofs.Lists.{noted-there, noted-new}
use Rattle.gi_mir.proofs.mentions.put.Goals as goal

pub returns-then-has_at-clause-ok : goal.returns-then-has_at-clause-ok
returns-then-has_at-clause-ok c =
    noted-there (precedes c.args.places.now c.args.spot) c.args.id c.args.ids.now.items c.rank-at.result
    (rw c.as_slice.ensures.value at c.rank-at.ensures.point)
    (sym (ap (λ (ids : List InstrId). has_at ids c.rank-at.result c.args.id) c.as_slice-2.ensures.value) ∙ sym c.has_at.ensures ∙ c.if-has_at.true)

pub returns-else-has_at-clause-ok : goal.returns-else-has_at-clause-ok
returns-else-has_at-clause-ok c =
    let new = noted-new (precedes c.args.places.now c.args.spot) c.args.id c.args.ids.now.items c.rank-at.result
    (rw c.as_slice.ensures.value at c.rank-at.ensures.bound)
    (rw c.as_slice.ensures.value at c.rank-at.ensures.point)
    (sym (ap (λ (ids : List InstrId). has_at ids c.rank-at.result c.args.id) c.as_slice-2.ensures.value) ∙ sym c.has_at.ensures ∙ c.if-has_at.false) in
    on_ok_weaker c.insert.result (λ done. done ∙ new) c.insert.ensures.ok
