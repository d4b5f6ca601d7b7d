-- The id stands at the rank, or nowhere.
use Rattle.std.proofs.Common.{◌∙◌, sym, ap, List}
use Rattle.gi_mir.specs.declared.block.InstrId.{InstrId}
use Rattle.gi_mir.specs.Mentions.{precedes, has_at}
use Rattle.gi_mir.proofs.Ranks.{remove-rank, without-rank}
use Rattle.gi_mir.proofs.mentions.take_out.Goals as goal

pub rank-at-requires : goal.rank-at-requires
rank-at-requires c = rw c.as_slice.ensures.value c.requires.sorted

pub returns-then-has_at : goal.returns-then-has_at
returns-then-has_at c =
    c.remove.ensures.items
    ∙ remove-rank (precedes c.args.places.now c.args.spot) c.args.id c.args.ids.now.items c.rank-at.result c.requires
    (rw c.as_slice.ensures.value at c.rank-at.ensures.point)
    (sym (ap (λ (ids : List InstrId). has_at ids c.rank-at.result c.args.id) c.as_slice-2.ensures.value) ∙ sym c.has_at.ensures ∙ c.if-has_at.true)

pub returns-else-has_at : goal.returns-else-has_at
returns-else-has_at c =
    without-rank (precedes c.args.places.now c.args.spot) c.args.id c.args.ids.now.items c.rank-at.result c.requires
    (rw c.as_slice.ensures.value at c.rank-at.ensures.point)
    (sym (ap (λ (ids : List InstrId). has_at ids c.rank-at.result c.args.id) c.as_slice-2.ensures.value) ∙ sym c.has_at.ensures ∙ c.if-has_at.false)
