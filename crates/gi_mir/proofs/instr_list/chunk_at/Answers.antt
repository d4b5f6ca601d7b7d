-- Chunks that lie before the place come first.
use Rattle.std.proofs.Common.{rules, Vec}
use Rattle.std.proofs.lemmas.List.Sorted.{IsPartitionPoint-from_clause}
use Rattle.std.specs.declared.alloc.Global.{Global}
use Rattle.gi_mir.specs.declared.block.InstrId.{InstrId}
use Rattle.gi_mir.specs.InstrLists.{last_precedes}
use Rattle.gi_mir.specs.Mentions.{precedes}
use Rattle.gi_mir.proofs.Chunks.{chunks-sorted}
use Rattle.gi_mir.proofs.instr_list.chunk_at.Goals as goal

pub returns-clause-point : goal.returns-clause-point
returns-clause-point c =
    IsPartitionPoint-from_clause (λ (v : Vec InstrId Global). last_precedes (precedes c.args.places.now c.args.spot) v.items) c.args.chunks.now c.partition_point.result c.partition_point.ensures.partitioned
    (chunks-sorted (precedes c.args.places.now c.args.spot) c.args.chunks.now c.requires.filled c.requires.sorted) (λ a r f' t. search rules)
