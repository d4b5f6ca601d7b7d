use Rattle.std.proofs.Common.{rules}
use Rattle.std.proofs.lemmas.List.Sorted.{IsPartitionPoint-from_clause}
use Rattle.gi_mir.specs.Mentions.{precedes}
use Rattle.gi_mir.proofs.mentions.rank.Goals as goal

pub returns-else-is_last_before-clause-point : goal.returns-else-is_last_before-clause-point
returns-else-is_last_before-clause-point c =
    IsPartitionPoint-from_clause (precedes c.args.places.now c.args.spot) c.args.ids.now c.partition_point.result c.partition_point.ensures.partitioned c.requires (λ a r f' t. search rules)
