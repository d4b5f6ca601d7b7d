use Rattle.std.proofs.Common.{length}
use Rattle.gi_rule_values.proofs.selecting_rows.+chain_place.Given as goal

abbrev pub decreases-chain_place : goal.decreases-chain_place
decreases-chain_place l = length l.steps.now
