use Rattle.std.proofs.Common.{◌≡◌, drop}
use Rattle.std.specs.List.{list_all}
use Rattle.gi_meaning.specs.Runs.{is_among}
use Rattle.gi_verify.proofs.blocks.are_listed.Given as goal

-- it is so of those passed
abbrev pub invariant-loop-b : goal.invariant-loop-b
invariant-loop-b l = list_all (λ b. is_among b l.list) l.blocks ≡ list_all (λ b. is_among b l.list) (drop l.b-index l.blocks)
