use Rattle.std.proofs.Common.{◌≡◌, drop}
use Rattle.std.specs.List.{list_all}
use Rattle.gi_meaning.specs.Runs.{is_among}
use Rattle.gi_valid.specs.Available.{successors_of}
use Rattle.gi_verify.proofs.ends.are_successors.Given as goal

-- it is so of those passed
abbrev pub invariant-loop-c : goal.invariant-loop-c
invariant-loop-c l = list_all (λ c. is_among c (successors_of l.function l.b)) l.blocks ≡ list_all (λ c. is_among c (successors_of l.function l.b)) (drop l.c-index l.blocks)
