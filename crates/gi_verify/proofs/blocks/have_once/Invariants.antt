use Rattle.std.proofs.Common.{◌≡◌, ◌==◌, drop}
use Rattle.std.specs.List.{list_all}
use Rattle.gi_valid.specs.Faults.{count_of}
use Rattle.gi_verify.proofs.blocks.have_once.Given as goal

-- it is so of those passed
abbrev pub invariant-loop-b : goal.invariant-loop-b
invariant-loop-b l = list_all (λ b. count_of b l.list == 1) l.blocks ≡ list_all (λ b. count_of b l.list == 1) (drop l.b-index l.blocks)
