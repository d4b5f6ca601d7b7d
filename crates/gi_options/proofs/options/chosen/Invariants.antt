use Rattle.std.proofs.Common.{◌≡◌, length, map, string_bytes}
use Rattle.gi_options.specs.Options.{no_choice, chosen}
use Rattle.gi_options.proofs.options.chosen.Given as goal

-- the words so far have set this, and the others set the rest
abbrev pub invariant-loop-rest : goal.invariant-loop-rest
invariant-loop-rest l = chosen no_choice (map string_bytes l.fn.words) ≡ chosen l.choice (map string_bytes l.rest)

abbrev pub decreases-loop-rest : goal.decreases-loop-rest
decreases-loop-rest l = length l.rest
