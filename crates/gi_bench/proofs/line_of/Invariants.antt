use Rattle.std.proofs.Common.{◌≡◌, vec_len}
use Rattle.gi_bench.proofs.line_of.Given as goal

abbrev pub invariant-loop-place : goal.invariant-loop-place
invariant-loop-place l = vec_len l.line ≡ l.place
