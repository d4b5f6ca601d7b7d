use Rattle.std.proofs.Common.{◌≡◌, ◌≤◌, ◌+◌, ◌-◌, IsTrue, ◌++◌, vec_len}
use Rattle.gi_io.proofs.sources.read_all.Given as goal

-- what was read is a prefix of the bytes that were left
abbrev pub invariant-loop-buffer : goal.invariant-loop-buffer
invariant-loop-buffer g l = record {
  faults_never_fall : g.I.Input.faults l.initial.input ≤ g.I.Input.faults l.input;
  tells_stays : g.I.Input.tells l.input ≡ g.I.Input.tells l.initial.input;
  stored_stays : g.I.Input.stored l.input ≡ g.I.Input.stored l.initial.input;
  within : vec_len l.all ≤ l.limit + 1;
  read : IsTrue (g.I.Input.tells l.initial.input) → g.I.Input.left l.initial.input ≡ l.all.items ++ g.I.Input.left l.input;
}

abbrev pub decreases-loop-buffer : goal.decreases-loop-buffer
decreases-loop-buffer g l = l.limit + 1 - vec_len l.all
