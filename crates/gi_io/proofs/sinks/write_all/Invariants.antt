use Rattle.std.proofs.Common.{◌≡◌, ◌≤◌, ◌-◌, IsTrue, ◌++◌, length, take}
use Rattle.gi_io.proofs.sinks.write_all.Given as goal

-- the bytes done were appended
abbrev pub invariant-loop-done : goal.invariant-loop-done
invariant-loop-done g l = record {
  faults_never_fall : g.O.Output.faults l.initial.out ≤ g.O.Output.faults l.out;
  tells_stays : g.O.Output.tells l.out ≡ g.O.Output.tells l.initial.out;
  tells_place_stays : g.O.Output.tells_place l.out ≡ g.O.Output.tells_place l.initial.out;
  place_stays : g.O.Output.place l.out ≡ g.O.Output.place l.initial.out;
  created_stays : g.O.Output.created l.out ≡ g.O.Output.created l.initial.out;
  within : l.done ≤ length l.bytes;
  appended : IsTrue (g.O.Output.tells l.initial.out) → g.O.Output.held l.out ≡ g.O.Output.held l.initial.out ++ take l.done l.bytes;
}

abbrev pub decreases-loop-done : goal.decreases-loop-done
decreases-loop-done g l = length l.bytes - l.done
