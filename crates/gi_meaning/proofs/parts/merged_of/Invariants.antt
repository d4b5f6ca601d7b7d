use Rattle.std.proofs.Common.{◌≡◌, ◌-◌, ◌*◌, ◌^◌, ◌<◌, drop, length}
use Rattle.gi_meaning.specs.Plain.{merged_of}
use Rattle.gi_meaning.proofs.parts.merged_of.Given as goal

abbrev pub invariant-loop-done : goal.invariant-loop-done
invariant-loop-done l = record {
  value : l.total ≡ merged_of l.w (drop (length l.values - l.done) l.values);
  bound : l.total < 2 ^ (l.w * l.done);
}
