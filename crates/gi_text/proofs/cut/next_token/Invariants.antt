use Rattle.std.proofs.Common.{◌≡◌, ◌-◌, ◌≤◌, length}
use Rattle.gi_text.specs.Cutting.{cut_past_place}
use Rattle.gi_text.proofs.cut.next_token.Given as goal

-- only blanks stand before here
abbrev pub invariant-loop-start : goal.invariant-loop-start
invariant-loop-start l = record {
  within : l.start ≤ length l.fn.bytes;
  cut : cut_past_place l.fn.bytes l.start ≡ cut_past_place l.fn.bytes l.fn.place;
}

abbrev pub decreases-loop-start : goal.decreases-loop-start
decreases-loop-start l = length l.fn.bytes - l.start
