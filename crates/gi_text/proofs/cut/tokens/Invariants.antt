use Rattle.std.proofs.Common.{◌≡◌, ◌+◌, ◌≤◌, length}
use Rattle.gi_text.specs.Cutting.{behind, cut_line, cut_of}
use Rattle.gi_text.proofs.cut.tokens.Given as goal

-- the tokens so far, before those of the bytes that are left
abbrev pub invariant-loop-rest : goal.invariant-loop-rest
invariant-loop-rest l = record {
  ordered : l.fn.start ≤ l.place;
  within : l.place + length l.rest ≡ l.fn.end;
  cut : behind l.tokens.items (cut_line l.place l.rest) ≡ cut_of l.fn.bytes l.fn.start l.fn.end;
}

abbrev pub decreases-loop-rest : goal.decreases-loop-rest
decreases-loop-rest l = length l.rest
