use Rattle.std.proofs.Common.{◌≡◌, ◌+◌, length, drop}
use Rattle.gi_llt.specs.Tokens.{is_digit, run_of}
use Rattle.gi_text.proofs.bytes.digit_length.Given as goal

-- the run so far, and what is left of it
abbrev pub invariant-loop-count : goal.invariant-loop-count
invariant-loop-count l = l.count + length (run_of is_digit (drop l.count l.bytes)) ≡ length (run_of is_digit l.bytes)
