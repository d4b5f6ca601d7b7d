-- The tokens of a whole line.
use Rattle.std.proofs.Common.{◌≡◌, ℕ, ◌-◌, List, length, ap, arith}
use Rattle.std.proofs.lemmas.List.{take_all}
use Rattle.gi_text.specs.Cutting.{cut_line, cut_of, cut_past_place}

pub whole : (line : List ℕ) → cut_of line 0 (length line) ≡ cut_past_place line 0
whole line = ap (cut_line 0) (take_all (length line - 0) line (omega arith))
