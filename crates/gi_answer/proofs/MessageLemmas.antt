-- What is said, from its pieces.
use Rattle.std.proofs.Common.{◌≡◌, ℕ, List, ◌++◌, ap, ◌∙◌}
use Rattle.std.specs.Prelude.{codes, decimal}
use Rattle.std.proofs.lemmas.List.{append_assoc}
use Rattle.gi_answer.specs.Messages.{at_line}

pub unknown_line : (line : ℕ) (name message : List ℕ) → message ≡ (codes "gisel: line " ++ (decimal line ++ codes ": unknown ")) ++ name → message ≡ at_line line (codes "unknown " ++ name)
unknown_line line name message same = same ∙ ap (λ (t : List ℕ). codes "gisel: line " ++ t) (append_assoc (decimal line) (codes ": unknown ") name)
