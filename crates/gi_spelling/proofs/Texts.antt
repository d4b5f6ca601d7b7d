-- The lines of a text.
use Rattle.std.proofs.Common.{◌≡◌, ℕ, true, List, [], ◌∷◌, ◌++◌, refl, ap, ◌∙◌}
use Rattle.std.specs.Prelude.{◌==◌}
use Rattle.std.specs.List.{list_all}
use Rattle.std.proofs.lemmas.Bool.{and_parts, not-true}
use Rattle.gi_llt.proofs.Apart.{is_no_feed}
use Rattle.gi_spelling.specs.Printed.{text_of}
use Rattle.gi_spelling.specs.Lines.{onto_first, lines_of}
use Rattle.gi_spelling.proofs.BlockLines.{EachLine}
use Rattle.gi_spelling.proofs.Documents.{Layout}

-- the lines of a text
lines_of-line : (line rest : List ℕ) → list_all is_no_feed line ≡ true → lines_of (line ++ (10 ∷ rest)) ≡ line ∷ lines_of rest
lines_of-line [] rest none = refl
lines_of-line (byte ∷ line) rest none =
    let parts = and_parts (is_no_feed byte) (list_all is_no_feed line) none in
    rw (not-true (byte == 10) parts.0) (ap (onto_first byte) (lines_of-line line rest parts.1))

pub lines_of-text_of : (lines : List (List ℕ)) → EachLine (λ line. list_all is_no_feed line ≡ true) lines → lines_of (text_of lines) ≡ lines
lines_of-text_of [] each = refl
lines_of-text_of (line ∷ lines) each = lines_of-line line (text_of lines) each.0 ∙ ap (λ more. line ∷ more) (lines_of-text_of lines each.1)

-- the layout of printed text
abbrev pub printed_layout : Layout
printed_layout = record { name = 12; legal = 7; banked = 1; chosen = 8; body = 13; tracks = true; closed = true }
