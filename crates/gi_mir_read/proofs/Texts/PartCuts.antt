-- A text is cut into an IR block and documents.
use Rattle.std.proofs.Common.{◌≡◌, ℕ, ◌-◌, ◌<◌, ◌≤◌, Bool, true, false, List, [], ◌∷◌, None, length, take, drop, refl, sym, ◌∙◌, arith, get_or}
use Rattle.std.proofs.lemmas.List.{take_rest}
use Rattle.gi_llt.specs.Tokens.{past_run}
use Rattle.gi_text.specs.Cutting.{slice}
use Rattle.gi_spelling.specs.Lines as lines
use Rattle.gi_spelling.specs.Lines.{is_block_start, is_dropped, parts_from}
use Rattle.gi_mir_read.specs.declared.text.lines.Line.{Line}
use Rattle.gi_mir_read.specs.declared.text.sections.Mark.TheVariants.{Counted}
use Rattle.gi_mir_read.specs.Texts.Parted.{block_parts, parts_in, split_parts}
use Rattle.gi_mir_read.specs.Texts.Placed.{lines_at}
use Rattle.gi_mir_read.specs.Texts.Sectioned.{is_unmarked}
use Rattle.gi_mir_read.proofs.RunCuts.{past_run-same, not_not}

abbrev is_line_dropped : lines.Line → Bool
is_line_dropped line = is_dropped line.bytes

counted : (text : List ℕ) (placed counted : List Line) → lines_at text counted ≡ past_run (is_unmarked Counted) (lines_at text placed)
    → past_run is_line_dropped (lines_at text placed) ≡ lines_at text counted
counted text placed cs is = past_run-same is_line_dropped (is_unmarked Counted) (λ line. not_not (is_dropped line.bytes)) (lines_at text placed) ∙ sym is

pub with_block : (text : List ℕ) (placed cs : List Line) (d : Line) → 1 ≤ length cs → lines_at text cs ≡ past_run (is_unmarked Counted) (lines_at text placed)
    → is_block_start (slice (get_or cs 0 d).start (get_or cs 0 d).end text) ≡ true → block_parts text (take (length cs - 1) (drop 1 cs)) ≡ parts_in text placed
with_block text placed [] d some is begins = absurd (omega arith)
with_block text placed (first ∷ more) d some is begins =
    rw (take_rest (first ∷ more) 1, counted text placed (first ∷ more) is, begins) refl

pub with_no_block : (text : List ℕ) (placed cs : List Line) (d : Line) → 1 ≤ length cs → lines_at text cs ≡ past_run (is_unmarked Counted) (lines_at text placed)
    → is_block_start (slice (get_or cs 0 d).start (get_or cs 0 d).end text) ≡ false → split_parts text None placed ≡ parts_in text placed
with_no_block text placed [] d some is begins = absurd (omega arith)
with_no_block text placed (first ∷ more) d some is begins = rw (counted text placed (first ∷ more) is, begins) refl

pub with_none : (text : List ℕ) (placed cs : List Line) → length cs < 1 → lines_at text cs ≡ past_run (is_unmarked Counted) (lines_at text placed) → split_parts text None placed ≡ parts_in text placed
with_none text placed [] none is = rw (counted text placed [] is) refl
with_none text placed (first ∷ more) none is = absurd (omega arith)
