-- The lines of a document that count.
use Rattle.std.proofs.Common.{◌≡◌, ℕ, ◌+◌, ◌-◌, ◌<◌, true, false, cond, List, [], ◌∷◌, ◌++◌, Some, length, drop, sym, ap, ◌∙◌, arith, append_assoc, get_or, add-one}
use Rattle.std.specs.Prelude.{All, not, slice_get}
use Rattle.std.proofs.lemmas.List.Elements.{All-push, All-get_or}
use Rattle.std.proofs.lemmas.List.{drop_more, map-append}
use Rattle.gi_text.specs.Cutting.{slice}
use Rattle.gi_spelling.specs.Lines as lines
use Rattle.gi_spelling.specs.Lines.{counted_lines, is_dropped, last_number}
use Rattle.gi_mir_read.specs.declared.text.lines.Line.{Line}
use Rattle.gi_mir_read.specs.Texts.Placed.{IsLineIn, line_at, lines_at}

pub record AreCounted (text : List ℕ) (kept placed : List Line) (total : List lines.Line) : Type 0 where
  pub lines : lines_at text kept ++ counted_lines (lines_at text placed) ≡ total
  pub within : All (IsLineIn text) kept

pub counted_one : (text : List ℕ) (kept placed : List Line) (i : ℕ) (d : Line) (total : List lines.Line) → i < length placed
    → is_dropped (slice (get_or placed i d).start (get_or placed i d).end text) ≡ false
    → lines_at text kept ++ counted_lines (lines_at text (drop i placed)) ≡ total
    → All (IsLineIn text) kept → All (IsLineIn text) placed
    → AreCounted text (kept ++ get_or placed i d ∷ []) (drop (i + 1) placed) total
counted_one text kept placed i d total within is so_far inside all =
    let line = get_or placed i d in
    let more = counted_lines (lines_at text (drop (i + 1) placed)) in
    let counts : counted_lines (lines_at text (drop i placed)) ≡ line_at text line ∷ more =
    ap (λ xs. counted_lines (lines_at text xs)) (drop_more placed i d within) ∙ ap (λ dropped. cond (not dropped) (line_at text line ∷ more) more) is in
    record {
      lines = ap (λ xs. xs ++ more) (map-append (line_at text) kept (line ∷ [])) ∙ append_assoc (lines_at text kept) (line_at text line ∷ []) more
          ∙ ap (λ xs. lines_at text kept ++ xs) (sym counts) ∙ so_far;
      within = All-push (IsLineIn text) kept line inside (All-get_or (IsLineIn text) placed i d within all);
    }

pub dropped_one : (text : List ℕ) (kept placed : List Line) (i : ℕ) (d : Line) (total : List lines.Line) → i < length placed
    → is_dropped (slice (get_or placed i d).start (get_or placed i d).end text) ≡ true
    → lines_at text kept ++ counted_lines (lines_at text (drop i placed)) ≡ total
    → lines_at text kept ++ counted_lines (lines_at text (drop (i + 1) placed)) ≡ total
dropped_one text kept placed i d total within is so_far =
    let line = get_or placed i d in
    let more = counted_lines (lines_at text (drop (i + 1) placed)) in
    let counts : counted_lines (lines_at text (drop i placed)) ≡ more =
    ap (λ xs. counted_lines (lines_at text xs)) (drop_more placed i d within) ∙ ap (λ dropped. cond (not dropped) (line_at text line ∷ more) more) is in
    ap (λ xs. lines_at text kept ++ xs) (sym counts) ∙ so_far

pub last_is : (text : List ℕ) (line : Line) (placed : List Line) (last : Line) → slice_get placed (length placed - 1) ≡ Some last
    → last.number ≡ last_number (line_at text line) (lines_at text placed)
last_is text line [] last is = cc
last_is text line (next ∷ []) last is = let e : next ≡ last = cc in ap (λ (l : Line). l.number) (sym e)
last_is text line (next ∷ other ∷ more) last is =
    let shift : length (next ∷ other ∷ more) - 1 ≡ length (other ∷ more) - 1 + 1 = omega arith in
    last_is text next (other ∷ more) last (sym (ap (slice_get (next ∷ other ∷ more)) (shift ∙ add-one (length (other ∷ more) - 1))) ∙ is)
