-- The lines of `stack` are read one after the other.
use Rattle.std.proofs.Common.{◌≡◌, ℕ, zero, suc, ◌+◌, ◌<◌, ◌≤◌, false, List, [], ◌∷◌, ◌++◌, Some, None, length, drop, refl, sym, ap, ◌∙◌, arith, append_assoc, get_or}
use Rattle.std.specs.Prelude.{◌==◌, Option, IfSome}
use Rattle.std.specs.List.{cons_option}
use Rattle.std.proofs.lemmas.Bool.Decides.{nat_tests}
use Rattle.std.proofs.lemmas.List.{at_drop_more}
use Rattle.gi_spelling.specs.declared.written.Entry.{Entry}
use Rattle.gi_spelling.specs.declared.written.StackEntry.{StackEntry}
use Rattle.gi_spelling.specs.Documents.{behind_line, ended_by, is_last, next_by, stack_entries_from}
use Rattle.gi_mir_read.specs.declared.text.lines.Line.{Line}
use Rattle.gi_mir_read.specs.Documents.Depths.{depth_of}
use Rattle.gi_mir_read.specs.Texts.Placed.{line_at, lines_at}

cons-append : {X : Type 0} (x : Option X) (xs : List X) → cons_option x [] ++ xs ≡ cons_option x xs
cons-append None xs = refl
cons-append (Some x) xs = refl

-- where a line goes on is deeper in brackets by no more
pub deeper : (found : Option Entry) (low most : ℕ) → low ≤ most → IfSome found (λ at. depth_of at.state ≤ low) → IfSome found (λ at. depth_of at.state ≤ most)
deeper None low most less small = tt
deeper (Some at) low most less small = omega (arith, less, small)

suc-same : (k n : ℕ) → (k == n) ≡ (suc k == suc n)
suc-same k n = grind (arith, nat_tests)

zero-other : (n : ℕ) → false ≡ (0 == suc n)
zero-other n = grind (arith, nat_tests)

last-is : (text : List ℕ) (placed : List Line) (k : ℕ) → k ≤ length placed → is_last (lines_at text (drop k placed)) ≡ (k == length placed)
last-is text [] zero within = refl
last-is text [] (suc k) within = absurd (omega (arith, within))
last-is text (line ∷ placed) zero within = zero-other (length placed)
last-is text (line ∷ placed) (suc k) within = last-is text placed k (omega (arith, within)) ∙ suc-same k (length placed)

-- what is at a place of a list doesn't depend on what stands in for nothing
pub same-at : {X : Type 0} (xs : List X) (k : ℕ) (d e : X) → k < length xs → get_or xs k d ≡ get_or xs k e
same-at [] k d e within = absurd (omega (arith, within))
same-at (x ∷ xs) zero d e within = refl
same-at (x ∷ xs) (suc k) d e within = same-at xs k d e (omega (arith, within))

-- one line more
pub entries-more : (text : List ℕ) (placed : List Line) (k : ℕ) (at next : Entry) (entries more total : List StackEntry) (line : Line) (found : Option Entry) (ended : Option StackEntry)
    → k < length placed → line ≡ get_or placed k line → found ≡ behind_line text at (line_at text line) → ended ≡ ended_by line.number (k + 1 == length placed) found
    → next ≡ next_by found → more ≡ entries ++ cons_option ended []
    → entries ++ stack_entries_from text at (lines_at text (drop k placed)) ≡ total
    → more ++ stack_entries_from text next (lines_at text (drop (k + 1) placed)) ≡ total
entries-more text placed k at next entries more total line found ended within is read ends goes grown so_far =
    let left = lines_at text (drop (k + 1) placed) in
    let step : stack_entries_from text at (lines_at text (drop k placed)) ≡ cons_option ended (stack_entries_from text next left) =
    at_drop_more (λ xs. stack_entries_from text at (lines_at text xs)) placed k line within
    ∙ ap (λ y. stack_entries_from text at (lines_at text (y ∷ drop (k + 1) placed))) (sym is)
    ∙ ap (λ found. cons_option (ended_by line.number (is_last left) found) (stack_entries_from text (next_by found) left)) (sym read)
    ∙ ap (λ last. cons_option (ended_by line.number last found) (stack_entries_from text (next_by found) left)) (last-is text placed (k + 1) (omega (arith, within)))
    ∙ ap (λ ended. cons_option ended (stack_entries_from text (next_by found) left)) (sym ends)
    ∙ ap (λ next. cons_option ended (stack_entries_from text next left)) (sym goes) in
    ap (λ xs. xs ++ stack_entries_from text next left) grown ∙ append_assoc entries (cons_option ended []) (stack_entries_from text next left)
    ∙ ap (λ xs. entries ++ xs) (cons-append ended (stack_entries_from text next left) ∙ sym step) ∙ so_far
