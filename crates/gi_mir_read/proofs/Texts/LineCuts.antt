-- The lines of a text are cut at line feeds.
use Rattle.std.proofs.Common.{◌≡◌, ℕ, suc, ◌+◌, ◌-◌, ◌<◌, Bool, true, false, cond, List, [], ◌∷◌, Some, None, length, take, drop, refl, sym, ap, ◌∙◌, subst, arith}
use Rattle.std.proofs.lemmas.List.{take_rest, drop_all, drop-drop, length-drop}
use Rattle.std.proofs.lemmas.Iterator.Adapters.{position_from-zero}
use Rattle.std.specs.Prelude.{◌==◌}
use Rattle.std.specs.List.{position_from, position}
use Rattle.gi_text.specs.Cutting.{slice}
use Rattle.gi_spelling.specs.Lines.{lines_of, onto_first}

abbrev pub is_feed : ℕ → Bool
is_feed byte = byte == 10

record IsCutAt (text : List ℕ) (from place : ℕ) : Type 0 where
  count : ℕ
  at : place ≡ from + count
  lines : lines_of text ≡ take count text ∷ lines_of (drop (suc count) text)

cut_from : (text : List ℕ) (from place : ℕ) → position_from is_feed from text ≡ Some place → IsCutAt text from place
cut_from [] from place found = cc
cut_from (byte ∷ text) from place found = chosen (is_feed byte) refl found (cut_from text (from + 1) place)
  where
    chosen : (test : Bool) → is_feed byte ≡ test → cond test (Some from) (position_from is_feed (from + 1) text) ≡ Some place
        → (position_from is_feed (from + 1) text ≡ Some place → IsCutAt text (from + 1) place) → IsCutAt (byte ∷ text) from place
    chosen true is_it found more = record { count = 0; at = (let same : from ≡ place = cc in omega arith); lines = rw is_it refl }
    chosen false is_not found more = let cut = more found in record { count = suc cut.count; at = omega (arith, cut.at); lines = rw is_not (rw cut.lines refl) }

front_line : (rest : List ℕ) (place : ℕ) → Some place ≡ position is_feed rest → lines_of rest ≡ take place rest ∷ lines_of (drop (suc place) rest)
front_line rest place found =
    let cut = cut_from rest 0 place (sym (found ∙ position_from-zero is_feed rest)) in
    let same : cut.count ≡ place = omega (arith, cut.at) in
    subst (λ n. lines_of rest ≡ take n rest ∷ lines_of (drop (suc n) rest)) same cut.lines

only_from : (byte : ℕ) (text : List ℕ) (from : ℕ) → position_from is_feed from (byte ∷ text) ≡ None → lines_of (byte ∷ text) ≡ (byte ∷ text) ∷ []
only_from byte [] from found = chosen (is_feed byte) refl found
  where
    chosen : (test : Bool) → is_feed byte ≡ test → cond test (Some from) None ≡ None → lines_of (byte ∷ []) ≡ (byte ∷ []) ∷ []
    chosen true is_it found = cc
    chosen false is_not found = rw is_not refl
only_from byte (next ∷ text) from found = chosen (is_feed byte) refl found (only_from next text (from + 1))
  where
    chosen : (test : Bool) → is_feed byte ≡ test → cond test (Some from) (position_from is_feed (from + 1) (next ∷ text)) ≡ None
        → (position_from is_feed (from + 1) (next ∷ text) ≡ None → lines_of (next ∷ text) ≡ (next ∷ text) ∷ []) → lines_of (byte ∷ next ∷ text) ≡ (byte ∷ next ∷ text) ∷ []
    chosen true is_it found more = cc
    chosen false is_not found more = let rest = more found in rw is_not (ap (onto_first byte) rest)

only_line : (rest : List ℕ) → 0 < length rest → None ≡ position is_feed rest → lines_of rest ≡ rest ∷ []
only_line [] some found = absurd (omega arith)
only_line (byte ∷ rest) some found = only_from byte rest 0 (sym (found ∙ position_from-zero is_feed (byte ∷ rest)))

-- the line from a place on, up to a line feed
pub line_to_feed : (text : List ℕ) (start place : ℕ) → Some place ≡ position is_feed (take (length text - start) (drop start text))
    → lines_of (drop start text) ≡ slice start (start + place) text ∷ lines_of (drop (start + place + 1) text)
line_to_feed text start place found =
    let size : start + place - start ≡ place = omega arith in
    let past : start + place + 1 ≡ start + suc place = omega arith in
    let at : Some place ≡ position is_feed (drop start text) = found ∙ ap (position is_feed) (take_rest text start) in
    rw (size, past, ← drop-drop (suc place) start text) (front_line (drop start text) place at)

-- the last line, where no line feed ends it
pub line_to_end : (text : List ℕ) (start : ℕ) → start < length text → None ≡ position is_feed (take (length text - start) (drop start text))
    → lines_of (drop start text) ≡ slice start (length text) text ∷ lines_of (drop (length text + 1) text)
line_to_end text start some found =
    let at : None ≡ position is_feed (drop start text) = found ∙ ap (position is_feed) (take_rest text start) in
    let none : drop (length text + 1) text ≡ [] = drop_all (length text + 1) text (omega arith) in
    let sized : length (drop start text) ≡ length text - start = length-drop start text in
    rw (take_rest text start, none) (only_line (drop start text) (omega (arith, sized)) at)
