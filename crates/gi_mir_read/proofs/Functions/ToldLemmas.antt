-- The lines that say something, in order.
use Rattle.std.proofs.Common.{◌≡◌, ℕ, ◌+◌, ◌<◌, Bool, true, false, List, [], ◌∷◌, ◌++◌, Option, Some, None, map, length, take, get_or, refl, ap, ◌∙◌}
use Rattle.std.proofs.lemmas.List.{take_more, map-append}
use Rattle.std.specs.Prelude.{All, filter, filter_map, not, if◌then◌else◌}
use Rattle.std.proofs.lemmas.List.Elements.{filter_map-append, All-nil, All-cons, All-head, All-tail}
use Rattle.std.specs.List.{cons_option}
use Rattle.gi_spelling.specs.Blocks.{head_in, is_debug_kept, is_told}
use Rattle.gi_spelling.specs.Items.{kept_items}
use Rattle.gi_mir_read.specs.declared.text.lines.Line.{Line}
use Rattle.gi_mir_read.specs.declared.function.told.Told.{Told}
use Rattle.gi_mir_read.specs.Texts.Placed.{IsLineIn, line_at, lines_at}
use Rattle.gi_mir_read.specs.Functions.Blocked.{IsToldIn, told_lines_at, told_of}

module _ (text : List ℕ) where
  pub told-lines : (lines : List Line) → told_lines_at text (filter_map (told_of text) lines) ≡ filter (is_told text) (lines_at text lines)
  told-lines [] = refl
  told-lines (line ∷ lines) = chosen (is_debug_kept (kept_items text (line_at text line))) (told-lines lines)
    where
      told : Told
      told = record { line = line; head = head_in (kept_items text (line_at text line)) }

      chosen : (says_nothing : Bool) → told_lines_at text (filter_map (told_of text) lines) ≡ filter (is_told text) (lines_at text lines)
          → told_lines_at text (cons_option (if says_nothing then None else Some told) (filter_map (told_of text) lines))
          ≡ (if not says_nothing then line_at text line ∷ filter (is_told text) (lines_at text lines) else filter (is_told text) (lines_at text lines))
      chosen true more = more
      chosen false more = ap (λ found. line_at text line ∷ found) more

  pub told-within : (lines : List Line) → All (IsLineIn text) lines → All (IsToldIn text) (filter_map (told_of text) lines)
  told-within [] all = All-nil (IsToldIn text)
  told-within (line ∷ lines) all = chosen (is_debug_kept (kept_items text (line_at text line))) (told-within lines (All-tail (IsLineIn text) line lines all))
    where
      told : Told
      told = record { line = line; head = head_in (kept_items text (line_at text line)) }

      chosen : (says_nothing : Bool) → All (IsToldIn text) (filter_map (told_of text) lines)
          → All (IsToldIn text) (cons_option (if says_nothing then None else Some told) (filter_map (told_of text) lines))
      chosen true more = more
      chosen false more = All-cons (IsToldIn text) told (filter_map (told_of text) lines) (record { within = All-head (IsLineIn text) line lines all; head = refl }) more

-- one more
pub filter_map-push : {X Y : Type 0} (h : X → Option Y) (xs : List X) (place : ℕ) (d : X) (so_far more : List Y) (found : Option Y) → place < length xs
    → so_far ≡ filter_map h (take place xs) → found ≡ h (get_or xs place d) → more ≡ so_far ++ cons_option found [] → more ≡ filter_map h (take (place + 1) xs)
filter_map-push h xs place d so_far more found within so is pushed =
    let next : filter_map h (take (place + 1) xs) ≡ filter_map h (take place xs) ++ cons_option (h (get_or xs place d)) [] =
    ap (filter_map h) (take_more xs place d within) ∙ filter_map-append h (take place xs) (get_or xs place d ∷ []) in
    cc

pub map-push : {X Y : Type 0} (f : X → Y) (xs : List X) (place : ℕ) (d : X) (so_far more : List Y) (y : Y) → place < length xs
    → so_far ≡ map f (take place xs) → y ≡ f (get_or xs place d) → more ≡ so_far ++ y ∷ [] → more ≡ map f (take (place + 1) xs)
map-push f xs place d so_far more y within so is pushed =
    let next : map f (take (place + 1) xs) ≡ map f (take place xs) ++ f (get_or xs place d) ∷ [] =
    ap (map f) (take_more xs place d within) ∙ map-append f (take place xs) (get_or xs place d ∷ []) in
    cc
