-- Splitting at the first separator.
use Rattle.std.proofs.Common.{◌≡◌, ℕ, suc, ◌+◌, ◌<◌, Bool, true, false, List, [], ◌∷◌, ◌++◌, Some, length, get_or, drop, take, refl, sym, ap, ◌∙◌, subst, drop-cons, add-one, append_assoc}
use Rattle.std.proofs.Math.Seq.{take-suc}
use Rattle.std.specs.Prelude.{if◌then◌else◌}
use Rattle.gi_spelling.specs.Kept.{is_comma}
use Rattle.gi_spelling.specs.declared.token.Item.{Item}
use Rattle.gi_spelling.specs.declared.token.What.TheVariants as what
use Rattle.gi_spelling.specs.Reading.{Split, onto_split, onto_first_part, begins, width_of, split_at, parts_of}
use Rattle.gi_spelling.specs.declared.written.Separator.{Separator}
use Rattle.gi_spelling.specs.declared.written.Separator.TheVariants.{Comma}
use Rattle.gi_mir_read.specs.Lines.Splits.{parts_left}

abbrev pub any_item : Item
any_item = record { what = what.Other; start = 0; end = 0 }

-- tokens before those of a split
abbrev pub onto_all : List Item → Split → Split
onto_all items split = record split { before = items ++ split.before }

pub parts-split : (items : List Item) → parts_of items ≡ (split_at Comma items).before ∷ parts_left (split_at Comma items).after
parts-split [] = refl
parts-split (item ∷ rest) = chosen (is_comma item.what) (parts-split rest)
  where
    chosen : (comma : Bool) → parts_of rest ≡ (split_at Comma rest).before ∷ parts_left (split_at Comma rest).after
        → (if comma then [] ∷ parts_of rest else onto_first_part item (parts_of rest))
        ≡ (if comma then record { before = []; after = Some rest } else onto_split item (split_at Comma rest)).before
        ∷ parts_left (if comma then record { before = []; after = Some rest } else onto_split item (split_at Comma rest)).after
    chosen true later = refl
    chosen false later = rw later refl

-- tokens that begin with no separator
split-next : (separator : Separator) (left rest : List Item) (item : Item) → left ≡ item ∷ rest → begins separator left ≡ false → split_at separator left ≡ onto_split item (split_at separator rest)
split-next separator left rest item is none =
    let none' : begins separator (item ∷ rest) ≡ false = subst (λ ys. begins separator ys ≡ false) is none in
    ap (split_at separator) is ∙ ap (λ test. if test then record { before = []; after = Some (drop (width_of separator) (item ∷ rest)) } else onto_split item (split_at separator rest)) none'

onto_all-one : (items : List Item) (item : Item) (split : Split) → onto_all (items ++ item ∷ []) split ≡ onto_all items (onto_split item split)
onto_all-one items item split = ap (λ ys. record split { before = ys }) (append_assoc items (item ∷ []) split.before)

-- a place that begins with no separator
pub split-past : (separator : Separator) (place : ℕ) (items : List Item) → place < length items → begins separator (drop place items) ≡ false
    → onto_all (take place items) (split_at separator (drop place items)) ≡ split_at separator items
    → onto_all (take (place + 1) items) (split_at separator (drop (place + 1) items)) ≡ split_at separator items
split-past separator place items within none so_far =
    let item : Item = get_or items place any_item in
    let here : split_at separator (drop place items) ≡ onto_split item (split_at separator (drop (suc place) items)) =
    split-next separator (drop place items) (drop (suc place) items) item (drop-cons items place any_item within) none in
    rw (add-one place, take-suc items place any_item within)
    (onto_all-one (take place items) item (split_at separator (drop (suc place) items)) ∙ ap (onto_all (take place items)) (sym here) ∙ so_far)

-- the next of the parts that are left
pub parts-next : (left : List (List Item)) (items : List Item) (split : Split) → left ≡ parts_of items → split ≡ split_at Comma items → left ≡ split.before ∷ parts_left split.after
parts-next left items split are is = are ∙ parts-split items ∙ ap (λ s. s.before ∷ parts_left s.after) (sym is)
