-- A test of all places is the same from either end.
use Rattle.std.proofs.Common.{◌≡◌, Bool, true, false, ◌&&◌, List, [], ◌∷◌, reverse, refl, ap, ◌∙◌}
use Rattle.std.specs.List.{list_all}
use Rattle.std.proofs.lemmas.List.{reverse-append}
use Rattle.std.proofs.lemmas.List.Folds.{list_all-append}
use Rattle.gi_ir_spelling.specs.declared.place.Slot.{Slot}
use Rattle.gi_ir_spelling.specs.Grammar.{is_free}

swapped : (one another : Bool) → (one && (another && true)) ≡ (another && one)
swapped true true = refl
swapped true false = refl
swapped false true = refl
swapped false false = refl

pub all_reversed : (slots : List Slot) → list_all is_free (reverse slots) ≡ list_all is_free slots
all_reversed [] = refl
all_reversed (slot ∷ slots) =
    ap (list_all is_free) (reverse-append (slot ∷ []) slots)
    ∙ list_all-append is_free (reverse slots) (slot ∷ [])
    ∙ swapped (list_all is_free (reverse slots)) (is_free slot)
    ∙ ap (λ rest. is_free slot && rest) (all_reversed slots)
