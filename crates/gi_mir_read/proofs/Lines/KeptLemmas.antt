-- The tokens that count, one after the other.
use Rattle.std.proofs.Common.{◌≡◌, ℕ, zero, suc, ◌+◌, ◌<◌, ◌≤◌, Bool, true, false, List, [], ◌∷◌, ◌++◌, length, get_or, set, drop, take, arith, refl, sym, ap, ◌∙◌, subst, drop-cons, add-one, append_assoc}
use Rattle.std.specs.Prelude.{if◌then◌else◌, map}
use Rattle.std.proofs.lemmas.List.{drop-set-lt}
use Rattle.std.proofs.Math.Seq.{take-suc-set}
use Rattle.gi_spelling.specs.declared.kept.Next.{Next}
use Rattle.gi_spelling.specs.declared.kept.Next.TheVariants.{Past, PastOrigin}
use Rattle.gi_spelling.specs.declared.kept.Turn.{Turn}
use Rattle.gi_spelling.specs.declared.token.Item.{Item}
use Rattle.gi_spelling.specs.declared.token.What.TheVariants as what
use Rattle.gi_spelling.specs.Items.{what_in}
use Rattle.gi_spelling.specs.Kept.{ends_origin, turn, turn_at, kept_turn, kept_past}
use Rattle.gi_mir_read.specs.Lines.Turns.{first_turn, turn_after}

-- what counts of the tokens that are left begins with what becomes of the first
kept-first : (next : Next) (x : Item) (rest : List Item)
    → kept_past what_in next (x ∷ rest) ≡ kept_turn (turn_after next (x ∷ rest)) x (λ later. kept_past what_in later rest)
kept-first (Past zero) x rest = refl
kept-first (Past (suc count)) x rest = refl
kept-first PastOrigin x rest = chosen (ends_origin x.what)
  where
    chosen : (ends : Bool)
        → (if ends then kept_turn (turn_at x.what (map what_in rest)) x (λ later. kept_past what_in later rest) else kept_past what_in PastOrigin rest)
        ≡ kept_turn (if ends then first_turn (x ∷ rest) else turn false PastOrigin) x (λ later. kept_past what_in later rest)
    chosen true = refl
    chosen false = refl

kept-at : (next : Next) (place : ℕ) (d : Item) (items : List Item) → place < length items
    → kept_past what_in next (drop place items) ≡ kept_turn (turn_after next (drop place items)) (get_or items place d) (λ later. kept_past what_in later (drop (suc place) items))
kept-at next place d items within =
    subst (λ left. kept_past what_in next left ≡ kept_turn (turn_after next left) (get_or items place d) (λ later. kept_past what_in later (drop (suc place) items)))
    (sym (drop-cons items place d within)) (kept-first next (get_or items place d) (drop (suc place) items))

-- a token that is kept
pub kept-pushed : (found more : List Item) (next : Next) (t : Turn) (place : ℕ) (d : Item) (items whole : List Item) → place < length items
    → t ≡ turn_after next (drop place items) → t.keeps ≡ true → more ≡ found ++ get_or items place d ∷ []
    → found ++ kept_past what_in next (drop place items) ≡ whole → more ++ kept_past what_in t.next (drop (place + 1) items) ≡ whole
kept-pushed found more next t place d items whole within is keeps pushed so_far =
    let later : List Item = kept_past what_in t.next (drop (suc place) items) in
    let here : kept_past what_in next (drop place items) ≡ get_or items place d ∷ later =
    kept-at next place d items within ∙ ap (λ s. kept_turn s (get_or items place d) (λ n. kept_past what_in n (drop (suc place) items))) (sym is)
    ∙ ap (λ keeps. if keeps then get_or items place d ∷ later else later) keeps in
    rw (add-one place, pushed) (append_assoc found (get_or items place d ∷ []) later ∙ ap (λ ys. found ++ ys) (sym here) ∙ so_far)

-- a token that is passed over
pub kept-passed : (found : List Item) (next : Next) (t : Turn) (place : ℕ) (items whole : List Item) → place < length items
    → t ≡ turn_after next (drop place items) → t.keeps ≡ false
    → found ++ kept_past what_in next (drop place items) ≡ whole → found ++ kept_past what_in t.next (drop (place + 1) items) ≡ whole
kept-passed found next t place items whole within is keeps so_far =
    let d : Item = record { what = what.Other; start = 0; end = 0 } in
    let later : List Item = kept_past what_in t.next (drop (suc place) items) in
    let here : kept_past what_in next (drop place items) ≡ later =
    kept-at next place d items within ∙ ap (λ s. kept_turn s (get_or items place d) (λ n. kept_past what_in n (drop (suc place) items))) (sym is)
    ∙ ap (λ keeps. if keeps then get_or items place d ∷ later else later) keeps in
    rw (add-one place) (ap (λ ys. found ++ ys) (sym here) ∙ so_far)

-- a token that is moved to the front
pub kept-moved : (count : ℕ) (items : List Item) (next : Next) (t : Turn) (place : ℕ) (d : Item) (whole : List Item) → place < length items → count ≤ place
    → t ≡ turn_after next (drop place items) → t.keeps ≡ true → take count items ++ kept_past what_in next (drop place items) ≡ whole
    → take (count + 1) (set items count (get_or items place d)) ++ kept_past what_in t.next (drop (place + 1) (set items count (get_or items place d))) ≡ whole
kept-moved count items next t place d whole within behind is keeps so_far =
    let moved : take (count + 1) (set items count (get_or items place d)) ≡ take count items ++ get_or items place d ∷ [] =
    rw (add-one count) (take-suc-set items count (get_or items place d) (omega arith)) in
    let rest : drop (place + 1) (set items count (get_or items place d)) ≡ drop (place + 1) items = drop-set-lt (place + 1) items count (get_or items place d) (omega arith) in
    rw rest (kept-pushed (take count items) (take (count + 1) (set items count (get_or items place d))) next t place d items whole within is keeps moved so_far)
