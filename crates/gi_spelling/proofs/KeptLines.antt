-- Tokens of which none is passed over.
use Rattle.std.proofs.Common.{◌≡◌, ℕ, Bool, true, false, List, [], ◌∷◌, Some, map, refl, ap, ◌∙◌}
use Rattle.std.specs.Prelude.{◌&&◌, not, option_map}
use Rattle.std.proofs.lemmas.Bool.{and_parts, not-true, and_right}
use Rattle.gi_spelling.specs.declared.kept.Next.TheVariants.{Past}
use Rattle.gi_spelling.specs.declared.token.Word.TheVariants as word
use Rattle.gi_spelling.specs.declared.token.What.{What}
use Rattle.gi_spelling.specs.declared.token.What.TheVariants as what
use Rattle.gi_spelling.specs.declared.token.Item.{Item}
use Rattle.gi_spelling.specs.Kept.{is_comma, is_note, is_probable, turn, turn_alone, turn_of_two, turn_of_three, turn_at, kept_turn, kept_past, kept}
use Rattle.gi_spelling.specs.Items.{item_of, what_in, kept_items}
use Rattle.gi_spelling.specs.Lines.{Line}
use Rattle.gi_spelling.proofs.PlacedLines.{IsLine, Reads, read_line}

-- a token that is passed over nowhere
abbrev pub is_loud : What → Bool
is_loud (what.Word word.Passed) = false
is_loud (what.Word word.Origin) = false
is_loud (what.Word word.DebugLocation) = false
is_loud (what.Word word.Counted) = false
is_loud (what.Metadata numbered) = false
is_loud w = true

abbrev pub is_block : What → Bool
is_block (what.Block number) = true
is_block w = false

abbrev pub is_open : What → Bool
is_open what.Open = true
is_open w = false

abbrev pub opens_next : List What → Bool
opens_next [] = false
opens_next (w ∷ ws) = is_open w

-- no token is passed over, and no block has a probability
abbrev pub are_loud : List What → Bool
are_loud [] = true
are_loud (w ∷ ws) = (is_loud w && not (is_block w && opens_next ws)) && are_loud ws

loud_alone : (w : What) → is_loud w ≡ true → turn_alone w ≡ turn true (Past 0)
loud_alone (what.Word word.Passed) loud = absurd (cc)
loud_alone (what.Word word.Origin) loud = absurd (cc)
loud_alone w loud = refl

loud_no_note : (w second : What) → is_loud w ≡ true → is_note w second ≡ false
loud_no_note (what.Word word.DebugLocation) second loud = absurd (cc)
loud_no_note (what.Word word.Counted) second loud = absurd (cc)
loud_no_note (what.Metadata numbered) second loud = absurd (cc)
loud_no_note w second loud = refl

no_probability : (first second third fourth : What) → (is_block first && is_open second) ≡ false → is_probable first second third fourth ≡ false
no_probability (what.Block number) what.Open third fourth e = absurd (cc)
no_probability (what.Block number) second third fourth e = refl
no_probability first second third fourth e = refl

two_loud : (first second : What) → is_loud first ≡ true → turn_of_two first second ≡ turn true (Past 0)
two_loud first second loud = rw (loud_no_note first second loud) (loud_alone first loud)

three_loud : (first second third : What) → is_loud first ≡ true → is_loud second ≡ true → turn_of_three first second third ≡ turn true (Past 0)
three_loud first second third loud next = rw (loud_no_note second third next, and_right (is_comma first) false refl) (two_loud first second loud)

loud_turn : (first : What) (rest : List What) → is_loud first ≡ true → (is_block first && opens_next rest) ≡ false → are_loud rest ≡ true → turn_at first rest ≡ turn true (Past 0)
loud_turn first [] loud improbable later = loud_alone first loud
loud_turn first (second ∷ []) loud improbable later = two_loud first second loud
loud_turn first (second ∷ third ∷ []) loud improbable later =
    let outer = and_parts (is_loud second && not (is_block second && is_open third)) (are_loud (third ∷ [])) later in
    let inner = and_parts (is_loud second) (not (is_block second && is_open third)) outer.0 in
    three_loud first second third loud inner.0
loud_turn first (second ∷ third ∷ fourth ∷ rest) loud improbable later =
    let outer = and_parts (is_loud second && not (is_block second && is_open third)) (are_loud (third ∷ fourth ∷ rest)) later in
    let inner = and_parts (is_loud second) (not (is_block second && is_open third)) outer.0 in
    rw (no_probability first second third fourth improbable) (three_loud first second third loud inner.0)

pub all_kept : (items : List Item) → are_loud (map what_in items) ≡ true → kept what_in items ≡ items
all_kept [] loud = refl
all_kept (item ∷ rest) loud =
    let outer = and_parts (is_loud item.what && not (is_block item.what && opens_next (map what_in rest))) (are_loud (map what_in rest)) loud in
    let inner = and_parts (is_loud item.what) (not (is_block item.what && opens_next (map what_in rest))) outer.0 in
    let turned = loud_turn item.what (map what_in rest) inner.0 (not-true (is_block item.what && opens_next (map what_in rest)) inner.1) outer.1 in
    ap (λ t. kept_turn t item (λ next. kept_past what_in next rest)) turned ∙ ap (λ more. item ∷ more) (all_kept rest outer.1)

-- the tokens that count of a line
pub record KeepsAll (text : List ℕ) (line : Line) (ws : List What) : Type 0 where
  pub items : List Item
  pub kept : kept_items text line ≡ Some items
  pub same : map what_in items ≡ ws

pub keeps_all : (text : List ℕ) (line : Line) (bytes : List ℕ) (ws : List What) → IsLine text line bytes → Reads bytes ws → are_loud ws ≡ true → KeepsAll text line ws
keeps_all text line bytes ws is reads loud =
    let read = read_line text line bytes ws is reads in
    let items = map (item_of text) read.tokens in
    record {
      items = items;
      kept = ap (option_map (kept what_in)) read.items ∙ ap Some (all_kept items (ap are_loud read.same ∙ loud));
      same = read.same;
    }
