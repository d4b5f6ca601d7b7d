-- The lines of stack objects as they are printed spell these objects.
use Rattle.std.proofs.Common.{◌≡◌, ℕ, suc, ◌+◌, ◌^◌, ◌<◌, ◌≤◌, true, List, [], ◌∷◌, length, Some, Ok, map, refl, sym, ap, ◌∙◌, subst, arith}
use Rattle.std.specs.Prelude.{◌==◌, not, nat_le, min, codes, decimal}
use Rattle.std.specs.List.{list_all, AllZip, cons_option}
use Rattle.std.proofs.lemmas.Bool.{and_parts}
use Rattle.std.proofs.lemmas.Bool.Decides.{nat_tests}
use Rattle.gi_llt.specs.Tokens.{Word as OfWord, Number as OfNumber, Mark as OfMark, lexeme, Piece, Spaces, token, piece_bytes, IsApart}
use Rattle.gi_llt.proofs.Apart.{decimal_number}
use Rattle.gi_mir.specs.declared.operand.StackObject.{StackObject}
use Rattle.gi_spelling.specs.declared.token.Word.TheVariants as word
use Rattle.gi_spelling.specs.declared.token.What.{What}
use Rattle.gi_spelling.specs.declared.token.What.TheVariants as what
use Rattle.gi_spelling.specs.declared.token.Item.{Item}
use Rattle.gi_spelling.specs.declared.written.Entry.{Entry}
use Rattle.gi_spelling.specs.declared.written.EntryKind.{EntryKind}
use Rattle.gi_spelling.specs.declared.written.EntryKind.TheVariants as kind
use Rattle.gi_spelling.specs.declared.written.EntryState.TheVariants as state
use Rattle.gi_spelling.specs.declared.written.Fields.{Fields}
use Rattle.gi_spelling.specs.Documents.{entry_front, continued_by, continued, behind_line, stack_entry, ended_by, next_by, is_last, stack_entries_from, stack_entries, object_by, objects_from}
use Rattle.gi_spelling.specs.Entries.{entry, no_fields, step, steps}
use Rattle.gi_spelling.specs.Items.{item_of, what_in}
use Rattle.gi_spelling.specs.Lines.{Line}
use Rattle.gi_spelling.specs.Printable.{is_writable_object}
use Rattle.gi_spelling.specs.Printed.{mark, word as word_piece, object_line, object_lines}
use Rattle.gi_spelling.specs.Reading.{Read}
use Rattle.gi_spelling.specs.Spelling.{plain_size}
use Rattle.gi_spelling.specs.Words.{what_of, is_plain_signed}
use Rattle.gi_spelling.proofs.BlockLines.{IsInner, inner_line}
use Rattle.gi_spelling.proofs.PlacedLines.{is_sized, IsLine, Reads, read_line}
use Rattle.gi_spelling.proofs.PrintedPieces.{Says, says_spaces, says_token, says_one, decimal_signed}
use Rattle.gi_spelling.proofs.PrintedTokens.{reads_pieces}
use Rattle.gi_spelling.proofs.SignedNumbers.{decimal_written, decimal_sized}
use Rattle.gi_spelling.proofs.TokenLists.{names_nothing}

-- ══ A line ══

-- the pieces of `  - { id: 0, size: 4, alignment: 4 }`
abbrev field_pieces : (name : List ℕ) (value : ℕ) (after : List Piece) → List Piece
field_pieces name value after = Spaces 1 ∷ word_piece name ∷ mark 58 ∷ Spaces 1 ∷ token OfNumber (decimal value) ∷ after

abbrev object_pieces : ℕ → StackObject → List Piece
object_pieces place object =
    mark 45 ∷ Spaces 1 ∷ mark 123
    ∷ field_pieces (codes "id") place (mark 44 ∷ field_pieces (codes "size") object.size (mark 44 ∷ field_pieces (codes "alignment") object.align (Spaces 1 ∷ mark 125 ∷ [])))

object_line-pieces : (place : ℕ) (object : StackObject) → piece_bytes (Spaces 2 ∷ object_pieces place object) ≡ object_line place object
object_line-pieces place object = refl

object_apart : (place : ℕ) (object : StackObject) → IsApart (object_pieces place object)
object_apart place object =
    (refl, refl, (refl, refl, (refl, refl, (refl, refl, (decimal_number place, refl, (refl, refl, (refl, refl, (refl, refl, (decimal_number object.size, refl, (refl, refl, (refl, refl, (refl, refl, (decimal_number object.align, refl, (refl, refl, tt))))))))))))))

pub object_inner : (place : ℕ) (object : StackObject) → IsInner (object_line place object)
object_inner place object =
    subst IsInner (object_line-pieces place object) (inner_line 1 (object_pieces place object) (lexeme OfMark (45 ∷ [])) _ (object_apart place object) refl)

-- what its tokens are
abbrev field_whats : What → (value : ℕ) (after : List What) → List What
field_whats name value after = name ∷ what.Colon ∷ what.Number (plain_size value) true ∷ after

abbrev object_whats : ℕ → StackObject → List What
object_whats place object =
    what.Minus ∷ what.OpenBrace
    ∷ field_whats (what.Word word.Id) place (what.Comma ∷ field_whats (what.Word word.Size) object.size (what.Comma ∷ field_whats (what.Word word.Alignment) object.align (what.CloseBrace ∷ [])))

says_number : (n : ℕ) (pieces : List Piece) (ws : List What) → n < 2 ^ 128 → Says pieces ws [] → Says (token OfNumber (decimal n) ∷ pieces) (what.Number (plain_size n) true ∷ ws) []
says_number n pieces ws within later =
    let is : what_of (lexeme OfNumber (decimal n)) ≡ what.Number (plain_size n) true =
    ap (λ number. what.Number number (is_plain_signed (decimal n))) (decimal_written n (omega arith)) ∙ ap (what.Number (plain_size n)) (decimal_signed n (omega arith)) in
    let sized : is_sized (lexeme OfNumber (decimal n)) ≡ true = ap not (decimal_sized n within) in
    says_token (lexeme OfNumber (decimal n)) (what.Number (plain_size n) true) pieces ws [] is sized refl later

says_field : (name : List ℕ) (w : What) (value : ℕ) (pieces : List Piece) (ws : List What) → what_of (lexeme OfWord name) ≡ w → names_nothing w ≡ true → value < 2 ^ 128 → Says pieces ws []
    → Says (field_pieces name value pieces) (field_whats w value ws) []
says_field name w value pieces ws is none within later =
    says_spaces 1 _ _ [] (says_token (lexeme OfWord name) w _ _ [] is refl none (says_token (lexeme OfMark (58 ∷ [])) what.Colon _ _ [] refl refl refl (says_spaces 1 _ _ [] (says_number value pieces ws within later))))

says_object : (place : ℕ) (object : StackObject) → place < 2 ^ 128 → object.size < 2 ^ 128 → object.align < 2 ^ 128 → Says (object_pieces place object) (object_whats place object) []
says_object place object placed sized aligned =
    says_token (lexeme OfMark (45 ∷ [])) what.Minus _ _ [] refl refl refl (says_spaces 1 _ _ []
    (says_token (lexeme OfMark (123 ∷ [])) what.OpenBrace _ _ [] refl refl refl
    (says_field (codes "id") (what.Word word.Id) place _ _ refl refl placed
    (says_token (lexeme OfMark (44 ∷ [])) what.Comma _ _ [] refl refl refl
    (says_field (codes "size") (what.Word word.Size) object.size _ _ refl refl sized
    (says_token (lexeme OfMark (44 ∷ [])) what.Comma _ _ [] refl refl refl
    (says_field (codes "alignment") (what.Word word.Alignment) object.align _ _ refl refl aligned
    (says_spaces 1 _ _ [] (says_one (lexeme OfMark (125 ∷ [])) what.CloseBrace refl refl refl)))))))))

reads_object : (place : ℕ) (object : StackObject) → place < 2 ^ 128 → object.size < 2 ^ 128 → object.align < 2 ^ 128 → Reads (object_line place object) (object_whats place object)
reads_object place object placed sized aligned =
    let says = says_object place object placed sized aligned in
    let reads : Reads (piece_bytes (Spaces 2 ∷ object_pieces place object)) (object_whats place object) =
    reads_pieces 2 (object_pieces place object) (object_whats place object) (object_apart place object) says.sized says.same in
    subst (λ bytes. Reads bytes (object_whats place object)) (object_line-pieces place object) reads

-- ══ An entry ══

read_step : (k : EntryKind) (at next : Entry) (w : What) (ws : List What) (r : Read Entry) (items : List Item) → map what_in items ≡ w ∷ ws → ((item : Item) → item.what ≡ w → step k at.state at.fields item ≡ Ok next)
    → ((rest : List Item) → map what_in rest ≡ ws → steps k next rest ≡ r) → steps k at items ≡ r
read_step k at next w ws r [] e one later = absurd (cc)
read_step k at next w ws r (item ∷ rest) e one later =
    let is : item.what ≡ w = cc in
    let more : map what_in rest ≡ ws = cc in
    rw (one item is) (later rest more)

read_done : (k : EntryKind) (at : Entry) (items : List Item) → map what_in items ≡ [] → steps k at items ≡ Ok at
read_done k at [] e = refl
read_done k at (item ∷ rest) e = absurd (cc)

abbrev with_id : ℕ → Fields
with_id place = record no_fields { id = Some place }

abbrev with_size : (place size : ℕ) → Fields
with_size place size = record (with_id place) { size = Some size }

abbrev object_fields : (place : ℕ) → StackObject → Fields
object_fields place object = record (with_size place object.size) { alignment = Some object.align }

object_steps : (place : ℕ) (object : StackObject) (items : List Item) → map what_in items ≡ object_whats place object
    → steps kind.Object (entry state.AtDash no_fields) items ≡ Ok (entry state.AtEnd (object_fields place object))
object_steps place object items e =
    let id = with_id place in
    let size = with_size place object.size in
    let all = object_fields place object in
    let done : Read Entry = Ok (entry state.AtEnd all) in
    read_step kind.Object (entry state.AtDash no_fields) (entry state.AtBrace no_fields) what.Minus _ done items e (λ item is. rw is refl) (λ items e.
    read_step kind.Object (entry state.AtBrace no_fields) (entry state.AtKey no_fields) what.OpenBrace _ done items e (λ item is. rw is refl) (λ items e.
    read_step kind.Object (entry state.AtKey no_fields) (entry (state.AtColon word.Id) no_fields) (what.Word word.Id) _ done items e (λ item is. rw is refl) (λ items e.
    read_step kind.Object (entry (state.AtColon word.Id) no_fields) (entry (state.AtValue word.Id) no_fields) what.Colon _ done items e (λ item is. rw is refl) (λ items e.
    read_step kind.Object (entry (state.AtValue word.Id) no_fields) (entry state.AtSeparator id) (what.Number (plain_size place) true) _ done items e (λ item is. rw is refl) (λ items e.
    read_step kind.Object (entry state.AtSeparator id) (entry state.AtKey id) what.Comma _ done items e (λ item is. rw is refl) (λ items e.
    read_step kind.Object (entry state.AtKey id) (entry (state.AtColon word.Size) id) (what.Word word.Size) _ done items e (λ item is. rw is refl) (λ items e.
    read_step kind.Object (entry (state.AtColon word.Size) id) (entry (state.AtValue word.Size) id) what.Colon _ done items e (λ item is. rw is refl) (λ items e.
    read_step kind.Object (entry (state.AtValue word.Size) id) (entry state.AtSeparator size) (what.Number (plain_size object.size) true) _ done items e (λ item is. rw is refl) (λ items e.
    read_step kind.Object (entry state.AtSeparator size) (entry state.AtKey size) what.Comma _ done items e (λ item is. rw is refl) (λ items e.
    read_step kind.Object (entry state.AtKey size) (entry (state.AtColon word.Alignment) size) (what.Word word.Alignment) _ done items e (λ item is. rw is refl) (λ items e.
    read_step kind.Object (entry (state.AtColon word.Alignment) size) (entry (state.AtValue word.Alignment) size) what.Colon _ done items e (λ item is. rw is refl) (λ items e.
    read_step kind.Object (entry (state.AtValue word.Alignment) size) (entry state.AtSeparator all) (what.Number (plain_size object.align) true) _ done items e (λ item is. rw is refl) (λ items e.
    read_step kind.Object (entry state.AtSeparator all) (entry state.AtEnd all) what.CloseBrace [] done items e (λ item is. rw is refl) (λ items e.
    read_done kind.Object (entry state.AtEnd all) items e))))))))))))))

same_number : (n : ℕ) → (n == n) ≡ true
same_number n = grind (arith, nat_tests)

object_means : (place : ℕ) (object : StackObject) → object.size ≤ 2 ^ 63 → object.align ≤ 2 ^ 63 → object_by place (object_fields place object) ≡ Some object
object_means place object sized aligned =
    let least : min object.size (2 ^ 63) ≡ object.size = omega arith in
    let also : min object.align (2 ^ 63) ≡ object.align = omega arith in
    rw (same_number place, least, also) refl

-- ══ The lines ══

record IsObjectLine (text : List ℕ) (place : ℕ) (object : StackObject) (line : Line) : Type 0 where
  read : behind_line text entry_front line ≡ Some (entry state.AtEnd (object_fields place object))
  means : object_by place (object_fields place object) ≡ Some object

object_line_is : (text : List ℕ) (place : ℕ) (object : StackObject) (line : Line) → place < 2 ^ 128 → is_writable_object object ≡ true → IsLine text line (object_line place object) → IsObjectLine text place object line
object_line_is text place object line placed fits is =
    let parts = and_parts (nat_le object.size (2 ^ 63)) (nat_le object.align (2 ^ 63)) fits in
    let sized : object.size ≤ 2 ^ 63 = (let test : nat_le object.size (2 ^ 63) ≡ true = parts.0 in grind (arith, nat_tests)) in
    let aligned : object.align ≤ 2 ^ 63 = (let test : nat_le object.align (2 ^ 63) ≡ true = parts.1 in grind (arith, nat_tests)) in
    let read = read_line text line (object_line place object) (object_whats place object) is (reads_object place object placed (omega (arith, sized)) (omega (arith, aligned))) in
    let items = map (item_of text) read.tokens in
    record {
      read = ap (continued entry_front) read.items ∙ ap continued_by (object_steps place object items read.same);
      means = object_means place object sized aligned;
    }

-- an entry that ends with its line
onto_object : (text : List ℕ) (place : ℕ) (object : StackObject) (line : Line) (lines : List Line) → IsObjectLine text place object line
    → stack_entries text (line ∷ lines) ≡ stack_entry line.number (Some (object_fields place object)) ∷ stack_entries text lines
onto_object text place object line lines one =
    ap (λ read. cons_option (ended_by line.number (is_last lines) read) (stack_entries_from text (next_by read) lines)) one.read

-- objects as they are read from lines
pub record AreObjects (text : List ℕ) (place : ℕ) (objects : List StackObject) (lines : List Line) : Type 0 where
  pub means : objects ≡ objects_from place (stack_entries text lines)
  pub each : length objects ≡ length (stack_entries text lines)

pub objects_are : (text : List ℕ) (place : ℕ) (objects : List StackObject) (lines : List Line) → place + length objects ≤ 2 ^ 128 → list_all is_writable_object objects ≡ true
    → AllZip (IsLine text) lines (object_lines place objects) → AreObjects text place objects lines
objects_are text place [] [] few fits all = record { means = refl; each = refl }
objects_are text place [] (line ∷ lines) few fits all = absurd all
objects_are text place (object ∷ objects) [] few fits all = absurd all
objects_are text place (object ∷ objects) (line ∷ lines) few fits all =
    let parts = and_parts (is_writable_object object) (list_all is_writable_object objects) fits in
    let one = object_line_is text place object line (omega arith) parts.0 all.0 in
    let later = objects_are text (suc place) objects lines (omega arith) parts.1 all.1 in
    let entries = onto_object text place object line lines one in
    let read : objects_from place (stack_entries text (line ∷ lines)) ≡ object ∷ objects_from (suc place) (stack_entries text lines) =
    ap (objects_from place) entries ∙ ap (λ found. cons_option found (objects_from (suc place) (stack_entries text lines))) one.means in
    record {
      means = ap (λ more. object ∷ more) later.means ∙ sym read;
      each = ap suc later.each ∙ sym (ap length entries);
    }
