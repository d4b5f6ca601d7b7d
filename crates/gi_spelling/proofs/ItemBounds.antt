-- The tokens of a text are within their bounds, and a name stands behind each `@`.
use Rattle.std.proofs.Common.{◌≡◌, ℕ, zero, suc, ◌-◌, Bool, true, false, List, [], ◌∷◌, ◌++◌, length, drop, Option, Some, None, Ok, Err, map, refl, sym, ap, ◌∙◌, subst, arith}
use Rattle.std.specs.Prelude.{◌&&◌, ◌==◌, All, if◌then◌else◌, option_map}
use Rattle.std.specs.List.{list_all, cons_option}
use Rattle.std.specs.Cmp.Derive.{both_true}
use Rattle.std.proofs.lemmas.Bool.{and_parts}
use Rattle.std.proofs.lemmas.List.{take-append-drop}
use Rattle.gi_llt.specs.Tokens.{LexemeKind, Start, OfBlank, OfComment, OfWord, OfNumber, OfMinus, OfName, OfQuoted, OfMetadata, OfMark, OfNothing, start_of, is_digit, is_hexadecimal_digit, is_word_byte, run_of, through, Found, FoundBlank, FoundComment, FoundToken, FoundNothing, found, found_some, found_minus, found_hexadecimal, found_number, found_quoted}
use Rattle.gi_llt.specs.Tokens.{Global as GlobalKind, Number as NumberKind}
use Rattle.gi_text.specs.Cutting.{TooGreat, Cut, token_at, behind, cut_from, cut_past, slice, cut_of, IsSized}
use Rattle.gi_text.specs.Kinds.{lexeme_kind}
use Rattle.gi_text.specs.Numbers.{is_too_great}
use Rattle.gi_text.specs.declared.token.Token.{Token}
use Rattle.gi_text.proofs.LawLemmas.{sized_of}
use Rattle.gi_spelling.specs.Documents.{is_name}
use Rattle.gi_spelling.specs.Items.{item_of, items_cut, items_in, items_of_line, what_in, kept_items}
use Rattle.gi_spelling.specs.Kept.{turn_at, kept_turn, kept_past, kept, ends_origin}
use Rattle.gi_spelling.specs.Lines.{Line}
use Rattle.gi_spelling.specs.Named.{name_of_token}
use Rattle.gi_spelling.specs.Spelling.{name_place, name_places}
use Rattle.gi_spelling.specs.Words.{what_by}
use Rattle.gi_spelling.specs.declared.kept.Next.{Next}
use Rattle.gi_spelling.specs.declared.kept.Next.TheVariants.{Past, PastOrigin}
use Rattle.gi_spelling.specs.declared.kept.Turn.{Turn}
use Rattle.gi_spelling.specs.declared.token.Item.{Item}
use Rattle.gi_spelling.specs.declared.token.What.{What}
use Rattle.gi_spelling.specs.declared.token.What.TheVariants as what
use Rattle.gi_spelling.proofs.TokenBounds.{is_bounded, kind_bounded}

-- ══ Tokens of a text ══

abbrev pub is_token_at : (text : List ℕ) (start : ℕ) → What → Bool
is_token_at text start what.Global = is_name (name_of_token text start)
is_token_at text start w = is_bounded w

abbrev pub is_item : (text : List ℕ) → Item → Bool
is_item text item = is_token_at text item.start item.what

bounded_at : (text : List ℕ) (start : ℕ) (w : What) → is_bounded w ≡ true → is_token_at text start w ≡ true
bounded_at text start what.Global fine = absurd (cc)
bounded_at text start w fine = fine

-- ══ Names of globals ══

abbrev begins_name : List ℕ → Bool
begins_name [] = false
begins_name (byte ∷ rest) = is_word_byte byte

abbrev is_found_named : Found → List ℕ → Bool
is_found_named (FoundToken GlobalKind more) rest = begins_name rest
is_found_named f rest = true

kind_named : (kind : LexemeKind) (more rest : List ℕ) → begins_name rest ≡ true → is_found_named (FoundToken kind more) rest ≡ true
kind_named GlobalKind more rest fine = fine
kind_named kind more rest fine = refl

minus_named : (digits rest : List ℕ) → is_found_named (found_minus digits) rest ≡ true
minus_named [] rest = refl
minus_named (digit ∷ more) rest = refl

hexadecimal_named : (digits hexadecimal rest : List ℕ) → is_found_named (found_hexadecimal digits hexadecimal) rest ≡ true
hexadecimal_named digits [] rest = refl
hexadecimal_named digits (digit ∷ more) rest = refl

number_named : (first : ℕ) (bytes rest : List ℕ) → is_found_named (found_number first bytes) rest ≡ true
number_named first [] rest = refl
number_named first (byte ∷ bytes) rest = chosen (first == 48 && byte == 120)
  where
    chosen : (b : Bool) → is_found_named (if b then found_hexadecimal (run_of is_digit (byte ∷ bytes)) (run_of is_hexadecimal_digit bytes) else FoundToken NumberKind (run_of is_digit (byte ∷ bytes))) rest ≡ true
    chosen true = hexadecimal_named (run_of is_digit (byte ∷ bytes)) (run_of is_hexadecimal_digit bytes) rest
    chosen false = refl

quoted_named : (quoted : Option (List ℕ)) (rest : List ℕ) → is_found_named (found_quoted quoted) rest ≡ true
quoted_named None rest = refl
quoted_named (Some more) rest = refl

some_named : (kind : LexemeKind) (rest : List ℕ) → is_found_named (found_some kind (run_of is_word_byte rest)) rest ≡ true
some_named kind [] = refl
some_named kind (byte ∷ rest) = chosen (is_word_byte byte) refl
  where
    chosen : (b : Bool) → is_word_byte byte ≡ b → is_found_named (found_some kind (if b then byte ∷ run_of is_word_byte rest else [])) (byte ∷ rest) ≡ true
    chosen true is = kind_named kind (byte ∷ run_of is_word_byte rest) (byte ∷ rest) is
    chosen false is = refl

found_named : (start : Start) (first : ℕ) (rest : List ℕ) → is_found_named (found start first rest) rest ≡ true
found_named OfBlank first rest = refl
found_named OfComment first rest = refl
found_named OfWord first rest = refl
found_named OfNumber first rest = number_named first rest rest
found_named OfMinus first rest = minus_named (run_of is_digit rest) rest
found_named (OfName kind) first rest = some_named kind rest
found_named OfQuoted first rest = quoted_named (through first rest) rest
found_named OfMetadata first rest = refl
found_named OfMark first rest = refl
found_named OfNothing first rest = refl

pub run_all : {X : Type 0} (test : X → Bool) (bytes : List X) → list_all test (run_of test bytes) ≡ true
run_all test [] = refl
run_all test (byte ∷ bytes) = chosen (test byte) refl (run_all test bytes)
  where
    chosen : (b : Bool) → test byte ≡ b → list_all test (run_of test bytes) ≡ true → list_all test (if b then byte ∷ run_of test bytes else []) ≡ true
    chosen true is later = both_true is later
    chosen false is later = refl

name_run : (rest back : List ℕ) → begins_name rest ≡ true → is_name (run_of is_word_byte (rest ++ back)) ≡ true
name_run [] back fine = absurd (cc)
name_run (byte ∷ rest) back fine = rw fine (both_true fine (run_all is_word_byte (rest ++ back)))

abbrev named_at : (text : List ℕ) → LexemeKind → (start : ℕ) → Bool
named_at text GlobalKind start = is_name (name_of_token text start)
named_at text kind start = true

abbrev is_named : (text : List ℕ) → Token → Bool
is_named text token = named_at text (lexeme_kind token.kind) token.start

first_named : (text : List ℕ) (place size : ℕ) (rest back : List ℕ) (kind : LexemeKind) (more : List ℕ) → drop (suc place) text ≡ rest ++ back → is_found_named (FoundToken kind more) rest ≡ true
    → is_named text (token_at kind place size) ≡ true
first_named text place size rest back GlobalKind more at fine = ap (λ bytes. is_name (run_of is_word_byte bytes)) at ∙ name_run rest back fine
first_named text place size rest back kind more at fine = refl

behind_named : (text : List ℕ) (token : Token) (tokens : List Token) (cut : Cut) → is_named text token ≡ true → ((later : List Token) → cut ≡ Ok later → list_all (is_named text) later ≡ true)
    → behind (token ∷ []) cut ≡ Ok tokens → list_all (is_named text) tokens ≡ true
behind_named text token tokens (Err fault) first after is = absurd (cc)
behind_named text token tokens (Ok later) first after is =
    let all : token ∷ later ≡ tokens = cc in
    subst (λ tokens. list_all (is_named text) tokens ≡ true) all (both_true first (after later refl))

none_named : (text : List ℕ) (tokens : List Token) (none : Cut) → none ≡ Ok [] → none ≡ Ok tokens → list_all (is_named text) tokens ≡ true
none_named text tokens none empty is = let same : [] ≡ tokens = cc in subst (λ tokens. list_all (is_named text) tokens ≡ true) same refl

from_named : (text : List ℕ) (f : Found) (first place : ℕ) (rest back : List ℕ) (cut_after : ℕ → Cut) (tokens : List Token) → is_found_named f rest ≡ true → drop (suc place) text ≡ rest ++ back
    → ((n : ℕ) (later : List Token) → cut_after n ≡ Ok later → list_all (is_named text) later ≡ true) → cut_from f first place cut_after ≡ Ok tokens → list_all (is_named text) tokens ≡ true
from_named text FoundBlank first place rest back cut_after tokens fine at after is = after 0 tokens is
from_named text FoundComment first place rest back cut_after tokens fine at after is = none_named text tokens (Ok []) refl is
from_named text (FoundToken kind more) first place rest back cut_after tokens fine at after is = chosen (is_too_great kind (first ∷ more)) is
  where
    chosen : (great : Bool) → (if great then Err (TooGreat place) else behind (token_at kind place (suc (length more)) ∷ []) (cut_after (length more))) ≡ Ok tokens → list_all (is_named text) tokens ≡ true
    chosen true is = absurd (cc)
    chosen false is =
        behind_named text (token_at kind place (suc (length more))) tokens (cut_after (length more)) (first_named text place (suc (length more)) rest back kind more at fine) (after (length more)) is
from_named text FoundNothing first place rest back cut_after tokens fine at after is = absurd (cc)

drop_next : (n : ℕ) (xs ys : List ℕ) (x : ℕ) → drop n xs ≡ x ∷ ys → drop (suc n) xs ≡ ys
drop_next zero [] ys x is = cc
drop_next zero (z ∷ xs) ys x is = cc
drop_next (suc n) [] ys x is = cc
drop_next (suc n) (z ∷ xs) ys x is = drop_next n xs ys x is

cut_named : (text : List ℕ) (place : ℕ) (line back : List ℕ) (skipped : ℕ) (tokens : List Token) → drop place text ≡ line ++ back → cut_past place line skipped ≡ Ok tokens → list_all (is_named text) tokens ≡ true
cut_named text place [] back skipped tokens at is = none_named text tokens (Ok []) refl is
cut_named text place (byte ∷ rest) back zero tokens at is =
    let next = drop_next place text (rest ++ back) byte at in
    from_named text (found (start_of byte) byte rest) byte place rest back (cut_past (suc place) rest) tokens (found_named (start_of byte) byte rest) next (λ n later. cut_named text (suc place) rest back n later next) is
cut_named text place (byte ∷ rest) back (suc skipped) tokens at is = cut_named text (suc place) rest back skipped tokens (drop_next place text (rest ++ back) byte at) is

-- ══ Items ══

kind_item : (text bytes : List ℕ) (start : ℕ) (kind : LexemeKind) → is_too_great kind bytes ≡ false → named_at text kind start ≡ true → is_token_at text start (what_by kind bytes) ≡ true
kind_item text bytes start GlobalKind sized named = named
kind_item text bytes start kind sized named = bounded_at text start (what_by kind bytes) (kind_bounded kind bytes sized refl)

all_items : (text : List ℕ) (tokens : List Token) → All (IsSized text) tokens → list_all (is_named text) tokens ≡ true → list_all (is_item text) (map (item_of text) tokens) ≡ true
all_items text [] sized named = refl
all_items text (token ∷ tokens) sized named =
    let parts = and_parts (is_named text token) (list_all (is_named text) tokens) named in
    let own : IsSized text token = sized 0 token (omega arith) in
    let later : All (IsSized text) tokens = λ k d within. sized (suc k) d (omega (arith, within)) in
    both_true (kind_item text (slice token.start token.end text) token.start (lexeme_kind token.kind) own.sized parts.0) (all_items text tokens later parts.1)

pub items_fine : (text : List ℕ) (start end : ℕ) (items : List Item) → items_in text start end ≡ Some items → list_all (is_item text) items ≡ true
items_fine text start end items is = chosen (cut_of text start end) refl is
  where
    chosen : (cut : Cut) → cut_of text start end ≡ cut → items_cut text cut ≡ Some items → list_all (is_item text) items ≡ true
    chosen (Err fault) at is = absurd (cc)
    chosen (Ok tokens) at is =
        let all : map (item_of text) tokens ≡ items = cc in
        let named = cut_named text start (slice start end text) (drop (end - start) (drop start text)) 0 tokens (sym (take-append-drop (end - start) (drop start text))) at in
        subst (λ items. list_all (is_item text) items ≡ true) all (all_items text tokens (sized_of text start end tokens at) named)

-- ══ Items that are kept ══

module _ {X : Type 0} (p : X → Bool) (told : X → What) where
  turned_all : (t : Turn) (first : X) (rest : List X) → p first ≡ true → ((next : Next) → list_all p (kept_past told next rest) ≡ true) → list_all p (kept_turn t first (λ next. kept_past told next rest)) ≡ true
  turned_all t first rest own later = chosen t.keeps
    where
      chosen : (b : Bool) → list_all p (if b then first ∷ kept_past told t.next rest else kept_past told t.next rest) ≡ true
      chosen true = both_true own (later t.next)
      chosen false = later t.next

  kept_all : (xs : List X) → list_all p xs ≡ true → (next : Next) → list_all p (kept_past told next xs) ≡ true
  kept_all [] all next = refl
  kept_all (x ∷ xs) all (Past zero) =
      let parts = and_parts (p x) (list_all p xs) all in
      turned_all (turn_at (told x) (map told xs)) x xs parts.0 (kept_all xs parts.1)
  kept_all (x ∷ xs) all (Past (suc count)) = let parts = and_parts (p x) (list_all p xs) all in kept_all xs parts.1 (Past count)
  kept_all (x ∷ xs) all PastOrigin =
      let parts = and_parts (p x) (list_all p xs) all in
      chosen (ends_origin (told x)) parts.0 (kept_all xs parts.1)
    where
      chosen : (b : Bool) → p x ≡ true → ((next : Next) → list_all p (kept_past told next xs) ≡ true)
          → list_all p (if b then kept_turn (turn_at (told x) (map told xs)) x (λ next. kept_past told next xs) else kept_past told PastOrigin xs) ≡ true
      chosen true own later = turned_all (turn_at (told x) (map told xs)) x xs own later
      chosen false own later = later PastOrigin

pub kept_fine : (text : List ℕ) (line : Line) (items : List Item) → kept_items text line ≡ Some items → list_all (is_item text) items ≡ true
kept_fine text line items is = chosen (items_of_line text line) refl is
  where
    chosen : (found : Option (List Item)) → items_of_line text line ≡ found → option_map (kept what_in) found ≡ Some items → list_all (is_item text) items ≡ true
    chosen None at is = absurd (cc)
    chosen (Some whole) at is =
        let all : kept what_in whole ≡ items = cc in
        subst (λ items. list_all (is_item text) items ≡ true) all (kept_all (is_item text) what_in whole (items_fine text line.start _ whole at) (Past 0))

-- ══ What items are, and the names among them ══

abbrev pub is_token : What → Bool
is_token what.Global = true
is_token w = is_bounded w

token_of_item : (text : List ℕ) (start : ℕ) (w : What) → is_token_at text start w ≡ true → is_token w ≡ true
token_of_item text start what.Global fine = refl
token_of_item text start w fine = fine

pub tokens_fine : (text : List ℕ) (items : List Item) → list_all (is_item text) items ≡ true → list_all is_token (map what_in items) ≡ true
tokens_fine text [] all = refl
tokens_fine text (item ∷ items) all =
    let parts = and_parts (is_item text item) (list_all (is_item text) items) all in
    both_true (token_of_item text item.start item.what parts.0) (tokens_fine text items parts.1)

abbrev pub names_at : (text : List ℕ) → (place : ℕ) → Bool
names_at text place = is_name (name_of_token text place)

pub places_fine : (text : List ℕ) (items : List Item) → list_all (is_item text) items ≡ true → list_all (names_at text) (name_places items) ≡ true
places_fine text [] all = refl
places_fine text (item ∷ items) all =
    let parts = and_parts (is_item text item) (list_all (is_item text) items) all in
    chosen item.what parts.0 (places_fine text items parts.1)
  where
    chosen : (w : What) → is_token_at text item.start w ≡ true → list_all (names_at text) (name_places items) ≡ true
        → list_all (names_at text) (cons_option (name_place item w) (name_places items)) ≡ true
    chosen what.Global fine later = both_true fine later
    chosen w fine later = later
