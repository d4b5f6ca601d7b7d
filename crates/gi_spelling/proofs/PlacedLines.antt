-- The lines of a text stand at their places, and their tokens there are those of their bytes.
use Rattle.std.proofs.Common.{◌≡◌, ℕ, zero, suc, ◌+◌, ◌-◌, Bool, true, false, List, [], ◌∷◌, ◌++◌, length, drop, Option, Some, None, map, refl, sym, ap, ◌∙◌, subst, arith, append_assoc, length-append, add-zero, inl, inr}
use Rattle.std.specs.Prelude.{◌⊎◌, not, ◌==◌, Ok, Err, option_map, if◌then◌else◌}
use Rattle.std.specs.List.{list_all, AllZip}
use Rattle.std.proofs.lemmas.Bool.{and_parts, not-true, eqb-true}
use Rattle.std.proofs.Math.Seq.{take-append_seam}
use Rattle.gi_llt.specs.Tokens.{Lexeme, lexeme, is_word_byte, start_of, Found, FoundBlank, FoundComment, FoundToken, FoundNothing, found, tokens_from, tokens_past, tokens_of}
use Rattle.gi_llt.proofs.Pieces.{is_stopped}
use Rattle.gi_text.specs.declared.token.Token.{Token}
use Rattle.gi_text.specs.Numbers.{is_too_great}
use Rattle.gi_text.specs.Cutting.{TooGreat, Cut, behind, token_at, cut_from, cut_past, slice, cut_of, lexeme_in}
use Rattle.gi_text.proofs.LawLemmas.{table_of}
use Rattle.gi_spelling.specs.declared.token.What.{What}
use Rattle.gi_spelling.specs.Words.{what_of, whats}
use Rattle.gi_spelling.specs.Items.{item_of, items_cut, items_in, end_of, what_in}
use Rattle.gi_spelling.specs.Lines.{onto_first, lines_of, Line, numbered_from, lines_in}

-- ══ Lines at their places ══

pub record IsLine (text : List ℕ) (line : Line) (bytes : List ℕ) : Type 0 where
  pub same : line.bytes ≡ bytes
  pub rest : List ℕ
  pub at : drop line.start text ≡ bytes ++ rest
  pub ends : is_stopped is_word_byte rest ≡ true

-- the first line of a text, and what follows it
record IsFront (text first : List ℕ) (later : List (List ℕ)) : Type 0 where
  rest : List ℕ
  whole : text ≡ first ++ rest
  ends : is_stopped is_word_byte rest ≡ true
  next : (later ≡ []) ⊎ ((more : List ℕ) × (rest ≡ 10 ∷ more) × (lines_of more ≡ later))

no_lines : (text : List ℕ) → lines_of text ≡ [] → text ≡ []
no_lines [] e = refl
no_lines (byte ∷ text) e = absurd (chosen (byte == 10) (lines_of text) e)
  where
    chosen : (feed : Bool) (later : List (List ℕ)) → (if feed then [] ∷ later else onto_first byte later) ≡ [] → ⊥
    chosen true later e = cc
    chosen false [] e = cc
    chosen false (line ∷ lines) e = cc

onto_front : (byte : ℕ) (text first : List ℕ) (later : List (List ℕ)) → IsFront text first later → IsFront (byte ∷ text) (byte ∷ first) later
onto_front byte text first later front = record { rest = front.rest; whole = ap (λ more. byte ∷ more) front.whole; ends = front.ends; next = front.next }

front_line : (text first : List ℕ) (later : List (List ℕ)) → lines_of text ≡ first ∷ later → IsFront text first later
front_line [] first later e = absurd (cc)
front_line (byte ∷ text) first later e = chosen (byte == 10) refl (lines_of text) refl e (front_line text)
  where
    chosen : (feed : Bool) → (byte == 10) ≡ feed → (lines : List (List ℕ)) → lines_of text ≡ lines → (if feed then [] ∷ lines else onto_first byte lines) ≡ first ∷ later
        → ((first : List ℕ) (later : List (List ℕ)) → lines_of text ≡ first ∷ later → IsFront text first later) → IsFront (byte ∷ text) first later
    chosen true is lines own e more =
        let empty : [] ≡ first = cc in
        let after : lines_of text ≡ later = cc in
        let ten : byte ≡ 10 = eqb-true byte 10 is in
        subst (λ first. IsFront (byte ∷ text) first later) empty
        (record { rest = byte ∷ text; whole = refl; ends = rw ten refl; next = inr (text, ap (λ b. b ∷ text) ten, after) })
    chosen false is [] own e more =
        let one : byte ∷ [] ≡ first = cc in
        let none : [] ≡ later = cc in
        let ended : text ≡ [] = no_lines text own in
        subst (λ first. IsFront (byte ∷ text) first later) one
        (record { rest = []; whole = ap (λ more. byte ∷ more) ended; ends = refl; next = inl (sym none) })
    chosen false is (line ∷ lines) own e more =
        let one : byte ∷ line ≡ first = cc in
        let after : lines ≡ later = cc in
        subst (λ later. IsFront (byte ∷ text) first later) after (subst (λ first. IsFront (byte ∷ text) first lines) one (onto_front byte text line lines (more line lines own)))

drop_append : (xs ys : List ℕ) → drop (length xs) (xs ++ ys) ≡ ys
drop_append [] ys = refl
drop_append (x ∷ xs) ys = drop_append xs ys

placed_from : (text before rest : List ℕ) (number : ℕ) (lines : List (List ℕ)) → text ≡ before ++ rest → lines_of rest ≡ lines
    → AllZip (IsLine text) (numbered_from number (length before) lines) lines
placed_from text before rest number [] whole e = tt
placed_from text before rest number (first ∷ later) whole e =
    let front = front_line rest first later e in
    let at : drop (length before) text ≡ first ++ front.rest = ap (drop (length before)) whole ∙ (drop_append before rest ∙ front.whole) in
    (record { same = refl; rest = front.rest; at = at; ends = front.ends }, chosen front.rest front.whole front.next (λ before rest number whole e. placed_from text before rest number later whole e))
  where
    chosen : (tail : List ℕ) → rest ≡ first ++ tail → (later ≡ []) ⊎ ((more : List ℕ) × (tail ≡ 10 ∷ more) × (lines_of more ≡ later))
        → ((before rest : List ℕ) (number : ℕ) → text ≡ before ++ rest → lines_of rest ≡ later → AllZip (IsLine text) (numbered_from number (length before) later) later)
        → AllZip (IsLine text) (numbered_from (suc number) (length before + length first + 1) later) later
    chosen tail own (inl none) more = subst (λ later. AllZip (IsLine text) (numbered_from (suc number) (length before + length first + 1) later) later) (sym none) tt
    chosen tail own (inr (left, tails, lines)) more =
        let gone = before ++ (first ++ (10 ∷ [])) in
        let size : length gone ≡ length before + length first + 1 = length-append before (first ++ (10 ∷ [])) ∙ (ap (λ n. length before + n) (length-append first (10 ∷ [])) ∙ omega arith) in
        let all : text ≡ gone ++ left =
        whole ∙ (ap (λ more. before ++ more) (own ∙ (ap (λ more. first ++ more) tails ∙ sym (append_assoc first (10 ∷ []) left))) ∙ sym (append_assoc before (first ++ (10 ∷ [])) left)) in
        subst (λ start. AllZip (IsLine text) (numbered_from (suc number) start later) later) size (more gone left (suc number) all lines)

pub lines_placed : (text : List ℕ) → AllZip (IsLine text) (lines_in text) (lines_of text)
lines_placed text = placed_from text [] text 1 (lines_of text) refl refl

-- ══ Tokens at their places ══

abbrev pub is_sized : Lexeme → Bool
is_sized l = not (is_too_great l.kind l.bytes)

abbrev Cuts : Cut → Type 0
Cuts cut = (tokens : List Token) × (cut ≡ Ok tokens)

cut_token : (t : Token) (cut : Cut) → Cuts cut → Cuts (behind (t ∷ []) cut)
cut_token t cut cuts = (t ∷ cuts.0, ap (behind (t ∷ [])) cuts.1)

cut_found : (f : Found) (first place : ℕ) (cut_after : ℕ → Cut) (tokens_after : ℕ → Option (List Lexeme)) (lexemes : List Lexeme)
    → ((n : ℕ) (later : List Lexeme) → tokens_after n ≡ Some later → list_all is_sized later ≡ true → Cuts (cut_after n))
    → tokens_from f first tokens_after ≡ Some lexemes → list_all is_sized lexemes ≡ true → Cuts (cut_from f first place cut_after)
cut_found FoundBlank first place cut_after tokens_after lexemes after e sized = after 0 lexemes e sized
cut_found FoundComment first place cut_after tokens_after lexemes after e sized = ([], refl)
cut_found (FoundToken kind more) first place cut_after tokens_after lexemes after e sized = chosen (tokens_after (length more)) refl e
  where
    chosen : (later : Option (List Lexeme)) → tokens_after (length more) ≡ later → option_map (λ ls. lexeme kind (first ∷ more) ∷ ls) later ≡ Some lexemes
        → Cuts (if is_too_great kind (first ∷ more) then Err (TooGreat place) else behind (token_at kind place (suc (length more)) ∷ []) (cut_after (length more)))
    chosen None own e = absurd (cc)
    chosen (Some later) own e =
        let whole : lexemes ≡ lexeme kind (first ∷ more) ∷ later = cc in
        let parts = and_parts (is_sized (lexeme kind (first ∷ more))) (list_all is_sized later) (ap (list_all is_sized) (sym whole) ∙ sized) in
        rw (not-true (is_too_great kind (first ∷ more)) parts.0)
        (cut_token (token_at kind place (suc (length more))) (cut_after (length more)) (after (length more) later own parts.1))
cut_found FoundNothing first place cut_after tokens_after lexemes after e sized = absurd (cc)

cut_sized : (place : ℕ) (line : List ℕ) (skipped : ℕ) (lexemes : List Lexeme) → tokens_past line skipped ≡ Some lexemes → list_all is_sized lexemes ≡ true → Cuts (cut_past place line skipped)
cut_sized place [] skipped lexemes e sized = ([], refl)
cut_sized place (byte ∷ rest) zero lexemes e sized =
    cut_found (found (start_of byte) byte rest) byte place (cut_past (suc place) rest) (tokens_past rest) lexemes (cut_sized (suc place) rest) e sized
cut_sized place (byte ∷ rest) (suc skipped) lexemes e sized = cut_sized (suc place) rest skipped lexemes e sized

-- what bytes are read as
pub record Reads (bytes : List ℕ) (ws : List What) : Type 0 where
  pub lexemes : List Lexeme
  pub read : tokens_of bytes ≡ Some lexemes
  pub sized : list_all is_sized lexemes ≡ true
  pub same : whats lexemes ≡ ws

whats-items : (text : List ℕ) (tokens : List Token) → map what_in (map (item_of text) tokens) ≡ whats (map (lexeme_in text) tokens)
whats-items text [] = refl
whats-items text (t ∷ tokens) = ap (λ ws. what_of (lexeme_in text t) ∷ ws) (whats-items text tokens)

-- items of a range, with the tokens that they are
pub record IsRead (text : List ℕ) (start end : ℕ) (ws : List What) : Type 0 where
  pub tokens : List Token
  pub cut : cut_of text start end ≡ Ok tokens
  pub items : items_in text start end ≡ Some (map (item_of text) tokens)
  pub same : map what_in (map (item_of text) tokens) ≡ ws

pub read_range : (text : List ℕ) (start end : ℕ) (bytes : List ℕ) (ws : List What) → slice start end text ≡ bytes → Reads bytes ws → IsRead text start end ws
read_range text start end bytes ws is reads =
    let read : tokens_of (slice start end text) ≡ Some reads.lexemes = ap tokens_of is ∙ reads.read in
    let cuts = cut_sized start (slice start end text) 0 reads.lexemes read reads.sized in
    let table : Some (map (lexeme_in text) cuts.0) ≡ Some reads.lexemes = sym (table_of text start end cuts.0 cuts.1) ∙ read in
    let lexemes : map (lexeme_in text) cuts.0 ≡ reads.lexemes = cc in
    record {
      tokens = cuts.0;
      cut = cuts.1;
      items = ap (items_cut text) cuts.1;
      same = whats-items text cuts.0 ∙ (ap whats lexemes ∙ reads.same);
    }

pub line_slice : (text : List ℕ) (line : Line) (bytes : List ℕ) → IsLine text line bytes → slice line.start (end_of line) text ≡ bytes
line_slice text line bytes is =
    let size : line.start + length line.bytes - line.start ≡ length bytes = ap (λ (bytes : List ℕ). line.start + length bytes - line.start) is.same ∙ omega arith in
    rw (size, is.at) (take-append_seam bytes is.rest)

pub read_line : (text : List ℕ) (line : Line) (bytes : List ℕ) (ws : List What) → IsLine text line bytes → Reads bytes ws → IsRead text line.start (end_of line) ws
read_line text line bytes ws is reads = read_range text line.start (end_of line) bytes ws (line_slice text line bytes is) reads

-- the end of a line
pub drop_next : (n : ℕ) (xs ys : List ℕ) (x : ℕ) → drop n xs ≡ x ∷ ys → drop (suc n) xs ≡ ys
drop_next zero [] ys x is = cc
drop_next zero (z ∷ xs) ys x is = cc
drop_next (suc n) [] ys x is = cc
drop_next (suc n) (z ∷ xs) ys x is = drop_next n xs ys x is

drop_front : (front back rest : List ℕ) (n : ℕ) (text : List ℕ) → drop n text ≡ (front ++ back) ++ rest → drop (n + length front) text ≡ back ++ rest
drop_front [] back rest n text e = rw add-zero e
drop_front (byte ∷ front) back rest n text e =
    let one : drop (suc n) text ≡ (front ++ back) ++ rest = drop_next n text ((front ++ back) ++ rest) byte e in
    let moved : n + suc (length front) ≡ suc n + length front = omega arith in
    rw moved (drop_front front back rest (suc n) text one)

pub back_slice : (text : List ℕ) (line : Line) (front back : List ℕ) → IsLine text line (front ++ back) → slice (end_of line - length back) (end_of line) text ≡ back
back_slice text line front back is =
    let size : length line.bytes ≡ length front + length back = ap length is.same ∙ length-append front back in
    let start : line.start + length line.bytes - length back ≡ line.start + length front = omega (arith, size) in
    let long : line.start + length line.bytes - (line.start + length front) ≡ length back = omega (arith, size) in
    rw (start, long, drop_front front back is.rest line.start text is.at) (take-append_seam back is.rest)
