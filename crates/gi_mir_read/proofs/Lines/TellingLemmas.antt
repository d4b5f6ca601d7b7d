-- A line in which no word begins as a debug instruction or a block's head says something, and begins no block.
use Rattle.std.proofs.Common.{◌≡◌, ℕ, zero, suc, Bool, true, false, List, [], ◌∷◌, ◌++◌, length, take, drop, drop-cons, get_or, ◌<◌, ◌+◌, ◌-◌, length-drop, nat_lt, position, arith, map, find, Option, Some, None, option_map, unwrap_or, refl, sym, ap, ◌∙◌, subst}
use Rattle.std.specs.Prelude.{not, ◌||◌, ◌==◌, if◌then◌else◌, codes, nat_eq, bytes_eq, Ok, Err}
use Rattle.std.specs.Cmp.Lexicographic.{pointwise}
use Rattle.std.specs.List.{list_all, starts_with}
use Rattle.std.specs.Option.{option_or, option_map_or}
use Rattle.std.proofs.lemmas.Bool.{and_parts}
use Rattle.std.proofs.lemmas.List.{length-take}
use Rattle.std.proofs.lemmas.Option.{same_Some}
use Rattle.gi_llt.specs.declared.Llt.TheVariants.{Scalar}
use Rattle.gi_llt.specs.Tokens.{LexemeKind, Word as word_kind, Number, Register, Physical, Global, Routine, Quoted, Metadata, Mark, Lexeme, lexeme, start_of, Found, FoundBlank, FoundComment, FoundToken, FoundNothing, found, tokens_from, tokens_past}
use Rattle.gi_text.specs.declared.token.Token.{Token}
use Rattle.gi_text.specs.Cutting.{Cut, cut_of, slice, lexeme_in}
use Rattle.gi_text.proofs.LawLemmas.{table_of}
use Rattle.gi_text.proofs.StepLemmas.{IsFront, front_found}
use Rattle.gi_spelling.specs.declared.kept.Next.{Next}
use Rattle.gi_spelling.specs.declared.kept.Next.TheVariants.{Past, PastOrigin}
use Rattle.gi_spelling.specs.declared.kept.Turn.{Turn}
use Rattle.gi_spelling.specs.declared.token.Item.{Item}
use Rattle.gi_spelling.specs.declared.token.Word.{Word}
use Rattle.gi_spelling.specs.declared.token.Word.TheVariants as word
use Rattle.gi_spelling.specs.declared.token.What.{What}
use Rattle.gi_spelling.specs.declared.token.What.TheVariants as what
use Rattle.gi_mir.specs.Routines.{routine_names}
use Rattle.gi_mir.specs.Row.{opcode_of}
use Rattle.gi_spelling.specs.Words.{words, fixed_word, width_behind, numeral, numeral_before_name, greatest_register, greatest_block, behind, block_head, word_of, what_of, physical_of, marks}
use Rattle.gi_spelling.specs.Blocks.{head_by, head_in}
use Rattle.gi_spelling.specs.Kept.{ends_origin, turn_at, kept_turn, kept_past, kept}
use Rattle.gi_spelling.specs.Items.{item_of, items_cut, items_in, items_of_line, what_in}
use Rattle.gi_spelling.specs.Reading.{flag_at, is_no_unsigned_wrap, is_no_signed_wrap, is_exact, is_disjoint, is_non_negative, past_flag, read_flags, split_at, onto_split, begins, debug_by, is_debug, is_debug_line}
use Rattle.gi_spelling.specs.declared.written.Separator.TheVariants.{Equals}
use Rattle.gi_mir_read.specs.declared.text.lines.Line.{Line}
use Rattle.gi_mir_read.specs.Functions.Blocked.{told_by, told_of}
use Rattle.gi_mir_read.specs.Texts.Placed.{IsLineIn, line_at}
use Rattle.gi_mir_read.specs.Lines.Telling.{is_telling_word, is_telling, begins_telling, tells}

-- ══ Words ══

not_false : (t : Bool) → not t ≡ true → t ≡ false
not_false true h = cc
not_false false h = refl

-- there is no such word
abbrev plain_word : Option Word → Bool
plain_word None = true
plain_word (Some w) = not (is_telling_word w)

either_plain : (a b : Option Word) → plain_word a ≡ true → plain_word b ≡ true → plain_word (option_or a b) ≡ true
either_plain None b first second = second
either_plain (Some w) b first second = first

entry_plain : (test : List ℕ × Word → Bool) (table : List (List ℕ × Word)) → list_all (λ entry. not (is_telling_word entry.1)) table ≡ true → plain_word (option_map (λ entry. entry.1) (find test table)) ≡ true
entry_plain test [] all = refl
entry_plain test (e ∷ table) all =
    let parts = and_parts (not (is_telling_word e.1)) (list_all (λ entry. not (is_telling_word entry.1)) table) all in
    by (test e) (entry_plain test table parts.1)
  where
    by : (same : Bool) → plain_word (option_map (λ entry. entry.1) (find test table)) ≡ true → plain_word (option_map (λ entry. entry.1) (if same then Some e else find test table)) ≡ true
    by true later = (and_parts (not (is_telling_word e.1)) (list_all (λ entry. not (is_telling_word entry.1)) table) all).0
    by false later = later

made_plain : {X : Type 0} (make : X → Word) → ((x : X) → is_telling_word (make x) ≡ false) → (o : Option X) → plain_word (option_map make o) ≡ true
made_plain make plain None = refl
made_plain make plain (Some x) = ap not (plain x)

unwrapped_plain : (o : Option Word) → plain_word o ≡ true → is_telling_word (unwrap_or o word.Unknown) ≡ false
unwrapped_plain None h = refl
unwrapped_plain (Some w) h = not_false (is_telling_word w) h

word_plain : (bytes : List ℕ) → starts_with nat_eq bytes (codes "DBG_") ≡ false → starts_with nat_eq bytes (codes "bb.") ≡ false → is_telling_word (word_of bytes) ≡ false
word_plain bytes d b =
    let head : Option Word = option_map (λ number. word.BlockHead number) (block_head bytes) in
    let debug : Option Word = if starts_with nat_eq bytes (codes "DBG_") then Some word.Debug else None in
    let integer : Option Word = option_map (λ bits. word.Integer bits) (width_behind 105 bytes) in
    let scalar : Option Word = option_map (λ bits. word.Type (Scalar bits)) (width_behind 115 bytes) in
    let opcode : Option Word = option_map (λ op. word.Opcode op) (opcode_of bytes) in
    unwrapped_plain (option_or (fixed_word bytes) (option_or opcode (option_or scalar (option_or integer (option_or head debug)))))
    (either_plain (fixed_word bytes) (option_or opcode (option_or scalar (option_or integer (option_or head debug)))) (entry_plain (λ entry. bytes_eq entry.0 bytes) words refl)
    (either_plain opcode (option_or scalar (option_or integer (option_or head debug))) (made_plain (λ op. word.Opcode op) (λ op. refl) (opcode_of bytes))
    (either_plain scalar (option_or integer (option_or head debug)) (made_plain (λ bits. word.Type (Scalar bits)) (λ bits. refl) (width_behind 115 bytes))
    (either_plain integer (option_or head debug) (made_plain (λ bits. word.Integer bits) (λ bits. refl) (width_behind 105 bytes))
    (either_plain head debug (rw b refl) (rw d refl))))))

or_parts : (a b : Bool) → (a || b) ≡ false → (a ≡ false) × (b ≡ false)
or_parts true b h = cc
or_parts false b h = (refl, h)

plain_begin : (bytes : List ℕ) → begins_telling bytes ≡ false → is_telling_word (word_of bytes) ≡ false
plain_begin bytes h =
    let parts = or_parts (starts_with nat_eq bytes (codes "DBG_")) (starts_with nat_eq bytes (codes "bb.")) h in
    word_plain bytes parts.0 parts.1

-- ══ Tokens ══

longer : (needle xs ys : List ℕ) → pointwise nat_eq needle (take (length needle) xs) ≡ true → pointwise nat_eq needle (take (length needle) (xs ++ ys)) ≡ true
longer [] xs ys h = refl
longer (n ∷ needle) [] ys h = cc
longer (n ∷ needle) (x ∷ xs) ys h =
    let parts = and_parts (nat_eq n x) (pointwise nat_eq needle (take (length needle) xs)) h in
    rw parts.0 (longer needle xs ys parts.1)

shorter : (needle xs ys : List ℕ) → starts_with nat_eq (xs ++ ys) needle ≡ false → starts_with nat_eq xs needle ≡ false
shorter needle xs ys h = by (starts_with nat_eq xs needle) refl
  where
    by : (t : Bool) → starts_with nat_eq xs needle ≡ t → t ≡ false
    by true s = let again : true ≡ false = sym (longer needle xs ys s) ∙ h in cc
    by false s = refl

shorter_begin : (xs ys : List ℕ) → begins_telling (xs ++ ys) ≡ false → begins_telling xs ≡ false
shorter_begin xs ys h =
    let parts = or_parts (starts_with nat_eq (xs ++ ys) (codes "DBG_")) (starts_with nat_eq (xs ++ ys) (codes "bb.")) h in
    rw (shorter (codes "DBG_") xs ys parts.0, shorter (codes "bb.") xs ys parts.1) refl

-- ══ Tokens of other kinds ══

abbrev plain_what : Option What → Bool
plain_what None = true
plain_what (Some w) = not (is_telling w)

made_what : {X : Type 0} (make : X → What) → ((x : X) → is_telling (make x) ≡ false) → (o : Option X) → plain_what (option_map make o) ≡ true
made_what make plain None = refl
made_what make plain (Some x) = ap not (plain x)

first_of_three : (a b c : Option What) → plain_what a ≡ true → plain_what b ≡ true → plain_what c ≡ true → is_telling (unwrap_or (option_or a (option_or b c)) what.Other) ≡ false
first_of_three (Some w) b c first second third = not_false (is_telling w) first
first_of_three None (Some w) c first second third = not_false (is_telling w) second
first_of_three None None (Some w) first second third = not_false (is_telling w) third
first_of_three None None None first second third = refl

physical_plain : (o : Option ℕ) → is_telling (physical_of o) ≡ false
physical_plain None = refl
physical_plain (Some n) = by (nat_lt n 32)
  where
    by : (t : Bool) → is_telling (if t then what.Physical n else what.Other) ≡ false
    by true = refl
    by false = refl

routine_plain : (o : Option ℕ) → is_telling (option_map_or (λ place. what.Routine place) o what.UnknownRoutine) ≡ false
routine_plain None = refl
routine_plain (Some place) = refl

mark_plain : (test : ℕ × What → Bool) (table : List (ℕ × What)) → list_all (λ entry. not (is_telling entry.1)) table ≡ true → is_telling (option_map_or (λ entry. entry.1) (find test table) what.Other) ≡ false
mark_plain test [] all = refl
mark_plain test (e ∷ table) all =
    let parts = and_parts (not (is_telling e.1)) (list_all (λ entry. not (is_telling entry.1)) table) all in
    by (test e) parts.0 (mark_plain test table parts.1)
  where
    by : (same : Bool) → not (is_telling e.1) ≡ true → is_telling (option_map_or (λ entry. entry.1) (find test table) what.Other) ≡ false → is_telling (option_map_or (λ entry. entry.1) (if same then Some e else find test table) what.Other) ≡ false
    by true here later = not_false (is_telling e.1) here
    by false here later = later

plain_lexeme : (kind : LexemeKind) (bytes : List ℕ) → begins_telling bytes ≡ false → is_telling (what_of (lexeme kind bytes)) ≡ false
plain_lexeme word_kind bytes h = plain_begin bytes h
plain_lexeme Number bytes h = refl
plain_lexeme Register bytes h =
    let name : List ℕ = drop 1 bytes in
    let register : Option ℕ = numeral greatest_register name in
    let block : Option ℕ = option_map_or (numeral greatest_block) (behind (codes "bb.") name) None in
    let frame : Option ℕ = option_map_or (numeral_before_name greatest_register) (behind (codes "stack.") name) None in
    first_of_three (option_map (λ number. what.Register number) register) (option_map (λ number. what.Block number) block) (option_map (λ number. what.Frame number) frame)
    (made_what (λ number. what.Register number) (λ number. refl) register) (made_what (λ number. what.Block number) (λ number. refl) block) (made_what (λ number. what.Frame number) (λ number. refl) frame)
plain_lexeme Physical bytes h = physical_plain (option_map_or (numeral 32) (behind (codes "x") (drop 1 bytes)) None)
plain_lexeme Global bytes h = refl
plain_lexeme Routine bytes h = routine_plain (position (bytes_eq (drop 1 bytes)) routine_names)
plain_lexeme Quoted bytes h = refl
plain_lexeme Metadata bytes h = refl
plain_lexeme Mark [] h = refl
plain_lexeme Mark (byte ∷ more) h = mark_plain (λ entry. entry.0 == byte) marks refl

-- ══ A line ══

abbrev are_plain : List Lexeme → Bool
are_plain ls = list_all (λ l. not (is_telling (what_of l))) ls

found_plain : (f : Found) (first : ℕ) (rest : List ℕ) (tokens_after : ℕ → Option (List Lexeme)) (ls : List Lexeme) → IsFront f rest → begins_telling (first ∷ rest) ≡ false
    → ((n : ℕ) (later : List Lexeme) → tokens_after n ≡ Some later → are_plain later ≡ true) → tokens_from f first tokens_after ≡ Some ls → are_plain ls ≡ true
found_plain FoundBlank first rest tokens_after ls front h after is = after 0 ls is
found_plain FoundComment first rest tokens_after ls front h after is = ap are_plain (sym (same_Some [] ls is))
found_plain FoundNothing first rest tokens_after ls front h after is = cc
found_plain (FoundToken kind more) first rest tokens_after ls front h after is = by (tokens_after (length more)) refl is
  where
    here : is_telling (what_of (lexeme kind (first ∷ more))) ≡ false
    here = plain_lexeme kind (first ∷ more) (shorter_begin (first ∷ more) front.0 (subst (λ ys. begins_telling (first ∷ ys) ≡ false) front.1 h))

    by : (o : Option (List Lexeme)) → tokens_after (length more) ≡ o → option_map (λ tokens. lexeme kind (first ∷ more) ∷ tokens) o ≡ Some ls → are_plain ls ≡ true
    by None so l = cc
    by (Some later) so l = ap are_plain (sym (same_Some (lexeme kind (first ∷ more) ∷ later) ls l)) ∙ rw here (after (length more) later so)

past_plain : (line : List ℕ) (skipped : ℕ) (ls : List Lexeme) → tells line ≡ false → tokens_past line skipped ≡ Some ls → are_plain ls ≡ true
past_plain [] skipped ls h is = ap are_plain (sym (same_Some [] ls is))
past_plain (byte ∷ rest) zero ls h is =
    let parts = or_parts (begins_telling (byte ∷ rest)) (tells rest) h in
    found_plain (found (start_of byte) byte rest) byte rest (tokens_past rest) ls (front_found (start_of byte) byte rest) parts.0 (λ n later. past_plain rest n later parts.1) is
past_plain (byte ∷ rest) (suc skipped) ls h is = past_plain rest skipped ls (or_parts (begins_telling (byte ∷ rest)) (tells rest) h).1 is

pub tells_next : (bytes : List ℕ) (k d : ℕ) → k < length bytes → begins_telling (drop k bytes) ≡ false → tells (drop (suc k) bytes) ≡ tells (drop k bytes)
tells_next bytes k d within h =
    let parts : drop k bytes ≡ get_or bytes k d ∷ drop (suc k) bytes = drop-cons bytes k d within in
    sym (ap tells parts ∙ ap (λ t. t || tells (drop (suc k) bytes)) (ap begins_telling (sym parts) ∙ h))

-- ══ What counts of it ══

abbrev plain_item : Item → Bool
plain_item item = not (is_telling item.what)

items_plain : (text : List ℕ) (tokens : List Token) → are_plain (map (lexeme_in text) tokens) ≡ true → list_all plain_item (map (item_of text) tokens) ≡ true
items_plain text [] h = refl
items_plain text (t ∷ tokens) h =
    let parts = and_parts (not (is_telling (what_of (lexeme_in text t)))) (are_plain (map (lexeme_in text) tokens)) h in
    rw parts.0 (items_plain text tokens parts.1)

turned_plain : (t : Turn) (x : Item) (after : Next → List Item) → plain_item x ≡ true → ((next : Next) → list_all plain_item (after next) ≡ true) → list_all plain_item (kept_turn t x after) ≡ true
turned_plain t x after here later = by t.keeps
  where
    by : (keeps : Bool) → list_all plain_item (if keeps then x ∷ after t.next else after t.next) ≡ true
    by true = rw here (later t.next)
    by false = later t.next

kept_plain : (next : Next) (items : List Item) → list_all plain_item items ≡ true → list_all plain_item (kept_past what_in next items) ≡ true
kept_plain next [] h = refl
kept_plain (Past zero) (x ∷ rest) h =
    let parts = and_parts (plain_item x) (list_all plain_item rest) h in
    turned_plain (turn_at x.what (map what_in rest)) x (λ next. kept_past what_in next rest) parts.0 (λ next. kept_plain next rest parts.1)
kept_plain (Past (suc count)) (x ∷ rest) h = kept_plain (Past count) rest (and_parts (plain_item x) (list_all plain_item rest) h).1
kept_plain PastOrigin (x ∷ rest) h =
    let parts = and_parts (plain_item x) (list_all plain_item rest) h in
    by (ends_origin x.what) (turned_plain (turn_at x.what (map what_in rest)) x (λ next. kept_past what_in next rest) parts.0 (λ next. kept_plain next rest parts.1)) (kept_plain PastOrigin rest parts.1)
  where
    by : (ends : Bool) → list_all plain_item (kept_turn (turn_at x.what (map what_in rest)) x (λ next. kept_past what_in next rest)) ≡ true → list_all plain_item (kept_past what_in PastOrigin rest) ≡ true
        → list_all plain_item (if ends then kept_turn (turn_at x.what (map what_in rest)) x (λ next. kept_past what_in next rest) else kept_past what_in PastOrigin rest) ≡ true
    by true here later = here
    by false here later = later

dropped_plain : (n : ℕ) (items : List Item) → list_all plain_item items ≡ true → list_all plain_item (drop n items) ≡ true
dropped_plain zero items h = h
dropped_plain (suc n) [] h = refl
dropped_plain (suc n) (x ∷ items) h = dropped_plain n items (and_parts (plain_item x) (list_all plain_item items) h).1

flagged_plain : (b : Bool) (items : List Item) → list_all plain_item items ≡ true → list_all plain_item (past_flag b items) ≡ true
flagged_plain true items h = dropped_plain 1 items h
flagged_plain false items h = h

rest_plain : (items : List Item) → list_all plain_item items ≡ true → list_all plain_item (read_flags items).rest ≡ true
rest_plain items h =
    let nuw = is_no_unsigned_wrap (flag_at items) in
    let after_nuw = past_flag nuw items in
    let nsw = is_no_signed_wrap (flag_at after_nuw) in
    let after_nsw = past_flag nsw after_nuw in
    let exact = is_exact (flag_at after_nsw) in
    let after_exact = past_flag exact after_nsw in
    let disjoint = is_disjoint (flag_at after_exact) in
    let after_disjoint = past_flag disjoint after_exact in
    flagged_plain (is_non_negative (flag_at after_disjoint)) after_disjoint
    (flagged_plain disjoint after_exact (flagged_plain exact after_nsw (flagged_plain nsw after_nuw (flagged_plain nuw items h))))

behind_plain : (items whole : List Item) → list_all plain_item whole ≡ true → list_all plain_item items ≡ true → list_all plain_item (unwrap_or (split_at Equals items).after whole) ≡ true
behind_plain [] whole all h = all
behind_plain (x ∷ items) whole all h = by (begins Equals (x ∷ items)) (behind_plain items whole all (and_parts (plain_item x) (list_all plain_item items) h).1)
  where
    by : (here : Bool) → list_all plain_item (unwrap_or (split_at Equals items).after whole) ≡ true
        → list_all plain_item (unwrap_or (if here then record { before = []; after = Some (drop 1 (x ∷ items)) } else onto_split x (split_at Equals items)).after whole) ≡ true
    by true later = (and_parts (plain_item x) (list_all plain_item items) h).1
    by false later = later

first_plain : (items : List Item) → list_all plain_item items ≡ true → is_debug items ≡ false
first_plain [] h = refl
first_plain (x ∷ items) h = by x.what (and_parts (plain_item x) (list_all plain_item items) h).0
  where
    by : (w : What) → not (is_telling w) ≡ true → debug_by w ≡ false
    by (what.Word w) h = word_by w h
      where
        word_by : (w : Word) → not (is_telling_word w) ≡ true → debug_by (what.Word w) ≡ false
        word_by word.Debug h = cc
        word_by _ h = refl
    by _ h = refl

head_plain : (items : List Item) → list_all plain_item items ≡ true → head_in (Some items) ≡ None
head_plain [] h = refl
head_plain (x ∷ items) h = by x.what (and_parts (plain_item x) (list_all plain_item items) h).0
  where
    by : (w : What) → not (is_telling w) ≡ true → head_by w ≡ None
    by (what.Word w) h = word_by w h
      where
        word_by : (w : Word) → not (is_telling_word w) ≡ true → head_by (what.Word w) ≡ None
        word_by (word.BlockHead number) h = cc
        word_by _ h = refl
    by _ h = refl

-- the line is told, and begins no block
pub plain_told : (text : List ℕ) (line : Line) → IsLineIn text line → tells (slice line.start line.end text) ≡ false → Some (record { line = line; head = None }) ≡ told_of text line
plain_told text line within h = by (items_of_line text (line_at text line)) refl
  where
    ends : line.start + length (slice line.start line.end text) ≡ line.end
    ends = omega (arith, within.ordered, within.within, length-take (line.end - line.start) (drop line.start text), length-drop line.start text)

    cut_plain : (cut : Cut) → cut_of text line.start line.end ≡ cut → (items : List Item) → items_cut text cut ≡ Some items → list_all plain_item items ≡ true
    cut_plain (Err fault) is items same = cc
    cut_plain (Ok tokens) is items same =
        ap (list_all plain_item) (sym (same_Some (map (item_of text) tokens) items same))
        ∙ items_plain text tokens (past_plain (slice line.start line.end text) 0 (map (lexeme_in text) tokens) h (table_of text line.start line.end tokens is))

    by : (o : Option (List Item)) → items_of_line text (line_at text line) ≡ o → Some (record { line = line; head = None }) ≡ told_by line (option_map (kept what_in) o)
    by None is = refl
    by (Some items) is =
        let all : list_all plain_item items ≡ true = cut_plain (cut_of text line.start line.end) refl items (ap (λ end. items_in text line.start end) (sym ends) ∙ is) in
        let kept_all : list_all plain_item (kept what_in items) ≡ true = kept_plain (Past 0) items all in
        let place : List Item = unwrap_or (split_at Equals (kept what_in items)).after (kept what_in items) in
        let says : is_debug_line (kept what_in items) ≡ false = first_plain (read_flags place).rest (rest_plain place (behind_plain (kept what_in items) (kept what_in items) kept_all kept_all)) in
        rw says (ap (λ head. Some (record { line = line; head = head })) (sym (head_plain (kept what_in items) kept_all)))
