-- The names of a line's tokens are those that stand at their places in the text.
use Rattle.std.proofs.Common.{◌≡◌, ℕ, zero, suc, Bool, true, false, List, [], ◌∷◌, ◌++◌, length, drop, Option, Some, None, map, refl, sym, ap, ◌∙◌, subst}
use Rattle.std.specs.Prelude.{◌&&◌, ◌==◌, nat_lt, bytes_eq, codes, find, position, option_map, unwrap_or, Ok, Err, if◌then◌else◌}
use Rattle.std.specs.List.{list_all, AllZip}
use Rattle.std.specs.Option.{option_map_or, option_or}
use Rattle.std.proofs.lemmas.Bool.{and_parts, not-true, false≢true}
use Rattle.gi_llt.specs.Tokens.{LexemeKind, Word as OfWord, Number as OfNumber, Register as OfRegister, Physical as OfPhysical, Global as OfGlobal, Routine as OfRoutine, Quoted as OfQuoted, Metadata as OfMetadata, Mark as OfMark, Lexeme, lexeme, is_digit, is_hexadecimal_digit, is_word_byte, run_of, through, Start, OfBlank, OfComment, OfMinus, OfName, OfNothing, start_of, Found, FoundBlank, FoundComment, FoundToken, FoundNothing, found_some, found_minus, found_hexadecimal, found_number, found_quoted, found, tokens_from, tokens_past}
use Rattle.gi_llt.specs.Tokens as start
use Rattle.gi_llt.proofs.Pieces.{is_stopped}
use Rattle.gi_text.specs.declared.token.Token.{Token}
use Rattle.gi_text.specs.Numbers.{is_too_great}
use Rattle.gi_text.specs.Cutting.{TooGreat, Cut, behind, token_at, cut_from, cut_past, slice, cut_of, lexeme_in}
use Rattle.gi_text.proofs.LawLemmas.{table_of}
use Rattle.gi_mir.specs.Routines.{routine_names}
use Rattle.gi_spelling.specs.declared.token.What.{What}
use Rattle.gi_spelling.specs.declared.token.What.TheVariants as what
use Rattle.gi_spelling.specs.Items.{item_of, end_of}
use Rattle.gi_spelling.specs.Lines.{Line}
use Rattle.gi_spelling.specs.Named.{name_of_token}
use Rattle.gi_spelling.specs.Spelling.{name_place, name_places}
use Rattle.gi_spelling.specs.Words.{numeral, behind as behind_prefix, physical_of, marks, what_by, what_of}
use Rattle.gi_spelling.proofs.PlacedLines.{IsLine, line_slice, drop_next}
use Rattle.gi_spelling.proofs.PrintedPieces.{name_by, name_shown, names_shown, no_name}
use Rattle.gi_spelling.proofs.TokenLists.{names_nothing, no_place}

-- ══ Tokens that are names ══

abbrev pub is_global_kind : LexemeKind → Bool
is_global_kind OfGlobal = true
is_global_kind kind = false

quiet_register : (register block frame : Option ℕ)
    → names_nothing (unwrap_or (option_or (option_map (λ n. what.Register n) register) (option_or (option_map (λ n. what.Block n) block) (option_map (λ n. what.Frame n) frame))) what.Other) ≡ true
quiet_register (Some n) block frame = refl
quiet_register None (Some n) frame = refl
quiet_register None None (Some n) = refl
quiet_register None None None = refl

quiet_physical : (o : Option ℕ) → names_nothing (physical_of o) ≡ true
quiet_physical None = refl
quiet_physical (Some n) = chosen (nat_lt n 32)
  where
    chosen : (low : Bool) → names_nothing (if low then what.Physical n else what.Other) ≡ true
    chosen true = refl
    chosen false = refl

quiet_routine : (o : Option ℕ) → names_nothing (option_map_or (λ place. what.Routine place) o what.UnknownRoutine) ≡ true
quiet_routine None = refl
quiet_routine (Some n) = refl

quiet_mark : (byte : ℕ) (entries : List (ℕ × What)) → list_all (λ entry. names_nothing entry.1) entries ≡ true
    → names_nothing (option_map_or (λ (entry : ℕ × What). entry.1) (find (λ (entry : ℕ × What). entry.0 == byte) entries) what.Other) ≡ true
quiet_mark byte [] all = refl
quiet_mark byte (entry ∷ entries) all =
    let parts = and_parts (names_nothing entry.1) (list_all (λ (entry : ℕ × What). names_nothing entry.1) entries) all in
    chosen (entry.0 == byte) parts.0 (quiet_mark byte entries parts.1)
  where
    chosen : (here : Bool) → names_nothing entry.1 ≡ true
        → names_nothing (option_map_or (λ (entry : ℕ × What). entry.1) (find (λ (entry : ℕ × What). entry.0 == byte) entries) what.Other) ≡ true
        → names_nothing (option_map_or (λ (entry : ℕ × What). entry.1) (if here then Some entry else find (λ (entry : ℕ × What). entry.0 == byte) entries) what.Other) ≡ true
    chosen true own later = own
    chosen false own later = later

quiet_kind : (kind : LexemeKind) (bytes : List ℕ) → is_global_kind kind ≡ false → names_nothing (what_by kind bytes) ≡ true
quiet_kind OfWord bytes other = refl
quiet_kind OfNumber bytes other = refl
quiet_kind OfRegister bytes other = quiet_register _ _ _
quiet_kind OfPhysical bytes other = quiet_physical (option_map_or (numeral 32) (behind_prefix (codes "x") (drop 1 bytes)) None)
quiet_kind OfGlobal bytes other = absurd (cc)
quiet_kind OfRoutine bytes other = quiet_routine (position (bytes_eq (drop 1 bytes)) routine_names)
quiet_kind OfQuoted bytes other = refl
quiet_kind OfMetadata bytes other = refl
quiet_kind OfMark [] other = refl
quiet_kind OfMark (byte ∷ more) other = quiet_mark byte marks refl

global_kind : (kind : LexemeKind) → is_global_kind kind ≡ true → kind ≡ OfGlobal
global_kind OfGlobal is = refl
global_kind _ is = absurd (false≢true is)

-- ══ What stands at a place ══

-- a token's name is the one that stands behind its place
pub record IsNamedAt (text : List ℕ) (t : Token) (l : Lexeme) : Type 0 where
  pub named : is_global_kind l.kind ≡ true → name_of_token text t.start ≡ drop 1 l.bytes

run_stopped : (rest back : List ℕ) → is_stopped is_word_byte back ≡ true → run_of is_word_byte (rest ++ back) ≡ run_of is_word_byte rest
run_stopped [] [] stopped = refl
run_stopped [] (byte ∷ back) stopped = rw (not-true (is_word_byte byte) stopped) refl
run_stopped (byte ∷ rest) back stopped = chosen (is_word_byte byte) (run_stopped rest back stopped)
  where
    chosen : (in_word : Bool) → run_of is_word_byte (rest ++ back) ≡ run_of is_word_byte rest
        → (if in_word then byte ∷ run_of is_word_byte (rest ++ back) else []) ≡ (if in_word then byte ∷ run_of is_word_byte rest else [])
    chosen true later = ap (λ more. byte ∷ more) later
    chosen false later = refl

found_kind : Found → LexemeKind
found_kind (FoundToken kind more) = kind
found_kind f = OfMark

hexadecimal_kind : (digits hexadecimal : List ℕ) → is_global_kind (found_kind (found_hexadecimal digits hexadecimal)) ≡ false
unfolding found_kind
hexadecimal_kind digits [] = refl
hexadecimal_kind digits (digit ∷ more) = refl

number_kind : (first : ℕ) (rest : List ℕ) → is_global_kind (found_kind (found_number first rest)) ≡ false
unfolding found_kind
number_kind first [] = refl
number_kind first (byte ∷ rest) = chosen (first == 48 && byte == 120)
  where
    chosen : (hexadecimal : Bool)
        → is_global_kind (found_kind (if hexadecimal then found_hexadecimal (run_of is_digit (byte ∷ rest)) (run_of is_hexadecimal_digit rest) else FoundToken OfNumber (run_of is_digit (byte ∷ rest)))) ≡ false
    chosen true = hexadecimal_kind (run_of is_digit (byte ∷ rest)) (run_of is_hexadecimal_digit rest)
    chosen false = refl

minus_kind : (digits : List ℕ) → is_global_kind (found_kind (found_minus digits)) ≡ false
unfolding found_kind
minus_kind [] = refl
minus_kind (digit ∷ more) = refl

quoted_kind : (o : Option (List ℕ)) → is_global_kind (found_kind (found_quoted o)) ≡ false
unfolding found_kind
quoted_kind None = refl
quoted_kind (Some more) = refl

no_global : (f : Found) (kind : LexemeKind) (more run : List ℕ) → is_global_kind (found_kind f) ≡ false → f ≡ FoundToken kind more → is_global_kind kind ≡ true → more ≡ run
unfolding found_kind
no_global f kind more run other is global = absurd (false≢true (sym other ∙ (ap (λ found. is_global_kind (found_kind found)) is ∙ global)))

some_run : (name kind : LexemeKind) (run more : List ℕ) → found_some name run ≡ FoundToken kind more → more ≡ run
some_run name kind [] more is = absurd (cc)
some_run name kind (byte ∷ run) more is = cc

global_run : (s : Start) (first : ℕ) (rest : List ℕ) (kind : LexemeKind) (more : List ℕ) → found s first rest ≡ FoundToken kind more → is_global_kind kind ≡ true → more ≡ run_of is_word_byte rest
unfolding found_kind
global_run OfBlank first rest kind more is global = absurd (cc)
global_run OfComment first rest kind more is global = absurd (cc)
global_run start.OfWord first rest kind more is global = no_global (FoundToken OfWord (run_of is_word_byte rest)) kind more (run_of is_word_byte rest) refl is global
global_run start.OfNumber first rest kind more is global = no_global (found_number first rest) kind more (run_of is_word_byte rest) (number_kind first rest) is global
global_run OfMinus first rest kind more is global = no_global (found_minus (run_of is_digit rest)) kind more (run_of is_word_byte rest) (minus_kind (run_of is_digit rest)) is global
global_run (OfName name) first rest kind more is global = some_run name kind (run_of is_word_byte rest) more is
global_run start.OfQuoted first rest kind more is global = no_global (found_quoted (through first rest)) kind more (run_of is_word_byte rest) (quoted_kind (through first rest)) is global
global_run start.OfMetadata first rest kind more is global = no_global (FoundToken OfMetadata (run_of is_word_byte rest)) kind more (run_of is_word_byte rest) refl is global
global_run start.OfMark first rest kind more is global = no_global (FoundToken OfMark []) kind more (run_of is_word_byte rest) refl is global
global_run OfNothing first rest kind more is global = absurd (cc)

-- the tokens of the rest, where the text goes on with them
abbrev AreNamedAfter : (text : List ℕ) (cut_after : ℕ → Cut) (tokens_after : ℕ → Option (List Lexeme)) → Type 0
AreNamedAfter text cut_after tokens_after = (n : ℕ) (tokens : List Token) (lexemes : List Lexeme) → cut_after n ≡ Ok tokens → tokens_after n ≡ Some lexemes → AllZip (IsNamedAt text) tokens lexemes

named_token : (text : List ℕ) (t : Token) (l : Lexeme) (cut : Cut) (later : Option (List Lexeme)) (tokens : List Token) (lexemes : List Lexeme) → IsNamedAt text t l
    → ((tokens : List Token) (lexemes : List Lexeme) → cut ≡ Ok tokens → later ≡ Some lexemes → AllZip (IsNamedAt text) tokens lexemes)
    → behind (t ∷ []) cut ≡ Ok tokens → option_map (λ ls. l ∷ ls) later ≡ Some lexemes → AllZip (IsNamedAt text) tokens lexemes
named_token text t l (Err fault) later tokens lexemes one after is read = absurd (cc)
named_token text t l (Ok more) None tokens lexemes one after is read = absurd (cc)
named_token text t l (Ok more) (Some rest) tokens lexemes one after is read =
    let all : t ∷ more ≡ tokens = cc in
    let whole : l ∷ rest ≡ lexemes = cc in
    subst (λ ts. AllZip (IsNamedAt text) ts lexemes) all (subst (λ ls. AllZip (IsNamedAt text) (t ∷ more) ls) whole (one, after more rest refl refl))

named_found : (f : Found) (text : List ℕ) (first place : ℕ) (rest back : List ℕ) (cut_after : ℕ → Cut) (tokens_after : ℕ → Option (List Lexeme)) (tokens : List Token) (lexemes : List Lexeme)
    → found (start_of first) first rest ≡ f → drop place text ≡ first ∷ (rest ++ back) → is_stopped is_word_byte back ≡ true → AreNamedAfter text cut_after tokens_after
    → cut_from f first place cut_after ≡ Ok tokens → tokens_from f first tokens_after ≡ Some lexemes → AllZip (IsNamedAt text) tokens lexemes
named_found FoundBlank text first place rest back cut_after tokens_after tokens lexemes own at stopped after is read = after 0 tokens lexemes is read
named_found FoundComment text first place rest back cut_after tokens_after tokens lexemes own at stopped after is read =
    let none : [] ≡ tokens = cc in
    let empty : [] ≡ lexemes = cc in
    subst (λ ts. AllZip (IsNamedAt text) ts lexemes) none (subst (λ ls. AllZip (IsNamedAt text) [] ls) empty tt)
named_found (FoundToken kind more) text first place rest back cut_after tokens_after tokens lexemes own at stopped after is read = chosen (is_too_great kind (first ∷ more)) is
  where
    one : IsNamedAt text (token_at kind place (suc (length more))) (lexeme kind (first ∷ more))
    one = record {
      named = λ global.
          ap (run_of is_word_byte) (drop_next place text (rest ++ back) first at) ∙ (run_stopped rest back stopped ∙ sym (global_run (start_of first) first rest kind more own global));
    }

    chosen : (great : Bool) → (if great then Err (TooGreat place) else behind (token_at kind place (suc (length more)) ∷ []) (cut_after (length more))) ≡ Ok tokens → AllZip (IsNamedAt text) tokens lexemes
    chosen true is = absurd (cc)
    chosen false is =
        named_token text (token_at kind place (suc (length more))) (lexeme kind (first ∷ more)) (cut_after (length more)) (tokens_after (length more)) tokens lexemes one (after (length more)) is read
named_found FoundNothing text first place rest back cut_after tokens_after tokens lexemes own at stopped after is read = absurd (cc)

named_past : (text : List ℕ) (place : ℕ) (line back : List ℕ) (skipped : ℕ) (tokens : List Token) (lexemes : List Lexeme) → drop place text ≡ line ++ back → is_stopped is_word_byte back ≡ true
    → cut_past place line skipped ≡ Ok tokens → tokens_past line skipped ≡ Some lexemes → AllZip (IsNamedAt text) tokens lexemes
named_past text place [] back skipped tokens lexemes at stopped is read =
    let none : [] ≡ tokens = cc in
    let empty : [] ≡ lexemes = cc in
    subst (λ ts. AllZip (IsNamedAt text) ts lexemes) none (subst (λ ls. AllZip (IsNamedAt text) [] ls) empty tt)
named_past text place (byte ∷ rest) back zero tokens lexemes at stopped is read =
    named_found (found (start_of byte) byte rest) text byte place rest back (cut_past (suc place) rest) (tokens_past rest) tokens lexemes refl at stopped
    (λ n more later. named_past text (suc place) rest back n more later (drop_next place text (rest ++ back) byte at) stopped) is read
named_past text place (byte ∷ rest) back (suc skipped) tokens lexemes at stopped is read =
    named_past text (suc place) rest back skipped tokens lexemes (drop_next place text (rest ++ back) byte at) stopped is read

-- ══ The names of a line ══

names_of-tokens : (text : List ℕ) (tokens : List Token) → AllZip (IsNamedAt text) tokens (map (lexeme_in text) tokens)
    → map (name_of_token text) (name_places (map (item_of text) tokens)) ≡ names_shown (map (lexeme_in text) tokens)
names_of-tokens text [] all = refl
names_of-tokens text (t ∷ tokens) all = chosen (is_global_kind l.kind) refl all.0 (names_of-tokens text tokens all.1)
  where
    l : Lexeme
    l = lexeme_in text t

    chosen : (global : Bool) → is_global_kind l.kind ≡ global → IsNamedAt text t l
        → map (name_of_token text) (name_places (map (item_of text) tokens)) ≡ names_shown (map (lexeme_in text) tokens)
        → map (name_of_token text) (name_places (map (item_of text) (t ∷ tokens))) ≡ names_shown (map (lexeme_in text) (t ∷ tokens))
    chosen true is one later =
        let named : what_of l ≡ what.Global = ap (λ kind. what_by kind l.bytes) (global_kind l.kind is) in
        let here : name_place (item_of text t) (what_of l) ≡ Some t.start = ap (name_place (item_of text t)) named in
        let shown : name_shown l ≡ Some (drop 1 l.bytes) = ap (λ w. name_by w l.bytes) named in
        rw (here, shown) (cc (one.named is, later))
    chosen false is one later =
        let quiet : names_nothing (what_of l) ≡ true = quiet_kind l.kind l.bytes is in
        let here : name_place (item_of text t) (what_of l) ≡ None = no_place (item_of text t) (what_of l) quiet in
        let shown : name_shown l ≡ None = no_name (what_of l) l.bytes quiet in
        rw (here, shown) later

pub names_in_line : (text : List ℕ) (line : Line) (bytes : List ℕ) (tokens : List Token) → IsLine text line bytes → cut_of text line.start (end_of line) ≡ Ok tokens
    → map (name_of_token text) (name_places (map (item_of text) tokens)) ≡ names_shown (map (lexeme_in text) tokens)
names_in_line text line bytes tokens is cut =
    let here : drop line.start text ≡ slice line.start (end_of line) text ++ is.rest = is.at ∙ ap (λ own. own ++ is.rest) (sym (line_slice text line bytes is)) in
    names_of-tokens text tokens
    (named_past text line.start (slice line.start (end_of line) text) is.rest 0 tokens (map (lexeme_in text) tokens) here is.ends cut (table_of text line.start (end_of line) tokens cut))
