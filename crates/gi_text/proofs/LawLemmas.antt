-- The tokens that a line is cut into are those of the table of tokens, and slices of the text.
use Rattle.std.proofs.Common.{◌≡◌, ℕ, zero, suc, ◌+◌, ◌-◌, ◌<◌, ◌≤◌, Bool, true, false, List, [], ◌∷◌, ◌++◌, length, take, drop, map, Option, Some, None, refl, sym, ap, ◌∙◌, subst, arith, append_assoc, length-append, length-drop}
use Rattle.std.specs.Prelude.{Ok, Err, if◌then◌else◌, option_map, All, min}
use Rattle.std.proofs.lemmas.List.{take-append-drop, length-take}
use Rattle.std.proofs.Math.Seq.{take-append_seam}
use Rattle.gi_llt.specs.Tokens.{LexemeKind, Lexeme, lexeme, start_of, Found, FoundBlank, FoundComment, FoundToken, FoundNothing, found, tokens_from, tokens_past, tokens_of}
use Rattle.gi_text.specs.declared.token.Token.{Token}
use Rattle.gi_text.specs.Numbers.{is_too_great}
use Rattle.gi_text.specs.Cutting.{Fault, NoToken, TooGreat, Cut, behind, token_at, cut_from, cut_past, slice, cut_of, lexeme_in, IsSlice, IsSized}
use Rattle.gi_text.proofs.StepLemmas.{IsFront, front_found}
use Rattle.gi_text.proofs.CutLemmas.{lexeme_kind-of}

drop_next : (n : ℕ) (xs ys : List ℕ) (x : ℕ) → drop n xs ≡ x ∷ ys → drop (suc n) xs ≡ ys
drop_next zero [] ys x is = cc
drop_next zero (z ∷ xs) ys x is = cc
drop_next (suc n) [] ys x is = cc
drop_next (suc n) (z ∷ xs) ys x is = drop_next n xs ys x is

-- a token's bytes in the text
lexeme_at : (text : List ℕ) (kind : LexemeKind) (first place : ℕ) (more later : List ℕ) → drop place text ≡ first ∷ (more ++ later)
    → lexeme kind (first ∷ more) ≡ lexeme_in text (token_at kind place (suc (length more)))
lexeme_at text kind first place more later at =
    let size : place + suc (length more) - place ≡ suc (length more) = omega arith in
    let bytes : take (place + suc (length more) - place) (drop place text) ≡ first ∷ more =
    (rw (size, at) (ap (λ ys. first ∷ ys) (take-append_seam more later))) in
    rw (bytes, lexeme_kind-of kind) refl

-- what the tokens of the rest are, where the text goes on with them
abbrev AreAfter : (text : List ℕ) (cut_after : ℕ → Cut) (tokens_after : ℕ → Option (List Lexeme)) → Type 0
AreAfter text cut_after tokens_after = (n : ℕ) (tokens : List Token) → cut_after n ≡ Ok tokens → tokens_after n ≡ Some (map (lexeme_in text) tokens)

table_token : (text : List ℕ) (t : Token) (l : Lexeme) (tokens : List Token) (cut : Cut) (lexemes : Option (List Lexeme)) → l ≡ lexeme_in text t
    → ((later : List Token) → cut ≡ Ok later → lexemes ≡ Some (map (lexeme_in text) later)) → behind (t ∷ []) cut ≡ Ok tokens
    → option_map (λ ls. l ∷ ls) lexemes ≡ Some (map (lexeme_in text) tokens)
table_token text t l tokens (Err fault) lexemes same after is = cc
table_token text t l tokens (Ok later) lexemes same after is =
    let all : t ∷ later ≡ tokens = cc in
    rw (after later refl) (ap Some (ap (λ x. x ∷ map (lexeme_in text) later) same ∙ ap (map (lexeme_in text)) all))

table_found : (f : Found) (text : List ℕ) (first place : ℕ) (rest back : List ℕ) (cut_after : ℕ → Cut) (tokens_after : ℕ → Option (List Lexeme)) (tokens : List Token)
    → IsFront f rest → drop place text ≡ first ∷ (rest ++ back) → AreAfter text cut_after tokens_after
    → cut_from f first place cut_after ≡ Ok tokens → tokens_from f first tokens_after ≡ Some (map (lexeme_in text) tokens)
table_found FoundBlank text first place rest back cut_after tokens_after tokens front at after is = after 0 tokens is
table_found FoundComment text first place rest back cut_after tokens_after tokens front at after is = let none : [] ≡ tokens = cc in ap (λ ts. Some (map (lexeme_in text) ts)) none
table_found (FoundToken kind more) text first place rest back cut_after tokens_after tokens front at after is = chosen (is_too_great kind (first ∷ more)) is
  where
    whole : drop place text ≡ first ∷ (more ++ (front.0 ++ back))
    whole = at ∙ ap (λ ys. first ∷ ys) (ap (λ ys. ys ++ back) front.1 ∙ append_assoc more front.0 back)

    chosen : (great : Bool) → (if great then Err (TooGreat place) else behind (token_at kind place (suc (length more)) ∷ []) (cut_after (length more))) ≡ Ok tokens
        → option_map (λ ls. lexeme kind (first ∷ more) ∷ ls) (tokens_after (length more)) ≡ Some (map (lexeme_in text) tokens)
    chosen true is = cc
    chosen false is =
        table_token text (token_at kind place (suc (length more))) (lexeme kind (first ∷ more)) tokens (cut_after (length more)) (tokens_after (length more))
        (lexeme_at text kind first place more (front.0 ++ back) whole) (after (length more)) is
table_found FoundNothing text first place rest back cut_after tokens_after tokens front at after is = cc

table_past : (text : List ℕ) (place : ℕ) (line back : List ℕ) (skipped : ℕ) (tokens : List Token) → drop place text ≡ line ++ back
    → cut_past place line skipped ≡ Ok tokens → tokens_past line skipped ≡ Some (map (lexeme_in text) tokens)
table_past text place [] back skipped tokens at is = let none : [] ≡ tokens = cc in ap (λ ts. Some (map (lexeme_in text) ts)) none
table_past text place (byte ∷ rest) back zero tokens at is =
    table_found (found (start_of byte) byte rest) text byte place rest back (cut_past (suc place) rest) (tokens_past rest) tokens
    (front_found (start_of byte) byte rest) at (λ n later. table_past text (suc place) rest back n later (drop_next place text (rest ++ back) byte at)) is
table_past text place (byte ∷ rest) back (suc skipped) tokens at is = table_past text (suc place) rest back skipped tokens (drop_next place text (rest ++ back) byte at) is

pub table_of : (text : List ℕ) (start end : ℕ) (tokens : List Token) → cut_of text start end ≡ Ok tokens → tokens_of (slice start end text) ≡ Some (map (lexeme_in text) tokens)
table_of text start end tokens is =
    table_past text start (slice start end text) (drop (end - start) (drop start text)) 0 tokens (sym (take-append-drop (end - start) (drop start text))) is

-- no tokens where a byte begins none
behind_fault : (tokens : List Token) (cut : Cut) (fault : Fault) → behind tokens cut ≡ Err fault → cut ≡ Err fault
behind_fault tokens (Ok later) fault is = cc
behind_fault tokens (Err other) fault is = cc

none_found : (f : Found) (first place at : ℕ) (cut_after : ℕ → Cut) (tokens_after : ℕ → Option (List Lexeme)) → ((n : ℕ) → cut_after n ≡ Err (NoToken at) → tokens_after n ≡ None)
    → cut_from f first place cut_after ≡ Err (NoToken at) → tokens_from f first tokens_after ≡ None
none_found FoundBlank first place at cut_after tokens_after after is = after 0 is
none_found FoundComment first place at cut_after tokens_after after is = cc
none_found (FoundToken kind more) first place at cut_after tokens_after after is = chosen (is_too_great kind (first ∷ more)) is
  where
    chosen : (great : Bool) → (if great then Err (TooGreat place) else behind (token_at kind place (suc (length more)) ∷ []) (cut_after (length more))) ≡ Err (NoToken at)
        → option_map (λ ls. lexeme kind (first ∷ more) ∷ ls) (tokens_after (length more)) ≡ None
    chosen true is = cc
    chosen false is = rw (after (length more) (behind_fault (token_at kind place (suc (length more)) ∷ []) (cut_after (length more)) (NoToken at) is)) refl
none_found FoundNothing first place at cut_after tokens_after after is = refl

none_past : (place at : ℕ) (line : List ℕ) (skipped : ℕ) → cut_past place line skipped ≡ Err (NoToken at) → tokens_past line skipped ≡ None
none_past place at [] skipped is = cc
none_past place at (byte ∷ rest) zero is =
    none_found (found (start_of byte) byte rest) byte place at (cut_past (suc place) rest) (tokens_past rest) (λ n. none_past (suc place) at rest n) is
none_past place at (byte ∷ rest) (suc skipped) is = none_past (suc place) at rest skipped is

pub none_of : (text : List ℕ) (start end place : ℕ) → cut_of text start end ≡ Err (NoToken place) → tokens_of (slice start end text) ≡ None
none_of text start end place is = none_past start place (slice start end text) 0 is

-- each token is a slice of the text
all_front : (text : List ℕ) (token : Token) (tokens : List Token) → IsSlice text token → All (IsSlice text) tokens → All (IsSlice text) (token ∷ tokens)
all_front text token tokens first later zero d within = first
all_front text token tokens first later (suc k) d within = later k d (omega (arith, within))

slices_token : (text : List ℕ) (t : Token) (tokens : List Token) (cut : Cut) → IsSlice text t → ((later : List Token) → cut ≡ Ok later → All (IsSlice text) later)
    → behind (t ∷ []) cut ≡ Ok tokens → All (IsSlice text) tokens
slices_token text t tokens (Err fault) first after is = cc
slices_token text t tokens (Ok later) first after is =
    let all : t ∷ later ≡ tokens = cc in subst (All (IsSlice text)) all (all_front text t later first (after later refl))

none_slices : (text : List ℕ) → All (IsSlice text) []
none_slices text k d within = absurd (let no : k < 0 = within in omega arith)

slices_found : (f : Found) (text : List ℕ) (first place : ℕ) (rest : List ℕ) (cut_after : ℕ → Cut) (tokens : List Token) → IsFront f rest
    → place + suc (length rest) ≤ length text → ((n : ℕ) (later : List Token) → cut_after n ≡ Ok later → All (IsSlice text) later)
    → cut_from f first place cut_after ≡ Ok tokens → All (IsSlice text) tokens
slices_found FoundBlank text first place rest cut_after tokens front within after is = after 0 tokens is
slices_found FoundComment text first place rest cut_after tokens front within after is = let none : [] ≡ tokens = cc in subst (All (IsSlice text)) none (none_slices text)
slices_found (FoundToken kind more) text first place rest cut_after tokens front within after is = chosen (is_too_great kind (first ∷ more)) is
  where
    lengths : length rest ≡ length more + length front.0
    lengths = ap length front.1 ∙ length-append more front.0

    chosen : (great : Bool) → (if great then Err (TooGreat place) else behind (token_at kind place (suc (length more)) ∷ []) (cut_after (length more))) ≡ Ok tokens → All (IsSlice text) tokens
    chosen true is = cc
    chosen false is =
        slices_token text (token_at kind place (suc (length more))) tokens (cut_after (length more)) (record { ordered = omega arith; within = omega (arith, lengths, within) })
        (after (length more)) is
slices_found FoundNothing text first place rest cut_after tokens front within after is = cc

slices_past : (text : List ℕ) (place : ℕ) (line : List ℕ) (skipped : ℕ) (tokens : List Token) → place + length line ≤ length text → cut_past place line skipped ≡ Ok tokens
    → All (IsSlice text) tokens
slices_past text place [] skipped tokens within is = let none : [] ≡ tokens = cc in subst (All (IsSlice text)) none (none_slices text)
slices_past text place (byte ∷ rest) zero tokens within is =
    slices_found (found (start_of byte) byte rest) text byte place rest (cut_past (suc place) rest) tokens (front_found (start_of byte) byte rest) within
    (λ n later. slices_past text (suc place) rest n later (omega (arith, within))) is
slices_past text place (byte ∷ rest) (suc skipped) tokens within is = slices_past text (suc place) rest skipped tokens (omega (arith, within)) is

pub slices_of : (text : List ℕ) (start end : ℕ) (tokens : List Token) → start ≤ end → end ≤ length text → cut_of text start end ≡ Ok tokens → All (IsSlice text) tokens
slices_of text start end tokens ordered within is =
    let lengths : length (slice start end text) ≡ min (end - start) (length text - start) = length-take (end - start) (drop start text) ∙ ap (min (end - start)) (length-drop start text) in
    slices_past text start (slice start end text) 0 tokens (omega (arith, lengths, ordered, within)) is

-- no token is a number that is too great
sized_front : (text : List ℕ) (token : Token) (tokens : List Token) → IsSized text token → All (IsSized text) tokens → All (IsSized text) (token ∷ tokens)
sized_front text token tokens first later zero d within = first
sized_front text token tokens first later (suc k) d within = later k d (omega (arith, within))

none_sized : (text : List ℕ) → All (IsSized text) []
none_sized text k d within = absurd (let no : k < 0 = within in omega arith)

sized_token : (text : List ℕ) (t : Token) (tokens : List Token) (cut : Cut) → IsSized text t → ((later : List Token) → cut ≡ Ok later → All (IsSized text) later)
    → behind (t ∷ []) cut ≡ Ok tokens → All (IsSized text) tokens
sized_token text t tokens (Err fault) first after is = cc
sized_token text t tokens (Ok later) first after is = let all : t ∷ later ≡ tokens = cc in subst (All (IsSized text)) all (sized_front text t later first (after later refl))

sized_found : (f : Found) (text : List ℕ) (first place : ℕ) (rest back : List ℕ) (cut_after : ℕ → Cut) (tokens : List Token) → IsFront f rest
    → drop place text ≡ first ∷ (rest ++ back) → ((n : ℕ) (later : List Token) → cut_after n ≡ Ok later → All (IsSized text) later)
    → cut_from f first place cut_after ≡ Ok tokens → All (IsSized text) tokens
sized_found FoundBlank text first place rest back cut_after tokens front at after is = after 0 tokens is
sized_found FoundComment text first place rest back cut_after tokens front at after is = let none : [] ≡ tokens = cc in subst (All (IsSized text)) none (none_sized text)
sized_found (FoundToken kind more) text first place rest back cut_after tokens front at after is = chosen (is_too_great kind (first ∷ more)) refl is
  where
    whole : drop place text ≡ first ∷ (more ++ (front.0 ++ back))
    whole = at ∙ ap (λ ys. first ∷ ys) (ap (λ ys. ys ++ back) front.1 ∙ append_assoc more front.0 back)

    same : lexeme kind (first ∷ more) ≡ lexeme_in text (token_at kind place (suc (length more)))
    same = lexeme_at text kind first place more (front.0 ++ back) whole

    chosen : (great : Bool) → is_too_great kind (first ∷ more) ≡ great
        → (if great then Err (TooGreat place) else behind (token_at kind place (suc (length more)) ∷ []) (cut_after (length more))) ≡ Ok tokens → All (IsSized text) tokens
    chosen true great is = cc
    chosen false great is =
        sized_token text (token_at kind place (suc (length more))) tokens (cut_after (length more))
        (record { sized = sym (ap (λ l. is_too_great l.kind l.bytes) same) ∙ great }) (after (length more)) is
sized_found FoundNothing text first place rest back cut_after tokens front at after is = cc

sized_past : (text : List ℕ) (place : ℕ) (line back : List ℕ) (skipped : ℕ) (tokens : List Token) → drop place text ≡ line ++ back → cut_past place line skipped ≡ Ok tokens
    → All (IsSized text) tokens
sized_past text place [] back skipped tokens at is = let none : [] ≡ tokens = cc in subst (All (IsSized text)) none (none_sized text)
sized_past text place (byte ∷ rest) back zero tokens at is =
    sized_found (found (start_of byte) byte rest) text byte place rest back (cut_past (suc place) rest) tokens (front_found (start_of byte) byte rest) at
    (λ n later. sized_past text (suc place) rest back n later (drop_next place text (rest ++ back) byte at)) is
sized_past text place (byte ∷ rest) back (suc skipped) tokens at is = sized_past text (suc place) rest back skipped tokens (drop_next place text (rest ++ back) byte at) is

pub sized_of : (text : List ℕ) (start end : ℕ) (tokens : List Token) → cut_of text start end ≡ Ok tokens → All (IsSized text) tokens
sized_of text start end tokens is =
    sized_past text start (slice start end text) (drop (end - start) (drop start text)) 0 tokens (sym (take-append-drop (end - start) (drop start text))) is
