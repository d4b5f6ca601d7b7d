-- A line is cut step by step.
use Rattle.std.proofs.Common.{◌≡◌, ℕ, zero, suc, ◌+◌, true, false, List, [], ◌∷◌, ◌++◌, length, take, drop, refl, sym, ap, ◌∙◌, subst, arith, add-one, append_assoc}
use Rattle.std.specs.Prelude.{Ok, Err, if◌then◌else◌}
use Rattle.std.proofs.lemmas.List.{append-nil}
use Rattle.std.proofs.Math.Seq.{take-append_seam}
use Rattle.gi_llt.specs.Tokens.{LexemeKind, Word, Number, Register, Physical, Global, Routine, Quoted, Metadata, Mark, start_of, Found, FoundBlank, FoundComment, FoundToken, FoundNothing, found}
use Rattle.gi_text.specs.declared.step.Step.{Step}
use Rattle.gi_text.specs.declared.step.Step.TheVariants as step
use Rattle.gi_text.specs.declared.token.Token.{Token}
use Rattle.gi_text.specs.declared.token.TokenKind.{TokenKind}
use Rattle.gi_text.specs.declared.token.LineError.TheVariants.{BadNumber}
use Rattle.gi_text.specs.Kinds.{kind_of, lexeme_kind}
use Rattle.gi_text.specs.Numbers.{is_too_great}
use Rattle.gi_text.specs.Steps.{step_of, step_at}
use Rattle.gi_text.specs.Cutting.{NoToken, TooGreat, Cut, behind, cut_from, cut_past, cut_line, told_place, IsFaultOf}
use Rattle.gi_text.proofs.StepLemmas.{IsFront, front_found}

-- bytes that are skipped are dropped
pub cut_past-drop : (place : ℕ) (line : List ℕ) (n : ℕ) → cut_past place line n ≡ cut_line (place + n) (drop n line)
cut_past-drop place [] zero = refl
cut_past-drop place [] (suc n) = refl
cut_past-drop place (byte ∷ rest) zero =
    let same : place ≡ place + 0 = omega arith in
    ap (λ p. cut_line p (byte ∷ rest)) same
cut_past-drop place (byte ∷ rest) (suc n) =
    let same : suc place + n ≡ place + suc n = omega arith in
    cut_past-drop (suc place) rest n ∙ ap (λ p. cut_line p (drop n rest)) same

pub lexeme_kind-of : (kind : LexemeKind) → lexeme_kind (kind_of kind) ≡ kind
lexeme_kind-of Word = refl
lexeme_kind-of Number = refl
lexeme_kind-of Register = refl
lexeme_kind-of Physical = refl
lexeme_kind-of Global = refl
lexeme_kind-of Routine = refl
lexeme_kind-of Quoted = refl
lexeme_kind-of Metadata = refl
lexeme_kind-of Mark = refl

abbrev pub token_from : TokenKind → (place size : ℕ) → Token
token_from kind place size = record { kind = kind; start = place; end = place + size }

-- the cut of a line by what stands at its front
abbrev pub cut_by : Step → (place : ℕ) → List ℕ → Cut
cut_by step.Blank place line = cut_line (place + 1) (drop 1 line)
cut_by step.End place line = Ok []
cut_by (step.Token kind more) place line =
    if is_too_great (lexeme_kind kind) (take (more + 1) line) then Err (TooGreat place)
    else behind (token_from kind place (more + 1) ∷ []) (cut_line (place + (more + 1)) (drop (more + 1) line))
cut_by step.Nothing place line = Err (NoToken place)

cut_token : (kind : LexemeKind) (first place : ℕ) (more later : List ℕ)
    → cut_from (FoundToken kind more) first place (cut_past (suc place) (more ++ later)) ≡ cut_by (step.Token (kind_of kind) (length more)) place (first ∷ (more ++ later))
cut_token kind first place more later =
    let front : take (length more + 1) (first ∷ (more ++ later)) ≡ first ∷ more = rw (add-one (length more)) (ap (λ ys. first ∷ ys) (take-append_seam more later)) in
    let past : cut_past (suc place) (more ++ later) (length more) ≡ cut_line (place + suc (length more)) (drop (suc (length more)) (first ∷ (more ++ later))) =
    (let same : suc place + length more ≡ place + suc (length more) = omega arith in
    cut_past-drop (suc place) (more ++ later) (length more) ∙ ap (λ p. cut_line p (drop (length more) (more ++ later))) same) in
    rw (front, lexeme_kind-of kind, past, add-one (length more)) refl

cut_found : (f : Found) (first place : ℕ) (rest : List ℕ) → IsFront f rest → cut_from f first place (cut_past (suc place) rest) ≡ cut_by (step_of f) place (first ∷ rest)
cut_found FoundBlank first place rest front = ap (λ p. cut_line p rest) (sym (add-one place))
cut_found FoundComment first place rest front = refl
cut_found (FoundToken kind more) first place rest front =
    let P : List ℕ → Type 0 = λ ys. cut_from (FoundToken kind more) first place (cut_past (suc place) ys) ≡ cut_by (step.Token (kind_of kind) (length more)) place (first ∷ ys) in
    subst P (sym front.1) (cut_token kind first place more front.0)
cut_found FoundNothing first place rest front = refl

pub cut_step : (place : ℕ) (line : List ℕ) → cut_line place line ≡ cut_by (step_at line) place line
cut_step place [] = refl
cut_step place (first ∷ rest) = cut_found (found (start_of first) first rest) first place rest (front_found (start_of first) first rest)

pub cut_at : (s : Step) (place : ℕ) (line : List ℕ) → s ≡ step_at line → cut_line place line ≡ cut_by s place line
cut_at s place line is = cut_step place line ∙ ap (λ t. cut_by t place line) (sym is)

pub behind_one_more : (tokens : List Token) (token : Token) (cut : Cut) → behind (tokens ++ token ∷ []) cut ≡ behind tokens (behind (token ∷ []) cut)
behind_one_more tokens token (Ok later) = ap Ok (append_assoc tokens (token ∷ []) later)
behind_one_more tokens token (Err fault) = refl

-- the steps of the loop
pub at_end : (tokens : List Token) (place : ℕ) (rest : List ℕ) (whole : Cut) → step.End ≡ step_at rest → behind tokens (cut_line place rest) ≡ whole → whole ≡ Ok tokens
at_end tokens place rest whole is cut = sym cut ∙ ap (behind tokens) (cut_at step.End place rest is) ∙ ap Ok (append-nil tokens)

pub after_token : (tokens more_tokens : List Token) (kind : TokenKind) (more place : ℕ) (rest : List ℕ) (whole : Cut) → step.Token kind more ≡ step_at rest
    → is_too_great (lexeme_kind kind) (take (more + 1) rest) ≡ false → more_tokens ≡ tokens ++ token_from kind place (more + 1) ∷ []
    → behind tokens (cut_line place rest) ≡ whole → behind more_tokens (cut_line (place + (more + 1)) (drop (more + 1) rest)) ≡ whole
after_token tokens more_tokens kind more place rest whole is fits added cut =
    let later = cut_line (place + (more + 1)) (drop (more + 1) rest) in
    let here : cut_line place rest ≡ behind (token_from kind place (more + 1) ∷ []) later = cut_at (step.Token kind more) place rest is ∙ rw fits refl in
    ap (λ ts. behind ts later) added ∙ behind_one_more tokens (token_from kind place (more + 1)) later ∙ ap (behind tokens) (sym here) ∙ cut

pub at_great : (tokens : List Token) (kind : TokenKind) (more place line start : ℕ) (rest : List ℕ) (whole : Cut) → step.Token kind more ≡ step_at rest
    → is_too_great (lexeme_kind kind) (take (more + 1) rest) ≡ true → behind tokens (cut_line place rest) ≡ whole
    → IsFaultOf whole line start (BadNumber (told_place line start place))
at_great tokens kind more place line start rest whole is great cut =
    let here : cut_line place rest ≡ Err (TooGreat place) = cut_at (step.Token kind more) place rest is ∙ rw great refl in
    subst (λ w. IsFaultOf w line start (BadNumber (told_place line start place))) (sym (ap (behind tokens) here) ∙ cut) refl
