-- What comes next in a line.
use Rattle.std.proofs.Common.{◌≡◌, ℕ, ◌+◌, ◌-◌, Bool, true, false, [], ◌∷◌, List, length, take, drop, refl, sym, ap, ◌∙◌, arith}
use Rattle.std.specs.Prelude.{Err, if◌then◌else◌, is_err}
use Rattle.std.proofs.lemmas.List.{drop-drop}
use Rattle.gi_text.specs.declared.step.Step.TheVariants as step
use Rattle.gi_text.specs.declared.token.Token.{Token}
use Rattle.gi_text.specs.declared.token.TokenKind.{TokenKind}
use Rattle.gi_text.specs.Kinds.{lexeme_kind}
use Rattle.gi_text.specs.Numbers.{is_too_great}
use Rattle.gi_text.specs.Steps.{step_at}
use Rattle.gi_text.specs.Cutting.{TooGreat, behind, cut_line, cut_past_place, slice}
use Rattle.gi_text.proofs.CutLemmas.{cut_at}

slice_at : (bytes : List ℕ) (place more : ℕ) → slice place (place + more + 1) bytes ≡ take (more + 1) (drop place bytes)
slice_at bytes place more = let size : place + more + 1 - place ≡ more + 1 = omega arith in ap (λ n. take n (drop place bytes)) size

past : (bytes : List ℕ) (place count : ℕ) → cut_line (place + count) (drop count (drop place bytes)) ≡ cut_past_place bytes (place + count)
past bytes place count = ap (cut_line (place + count)) (drop-drop count place bytes)

-- only a blank stands between
pub past_blank : (bytes : List ℕ) (place : ℕ) → step.Blank ≡ step_at (drop place bytes) → cut_past_place bytes (place + 1) ≡ cut_past_place bytes place
past_blank bytes place is = sym (past bytes place 1) ∙ sym (cut_at step.Blank place (drop place bytes) is)

pub at_great : (bytes : List ℕ) (place more : ℕ) (kind : TokenKind) → step.Token kind more ≡ step_at (drop place bytes)
    → is_too_great (lexeme_kind kind) (slice place (place + more + 1) bytes) ≡ true → is_err (cut_past_place bytes place) ≡ true
at_great bytes place more kind is great =
    let taken : is_too_great (lexeme_kind kind) (take (more + 1) (drop place bytes)) ≡ true = ap (is_too_great (lexeme_kind kind)) (sym (slice_at bytes place more)) ∙ great in
    ap is_err (cut_at (step.Token kind more) place (drop place bytes) is) ∙ rw taken refl

abbrev token_to : TokenKind → (place end : ℕ) → Token
token_to kind place end = record { kind = kind; start = place; end = end }

pub at_token : (bytes : List ℕ) (place more : ℕ) (kind : TokenKind) → step.Token kind more ≡ step_at (drop place bytes)
    → is_too_great (lexeme_kind kind) (slice place (place + more + 1) bytes) ≡ false
    → cut_past_place bytes place ≡ behind (token_to kind place (place + more + 1) ∷ []) (cut_past_place bytes (place + more + 1))
at_token bytes place more kind is fits =
    let taken : is_too_great (lexeme_kind kind) (take (more + 1) (drop place bytes)) ≡ false = ap (is_too_great (lexeme_kind kind)) (sym (slice_at bytes place more)) ∙ fits in
    let end : place + (more + 1) ≡ place + more + 1 = omega arith in
    cut_at (step.Token kind more) place (drop place bytes) is
    ∙ rw taken (ap (behind (token_to kind place (place + (more + 1)) ∷ [])) (past bytes place (more + 1)))
    ∙ ap (λ e. behind (token_to kind place e ∷ []) (cut_past_place bytes e)) end
