use Rattle.std.proofs.Common.{ℕ, List, Option, ap, sym, ◌∙◌}
use Rattle.std.specs.Prelude.{codes}
use Rattle.gi_text.specs.declared.token.Token.{Token}
use Rattle.gi_mir_read.specs.Triples.{behind_spelling, last_quoted, told_by, triple_told}
use Rattle.gi_mir_read.proofs.Texts.TripleLemmas.{whole}
use Rattle.gi_mir_read.proofs.text.triples.triple_in.Goals as goal

-- what the tokens behind `triple` tell, and those behind `target`
abbrev told_behind_triple : (line : List ℕ) → List Token → Option Token
told_behind_triple line = behind_spelling line (codes "=") last_quoted

abbrev told_behind_target : (line : List ℕ) → List Token → Option Token
told_behind_target line = behind_spelling line (codes "triple") (told_behind_triple line)

pub returns-in_err-target : goal.returns-in_err-target
returns-in_err-target c =
    let line = c.args.line.now in
    c.from_residual.ensures ∙ sym (ap (told_by (triple_told line)) (whole line) ∙ c.in_err-target.ensures.behind (told_behind_target line))

pub returns-in_err-triple : goal.returns-in_err-triple
returns-in_err-triple c =
    let line = c.args.line.now in
    c.from_residual-in_err-triple.ensures
    ∙ sym (ap (told_by (triple_told line)) (whole line) ∙ c.in_ok-target.ensures.behind (told_behind_target line) ∙ c.in_err-triple.ensures.behind (told_behind_triple line))

pub returns-in_err-equals : goal.returns-in_err-equals
returns-in_err-equals c =
    let line = c.args.line.now in
    c.from_residual-in_err-equals.ensures
    ∙ sym (ap (told_by (triple_told line)) (whole line) ∙ c.in_ok-target.ensures.behind (told_behind_target line)
    ∙ c.in_ok-triple.ensures.behind (told_behind_triple line) ∙ c.in_err-equals.ensures.behind last_quoted)
