use Rattle.std.proofs.Common.{ℕ, List, ◌∙◌, ap}
use Rattle.std.specs.Prelude.{bytes_eq, find, option_map}
use Rattle.std.specs.Borrow.{Bor}
use Rattle.gi_spelling.specs.declared.token.Word.{Word}
use Rattle.gi_mir_read.proofs.TableLemmas.{find-map}
use Rattle.gi_mir_read.proofs.line.word.fixed_word_among.Goals as goal

pub returns : goal.returns
returns c =
    let seen : Bor (List ℕ) × Word → List ℕ × Word = λ entry. (entry.0.now, entry.1) in
    c.look_up.ensures ∙ find-map seen (λ entry. bytes_eq entry.0 c.args.bytes.now) (λ entry. entry.1) c.words.result.now
    ∙ ap (λ table. option_map (λ entry. entry.1) (find (λ entry. bytes_eq entry.0 c.args.bytes.now) table)) c.words.ensures
