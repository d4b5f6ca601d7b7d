use Rattle.std.proofs.Common.{sym, ◌∙◌}
use Rattle.std.specs.Prelude.{codes}
use Rattle.gi_spelling.specs.Documents.{is_missing}
use Rattle.gi_mir_read.proofs.Documents.KeyLemmas.{missing_noted, none_missing, or_left, or_right}
use Rattle.gi_mir_read.proofs.document.stated.note_missing.Goals as goal
use Rattle.gi_mir_read.proofs.document.stated.note_missing.Goals.{then-name_missing-via-then-name_missing, then-name_missing-via-else-name_missing+then-body_missing}

pub returns-then-name_missing : goal.returns-then-name_missing
returns-then-name_missing c = λ text sections are.
    missing_noted (is_missing (codes "name") sections) (is_missing (codes "body") sections) c.args.end c.args.lowest.now c.note.new.self
    (elim c.then-name_missing.branch [
      | then-name_missing-via-then-name_missing w ↦ or_left _ _ (sym (c.is_missing-name_missing.ensures text sections are) ∙ w.if-name_missing.true)
      | then-name_missing-via-else-name_missing+then-body_missing w ↦ or_right _ _ (sym (c.is_missing-body_missing.ensures text sections are) ∙ w.if-body_missing.true)
    ])
    c.note.ensures

pub returns-else-body_missing : goal.returns-else-body_missing
returns-else-body_missing c = λ text sections are.
    none_missing (is_missing (codes "name") sections) (is_missing (codes "body") sections) c.args.end c.args.lowest.now
    (sym (c.is_missing-name_missing.ensures text sections are) ∙ c.if-name_missing.false) (sym (c.is_missing-body_missing.ensures text sections are) ∙ c.if-body_missing.false)
