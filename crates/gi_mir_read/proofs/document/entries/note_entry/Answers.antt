use Rattle.std.proofs.Common.{sym, ap, ◌∙◌}
use Rattle.std.specs.Prelude.{fold}
use Rattle.gi_spelling.specs.Documents.{key_spelled, key_word, lower}
use Rattle.gi_spelling.specs.Lines.{is_entry, key_of}
use Rattle.gi_mir_read.specs.Texts.Sectioned.{section_at}
use Rattle.gi_mir_read.proofs.Documents.EntryLemmas.{none_is, on_ok, some_is}
use Rattle.gi_mir_read.proofs.Documents.KeyLemmas.{firsts_again, firsts_kept, firsts_skip, no_entry_of, other_entry_of, wrong_again, wrong_first}
use Rattle.gi_mir_read.proofs.document.entries.note_entry.Goals as goal

pub returns-then-not-is_entry-clause-firsts : goal.returns-then-not-is_entry-clause-firsts
returns-then-not-is_entry-clause-firsts c = λ earlier are.
    firsts_skip c.args.text.now earlier c.args.firsts.now c.args.section are
    (λ key. no_entry_of (section_at c.args.text.now c.args.section) (key_word key) (sym (c.if-not-is_entry.ensures ∙ ap is_entry c.bytes-line.ensures)))

pub returns-in_default-clause-firsts : goal.returns-in_default-clause-firsts
returns-in_default-clause-firsts c = λ earlier are.
    firsts_skip c.args.text.now earlier c.args.firsts.now c.args.section are
    (λ key. other_entry_of (section_at c.args.text.now c.args.section) key (sym (c.in_default.ensures ∙ ap key_spelled (c.key_of.ensures ∙ ap key_of c.bytes-line.ensures))))

pub returns-then-is_some-clause-noted : goal.returns-then-is_some-clause-noted
returns-then-is_some-clause-noted c = λ earlier are.
    let there = some_is c.first.result c.if-is_some.ensures in
    c.note-then-is_some.ensures
    ∙ ap (fold lower c.args.lowest.now)
    (sym (wrong_again c.args.text.now earlier c.args.firsts.now (section_at c.args.text.now c.args.section) there.0 c.in-Some.key are
    (sym (c.if-not-is_entry.ensures ∙ ap is_entry c.bytes-line.ensures)) (sym (c.in-Some.ensures ∙ ap key_spelled (c.key_of.ensures ∙ ap key_of c.bytes-line.ensures)))
    (sym c.first.ensures ∙ there.1)))

pub returns-then-is_some-clause-firsts : goal.returns-then-is_some-clause-firsts
returns-then-is_some-clause-firsts c = λ earlier are.
    let there = some_is c.first.result c.if-is_some.ensures in
    firsts_again c.args.text.now earlier c.args.firsts.now c.args.section there.0 c.in-Some.key are
    (sym (c.in-Some.ensures ∙ ap key_spelled (c.key_of.ensures ∙ ap key_of c.bytes-line.ensures))) (sym c.first.ensures ∙ there.1)

pub returns-clause-noted : goal.returns-clause-noted
returns-clause-noted c =
    on_ok c.note_value.result _ _
    (λ noted earlier are. noted
    ∙ ap (fold lower c.args.lowest.now)
    (sym (wrong_first c.args.text.now earlier c.args.firsts.now (section_at c.args.text.now c.args.section) c.in-Some.key are
    (sym (c.if-not-is_entry.ensures ∙ ap is_entry c.bytes-line.ensures)) (sym (c.in-Some.ensures ∙ ap key_spelled (c.key_of.ensures ∙ ap key_of c.bytes-line.ensures)))
    (sym c.first.ensures ∙ none_is c.first.result c.if-is_some.ensures))))
    c.note_value.ensures

pub returns-clause-firsts : goal.returns-clause-firsts
returns-clause-firsts c =
    on_ok c.note_value.result _ _
    (λ noted earlier are.
    firsts_kept c.args.text.now earlier c.args.firsts.now c.keep.new.self c.args.section c.in-Some.key are
    (sym (c.if-not-is_entry.ensures ∙ ap is_entry c.bytes-line.ensures)) (sym (c.in-Some.ensures ∙ ap key_spelled (c.key_of.ensures ∙ ap key_of c.bytes-line.ensures)))
    (sym c.first.ensures ∙ none_is c.first.result c.if-is_some.ensures) c.keep.ensures.kept c.keep.ensures.others c.keep.ensures.count c.requires.section)
    c.note_value.ensures
