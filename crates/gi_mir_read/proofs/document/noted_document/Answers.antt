use Rattle.std.proofs.Common.{◌≡◌, List, [], sym, ap, ◌∙◌, subst}
use Rattle.std.specs.Prelude.{None, Option, filter, fold}
use Rattle.gi_spelling.specs.declared.written.Wrong.{Wrong}
use Rattle.gi_spelling.specs.Documents.{block_wrongs, entries_of, entries_wrongs, line_wrongs, lower, missing_wrongs, read_document}
use Rattle.gi_spelling.specs.Lines as lines
use Rattle.gi_spelling.specs.Lines.{counted_lines, document_end, document_entries, document_lines, document_rest, document_strays, end_number, is_at_column_one, is_stray, sections_of, without_line}
use Rattle.gi_mir_read.specs.declared.text.sections.Mark.TheVariants.{Entry}
use Rattle.gi_mir_read.specs.Documents.Keyed.{AreFirsts}
use Rattle.gi_mir_read.specs.Texts.Placed.{lines_at}
use Rattle.gi_mir_read.specs.Texts.Sectioned.{section_at, sections_in}
use Rattle.gi_mir_read.proofs.Documents.DocumentLemmas.{all_parts, was_none, name_is_text}
use Rattle.gi_mir_read.proofs.Texts.TextLemmas.{nothing_noted}
use Rattle.gi_mir_read.proofs.document.noted_document.Goals as goal
use Rattle.gi_mir_read.proofs.document.noted_document.Goals.{After-drop-counted-2}

sections_are : (c : After-drop-counted-2) → sections_in Entry c.args.text.now c.as_slice.result.now ≡ document_entries (section_at c.args.text.now c.args.document)
sections_are c =
    ap (sections_in Entry c.args.text.now) c.as_slice.ensures.value
    ∙ ap (sections_of is_at_column_one) (c.in_ok-counted.ensures.lines ∙ ap counted_lines c.cut.ensures.front)

heads_are : (c : After-drop-counted-2) → (sections_in Entry c.args.text.now c.cut-2.result.1.now).sections ≡ entries_of (section_at c.args.text.now c.args.document)
heads_are c = c.cut-2.ensures.after ∙ ap (λ (s : lines.Sections). s.sections) (sections_are c)

firsts_are : (c : After-drop-counted-2) → AreFirsts c.args.text.now (entries_of (section_at c.args.text.now c.args.document)) c.in_ok-firsts.firsts
firsts_are c = subst (λ (xs : List lines.Section). AreFirsts c.args.text.now xs c.in_ok-firsts.firsts) (heads_are c) c.in_ok-firsts.ensures.firsts

end_is : (c : After-drop-counted-2) → c.end_number.result ≡ document_end (section_at c.args.text.now c.args.document)
end_is c = c.end_number.ensures c.args.text.now ∙ ap (end_number (section_at c.args.text.now c.args.document)) c.cut.ensures.back

strays_are : (c : After-drop-counted-2) → filter is_stray (lines_at c.args.text.now c.without_line.result.now) ≡ document_strays (section_at c.args.text.now c.args.document)
strays_are c = ap (filter is_stray) (c.without_line.ensures.without c.args.text.now ∙ ap without_line c.cut.ensures.back)

noted_entries : (c : After-drop-counted-2) → c.entries.new.lowest ≡ fold lower c.note_lines.new.self (entries_wrongs c.args.text.now [] (entries_of (section_at c.args.text.now c.args.document)))
noted_entries c = c.in_ok-firsts.ensures.noted ∙ ap (λ (xs : List lines.Section). fold lower c.note_lines.new.self (entries_wrongs c.args.text.now [] xs)) (heads_are c)

noted_missing : (c : After-drop-counted-2) → c.note_missing.new.lowest
    ≡ fold lower c.function_of.new.lowest (missing_wrongs (document_end (section_at c.args.text.now c.args.document)) (entries_of (section_at c.args.text.now c.args.document)))
noted_missing c =
    c.note_missing.ensures c.args.text.now (entries_of (section_at c.args.text.now c.args.document)) (firsts_are c)
    ∙ ap (λ end. fold lower c.function_of.new.lowest (missing_wrongs end (entries_of (section_at c.args.text.now c.args.document)))) (end_is c)

noted_strays : (c : After-drop-counted-2) → c.note_strays.new.lowest ≡ fold lower c.note_missing.new.lowest (line_wrongs (document_strays (section_at c.args.text.now c.args.document)))
noted_strays c = c.note_strays.ensures ∙ ap (λ (xs : List lines.Line). fold lower c.note_missing.new.lowest (line_wrongs xs)) (strays_are c)

before_wrongs : After-drop-counted-2 → List Wrong
before_wrongs c = line_wrongs (document_entries (section_at c.args.text.now c.args.document)).before

entry_wrongs_of : After-drop-counted-2 → List Wrong
entry_wrongs_of c = entries_wrongs c.args.text.now [] (entries_of (section_at c.args.text.now c.args.document))

block_wrongs_of : After-drop-counted-2 → List Wrong
block_wrongs_of c = block_wrongs c.args.text.now (read_document c.args.text.now (entries_of (section_at c.args.text.now c.args.document)))

missing_wrongs_of : After-drop-counted-2 → List Wrong
missing_wrongs_of c = missing_wrongs (document_end (section_at c.args.text.now c.args.document)) (entries_of (section_at c.args.text.now c.args.document))

stray_wrongs : After-drop-counted-2 → List Wrong
stray_wrongs c = line_wrongs (document_strays (section_at c.args.text.now c.args.document))

pub returns-clause-noted : goal.returns-clause-noted
unfolding before_wrongs entry_wrongs_of block_wrongs_of missing_wrongs_of stray_wrongs
returns-clause-noted c =
    all_parts c.args.lowest.now c.note_lines.new.self c.entries.new.lowest c.function_of.new.lowest c.note_missing.new.lowest c.note_strays.new.lowest
    (before_wrongs c) (entry_wrongs_of c) (block_wrongs_of c) (missing_wrongs_of c) (stray_wrongs c)
    (c.note_lines.ensures c.args.text.now
    ∙ ap (λ (xs : List lines.Line). fold lower c.args.lowest.now (line_wrongs xs)) (c.cut-2.ensures.before ∙ ap (λ (s : lines.Sections). s.before) (sections_are c)))
    (noted_entries c)
    (c.in_ok-function.ensures.noted (entries_of (section_at c.args.text.now c.args.document)) (firsts_are c))
    (noted_missing c)
    (noted_strays c)

pub returns-clause-read : goal.returns-clause-read
unfolding before_wrongs entry_wrongs_of block_wrongs_of missing_wrongs_of stray_wrongs
returns-clause-read c = λ none.
    let fourth : c.note_missing.new.lowest ≡ None = was_none c.note_missing.new.lowest (stray_wrongs c) (sym (noted_strays c) ∙ none) in
    let third : c.function_of.new.lowest ≡ None = was_none c.function_of.new.lowest (missing_wrongs_of c) (sym (noted_missing c) ∙ fourth) in
    let second : c.entries.new.lowest ≡ None =
    was_none c.entries.new.lowest (block_wrongs_of c) (sym (c.in_ok-function.ensures.noted (entries_of (section_at c.args.text.now c.args.document)) (firsts_are c)) ∙ third) in
    let first : c.note_lines.new.self ≡ None = was_none c.note_lines.new.self (entry_wrongs_of c) (sym (noted_entries c) ∙ second) in
    let entries_right : entries_wrongs c.args.text.now [] (entries_of (section_at c.args.text.now c.args.document)) ≡ [] =
    nothing_noted (entry_wrongs_of c) (ap (λ (w : Option Wrong). fold lower w (entry_wrongs_of c)) (sym first) ∙ sym (noted_entries c) ∙ second) in
    c.in_ok-function.ensures.read (entries_of (section_at c.args.text.now c.args.document)) (firsts_are c)
    (name_is_text c.args.text.now [] (entries_of (section_at c.args.text.now c.args.document)) entries_right) third

pub function_of-requires-clause-within : goal.function_of-requires-clause-within
function_of-requires-clause-within c = record { within = c.in_ok-firsts.ensures.firsts.within }
