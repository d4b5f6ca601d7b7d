use Rattle.gi_mir_read.specs.declared.text.sections.Mark.TheVariants.{Entry}
use Rattle.gi_mir_read.specs.Texts.Sectioned.{section_at, sections_in}
use Rattle.gi_mir_read.proofs.Documents.EntryLemmas.{one_more}
use Rattle.gi_mir_read.proofs.document.entries.entries.Goals as goal

pub loop-section-preserved : goal.loop-section-preserved
loop-section-preserved c =
    let more = one_more c.args.text.now (sections_in Entry c.args.text.now c.args.lines.now).sections (sections_in Entry c.args.text.now c.loop-section.rest.now).sections
    (sections_in Entry c.args.text.now c.in-Some.later.now).sections (section_at c.args.text.now c.in-Some.section) c.args.lowest.now c.loop-section.lowest c.note_entry.new.lowest c.loop-section.firsts
    c.note_entry.new.firsts c.in-Some.ensures.sections c.loop-section.invariant.noted c.in_ok-note_entry.ensures.noted c.in_ok-note_entry.ensures.firsts in
    record { within = c.in-Some.ensures.within; headed = c.in-Some.ensures.headed; count = more.are.count; noted = more }
