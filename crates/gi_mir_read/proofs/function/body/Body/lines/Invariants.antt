use Rattle.std.proofs.Common.{take}
use Rattle.std.specs.Prelude.{fold}
use Rattle.gi_spelling.specs.Blocks.{with_line}
use Rattle.gi_mir_read.specs.Functions.Blocked.{told_lines_at}
use Rattle.gi_mir_read.specs.Functions.Bodies.{Reads}
use Rattle.gi_mir_read.proofs.function.body.Body.lines.Given as goal

-- the lines so far
abbrev pub invariant-loop-told : goal.invariant-loop-told
invariant-loop-told l =
    Reads l.site.text.now l.initial.names l.names (λ spelled. fold (with_line l.site.text.now l.site.tables.now l.site.place) spelled (told_lines_at l.site.text.now (take l.told-index l.lines)))
    l.initial.self l.initial.notes l.self l.notes
