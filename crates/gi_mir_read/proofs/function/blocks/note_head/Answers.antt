use Rattle.std.proofs.Common.{ap, ◌∙◌}
use Rattle.std.specs.Prelude.{◌==◌, unwrap_or}
use Rattle.gi_spelling.specs.Resolved.{block_place}
use Rattle.gi_mir_read.specs.Functions.Blocked.{told_at}
use Rattle.gi_mir_read.proofs.Functions.BlockLemmas.{head-noted}
use Rattle.gi_mir_read.proofs.function.blocks.note_head.Goals as goal

pub returns : goal.returns
returns c =
    head-noted c.args.site.text.now c.args.site.tables.now c.args.site.place (told_at c.args.site.text.now c.args.head) c.args.notes.now c.note_unless.new.notes c.in_ok-is_spelled.is_spelled (c.place.result == c.args.site.place)
    c.in_ok-is_spelled.ensures
    (ap (λ n. n == c.args.site.place) (c.place.ensures ∙ ap (block_place c.args.site.tables.now.blocks) (c.unwrap_or-number.ensures ∙ ap (λ found. unwrap_or found 0) c.requires.within.head)))
    c.note_unless.ensures
