use Rattle.std.proofs.Common.{◌∙◌, ap}
use Rattle.gi_spelling.specs.Blocks.{first_kind}
use Rattle.gi_mir_read.proofs.Functions.NoteLemmas.{kind-lookup}
use Rattle.gi_mir_read.proofs.function.notes.Notes.kind_of.Goals as goal

pub returns : goal.returns
returns c =
    c.kind_of.ensures ∙ kind-lookup c.self.inside.kinds c.args.reg ∙ ap (λ notes. first_kind notes.kinds c.args.reg) c.self.view_is
