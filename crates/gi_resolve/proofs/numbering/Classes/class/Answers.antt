use Rattle.std.proofs.Common.{◌∙◌, ap}
use Rattle.gi_mir.specs.Data.{reg_of}
use Rattle.gi_spelling.specs.Resolved.{class_in}
use Rattle.gi_resolve.proofs.FirstLemmas.{class-lookup}
use Rattle.gi_resolve.proofs.numbering.Classes.class.Goals as goal

pub returns : goal.returns
returns c =
    c.copied.ensures ∙ c.get.ensures.value ∙ c.self.invariant.class c.args.number ∙ class-lookup c.self.inside.classes.items c.args.number
    ∙ ap (λ classes. class_in classes (reg_of c.args.number)) c.self.view_is
