use Rattle.std.proofs.Common.{ap, sym, ◌∙◌}
use Rattle.gi_spelling.specs.Resolved.{bare_by, typed_by, class_in, resolved_definition}
use Rattle.gi_resolve.proofs.tables.Tables.definition.Goals as goal

pub returns-in-Bare : goal.returns-in-Bare
returns-in-Bare c =
    c.bare.ensures ∙ ap (bare_by c.in-Bare.reg) (c.class.ensures ∙ ap (λ tables. class_in tables.classes c.in-Bare.reg) c.self.view_is)
    ∙ ap (resolved_definition c.args.self.now.classes) (sym c.in-Bare.is)

pub returns-in-Typed : goal.returns-in-Typed
returns-in-Typed c =
    c.typed.ensures ∙ ap (typed_by c.in-Typed.reg c.in-Typed.ty) (c.class-in-Typed.ensures ∙ ap (λ tables. class_in tables.classes c.in-Typed.reg) c.self.view_is)
    ∙ ap (resolved_definition c.args.self.now.classes) (sym c.in-Typed.is)
