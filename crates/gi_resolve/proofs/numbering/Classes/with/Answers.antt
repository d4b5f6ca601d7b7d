use Rattle.std.proofs.Common.{◌∙◌, sym, ap}
use Rattle.std.specs.Prelude.{nat_eq}
use Rattle.std.specs.Map.{lookup}
use Rattle.std.specs.Option.{option_or}
use Rattle.gi_resolve.specs.Numbered.{last_of}
use Rattle.gi_resolve.proofs.FirstLemmas.{lookup-last}
use Rattle.gi_resolve.proofs.numbering.Classes.with.Goals as goal

pub invariant_of-self : goal.invariant_of-self
invariant_of-self c = record {
  class = λ key.
      c.in_ok-note_first.ensures key ∙ ap (λ found. option_or found (last_of c.args.number c.args.class key)) (c.self.invariant.class key)
      ∙ sym (lookup-last c.self.inside.classes.items c.args.number c.args.class key) ∙ ap (lookup (nat_eq key)) (sym c.in_ok-push.ensures);
}
