use Rattle.std.proofs.Common.{length, ◌∙◌, sym, ap}
use Rattle.std.specs.Prelude.{nat_eq, position}
use Rattle.std.specs.Option.{option_or}
use Rattle.gi_resolve.specs.Numbered.{last_of}
use Rattle.gi_resolve.proofs.FirstLemmas.{position-last}
use Rattle.gi_resolve.proofs.numbering.Numbering.with.Goals as goal

pub invariant_of-self : goal.invariant_of-self
invariant_of-self c = record {
  place = λ key.
      c.in_ok-note_first.ensures key ∙ ap (λ found. option_or found (last_of c.args.number c.in_ok-place.place key)) (c.self.invariant.place key)
      ∙ ap (λ n. option_or (position (nat_eq key) c.self.inside.numbers.items) (last_of c.args.number n key)) (c.in_ok-place.ensures ∙ ap length c.as_slice.ensures.value)
      ∙ sym (position-last c.self.inside.numbers.items c.args.number key) ∙ ap (position (nat_eq key)) (sym c.in_ok-push.ensures);
}
