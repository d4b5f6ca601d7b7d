-- A name that is added wasn't there.
use Rattle.std.proofs.Common.{rules, ◌≡◌, ◌∙◌, sym, ap, arith, length, ◌++◌, ◌∷◌, [], None}
use Rattle.std.specs.Prelude.{string_bytes}
use Rattle.std.proofs.lemmas.List.{length-append, length-map}
use Rattle.gi_mir.specs.Names.{texts_of, number_of}
use Rattle.gi_mir.proofs.NamesLemmas.{AreDistinct-append}
use Rattle.gi_mir.proofs.names.Names.number.Goals as goal

pub invariant_of-self-in-None : goal.invariant_of-self-in-None
invariant_of-self-in-None c =
    let old = texts_of c.self.inside.list.items in
    let name = c.args.name.now in
    let names : texts_of c.append.new.list.items ≡ old ++ name ∷ [] = c.in_ok-append-in-None.ensures.ok in
    let absent : number_of old name ≡ None = search rules in
    let few = rw (← c.self.view_is) at c.requires in
    let more = sym (length-map c.append.new.list.items string_bytes) ∙ ap length names ∙ length-append old (name ∷ []) in
    (omega (arith, few, more), rw names (AreDistinct-append old name absent c.self.invariant.1), c.in_ok-append-in-None.ensures.found)
