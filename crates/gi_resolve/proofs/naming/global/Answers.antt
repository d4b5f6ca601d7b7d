use Rattle.std.proofs.Common.{refl, ◌∙◌}
use Rattle.gi_resolve.specs.Meant.{IsNumberOf}
use Rattle.gi_resolve.proofs.NamingLemmas.{name-number}
use Rattle.gi_resolve.proofs.naming.global.Goals as goal

pub returns-clause-named : goal.returns-clause-named
returns-clause-named c =
    let is : IsNumberOf c.number.new.self c.name_of_token.result.now c.in_ok-number.number =
    rw (c.in_ok-number.ensures.ok, c.in_ok-number.ensures.number) (name-number c.args.names.now c.name_of_token.result.now) in
    record {
      number = c.in_ok-number.number;
      same = refl;
      within = is.within;
      named = is.named ∙ c.name_of_token.ensures;
    }
