use Rattle.std.proofs.Common.{◌≡◌, List, subst, sym, true}
use Rattle.std.specs.List.{list_all}
use Rattle.gi_mir.specs.Data.{InstrData}
use Rattle.gi_mir.specs.Formed.{is_formed}
use Rattle.gi_rule_use.proofs.Formed.{made_formed}
use Rattle.gi_rule_use.proofs.making.rewrite_at.Goals as goal

pub replace_root-requires-clause-formed : goal.replace_root-requires-clause-formed
replace_root-requires-clause-formed g c =
    subst (λ (is : List InstrData). list_all is_formed is ≡ true) (sym c.in_ok-made.ensures)
    (made_formed c.function.result.now c.args.at.0 c.args.answer.now c.requires.formed)
