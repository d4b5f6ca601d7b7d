use Rattle.gi_meaning.specs.Runs.{setting_of}
use Rattle.gi_refine.specs.Agreement.{AgreeAt}
use Rattle.gi_refine.proofs.RulesUsed.{use_followed}
use Rattle.gi_refine.proofs.values.rule_use_follows.Goals as goal

pub returns : goal.returns
returns c = λ x names f g now next out rule placing block before old new.
    use_followed x names f g now next rule placing block before old new (AgreeAt (setting_of x names f) (setting_of x names g) out)
