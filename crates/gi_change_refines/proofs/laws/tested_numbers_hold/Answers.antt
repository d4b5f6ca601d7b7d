use Rattle.gi_change_refines.proofs.Numbered.{had_numbered, own_numbered}
use Rattle.gi_change_refines.proofs.laws.tested_numbers_hold.Goals as goal

pub returns : goal.returns
returns c = record {
  own = own_numbered;
  had = had_numbered;
}
