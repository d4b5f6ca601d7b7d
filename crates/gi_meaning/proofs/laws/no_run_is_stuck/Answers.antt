use Rattle.std.proofs.Common.{None}
use Rattle.gi_meaning.specs.InRow.{checked_blocks}
use Rattle.gi_meaning.specs.Runs.{setting_of}
use Rattle.gi_meaning.specs.State.{start}
use Rattle.gi_meaning.proofs.NeverStuck.{enters_there}
use Rattle.gi_meaning.proofs.laws.no_run_is_stuck.Goals as goal

pub returns : goal.returns
returns c = record {
  from_each_state = enters_there;
  from_the_start = λ x names f world n. enters_there (setting_of x names f) world (checked_blocks x f) n None 0 (start world);
}
