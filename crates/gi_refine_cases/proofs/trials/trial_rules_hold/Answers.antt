use Rattle.gi_refine_cases.proofs.TrialLoads.{split_load_sound}
use Rattle.gi_refine_cases.proofs.TrialRules.{fold_constants_sound, multiply_to_shift_sound, widen_add_sound, narrow_add_sound}
use Rattle.gi_refine_cases.proofs.trials.trial_rules_hold.Goals as goal

pub returns : goal.returns
returns c = record {
  fold_constants = fold_constants_sound;
  multiply_to_shift = multiply_to_shift_sound;
  widen_add = widen_add_sound;
  narrow_add = narrow_add_sound;
  split_load = split_load_sound;
}
