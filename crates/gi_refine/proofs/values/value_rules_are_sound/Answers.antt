use Rattle.gi_refine.proofs.ValueRules.{add_zero_certain, add_zero_sound, remainder_to_mask_sound, subtract_self_sound}
use Rattle.gi_refine.proofs.values.value_rules_are_sound.Goals as goal

pub returns : goal.returns
returns c = record {
  subtract_self = subtract_self_sound;
  add_zero = add_zero_sound;
  add_zero_is_certain = add_zero_certain;
  remainder_to_mask = remainder_to_mask_sound;
}
