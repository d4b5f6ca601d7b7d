use Rattle.gi_refine_cases.proofs.IdleValues.{two_ask_all, good_asks_less, clobbering_rest, clobbering_fails, free_use, two_choices_fail, summand_use, unavailable_fails, too_great_fails, copy_use, hidden_input_fails, constant_use, uncovered_fails, extension_use, another_width_fails}
use Rattle.gi_refine_cases.proofs.IdleValuesMore.{dropped_use, dropped_store_fails, made_use, made_store_fails, other_old_use, other_old_fails, other_new_use, other_new_fails, overwriting_use, overwriting_fails, count_use, count_fails, new_copy_use, unread_fails, same_copy_use, apart_fails}
use Rattle.gi_refine_cases.proofs.idle_values.no_premise_of_values_is_idle.Goals as goal

pub returns : goal.returns
returns c = record {
  one_is_left_out = two_ask_all;
  no_more_is_asked = good_asks_less;
  clobbering_else = clobbering_rest;
  clobbering = clobbering_fails;
  choices_else = free_use;
  choices = two_choices_fail;
  facts_else = summand_use;
  facts = unavailable_fails;
  sizes = too_great_fails;
  hidden_else = copy_use;
  hidden = hidden_input_fails;
  covered_else = constant_use;
  covered = uncovered_fails;
  new_widths_else = extension_use;
  new_widths = another_width_fails;
  old_pure_else = dropped_use;
  old_pure = dropped_store_fails;
  new_pure_else = made_use;
  new_pure = made_store_fails;
  old_shown_else = other_old_use;
  old_shown = other_old_fails;
  new_shown_else = other_new_use;
  new_shown = other_new_fails;
  old_fresh_else = overwriting_use;
  old_fresh = overwriting_fails;
  old_widths_else = count_use;
  old_widths = count_fails;
  values_else = new_copy_use;
  values = unread_fails;
  agreement_else = same_copy_use;
  agreement = apart_fails;
}
