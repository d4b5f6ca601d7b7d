-- Cases of rewriting one place in each of which one premise is broken and all others hold.
use Rattle.std.proofs.Common.{◌≡◌, ℕ, zero, suc, [], ◌∷◌, slice_get, refl, ap, lit<}
use Rattle.std.proofs.lemmas.Bool.{false≢true, eqb-false}
use Rattle.gi_meaning.specs.State.{Returned, word_in, Undefined}
use Rattle.gi_meaning.specs.Runs.{setting_of}
use Rattle.gi_refine.specs.Examples.{block_of, s32, copy_in, copy_out, names, counting, function_of, s16}
use Rattle.gi_refine_cases.specs.Idle.{Successors, SameInstructions, NothingHidden, SameWidths, SameValues, Others, Follows, IsNotIdle}
use Rattle.gi_refine.specs.OnePlace.{OnePlace, StaysAt, nothing, only_virtual, only}
use Rattle.gi_refine.proofs.Evaluating.{refutes}
use Rattle.gi_refine.proofs.Staying.{all_kept_reused}
use Rattle.gi_refine_cases.proofs.StayingTested.{all_seen_by, body_alone, no_phis, shown_by}
use Rattle.gi_refine_cases.proofs.IdleCases.{world, is_world_of, returned_is, is_return, unchanged, return_10, gives_first, gives_second, hidden_written, gives_through_1, overwrites_1, other_word, extended, extends_word, extends_half, zero_by_one, gives_0_of_two, gives_1_of_two, returns_alone, returns_other, goes_on, stays_there}
use Rattle.gi_mir.specs.Data.{FunctionData}
use Rattle.gi_refine.specs.Agreement.{Agree, AgreeAt}
use Rattle.gi_refine.specs.Reached.{WhereReached}

-- ══ Another instruction stands behind the place ══

abbrev instructions_place : OnePlace
instructions_place = record { block = 0; before = []; old = []; after = copy_in 0 10 s32 ∷ copy_out 10 0 ∷ return_10 ∷ []; new_before = []; new = []; new_after = copy_in 0 11 s32 ∷ copy_out 10 0 ∷ return_10 ∷ []; hidden = nothing; rename = (λ r. r) }

instructions_others : (b : ℕ) → (b ≡ 0 → ⊥) → StaysAt 32 names gives_first gives_second nothing (λ r. r) b (slice_get gives_first.blocks b) (slice_get gives_second.blocks b)
instructions_others zero other = absurd (other refl)
instructions_others (suc b) other = tt

pub instructions_not_idle : IsNotIdle SameInstructions
instructions_not_idle = record {
  old = gives_first;
  new = gives_second;
  place = instructions_place;
  owes = record {
    block = block_of ([]) (copy_in 0 10 s32 ∷ copy_out 10 0 ∷ return_10 ∷ []);
    new_block = block_of ([]) (copy_in 0 11 s32 ∷ copy_out 10 0 ∷ return_10 ∷ []);
    here = refl;
    there = refl;
    successors = refl;
    splits = refl;
    new_splits = refl;
    phis_kept = tt;
    before_kept = tt;
    after_kept = tt;
    phis_shown = shown_by nothing (λ r. r) ([]) refl;
    before_shown = shown_by nothing (λ r. r) ([]) refl;
    after_shown = shown_by nothing (λ r. r) (copy_in 0 10 s32 ∷ copy_out 10 0 ∷ return_10 ∷ []) refl;
    phis_widths = all_seen_by (setting_of 32 names gives_first) (setting_of 32 names gives_second) nothing (λ r. r) ([]) refl;
    before_widths = all_seen_by (setting_of 32 names gives_first) (setting_of 32 names gives_second) nothing (λ r. r) ([]) refl;
    after_widths = all_seen_by (setting_of 32 names gives_first) (setting_of 32 names gives_second) nothing (λ r. r) (copy_in 0 10 s32 ∷ copy_out 10 0 ∷ return_10 ∷ []) refl;
    phis_hold = no_phis gives_first 0 (λ r. r);
    before_holds = body_alone gives_first 0 (λ r. r) ([]) ([]) refl;
    after_holds = body_alone gives_first 0 (λ r. r) ([]) (copy_in 0 10 s32 ∷ copy_out 10 0 ∷ return_10 ∷ []) refl;
    others = instructions_others;
    follows = unchanged gives_first gives_second 0 ([]) nothing;
  };
  refuted = refutes 32 names gives_first gives_second (world 1 2) (is_world_of 1 2 (lit< tt) (lit< tt)) 4 (Returned (1 ∷ []) counting 0) (Returned (2 ∷ []) counting 0) refl refl (λ e. eqb-false 2 1 refl (returned_is 2 1 e)) (λ e. false≢true (ap is_return e));
}

-- ══ A hidden register is read behind the place ══

abbrev hidden_place : OnePlace
hidden_place = record { block = 0; before = copy_in 1 10 s32 ∷ []; old = []; after = copy_out 10 1 ∷ return_10 ∷ []; new_before = copy_in 1 10 s32 ∷ []; new = copy_in 1 11 s32 ∷ []; new_after = copy_out 10 1 ∷ return_10 ∷ []; hidden = (only 1); rename = (λ r. r) }

hidden_others : (b : ℕ) → (b ≡ 0 → ⊥) → StaysAt 32 names gives_through_1 overwrites_1 (only 1) (λ r. r) b (slice_get gives_through_1.blocks b) (slice_get overwrites_1.blocks b)
hidden_others zero other = absurd (other refl)
hidden_others (suc b) other = tt

pub hidden_not_idle : IsNotIdle NothingHidden
hidden_not_idle = record {
  old = gives_through_1;
  new = overwrites_1;
  place = hidden_place;
  owes = record {
    block = block_of ([]) (copy_in 1 10 s32 ∷ copy_out 10 1 ∷ return_10 ∷ []);
    new_block = block_of ([]) (copy_in 1 10 s32 ∷ copy_in 1 11 s32 ∷ copy_out 10 1 ∷ return_10 ∷ []);
    here = refl;
    there = refl;
    successors = refl;
    splits = refl;
    new_splits = refl;
    phis_kept = all_kept_reused (λ r. r) ([]);
    before_kept = all_kept_reused (λ r. r) (copy_in 1 10 s32 ∷ []);
    after_kept = all_kept_reused (λ r. r) (copy_out 10 1 ∷ return_10 ∷ []);
    phis_shown = tt;
    before_shown = tt;
    after_shown = tt;
    phis_widths = all_seen_by (setting_of 32 names gives_through_1) (setting_of 32 names overwrites_1) nothing (λ r. r) ([]) refl;
    before_widths = all_seen_by (setting_of 32 names gives_through_1) (setting_of 32 names overwrites_1) nothing (λ r. r) (copy_in 1 10 s32 ∷ []) refl;
    after_widths = all_seen_by (setting_of 32 names gives_through_1) (setting_of 32 names overwrites_1) nothing (λ r. r) (copy_out 10 1 ∷ return_10 ∷ []) refl;
    phis_hold = no_phis gives_through_1 0 (λ r. r);
    before_holds = body_alone gives_through_1 0 (λ r. r) ([]) (copy_in 1 10 s32 ∷ []) refl;
    after_holds = body_alone gives_through_1 0 (λ r. r) (copy_in 1 10 s32 ∷ []) (copy_out 10 1 ∷ return_10 ∷ []) refl;
    others = hidden_others;
    follows = λ w is_world. hidden_written (setting_of 32 names gives_through_1) overwrites_1 w (WhereReached (setting_of 32 names gives_through_1) w gives_through_1.blocks 0 (copy_in 1 10 s32 ∷ []) (Agree (setting_of 32 names gives_through_1) (setting_of 32 names overwrites_1) (only_virtual (only 1)))) (only 1) (AgreeAt (setting_of 32 names gives_through_1) (setting_of 32 names overwrites_1) (λ c. only_virtual (only 1))) (copy_in 1 11 s32) 1 (λ state. word_in state 11) refl (λ state. refl) (λ old new related. related.relates);
  };
  refuted = refutes 32 names gives_through_1 overwrites_1 (world 1 2) (is_world_of 1 2 (lit< tt) (lit< tt)) 4 (Returned (1 ∷ []) counting 0) (Returned (2 ∷ []) counting 0) refl refl (λ e. eqb-false 2 1 refl (returned_is 2 1 e)) (λ e. false≢true (ap is_return e));
}

-- ══ A register that is read behind the place has fewer bits in the new function ══

abbrev widths_place : OnePlace
widths_place = record { block = 0; before = []; old = []; after = copy_in 0 10 s32 ∷ extended ∷ copy_out 10 1 ∷ return_10 ∷ []; new_before = []; new = []; new_after = copy_in 0 10 s16 ∷ extended ∷ copy_out 10 1 ∷ return_10 ∷ []; hidden = nothing; rename = (λ r. r) }

widths_others : (b : ℕ) → (b ≡ 0 → ⊥) → StaysAt 32 names extends_word extends_half nothing (λ r. r) b (slice_get extends_word.blocks b) (slice_get extends_half.blocks b)
widths_others zero other = absurd (other refl)
widths_others (suc b) other = tt

pub widths_not_idle : IsNotIdle SameWidths
widths_not_idle = record {
  old = extends_word;
  new = extends_half;
  place = widths_place;
  owes = record {
    block = block_of ([]) (copy_in 0 10 s32 ∷ extended ∷ copy_out 10 1 ∷ return_10 ∷ []);
    new_block = block_of ([]) (copy_in 0 10 s16 ∷ extended ∷ copy_out 10 1 ∷ return_10 ∷ []);
    here = refl;
    there = refl;
    successors = refl;
    splits = refl;
    new_splits = refl;
    phis_kept = all_kept_reused (λ r. r) ([]);
    before_kept = all_kept_reused (λ r. r) ([]);
    after_kept = (record { op = refl; flags = refl; mem = refl; operands = refl }, (record { op = refl; flags = refl; mem = refl; operands = refl }, (record { op = refl; flags = refl; mem = refl; operands = refl }, (record { op = refl; flags = refl; mem = refl; operands = refl }, tt))));
    phis_shown = shown_by nothing (λ r. r) ([]) refl;
    before_shown = shown_by nothing (λ r. r) ([]) refl;
    after_shown = shown_by nothing (λ r. r) (copy_in 0 10 s32 ∷ extended ∷ copy_out 10 1 ∷ return_10 ∷ []) refl;
    phis_widths = tt;
    before_widths = tt;
    after_widths = tt;
    phis_hold = no_phis extends_word 0 (λ r. r);
    before_holds = body_alone extends_word 0 (λ r. r) ([]) ([]) refl;
    after_holds = body_alone extends_word 0 (λ r. r) ([]) (copy_in 0 10 s32 ∷ extended ∷ copy_out 10 1 ∷ return_10 ∷ []) refl;
    others = widths_others;
    follows = unchanged extends_word extends_half 0 ([]) nothing;
  };
  refuted = refutes 32 names extends_word extends_half (world 65537 2) (is_world_of 65537 2 (lit< tt) (lit< tt)) 4 (Returned (65537 ∷ []) counting 0) (Returned (1 ∷ []) counting 0) refl refl (λ e. eqb-false 1 65537 refl (returned_is 1 65537 e)) (λ e. false≢true (ap is_return e));
}

-- ══ The register that replaces another behind the place holds another value ══

abbrev values_place : OnePlace
values_place = record { block = 0; before = copy_in 0 10 s32 ∷ copy_in 1 11 s32 ∷ []; old = []; after = copy_out 10 0 ∷ return_10 ∷ []; new_before = copy_in 0 10 s32 ∷ copy_in 1 11 s32 ∷ []; new = []; new_after = copy_out 10 1 ∷ return_10 ∷ []; hidden = nothing; rename = zero_by_one }

values_others : (b : ℕ) → (b ≡ 0 → ⊥) → StaysAt 32 names gives_0_of_two gives_1_of_two nothing zero_by_one b (slice_get gives_0_of_two.blocks b) (slice_get gives_1_of_two.blocks b)
values_others zero other = absurd (other refl)
values_others (suc b) other = tt

pub values_not_idle : IsNotIdle SameValues
values_not_idle = record {
  old = gives_0_of_two;
  new = gives_1_of_two;
  place = values_place;
  owes = record {
    block = block_of ([]) (copy_in 0 10 s32 ∷ copy_in 1 11 s32 ∷ copy_out 10 0 ∷ return_10 ∷ []);
    new_block = block_of ([]) (copy_in 0 10 s32 ∷ copy_in 1 11 s32 ∷ copy_out 10 1 ∷ return_10 ∷ []);
    here = refl;
    there = refl;
    successors = refl;
    splits = refl;
    new_splits = refl;
    phis_kept = all_kept_reused zero_by_one ([]);
    before_kept = all_kept_reused zero_by_one (copy_in 0 10 s32 ∷ copy_in 1 11 s32 ∷ []);
    after_kept = all_kept_reused zero_by_one (copy_out 10 0 ∷ return_10 ∷ []);
    phis_shown = shown_by nothing zero_by_one ([]) refl;
    before_shown = shown_by nothing zero_by_one (copy_in 0 10 s32 ∷ copy_in 1 11 s32 ∷ []) refl;
    after_shown = shown_by nothing zero_by_one (copy_out 10 0 ∷ return_10 ∷ []) refl;
    phis_widths = all_seen_by (setting_of 32 names gives_0_of_two) (setting_of 32 names gives_1_of_two) nothing zero_by_one ([]) refl;
    before_widths = all_seen_by (setting_of 32 names gives_0_of_two) (setting_of 32 names gives_1_of_two) nothing zero_by_one (copy_in 0 10 s32 ∷ copy_in 1 11 s32 ∷ []) refl;
    after_widths = all_seen_by (setting_of 32 names gives_0_of_two) (setting_of 32 names gives_1_of_two) nothing zero_by_one (copy_out 10 0 ∷ return_10 ∷ []) refl;
    phis_hold = tt;
    before_holds = tt;
    after_holds = tt;
    others = values_others;
    follows = unchanged gives_0_of_two gives_1_of_two 0 (copy_in 0 10 s32 ∷ copy_in 1 11 s32 ∷ []) nothing;
  };
  refuted = refutes 32 names gives_0_of_two gives_1_of_two (world 1 2) (is_world_of 1 2 (lit< tt) (lit< tt)) 4 (Returned (1 ∷ []) counting 0) (Returned (2 ∷ []) counting 0) refl refl (λ e. eqb-false 2 1 refl (returned_is 2 1 e)) (λ e. false≢true (ap is_return e));
}

-- ══ The block of the place has lost its successor ══

abbrev successors_place : OnePlace
successors_place = record { block = 0; before = copy_in 0 10 s32 ∷ []; old = []; after = []; new_before = copy_in 0 10 s32 ∷ []; new = []; new_after = []; hidden = nothing; rename = (λ r. r) }

successors_others : (b : ℕ) → (b ≡ 0 → ⊥) → StaysAt 32 names goes_on stays_there nothing (λ r. r) b (slice_get goes_on.blocks b) (slice_get stays_there.blocks b)
successors_others zero other = absurd (other refl)
successors_others (suc zero) other = record { successors = refl; kept = all_kept_reused (λ r. r) (copy_out 10 0 ∷ return_10 ∷ []); seen = all_seen_by (setting_of 32 names goes_on) (setting_of 32 names stays_there) nothing (λ r. r) (copy_out 10 0 ∷ return_10 ∷ []) refl; phis = no_phis goes_on 1 (λ r. r); body = body_alone goes_on 1 (λ r. r) [] (copy_out 10 0 ∷ return_10 ∷ []) refl }
successors_others (suc (suc b)) other = tt

pub successors_not_idle : IsNotIdle Successors
successors_not_idle = record {
  old = goes_on;
  new = stays_there;
  place = successors_place;
  owes = record {
    block = block_of (1 ∷ []) (copy_in 0 10 s32 ∷ []);
    new_block = block_of ([]) (copy_in 0 10 s32 ∷ []);
    here = refl;
    there = refl;
    successors = tt;
    splits = refl;
    new_splits = refl;
    phis_kept = all_kept_reused (λ r. r) ([]);
    before_kept = all_kept_reused (λ r. r) (copy_in 0 10 s32 ∷ []);
    after_kept = all_kept_reused (λ r. r) ([]);
    phis_shown = shown_by nothing (λ r. r) ([]) refl;
    before_shown = shown_by nothing (λ r. r) (copy_in 0 10 s32 ∷ []) refl;
    after_shown = shown_by nothing (λ r. r) ([]) refl;
    phis_widths = all_seen_by (setting_of 32 names goes_on) (setting_of 32 names stays_there) nothing (λ r. r) ([]) refl;
    before_widths = all_seen_by (setting_of 32 names goes_on) (setting_of 32 names stays_there) nothing (λ r. r) (copy_in 0 10 s32 ∷ []) refl;
    after_widths = all_seen_by (setting_of 32 names goes_on) (setting_of 32 names stays_there) nothing (λ r. r) ([]) refl;
    phis_hold = no_phis goes_on 0 (λ r. r);
    before_holds = body_alone goes_on 0 (λ r. r) ([]) (copy_in 0 10 s32 ∷ []) refl;
    after_holds = body_alone goes_on 0 (λ r. r) (copy_in 0 10 s32 ∷ []) ([]) refl;
    others = successors_others;
    follows = unchanged goes_on stays_there 0 (copy_in 0 10 s32 ∷ []) nothing;
  };
  refuted = refutes 32 names goes_on stays_there (world 1 2) (is_world_of 1 2 (lit< tt) (lit< tt)) 4 (Returned (1 ∷ []) counting 0) Undefined refl refl (λ e. false≢true (ap is_return e)) (λ e. false≢true (ap is_return e));
}

-- ══ Another block has changed ══

abbrev others_new : FunctionData
others_new = function_of (block_of (1 ∷ []) (copy_in 0 10 s32 ∷ []) ∷ block_of ([]) (other_word ∷ return_10 ∷ []) ∷ [])

abbrev others_place : OnePlace
others_place = record { block = 0; before = copy_in 0 10 s32 ∷ []; old = []; after = []; new_before = copy_in 0 10 s32 ∷ []; new = []; new_after = []; hidden = nothing; rename = (λ r. r) }

pub others_not_idle : IsNotIdle Others
others_not_idle = record {
  old = goes_on;
  new = others_new;
  place = others_place;
  owes = record {
    block = block_of (1 ∷ []) (copy_in 0 10 s32 ∷ []);
    new_block = block_of (1 ∷ []) (copy_in 0 10 s32 ∷ []);
    here = refl;
    there = refl;
    successors = refl;
    splits = refl;
    new_splits = refl;
    phis_kept = all_kept_reused (λ r. r) ([]);
    before_kept = all_kept_reused (λ r. r) (copy_in 0 10 s32 ∷ []);
    after_kept = all_kept_reused (λ r. r) ([]);
    phis_shown = shown_by nothing (λ r. r) ([]) refl;
    before_shown = shown_by nothing (λ r. r) (copy_in 0 10 s32 ∷ []) refl;
    after_shown = shown_by nothing (λ r. r) ([]) refl;
    phis_widths = all_seen_by (setting_of 32 names goes_on) (setting_of 32 names others_new) nothing (λ r. r) ([]) refl;
    before_widths = all_seen_by (setting_of 32 names goes_on) (setting_of 32 names others_new) nothing (λ r. r) (copy_in 0 10 s32 ∷ []) refl;
    after_widths = all_seen_by (setting_of 32 names goes_on) (setting_of 32 names others_new) nothing (λ r. r) ([]) refl;
    phis_hold = no_phis goes_on 0 (λ r. r);
    before_holds = body_alone goes_on 0 (λ r. r) ([]) (copy_in 0 10 s32 ∷ []) refl;
    after_holds = body_alone goes_on 0 (λ r. r) (copy_in 0 10 s32 ∷ []) ([]) refl;
    others = tt;
    follows = unchanged goes_on others_new 0 (copy_in 0 10 s32 ∷ []) nothing;
  };
  refuted = refutes 32 names goes_on others_new (world 1 2) (is_world_of 1 2 (lit< tt) (lit< tt)) 4 (Returned (1 ∷ []) counting 0) (Returned (2 ∷ []) counting 0) refl refl (λ e. eqb-false 2 1 refl (returned_is 2 1 e)) (λ e. false≢true (ap is_return e));
}

-- ══ The place does something else ══

abbrev follows_place : OnePlace
follows_place = record { block = 0; before = []; old = []; after = return_10 ∷ []; new_before = []; new = other_word ∷ []; new_after = return_10 ∷ []; hidden = nothing; rename = (λ r. r) }

follows_others : (b : ℕ) → (b ≡ 0 → ⊥) → StaysAt 32 names returns_alone returns_other nothing (λ r. r) b (slice_get returns_alone.blocks b) (slice_get returns_other.blocks b)
follows_others zero other = absurd (other refl)
follows_others (suc b) other = tt

pub follows_not_idle : IsNotIdle Follows
follows_not_idle = record {
  old = returns_alone;
  new = returns_other;
  place = follows_place;
  owes = record {
    block = block_of ([]) (return_10 ∷ []);
    new_block = block_of ([]) (other_word ∷ return_10 ∷ []);
    here = refl;
    there = refl;
    successors = refl;
    splits = refl;
    new_splits = refl;
    phis_kept = all_kept_reused (λ r. r) ([]);
    before_kept = all_kept_reused (λ r. r) ([]);
    after_kept = all_kept_reused (λ r. r) (return_10 ∷ []);
    phis_shown = shown_by nothing (λ r. r) ([]) refl;
    before_shown = shown_by nothing (λ r. r) ([]) refl;
    after_shown = shown_by nothing (λ r. r) (return_10 ∷ []) refl;
    phis_widths = all_seen_by (setting_of 32 names returns_alone) (setting_of 32 names returns_other) nothing (λ r. r) ([]) refl;
    before_widths = all_seen_by (setting_of 32 names returns_alone) (setting_of 32 names returns_other) nothing (λ r. r) ([]) refl;
    after_widths = all_seen_by (setting_of 32 names returns_alone) (setting_of 32 names returns_other) nothing (λ r. r) (return_10 ∷ []) refl;
    phis_hold = no_phis returns_alone 0 (λ r. r);
    before_holds = body_alone returns_alone 0 (λ r. r) ([]) ([]) refl;
    after_holds = body_alone returns_alone 0 (λ r. r) ([]) (return_10 ∷ []) refl;
    others = follows_others;
    follows = tt;
  };
  refuted = refutes 32 names returns_alone returns_other (world 1 2) (is_world_of 1 2 (lit< tt) (lit< tt)) 4 (Returned (1 ∷ []) counting 0) (Returned (2 ∷ []) counting 0) refl refl (λ e. eqb-false 2 1 refl (returned_is 2 1 e)) (λ e. false≢true (ap is_return e));
}
