-- What the examples with one free choice come to.
use Rattle.std.proofs.Common.{ℕ, suc, List, [], ◌∷◌, refl}
use Rattle.gi_mir.specs.Data.{InstrData}
use Rattle.gi_meaning.specs.Argument.{Value}
use Rattle.gi_meaning.specs.State.{World, State, start, Virtual, put}
use Rattle.gi_meaning.specs.Runs.{Setting, setting_of}
use Rattle.gi_refine.specs.Examples.{counting, names, world_of, one_block}
use Rattle.gi_refine.specs.Outcomes.{ReturnsAny, has_low_bits}
use Rattle.gi_refine_cases.specs.TargetExamples.{extends_anyhow, takes_anything, adds_without_wrapping, shifts, copies_low_half}
use Rattle.gi_refine_cases.proofs.Choosing.{chooses_low, choose, before_choice, returns_any}

abbrev pub set_of : ℕ → List (ℕ × InstrData) → Setting
set_of x instrs = setting_of x names (one_block instrs)

-- x10 in a register, and then x11 in another
abbrev pub with_one : World → ℕ → State
with_one w a = put (start w) (Virtual 0) a

abbrev pub with_two : World → ℕ → ℕ → State
with_two w a b = put (with_one w a) (Virtual 1) b

pub extends_anyhow_returns : (n : ℕ) → ReturnsAny 32 names (one_block extends_anyhow) (world_of 258 0 0 []) (suc n) (has_low_bits 8 32 2) counting 0
extends_anyhow_returns n =
    let w : World = world_of 258 0 0 [] in
    returns_any 32 names extends_anyhow w n (has_low_bits 8 32 2) counting 0 refl
    (before_choice (set_of 32 extends_anyhow) w _ _ (start w) (with_one w 2) _ _ _ refl
    (choose (set_of 32 extends_anyhow) w _ _ (with_one w 2) (Virtual 2 ∷ []) _ _ _
    (chooses_low (set_of 32 extends_anyhow) w _ (with_one w 2) (Value 8 2 ∷ []) 8 32 2 refl (λ a h. h) (λ a h. h)) (λ v. refl)))

pub takes_anything_returns : (n : ℕ) → ReturnsAny 32 names (one_block takes_anything) (world_of 0 0 0 []) (suc n) (has_low_bits 0 32 0) counting 0
takes_anything_returns n =
    let w : World = world_of 0 0 0 [] in
    returns_any 32 names takes_anything w n (has_low_bits 0 32 0) counting 0 refl
    (choose (set_of 32 takes_anything) w _ _ (start w) (Virtual 2 ∷ []) _ _ _
    (chooses_low (set_of 32 takes_anything) w _ (start w) [] 0 32 0 refl (λ a h. h) (λ a h. h)) (λ v. refl))

pub broken_promise_returns : (n : ℕ) → ReturnsAny 32 names (one_block adds_without_wrapping) (world_of 4294967295 2 0 []) (suc n) (has_low_bits 0 32 0) counting 0
broken_promise_returns n =
    let w : World = world_of 4294967295 2 0 [] in
    returns_any 32 names adds_without_wrapping w n (has_low_bits 0 32 0) counting 0 refl
    (before_choice (set_of 32 adds_without_wrapping) w _ _ (start w) (with_one w 4294967295) _ _ _ refl
    (before_choice (set_of 32 adds_without_wrapping) w _ _ (with_one w 4294967295) (with_two w 4294967295 2) _ _ _ refl
    (choose (set_of 32 adds_without_wrapping) w _ _ (with_two w 4294967295 2) (Virtual 2 ∷ []) _ _ _
    (chooses_low (set_of 32 adds_without_wrapping) w _ (with_two w 4294967295 2) (Value 32 4294967295 ∷ Value 32 2 ∷ []) 0 32 0 refl (λ a h. h) (λ a h. h)) (λ v. refl))))

pub shift_returns : (n : ℕ) → ReturnsAny 32 names (one_block shifts) (world_of 1 32 0 []) (suc n) (has_low_bits 0 32 0) counting 0
shift_returns n =
    let w : World = world_of 1 32 0 [] in
    returns_any 32 names shifts w n (has_low_bits 0 32 0) counting 0 refl
    (before_choice (set_of 32 shifts) w _ _ (start w) (with_one w 1) _ _ _ refl
    (before_choice (set_of 32 shifts) w _ _ (with_one w 1) (with_two w 1 32) _ _ _ refl
    (choose (set_of 32 shifts) w _ _ (with_two w 1 32) (Virtual 2 ∷ []) _ _ _
    (chooses_low (set_of 32 shifts) w _ (with_two w 1 32) (Value 32 1 ∷ Value 32 32 ∷ []) 0 32 0 refl (λ a h. h) (λ a h. h)) (λ v. refl))))

pub low_half_returns : (n : ℕ) → ReturnsAny 64 names (one_block copies_low_half) (world_of 7 0 0 []) (suc n) (has_low_bits 32 64 7) counting 0
low_half_returns n =
    let w : World = world_of 7 0 0 [] in
    returns_any 64 names copies_low_half w n (has_low_bits 32 64 7) counting 0 refl
    (before_choice (set_of 64 copies_low_half) w _ _ (start w) (with_one w 7) _ _ _ refl
    (choose (set_of 64 copies_low_half) w _ _ (with_one w 7) _ _ _ _
    (chooses_low (set_of 64 copies_low_half) w _ (with_one w 7) (Value 32 7 ∷ []) 32 64 7 refl (λ a h. h) (λ a h. h)) (λ v. refl)))
