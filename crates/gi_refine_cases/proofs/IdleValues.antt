-- Each use breaks one premise, and what the law concludes fails.
use Rattle.gi_refine.proofs.ValuesPlaced.{Settled, Forward, forward}
use Rattle.gi_meaning.specs.Generic.{difference_of}
use Rattle.gi_refine.specs.ValueRules.{on_two}
use Rattle.gi_refine.proofs.Covering.{covered_by}
use Rattle.gi_refine.proofs.ValueRules.{sum_with_zero, difference_self}
use Rattle.gi_refine.proofs.RuleSteps.{exactly, constant_known, entry_value, OneOf, after_one}
use Rattle.std.proofs.lemmas.Bool.{eq-eqb, eqb-true}
use Rattle.gi_refine.specs.Kept.{HasSameValue}
use Rattle.gi_refine.proofs.Staying.{has_same_value}
use Rattle.gi_refine.proofs.Agreeing.{same_value_stands}
use Rattle.gi_llt.specs.Bits.{wrapped}
use Rattle.std.proofs.Common.{◌≡◌, ℕ, ◌==◌, Bool, true, false, List, [], ◌∷◌, Option, Some, None, inl, ⊎_elim, refl, sym, ap, ◌∙◌, subst, arith, option_map, ◌+◌, cond}
use Rattle.gi_mir.specs.Data.{InstrData, no_flags}
use Rattle.gi_mir.specs.declared.opcode.Opcode.TheVariants as op
use Rattle.gi_meaning.specs.Argument.{Value, Bits}
use Rattle.gi_meaning.specs.State.{World, State, Outside, outside_of, Undefined, Place, Virtual, put, Physical}
use Rattle.gi_meaning.specs.Act.{Results}
use Rattle.gi_meaning.specs.Runs.{Setting, On, Over, Progress, Executes, joined_lists}
use Rattle.gi_refine.specs.Agreement.{Agree, ValueStands, AgreeAt}
use Rattle.gi_refine.specs.Examples.{s32, constant_in}
use Rattle.gi_refine_cases.specs.IdleValues.{Unless, Premise, order_of, is_same_premise, quiet, words_32, holding, Followed, copied, copy_late, clobbering, copy_of, copy_summand, summand_alone, summand_placed, sum_of, copy_same, copy_placed, constant_made, constant_placed, AllBut, IsGoodUse, AgreeOfAnySize, all_32, extend_same, extension_of, first_of_8, bytes_32, chosen_twice, free_placed, first_two, free_in, difference_in}
use Rattle.gi_refine_cases.specs.IdleValues.Premise.{Sound, OldPure, NewPure, OldShown, NewShown, OldFresh, NewFresh, OldWidths, NewWidths, Seen, Covered}
use Rattle.gi_refine.specs.Lifting.{is_result, Placing}
use Rattle.gi_refine.specs.OnePlace.{only_virtual, nothing, only}
use Rattle.gi_refine.specs.Simulation.{Stands, IsFollowed}
use Rattle.gi_refine.specs.Values.{IsSound, Makes, MayMake, Environment, Operation, Rule}
use Rattle.gi_refine.proofs.Doing.{gives_one, does_from, does_next, does_none, DoesAll}

-- two runs that each have one way to go, to states that aren't related
pub refuted : (s t : Setting) (w : World) (before after : State → State → Type 0) (exit : ℕ → State → State → Type 0) (old new : List (ℕ × InstrData)) (state state' final final' : State) → before state state'
    → DoesAll s w old state (On final) → DoesAll t w new state' (On final') → (after final final' → ⊥) → IsFollowed s t w before after exit old new → ⊥
refuted s t w before after exit old new state state' final final' related does does' apart followed =
    ⊎_elim
    (λ stood. apart (subst (λ p. Stands after exit p (On final')) (does.only stood.0 stood.1) stood.2))
    (λ undefined. let no : Over Undefined ≡ On final = does.only (Over Undefined) undefined in cc)
    (followed.by state state' related (On final') does'.can)

-- a register that isn't hidden and has two values
pub two_values : (hidden : ℕ → Bool) (r a b : ℕ) (old new : State) → hidden r ≡ false → old.values r ≡ Some a → new.values r ≡ Some b → (b ≡ a → ⊥) → Agree words_32 words_32 (only_virtual hidden) old new → ⊥
two_values hidden r a b old new shown is_old is_new apart agree =
    apart (subst (λ v. ValueStands 32 32 32 (Some a) v) is_new (subst (λ v. ValueStands 32 32 32 v (new.values r)) is_old (agree.values r shown)))

-- a copy of 32 bits, and a constant
pub copy_does : (state : State) (r v : ℕ) → state.values r ≡ Some v → DoesAll words_32 quiet (copy_of r ∷ []) state (On (put state (Virtual 2) v))
copy_does state r v is =
    does_next words_32 quiet (copy_of r) [] state (put state (Virtual 2) v) _
    (does_from words_32 quiet (copy_of r) state (Value 32 v ∷ []) (Results (v ∷ []) (outside_of state)) (On (put state (Virtual 2) v)) (ap (λ o. joined_lists (Some []) (joined_lists (option_map (λ u. Value 32 u ∷ []) o) (Some []))) is)
    (record { can = (v ∷ [], refl, refl); only = gives_one v (outside_of state) }) refl)
    (does_none words_32 quiet (put state (Virtual 2) v))

pub constant_does : (state : State) (r : ℕ) (is : List (ℕ × InstrData)) (final : State) → DoesAll words_32 quiet is (put state (Virtual r) 0) (On final)
    → DoesAll words_32 quiet (constant_in r 32 0 s32 ∷ is) state (On final)
constant_does state r is final rest =
    does_next words_32 quiet (constant_in r 32 0 s32) is state (put state (Virtual r) 0) _
    (does_from words_32 quiet (constant_in r 32 0 s32) state (Bits 32 0 ∷ []) (Results (0 ∷ []) (outside_of state)) (On (put state (Virtual r) 0)) refl
    (record { can = (0 ∷ [], refl, refl); only = gives_one 0 (outside_of state) }) refl)
    rest

sum_does : (a b : ℕ) → DoesAll words_32 quiet (sum_of ∷ []) (holding (Some a) (Some b)) (On (put (holding (Some a) (Some b)) (Virtual 2) (wrapped 32 (a + b))))
sum_does a b =
    does_next words_32 quiet sum_of [] (holding (Some a) (Some b)) (put (holding (Some a) (Some b)) (Virtual 2) (wrapped 32 (a + b))) _
    (does_from words_32 quiet sum_of (holding (Some a) (Some b)) (Value 32 a ∷ Value 32 b ∷ []) (Results (wrapped 32 (a + b) ∷ []) (outside_of (holding (Some a) (Some b))))
    (On (put (holding (Some a) (Some b)) (Virtual 2) (wrapped 32 (a + b)))) refl
    (record { can = (wrapped 32 (a + b) ∷ [], refl, refl); only = gives_one (wrapped 32 (a + b)) (outside_of (holding (Some a) (Some b))) }) refl)
    (does_none words_32 quiet (put (holding (Some a) (Some b)) (Virtual 2) (wrapped 32 (a + b))))

pub agree_itself : (hidden : Place → Bool) (state : State) → Agree words_32 words_32 hidden state state
agree_itself hidden state = record {
  values = λ r shown. same_value_stands 32 32 (state.values r) (state.values r) (has_same_value (state.values r));
  words = λ n shown. refl;
  memory = refl;
  taken = refl;
}

-- what is hidden nowhere is shown
not_nothing : (p : Place) → only_virtual (only 0) p ≡ false → only_virtual nothing p ≡ false
not_nothing (Virtual r) h = refl
not_nothing (Physical n) h = refl

not_nothing_here : (p : Place) → only_virtual first_two p ≡ false → only_virtual nothing p ≡ false
not_nothing_here (Virtual r) h = refl
not_nothing_here (Physical n) h = refl

apart_values : (b : Bool) (a c : ℕ) (rest : Option ℕ) → b ≡ false → HasSameValue rest rest → ValueStands 32 32 32 (cond b (Some a) rest) (cond b (Some c) rest)
apart_values true a c rest h same = cc
apart_values false a c rest h same = same_value_stands 32 32 rest rest same

-- ══ What is left out ══

whole_or : (b : Bool) (claim : Type 0) → claim → cond b (Unit {0}) claim
whole_or true claim h = tt
whole_or false claim h = h

asked_by_one : (b c : Bool) (claim : Type 0) → (b ≡ true → c ≡ true → ⊥) → cond b (Unit {0}) claim → cond c (Unit {0}) claim → claim
asked_by_one false c claim apart h k = h
asked_by_one true false claim apart h k = k
asked_by_one true true claim apart h k = absurd (apart refl refl)

-- what one of them doesn't ask, the other does
either_asks : (p q premise : Premise) (claim : Type 0) → is_same_premise p q ≡ false → Unless p premise claim → Unless q premise claim → claim
either_asks p q premise claim apart =
    asked_by_one (is_same_premise p premise) (is_same_premise q premise) claim
    (λ one other.
    let same : is_same_premise p q ≡ true = eq-eqb (order_of p) (order_of q) (eqb-true (order_of p) (order_of premise) one ∙ sym (eqb-true (order_of q) (order_of premise) other)) in
    cc)

pub two_ask_all : (p q : Premise) (width width' : ℕ → ℕ) (rule : Rule) (placing : Placing) (before after : ℕ → Bool) (old new : List (ℕ × InstrData)) → is_same_premise p q ≡ false
    → AllBut p width width' rule placing before after old new → AllBut q width width' rule placing before after old new → IsGoodUse width width' rule placing before after old new
two_ask_all p q width width' rule placing before after old new apart one other = record {
  sound = either_asks p q Sound _ apart one.sound other.sound;
  placed = record {
    old_pure = either_asks p q OldPure _ apart one.old_pure other.old_pure;
    new_pure = either_asks p q NewPure _ apart one.new_pure other.new_pure;
    old_shown = either_asks p q OldShown _ apart one.old_shown other.old_shown;
    new_shown = either_asks p q NewShown _ apart one.new_shown other.new_shown;
    old_fresh = either_asks p q OldFresh _ apart one.old_fresh other.old_fresh;
    new_fresh = either_asks p q NewFresh _ apart one.new_fresh other.new_fresh;
    old_widths = either_asks p q OldWidths _ apart one.old_widths other.old_widths;
    new_widths = either_asks p q NewWidths _ apart one.new_widths other.new_widths;
    seen = either_asks p q Seen _ apart one.seen other.seen;
    covered = either_asks p q Covered _ apart one.covered other.covered;
  };
}

pub good_asks_less : (p : Premise) (width width' : ℕ → ℕ) (rule : Rule) (placing : Placing) (before after : ℕ → Bool) (old new : List (ℕ × InstrData))
    → IsGoodUse width width' rule placing before after old new → AllBut p width width' rule placing before after old new
good_asks_less p width width' rule placing before after old new good = record {
  sound = whole_or (is_same_premise p Sound) _ good.sound;
  old_pure = whole_or (is_same_premise p OldPure) _ good.placed.old_pure;
  new_pure = whole_or (is_same_premise p NewPure) _ good.placed.new_pure;
  old_shown = whole_or (is_same_premise p OldShown) _ good.placed.old_shown;
  new_shown = whole_or (is_same_premise p NewShown) _ good.placed.new_shown;
  old_fresh = whole_or (is_same_premise p OldFresh) _ good.placed.old_fresh;
  new_fresh = whole_or (is_same_premise p NewFresh) _ good.placed.new_fresh;
  old_widths = whole_or (is_same_premise p OldWidths) _ good.placed.old_widths;
  new_widths = whole_or (is_same_premise p NewWidths) _ good.placed.new_widths;
  seen = whole_or (is_same_premise p Seen) _ good.placed.seen;
  covered = whole_or (is_same_premise p Covered) _ good.placed.covered;
}

-- ══ Clobbering ══

pub clobbering_fails : Followed words_32 words_32 copy_late clobbering nothing (only 0) (copy_of 0 ∷ []) (constant_in 0 32 0 s32 ∷ copy_of 0 ∷ []) → ⊥
clobbering_fails =
    let state : State = holding (Some 3) None in
    refuted words_32 words_32 quiet _ _ _ (copy_of 0 ∷ []) (constant_in 0 32 0 s32 ∷ copy_of 0 ∷ []) state state (put state (Virtual 2) 3) (put (put state (Virtual 0) 0) (Virtual 2) 0)
    (record { agree = agree_itself (only_virtual nothing) state; ready = record { env = (32, 3) ∷ []; read = (refl, refl, tt); sized = (omega arith, tt); facts = tt } })
    (copy_does state 0 3 refl)
    (constant_does state 0 (copy_of 0 ∷ []) (put (put state (Virtual 0) 0) (Virtual 2) 0) (copy_does (put state (Virtual 0) 0) 0 0 refl))
    (two_values (only 0) 2 3 0 (put state (Virtual 2) 3) (put (put state (Virtual 0) 0) (Virtual 2) 0) refl refl refl (λ no. absurd (omega (arith, no))))

-- ══ Sound rules and their uses ══

pub copy_same_sound : IsSound 32 quiet copy_same
copy_same_sound = record {
  by = λ outside v fits facts made makes.
      let is : made ≡ Some ((32, v) ∷ (32, v) ∷ []) = exactly (v ∷ []) outside makes.0 ((32, v) ∷ []) (32 ∷ []) (Makes 32 quiet outside []) made makes.1 makes.2 in
      subst (MayMake 32 quiet outside copy_same ((32, v) ∷ [])) (sym is) (inl ((32, v) ∷ (32, v) ∷ [], (Results (v ∷ []) outside, (v ∷ [], refl, refl), refl), (refl, tt)));
}

copy_late_sound : IsSound 32 quiet copy_late
copy_late_sound = record {
  by = λ outside v fits facts made makes.
      let more : Makes 32 quiet outside (copied ∷ []) ((32, v) ∷ (32, 0) ∷ []) made =
      exactly (0 ∷ []) outside makes.0 ((32, v) ∷ []) (32 ∷ []) (Makes 32 quiet outside (copied ∷ [])) made makes.1 makes.2 in
      let is : made ≡ Some ((32, v) ∷ (32, 0) ∷ (32, v) ∷ []) =
      exactly (v ∷ []) outside more.0 ((32, v) ∷ (32, 0) ∷ []) (32 ∷ []) (Makes 32 quiet outside []) made more.1 more.2 in
      subst (MayMake 32 quiet outside copy_late ((32, v) ∷ [])) (sym is) (inl ((32, v) ∷ (32, v) ∷ [], (Results (v ∷ []) outside, (v ∷ [], refl, refl), refl), (refl, tt)));
}

copy_summand_sound : IsSound 32 quiet copy_summand
copy_summand_sound = record {
  by = λ outside a a_fits b b_fits facts made makes.
      let b_is : b ≡ 0 = entry_value 32 b 32 0 (constant_known 32 quiet outside ((32, a) ∷ (32, b) ∷ []) 32 0 1 facts.0) in
      let is : made ≡ Some ((32, a) ∷ (32, b) ∷ (32, a) ∷ []) =
      exactly (a ∷ []) outside makes.0 ((32, a) ∷ (32, b) ∷ []) (32 ∷ []) (Makes 32 quiet outside []) made makes.1 makes.2 in
      subst (MayMake 32 quiet outside copy_summand ((32, a) ∷ (32, b) ∷ [])) (sym is)
      (inl ((32, a) ∷ (32, b) ∷ (32, a) ∷ [], (Results (a ∷ []) outside, (a ∷ [], ap (λ v. v ∷ []) (sym (sum_with_zero 32 a b a_fits b_is)), refl), refl), (refl, tt)));
}

constant_made_sound : IsSound 32 quiet constant_made
constant_made_sound = record {
  by = λ outside facts made makes.
      let is : made ≡ Some ((32, 0) ∷ []) = exactly (0 ∷ []) outside makes.0 [] (32 ∷ []) (Makes 32 quiet outside []) made makes.1 makes.2 in
      subst (MayMake 32 quiet outside constant_made []) (sym is) (inl ([], refl, tt));
}

extend_same_sound : IsSound 32 quiet extend_same
extend_same_sound = record {
  by = λ outside v fits facts made makes.
      let is : made ≡ Some ((8, v) ∷ (32, v) ∷ []) = exactly (v ∷ []) outside makes.0 ((8, v) ∷ []) (32 ∷ []) (Makes 32 quiet outside []) made makes.1 makes.2 in
      subst (MayMake 32 quiet outside extend_same ((8, v) ∷ [])) (sym is) (inl ((8, v) ∷ (32, v) ∷ [], (Results (v ∷ []) outside, (v ∷ [], refl, refl), refl), (refl, tt)));
}

pub clobbering_rest : AllBut NewFresh all_32 all_32 copy_late clobbering nothing (only 0) (copy_of 0 ∷ []) (constant_in 0 32 0 s32 ∷ copy_of 0 ∷ [])
clobbering_rest = record {
  sound = copy_late_sound;
  old_pure = refl;
  new_pure = refl;
  old_shown = (record { op = refl; flags = refl; mem = refl; operands = (refl, (refl, tt)); widths = refl }, tt);
  new_shown = (
    record { op = refl; flags = refl; mem = refl; operands = (refl, (refl, tt)); widths = refl },
    (record { op = refl; flags = refl; mem = refl; operands = (refl, (refl, tt)); widths = refl }, tt),
  );
  old_fresh = refl;
  new_fresh = tt;
  old_widths = refl;
  new_widths = refl;
  seen = refl;
  covered = covered_by (only_virtual nothing) (only_virtual (only 0)) copy_late clobbering refl not_nothing;
}

-- ══ A fact that doesn't hold ══

pub summand_use : IsGoodUse all_32 all_32 copy_summand summand_placed nothing nothing (sum_of ∷ []) (copy_of 0 ∷ [])
summand_use = record {
  sound = copy_summand_sound;
  placed = record {
    old_pure = refl;
    new_pure = refl;
    old_shown = (record { op = refl; flags = refl; mem = refl; operands = (refl, (refl, (refl, tt))); widths = refl }, tt);
    new_shown = (record { op = refl; flags = refl; mem = refl; operands = (refl, (refl, tt)); widths = refl }, tt);
    old_fresh = refl;
    new_fresh = refl;
    old_widths = refl;
    new_widths = refl;
    seen = refl;
    covered = covered_by (only_virtual nothing) (only_virtual nothing) copy_summand summand_placed refl (λ p h. h);
  };
}

pub unavailable_fails : Followed words_32 words_32 summand_alone summand_placed nothing nothing (sum_of ∷ []) (copy_of 0 ∷ []) → ⊥
unavailable_fails =
    let state : State = holding (Some 3) (Some 4) in
    refuted words_32 words_32 quiet _ _ _ (sum_of ∷ []) (copy_of 0 ∷ []) state state (put state (Virtual 2) 7) (put state (Virtual 2) 3)
    (record {
      agree = agree_itself (only_virtual nothing) state;
      ready = record { env = (32, 3) ∷ (32, 4) ∷ []; read = (refl, refl, (refl, refl, tt)); sized = (omega arith, (omega arith, tt)); facts = tt };
    })
    (sum_does 3 4) (copy_does state 0 3 refl)
    (two_values nothing 2 7 3 (put state (Virtual 2) 7) (put state (Virtual 2) 3) refl refl refl (λ no. absurd (omega (arith, no))))

-- ══ A value of too many bits ══

pub too_great_fails : IsFollowed words_32 words_32 quiet (AgreeOfAnySize words_32 words_32 copy_summand (0 ∷ 1 ∷ []) nothing) (Agree words_32 words_32 (only_virtual nothing))
    (AgreeAt words_32 words_32 (λ b. only_virtual nothing)) (sum_of ∷ []) (copy_of 0 ∷ []) → ⊥
too_great_fails =
    let state : State = holding (Some 4294967301) (Some 0) in
    refuted words_32 words_32 quiet _ _ _ (sum_of ∷ []) (copy_of 0 ∷ []) state state (put state (Virtual 2) 5) (put state (Virtual 2) 4294967301)
    (record {
      agree = agree_itself (only_virtual nothing) state;
      env = (32, 4294967301) ∷ (32, 0) ∷ [];
      read = (refl, refl, (refl, refl, tt));
      facts = ((0 ∷ [], (0 ∷ [], refl, refl), (refl, tt)), tt);
    })
    (sum_does 4294967301 0) (copy_does state 0 4294967301 refl)
    (two_values nothing 2 5 4294967301 (put state (Virtual 2) 5) (put state (Virtual 2) 4294967301) refl refl refl (λ no. absurd (omega (arith, no))))

-- ══ A hidden input ══

pub copy_use : AllBut Seen all_32 all_32 copy_same copy_placed (only 0) (only 0) (copy_of 0 ∷ []) (copy_of 0 ∷ [])
copy_use = record {
  sound = copy_same_sound;
  old_pure = refl;
  new_pure = refl;
  old_shown = (record { op = refl; flags = refl; mem = refl; operands = (refl, (refl, tt)); widths = refl }, tt);
  new_shown = (record { op = refl; flags = refl; mem = refl; operands = (refl, (refl, tt)); widths = refl }, tt);
  old_fresh = refl;
  new_fresh = refl;
  old_widths = refl;
  new_widths = refl;
  seen = tt;
  covered = covered_by (only_virtual (only 0)) (only_virtual (only 0)) copy_same copy_placed refl (λ p h. h);
}

first_apart : (a b : ℕ) → Agree words_32 words_32 (only_virtual (only 0)) (holding (Some a) None) (holding (Some b) None)
first_apart a b = record {
  values = λ r shown. apart_values (r == 0) a b (cond (r == 1) None None) shown (has_same_value (cond (r == 1) None None));
  words = λ n shown. refl;
  memory = refl;
  taken = refl;
}

pub hidden_input_fails : Followed words_32 words_32 copy_same copy_placed (only 0) (only 0) (copy_of 0 ∷ []) (copy_of 0 ∷ []) → ⊥
hidden_input_fails =
    let state : State = holding (Some 3) None in
    let state' : State = holding (Some 4) None in
    refuted words_32 words_32 quiet _ _ _ (copy_of 0 ∷ []) (copy_of 0 ∷ []) state state' (put state (Virtual 2) 3) (put state' (Virtual 2) 4)
    (record { agree = first_apart 3 4; ready = record { env = (32, 3) ∷ []; read = (refl, refl, tt); sized = (omega arith, tt); facts = tt } })
    (copy_does state 0 3 refl) (copy_does state' 0 4 refl)
    (two_values (only 0) 2 3 4 (put state (Virtual 2) 3) (put state' (Virtual 2) 4) refl refl refl (λ no. absurd (omega (arith, no))))

-- ══ A result that isn't covered ══

pub constant_use : AllBut Covered all_32 all_32 constant_made constant_placed nothing nothing [] (constant_in 0 32 0 s32 ∷ [])
constant_use = record {
  sound = constant_made_sound;
  old_pure = refl;
  new_pure = refl;
  old_shown = tt;
  new_shown = (record { op = refl; flags = refl; mem = refl; operands = (refl, (refl, tt)); widths = refl }, tt);
  old_fresh = refl;
  new_fresh = refl;
  old_widths = refl;
  new_widths = refl;
  seen = refl;
  covered = tt;
}

pub uncovered_fails : Followed words_32 words_32 constant_made constant_placed nothing nothing [] (constant_in 0 32 0 s32 ∷ []) → ⊥
uncovered_fails =
    let state : State = holding (Some 3) None in
    refuted words_32 words_32 quiet _ _ _ [] (constant_in 0 32 0 s32 ∷ []) state state state (put state (Virtual 0) 0)
    (record { agree = agree_itself (only_virtual nothing) state; ready = record { env = []; read = tt; sized = tt; facts = tt } })
    (does_none words_32 quiet state) (constant_does state 0 [] (put state (Virtual 0) 0) (does_none words_32 quiet (put state (Virtual 0) 0)))
    (two_values nothing 0 3 0 state (put state (Virtual 0) 0) refl refl refl (λ no. absurd (omega (arith, no))))

-- ══ A register of another width ══

pub extension_use : AllBut NewWidths first_of_8 all_32 extend_same copy_placed nothing nothing (extension_of 0 ∷ []) (extension_of 0 ∷ [])
extension_use = record {
  sound = extend_same_sound;
  old_pure = refl;
  new_pure = refl;
  old_shown = (record { op = refl; flags = refl; mem = refl; operands = (refl, (refl, tt)); widths = refl }, tt);
  new_shown = (record { op = refl; flags = refl; mem = refl; operands = (refl, (refl, tt)); widths = refl }, tt);
  old_fresh = refl;
  new_fresh = refl;
  old_widths = refl;
  new_widths = tt;
  seen = refl;
  covered = covered_by (only_virtual nothing) (only_virtual nothing) extend_same copy_placed refl (λ p h. h);
}

word_stands_for_byte : (b : Bool) (rest : Option ℕ) → HasSameValue rest rest → ValueStands 32 (cond b 8 32) 32 (cond b (Some 3) rest) (cond b (Some 259) rest)
word_stands_for_byte true rest same = (refl, omega arith, omega arith, refl)
word_stands_for_byte false rest same = same_value_stands 32 32 rest rest same

pub byte_and_word : Agree bytes_32 words_32 (only_virtual nothing) (holding (Some 3) None) (holding (Some 259) None)
byte_and_word = record {
  values = λ r shown. word_stands_for_byte (r == 0) (cond (r == 1) None None) (has_same_value (cond (r == 1) None None));
  words = λ n shown. refl;
  memory = refl;
  taken = refl;
}

pub another_width_fails : Followed bytes_32 words_32 extend_same copy_placed nothing nothing (extension_of 0 ∷ []) (extension_of 0 ∷ []) → ⊥
another_width_fails =
    let state : State = holding (Some 3) None in
    let state' : State = holding (Some 259) None in
    refuted bytes_32 words_32 quiet _ _ _ (extension_of 0 ∷ []) (extension_of 0 ∷ []) state state' (put state (Virtual 2) 3) (put state' (Virtual 2) 259)
    (record { agree = byte_and_word; ready = record { env = (8, 3) ∷ []; read = (refl, refl, tt); sized = (omega arith, tt); facts = tt } })
    (does_next bytes_32 quiet (extension_of 0) [] state (put state (Virtual 2) 3) _
    (does_from bytes_32 quiet (extension_of 0) state (Value 8 3 ∷ []) (Results (3 ∷ []) (outside_of state)) (On (put state (Virtual 2) 3)) refl
    (record { can = (3 ∷ [], refl, refl); only = gives_one 3 (outside_of state) }) refl)
    (does_none bytes_32 quiet (put state (Virtual 2) 3)))
    (does_next words_32 quiet (extension_of 0) [] state' (put state' (Virtual 2) 259) _
    (does_from words_32 quiet (extension_of 0) state' (Value 32 259 ∷ []) (Results (259 ∷ []) (outside_of state')) (On (put state' (Virtual 2) 259)) refl
    (record { can = (259 ∷ [], refl, refl); only = gives_one 259 (outside_of state') }) refl)
    (does_none words_32 quiet (put state' (Virtual 2) 259)))
    (λ agree. let no : 259 ≡ 3 = agree.values 2 refl in absurd (omega (arith, no)))

-- ══ A free choice made twice ══

abbrev zero_made : ℕ → Option Environment
zero_made f = Some ((32, f) ∷ (32, 0) ∷ [])

-- what the old operations make: a free value, and 0
old_makes : (outside : Outside) (made : Option Environment) → Makes 32 quiet outside chosen_twice.old [] made → (f : ℕ) × (made ≡ zero_made f)
old_makes outside made makes =
    let one_free : OneOf 0 0 outside makes.0 = record { result = makes.1.1.0; low = makes.1.1.2; is = makes.1.2 ∙ ap (λ rs. Results rs outside) makes.1.1.3 } in
    let f : ℕ = one_free.result in
    let rest : List Operation = on_two op.GenericSubtract no_flags 32 0 0 ∷ [] in
    let more : Makes 32 quiet outside rest ((32, f) ∷ []) made = after_one f 32 outside makes.0 [] (Makes 32 quiet outside rest) made one_free.is makes.2 in
    let is : made ≡ Some ((32, f) ∷ (32, difference_of 32 f f) ∷ []) =
    exactly (difference_of 32 f f ∷ []) outside more.0 ((32, f) ∷ []) (32 ∷ []) (Makes 32 quiet outside []) made more.1 more.2 in
    (f, is ∙ ap (λ d. Some ((32, f) ∷ (32, d) ∷ [])) (difference_self 32 f))

pub free_use : AllBut Sound all_32 all_32 chosen_twice free_placed nothing first_two (free_in 0 ∷ difference_in 0 0 ∷ []) (free_in 0 ∷ free_in 1 ∷ difference_in 0 1 ∷ [])
free_use = record {
  sound = tt;
  old_pure = refl;
  new_pure = refl;
  old_shown = (
    record { op = refl; flags = refl; mem = refl; operands = (refl, tt); widths = refl },
    (record { op = refl; flags = refl; mem = refl; operands = (refl, (refl, (refl, tt))); widths = refl }, tt),
  );
  new_shown = (
    record { op = refl; flags = refl; mem = refl; operands = (refl, tt); widths = refl },
    (
      record { op = refl; flags = refl; mem = refl; operands = (refl, tt); widths = refl },
      (record { op = refl; flags = refl; mem = refl; operands = (refl, (refl, (refl, tt))); widths = refl }, tt),
    ),
  );
  old_fresh = refl;
  new_fresh = refl;
  old_widths = refl;
  new_widths = refl;
  seen = refl;
  covered = covered_by (only_virtual nothing) (only_virtual first_two) chosen_twice free_placed refl not_nothing_here;
}

-- the old instructions leave 0 in %2
old_leaves : (state : State) (p : Progress) → Executes words_32 quiet (free_in 0 ∷ difference_in 0 0 ∷ []) state p → (final : State) × (p ≡ On final) × (final.values 2 ≡ Some 0)
old_leaves state p run =
    let made : Forward all_32 (Makes 32 quiet (outside_of state) chosen_twice.old []) state (λ r. is_result r free_placed.old) (0 ∷ 2 ∷ []) p =
    forward words_32 quiet (outside_of state) free_placed.old chosen_twice.old (free_in 0 ∷ difference_in 0 0 ∷ []) [] [] state p free_use.old_shown refl refl refl tt run in
    let is : (f : ℕ) × (made.made ≡ zero_made f) = old_makes (outside_of state) made.made made.does in
    let settled : Settled all_32 state (λ r. is_result r free_placed.old) (0 ∷ 2 ∷ []) p (zero_made is.0) =
    subst (Settled all_32 state (λ r. is_result r free_placed.old) (0 ∷ 2 ∷ []) p) is.1 made.settled in
    (settled.0, settled.1, settled.2.reads.2.1)

abbrev free_final : State
free_final = put (put (put (holding None None) (Virtual 0) 1) (Virtual 1) 0) (Virtual 2) 1

pub two_choices_fail : Followed words_32 words_32 chosen_twice free_placed nothing first_two (free_in 0 ∷ difference_in 0 0 ∷ []) (free_in 0 ∷ free_in 1 ∷ difference_in 0 1 ∷ []) → ⊥
two_choices_fail followed =
    let state : State = holding None None in
    let out : Outside = outside_of state in
    ⊎_elim
    (λ stood.
    let left : (final : State) × (stood.0 ≡ On final) × (final.values 2 ≡ Some 0) = old_leaves state stood.0 stood.1 in
    two_values first_two 2 0 1 left.0 free_final refl left.2 refl (λ no. absurd (omega (arith, no)))
    (subst (λ p. Stands (Agree words_32 words_32 (only_virtual first_two)) (AgreeAt words_32 words_32 (λ b. only_virtual first_two)) p (On free_final)) left.1 stood.2))
    (λ undefined. let left : (final : State) × (Over Undefined ≡ On final) × (final.values 2 ≡ Some 0) = old_leaves state (Over Undefined) undefined in over_not_on left.0 left.1)
    (followed.by state state (record { agree = agree_itself (only_virtual nothing) state; ready = record { env = []; read = tt; sized = tt; facts = tt } }) (On free_final) (
      On (put state (Virtual 0) 1),
      (Results (1 ∷ []) out, (1 ∷ [], (1, omega arith, refl, refl), refl), refl),
      (
        On (put (put state (Virtual 0) 1) (Virtual 1) 0),
        (Results (0 ∷ []) out, (0 ∷ [], (0, omega arith, refl, refl), refl), refl),
        (On free_final, (Results (1 ∷ []) out, (1 ∷ [], refl, refl), refl), refl),
      ),
    ))
  where
    over_not_on : (final : State) → Over Undefined ≡ On final → ⊥
    over_not_on final h = cc
