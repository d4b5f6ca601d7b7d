-- A sound rewrite refines the valid functions in which it fits.
use Rattle.std.proofs.Common.{◌≡◌, ℕ, suc, ◌+◌, ◌≤◌, ◌<◌, Bool, true, false, cond, not, ◌&&◌, ◌||◌, ◌==◌, nat_lt, List, [], ◌∷◌, ◌++◌, Option, Some, None, length, map, slice_get, ⊎_elim, refl, sym, ap, ap₂, ◌∙◌, subst, arith, true≢false, le-leb, leb-false}
use Rattle.std.proofs.lemmas.Bool.{and_parts, and_from, or_cases, or_left, or_right, eqb-true, eq-eqb, not-true, false_from_ne_true}
use Rattle.std.specs.List.{list_all, list_any}
use Rattle.std.specs.Option.{option_map_or}
use Rattle.std.specs.Prelude.{pos}
use Rattle.std.proofs.lemmas.Bool.Decides.{nat_tests}
use Rattle.gi_llt.specs.Llt.{width_of}
use Rattle.gi_llt.specs.declared.Llt.{Llt}
use Rattle.gi_mir.specs.Data.{InstrData, FunctionData}
use Rattle.gi_mir.specs.Edit.{defines, empty_block, home_block, home_of, place_in_block}
use Rattle.gi_mir.specs.Registers.{kind_in_instrs, kind_in_operands, kind_of}
use Rattle.gi_mir.specs.Row.{is_terminator_op}
use Rattle.gi_mir.proofs.Located.{id_in-live, id_in-within}
use Rattle.gi_meaning.specs.Runs.{after_phis, is_phi, phis_of, setting_of, width_of_kind}
use Rattle.gi_meaning.specs.State.{IsWorld, State, World, outside_of}
use Rattle.gi_refine.specs.Agreement.{AgreeAt, setting}
use Rattle.gi_refine.specs.Lifting.{AreThere, HasValue, IsKnown, IsPlaced, Placing, all_covered, all_grown, covers, fixed_argument, is_kept, takes}
use Rattle.gi_refine.specs.OnePlace.{only_virtual}
use Rattle.gi_refine.specs.Reached.{IsReached}
use Rattle.gi_refine.specs.Refinement.{RefinesUnchecked}
use Rattle.gi_refine.specs.Replacing.{Replacement}
use Rattle.gi_refine.specs.RuleUse.{width_in}
use Rattle.gi_meaning.specs.Argument.{Argument, Number}
use Rattle.gi_refine.specs.Values.{Fixed, IsSound, Slot as Place}
use Rattle.gi_refine.proofs.Covering.{covered_by}
use Rattle.gi_refine.proofs.Fitted.{fit_sized}
use Rattle.gi_refine.proofs.RulesUsed.{use_followed}
use Rattle.gi_refine.proofs.Staying.{replacement_refines}
use Rattle.gi_replace.specs.Applying.{line_of}
use Rattle.gi_replace.specs.InPlace.{with_ids}
use Rattle.gi_replace.proofs.InPlace.{blocks-replaced}
use Rattle.gi_change_refines.specs.InBlock.{back_of, front_of}
use Rattle.gi_change_refines.proofs.InBlock.{entry-of, get-within, split-at, root_splits, root_there}
use Rattle.gi_valid.specs.Typing.{Phase}
use Rattle.gi_valid.proofs.Single.{often}
use Rattle.gi_change_valid.specs.Conditions.{is_plain, is_plain_operand}
use Rattle.gi_change_valid.specs.Rewriting.{IsRewritten}
use Rattle.gi_change_valid.specs.Numbers.{is_in}
use Rattle.gi_change_valid.proofs.Circles.{pure_is_no_phi, use_at}
use Rattle.gi_change_valid.proofs.Made.{all_of_ids}
use Rattle.gi_change_valid.proofs.Sites.{IsSite}
use Rattle.gi_change_valid.proofs.Typed.{kind_kept, other_alike}
use Rattle.gi_change_valid.proofs.Valid.{great_of, known_of}
use Rattle.gi_change_refines.specs.Sized.{FitsAnywhere}
use Rattle.gi_change_refines.specs.Numbered.{is_new_in}
use Rattle.gi_change_refines.proofs.Fresh.{none_seen, flat as flattened, covered_from}
use Rattle.gi_change_refines.proofs.Elsewhere.{all_clear, back_inside, front_inside, had_is_old, other_inside}
use Rattle.gi_rule_values.specs.Data.{RewriteData}
use Rattle.gi_rule_values.specs.OnValues.{kept_from, on_values, slot_on_values}
use Rattle.gi_rule_values.specs.declared.rewrite.Slot.{Slot}
use Rattle.gi_rule_values.specs.declared.rewrite.Slot.TheVariants.{At, Stands}
use Rattle.gi_rule_valid.specs.Keeping.{is_fixed, is_taken, places_from, places_taken}
use Rattle.gi_rule_valid.specs.Using.{AreOfTypes, UseData, all_registers, kind_in, made_of, register_at, rewritten_at, targets_of}
use Rattle.gi_rule_valid.proofs.InPlace.{is_replaced_by}
use Rattle.gi_rule_valid.proofs.Lists.{among, as_many, flat, flat_registers, flat_types}
use Rattle.gi_rule_valid.proofs.Origins.{asked_taken, is_used, plain_for}
use Rattle.gi_rule_valid.proofs.Targets.{among_at}
use Rattle.gi_rule_valid.proofs.Valid.{IsMadeResult, IsSeen, IsUse, all_pass, each_once, input_apart, made_defines, made_result, new_kind, new_or_result, new_registers, result_kinds, rewriting_at, root_of, seen}
use Rattle.gi_rule_refines.specs.Computing.{gives, gives_all}
use Rattle.gi_rule_refines.proofs.Fresh.{all_fresh, all_grown_is, among_is, flat_is, get_behind, kept_target, stands_at}
use Rattle.gi_rule_refines.proofs.Known.{Moment, TellsAll, ahead, result_widths, tells_all, whole}
use Rattle.gi_rule_refines.proofs.Shown.{all_pure, all_show, one_pure, shows_one, wide_kind}

-- ══ The test ══

pub record GivesAll (r : RewriteData) : Type 0 where
  pub root : gives r.root ≡ true
  pub definitions : list_all (λ d. gives d.operation) r.definitions ≡ true
  pub made : list_all gives r.made ≡ true

pub giving : (r : RewriteData) → gives_all r ≡ true → GivesAll r
giving r h =
    let first = and_parts (gives r.root && list_all (λ d. gives d.operation) r.definitions) (list_all gives r.made) h in
    let second = and_parts (gives r.root) (list_all (λ d. gives d.operation) r.definitions) first.0 in
    record { root = second.0; definitions = second.1; made = first.1 }

-- ══ A use ══

-- a use of a rewrite that is sound, in a valid function in which values fit
pub record IsSoundUse (x : ℕ) (phase : Phase) (names : List (List ℕ)) (f : FunctionData) (id : ℕ) (u : UseData) : Type 0 where
  pub use_is : IsUse x phase f id u
  pub gives : GivesAll u.rewrite
  pub sound : (w : World) → IsWorld x w → IsSound x w (on_values x names w u.rewrite)
  pub fit : FitsAnywhere x names f

-- the registers of what is made, of each operation
abbrev pub made_registers : FunctionData → UseData → List (List ℕ)
made_registers f u = all_registers (targets_of u) (length u.inputs) f.next_reg u.rewrite.made

abbrev pub placing_of : FunctionData → UseData → Placing
placing_of f u = record { inputs = u.inputs; old = u.results ∷ []; new = made_registers f u }

some_results : (x : ℕ) (phase : Phase) (f : FunctionData) (id : ℕ) (u : UseData) → IsUse x phase f id u → nat_lt 0 (length u.results) ≡ true
some_results x phase f id u c = ap (nat_lt 0) c.fits.many ∙ c.keeps.some

over : (n r : ℕ) → n ≤ r → r < n → ⊥
over n r more less = omega (arith, more, less)

-- each input was had, and is no result
pub input_place : (x : ℕ) (phase : Phase) (f : FunctionData) (id : ℕ) (u : UseData) → (c : IsUse x phase f id u) → (r : ℕ) → among r u.inputs ≡ true → (among r u.results ≡ false) × (r < f.next_reg)
input_place x phase f id u c r inside =
    let s = seen x phase f id u c in
    let at = stands_at r u.inputs inside in
    subst (λ q. (among q u.results ≡ false) × (q < f.next_reg)) at.is (input_apart f id u c.fits.line at.place s c.had (some_results x phase f id u c) (subst (λ n. at.place < n) s.many at.below))

-- ══ Widths ══

pub inputs_wide : (x : ℕ) (f : FunctionData) (rs : List ℕ) (types : List Llt) → AreOfTypes f rs types → map (width_in x f) rs ≡ map (width_of x) types
inputs_wide x f [] [] are = refl
inputs_wide x f [] (t ∷ types) are = absurd are
inputs_wide x f (r ∷ rs) [] are = absurd are
inputs_wide x f (r ∷ rs) (t ∷ types) are = ap₂ (λ a l. a ∷ l) (ap (width_of_kind x) are.0 ∙ wide_kind x f.banked t) (inputs_wide x f rs types are.1)

-- registers of one kind in two functions are as wide
pub same_widths : (x : ℕ) (f g : FunctionData) (rs : List ℕ) → ((r : ℕ) → among r rs ≡ true → kind_of g r ≡ kind_of f r) → map (width_in x g) rs ≡ map (width_in x f) rs
same_widths x f g [] same = refl
same_widths x f g (r ∷ rs) same =
    ap₂ (λ a l. a ∷ l) (ap (width_of_kind x) (same r (or_left (r == r) (among r rs) (eq-eqb r r refl)))) (same_widths x f g rs (λ q inside. same q (or_right (r == q) (among q rs) inside)))

-- each register that the function has had keeps its kind
pub old_kind : (x : ℕ) (phase : Phase) (f : FunctionData) (id : ℕ) (u : UseData) → (c : IsUse x phase f id u) → (r : ℕ) → r < f.next_reg → kind_of (rewritten_at f id u) r ≡ kind_of f r
old_kind x phase f id u c r below = kind_kept (rewriting_at f id u c.fits.line) f (rewritten_at f id u) is r (by (among r u.results) refl)
  where
    s : IsSeen f id u c.fits.line
    s = seen x phase f id u c

    is : IsRewritten (rewriting_at f id u c.fits.line) f (rewritten_at f id u)
    is = is_replaced_by f id (root_of f u c.fits.line) (made_of f id u) c.own c.live c.fits.root

    by : (b : Bool) → among r u.results ≡ b → kind_in_instrs r (rewriting_at f id u c.fits.line).made ≡ kind_in_operands r (root_of f u c.fits.line).operands
    by true so = result_kinds x phase f id u c.fits.line r s c.keeps c.fits.many so
    by false so =
        other_alike (rewriting_at f id u c.fits.line) r (s.defined r ∙ so)
        (made_defines f id u c.fits.line r s ∙ false_from_ne_true (among r (new_registers f u)) (λ there. ⊎_elim (λ more. over f.next_reg r more below) (λ result. true≢false (sym result ∙ so)) (new_or_result f id u c.fits.line r s there)))

all_wide : (x : ℕ) (g : FunctionData) (banked : Bool) (rs : List ℕ) (types : List Llt) → length rs ≡ length types → ((k r : ℕ) (ty : Llt) → slice_get rs k ≡ Some r → slice_get types k ≡ Some ty → width_in x g r ≡ width_of x ty)
    → map (width_in x g) rs ≡ map (width_of x) types
all_wide x g banked [] [] many each = refl
all_wide x g banked [] (t ∷ types) many each = cc
all_wide x g banked (r ∷ rs) [] many each = cc
all_wide x g banked (r ∷ rs) (t ∷ types) many each = ap₂ (λ a l. a ∷ l) (each 0 r t refl refl) (all_wide x g banked rs types (omega (arith, many)) (λ k q ty at has. each (suc k) q ty at has))

pub made_wide : (x : ℕ) (phase : Phase) (f : FunctionData) (id : ℕ) (u : UseData) → (c : IsUse x phase f id u) → map (width_in x (rewritten_at f id u)) (flat (made_registers f u)) ≡ map (width_of x) (flat_types u.rewrite.made)
made_wide x phase f id u c =
    let s = seen x phase f id u c in
    let is = is_replaced_by f id (root_of f u c.fits.line) (made_of f id u) c.own c.live c.fits.root in
    ap (map (width_in x (rewritten_at f id u))) (flat_registers (targets_of u) (length u.inputs) f.next_reg u.rewrite.made)
    ∙ all_wide x (rewritten_at f id u) f.banked (new_registers f u) (flat_types u.rewrite.made) (as_many (targets_of u) (length u.inputs) f.next_reg (flat_types u.rewrite.made))
    (λ k r ty at has. ap (width_of_kind x) (new_kind x phase f id u c.fits.line r k ty s c.keeps c.fits.many c.had is at has) ∙ wide_kind x f.banked ty)

-- ══ What is hidden ══

among_flat : (f : FunctionData) (u : UseData) (r : ℕ) → among r (flat (made_registers f u)) ≡ among r (new_registers f u)
among_flat f u r = ap (among r) (flat_registers (targets_of u) (length u.inputs) f.next_reg u.rewrite.made)

append_nothing : (xs : List ℕ) → xs ++ [] ≡ xs
append_nothing [] = refl
append_nothing (x ∷ xs) = ap (λ l. x ∷ l) (append_nothing xs)

result_kept : (x : ℕ) (phase : Phase) (f : FunctionData) (id : ℕ) (u : UseData) → (c : IsUse x phase f id u) → (r : ℕ) → among r u.results ≡ true
    → is_kept (all_grown u.inputs (u.results ∷ [])) (all_grown u.inputs (made_registers f u)) (kept_from (length u.rewrite.inputs) u.rewrite.results) r ≡ true
result_kept x phase f id u c r inside =
    let s = seen x phase f id u c in
    let m = made_result x phase f id u c.fits.line r s c.keeps c.fits.many inside in
    let there : slice_get (u.inputs ++ flat (made_registers f u)) m.place ≡ Some r =
    ap₂ (λ l n. slice_get (u.inputs ++ l) n) (flat_registers (targets_of u) (length u.inputs) f.next_reg u.rewrite.made) m.is ∙ get_behind u.inputs (new_registers f u) m.k ∙ m.at in
    subst (λ l. is_kept l (all_grown u.inputs (made_registers f u)) (kept_from (length u.rewrite.inputs) u.rewrite.results) r ≡ true) (sym (all_grown_is u.inputs (u.results ∷ []) ∙ ap (λ l. u.inputs ++ l) (append_nothing u.results)))
    (subst (λ l. is_kept (u.inputs ++ u.results) l (kept_from (length u.rewrite.inputs) u.rewrite.results) r ≡ true) (sym (all_grown_is u.inputs (made_registers f u)))
    (kept_target u.inputs (u.inputs ++ flat (made_registers f u)) u.rewrite.results u.results m.place r (length u.rewrite.inputs) (sym s.many) m.target there))

all_covers : (x : ℕ) (phase : Phase) (names : List (List ℕ)) (w : World) (f : FunctionData) (id : ℕ) (u : UseData) → (c : IsUse x phase f id u) → covers (only_virtual (is_new_in f)) (on_values x names w u.rewrite) (placing_of f u) ≡ true
all_covers x phase names w f id u c =
    and_from (all_covered (only_virtual (is_new_in f)) kept (u.results ∷ [])) (all_covered (only_virtual (is_new_in f)) kept (made_registers f u))
    (covered_from (only_virtual (is_new_in f)) kept (u.results ∷ []) (λ r there. or_left (kept r) (is_new_in f r) (result_kept x phase f id u c r (sym (ap (among r) (append_nothing u.results)) ∙ sym (ap (λ l. among r l) (flat_is (u.results ∷ []))) ∙ sym (among_is r (flattened (u.results ∷ []))) ∙ there))))
    (covered_from (only_virtual (is_new_in f)) kept (made_registers f u)
    (λ r there. ⊎_elim (λ more. or_right (kept r) (is_new_in f r) (le-leb f.next_reg r more)) (λ result. or_left (kept r) (is_new_in f r) (result_kept x phase f id u c r result))
    (new_or_result f id u c.fits.line r (seen x phase f id u c) (sym (among_flat f u r) ∙ sym (ap (λ l. among r l) (flat_is (made_registers f u))) ∙ sym (among_is r (flattened (made_registers f u))) ∙ there))))
  where
    kept : ℕ → Bool
    kept r = is_kept (all_grown u.inputs (u.results ∷ [])) (all_grown u.inputs (made_registers f u)) (kept_from (length u.rewrite.inputs) u.rewrite.results) r

-- ══ Placed ══

pub placed : (x : ℕ) (phase : Phase) (names : List (List ℕ)) (f : FunctionData) (id : ℕ) (u : UseData) → IsSoundUse x phase names f id u → (w : World)
    → (c : IsUse x phase f id u) → IsPlaced x names (width_in x f) (width_in x (rewritten_at f id u)) w (on_values x names w u.rewrite) (placing_of f u) (only_virtual (is_new_in f)) (only_virtual (is_new_in f))
    ((id, root_of f u c.fits.line) ∷ []) (with_ids f.next_id (made_of f id u))
placed x phase names f id u a w c =
    let s = seen x phase f id u c in
    let taken = asked_taken (length u.rewrite.inputs) u.rewrite.root.slots c.keeps.slots in
    let old_wide : map (width_in x f) u.results ≡ map (width_of x) u.rewrite.root.types = results_wide s in
    record {
      old_pure = and_from _ true (one_pure x names w u.rewrite.root a.gives.root) refl;
      new_pure = all_pure x names w u.rewrite.made a.gives.made;
      old_shown = (shows_one x names (width_in x f) w (kind_in f) u.inputs u.results (length u.rewrite.inputs) u.rewrite.root c.fits.line s.many c.fits.many taken old_wide, tt);
      new_shown = all_show x names (width_in x (rewritten_at f id u)) w (kind_in f) (line_of f id) (targets_of u) u.inputs (length u.inputs) f.next_reg f.next_id u.rewrite.made refl s.placed (made_wide x phase f id u c);
      old_fresh = all_fresh u.inputs (u.results ∷ []) (λ r there. apart r (sym (ap (among r) (append_nothing u.results)) ∙ there)) (λ r. subst (λ l. often r l ≤ 1) (sym (append_nothing u.results)) (s.once r));
      new_fresh = all_fresh u.inputs (made_registers f u)
          (λ r there. ⊎_elim (λ more. false_from_ne_true (among r u.inputs) (λ inside. over f.next_reg r more (input_place x phase f id u c r inside).1)) (λ result. apart r result)
          (new_or_result f id u c.fits.line r s (sym (among_flat f u r) ∙ there)))
          (λ r. subst (λ l. often r l ≤ 1) (sym (flat_registers (targets_of u) (length u.inputs) f.next_reg u.rewrite.made)) (each_once f id u c.fits.line r s));
      old_widths = inputs_wide x f u.inputs u.rewrite.inputs c.fits.types;
      new_widths = same_widths x f (rewritten_at f id u) u.inputs (λ r inside. old_kind x phase f id u c r (input_place x phase f id u c r inside).1) ∙ inputs_wide x f u.inputs u.rewrite.inputs c.fits.types;
      seen = none_seen (is_new_in f) u.inputs (λ r there. had_is_old f r (input_place x phase f id u c r (sym (among_is r u.inputs) ∙ there)).1);
      covered = covered_by (only_virtual (is_new_in f)) (only_virtual (is_new_in f)) (on_values x names w u.rewrite) (placing_of f u) (all_covers x phase names w f id u c) (λ p h. h);
    }
  where
    apart : (r : ℕ) → among r u.results ≡ true → among r u.inputs ≡ false
    apart r result = false_from_ne_true (among r u.inputs) (λ inside. true≢false (sym result ∙ (input_place x phase f id u c r inside).0))

    results_wide : IsSeen f id u c.fits.line → map (width_in x f) u.results ≡ map (width_of x) u.rewrite.root.types
    results_wide s = result_widths x phase f c.valid id u.inputs u.results u.rewrite.root c.fits.line (length u.rewrite.inputs) s.there (asked_taken (length u.rewrite.inputs) u.rewrite.root.slots c.keeps.slots) c.fits.many

-- ══ Known ══

-- what the root takes is among what its operation takes
taken_is : (x : ℕ) (names : List (List ℕ)) (w : World) (count k : ℕ) (slots : List Slot) → list_all (is_taken count) slots ≡ true → is_in k (places_taken slots) ≡ true → takes k (map (slot_on_values x names w) slots) ≡ true
taken_is x names w count k [] h inside = cc
taken_is x names w count k (At p ∷ slots) h inside =
    let each = and_parts (nat_lt p count) (list_all (is_taken count) slots) h in
    ⊎_elim (λ now. or_left (p == k) (takes k (map (slot_on_values x names w) slots)) (eq-eqb p k (sym (eqb-true k p now))))
    (λ later. or_right (p == k) (takes k (map (slot_on_values x names w) slots)) (taken_is x names w count k slots each.1 later)) (or_cases (k == p) (is_in k (places_taken slots)) inside)
taken_is x names w count k (Stands o ∷ slots) h inside =
    let each = and_parts (is_fixed o) (list_all (is_taken count) slots) h in
    by (option_map_or Fixed (fixed_argument (setting x names (λ r. x)) w o) (Fixed (Number (pos 0)))) (fixed_only (fixed_argument (setting x names (λ r. x)) w o)) (taken_is x names w count k slots each.1 inside)
  where
    fixed_only : (a : Option Argument) → (b : Argument) × (option_map_or Fixed a (Fixed (Number (pos 0))) ≡ Fixed b)
    fixed_only None = (Number (pos 0), refl)
    fixed_only (Some b) = (b, refl)

    by : (p : Place) → (b : Argument) × (p ≡ Fixed b) → takes k (map (slot_on_values x names w) slots) ≡ true → takes k (p ∷ map (slot_on_values x names w) slots) ≡ true
    by p only h = subst (λ (q : Place). takes k (q ∷ map (slot_on_values x names w) slots) ≡ true) (sym only.1) h

inputs_there : (slots : List Place) (values : ℕ → Option ℕ) (k : ℕ) (rs : List ℕ) → ((j : ℕ) → j < length rs → takes (k + j) slots ≡ false → HasValue (values (register_at rs j))) → AreThere slots values k rs
inputs_there slots values k [] each = tt
inputs_there slots values k (r ∷ rs) each = (
  (λ other. each 0 (omega arith) (let none : k + 0 ≡ k = omega arith in ap (λ j. takes j slots) none ∙ other)),
  inputs_there slots values (suc k) rs (λ j below other. each (suc j) (omega (arith, below)) (let one : k + suc j ≡ suc k + j = omega arith in ap (λ i. takes i slots) one ∙ other)),
)

pub known_there : (x : ℕ) (phase : Phase) (names : List (List ℕ)) (f : FunctionData) (id : ℕ) (u : UseData) → IsSoundUse x phase names f id u → (w : World) → IsWorld x w → (c : IsUse x phase f id u) → (state : State)
    → IsReached (setting_of x names f) w f.blocks (home_of f id) (after_phis (front_of f id)) state → IsKnown (setting_of x names f) w (on_values x names w u.rewrite) u.inputs state
known_there x phase names f id u a w is_world c state reached = record {
  there = inputs_there (map (slot_on_values x names w) u.rewrite.root.slots) state.values 0 u.inputs
      (λ j below other.
      let none : 0 + j ≡ j = omega arith in
      ⊎_elim (λ taken. absurd (true≢false (sym (taken_is x names w (length u.rewrite.inputs) j u.rewrite.root.slots (asked_taken (length u.rewrite.inputs) u.rewrite.root.slots c.keeps.slots) taken) ∙ sym (ap (λ i. takes i (map (slot_on_values x names w) u.rewrite.root.slots)) none) ∙ other))) (λ has. has)
      (told.there j (place_inside u.rewrite.inputs 0 j (omega arith) (subst (λ n. j < 0 + n) (seen x phase f id u c).many (omega (arith, below))))));
  sized = fit_sized (setting_of x names f) state (a.fit.by w is_world (home_of f id) (home_block f id) (after_phis (front_of f id)) ((id, root_of f u c.fits.line) ∷ back_of f id) (root_there f id c.live) splits state reached) u.inputs;
  facts = λ env reads. told.facts (outside_of state) env reads;
}
  where
    other : is_phi (root_of f u c.fits.line) ≡ false
    other = pure_is_no_phi (root_of f u c.fits.line) (seen x phase f id u c).pure

    splits : after_phis (home_block f id).instrs ≡ after_phis (front_of f id) ++ (id, root_of f u c.fits.line) ∷ back_of f id
    splits = root_splits f id (root_of f u c.fits.line) c.live c.fits.root other

    t : Moment x names f w state
    t = record {
      is_world = is_world;
      phase = phase;
      valid = c.valid;
      place = home_of f id;
      body = home_block f id;
      before = after_phis (front_of f id);
      back = (id, root_of f u c.fits.line) ∷ back_of f id;
      there = root_there f id c.live;
      splits = splits;
      reached = reached;
    }

    site : IsSite f (home_of f id) (ahead x names f w state t) (id, root_of f u c.fits.line) (back_of f id)
    site = record { block = home_block f id; found = root_there f id c.live; splits = whole x names f w state t }

    told : TellsAll x names f w state u.inputs (places_taken u.rewrite.root.slots) u.rewrite.definitions (places_from 0 u.rewrite.inputs)
    told =
        tells_all x names f w state t u.inputs (length u.rewrite.inputs) (seen x phase f id u c).many (places_taken u.rewrite.root.slots) u.rewrite.definitions (places_from 0 u.rewrite.inputs) c.fits.definitions c.keeps.origins a.gives.definitions
        (λ p inside. use_at f (great_of f) (known_of x phase f c.valid) (home_of f id) (ahead x names f w state t) (id, root_of f u c.fits.line) (back_of f id) site other (register_at u.inputs p)
        (is_used (kind_in f) u.inputs u.results u.rewrite.root c.fits.line p inside))

    place_inside : (types : List Llt) (place p : ℕ) → place ≤ p → p < place + length types → is_in p (places_from place types) ≡ true
    place_inside [] place p least most = absurd (omega (arith, least, most))
    place_inside (ty ∷ types) place p least most = by (p == place) refl (λ l. place_inside types (place + 1) p l (omega (arith, most)))
      where
        by : (b : Bool) → (p == place) ≡ b → (place + 1 ≤ p → is_in p (places_from (place + 1) types) ≡ true) → (b || is_in p (places_from (place + 1) types)) ≡ true
        by true so rest = refl
        by false so rest = rest (grind (arith, nat_tests, so, least))

-- ══ The function ══

-- what is made begins with no phi
first_no_phi : (is back : List (ℕ × InstrData)) (d : ℕ) → list_all (λ (p : ℕ × InstrData). is_plain p.1) is ≡ true → list_any (defines d) is ≡ true → phis_of (is ++ back) ≡ []
first_no_phi [] back d plain made = cc
first_no_phi (i ∷ is) back d plain made =
    let own : is_plain i.1 ≡ true = (and_parts (is_plain i.1) (list_all (λ (p : ℕ × InstrData). is_plain p.1) is) plain).0 in
    ap (λ t. cond t (i ∷ phis_of (is ++ back)) []) (plain_no_phi i.1 own)
  where
    plain_no_phi : (j : InstrData) → is_plain j ≡ true → is_phi j ≡ false
    plain_no_phi j h = not-true (is_phi j) (and_parts (not (is_phi j)) (not (is_terminator_op j.op)) (and_parts (not (is_phi j) && not (is_terminator_op j.op)) (list_all is_plain_operand j.operands) h).0).0

abbrev replacement_of : FunctionData → (id : ℕ) → UseData → (line : ℕ) → Replacement
replacement_of f id u line = record {
  block = home_of f id;
  before = front_of f id;
  old = (id, root_of f u line) ∷ [];
  new = with_ids f.next_id (made_of f id u);
  after = back_of f id;
  hidden = is_new_in f;
}

first_result : (rs : List ℕ) → nat_lt 0 (length rs) ≡ true → (r : ℕ) × (among r rs ≡ true)
first_result [] h = cc
first_result (r ∷ rs) h = (r, or_left (r == r) (among r rs) (eq-eqb r r refl))

pub use_refines : (x : ℕ) (phase : Phase) (names : List (List ℕ)) (f : FunctionData) (id : ℕ) (u : UseData) → IsSoundUse x phase names f id u → RefinesUnchecked x names f (rewritten_at f id u)
use_refines x phase names f id u a =
    replacement_refines x names f (rewritten_at f id u) (replacement_of f id u c.fits.line) (record {
      block = home_block f id;
      here = get-within f.blocks (home_of f id) empty_block (id_in-within id f.blocks (home_of f id) (place_in_block f id) (id_in-live f id c.live));
      instrs = split-at (home_block f id).instrs (place_in_block f id) (id, root_of f u c.fits.line) (entry-of f id (root_of f u c.fits.line) c.live c.fits.root);
      blocks = blocks-replaced f id (made_of f id u) c.own c.live;
      no_phi = ap (λ t. cond t ((id, root_of f u c.fits.line) ∷ phis_of (back_of f id)) []) (pure_is_no_phi (root_of f u c.fits.line) s.pure);
      no_new_phi = first_no_phi (with_ids f.next_id (made_of f id u)) (back_of f id) result.0
          (all_of_ids is_plain f.next_id (made_of f id u)
          ∙ all_pass is_plain (kind_in f) (line_of f id) (targets_of u) u.inputs (length u.inputs) f.next_reg u.rewrite.made s.placed (λ regs rs o count gives taken. plain_for (kind_in f) regs rs o (line_of f id) count gives taken))
          (made_defines f id u c.fits.line result.0 s ∙ among_at result.0 (new_registers f u) m.k m.at);
      before_clear = all_clear f c.had (front_of f id) (front_inside f id c.live);
      after_clear = all_clear f c.had (back_of f id) (back_inside f id c.live);
      others_clear = λ k apart other found. all_clear f c.had other.instrs (other_inside f k other found);
      widths = λ q shown. ap (width_of_kind x) (old_kind x phase f id u c q (leb-false f.next_reg q shown));
      follows = λ w is_world. use_followed x names f (rewritten_at f id u) (only_virtual (is_new_in f)) (only_virtual (is_new_in f)) (λ v. on_values x names v u.rewrite) (placing_of f u) (home_of f id) (after_phis (front_of f id))
          ((id, root_of f u c.fits.line) ∷ []) (with_ids f.next_id (made_of f id u)) (AgreeAt (setting_of x names f) (setting_of x names (rewritten_at f id u)) (λ k. only_virtual (is_new_in f)))
          (record {
            sound = λ v is. a.sound v is;
            placed = λ v is. placed x phase names f id u a v c;
            known = λ v is state reached. known_there x phase names f id u a v is c state reached;
          })
          w is_world;
    })
  where
    c : IsUse x phase f id u
    c = a.use_is

    s : IsSeen f id u a.use_is.fits.line
    s = seen x phase f id u a.use_is

    result : (r : ℕ) × (among r u.results ≡ true)
    result = first_result u.results (some_results x phase f id u a.use_is)

    m : IsMadeResult f u (first_result u.results (some_results x phase f id u a.use_is)).0
    m = made_result x phase f id u a.use_is.fits.line result.0 s a.use_is.keeps a.use_is.fits.many result.1
