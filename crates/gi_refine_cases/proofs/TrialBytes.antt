-- A load by bytes in a whole function.
use Rattle.std.proofs.Common.{◌≡◌, ℕ, ◌==◌, false, [], ◌∷◌, refl, sym, ◌∙◌, subst}
use Rattle.gi_mir.specs.Registers.{kind_in_instrs}
use Rattle.gi_mir.specs.declared.operand.Kind.TheVariants.{Generic}
use Rattle.gi_llt.specs.declared.Llt.TheVariants.{Pointer}
use Rattle.gi_meaning.specs.Argument.{Value}
use Rattle.gi_meaning.specs.State.{World, IsWorld, State, outside_of, start, Virtual, put}
use Rattle.gi_meaning.specs.Act.{Results}
use Rattle.gi_meaning.specs.Runs.{Setting, setting_of, On}
use Rattle.gi_refine.specs.Examples.{names, s32, copy_out, return_of, bits}
use Rattle.gi_refine.specs.Lifting.{IsKnown}
use Rattle.gi_refine.specs.OnePlace.{only_virtual}
use Rattle.gi_refine.specs.Reached.{IsReached}
use Rattle.gi_refine.specs.Refinement.{RefinesUnchecked}
use Rattle.gi_refine.specs.RuleUse.{IsRuleUse}
use Rattle.gi_refine_cases.specs.TrialFunctions.{address_in, half_loaded, bytes_loaded, on_address, is_one_of, byte_registers, bytes_placed}
use Rattle.gi_refine_cases.specs.TrialRules.{split_load}
use Rattle.gi_refine.proofs.Covering.{covered_by, known_at}
use Rattle.gi_refine.proofs.Doing.{does_from, does_next, does_none}
use Rattle.gi_refine_cases.proofs.OneBlock.{reached_from_start}
use Rattle.gi_refine.proofs.StraightUses.{state_is, another_kind, straight_refines}
use Rattle.gi_refine_cases.proofs.TrialDoubles.{not_one_of}
use Rattle.gi_refine_cases.proofs.TrialLoads.{split_load_sound}
use Rattle.gi_refine_cases.proofs.TrialParts.{copies_so}

address_known : (x : ℕ) (w : World) → IsWorld x w → (state : State) → IsReached (setting_of x names (on_address half_loaded)) w (on_address half_loaded).blocks 0 address_in state
    → IsKnown (setting_of x names (on_address half_loaded)) w (split_load x) (0 ∷ []) state
address_known x w is_world state reached =
    let s : Setting = setting_of x names (on_address half_loaded) in
    let copied : State = put (start w) (Virtual 0) (w.words 10) in
    let is : state ≡ copied =
    state_is s w address_in (start w) copied state
    (does_next s w _ _ (start w) copied _
    (does_from s w _ (start w) (Value x (w.words 10) ∷ []) (Results (w.words 10 ∷ []) (outside_of (start w))) (On copied) refl (copies_so x w (w.words 10) (outside_of (start w))) refl)
    (does_none s w copied))
    (reached_from_start s w _ (record { successors = refl; phis = refl; straight = refl }) address_in state reached) in
    subst (λ st. IsKnown s w (split_load x) (0 ∷ []) st) (sym is)
    (known_at s w (split_load x) (0 ∷ []) (w.words 10 ∷ []) copied (refl, tt) (is_world.words 10, tt) (is_world.memory, tt))

bytes_used : (x : ℕ) → IsRuleUse x names (on_address half_loaded) (on_address (bytes_loaded x)) (only_virtual (is_one_of byte_registers)) (only_virtual (is_one_of byte_registers)) (λ w. split_load x) bytes_placed 0 address_in half_loaded (bytes_loaded x)
bytes_used x = record {
  sound = λ w is_world. split_load_sound x w;
  placed = λ w is_world. record {
    old_pure = refl;
    new_pure = refl;
    old_shown = (record { op = refl; flags = refl; mem = refl; operands = (refl, (refl, tt)); widths = refl }, tt);
    new_shown = (
      record { op = refl; flags = refl; mem = refl; operands = (refl, (refl, tt)); widths = refl },
      (
        record { op = refl; flags = refl; mem = refl; operands = (refl, (refl, tt)); widths = refl },
        (
          record { op = refl; flags = refl; mem = refl; operands = (refl, (refl, (refl, tt))); widths = refl },
          (
            record { op = refl; flags = refl; mem = refl; operands = (refl, (refl, tt)); widths = refl },
            (
              record { op = refl; flags = refl; mem = refl; operands = (refl, (refl, tt)); widths = refl },
              (
                record { op = refl; flags = refl; mem = refl; operands = (refl, (refl, (refl, tt))); widths = refl },
                (record { op = refl; flags = refl; mem = refl; operands = (refl, (refl, (refl, tt))); widths = refl }, tt),
              ),
            ),
          ),
        ),
      ),
    );
    old_fresh = refl;
    new_fresh = refl;
    old_widths = refl;
    new_widths = refl;
    seen = refl;
    covered = covered_by (only_virtual (is_one_of byte_registers)) (only_virtual (is_one_of byte_registers)) (split_load x) bytes_placed refl (λ p h. h);
  };
  known = address_known x;
}

byte_kinds : (x q : ℕ) → is_one_of byte_registers q ≡ false → kind_in_instrs q (bytes_loaded x) ≡ kind_in_instrs q half_loaded
byte_kinds x q shown =
    another_kind (2 == q) (bits 32) _ (not_one_of byte_registers q 0 2 shown refl)
    ∙ another_kind (3 == q) (bits x) _ (not_one_of byte_registers q 1 3 shown refl)
    ∙ another_kind (4 == q) (Generic Pointer) _ (not_one_of byte_registers q 2 4 shown refl)
    ∙ another_kind (5 == q) (bits 32) _ (not_one_of byte_registers q 3 5 shown refl)
    ∙ another_kind (6 == q) s32 _ (not_one_of byte_registers q 4 6 shown refl)
    ∙ another_kind (7 == q) s32 _ (not_one_of byte_registers q 5 7 shown refl)

-- a load of 16 bits from any address by two loads of bytes
pub bytes_refine : (x : ℕ) → RefinesUnchecked x names (on_address half_loaded) (on_address (bytes_loaded x))
bytes_refine x =
    straight_refines x names address_in half_loaded (bytes_loaded x) (copy_out 10 1 ∷ return_of 10 ∷ []) (is_one_of byte_registers) (λ w. split_load x) bytes_placed
    (record { used = bytes_used x; no_phi = refl; no_new_phi = refl; before_clear = refl; after_clear = refl; kinds = byte_kinds x })
