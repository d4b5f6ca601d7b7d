-- The function of the example's text is good with banks: every premise is computed.
use Rattle.std.proofs.Common.{[], ◌∷◌, inl, refl, arith}
use Rattle.gi_mir.specs.Formed.{is_formed}
use Rattle.gi_mir.specs.Row.{opcode_of}
use Rattle.gi_mir.specs.declared.opcode.Opcode.TheVariants.{GenericAdd}
use Rattle.gi_mir.specs.declared.operand.Kind.TheVariants.{Banked}
use Rattle.gi_llt.specs.declared.Llt.TheVariants.{Scalar}
use Rattle.gi_spelling.specs.AddExample.{function_of, generic_module, stated_text}
use Rattle.gi_spelling.specs.Read.{IsReadModule}
use Rattle.gi_spelling.proofs.AddExample.{same_entry}
use Rattle.gi_valid.specs.Examples.{extents_of}
use Rattle.gi_valid.specs.Typing.{Typed}
use Rattle.gi_valid.specs.Valid.{IsValid}
use Rattle.gi_valid.proofs.Trials.{alone_contained}
use Rattle.gi_rule_refines.specs.Stages.{IsGoodAt}
use Rattle.gi_rule_refines.specs.declared.stages.RuleStage.TheVariants as at
use Rattle.gi_rule_begins.specs.Checked.{AreCheckedAt}
use Rattle.gi_rule_begins.proofs.Begins.{checked_good}

pub sum_read : IsReadModule stated_text generic_module
unfolding is_formed opcode_of
sum_read = record {
  right = refl;
  ir = refl;
  functions = (
    record {
      within = omega arith;
      name = refl;
      same = record {
        legalized = refl;
        banked = refl;
        selected = refl;
        stack = refl;
        blocks = (
          record {
            successors = refl;
            liveins = refl;
            instrs = (
              same_entry (refl, (refl, tt)),
              (same_entry (refl, (refl, tt)), (same_entry (refl, (refl, (refl, tt))), (same_entry (refl, (refl, tt)), (same_entry (refl, tt), tt)))),
            );
          },
          tt,
        );
        next_reg = refl;
        next_id = refl;
      };
    },
    tt,
  );
}

sum_valid : IsValid 32 Typed (function_of (Banked (Scalar 32)) GenericAdd)
sum_valid = record { extents = extents_of (2 ∷ []) (0 ∷ 1 ∷ []) []; contained = alone_contained (2 ∷ []) (0 ∷ 1 ∷ []) (function_of (Banked (Scalar 32)) GenericAdd) refl; faultless = refl }

pub sum_checked : AreCheckedAt 32 at.Banked generic_module
sum_checked = record { each = (record { valid = sum_valid; fits = refl; banked = refl }, tt) }

pub sum_good : IsGoodAt 32 at.Banked [] (function_of (Banked (Scalar 32)) GenericAdd)
sum_good = checked_good 32 at.Banked [] stated_text generic_module 0 (function_of (Banked (Scalar 32)) GenericAdd) (inl refl) refl sum_read sum_checked refl
