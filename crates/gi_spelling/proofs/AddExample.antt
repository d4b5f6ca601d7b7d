-- The example's texts spell its two modules.
use Rattle.std.proofs.Common.{◌≡◌, ℕ, List, [], ◌∷◌, true, false, refl, subst, arith}
use Rattle.std.specs.List.{AllZip}
use Rattle.std.specs.Fmt.{digits}
use Rattle.gi_spelling.specs.AddExample.{function_of, generic_module, selected_module, stated_text, selected_text}
use Rattle.gi_mir.specs.Data.{InstrData}
use Rattle.gi_mir.specs.declared.opcode.Opcode.TheVariants.{Add}
use Rattle.gi_mir.specs.declared.operand.Kind.TheVariants.{Class}
use Rattle.gi_mir.specs.Formed.{is_formed}
use Rattle.gi_mir.specs.Row.{opcode_of}
use Rattle.gi_spelling.specs.Named.{IsNamedOperand, IsNamedEntry}
use Rattle.gi_spelling.specs.Printed.{printed}
use Rattle.gi_spelling.specs.Printable.{IsPrintableModule}
use Rattle.gi_spelling.specs.Read.{IsReadModule}
use Rattle.gi_spelling.specs.Spelling.{Spells}
use Rattle.gi_spelling.proofs.OneModule.{spelled_one}
use Rattle.gi_spelling.proofs.PrintedTexts.{printed_spells}
use Rattle.gi_spelling.proofs.ReadSpells.{read_spelled}

pub prints_selected : printed selected_module ≡ selected_text
unfolding digits
prints_selected = refl

is_printable : IsPrintableModule selected_module
unfolding is_formed
is_printable = record {
  ir = refl;
  functions = (
    record {
      named = refl;
      few_objects = refl;
      objects = refl;
      few_blocks = refl;
      live_first = refl;
      blocks = (
        record {
          successors = refl;
          instrs = (
            record { formed = refl; operands = refl; memory = refl },
            (
              record { formed = refl; operands = refl; memory = refl },
              (
                record { formed = refl; operands = refl; memory = refl },
                (
                  record { formed = refl; operands = refl; memory = refl },
                  (record { formed = refl; operands = refl; memory = refl }, tt),
                ),
              ),
            ),
          );
        },
        tt,
      );
    },
    tt,
  );
}

pub spells_selected : Spells selected_text selected_module
spells_selected = subst (λ text. Spells text selected_module) prints_selected (printed_spells selected_module is_printable)

-- an entry that is read as it stands
pub same_entry : {text : List ℕ} {names : List (List ℕ)} {entry : ℕ × InstrData} → AllZip (IsNamedOperand text names) (entry.1).operands (entry.1).operands → IsNamedEntry text names entry entry
same_entry operands = record { id = refl; instr = record { op = refl; flags = refl; operands = operands; memory = refl; line = refl } }

reads_stated : IsReadModule stated_text generic_module
unfolding is_formed opcode_of
reads_stated = record {
  right = refl;
  ir = refl;
  functions = (
    record {
      within = omega arith;
      name = refl;
      same = record {
        legalized = refl;
        banked = refl;
        selected = refl;
        stack = refl;
        blocks = (
          record {
            successors = refl;
            liveins = refl;
            instrs = (
              same_entry (refl, (refl, tt)),
              (same_entry (refl, (refl, tt)), (same_entry (refl, (refl, (refl, tt))), (same_entry (refl, (refl, tt)), (same_entry (refl, tt), tt)))),
            );
          },
          tt,
        );
        next_reg = refl;
        next_id = refl;
      };
    },
    tt,
  );
}

pub spells_stated : Spells stated_text generic_module
spells_stated = read_spelled stated_text generic_module reads_stated

-- a text that says nothing of the key `selected` doesn't spell a function that is selected
pub spells_no_selected : Spells stated_text selected_module → ⊥
spells_no_selected spelled = let wrong : true ≡ false = (spelled_one stated_text generic_module selected_module spells_stated spelled).functions.0.selected in cc

-- nor does a text spell a module with another function after it
pub spells_no_more : Spells selected_text (record selected_module { functions = function_of Class Add ∷ function_of Class Add ∷ [] }) → ⊥
spells_no_more spelled = (spelled_one selected_text selected_module (record selected_module { functions = function_of Class Add ∷ function_of Class Add ∷ [] }) spells_selected spelled).functions.1
