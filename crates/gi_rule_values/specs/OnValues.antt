-- A rewrite on values alone: a rule of `gi_refine`, where x is the width of a machine register in bits. Symbols and stack
-- objects are what the world and the module's names give.
use Rattle.std.specs.Prelude.{ℕ, ◌+◌, pos, List, [], ◌∷◌, None, length, map}
use Rattle.std.specs.Option.{option_map_or}
use Rattle.gi_llt.specs.Llt.{width_of}
use Rattle.gi_meaning.specs.Argument.{Number}
use Rattle.gi_meaning.specs.State.{World}
use Rattle.gi_refine.specs.Agreement.{setting}
use Rattle.gi_refine.specs.Lifting.{fixed_argument}
use Rattle.gi_refine.specs.Values.{Slot as Place, At as AtPlace, Fixed, Operation, Fact, Defines, Rule}
use Rattle.gi_rule_values.specs.Data.{DefinitionData, OperationData, RewriteData}
use Rattle.gi_rule_values.specs.declared.rewrite.Slot.{Slot}
use Rattle.gi_rule_values.specs.declared.rewrite.Slot.TheVariants.{At, Stands}

-- what an operation takes for a slot
abbrev pub slot_on_values : (x : ℕ) (names : List (List ℕ)) → World → Slot → Place
slot_on_values x names w (At place) = AtPlace place
slot_on_values x names w (Stands operand) = option_map_or Fixed (fixed_argument (setting x names (λ r. x)) w operand) (Fixed (Number (pos 0)))

abbrev pub operation_on_values : (x : ℕ) (names : List (List ℕ)) → World → OperationData → Operation
operation_on_values x names w o = record {
  op = o.op;
  flags = o.flags;
  slots = map (slot_on_values x names w) o.slots;
  mem = None;
  widths = map (width_of x) o.types;
}

-- the definition holds
abbrev pub fact_of : (x : ℕ) (names : List (List ℕ)) → World → DefinitionData → Fact
fact_of x names w d = Defines (operation_on_values x names w d.operation) d.results

-- each result of the root, which stands behind the inputs, has the value at its place
abbrev pub kept_from : (place : ℕ) → List ℕ → List (ℕ × ℕ)
kept_from place [] = []
kept_from place (result ∷ results) = (place, result) ∷ kept_from (place + 1) results

abbrev pub on_values : (x : ℕ) (names : List (List ℕ)) → World → RewriteData → Rule
on_values x names w rewrite = record {
  inputs = map (width_of x) rewrite.inputs;
  facts = map (fact_of x names w) rewrite.definitions;
  old = operation_on_values x names w rewrite.root ∷ [];
  new = map (operation_on_values x names w) rewrite.made;
  kept = kept_from (length rewrite.inputs) rewrite.results;
}
