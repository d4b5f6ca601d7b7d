-- What is selected from one module is printed with the same bytes, whatever the ids are.
use Rattle.std.proofs.Common.{◌≡◌, ℕ, List, [], ◌∷◌, refl, sym, ap, ◌∙◌, subst}
use Rattle.gi_mir.specs.Names.{name_at}
use Rattle.std.specs.List.{AllZip}
use Rattle.gi_mir.specs.Data.{InstrData, BlockData, FunctionData, ModuleData}
use Rattle.gi_mir.specs.Numbering.{numbered_module}
use Rattle.gi_mir.specs.declared.operand.Operand.{Operand}
use Rattle.gi_mir.specs.declared.operand.Operand.TheVariants.{Global}
use Rattle.gi_spelling.specs.Printed.{printed}
use Rattle.gi_spelling.specs.Same as alike
use Rattle.gi_spelling.proofs.NumberedSame.{numbered_same}
use Rattle.gi_spelling.proofs.SamePrints.{printed_alike}
use Rattle.gi_answer.specs.Rows.{selection_rows}
use Rattle.gi_answer.specs.Selection.{selected_form, IsSameInstr, IsSameBlock, IsSameFunction, IsSelected, IsSelectedModule}
use Rattle.gi_answer.proofs.NormalForms.{one_normal_form}

module _ (names : List (List ℕ)) where
  operands_alike : (os : List Operand) → AllZip (alike.IsSameOperand names names) os os
  operands_alike [] = tt
  operands_alike (Global flag number ∷ os) = (record { other_number = number; same = refl; named = refl }, operands_alike os)
  operands_alike (o ∷ os) = (refl, operands_alike os)

  instr_alike : (i j k : ℕ × InstrData) → IsSameInstr i j → IsSameInstr i k → alike.IsSameInstr names names j k
  instr_alike i j k one other =
      let same : k.1 ≡ j.1 = other ∙ sym one in record {
        op = ap (λ (d : InstrData). d.op) same;
        flags = ap (λ (d : InstrData). d.flags) same;
        operands = subst (λ (d : InstrData). AllZip (alike.IsSameOperand names names) j.1.operands d.operands) (sym same) (operands_alike j.1.operands);
        memory = ap (λ (d : InstrData). d.mem) same;
      }

  -- what is the same as one list is alike
  both : {A : Type 0} (Same : A → A → Type 0) (Alike : A → A → Type 0) → ((a b c : A) → Same a b → Same a c → Alike b c) → (xs ys zs : List A) → AllZip Same xs ys → AllZip Same xs zs → AllZip Alike ys zs
  both Same Alike each [] [] [] one other = tt
  both Same Alike each [] (y ∷ ys) zs one other = absurd one
  both Same Alike each [] [] (z ∷ zs) one other = absurd other
  both Same Alike each (x ∷ xs) [] zs one other = absurd one
  both Same Alike each (x ∷ xs) (y ∷ ys) [] one other = absurd other
  both Same Alike each (x ∷ xs) (y ∷ ys) (z ∷ zs) one other = (each x y z one.0 other.0, both Same Alike each xs ys zs one.1 other.1)

  block_alike : (b c d : BlockData) → IsSameBlock b c → IsSameBlock b d → alike.IsSameBlock names names c d
  block_alike b c d one other = record {
    successors = other.successors ∙ sym one.successors;
    liveins = other.liveins ∙ sym one.liveins;
    instrs = both IsSameInstr (alike.IsSameInstr names names) instr_alike b.instrs c.instrs d.instrs one.instrs other.instrs;
  }

  function_alike : (f g h : FunctionData) → IsSameFunction f g → IsSameFunction f h → alike.IsSameFunction names names g h
  function_alike f g h one other = record {
    name = ap (name_at names) (other.name ∙ sym one.name);
    legalized = other.legalized ∙ sym one.legalized;
    banked = other.banked ∙ sym one.banked;
    selected = other.chosen ∙ sym one.chosen;
    stack = other.stack ∙ sym one.stack;
    blocks = both IsSameBlock (alike.IsSameBlock names names) block_alike f.blocks g.blocks h.blocks one.blocks other.blocks;
  }

  selected_alike : (f g h : FunctionData) → IsSelected f g → IsSelected f h → alike.IsSameFunction names names g h
  selected_alike f g h one other =
      function_alike (selected_form one.normal) g h one.same
      (subst (λ m. IsSameFunction (selected_form m) h) (one_normal_form selection_rows f other.normal one.normal other.is_normal one.is_normal) other.same)

pub one_selected_text : (source a b : ModuleData) → IsSelectedModule source a → IsSelectedModule source b → printed (numbered_module a) ≡ printed (numbered_module b)
one_selected_text source a b one other =
    let names : List (List ℕ) = a.names in
    let same : b.names ≡ a.names = other.names ∙ sym one.names in
    printed_alike (numbered_module a) (numbered_module b) (numbered_same a b (record {
      ir = other.ir ∙ sym one.ir;
      functions = subst (λ others. AllZip (alike.IsSameFunction names others) a.functions b.functions) (sym same)
          (both names IsSelected (alike.IsSameFunction names names) (selected_alike names) source.functions a.functions b.functions one.functions other.functions);
    }))
