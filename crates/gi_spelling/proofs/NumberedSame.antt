-- Modules that are the same stay the same when the registers of their functions are numbered.
use Rattle.std.proofs.Common.{◌≡◌, ℕ, List, [], ◌∷◌, ◌++◌, map, refl, sym, ap, ap₂, subst}
use Rattle.std.specs.Prelude.{flat_map, fold}
use Rattle.std.specs.List.{AllZip}
use Rattle.gi_mir.specs.declared.operand.Operand.{Operand}
use Rattle.gi_mir.specs.declared.operand.Operand.TheVariants as operand
use Rattle.gi_mir.specs.Data.{InstrData, BlockData, FunctionData, ModuleData}
use Rattle.gi_mir.specs.Numbering.{registers_in_operand, registers_in_instr, registers_in_block, with_register, order_of, number_in, numbered, numbered_module}
use Rattle.gi_mir.specs.Renaming.{renamed_operand, renamed_pair, renamed_block, renamed}
use Rattle.gi_spelling.specs.Same.{IsSameOperand, IsSameInstr, IsSameBlock, IsSameFunction, IsSameModule}

flat_zip : {A B : Type 0} (R : A → B → Type 0) (first : A → List ℕ) (second : B → List ℕ) → ((a : A) (b : B) → R a b → second b ≡ first a) → (xs : List A) (ys : List B) → AllZip R xs ys
    → flat_map second ys ≡ flat_map first xs
flat_zip R first second same [] [] all = refl
flat_zip R first second same [] (y ∷ ys) all = absurd all
flat_zip R first second same (x ∷ xs) [] all = absurd all
flat_zip R first second same (x ∷ xs) (y ∷ ys) all = ap₂ (λ a b. a ++ b) (same x y all.0) (flat_zip R first second same xs ys all.1)

map_zip : {A B C D : Type 0} (R : A → B → Type 0) (S : C → D → Type 0) (first : A → C) (second : B → D) → ((a : A) (b : B) → R a b → S (first a) (second b)) → (xs : List A) (ys : List B)
    → AllZip R xs ys → AllZip S (map first xs) (map second ys)
map_zip R S first second same [] [] all = tt
map_zip R S first second same [] (y ∷ ys) all = absurd all
map_zip R S first second same (x ∷ xs) [] all = absurd all
map_zip R S first second same (x ∷ xs) (y ∷ ys) all = (same x y all.0, map_zip R S first second same xs ys all.1)

module _ (names others : List (List ℕ)) where
  operand_registers : (a b : Operand) → IsSameOperand names others a b → registers_in_operand b ≡ registers_in_operand a
  operand_registers (operand.Global flag number) b is = rw is.same refl
  operand_registers (operand.Def r kind) b is = rw is refl
  operand_registers _ b is = rw is refl

  instr_registers : (i j : ℕ × InstrData) → IsSameInstr names others i j → registers_in_instr j ≡ registers_in_instr i
  instr_registers i j is = flat_zip (IsSameOperand names others) registers_in_operand registers_in_operand operand_registers (i.1).operands (j.1).operands is.operands

  block_registers : (x y : BlockData) → IsSameBlock names others x y → registers_in_block y ≡ registers_in_block x
  block_registers x y is = flat_zip (IsSameInstr names others) registers_in_instr registers_in_instr instr_registers x.instrs y.instrs is.instrs

  order_same : (f g : FunctionData) → IsSameFunction names others f g → order_of g ≡ order_of f
  order_same f g is = ap (fold with_register []) (flat_zip (IsSameBlock names others) registers_in_block registers_in_block block_registers f.blocks g.blocks is.blocks)

  module _ (number : ℕ → ℕ) where
    operand_renamed : (a b : Operand) → IsSameOperand names others a b → IsSameOperand names others (renamed_operand number a) (renamed_operand number b)
    operand_renamed (operand.Global flag n) b is = record { other_number = is.other_number; same = ap (renamed_operand number) is.same; named = is.named }
    operand_renamed (operand.Def r kind) b is = ap (renamed_operand number) is
    operand_renamed (operand.Use r) b is = ap (renamed_operand number) is
    operand_renamed _ b is = ap (renamed_operand number) is

    instr_renamed : (i j : ℕ × InstrData) → IsSameInstr names others i j → IsSameInstr names others (renamed_pair number i) (renamed_pair number j)
    instr_renamed i j is = record {
      op = is.op;
      flags = is.flags;
      operands = map_zip (IsSameOperand names others) (IsSameOperand names others) (renamed_operand number) (renamed_operand number) operand_renamed (i.1).operands (j.1).operands is.operands;
      memory = is.memory;
    }

    block_renamed : (x y : BlockData) → IsSameBlock names others x y → IsSameBlock names others (renamed_block number x) (renamed_block number y)
    block_renamed x y is = record {
      successors = is.successors;
      liveins = is.liveins;
      instrs = map_zip (IsSameInstr names others) (IsSameInstr names others) (renamed_pair number) (renamed_pair number) instr_renamed x.instrs y.instrs is.instrs;
    }

    function_renamed : (f g : FunctionData) → IsSameFunction names others f g → IsSameFunction names others (renamed number f) (renamed number g)
    function_renamed f g is = record {
      name = is.name;
      legalized = is.legalized;
      banked = is.banked;
      selected = is.selected;
      stack = is.stack;
      blocks = map_zip (IsSameBlock names others) (IsSameBlock names others) (renamed_block number) (renamed_block number) block_renamed f.blocks g.blocks is.blocks;
    }

  function_numbered : (f g : FunctionData) → IsSameFunction names others f g → IsSameFunction names others (numbered f) (numbered g)
  function_numbered f g is =
      subst (λ order. IsSameFunction names others (numbered f) (renamed (number_in order) g)) (sym (order_same f g is)) (function_renamed (number_in (order_of f)) f g is)

pub numbered_same : (m n : ModuleData) → IsSameModule m n → IsSameModule (numbered_module m) (numbered_module n)
numbered_same m n is = record {
  ir = is.ir;
  functions = map_zip (IsSameFunction m.names n.names) (IsSameFunction m.names n.names) numbered numbered (function_numbered m.names n.names) m.functions n.functions is.functions;
}
