-- What is named stays named where names grow.
use Rattle.std.proofs.Common.{◌≡◌, ℕ, List, [], ◌∷◌, ◌++◌, ◌<◌, length, ap, ◌∙◌, append_assoc, arith}
use Rattle.gi_mir.specs.Names.{name_at}
use Rattle.std.proofs.lemmas.List.{get_or_append_left, length-append}
use Rattle.std.specs.List.{AllZip}
use Rattle.gi_mir.specs.Data.{InstrData, BlockData, FunctionData}
use Rattle.gi_mir.specs.declared.operand.Operand.{Operand}
use Rattle.gi_mir.specs.declared.operand.Operand.TheVariants as operand
use Rattle.gi_mir.specs.declared.operand.SymbolFlag.{SymbolFlag}
use Rattle.gi_spelling.specs.Named.{Extends, IsNamedGlobal, IsNamedOperand, IsNamedInstr, IsNamedEntry, IsNamedBlock, IsNamedFunction}

pub AllZip-implies : {A B : Type 0} (P Q : A → B → Type 0) → ((x : A) (y : B) → P x y → Q x y) → (xs : List A) (ys : List B) → AllZip P xs ys → AllZip Q xs ys
AllZip-implies P Q step [] [] all = tt
AllZip-implies P Q step [] (y ∷ ys) all = absurd all
AllZip-implies P Q step (x ∷ xs) [] all = absurd all
AllZip-implies P Q step (x ∷ xs) (y ∷ ys) all = (step x y all.0, AllZip-implies P Q step xs ys all.1)

pub extends_more : (first second third : List (List ℕ)) → Extends first second → Extends second third → Extends first third
extends_more first second third a b = record { more = a.more ++ b.more; grown = b.grown ∙ ap (λ names. names ++ b.more) a.grown ∙ append_assoc first a.more b.more }

pub name_kept : (names more : List (List ℕ)) (number : ℕ) → number < length names → name_at (names ++ more) number ≡ name_at names number
name_kept names more number within = get_or_append_left names more [] number within

module _ (text : List ℕ) (old new : List (List ℕ)) (grows : Extends old new) where
  named_global : (flag : SymbolFlag) (place : ℕ) (to : Operand) → IsNamedGlobal text old flag place to → IsNamedGlobal text new flag place to
  named_global flag place to is = record {
    number = is.number;
    same = is.same;
    within = rw grows.grown (omega (arith, length-append old grows.more, is.within));
    named = rw grows.grown (name_kept old grows.more is.number is.within ∙ is.named);
  }

  pub named_operand : (from to : Operand) → IsNamedOperand text old from to → IsNamedOperand text new from to
  named_operand (operand.Global flag place) to is = named_global flag place to is
  named_operand _ to is = is

  pub named_instr : (from to : InstrData) → IsNamedInstr text old from to → IsNamedInstr text new from to
  named_instr from to is = record {
    op = is.op;
    flags = is.flags;
    operands = AllZip-implies (IsNamedOperand text old) (IsNamedOperand text new) named_operand from.operands to.operands is.operands;
    memory = is.memory;
    line = is.line;
  }

  pub named_instrs : (from to : List InstrData) → AllZip (IsNamedInstr text old) from to → AllZip (IsNamedInstr text new) from to
  named_instrs from to all = AllZip-implies (IsNamedInstr text old) (IsNamedInstr text new) named_instr from to all

  pub named_entry : (from to : ℕ × InstrData) → IsNamedEntry text old from to → IsNamedEntry text new from to
  named_entry from to is = record { id = is.id; instr = named_instr from.1 to.1 is.instr }

  pub named_block : (from to : BlockData) → IsNamedBlock text old from to → IsNamedBlock text new from to
  named_block from to is = record {
    successors = is.successors;
    liveins = is.liveins;
    instrs = AllZip-implies (IsNamedEntry text old) (IsNamedEntry text new) named_entry from.instrs to.instrs is.instrs;
  }

  pub named_function : (from to : FunctionData) → IsNamedFunction text old from to → IsNamedFunction text new from to
  named_function from to is = record {
    legalized = is.legalized;
    banked = is.banked;
    selected = is.selected;
    stack = is.stack;
    blocks = AllZip-implies (IsNamedBlock text old) (IsNamedBlock text new) named_block from.blocks to.blocks is.blocks;
    next_reg = is.next_reg;
    next_id = is.next_id;
  }
