-- What is printable stays so in a module that is the same.
use Rattle.std.proofs.Common.{◌≡◌, ℕ, Bool, List, [], ◌∷◌, length, refl, sym, ap, ap₂, ◌∙◌, subst}
use Rattle.std.specs.Prelude.{◌&&◌, nat_lt}
use Rattle.std.specs.List.{list_all, AllByRecursion, AllZip}
use Rattle.gi_mir.specs.declared.operand.Operand.{Operand}
use Rattle.gi_mir.specs.declared.operand.Operand.TheVariants as operand
use Rattle.gi_mir.specs.Data.{InstrData, BlockData, FunctionData, ModuleData}
use Rattle.gi_spelling.specs.Printable.{Counts, counts_of, is_writable_operand, is_writable_memory, IsPrintableInstr, IsPrintableBlock, is_none_live, is_live_first, IsPrintableFunction, are_ir_lines, IsPrintableModule}
use Rattle.gi_spelling.specs.Same.{IsSameOperand, IsSameInstr, IsSameBlock, IsSameFunction, IsSameModule}
use Rattle.gi_spelling.proofs.AlikeFormed.{IsAlike, formed_alike, same_alike}
use Rattle.gi_spelling.proofs.SamePrints.{zip_length}
use Rattle.gi_spelling.proofs.Zips.{zip_weaker}

-- what holds of each item holds of each that it is paired with
all_zip : {A B : Type 0} (R : A → B → Type 0) (P : A → Type 0) (Q : B → Type 0) → ((a : A) (b : B) → R a b → P a → Q b) → (xs : List A) (ys : List B) → AllZip R xs ys
    → AllByRecursion P xs → AllByRecursion Q ys
all_zip R P Q step [] [] all holds = tt
all_zip R P Q step [] (y ∷ ys) all holds = absurd all
all_zip R P Q step (x ∷ xs) [] all holds = absurd all
all_zip R P Q step (x ∷ xs) (y ∷ ys) all holds = (step x y all.0 holds.0, all_zip R P Q step xs ys all.1 holds.1)

pub test_zip : {A B : Type 0} (R : A → B → Type 0) (p : A → Bool) (q : B → Bool) → ((a : A) (b : B) → R a b → q b ≡ p a) → (xs : List A) (ys : List B) → AllZip R xs ys → list_all q ys ≡ list_all p xs
test_zip R p q same [] [] all = refl
test_zip R p q same [] (y ∷ ys) all = absurd all
test_zip R p q same (x ∷ xs) [] all = absurd all
test_zip R p q same (x ∷ xs) (y ∷ ys) all = ap₂ (λ a b. a && b) (same x y all.0) (test_zip R p q same xs ys all.1)

module _ (names others : List (List ℕ)) where
  operand_writable : (counts : Counts) (a b : Operand) → IsSameOperand names others a b → is_writable_operand others counts b ≡ is_writable_operand names counts a
  operand_writable counts (operand.Global flag number) b is = rw (is.same, is.named) refl
  operand_writable counts (operand.Def r kind) b is = rw is refl
  operand_writable counts _ b is = rw is refl

  instr_printable : (counts : Counts) (i j : ℕ × InstrData) → IsSameInstr names others i j → IsPrintableInstr names counts i → IsPrintableInstr others counts j
  instr_printable counts i j is printable = record {
    formed = formed_alike i.1 j.1 is.op is.memory (zip_weaker (IsSameOperand names others) IsAlike (same_alike names others) (i.1).operands (j.1).operands is.operands) ∙ printable.formed;
    operands = test_zip (IsSameOperand names others) (is_writable_operand names counts) (is_writable_operand others counts) (operand_writable counts) (i.1).operands (j.1).operands is.operands ∙ printable.operands;
    memory = ap is_writable_memory is.memory ∙ printable.memory;
  }

  block_printable : (counts : Counts) (x y : BlockData) → IsSameBlock names others x y → IsPrintableBlock names counts x → IsPrintableBlock others counts y
  block_printable counts x y is printable = record {
    successors = ap (list_all (λ place. nat_lt place counts.blocks)) is.successors ∙ printable.successors;
    instrs = all_zip (IsSameInstr names others) (IsPrintableInstr names counts) (IsPrintableInstr others counts) (instr_printable counts) x.instrs y.instrs is.instrs printable.instrs;
  }

  live_same : (xs ys : List BlockData) → AllZip (IsSameBlock names others) xs ys → is_live_first ys ≡ is_live_first xs
  live_same [] [] all = refl
  live_same [] (y ∷ ys) all = absurd all
  live_same (x ∷ xs) [] all = absurd all
  live_same (x ∷ xs) (y ∷ ys) all =
      ap₂ (λ a b. a && b) (ap (list_all (λ number. nat_lt number 32)) (all.0).liveins)
      (test_zip (IsSameBlock names others) (λ block. is_none_live block.liveins) (λ block. is_none_live block.liveins) (λ a b same. ap is_none_live same.liveins) xs ys all.1)

  function_printable : (f g : FunctionData) → IsSameFunction names others f g → IsPrintableFunction names f → IsPrintableFunction others g
  function_printable f g is printable =
      let count : length g.blocks ≡ length f.blocks = zip_length (IsSameBlock names others) f.blocks g.blocks is.blocks in
      let counts : counts_of g ≡ counts_of f = ap₂ (λ blocks (stack : List _). record { blocks = blocks; objects = length stack }) count is.stack in
      let blocks : AllByRecursion (IsPrintableBlock others (counts_of f)) g.blocks =
      all_zip (IsSameBlock names others) (IsPrintableBlock names (counts_of f)) (IsPrintableBlock others (counts_of f)) (block_printable (counts_of f)) f.blocks g.blocks is.blocks printable.blocks in
      record {
        named = rw is.name printable.named;
        few_objects = rw is.stack printable.few_objects;
        objects = rw is.stack printable.objects;
        few_blocks = rw count printable.few_blocks;
        live_first = live_same f.blocks g.blocks is.blocks ∙ printable.live_first;
        blocks = subst (λ counts. AllByRecursion (IsPrintableBlock others counts) g.blocks) (sym counts) blocks;
      }

pub same_printable : (m n : ModuleData) → IsSameModule m n → IsPrintableModule m → IsPrintableModule n
same_printable m n is printable = record {
  ir = ap are_ir_lines is.ir ∙ printable.ir;
  functions = all_zip (IsSameFunction m.names n.names) (IsPrintableFunction m.names) (IsPrintableFunction n.names) (function_printable m.names n.names) m.functions n.functions is.functions printable.functions;
}
