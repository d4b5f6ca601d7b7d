-- Whether the blocks that a module names are there depends neither on what a text doesn't show nor on the numbers of
-- registers.
use Rattle.std.proofs.Common.{◌≡◌, ℕ, Bool, List, [], ◌∷◌, length, map, refl, sym, ap, ap₂, ◌∙◌}
use Rattle.std.specs.Prelude.{◌&&◌, nat_lt}
use Rattle.std.specs.List.{list_all}
use Rattle.std.proofs.lemmas.List.{length-map}
use Rattle.gi_mir.specs.Data.{InstrData, BlockData, FunctionData, ModuleData}
use Rattle.gi_mir.specs.Numbering.{order_of, number_in, numbered, numbered_module}
use Rattle.gi_mir.specs.Renaming.{renamed_operand, renamed_pair, renamed_block}
use Rattle.gi_mir.specs.declared.operand.Operand.{Operand}
use Rattle.gi_mir.specs.declared.operand.Operand.TheVariants as operand
use Rattle.gi_spelling.specs.Same.{IsSameOperand, IsSameInstr, IsSameBlock, IsSameFunction, IsSameModule}
use Rattle.gi_spelling.specs.There.{is_there_in, names_there, is_block_within, names_blocks_there, NamesBlocksThatAreThere}
use Rattle.gi_spelling.proofs.SamePrintable.{test_zip}
use Rattle.gi_spelling.proofs.SamePrints.{zip_length}

module _ (names others : List (List ℕ)) where
  operand_there : (count : ℕ) (a b : Operand) → IsSameOperand names others a b → is_there_in count b ≡ is_there_in count a
  operand_there count (operand.Global flag number) b is = rw is.same refl
  operand_there count (operand.Def r kind) b is = rw is refl
  operand_there count _ b is = rw is refl

  instr_there : (count : ℕ) (i j : ℕ × InstrData) → IsSameInstr names others i j → names_there count j ≡ names_there count i
  instr_there count i j is = test_zip (IsSameOperand names others) (is_there_in count) (is_there_in count) (operand_there count) (i.1).operands (j.1).operands is.operands

  block_there : (count : ℕ) (x y : BlockData) → IsSameBlock names others x y → is_block_within count y ≡ is_block_within count x
  block_there count x y is =
      ap₂ (λ a b. a && b) (ap (list_all (λ place. nat_lt place count)) is.successors)
      (test_zip (IsSameInstr names others) (names_there count) (names_there count) (instr_there count) x.instrs y.instrs is.instrs)

  function_there : (f g : FunctionData) → IsSameFunction names others f g → names_blocks_there g ≡ names_blocks_there f
  function_there f g is =
      ap (λ count. list_all (is_block_within count) g.blocks) (zip_length (IsSameBlock names others) f.blocks g.blocks is.blocks)
      ∙ test_zip (IsSameBlock names others) (is_block_within (length f.blocks)) (is_block_within (length f.blocks)) (block_there (length f.blocks)) f.blocks g.blocks is.blocks

there_alike : (m n : ModuleData) → IsSameModule m n → list_all names_blocks_there n.functions ≡ list_all names_blocks_there m.functions
there_alike m n is = test_zip (IsSameFunction m.names n.names) names_blocks_there names_blocks_there (function_there m.names n.names) m.functions n.functions is.functions

-- ══ Numbers of registers ══

all_renamed : {X : Type 0} (test : X → Bool) (rename : X → X) → ((x : X) → test (rename x) ≡ test x) → (xs : List X) → list_all test (map rename xs) ≡ list_all test xs
all_renamed test rename same [] = refl
all_renamed test rename same (x ∷ xs) = ap₂ (λ a b. a && b) (same x) (all_renamed test rename same xs)

module _ (number : ℕ → ℕ) (count : ℕ) where
  renamed_there : (o : Operand) → is_there_in count (renamed_operand number o) ≡ is_there_in count o
  renamed_there (operand.Def r kind) = refl
  renamed_there (operand.Use r) = refl
  renamed_there o = refl

  pair_there : (i : ℕ × InstrData) → names_there count (renamed_pair number i) ≡ names_there count i
  pair_there i = all_renamed (is_there_in count) (renamed_operand number) renamed_there (i.1).operands

  within_renamed : (block : BlockData) → is_block_within count (renamed_block number block) ≡ is_block_within count block
  within_renamed block = ap (λ later. list_all (λ place. nat_lt place count) block.successors && later) (all_renamed (names_there count) (renamed_pair number) pair_there block.instrs)

numbered_there : (f : FunctionData) → names_blocks_there (numbered f) ≡ names_blocks_there f
numbered_there f =
    let number = number_in (order_of f) in
    ap (λ count. list_all (is_block_within count) (numbered f).blocks) (length-map f.blocks (renamed_block number))
    ∙ all_renamed (is_block_within (length f.blocks)) (renamed_block number) (within_renamed number (length f.blocks)) f.blocks

module_there : (m : ModuleData) → list_all names_blocks_there (numbered_module m).functions ≡ list_all names_blocks_there m.functions
module_there m = all_renamed names_blocks_there numbered numbered_there m.functions

-- the module that is the same once registers are numbered
pub there_too : (m n : ModuleData) → IsSameModule (numbered_module n) (numbered_module m) → NamesBlocksThatAreThere m → NamesBlocksThatAreThere n
there_too m n is there = record { each = sym (module_there n) ∙ sym (there_alike (numbered_module n) (numbered_module m) is) ∙ module_there m ∙ there.each }
