-- Neither the numbers of registers nor what a text doesn't show matter to whether a function is legal.
use mathlib.Core.Path.{fun_ext}
use Rattle.std.proofs.Common.{◌≡◌, ℕ, Bool, true, false, ◌&&◌, List, [], ◌∷◌, ◌++◌, Option, Some, None, map, refl, sym, ap, ap₂, ◌∙◌, if◌then◌else◌}
use Rattle.std.specs.Prelude.{unwrap_or}
use Rattle.std.specs.List.{AllZip, cons_option, filter_map, list_all, list_any}
use Rattle.std.specs.Option.{option_map_or}
use Rattle.gi_mir.specs.Data.{InstrData, BlockData, FunctionData}
use Rattle.gi_mir.specs.Numbering.{order_of, number_in, numbered}
use Rattle.gi_mir.specs.Registers.{kind_of, type_of_kind}
use Rattle.gi_mir.specs.Renaming.{IsInjective, renamed, renamed_operand, renamed_pair, renamed_block}
use Rattle.gi_mir.specs.Row.{standing_of}
use Rattle.gi_mir.specs.Stages.{is_before_selection}
use Rattle.gi_mir.specs.declared.opcode.Opcode.{Opcode}
use Rattle.gi_mir.specs.declared.opcode.Opcode.TheVariants as op
use Rattle.gi_mir.specs.declared.operand.Kind.TheVariants.{Class}
use Rattle.gi_mir.specs.declared.operand.Operand.{Operand}
use Rattle.gi_mir.specs.declared.operand.Operand.TheVariants as operand
use Rattle.gi_llt.specs.declared.Llt.{Llt}
use Rattle.gi_mir.specs.declared.operand.Kind.{Kind}
use Rattle.gi_mir.specs.declared.operand.Reg.{Reg}
use Rattle.gi_mir.specs.declared.operand.SymbolFlag.{SymbolFlag}
use Rattle.gi_mir.specs.declared.operand.MemOp.{MemOp}
use Rattle.gi_mir.proofs.KindLemmas.{kind_in_blocks_old}
use Rattle.gi_mir.proofs.NumberingLaws.{number_in_apart}
use Rattle.gi_rules.specs.Legal.{fits, is_legal_access, is_legal_generic, is_legal_number, legal_generics, legal_rows, type_in_memory, type_there, types_of}
use Rattle.gi_spelling.specs.Same as alike
use Rattle.gi_spelling.proofs.SamePrints.{blocks_kind}

-- in another function this operand has the same type, and is a legal number where the other is
record IsAsLegal (x : ℕ) (f g : FunctionData) (o other : Operand) : Type 0 where
  pub there : type_there g other ≡ type_there f o
  pub number : (word : Opcode) → is_legal_number x word other ≡ is_legal_number x word o

-- the same opcode, memory operand and kinds of operands
record IsInstrAsLegal (x : ℕ) (f g : FunctionData) (i other : InstrData) : Type 0 where
  pub op : other.op ≡ i.op
  pub mem : other.mem ≡ i.mem
  pub operands : AllZip (IsAsLegal x f g) i.operands other.operands

module _ (x : ℕ) (f g : FunctionData) where
  types_same : (os others : List Operand) → AllZip (IsAsLegal x f g) os others → filter_map (type_there g) others ≡ filter_map (type_there f) os
  types_same [] [] all = refl
  types_same [] (other ∷ others) all = absurd all
  types_same (o ∷ os) [] all = absurd all
  types_same (o ∷ os) (other ∷ others) all = ap₂ cons_option (all.0).there (types_same os others all.1)

  numbers_same : (word : Opcode) (os others : List Operand) → AllZip (IsAsLegal x f g) os others → list_all (is_legal_number x word) others ≡ list_all (is_legal_number x word) os
  numbers_same word [] [] all = refl
  numbers_same word [] (other ∷ others) all = absurd all
  numbers_same word (o ∷ os) [] all = absurd all
  numbers_same word (o ∷ os) (other ∷ others) all = ap₂ (λ a b. a && b) ((all.0).number word) (numbers_same word os others all.1)

abbrev legal_of : (x : ℕ) → Opcode → Option MemOp → (types : List (Option Llt)) → (are_numbers : Bool) → Bool
legal_of x word mem types are_numbers =
    if is_before_selection (standing_of word)
    then list_any (λ row. fits x row (types ++ type_in_memory mem)) (legal_rows word) && are_numbers && option_map_or (is_legal_access x) mem true
    else true

module _ (x : ℕ) (f g : FunctionData) where
  instr_same : (i other : InstrData) → IsInstrAsLegal x f g i other → is_legal_generic x g other ≡ is_legal_generic x f i
  instr_same i other same =
      ap₂ (legal_of x other.op other.mem) (types_same x f g i.operands other.operands same.operands) (numbers_same x f g other.op i.operands other.operands same.operands)
      ∙ ap₂ (λ word mem. legal_of x word mem (filter_map (type_there f) i.operands) (list_all (is_legal_number x word) i.operands)) same.op same.mem

  instrs_same : (is others : List (ℕ × InstrData)) → AllZip (λ (i other : ℕ × InstrData). IsInstrAsLegal x f g i.1 other.1) is others
      → list_all (λ i. is_legal_generic x g i.1) others ≡ list_all (λ i. is_legal_generic x f i.1) is
  instrs_same [] [] all = refl
  instrs_same [] (other ∷ others) all = absurd all
  instrs_same (i ∷ is) [] all = absurd all
  instrs_same (i ∷ is) (other ∷ others) all = ap₂ (λ a b. a && b) (instr_same i.1 other.1 all.0) (instrs_same is others all.1)

  blocks_same : (bs others : List BlockData) → AllZip (λ (b other : BlockData). AllZip (λ (i j : ℕ × InstrData). IsInstrAsLegal x f g i.1 j.1) b.instrs other.instrs) bs others
      → list_all (λ (b : BlockData). list_all (λ i. is_legal_generic x g i.1) b.instrs) others ≡ list_all (λ (b : BlockData). list_all (λ i. is_legal_generic x f i.1) b.instrs) bs
  blocks_same [] [] all = refl
  blocks_same [] (other ∷ others) all = absurd all
  blocks_same (b ∷ bs) [] all = absurd all
  blocks_same (b ∷ bs) (other ∷ others) all = ap₂ (λ a c. a && c) (instrs_same b.instrs other.instrs all.0) (blocks_same bs others all.1)

-- ══ Other numbers ══

-- a virtual register, and a symbol, is a legal number wherever it stands
definition_number : (x : ℕ) (word : Opcode) (r : Reg) (kind : Kind) → is_legal_number x word (operand.Def r kind) ≡ true
definition_number x op.GenericSignExtendInRegister r kind = refl
definition_number x _ r kind = refl

use_number : (x : ℕ) (word : Opcode) (r : Reg) → is_legal_number x word (operand.Use r) ≡ true
use_number x op.GenericSignExtendInRegister r = refl
use_number x _ r = refl

symbol_number : (x : ℕ) (word : Opcode) (flag : SymbolFlag) (number : ℕ) → is_legal_number x word (operand.Global flag number) ≡ true
symbol_number x op.GenericSignExtendInRegister flag number = refl
symbol_number x _ flag number = refl

module _ (x : ℕ) (number : ℕ → ℕ) (apart : IsInjective number) (f : FunctionData) where
  kind_renamed : (r : ℕ) → Some (type_of_kind (kind_of (renamed number f) (number r))) ≡ Some (type_of_kind (kind_of f r))
  kind_renamed r = ap (λ kind. Some (type_of_kind (unwrap_or kind Class))) (kind_in_blocks_old number apart r f.blocks)

  operand_renamed : (o : Operand) → IsAsLegal x f (renamed number f) o (renamed_operand number o)
  operand_renamed (operand.Def r kind) = record { there = kind_renamed r.0; number = λ word. definition_number x word (record { 0 = number r.0 }) kind ∙ sym (definition_number x word r kind) }
  operand_renamed (operand.Use r) = record { there = kind_renamed r.0; number = λ word. use_number x word (record { 0 = number r.0 }) ∙ sym (use_number x word r) }
  operand_renamed _ = record { there = refl; number = λ word. refl }

  operands_renamed : (os : List Operand) → AllZip (IsAsLegal x f (renamed number f)) os (map (renamed_operand number) os)
  operands_renamed [] = tt
  operands_renamed (o ∷ os) = (operand_renamed o, operands_renamed os)

  instrs_renamed : (is : List (ℕ × InstrData)) → AllZip (λ (i j : ℕ × InstrData). IsInstrAsLegal x f (renamed number f) i.1 j.1) is (map (renamed_pair number) is)
  instrs_renamed [] = tt
  instrs_renamed (i ∷ is) = (record { op = refl; mem = refl; operands = operands_renamed (i.1).operands }, instrs_renamed is)

  blocks_renamed : (bs : List BlockData)
      → AllZip (λ (b other : BlockData). AllZip (λ (i j : ℕ × InstrData). IsInstrAsLegal x f (renamed number f) i.1 j.1) b.instrs other.instrs) bs (map (renamed_block number) bs)
  blocks_renamed [] = tt
  blocks_renamed (b ∷ bs) = (instrs_renamed b.instrs, blocks_renamed bs)

pub numbered_legal : (x : ℕ) (f : FunctionData) → legal_generics x (numbered f) ≡ legal_generics x f
numbered_legal x f =
    let number : ℕ → ℕ = number_in (order_of f) in
    blocks_same x f (renamed number f) f.blocks (map (renamed_block number) f.blocks) (blocks_renamed x number (number_in_apart (order_of f)) f f.blocks)

-- ══ What a text doesn't show ══

module _ (x : ℕ) (names others : List (List ℕ)) (f g : FunctionData) (same : alike.IsSameFunction names others f g) where
  kinds_same : kind_of g ≡ kind_of f
  kinds_same = fun_ext (λ r. ap (λ kind. unwrap_or kind Class) (blocks_kind names others r f.blocks g.blocks same.blocks))

  -- the type of one operand by either function's kinds
  there_same : (o : Operand) → type_there g o ≡ type_there f o
  there_same (operand.Def r kind) = ap (λ (kinds : ℕ → Kind). Some (type_of_kind (kinds r.0))) kinds_same
  there_same (operand.Use r) = ap (λ (kinds : ℕ → Kind). Some (type_of_kind (kinds r.0))) kinds_same
  there_same _ = refl

  equal_operand : (o other : Operand) → other ≡ o → IsAsLegal x f g o other
  equal_operand o other is = record { there = ap (type_there g) is ∙ there_same o; number = λ word. ap (is_legal_number x word) is }

  operand_same : (o other : Operand) → alike.IsSameOperand names others o other → IsAsLegal x f g o other
  operand_same (operand.Global flag number) other is = record {
    there = ap (type_there g) is.same;
    number = λ word. ap (is_legal_number x word) is.same ∙ symbol_number x word flag is.other_number ∙ sym (symbol_number x word flag number);
  }
  operand_same (operand.Def r kind) other is = equal_operand (operand.Def r kind) other is
  operand_same (operand.Use r) other is = equal_operand (operand.Use r) other is
  operand_same _ other is = record { there = ap (type_there g) is; number = λ word. ap (is_legal_number x word) is }

  operands_same : (os others_of : List Operand) → AllZip (alike.IsSameOperand names others) os others_of → AllZip (IsAsLegal x f g) os others_of
  operands_same [] [] all = tt
  operands_same [] (other ∷ rest) all = absurd all
  operands_same (o ∷ os) [] all = absurd all
  operands_same (o ∷ os) (other ∷ rest) all = (operand_same o other all.0, operands_same os rest all.1)

  same_instrs : (is js : List (ℕ × InstrData)) → AllZip (alike.IsSameInstr names others) is js → AllZip (λ (i j : ℕ × InstrData). IsInstrAsLegal x f g i.1 j.1) is js
  same_instrs [] [] all = tt
  same_instrs [] (j ∷ js) all = absurd all
  same_instrs (i ∷ is) [] all = absurd all
  same_instrs (i ∷ is) (j ∷ js) all = (
    record { op = (all.0).op; mem = (all.0).memory; operands = operands_same (i.1).operands (j.1).operands (all.0).operands },
    same_instrs is js all.1,
  )

  same_blocks : (bs cs : List BlockData) → AllZip (alike.IsSameBlock names others) bs cs → AllZip (λ (b c : BlockData). AllZip (λ (i j : ℕ × InstrData). IsInstrAsLegal x f g i.1 j.1) b.instrs c.instrs) bs cs
  same_blocks [] [] all = tt
  same_blocks [] (c ∷ cs) all = absurd all
  same_blocks (b ∷ bs) [] all = absurd all
  same_blocks (b ∷ bs) (c ∷ cs) all = (same_instrs b.instrs c.instrs (all.0).instrs, same_blocks bs cs all.1)

  pub same_legal : legal_generics x g ≡ legal_generics x f
  same_legal = blocks_same x f g f.blocks g.blocks (same_blocks f.blocks g.blocks same.blocks)
