-- Modules that are the same are printed alike.
use mathlib.Core.Path.{fun_ext}
use Rattle.std.proofs.Common.{◌≡◌, ℕ, suc, Bool, List, [], ◌∷◌, ◌++◌, length, refl, sym, ap, ap₂, ◌∙◌}
use Rattle.std.specs.Prelude.{◌&&◌, not, ◌==◌, if◌then◌else◌, unwrap_or}
use Rattle.std.specs.List.{AllZip}
use Rattle.gi_mir.specs.declared.operand.Kind.{Kind}
use Rattle.gi_mir.specs.declared.operand.Kind.TheVariants.{Class}
use Rattle.gi_mir.specs.declared.operand.Operand.{Operand}
use Rattle.gi_mir.specs.declared.operand.Operand.TheVariants as operand
use Rattle.gi_mir.specs.declared.row.Form.{Form}
use Rattle.gi_mir.specs.Data.{InstrData, BlockData, FunctionData, ModuleData}
use Rattle.gi_mir.specs.Registers.{first_there, kind_in_operand, kind_in_operands, kind_in_instrs, kind_in_blocks, kind_of}
use Rattle.gi_mir.specs.Row.{is_branch_op, is_unconditional_op, rows_of}
use Rattle.gi_spelling.specs.Printed.{operand_pieces, definitions_of, sources_of, source_forms, first_row, is_typed_by, forms_after, source_pieces, instr_line, instr_lines, with_place, with_targets, with_branches, falls_through, implied_successors, block_lines, blocks_lines, printed_lines, functions_lines, ir_lines, text_of, printed}
use Rattle.gi_spelling.specs.Same.{IsSameOperand, IsSameInstr, IsSameBlock, IsSameFunction, IsSameModule}

-- a list of pairs has one length
pub zip_length : {A B : Type 0} (R : A → B → Type 0) (xs : List A) (ys : List B) → AllZip R xs ys → length ys ≡ length xs
zip_length R [] [] all = refl
zip_length R [] (y ∷ ys) all = absurd all
zip_length R (x ∷ xs) [] all = absurd all
zip_length R (x ∷ xs) (y ∷ ys) all = ap suc (zip_length R xs ys all.1)

module _ (names others : List (List ℕ)) where
  -- ══ Successors ══

  targets_same : (places : List ℕ) (xs ys : List Operand) → AllZip (IsSameOperand names others) xs ys → with_targets places ys ≡ with_targets places xs
  targets_same places [] [] all = refl
  targets_same places [] (b ∷ ys) all = absurd all
  targets_same places (a ∷ xs) [] all = absurd all
  targets_same places (a ∷ xs) (b ∷ ys) all = chosen a b all.0 (λ places. targets_same places xs ys all.1)
    where
      chosen : (a b : Operand) → IsSameOperand names others a b → ((places : List ℕ) → with_targets places ys ≡ with_targets places xs) → with_targets places (b ∷ ys) ≡ with_targets places (a ∷ xs)
      chosen (operand.Global flag number) b is later = rw is.same (later places)
      chosen (operand.Block place) b is later = rw is (later (with_place places place))
      chosen _ b is later = rw is (later places)

  branches_same : (places : List ℕ) (is js : List (ℕ × InstrData)) → AllZip (IsSameInstr names others) is js → with_branches places js ≡ with_branches places is
  branches_same places [] [] all = refl
  branches_same places [] (j ∷ js) all = absurd all
  branches_same places (i ∷ is) [] all = absurd all
  branches_same places (i ∷ is) (j ∷ js) all =
      let here : (if is_branch_op (j.1).op then with_targets places (j.1).operands else places) ≡ (if is_branch_op (i.1).op then with_targets places (i.1).operands else places) =
      ap₂ (λ op targets. if is_branch_op op then targets else places) (all.0).op (targets_same places (i.1).operands (j.1).operands (all.0).operands) in
      ap (λ places. with_branches places js) here ∙ branches_same (if is_branch_op (i.1).op then with_targets places (i.1).operands else places) is js all.1

  falls_same : (is js : List (ℕ × InstrData)) → AllZip (IsSameInstr names others) is js → falls_through js ≡ falls_through is
  falls_same [] [] all = refl
  falls_same [] (j ∷ js) all = absurd all
  falls_same (i ∷ is) [] all = absurd all
  falls_same (i ∷ []) (j ∷ []) all = ap (λ op. not (is_unconditional_op op)) (all.0).op
  falls_same (i ∷ []) (j ∷ next ∷ js) all = absurd all.1
  falls_same (i ∷ next ∷ is) (j ∷ []) all = absurd all.1
  falls_same (i ∷ next ∷ is) (j ∷ other ∷ js) all = falls_same (next ∷ is) (other ∷ js) all.1

  pub implied_same : (place count : ℕ) (is js : List (ℕ × InstrData)) → AllZip (IsSameInstr names others) is js → implied_successors place count js ≡ implied_successors place count is
  implied_same place count is js all =
      ap₂ (λ falls branches. if falls && not (suc place == count) then with_place branches (suc place) else branches) (falls_same is js all) (branches_same [] is js all)

  -- ══ Kinds ══

  operand_kind : (reg : ℕ) (a b : Operand) → IsSameOperand names others a b → kind_in_operand reg b ≡ kind_in_operand reg a
  operand_kind reg (operand.Global flag number) b is = rw is.same refl
  operand_kind reg (operand.Def r kind) b is = rw is refl
  operand_kind reg _ b is = rw is refl

  operands_kind : (reg : ℕ) (xs ys : List Operand) → AllZip (IsSameOperand names others) xs ys → kind_in_operands reg ys ≡ kind_in_operands reg xs
  operands_kind reg [] [] all = refl
  operands_kind reg [] (b ∷ ys) all = absurd all
  operands_kind reg (a ∷ xs) [] all = absurd all
  operands_kind reg (a ∷ xs) (b ∷ ys) all = ap₂ first_there (operand_kind reg a b all.0) (operands_kind reg xs ys all.1)

  instrs_kind : (reg : ℕ) (is js : List (ℕ × InstrData)) → AllZip (IsSameInstr names others) is js → kind_in_instrs reg js ≡ kind_in_instrs reg is
  instrs_kind reg [] [] all = refl
  instrs_kind reg [] (j ∷ js) all = absurd all
  instrs_kind reg (i ∷ is) [] all = absurd all
  instrs_kind reg (i ∷ is) (j ∷ js) all = ap₂ first_there (operands_kind reg (i.1).operands (j.1).operands (all.0).operands) (instrs_kind reg is js all.1)

  pub blocks_kind : (reg : ℕ) (xs ys : List BlockData) → AllZip (IsSameBlock names others) xs ys → kind_in_blocks reg ys ≡ kind_in_blocks reg xs
  blocks_kind reg [] [] all = refl
  blocks_kind reg [] (b ∷ ys) all = absurd all
  blocks_kind reg (a ∷ xs) [] all = absurd all
  blocks_kind reg (a ∷ xs) (b ∷ ys) all = ap₂ first_there (instrs_kind reg a.instrs b.instrs (all.0).instrs) (blocks_kind reg xs ys all.1)

  -- ══ Lines ══

  definitions_same : (xs ys : List Operand) → AllZip (IsSameOperand names others) xs ys → definitions_of ys ≡ definitions_of xs
  definitions_same [] [] all = refl
  definitions_same [] (b ∷ ys) all = absurd all
  definitions_same (a ∷ xs) [] all = absurd all
  definitions_same (a ∷ xs) (b ∷ ys) all = chosen a b all.0 (definitions_same xs ys all.1)
    where
      chosen : (a b : Operand) → IsSameOperand names others a b → definitions_of ys ≡ definitions_of xs → definitions_of (b ∷ ys) ≡ definitions_of (a ∷ xs)
      chosen (operand.Global flag number) b is later = rw is.same refl
      chosen (operand.Def r kind) b is later = rw is (ap (λ more. operand.Def r kind ∷ more) later)
      chosen (operand.PhysDef number) b is later = rw is (ap (λ more. operand.PhysDef number ∷ more) later)
      chosen _ b is later = rw is refl

  sources_same : (xs ys : List Operand) → AllZip (IsSameOperand names others) xs ys → AllZip (IsSameOperand names others) (sources_of xs) (sources_of ys)
  sources_same [] [] all = tt
  sources_same [] (y ∷ ys) all = absurd all
  sources_same (x ∷ xs) [] all = absurd all
  sources_same (x ∷ xs) (y ∷ ys) all = chosen x y all.0 all.1 (sources_same xs ys all.1)
    where
      chosen : (a b : Operand) → IsSameOperand names others a b → AllZip (IsSameOperand names others) xs ys → AllZip (IsSameOperand names others) (sources_of xs) (sources_of ys)
          → AllZip (IsSameOperand names others) (sources_of (a ∷ xs)) (sources_of (b ∷ ys))
      chosen (operand.Global flag number) b is rest later = rw is.same (record { other_number = is.other_number; same = refl; named = is.named }, rest)
      chosen (operand.Def r kind) b is rest later = rw is later
      chosen (operand.PhysDef number) b is rest later = rw is later
      chosen _ b is rest later = rw is (refl, rest)

  operand_same : (kinds : ℕ → Kind) (typed : Bool) (a b : Operand) → IsSameOperand names others a b → operand_pieces kinds others typed b ≡ operand_pieces kinds names typed a
  operand_same kinds typed (operand.Global flag number) b is = rw (is.same, is.named) refl
  operand_same kinds typed (operand.Def r kind) b is = rw is refl
  operand_same kinds typed _ b is = rw is refl

  pieces_same : (kinds : ℕ → Kind) (forms : List Form) (xs ys : List Operand) → AllZip (IsSameOperand names others) xs ys → source_pieces kinds others forms ys ≡ source_pieces kinds names forms xs
  pieces_same kinds forms [] [] all = refl
  pieces_same kinds forms [] (b ∷ ys) all = absurd all
  pieces_same kinds forms (a ∷ xs) [] all = absurd all
  pieces_same kinds forms (a ∷ xs) (b ∷ ys) all =
      ap₂ (λ first more. first ∷ more) (operand_same kinds (is_typed_by forms) a b all.0) (pieces_same kinds (forms_after forms) xs ys all.1)

  pub instr_same : (kinds : ℕ → Kind) (i j : ℕ × InstrData) → IsSameInstr names others i j → instr_line kinds others j.1 ≡ instr_line kinds names i.1
  instr_same kinds i j is =
      let operands = is.operands in
      let defined : definitions_of (j.1).operands ≡ definitions_of (i.1).operands = definitions_same (i.1).operands (j.1).operands is.operands in
      let shown : source_pieces kinds others (source_forms (first_row (rows_of (i.1).op))) (sources_of (j.1).operands) ≡ source_pieces kinds names (source_forms (first_row (rows_of (i.1).op))) (sources_of (i.1).operands) =
      pieces_same kinds (source_forms (first_row (rows_of (i.1).op))) (sources_of (i.1).operands) (sources_of (j.1).operands) (sources_same (i.1).operands (j.1).operands is.operands) in
      rw (is.op, is.flags, is.memory, defined, shown) refl

  pub instrs_same : (kinds : ℕ → Kind) (is js : List (ℕ × InstrData)) → AllZip (IsSameInstr names others) is js → instr_lines kinds others js ≡ instr_lines kinds names is
  instrs_same kinds [] [] all = refl
  instrs_same kinds [] (j ∷ js) all = absurd all
  instrs_same kinds (i ∷ is) [] all = absurd all
  instrs_same kinds (i ∷ is) (j ∷ js) all = ap₂ (λ first more. first ∷ more) (instr_same kinds i j all.0) (instrs_same kinds is js all.1)

  -- ══ Blocks ══

  block_same : (kinds : ℕ → Kind) (place count : ℕ) (x y : BlockData) → IsSameBlock names others x y → block_lines kinds others place count y ≡ block_lines kinds names place count x
  block_same kinds place count x y is =
      let implied = implied_same place count x.instrs y.instrs is.instrs in
      let lines = instrs_same kinds x.instrs y.instrs is.instrs in
      rw (is.successors, is.liveins, implied, lines) refl

  pub blocks_same : (kinds : ℕ → Kind) (place count : ℕ) (xs ys : List BlockData) → AllZip (IsSameBlock names others) xs ys → blocks_lines kinds others place count ys ≡ blocks_lines kinds names place count xs
  blocks_same kinds place count [] [] all = refl
  blocks_same kinds place count [] (y ∷ ys) all = absurd all
  blocks_same kinds place count (x ∷ xs) [] all = absurd all
  blocks_same kinds place count (x ∷ []) (y ∷ []) all = block_same kinds place count x y all.0
  blocks_same kinds place count (x ∷ []) (y ∷ next ∷ ys) all = absurd all.1
  blocks_same kinds place count (x ∷ next ∷ xs) (y ∷ []) all = absurd all.1
  blocks_same kinds place count (x ∷ next ∷ xs) (y ∷ other ∷ ys) all =
      ap₂ (λ lines more. lines ++ ([] ∷ more)) (block_same kinds place count x y all.0) (blocks_same kinds (suc place) count (next ∷ xs) (other ∷ ys) all.1)

  -- ══ Functions ══

  function_same : (f g : FunctionData) → IsSameFunction names others f g → printed_lines others g ≡ printed_lines names f
  function_same f g is =
      let kinds : kind_of g ≡ kind_of f = fun_ext (λ reg. ap (λ kind. unwrap_or kind Class) (blocks_kind reg f.blocks g.blocks is.blocks)) in
      let count : length g.blocks ≡ length f.blocks = zip_length (IsSameBlock names others) f.blocks g.blocks is.blocks in
      let blocks : blocks_lines (kind_of g) others 0 (length g.blocks) g.blocks ≡ blocks_lines (kind_of f) names 0 (length f.blocks) f.blocks =
      ap₂ (λ kinds count. blocks_lines kinds others 0 count g.blocks) kinds count ∙ blocks_same (kind_of f) 0 (length f.blocks) f.blocks g.blocks is.blocks in
      rw (is.name, is.legalized, is.banked, is.selected, is.stack, blocks) refl

  functions_same : (fs gs : List FunctionData) → AllZip (IsSameFunction names others) fs gs → functions_lines others gs ≡ functions_lines names fs
  functions_same [] [] all = refl
  functions_same [] (g ∷ gs) all = absurd all
  functions_same (f ∷ fs) [] all = absurd all
  functions_same (f ∷ fs) (g ∷ gs) all = ap₂ (λ lines more. lines ++ more) (function_same f g all.0) (functions_same fs gs all.1)

pub printed_alike : (m n : ModuleData) → IsSameModule m n → printed m ≡ printed n
printed_alike m n is =
    let ir : ir_lines m.ir ≡ ir_lines n.ir = ap ir_lines (sym is.ir) in
    let functions : functions_lines m.names m.functions ≡ functions_lines n.names n.functions = sym (functions_same m.names n.names m.functions n.functions is.functions) in
    ap₂ (λ first more. text_of (first ++ more)) ir functions
