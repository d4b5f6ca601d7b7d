-- What a printer knows of a function's registers, and what it shows by it.
use Rattle.std.specs.Prelude.{◌≡◌, ℕ, ◌-◌, Bool, true, false, ◌∷◌, List, [], ◌++◌, ◌&&◌, Option, nat_lt, if◌then◌else◌, length, fold, map, slice_index, unwrap_or, codes}
use Rattle.gi_mir.specs.Names.{name_at}
use Rattle.gi_mir.specs.Data.{InstrData, BlockData, FunctionData}
use Rattle.gi_mir.specs.Numbering.{number_in, with_register}
use Rattle.gi_mir.specs.Registers.{first_there}
use Rattle.gi_mir.specs.Renaming.{renamed_operand, renamed_instr, renamed_pair, renamed_block}
use Rattle.gi_mir.specs.declared.operand.Kind.{Kind}
use Rattle.gi_mir.specs.declared.operand.Kind.TheVariants.{Class}
use Rattle.gi_mir.specs.declared.operand.Operand.{Operand}
use Rattle.gi_mir.specs.declared.operand.Operand.TheVariants as operand
use Rattle.gi_mir.specs.Row.{is_branch_op}
use Rattle.gi_registers.specs.Noted.{kind_noted}
use Rattle.gi_spelling.specs.Printed.{successors_pieces, key_lines, stack_lines, blocks_lines, text_of}
use Rattle.gi_llt.specs.Tokens.{Spaces, piece_bytes}
use Rattle.std.specs.List.{list_any}
use Rattle.gi_mir.specs.declared.row.Form.{Form}
use Rattle.gi_mir.specs.declared.row.Form.TheVariants as form

-- the registers in the order of their first appearance, and the kind of each at its first definition
pub record RegistersData : Type 0 where
  pub order : List ℕ
  pub kinds : List (ℕ × Kind)

-- the register that a number in the order stands for
abbrev pub register_at : List ℕ → ℕ → ℕ
register_at order number = if nat_lt number (length order) then slice_index order number else number - length order

-- registers are added to the order, and kinds are noted where none was
pub record IsNoted (old new : RegistersData) (registers : List ℕ) (kind_found : ℕ → Option Kind) : Type 0 where
  pub order : new.order ≡ fold with_register old.order registers
  pub kinds : (r : ℕ) → kind_noted new.kinds r ≡ first_there (kind_noted old.kinds r) (kind_found r)

-- the kind of a register, by the number that it is shown with
unfoldable pub kind_at : RegistersData → ℕ → Kind
kind_at registers number = unwrap_or (kind_noted registers.kinds (register_at registers.order number)) Class

-- what is shown, with the registers' new numbers
abbrev pub shown_operand : RegistersData → Operand → Operand
shown_operand registers = renamed_operand (number_in registers.order)

abbrev pub shown_operands : RegistersData → List Operand → List Operand
shown_operands registers = map (renamed_operand (number_in registers.order))

abbrev pub shown_instr : RegistersData → InstrData → InstrData
shown_instr registers = renamed_instr (number_in registers.order)

abbrev pub shown_instrs : RegistersData → List (ℕ × InstrData) → List (ℕ × InstrData)
shown_instrs registers = map (renamed_pair (number_in registers.order))

abbrev pub shown_block : RegistersData → BlockData → BlockData
shown_block registers = renamed_block (number_in registers.order)

abbrev pub shown_blocks : RegistersData → List BlockData → List BlockData
shown_blocks registers = map (renamed_block (number_in registers.order))

-- the forms of definitions
abbrev pub is_definition_form : Form → Bool
is_definition_form form.Def = true
is_definition_form form.PhysicalDef = true
is_definition_form form.Results = true
is_definition_form _ = false

-- whether an operand is a block, and whether an instruction branches to one
abbrev pub is_target : Operand → Bool
is_target (operand.Block place) = true
is_target _ = false

abbrev pub has_target : ℕ × InstrData → Bool
has_target i = is_branch_op (i.1).op && list_any is_target (i.1).operands

-- the line of successors, where it is stated
abbrev pub successors_stated : Bool → List ℕ → List (List ℕ)
successors_stated is_stated successors = if is_stated then piece_bytes (Spaces 4 ∷ successors_pieces successors) ∷ [] else []

-- the line feed of an empty line after lines, if there are any
abbrev pub gap_after : List (List ℕ) → List ℕ
gap_after [] = []
gap_after (line ∷ lines) = 10 ∷ []

-- the text of a function up to its stack objects
abbrev pub begun_lines : (names : List (List ℕ)) → FunctionData → List ℕ
begun_lines names f =
    (codes "---" ++ (10 ∷ codes "name:            ")) ++ (name_at names f.name ++ (10 ∷ (text_of (key_lines f.legalized (codes "legalized:       true"))
    ++ (text_of (key_lines f.banked (codes "regBankSelected: true"))
    ++ (text_of (key_lines f.selected (codes "selected:        true"))
    ++ (codes "tracksRegLiveness: true" ++ (10 ∷ [])))))))

-- the text of a function, with the new numbers of its registers
abbrev pub shown_function : RegistersData → (names : List (List ℕ)) → FunctionData → List ℕ
shown_function registers names f =
    begun_lines names f ++ (text_of (stack_lines f.stack) ++ ((codes "body:             |" ++ (10 ∷ []))
    ++ (text_of (blocks_lines (kind_at registers) names 0 (length f.blocks) (shown_blocks registers f.blocks)) ++ (codes "..." ++ (10 ∷ [])))))
