-- How the program selects, from the last instruction of a block to the first: what it looks at in an
-- instruction, and what it puts in its place by what is used behind it and by the short constants of the block.
use Rattle.std.specs.Prelude.{◌≡◌, ℕ, ℤ, pos, neg_ℤ, ◌-◌, Bool, true, nat_lt, ◌==◌, List, [], ◌∷◌, Option, Some, None, option_map, find, if◌then◌else◌}
use Rattle.std.specs.List.{AllZip, list_any}
use Rattle.gi_mir.specs.declared.opcode.Opcode.{Opcode}
use Rattle.gi_mir.specs.declared.opcode.Opcode.TheVariants.{GenericConstant, GenericAdd, Add, AddImmediate}
use Rattle.gi_mir.specs.declared.operand.Reg.{Reg}
use Rattle.gi_mir.specs.declared.operand.Kind.TheVariants.{Class}
use Rattle.gi_mir.specs.declared.operand.Operand.{Operand}
use Rattle.gi_mir.specs.declared.operand.Operand.TheVariants.{Def, Use, Phys, Int, Constant}
use Rattle.gi_mir.specs.Data.{InstrData, FunctionData, no_flags}
use Rattle.gi_mir.specs.Edit.{defines, with_instr, is_use_of}
use Rattle.gi_refine.specs.Worded.{classed_instr}
use Rattle.gi_answer.specs.Shapes.{is_negative_immediate, ShapedInstr, IsShapedInstr, are_in_order}
use Rattle.gi_answer.specs.Rows.{short_where}
use Rattle.gi_answer.specs.declared.select.Root.{Root}
use Rattle.gi_answer.specs.declared.select.Root.TheVariants as root

-- instructions of the five shapes in their order
pub record AreShaped (instrs : List (ℕ × InstrData)) : Type 0 where
  pub shapes : List ShapedInstr
  pub same : AllZip IsShapedInstr shapes instrs
  pub ordered : are_in_order [] shapes ≡ true

-- the number from -2048 to 2047 that 32 bits stand for
abbrev pub short_of : (value : ℕ) → Option ℤ
short_of value =
    if nat_lt value 2048 then Some (pos value)
    else if is_negative_immediate value then Some (neg_ℤ (pos (4294967296 - value)))
    else None

abbrev pub constant_root : List Operand → Option Root
constant_root (Def d kind ∷ Constant bits value ∷ []) = option_map (λ number. root.Constant d number) (short_of value)
constant_root _ = None

abbrev pub sum_root : List Operand → Option Root
sum_root (Def d kind ∷ Use a ∷ Use b ∷ []) = Some (root.Sum d a b)
sum_root _ = None

abbrev pub root_of : InstrData → Option Root
root_of i = root_by i.op i.operands
  where
    root_by : Opcode → List Operand → Option Root
    root_by GenericConstant operands = constant_root operands
    root_by GenericAdd operands = sum_root operands
    root_by _ operands = None

abbrev pub result_of : Root → ℕ
result_of (root.Constant d number) = d.0
result_of (root.Sum d a b) = d.0

-- the short constants with one more, where the root is one
abbrev pub with_constant : Option Root → ℕ → Option ℤ → Option ℤ
with_constant (Some (root.Constant d number)) r before = if d.0 == r then Some number else before
with_constant _ r before = before

-- one instruction without flags and memory operand
abbrev pub plain : Opcode → List Operand → (line : ℕ) → InstrData
plain op operands line = record { op = op; flags = no_flags; operands = operands; mem = None; line = line }

abbrev pub selected_sum : (d a b : Reg) → (first second : Option ℤ) → (line : ℕ) → InstrData
selected_sum d a b first (Some i) line = plain AddImmediate (Def d Class ∷ Use a ∷ Int i ∷ []) line
selected_sum d a b (Some i) None line = plain AddImmediate (Def d Class ∷ Use b ∷ Int i ∷ []) line
selected_sum d a b None None line = plain Add (Def d Class ∷ Use a ∷ Use b ∷ []) line

abbrev pub selected_root : (constant : ℕ → Option ℤ) → Root → (line : ℕ) → InstrData
selected_root constant (root.Constant d number) line = plain AddImmediate (Def d Class ∷ Phys 0 ∷ Int number ∷ []) line
selected_root constant (root.Sum d a b) line = selected_sum d a b (constant a.0) (constant b.0) line

abbrev pub selected_if_used : (used : ℕ → Bool) (constant : ℕ → Option ℤ) → InstrData → Option Root → Option InstrData
selected_if_used used constant i None = Some (classed_instr i)
selected_if_used used constant i (Some r) = if used (result_of r) then Some (selected_root constant r i.line) else None

-- what stands in an instruction's place, where these registers are used behind it and these are short constants
abbrev pub selected_where : (used : ℕ → Bool) (constant : ℕ → Option ℤ) → InstrData → Option InstrData
selected_where used constant i = selected_if_used used constant i (root_of i)

abbrev pub used_in : List InstrData → ℕ → Bool
used_in instrs r = list_any (λ i. list_any (is_use_of r) i.operands) instrs

abbrev pub before : Option InstrData → List InstrData → List InstrData
before None instrs = instrs
before (Some i) instrs = i ∷ instrs

-- what instructions become
abbrev pub selected_list : (constant : ℕ → Option ℤ) → List (ℕ × InstrData) → List InstrData
selected_list constant [] = []
selected_list constant (i ∷ is) =
    let behind = selected_list constant is in before (selected_where (used_in behind) constant i.1) behind

-- the number of the first definition of a register, where that is a short constant
abbrev pub short_among : List (ℕ × InstrData) → ℕ → Option ℤ
short_among instrs r = short_where (option_map (λ i. i.1) (find (defines r) instrs))

-- a function with instructions at the end of its one block
abbrev pub with_all : FunctionData → List InstrData → FunctionData
with_all f [] = f
with_all f (i ∷ is) = with_all (with_instr f 0 None i) is

-- what a function becomes, without its blocks
abbrev pub emptied : FunctionData → FunctionData
emptied f = record { name = f.name; legalized = f.legalized; banked = f.banked; selected = true; stack = f.stack; blocks = []; next_reg = 0; next_id = 0 }
