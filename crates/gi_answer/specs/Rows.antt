-- The table of instruction selection: what stands in the place of a generic instruction. A row looks at the
-- function, at the place and at the instruction there, and answers where it fits.
-- (RISC-V unprivileged ISA, RV32I: "Integer Computational Instructions".)
use Rattle.std.specs.Prelude.{ℕ, ℤ, Bool, true, false, not, ◌&&◌, List, [], ◌∷◌, Option, Some, None, option_map, find, if◌then◌else◌}
use Rattle.std.specs.List.{list_any}
use Rattle.gi_llt.specs.Bits.{signed}
use Rattle.gi_mir.specs.declared.opcode.Opcode.{Opcode}
use Rattle.gi_mir.specs.declared.opcode.Opcode.TheVariants.{GenericConstant, GenericAdd, Add, AddImmediate}
use Rattle.gi_mir.specs.declared.operand.Reg.{Reg}
use Rattle.gi_mir.specs.declared.operand.Kind.{Kind}
use Rattle.gi_mir.specs.declared.operand.Operand.{Operand}
use Rattle.gi_mir.specs.declared.operand.Operand.TheVariants.{Def, Use, Phys, PhysDef, ImplicitDef, Int, Constant}
use Rattle.gi_mir.specs.Data.{InstrData, FunctionData, no_flags}
use Rattle.gi_mir.specs.Edit.{all_instrs, defines, uses}
use Rattle.gi_mir.specs.Row.{is_generic_op, is_call_op}
use Rattle.gi_meaning.specs.Machine.{is_immediate}

-- ══ Places ══

abbrev pub is_generic : ℕ × InstrData → Bool
is_generic i = is_generic_op i.1.op

-- the place of an instruction: its block's in layout, and its own in the block
pub record Site : Type 0 where
  pub block : ℕ
  pub place : ℕ

-- ══ Registers ══

abbrev pub is_used : FunctionData → ℕ → Bool
is_used f r = list_any (uses r) (all_instrs f.blocks)

-- the first instruction in layout that defines a virtual register
abbrev pub definition_of : FunctionData → ℕ → Option InstrData
definition_of f r = option_map (λ i. i.1) (find (defines r) (all_instrs f.blocks))

abbrev pub defined_registers : List Operand → List ℕ
defined_registers [] = []
defined_registers (Def r kind ∷ operands) = r.0 ∷ defined_registers operands
defined_registers (_ ∷ operands) = defined_registers operands

abbrev pub is_physical_result : Operand → Bool
is_physical_result (PhysDef n) = true
is_physical_result (ImplicitDef n) = true
is_physical_result _ = false

-- ══ Short constants ══

-- the number from -2048 to 2047 that a value of so many bits stands for
abbrev pub short_number : (bits value : ℕ) → Option ℤ
short_number bits value = if is_immediate (signed bits value) then Some (signed bits value) else None

abbrev pub short_operands : List Operand → Option ℤ
short_operands (Def r kind ∷ Constant bits value ∷ []) = short_number bits value
short_operands _ = None

-- the number of a G_CONSTANT from -2048 to 2047
abbrev pub short_constant : InstrData → Option ℤ
short_constant i = short_of i.op i.operands
  where
    short_of : Opcode → List Operand → Option ℤ
    short_of GenericConstant operands = short_operands operands
    short_of _ operands = None

abbrev pub short_where : Option InstrData → Option ℤ
short_where None = None
short_where (Some i) = short_constant i

-- the number of the G_CONSTANT from -2048 to 2047 that defines a register, if such a one does
abbrev pub short_in : FunctionData → ℕ → Option ℤ
short_in f r = short_where (definition_of f r)

-- ══ Rows ══

abbrev pub Row : Type 0
Row = FunctionData → Site → InstrData → Option (List InstrData)

-- one instruction without flags and memory operand, of the line of what it stands for
abbrev pub made : Opcode → List Operand → (line : ℕ) → List InstrData
made op operands line = record { op = op; flags = no_flags; operands = operands; mem = None; line = line } ∷ []

-- `d = ADDI a, i`
abbrev pub add_immediate : Reg → Kind → Reg → ℤ → (line : ℕ) → List InstrData
add_immediate d kind a i line = made AddImmediate (Def d kind ∷ Use a ∷ Int i ∷ []) line

abbrev pub is_some_register : List ℕ → Bool
is_some_register [] = false
is_some_register (r ∷ rs) = true

-- it defines virtual registers, no physical one, isn't a call, and none of its results is used
abbrev pub is_dead : (used : ℕ → Bool) → InstrData → Bool
is_dead used i =
    is_some_register (defined_registers i.operands) && not (list_any is_physical_result i.operands) && not (is_call_op i.op)
    && not (list_any used (defined_registers i.operands))

-- a dead instruction: nothing
abbrev pub dead_made : (used : ℕ → Bool) → InstrData → Option (List InstrData)
dead_made used i = if is_dead used i then Some [] else None

-- `d = G_CONSTANT v`: `d = ADDI $x0, v`
abbrev pub constant_operands : List Operand → (line : ℕ) → Option (List InstrData)
constant_operands (Def d kind ∷ Constant bits value ∷ []) line =
    option_map (λ v. made AddImmediate (Def d kind ∷ Phys 0 ∷ Int v ∷ []) line) (short_number bits value)
constant_operands _ line = None

abbrev pub constant_made : InstrData → Option (List InstrData)
constant_made i = made_of i.op i.operands
  where
    made_of : Opcode → List Operand → Option (List InstrData)
    made_of GenericConstant operands = constant_operands operands i.line
    made_of _ operands = None

-- of the two summands the second is tried first
abbrev pub short_sum : Reg → Kind → (a b : Reg) → (first second : Option ℤ) → (line : ℕ) → Option (List InstrData)
short_sum d kind a b first (Some i) line = Some (add_immediate d kind a i line)
short_sum d kind a b (Some i) None line = Some (add_immediate d kind b i line)
short_sum d kind a b None None line = None

-- `d = G_ADD a, b` where one of the two is a short constant: `d = ADDI a, i`
abbrev pub short_sum_operands : (constant : ℕ → Option ℤ) → List Operand → (line : ℕ) → Option (List InstrData)
short_sum_operands constant (Def d kind ∷ Use a ∷ Use b ∷ []) line = short_sum d kind a b (constant a.0) (constant b.0) line
short_sum_operands constant _ line = None

abbrev pub short_sum_made : (constant : ℕ → Option ℤ) → InstrData → Option (List InstrData)
short_sum_made constant i = made_of i.op i.operands
  where
    made_of : Opcode → List Operand → Option (List InstrData)
    made_of GenericAdd operands = short_sum_operands constant operands i.line
    made_of _ operands = None

-- `d = G_ADD a, b`: `d = ADD a, b`
abbrev pub sum_operands : List Operand → (line : ℕ) → Option (List InstrData)
sum_operands (Def d kind ∷ Use a ∷ Use b ∷ []) line = Some (made Add (Def d kind ∷ Use a ∷ Use b ∷ []) line)
sum_operands _ line = None

abbrev pub sum_made : InstrData → Option (List InstrData)
sum_made i = made_of i.op i.operands
  where
    made_of : Opcode → List Operand → Option (List InstrData)
    made_of GenericAdd operands = sum_operands operands i.line
    made_of _ operands = None

abbrev pub selection_rows : List Row
selection_rows =
    (λ f site i. dead_made (is_used f) i)
    ∷ (λ f site i. constant_made i)
    ∷ (λ f site i. short_sum_made (short_in f) i)
    ∷ (λ f site i. sum_made i)
    ∷ []
