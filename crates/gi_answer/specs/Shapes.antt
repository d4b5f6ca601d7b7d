-- The five shapes of instructions that are selected so far: registers of 32 bits and of the bank `gprb` are copied from and
-- to physical ones, made of short constants and added, and the function returns.
-- (Machine IR (MIR) Format Reference Manual, "Machine Basic Blocks".)
use Rattle.std.specs.Prelude.{◌≡◌, ℕ, Bool, true, false, not, ◌&&◌, ◌||◌, List, [], ◌∷◌, None, nat_lt, nat_le, ◌==◌, ◌-◌, ◌^◌}
use Rattle.std.specs.Option.{is_none}
use Rattle.gi_llt.specs.declared.Llt.TheVariants.{Scalar}
use Rattle.gi_mir.specs.declared.opcode.Opcode.{Opcode}
use Rattle.gi_mir.specs.declared.opcode.Opcode.TheVariants.{Copy, GenericConstant, GenericAdd, PseudoReturn}
use Rattle.gi_mir.specs.declared.operand.Flags.{Flags}
use Rattle.gi_mir.specs.declared.operand.Kind.{Kind}
use Rattle.gi_mir.specs.declared.operand.Kind.TheVariants.{Banked}
use Rattle.gi_mir.specs.declared.operand.Operand.{Operand}
use Rattle.gi_mir.specs.declared.operand.Operand.TheVariants.{Def, Use, Phys, PhysDef, ImplicitUse, Constant}
use Rattle.gi_mir.specs.Data.{InstrData, no_flags, reg_of}
use Rattle.gi_meaning.specs.Runs.{is_among}

-- ══ Which instructions have one ══

-- a register of 32 bits of the bank `gprb`
abbrev pub is_banked_word : Kind → Bool
is_banked_word (Banked (Scalar bits)) = bits == 32
is_banked_word kind = false

-- `$x10` to `$x17`
abbrev pub is_argument : ℕ → Bool
is_argument number = nat_le 10 number && nat_le number 17

-- the 32 bits of -2048 to -1, the numbers below zero that an instruction's immediate of 12 bits can be
abbrev pub is_negative_immediate : ℕ → Bool
is_negative_immediate value = nat_le (2 ^ 32 - 2 ^ 11) value && nat_lt value (2 ^ 32)

-- the 32 bits of -2048 to 2047, an instruction's immediate of 12 bits
abbrev pub is_short : ℕ → Bool
is_short value = nat_lt value 2048 || is_negative_immediate value

abbrev pub is_plain : Flags → Bool
is_plain flags = not flags.nuw && not flags.nsw && not flags.exact && not flags.disjoint && not flags.nneg

-- `%N:gprb(s32) = COPY $xK`, or `$xK = COPY %N`
abbrev pub is_copied : List Operand → Bool
is_copied (Def reg kind ∷ Phys number ∷ []) = is_banked_word kind && is_argument number
is_copied (PhysDef number ∷ Use reg ∷ []) = is_argument number
is_copied operands = false

-- `%N:gprb(s32) = G_CONSTANT i32 V`
abbrev pub is_short_constant : List Operand → Bool
is_short_constant (Def reg kind ∷ Constant bits value ∷ []) = is_banked_word kind && bits == 32 && is_short value
is_short_constant operands = false

-- `%N:gprb(s32) = G_ADD %A, %B`
abbrev pub is_sum : List Operand → Bool
is_sum (Def reg kind ∷ Use left ∷ Use right ∷ []) = is_banked_word kind
is_sum operands = false

-- `PseudoRET implicit $x10`
abbrev pub is_returned : List Operand → Bool
is_returned (ImplicitUse number ∷ []) = number == 10
is_returned operands = false

abbrev pub are_shaped : Opcode → List Operand → Bool
are_shaped Copy operands = is_copied operands
are_shaped GenericConstant operands = is_short_constant operands
are_shaped GenericAdd operands = is_sum operands
are_shaped PseudoReturn operands = is_returned operands
are_shaped op operands = false

-- an instruction of one of the five shapes has no flag and no memory operand
abbrev pub is_shaped : InstrData → Bool
is_shaped instr = is_plain instr.flags && is_none instr.mem && are_shaped instr.op instr.operands

-- ══ The shapes as values ══

-- one of the five instructions
pub data ShapedInstr : Type 0 where
  -- `%N:gprb(s32) = COPY $xK`
  CopyIn : (reg physical : ℕ) → ShapedInstr
  -- `%N:gprb(s32) = G_CONSTANT i32 V`, where V has these 32 bits
  MakeConstant : (reg value : ℕ) → ShapedInstr
  -- `%N:gprb(s32) = G_ADD %A, %B`
  AddUp : (reg left right : ℕ) → ShapedInstr
  -- `$xK = COPY %N`
  CopyOut : (physical reg : ℕ) → ShapedInstr
  -- `PseudoRET implicit $x10`
  Return : ShapedInstr

abbrev pub word_kind : Kind
word_kind = Banked (Scalar 32)

abbrev pub shaped_instr : ShapedInstr → (line : ℕ) → InstrData
shaped_instr (CopyIn reg physical) line = record { op = Copy; flags = no_flags; operands = Def (reg_of reg) word_kind ∷ Phys physical ∷ []; mem = None; line = line }
shaped_instr (MakeConstant reg value) line = record { op = GenericConstant; flags = no_flags; operands = Def (reg_of reg) word_kind ∷ Constant 32 value ∷ []; mem = None; line = line }
shaped_instr (AddUp reg left right) line = record { op = GenericAdd; flags = no_flags; operands = Def (reg_of reg) word_kind ∷ Use (reg_of left) ∷ Use (reg_of right) ∷ []; mem = None; line = line }
shaped_instr (CopyOut physical reg) line = record { op = Copy; flags = no_flags; operands = PhysDef physical ∷ Use (reg_of reg) ∷ []; mem = None; line = line }
shaped_instr Return line = record { op = PseudoReturn; flags = no_flags; operands = ImplicitUse 10 ∷ []; mem = None; line = line }

abbrev pub IsShapedInstr : ShapedInstr → ℕ × InstrData → Type 0
IsShapedInstr shape instr = instr.1 ≡ shaped_instr shape (instr.1).line

-- ══ Shapes in order ══

-- whether an instruction may stand where these virtual registers have been defined: it defines a new one, and reads those alone
abbrev pub stands_behind : (defined : List ℕ) → ShapedInstr → Bool
stands_behind defined (CopyIn reg physical) = not (is_among reg defined)
stands_behind defined (MakeConstant reg value) = not (is_among reg defined) && is_short value
stands_behind defined (AddUp reg left right) = not (is_among reg defined) && is_among left defined && is_among right defined
stands_behind defined (CopyOut physical reg) = is_among reg defined
stands_behind defined Return = true

abbrev pub defined_after : List ℕ → ShapedInstr → List ℕ
defined_after defined (CopyIn reg physical) = reg ∷ defined
defined_after defined (MakeConstant reg value) = reg ∷ defined
defined_after defined (AddUp reg left right) = reg ∷ defined
defined_after defined (CopyOut physical reg) = defined
defined_after defined Return = defined

-- whether each of several may, where the ones before it stand before it
abbrev pub are_in_order : (defined : List ℕ) → List ShapedInstr → Bool
are_in_order defined [] = true
are_in_order defined (shape ∷ shapes) = stands_behind defined shape && are_in_order (defined_after defined shape) shapes
