-- The modules that some text spells, of those that name no absent block: what each of their parts is.
-- (Machine IR (MIR) Format Reference Manual, "High Level Structure", "Machine Functions", "Machine Basic Blocks",
-- "Machine Operands"; the greatest numbers of tokens are this project's own.)
use Rattle.std.specs.Prelude.{◌≡◌, ℕ, suc, ◌^◌, Bool, true, false, not, ◌&&◌, List, [], ◌∷◌, Option, length, nat_lt, nat_le, ◌==◌, ℤ, pos, negsuc}
use Rattle.gi_mir.specs.Names.{name_at}
use Rattle.std.specs.List.{list_all, AllByRecursion}
use Rattle.std.specs.Option.{option_map_or}
use Rattle.std.specs.Str.{is_utf8}
use Rattle.gi_llt.specs.declared.Llt.{Llt}
use Rattle.gi_llt.specs.declared.Llt.TheVariants.{Scalar, Pointer}
use Rattle.gi_mir.specs.declared.operand.Kind.{Kind}
use Rattle.gi_mir.specs.declared.operand.Kind.TheVariants.{Generic, Banked, Class}
use Rattle.gi_mir.specs.declared.operand.MemOp.{MemOp}
use Rattle.gi_mir.specs.declared.operand.Operand.{Operand}
use Rattle.gi_mir.specs.declared.operand.Operand.TheVariants.{Def, Use, Int, Constant, Block, Frame, Global, Routine}
use Rattle.gi_mir.specs.declared.operand.StackObject.{StackObject}
use Rattle.gi_mir.specs.Data.{InstrData, BlockData, FunctionData, ModuleData}
use Rattle.gi_mir.specs.Formed.{is_formed}
use Rattle.gi_mir.specs.Routines.{routine_names}
use Rattle.gi_spelling.specs.Words.{greatest_register, greatest_width, greatest_block, greatest_size}
use Rattle.gi_spelling.specs.Lines.{is_start, is_end}
use Rattle.gi_spelling.specs.Documents.{is_name}

-- ══ What a token can write ══

abbrev pub is_writable_register : ℕ → Bool
is_writable_register number = nat_le number greatest_register

abbrev pub is_writable_type : Llt → Bool
is_writable_type (Scalar bits) = nat_le bits greatest_width
is_writable_type Pointer = true

abbrev pub is_writable_kind : Kind → Bool
is_writable_kind (Generic ty) = is_writable_type ty
is_writable_kind (Banked ty) = is_writable_type ty
is_writable_kind Class = true

-- a whole number of 128 bits with a sign
abbrev pub is_whole : ℤ → Bool
is_whole (pos size) = nat_lt size (2 ^ 127)
is_whole (negsuc size) = nat_lt size (2 ^ 127)

-- ══ Instructions ══

-- how many blocks and stack objects a function has
pub record Counts : Type 0 where
  pub blocks : ℕ
  pub objects : ℕ

abbrev pub counts_of : FunctionData → Counts
counts_of f = record { blocks = length f.blocks; objects = length f.stack }

-- a block and a stack object are there, and a symbol has a name
abbrev pub is_writable_operand : (names : List (List ℕ)) → Counts → Operand → Bool
is_writable_operand names counts (Def reg kind) = is_writable_register reg.0 && is_writable_kind kind
is_writable_operand names counts (Use reg) = is_writable_register reg.0
is_writable_operand names counts (Int value) = is_whole value
is_writable_operand names counts (Constant bits value) = nat_le bits greatest_width && nat_lt value (2 ^ 128)
is_writable_operand names counts (Block place) = nat_lt place counts.blocks
is_writable_operand names counts (Frame place) = nat_lt place counts.objects && is_writable_register place
is_writable_operand names counts (Global flag name) = is_name (name_at names name)
is_writable_operand names counts (Routine flag place) = nat_lt place (length routine_names)
is_writable_operand names counts operand = true

abbrev pub is_writable_access : MemOp → Bool
is_writable_access memory = is_writable_type memory.ty && nat_le memory.align greatest_size

abbrev pub is_writable_memory : Option MemOp → Bool
is_writable_memory memory = option_map_or is_writable_access memory true

-- an instruction is formed, and its parts can be written
pub record IsPrintableInstr (names : List (List ℕ)) (counts : Counts) (instr : ℕ × InstrData) : Type 0 where
  pub formed : is_formed instr.1 ≡ true
  pub operands : list_all (is_writable_operand names counts) (instr.1).operands ≡ true
  pub memory : is_writable_memory (instr.1).mem ≡ true

-- ══ Blocks and functions ══

-- its successors are there
pub record IsPrintableBlock (names : List (List ℕ)) (counts : Counts) (block : BlockData) : Type 0 where
  pub successors : list_all (λ place. nat_lt place counts.blocks) block.successors ≡ true
  pub instrs : AllByRecursion (IsPrintableInstr names counts) block.instrs

abbrev pub is_writable_object : StackObject → Bool
is_writable_object object = nat_le object.size greatest_size && nat_le object.align greatest_size

-- physical registers are live at the start of the first block alone
abbrev pub is_none_live : List ℕ → Bool
is_none_live [] = true
is_none_live (number ∷ numbers) = false

abbrev pub is_live_first : List BlockData → Bool
is_live_first [] = true
is_live_first (first ∷ later) = list_all (λ number. nat_lt number 32) first.liveins && list_all (λ block. is_none_live block.liveins) later

-- each block has a number of its own, and each stack object
pub record IsPrintableFunction (names : List (List ℕ)) (f : FunctionData) : Type 0 where
  pub named : is_name (name_at names f.name) ≡ true
  pub few_objects : nat_le (length f.stack) (2 ^ 128) ≡ true
  pub objects : list_all is_writable_object f.stack ≡ true
  pub few_blocks : nat_le (length f.blocks) (suc greatest_block) ≡ true
  pub live_first : is_live_first f.blocks ≡ true
  pub blocks : AllByRecursion (IsPrintableBlock names (counts_of f)) f.blocks

-- ══ Modules ══

-- a line of an IR block is text without a line feed, and neither ends a document nor begins one
abbrev pub is_ir_line : List ℕ → Bool
is_ir_line line = is_utf8 line && list_all (λ byte. not (byte == 10)) line && not (is_end line) && not (is_start line)

abbrev pub are_ir_lines : Option (List (List ℕ)) → Bool
are_ir_lines ir = option_map_or (list_all is_ir_line) ir true

pub record IsPrintableModule (m : ModuleData) : Type 0 where
  pub ir : are_ir_lines m.ir ≡ true
  pub functions : AllByRecursion (IsPrintableFunction m.names) m.functions
