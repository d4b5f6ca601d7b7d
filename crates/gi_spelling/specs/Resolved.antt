-- What a written instruction means in its function: the instruction, or none where its line spells nothing. A global
-- has the place of its token in the text for the number of its name.
-- (MIR Format Reference Manual, "Machine Operands"; Generic Machine IR, "Types".)
use Rattle.std.specs.Prelude.{ℕ, ◌+◌, ◌-◌, ◌%◌, ◌^◌, Bool, not, ◌&&◌, ◌||◌, List, [], ◌∷◌, ◌++◌, Option, Some, None, option_map, min, nat_lt, nat_le, nat_eq, ◌==◌, if◌then◌else◌, find, position, unwrap_or, ℤ, pos, neg_ℤ}
use Rattle.std.specs.Int.{is_power_of_two}
use Rattle.std.specs.Option.{option_map_or}
use Rattle.gi_llt.specs.declared.Llt.{Llt}
use Rattle.gi_llt.specs.declared.Llt.TheVariants.{Scalar, Pointer}
use Rattle.gi_text.specs.declared.token.Number.{Number as NumberData}
use Rattle.gi_mir.specs.declared.operand.MemOp.{MemOp}
use Rattle.gi_mir.specs.declared.operand.Kind.TheVariants as kind
use Rattle.gi_mir.specs.declared.operand.Operand.{Operand}
use Rattle.gi_mir.specs.declared.operand.Operand.TheVariants as operand
use Rattle.gi_mir.specs.declared.operand.Reg.{Reg}
use Rattle.gi_mir.specs.Data.{InstrData}
use Rattle.gi_mir.specs.Formed.{is_formed}
use Rattle.gi_spelling.specs.Printed.{usual_align}
use Rattle.gi_spelling.specs.declared.token.RegisterClass.{RegisterClass}
use Rattle.gi_spelling.specs.declared.token.RegisterClass.TheVariants as class
use Rattle.gi_spelling.specs.declared.written.Definition.{Definition}
use Rattle.gi_spelling.specs.declared.written.Definition.TheVariants as definition
use Rattle.gi_spelling.specs.declared.written.Source.{Source}
use Rattle.gi_spelling.specs.declared.written.Source.TheVariants as source
use Rattle.gi_spelling.specs.declared.written.Memory.{Memory}
use Rattle.gi_spelling.specs.Words.{greatest_size}
use Rattle.gi_spelling.specs.Written.{WrittenData}

-- what a line of a function rests on: the classes that `registers` gives, the numbers of the blocks in layout, and how
-- many stack objects there are
pub record Tables : Type 0 where
  pub classes : List (ℕ × RegisterClass)
  pub blocks : List ℕ
  pub objects : ℕ

-- the class that `registers` gives, the first time that it names the register
abbrev pub class_in : List (ℕ × RegisterClass) → Reg → Option RegisterClass
class_in classes reg = option_map (λ entry. entry.1) (find (λ entry. entry.0 == reg.0) classes)

-- a definition without a class is of the class that `registers` gives; `_` and `gprb` want a type
abbrev pub typed_by : Reg → Llt → Option RegisterClass → Option Operand
typed_by reg ty (Some class.Generic) = Some (operand.Def reg (kind.Generic ty))
typed_by reg ty (Some class.Banked) = Some (operand.Def reg (kind.Banked ty))
typed_by reg ty other = None

abbrev pub bare_by : Reg → Option RegisterClass → Option Operand
bare_by reg (Some class.General) = Some (operand.Def reg kind.Class)
bare_by reg other = None

abbrev pub resolved_definition : List (ℕ × RegisterClass) → Definition → Option Operand
resolved_definition classes (definition.Bare reg) = bare_by reg (class_in classes reg)
resolved_definition classes (definition.Typed reg ty) = typed_by reg ty (class_in classes reg)
resolved_definition classes (definition.Full reg kind) = Some (operand.Def reg kind)
resolved_definition classes (definition.Physical number) = Some (operand.PhysDef number)

-- a constant of N bits lies from -2^(N-1) to 2^N - 1, and is kept modulo 2^N, or modulo 2^128 where N is greater
abbrev pub is_below_zero : NumberData → Bool
is_below_zero number = number.negative && not (number.size == 0)

abbrev pub is_in_width : (bits : ℕ) → NumberData → Bool
is_in_width bits number =
    if is_below_zero number then nat_lt 0 bits && nat_le number.size (2 ^ (bits - 1)) else nat_lt number.size (2 ^ bits)

abbrev pub constant_value : (bits : ℕ) → NumberData → ℕ
constant_value bits number =
    if is_below_zero number then (2 ^ min bits 128 - number.size % 2 ^ min bits 128) % 2 ^ min bits 128 else number.size

abbrev pub resolved_constant : (bits : ℕ) → NumberData → Option Operand
resolved_constant bits number = if is_in_width bits number then Some (operand.Constant bits (constant_value bits number)) else None

abbrev pub resolved_truth : (bits : ℕ) → Bool → Option Operand
resolved_truth bits truth = if bits == 1 then Some (operand.Constant 1 (if truth then 1 else 0)) else None

-- a whole number, where one past the ends of i128 counts as the nearer end
abbrev pub whole_number : NumberData → ℤ
whole_number number = if number.negative then neg_ℤ (pos (min number.size (2 ^ 127))) else pos (min number.size (2 ^ 127 - 1))

-- a number of no block is kept as a place, 65536 higher, as far as 32 bits hold that
abbrev pub first_of_no_block : ℕ
first_of_no_block = 65536

abbrev pub place_of_no_block : ℕ → ℕ
place_of_no_block number = min (first_of_no_block + number) 4294967295

-- a block by its place in layout
abbrev pub block_place : List ℕ → ℕ → ℕ
block_place blocks number = unwrap_or (position (nat_eq number) blocks) (place_of_no_block number)

abbrev pub resolved_source : Tables → Source → Option Operand
resolved_source tables (source.Use reg) = Some (operand.Use reg)
resolved_source tables (source.TypedUse reg ty) = Some (operand.Use reg)
resolved_source tables (source.Physical number) = Some (operand.Phys number)
resolved_source tables (source.ImplicitUse number) = Some (operand.ImplicitUse number)
resolved_source tables (source.ImplicitDef number) = Some (operand.ImplicitDef number)
resolved_source tables (source.Int number) = Some (operand.Int (whole_number number))
resolved_source tables (source.Constant bits number plain) = resolved_constant bits number
resolved_source tables (source.Truth bits truth) = resolved_truth bits truth
resolved_source tables (source.Block number) = Some (operand.Block (block_place tables.blocks number))
resolved_source tables (source.Predicate pred) = Some (operand.Predicate pred)
resolved_source tables (source.Frame number) = if nat_lt number tables.objects then Some (operand.Frame number) else None
resolved_source tables (source.Global flag start) = Some (operand.Global flag start)
resolved_source tables (source.Routine flag place) = Some (operand.Routine flag place)
resolved_source tables source.SavedMask = Some operand.SavedMask

-- a written alignment is a power of two or the size in bytes
abbrev pub is_written_alignment : Llt → ℕ → Bool
is_written_alignment (Scalar bits) align = is_power_of_two align || align == usual_align (Scalar bits)
is_written_alignment Pointer align = is_power_of_two align

abbrev pub aligned : Memory → Option ℕ → Option MemOp
aligned memory None = Some (record { load = memory.load; ty = memory.ty; align = usual_align memory.ty })
aligned memory (Some align) =
    if is_written_alignment memory.ty (min align greatest_size) then Some (record { load = memory.load; ty = memory.ty; align = min align greatest_size }) else None

abbrev pub resolved_memory : Option Memory → Option (Option MemOp)
resolved_memory None = Some None
resolved_memory (Some memory) = option_map (λ m. Some m) (aligned memory memory.align)

-- each of a list, or none where one has none
abbrev pub each : {X Y : Type 0} → (X → Option Y) → List X → Option (List Y)
each meaning [] = Some []
each meaning (x ∷ xs) = option_map_or (λ y. option_map (λ ys. y ∷ ys) (each meaning xs)) (meaning x) None

abbrev pub formed : InstrData → Option InstrData
formed instr = if is_formed instr then Some instr else None

-- the instruction, whose operands agree with a row of its opcode
abbrev pub resolved : Tables → WrittenData → (line : ℕ) → Option InstrData
resolved tables written line =
    option_map_or (λ definitions.
    option_map_or (λ sources.
    option_map_or (λ memory.
    formed (record { op = written.op; flags = written.flags; operands = definitions ++ sources; mem = memory; line = line }))
    (resolved_memory written.memory) None)
    (each (resolved_source tables) written.sources) None)
    (each (resolved_definition tables.classes) written.definitions) None
