-- What small functions are made of, and worlds to run them in.
use Rattle.std.specs.Prelude.{ℕ, ◌%◌, ◌==◌, if◌then◌else◌, List, [], ◌∷◌, Option, Some, None, false, codes}
use Rattle.gi_llt.specs.declared.Llt.TheVariants.{Scalar}
use Rattle.gi_mir.specs.Data.{InstrData, BlockData, FunctionData, reg_of, no_flags}
use Rattle.gi_mir.specs.declared.opcode.Opcode.{Opcode}
use Rattle.gi_mir.specs.declared.opcode.Opcode.TheVariants as op
use Rattle.gi_mir.specs.declared.operand.Kind.{Kind}
use Rattle.gi_mir.specs.declared.operand.Kind.TheVariants.{Generic}
use Rattle.gi_mir.specs.declared.operand.MemOp.{MemOp}
use Rattle.gi_mir.specs.declared.operand.Operand.{Operand}
use Rattle.gi_mir.specs.declared.operand.Operand.TheVariants.{Def, Use, Phys, PhysDef, ImplicitUse, Constant}
use Rattle.gi_meaning.specs.Memory.{Memory}
use Rattle.gi_meaning.specs.State.{World, Event}

-- ══ Making functions ══

abbrev pub made : Opcode → List Operand → Option MemOp → ℕ × InstrData
made op operands mem = (0, record { op = op; flags = no_flags; operands = operands; mem = mem; line = 1 })

abbrev pub block_of : List ℕ → List (ℕ × InstrData) → BlockData
block_of successors instrs = record { successors = successors; liveins = []; instrs = instrs }

abbrev pub function_of : List BlockData → FunctionData
function_of blocks = record { name = 0; legalized = false; banked = false; selected = false; stack = []; blocks = blocks; next_reg = 9; next_id = 0 }

abbrev pub one_block : List (ℕ × InstrData) → FunctionData
one_block instrs = function_of (block_of [] instrs ∷ [])

abbrev pub bits : ℕ → Kind
bits n = Generic (Scalar n)

abbrev pub s8 : Kind
s8 = bits 8

abbrev pub s16 : Kind
s16 = bits 16

abbrev pub s32 : Kind
s32 = bits 32

abbrev pub s64 : Kind
s64 = bits 64

abbrev pub use_of : ℕ → Operand
use_of r = Use (reg_of r)

-- `%r = COPY $xn`, `$xn = COPY %r`, `PseudoRET implicit $xn`
abbrev pub copy_in : (r n : ℕ) → Kind → ℕ × InstrData
copy_in r n kind = made op.Copy (Def (reg_of r) kind ∷ Phys n ∷ []) None

abbrev pub copy_out : (n r : ℕ) → ℕ × InstrData
copy_out n r = made op.Copy (PhysDef n ∷ use_of r ∷ []) None

abbrev pub return_of : ℕ → ℕ × InstrData
return_of n = made op.PseudoReturn (ImplicitUse n ∷ []) None

-- `%d = OP %a`, `%d = OP %a, %b`, `%d = G_CONSTANT in VALUE`
abbrev pub of_one : Opcode → (d : ℕ) → Kind → (a : ℕ) → ℕ × InstrData
of_one op d kind a = made op (Def (reg_of d) kind ∷ use_of a ∷ []) None

abbrev pub of_two : Opcode → (d : ℕ) → Kind → (a b : ℕ) → ℕ × InstrData
of_two op d kind a b = made op (Def (reg_of d) kind ∷ use_of a ∷ use_of b ∷ []) None

abbrev pub constant_in : (d n value : ℕ) → Kind → ℕ × InstrData
constant_in d n value kind = made op.GenericConstant (Def (reg_of d) kind ∷ Constant n value ∷ []) None

abbrev pub names : List (List ℕ)
names = codes "f" ∷ codes "g" ∷ []

-- ══ Worlds ══

-- each byte of memory is its address modulo 256
abbrev pub counting : Memory
counting a = Some (a % 256)

-- x10, x11 and x12 have these words and the others 0
abbrev pub words_of_three : (a b c : ℕ) → ℕ → ℕ
words_of_three a b c n = if n == 10 then a else if n == 11 then b else if n == 12 then c else 0

abbrev pub world_of : (a b c : ℕ) → List Event → World
world_of a b c trace = record { words = words_of_three a b c; memory = counting; global = λ name. 4096; stack = λ object. 2048; trace = trace }
