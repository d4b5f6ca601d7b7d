-- An example: a function that adds its two arguments, before and after the selection of instructions, with its
-- two texts. Each instruction has its line in the first.
use Rattle.std.specs.Prelude.{ℕ, List, [], ◌∷◌, None, true, false, codes}
use Rattle.gi_llt.specs.declared.Llt.TheVariants.{Scalar}
use Rattle.gi_mir.specs.declared.opcode.Opcode.{Opcode}
use Rattle.gi_mir.specs.declared.opcode.Opcode.TheVariants.{Copy, GenericAdd, Add, PseudoReturn}
use Rattle.gi_mir.specs.declared.operand.Kind.{Kind}
use Rattle.gi_mir.specs.declared.operand.Kind.TheVariants.{Banked, Class}
use Rattle.gi_mir.specs.declared.operand.Operand.{Operand}
use Rattle.gi_mir.specs.declared.operand.Operand.TheVariants.{Def, Use, Phys, PhysDef, ImplicitUse}
use Rattle.gi_mir.specs.Data.{InstrData, BlockData, FunctionData, ModuleData, reg_of, no_flags}
use Rattle.gi_spelling.specs.Printed.{text_of}

abbrev pub instr : (line : ℕ) → Opcode → List Operand → InstrData
instr line op operands = record { op = op; flags = no_flags; operands = operands; mem = None; line = line }

abbrev pub block_of : Kind → Opcode → BlockData
block_of kind op = record {
  successors = [];
  liveins = 10 ∷ 11 ∷ [];
  instrs =
      (0, instr 9 Copy (Def (reg_of 0) kind ∷ Phys 10 ∷ []))
      ∷ (1, instr 10 Copy (Def (reg_of 1) kind ∷ Phys 11 ∷ []))
      ∷ (2, instr 11 op (Def (reg_of 2) kind ∷ Use (reg_of 0) ∷ Use (reg_of 1) ∷ []))
      ∷ (3, instr 12 Copy (PhysDef 10 ∷ Use (reg_of 2) ∷ []))
      ∷ (4, instr 13 PseudoReturn (ImplicitUse 10 ∷ []))
      ∷ [];
}

abbrev pub function_of : Kind → Opcode → FunctionData
function_of kind op = record {
  name = 0;
  legalized = true;
  banked = true;
  selected = false;
  stack = [];
  blocks = block_of kind op ∷ [];
  next_reg = 3;
  next_id = 5;
}

abbrev pub module_of : FunctionData → ModuleData
module_of f = record { ir = None; names = codes "add" ∷ []; functions = f ∷ [] }

abbrev pub generic_module : ModuleData
generic_module = module_of (function_of (Banked (Scalar 32)) GenericAdd)

abbrev pub selected_module : ModuleData
selected_module = module_of (record (function_of Class Add) { selected = true })

abbrev pub stated_text : List ℕ
stated_text = text_of (codes "---"
    ∷ codes "name: add"
    ∷ codes "legalized: true"
    ∷ codes "regBankSelected: true"
    ∷ codes "body: |"
    ∷ codes "  bb.0:"
    ∷ codes "    liveins: $x10, $x11"
    ∷ []
    ∷ codes "    %0:gprb(s32) = COPY $x10"
    ∷ codes "    %1:gprb(s32) = COPY $x11"
    ∷ codes "    %2:gprb(s32) = G_ADD %0, %1"
    ∷ codes "    $x10 = COPY %2(s32)"
    ∷ codes "    PseudoRET implicit $x10"
    ∷ [])

abbrev pub selected_text : List ℕ
selected_text = text_of (codes "---"
    ∷ codes "name:            add"
    ∷ codes "legalized:       true"
    ∷ codes "regBankSelected: true"
    ∷ codes "selected:        true"
    ∷ codes "tracksRegLiveness: true"
    ∷ codes "body:             |"
    ∷ codes "  bb.0:"
    ∷ codes "    liveins: $x10, $x11"
    ∷ []
    ∷ codes "    %0:gpr = COPY $x10"
    ∷ codes "    %1:gpr = COPY $x11"
    ∷ codes "    %2:gpr = ADD %0, %1"
    ∷ codes "    $x10 = COPY %2"
    ∷ codes "    PseudoRET implicit $x10"
    ∷ codes "..."
    ∷ [])
