-- What a text may hold beside what is printed, and texts that spell nothing.
use Rattle.std.proofs.Common.{◌≡◌, ℕ, List, [], ◌∷◌, ◌++◌, Some, None, false, refl, arith}
use Rattle.std.specs.Prelude.{codes}
use Rattle.gi_llt.specs.declared.Llt.TheVariants.{Scalar}
use Rattle.gi_mir.specs.Data.{FunctionData, ModuleData, reg_of}
use Rattle.gi_mir.specs.Formed.{is_formed}
use Rattle.gi_mir.specs.Row.{opcode_of}
use Rattle.gi_mir.specs.declared.opcode.Opcode.TheVariants.{Copy, GenericAdd, GenericBranchConditional, PseudoReturn}
use Rattle.gi_mir.specs.declared.operand.Kind.TheVariants.{Banked, Generic}
use Rattle.gi_mir.specs.declared.operand.Operand.TheVariants.{Def, Use, Phys, PhysDef, Block, ImplicitUse}
use Rattle.gi_spelling.specs.AddExample.{function_of, instr, module_of}
use Rattle.gi_spelling.specs.Blocks.{wrong}
use Rattle.gi_spelling.specs.Printed.{text_of}
use Rattle.gi_spelling.specs.Read.{IsReadModule}
use Rattle.gi_spelling.specs.Spelling.{Spells}
use Rattle.gi_spelling.specs.declared.written.Fault.TheVariants as fault
use Rattle.gi_spelling.proofs.AddExample.{same_entry}
use Rattle.gi_spelling.proofs.ReadSpells.{read_spelled}
use Rattle.gi_spelling.proofs.SpelledRight.{spelled_right}

-- comments, blanks, empty lines, other keys, and keys in another order
abbrev free_text : List ℕ
free_text = text_of (codes "# RUN: llc -mtriple=riscv32"
    ∷ []
    ∷ codes "--- ; a function"
    ∷ codes "alignment:       4"
    ∷ codes "body : |"
    ∷ codes " bb.0 :"
    ∷ codes "    liveins: $x10,$x11 ; two"
    ∷ codes "# in the middle"
    ∷ codes "    ; another"
    ∷ codes " %0 : gprb ( s32 )=COPY $x10"
    ∷ codes "      %1:gprb(s32) = COPY $x11;first"
    ∷ []
    ∷ codes "    %2:gprb(s32) = G_ADD %0,%1"
    ∷ codes "    $x10 = COPY %2(s32)   "
    ∷ codes "    PseudoRET implicit $x10"
    ∷ codes "frameInfo:"
    ∷ codes "  maxAlignment:    1"
    ∷ codes "fixedStack:      []"
    ∷ codes "- { id: 0 }"
    ∷ codes "regBankSelected:true"
    ∷ codes "name:  add  ; its name"
    ∷ codes "legalized: true "
    ∷ codes "selected: false"
    ∷ codes "...  ; the end"
    ∷ codes "  ; nothing"
    ∷ [])

-- the function, each instruction with its line
abbrev free_module : ModuleData
free_module = module_of (record (function_of (Banked (Scalar 32)) GenericAdd) {
  blocks = record {
    successors = [];
    liveins = 10 ∷ 11 ∷ [];
    instrs = (0, instr 10 Copy (Def (reg_of 0) (Banked (Scalar 32)) ∷ Phys 10 ∷ []))
        ∷ (1, instr 11 Copy (Def (reg_of 1) (Banked (Scalar 32)) ∷ Phys 11 ∷ []))
        ∷ (2, instr 13 GenericAdd (Def (reg_of 2) (Banked (Scalar 32)) ∷ Use (reg_of 0) ∷ Use (reg_of 1) ∷ []))
        ∷ (3, instr 14 Copy (PhysDef 10 ∷ Use (reg_of 2) ∷ []))
        ∷ (4, instr 15 PseudoReturn (ImplicitUse 10 ∷ []))
        ∷ [];
  } ∷ [];
})

reads_free : IsReadModule free_text free_module
unfolding is_formed opcode_of
reads_free = record {
  right = refl;
  ir = refl;
  functions = (
    record {
      within = omega arith;
      name = refl;
      same = record {
        legalized = refl;
        banked = refl;
        selected = refl;
        stack = refl;
        blocks = (
          record {
            successors = refl;
            liveins = refl;
            instrs = (
              same_entry (refl, (refl, tt)),
              (same_entry (refl, (refl, tt)), (same_entry (refl, (refl, (refl, tt))), (same_entry (refl, (refl, tt)), (same_entry (refl, tt), tt)))),
            );
          },
          tt,
        );
        next_reg = refl;
        next_id = refl;
      };
    },
    tt,
  );
}

pub spells_free : Spells free_text free_module
spells_free = read_spelled free_text free_module reads_free

-- without a line for them, the successors are the targets of the branches, and then the next block
abbrev two_ways : FunctionData
two_ways = record {
  name = 0;
  legalized = false;
  banked = false;
  selected = false;
  stack = [];
  blocks =
      record {
        successors = 2 ∷ 1 ∷ [];
        liveins = 10 ∷ [];
        instrs = (0, instr 6 Copy (Def (reg_of 0) (Generic (Scalar 32)) ∷ Phys 10 ∷ [])) ∷ (1, instr 7 GenericBranchConditional (Use (reg_of 0) ∷ Block 2 ∷ [])) ∷ [];
      }
      ∷ record { successors = 2 ∷ []; liveins = []; instrs = [] }
      ∷ record { successors = []; liveins = []; instrs = (2, instr 10 PseudoReturn (ImplicitUse 10 ∷ [])) ∷ [] }
      ∷ [];
  next_reg = 1;
  next_id = 3;
}

abbrev two_ways_text : List ℕ
two_ways_text = text_of (codes "---"
    ∷ codes "name: f"
    ∷ codes "body: |"
    ∷ codes "  bb.0:"
    ∷ codes "    liveins: $x10"
    ∷ codes "    %0:_(s32) = COPY $x10"
    ∷ codes "    G_BRCOND %0(s32), %bb.2"
    ∷ codes "  bb.1:"
    ∷ codes "  bb.2:"
    ∷ codes "    PseudoRET implicit $x10"
    ∷ [])

abbrev two_ways_module : ModuleData
two_ways_module = record { ir = None; names = codes "f" ∷ []; functions = two_ways ∷ [] }

reads_two_ways : IsReadModule two_ways_text two_ways_module
unfolding is_formed opcode_of
reads_two_ways = record {
  right = refl;
  ir = refl;
  functions = (
    record {
      within = omega arith;
      name = refl;
      same = record {
        legalized = refl;
        banked = refl;
        selected = refl;
        stack = refl;
        blocks = (
          record { successors = refl; liveins = refl; instrs = (same_entry (refl, (refl, tt)), (same_entry (refl, (refl, tt)), tt)) },
          (record { successors = refl; liveins = refl; instrs = tt }, (record { successors = refl; liveins = refl; instrs = (same_entry (refl, tt), tt) }, tt)),
        );
        next_reg = refl;
        next_id = refl;
      };
    },
    tt,
  );
}

pub spells_two_ways : Spells two_ways_text two_ways_module
spells_two_ways = read_spelled two_ways_text two_ways_module reads_two_ways

-- an empty text spells a module without functions, and no other
abbrev empty_module : ModuleData
empty_module = record { ir = None; names = []; functions = [] }

pub spells_empty : Spells [] empty_module
spells_empty = read_spelled [] empty_module (record { right = refl; ir = refl; functions = tt })

-- a second name, a line under a name, and a line behind the end spell nothing
abbrev text_with : List (List ℕ) → List (List ℕ) → List ℕ
text_with keys last = text_of ((codes "---" ∷ keys) ++ (codes "body: |" ∷ last))

abbrev second_name : List ℕ
second_name = text_with (codes "name: f" ∷ codes "name: f" ∷ []) []

pub spells_no_second_name : (m : ModuleData) → Spells second_name m → ⊥
unfolding opcode_of
spells_no_second_name m spelled = let found : Some (wrong 3 fault.Syntax) ≡ None = spelled_right second_name m spelled in cc

abbrev line_under_name : List ℕ
line_under_name = text_with (codes "name: f" ∷ codes "  g" ∷ []) []

pub spells_no_line_under_name : (m : ModuleData) → Spells line_under_name m → ⊥
unfolding opcode_of
spells_no_line_under_name m spelled = let found : Some (wrong 3 fault.Syntax) ≡ None = spelled_right line_under_name m spelled in cc

abbrev more_after_end : List ℕ
more_after_end = text_with (codes "name: f" ∷ []) (codes "..." ∷ codes "  bb.0:" ∷ [])

pub spells_no_more_after_end : (m : ModuleData) → Spells more_after_end m → ⊥
unfolding opcode_of
spells_no_more_after_end m spelled = let found : Some (wrong 5 fault.Syntax) ≡ None = spelled_right more_after_end m spelled in cc
