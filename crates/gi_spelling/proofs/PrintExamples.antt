-- Instructions and a function as they are printed.
use Rattle.std.proofs.Common.{◌≡◌, ℕ, List, [], ◌∷◌, Option, Some, None, Bool, true, false, refl}
use Rattle.std.specs.Prelude.{codes, pos, negsuc, ◌==◌, if◌then◌else◌}
use Rattle.std.specs.Fmt.{digits}
use Rattle.gi_llt.specs.Tokens.{piece_bytes}
use Rattle.gi_llt.specs.declared.Llt.{Llt}
use Rattle.gi_llt.specs.declared.Llt.TheVariants.{Scalar, Pointer}
use Rattle.gi_mir.specs.declared.opcode.Opcode.{Opcode}
use Rattle.gi_mir.specs.declared.opcode.Opcode.TheVariants as op
use Rattle.gi_mir.specs.declared.operand.Kind.{Kind}
use Rattle.gi_mir.specs.declared.operand.Kind.TheVariants.{Generic, Class}
use Rattle.gi_mir.specs.declared.operand.MemOp.{MemOp}
use Rattle.gi_mir.specs.declared.operand.Pred.TheVariants.{Ult}
use Rattle.gi_mir.specs.declared.operand.SymbolFlag.TheVariants.{Plain, Call, Hi}
use Rattle.gi_mir.specs.declared.operand.Operand.{Operand}
use Rattle.gi_mir.specs.declared.operand.Operand.TheVariants.{Def, Use, Phys, ImplicitUse, ImplicitDef, Int, Constant, Block, Predicate, Frame, Global, Routine, SavedMask}
use Rattle.gi_mir.specs.Data.{InstrData, FunctionData, reg_of, no_flags}
use Rattle.gi_spelling.specs.Printed.{instr_pieces, printed_lines}

-- %0 and %1 are of 32 bits, %2 is a pointer, %3 of 64 bits, and the others are of class `gpr`
abbrev kinds : ℕ → Kind
kinds reg = if reg == 0 then Generic (Scalar 32) else if reg == 1 then Generic (Scalar 32) else if reg == 2 then Generic Pointer else if reg == 3 then Generic (Scalar 64) else Class

abbrev names : List (List ℕ)
names = codes "f" ∷ codes "g" ∷ []

abbrev def : ℕ → Operand
def reg = Def (reg_of reg) (kinds reg)

abbrev use_of : ℕ → Operand
use_of reg = Use (reg_of reg)

abbrev instr : Opcode → List Operand → InstrData
instr op operands = record { op = op; flags = no_flags; operands = operands; mem = None; line = 1 }

abbrev access : Bool → Llt → ℕ → Option MemOp
access load ty align = Some (record { load = load; ty = ty; align = align })

abbrev shown : InstrData → List ℕ
shown i = piece_bytes (instr_pieces kinds names i)

pub shows_addition : shown (record (instr op.GenericAdd (def 0 ∷ use_of 0 ∷ use_of 1 ∷ [])) { flags = record no_flags { nuw = true; nsw = true } }) ≡ codes "%0:_(s32) = nuw nsw G_ADD %0, %1"
unfolding digits
shows_addition = refl

pub shows_shift : shown (instr op.GenericShiftLeft (def 0 ∷ use_of 0 ∷ use_of 1 ∷ [])) ≡ codes "%0:_(s32) = G_SHL %0, %1(s32)"
unfolding digits
shows_shift = refl

pub shows_merge : shown (instr op.GenericMergeValues (def 3 ∷ use_of 0 ∷ use_of 1 ∷ [])) ≡ codes "%3:_(s64) = G_MERGE_VALUES %0(s32), %1(s32)"
unfolding digits
shows_merge = refl

pub shows_unmerge : shown (instr op.GenericUnmergeValues (def 0 ∷ def 1 ∷ use_of 3 ∷ [])) ≡ codes "%0:_(s32), %1:_(s32) = G_UNMERGE_VALUES %3(s64)"
unfolding digits
shows_unmerge = refl

pub shows_compare : shown (instr op.GenericCompare (def 0 ∷ Predicate Ult ∷ use_of 0 ∷ use_of 1 ∷ [])) ≡ codes "%0:_(s32) = G_ICMP intpred(ult), %0(s32), %1"
unfolding digits
shows_compare = refl

pub shows_phi : shown (instr op.GenericPhi (def 0 ∷ use_of 0 ∷ Block 0 ∷ use_of 1 ∷ Block 12 ∷ [])) ≡ codes "%0:_(s32) = G_PHI %0(s32), %bb.0, %1(s32), %bb.12"
unfolding digits
shows_phi = refl

pub shows_constant : shown (instr op.GenericConstant (def 0 ∷ Constant 32 4294967291 ∷ [])) ≡ codes "%0:_(s32) = G_CONSTANT i32 -5"
unfolding digits
shows_constant = refl

pub shows_bit : shown (instr op.GenericConstant (Def (reg_of 4) (Generic (Scalar 1)) ∷ Constant 1 1 ∷ [])) ≡ codes "%4:_(s1) = G_CONSTANT i1 true"
unfolding digits
shows_bit = refl

pub shows_load : shown (record (instr op.GenericLoad (def 0 ∷ use_of 2 ∷ [])) { mem = access true (Scalar 32) 2 }) ≡ codes "%0:_(s32) = G_LOAD %2(p0) :: (load (s32), align 2)"
unfolding digits
shows_load = refl

pub shows_store : shown (record (instr op.GenericStore (use_of 0 ∷ use_of 2 ∷ [])) { mem = access false (Scalar 32) 4 }) ≡ codes "G_STORE %0(s32), %2(p0) :: (store (s32))"
unfolding digits
shows_store = refl

-- the alignment of a pointer is shown where there is one
pub shows_pointer : shown (record (instr op.LoadWord (def 4 ∷ Frame 0 ∷ Int (pos 8) ∷ [])) { mem = access true Pointer 0 }) ≡ codes "%4:gpr = LW %stack.0, 8 :: (load (p0))"
unfolding digits
shows_pointer = refl

pub shows_aligned : shown (record (instr op.LoadWord (def 4 ∷ use_of 5 ∷ Int (negsuc 3) ∷ [])) { mem = access true Pointer 4 }) ≡ codes "%4:gpr = LW %5, -4 :: (load (p0), align 4)"
unfolding digits
shows_aligned = refl

pub shows_upper : shown (instr op.LoadUpperImmediate (def 4 ∷ Global Hi 1 ∷ [])) ≡ codes "%4:gpr = LUI target-flags(riscv-hi) @g"
unfolding digits
shows_upper = refl

pub shows_global : shown (instr op.GenericGlobalValue (def 2 ∷ Global Plain 1 ∷ [])) ≡ codes "%2:_(p0) = G_GLOBAL_VALUE @g"
unfolding digits
shows_global = refl

pub shows_branch : shown (instr op.BranchEqual (use_of 4 ∷ Phys 0 ∷ Block 2 ∷ [])) ≡ codes "BEQ %4, $x0, %bb.2"
unfolding digits
shows_branch = refl

pub shows_call : shown (instr op.PseudoCall (Routine Call 0 ∷ SavedMask ∷ ImplicitDef 1 ∷ ImplicitUse 10 ∷ ImplicitDef 10 ∷ []))
    ≡ codes "PseudoCALL target-flags(riscv-call) &__muldi3, csr_ilp32_lp64, implicit-def $x1, implicit $x10, implicit-def $x10"
unfolding digits
shows_call = refl

pub shows_adjustment : shown (instr op.AdjustCallStackDown (Int (pos 0) ∷ Int (pos 0) ∷ ImplicitDef 2 ∷ ImplicitUse 2 ∷ [])) ≡ codes "ADJCALLSTACKDOWN 0, 0, implicit-def $x2, implicit $x2"
unfolding digits
shows_adjustment = refl

-- a function of three blocks: the first states its successors, the second states that it has none, since control
-- would fall out of it otherwise, and the last need not state that
abbrev three_blocks : FunctionData
three_blocks = record {
  name = 0;
  legalized = true;
  banked = false;
  selected = false;
  stack = record { size = 4; align = 4 } ∷ record { size = 16; align = 8 } ∷ [];
  blocks =
      record {
        successors = 1 ∷ 2 ∷ [];
        liveins = 10 ∷ [];
        instrs = (0, instr op.Copy (def 0 ∷ Phys 10 ∷ [])) ∷ (1, instr op.GenericBranchConditional (use_of 0 ∷ Block 2 ∷ [])) ∷ [];
      }
      ∷ record { successors = []; liveins = []; instrs = [] }
      ∷ record { successors = []; liveins = []; instrs = (2, instr op.PseudoReturn []) ∷ [] }
      ∷ [];
  next_reg = 1;
  next_id = 3;
}

pub prints_blocks : printed_lines names three_blocks ≡ codes "---"
    ∷ codes "name:            f"
    ∷ codes "legalized:       true"
    ∷ codes "tracksRegLiveness: true"
    ∷ codes "stack:"
    ∷ codes "  - { id: 0, size: 4, alignment: 4 }"
    ∷ codes "  - { id: 1, size: 16, alignment: 8 }"
    ∷ codes "body:             |"
    ∷ codes "  bb.0:"
    ∷ codes "    successors: %bb.1, %bb.2"
    ∷ codes "    liveins: $x10"
    ∷ []
    ∷ codes "    %0:_(s32) = COPY $x10"
    ∷ codes "    G_BRCOND %0(s32), %bb.2"
    ∷ []
    ∷ codes "  bb.1:"
    ∷ codes "    successors:"
    ∷ []
    ∷ []
    ∷ codes "  bb.2:"
    ∷ codes "    PseudoRET"
    ∷ codes "..."
    ∷ []
unfolding digits
prints_blocks = refl
