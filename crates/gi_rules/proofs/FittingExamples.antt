-- Which instruction of a function is told: one that just doesn't fit its stage, and of several the first of the lowest line.
use Rattle.std.proofs.Common.{◌≡◌, ℕ, suc, true, false, List, [], ◌∷◌, None, pos, refl}
use Rattle.gi_llt.specs.declared.Llt.TheVariants.{Scalar}
use Rattle.gi_mir.specs.Data.{InstrData, FunctionData, no_flags, reg_of}
use Rattle.gi_mir.specs.declared.opcode.Opcode.{Opcode}
use Rattle.gi_mir.specs.declared.opcode.Opcode.TheVariants as op
use Rattle.gi_mir.specs.declared.operand.Kind.{Kind}
use Rattle.gi_mir.specs.declared.operand.Kind.TheVariants.{Generic, Banked, Class}
use Rattle.gi_mir.specs.declared.operand.Operand.{Operand}
use Rattle.gi_mir.specs.declared.operand.Operand.TheVariants.{Def, Use, Phys, ImplicitUse, Int}
use Rattle.gi_mir.specs.declared.stage.Stage.{Stage}
use Rattle.gi_mir.specs.declared.stage.Stage.TheVariants.{Before, Legalized, Banked as BankedStage, Selected}
use Rattle.gi_rules.specs.Fitting.{IsFirstOfLowestLine, illegal_in}

-- ══ A function of one block, whose instructions stand on these lines ══

abbrev on_line : (line : ℕ) → Opcode → List Operand → InstrData
on_line l o os = record { op = o; flags = no_flags; operands = os; mem = None; line = l }

abbrev numbered_from : ℕ → List InstrData → List (ℕ × InstrData)
numbered_from id [] = []
numbered_from id (i ∷ is) = (id, i) ∷ numbered_from (suc id) is

abbrev function_of : List InstrData → FunctionData
function_of is = record {
  name = 0;
  legalized = true;
  banked = false;
  selected = false;
  stack = [];
  blocks = record { successors = []; liveins = []; instrs = numbered_from 0 is } ∷ [];
  next_reg = 9;
  next_id = 9;
}

abbrev illegal : (x : ℕ) → Stage → List InstrData → List (ℕ × Opcode)
illegal x stage is = illegal_in x stage (function_of is)

abbrev def : ℕ → Kind → Operand
def r kind = Def (reg_of r) kind

abbrev read : ℕ → Operand
read r = Use (reg_of r)

-- `%0 = OP`, `%0 = COPY $x10` and `%0 = ANDI $x0, 5`
abbrev defined : Opcode → Kind → List InstrData
defined o kind = on_line 8 o (def 0 kind ∷ []) ∷ []

abbrev copied : Kind → List InstrData
copied kind = on_line 8 op.Copy (def 0 kind ∷ Phys 10 ∷ []) ∷ []

abbrev masked : Kind → List InstrData
masked kind = on_line 8 op.AndImmediate (def 0 kind ∷ Phys 0 ∷ Int (pos 5) ∷ []) ∷ []

-- ══ Behind the translator ══

any_type : illegal 32 Before (defined op.GenericImplicitDef (Generic (Scalar 8))) ≡ []
any_type = refl

copy_of_any_register : illegal 64 Before (copied (Generic (Scalar 32))) ≡ []
copy_of_any_register = refl

bank_before_the_legaliser : illegal 32 Before (copied (Banked (Scalar 32))) ≡ (8, op.Copy) ∷ []
bank_before_the_legaliser = refl

target_before_the_legaliser : illegal 32 Before (masked (Generic (Scalar 32))) ≡ (8, op.AndImmediate) ∷ []
target_before_the_legaliser = refl

-- ══ Behind the legaliser ══

legal_type : illegal 32 Legalized (defined op.GenericImplicitDef (Generic (Scalar 32))) ≡ []
legal_type = refl

half_copied : illegal 64 Legalized (copied (Generic (Scalar 32))) ≡ (8, op.Copy) ∷ []
half_copied = refl

bank_behind_the_legaliser : illegal 32 Legalized (copied (Banked (Scalar 32))) ≡ (8, op.Copy) ∷ []
bank_behind_the_legaliser = refl

machine_definition_behind_the_legaliser : illegal 64 Legalized (defined op.ImplicitDef (Generic (Scalar 64))) ≡ (8, op.ImplicitDef) ∷ []
machine_definition_behind_the_legaliser = refl

returned : illegal 32 Legalized (on_line 8 op.PseudoReturn (ImplicitUse 10 ∷ []) ∷ []) ≡ []
returned = refl

-- ══ Behind the choice of banks ══

bank : illegal 32 BankedStage (copied (Banked (Scalar 32))) ≡ []
bank = refl

no_bank : illegal 32 BankedStage (copied (Generic (Scalar 32))) ≡ (8, op.Copy) ∷ []
no_bank = refl

narrow_in_a_bank : illegal 32 BankedStage (defined op.GenericImplicitDef (Banked (Scalar 7))) ≡ (8, op.GenericImplicitDef) ∷ []
narrow_in_a_bank = refl

-- ══ Behind selection ══

machine : illegal 32 Selected (masked Class) ≡ []
machine = refl

copy_behind_selection : illegal 32 Selected (copied Class) ≡ []
copy_behind_selection = refl

type_behind_selection : illegal 64 Selected (copied (Banked (Scalar 64))) ≡ (8, op.Copy) ∷ []
type_behind_selection = refl

generic_behind_selection : illegal 64 Selected (defined op.GenericImplicitDef Class) ≡ (8, op.GenericImplicitDef) ∷ []
generic_behind_selection = refl

abbrev wide_sum : List InstrData
wide_sum = on_line 8 op.AddWord (def 0 Class ∷ Phys 0 ∷ Phys 0 ∷ []) ∷ []

wide_on_64 : illegal 64 Selected wide_sum ≡ []
wide_on_64 = refl

wide_on_32 : illegal 32 Selected wide_sum ≡ (8, op.AddWord) ∷ []
wide_on_32 = refl

-- ══ The one that is told ══

-- `%0:_(s8) = G_IMPLICIT_DEF`, `%1:_(s8) = G_ADD %0, %0`
abbrev bytes_on : (first second : ℕ) → List InstrData
bytes_on first second =
    on_line first op.GenericImplicitDef (def 0 (Generic (Scalar 8)) ∷ [])
    ∷ on_line second op.GenericAdd (def 1 (Generic (Scalar 8)) ∷ read 0 ∷ read 0 ∷ [])
    ∷ []

first_line : IsFirstOfLowestLine (illegal 32 Legalized (bytes_on 8 9)) (8, op.GenericImplicitDef)
first_line = record { before = []; behind = (9, op.GenericAdd) ∷ []; place = refl; sooner = refl; later = refl }

lower_line_behind : IsFirstOfLowestLine (illegal 32 Legalized (bytes_on 9 8)) (8, op.GenericAdd)
lower_line_behind = record { before = (9, op.GenericImplicitDef) ∷ []; behind = []; place = refl; sooner = refl; later = refl }

first_of_a_line : IsFirstOfLowestLine (illegal 32 Legalized (bytes_on 8 8)) (8, op.GenericImplicitDef)
first_of_a_line = record { before = []; behind = (8, op.GenericAdd) ∷ []; place = refl; sooner = refl; later = refl }
