-- The instructions of the five shapes, and what is selected of them, stand in the rows of their opcodes.
use mathlib.Core.Path.{fun_ext}
use Rattle.std.proofs.Common.{◌≡◌, ℕ, ℤ, Bool, true, false, cond, ◌&&◌, ◌==◌, nat_lt, List, [], ◌∷◌, Option, Some, None, unwrap_or, refl, sym, ap, ap₂, ◌∙◌, subst}
use Rattle.std.specs.Prelude.{⊤}
use Rattle.std.specs.List.{AllByRecursion, AllZip, list_all}
use Rattle.std.proofs.lemmas.Bool.{lt-ltb}
use Rattle.gi_llt.specs.declared.Llt.{Llt}
use Rattle.gi_llt.specs.declared.Llt.TheVariants.{Scalar}
use Rattle.gi_mir.specs.Data.{InstrData, BlockData, FunctionData, reg_of}
use Rattle.gi_mir.specs.Registers.{first_there, kind_in_operands, kind_in_instrs, kind_in_blocks}
use Rattle.gi_mir.specs.Row.{is_generic_op}
use Rattle.gi_mir.specs.declared.operand.Kind.{Kind}
use Rattle.gi_mir.specs.declared.operand.Kind.TheVariants as kind
use Rattle.gi_mir.specs.declared.operand.Operand.{Operand}
use Rattle.gi_mir.specs.declared.operand.Operand.TheVariants as operand
use Rattle.gi_meaning.specs.InRow.{type_held, type_in, is_in_row, are_in_rows}
use Rattle.gi_refine.specs.Worded.{classed_instr}
use Rattle.gi_answer.specs.Shapes.{ShapedInstr, CopyIn, MakeConstant, AddUp, CopyOut, Return, shaped_instr, IsShapedInstr, stands_behind, defined_after}
use Rattle.gi_answer.specs.Selecting.{before, selected_list, selected_root, selected_sum, selected_where, used_in}
use Rattle.gi_answer.specs.Selection.{IsSameInstr}
use Rattle.gi_answer.specs.declared.select.Root.TheVariants as root
use Rattle.gi_answer.proofs.ClassedRuns.{classed_pairs}
use Rattle.gi_answer.proofs.SelectFits.{IsShort, short_value, constant_selected, selected_unless_dead, sum_selected}
use Rattle.gi_answer.proofs.SelectFronts.{constant_parts}
use Rattle.gi_answer.proofs.SelectShapes.{InOrder, classed_all}

-- ══ Each register is of 32 bits ══

abbrev pub words : ℕ → Llt
words = λ r. Scalar 32

abbrev pub Are32Bits : List Operand → Type 0
Are32Bits [] = ⊤
Are32Bits (operand.Def r k ∷ os) = (type_held 32 k ≡ Scalar 32) × Are32Bits os
Are32Bits (_ ∷ os) = Are32Bits os

-- an instruction whose definitions are of 32 bits, and that stands in its row where all registers are
abbrev pub IsRowed : InstrData → Type 0
IsRowed i = (is_in_row 32 words i ≡ true) × Are32Bits i.operands

abbrev pub AllRowed : List (ℕ × InstrData) → Type 0
AllRowed [] = ⊤
AllRowed (i ∷ is) = IsRowed i.1 × AllRowed is

abbrev Is32Bits : Option Kind → Type 0
Is32Bits None = ⊤
Is32Bits (Some k) = type_held 32 k ≡ Scalar 32

first_32_bits : (a b : Option Kind) → Is32Bits a → Is32Bits b → Is32Bits (first_there a b)
first_32_bits None b p q = q
first_32_bits (Some k) b p q = p

at_32_bits : (b : Bool) (k : Kind) → type_held 32 k ≡ Scalar 32 → Is32Bits (cond b (Some k) None)
at_32_bits true k h = h
at_32_bits false k h = tt

kind_32_bits : (r : ℕ) (os : List Operand) → Are32Bits os → Is32Bits (kind_in_operands r os)
kind_32_bits r [] h = tt
kind_32_bits r (operand.Def d k ∷ os) h = first_32_bits _ (kind_in_operands r os) (at_32_bits (d.0 == r) k h.0) (kind_32_bits r os h.1)
kind_32_bits r (o ∷ os) h = kind_32_bits r os h

kinds_32_bits : (r : ℕ) (is : List (ℕ × InstrData)) → AllRowed is → Is32Bits (kind_in_instrs r is)
kinds_32_bits r [] h = tt
kinds_32_bits r (i ∷ is) h = first_32_bits _ (kind_in_instrs r is) (kind_32_bits r i.1.operands h.0.1) (kinds_32_bits r is h.1)

type_32_bits : (k : Option Kind) → Is32Bits k → type_held 32 (unwrap_or k kind.Class) ≡ Scalar 32
type_32_bits None h = refl
type_32_bits (Some k) h = h

types_are_words : (f : FunctionData) (b : BlockData) → f.blocks ≡ b ∷ [] → AllRowed b.instrs → type_in 32 f ≡ words
types_are_words f b is h =
    fun_ext (λ r.
    ap (λ (blocks : List BlockData). type_held 32 (unwrap_or (kind_in_blocks r blocks) kind.Class)) is
    ∙ type_32_bits (first_there (kind_in_instrs r b.instrs) None) (first_32_bits (kind_in_instrs r b.instrs) None (kinds_32_bits r b.instrs h) tt))

all_in_rows : (is : List (ℕ × InstrData)) → AllRowed is → list_all (λ i. is_in_row 32 words i.1) is ≡ true
all_in_rows [] h = refl
all_in_rows (i ∷ is) h = ap₂ (λ a b. a && b) h.0.0 (all_in_rows is h.1)

-- a function of one block of such instructions
pub one_block_in_rows : (f : FunctionData) (b : BlockData) → f.blocks ≡ b ∷ [] → AllRowed b.instrs → are_in_rows 32 f ≡ true
one_block_in_rows f b is h =
    ap₂ (λ (type : ℕ → Llt) (blocks : List BlockData). list_all (λ (block : BlockData). list_all (λ i. is_in_row 32 type i.1) block.instrs) blocks) (types_are_words f b is h) is
    ∙ ap (λ t. t && true) (all_in_rows b.instrs h)

-- one without a block
pub no_block_in_rows : (f : FunctionData) → f.blocks ≡ [] → are_in_rows 32 f ≡ true
no_block_in_rows f none = ap (λ (blocks : List BlockData). list_all (λ (block : BlockData). list_all (λ i. is_in_row 32 (type_in 32 f) i.1) block.instrs) blocks) none

-- ══ The five shapes ══

shape_rowed : (defined : List ℕ) (s : ShapedInstr) (line : ℕ) → stands_behind defined s ≡ true → IsRowed (shaped_instr s line)
shape_rowed defined (CopyIn d p) line h = (refl, (refl, tt))
shape_rowed defined (MakeConstant d v) line h =
    let small : nat_lt v 4294967296 ≡ true = lt-ltb v 4294967296 (short_value v (constant_parts defined d v h).1).small in
    (rw small refl, (refl, tt))
shape_rowed defined (AddUp d a b) line h = (refl, (refl, tt))
shape_rowed defined (CopyOut p q) line h = (refl, tt)
shape_rowed defined Return line h = (refl, tt)

pub shapes_rowed : (ss : List ShapedInstr) (is : List (ℕ × InstrData)) (defined : List ℕ) → AllZip IsShapedInstr ss is → InOrder defined ss → AllRowed is
shapes_rowed [] [] defined same order = tt
shapes_rowed [] (i ∷ is) defined same order = absurd same
shapes_rowed (s ∷ ss) [] defined same order = absurd same
shapes_rowed (s ∷ ss) (i ∷ is) defined same order =
    (subst IsRowed (sym same.0) (shape_rowed defined s i.1.line order.0), shapes_rowed ss is (defined_after defined s) same.1 order.1)

-- ══ What is selected of them ══

kept_rowed : (s : ShapedInstr) (line : ℕ) → is_generic_op (shaped_instr s line).op ≡ false → IsRowed (classed_instr (shaped_instr s line))
kept_rowed (CopyIn d p) line plain = (refl, (refl, tt))
kept_rowed (MakeConstant d v) line plain = cc
kept_rowed (AddUp d a b) line plain = cc
kept_rowed (CopyOut p q) line plain = (refl, tt)
kept_rowed Return line plain = (refl, tt)

constant_rowed : (d : ℕ) (n : ℤ) (line : ℕ) → IsRowed (selected_root (λ r. None) (root.Constant (reg_of d) n) line)
constant_rowed d n line = (refl, (refl, tt))

sum_rowed : (d a b line : ℕ) (first second : Option ℤ) → IsRowed (selected_sum (reg_of d) (reg_of a) (reg_of b) first second line)
sum_rowed d a b line first (Some n) = (refl, (refl, tt))
sum_rowed d a b line (Some n) None = (refl, (refl, tt))
sum_rowed d a b line None None = (refl, (refl, tt))

before_rowed : (used : Bool) (i : InstrData) (behind : List InstrData) → IsRowed i → AllByRecursion IsRowed behind → AllByRecursion IsRowed (before (selected_unless_dead used i) behind)
before_rowed true i behind here rest = (here, rest)
before_rowed false i behind here rest = rest

step_rowed : (constant : ℕ → Option ℤ) (defined : List ℕ) (s : ShapedInstr) (line : ℕ) (behind : List InstrData) → stands_behind defined s ≡ true → AllByRecursion IsRowed behind
    → AllByRecursion IsRowed (before (selected_where (used_in behind) constant (shaped_instr s line)) behind)
step_rowed constant defined (CopyIn d p) line behind stands rest = (kept_rowed (CopyIn d p) line refl, rest)
step_rowed constant defined (MakeConstant d v) line behind stands rest =
    let value : IsShort v = short_value v (constant_parts defined d v stands).1 in
    let made : InstrData = selected_root constant (root.Constant (reg_of d) value.number) line in
    subst (λ chosen. AllByRecursion IsRowed (before chosen behind)) (sym (constant_selected (used_in behind) constant d v line value (used_in behind d) refl))
    (before_rowed (used_in behind d) made behind (constant_rowed d value.number line) rest)
step_rowed constant defined (AddUp d a b) line behind stands rest =
    let made : InstrData = selected_sum (reg_of d) (reg_of a) (reg_of b) (constant a) (constant b) line in
    subst (λ chosen. AllByRecursion IsRowed (before chosen behind)) (sym (sum_selected (used_in behind) constant d a b line (used_in behind d) (constant a) (constant b) refl refl refl))
    (before_rowed (used_in behind d) made behind (sum_rowed d a b line (constant a) (constant b)) rest)
step_rowed constant defined (CopyOut p q) line behind stands rest = (kept_rowed (CopyOut p q) line refl, rest)
step_rowed constant defined Return line behind stands rest = (kept_rowed Return line refl, rest)

pub selected_rowed : (constant : ℕ → Option ℤ) (ss : List ShapedInstr) (is : List (ℕ × InstrData)) (defined : List ℕ) → AllZip IsShapedInstr ss is → InOrder defined ss
    → AllByRecursion IsRowed (selected_list constant is)
selected_rowed constant [] [] defined same order = tt
selected_rowed constant [] (i ∷ is) defined same order = absurd same
selected_rowed constant (s ∷ ss) [] defined same order = absurd same
selected_rowed constant (s ∷ ss) (i ∷ is) defined same order =
    let behind : List InstrData = selected_list constant is in
    let rest : AllByRecursion IsRowed behind = selected_rowed constant ss is (defined_after defined s) same.1 order.1 in
    subst (λ (k : InstrData). AllByRecursion IsRowed (before (selected_where (used_in behind) constant k) behind)) (sym same.0) (step_rowed constant defined s i.1.line behind order.0 rest)

-- the same but for ids
pub rowed_same : (is js : List (ℕ × InstrData)) → AllZip IsSameInstr (classed_pairs is) js → AllByRecursion IsRowed (classed_all is) → AllRowed js
rowed_same [] [] same rowed = tt
rowed_same [] (j ∷ js) same rowed = absurd same
rowed_same (i ∷ is) [] same rowed = absurd same
rowed_same (i ∷ is) (j ∷ js) same rowed = (subst IsRowed (sym same.0) rowed.0, rowed_same is js same.1 rowed.1)
