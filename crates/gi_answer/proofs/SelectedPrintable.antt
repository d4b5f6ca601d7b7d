-- What is selected of printable instructions of the five shapes is printable: each instruction is formed, and a token can
-- write each of its parts.
use Rattle.std.proofs.Common.{◌≡◌, ℕ, ℤ, pos, negsuc, Bool, true, false, ◌&&◌, List, [], ◌∷◌, Option, Some, None, option_map, find, refl, sym, subst, arith, if◌then◌else◌}
use Rattle.std.specs.List.{AllByRecursion, AllZip}
use Rattle.std.proofs.lemmas.Bool.{and_parts}
use Rattle.std.proofs.lemmas.Bool.Decides.{nat_tests}
use Rattle.gi_mir.specs.Data.{InstrData, reg_of}
use Rattle.gi_mir.specs.Edit.{defines}
use Rattle.gi_mir.specs.Formed.{is_formed}
use Rattle.gi_mir.specs.declared.opcode.Opcode.{Opcode}
use Rattle.gi_mir.specs.declared.opcode.Opcode.TheVariants.{GenericConstant}
use Rattle.gi_mir.specs.declared.operand.Operand.{Operand}
use Rattle.gi_mir.specs.declared.operand.Operand.TheVariants as operand
use Rattle.gi_llt.specs.Bits.{signed}
use Rattle.gi_meaning.specs.Machine.{is_immediate}
use Rattle.gi_refine.specs.Worded.{classed_instr}
use Rattle.gi_spelling.specs.Printable.{Counts, is_whole, is_writable_register, IsPrintableInstr}
use Rattle.gi_answer.specs.Shapes.{ShapedInstr, CopyIn, MakeConstant, AddUp, CopyOut, Return, shaped_instr, IsShapedInstr, stands_behind, defined_after}
use Rattle.gi_mir.specs.Row.{is_generic_op}
use Rattle.gi_answer.specs.Rows.{short_constant, short_operands, short_where}
use Rattle.gi_answer.specs.Selecting.{before, selected_list, selected_root, selected_sum, selected_where, short_among, used_in}
use Rattle.gi_answer.specs.declared.select.Root.TheVariants as root
use Rattle.gi_answer.proofs.SelectFits.{IsShort, short_value, constant_selected, selected_unless_dead, sum_selected}
use Rattle.gi_answer.proofs.SelectFronts.{constant_parts}
use Rattle.gi_answer.proofs.SelectShapes.{InOrder}

-- ══ Short constants ══

immediate_whole : (n : ℤ) → is_immediate n ≡ true → is_whole n ≡ true
immediate_whole (pos k) h = grind (arith, nat_tests)
immediate_whole (negsuc k) h = grind (arith, nat_tests)

number_immediate : (t : Bool) (m n : ℤ) → is_immediate m ≡ t → (if t then Some m else None) ≡ Some n → is_immediate n ≡ true
number_immediate true m n is h = (let same : m ≡ n = cc in subst (λ k. is_immediate k ≡ true) same is)
number_immediate false m n is h = cc

operands_immediate : (os : List Operand) (n : ℤ) → short_operands os ≡ Some n → is_immediate n ≡ true
operands_immediate (operand.Def r kind ∷ operand.Constant bits value ∷ []) n h = number_immediate (is_immediate (signed bits value)) (signed bits value) n refl h
operands_immediate os n h = cc

opcode_immediate : (i : InstrData) (op : Opcode) (n : ℤ) → short_constant (record i { op = op }) ≡ Some n → is_immediate n ≡ true
opcode_immediate i GenericConstant n h = operands_immediate i.operands n h
opcode_immediate i op n h = cc

where_immediate : (found : Option InstrData) (n : ℤ) → short_where found ≡ Some n → is_immediate n ≡ true
where_immediate None n h = cc
where_immediate (Some i) n h = opcode_immediate i i.op n h

-- each constant that is known is short
abbrev pub ShortOnes : (constant : ℕ → Option ℤ) → Type 0
ShortOnes constant = (r : ℕ) (n : ℤ) → constant r ≡ Some n → is_immediate n ≡ true

pub among_short : (is : List (ℕ × InstrData)) → ShortOnes (short_among is)
among_short is r n h = where_immediate (option_map (λ i. i.1) (find (defines r) is)) n h

-- ══ Instructions ══

module _ (names : List (List ℕ)) (counts : Counts) where
  -- an instruction that can be printed, whatever its id
  abbrev IsFine : InstrData → Type 0
  IsFine i = IsPrintableInstr names counts (0, i)

  -- what stays of a printable instruction
  kept_fine : (s : ShapedInstr) (id line : ℕ) → IsPrintableInstr names counts (id, shaped_instr s line) → is_generic_op (shaped_instr s line).op ≡ false → IsFine (classed_instr (shaped_instr s line))
  unfolding is_formed
  kept_fine (CopyIn d p) id line h plain = record { formed = h.formed; operands = h.operands; memory = refl }
  kept_fine (MakeConstant d v) id line h plain = cc
  kept_fine (AddUp d a b) id line h plain = cc
  kept_fine (CopyOut p q) id line h plain = record { formed = h.formed; operands = h.operands; memory = refl }
  kept_fine Return id line h plain = record { formed = h.formed; operands = h.operands; memory = refl }

  constant_fine : (d : ℕ) (n : ℤ) (line : ℕ) → is_writable_register d ≡ true → is_immediate n ≡ true → IsFine (selected_root (λ r. None) (root.Constant (reg_of d) n) line)
  unfolding is_formed
  constant_fine d n line small short = record { formed = refl; operands = rw (small, immediate_whole n short) refl; memory = refl }

  sum_fine : (d a b line : ℕ) (first second : Option ℤ) → is_writable_register d ≡ true → is_writable_register a ≡ true → is_writable_register b ≡ true
      → ((n : ℤ) → first ≡ Some n → is_immediate n ≡ true) → ((n : ℤ) → second ≡ Some n → is_immediate n ≡ true)
      → IsFine (selected_sum (reg_of d) (reg_of a) (reg_of b) first second line)
  unfolding is_formed
  sum_fine d a b line first (Some n) small left right one other = record { formed = refl; operands = rw (small, left, immediate_whole n (other n refl)) refl; memory = refl }
  sum_fine d a b line (Some n) None small left right one other = record { formed = refl; operands = rw (small, right, immediate_whole n (one n refl)) refl; memory = refl }
  sum_fine d a b line None None small left right one other = record { formed = refl; operands = rw (small, left, right) refl; memory = refl }

  before_fine : (used : Bool) (i : InstrData) (behind : List InstrData) → IsFine i → AllByRecursion IsFine behind → AllByRecursion IsFine (before (selected_unless_dead used i) behind)
  before_fine true i behind fine rest = (fine, rest)
  before_fine false i behind fine rest = rest

  step_fine : (constant : ℕ → Option ℤ) (defined : List ℕ) (s : ShapedInstr) (id line : ℕ) (behind : List InstrData) → ShortOnes constant → stands_behind defined s ≡ true
      → IsPrintableInstr names counts (id, shaped_instr s line) → AllByRecursion IsFine behind
      → AllByRecursion IsFine (before (selected_where (used_in behind) constant (shaped_instr s line)) behind)
  step_fine constant defined (CopyIn d p) id line behind short stands fine rest = (kept_fine (CopyIn d p) id line fine refl, rest)
  step_fine constant defined (MakeConstant d v) id line behind short stands fine rest =
      let value : IsShort v = short_value v (constant_parts defined d v stands).1 in
      let made : InstrData = selected_root constant (root.Constant (reg_of d) value.number) line in
      let small : is_writable_register d ≡ true = (and_parts (is_writable_register d) _ (and_parts (is_writable_register d && true) _ fine.operands).0).0 in
      subst (λ chosen. AllByRecursion IsFine (before chosen behind)) (sym (constant_selected (used_in behind) constant d v line value (used_in behind d) refl))
      (before_fine (used_in behind d) made behind (constant_fine d value.number line small value.immediate) rest)
  step_fine constant defined (AddUp d a b) id line behind short stands fine rest =
      let made : InstrData = selected_sum (reg_of d) (reg_of a) (reg_of b) (constant a) (constant b) line in
      let first = and_parts (is_writable_register d && true) (is_writable_register a && (is_writable_register b && true)) fine.operands in
      let second = and_parts (is_writable_register a) (is_writable_register b && true) first.1 in
      let small : is_writable_register d ≡ true = (and_parts (is_writable_register d) true first.0).0 in
      let other : is_writable_register b ≡ true = (and_parts (is_writable_register b) true second.1).0 in
      subst (λ chosen. AllByRecursion IsFine (before chosen behind)) (sym (sum_selected (used_in behind) constant d a b line (used_in behind d) (constant a) (constant b) refl refl refl))
      (before_fine (used_in behind d) made behind (sum_fine d a b line (constant a) (constant b) small second.0 other (short a) (short b)) rest)
  step_fine constant defined (CopyOut p q) id line behind short stands fine rest = (kept_fine (CopyOut p q) id line fine refl, rest)
  step_fine constant defined Return id line behind short stands fine rest = (kept_fine Return id line fine refl, rest)

  pub selected_fine : (constant : ℕ → Option ℤ) → ShortOnes constant → (ss : List ShapedInstr) (is : List (ℕ × InstrData)) (defined : List ℕ) → AllZip IsShapedInstr ss is → InOrder defined ss
      → AllByRecursion (IsPrintableInstr names counts) is → AllByRecursion IsFine (selected_list constant is)
  selected_fine constant short [] [] defined same order fine = tt
  selected_fine constant short [] (i ∷ is) defined same order fine = absurd same
  selected_fine constant short (s ∷ ss) [] defined same order fine = absurd same
  selected_fine constant short (s ∷ ss) (i ∷ is) defined same order fine =
      let behind : List InstrData = selected_list constant is in
      let here : IsPrintableInstr names counts (i.0, shaped_instr s i.1.line) = subst (λ (k : InstrData). IsPrintableInstr names counts (i.0, k)) same.0 fine.0 in
      let rest : AllByRecursion IsFine behind = selected_fine constant short ss is (defined_after defined s) same.1 order.1 fine.1 in
      subst (λ (k : InstrData). AllByRecursion IsFine (before (selected_where (used_in behind) constant k) behind)) (sym same.0)
      (step_fine constant defined s i.0 i.1.line behind short order.0 here rest)
