-- A pure definition that stands in its row computes, and reads no physical register but x0.
use Rattle.std.proofs.Common.{◌≡◌, ℕ, Bool, true, false, not, ◌&&◌, ◌==◌, List, [], ◌∷◌, ◌++◌, map, Option, Some, None, ◌⊎◌, inl, inr, ⊎_elim, refl, sym, ap₂, ◌∙◌, subst, true≢false}
use Rattle.std.specs.List.{list_all, list_any}
use Rattle.std.proofs.lemmas.Bool.{and_parts, false_from_ne_true, not-true, or_parts}
use Rattle.gi_llt.specs.declared.Llt.{Llt}
use Rattle.gi_mir.specs.Data.{InstrData, BlockData, FunctionData}
use Rattle.gi_mir.specs.Edit.{all_instrs}
use Rattle.gi_mir.specs.Formed.{is_def, is_formed, is_physical}
use Rattle.gi_mir.specs.Row.{access_of, is_call_op, is_phi_op, is_terminator_op, typing_of}
use Rattle.gi_mir.specs.Typings.{TypingData}
use Rattle.gi_mir.specs.declared.opcode.Opcode.{Opcode}
use Rattle.gi_mir.specs.declared.opcode.Opcode.TheVariants as op
use Rattle.gi_mir.specs.declared.operand.Flags.{Flags}
use Rattle.gi_mir.specs.declared.operand.Operand.{Operand}
use Rattle.gi_mir.specs.declared.operand.Operand.TheVariants as operand
use Rattle.gi_meaning.specs.InRow.{type_in, results_in, sources_in, have_types, has_memory, may_read, has_beside, may_be_beside, is_operand_of, is_in_row, are_in_rows}
use Rattle.gi_meaning.specs.Meaning.{meaning_of}
use Rattle.gi_valid.specs.Definitions.{defines_any_physical, is_load, is_copy, copies_physical, is_pure}
use Rattle.gi_valid.specs.Facts.{is_computing, is_fixed, is_steady}
use Rattle.gi_valid.proofs.Single.{IsIn}
use Rattle.gi_valid.proofs.Terminators.{terminator_defines_none}

-- ══ Its parts ══

-- what the test of a pure instruction says
pub record IsPure (i : InstrData) : Type 0 where
  pub defines : list_any is_def i.operands ≡ true
  pub no_physical : defines_any_physical i ≡ false
  pub no_load : is_load (access_of i.op) ≡ false
  pub no_phi : is_phi_op i.op ≡ false
  pub no_copy : copies_physical i ≡ false

pub pure_parts : (i : InstrData) → is_pure i ≡ true → IsPure i
pure_parts i pure =
    let defines : Bool = list_any is_def i.operands in
    let no_physical : Bool = not (defines_any_physical i) in
    let no_call : Bool = not (is_call_op i.op) in
    let no_load : Bool = not (is_load (access_of i.op)) in
    let no_phi : Bool = not (is_phi_op i.op) in
    let a : ((((defines && no_physical) && no_call) && no_load) && no_phi ≡ true) × (not (copies_physical i) ≡ true) = and_parts ((((defines && no_physical) && no_call) && no_load) && no_phi) (not (copies_physical i)) pure in
    let b : (((defines && no_physical) && no_call) && no_load ≡ true) × (no_phi ≡ true) = and_parts (((defines && no_physical) && no_call) && no_load) no_phi a.0 in
    let c : ((defines && no_physical) && no_call ≡ true) × (no_load ≡ true) = and_parts ((defines && no_physical) && no_call) no_load b.0 in
    let d : (defines && no_physical ≡ true) × (no_call ≡ true) = and_parts (defines && no_physical) no_call c.0 in
    let e : (defines ≡ true) × (no_physical ≡ true) = and_parts defines no_physical d.0 in
    record {
      defines = e.0;
      no_physical = not-true (defines_any_physical i) e.1;
      no_load = not-true (is_load (access_of i.op)) c.1;
      no_phi = not-true (is_phi_op i.op) b.1;
      no_copy = not-true (copies_physical i) a.1;
    }

-- a formed one is no terminator
pub pure_is_no_terminator : (i : InstrData) → is_pure i ≡ true → is_formed i ≡ true → is_terminator_op i.op ≡ false
pure_is_no_terminator i pure formed = false_from_ne_true (is_terminator_op i.op) (λ ends. true≢false (sym (pure_parts i pure).defines ∙ terminator_defines_none i formed ends))

-- ══ It computes ══

-- of no load and no phi, what has a result and stands in its row computes it from its arguments
computing_in_row : (x : ℕ) (flags : Flags) (o : Opcode) (rs ss : List Llt) → (rs ≡ [] → ⊥) → is_load (access_of o) ≡ false → is_phi_op o ≡ false → have_types x o (typing_of o) rs ss ≡ true
    → is_computing (meaning_of flags o) ≡ true
computing_in_row x flags op.Phi rs ss some load phi types = cc
computing_in_row x flags op.GenericPhi rs ss some load phi types = cc
computing_in_row x flags op.GenericLoad rs ss some load phi types = cc
computing_in_row x flags op.GenericZeroExtendLoad rs ss some load phi types = cc
computing_in_row x flags op.GenericSignExtendLoad rs ss some load phi types = cc
computing_in_row x flags op.LoadByte rs ss some load phi types = cc
computing_in_row x flags op.LoadHalf rs ss some load phi types = cc
computing_in_row x flags op.LoadWord rs ss some load phi types = cc
computing_in_row x flags op.LoadByteUnsigned rs ss some load phi types = cc
computing_in_row x flags op.LoadHalfUnsigned rs ss some load phi types = cc
computing_in_row x flags op.LoadWordUnsigned rs ss some load phi types = cc
computing_in_row x flags op.LoadDouble rs ss some load phi types = cc
computing_in_row x flags op.PseudoCall [] ss some load phi types = absurd (some refl)
computing_in_row x flags op.PseudoCall (r ∷ rs) ss some load phi types = cc
computing_in_row x flags op.PseudoReturn [] ss some load phi types = absurd (some refl)
computing_in_row x flags op.PseudoReturn (r ∷ rs) ss some load phi types = cc
computing_in_row x flags op.AdjustCallStackDown [] ss some load phi types = absurd (some refl)
computing_in_row x flags op.AdjustCallStackDown (r ∷ rs) ss some load phi types = cc
computing_in_row x flags op.AdjustCallStackUp [] ss some load phi types = absurd (some refl)
computing_in_row x flags op.AdjustCallStackUp (r ∷ rs) ss some load phi types = cc
computing_in_row x flags op.GenericStore [] ss some load phi types = absurd (some refl)
computing_in_row x flags op.GenericStore (r ∷ rs) ss some load phi types = cc
computing_in_row x flags op.GenericBranch [] ss some load phi types = absurd (some refl)
computing_in_row x flags op.GenericBranch (r ∷ rs) ss some load phi types = cc
computing_in_row x flags op.GenericBranchConditional [] ss some load phi types = absurd (some refl)
computing_in_row x flags op.GenericBranchConditional (r ∷ rs) ss some load phi types = cc
computing_in_row x flags op.StoreByte [] ss some load phi types = absurd (some refl)
computing_in_row x flags op.StoreByte (r ∷ rs) ss some load phi types = cc
computing_in_row x flags op.StoreHalf [] ss some load phi types = absurd (some refl)
computing_in_row x flags op.StoreHalf (r ∷ rs) ss some load phi types = cc
computing_in_row x flags op.StoreWord [] ss some load phi types = absurd (some refl)
computing_in_row x flags op.StoreWord (r ∷ rs) ss some load phi types = cc
computing_in_row x flags op.StoreDouble [] ss some load phi types = absurd (some refl)
computing_in_row x flags op.StoreDouble (r ∷ rs) ss some load phi types = cc
computing_in_row x flags op.BranchEqual [] ss some load phi types = absurd (some refl)
computing_in_row x flags op.BranchEqual (r ∷ rs) ss some load phi types = cc
computing_in_row x flags op.BranchNotEqual [] ss some load phi types = absurd (some refl)
computing_in_row x flags op.BranchNotEqual (r ∷ rs) ss some load phi types = cc
computing_in_row x flags op.BranchLess [] ss some load phi types = absurd (some refl)
computing_in_row x flags op.BranchLess (r ∷ rs) ss some load phi types = cc
computing_in_row x flags op.BranchGreaterEqual [] ss some load phi types = absurd (some refl)
computing_in_row x flags op.BranchGreaterEqual (r ∷ rs) ss some load phi types = cc
computing_in_row x flags op.BranchLessUnsigned [] ss some load phi types = absurd (some refl)
computing_in_row x flags op.BranchLessUnsigned (r ∷ rs) ss some load phi types = cc
computing_in_row x flags op.BranchGreaterEqualUnsigned [] ss some load phi types = absurd (some refl)
computing_in_row x flags op.BranchGreaterEqualUnsigned (r ∷ rs) ss some load phi types = cc
computing_in_row x flags op.PseudoBranch [] ss some load phi types = absurd (some refl)
computing_in_row x flags op.PseudoBranch (r ∷ rs) ss some load phi types = cc
computing_in_row x flags _ rs ss some load phi types = refl

-- ══ What it reads stays ══

-- what reads registers beside what it shows has no result
none_beside : (x : ℕ) (o : Opcode) (rs ss : List Llt) → (rs ≡ [] → ⊥) → have_types x o (typing_of o) rs ss ≡ true → has_beside o ≡ false
none_beside x op.PseudoCall [] ss some types = absurd (some refl)
none_beside x op.PseudoCall (r ∷ rs) ss some types = cc
none_beside x op.PseudoReturn [] ss some types = absurd (some refl)
none_beside x op.PseudoReturn (r ∷ rs) ss some types = cc
none_beside x op.AdjustCallStackDown [] ss some types = absurd (some refl)
none_beside x op.AdjustCallStackDown (r ∷ rs) ss some types = cc
none_beside x op.AdjustCallStackUp [] ss some types = absurd (some refl)
none_beside x op.AdjustCallStackUp (r ∷ rs) ss some types = cc
none_beside x _ rs ss some types = refl

reads_zero : (o : Opcode) (typing : Option TypingData) (n : ℕ) → is_copy o ≡ false → may_read o typing n ≡ true → (n == 0) ≡ true
reads_zero op.Copy typing n other h = cc
reads_zero _ None n other h = h
reads_zero _ (Some typing) n other h = cc

beside_has : (o : Opcode) (n : ℕ) → may_be_beside o n ≡ true → has_beside o ≡ true
beside_has op.AdjustCallStackDown n h = refl
beside_has op.AdjustCallStackUp n h = refl
beside_has _ n h = h

fixed_operands : (x : ℕ) (o : Opcode) (types : List Llt) (os : List Operand) → has_beside o ≡ false → (is_copy o ≡ false) ⊎ (list_any is_physical os ≡ false) → list_all (is_operand_of x o types) os ≡ true
    → list_all is_fixed os ≡ true
fixed_operands x o types [] beside apart h = refl
fixed_operands x o types (operand.Phys n ∷ os) beside (inl other) h =
    let parts : (may_read o (typing_of o) n ≡ true) × (list_all (is_operand_of x o types) os ≡ true) = and_parts (may_read o (typing_of o) n) (list_all (is_operand_of x o types) os) h in
    ap₂ (λ a b. a && b) (reads_zero o (typing_of o) n other parts.0) (fixed_operands x o types os beside (inl other) parts.1)
fixed_operands x o types (operand.Phys n ∷ os) beside (inr none) h = cc
fixed_operands x o types (operand.ImplicitUse n ∷ os) beside apart h =
    let parts : (may_be_beside o n ≡ true) × (list_all (is_operand_of x o types) os ≡ true) = and_parts (may_be_beside o n) (list_all (is_operand_of x o types) os) h in
    absurd (no_two (has_beside o) (beside_has o n parts.0) beside)
  where
    no_two : (b : Bool) → b ≡ true → b ≡ false → ⊥
    no_two true is not_so = cc
    no_two false is not_so = cc
fixed_operands x o types (each ∷ os) beside (inl other) h =
    fixed_operands x o types os beside (inl other) (and_parts (is_operand_of x o types each) (list_all (is_operand_of x o types) os) h).1
fixed_operands x o types (each ∷ os) beside (inr none) h =
    fixed_operands x o types os beside (inr (or_parts (is_physical each) (list_any is_physical os) none).1) (and_parts (is_operand_of x o types each) (list_all (is_operand_of x o types) os) h).1

-- ══ Together ══

-- what defines a register has a result
some_result : (type : ℕ → Llt) (os : List Operand) → list_any is_def os ≡ true → map type (results_in os) ≡ [] → ⊥
some_result type [] h e = cc
some_result type (operand.Def r kind ∷ os) h e = cc
some_result type (_ ∷ os) h e = some_result type os h e

either_copies : (a b : Bool) → (a && b) ≡ false → (a ≡ false) ⊎ (b ≡ false)
either_copies true b h = inr h
either_copies false b h = inl refl

steady_from : (pure computing fixed : Bool) → pure ≡ true → computing ≡ true → fixed ≡ true → (pure && computing && fixed) ≡ true
steady_from pure computing fixed a b c = ap₂ (λ p q. p && q) (ap₂ (λ p q. p && q) a b) c

pub steady_in_row : (x : ℕ) (type : ℕ → Llt) (i : InstrData) → is_pure i ≡ true → is_in_row x type i ≡ true → is_steady i ≡ true
steady_in_row x type i pure row =
    let rs : List Llt = map type (results_in i.operands) in
    let ss : List Llt = map type (sources_in i.operands) in
    let first : ((have_types x i.op (typing_of i.op) rs ss && has_memory x (access_of i.op) i.op (rs ++ ss) i.mem) ≡ true) × (list_all (is_operand_of x i.op (rs ++ ss)) i.operands ≡ true) =
    and_parts (have_types x i.op (typing_of i.op) rs ss && has_memory x (access_of i.op) i.op (rs ++ ss) i.mem) (list_all (is_operand_of x i.op (rs ++ ss)) i.operands) row in
    let types : have_types x i.op (typing_of i.op) rs ss ≡ true =
    (and_parts (have_types x i.op (typing_of i.op) rs ss) (has_memory x (access_of i.op) i.op (rs ++ ss) i.mem) first.0).0 in
    let parts : IsPure i = pure_parts i pure in
    let some : rs ≡ [] → ⊥ = some_result type i.operands parts.defines in
    steady_from (is_pure i) (is_computing (meaning_of i.flags i.op)) (list_all is_fixed i.operands) pure
    (computing_in_row x i.flags i.op rs ss some parts.no_load parts.no_phi types)
    (fixed_operands x i.op (rs ++ ss) i.operands (none_beside x i.op rs ss some types) (either_copies (is_copy i.op) (list_any is_physical i.operands) parts.no_copy) first.1)

-- ══ In a function ══

in_one : (p : ℕ × InstrData) (xs ys : List (ℕ × InstrData)) → IsIn p (xs ++ ys) → IsIn p xs ⊎ IsIn p ys
in_one p [] ys h = inr h
in_one p (x ∷ xs) ys (inl same) = inl (inl same)
in_one p (x ∷ xs) ys (inr rest) = ⊎_elim (λ here. inl (inr here)) (λ later. inr later) (in_one p xs ys rest)

row_among : (x : ℕ) (type : ℕ → Llt) (p : ℕ × InstrData) (is : List (ℕ × InstrData)) → list_all (λ i. is_in_row x type i.1) is ≡ true → IsIn p is → is_in_row x type p.1 ≡ true
row_among x type p [] h there = absurd there
row_among x type p (i ∷ is) h (inl same) =
    subst (λ (q : ℕ × InstrData). is_in_row x type q.1 ≡ true) (sym same) (and_parts (is_in_row x type i.1) (list_all (λ j. is_in_row x type j.1) is) h).0
row_among x type p (i ∷ is) h (inr rest) = row_among x type p is (and_parts (is_in_row x type i.1) (list_all (λ j. is_in_row x type j.1) is) h).1 rest

row_in_blocks : (x : ℕ) (type : ℕ → Llt) (p : ℕ × InstrData) (blocks : List BlockData) → list_all (λ block. list_all (λ i. is_in_row x type i.1) block.instrs) blocks ≡ true → IsIn p (all_instrs blocks)
    → is_in_row x type p.1 ≡ true
row_in_blocks x type p [] h there = absurd there
row_in_blocks x type p (block ∷ blocks) h there =
    let parts : (list_all (λ i. is_in_row x type i.1) block.instrs ≡ true) × (list_all (λ (b : BlockData). list_all (λ i. is_in_row x type i.1) b.instrs) blocks ≡ true) =
    and_parts (list_all (λ i. is_in_row x type i.1) block.instrs) (list_all (λ (b : BlockData). list_all (λ i. is_in_row x type i.1) b.instrs) blocks) h in
    ⊎_elim
    (λ here. row_among x type p block.instrs parts.0 here)
    (λ later. row_in_blocks x type p blocks parts.1 later)
    (in_one p block.instrs (all_instrs blocks) there)

-- a pure definition of a function whose instructions stand in their rows
pub pure_is_steady : (x : ℕ) (f : FunctionData) → are_in_rows x f ≡ true → (d : ℕ × InstrData) → IsIn d (all_instrs f.blocks) → is_pure d.1 ≡ true → is_steady d.1 ≡ true
pure_is_steady x f rows d there pure = steady_in_row x (type_in x f) d.1 pure (row_in_blocks x (type_in x f) d f.blocks rows there)
