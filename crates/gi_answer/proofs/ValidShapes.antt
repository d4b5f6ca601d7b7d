-- A valid function whose instructions all have one of the five shapes, in one block at most, can be selected: each register is
-- defined once, and before it is read.
use Rattle.std.proofs.Common.{◌≡◌, ℕ, suc, ◌+◌, ◌≤◌, Bool, true, false, cond, not, ◌&&◌, ◌||◌, ◌==◌, List, [], ◌∷◌, ◌++◌, length, map, slice_get, Option, Some, None, option_map, append_assoc, inl, inr, ⊎_elim, refl, sym, ap, ap₂, ◌∙◌, subst, arith, true≢false}
use Rattle.std.specs.Prelude.{⊤, nat_lt, if◌then◌else◌}
use Rattle.std.specs.Option.{is_none, option_or}
use Rattle.std.specs.List.{AllZip, list_any}
use Rattle.std.proofs.lemmas.Bool.{and_parts, or_cases, eqb-true, eq-eqb, lt-ltb}
use Rattle.std.proofs.lemmas.List.{append-nil}
use Rattle.std.proofs.lemmas.List.Folds.{list_any-append}
use Rattle.std.specs.Cmp.Derive.{both_true}
use Rattle.gi_llt.specs.declared.Llt.TheVariants.{Scalar}
use Rattle.gi_mir.specs.Data.{InstrData, BlockData, FunctionData, no_flags}
use Rattle.gi_mir.specs.Edit.{all_instrs, defines, is_def_of, uses}
use Rattle.gi_mir.specs.declared.opcode.Opcode.{Opcode}
use Rattle.gi_mir.specs.declared.opcode.Opcode.TheVariants.{Copy, GenericConstant, GenericAdd, PseudoReturn}
use Rattle.gi_mir.specs.declared.operand.Flags.{Flags}
use Rattle.gi_mir.specs.declared.operand.Kind.{Kind}
use Rattle.gi_mir.specs.declared.operand.Kind.TheVariants.{Banked}
use Rattle.gi_mir.specs.declared.operand.MemOp.{MemOp}
use Rattle.gi_mir.specs.declared.operand.Operand.{Operand}
use Rattle.gi_mir.specs.declared.operand.Operand.TheVariants.{Def, Use, Phys, PhysDef, ImplicitUse, Constant}
use Rattle.gi_meaning.specs.Runs.{is_phi, phis_of, after_phis, is_among}
use Rattle.gi_valid.specs.Available.{IsAvailable, at_once, one_by_one, behind, defines_origin}
use Rattle.gi_valid.specs.Faults.{definitions, times}
use Rattle.gi_meaning.specs.InRow.{results_in}
use Rattle.gi_valid.specs.Typing.{Phase}
use Rattle.gi_valid.specs.Valid.{IsValid}
use Rattle.gi_valid.proofs.Valid.{orderly, use_available}
use Rattle.gi_observe.specs.declared.pass.Pass.{Pass}
use Rattle.gi_answer.specs.Messages.{unbuilt_line}
use Rattle.gi_answer.specs.Selectable.{IsOneBlock, IsSelectable, AllSelectable}
use Rattle.gi_answer.specs.Shapes.{is_banked_word, is_argument, is_short, is_plain, is_copied, is_short_constant, is_sum, is_returned, are_shaped, is_shaped, ShapedInstr, CopyIn, MakeConstant, AddUp, CopyOut, Return, word_kind, shaped_instr, IsShapedInstr, stands_behind, defined_after, are_in_order}
use Rattle.gi_answer.specs.Unselected.{other_line, other_in_instrs, other_in_blocks, has_several, is_blank, last_of, blank_message, unselected, unselected_in_function, unselected_in}
use Rattle.gi_answer.specs.Unrun.{selects, unbuilt, unrun}
use Rattle.gi_answer.specs.Validity.{AreValid}
use Rattle.gi_options.specs.declared.machine.Machine.{Machine}
use Rattle.gi_answer.proofs.SelectFronts.{defines_next}
use Rattle.gi_answer.proofs.SelectShapes.{or_false, or_swapped}

-- ══ Shapes ══

-- the shape of an instruction
record HasShape (i : InstrData) : Type 0 where
  shape : ShapedInstr
  same : i ≡ shaped_instr shape i.line
  short : (reg value : ℕ) → shape ≡ MakeConstant reg value → is_short value ≡ true

banked_word : (kind : Kind) → is_banked_word kind ≡ true → kind ≡ word_kind
banked_word (Banked (Scalar bits)) h = ap (λ b. Banked (Scalar b)) (eqb-true bits 32 h)
banked_word kind h = cc

plain_flags : (flags : Flags) → is_plain flags ≡ true → flags ≡ no_flags
plain_flags flags h = by flags.nuw flags.nsw flags.exact flags.disjoint flags.nneg h
  where
    by : (a b c d e : Bool) → (not a && not b && not c && not d && not e) ≡ true
        → ◌≡◌ {A = Flags} (record { nuw = a; nsw = b; exact = c; disjoint = d; nneg = e }) no_flags
    by false false false false false h = refl
    by true b c d e h = cc
    by false true c d e h = cc
    by false false true d e h = cc
    by false false false true e h = cc
    by false false false false true h = cc

no_memory : (mem : Option MemOp) → is_none mem ≡ true → mem ≡ None
no_memory None h = refl
no_memory (Some memory) h = cc

-- the operands of each, where the rest is as it must be
abbrev of_parts : Opcode → List Operand → ℕ → InstrData
of_parts op operands line = record { op = op; flags = no_flags; operands = operands; mem = None; line = line }

copy_shape : (operands : List Operand) (line : ℕ) → is_copied operands ≡ true → HasShape (of_parts Copy operands line)
copy_shape (Def reg kind ∷ Phys number ∷ []) line h = record {
  shape = CopyIn reg.0 number;
  same = ap (λ k. of_parts Copy (Def reg k ∷ Phys number ∷ []) line) (banked_word kind (and_parts (is_banked_word kind) (is_argument number) h).0);
  short = λ r v same. cc;
}
copy_shape (PhysDef number ∷ Use reg ∷ []) line h = record { shape = CopyOut number reg.0; same = refl; short = λ r v same. cc }
copy_shape operands line h = cc

-- the value of a constant
value_of : ShapedInstr → ℕ
value_of (MakeConstant reg value) = value
value_of s = 0

constant_shape : (operands : List Operand) (line : ℕ) → is_short_constant operands ≡ true → HasShape (of_parts GenericConstant operands line)
unfolding value_of
constant_shape (Def reg kind ∷ Constant bits value ∷ []) line h =
    let parts = and_parts (is_banked_word kind && (bits == 32)) (is_short value) h in
    let more = and_parts (is_banked_word kind) (bits == 32) parts.0 in
    record {
      shape = MakeConstant reg.0 value;
      same = ap₂ (λ k b. of_parts GenericConstant (Def reg k ∷ Constant b value ∷ []) line) (banked_word kind more.0) (eqb-true bits 32 more.1);
      short = λ r v same. subst (λ n. is_short n ≡ true) (ap value_of same) parts.1;
    }
constant_shape operands line h = cc

sum_shape : (operands : List Operand) (line : ℕ) → is_sum operands ≡ true → HasShape (of_parts GenericAdd operands line)
sum_shape (Def reg kind ∷ Use left ∷ Use right ∷ []) line h = record {
  shape = AddUp reg.0 left.0 right.0;
  same = ap (λ k. of_parts GenericAdd (Def reg k ∷ Use left ∷ Use right ∷ []) line) (banked_word kind h);
  short = λ r v same. cc;
}
sum_shape operands line h = cc

return_shape : (operands : List Operand) (line : ℕ) → is_returned operands ≡ true → HasShape (of_parts PseudoReturn operands line)
return_shape (ImplicitUse number ∷ []) line h =
    record { shape = Return; same = ap (λ n. of_parts PseudoReturn (ImplicitUse n ∷ []) line) (eqb-true number 10 h); short = λ r v same. cc }
return_shape operands line h = cc

opcode_shape : (op : Opcode) (operands : List Operand) (line : ℕ) → are_shaped op operands ≡ true → HasShape (of_parts op operands line)
opcode_shape Copy operands line h = copy_shape operands line h
opcode_shape GenericConstant operands line h = constant_shape operands line h
opcode_shape GenericAdd operands line h = sum_shape operands line h
opcode_shape PseudoReturn operands line h = return_shape operands line h
opcode_shape op operands line h = cc

shape_of : (i : InstrData) → is_shaped i ≡ true → HasShape i
shape_of i h =
    let parts = and_parts (is_plain i.flags && is_none i.mem) (are_shaped i.op i.operands) h in
    let more = and_parts (is_plain i.flags) (is_none i.mem) parts.0 in
    let same : i ≡ of_parts i.op i.operands i.line = ap₂ (λ flags mem. record i { flags = flags; mem = mem }) (plain_flags i.flags more.0) (no_memory i.mem more.1) in
    subst HasShape (sym same) (opcode_shape i.op i.operands i.line parts.1)

-- ══ What is available in one block ══

stays_away : (r : ℕ) (origins : ℕ → Bool) (is : List (ℕ × InstrData)) → list_any (defines r) is ≡ false → one_by_one r origins false is ≡ false
stays_away r origins [] h = refl
stays_away r origins (i ∷ is) h =
    let parts = or_false (defines r i) (list_any (defines r) is) h in
    ap (λ here. one_by_one r origins here is) (ap (λ t. (t || false) || (false && not (list_any (defines_origin origins) (i ∷ [])))) parts.0)
    ∙ stays_away r origins is parts.1

-- what is available behind instructions that don't begin with phis, but not before them, one of them defines
defined_there : (r : ℕ) (origins : ℕ → Bool) (is : List (ℕ × InstrData)) → behind r origins false is ≡ true → phis_of is ≡ [] → after_phis is ≡ is → list_any (defines r) is ≡ true
defined_there r origins is h none all = by (list_any (defines r) is) refl
  where
    here : one_by_one r origins false is ≡ true
    here = sym (ap₂ (λ phis others. one_by_one r origins (at_once r origins false phis) others) none all) ∙ h

    by : (t : Bool) → list_any (defines r) is ≡ t → list_any (defines r) is ≡ true
    by true so = so
    by false so = absurd (true≢false (sym here ∙ stays_away r origins is so))

-- ══ Instructions in order ══

-- each definition counts
times_over : (r : ℕ) (xs ys : List (ℕ × ℕ)) → times r (xs ++ ys) ≡ times r xs + times r ys
times_over r [] ys = omega arith
times_over r (d ∷ xs) ys = let h : times r (xs ++ ys) ≡ times r xs + times r ys = times_over r xs ys in omega (arith, h)

definitions_over : (xs ys : List (ℕ × InstrData)) → definitions (xs ++ ys) ≡ definitions xs ++ definitions ys
definitions_over [] ys = refl
definitions_over (i ∷ xs) ys =
    let own : List (ℕ × ℕ) = map (λ r. (i.1.line, r)) (results_in i.1.operands) in
    ap (λ ds. own ++ ds) (definitions_over xs ys) ∙ sym (append_assoc own (definitions xs) (definitions ys))

operands_count : (r line : ℕ) (os : List Operand) → list_any (is_def_of r) os ≡ true → 1 ≤ times r (map (λ q. (line, q)) (results_in os))
operands_count r line [] h = cc
operands_count r line (Def q kind ∷ os) h =
    ⊎_elim
    (λ here. let one : ◌≡◌ {A = ℕ} (cond (q.0 == r) 1 0) 1 = ap (λ t. cond t 1 0) here in omega (arith, one))
    (λ later. let more : 1 ≤ times r (map (λ q. (line, q)) (results_in os)) = operands_count r line os later in omega (arith, more))
    (or_cases (q.0 == r) (list_any (is_def_of r) os) h)
operands_count r line (_ ∷ os) h = operands_count r line os h

instrs_count : (r : ℕ) (is : List (ℕ × InstrData)) → list_any (defines r) is ≡ true → 1 ≤ times r (definitions is)
instrs_count r [] h = cc
instrs_count r (i ∷ is) h =
    let own : List (ℕ × ℕ) = map (λ q. (i.1.line, q)) (results_in i.1.operands) in
    let all : times r (own ++ definitions is) ≡ times r own + times r (definitions is) = times_over r own (definitions is) in
    ⊎_elim
    (λ here. let one : 1 ≤ times r own = operands_count r i.1.line i.1.operands here in omega (arith, all, one))
    (λ later. let one : 1 ≤ times r (definitions is) = instrs_count r is later in omega (arith, all, one))
    (or_cases (defines r i) (list_any (defines r) is) h)

-- of two parts of the instructions, not both define a register that is defined once
not_twice : (r : ℕ) (xs ys : List (ℕ × InstrData)) → times r (definitions (xs ++ ys)) ≤ 1 → list_any (defines r) xs ≡ true → list_any (defines r) ys ≡ true → ⊥
not_twice r xs ys once here there =
    let all : times r (definitions (xs ++ ys)) ≡ times r (definitions xs) + times r (definitions ys) = ap (times r) (definitions_over xs ys) ∙ times_over r (definitions xs) (definitions ys) in
    let one : 1 ≤ times r (definitions xs) = instrs_count r xs here in
    let other : 1 ≤ times r (definitions ys) = instrs_count r ys there in
    omega (arith, all, once, one, other)

-- ══ Phis ══

abbrev StartsPlain : List (ℕ × InstrData) → Type 0
StartsPlain [] = ⊤
StartsPlain (i ∷ is) = is_phi i.1 ≡ false

plain_no_phis : (is : List (ℕ × InstrData)) → StartsPlain is → phis_of is ≡ []
plain_no_phis [] h = refl
plain_no_phis (i ∷ is) h = ap (λ t. cond t (i ∷ phis_of is) []) h

plain_all : (is : List (ℕ × InstrData)) → StartsPlain is → after_phis is ≡ is
plain_all [] h = refl
plain_all (i ∷ is) h = ap (λ t. cond t (after_phis is) (i ∷ is)) h

plain_with : (front : List (ℕ × InstrData)) (i : ℕ × InstrData) → StartsPlain front → is_phi i.1 ≡ false → StartsPlain (front ++ i ∷ [])
plain_with [] i h plain = plain
plain_with (j ∷ front) i h plain = h

shape_plain : (s : ShapedInstr) (line : ℕ) → is_phi (shaped_instr s line) ≡ false
shape_plain (CopyIn d p) line = refl
shape_plain (MakeConstant d v) line = refl
shape_plain (AddUp d a b) line = refl
shape_plain (CopyOut p q) line = refl
shape_plain Return line = refl

-- ══ What stands in order ══

or_right : (a b : Bool) → b ≡ true → (a || b) ≡ true
or_right true b h = refl
or_right false b h = h

-- an instruction that defines new registers alone and reads defined ones may stand
stands_where : (defined : List ℕ) (s : ShapedInstr) (id line : ℕ) → ((r : ℕ) → defines r (id, shaped_instr s line) ≡ true → is_among r defined ≡ false)
    → ((r : ℕ) → uses r (id, shaped_instr s line) ≡ true → is_among r defined ≡ true) → ((reg value : ℕ) → s ≡ MakeConstant reg value → is_short value ≡ true) → stands_behind defined s ≡ true
stands_where defined (CopyIn d p) id line new there short = ap not (new d (ap (λ t. t || false) (eq-eqb d d refl)))
stands_where defined (MakeConstant d v) id line new there short = both_true (ap not (new d (ap (λ t. t || false) (eq-eqb d d refl)))) (short d v refl)
stands_where defined (AddUp d a b) id line new there short =
    both_true
    (both_true (ap not (new d (ap (λ t. t || false) (eq-eqb d d refl)))) (there a (ap (λ t. t || ((b == a) || false)) (eq-eqb a a refl))))
    (there b (or_right (a == b) ((b == b) || false) (ap (λ t. t || false) (eq-eqb b b refl))))
stands_where defined (CopyOut p q) id line new there short = there q (ap (λ t. t || false) (eq-eqb q q refl))
stands_where defined Return id line new there short = refl

record InShape (defined : List ℕ) (is : List (ℕ × InstrData)) : Type 0 where
  shapes : List ShapedInstr
  shaped : AllZip IsShapedInstr shapes is
  ordered : are_in_order defined shapes ≡ true

neither_else : {X : Type 0} (a b : Option X) → option_or a b ≡ None → (a ≡ None) × (b ≡ None)
neither_else None b h = (refl, h)
neither_else (Some x) b h = cc

not_other : (i : InstrData) → other_line i ≡ None → is_shaped i ≡ true
not_other i h = by (is_shaped i) h
  where
    by : (t : Bool) → if◌then◌else◌ {A = Option (ℕ × Opcode)} t None (Some (i.line, i.op)) ≡ None → t ≡ true
    by true l = refl
    by false l = cc

-- the one block of a valid function
record OneBlock (f : FunctionData) (block : BlockData) : Type 0 where
  once : (r : ℕ) → times r (definitions block.instrs) ≤ 1
  available : (before : List (ℕ × InstrData)) (i : ℕ × InstrData) (after : List (ℕ × InstrData)) → after_phis block.instrs ≡ before ++ i ∷ after
      → (r : ℕ) → uses r i ≡ true → IsAvailable f 0 (phis_of block.instrs ++ before) r

its_block : (x : ℕ) (phase : Phase) (f : FunctionData) (block : BlockData) → IsValid x phase f → f.blocks ≡ block ∷ [] → OneBlock f block
its_block x phase f block valid blocks = record {
  once = λ r. subst (λ is. times r (definitions is) ≤ 1) (ap all_instrs blocks ∙ append-nil block.instrs) ((orderly x phase f valid).once r);
  available = λ before i after splits. use_available x phase f valid 0 block before i after (ap (λ bs. slice_get bs 0) blocks) splits;
}

module _ (f : FunctionData) (block : BlockData) (one : OneBlock f block) (plain : StartsPlain block.instrs) where
  is_new_there : (defined : List ℕ) (front : List (ℕ × InstrData)) (i : ℕ × InstrData) (is : List (ℕ × InstrData)) → block.instrs ≡ front ++ i ∷ is
      → ((r : ℕ) → list_any (defines r) front ≡ is_among r defined) → (r : ℕ) → defines r i ≡ true → is_among r defined ≡ false
  is_new_there defined front i is whole defines_all r h = sym (defines_all r) ∙ by (list_any (defines r) front) refl
    where
      by : (t : Bool) → list_any (defines r) front ≡ t → list_any (defines r) front ≡ false
      by false so = so
      by true so = absurd (not_twice r front (i ∷ is) (subst (λ js. times r (definitions js) ≤ 1) whole (one.once r)) so (ap (λ t. t || list_any (defines r) is) h))

  is_defined_there : (defined : List ℕ) (front : List (ℕ × InstrData)) (i : ℕ × InstrData) (is : List (ℕ × InstrData)) → block.instrs ≡ front ++ i ∷ is → StartsPlain front
      → ((r : ℕ) → list_any (defines r) front ≡ is_among r defined) → (r : ℕ) → uses r i ≡ true → is_among r defined ≡ true
  is_defined_there defined front i is whole front_plain defines_all r h =
      let there : IsAvailable f 0 (phis_of block.instrs ++ front) r = one.available front i is (plain_all block.instrs plain ∙ whole) r h in
      let holds : behind r there.extent.origins false front ≡ true =
      sym (ap₂ (λ phis starts. behind r there.extent.origins starts (phis ++ front)) (plain_no_phis block.instrs plain) there.contained.first) ∙ there.holds in
      sym (defines_all r) ∙ defined_there r there.extent.origins front holds (plain_no_phis front front_plain) (plain_all front front_plain)

  in_shape_from : (defined : List ℕ) (front is : List (ℕ × InstrData)) → block.instrs ≡ front ++ is → StartsPlain front → ((r : ℕ) → list_any (defines r) front ≡ is_among r defined)
      → other_in_instrs is ≡ None → InShape defined is
  in_shape_from defined front [] whole front_plain defines_all none = record { shapes = []; shaped = tt; ordered = refl }
  in_shape_from defined front (i ∷ is) whole front_plain defines_all none =
      let parts = neither_else (other_line i.1) (other_in_instrs is) none in
      let h : HasShape i.1 = shape_of i.1 (not_other i.1 parts.0) in
      let line : ℕ = i.1.line in
      let j : ℕ × InstrData = (i.0, shaped_instr h.shape line) in
      let same : i ≡ j = ap (λ (d : InstrData). (i.0, d)) h.same in
      let stands : stands_behind defined h.shape ≡ true =
      stands_where defined h.shape i.0 line
      (λ r new. is_new_there defined front i is whole defines_all r (ap (defines r) same ∙ new))
      (λ r used. is_defined_there defined front i is whole front_plain defines_all r (ap (uses r) same ∙ used)) h.short in
      let next : (r : ℕ) → list_any (defines r) (front ++ i ∷ []) ≡ is_among r (defined_after defined h.shape) =
      λ r. list_any-append (defines r) front (i ∷ []) ∙ ap₂ (λ (a : Bool) (k : ℕ × InstrData). a || list_any (defines r) (k ∷ [])) (defines_all r) same
      ∙ or_swapped (is_among r defined) (list_any (defines r) (j ∷ [])) ∙ defines_next defined h.shape i.0 line r in
      let rest : InShape (defined_after defined h.shape) is =
      in_shape_from (defined_after defined h.shape) (front ++ i ∷ []) is (whole ∙ sym (append_assoc front (i ∷ []) is))
      (plain_with front i front_plain (ap is_phi h.same ∙ shape_plain h.shape line)) next parts.1 in
      record { shapes = h.shape ∷ rest.shapes; shaped = (h.same, rest.shaped); ordered = both_true stands rest.ordered }

starts_plain : (is : List (ℕ × InstrData)) → other_in_instrs is ≡ None → StartsPlain is
starts_plain [] none = tt
starts_plain (i ∷ is) none =
    let h : HasShape i.1 = shape_of i.1 (not_other i.1 (neither_else (other_line i.1) (other_in_instrs is) none).0) in
    ap is_phi h.same ∙ shape_plain h.shape i.1.line

-- ══ Functions ══

one_block_selectable : (x : ℕ) (phase : Phase) (f : FunctionData) (block : BlockData) → IsValid x phase f → f.blocks ≡ block ∷ [] → other_in_instrs block.instrs ≡ None → IsOneBlock f
one_block_selectable x phase f block valid blocks none =
    let found : InShape [] block.instrs =
    in_shape_from f block (its_block x phase f block valid blocks) (starts_plain block.instrs none) [] [] block.instrs refl tt (λ r. refl) none in
    record { shapes = found.shapes; block = block; blocks = blocks; shaped = found.shaped; ordered = found.ordered }

-- a function of several blocks has an instruction that isn't selected, or none at all
no_several : (f : FunctionData) → has_several f ≡ true → is_blank f ≡ false → unselected_in_function f ≡ None → ⊥
no_several f several instructed none =
    let last : last_of f ≡ None =
    sym (ap (λ (t : Bool). if t then last_of f else None) several) ∙ (neither_else (other_in_blocks f.blocks) (if has_several f then last_of f else None) none).1 in
    true≢false (sym (ap₂ (λ t o. t && is_none o) several last) ∙ instructed)

pub valid_selectable : (x : ℕ) (phase : Phase) (f : FunctionData) → IsValid x phase f → is_blank f ≡ false → unselected_in_function f ≡ None → IsSelectable f
valid_selectable x phase f valid instructed none = by f.blocks refl
  where
    by : (bs : List BlockData) → f.blocks ≡ bs → IsSelectable f
    by [] blocks = inl blocks
    by (block ∷ []) blocks =
        let others : other_in_blocks (block ∷ []) ≡ None =
        sym (ap other_in_blocks blocks) ∙ (neither_else (other_in_blocks f.blocks) (if has_several f then last_of f else None) none).0 in
        inr (one_block_selectable x phase f block valid blocks (neither_else (other_in_instrs block.instrs) None others).0)
    by (block ∷ next ∷ bs) blocks = absurd (no_several f (ap (λ cs. nat_lt 1 (length cs)) blocks ∙ lt-ltb 1 (suc (suc (length bs))) (omega arith)) instructed none)

all_selectable : (x : ℕ) (phase : Phase) (fs : List FunctionData) → AreValid x phase fs → list_any is_blank fs ≡ false → unselected_in fs ≡ None → AllSelectable fs
all_selectable x phase [] valid instructed none = tt
all_selectable x phase (f ∷ fs) valid instructed none =
    let each = or_false (is_blank f) (list_any is_blank fs) instructed in
    let parts = neither_else (unselected_in_function f) (unselected_in fs) none in
    (valid_selectable x phase f valid.0 each.0 parts.0, all_selectable x phase fs valid.1 each.1 parts.1)

-- functions of which none is left out can be selected
pub selected_all : (x : ℕ) (phase : Phase) (fs : List FunctionData) → AreValid x phase fs → unselected fs ≡ None → AllSelectable fs
selected_all x phase fs valid none = by (list_any is_blank fs) refl none
  where
    nothing_mapped : (o : Option (ℕ × Opcode)) → option_map unbuilt_line o ≡ None → o ≡ None
    nothing_mapped None h = refl
    nothing_mapped (Some found) h = cc

    by : (t : Bool) → list_any is_blank fs ≡ t → (if t then Some blank_message else option_map unbuilt_line (unselected_in fs)) ≡ None → AllSelectable fs
    by true so h = cc
    by false so h = all_selectable x phase fs valid so (nothing_mapped (unselected_in fs) h)

-- where selection is built for them
pub built_selectable : (x : ℕ) (phase : Phase) (start stop : Pass) (machine : Machine) (fs : List FunctionData) → AreValid x phase fs → unbuilt start stop machine fs ≡ None → selects start stop machine ≡ true
    → AllSelectable fs
built_selectable x phase start stop machine [] valid built so = tt
built_selectable x phase start stop machine (f ∷ fs) valid built so =
    selected_all x phase (f ∷ fs) valid (sym (ap (λ (t : Bool). if t then unselected (f ∷ fs) else unrun start stop) so) ∙ built)
