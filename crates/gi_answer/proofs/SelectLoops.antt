-- How far the program's loops have come.
use Rattle.std.proofs.Common.{◌≡◌, ℕ, zero, suc, ℤ, ◌+◌, ◌<◌, Bool, true, false, cond, ◌||◌, ◌&&◌, ◌==◌, List, [], ◌∷◌, ◌++◌, length, take, map, reverse, get_or, inl, inr, Option, Some, None, option_map, append_assoc, refl, sym, ap, ap₂, ◌∙◌, subst, arith, if◌then◌else◌}
use Rattle.std.specs.List.{AllZip, list_any, list_all}
use Rattle.std.proofs.Math.Seq.{take-suc}
use Rattle.std.proofs.lemmas.List.{append-nil, reverse-append, reverse-reverse}
use Rattle.std.proofs.lemmas.List.Elements.{AllZip-push}
use Rattle.std.proofs.lemmas.List.Folds.{list_all-append}
use mathlib.Core.Path.{fun_ext}
use Rattle.gi_mir.specs.Data.{InstrData, BlockData, FunctionData, reg_of}
use Rattle.gi_mir.specs.Edit.{HeadData, above_registers, defines, with_block, block_with, block_at, head_of, is_use_of}
use Rattle.gi_mir.specs.Formed.{is_formed}
use Rattle.gi_meaning.specs.Runs.{is_among}
use Rattle.gi_refine.specs.Worded.{classed_instr, classed_pair, classed_block}
use Rattle.gi_answer.specs.Shapes.{ShapedInstr, CopyIn, MakeConstant, AddUp, CopyOut, Return, shaped_instr, IsShapedInstr, stands_behind, defined_after}
use Rattle.gi_answer.specs.NormalForm.{IsNormalForm, last_site, next_at}
use Rattle.gi_answer.specs.Rows.{short_where, selection_rows}
use Rattle.gi_answer.specs.Selectable.{IsOneBlock, IsSelectable, AllSelectable}
use Rattle.gi_answer.specs.Selecting.{AreShaped, root_of, with_constant, selected_where, selected_list, selected_root, selected_sum, used_in, before, short_among, with_all, emptied}
use Rattle.gi_answer.specs.Selection.{selected_form, IsSameInstr, IsSameBlock, IsSameFunction, IsSelected}
use Rattle.gi_answer.specs.declared.select.Root.TheVariants as root
use Rattle.gi_answer.proofs.SelectFits.{IsShort, short_value, constant_selected}
use Rattle.gi_answer.proofs.SelectShapes.{shaped, no_next, classed_all, InOrder, in_order}
use Rattle.gi_answer.proofs.SelectFronts.{IsFront, nothing_before, not_found, short_before, short_behind, constant_parts, front_next}
use Rattle.gi_answer.proofs.SelectSteps.{Came, came_from, new_apart}

-- ══ The instruction at a place ══

-- an instruction that stands behind a front
pub record StandsBehind (front : List (ℕ × InstrData)) (i : ℕ × InstrData) : Type 0 where
  pub s : ShapedInstr
  pub defined : List ℕ
  pub stands : stands_behind defined s ≡ true
  pub same : i.1 ≡ shaped_instr s i.1.line
  pub front_is : IsFront defined front

stands_from : (ss : List ShapedInstr) (passed front rest : List (ℕ × InstrData)) (i : ℕ × InstrData) (defined : List ℕ) → AllZip IsShapedInstr ss (passed ++ i ∷ rest) → InOrder defined ss → IsFront defined front
    → StandsBehind (front ++ passed) i
stands_from [] [] front rest i defined same order front_is = absurd same
stands_from [] (j ∷ passed) front rest i defined same order front_is = absurd same
stands_from (s ∷ ss) [] front rest i defined same order front_is =
    record { s = s; defined = defined; stands = order.0; same = same.0; front_is = subst (IsFront defined) (sym (append-nil front)) front_is }
stands_from (s ∷ ss) (j ∷ passed) front rest i defined same order front_is =
    let line : ℕ = j.1.line in
    let shape : ℕ × InstrData = (j.0, shaped_instr s line) in
    let here : j ≡ shape = ap (λ (e : InstrData). (j.0, e)) same.0 in
    let next : IsFront (defined_after defined s) (front ++ (j ∷ [])) = subst (λ (e : ℕ × InstrData). IsFront (defined_after defined s) (front ++ (e ∷ []))) (sym here) (front_next defined front s j.0 line front_is order.0) in
    subst (λ xs. StandsBehind xs i) (append_assoc front (j ∷ []) passed)
    (stands_from ss passed (front ++ (j ∷ [])) rest i (defined_after defined s) same.1 order.1 next)

stands_at : (all front rest : List (ℕ × InstrData)) (i : ℕ × InstrData) → AreShaped all → all ≡ front ++ i ∷ rest → StandsBehind front i
stands_at all front rest i h whole =
    stands_from h.shapes front [] rest i [] (subst (AllZip IsShapedInstr h.shapes) whole h.same) (in_order [] h.shapes h.ordered) nothing_before

-- ══ The short constants so far ══

none_before : (front : List (ℕ × InstrData)) (r : ℕ) → list_any (defines r) front ≡ false → short_among front r ≡ None
none_before front r h = ap (λ (o : Option (ℕ × InstrData)). short_where (option_map (λ i. i.1) o)) (not_found (defines r) front h)

constant_here : (d v id line r : ℕ) (number : ℤ) (h : IsShort v) (t : Bool) → (d == r) ≡ t
    → (if t then Some h.number else None) ≡ short_where (option_map (λ (i : ℕ × InstrData). i.1) (cond (t || false) (Some (id, shaped_instr (MakeConstant d v) line)) None))
constant_here d v id line r number h true same = sym h.by_table
constant_here d v id line r number h false same = refl

other_here : (i : ℕ × InstrData) (t : Bool) → short_where (Some i.1) ≡ None → None ≡ short_where (option_map (λ (j : ℕ × InstrData). j.1) (cond t (Some i) None))
other_here i true h = sym h
other_here i false h = refl

constant_next : (defined : List ℕ) (front : List (ℕ × InstrData)) (s : ShapedInstr) (id line r : ℕ) (t : Bool) → IsFront defined front → stands_behind defined s ≡ true → is_among r defined ≡ t
    → with_constant (root_of (shaped_instr s line)) r (short_among front r) ≡ short_among (front ++ ((id, shaped_instr s line) ∷ [])) r
constant_next defined front (MakeConstant d v) id line r true front_is stands here =
    let parts = constant_parts defined d v stands in
    let short : IsShort v = short_value v parts.1 in
    ap (λ o. with_constant (option_map (λ (number : ℤ). root.Constant (reg_of d) number) o) r (short_among front r)) short.by_program
    ∙ ap (λ b. if b then Some short.number else short_among front r) (new_apart defined d r parts.0 here)
    ∙ sym (short_before front ((id, shaped_instr (MakeConstant d v) line) ∷ []) r (front_is.defines_all r ∙ here))
constant_next defined front (MakeConstant d v) id line r false front_is stands here =
    let parts = constant_parts defined d v stands in
    let short : IsShort v = short_value v parts.1 in
    ap₂ (λ o before. with_constant (option_map (λ (number : ℤ). root.Constant (reg_of d) number) o) r before) short.by_program (none_before front r (front_is.defines_all r ∙ here))
    ∙ constant_here d v id line r short.number short (d == r) refl
    ∙ sym (short_behind front ((id, shaped_instr (MakeConstant d v) line) ∷ []) r (front_is.defines_all r ∙ here))
constant_next defined front (CopyIn d p) id line r true front_is stands here = sym (short_before front ((id, shaped_instr (CopyIn d p) line) ∷ []) r (front_is.defines_all r ∙ here))
constant_next defined front (CopyIn d p) id line r false front_is stands here =
    none_before front r (front_is.defines_all r ∙ here) ∙ other_here (id, shaped_instr (CopyIn d p) line) ((d == r) || false) refl
    ∙ sym (short_behind front ((id, shaped_instr (CopyIn d p) line) ∷ []) r (front_is.defines_all r ∙ here))
constant_next defined front (AddUp d a b) id line r true front_is stands here = sym (short_before front ((id, shaped_instr (AddUp d a b) line) ∷ []) r (front_is.defines_all r ∙ here))
constant_next defined front (AddUp d a b) id line r false front_is stands here =
    none_before front r (front_is.defines_all r ∙ here) ∙ other_here (id, shaped_instr (AddUp d a b) line) ((d == r) || false) refl
    ∙ sym (short_behind front ((id, shaped_instr (AddUp d a b) line) ∷ []) r (front_is.defines_all r ∙ here))
constant_next defined front (CopyOut p q) id line r true front_is stands here = sym (short_before front ((id, shaped_instr (CopyOut p q) line) ∷ []) r (front_is.defines_all r ∙ here))
constant_next defined front (CopyOut p q) id line r false front_is stands here =
    none_before front r (front_is.defines_all r ∙ here) ∙ sym (short_behind front ((id, shaped_instr (CopyOut p q) line) ∷ []) r (front_is.defines_all r ∙ here))
constant_next defined front Return id line r true front_is stands here = sym (short_before front ((id, shaped_instr Return line) ∷ []) r (front_is.defines_all r ∙ here))
constant_next defined front Return id line r false front_is stands here =
    none_before front r (front_is.defines_all r ∙ here) ∙ sym (short_behind front ((id, shaped_instr Return line) ∷ []) r (front_is.defines_all r ∙ here))

-- the constants of those instructions that aren't left
pub record ConstantsSoFar (all rest : List (ℕ × InstrData)) (constant : ℕ → Option ℤ) : Type 0 where
  pub front : List (ℕ × InstrData)
  pub whole : all ≡ front ++ rest
  pub kept : (r : ℕ) → constant r ≡ short_among front r

pub constants_next : (all rest rest' : List (ℕ × InstrData)) (constant constant' : ℕ → Option ℤ) (i : ℕ × InstrData) → AreShaped all → ConstantsSoFar all rest constant → rest ≡ i ∷ rest'
    → ((r : ℕ) → constant' r ≡ with_constant (root_of i.1) r (constant r)) → ConstantsSoFar all rest' constant'
constants_next all rest rest' constant constant' i in_shape so_far first more =
    let whole : all ≡ so_far.front ++ i ∷ rest' = so_far.whole ∙ ap (λ xs. so_far.front ++ xs) first in
    let h : StandsBehind so_far.front i = stands_at all so_far.front rest' i in_shape whole in
    let here : i ≡ (i.0, shaped_instr h.s i.1.line) = ap (λ (e : InstrData). (i.0, e)) h.same in
    record {
      front = so_far.front ++ i ∷ [];
      whole = whole ∙ sym (append_assoc so_far.front (i ∷ []) rest');
      kept = λ r. more r ∙ ap₂ (λ e before. with_constant (root_of e) r before) h.same (so_far.kept r)
          ∙ constant_next h.defined so_far.front h.s i.0 i.1.line r (is_among r h.defined) h.front_is h.stands refl
          ∙ ap (λ (j : ℕ × InstrData). short_among (so_far.front ++ (j ∷ [])) r) (sym here);
    }

pub constants_end : (all rest : List (ℕ × InstrData)) (constant : ℕ → Option ℤ) → ConstantsSoFar all rest constant → rest ≡ [] → (r : ℕ) → constant r ≡ short_among all r
constants_end all rest constant so_far none r =
    so_far.kept r ∙ ap (λ xs. short_among xs r) (sym (so_far.whole ∙ ap (λ xs. so_far.front ++ xs) none ∙ append-nil so_far.front))

-- ══ Selected so far ══

-- how far the program's selection has come from the end
pub record SelectedFrom (constant : ℕ → Option ℤ) (is : List (ℕ × InstrData)) (used : ℕ → Bool) (selected : List InstrData) : Type 0 where
  pub items : selected ≡ reverse (selected_list constant is)
  pub uses : (r : ℕ) → used r ≡ used_in (selected_list constant is) r
  pub formed : list_all is_formed selected ≡ true

-- what is selected from a formed instruction is formed
some_made : {X : Type 0} (u : Bool) (y x : X) → (if u then Some y else None) ≡ Some x → y ≡ x
some_made true y x h = cc
some_made false y x h = cc

sum_formed : (d a b line : ℕ) (first second : Option ℤ) → is_formed (selected_sum (reg_of d) (reg_of a) (reg_of b) first second line) ≡ true
unfolding is_formed
sum_formed d a b line first (Some number) = refl
sum_formed d a b line (Some number) None = refl
sum_formed d a b line None None = refl

constant_formed : (d line : ℕ) (number : ℤ) → is_formed (selected_root (λ r. None) (root.Constant (reg_of d) number) line) ≡ true
unfolding is_formed
constant_formed d line number = refl

classed_formed : (s : ShapedInstr) (line : ℕ) → is_formed (shaped_instr s line) ≡ true → is_formed (classed_instr (shaped_instr s line)) ≡ true
unfolding is_formed
classed_formed (CopyIn d p) line h = h
classed_formed (MakeConstant d v) line h = h
classed_formed (AddUp d a b) line h = h
classed_formed (CopyOut p q) line h = h
classed_formed Return line h = h

selected_formed : (used : ℕ → Bool) (constant : ℕ → Option ℤ) (defined : List ℕ) (s : ShapedInstr) (line : ℕ) (x : InstrData) → stands_behind defined s ≡ true
    → is_formed (shaped_instr s line) ≡ true → selected_where used constant (shaped_instr s line) ≡ Some x → is_formed x ≡ true
selected_formed used constant defined (CopyIn d p) line x stands h made = subst (λ i. is_formed i ≡ true) (some_made true _ x made) (classed_formed (CopyIn d p) line h)
selected_formed used constant defined (MakeConstant d v) line x stands h made =
    let short : IsShort v = short_value v (constant_parts defined d v stands).1 in
    subst (λ i. is_formed i ≡ true)
    (some_made (used d) (selected_root constant (root.Constant (reg_of d) short.number) line) x (sym (constant_selected used constant d v line short (used d) refl) ∙ made))
    (constant_formed d line short.number)
selected_formed used constant defined (AddUp d a b) line x stands h made =
    subst (λ i. is_formed i ≡ true) (some_made (used d) (selected_sum (reg_of d) (reg_of a) (reg_of b) (constant a) (constant b) line) x made) (sum_formed d a b line (constant a) (constant b))
selected_formed used constant defined (CopyOut p q) line x stands h made = subst (λ i. is_formed i ≡ true) (some_made true _ x made) (classed_formed (CopyOut p q) line h)
selected_formed used constant defined Return line x stands h made = subst (λ i. is_formed i ≡ true) (some_made true _ x made) (classed_formed Return line h)

-- what the instruction becomes, by the uses behind it
selected_here : (constant : ℕ → Option ℤ) (back : List (ℕ × InstrData)) (used : ℕ → Bool) (selected : List InstrData) (i : ℕ × InstrData) (found : Option InstrData)
    → SelectedFrom constant back used selected → found ≡ selected_where used constant i.1 → selected_list constant (i ∷ back) ≡ before found (selected_list constant back)
selected_here constant back used selected i found so_far made =
    ap (λ u. before (selected_where u constant i.1) (selected_list constant back)) (sym (fun_ext so_far.uses)) ∙ ap (λ o. before o (selected_list constant back)) (sym made)

selected_none : (constant : ℕ → Option ℤ) (back : List (ℕ × InstrData)) (used : ℕ → Bool) (selected : List InstrData) (i : ℕ × InstrData)
    → SelectedFrom constant back used selected → None ≡ selected_where used constant i.1 → SelectedFrom constant (i ∷ back) used selected
selected_none constant back used selected i so_far made =
    let here : selected_list constant (i ∷ back) ≡ selected_list constant back = selected_here constant back used selected i None so_far made in record {
      items = so_far.items ∙ ap reverse (sym here);
      uses = λ r. so_far.uses r ∙ ap (λ xs. used_in xs r) (sym here);
      formed = so_far.formed;
    }

selected_some : (constant : ℕ → Option ℤ) (back : List (ℕ × InstrData)) (used used' : ℕ → Bool) (selected : List InstrData) (i : ℕ × InstrData) (x : InstrData)
    → SelectedFrom constant back used selected → Some x ≡ selected_where used constant i.1 → is_formed x ≡ true
    → ((r : ℕ) → used' r ≡ (list_any (is_use_of r) x.operands || used r)) → SelectedFrom constant (i ∷ back) used' (selected ++ (x ∷ []))
selected_some constant back used used' selected i x so_far made formed marked =
    let here : selected_list constant (i ∷ back) ≡ x ∷ selected_list constant back = selected_here constant back used selected i (Some x) so_far made in record {
      items = ap (λ xs. xs ++ (x ∷ [])) so_far.items ∙ sym (reverse-append (x ∷ []) (selected_list constant back)) ∙ ap reverse (sym here);
      uses = λ r. marked r ∙ ap (λ b. list_any (is_use_of r) x.operands || b) (so_far.uses r) ∙ ap (λ xs. used_in xs r) (sym here);
      formed = list_all-append is_formed selected (x ∷ []) ∙ ap₂ (λ a b. a && (b && true)) so_far.formed formed;
    }

-- what is selected of the instructions behind these
pub record SelectedBehind (constant : ℕ → Option ℤ) (all front : List (ℕ × InstrData)) (used : ℕ → Bool) (selected : List InstrData) : Type 0 where
  pub back : List (ℕ × InstrData)
  pub whole : all ≡ front ++ back
  pub so_far : SelectedFrom constant back used selected

moved : (all before front back : List (ℕ × InstrData)) (i : ℕ × InstrData) → all ≡ before ++ back → before ≡ front ++ i ∷ [] → all ≡ front ++ i ∷ back
moved all before front back i whole last = whole ∙ ap (λ xs. xs ++ back) last ∙ append_assoc front (i ∷ []) back

pub behind_none : (constant : ℕ → Option ℤ) (all before front : List (ℕ × InstrData)) (used : ℕ → Bool) (selected : List InstrData) (i : ℕ × InstrData)
    → SelectedBehind constant all before used selected → before ≡ front ++ i ∷ [] → None ≡ selected_where used constant i.1 → SelectedBehind constant all front used selected
behind_none constant all before front used selected i h last made = record {
  back = i ∷ h.back;
  whole = moved all before front h.back i h.whole last;
  so_far = selected_none constant h.back used selected i h.so_far made;
}

pub behind_some : (constant : ℕ → Option ℤ) (all before front : List (ℕ × InstrData)) (used used' : ℕ → Bool) (selected : List InstrData) (i : ℕ × InstrData) (x : InstrData) → AreShaped all
    → SelectedBehind constant all before used selected → before ≡ front ++ i ∷ [] → Some x ≡ selected_where used constant i.1 → is_formed i.1 ≡ true
    → ((r : ℕ) → used' r ≡ (list_any (is_use_of r) x.operands || used r)) → SelectedBehind constant all front used' (selected ++ (x ∷ []))
behind_some constant all before front used used' selected i x in_shape h last made formed marked =
    let whole : all ≡ front ++ i ∷ h.back = moved all before front h.back i h.whole last in
    let at : StandsBehind front i = stands_at all front h.back i in_shape whole in
    let formed' : is_formed x ≡ true =
    selected_formed used constant at.defined at.s i.1.line x at.stands (subst (λ e. is_formed e ≡ true) at.same formed) (ap (selected_where used constant) (sym at.same) ∙ sym made) in
    record { back = i ∷ h.back; whole = whole; so_far = selected_some constant h.back used used' selected i x h.so_far made formed' marked }

-- ══ The new function ══

pub record PutAll (f : FunctionData) (b : BlockData) (front : List (ℕ × InstrData)) (is : List InstrData) (g : FunctionData) : Type 0 where
  pub reg : ℕ
  pub id : ℕ
  pub pairs : List (ℕ × InstrData)
  pub same : AllZip (λ (d : InstrData) (p : ℕ × InstrData). p.1 ≡ d) is pairs
  pub shape : g ≡ shaped f b (front ++ pairs) reg id

pub put_all_there : (f : FunctionData) (b : BlockData) (front : List (ℕ × InstrData)) (reg id : ℕ) (is : List InstrData) → PutAll f b front is (with_all (shaped f b front reg id) is)
put_all_there f b front reg id [] = record { reg = reg; id = id; pairs = []; same = tt; shape = ap (λ xs. shaped f b xs reg id) (sym (append-nil front)) }
put_all_there f b front reg id (i ∷ is) =
    let more : PutAll f b (front ++ ((id, i) ∷ [])) is (with_all (shaped f b (front ++ ((id, i) ∷ [])) (above_registers reg i.operands) (id + 1)) is) = put_all_there f b (front ++ ((id, i) ∷ [])) (above_registers reg i.operands) (id + 1) is in record {
      reg = more.reg;
      id = more.id;
      pairs = (id, i) ∷ more.pairs;
      same = (refl, more.same);
      shape = more.shape ∙ ap (λ xs. shaped f b xs more.reg more.id) (append_assoc front ((id, i) ∷ []) more.pairs);
    }

same_instrs : (back pairs : List (ℕ × InstrData)) → AllZip (λ (d : InstrData) (p : ℕ × InstrData). p.1 ≡ d) (classed_all back) pairs
    → AllZip IsSameInstr (map classed_pair back) pairs
same_instrs [] [] h = tt
same_instrs [] (p ∷ pairs) h = absurd h
same_instrs (i ∷ back) [] h = absurd h
same_instrs (i ∷ back) (p ∷ pairs) h = (h.0, same_instrs back pairs h.1)

-- what a function of one block comes to
pub record NormalOf (f : FunctionData) (h : IsOneBlock f) (normal : FunctionData) : Type 0 where
  pub came : Came (short_among h.block.instrs) f h.block [] [] h.block.instrs f.next_reg f.next_id
  pub shape : normal ≡ shaped f h.block came.back came.next_reg came.next_id
  pub start : f ≡ shaped f h.block h.block.instrs f.next_reg f.next_id
  pub is_normal : IsNormalForm selection_rows f normal

pub normal_of : (f : FunctionData) (h : IsOneBlock f) → (normal : FunctionData) × NormalOf f h normal
normal_of f h =
    let b : BlockData = h.block in
    let came : Came (short_among b.instrs) f b [] [] b.instrs f.next_reg f.next_id =
    came_from b.instrs f b h.shapes b.instrs [] [] f.next_reg f.next_id h.shaped (in_order [] h.shapes h.ordered) nothing_before refl in
    let normal : FunctionData = shaped f b came.back came.next_reg came.next_id in
    let start : f ≡ shaped f b b.instrs f.next_reg f.next_id = ap (λ (blocks : List BlockData). record f { blocks = blocks }) h.blocks in (
      normal,
      record {
        came = came;
        shape = refl;
        start = start;
        is_normal = subst (λ g. IsNormalForm selection_rows g normal) (sym start)
            (came.goes.leads.by normal (record { count = 0; comes = (no_next f b came.back came.next_reg came.next_id came.none, refl) }));
      },
    )

-- the function that the program makes is the selected form
pub is_selected : (f : FunctionData) (h : IsOneBlock f) (constant : ℕ → Option ℤ) (items : List InstrData) (head : HeadData)
    → ((r : ℕ) → constant r ≡ short_among h.block.instrs r) → items ≡ reverse (selected_list constant h.block.instrs) → head ≡ head_of h.block
    → IsSelected f (with_all (with_block (emptied f) head) (reverse items))
is_selected f h constant items head constants made head_is =
    let b : BlockData = h.block in
    let found = normal_of f h in
    let normal : FunctionData = found.0 in
    let n : NormalOf f h normal = found.1 in
    let empty : FunctionData = with_block (emptied f) head in
    let put : PutAll empty (block_with head) [] (reverse items) (with_all empty (reverse items)) = put_all_there empty (block_with head) [] 0 0 (reverse items) in
    let list : reverse items ≡ classed_all n.came.back = ap reverse made ∙ reverse-reverse (selected_list constant b.instrs) ∙ ap (λ c. selected_list c b.instrs) (fun_ext constants) ∙ sym n.came.same in
    record {
      normal = normal;
      is_normal = n.is_normal;
      same = subst (λ g. IsSameFunction (selected_form normal) g) (sym put.shape) (subst (λ m. IsSameFunction (selected_form m) (shaped empty (block_with head) put.pairs put.reg put.id)) (sym n.shape) (record {
        name = refl;
        legalized = refl;
        banked = refl;
        chosen = refl;
        stack = refl;
        blocks = (
          record {
            successors = ap (λ (d : HeadData). d.successors) head_is;
            liveins = ap (λ (d : HeadData). d.liveins) head_is;
            instrs = same_instrs n.came.back put.pairs (subst (λ xs. AllZip (λ (d : InstrData) (p : ℕ × InstrData). p.1 ≡ d) xs put.pairs) list put.same);
          },
          tt,
        );
      }));
    }

-- the block of a function of one block
pub only_block : (f : FunctionData) (h : IsOneBlock f) → block_at f 0 ≡ h.block
only_block f h = ap (λ (blocks : List BlockData). block_at (record f { blocks = blocks }) 0) h.blocks

-- the steps of the program
pub selected_by : (f : FunctionData) (h : IsOneBlock f) (instrs : List (ℕ × InstrData)) (constant : ℕ → Option ℤ) (items : List InstrData) (head : HeadData) (made added put : FunctionData)
    → instrs ≡ (block_at f 0).instrs → ((r : ℕ) → constant r ≡ short_among instrs r) → items ≡ reverse (selected_list constant instrs) → head ≡ head_of (block_at f 0)
    → made ≡ emptied f → added ≡ with_block made head → put ≡ with_all added (reverse items) → IsSelected f put
selected_by f h instrs constant items head made added put is constants list head_is first second third =
    let here : instrs ≡ h.block.instrs = is ∙ ap (λ (b : BlockData). b.instrs) (only_block f h) in
    let whole : put ≡ with_all (with_block (emptied f) head) (reverse items) =
    third ∙ ap (λ g. with_all g (reverse items)) (second ∙ ap (λ g. with_block g head) first) in
    subst (IsSelected f) (sym whole)
    (is_selected f h constant items head (λ r. constants r ∙ ap (λ xs. short_among xs r) here) (list ∙ ap (λ xs. reverse (selected_list constant xs)) here)
    (head_is ∙ ap head_of (only_block f h)))

-- ══ A function without a block ══

pub normal_without_blocks : (f : FunctionData) → f.blocks ≡ [] → IsNormalForm selection_rows f f
normal_without_blocks f none = record { count = 0; comes = (ap (λ blocks. next_at selection_rows f (last_site 0 blocks)) none, refl) }

pub selected_without_blocks : (f : FunctionData) → f.blocks ≡ [] → IsSelected f (emptied f)
selected_without_blocks f none = record {
  normal = f;
  is_normal = normal_without_blocks f none;
  same = record {
    name = refl;
    legalized = refl;
    banked = refl;
    chosen = refl;
    stack = refl;
    blocks = subst (λ bs. AllZip IsSameBlock (map classed_block bs) []) (sym none) tt;
  };
}

-- a function that selection takes has a normal form
pub selectable_normal : (f : FunctionData) → IsSelectable f → (normal : FunctionData) × IsNormalForm selection_rows f normal
selectable_normal f (inl none) = (f, normal_without_blocks f none)
selectable_normal f (inr h) = let found = normal_of f h in (found.0, found.1.is_normal)

-- one that has a block has one alone
pub its_one_block : (f : FunctionData) → IsSelectable f → (length f.blocks ≡ 0 → ⊥) → IsOneBlock f
its_one_block f (inl none) some = absurd (some (ap length none))
its_one_block f (inr h) some = h

pub its_no_block : (f : FunctionData) → length f.blocks ≡ 0 → f.blocks ≡ []
its_no_block f h = by f.blocks h
  where
    by : (bs : List BlockData) → length bs ≡ 0 → bs ≡ []
    by [] l = refl
    by (b ∷ bs) l = cc

pub selectable_at : (fs : List FunctionData) (k : ℕ) (f : FunctionData) → AllSelectable fs → k < length fs → f ≡ get_or fs k f → IsSelectable f
selectable_at [] k f h within at = absurd (omega (arith, within))
selectable_at (g ∷ fs) zero f h within at = subst IsSelectable (sym at) h.0
selectable_at (g ∷ fs) (suc k) f h within at = selectable_at fs k f h.1 (omega (arith, within)) at

-- one more function
pub functions_more : (fs gs : List FunctionData) (k : ℕ) (f g : FunctionData) → AllZip IsSelected (take k fs) gs → k < length fs → f ≡ get_or fs k f → IsSelected f g
    → AllZip IsSelected (take (suc k) fs) (gs ++ g ∷ [])
functions_more fs gs k f g h within at made =
    subst (λ xs. AllZip IsSelected xs (gs ++ g ∷ [])) (ap (λ j. take k fs ++ j ∷ []) at ∙ sym (take-suc fs k f within)) (AllZip-push IsSelected (take k fs) gs f g h made)
