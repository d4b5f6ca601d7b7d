-- Functions of one block in which selection has come so far: the last generic instruction, what is used, and what
-- stands in order.
use Rattle.std.proofs.Common.{◌≡◌, ℕ, suc, ◌+◌, Bool, true, false, ◌||◌, List, [], ◌∷◌, ◌++◌, length, take, drop, map, fold, Some, None, option_map, slice_get, refl, ap, ap₂, ◌∙◌, if◌then◌else◌}
use Rattle.std.specs.Prelude.{⊤}
use Rattle.std.specs.List.{list_all, list_any}
use Rattle.std.specs.Option.{option_or}
use Rattle.std.proofs.lemmas.Bool.{and_parts}
use Rattle.std.proofs.lemmas.List.{append-nil}
use Rattle.gi_mir.specs.Data.{InstrData, BlockData, FunctionData}
use Rattle.gi_mir.specs.Edit.{above_registers, is_use_of, uses}
use Rattle.gi_mir.specs.declared.operand.Operand.{Operand}
use Rattle.gi_mir.specs.declared.operand.Operand.TheVariants as operand
use Rattle.gi_answer.specs.Shapes.{ShapedInstr, stands_behind, defined_after, are_in_order}
use Rattle.gi_answer.specs.NormalForm.{last_place, first_fit, next, next_at, rewritten_at, rewritten, with_ids}
use Rattle.gi_mir.specs.Row.{is_generic_op}
use Rattle.gi_refine.specs.Kept.{without_kind}
use Rattle.gi_refine.specs.Worded.{classed_instr}
use Rattle.gi_answer.specs.Rows.{Site, is_generic, is_used, short_in, selection_rows}
use Rattle.gi_answer.specs.Selecting.{used_in, short_among}

-- ══ Tests ══

pub or_false : (a b : Bool) → (a || b) ≡ false → (a ≡ false) × (b ≡ false)
or_false true b h = cc
or_false false b h = (refl, h)

pub or_none : (a : Bool) → (a || false) ≡ a
or_none true = refl
or_none false = refl

pub or_swapped : (a b : Bool) → (a || b) ≡ (b || a)
or_swapped true true = refl
or_swapped true false = refl
or_swapped false true = refl
or_swapped false false = refl

-- ══ The last generic instruction ══

no_last : (is : List (ℕ × InstrData)) → list_any is_generic is ≡ false → last_place is ≡ None
no_last [] h = refl
no_last (i ∷ is) h =
    let parts = or_false (is_generic i) (list_any is_generic is) h in
    ap₂ (λ a b. option_or (option_map suc a) (if b then Some 0 else None)) (no_last is parts.1) parts.0

last_at : (front : List (ℕ × InstrData)) (i : ℕ × InstrData) (back : List (ℕ × InstrData)) → is_generic i ≡ true → list_any is_generic back ≡ false
    → last_place (front ++ (i ∷ back)) ≡ Some (length front)
last_at [] i back here none = ap₂ (λ a b. option_or (option_map suc a) (if b then Some 0 else None)) (no_last back none) here
last_at (x ∷ front) i back here none = ap (λ a. option_or (option_map suc a) (if is_generic x then Some 0 else None)) (last_at front i back here none)

-- ══ A function with these instructions in its one block ══

abbrev pub shaped : FunctionData → BlockData → List (ℕ × InstrData) → (reg id : ℕ) → FunctionData
shaped f b instrs reg id = record f { blocks = (record b { instrs = instrs }) ∷ []; next_reg = reg; next_id = id }

got_at : (front : List (ℕ × InstrData)) (i : ℕ × InstrData) (back : List (ℕ × InstrData)) → slice_get (front ++ (i ∷ back)) (length front) ≡ Some i
got_at [] i back = refl
got_at (x ∷ front) i back = got_at front i back

taken_at : (front back : List (ℕ × InstrData)) → take (length front) (front ++ back) ≡ front
taken_at [] back = refl
taken_at (x ∷ front) back = ap (λ xs. x ∷ xs) (taken_at front back)

dropped_at : (front : List (ℕ × InstrData)) (i : ℕ × InstrData) (back : List (ℕ × InstrData)) → drop (suc (length front)) (front ++ (i ∷ back)) ≡ back
dropped_at [] i back = refl
dropped_at (x ∷ front) i back = dropped_at front i back

abbrev site_of : ℕ → Site
site_of place = record { block = 0; place = place }

-- the place behind a front
abbrev pub site_at : List (ℕ × InstrData) → Site
site_at front = record { block = 0; place = length front }

abbrev pub next_reg_after : ℕ → List InstrData → ℕ
next_reg_after reg made = fold (λ above i. above_registers above i.operands) reg made

pub rewritten_shaped : (f : FunctionData) (b : BlockData) (front : List (ℕ × InstrData)) (i : ℕ × InstrData) (back : List (ℕ × InstrData)) (reg id : ℕ) (made : List InstrData)
    → rewritten (shaped f b (front ++ (i ∷ back)) reg id) (site_at front) made
    ≡ shaped f b (front ++ (with_ids id made ++ back)) (next_reg_after reg made) (id + length made)
rewritten_shaped f b front i back reg id made =
    ap₂ (λ xs ys. shaped f b (xs ++ (with_ids id made ++ ys)) (next_reg_after reg made) (id + length made)) (taken_at front (i ∷ back)) (dropped_at front i back)

-- the first row that fits at the last generic instruction is applied
pub next_shaped : (f : FunctionData) (b : BlockData) (front : List (ℕ × InstrData)) (i : ℕ × InstrData) (back : List (ℕ × InstrData)) (reg id : ℕ) (made : List InstrData)
    → is_generic i ≡ true → list_any is_generic back ≡ false
    → first_fit selection_rows (shaped f b (front ++ (i ∷ back)) reg id) (site_at front) i.1 ≡ Some made
    → next selection_rows (shaped f b (front ++ (i ∷ back)) reg id) ≡ Some (shaped f b (front ++ (with_ids id made ++ back)) (next_reg_after reg made) (id + length made))
next_shaped f b front i back reg id made here none fits =
    let g : FunctionData = shaped f b (front ++ (i ∷ back)) reg id in
    ap (λ place. next_at selection_rows g (option_map (λ p. site_of p) place)) (last_at front i back here none)
    ∙ ap (λ found. rewritten_at selection_rows g (site_at front) (option_map (λ j. j.1) found)) (got_at front i back)
    ∙ ap (option_map (rewritten g (site_at front))) fits
    ∙ ap Some (rewritten_shaped f b front i back reg id made)

-- where nothing is generic, nothing comes next
pub no_next : (f : FunctionData) (b : BlockData) (back : List (ℕ × InstrData)) (reg id : ℕ) → list_any is_generic back ≡ false → next selection_rows (shaped f b back reg id) ≡ None
no_next f b back reg id none = ap (λ place. next_at selection_rows (shaped f b back reg id) (option_map (λ p. site_of p) place)) (no_last back none)

-- ══ What is used, and the short constants ══

pub used_shaped : (f : FunctionData) (b : BlockData) (instrs : List (ℕ × InstrData)) (reg id r : ℕ) → is_used (shaped f b instrs reg id) r ≡ list_any (uses r) instrs
used_shaped f b instrs reg id r = ap (list_any (uses r)) (append-nil instrs)

pub short_shaped : (f : FunctionData) (b : BlockData) (instrs : List (ℕ × InstrData)) (reg id r : ℕ) → short_in (shaped f b instrs reg id) r ≡ short_among instrs r
short_shaped f b instrs reg id r = ap (λ is. short_among is r) (append-nil instrs)

-- a class changes no use
use_classed : (r : ℕ) (o : Operand) → is_use_of r (without_kind o) ≡ is_use_of r o
use_classed r (operand.Def q k) = refl
use_classed r o = refl

uses_classed : (r : ℕ) (os : List Operand) → list_any (is_use_of r) (map without_kind os) ≡ list_any (is_use_of r) os
uses_classed r [] = refl
uses_classed r (o ∷ os) = ap₂ (λ a b. a || b) (use_classed r o) (uses_classed r os)

abbrev pub classed_all : List (ℕ × InstrData) → List InstrData
classed_all is = map (λ i. classed_instr i.1) is

pub used_classed : (r : ℕ) (is : List (ℕ × InstrData)) → used_in (classed_all is) r ≡ list_any (uses r) is
used_classed r [] = refl
used_classed r (i ∷ is) = ap₂ (λ a b. a || b) (uses_classed r i.1.operands) (used_classed r is)

pub classed_made : (id : ℕ) (made : List InstrData) (back : List (ℕ × InstrData)) → classed_all (with_ids id made ++ back) ≡ map classed_instr made ++ classed_all back
classed_made id [] back = refl
classed_made id (i ∷ is) back = ap (λ xs. classed_instr i ∷ xs) (classed_made (suc id) is back)

pub none_made : (id : ℕ) (made : List InstrData) (back : List (ℕ × InstrData)) → list_any (λ i. is_generic_op i.op) made ≡ false → list_any is_generic back ≡ false
    → list_any is_generic (with_ids id made ++ back) ≡ false
none_made id [] back none rest = rest
none_made id (i ∷ is) back none rest =
    let parts = or_false (is_generic_op i.op) (list_any (λ j. is_generic_op j.op) is) none in
    ap₂ (λ a b. a || b) parts.0 (none_made (suc id) is back parts.1 rest)

-- ══ Symbols ══

abbrev pub is_nameless_operand : Operand → Bool
is_nameless_operand (operand.Global flag name) = false
is_nameless_operand o = true

-- an instruction without a symbol that the module names
abbrev pub is_nameless : ℕ × InstrData → Bool
is_nameless i = list_all is_nameless_operand i.1.operands

-- ══ What stands before ══

-- instructions of which each may stand
abbrev pub InOrder : (defined : List ℕ) → List ShapedInstr → Type 0
InOrder defined [] = ⊤
InOrder defined (s ∷ ss) = (stands_behind defined s ≡ true) × InOrder (defined_after defined s) ss

pub in_order : (defined : List ℕ) (ss : List ShapedInstr) → are_in_order defined ss ≡ true → InOrder defined ss
in_order defined [] h = tt
in_order defined (s ∷ ss) h =
    let parts = and_parts (stands_behind defined s) (are_in_order (defined_after defined s) ss) h in (parts.0, in_order (defined_after defined s) ss parts.1)
