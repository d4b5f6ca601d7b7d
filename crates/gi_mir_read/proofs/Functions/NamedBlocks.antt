-- A function with one more block stays named.
use Rattle.std.proofs.Common.{◌≡◌, ℕ, zero, suc, ◌+◌, ◌-◌, ◌<◌, arith, get_or, true, List, [], ◌∷◌, ◌++◌, None, map, length, refl, sym, ap, subst, ◌∙◌}
use Rattle.std.specs.Prelude.{fold, max, slice_set, slice_index_or, if◌then◌else◌, not, ◌&&◌, ◌==◌}
use Rattle.std.specs.List.{AllZip}
use Rattle.std.specs.Option.{option_map_or, unwrap_or}
use Rattle.std.proofs.lemmas.List.{length-set}
use Rattle.std.proofs.lemmas.List.Elements.{All-rest}
use Rattle.gi_mir.specs.Formed.{is_formed}
use Rattle.gi_mir_read.specs.Functions.Bodies.{AreFormed, BodyData, spelled_by}
use Rattle.gi_mir.specs.Data.{InstrData, BlockData, FunctionData}
use Rattle.gi_mir.specs.Edit.{HeadData, above_registers, block_at, block_with, block_with_instr, empty_block, register_above, with_block, with_instr}
use Rattle.gi_mir.specs.declared.operand.Operand.{Operand}
use Rattle.gi_mir.specs.declared.operand.Operand.TheVariants as operand
use Rattle.gi_spelling.specs.Blocks.{Body}
use Rattle.gi_spelling.specs.Documents.{head_of_body, successors_of, with_body, with_last, without_ids}
use Rattle.gi_spelling.specs.Named.{IsNamedBlock, IsNamedEntry, IsNamedFunction, IsNamedInstr, IsNamedOperand}
use Rattle.gi_mir.specs.Row.{is_branch_op, is_unconditional_op}
use Rattle.gi_spelling.specs.Resolved.{block_place}
use Rattle.gi_mir_read.specs.Functions.Implied.{head_by, implied_by, runs_past, with_branch, with_target}
use Rattle.gi_spelling.specs.Printed.{falls_through, implied_successors, with_branches, with_place, with_targets}

zip_push : {A B : Type 0} (R : A → B → Type 0) (xs : List A) (ys : List B) (x : A) (y : B) → AllZip R xs ys → R x y → AllZip R (xs ++ x ∷ []) (ys ++ y ∷ [])
zip_push R [] [] x y all last = (last, tt)
zip_push R [] (other ∷ ys) x y all last = absurd all
zip_push R (first ∷ xs) [] x y all last = absurd all
zip_push R (first ∷ xs) (other ∷ ys) x y all last = (all.0, zip_push R xs ys x y all.1 last)

zip_long : {A B : Type 0} (R : A → B → Type 0) (xs : List A) (ys : List B) → AllZip R xs ys → length ys ≡ length xs
zip_long R [] [] all = refl
zip_long R [] (y ∷ ys) all = absurd all
zip_long R (x ∷ xs) [] all = absurd all
zip_long R (x ∷ xs) (y ∷ ys) all = ap suc (zip_long R xs ys all.1)

zip_set : {X : Type 0} (R : X → X → Type 0) (d : X) (f g : X → X) → R d d → ((x y : X) → R x y → R (f x) (g y)) → (xs ys : List X) (place : ℕ) → AllZip R xs ys
    → AllZip R (slice_set xs place (f (slice_index_or xs place d))) (slice_set ys place (g (slice_index_or ys place d)))
zip_set R d f g same step [] [] place all = tt
zip_set R d f g same step [] (y ∷ ys) place all = absurd all
zip_set R d f g same step (x ∷ xs) [] place all = absurd all
zip_set R d f g same step (x ∷ xs) (y ∷ ys) zero all = (step x y all.0, all.1)
zip_set R d f g same step (x ∷ xs) (y ∷ ys) (suc place) all = (all.0, zip_set R d f g same step xs ys place all.1)

module _ (text : List ℕ) (names : List (List ℕ)) where
  named-above : (least : ℕ) (xs ys : List Operand) → AllZip (IsNamedOperand text names) xs ys → above_registers least ys ≡ above_registers least xs
  named-above least [] [] all = refl
  named-above least [] (y ∷ ys) all = absurd all
  named-above least (x ∷ xs) [] all = absurd all
  named-above least (x ∷ xs) (y ∷ ys) all = ap (λ n. fold (λ m z. max m (register_above z)) n ys) (one x y all.0) ∙ named-above (max least (register_above x)) xs ys all.1
    where
      one : (a b : Operand) → IsNamedOperand text names a b → max least (register_above b) ≡ max least (register_above a)
      one (operand.Global flag place) b is = ap (λ z. max least (register_above z)) is.same
      one _ b is = ap (λ z. max least (register_above z)) is

  named-entry : (id : ℕ) (b c : BlockData) (i j : InstrData) → IsNamedInstr text names i j → IsNamedBlock text names b c
      → IsNamedBlock text names (block_with_instr b None (id, i)) (block_with_instr c None (id, j))
  named-entry id b c i j instr block = record {
    successors = block.successors;
    liveins = block.liveins;
    instrs = zip_push (IsNamedEntry text names) b.instrs c.instrs (id, i) (id, j) block.instrs (record { id = refl; instr = instr });
  }

  pub named-last : (place : ℕ) (f g : FunctionData) (i j : InstrData) → IsNamedInstr text names i j → IsNamedFunction text names f g
      → IsNamedFunction text names (with_last place f i) (with_last place g j)
  named-last place f g i j instr named = record {
    legalized = named.legalized;
    banked = named.banked;
    selected = named.selected;
    stack = named.stack;
    blocks = rw named.next_id (zip_set (IsNamedBlock text names) empty_block (λ b. block_with_instr b None (f.next_id, i)) (λ c. block_with_instr c None (f.next_id, j))
        (record { successors = refl; liveins = refl; instrs = tt }) (λ b c is. named-entry f.next_id b c i j instr is) f.blocks g.blocks place named.blocks);
    next_reg = ap (λ n. above_registers n j.operands) named.next_reg ∙ named-above f.next_reg i.operands j.operands instr.operands;
    next_id = ap (λ n. n + 1) named.next_id;
  }

  pub named-lasts : (place : ℕ) (is js : List InstrData) (f g : FunctionData) → AllZip (IsNamedInstr text names) is js → IsNamedFunction text names f g
      → IsNamedFunction text names (fold (with_last place) f is) (fold (with_last place) g js)
  named-lasts place [] [] f g all named = named
  named-lasts place [] (j ∷ js) f g all named = absurd all
  named-lasts place (i ∷ is) [] f g all named = absurd all
  named-lasts place (i ∷ is) (j ∷ js) f g all named = named-lasts place is js (with_last place f i) (with_last place g j) all.1 (named-last place f g i j all.0 named)

  named-head : (f g : FunctionData) (head : HeadData) → IsNamedFunction text names f g → IsNamedFunction text names (with_block f head) (with_block g head)
  named-head f g head named = record {
    legalized = named.legalized;
    banked = named.banked;
    selected = named.selected;
    stack = named.stack;
    blocks = zip_push (IsNamedBlock text names) f.blocks g.blocks (block_with head) (block_with head) named.blocks (record { successors = refl; liveins = refl; instrs = tt });
    next_reg = named.next_reg;
    next_id = named.next_id;
  }

  -- the successors that are implied name nothing
  named-target : (places : List ℕ) (a b : Operand) → IsNamedOperand text names a b → with_target places b ≡ with_target places a
  named-target places (operand.Global flag place) b is = ap (with_target places) is.same
  named-target places _ b is = ap (with_target places) is

  named-targets : (places : List ℕ) (xs ys : List Operand) → AllZip (IsNamedOperand text names) xs ys → fold with_target places ys ≡ fold with_target places xs
  named-targets places [] [] all = refl
  named-targets places [] (y ∷ ys) all = absurd all
  named-targets places (x ∷ xs) [] all = absurd all
  named-targets places (x ∷ xs) (y ∷ ys) all = ap (λ more. fold with_target more ys) (named-target places x y all.0) ∙ named-targets (with_target places x) xs ys all.1

  named-branch : (places : List ℕ) (i j : InstrData) → IsNamedInstr text names i j → with_branch places j ≡ with_branch places i
  named-branch places i j is =
      ap (λ op. if is_branch_op op then fold with_target places j.operands else places) is.op
      ∙ ap (λ more. if is_branch_op i.op then more else places) (named-targets places i.operands j.operands is.operands)

  named-branches : (places : List ℕ) (is js : List InstrData) → AllZip (IsNamedInstr text names) is js → fold with_branch places js ≡ fold with_branch places is
  named-branches places [] [] all = refl
  named-branches places [] (j ∷ js) all = absurd all
  named-branches places (i ∷ is) [] all = absurd all
  named-branches places (i ∷ is) (j ∷ js) all = ap (λ more. fold with_branch more js) (named-branch places i j all.0) ∙ named-branches (with_branch places i) is js all.1

  named-past : (is js : List InstrData) → AllZip (IsNamedInstr text names) is js → runs_past js ≡ runs_past is
  named-past [] [] all = refl
  named-past [] (j ∷ js) all = absurd all
  named-past (i ∷ is) [] all = absurd all
  named-past (i ∷ []) (j ∷ []) all = let named = all.0 in ap (λ op. not (is_unconditional_op op)) named.op
  named-past (i ∷ []) (j ∷ k ∷ js) all = absurd all.1
  named-past (i ∷ h ∷ is) (j ∷ []) all = absurd all.1
  named-past (i ∷ h ∷ is) (j ∷ k ∷ js) all = named-past (h ∷ is) (k ∷ js) all.1

  named-implied : (place count : ℕ) (is js : List InstrData) → AllZip (IsNamedInstr text names) is js → implied_by place count js ≡ implied_by place count is
  named-implied place count is js all =
      ap (λ past. if past && not (suc place == count) then with_place (fold with_branch [] js) (suc place) else fold with_branch [] js) (named-past is js all)
      ∙ ap (λ places. if runs_past is && not (suc place == count) then with_place places (suc place) else places) (named-branches [] is js all)

-- the successors that are implied, one instruction after the other
targets-first : (places : List ℕ) (x : Operand) (xs : List Operand) → with_targets places (x ∷ xs) ≡ with_targets (with_target places x) xs
targets-first places (operand.Block place) xs = refl
targets-first places _ xs = refl

targets-is : (places : List ℕ) (xs : List Operand) → with_targets places xs ≡ fold with_target places xs
targets-is places [] = refl
targets-is places (x ∷ xs) = targets-first places x xs ∙ targets-is (with_target places x) xs

branches-is : (places : List ℕ) (is : List InstrData) → with_branches places (without_ids is) ≡ fold with_branch places is
branches-is places [] = refl
branches-is places (i ∷ is) =
    ap (λ more. with_branches (if is_branch_op i.op then more else places) (without_ids is)) (targets-is places i.operands) ∙ branches-is (with_branch places i) is

past-is : (is : List InstrData) → falls_through (without_ids is) ≡ runs_past is
past-is [] = refl
past-is (i ∷ []) = refl
past-is (i ∷ j ∷ is) = past-is (j ∷ is)

pub implied-is : (place count : ℕ) (is : List InstrData) → implied_successors place count (without_ids is) ≡ implied_by place count is
implied-is place count is =
    ap (λ past. if past && not (suc place == count) then with_place (with_branches [] (without_ids is)) (suc place) else with_branches [] (without_ids is)) (past-is is)
    ∙ ap (λ places. if runs_past is && not (suc place == count) then with_place places (suc place) else places) (branches-is [] is)

-- a block
module _ (text : List ℕ) (names : List (List ℕ)) where
  named-successors : (numbers : List ℕ) (place : ℕ) (b c : Body) → b.lists ≡ c.lists → AllZip (IsNamedInstr text names) b.instrs c.instrs → successors_of numbers place c ≡ successors_of numbers place b
  named-successors numbers place b c lists all =
      ap (λ implied. option_map_or (λ stated. map (block_place numbers) stated) c.lists.successors implied)
      (implied-is place (length numbers) c.instrs ∙ named-implied text names place (length numbers) b.instrs c.instrs all ∙ sym (implied-is place (length numbers) b.instrs))
      ∙ ap (λ lists. option_map_or (λ stated. map (block_place numbers) stated) lists.successors (implied_successors place (length numbers) (without_ids b.instrs))) (sym lists)

  pub named-body : (numbers : List ℕ) (f g : FunctionData) (b c : Body) → b.lists ≡ c.lists → AllZip (IsNamedInstr text names) b.instrs c.instrs → IsNamedFunction text names f g
      → IsNamedFunction text names (with_body numbers f b) (with_body numbers g c)
  named-body numbers f g b c lists all named =
      let long : length g.blocks ≡ length f.blocks = zip_long (IsNamedBlock text names) f.blocks g.blocks named.blocks in
      let head : head_of_body numbers (length f.blocks) c ≡ head_of_body numbers (length f.blocks) b =
      ap (λ successors. record { successors = successors; liveins = unwrap_or c.lists.liveins [] }) (named-successors numbers (length f.blocks) b c lists all)
      ∙ ap (λ lists. record { successors = successors_of numbers (length f.blocks) b; liveins = unwrap_or lists.liveins [] }) (sym lists) in
      let same : with_body numbers g c ≡ fold (with_last (length f.blocks)) (with_block g (head_of_body numbers (length f.blocks) b)) c.instrs =
      ap (λ n. fold (with_last n) (with_block g (head_of_body numbers n c)) c.instrs) long ∙ ap (λ h. fold (with_last (length f.blocks)) (with_block g h) c.instrs) head in
      subst (IsNamedFunction text names (with_body numbers f b)) (sym same)
      (named-lasts text names (length f.blocks) b.instrs c.instrs (with_block f (head_of_body numbers (length f.blocks) b)) (with_block g (head_of_body numbers (length f.blocks) b)) all
      (named-head text names f g (head_of_body numbers (length f.blocks) b) named))

-- the last instruction tells
pub past-last : (is : List InstrData) (last : InstrData) → 0 < length is → last ≡ get_or is (length is - 1) last → not (is_unconditional_op last.op) ≡ runs_past is
past-last [] last some at = absurd (omega (arith, some))
past-last (i ∷ []) last some at = ap (λ (j : InstrData). not (is_unconditional_op j.op)) at
past-last (i ∷ next ∷ more) last some at =
    let less : suc (suc (length more)) - 1 ≡ suc (length more) = omega arith in
    let end : suc (length more) - 1 ≡ length more = omega arith in
    let here : 0 < suc (length more) = omega arith in
    past-last (next ∷ more) last here (at ∙ ap (λ n. get_or (i ∷ next ∷ more) n last) less ∙ ap (λ n. get_or (next ∷ more) n last) (sym end))

-- one more instruction at a block's end
pub inserted : (place : ℕ) (f g : FunctionData) (i : InstrData) (left rest : List InstrData) (whole : FunctionData) → left ≡ i ∷ rest → g ≡ with_instr f place None i
    → place < length f.blocks → AreFormed left → fold (with_last place) f left ≡ whole
    → (place < length g.blocks) × AreFormed rest × (fold (with_last place) g rest ≡ whole)
inserted place f g i left rest whole is put within formed so_far =
    let kept : place < length (slice_set f.blocks place (block_with_instr (block_at f place) None (f.next_id, i))) =
    omega (arith, length-set f.blocks place (block_with_instr (block_at f place) None (f.next_id, i))) in (
      subst (λ h. place < length h.blocks) (sym put) kept,
      record { all = All-rest (λ instr. is_formed instr ≡ true) i rest left is formed.all },
      ap (λ h. fold (with_last place) h rest) put ∙ sym (ap (fold (with_last place) f) is) ∙ so_far,
    )

-- a block that has been read is the last of its function
pub head-is : (numbers : List ℕ) (place : ℕ) (body : BodyData) → head_by numbers place body.lists body.instrs ≡ head_of_body numbers place (spelled_by body)
head-is numbers place body =
    let made : List ℕ → HeadData = λ implied. record { successors = option_map_or (λ those. map (block_place numbers) those) body.lists.successors implied; liveins = unwrap_or body.lists.liveins [] } in
    ap made (sym (implied-is place (length numbers) body.instrs))

pub body-added : (numbers : List ℕ) (place : ℕ) (body whole : BodyData) (head : HeadData) (f g h : FunctionData) → place ≡ length f.blocks → body ≡ whole
    → head ≡ head_by numbers place body.lists body.instrs → g ≡ with_block f head → h ≡ fold (with_last place) g body.instrs → h ≡ with_body numbers f (spelled_by whole)
body-added numbers place body whole head f g h placed same made added inserted =
    let at : BodyData → ℕ → FunctionData = λ b n. fold (with_last n) (with_block f (head_of_body numbers n (spelled_by b))) b.instrs in
    inserted ∙ ap (λ start. fold (with_last place) start body.instrs) (added ∙ ap (with_block f) (made ∙ head-is numbers place body))
    ∙ ap (at body) placed ∙ ap (λ b. at b (length f.blocks)) same
