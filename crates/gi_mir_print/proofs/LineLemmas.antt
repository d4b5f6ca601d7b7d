-- The lines of a block.
use Rattle.std.proofs.Common.{◌≡◌, ℕ, suc, ◌+◌, Bool, true, false, not, ◌&&◌, ◌||◌, ◌==◌, if◌then◌else◌, List, [], ◌∷◌, ◌++◌, length, map, refl, sym, ap, ap₂, ◌∙◌, append_assoc, add-one}
use Rattle.std.specs.Prelude.{codes}
use Rattle.std.specs.List.{list_any}
use Rattle.gi_llt.specs.Tokens.{Spaces, piece_bytes}
use Rattle.gi_mir.specs.Data.{InstrData, BlockData}
use Rattle.gi_mir.specs.Renaming.{renamed_operand, renamed_pair}
use Rattle.gi_spelling.specs.Printed.{sources_pieces, physical_pieces, with_place, with_targets, with_branches, falls_through, implied_successors, states_successors, set_off, text_of, instr_lines, liveins_lines, block_head_pieces, block_lines}
use Rattle.gi_mir.specs.Row.{is_unconditional_op, is_branch_op}
use Rattle.gi_mir.specs.declared.operand.Kind.{Kind}
use Rattle.gi_mir.specs.declared.operand.Operand.{Operand}
use Rattle.gi_mir.specs.declared.operand.Operand.TheVariants as operand
use Rattle.gi_mir_print.specs.Shown.{is_target, has_target, gap_after, successors_stated}

pub text_of_append : (xs ys : List (List ℕ)) → text_of (xs ++ ys) ≡ text_of xs ++ text_of ys
text_of_append [] ys = refl
text_of_append (x ∷ xs) ys = ap (λ bs. x ++ (10 ∷ bs)) (text_of_append xs ys) ∙ sym (append_assoc x (10 ∷ text_of xs) (text_of ys))

pub set_off_bytes : (lines : List (List ℕ)) → text_of lines ++ gap_after lines ≡ text_of (set_off lines)
set_off_bytes [] = refl
set_off_bytes (line ∷ lines) = sym (text_of_append (line ∷ lines) ([] ∷ []))

pub noted_bytes : (xs ys : List (List ℕ)) → text_of xs ++ (text_of ys ++ gap_after (xs ++ ys)) ≡ text_of (set_off (xs ++ ys))
noted_bytes xs ys =
    sym (append_assoc (text_of xs) (text_of ys) (gap_after (xs ++ ys)))
    ∙ ap (λ bs. bs ++ gap_after (xs ++ ys)) (sym (text_of_append xs ys))
    ∙ set_off_bytes (xs ++ ys)

-- ══ Successors that no line states ══

with_place_some : (places : List ℕ) (place : ℕ) → states_successors [] (with_place places place) ≡ true
with_place_some [] place = refl
with_place_some (p ∷ places) place = either (list_any (λ other. other == place) (p ∷ places))
  where
    either : (b : Bool) → states_successors [] (if b then p ∷ places else (p ∷ places) ++ (place ∷ [])) ≡ true
    either true = refl
    either false = refl

targets_some : (places : List ℕ) (xs : List Operand) → states_successors [] (with_targets places xs) ≡ (states_successors [] places || list_any is_target xs)
targets_some [] [] = refl
targets_some (p ∷ places) [] = refl
targets_some places (operand.Block place ∷ xs) =
    targets_some (with_place places place) xs
    ∙ ap (λ b. b || list_any is_target xs) (with_place_some places place)
    ∙ sym (or_right (states_successors [] places))
  where
    or_right : (b : Bool) → (b || true) ≡ true
    or_right true = refl
    or_right false = refl
targets_some places (x ∷ xs) = targets_some places xs

branch_some : (places : List ℕ) (i : ℕ × InstrData)
    → states_successors [] (if is_branch_op (i.1).op then with_targets places (i.1).operands else places) ≡ (states_successors [] places || has_target i)
branch_some places i = either (is_branch_op (i.1).op)
  where
    or_false : (b : Bool) → b ≡ (b || false)
    or_false true = refl
    or_false false = refl

    either : (b : Bool) → states_successors [] (if b then with_targets places (i.1).operands else places) ≡ (states_successors [] places || (b && list_any is_target (i.1).operands))
    either true = targets_some places (i.1).operands
    either false = or_false (states_successors [] places)

or_assoc : (a b c : Bool) → ((a || b) || c) ≡ (a || (b || c))
or_assoc true b c = refl
or_assoc false b c = refl

branches_some : (places : List ℕ) (is : List (ℕ × InstrData)) → states_successors [] (with_branches places is) ≡ (states_successors [] places || list_any has_target is)
branches_some [] [] = refl
branches_some (p ∷ places) [] = refl
branches_some places (i ∷ is) =
    branches_some (if is_branch_op (i.1).op then with_targets places (i.1).operands else places) is
    ∙ ap (λ b. b || list_any has_target is) (branch_some places i)
    ∙ or_assoc (states_successors [] places) (has_target i) (list_any has_target is)

pub implied_some : (place count : ℕ) (is : List (ℕ × InstrData))
    → states_successors [] (implied_successors place count is) ≡ ((falls_through is && not (place + 1 == count)) || list_any has_target is)
implied_some place count is =
    either (falls_through is && not (suc place == count))
    ∙ ap (λ n. (falls_through is && not (n == count)) || list_any has_target is) (sym (add-one place))
  where
    either : (b : Bool) → states_successors [] (if b then with_place (with_branches [] is) (suc place) else with_branches [] is) ≡ (b || list_any has_target is)
    either true = with_place_some (with_branches [] is) (suc place)
    either false = branches_some [] is

-- whether control goes past instructions, behind one of which it is known
abbrev pub falls_behind : Bool → List (ℕ × InstrData) → Bool
falls_behind goes [] = goes
falls_behind goes (i ∷ is) = falls_behind (not (is_unconditional_op (i.1).op)) is

pub falls_by_last : (is : List (ℕ × InstrData)) → falls_through is ≡ falls_behind true is
falls_by_last [] = refl
falls_by_last (i ∷ is) = one i is
  where
    one : (i : ℕ × InstrData) (is : List (ℕ × InstrData)) → falls_through (i ∷ is) ≡ falls_behind (not (is_unconditional_op (i.1).op)) is
    one i [] = refl
    one i (next ∷ more) = one next more

-- ══ Other numbers for registers ══

targets_renamed : (number : ℕ → ℕ) (places : List ℕ) (xs : List Operand) → with_targets places (map (renamed_operand number) xs) ≡ with_targets places xs
targets_renamed number places [] = refl
targets_renamed number places (operand.Block place ∷ xs) = targets_renamed number (with_place places place) xs
targets_renamed number places (operand.Def r k ∷ xs) = targets_renamed number places xs
targets_renamed number places (operand.Use r ∷ xs) = targets_renamed number places xs
targets_renamed number places (x ∷ xs) = targets_renamed number places xs

branches_renamed : (number : ℕ → ℕ) (places : List ℕ) (is : List (ℕ × InstrData)) → with_branches places (map (renamed_pair number) is) ≡ with_branches places is
branches_renamed number places [] = refl
branches_renamed number places (i ∷ is) =
    branches_renamed number (if is_branch_op (i.1).op then with_targets places (map (renamed_operand number) (i.1).operands) else places) is
    ∙ ap (λ ps. with_branches (if is_branch_op (i.1).op then ps else places) is) (targets_renamed number places (i.1).operands)

falls_renamed : (number : ℕ → ℕ) (is : List (ℕ × InstrData)) → falls_through (map (renamed_pair number) is) ≡ falls_through is
falls_renamed number [] = refl
falls_renamed number (i ∷ []) = refl
falls_renamed number (i ∷ next ∷ more) = falls_renamed number (next ∷ more)

pub implied_renamed : (number : ℕ → ℕ) (place count : ℕ) (is : List (ℕ × InstrData)) → implied_successors place count (map (renamed_pair number) is) ≡ implied_successors place count is
implied_renamed number place count is =
    ap₂ (λ b ps. if b && not (suc place == count) then with_place ps (suc place) else ps) (falls_renamed number is) (branches_renamed number [] is)

-- ══ A block ══

pub block_bytes : (kinds : ℕ → Kind) (names : List (List ℕ)) (place count : ℕ) (is_stated : Bool) (b : BlockData)
    → is_stated ≡ states_successors b.successors (implied_successors place count b.instrs)
    → (piece_bytes (Spaces 2 ∷ block_head_pieces place) ++ (10 ∷ []))
    ++ (text_of (set_off (successors_stated is_stated b.successors ++ liveins_lines b.liveins)) ++ text_of (instr_lines kinds names b.instrs))
    ≡ text_of (block_lines kinds names place count b)
block_bytes kinds names place count is_stated b h =
    append_assoc (piece_bytes (Spaces 2 ∷ block_head_pieces place)) (10 ∷ [])
    (text_of (set_off (successors_stated is_stated b.successors ++ liveins_lines b.liveins)) ++ text_of (instr_lines kinds names b.instrs))
    ∙ ap (λ bs. piece_bytes (Spaces 2 ∷ block_head_pieces place) ++ (10 ∷ bs))
    (sym (text_of_append (set_off (successors_stated is_stated b.successors ++ liveins_lines b.liveins)) (instr_lines kinds names b.instrs)))
    ∙ ap (λ s. text_of (piece_bytes (Spaces 2 ∷ block_head_pieces place) ∷ (set_off (successors_stated s b.successors ++ liveins_lines b.liveins) ++ instr_lines kinds names b.instrs))) h

pub liveins_bytes : (xs : List ℕ) → (length xs == 0) ≡ false → codes "    liveins:" ++ (piece_bytes (sources_pieces (physical_pieces xs)) ++ (10 ∷ [])) ≡ text_of (liveins_lines xs)
liveins_bytes [] h = cc
liveins_bytes (x ∷ xs) h = refl
