-- Functions whose instructions all stand in their rows: to look at rows changes nothing, and so a refinement is one of runs
-- that look at them.
use Rattle.std.proofs.Common.{◌≡◌, ℕ, Bool, true, cond, List, [], ◌∷◌, map, inl, inr, ⊎_elim, refl, sym, ap, ap₂, subst, None}
use Rattle.std.specs.List.{list_all}
use Rattle.std.proofs.lemmas.Bool.{and_parts}
use Rattle.gi_llt.specs.declared.Llt.{Llt}
use Rattle.gi_mir.specs.Data.{InstrData, BlockData, FunctionData}
use Rattle.gi_meaning.specs.InRow.{type_in, is_in_row, nowhere, checked_pair, checked_block, checked_blocks, are_in_rows}
use Rattle.gi_meaning.specs.Runs.{setting_of, Enters, Runs, RunsUnchecked, Allows}
use Rattle.gi_meaning.specs.State.{World, IsWorld, Outcome, Undefined, start}
use Rattle.gi_refine.specs.Refinement.{RefinesUnchecked}
use Rattle.gi_refine.proofs.UndefinedRuns.{may_from_undefined}

instr_stays : (i : InstrData) (b : Bool) → b ≡ true → cond b i (nowhere i) ≡ i
instr_stays i b is = ap (λ t. cond t i (nowhere i)) is

instrs_stay : (x : ℕ) (type : ℕ → Llt) (is : List (ℕ × InstrData)) → list_all (λ i. is_in_row x type i.1) is ≡ true → map (checked_pair x type) is ≡ is
instrs_stay x type [] h = refl
instrs_stay x type (i ∷ is) h =
    let parts : (is_in_row x type i.1 ≡ true) × (list_all (λ i. is_in_row x type i.1) is ≡ true) = and_parts (is_in_row x type i.1) (list_all (λ i. is_in_row x type i.1) is) h in
    ap₂ (λ (d : InstrData) (ds : List (ℕ × InstrData)). (i.0, d) ∷ ds) (instr_stays i.1 (is_in_row x type i.1) parts.0) (instrs_stay x type is parts.1)

blocks_stay : (x : ℕ) (type : ℕ → Llt) (blocks : List BlockData) → list_all (λ block. list_all (λ i. is_in_row x type i.1) block.instrs) blocks ≡ true → map (checked_block x type) blocks ≡ blocks
blocks_stay x type [] h = refl
blocks_stay x type (block ∷ blocks) h =
    let parts : (list_all (λ i. is_in_row x type i.1) block.instrs ≡ true) × (list_all (λ (block : BlockData). list_all (λ i. is_in_row x type i.1) block.instrs) blocks ≡ true) =
    and_parts (list_all (λ i. is_in_row x type i.1) block.instrs) (list_all (λ (block : BlockData). list_all (λ i. is_in_row x type i.1) block.instrs) blocks) h in
    ap₂ (λ (is : List (ℕ × InstrData)) (bs : List BlockData). (record block { instrs = is }) ∷ bs) (instrs_stay x type block.instrs parts.0) (blocks_stay x type blocks parts.1)

checked_stay : (x : ℕ) (f : FunctionData) → are_in_rows x f ≡ true → checked_blocks x f ≡ f.blocks
checked_stay x f h = blocks_stay x (type_in x f) f.blocks h

-- the runs that look at rows are those that don't
pub unchecked : (x : ℕ) (names : List (List ℕ)) (f : FunctionData) → are_in_rows x f ≡ true → (w : World) (n : ℕ) (outcome : Outcome) → Runs x names f w n outcome → RunsUnchecked x names f w n outcome
unchecked x names f h w n outcome run = subst (λ blocks. Enters (setting_of x names f) w blocks n None 0 (start w) outcome) (checked_stay x f h) run

pub checked : (x : ℕ) (names : List (List ℕ)) (f : FunctionData) → are_in_rows x f ≡ true → (w : World) (n : ℕ) (outcome : Outcome) → RunsUnchecked x names f w n outcome → Runs x names f w n outcome
checked x names f h w n outcome run = subst (λ blocks. Enters (setting_of x names f) w blocks n None 0 (start w) outcome) (sym (checked_stay x f h)) run

pub allowed_in_rows : (x : ℕ) (names : List (List ℕ)) (f g : FunctionData) → are_in_rows x f ≡ true → are_in_rows x g ≡ true → RefinesUnchecked x names f g
    → (w : World) → IsWorld x w → (n : ℕ) (outcome : Outcome) → Runs x names g w n outcome → Allows x names f w n outcome
allowed_in_rows x names f g old new refines w is_world n outcome run = ⊎_elim
    (λ ran. inl (checked x names f old w n outcome ran))
    (λ undefined. inr (may_from_undefined x names f w n (checked x names f old w n Undefined undefined)))
    (refines.runs w is_world n outcome (unchecked x names g new w n outcome run))
