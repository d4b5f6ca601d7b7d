-- All instructions of a function after a rewriting, and what renaming leaves.
use Rattle.std.proofs.Common.{◌≡◌, ℕ, Bool, ◌||◌, List, [], ◌∷◌, ◌++◌, map, refl, sym, ap, ap₂, ◌∙◌}
use Rattle.std.specs.List.{list_any}
use Rattle.std.proofs.lemmas.Grind.{flat_map-append}
use Rattle.gi_mir.specs.Data.{InstrData, BlockData, FunctionData}
use Rattle.gi_mir.specs.Edit.{all_instrs, defines, is_def_of}
use Rattle.gi_mir.specs.declared.operand.Operand.{Operand}
use Rattle.gi_mir.specs.declared.operand.Operand.TheVariants as operand
use Rattle.gi_replace.specs.InPlace.{operand_renamed, entry_renamed}
use Rattle.gi_valid.specs.Definitions.{is_physical_def_of, is_physical_use_of, defines_physical, reads_physical}
use Rattle.gi_valid.specs.Faults.{blocks_in}
use Rattle.gi_meaning.specs.InRow.{results_in}
use Rattle.gi_change_valid.specs.Rewriting.{Rewriting, standing_for, rewritten, block_rewritten, IsRewritten}

all_rewritten : (w : Rewriting) (blocks : List BlockData) → all_instrs (map (block_rewritten w) blocks) ≡ rewritten w (all_instrs blocks)
all_rewritten w [] = refl
all_rewritten w (k ∷ blocks) = ap (λ l. rewritten w k.instrs ++ l) (all_rewritten w blocks) ∙ sym (flat_map-append (standing_for w) k.instrs (all_instrs blocks))

pub instrs_after : (w : Rewriting) (f g : FunctionData) → IsRewritten w f g → all_instrs g.blocks ≡ rewritten w (all_instrs f.blocks)
instrs_after w f g is = ap all_instrs is.blocks ∙ all_rewritten w f.blocks

pub rewritten_append : (w : Rewriting) (xs ys : List (ℕ × InstrData)) → rewritten w (xs ++ ys) ≡ rewritten w xs ++ rewritten w ys
rewritten_append w xs ys = flat_map-append (standing_for w) xs ys

-- ══ What renaming leaves ══

pub results_left : (rename : ℕ → ℕ) (os : List Operand) → results_in (map (operand_renamed rename) os) ≡ results_in os
results_left rename [] = refl
results_left rename (operand.Def r kind ∷ os) = ap (λ l. r.0 ∷ l) (results_left rename os)
results_left rename (_ ∷ os) = results_left rename os

pub blocks_left : (rename : ℕ → ℕ) (os : List Operand) → blocks_in (map (operand_renamed rename) os) ≡ blocks_in os
blocks_left rename [] = refl
blocks_left rename (operand.Block b ∷ os) = ap (λ l. b ∷ l) (blocks_left rename os)
blocks_left rename (_ ∷ os) = blocks_left rename os

-- a test of operands that looks at no use
pub any_left : (test : Operand → Bool) (rename : ℕ → ℕ) → ((o : Operand) → test (operand_renamed rename o) ≡ test o) → (os : List Operand) → list_any test (map (operand_renamed rename) os) ≡ list_any test os
any_left test rename same [] = refl
any_left test rename same (o ∷ os) = ap₂ (λ a b. a || b) (same o) (any_left test rename same os)

def_left : (r : ℕ) (rename : ℕ → ℕ) (o : Operand) → is_def_of r (operand_renamed rename o) ≡ is_def_of r o
def_left r rename (operand.Use q) = refl
def_left r rename (_) = refl

pub defines_left : (r : ℕ) (rename : ℕ → ℕ) (p : ℕ × InstrData) → defines r (entry_renamed rename p) ≡ defines r p
defines_left r rename p = any_left (is_def_of r) rename (def_left r rename) p.1.operands

physical_def_left : (n : ℕ) (rename : ℕ → ℕ) (o : Operand) → is_physical_def_of n (operand_renamed rename o) ≡ is_physical_def_of n o
physical_def_left n rename (operand.Use q) = refl
physical_def_left n rename (_) = refl

pub defines_physical_left : (n : ℕ) (rename : ℕ → ℕ) (p : ℕ × InstrData) → defines_physical n (entry_renamed rename p) ≡ defines_physical n p
defines_physical_left n rename p = any_left (is_physical_def_of n) rename (physical_def_left n rename) p.1.operands

physical_use_left : (n : ℕ) (rename : ℕ → ℕ) (o : Operand) → is_physical_use_of n (operand_renamed rename o) ≡ is_physical_use_of n o
physical_use_left n rename (operand.Use q) = refl
physical_use_left n rename (_) = refl

pub reads_physical_left : (n : ℕ) (rename : ℕ → ℕ) (p : ℕ × InstrData) → reads_physical n (entry_renamed rename p) ≡ reads_physical n p
reads_physical_left n rename p = any_left (is_physical_use_of n) rename (physical_use_left n rename) p.1.operands
