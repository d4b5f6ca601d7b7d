-- Valid functions name no block that isn't there.
use Rattle.std.proofs.Common.{◌≡◌, ℕ, ◌+◌, Bool, true, false, ◌&&◌, List, [], ◌∷◌, ◌++◌, length, refl, ap₂, ◌∙◌, sym, nat_lt}
use Rattle.std.specs.List.{list_all}
use Rattle.gi_mir.specs.Data.{InstrData, BlockData, FunctionData}
use Rattle.gi_mir.specs.declared.operand.Operand.{Operand}
use Rattle.gi_mir.specs.declared.operand.Operand.TheVariants as operand
use Rattle.gi_spelling.specs.There.{is_block_within, is_there_in, names_blocks_there, names_there}
use Rattle.gi_valid.specs.Faults.{blocks_in, last_line, sites_from, sites_in, told, unknown_among, unknown_block, unknown_successors}
use Rattle.gi_valid.specs.Typing.{Phase}
use Rattle.gi_valid.specs.Valid.{IsValid}
use Rattle.gi_valid.proofs.Existing.{greatest_sets}
use Rattle.gi_valid.proofs.Greatest.{faultless_in_greatest}
use Rattle.gi_valid.proofs.Sited.{nothing_in_either, nothing_in_front, site_of, told_append}
use Rattle.gi_change_valid.proofs.Valid.{AreQuietAll, great_of, quiet_of}
use Rattle.gi_rule_begins.proofs.Defined.{blocks_there}

operands_there : (n : ℕ) (os : List Operand) → list_all (λ b. nat_lt b n) (blocks_in os) ≡ true → list_all (is_there_in n) os ≡ true
operands_there n [] h = refl
operands_there n (operand.Block b ∷ os) h = by (nat_lt b n) h (operands_there n os)
  where
    by : (t : Bool) → (t && list_all (λ c. nat_lt c n) (blocks_in os)) ≡ true → (list_all (λ c. nat_lt c n) (blocks_in os) ≡ true → list_all (is_there_in n) os ≡ true) → (t && list_all (is_there_in n) os) ≡ true
    by true h more = more h
    by false h more = cc
operands_there n (_ ∷ os) h = operands_there n os h

instrs_there : (f : FunctionData) (place : ℕ) (before is : List (ℕ × InstrData)) → told (unknown_block f) (sites_in place before is) ≡ [] → list_all (names_there (length f.blocks)) is ≡ true
instrs_there f place before [] h = refl
instrs_there f place before (i ∷ is) h =
    let parts = nothing_in_front i.1.line (unknown_block f (site_of place before i is)) (told (unknown_block f) (sites_in place (before ++ i ∷ []) is)) h in
    ap₂ (λ a b. a && b) (operands_there (length f.blocks) i.1.operands (blocks_there f (blocks_in i.1.operands) parts.0)) (instrs_there f place (before ++ i ∷ []) is parts.1)

all_there : (f : FunctionData) (place line : ℕ) (blocks : List BlockData) → told (unknown_block f) (sites_from place blocks) ≡ [] → unknown_successors f line blocks ≡ [] → list_all (is_block_within (length f.blocks)) blocks ≡ true
all_there f place line [] h g = refl
all_there f place line (block ∷ blocks) h g =
    let here = nothing_in_either (told (unknown_block f) (sites_in place [] block.instrs)) (told (unknown_block f) (sites_from (place + 1) blocks)) (sym (told_append (unknown_block f) (sites_in place [] block.instrs) (sites_from (place + 1) blocks)) ∙ h) in
    let last : ℕ = last_line line block.instrs in
    let listed = nothing_in_front last (unknown_among f block.successors) (unknown_successors f last blocks) g in
    ap₂ (λ a b. a && b) (ap₂ (λ a b. a && b) (blocks_there f block.successors listed.0) (instrs_there f place [] block.instrs here.0)) (all_there f (place + 1) last blocks here.1 listed.1)

pub valid_there : (x : ℕ) (phase : Phase) (f : FunctionData) → IsValid x phase f → names_blocks_there f ≡ true
valid_there x phase f valid =
    let quiet : AreQuietAll x phase f (great_of f) = quiet_of x phase f (great_of f) (faultless_in_greatest x phase f valid (great_of f) (λ r. (greatest_sets f r).is)) in all_there f 0 1 f.blocks quiet.unknown quiet.successors
