-- A valid function names no block that isn't there.
use Rattle.std.proofs.Common.{◌≡◌, ℕ, ◌+◌, Bool, true, false, not, ◌&&◌, cond, List, [], ◌∷◌, ◌++◌, Option, Some, None, length, refl, ap₂, ◌∙◌, sym}
use Rattle.std.specs.Prelude.{find, nat_lt, option_map}
use Rattle.std.specs.List.{list_all}
use Rattle.std.specs.Option.{option_or}
use Rattle.gi_mir.specs.Data.{InstrData, BlockData, FunctionData}
use Rattle.gi_mir.specs.declared.operand.Operand.{Operand}
use Rattle.gi_mir.specs.declared.operand.Operand.TheVariants as operand
use Rattle.gi_spelling.specs.There.{is_block_within, is_there_in, names_blocks_there, names_there}
use Rattle.gi_valid.specs.Available.{Extent}
use Rattle.gi_valid.specs.Faults.{Site, blocks_in, fault_in, last_line, not_available, others_in, phi_entries, physical_across, sites_from, sites_in, terminator, told, type_mismatch, unknown_among, unknown_block, unknown_successors}
use Rattle.gi_valid.specs.Typing.{Phase}
use Rattle.gi_valid.specs.Valid.{IsValid}
use Rattle.gi_valid.specs.declared.invalid.Invalid.{Invalid}
use Rattle.gi_valid.specs.declared.invalid.Invalid.TheVariants.{UnknownBlock}
use Rattle.gi_valid.proofs.Sited.{neither, nothing_in_either, nothing_in_front, told_append}
use Rattle.gi_valid.proofs.Valid.{missing}
use Rattle.gi_answer.specs.Validity.{AreValid}

-- ══ Lists of blocks ══

none_found : (f : FunctionData) (bs : List ℕ) → unknown_among f bs ≡ None → list_all (λ b. nat_lt b (length f.blocks)) bs ≡ true
none_found f [] h = refl
none_found f (b ∷ bs) h = by (nat_lt b (length f.blocks)) h (none_found f bs)
  where
    by : (t : Bool) → option_map UnknownBlock (cond (not t) (Some b) (find (λ c. not (nat_lt c (length f.blocks))) bs)) ≡ None
        → (unknown_among f bs ≡ None → list_all (λ c. nat_lt c (length f.blocks)) bs ≡ true)
        → (t && list_all (λ c. nat_lt c (length f.blocks)) bs) ≡ true
    by true h more = more h
    by false h more = cc

operands_there : (n : ℕ) (os : List Operand) → list_all (λ b. nat_lt b n) (blocks_in os) ≡ true → list_all (is_there_in n) os ≡ true
operands_there n [] h = refl
operands_there n (operand.Block b ∷ os) h = by (nat_lt b n) h (operands_there n os)
  where
    by : (t : Bool) → (t && list_all (λ c. nat_lt c n) (blocks_in os)) ≡ true → (list_all (λ c. nat_lt c n) (blocks_in os) ≡ true → list_all (is_there_in n) os ≡ true) → (t && list_all (is_there_in n) os) ≡ true
    by true h more = more h
    by false h more = cc
operands_there n (_ ∷ os) h = operands_there n os h

-- ══ Instructions ══

of_site : (x : ℕ) (phase : Phase) (f : FunctionData) (extents : ℕ → Extent) (site : Site) → fault_in x phase f extents site ≡ None → unknown_block f site ≡ None
of_site x phase f extents site h =
    let a : (not_available f extents site ≡ None) × (others_in x phase f site ≡ None) = neither (not_available f extents site) (others_in x phase f site) h in
    let b : Option Invalid = option_or (phi_entries f site) (option_or (physical_across x phase f site) (terminator f site)) in
    let c : (type_mismatch x phase f site ≡ None) × (option_or (unknown_block f site) b ≡ None) = neither (type_mismatch x phase f site) (option_or (unknown_block f site) b) a.1 in
    (neither (unknown_block f site) b c.1).0

instrs_there : (x : ℕ) (phase : Phase) (f : FunctionData) (extents : ℕ → Extent) (place : ℕ) (before is : List (ℕ × InstrData))
    → told (fault_in x phase f extents) (sites_in place before is) ≡ [] → list_all (names_there (length f.blocks)) is ≡ true
instrs_there x phase f extents place before [] h = refl
instrs_there x phase f extents place before (i ∷ is) h =
    let site : Site = record { block = place; before = before; instr = i.1; after = is } in
    let parts : (fault_in x phase f extents site ≡ None) × (told (fault_in x phase f extents) (sites_in place (before ++ i ∷ []) is) ≡ []) =
    nothing_in_front i.1.line (fault_in x phase f extents site) (told (fault_in x phase f extents) (sites_in place (before ++ i ∷ []) is)) h in
    ap₂ (λ a b. a && b) (operands_there (length f.blocks) i.1.operands (none_found f (blocks_in i.1.operands) (of_site x phase f extents site parts.0)))
    (instrs_there x phase f extents place (before ++ i ∷ []) is parts.1)

-- ══ Blocks ══

blocks_there : (x : ℕ) (phase : Phase) (f : FunctionData) (extents : ℕ → Extent) (place line : ℕ) (blocks : List BlockData)
    → told (fault_in x phase f extents) (sites_from place blocks) ≡ [] → unknown_successors f line blocks ≡ [] → list_all (is_block_within (length f.blocks)) blocks ≡ true
blocks_there x phase f extents place line [] h g = refl
blocks_there x phase f extents place line (block ∷ blocks) h g =
    let here : (told (fault_in x phase f extents) (sites_in place [] block.instrs) ≡ []) × (told (fault_in x phase f extents) (sites_from (place + 1) blocks) ≡ []) =
    nothing_in_either (told (fault_in x phase f extents) (sites_in place [] block.instrs)) (told (fault_in x phase f extents) (sites_from (place + 1) blocks))
    (sym (told_append (fault_in x phase f extents) (sites_in place [] block.instrs) (sites_from (place + 1) blocks)) ∙ h) in
    let last : ℕ = last_line line block.instrs in
    let listed : (unknown_among f block.successors ≡ None) × (unknown_successors f last blocks ≡ []) =
    nothing_in_front last (unknown_among f block.successors) (unknown_successors f last blocks) g in
    ap₂ (λ a b. a && b)
    (ap₂ (λ a b. a && b) (none_found f block.successors listed.0) (instrs_there x phase f extents place [] block.instrs here.0))
    (blocks_there x phase f extents (place + 1) last blocks here.1 listed.1)

valid_there : (x : ℕ) (phase : Phase) (f : FunctionData) → IsValid x phase f → names_blocks_there f ≡ true
valid_there x phase f valid =
    let none = missing x phase f valid.extents valid.faultless in
    blocks_there x phase f valid.extents 0 1 f.blocks none.sites none.successors

pub all_there : (x : ℕ) (phase : Phase) (functions : List FunctionData) → AreValid x phase functions → list_all names_blocks_there functions ≡ true
all_there x phase [] valid = refl
all_there x phase (f ∷ functions) valid = ap₂ (λ a b. a && b) (valid_there x phase f valid.0) (all_there x phase functions valid.1)
