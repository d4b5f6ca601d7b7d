-- All greatest sets tell one fault.
use Rattle.std.proofs.Common.{◌≡◌, ℕ, ◌+◌, ◌<◌, Bool, true, false, cond, not, ◌||◌, nat_lt, List, [], ◌∷◌, ◌++◌, Option, Some, None, find, length, option_map, refl, sym, ap, ap₂, ◌∙◌, arith}
use Rattle.std.specs.Option.{option_or}
use Rattle.std.proofs.lemmas.Bool.{ltb-true}
use Rattle.std.proofs.lemmas.Option.{same_Some}
use Rattle.gi_mir.specs.Data.{InstrData, BlockData, FunctionData, reg_of}
use Rattle.gi_mir.specs.Places.{body_at}
use Rattle.gi_mir.specs.declared.operand.Operand.{Operand}
use Rattle.gi_mir.specs.declared.operand.Operand.TheVariants as operand
use Rattle.gi_meaning.specs.Runs.{is_phi, entry_of}
use Rattle.gi_valid.specs.Available.{Extent, at_end}
use Rattle.gi_valid.specs.Faults.{Site, sites_in, sites_from, told, fault_in, with_fault, faults, is_there, missing_entry, missing_entries, others_in, unknown_successors, double_definitions}
use Rattle.gi_valid.specs.Typing.{Phase}
use Rattle.gi_valid.specs.Valid.{IsGreatest, IsInvalid, of_lowest_line}
use Rattle.gi_valid.specs.declared.invalid.Fault.{Fault}
use Rattle.gi_valid.specs.declared.invalid.Invalid.TheVariants.{NotAvailable}
use Rattle.gi_valid.proofs.Sited.{told_append}
use Rattle.gi_verify.proofs.Growing.{same_sets}

-- two families of greatest sets of a function
record AreGreatest (f : FunctionData) (e g : ℕ → Extent) : Type 0 where
  one : (r : ℕ) → IsGreatest f r (e r)
  other : (r : ℕ) → IsGreatest f r (g r)

same_there : (f : FunctionData) (e g : ℕ → Extent) → AreGreatest f e g → (site : Site) → site.block < length f.blocks → (o : Operand) → is_there f e site o ≡ is_there f g site o
same_there f e g are site within (operand.Use r) = same_sets f r.0 (e r.0) (g r.0) (are.one r.0) (are.other r.0) site.block within site.before
same_there f e g are site within _ = refl

same_find : (p q : Operand → Bool) → ((o : Operand) → p o ≡ q o) → (os : List Operand) → find p os ≡ find q os
same_find p q h [] = refl
same_find p q h (o ∷ os) = ap (λ t. cond t (Some o) (find p os)) (h o) ∙ ap (λ l. cond (q o) (Some o) l) (same_find p q h os)

same_entry : (f : FunctionData) (e g : ℕ → Extent) → AreGreatest f e g → (entry : Option (ℕ × ℕ)) → missing_entry f e entry ≡ missing_entry f g entry
same_entry f e g are None = refl
same_entry f e g are (Some n) = ap (λ t. cond t None (Some (NotAvailable (operand.Use (reg_of n.0))))) (by (nat_lt n.1 (length f.blocks)) refl)
  where
    by : (t : Bool) → nat_lt n.1 (length f.blocks) ≡ t → (not t || at_end f n.0 (e n.0) n.1) ≡ (not t || at_end f n.0 (g n.0) n.1)
    by true is = same_sets f n.0 (e n.0) (g n.0) (are.one n.0) (are.other n.0) n.1 (ltb-true n.1 (length f.blocks) is) (body_at f.blocks n.1).instrs
    by false is = refl

same_entries : (f : FunctionData) (e g : ℕ → Extent) → AreGreatest f e g → (os : List Operand) → missing_entries f e os ≡ missing_entries f g os
same_entries f e g are [] = refl
same_entries f e g are (o ∷ os) = ap₂ option_or (same_entry f e g are (entry_of (o ∷ os))) (same_entries f e g are os)

same_fault : (x : ℕ) (phase : Phase) (f : FunctionData) (e g : ℕ → Extent) → AreGreatest f e g → (site : Site) → site.block < length f.blocks → fault_in x phase f e site ≡ fault_in x phase f g site
same_fault x phase f e g are site within =
    ap (λ o. option_or o (others_in x phase f site))
    (ap₂ (λ a b. cond (is_phi site.instr) a b) (same_entries f e g are site.instr.operands)
    (ap (option_map NotAvailable) (same_find (λ o. not (is_there f e site o)) (λ o. not (is_there f g site o)) (λ o. ap not (same_there f e g are site within o)) site.instr.operands)))

same_told_in : (x : ℕ) (phase : Phase) (f : FunctionData) (e g : ℕ → Extent) → AreGreatest f e g → (b : ℕ) → b < length f.blocks → (before is : List (ℕ × InstrData))
    → told (fault_in x phase f e) (sites_in b before is) ≡ told (fault_in x phase f g) (sites_in b before is)
same_told_in x phase f e g are b within before [] = refl
same_told_in x phase f e g are b within before (i ∷ is) =
    ap₂ (with_fault i.1.line) (same_fault x phase f e g are (record { block = b; before = before; instr = i.1; after = is }) within) (same_told_in x phase f e g are b within (before ++ i ∷ []) is)

same_told_from : (x : ℕ) (phase : Phase) (f : FunctionData) (e g : ℕ → Extent) → AreGreatest f e g → (place : ℕ) (blocks : List BlockData) → place + length blocks ≡ length f.blocks
    → told (fault_in x phase f e) (sites_from place blocks) ≡ told (fault_in x phase f g) (sites_from place blocks)
same_told_from x phase f e g are place [] h = refl
same_told_from x phase f e g are place (k ∷ ks) h =
    let within : place < length f.blocks = omega (arith, h) in
    let next : place + 1 + length ks ≡ length f.blocks = omega (arith, h) in
    told_append (fault_in x phase f e) (sites_in place [] k.instrs) (sites_from (place + 1) ks)
    ∙ ap₂ ◌++◌ (same_told_in x phase f e g are place within [] k.instrs) (same_told_from x phase f e g are (place + 1) ks next)
    ∙ sym (told_append (fault_in x phase f g) (sites_in place [] k.instrs) (sites_from (place + 1) ks))

same_faults : (x : ℕ) (phase : Phase) (f : FunctionData) (e g : ℕ → Extent) → AreGreatest f e g → faults x phase f e ≡ faults x phase f g
same_faults x phase f e g are =
    let all : 0 + length f.blocks ≡ length f.blocks = omega arith in
    ap (λ l. double_definitions f ++ l ++ unknown_successors f 1 f.blocks) (same_told_from x phase f e g are 0 f.blocks all)

pub one_is_told : (x : ℕ) (phase : Phase) (f : FunctionData) (one other : Fault) → IsInvalid x phase f one → IsInvalid x phase f other → one ≡ other
one_is_told x phase f one other first second =
    same_Some one other
    (sym first.told ∙ ap of_lowest_line (same_faults x phase f first.extents second.extents (record { one = λ r. first.greatest r; other = λ r. second.greatest r })) ∙ second.told)
