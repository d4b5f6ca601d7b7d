-- A dead instruction of a valid function, and the function without it.
use Rattle.std.proofs.Common.{◌≡◌, ℕ, Bool, true, false, not, ◌&&◌, ◌==◌, List, [], ◌∷◌, Option, Some, None, ⊎_elim, refl, sym, ap, ◌∙◌, subst, true≢false}
use Rattle.std.proofs.lemmas.Bool.{and_parts, or_cases, or_from, or_left, or_parts, or_right, eq-eqb, eqb-true, false_from_ne_true, not-true}
use Rattle.std.specs.List.{list_all, list_any}
use Rattle.std.specs.Option.{option_map_or}
use Rattle.gi_mir.specs.Data.{InstrData, FunctionData}
use Rattle.gi_mir.specs.Edit.{IsLive, all_instrs, defines, instr_of, is_def_of, is_use_of, uses, without_instr}
use Rattle.gi_mir.specs.Ids.{AreOwnIds}
use Rattle.gi_mir.specs.Formed.{is_def, is_implicit_def, is_physical_def}
use Rattle.gi_mir.specs.Registers.{kind_of}
use Rattle.gi_mir.specs.Row.{is_call_op}
use Rattle.gi_mir.specs.declared.operand.Operand.{Operand}
use Rattle.gi_mir.specs.declared.operand.Operand.TheVariants as operand
use Rattle.gi_meaning.specs.InRow.{results_in}
use Rattle.gi_meaning.specs.Meaning.{meaning_of}
use Rattle.gi_refine.specs.Replacing.{touches}
use Rattle.gi_valid.specs.Definitions.{defines_any_physical, defines_physical, is_erasable, is_physical_def_of}
use Rattle.gi_valid.specs.Typing.{Phase}
use Rattle.gi_valid.specs.Valid.{IsValid}
use Rattle.gi_valid.proofs.Single.{one_definition}
use Rattle.gi_change_valid.specs.Rewriting.{IsOneOf, IsRewritten, Rewriting}
use Rattle.gi_change_valid.proofs.Circles.{IsKnown}
use Rattle.gi_change_valid.proofs.Computed.{any_one}
use Rattle.gi_change_valid.proofs.Typed.{in_list, kind_kept, other_alike}
use Rattle.gi_change_valid.proofs.Valid.{great_of, known_of}
use Rattle.gi_rule_valid.proofs.InPlace.{is_replaced_by, replacing}
use Rattle.gi_rule_refines.specs.Dead.{can_go, is_dead, is_unused, only_gives}
use Rattle.gi_rule_refines.specs.Good.{IsGood}

-- ══ The instruction ══

pub record IsErased (x : ℕ) (phase : Phase) (f : FunctionData) (id : ℕ) : Type 0 where
  pub valid : IsValid x phase f
  pub own : AreOwnIds f.blocks f.next_id
  pub live : IsLive f id
  pub root : InstrData
  pub found : instr_of f id ≡ Some root
  pub erasable : is_erasable root ≡ true
  pub gives : only_gives (meaning_of root.flags root.op) ≡ true
  pub unused : is_unused f root ≡ true

pub erased_of : (x : ℕ) (phase : Phase) (names : List (List ℕ)) (f : FunctionData) (id : ℕ) → IsGood x phase names f → IsLive f id → is_dead f id ≡ true → IsErased x phase f id
erased_of x phase names f id good live dead = by (instr_of f id) refl dead
  where
    by : (o : Option InstrData) → instr_of f id ≡ o → option_map_or (λ i. can_go i && is_unused f i) o false ≡ true → IsErased x phase f id
    by None so h = cc
    by (Some root) so h =
        let both = and_parts (can_go root) (is_unused f root) h in
        let goes = and_parts (is_erasable root) (only_gives (meaning_of root.flags root.op)) both.0 in
        record { valid = good.valid; own = good.own; live = live; root = root; found = so; erasable = goes.0; gives = goes.1; unused = both.1 }

-- the rewriting that makes nothing in its place
abbrev pub erasing : (f : FunctionData) (id : ℕ) (root : InstrData) → Rewriting
erasing f id root = replacing id root [] f

pub erased : (x : ℕ) (phase : Phase) (f : FunctionData) (id : ℕ) → (c : IsErased x phase f id) → IsRewritten (erasing f id c.root) f (without_instr f id)
erased x phase f id c = is_replaced_by f id c.root [] c.own c.live c.found

-- ══ The registers that it defines ══

-- what passes for all results passes for one
one_passes : (test : ℕ → Bool) (r : ℕ) (os : List Operand) → list_any (is_def_of r) os ≡ true → list_all test (results_in os) ≡ true → test r ≡ true
one_passes test r [] own all = cc
one_passes test r (operand.Def q kind ∷ os) own all =
    let each = and_parts (test q.0) (list_all test (results_in os)) all in
    ⊎_elim (λ same. subst (λ k. test k ≡ true) (eqb-true q.0 r same) each.0) (λ later. one_passes test r os later each.1) (or_cases (q.0 == r) (list_any (is_def_of r) os) own)
one_passes test r (_ ∷ os) own all = one_passes test r os own all

-- the erased instruction defines it
abbrev pub is_gone : (root : InstrData) → ℕ → Bool
is_gone root r = list_any (is_def_of r) root.operands

pub gone_unused : (x : ℕ) (phase : Phase) (f : FunctionData) (id : ℕ) → (c : IsErased x phase f id) → (r : ℕ) → is_gone c.root r ≡ true → list_any (uses r) (all_instrs f.blocks) ≡ false
gone_unused x phase f id c r own = not-true (list_any (uses r) (all_instrs f.blocks)) (one_passes (λ q. not (list_any (uses q) (all_instrs f.blocks))) r c.root.operands own c.unused)

-- an instruction of the function uses none
pub used_stays : (x : ℕ) (phase : Phase) (f : FunctionData) (id : ℕ) → (c : IsErased x phase f id) → (p : ℕ × InstrData) → IsOneOf p (all_instrs f.blocks) → (r : ℕ) → uses r p ≡ true → is_gone c.root r ≡ false
used_stays x phase f id c p there r used = false_from_ne_true (is_gone c.root r) (λ own. true≢false (sym (any_one (uses r) p (all_instrs f.blocks) there used) ∙ gone_unused x phase f id c r own))

-- and another than the erased one defines none
pub defined_stays : (x : ℕ) (phase : Phase) (f : FunctionData) (id : ℕ) → (c : IsErased x phase f id) → (p : ℕ × InstrData) → IsOneOf p (all_instrs f.blocks) → (p.0 == id) ≡ false → (r : ℕ) → defines r p ≡ true → is_gone c.root r ≡ false
defined_stays x phase f id c p there other r own =
    false_from_ne_true (is_gone c.root r) (λ gone.
    let known : IsKnown f (great_of f) = known_of x phase f c.valid in
    let is = erased x phase f id c in
    let same : p ≡ (id, c.root) = one_definition r (all_instrs f.blocks) (known.once r) p (id, c.root) (in_list p (all_instrs f.blocks) there) (in_list (id, c.root) (all_instrs f.blocks) is.there) own gone in
    true≢false (sym (eq-eqb p.0 id (ap (λ (q : ℕ × InstrData). q.0) same)) ∙ other))

-- so it touches none
pub untouched : (hidden : ℕ → Bool) (os : List Operand) → ((r : ℕ) → list_any (is_def_of r) os ≡ true → hidden r ≡ false) → ((r : ℕ) → list_any (is_use_of r) os ≡ true → hidden r ≡ false) → touches hidden (λ q. q) os ≡ false
untouched hidden [] defined used = refl
untouched hidden (operand.Def q kind ∷ os) defined used =
    or_from (hidden q.0) (touches hidden (λ r. r) os) (defined q.0 (or_left (q.0 == q.0) (list_any (is_def_of q.0) os) (eq-eqb q.0 q.0 refl)))
    (untouched hidden os (λ r there. defined r (or_right (q.0 == r) (list_any (is_def_of r) os) there)) used)
untouched hidden (operand.Use q ∷ os) defined used =
    or_from (hidden q.0) (touches hidden (λ r. r) os) (used q.0 (or_left (q.0 == q.0) (list_any (is_use_of q.0) os) (eq-eqb q.0 q.0 refl)))
    (untouched hidden os defined (λ r there. used r (or_right (q.0 == r) (list_any (is_use_of r) os) there)))
untouched hidden (_ ∷ os) defined used = untouched hidden os defined used

-- the others keep their kinds
pub kind_stays : (x : ℕ) (phase : Phase) (f : FunctionData) (id : ℕ) → (c : IsErased x phase f id) → (r : ℕ) → is_gone c.root r ≡ false → kind_of (without_instr f id) r ≡ kind_of f r
kind_stays x phase f id c r stays = kind_kept (erasing f id c.root) f (without_instr f id) (erased x phase f id c) r (other_alike (erasing f id c.root) r stays refl)

-- ══ Physical registers ══

-- it defines none, explicitly or implicitly
pub record DefinesNone (root : InstrData) : Type 0 where
  pub shown : list_any is_physical_def root.operands ≡ false
  pub implicit : list_any is_implicit_def root.operands ≡ false

pub defines_none : (root : InstrData) → is_erasable root ≡ true → DefinesNone root
defines_none root h =
    let first = and_parts (list_any is_def root.operands && not (defines_any_physical root)) (not (is_call_op root.op)) h in
    let second = and_parts (list_any is_def root.operands) (not (defines_any_physical root)) first.0 in
    let none = or_parts (list_any is_physical_def root.operands) (list_any is_implicit_def root.operands) (not-true (defines_any_physical root) second.1) in
    record { shown = none.0; implicit = none.1 }

none_physical : (n : ℕ) (os : List Operand) → list_any is_physical_def os ≡ false → list_any is_implicit_def os ≡ false → list_any (is_physical_def_of n) os ≡ false
none_physical n [] shown implicit = refl
none_physical n (operand.PhysDef m ∷ os) shown implicit = cc
none_physical n (operand.ImplicitDef m ∷ os) shown implicit = cc
none_physical n (_ ∷ os) shown implicit = none_physical n os shown implicit

pub gone_defines_none : (x : ℕ) (phase : Phase) (f : FunctionData) (id : ℕ) → (c : IsErased x phase f id) → (n : ℕ) → defines_physical n (id, c.root) ≡ false
gone_defines_none x phase f id c n = let none = defines_none c.root c.erasable in none_physical n c.root.operands none.shown none.implicit
