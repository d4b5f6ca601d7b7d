-- A result that is made is of the kind that it was.
use Rattle.std.proofs.Common.{◌≡◌, ℕ, ◌+◌, ◌≤◌, Bool, true, false, cond, ◌||◌, ◌==◌, List, [], ◌∷◌, Option, Some, None, inl, inr, ⊎_elim, refl, sym, ap, ◌∙◌, subst, true≢false, unwrap_or}
use Rattle.std.specs.List.{list_any}
use Rattle.gi_mir.specs.Data.{InstrData, FunctionData}
use Rattle.gi_mir.specs.Edit.{all_instrs, defines, is_def_of}
use Rattle.gi_mir.specs.Registers.{first_there, kind_in_operands, kind_in_instrs, kind_of}
use Rattle.gi_mir.specs.declared.operand.Kind.{Kind}
use Rattle.gi_mir.specs.declared.operand.Kind.TheVariants.{Class}
use Rattle.gi_mir.specs.declared.operand.Operand.{Operand}
use Rattle.gi_mir.specs.declared.operand.Operand.TheVariants as operand
use Rattle.gi_replace.specs.InPlace.{with_ids}
use Rattle.gi_valid.specs.Faults.{definitions, times}
use Rattle.gi_valid.proofs.Single.{one_definition}
use Rattle.gi_change_valid.specs.Rewriting.{IsOneOf}
use Rattle.gi_change_valid.proofs.Typed.{in_list, kind_in_all, no_kind}

-- ══ In what is made ══

-- the kind at the first definition of a register among instructions without ids
abbrev pub kind_among : ℕ → List InstrData → Option Kind
kind_among r [] = None
kind_among r (i ∷ is) = first_there (kind_in_operands r i.operands) (kind_among r is)

pub kind_of_ids : (r id : ℕ) (is : List InstrData) → kind_in_instrs r (with_ids id is) ≡ kind_among r is
kind_of_ids r id [] = refl
kind_of_ids r id (i ∷ is) = ap (first_there (kind_in_operands r i.operands)) (kind_of_ids r (id + 1) is)

-- ══ In the function ══

some_kind : (r : ℕ) (os : List Operand) (rest : Option Kind) → list_any (is_def_of r) os ≡ true → first_there (kind_in_operands r os) rest ≡ kind_in_operands r os
some_kind r [] rest h = cc
some_kind r (operand.Def q kind ∷ os) rest h = by (q.0 == r) h (λ l. some_kind r os rest l)
  where
    by : (t : Bool) → (t || list_any (is_def_of r) os) ≡ true → (list_any (is_def_of r) os ≡ true → first_there (kind_in_operands r os) rest ≡ kind_in_operands r os)
        → first_there (first_there (cond t (Some kind) None) (kind_in_operands r os)) rest ≡ first_there (cond t (Some kind) None) (kind_in_operands r os)
    by true h later = refl
    by false h later = later h
some_kind r (_ ∷ os) rest h = some_kind r os rest h

first_kind : (r : ℕ) (root : ℕ × InstrData) (is : List (ℕ × InstrData)) → ((p : ℕ × InstrData) → IsOneOf p is → defines r p ≡ true → p ≡ root) → IsOneOf root is → defines r root ≡ true → kind_in_instrs r is ≡ kind_in_operands r root.1.operands
first_kind r root [] own there defined = absurd there
first_kind r root (p ∷ is) own there defined = by (defines r p) refl (λ later. first_kind r root is (λ q inside d. own q (inr inside) d) later defined)
  where
    by : (t : Bool) → defines r p ≡ t → (IsOneOf root is → kind_in_instrs r is ≡ kind_in_operands r root.1.operands) → kind_in_instrs r (p ∷ is) ≡ kind_in_operands r root.1.operands
    by true so rest = some_kind r p.1.operands (kind_in_instrs r is) so ∙ ap (λ (q : ℕ × InstrData). kind_in_operands r q.1.operands) (own p (inl refl) so)
    by false so rest =
        ap (λ k. first_there k (kind_in_instrs r is)) (no_kind r p.1.operands so)
        ∙ ⊎_elim (λ same. absurd (true≢false (sym (subst (λ k. defines r k ≡ true) same defined) ∙ so))) (λ later. rest later) there

pub root_kind : (f : FunctionData) → ((r : ℕ) → times r (definitions (all_instrs f.blocks)) ≤ 1) → (root : ℕ × InstrData) → IsOneOf root (all_instrs f.blocks) → (r : ℕ) → defines r root ≡ true → kind_in_operands r root.1.operands ≡ Some (kind_of f r)
root_kind f once root there r defined =
    let first : kind_in_instrs r (all_instrs f.blocks) ≡ kind_in_operands r root.1.operands =
    first_kind r root (all_instrs f.blocks) (λ p inside d. one_definition r (all_instrs f.blocks) (once r) p root (in_list p (all_instrs f.blocks) inside) (in_list root (all_instrs f.blocks) there) d defined) there defined in
    is_some_kind r root.1.operands defined ∙ ap (λ o. Some (unwrap_or o Class)) (sym first ∙ sym (kind_in_all r f.blocks))
  where
    is_some_kind : (r : ℕ) (os : List Operand) → list_any (is_def_of r) os ≡ true → kind_in_operands r os ≡ Some (unwrap_or (kind_in_operands r os) Class)
    is_some_kind r [] h = cc
    is_some_kind r (operand.Def q kind ∷ os) h = by (q.0 == r) h (λ l. is_some_kind r os l)
      where
        by : (t : Bool) → (t || list_any (is_def_of r) os) ≡ true → (list_any (is_def_of r) os ≡ true → kind_in_operands r os ≡ Some (unwrap_or (kind_in_operands r os) Class))
            → first_there (cond t (Some kind) None) (kind_in_operands r os) ≡ Some (unwrap_or (first_there (cond t (Some kind) None) (kind_in_operands r os)) Class)
        by true h later = refl
        by false h later = later h
    is_some_kind r (_ ∷ os) h = is_some_kind r os h
