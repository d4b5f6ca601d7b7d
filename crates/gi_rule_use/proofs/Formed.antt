-- What a rewrite makes is formed: neither registers nor types of results are looked at.
use Rattle.std.proofs.Common.{◌≡◌, ℕ, ◌+◌, Bool, true, false, ◌&&◌, ◌||◌, List, [], ◌∷◌, ◌++◌, Option, Some, None, refl, ap₂, ◌∙◌, map}
use Rattle.std.specs.List.{list_all, list_any}
use Rattle.std.specs.Option.{option_map_or}
use Rattle.gi_llt.specs.declared.Llt.{Llt}
use Rattle.gi_mir.specs.Data.{FunctionData}
use Rattle.gi_mir.specs.Formed.{admits, fits, is_formed, is_in_range, taken}
use Rattle.gi_mir.specs.Row.{rows_of}
use Rattle.gi_mir.specs.declared.operand.Kind.{Kind}
use Rattle.gi_mir.specs.declared.operand.Kind.TheVariants.{Generic}
use Rattle.gi_mir.specs.declared.operand.Operand.{Operand}
use Rattle.gi_mir.specs.declared.operand.Operand.TheVariants as operand
use Rattle.gi_mir.specs.declared.operand.Reg.{Reg}
use Rattle.gi_mir.specs.declared.row.Form.{Form}
use Rattle.gi_mir.specs.declared.row.Form.TheVariants as form
use Rattle.gi_refine.specs.Lifting.{grown}
use Rattle.gi_rule_values.specs.Data.{OperationData}
use Rattle.gi_rule_values.specs.declared.rewrite.Slot.{Slot}
use Rattle.gi_rule_values.specs.declared.rewrite.Slot.TheVariants.{At, Stands}
use Rattle.gi_rule_valid.specs.Using.{UseData, all_instrs_for, defined_as, instr_for, made_of, next_behind, next_for, operand_for, place_for, registers_for, target_at}
use Rattle.gi_rule_use.specs.Making.{is_formed_operation, makes_formed}

-- ---- operands that differ in their registers and types

admits-Def : (r s : Reg) (k l : Kind) (f : Form) → admits f (operand.Def r k) ≡ admits f (operand.Def s l)
admits-Def r s k l form.Def = refl
admits-Def r s k l _ = refl

admits-Use : (r s : Reg) (f : Form) → admits f (operand.Use r) ≡ admits f (operand.Use s)
admits-Use r s form.Def = refl
admits-Use r s _ = refl

record IsLike (x y : Operand) : Type 0 where
  pub form : (f : Form) → admits f x ≡ admits f y
  pub range : is_in_range x ≡ is_in_range y

abbrev AreLike : List Operand → List Operand → Type 0
AreLike [] [] = Unit {0}
AreLike (x ∷ xs) (y ∷ ys) = IsLike x y × AreLike xs ys
AreLike _ _ = ⊥

taken-like : (x y : Operand) (fs : List Form) → IsLike x y → taken x fs ≡ taken y fs
taken-like x y [] h = refl
taken-like x y (f ∷ fs) h = rw (h.form f, taken-like x y fs h) refl

fits-like : (xs ys : List Operand) (fs : List Form) → AreLike xs ys → fits fs xs ≡ fits fs ys
fits-like [] [] fs h = refl
fits-like [] (y ∷ ys) fs h = absurd h
fits-like (x ∷ xs) [] fs h = absurd h
fits-like (x ∷ xs) (y ∷ ys) fs h = rw (taken-like x y fs h.0) (by (λ left. fits-like xs ys left h.1) (taken y fs))
  where
    by : ((left : List Form) → fits left xs ≡ fits left ys) → (o : Option (List Form)) → option_map_or (λ left. fits left xs) o false ≡ option_map_or (λ left. fits left ys) o false
    by more None = refl
    by more (Some left) = more left

range-like : (xs ys : List Operand) → AreLike xs ys → list_all is_in_range xs ≡ list_all is_in_range ys
range-like [] [] h = refl
range-like [] (y ∷ ys) h = absurd h
range-like (x ∷ xs) [] h = absurd h
range-like (x ∷ xs) (y ∷ ys) h = ap₂ (λ (a b : Bool). a && b) h.0.range (range-like xs ys h.1)

rows-like : (xs ys : List Operand) (rows : List (List Form)) → AreLike xs ys → list_any (λ forms. fits forms xs) rows ≡ list_any (λ forms. fits forms ys) rows
rows-like xs ys [] h = refl
rows-like xs ys (row ∷ rows) h = ap₂ (λ (a b : Bool). a || b) (fits-like xs ys row h) (rows-like xs ys rows h)

slots-like : (registers : List ℕ) (slots : List Slot) → AreLike (map (operand_for registers) slots) (map (operand_for []) slots)
slots-like registers [] = tt
slots-like registers (At place ∷ slots) = (record { form = admits-Use _ _; range = refl }, slots-like registers slots)
slots-like registers (Stands o ∷ slots) = (record { form = λ f. refl; range = refl }, slots-like registers slots)

results-like : (kind : Llt → Kind) (targets : List (ℕ × ℕ)) (place next : ℕ) (types : List Llt) (xs ys : List Operand) → AreLike xs ys
    → AreLike (defined_as kind (registers_for targets place next types) types ++ xs) (defined_as Generic (map (λ (ty : Llt). 0) types) types ++ ys)
results-like kind targets place next [] xs ys h = h
results-like kind targets place next (ty ∷ types) xs ys h = (
  record { form = admits-Def _ _ _ _; range = refl },
  results-like kind targets (place + 1) (next_behind (target_at targets place) next) types xs ys h,
)

-- ---- instructions

one-formed : (kind : Llt → Kind) (targets : List (ℕ × ℕ)) (registers : List ℕ) (place next : ℕ) (o : OperationData) (line : ℕ)
    → is_formed (instr_for kind registers (registers_for targets place next o.types) o line) ≡ is_formed_operation o
unfolding is_formed
one-formed kind targets registers place next o line =
    let like = results-like kind targets place next o.types (map (operand_for registers) o.slots) (map (operand_for []) o.slots) (slots-like registers o.slots) in
    rw (rows-like _ _ (rows_of o.op) like, range-like _ _ like) refl

first-of : (a b : Bool) → (a && b) ≡ true → a ≡ true
first-of true b h = refl
first-of false b h = h

rest-of : (a b : Bool) → (a && b) ≡ true → b ≡ true
rest-of true b h = h
rest-of false b h = cc

all-formed : (kind : Llt → Kind) (line : ℕ) (targets : List (ℕ × ℕ)) (registers : List ℕ) (place next : ℕ) (os : List OperationData) → list_all is_formed_operation os ≡ true
    → list_all is_formed (all_instrs_for kind line targets registers place next os) ≡ true
all-formed kind line targets registers place next [] h = refl
all-formed kind line targets registers place next (o ∷ os) h = ap₂
    (λ (a b : Bool). a && b)
    (one-formed kind targets registers place next o line ∙ first-of (is_formed_operation o) (list_all is_formed_operation os) h)
    (all-formed kind line targets (grown registers (registers_for targets place next o.types)) (place_for place o.types) (next_for targets place next o.types) os
    (rest-of (is_formed_operation o) (list_all is_formed_operation os) h))

pub made_formed : (f : FunctionData) (id : ℕ) (u : UseData) → makes_formed u.rewrite ≡ true → list_all is_formed (made_of f id u) ≡ true
made_formed f id u h = all-formed _ _ _ _ _ _ u.rewrite.made h
