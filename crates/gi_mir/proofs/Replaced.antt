-- Uses that are replaced: which instructions are formed, and what they mention.
use Rattle.std.proofs.Common.{◌≡◌, ◌≢◌, ℕ, Bool, true, false, ◌&&◌, ◌||◌, cond, List, [], ◌∷◌, Option, Some, None, refl, sym, ap, ap₂, ◌∙◌, arith, eqb-true}
use Rattle.std.specs.Prelude.{◌==◌, map}
use Rattle.std.specs.List.{list_all, list_any}
use Rattle.std.specs.Option.{option_map_or}
use Rattle.std.proofs.lemmas.Bool.{eqb-false}
use Rattle.std.proofs.lemmas.Bool.Decides.{nat_tests}
use Rattle.gi_mir.specs.declared.operand.Operand.{Operand}
use Rattle.gi_mir.specs.declared.operand.Operand.TheVariants.{Def, Use, Phys, PhysDef, ImplicitUse, ImplicitDef, Int, Constant, Block, Predicate, Frame, Global, Routine, SavedMask}
use Rattle.gi_mir.specs.declared.row.Form.{Form}
use Rattle.gi_mir.specs.declared.row.Form.TheVariants as form
use Rattle.gi_mir.specs.declared.operand.Reg.{Reg}
use Rattle.gi_mir.specs.Data.{InstrData}
use Rattle.gi_mir.specs.Row.{rows_of}
use Rattle.gi_mir.specs.Formed.{admits, taken, fits, is_in_range, is_formed}
use Rattle.gi_mir.specs.Edit.{is_use_of, uses}
use Rattle.gi_mir.specs.Mentions.{use_key, is_mention}
use Rattle.gi_mir.specs.Uses.{operand_replaced, instr_replaced, entry_replaced}

-- ---- which register is used isn't looked at

admits-Use : (r s : Reg) (f : Form) → admits f (Use s) ≡ admits f (Use r)
admits-Use r s form.Def = refl
admits-Use r s form.Use = refl
admits-Use r s form.TypedUse = refl
admits-Use r s form.Physical = refl
admits-Use r s form.PhysicalDef = refl
admits-Use r s form.Source = refl
admits-Use r s form.Address = refl
admits-Use r s form.Int = refl
admits-Use r s form.High = refl
admits-Use r s form.Low = refl
admits-Use r s form.Constant = refl
admits-Use r s form.Block = refl
admits-Use r s form.Predicate = refl
admits-Use r s form.Frame = refl
admits-Use r s form.Global = refl
admits-Use r s form.Callee = refl
admits-Use r s form.SavedMask = refl
admits-Use r s form.ImplicitUse = refl
admits-Use r s form.ImplicitDef = refl
admits-Use r s form.Results = refl
admits-Use r s form.Parts = refl
admits-Use r s form.Entry = refl
admits-Use r s form.EntryBlock = refl
admits-Use r s form.Implicits = refl
admits-Use r s form.ImplicitUses = refl

admits-replaced : (old new : ℕ) (f : Form) (x : Operand) → admits f (operand_replaced old new x) ≡ admits f x
admits-replaced old new f (Def r k) = refl
admits-replaced old new f (Use r) = admits-Use r (record { 0 = cond (r.0 == old) new r.0 }) f
admits-replaced old new f (Phys n) = refl
admits-replaced old new f (PhysDef n) = refl
admits-replaced old new f (ImplicitUse n) = refl
admits-replaced old new f (ImplicitDef n) = refl
admits-replaced old new f (Int n) = refl
admits-replaced old new f (Constant bits v) = refl
admits-replaced old new f (Block b) = refl
admits-replaced old new f (Predicate p) = refl
admits-replaced old new f (Frame n) = refl
admits-replaced old new f (Global flag g) = refl
admits-replaced old new f (Routine flag r) = refl
admits-replaced old new f SavedMask = refl

is_in_range-replaced : (old new : ℕ) (x : Operand) → is_in_range (operand_replaced old new x) ≡ is_in_range x
is_in_range-replaced old new (Def r k) = refl
is_in_range-replaced old new (Use r) = refl
is_in_range-replaced old new (Phys n) = refl
is_in_range-replaced old new (PhysDef n) = refl
is_in_range-replaced old new (ImplicitUse n) = refl
is_in_range-replaced old new (ImplicitDef n) = refl
is_in_range-replaced old new (Int n) = refl
is_in_range-replaced old new (Constant bits v) = refl
is_in_range-replaced old new (Block b) = refl
is_in_range-replaced old new (Predicate p) = refl
is_in_range-replaced old new (Frame n) = refl
is_in_range-replaced old new (Global flag g) = refl
is_in_range-replaced old new (Routine flag r) = refl
is_in_range-replaced old new SavedMask = refl

taken-replaced : (old new : ℕ) (x : Operand) (fs : List Form) → taken (operand_replaced old new x) fs ≡ taken x fs
taken-replaced old new x [] = refl
taken-replaced old new x (f ∷ fs) = rw (admits-replaced old new f x, taken-replaced old new x fs) refl

fits-replaced : (old new : ℕ) (xs : List Operand) (fs : List Form) → fits fs (map (operand_replaced old new) xs) ≡ fits fs xs
fits-replaced old new [] fs = refl
fits-replaced old new (x ∷ xs) fs = rw (taken-replaced old new x fs) (by (λ left. fits-replaced old new xs left) (taken x fs))
  where
    by : ((left : List Form) → fits left (map (operand_replaced old new) xs) ≡ fits left xs) → (o : Option (List Form)) → option_map_or (λ left. fits left (map (operand_replaced old new) xs)) o false ≡ option_map_or (λ left. fits left xs) o false
    by more None = refl
    by more (Some left) = more left

list_all-replaced : (old new : ℕ) (xs : List Operand) → list_all is_in_range (map (operand_replaced old new) xs) ≡ list_all is_in_range xs
list_all-replaced old new [] = refl
list_all-replaced old new (x ∷ xs) = rw (is_in_range-replaced old new x) (ap (λ b. is_in_range x && b) (list_all-replaced old new xs))

list_any-replaced : (old new : ℕ) (xs : List Operand) (rows : List (List Form)) → list_any (λ forms. fits forms (map (operand_replaced old new) xs)) rows ≡ list_any (λ forms. fits forms xs) rows
list_any-replaced old new xs [] = refl
list_any-replaced old new xs (row ∷ rows) = rw (fits-replaced old new xs row, list_any-replaced old new xs rows) refl

pub is_formed-replaced : (old new : ℕ) (i : InstrData) → is_formed (instr_replaced old new i) ≡ is_formed i
unfolding is_formed
is_formed-replaced old new i = rw (list_any-replaced old new i.operands (rows_of i.op), list_all-replaced old new i.operands) refl

-- ---- what the operands mention

-- the number of a register after
renumbered_cases : (old new r : ℕ) (P : ℕ → Type 0) → (r ≡ old → P new) → (r ≢ old → P r) → P (cond (r == old) new r)
renumbered_cases old new r P same apart = by (r == old) refl
  where
    by : (b : Bool) → (r == old) ≡ b → P (cond b new r)
    by true e = same (eqb-true r old e)
    by false e = apart (eqb-false r old e)

others_same : (old new key : ℕ) (x : Operand) → (use_key old == key) ≡ false → (use_key new == key) ≡ false → is_mention key (operand_replaced old new x) ≡ is_mention key x
others_same old new key (Use r) e u =
    renumbered_cases old new r.0 (λ n. (use_key n == key) ≡ (use_key r.0 == key)) (λ same. u ∙ sym (ap (λ n. use_key n == key) same ∙ e)) (λ apart. refl)
others_same old new key _ e u = refl

pub same_others : (old new key : ℕ) (xs : List Operand) → (use_key old == key) ≡ false → (use_key new == key) ≡ false → list_any (is_mention key) (map (operand_replaced old new) xs) ≡ list_any (is_mention key) xs
same_others old new key [] e u = refl
same_others old new key (x ∷ xs) e u =
    ap₂ (λ a b. a || b) (others_same old new key x e u) (same_others old new key xs e u)

-- where there is no use, nothing changes
operands_without : (old new : ℕ) (xs : List Operand) → list_any (is_use_of old) xs ≡ false → map (operand_replaced old new) xs ≡ xs
operands_without old new [] h = refl
operands_without old new (x ∷ xs) h = by x (is_use_of old x) refl h (operands_without old new xs)
  where
    one : (y : Operand) → is_use_of old y ≡ false → operand_replaced old new y ≡ y
    one (Use r) e = rw e refl
    one (Def r k) e = refl
    one _ e = refl

    by : (y : Operand) (b : Bool) → is_use_of old y ≡ b → (b || list_any (is_use_of old) xs) ≡ false → (list_any (is_use_of old) xs ≡ false → map (operand_replaced old new) xs ≡ xs) → operand_replaced old new y ∷ map (operand_replaced old new) xs ≡ y ∷ xs
    by y true e h more = cc
    by y false e h more = ap₂ (λ (a : Operand) (b : List Operand). a ∷ b) (one y e) (more h)

pub entry_replaced-without : (old new : ℕ) (p : ℕ × InstrData) → uses old p ≡ false → entry_replaced old new p ≡ p
entry_replaced-without old new p h = ap (λ (xs : List Operand). (p.0, record p.1 { operands = xs })) (operands_without old new p.1.operands h)

-- the register is used no more
pub uses-replaced : (old new : ℕ) (p : ℕ × InstrData) → old ≢ new → uses old (entry_replaced old new p) ≡ false
uses-replaced old new p apart = by p.1.operands
  where
    one : (x : Operand) → is_use_of old (operand_replaced old new x) ≡ false
    one (Use r) = renumbered_cases old new r.0 (λ n. (n == old) ≡ false) (λ same. apart_test) (λ ne. other r.0 ne)
      where
        apart_test : (new == old) ≡ false
        apart_test = grind (arith, nat_tests)

        other : (n : ℕ) → n ≢ old → (n == old) ≡ false
        other n ne = grind (arith, nat_tests)
    one (Def r k) = refl
    one _ = refl

    by : (xs : List Operand) → list_any (is_use_of old) (map (operand_replaced old new) xs) ≡ false
    by [] = refl
    by (x ∷ xs) = rw (one x) (by xs)
