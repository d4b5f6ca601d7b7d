-- A definition's kind isn't looked at where an instruction is tested for being formed.
use Rattle.std.proofs.Common.{◌≡◌, ℕ, zero, suc, Bool, false, List, [], ◌∷◌, Option, Some, None, refl, ap, ◌&&◌}
use Rattle.std.specs.Prelude.{slice_get, slice_set, map, ◌||◌, ◌<◌, ◌/◌, nat_eq, nat_lt}
use Rattle.std.proofs.lemmas.Bool.Decides.{nat_tests}
use Rattle.std.proofs.Math.Nat.{div-lt_iff_lt-mul}
use Rattle.std.proofs.Common.{arith}
use Rattle.std.specs.List.{list_all, list_any}
use Rattle.std.specs.Option.{option_map_or}
use Rattle.gi_mir.specs.declared.operand.Kind.{Kind}
use Rattle.gi_mir.specs.declared.operand.Operand.{Operand}
use Rattle.gi_mir.specs.declared.operand.Operand.TheVariants.{Def, Use, Phys, PhysDef, ImplicitUse, ImplicitDef, Int, Constant, Block, Predicate, Frame, Global, Routine, SavedMask}
use Rattle.gi_mir.specs.declared.row.Form.{Form}
use Rattle.gi_mir.specs.declared.row.Form.TheVariants as form
use Rattle.gi_mir.specs.declared.operand.Reg.{Reg}
use Rattle.gi_mir.specs.Data.{InstrData}
use Rattle.gi_mir.specs.Row.{rows_of}
use Rattle.gi_mir.specs.Formed.{admits, taken, fits, is_in_range, is_formed}
use Rattle.gi_mir.specs.Edit.{changed_at, of_kind, with_kind}

admits-Def : (r : Reg) (old new : Kind) (f : Form) → admits f (Def r new) ≡ admits f (Def r old)
admits-Def r old new form.Def = refl
admits-Def r old new form.Use = refl
admits-Def r old new form.TypedUse = refl
admits-Def r old new form.Physical = refl
admits-Def r old new form.PhysicalDef = refl
admits-Def r old new form.Source = refl
admits-Def r old new form.Address = refl
admits-Def r old new form.Int = refl
admits-Def r old new form.High = refl
admits-Def r old new form.Low = refl
admits-Def r old new form.Constant = refl
admits-Def r old new form.Block = refl
admits-Def r old new form.Predicate = refl
admits-Def r old new form.Frame = refl
admits-Def r old new form.Global = refl
admits-Def r old new form.Callee = refl
admits-Def r old new form.SavedMask = refl
admits-Def r old new form.ImplicitUse = refl
admits-Def r old new form.ImplicitDef = refl
admits-Def r old new form.Results = refl
admits-Def r old new form.Parts = refl
admits-Def r old new form.Entry = refl
admits-Def r old new form.EntryBlock = refl
admits-Def r old new form.Implicits = refl
admits-Def r old new form.ImplicitUses = refl

admits-of_kind : (kind : Kind) (f : Form) (x : Operand) → admits f (of_kind kind x) ≡ admits f x
admits-of_kind kind f (Def r k) = admits-Def r k kind f
admits-of_kind kind f (Use r) = refl
admits-of_kind kind f (Phys n) = refl
admits-of_kind kind f (PhysDef n) = refl
admits-of_kind kind f (ImplicitUse n) = refl
admits-of_kind kind f (ImplicitDef n) = refl
admits-of_kind kind f (Int n) = refl
admits-of_kind kind f (Constant bits v) = refl
admits-of_kind kind f (Block b) = refl
admits-of_kind kind f (Predicate p) = refl
admits-of_kind kind f (Frame n) = refl
admits-of_kind kind f (Global flag g) = refl
admits-of_kind kind f (Routine flag r) = refl
admits-of_kind kind f SavedMask = refl

is_in_range-of_kind : (kind : Kind) (x : Operand) → is_in_range (of_kind kind x) ≡ is_in_range x
is_in_range-of_kind kind (Def r k) = refl
is_in_range-of_kind kind (Use r) = refl
is_in_range-of_kind kind (Phys n) = refl
is_in_range-of_kind kind (PhysDef n) = refl
is_in_range-of_kind kind (ImplicitUse n) = refl
is_in_range-of_kind kind (ImplicitDef n) = refl
is_in_range-of_kind kind (Int n) = refl
is_in_range-of_kind kind (Constant bits v) = refl
is_in_range-of_kind kind (Block b) = refl
is_in_range-of_kind kind (Predicate p) = refl
is_in_range-of_kind kind (Frame n) = refl
is_in_range-of_kind kind (Global flag g) = refl
is_in_range-of_kind kind (Routine flag r) = refl
is_in_range-of_kind kind SavedMask = refl

taken-of_kind : (kind : Kind) (x : Operand) (fs : List Form) → taken (of_kind kind x) fs ≡ taken x fs
taken-of_kind kind x [] = refl
taken-of_kind kind x (f ∷ fs) = rw (admits-of_kind kind f x, taken-of_kind kind x fs) refl

-- a change at a later place leaves the first element
pub changed_at-suc : {X : Type 0} (edit : X → X) (k : ℕ) (x : X) (xs : List X) → changed_at edit (suc k) (x ∷ xs) ≡ x ∷ changed_at edit k xs
changed_at-suc {X = X} edit k x xs = by (slice_get xs k)
  where
    by : (o : Option X) → option_map_or (λ y. x ∷ slice_set xs k (edit y)) o (x ∷ xs) ≡ x ∷ option_map_or (λ y. slice_set xs k (edit y)) o xs
    by None = refl
    by (Some y) = refl

fits-with_kind : (kind : Kind) (xs : List Operand) (k : ℕ) (fs : List Form) → fits fs (changed_at (of_kind kind) k xs) ≡ fits fs xs
fits-with_kind kind [] k fs = refl
fits-with_kind kind (x ∷ xs) zero fs = rw (taken-of_kind kind x fs) refl
fits-with_kind kind (x ∷ xs) (suc k) fs = rw (changed_at-suc (of_kind kind) k x xs) (by (λ left. fits-with_kind kind xs k left) (taken x fs))
  where
    by : ((left : List Form) → fits left (changed_at (of_kind kind) k xs) ≡ fits left xs) → (o : Option (List Form)) → option_map_or (λ left. fits left (changed_at (of_kind kind) k xs)) o false ≡ option_map_or (λ left. fits left xs) o false
    by more None = refl
    by more (Some left) = more left

list_all-with_kind : (kind : Kind) (xs : List Operand) (k : ℕ) → list_all is_in_range (changed_at (of_kind kind) k xs) ≡ list_all is_in_range xs
list_all-with_kind kind [] k = refl
list_all-with_kind kind (x ∷ xs) zero = rw (is_in_range-of_kind kind x) refl
list_all-with_kind kind (x ∷ xs) (suc k) = rw (changed_at-suc (of_kind kind) k x xs) (ap (λ b. is_in_range x && b) (list_all-with_kind kind xs k))

list_any-with_kind : (kind : Kind) (xs : List Operand) (k : ℕ) (rows : List (List Form)) → list_any (λ forms. fits forms (changed_at (of_kind kind) k xs)) rows ≡ list_any (λ forms. fits forms xs) rows
list_any-with_kind kind xs k [] = refl
list_any-with_kind kind xs k (row ∷ rows) = rw (fits-with_kind kind xs k row, list_any-with_kind kind xs k rows) refl

pub is_formed-with_kind : (i : InstrData) (k : ℕ) (kind : Kind) → is_formed (with_kind i k kind) ≡ is_formed i
unfolding is_formed
is_formed-with_kind i k kind = rw (list_any-with_kind kind i.operands k (rows_of i.op), list_all-with_kind kind i.operands k) refl

pub any_mapped : {X Y : Type 0} (p : Y → Bool) (f : X → Y) (xs : List X) → list_any p (map f xs) ≡ list_any (λ x. p (f x)) xs
any_mapped p f [] = refl
any_mapped p f (x ∷ xs) = ap (λ b. p (f x) || b) (any_mapped p f xs)

pub div_is_zero : (v d : ℕ) → 0 < d → nat_eq (v / d) 0 ≡ nat_lt v d
div_is_zero v d h =
    let below = div-lt_iff_lt-mul {k = d} {x = v} {y = 1} h in
    grind (arith, nat_tests, below.0, below.1)
