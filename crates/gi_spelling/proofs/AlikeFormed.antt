-- Operands that rows take alike leave an instruction formed.
use mathlib.Core.Path.{fun_ext}
use Rattle.std.proofs.Common.{◌≡◌, ℕ, Bool, false, List, [], ◌∷◌, Option, Some, None, refl, ap₂}
use Rattle.std.specs.Prelude.{◌&&◌, if◌then◌else◌}
use Rattle.std.specs.List.{list_all, list_any, AllZip}
use Rattle.std.specs.Option.{option_map_or}
use Rattle.gi_mir.specs.declared.operand.MemOp.{MemOp}
use Rattle.gi_mir.specs.declared.operand.Operand.{Operand}
use Rattle.gi_mir.specs.declared.operand.Operand.TheVariants as operand
use Rattle.gi_mir.specs.declared.operand.SymbolFlag.{SymbolFlag}
use Rattle.gi_mir.specs.declared.operand.SymbolFlag.TheVariants as symbol_flag
use Rattle.gi_mir.specs.declared.row.Form.{Form}
use Rattle.gi_mir.specs.declared.row.Form.TheVariants as form
use Rattle.gi_mir.specs.Data.{InstrData}
use Rattle.gi_mir.specs.Formed.{admits, is_repeated, wanted_after, with_wanted, taken, fits, is_in_range, has_access, fits_one_of, is_formed}
use Rattle.gi_mir.specs.Renaming.{renamed_operand}
use Rattle.gi_mir.specs.Row.{rows_of, access_of}
use Rattle.gi_spelling.specs.Named.{IsNamedOperand}
use Rattle.gi_spelling.specs.Same.{IsSameOperand}

pub record IsAlike (a b : Operand) : Type 0 where
  pub admitted : (f : Form) → admits f b ≡ admits f a
  pub ranged : is_in_range b ≡ is_in_range a

taken_alike : (a b : Operand) → IsAlike a b → (fs : List Form) → taken b fs ≡ taken a fs
taken_alike a b alike [] = refl
taken_alike a b alike (f ∷ fs) =
    ap₂ (λ test later. if test then Some (with_wanted (wanted_after f) fs) else (if is_repeated f then later else None)) (alike.admitted f) (taken_alike a b alike fs)

fits_alike : (fs : List Form) (xs ys : List Operand) → AllZip IsAlike xs ys → fits fs ys ≡ fits fs xs
fits_alike fs [] [] all = refl
fits_alike fs [] (y ∷ ys) all = absurd all
fits_alike fs (x ∷ xs) [] all = absurd all
fits_alike fs (x ∷ xs) (y ∷ ys) all =
    ap₂ (λ (later : List Form → Bool) left. option_map_or later left false) (fun_ext (λ left. fits_alike left xs ys all.1)) (taken_alike x y all.0 fs)

ranges_alike : (xs ys : List Operand) → AllZip IsAlike xs ys → list_all is_in_range ys ≡ list_all is_in_range xs
ranges_alike [] [] all = refl
ranges_alike [] (y ∷ ys) all = absurd all
ranges_alike (x ∷ xs) [] all = absurd all
ranges_alike (x ∷ xs) (y ∷ ys) all = ap₂ (λ a b. a && b) (all.0).ranged (ranges_alike xs ys all.1)

pub formed_alike : (i j : InstrData) → j.op ≡ i.op → j.mem ≡ i.mem → AllZip IsAlike i.operands j.operands → is_formed j ≡ is_formed i
unfolding is_formed
formed_alike i j op memory operands =
    let rows : fits_one_of (rows_of j.op) j.operands ≡ fits_one_of (rows_of i.op) i.operands =
    ap₂ (λ op (test : List Form → Bool). list_any test (rows_of op)) op (fun_ext (λ forms. fits_alike forms i.operands j.operands operands)) in
    let access : has_access (access_of j.op) j.mem ≡ has_access (access_of i.op) i.mem = ap₂ (λ op (memory : Option MemOp). has_access (access_of op) memory) op memory in
    rw (rows, access, ranges_alike i.operands j.operands operands) refl

-- ══ What is alike ══

pub itself : (o : Operand) → IsAlike o o
itself o = record { admitted = λ f. refl; ranged = refl }

admits_global : (f : Form) (flag : SymbolFlag) (m n : ℕ) → admits f (operand.Global flag m) ≡ admits f (operand.Global flag n)
admits_global form.High symbol_flag.Plain m n = refl
admits_global form.High flag m n = refl
admits_global form.Low symbol_flag.Plain m n = refl
admits_global form.Low flag m n = refl
admits_global form.Global symbol_flag.Plain m n = refl
admits_global form.Global flag m n = refl
admits_global form.Callee symbol_flag.Plain m n = refl
admits_global form.Callee flag m n = refl
admits_global f flag m n = refl

pub globals_alike : (flag : SymbolFlag) (m n : ℕ) → IsAlike (operand.Global flag m) (operand.Global flag n)
globals_alike flag m n = record { admitted = λ f. admits_global f flag n m; ranged = refl }

pub named_alike : (text : List ℕ) (names : List (List ℕ)) (a b : Operand) → IsNamedOperand text names a b → IsAlike a b
named_alike text names (operand.Global flag place) b is = rw is.same (globals_alike flag place is.number)
named_alike text names (operand.Def r kind) b is = rw is (itself (operand.Def r kind))
named_alike text names a b is = rw is (itself a)

pub same_alike : (names others : List (List ℕ)) (a b : Operand) → IsSameOperand names others a b → IsAlike a b
same_alike names others (operand.Global flag number) b is = rw is.same (globals_alike flag number is.other_number)
same_alike names others (operand.Def r kind) b is = rw is (itself (operand.Def r kind))
same_alike names others a b is = rw is (itself a)

admits_renamed : (number : ℕ → ℕ) (f : Form) (o : Operand) → admits f (renamed_operand number o) ≡ admits f o
admits_renamed number form.Def (operand.Def r kind) = refl
admits_renamed number form.Def (operand.Use r) = refl
admits_renamed number form.Def o = refl
admits_renamed number f (operand.Def r kind) = refl
admits_renamed number f (operand.Use r) = refl
admits_renamed number f o = refl

range_renamed : (number : ℕ → ℕ) (o : Operand) → is_in_range (renamed_operand number o) ≡ is_in_range o
range_renamed number (operand.Def r kind) = refl
range_renamed number (operand.Use r) = refl
range_renamed number o = refl

pub renamed_alike : (number : ℕ → ℕ) (o : Operand) → IsAlike o (renamed_operand number o)
renamed_alike number o = record { admitted = λ f. admits_renamed number f o; ranged = range_renamed number o }
