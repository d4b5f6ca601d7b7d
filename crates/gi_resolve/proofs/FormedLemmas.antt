-- An instruction is formed whatever numbers its globals have.
use Rattle.std.proofs.Common.{◌≡◌, ℕ, false, List, [], ◌∷◌, Option, Some, None, refl, sym, ap, ◌∙◌}
use Rattle.std.specs.List.{AllZip, list_all}
use Rattle.std.specs.Option.{option_map_or}
use Rattle.gi_mir.specs.Data.{InstrData}
use Rattle.gi_mir.specs.Formed.{admits, taken, fits, fits_one_of, is_in_range, is_formed}
use Rattle.gi_mir.specs.Row.{rows_of}
use Rattle.gi_mir.specs.declared.operand.Operand.{Operand}
use Rattle.gi_mir.specs.declared.operand.Operand.TheVariants as operand
use Rattle.gi_mir.specs.declared.operand.SymbolFlag.{SymbolFlag}
use Rattle.gi_mir.specs.declared.operand.SymbolFlag.TheVariants.{Plain, Call, Hi, Lo}
use Rattle.gi_mir.specs.declared.row.Form.{Form}
use Rattle.gi_mir.specs.declared.row.Form.TheVariants as form
use Rattle.gi_spelling.specs.Named.{IsNamedOperand, IsNamedInstr}

global-admits : (f : Form) (flag : SymbolFlag) (a b : ℕ) → admits f (operand.Global flag a) ≡ admits f (operand.Global flag b)
global-admits form.Global Plain a b = refl
global-admits form.Global Call a b = refl
global-admits form.Global Hi a b = refl
global-admits form.Global Lo a b = refl
global-admits form.Callee Plain a b = refl
global-admits form.Callee Call a b = refl
global-admits form.Callee Hi a b = refl
global-admits form.Callee Lo a b = refl
global-admits form.High Plain a b = refl
global-admits form.High Call a b = refl
global-admits form.High Hi a b = refl
global-admits form.High Lo a b = refl
global-admits form.Low Plain a b = refl
global-admits form.Low Call a b = refl
global-admits form.Low Hi a b = refl
global-admits form.Low Lo a b = refl
global-admits _ flag a b = refl

module _ (text : List ℕ) (names : List (List ℕ)) where
  admits-same : (f : Form) (old new : Operand) → IsNamedOperand text names old new → admits f old ≡ admits f new
  admits-same f (operand.Global flag place) new is = global-admits f flag place is.number ∙ ap (admits f) (sym is.same)
  admits-same f old new is = ap (admits f) (sym is)

  taken-same : (old new : Operand) (forms : List Form) → IsNamedOperand text names old new → taken old forms ≡ taken new forms
  taken-same old new [] is = refl
  taken-same old new (f ∷ forms) is = rw (admits-same f old new is, taken-same old new forms is) refl

  fits-same : (forms : List Form) (old new : List Operand) → AllZip (IsNamedOperand text names) old new → fits forms old ≡ fits forms new
  fits-same forms [] [] all = refl
  fits-same forms [] (y ∷ ys) all = absurd all
  fits-same forms (x ∷ xs) [] all = absurd all
  fits-same forms (x ∷ xs) (y ∷ ys) all =
      ap (λ left. option_map_or (λ forms. fits forms xs) left false) (taken-same x y forms all.0) ∙ chosen (taken y forms) (λ left. fits-same left xs ys all.1)
    where
      chosen : (left : Option (List Form)) → ((forms : List Form) → fits forms xs ≡ fits forms ys)
          → option_map_or (λ forms. fits forms xs) left false ≡ option_map_or (λ forms. fits forms ys) left false
      chosen None same = refl
      chosen (Some forms) same = same forms

  rows-same : (rows : List (List Form)) (old new : List Operand) → AllZip (IsNamedOperand text names) old new → fits_one_of rows old ≡ fits_one_of rows new
  rows-same [] old new all = refl
  rows-same (row ∷ rows) old new all = rw (fits-same row old new all, rows-same rows old new all) refl

  range-same : (old new : Operand) → IsNamedOperand text names old new → is_in_range old ≡ is_in_range new
  range-same (operand.Global flag place) new is = ap is_in_range (sym is.same)
  range-same old new is = ap is_in_range (sym is)

  ranges-same : (old new : List Operand) → AllZip (IsNamedOperand text names) old new → list_all is_in_range old ≡ list_all is_in_range new
  ranges-same [] [] all = refl
  ranges-same [] (y ∷ ys) all = absurd all
  ranges-same (x ∷ xs) [] all = absurd all
  ranges-same (x ∷ xs) (y ∷ ys) all = rw (range-same x y all.0, ranges-same xs ys all.1) refl

  pub formed-same : (old new : InstrData) → IsNamedInstr text names old new → is_formed old ≡ is_formed new
  unfolding is_formed
  formed-same old new is = rw (is.op, is.memory, rows-same (rows_of old.op) old.operands new.operands is.operands, ranges-same old.operands new.operands is.operands) refl
