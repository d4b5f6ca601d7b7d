-- What is asked of a rewriting, so that a valid function stays valid.
use Rattle.std.specs.Prelude.{◌≡◌, ◌⊎◌, ℕ, ◌≤◌, Bool, true, false, not, ◌&&◌, ◌||◌, ◌==◌, List, ◌∷◌, ◌++◌, None}
use Rattle.std.specs.List.{list_all, list_any}
use Rattle.gi_mir.specs.Data.{InstrData, FunctionData}
use Rattle.gi_mir.specs.Edit.{all_instrs, defines, uses}
use Rattle.gi_mir.specs.Registers.{kind_in_operands, kind_in_instrs}
use Rattle.gi_mir.specs.Row.{is_terminator_op}
use Rattle.gi_mir.specs.declared.operand.Operand.{Operand}
use Rattle.gi_mir.specs.declared.operand.Operand.TheVariants as operand
use Rattle.gi_meaning.specs.Runs.{is_phi}
use Rattle.gi_valid.specs.Faults.{definitions, times, may_call}
use Rattle.gi_valid.specs.Definitions.{is_pure, IsComputedFrom}
use Rattle.gi_valid.specs.Typing.{Phase, type_in, mismatch}
use Rattle.gi_change_valid.specs.Rewriting.{Rewriting, IsOneOf}

-- ══ Plain instructions ══

-- what an instruction that computes has: virtual registers, numbers, a predicate, and the physical registers that are
-- always there
abbrev pub is_plain_operand : Operand → Bool
is_plain_operand (operand.Def r kind) = true
is_plain_operand (operand.Use r) = true
is_plain_operand (operand.Phys n) = (n == 0) || (n == 2)
is_plain_operand (operand.Int number) = true
is_plain_operand (operand.Constant bits value) = true
is_plain_operand (operand.Predicate pred) = true
is_plain_operand _ = false

-- no phi and no terminator, with such operands alone
abbrev pub is_plain : InstrData → Bool
is_plain i = not (is_phi i) && not (is_terminator_op i.op) && list_all is_plain_operand i.operands

-- so are the root and what is made
pub record ArePlain (w : Rewriting) : Type 0 where
  pub root : is_plain w.root.1 ≡ true
  pub made : list_all (λ p. is_plain p.1) w.made ≡ true

-- ══ Definitions ══

-- no instruction mentions a register
pub record IsNew (f : FunctionData) (r : ℕ) : Type 0 where
  pub undefined : list_any (defines r) (all_instrs f.blocks) ≡ false
  pub unused : list_any (uses r) (all_instrs f.blocks) ≡ false

-- no register is made twice, and each that is made is the root's or a new one
pub record DefinesAnew (w : Rewriting) (f : FunctionData) : Type 0 where
  pub once : (r : ℕ) → times r (definitions w.made) ≤ 1
  pub own : (r : ℕ) → list_any (defines r) w.made ≡ true → (defines r w.root ≡ true) ⊎ IsNew f r

-- another register stands for this one in uses
abbrev pub is_replaced : Rewriting → ℕ → Bool
is_replaced w r = not (w.rename r == r)

-- Each result of the root is made, or replaced by a register that it is computed from and that is no result of the root; no
-- other register is replaced.
pub record AccountsForResults (w : Rewriting) (f : FunctionData) : Type 0 where
  pub results : (r : ℕ) → is_replaced w r ≡ true → defines r w.root ≡ true
  pub covered : (r : ℕ) → defines r w.root ≡ true → is_replaced w r ≡ false → list_any (defines r) w.made ≡ true
  pub origins : (r : ℕ) → is_replaced w r ≡ true → IsComputedFrom f r (w.rename r)
  pub apart : (r : ℕ) → is_replaced w r ≡ true → defines (w.rename r) w.root ≡ false

-- ══ Reading ══

-- all results of the root are computed from a register
abbrev pub IsOrigin : Rewriting → FunctionData → ℕ → Type 0
IsOrigin w f r = (d : ℕ) → defines d w.root ≡ true → IsComputedFrom f d r

-- The root is pure, and what is made reads registers that are made before, and such that the root's results are computed
-- from.
pub record ReadsOrigins (w : Rewriting) (f : FunctionData) : Type 0 where
  pub pure : is_pure w.root.1 ≡ true
  pub read : (earlier : List (ℕ × InstrData)) (i : ℕ × InstrData) (later : List (ℕ × InstrData)) → w.made ≡ earlier ++ i ∷ later → (r : ℕ) → uses r i ≡ true
      → (list_any (defines r) earlier ≡ true) ⊎ IsOrigin w f r

-- ══ Types ══

-- A result that is made is of the kind that it was, a register that stands for another has its type, and what is made has
-- types that meet its rows.
pub record KeepsTypes (x : ℕ) (phase : Phase) (w : Rewriting) (f g : FunctionData) : Type 0 where
  pub own : (r : ℕ) → list_any (defines r) w.made ≡ true → defines r w.root ≡ true → kind_in_instrs r w.made ≡ kind_in_operands r w.root.1.operands
  pub replaced : (r : ℕ) → is_replaced w r ≡ true → type_in phase f (w.rename r) ≡ type_in phase f r
  pub made : (p : ℕ × InstrData) → IsOneOf p w.made → mismatch x phase g p.1 ≡ None

-- what is made may come to be a call only where the root may
pub record MakesNoNewCall (x : ℕ) (phase : Phase) (w : Rewriting) (f g : FunctionData) : Type 0 where
  pub made : (p : ℕ × InstrData) → IsOneOf p w.made → may_call x phase g p.1 ≡ true → may_call x phase f w.root.1 ≡ true
