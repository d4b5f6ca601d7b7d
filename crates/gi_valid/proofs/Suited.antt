-- The types of an instruction at which no type is at fault.
use Rattle.std.proofs.Common.{◌≡◌, ℕ, Bool, true, false, cond, Option, None, refl, sym, ap, ap₂, ◌∙◌}
use Rattle.std.specs.Option.{option_or}
use Rattle.gi_llt.specs.declared.Llt.{Llt}
use Rattle.gi_mir.specs.Data.{InstrData, FunctionData}
use Rattle.gi_mir.specs.Row.{memory_of, typing_of}
use Rattle.gi_valid.specs.Typing.{Phase, type_in, joins_any, unmet, is_constant_op, unsized, roomless, unsuited, mismatch}
use Rattle.gi_valid.proofs.Sited.{neither}

-- its register has room for what is in memory, its row is met, and a constant is as wide as its register
pub record IsSuited (x : ℕ) (type_of : ℕ → Option Llt) (i : InstrData) : Type 0 where
  pub room : roomless type_of (memory_of i.op) i.mem i.operands ≡ None
  pub row : unmet x type_of (typing_of i.op) i.operands ≡ None
  pub sized : is_constant_op i.op ≡ true → unsized x type_of i.operands ≡ None

pub suited_of : (x : ℕ) (type_of : ℕ → Option Llt) (i : InstrData) → unsuited x type_of i ≡ None → IsSuited x type_of i
suited_of x type_of i none =
    let (room, others) = neither (roomless type_of (memory_of i.op) i.mem i.operands) (option_or (unmet x type_of (typing_of i.op) i.operands) (cond (is_constant_op i.op) (unsized x type_of i.operands) None)) none in
    let (row, size) = neither (unmet x type_of (typing_of i.op) i.operands) (cond (is_constant_op i.op) (unsized x type_of i.operands) None) others in
    record { room = room; row = row; sized = λ constant. sym (ap (λ t. cond t (unsized x type_of i.operands) None) constant) ∙ size }

pub none_unsuited : (x : ℕ) (type_of : ℕ → Option Llt) (i : InstrData) → IsSuited x type_of i → unsuited x type_of i ≡ None
none_unsuited x type_of i are = ap₂ option_or are.room (ap₂ option_or are.row (by (is_constant_op i.op) are.sized))
  where
    by : (t : Bool) → (t ≡ true → unsized x type_of i.operands ≡ None) → cond t (unsized x type_of i.operands) None ≡ None
    by true sized = sized refl
    by false sized = refl

-- where it joins no types
pub suited : (x : ℕ) (phase : Phase) (f : FunctionData) (i : InstrData) → joins_any phase i ≡ false → mismatch x phase f i ≡ None → IsSuited x (type_in phase f) i
suited x phase f i alone none = suited_of x (type_in phase f) i (sym (ap (λ t. cond t None (unsuited x (type_in phase f) i)) alone) ∙ none)

pub no_mismatch : (x : ℕ) (phase : Phase) (f : FunctionData) (i : InstrData) → joins_any phase i ≡ false → IsSuited x (type_in phase f) i → mismatch x phase f i ≡ None
no_mismatch x phase f i alone are = ap (λ t. cond t None (unsuited x (type_in phase f) i)) alone ∙ none_unsuited x (type_in phase f) i are
