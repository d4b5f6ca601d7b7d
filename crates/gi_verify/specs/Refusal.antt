-- What a refusal says of a function.
use Rattle.std.specs.Prelude.{ℕ}
use Rattle.gi_mir.specs.Data.{FunctionData}
use Rattle.gi_valid.specs.Faults.{fault_at}
use Rattle.gi_valid.specs.Typing.{Phase}
use Rattle.gi_valid.specs.Valid.{IsInvalid}
use Rattle.gi_verify.specs.declared.verifying.VerifyError.{VerifyError}
use Rattle.gi_verify.specs.declared.verifying.VerifyError.TheVariants as refusal

-- it is invalid by the fault that is told; memory that runs out says nothing
abbrev pub IsRefused : (x : ℕ) → Phase → FunctionData → VerifyError → Type 0
IsRefused x phase f (refusal.Invalid line what) = IsInvalid x phase f (fault_at line what)
IsRefused x phase f refusal.Memory = Unit {0}
