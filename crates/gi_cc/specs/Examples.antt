-- What LLVM does: in which registers llc of LLVM 14 finds the arguments of a function, for riscv32 and riscv64 (what it
-- has behind the pass finalize-isel).
use Rattle.std.specs.Prelude.{ℕ, Bool, true, false, ◌&&◌, ◌==◌, List, [], ◌∷◌, length, map, Option, Some, None, Result, Ok, Err, bytes_eq, get_or}
use Rattle.gi_llt.specs.declared.Arg.{Arg}
use Rattle.gi_llt.specs.declared.Ext.TheVariants.{Any}
use Rattle.gi_cc.specs.declared.Plan.{Plan}
use Rattle.gi_cc.specs.declared.CcError.{CcError}
use Rattle.gi_cc.specs.Assigned.{assigned, in_eight_places}

-- arguments, and the registers of each where all have registers
pub record Example : Type 0 where
  pub xlen : ℕ
  pub args : List Arg
  pub registers : Option (List (List ℕ))

abbrev example : (xlen : ℕ) → List Arg → Option (List (List ℕ)) → Example
example xlen args registers = record { xlen = xlen; args = args; registers = registers }

abbrev integer : (bits : ℕ) → Arg
integer bits = record { bits = bits; pointer = false; ext = Any }

abbrev pointer : Arg
pointer = record { bits = 0; pointer = true; ext = Any }

-- the plan tells of each argument its first register and how many it has
abbrev first_of : List ℕ → ℕ
first_of registers = get_or registers 0 0

abbrev is_told : List (List ℕ) → Plan → Bool
is_told registers plan =
    bytes_eq plan.first (in_eight_places (map first_of registers))
    && bytes_eq plan.words (in_eight_places (map length registers))
    && plan.count == length registers

abbrev agrees : Option (List (List ℕ)) → Result Plan CcError → Bool
agrees (Some registers) (Ok plan) = is_told registers plan
agrees None (Err error) = true
agrees registers result = false

abbrev pub is_as_in_llvm : Example → Bool
is_as_in_llvm e = agrees e.registers (assigned e.xlen e.args)

abbrev pub examples : List Example
examples =
    example 32 ([]) (Some ([]))
    ∷ example 32 (integer 17 ∷ []) (Some ((10 ∷ []) ∷ []))
    ∷ example 32 (integer 33 ∷ []) (Some ((10 ∷ 11 ∷ []) ∷ []))
    ∷ example 32 (pointer ∷ integer 1 ∷ []) (Some ((10 ∷ []) ∷ (11 ∷ []) ∷ []))
    ∷ example 32 (integer 64 ∷ integer 32 ∷ []) (Some ((10 ∷ 11 ∷ []) ∷ (12 ∷ []) ∷ []))
    ∷ example 32 (integer 1 ∷ integer 16 ∷ integer 8 ∷ []) (Some ((10 ∷ []) ∷ (11 ∷ []) ∷ (12 ∷ []) ∷ []))
    ∷ example 32 (integer 33 ∷ integer 64 ∷ integer 32 ∷ []) (Some ((10 ∷ 11 ∷ []) ∷ (12 ∷ 13 ∷ []) ∷ (14 ∷ []) ∷ []))
    ∷ example 32 (integer 48 ∷ pointer ∷ integer 8 ∷ integer 32 ∷ []) (Some ((10 ∷ 11 ∷ []) ∷ (12 ∷ []) ∷ (13 ∷ []) ∷ (14 ∷ []) ∷ []))
    ∷ example 32 (integer 1 ∷ integer 32 ∷ integer 48 ∷ integer 17 ∷ []) (Some ((10 ∷ []) ∷ (11 ∷ []) ∷ (12 ∷ 13 ∷ []) ∷ (14 ∷ []) ∷ []))
    ∷ example 32 (integer 16 ∷ integer 48 ∷ integer 16 ∷ integer 8 ∷ integer 16 ∷ []) (Some ((10 ∷ []) ∷ (11 ∷ 12 ∷ []) ∷ (13 ∷ []) ∷ (14 ∷ []) ∷ (15 ∷ []) ∷ []))
    ∷ example 32 (integer 64 ∷ integer 16 ∷ integer 16 ∷ integer 1 ∷ integer 1 ∷ []) (Some ((10 ∷ 11 ∷ []) ∷ (12 ∷ []) ∷ (13 ∷ []) ∷ (14 ∷ []) ∷ (15 ∷ []) ∷ []))
    ∷ example 32 (integer 32 ∷ integer 32 ∷ integer 16 ∷ integer 16 ∷ integer 17 ∷ integer 33 ∷ []) (Some ((10 ∷ []) ∷ (11 ∷ []) ∷ (12 ∷ []) ∷ (13 ∷ []) ∷ (14 ∷ []) ∷ (15 ∷ 16 ∷ []) ∷ []))
    ∷ example 32 (integer 32 ∷ pointer ∷ integer 32 ∷ integer 16 ∷ integer 32 ∷ integer 48 ∷ integer 17 ∷ []) (Some ((10 ∷ []) ∷ (11 ∷ []) ∷ (12 ∷ []) ∷ (13 ∷ []) ∷ (14 ∷ []) ∷ (15 ∷ 16 ∷ []) ∷ (17 ∷ []) ∷ []))
    ∷ example 32 (integer 16 ∷ pointer ∷ pointer ∷ integer 1 ∷ pointer ∷ integer 16 ∷ integer 1 ∷ integer 16 ∷ []) (Some ((10 ∷ []) ∷ (11 ∷ []) ∷ (12 ∷ []) ∷ (13 ∷ []) ∷ (14 ∷ []) ∷ (15 ∷ []) ∷ (16 ∷ []) ∷ (17 ∷ []) ∷ []))
    ∷ example 32 (integer 1 ∷ integer 16 ∷ integer 1 ∷ integer 16 ∷ integer 32 ∷ integer 1 ∷ pointer ∷ integer 32 ∷ []) (Some ((10 ∷ []) ∷ (11 ∷ []) ∷ (12 ∷ []) ∷ (13 ∷ []) ∷ (14 ∷ []) ∷ (15 ∷ []) ∷ (16 ∷ []) ∷ (17 ∷ []) ∷ []))
    ∷ example 32 (integer 32 ∷ integer 16 ∷ pointer ∷ integer 16 ∷ pointer ∷ integer 16 ∷ integer 32 ∷ integer 1 ∷ pointer ∷ []) None
    ∷ example 64 ([]) (Some ([]))
    ∷ example 64 (integer 65 ∷ []) (Some ((10 ∷ 11 ∷ []) ∷ []))
    ∷ example 64 (integer 33 ∷ []) (Some ((10 ∷ []) ∷ []))
    ∷ example 64 (integer 1 ∷ integer 100 ∷ []) (Some ((10 ∷ []) ∷ (11 ∷ 12 ∷ []) ∷ []))
    ∷ example 64 (integer 8 ∷ integer 64 ∷ []) (Some ((10 ∷ []) ∷ (11 ∷ []) ∷ []))
    ∷ example 64 (integer 65 ∷ pointer ∷ integer 65 ∷ []) (Some ((10 ∷ 11 ∷ []) ∷ (12 ∷ []) ∷ (13 ∷ 14 ∷ []) ∷ []))
    ∷ example 64 (integer 32 ∷ integer 65 ∷ integer 33 ∷ []) (Some ((10 ∷ []) ∷ (11 ∷ 12 ∷ []) ∷ (13 ∷ []) ∷ []))
    ∷ example 64 (pointer ∷ integer 8 ∷ integer 33 ∷ integer 65 ∷ []) (Some ((10 ∷ []) ∷ (11 ∷ []) ∷ (12 ∷ []) ∷ (13 ∷ 14 ∷ []) ∷ []))
    ∷ example 64 (integer 33 ∷ integer 32 ∷ integer 8 ∷ integer 32 ∷ []) (Some ((10 ∷ []) ∷ (11 ∷ []) ∷ (12 ∷ []) ∷ (13 ∷ []) ∷ []))
    ∷ example 64 (integer 33 ∷ integer 128 ∷ integer 32 ∷ integer 1 ∷ integer 8 ∷ []) (Some ((10 ∷ []) ∷ (11 ∷ 12 ∷ []) ∷ (13 ∷ []) ∷ (14 ∷ []) ∷ (15 ∷ []) ∷ []))
    ∷ example 64 (pointer ∷ integer 100 ∷ integer 1 ∷ integer 64 ∷ integer 65 ∷ []) (Some ((10 ∷ []) ∷ (11 ∷ 12 ∷ []) ∷ (13 ∷ []) ∷ (14 ∷ []) ∷ (15 ∷ 16 ∷ []) ∷ []))
    ∷ example 64 (integer 33 ∷ integer 128 ∷ integer 100 ∷ integer 32 ∷ integer 1 ∷ integer 1 ∷ []) (Some ((10 ∷ []) ∷ (11 ∷ 12 ∷ []) ∷ (13 ∷ 14 ∷ []) ∷ (15 ∷ []) ∷ (16 ∷ []) ∷ (17 ∷ []) ∷ []))
    ∷ example 64 (integer 128 ∷ integer 65 ∷ integer 64 ∷ integer 32 ∷ integer 32 ∷ integer 100 ∷ integer 8 ∷ []) None
    ∷ example 64 (integer 64 ∷ pointer ∷ integer 8 ∷ pointer ∷ integer 64 ∷ integer 64 ∷ integer 32 ∷ integer 64 ∷ []) (Some ((10 ∷ []) ∷ (11 ∷ []) ∷ (12 ∷ []) ∷ (13 ∷ []) ∷ (14 ∷ []) ∷ (15 ∷ []) ∷ (16 ∷ []) ∷ (17 ∷ []) ∷ []))
    ∷ example 64 (integer 8 ∷ integer 64 ∷ integer 32 ∷ integer 8 ∷ integer 1 ∷ integer 64 ∷ integer 32 ∷ pointer ∷ []) (Some ((10 ∷ []) ∷ (11 ∷ []) ∷ (12 ∷ []) ∷ (13 ∷ []) ∷ (14 ∷ []) ∷ (15 ∷ []) ∷ (16 ∷ []) ∷ (17 ∷ []) ∷ []))
    ∷ example 64 (integer 32 ∷ integer 64 ∷ integer 32 ∷ integer 32 ∷ integer 32 ∷ integer 8 ∷ pointer ∷ integer 1 ∷ integer 64 ∷ []) None ∷ []
