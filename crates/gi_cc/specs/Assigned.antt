-- In which registers the arguments of a call are passed.
-- (RISC-V ELF psABI, "Procedure Calling Convention", "Integer Calling Convention".)
--     Arguments are passed in a0 to a7, which are x10 to x17, in order. One of at most as many bits as a register has
--     takes one register. One of up to twice as many takes the next two, its low word in the first.
-- Where the registers don't suffice the psABI passes the rest on the stack, which isn't done here.
use Rattle.std.specs.Prelude.{Bool, ◌&&◌, ℕ, ◌+◌, ◌*◌, ◌-◌, ◌||◌, List, [], ◌∷◌, ◌++◌, length, map, replicate, sum_by, Result, Ok, Err, nat_le, if◌then◌else◌}
use Rattle.gi_llt.specs.declared.Arg.{Arg}
use Rattle.gi_cc.specs.declared.Plan.{Plan}
use Rattle.gi_cc.specs.declared.CcError.{CcError}
use Rattle.gi_cc.specs.declared.CcError.TheVariants.{StackArgument}

-- an argument that the convention passes so: a pointer, or an integer of one bit up to those of two words
abbrev pub is_passable : (xlen : ℕ) → Arg → Bool
is_passable xlen arg = arg.pointer || nat_le 1 arg.bits && nat_le arg.bits (2 * xlen)

-- how many words an argument has
abbrev pub words_of : (xlen : ℕ) → Arg → ℕ
words_of xlen arg = if arg.pointer || nat_le arg.bits xlen then 1 else 2

-- the first register of each argument, where x10 plus so many is the next
abbrev pub registers_from : (xlen next : ℕ) → List Arg → List ℕ
registers_from xlen next [] = []
registers_from xlen next (arg ∷ args) = next ∷ registers_from xlen (next + words_of xlen arg) args

-- a list of up to eight numbers in the eight places of a plan
abbrev pub in_eight_places : List ℕ → List ℕ
in_eight_places numbers = numbers ++ replicate (8 - length numbers) 0

-- where arguments are passed that have at most eight words
abbrev pub plan_of : (xlen : ℕ) → List Arg → Plan
plan_of xlen args = record { first = in_eight_places (registers_from xlen 10 args); words = in_eight_places (map (words_of xlen) args); count = length args }

-- where arguments are passed, or how many words they have where these are more than the registers
abbrev pub assigned : (xlen : ℕ) → List Arg → Result Plan CcError
assigned xlen args =
    if nat_le (sum_by (words_of xlen) args) 8 then Ok (plan_of xlen args)
    else Err (StackArgument (sum_by (words_of xlen) args))
