-- The machines that code is made for: RISC-V with registers of 32 or of 64 bits.
-- (The triples are LLVM's: the name of the architecture comes first.)
use Rattle.std.specs.Prelude.{ℕ, List, Option, Some, None, nat_eq, codes, if◌then◌else◌}
use Rattle.std.specs.List.{starts_with}
use Rattle.gi_options.specs.declared.machine.Machine.{Machine}
use Rattle.gi_options.specs.declared.machine.Machine.TheVariants.{Riscv32, Riscv64}

-- the machine of a triple, by how it begins
abbrev pub machine_of : List ℕ → Option Machine
machine_of triple = if starts_with nat_eq triple (codes "riscv32") then Some Riscv32 else if starts_with nat_eq triple (codes "riscv64") then Some Riscv64 else None

-- the bits of a register
abbrev pub width_of : Machine → ℕ
width_of Riscv32 = 32
width_of Riscv64 = 64
