-- Memory: a byte at each address that is there. Addresses are words of x bits, and the lowest byte comes first.
-- (Language Reference, "Memory Access and Addressing Operations"; RISC-V unprivileged ISA, "Load and Store Instructions".)
use Rattle.std.specs.Prelude.{ℕ, zero, suc, ◌+◌, ◌*◌, ◌/◌, ◌%◌, ◌==◌, if◌then◌else◌, Option, Some, None, option_map, Bool}
use Rattle.gi_llt.specs.Bits.{wrapped}

abbrev pub Memory : Type 0
Memory = ℕ → Option ℕ

-- a byte below what is above it
abbrev pub above : Option ℕ → ℕ → Option ℕ
above high byte = option_map (λ h. byte + 256 * h) high

abbrev pub with_byte : Option ℕ → (ℕ → Option ℕ) → Option ℕ
with_byte None f = None
with_byte (Some byte) f = f byte

-- the value in so many bytes from an address on; none where one of them isn't there
abbrev pub loaded : (x bytes : ℕ) → Memory → (address : ℕ) → Option ℕ
loaded x zero memory address = Some 0
loaded x (suc bytes) memory address = with_byte (memory (wrapped x address)) (above (loaded x bytes memory (address + 1)))

-- the memory with a byte at an address
abbrev pub with_byte_at : Memory → (address byte : ℕ) → Memory
with_byte_at memory address byte a = if a == address then Some byte else memory a

-- the memory with the low bytes of a value from an address on
abbrev pub stored : (x bytes : ℕ) → Memory → (address value : ℕ) → Memory
stored x zero memory address value = memory
stored x (suc bytes) memory address value =
    stored x bytes (with_byte_at memory (wrapped x address) (value % 256)) (address + 1) (value / 256)

-- an address that an alignment in bytes allows
abbrev pub is_aligned : (align address : ℕ) → Bool
is_aligned align address = address % align == 0
