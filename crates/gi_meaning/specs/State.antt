-- The state of a run, the world that it runs in, and how it ends.
-- (MIR Format Reference Manual; RISC-V unprivileged ISA, "Programmers' Model": x0 is always zero.)
use Rattle.std.specs.Prelude.{◌≡◌, ℕ, ◌+◌, ◌-◌, ◌^◌, ◌<◌, List, [], ◌∷◌, Option, Some, None, IfSome, ◌==◌, if◌then◌else◌, negsuc, pos, ◌≤ℤ◌}
use Rattle.gi_llt.specs.Bits.{signed}
use Rattle.gi_meaning.specs.Memory.{Memory}

-- one event of the trace: a call of a global, with what it got and what it left
pub record Event : Type 0 where
  pub callee : List ℕ
  pub arguments : List ℕ
  pub before : Memory
  pub results : List ℕ
  pub after : Memory

-- what a run can't choose: the words of the registers and the memory at its start, the address of each global,
-- by its name, and of each stack object, and the calls that others answer, in order
pub record World : Type 0 where
  pub words : ℕ → ℕ
  pub memory : Memory
  pub global : List ℕ → ℕ
  pub stack : ℕ → ℕ
  pub trace : List Event

abbrev pub AreWords : (x : ℕ) → List ℕ → Type 0
AreWords x [] = Unit {0}
AreWords x (word ∷ words) = (word < 2 ^ x) × AreWords x words

abbrev pub AreBytes : Memory → Type 0
AreBytes memory = (address : ℕ) → IfSome (memory address) (λ byte. byte < 256)

abbrev pub AreEvents : (x : ℕ) → List Event → Type 0
AreEvents x [] = Unit {0}
AreEvents x (event ∷ events) = AreWords x event.results × AreBytes event.after × AreEvents x events

-- words and addresses are below 2 ^ x and bytes below 256, and on RV64 each global lies where LUI and ADDI reach
pub record IsWorld (x : ℕ) (world : World) : Type 0 where
  pub words : (register : ℕ) → world.words register < 2 ^ x
  pub memory : AreBytes world.memory
  pub global : (name : List ℕ) → world.global name < 2 ^ x
  pub reached : (name : List ℕ) → x ≡ 64
      → (negsuc (2 ^ 31 + 2 ^ 11 - 1) ≤ℤ signed x (world.global name)) × (signed x (world.global name) ≤ℤ pos (2 ^ 31 - 2 ^ 11 - 1))
  pub stack : (object : ℕ) → world.stack object < 2 ^ x
  pub trace : AreEvents x world.trace

-- the values of the virtual registers that have one, the words of the physical ones, the memory, and how many
-- events of the trace have been taken
pub record State : Type 0 where
  pub values : ℕ → Option ℕ
  pub words : ℕ → ℕ
  pub memory : Memory
  pub taken : ℕ

-- what is outside the registers
pub record Outside : Type 0 where
  pub memory : Memory
  pub taken : ℕ

abbrev pub outside_of : State → Outside
outside_of state = record { memory = state.memory; taken = state.taken }

-- a run starts with the world's words and memory, no virtual register and no event taken
abbrev pub start : World → State
start world = record { values = λ _. None; words = world.words; memory = world.memory; taken = 0 }

-- how a run ends, or where it has come to
pub data Outcome : Type 0 where
  Returned : (words : List ℕ) → (memory : Memory) → (taken : ℕ) → Outcome
  Going : (memory : Memory) → (taken : ℕ) → Outcome
  Asking : (callee : List ℕ) → (words : List ℕ) → (memory : Memory) → (taken : ℕ) → Outcome
  Undefined : Outcome

-- where a value is kept: in a virtual register or in a physical one
pub data Place : Type 0 where
  Virtual : (register : ℕ) → Place
  Physical : (register : ℕ) → Place

-- what a place holds; x0 is zero
abbrev pub word_in : State → ℕ → ℕ
word_in state register = if register == 0 then 0 else state.words register

abbrev pub put : State → Place → ℕ → State
put state (Virtual register) value = record state { values = λ r. if r == register then Some value else state.values r }
put state (Physical register) value = record state { words = λ r. if r == register then value else state.words r }
