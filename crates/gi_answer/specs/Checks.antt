-- What is asked of a module that was read, in this order: a target that is known, the keys that the start asks for, and
-- sizes that are handled.
use Rattle.std.specs.Prelude.{ℕ, ◌-◌, List, [], ◌++◌, codes, drop, Option, Some, None, Result, Ok, Err, slice_get, unwrap_or}
use Rattle.gi_text.specs.Cutting.{slice}
use Rattle.gi_text.specs.declared.token.SizeError.{SizeError}
use Rattle.gi_text.specs.declared.token.Token.{Token}
use Rattle.gi_mir.specs.Data.{ModuleData}
use Rattle.gi_mir_read.specs.Sizes.{size_fault}
use Rattle.gi_mir_read.specs.Triples.{ir_number, triple_of}
use Rattle.gi_observe.specs.declared.pass.Pass.{Pass}
use Rattle.gi_answer.specs.Keys.{WrongKey, wrong_in}
use Rattle.gi_answer.specs.Messages.{at_line, message_of_size, property}
use Rattle.gi_options.specs.Machine.{machine_of, width_of}
use Rattle.gi_options.specs.declared.machine.Machine.{Machine}
use Rattle.gi_options.specs.declared.machine.Machine.TheVariants.{Riscv64}

-- the bytes of a quoted token less its quotes
abbrev pub unquoted : (line : List ℕ) → Token → List ℕ
unquoted line token = drop 1 (slice token.start (token.end - 1) line)

abbrev pub ir_line : ModuleData → (place : ℕ) → List ℕ
ir_line m place = unwrap_or (slice_get (unwrap_or m.ir []) place) []

-- the machine of this name, or what is said of a name that is unknown
abbrev pub named_target : (line : ℕ) (name : List ℕ) → Option Machine → Result Machine (List ℕ)
named_target line name (Some machine) = Ok machine
named_target line name None = Err (at_line line (codes "unknown " ++ name))

abbrev pub told_target : (read : List ℕ) → ModuleData → Option (ℕ × Token) → Result Machine (List ℕ)
told_target read m None = Ok Riscv64
told_target read m (Some told) = let name : List ℕ = unquoted (ir_line m told.0) told.1 in named_target (ir_number read told.0) name (machine_of name)

-- the machine is what a word sets, or else what the IR block tells, or else RISC-V of 64 bits
abbrev pub target_of : Option Machine → (read : List ℕ) → ModuleData → Result Machine (List ℕ)
target_of (Some machine) read m = Ok machine
target_of None read m = told_target read m (triple_of m)

abbrev pub keyed : Option WrongKey → Machine → Result Machine (List ℕ)
keyed None machine = Ok machine
keyed (Some wrong) machine = Err (property wrong.name wrong.key)

abbrev pub checked : Pass → ModuleData → Result Machine (List ℕ) → Result Machine (List ℕ)
checked start m (Ok machine) = keyed (wrong_in start m) machine
checked start m (Err message) = Err message

abbrev pub fitting : Machine → Option SizeError → Result Machine (List ℕ)
fitting machine None = Ok machine
fitting machine (Some error) = Err (message_of_size error)

abbrev pub sized : ModuleData → Result Machine (List ℕ) → Result Machine (List ℕ)
sized m (Ok machine) = fitting machine (size_fault (width_of machine) m)
sized m (Err message) = Err message

-- the machine of a module that passes, or what is said of one that doesn't
abbrev pub check_of : Option Machine → Pass → (read : List ℕ) → ModuleData → Result Machine (List ℕ)
check_of target start read m = sized m (checked start m (target_of target read m))
