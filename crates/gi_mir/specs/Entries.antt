-- Entries of the table of opcodes.
use Rattle.std.specs.Prelude.{ℕ, Bool, true, false, List, Option, Some, None}
use Rattle.gi_mir.specs.declared.row.Form.{Form}
use Rattle.gi_mir.specs.declared.row.Access.{Access}
use Rattle.gi_mir.specs.declared.row.Access.TheVariants as access
use Rattle.gi_mir.specs.declared.entry.InMemory.{InMemory}
use Rattle.gi_mir.specs.declared.entry.InMemory.TheVariants as memory
use Rattle.gi_mir.specs.declared.entry.Role.{Role}
use Rattle.gi_mir.specs.declared.entry.Role.TheVariants as role
use Rattle.gi_mir.specs.declared.entry.RoutineCall.{RoutineCall}
use Rattle.gi_mir.specs.declared.entry.RoutineCall.TheVariants as routine_call
use Rattle.gi_mir.specs.declared.entry.Standing.{Standing}
use Rattle.gi_mir.specs.declared.entry.Standing.TheVariants as standing
use Rattle.gi_mir.specs.Typings.{TypingData}

-- By which widths the results of a generic opcode have room in their registers. What an instruction of the machine gives is
-- a word.
pub data Room : Type 0 where
  -- by any widths
  Always : Room
  -- no operand is wider than the result
  NoneWider : Room
  -- no operand is wider but the first, which is a condition
  NoneWiderThanCondition : Room
  -- each result has a bit
  OneBit : Room
  -- the result is as wide as all operands together
  AllTogether : Room
  -- widths alone don't say it
  Unsaid : Room

-- what is known of an opcode: its word in a text, the rows that its operands may have, what it does with memory and
-- the types that a value has there, what it does to the course of its block, where it stands, whether a machine of
-- 64 bits alone has it, the types of its registers, of which nothing is demanded in an instruction of the machine,
-- whether its two operands may be exchanged, whether it may become a call of a routine, and the room of its results
pub record EntryData : Type 0 where
  pub word : List ℕ
  pub rows : List (List Form)
  pub access : Access
  pub memory : InMemory
  pub role : Role
  pub standing : Standing
  pub is_wide : Bool
  pub typing : Option TypingData
  pub is_commutative : Bool
  pub routine_call : RoutineCall
  pub room : Room

-- an opcode with this word, these rows and this typing, which its block goes on after
abbrev pub plain : Standing → (word : List ℕ) → (rows : List (List Form)) → Option TypingData → Room → EntryData
plain standing word rows typing room = record {
  word = word;
  rows = rows;
  access = access.Neither;
  memory = memory.Nothing;
  role = role.Plain;
  standing = standing;
  is_wide = false;
  typing = typing;
  is_commutative = false;
  routine_call = routine_call.Never;
  room = room;
}

-- one that stands before selection, one that stands in every stage, and one that stands after selection with types
abbrev pub generic : (word : List ℕ) → (rows : List (List Form)) → TypingData → Room → EntryData
generic word rows typing room = plain standing.Generic word rows (Some typing) room

abbrev pub shared : (word : List ℕ) → (rows : List (List Form)) → TypingData → EntryData
shared word rows typing = plain standing.Both word rows (Some typing) Unsaid

abbrev pub selected : (word : List ℕ) → (rows : List (List Form)) → TypingData → Room → EntryData
selected word rows typing room = plain standing.Target word rows (Some typing) room

-- an instruction of the machine
abbrev pub machine : (word : List ℕ) → (rows : List (List Form)) → EntryData
machine word rows = plain standing.Target word rows None Unsaid

-- the same with a memory operand, with another role, and of 64 bits alone
abbrev pub loading : InMemory → EntryData → EntryData
loading memory e = record e { access = access.Load; memory = memory }

abbrev pub storing : InMemory → EntryData → EntryData
storing memory e = record e { access = access.Store; memory = memory }

abbrev pub acting : Role → EntryData → EntryData
acting role e = record e { role = role }

abbrev pub wide : EntryData → EntryData
wide e = record e { is_wide = true }

-- one whose two operands may be exchanged, and one that may become a call of a routine
abbrev pub commutative : EntryData → EntryData
commutative e = record e { is_commutative = true }

abbrev pub calling : RoutineCall → EntryData → EntryData
calling routine_call e = record e { routine_call = routine_call }
