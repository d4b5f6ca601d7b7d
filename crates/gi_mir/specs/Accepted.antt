-- The types that each opcode accepts, where x is the width of a register: those of its results, and those of
-- the virtual registers that it reads. (Generic Opcodes; Machine IR's target-independent opcodes.)
use Rattle.std.specs.Prelude.{ℕ, ℤ, pos, ◌*◌, Bool, true, false, ◌&&◌, nat_lt, nat_le, int_lt, ◌==◌, List, [], ◌∷◌, ◌++◌, Option, Some, None, length, slice_get, if◌then◌else◌}
use Rattle.std.specs.List.{list_all, list_any}
use Rattle.std.specs.Option.{option_or, option_map_or}
use Rattle.gi_llt.specs.declared.Llt.{Llt}
use Rattle.gi_llt.specs.declared.Llt.TheVariants.{Scalar}
use Rattle.gi_mir.specs.declared.opcode.Opcode.{Opcode}
use Rattle.gi_mir.specs.declared.row.Form.{Form}
use Rattle.gi_mir.specs.declared.row.Form.TheVariants as form
use Rattle.gi_mir.specs.declared.typing.Letter.{Letter}
use Rattle.gi_mir.specs.declared.typing.Letter.TheVariants as letter
use Rattle.gi_mir.specs.declared.typing.Class.{Class}
use Rattle.gi_mir.specs.declared.typing.Class.TheVariants as class
use Rattle.gi_mir.specs.declared.typing.Relation.{Relation}
use Rattle.gi_mir.specs.declared.typing.Relation.TheVariants as relation
use Rattle.gi_mir.specs.Types.{same_type, scalar_bits, is_scalar, is_of, is_in_memory}
use Rattle.gi_mir.specs.Typings.{TypingData}
use Rattle.gi_mir.specs.Row.{rows_of, memory_of, typing_of}

-- ══ Letters ══

abbrev pub letters : List Letter
letters = letter.A ∷ letter.B ∷ letter.Pointer ∷ letter.Bit ∷ letter.Register ∷ []

abbrev pub is_letter : Letter → Letter → Bool
is_letter letter.A letter.A = true
is_letter letter.B letter.B = true
is_letter letter.Pointer letter.Pointer = true
is_letter letter.Bit letter.Bit = true
is_letter letter.Register letter.Register = true
is_letter _ _ = false

-- a place has this letter
abbrev pub is_there : Letter → Option Letter → Bool
is_there l None = false
is_there l (Some m) = is_letter l m

-- the letter at a place, where there is one
abbrev pub letter_at : List Letter → (more : Option Letter) → (place : ℕ) → Option Letter
letter_at ls more place = option_or (slice_get ls place) more

-- the class of the types at a letter's places
abbrev pub class_of : TypingData → Letter → Class
class_of typing letter.A = typing.a
class_of typing letter.B = typing.b
class_of typing letter.Pointer = class.Pointer
class_of typing letter.Bit = class.Bit
class_of typing letter.Register = class.Register

-- as many types as letters, or more where further ones have a letter
abbrev pub have_letters : List Letter → (more : Option Letter) → List Llt → Bool
have_letters [] None [] = true
have_letters [] (Some l) types = true
have_letters (l ∷ ls) more (ty ∷ types) = have_letters ls more types
have_letters _ _ _ = false

-- the types at the places of one letter
abbrev pub types_at : Letter → List Letter → (more : Option Letter) → List Llt → List Llt
types_at l [] None types = []
types_at l [] (Some m) types = if is_letter l m then types else []
types_at l (m ∷ ms) more [] = []
types_at l (m ∷ ms) more (ty ∷ types) = if is_letter l m then ty ∷ types_at l ms more types else types_at l ms more types

abbrev pub types_of : Letter → TypingData → (results sources : List Llt) → List Llt
types_of l typing results sources =
    types_at l typing.results typing.more_results results ++ types_at l typing.sources typing.more_sources sources

-- ══ Types together ══

-- one type of a class, wherever it stands
abbrev pub are_one : ℕ → Class → List Llt → Bool
are_one x class [] = true
are_one x class (ty ∷ types) = is_of x class ty && list_all (λ other. same_type ty other) types

-- so many parts, two to sixteen, are together as wide as a whole
abbrev pub is_sum : (whole part : Llt) → (count : ℕ) → Bool
is_sum whole part count = nat_le 2 count && nat_le count 16 && (scalar_bits whole == count * scalar_bits part)

abbrev pub is_related : Relation → (a b : Llt) → (count : ℕ) → Bool
is_related relation.Free a b count = true
is_related relation.Narrower a b count = nat_lt (scalar_bits a) (scalar_bits b)
is_related relation.Wider a b count = nat_lt (scalar_bits b) (scalar_bits a)
is_related relation.Sum a b count = is_sum a b count

abbrev pub is_free : Relation → Bool
is_free relation.Free = true
is_free _ = false

-- how the types A and the types B are related; where one of them doesn't stand, nothing may be asked
abbrev pub are_related : Relation → (firsts seconds : List Llt) → Bool
are_related relation (a ∷ firsts) (b ∷ seconds) = is_related relation a b (length (b ∷ seconds))
are_related relation firsts seconds = is_free relation

-- each place has a type, each letter is one type of its class, and the types A and B are related
abbrev pub are_typed : ℕ → TypingData → (results sources : List Llt) → Bool
are_typed x typing results sources =
    have_letters typing.results typing.more_results results
    && have_letters typing.sources typing.more_sources sources
    && list_all (λ l. are_one x (class_of typing l) (types_of l typing results sources)) letters
    && are_related typing.relation (types_of letter.A typing results sources) (types_of letter.B typing results sources)

abbrev pub accepts : (x : ℕ) → Opcode → (results sources : List Llt) → Bool
accepts x op results sources = option_map_or (λ typing. are_typed x typing results sources) (typing_of op) false

-- ══ One type alone ══

-- a type is of the class of the letter at a place
abbrev pub is_typed_at : ℕ → TypingData → List Letter → (more : Option Letter) → (place : ℕ) → Llt → Bool
is_typed_at x typing ls more place ty =
    option_map_or (λ l. is_of x (class_of typing l) ty) (letter_at ls more place) false

-- a type is among its opcode's at this place among the results, however it is related to other types; nothing is
-- demanded in an instruction of the machine
abbrev pub is_result_type : ℕ → Opcode → (place : ℕ) → Llt → Bool
is_result_type x op place ty = option_map_or (λ typing. is_typed_at x typing typing.results typing.more_results place ty) (typing_of op) true

-- the same at this place among the virtual registers that are read
abbrev pub is_source_type : ℕ → Opcode → (place : ℕ) → Llt → Bool
is_source_type x op place ty = option_map_or (λ typing. is_typed_at x typing typing.sources typing.more_sources place ty) (typing_of op) true

-- the type of a memory operand is among its opcode's
abbrev pub is_memory_type : ℕ → Opcode → Llt → Bool
is_memory_type x op ty = is_in_memory x (memory_of op) ty

abbrev pub is_constant_form : Form → Bool
is_constant_form form.Constant = true
is_constant_form _ = false

-- a constant of so many bits is among its opcode's
abbrev pub is_constant_type : ℕ → Opcode → (bits : ℕ) → Bool
is_constant_type x op bits = list_any (λ forms. list_any is_constant_form forms) (rows_of op) && is_scalar x (Scalar bits)

-- so many low bits of a scalar, with a sign among them, that don't fill it
abbrev pub is_in_register : (x bits : ℕ) → ℤ → Bool
is_in_register x bits k = is_scalar x (Scalar bits) && int_lt (pos 0) k && int_lt k (pos bits)
