-- What each token of LLVM IR is, by the tables of words and by how numbers and names are written.
-- (Language Reference, "Identifiers", "Type System", "Constants", "Instruction Reference".)
use Rattle.std.specs.Prelude.{ℕ, Bool, true, false, not, ◌&&◌, List, [], ◌∷◌, Option, option_map, unwrap_or, ◌==◌, if◌then◌else◌, codes, bytes_eq, find, position, min}
use Rattle.std.specs.List.{list_all}
use Rattle.gi_llt.specs.Tokens.{LexemeKind, Lexeme, is_digit}
use Rattle.gi_llt.specs.Tokens.{Word as OfWord, Number as OfNumber, Register as OfLocal, Global as OfGlobal, Metadata as OfMetadata, Mark as OfMark}
use Rattle.gi_text.specs.Numbers.{value_after, size_spelled, is_negative}
use Rattle.gi_text.specs.declared.token.Number.{Number as NumberData}
use Rattle.gi_mir.specs.declared.operand.Pred.TheVariants as pred
use Rattle.gi_ir_spelling.specs.declared.token.Flag.TheVariants as flag
use Rattle.gi_ir_spelling.specs.declared.token.Operation.TheVariants as operation
use Rattle.gi_ir_spelling.specs.declared.token.Word.{Word}
use Rattle.gi_ir_spelling.specs.declared.token.Word.TheVariants as word
use Rattle.gi_ir_spelling.specs.declared.token.Mark.TheVariants as mark
use Rattle.gi_ir_spelling.specs.declared.token.Named.{Named}
use Rattle.gi_ir_spelling.specs.declared.token.What.{What}
use Rattle.gi_ir_spelling.specs.declared.token.What.TheVariants as what

-- ══ Words ══

abbrev pub words : List (List ℕ × Word)
words =
    (codes "ptr", word.Pointer)
    ∷ (codes "void", word.Void)
    ∷ (codes "nuw", word.Flag flag.NoUnsignedWrap)
    ∷ (codes "nsw", word.Flag flag.NoSignedWrap)
    ∷ (codes "exact", word.Flag flag.Exact)
    ∷ (codes "disjoint", word.Flag flag.Disjoint)
    ∷ (codes "nneg", word.Flag flag.NonNegative)
    ∷ (codes "samesign", word.Flag flag.SameSign)
    ∷ (codes "inbounds", word.Flag flag.InBounds)
    ∷ (codes "nusw", word.Flag flag.NoUnsignedSignedWrap)
    ∷ (codes "eq", word.Predicate pred.Eq)
    ∷ (codes "ne", word.Predicate pred.Ne)
    ∷ (codes "ugt", word.Predicate pred.Ugt)
    ∷ (codes "uge", word.Predicate pred.Uge)
    ∷ (codes "ult", word.Predicate pred.Ult)
    ∷ (codes "ule", word.Predicate pred.Ule)
    ∷ (codes "sgt", word.Predicate pred.Sgt)
    ∷ (codes "sge", word.Predicate pred.Sge)
    ∷ (codes "slt", word.Predicate pred.Slt)
    ∷ (codes "sle", word.Predicate pred.Sle)
    ∷ (codes "add", word.Operation operation.Add)
    ∷ (codes "sub", word.Operation operation.Subtract)
    ∷ (codes "mul", word.Operation operation.Multiply)
    ∷ (codes "shl", word.Operation operation.ShiftLeft)
    ∷ (codes "udiv", word.Operation operation.UnsignedDivide)
    ∷ (codes "sdiv", word.Operation operation.SignedDivide)
    ∷ (codes "lshr", word.Operation operation.LogicalShiftRight)
    ∷ (codes "ashr", word.Operation operation.ArithmeticShiftRight)
    ∷ (codes "urem", word.Operation operation.UnsignedRemainder)
    ∷ (codes "srem", word.Operation operation.SignedRemainder)
    ∷ (codes "and", word.Operation operation.And)
    ∷ (codes "or", word.Operation operation.Or)
    ∷ (codes "xor", word.Operation operation.ExclusiveOr)
    ∷ (codes "trunc", word.Operation operation.Truncate)
    ∷ (codes "zext", word.Operation operation.ZeroExtend)
    ∷ (codes "sext", word.Operation operation.SignExtend)
    ∷ (codes "ptrtoint", word.Operation operation.PointerToInteger)
    ∷ (codes "inttoptr", word.Operation operation.IntegerToPointer)
    ∷ (codes "icmp", word.Operation operation.Compare)
    ∷ (codes "select", word.Operation operation.Select)
    ∷ (codes "freeze", word.Operation operation.Freeze)
    ∷ (codes "phi", word.Operation operation.Phi)
    ∷ (codes "alloca", word.Operation operation.Alloca)
    ∷ (codes "load", word.Operation operation.Load)
    ∷ (codes "store", word.Operation operation.Store)
    ∷ (codes "getelementptr", word.Operation operation.Element)
    ∷ (codes "br", word.Operation operation.Branch)
    ∷ (codes "switch", word.Operation operation.Switch)
    ∷ (codes "ret", word.Operation operation.Return)
    ∷ (codes "unreachable", word.Operation operation.Unreachable)
    ∷ (codes "true", word.True)
    ∷ (codes "false", word.False)
    ∷ (codes "null", word.Null)
    ∷ (codes "undef", word.Undef)
    ∷ (codes "poison", word.Poison)
    ∷ (codes "to", word.To)
    ∷ (codes "label", word.Label)
    ∷ (codes "x", word.Times)
    ∷ (codes "align", word.Align)
    ∷ (codes "addrspace", word.AddressSpace) ∷ []

abbrev pub fixed_word : List ℕ → Option Word
fixed_word bytes = option_map (λ entry. entry.1) (find (λ entry. bytes_eq entry.0 bytes) words)

-- ══ Numbers ══

abbrev pub are_digits : List ℕ → Bool
are_digits [] = false
are_digits (digit ∷ digits) = is_digit digit && list_all is_digit digits

-- the bits of `i32`: there is one at least, and more than 65,535 count as that
abbrev pub greatest_width : ℕ
greatest_width = 65535

abbrev pub integer_word : (bits : ℕ) → Word
integer_word bits = if bits == 0 then word.Unknown else word.Integer (min bits greatest_width)

abbrev pub width_word : List ℕ → Word
width_word [] = word.Unknown
width_word (first ∷ digits) = if first == 105 && are_digits digits then integer_word (value_after 10 0 digits) else word.Unknown

abbrev pub word_of : List ℕ → Word
word_of bytes = unwrap_or (fixed_word bytes) (width_word bytes)

abbrev pub number_written : List ℕ → NumberData
number_written bytes = record { negative = is_negative bytes; size = size_spelled bytes }

-- a number is decimal, or `0x` stands before it
abbrev pub is_decimal : List ℕ → Bool
is_decimal [] = true
is_decimal (first ∷ []) = true
is_decimal (first ∷ second ∷ more) = not (second == 120)

-- ══ Marks ══

abbrev pub what_by_mark : List ℕ → What
what_by_mark bytes =
    if bytes_eq bytes (codes ",") then what.Mark mark.Comma
    else if bytes_eq bytes (codes "=") then what.Mark mark.Equals
    else if bytes_eq bytes (codes "(") then what.Mark mark.Open
    else if bytes_eq bytes (codes ")") then what.Mark mark.Close
    else if bytes_eq bytes (codes "[") then what.Mark mark.OpenSquare
    else if bytes_eq bytes (codes "]") then what.Mark mark.CloseSquare
    else if bytes_eq bytes (codes "{") then what.Mark mark.OpenBrace
    else if bytes_eq bytes (codes "}") then what.Mark mark.CloseBrace
    else what.Other

-- ══ Names ══

-- the names that are defined where a line stands, each with its place as its number: types of the module, and values and
-- blocks of the function
pub record Defined : Type 0 where
  pub types : List (List ℕ)
  pub values : List (List ℕ)
  pub blocks : List (List ℕ)

abbrev pub number_of : List (List ℕ) → List ℕ → Option ℕ
number_of names name = position (bytes_eq name) names

abbrev pub named_by : Defined → List ℕ → Named
named_by defined name = record { ty = number_of defined.types name; value = number_of defined.values name; block = number_of defined.blocks name }

-- ══ Tokens ══

abbrev pub what_by : Defined → LexemeKind → List ℕ → What
what_by defined OfWord bytes = what.Word (word_of bytes)
what_by defined OfNumber bytes = what.Number (number_written bytes) (is_decimal bytes)
what_by defined OfLocal bytes = what.Local (named_by defined bytes)
what_by defined OfGlobal bytes = what.Global
what_by defined OfMetadata bytes = what.Metadata
what_by defined OfMark bytes = what_by_mark bytes
what_by defined _ bytes = what.Other

abbrev pub what_of : Defined → Lexeme → What
what_of defined lexeme = what_by defined lexeme.kind lexeme.bytes
