-- What each token of Machine IR is, by the tables of words and by how numbers are written.
-- (Machine IR (MIR) Format Reference Manual, "Machine Instructions", "Machine Operands"; LLVM's low level types.)
-- Numbers of registers, blocks, stack objects and types are written in decimal without needless zeros; one above its
-- bound counts as the bound.
use Rattle.std.specs.Prelude.{ℕ, ◌^◌, Bool, false, not, ◌&&◌, List, [], ◌∷◌, Option, Some, None, option_map, min, nat_lt, nat_eq, ◌==◌, bytes_eq, if◌then◌else◌, codes, find, position, length, drop, unwrap_or, map}
use Rattle.std.specs.List.{list_all, starts_with}
use Rattle.std.specs.Option.{option_map_or, option_or}
use Rattle.gi_llt.specs.Tokens.{LexemeKind, Lexeme, is_digit, is_word_byte, run_of, past_run}
use Rattle.gi_llt.specs.Tokens.{Word as OfWord, Number as OfNumber, Register as OfRegister, Physical as OfPhysical, Global as OfGlobal, Routine as OfRoutine, Quoted as OfQuoted, Metadata as OfMetadata, Mark as OfMark}
use Rattle.gi_llt.specs.declared.Llt.TheVariants.{Scalar, Pointer}
use Rattle.gi_text.specs.Numbers.{value_after, size_spelled, is_negative}
use Rattle.gi_text.specs.declared.token.Number.{Number as NumberData}
use Rattle.gi_mir.specs.declared.operand.Pred.TheVariants as pred
use Rattle.gi_mir.specs.declared.operand.SymbolFlag.TheVariants as symbol_flag
use Rattle.gi_mir.specs.Row.{opcode_of}
use Rattle.gi_mir.specs.Routines.{routine_names}
use Rattle.gi_spelling.specs.declared.token.Flag.TheVariants as flag
use Rattle.gi_spelling.specs.declared.token.RegisterClass.TheVariants as class
use Rattle.gi_spelling.specs.declared.token.Word.{Word}
use Rattle.gi_spelling.specs.declared.token.Word.TheVariants as word
use Rattle.gi_spelling.specs.declared.token.What.{What}
use Rattle.gi_spelling.specs.declared.token.What.TheVariants as what

-- ══ Numbers ══

-- one or more digits, the first of several no zero
abbrev pub is_plain : List ℕ → Bool
is_plain [] = false
is_plain (digit ∷ []) = is_digit digit
is_plain (first ∷ second ∷ more) = is_digit first && not (first == 48) && list_all is_digit (second ∷ more)

-- the number that plain digits write, where one above the bound counts as the bound
abbrev pub numeral : (bound : ℕ) → List ℕ → Option ℕ
numeral bound bytes = if is_plain bytes then Some (min (value_after 10 0 bytes) bound) else None

-- the greatest numbers of a register, of a width and of a block, and the bound of sizes and alignments
abbrev pub greatest_register : ℕ
greatest_register = 4294967294

abbrev pub greatest_width : ℕ
greatest_width = 65535

abbrev pub greatest_block : ℕ
greatest_block = 4294901759

abbrev pub greatest_size : ℕ
greatest_size = 2 ^ 63

-- a number token as it is printed: plain digits, or a minus and plain digits that aren't zero
abbrev pub is_plain_signed : List ℕ → Bool
is_plain_signed [] = false
is_plain_signed (first ∷ rest) = if first == 45 then is_plain rest && not (bytes_eq rest (48 ∷ [])) else is_plain (first ∷ rest)

abbrev pub number_written : List ℕ → NumberData
number_written bytes = record { negative = is_negative bytes; size = size_spelled bytes }

-- ══ Words ══

-- the words that are fixed
abbrev pub words : List (List ℕ × Word)
words =
    (codes "nuw", word.Flag flag.NoUnsignedWrap)
    ∷ (codes "nsw", word.Flag flag.NoSignedWrap)
    ∷ (codes "exact", word.Flag flag.Exact)
    ∷ (codes "disjoint", word.Flag flag.Disjoint)
    ∷ (codes "nneg", word.Flag flag.NonNegative)
    ∷ (codes "_", word.Class class.Generic)
    ∷ (codes "gprb", word.Class class.Banked)
    ∷ (codes "gpr", word.Class class.General)
    ∷ (codes "p0", word.Type Pointer)
    ∷ (codes "true", word.True)
    ∷ (codes "false", word.False)
    ∷ (codes "eq", word.Predicate pred.Eq)
    ∷ (codes "ne", word.Predicate pred.Ne)
    ∷ (codes "ugt", word.Predicate pred.Ugt)
    ∷ (codes "uge", word.Predicate pred.Uge)
    ∷ (codes "ult", word.Predicate pred.Ult)
    ∷ (codes "ule", word.Predicate pred.Ule)
    ∷ (codes "sgt", word.Predicate pred.Sgt)
    ∷ (codes "sge", word.Predicate pred.Sge)
    ∷ (codes "slt", word.Predicate pred.Slt)
    ∷ (codes "sle", word.Predicate pred.Sle)
    ∷ (codes "intpred", word.Comparison)
    ∷ (codes "implicit", word.Implicit)
    ∷ (codes "implicit-def", word.ImplicitDef)
    ∷ (codes "target-flags", word.TargetFlags)
    ∷ (codes "riscv-call", word.SymbolFlag symbol_flag.Call)
    ∷ (codes "riscv-hi", word.SymbolFlag symbol_flag.Hi)
    ∷ (codes "riscv-lo", word.SymbolFlag symbol_flag.Lo)
    ∷ (codes "csr_ilp32_lp64", word.SavedMask)
    ∷ (codes "load", word.Load)
    ∷ (codes "store", word.Store)
    ∷ (codes "align", word.Align)
    ∷ (codes "successors", word.Successors)
    ∷ (codes "liveins", word.Liveins)
    ∷ (codes "id", word.Id)
    ∷ (codes "class", word.ClassField)
    ∷ (codes "size", word.Size)
    ∷ (codes "alignment", word.Alignment)
    ∷ (codes "killed", word.Passed)
    ∷ (codes "dead", word.Passed)
    ∷ (codes "renamable", word.Passed)
    ∷ (codes "nusw", word.Passed)
    ∷ (codes "inbounds", word.Passed)
    ∷ (codes "samesign", word.Passed)
    ∷ (codes "frame-setup", word.Passed)
    ∷ (codes "frame-destroy", word.Passed)
    ∷ (codes "unpredictable", word.Passed)
    ∷ (codes "nomerge", word.Passed)
    ∷ (codes "noconvergent", word.Passed)
    ∷ (codes "invariant", word.Passed)
    ∷ (codes "dereferenceable", word.Passed)
    ∷ (codes "non-temporal", word.Passed)
    ∷ (codes "from", word.Origin)
    ∷ (codes "into", word.Origin)
    ∷ (codes "debug-location", word.DebugLocation)
    ∷ (codes "debug-instr-number", word.Counted)
    ∷ (codes "basealign", word.Counted)
    ∷ []

abbrev pub fixed_word : List ℕ → Option Word
fixed_word bytes = option_map (λ entry. entry.1) (find (λ entry. bytes_eq entry.0 bytes) words)

-- `s32` and `i32`
abbrev pub width_behind : (first : ℕ) → List ℕ → Option ℕ
width_behind first [] = None
width_behind first (byte ∷ rest) = if byte == first then numeral greatest_width rest else None

-- a name behind a point: one or more word bytes
abbrev pub is_pointed_name : List ℕ → Bool
is_pointed_name [] = false
is_pointed_name (point ∷ []) = false
is_pointed_name (point ∷ first ∷ more) = point == 46 && list_all is_word_byte (first ∷ more)

-- digits, and behind them nothing or a name
abbrev pub numeral_before_name : (bound : ℕ) → List ℕ → Option ℕ
numeral_before_name bound bytes =
    if is_pointed_name (past_run is_digit bytes) then numeral bound (run_of is_digit bytes) else numeral bound bytes

-- what stands behind a prefix
abbrev pub behind : (prefix bytes : List ℕ) → Option (List ℕ)
behind prefix bytes = if starts_with nat_eq bytes prefix then Some (drop (length prefix) bytes) else None

-- `bb.2` and `bb.2.name`
abbrev pub block_head : List ℕ → Option ℕ
block_head bytes = option_map_or (numeral_before_name greatest_block) (behind (codes "bb.") bytes) None

-- a word in the tables, of which no two have one word
abbrev pub word_of : List ℕ → Word
word_of bytes =
    unwrap_or
    (option_or (fixed_word bytes)
    (option_or (option_map (λ op. word.Opcode op) (opcode_of bytes))
    (option_or (option_map (λ bits. word.Type (Scalar bits)) (width_behind 115 bytes))
    (option_or (option_map (λ bits. word.Integer bits) (width_behind 105 bytes))
    (option_or (option_map (λ number. word.BlockHead number) (block_head bytes))
    (if starts_with nat_eq bytes (codes "DBG_") then Some word.Debug else None))))))
    word.Unknown

-- ══ Tokens ══

-- `%7`, `%bb.7`, `%stack.7` and `%stack.7.name`, less their first byte
abbrev pub register_token : List ℕ → What
register_token bytes =
    unwrap_or
    (option_or (option_map (λ number. what.Register number) (numeral greatest_register bytes))
    (option_or (option_map (λ number. what.Block number) (option_map_or (numeral greatest_block) (behind (codes "bb.") bytes) None))
    (option_map (λ number. what.Frame number) (option_map_or (numeral_before_name greatest_register) (behind (codes "stack.") bytes) None))))
    what.Other

-- `$x7`, less its first byte
abbrev pub physical_of : Option ℕ → What
physical_of None = what.Other
physical_of (Some number) = if nat_lt number 32 then what.Physical number else what.Other

abbrev pub physical_token : List ℕ → What
physical_token bytes = physical_of (option_map_or (numeral 32) (behind (codes "x") bytes) None)

-- `&name`, less its first byte
abbrev pub routine_token : List ℕ → What
routine_token bytes = option_map_or (λ place. what.Routine place) (position (bytes_eq bytes) routine_names) what.UnknownRoutine

abbrev pub is_numbered : List ℕ → Bool
is_numbered [] = false
is_numbered (digit ∷ digits) = list_all is_digit (digit ∷ digits)

-- the marks that stand in a form, by their bytes
abbrev pub marks : List (ℕ × What)
marks =
    (44, what.Comma)
    ∷ (61, what.Equals)
    ∷ (58, what.Colon)
    ∷ (40, what.Open)
    ∷ (41, what.Close)
    ∷ (123, what.OpenBrace)
    ∷ (125, what.CloseBrace)
    ∷ (91, what.OpenSquare)
    ∷ (93, what.CloseSquare)
    ∷ (45, what.Minus)
    ∷ (124, what.Bar)
    ∷ []

abbrev pub mark_token : List ℕ → What
mark_token [] = what.Other
mark_token (byte ∷ more) = option_map_or (λ entry. entry.1) (find (λ entry. entry.0 == byte) marks) what.Other

abbrev pub what_by : LexemeKind → List ℕ → What
what_by OfWord bytes = what.Word (word_of bytes)
what_by OfNumber bytes = what.Number (number_written bytes) (is_plain_signed bytes)
what_by OfRegister bytes = register_token (drop 1 bytes)
what_by OfPhysical bytes = physical_token (drop 1 bytes)
what_by OfGlobal bytes = what.Global
what_by OfRoutine bytes = routine_token (drop 1 bytes)
what_by OfQuoted bytes = what.Other
what_by OfMetadata bytes = what.Metadata (is_numbered (drop 1 bytes))
what_by OfMark bytes = mark_token bytes

abbrev pub what_of : Lexeme → What
what_of lexeme = what_by lexeme.kind lexeme.bytes

abbrev pub whats : List Lexeme → List What
whats lexemes = map what_of lexemes
