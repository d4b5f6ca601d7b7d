-- The forms of the instructions, as one table of places. A place takes the next token and says which places follow it, or it
-- may be passed, or the token can't stand there.
-- (Language Reference, "Type System", "Constants", "Instruction Reference": the forms of each, cut to integers and pointers.)
--     <result> = add nuw nsw <ty> <op1>, <op2>
--     <result> = icmp <cond> <ty> <op1>, <op2>
--     <result> = select i1 <cond>, <ty> <val1>, <ty> <val2>
--     <result> = trunc <ty> <value> to <ty2>
--     <result> = phi <ty> [ <val0>, <label0>], ..
--     <result> = alloca <type>, align <alignment>
--     <result> = load <ty>, ptr <pointer>, align <alignment>
--     store <ty> <value>, ptr <pointer>, align <alignment>
--     <result> = getelementptr <ty>, ptr <ptrval>, <ty> <idx>, ..
--     br i1 <cond>, label <iftrue>, label <iffalse>          br label <dest>
--     switch <intty> <value>, label <defaultdest> [ <intty> <val>, label <dest> .. ]
--     ret <type> <value>          ret void          unreachable
use Rattle.std.specs.Prelude.{◌==◌, ℕ, ◌^◌, ◌%◌, Bool, true, false, not, ◌&&◌, List, [], ◌∷◌, is_some, if◌then◌else◌, min}
use Rattle.gi_text.specs.declared.token.Number.{Number as NumberData}
use Rattle.gi_ir_spelling.specs.declared.token.Flag.{Flag}
use Rattle.gi_ir_spelling.specs.declared.token.Flag.TheVariants as flag
use Rattle.gi_ir_spelling.specs.declared.token.Operation.{Operation}
use Rattle.gi_ir_spelling.specs.declared.token.Operation.TheVariants as operation
use Rattle.gi_ir_spelling.specs.declared.token.Word.{Word}
use Rattle.gi_ir_spelling.specs.declared.token.Word.TheVariants as word
use Rattle.gi_ir_spelling.specs.declared.token.Mark.{Mark}
use Rattle.gi_ir_spelling.specs.declared.token.Mark.TheVariants as mark
use Rattle.gi_ir_spelling.specs.declared.token.What.{What}
use Rattle.gi_ir_spelling.specs.declared.token.What.TheVariants as what
use Rattle.gi_ir_spelling.specs.declared.place.Types.{Types}
use Rattle.gi_ir_spelling.specs.declared.place.Types.TheVariants.{Integers, IntegersAndPointers, Bits, Pointers, AllButVoid}
use Rattle.gi_ir_spelling.specs.declared.place.Scalar.{Scalar}
use Rattle.gi_ir_spelling.specs.declared.place.Scalar.TheVariants.{Bit, Integer, Pointer}
use Rattle.gi_ir_spelling.specs.declared.place.FlagSet.{FlagSet}
use Rattle.gi_ir_spelling.specs.declared.place.Slot.{Slot}
use Rattle.gi_ir_spelling.specs.declared.place.Slot.TheVariants as slot
use Rattle.gi_ir_spelling.specs.declared.place.Row.{Row}
use Rattle.gi_ir_spelling.specs.declared.place.Row.TheVariants as row
use Rattle.gi_ir_spelling.specs.declared.place.TypeStart.{TypeStart}
use Rattle.gi_ir_spelling.specs.declared.place.TypeStart.TheVariants as start
use Rattle.gi_ir_spelling.specs.declared.place.Choice.{Choice}
use Rattle.gi_ir_spelling.specs.declared.place.Choice.TheVariants as choice

-- ══ Flags ══

abbrev pub no_flags : FlagSet
no_flags = record { no_unsigned_wrap = false; no_signed_wrap = false; exact = false; disjoint = false; non_negative = false; same_sign = false; in_bounds = false; no_unsigned_signed_wrap = false }

abbrev pub wrapping : FlagSet
wrapping = record no_flags { no_unsigned_wrap = true; no_signed_wrap = true }

abbrev pub exact : FlagSet
exact = record no_flags { exact = true }

abbrev pub disjoint : FlagSet
disjoint = record no_flags { disjoint = true }

abbrev pub non_negative : FlagSet
non_negative = record no_flags { non_negative = true }

abbrev pub same_sign : FlagSet
same_sign = record no_flags { same_sign = true }

abbrev pub element_flags : FlagSet
element_flags = record no_flags { no_unsigned_wrap = true; in_bounds = true; no_unsigned_signed_wrap = true }

abbrev pub has_flag : FlagSet → Flag → Bool
has_flag flags flag.NoUnsignedWrap = flags.no_unsigned_wrap
has_flag flags flag.NoSignedWrap = flags.no_signed_wrap
has_flag flags flag.Exact = flags.exact
has_flag flags flag.Disjoint = flags.disjoint
has_flag flags flag.NonNegative = flags.non_negative
has_flag flags flag.SameSign = flags.same_sign
has_flag flags flag.InBounds = flags.in_bounds
has_flag flags flag.NoUnsignedSignedWrap = flags.no_unsigned_signed_wrap

abbrev pub without_flag : FlagSet → Flag → FlagSet
without_flag flags flag.NoUnsignedWrap = record flags { no_unsigned_wrap = false }
without_flag flags flag.NoSignedWrap = record flags { no_signed_wrap = false }
without_flag flags flag.Exact = record flags { exact = false }
without_flag flags flag.Disjoint = record flags { disjoint = false }
without_flag flags flag.NonNegative = record flags { non_negative = false }
without_flag flags flag.SameSign = record flags { same_sign = false }
without_flag flags flag.InBounds = record flags { in_bounds = false }
without_flag flags flag.NoUnsignedSignedWrap = record flags { no_unsigned_signed_wrap = false }

-- ══ Forms ══

abbrev comma : Slot
comma = slot.Punctuation mark.Comma

abbrev label : List Slot
label = slot.Keyword word.Label ∷ slot.BlockName ∷ []

abbrev one_value : Types → List Slot
one_value types = slot.Typed types ∷ slot.Value ∷ []

-- two values of one type
abbrev two_values : Types → List Slot
two_values types = slot.Typed types ∷ slot.Value ∷ comma ∷ slot.Value ∷ []

abbrev arithmetic : FlagSet → List Slot
arithmetic flags = slot.Flags flags ∷ two_values Integers

abbrev cast : FlagSet → List Slot
cast flags = slot.Flags flags ∷ slot.Typed IntegersAndPointers ∷ slot.Value ∷ slot.Keyword word.To ∷ slot.Bare IntegersAndPointers ∷ []

-- what stands behind the word of an instruction
abbrev pub form_of : Operation → List Slot
form_of operation.Add = arithmetic wrapping
form_of operation.Subtract = arithmetic wrapping
form_of operation.Multiply = arithmetic wrapping
form_of operation.ShiftLeft = arithmetic wrapping
form_of operation.UnsignedDivide = arithmetic exact
form_of operation.SignedDivide = arithmetic exact
form_of operation.LogicalShiftRight = arithmetic exact
form_of operation.ArithmeticShiftRight = arithmetic exact
form_of operation.UnsignedRemainder = arithmetic no_flags
form_of operation.SignedRemainder = arithmetic no_flags
form_of operation.And = arithmetic no_flags
form_of operation.Or = arithmetic disjoint
form_of operation.ExclusiveOr = arithmetic no_flags
form_of operation.Truncate = cast wrapping
form_of operation.ZeroExtend = cast non_negative
form_of operation.SignExtend = cast no_flags
form_of operation.PointerToInteger = cast no_flags
form_of operation.IntegerToPointer = cast no_flags
form_of operation.Compare = slot.Flags same_sign ∷ slot.Predicate ∷ two_values IntegersAndPointers
form_of operation.Select = slot.Typed Bits ∷ slot.Value ∷ comma ∷ slot.Typed IntegersAndPointers ∷ slot.Value ∷ comma ∷ one_value IntegersAndPointers
form_of operation.Freeze = one_value IntegersAndPointers
form_of operation.Phi = slot.Typed IntegersAndPointers ∷ slot.Entry ∷ []
form_of operation.Alloca = slot.Bare AllButVoid ∷ slot.Align ∷ []
form_of operation.Load = slot.Bare IntegersAndPointers ∷ comma ∷ slot.Typed Pointers ∷ slot.Value ∷ slot.Align ∷ []
form_of operation.Store = slot.Typed IntegersAndPointers ∷ slot.Value ∷ comma ∷ slot.Typed Pointers ∷ slot.Value ∷ slot.Align ∷ []
form_of operation.Element = slot.Flags element_flags ∷ slot.Bare AllButVoid ∷ comma ∷ slot.Typed Pointers ∷ slot.Value ∷ slot.Indices ∷ []
form_of operation.Branch = slot.Target ∷ []
form_of operation.Switch = slot.Typed Integers ∷ slot.Value ∷ comma ∷ slot.Keyword word.Label ∷ slot.BlockName ∷ slot.Punctuation mark.OpenSquare ∷ slot.Cases ∷ []
form_of operation.Return = slot.Returned ∷ []
form_of operation.Unreachable = []

-- ══ Rows of places ══

abbrev pub slots_of : Row → List Slot
slots_of row.Nothing = []
slots_of row.Assigned = slot.Punctuation mark.Equals ∷ slot.Operation ∷ []
slots_of (row.Form op) = form_of op
slots_of row.AddressSpaces = slot.NoAddressSpace ∷ []
slots_of row.Array = slot.ElementCount ∷ slot.Keyword word.Times ∷ slot.Bare AllButVoid ∷ slot.Punctuation mark.CloseSquare ∷ []
slots_of row.Struct = slot.Fields ∷ []
slots_of row.RefusedType = slot.Refused ∷ []
slots_of row.OtherFields = slot.MoreFields ∷ []
slots_of row.NextField = slot.Bare AllButVoid ∷ slot.MoreFields ∷ []
slots_of (row.ElementFlags flags) = slot.ConstantFlags flags ∷ []
slots_of row.ConstantElement = slot.Bare AllButVoid ∷ comma ∷ slot.Bare Pointers ∷ slot.Base ∷ slot.ConstantIndices ∷ []
slots_of (row.OtherFlags flags) = slot.Flags flags ∷ []
slots_of row.NextConstantIndex = slot.ConstantIndexType ∷ slot.ConstantIndices ∷ []
slots_of (row.IndexOf scalar) = slot.ConstantIndex scalar ∷ []
slots_of row.AlignFollows = slot.AlignWord ∷ []
slots_of row.AlignmentFollows = slot.Alignment ∷ []
slots_of row.NextIndex = slot.Typed Integers ∷ slot.Value ∷ slot.Indices ∷ []
slots_of row.EntryOfPhi = slot.Value ∷ comma ∷ slot.BlockName ∷ slot.Punctuation mark.CloseSquare ∷ slot.Entries ∷ []
slots_of row.NextEntry = slot.Entry ∷ []
slots_of row.CaseOfSwitch = slot.Constant ∷ comma ∷ slot.Keyword word.Label ∷ slot.BlockName ∷ slot.Cases ∷ []
slots_of row.BlockFollows = slot.BlockName ∷ []
slots_of row.TwoBlocks = slot.Value ∷ comma ∷ slot.Keyword word.Label ∷ slot.BlockName ∷ comma ∷ label
slots_of row.ReturnedValue = slot.Value ∷ []

-- ══ Types in their places ══

abbrev pub scalar_of : (bits : ℕ) → Scalar
scalar_of bits = if bits == 1 then Bit else Integer

abbrev pub takes_integer : Types → (bits : ℕ) → Bool
takes_integer Pointers bits = false
takes_integer Bits bits = bits == 1
takes_integer types bits = true

abbrev pub takes_pointer : Types → Bool
takes_pointer Integers = false
takes_pointer Bits = false
takes_pointer types = true

abbrev pub takes_aggregate : Types → Bool
takes_aggregate AllButVoid = true
takes_aggregate types = false

-- an array or a struct is read to its end also where a place doesn't take it: what is unknown in it comes first
abbrev pub start_by_mark : Types → Mark → TypeStart
start_by_mark types mark.OpenSquare = start.Nested row.Array (takes_aggregate types)
start_by_mark types mark.OpenBrace = start.Nested row.Struct (takes_aggregate types)
start_by_mark types _ = start.Wrong

abbrev pub start_by_word : Types → Word → TypeStart
start_by_word types (word.Integer bits) = if takes_integer types bits then start.Single (scalar_of bits) else start.Wrong
start_by_word types word.Pointer = if takes_pointer types then start.Single Pointer else start.Wrong
start_by_word types word.Void = start.Wrong
start_by_word types _ = start.Unknown

abbrev pub start_by_name : Types → (defined : Bool) → TypeStart
start_by_name types true = if takes_aggregate types then start.Whole else start.Wrong
start_by_name types false = start.Unknown

abbrev pub type_start : Types → What → TypeStart
type_start types (what.Word w) = start_by_word types w
type_start types (what.Local named) = start_by_name types (is_some named.ty)
type_start types (what.Mark m) = start_by_mark types m
type_start types _ = start.Wrong

-- a type of which values follow, and one of which none do, with the places behind it
abbrev pub behind_scalar : Scalar → Row
behind_scalar Pointer = row.AddressSpaces
behind_scalar scalar = row.Nothing

abbrev pub typed : TypeStart → Row → Choice
typed (start.Single scalar) more = choice.TakeType scalar (behind_scalar scalar) more
typed start.Whole more = choice.Take row.Nothing more
typed (start.Nested nested true) more = choice.Take nested more
typed (start.Nested nested false) more = choice.Take nested row.RefusedType
typed start.Unknown more = choice.Unknown
typed start.Wrong more = choice.Wrong

abbrev pub bare : TypeStart → Row → Choice
bare (start.Single scalar) more = choice.Take (behind_scalar scalar) more
bare other more = typed other more

abbrev pub index_by : TypeStart → Choice
index_by (start.Single scalar) = choice.Take (row.IndexOf scalar) row.Nothing
index_by other = typed other row.Nothing

-- ══ Values in their places ══

abbrev pub take : Row → Choice
take more = choice.Take more row.Nothing

abbrev pub take_if : Bool → Row → Choice
take_if test more = if test then take more else choice.Wrong

abbrev pub known_if : Bool → Choice
known_if test = if test then take row.Nothing else choice.Unknown

abbrev pub is_number_type : Scalar → Bool
is_number_type Pointer = false
is_number_type scalar = true

abbrev pub is_bit : Scalar → Bool
is_bit Bit = true
is_bit scalar = false

abbrev pub value_by_word : Scalar → Word → Choice
value_by_word last word.True = take_if (is_bit last) row.Nothing
value_by_word last word.False = take_if (is_bit last) row.Nothing
value_by_word last word.Null = take row.Nothing
value_by_word last word.Undef = take row.Nothing
value_by_word last word.Poison = take row.Nothing
value_by_word last (word.Operation operation.Element) = take (row.ElementFlags element_flags)
value_by_word last _ = choice.Wrong

abbrev pub value_by : Scalar → What → Choice
value_by last (what.Word w) = value_by_word last w
value_by last (what.Number number decimal) = take_if (is_number_type last && decimal) row.Nothing
value_by last (what.Local named) = known_if (is_some named.value)
value_by last what.Global = take row.Nothing
value_by last _ = choice.Wrong

abbrev pub constant_by : Scalar → What → Choice
constant_by last (what.Word word.True) = take_if (is_bit last) row.Nothing
constant_by last (what.Word word.False) = take_if (is_bit last) row.Nothing
constant_by last (what.Number number decimal) = take_if (is_number_type last && decimal) row.Nothing
constant_by last _ = choice.Wrong

-- ══ Flags, words and marks in their places ══

abbrev pub flag_by : FlagSet → What → Choice
flag_by flags (what.Word (word.Flag f)) = take_if (has_flag flags f) (row.OtherFlags (without_flag flags f))
flag_by flags _ = choice.Pass

-- behind the flags of a constant getelementptr stands its bracket
abbrev pub constant_flag_by : FlagSet → What → Choice
constant_flag_by flags (what.Word (word.Flag f)) = take_if (has_flag flags f) (row.ElementFlags (without_flag flags f))
constant_flag_by flags (what.Word w) = choice.Unknown
constant_flag_by flags (what.Mark mark.Open) = take row.ConstantElement
constant_flag_by flags _ = choice.Wrong

abbrev pub operation_by : What → Choice
operation_by (what.Word (word.Operation op)) = take (row.Form op)
operation_by (what.Word w) = choice.Unknown
operation_by _ = choice.Wrong

abbrev pub begin_by : What → Choice
begin_by (what.Local named) = take row.Assigned
begin_by w = operation_by w

abbrev pub address_space_by : What → Choice
address_space_by (what.Word word.AddressSpace) = choice.Unknown
address_space_by _ = choice.Pass

-- a number without a sign
abbrev pub is_count : NumberData → (decimal : Bool) → Bool
is_count number decimal = decimal && not number.negative

-- an alignment is a power of two, and one of 2 ^ 63 or more counts as that: the powers up to it are what divides it
abbrev pub is_alignment : NumberData → (decimal : Bool) → Bool
is_alignment number decimal = is_count number decimal && not (number.size == 0) && 2 ^ 63 % min number.size (2 ^ 63) == 0

abbrev pub count_by : What → Choice
count_by (what.Number number decimal) = take_if (is_count number decimal) row.Nothing
count_by _ = choice.Wrong

abbrev pub alignment_by : What → Choice
alignment_by (what.Number number decimal) = take_if (is_alignment number decimal) row.Nothing
alignment_by _ = choice.Wrong

abbrev pub align_word_by : What → Choice
align_word_by (what.Word word.Align) = take row.AlignmentFollows
align_word_by (what.Word word.AddressSpace) = choice.Unknown
align_word_by _ = choice.Wrong

abbrev pub predicate_by : What → Choice
predicate_by (what.Word (word.Predicate pred)) = take row.Nothing
predicate_by (what.Word w) = choice.Unknown
predicate_by _ = choice.Wrong

abbrev pub block_by : What → Choice
block_by (what.Local named) = known_if (is_some named.block)
block_by _ = choice.Wrong

abbrev pub base_by : What → Choice
base_by what.Global = take row.Nothing
base_by _ = choice.Wrong

-- the words and marks that stand at fixed places
abbrev pub is_keyword : Word → What → Bool
is_keyword word.To (what.Word word.To) = true
is_keyword word.Label (what.Word word.Label) = true
is_keyword word.Times (what.Word word.Times) = true
is_keyword word.Void (what.Word word.Void) = true
is_keyword w _ = false

abbrev pub is_same_mark : Mark → Mark → Bool
is_same_mark mark.Comma mark.Comma = true
is_same_mark mark.Equals mark.Equals = true
is_same_mark mark.Open mark.Open = true
is_same_mark mark.Close mark.Close = true
is_same_mark mark.OpenSquare mark.OpenSquare = true
is_same_mark mark.CloseSquare mark.CloseSquare = true
is_same_mark mark.OpenBrace mark.OpenBrace = true
is_same_mark mark.CloseBrace mark.CloseBrace = true
is_same_mark one _ = false

abbrev pub is_mark : Mark → What → Bool
is_mark m (what.Mark other) = is_same_mark m other
is_mark m _ = false

-- behind a comma, or passed without one
abbrev pub comma_or_pass : Row → What → Choice
comma_or_pass more w = if is_mark mark.Comma w then take more else choice.Pass

-- the end of a list, or a comma and the next member
abbrev pub end_or_comma : Mark → Row → What → Choice
end_or_comma end more w = if is_mark end w then take row.Nothing else take_if (is_mark mark.Comma w) more

abbrev pub fields_by : What → Choice
fields_by w = if is_mark mark.CloseBrace w then take row.Nothing else bare (type_start AllButVoid w) row.OtherFields

abbrev pub cases_by : What → Choice
cases_by w = if is_mark mark.CloseSquare w then take row.Nothing else typed (type_start Integers w) row.CaseOfSwitch

abbrev pub target_by : What → Choice
target_by w = if is_keyword word.Label w then take row.BlockFollows else typed (type_start Bits w) row.TwoBlocks

abbrev pub returned_by : What → Choice
returned_by w = if is_keyword word.Void w then take row.Nothing else typed (type_start IntegersAndPointers w) row.ReturnedValue

-- ══ The table ══

-- what a place says of a token, where `last` is the type of values
abbrev pub choose : (last : Scalar) → Slot → What → Choice
choose last slot.Begin w = begin_by w
choose last slot.Operation w = operation_by w
choose last (slot.Typed types) w = typed (type_start types w) row.Nothing
choose last (slot.Bare types) w = bare (type_start types w) row.Nothing
choose last slot.NoAddressSpace w = address_space_by w
choose last slot.Refused w = choice.Wrong
choose last slot.ElementCount w = count_by w
choose last slot.Fields w = fields_by w
choose last slot.MoreFields w = end_or_comma mark.CloseBrace row.NextField w
choose last slot.Value w = value_by last w
choose last slot.Constant w = constant_by last w
choose last (slot.ConstantFlags flags) w = constant_flag_by flags w
choose last slot.Base w = base_by w
choose last slot.ConstantIndices w = end_or_comma mark.Close row.NextConstantIndex w
choose last slot.ConstantIndexType w = index_by (type_start Integers w)
choose last (slot.ConstantIndex scalar) w = constant_by scalar w
choose last (slot.Flags flags) w = flag_by flags w
choose last slot.Predicate w = predicate_by w
choose last (slot.Keyword word) w = take_if (is_keyword word w) row.Nothing
choose last (slot.Punctuation mark) w = take_if (is_mark mark w) row.Nothing
choose last slot.BlockName w = block_by w
choose last slot.Align w = comma_or_pass row.AlignFollows w
choose last slot.AlignWord w = align_word_by w
choose last slot.Alignment w = alignment_by w
choose last slot.Indices w = comma_or_pass row.NextIndex w
choose last slot.Entry w = take_if (is_mark mark.OpenSquare w) row.EntryOfPhi
choose last slot.Entries w = comma_or_pass row.NextEntry w
choose last slot.Cases w = cases_by w
choose last slot.Target w = target_by w
choose last slot.Returned w = returned_by w

-- places that nothing need stand in
abbrev pub is_free : Slot → Bool
is_free slot.NoAddressSpace = true
is_free (slot.Flags flags) = true
is_free slot.Align = true
is_free slot.Indices = true
is_free slot.Entries = true
is_free _ = false
