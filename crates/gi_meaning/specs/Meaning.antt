-- The table of what each opcode means.
-- (Generic Opcodes; Machine IR's target-independent opcodes; RISC-V unprivileged ISA, RV32I, RV64I and M.)
use Rattle.std.specs.Prelude.{ℕ, ◌+◌, ◌/◌, List, Bool, true, false, not, ◌==◌, nat_lt, nat_le, int_lt, int_le, bit_and, bit_xor, if◌then◌else◌, nat_abs, pos}
use Rattle.gi_llt.specs.Bits.{wrapped, signed, unsigned, sign_extended, unsigned_high_product, signed_high_product}
use Rattle.gi_mir.specs.declared.opcode.Opcode.{Opcode}
use Rattle.gi_mir.specs.declared.opcode.Opcode.TheVariants as op
use Rattle.gi_mir.specs.Row.{is_wide_op, memory_of}
use Rattle.gi_mir.specs.declared.entry.InMemory.{InMemory}
use Rattle.gi_mir.specs.declared.entry.InMemory.TheVariants as memory
use Rattle.gi_mir.specs.declared.operand.Flags.{Flags}
use Rattle.gi_mir.specs.declared.operand.Pred.TheVariants.{Sgt, Slt, Ugt, Ult}
use Rattle.gi_meaning.specs.Given.{Given, one, free, in_low_bits}
use Rattle.gi_meaning.specs.Argument.{Argument}
use Rattle.gi_meaning.specs.Generic as generic
use Rattle.gi_meaning.specs.Machine as machine

-- how a load fills the bits above those of memory
pub data Extension : Type 0 where
  Anything : Extension
  Zeros : Extension
  Signs : Extension

pub data Meaning : Type 0 where
  -- a value moved from a register to another, which may have another width while selection goes on
  Copying : Meaning
  -- results from the widths of the results and the arguments
  Generic : (gives : List ℕ → List Argument → Given) → Meaning
  -- a word from the register width and the arguments as words
  Machine : (gives : ℕ → List Argument → Given) → Meaning
  -- a load and a store by the memory operand
  Loading : (extension : Extension) → Meaning
  Storing : Meaning
  -- a load and a store of so many bytes, where the register width is one that has them
  MachineLoading : (exists : ℕ → Bool) → (bytes : ℕ) → (extension : Extension) → Meaning
  MachineStoring : (exists : ℕ → Bool) → (bytes : ℕ) → Meaning
  -- a branch that is always taken, one that is where a value isn't 0, and one that is where a test holds of two words
  Jumping : Meaning
  Branching : Meaning
  MachineBranching : (test : ℕ → ℕ → ℕ → Bool) → Meaning
  Calling : Meaning
  Returning : Meaning
  -- no effect
  Nothing : Meaning
  -- a phi, which takes effect as its block is entered
  Joining : Meaning

abbrev pub always : ℕ → Bool
always x = not false

abbrev pub only_64 : ℕ → Bool
only_64 x = x == 64

-- the register widths that have an opcode
abbrev pub exists_on : Bool → ℕ → Bool
exists_on true = only_64
exists_on false = always

abbrev pub bytes_in : InMemory → ℕ
bytes_in (memory.Bits bits) = bits / 8
bytes_in _ = 0

-- an instruction of the machine, a load and a store, by what the table of opcodes says of them
abbrev pub instruction : Opcode → (gives : ℕ → List Argument → Given) → Meaning
instruction o gives = Machine (if is_wide_op o then machine.on_rv64 gives else gives)

abbrev pub loading_instruction : Opcode → Extension → Meaning
loading_instruction o extension = MachineLoading (exists_on (is_wide_op o)) (bytes_in (memory_of o)) extension

abbrev pub storing_instruction : Opcode → Meaning
storing_instruction o = MachineStoring (exists_on (is_wide_op o)) (bytes_in (memory_of o))

abbrev pub meaning_of : Flags → Opcode → Meaning
-- in every stage
meaning_of flags op.Copy = Copying
meaning_of flags op.Phi = Joining
meaning_of flags op.ImplicitDef = Generic (generic.nullary free)
meaning_of flags op.PseudoCall = Calling
meaning_of flags op.PseudoReturn = Returning
meaning_of flags op.AdjustCallStackDown = Nothing
meaning_of flags op.AdjustCallStackUp = Nothing
-- values, addresses and pointers
meaning_of flags op.GenericImplicitDef = Generic (generic.nullary free)
meaning_of flags op.GenericConstant = Generic generic.constant
meaning_of flags op.GenericFreeze = Generic (generic.unary (λ m n a. one a))
meaning_of flags op.GenericFrameIndex = Generic (generic.unary (λ m n a. one a))
meaning_of flags op.GenericGlobalValue = Generic generic.symbol_address
meaning_of flags op.GenericPointerAdd = Generic (generic.binary (λ n a b. one (wrapped n (a + b))))
meaning_of flags op.GenericPointerToInteger = Generic (generic.unary (λ m n a. one (wrapped n a)))
meaning_of flags op.GenericIntegerToPointer = Generic (generic.unary (λ m n a. one (wrapped n a)))
-- casts
meaning_of flags op.GenericTruncate = Generic (generic.unary (λ m n a. one (wrapped n a)))
meaning_of flags op.GenericAnyExtend = Generic (generic.unary (λ m n a. in_low_bits m n a))
meaning_of flags op.GenericZeroExtend = Generic (generic.unary (generic.zero_extension flags))
meaning_of flags op.GenericSignExtend = Generic (generic.unary (λ m n a. one (sign_extended m n a)))
meaning_of flags op.GenericSignExtendInRegister = Generic generic.extension_in_register
meaning_of flags op.GenericMergeValues = Generic generic.merge
meaning_of flags op.GenericUnmergeValues = Generic generic.unmerge
-- arithmetic and logic
meaning_of flags op.GenericAdd = Generic (generic.binary (generic.sum flags))
meaning_of flags op.GenericSubtract = Generic (generic.binary (generic.difference flags))
meaning_of flags op.GenericMultiply = Generic (generic.binary (generic.product flags))
meaning_of flags op.GenericAnd = Generic (generic.binary (λ n a b. one (bit_and a b)))
meaning_of flags op.GenericOr = Generic (generic.binary (generic.disjunction flags))
meaning_of flags op.GenericXor = Generic (generic.binary (λ n a b. one (bit_xor a b)))
meaning_of flags op.GenericUnsignedDivide = Generic (generic.binary (generic.unsigned_quotient flags))
meaning_of flags op.GenericSignedDivide = Generic (generic.binary (generic.signed_quotient flags))
meaning_of flags op.GenericUnsignedRemainder = Generic (generic.binary generic.unsigned_remainder)
meaning_of flags op.GenericSignedRemainder = Generic (generic.binary generic.signed_remainder)
meaning_of flags op.GenericShiftLeft = Generic (generic.binary (generic.shifted_left flags))
meaning_of flags op.GenericLogicalShiftRight = Generic (generic.binary (generic.shifted_right flags))
meaning_of flags op.GenericArithmeticShiftRight = Generic (generic.binary (generic.arithmetically_shifted_right flags))
meaning_of flags op.GenericUnsignedAddOverflow = Generic (generic.binary_with_bit (λ n a b. generic.sum_with_carry n a b 0))
meaning_of flags op.GenericUnsignedSubtractOverflow = Generic (generic.binary_with_bit (λ n a b. generic.difference_with_borrow n a b 0))
meaning_of flags op.GenericUnsignedAddCarry = Generic (generic.ternary_with_bit generic.sum_with_carry)
meaning_of flags op.GenericUnsignedSubtractBorrow = Generic (generic.ternary_with_bit generic.difference_with_borrow)
meaning_of flags op.GenericUnsignedMultiplyHigh = Generic (generic.binary (λ n a b. one (unsigned_high_product n a b)))
meaning_of flags op.GenericSignedMultiplyHigh = Generic (generic.binary (λ n a b. one (signed_high_product n a b)))
-- comparisons and choices
meaning_of flags op.GenericCompare = Generic generic.comparison
meaning_of flags op.GenericSelect = Generic (generic.ternary (λ n c a b. one (if c == 0 then b else a)))
meaning_of flags op.GenericSignedMinimum = Generic (generic.binary (λ n a b. one (generic.better Slt n a b)))
meaning_of flags op.GenericSignedMaximum = Generic (generic.binary (λ n a b. one (generic.better Sgt n a b)))
meaning_of flags op.GenericUnsignedMinimum = Generic (generic.binary (λ n a b. one (generic.better Ult n a b)))
meaning_of flags op.GenericUnsignedMaximum = Generic (generic.binary (λ n a b. one (generic.better Ugt n a b)))
meaning_of flags op.GenericAbsolute = Generic (generic.unary (λ m n a. one (unsigned n (pos (nat_abs (signed m a))))))
-- bits
meaning_of flags op.GenericCountLeadingZeros = Generic (generic.unary (λ m n a. one (generic.leading_zeros m a)))
meaning_of flags op.GenericCountTrailingZeros = Generic (generic.unary (λ m n a. one (generic.trailing_zeros m a)))
meaning_of flags op.GenericPopulationCount = Generic (generic.unary (λ m n a. one (generic.ones m a)))
meaning_of flags op.GenericCountLeadingZerosNotOfZero = Generic (generic.unary (λ m n a. if a == 0 then free n else one (generic.leading_zeros m a)))
meaning_of flags op.GenericCountTrailingZerosNotOfZero = Generic (generic.unary (λ m n a. if a == 0 then free n else one (generic.trailing_zeros m a)))
meaning_of flags op.GenericByteSwap = Generic (generic.unary (λ m n a. one (generic.byte_swap_of m a)))
meaning_of flags op.GenericFunnelShiftLeft = Generic (generic.ternary (λ n a b k. one (generic.funnel_left n a b k)))
meaning_of flags op.GenericFunnelShiftRight = Generic (generic.ternary (λ n a b k. one (generic.funnel_right n a b k)))
meaning_of flags op.GenericRotateLeft = Generic (generic.binary (λ n a k. one (generic.funnel_left n a a k)))
meaning_of flags op.GenericRotateRight = Generic (generic.binary (λ n a k. one (generic.funnel_right n a a k)))
-- memory
meaning_of flags op.GenericLoad = Loading Anything
meaning_of flags op.GenericZeroExtendLoad = Loading Zeros
meaning_of flags op.GenericSignExtendLoad = Loading Signs
meaning_of flags op.GenericStore = Storing
-- the way through the blocks
meaning_of flags op.GenericPhi = Joining
meaning_of flags op.GenericBranch = Jumping
meaning_of flags op.GenericBranchConditional = Branching
-- RISC-V, on two registers
meaning_of flags op.Add = Machine (machine.on_words machine.sum_word)
meaning_of flags op.Subtract = Machine (machine.on_words generic.difference_of)
meaning_of flags op.And = Machine (machine.on_words machine.and_word)
meaning_of flags op.Or = Machine (machine.on_words machine.or_word)
meaning_of flags op.Xor = Machine (machine.on_words machine.xor_word)
meaning_of flags op.SetLess = Machine (machine.on_words machine.less_word)
meaning_of flags op.SetLessUnsigned = Machine (machine.on_words machine.less_unsigned_word)
meaning_of flags op.ShiftLeftLogical = Machine (machine.on_words machine.left_word)
meaning_of flags op.ShiftRightLogical = Machine (machine.on_words machine.right_word)
meaning_of flags op.ShiftRightArithmetic = Machine (machine.on_words machine.arithmetic_right_word)
meaning_of flags op.Multiply = Machine (machine.on_words machine.product_word)
meaning_of flags op.MultiplyHigh = Machine (machine.on_words signed_high_product)
meaning_of flags op.MultiplyHighUnsigned = Machine (machine.on_words unsigned_high_product)
meaning_of flags op.Divide = Machine (machine.on_words machine.quotient_word)
meaning_of flags op.DivideUnsigned = Machine (machine.on_words machine.quotient_unsigned_word)
meaning_of flags op.Remainder = Machine (machine.on_words machine.remainder_word)
meaning_of flags op.RemainderUnsigned = Machine (machine.on_words machine.remainder_unsigned_word)
-- RISC-V, on a register and an immediate
meaning_of flags op.AddImmediate = Machine machine.add_immediate
meaning_of flags op.SetLessImmediate = Machine (machine.on_immediate machine.less_word)
meaning_of flags op.SetLessImmediateUnsigned = Machine (machine.on_immediate machine.less_unsigned_word)
meaning_of flags op.AndImmediate = Machine (machine.on_immediate machine.and_word)
meaning_of flags op.OrImmediate = Machine (machine.on_immediate machine.or_word)
meaning_of flags op.XorImmediate = Machine (machine.on_immediate machine.xor_word)
meaning_of flags op.ShiftLeftLogicalImmediate = Machine (machine.by_amount (λ x. x) machine.left_word)
meaning_of flags op.ShiftRightLogicalImmediate = Machine (machine.by_amount (λ x. x) machine.right_word)
meaning_of flags op.ShiftRightArithmeticImmediate = Machine (machine.by_amount (λ x. x) machine.arithmetic_right_word)
meaning_of flags op.LoadUpperImmediate = Machine machine.load_upper
-- RV64, on the low 32 bits
meaning_of flags op.AddWord = instruction op.AddWord (machine.on_words (machine.on_low_half machine.sum_word))
meaning_of flags op.SubtractWord = instruction op.SubtractWord (machine.on_words (machine.on_low_half generic.difference_of))
meaning_of flags op.MultiplyWord = instruction op.MultiplyWord (machine.on_words (machine.on_low_half machine.product_word))
meaning_of flags op.ShiftLeftLogicalWord = instruction op.ShiftLeftLogicalWord (machine.on_words (machine.on_low_half machine.left_word))
meaning_of flags op.ShiftRightLogicalWord = instruction op.ShiftRightLogicalWord (machine.on_words (machine.on_low_half machine.right_word))
meaning_of flags op.ShiftRightArithmeticWord = instruction op.ShiftRightArithmeticWord (machine.on_words (machine.on_low_half machine.arithmetic_right_word))
meaning_of flags op.DivideWord = instruction op.DivideWord (machine.on_words (machine.on_low_half machine.quotient_word))
meaning_of flags op.DivideUnsignedWord = instruction op.DivideUnsignedWord (machine.on_words (machine.on_low_half machine.quotient_unsigned_word))
meaning_of flags op.RemainderWord = instruction op.RemainderWord (machine.on_words (machine.on_low_half machine.remainder_word))
meaning_of flags op.RemainderUnsignedWord = instruction op.RemainderUnsignedWord (machine.on_words (machine.on_low_half machine.remainder_unsigned_word))
meaning_of flags op.AddImmediateWord = instruction op.AddImmediateWord (machine.on_immediate (machine.on_low_half machine.sum_word))
meaning_of flags op.ShiftLeftLogicalImmediateWord = instruction op.ShiftLeftLogicalImmediateWord (machine.by_amount (λ x. 32) (machine.on_low_half machine.left_word))
meaning_of flags op.ShiftRightLogicalImmediateWord = instruction op.ShiftRightLogicalImmediateWord (machine.by_amount (λ x. 32) (machine.on_low_half machine.right_word))
meaning_of flags op.ShiftRightArithmeticImmediateWord = instruction op.ShiftRightArithmeticImmediateWord (machine.by_amount (λ x. 32) (machine.on_low_half machine.arithmetic_right_word))
-- RISC-V, memory
meaning_of flags op.LoadByte = loading_instruction op.LoadByte Signs
meaning_of flags op.LoadHalf = loading_instruction op.LoadHalf Signs
meaning_of flags op.LoadWord = loading_instruction op.LoadWord Signs
meaning_of flags op.LoadByteUnsigned = loading_instruction op.LoadByteUnsigned Zeros
meaning_of flags op.LoadHalfUnsigned = loading_instruction op.LoadHalfUnsigned Zeros
meaning_of flags op.LoadWordUnsigned = loading_instruction op.LoadWordUnsigned Zeros
meaning_of flags op.LoadDouble = loading_instruction op.LoadDouble Signs
meaning_of flags op.StoreByte = storing_instruction op.StoreByte
meaning_of flags op.StoreHalf = storing_instruction op.StoreHalf
meaning_of flags op.StoreWord = storing_instruction op.StoreWord
meaning_of flags op.StoreDouble = storing_instruction op.StoreDouble
-- RISC-V, branches
meaning_of flags op.BranchEqual = MachineBranching (λ x a b. a == b)
meaning_of flags op.BranchNotEqual = MachineBranching (λ x a b. not (a == b))
meaning_of flags op.BranchLess = MachineBranching (λ x a b. int_lt (signed x a) (signed x b))
meaning_of flags op.BranchGreaterEqual = MachineBranching (λ x a b. int_le (signed x b) (signed x a))
meaning_of flags op.BranchLessUnsigned = MachineBranching (λ x a b. nat_lt a b)
meaning_of flags op.BranchGreaterEqualUnsigned = MachineBranching (λ x a b. nat_le b a)
meaning_of flags op.PseudoBranch = Jumping

abbrev pub is_joining : Meaning → Bool
is_joining Joining = not false
is_joining _ = false
