-- Typings: the types that the results of an opcode, and the virtual registers that it reads, may have.
use Rattle.std.specs.Prelude.{List, [], ◌∷◌, Option, Some, None}
use Rattle.gi_mir.specs.declared.typing.Letter.{Letter}
use Rattle.gi_mir.specs.declared.typing.Letter.TheVariants as letter
use Rattle.gi_mir.specs.declared.typing.Class.{Class}
use Rattle.gi_mir.specs.declared.typing.Class.TheVariants as class
use Rattle.gi_mir.specs.declared.typing.Signature.{Signature}
use Rattle.gi_mir.specs.declared.typing.Signature.TheVariants as signature
use Rattle.gi_mir.specs.declared.typing.Relation.{Relation}
use Rattle.gi_mir.specs.declared.typing.Relation.TheVariants as relation

-- the letters of the results and of the sources in order, each with the letter that any number of further ones have,
-- if there may be some; the classes of the types A and B; and how A and B are related. One letter is one type
pub record TypingData : Type 0 where
  pub results : List Letter
  pub more_results : Option Letter
  pub sources : List Letter
  pub more_sources : Option Letter
  pub a : Class
  pub b : Class
  pub relation : Relation

abbrev pub typed : (results sources : List Letter) → (a b : Class) → TypingData
typed results sources a b = record {
  results = results;
  more_results = None;
  sources = sources;
  more_sources = None;
  a = a;
  b = b;
  relation = relation.Free;
}

-- `G_BR %bb.N`
abbrev pub no_types : TypingData
no_types = typed [] [] class.Any class.Any

-- `%d:A = G_CONSTANT iN V`
abbrev pub no_sources : Class → TypingData
no_sources a = typed (letter.A ∷ []) [] a a

-- `%d:A = G_ABS %a(A)`
abbrev pub one_alike : Class → TypingData
one_alike a = typed (letter.A ∷ []) (letter.A ∷ []) a a

-- `%d:A = G_ADD %a(A), %b(A)`
abbrev pub two_alike : Class → TypingData
two_alike a = typed (letter.A ∷ []) (letter.A ∷ letter.A ∷ []) a a

-- `%d:A = G_FSHL %a(A), %b(A), %n(A)`
abbrev pub three_alike : Class → TypingData
three_alike a = typed (letter.A ∷ []) (letter.A ∷ letter.A ∷ letter.A ∷ []) a a

-- `%d:p0 = G_FRAME_INDEX %stack.N`
abbrev pub one_pointer : TypingData
one_pointer = typed (letter.Pointer ∷ []) [] class.Any class.Any

-- `%d:A = G_PTRTOINT %p(p0)`
abbrev pub from_pointer : Class → TypingData
from_pointer a = typed (letter.A ∷ []) (letter.Pointer ∷ []) a a

-- `%d:p0 = G_INTTOPTR %a(A)`
abbrev pub to_pointer : Class → TypingData
to_pointer a = typed (letter.Pointer ∷ []) (letter.A ∷ []) a a

-- `%d:A = G_TRUNC %b(B)`, A narrower than B
abbrev pub truncation : TypingData
truncation = record (typed (letter.A ∷ []) (letter.B ∷ []) class.Scalar class.Scalar) { relation = relation.Narrower }

-- `%d:A = G_ZEXT %b(B)`, A wider than B
abbrev pub extension : TypingData
extension = record (typed (letter.A ∷ []) (letter.B ∷ []) class.Scalar class.Scalar) { relation = relation.Wider }

-- `%d:p0 = G_PTR_ADD %p(p0), %o(sX)`
abbrev pub pointer_sum : TypingData
pointer_sum = typed (letter.Pointer ∷ []) (letter.Pointer ∷ letter.Register ∷ []) class.Any class.Any

-- `%d:A = G_ICMP intpred(P), %a(B), %b(B)`
abbrev pub comparison : TypingData
comparison = typed (letter.A ∷ []) (letter.B ∷ letter.B ∷ []) class.Condition class.Any

-- `%d:A = G_SELECT %c(B), %a(A), %b(A)`
abbrev pub selection : TypingData
selection = typed (letter.A ∷ []) (letter.B ∷ letter.A ∷ letter.A ∷ []) class.Any class.Condition

-- `%d:A, %e:s1 = G_UADDO %a(A), %b(A)`
abbrev pub carry_out : TypingData
carry_out = typed (letter.A ∷ letter.Bit ∷ []) (letter.A ∷ letter.A ∷ []) class.Wide class.Wide

-- `%d:A, %e:s1 = G_UADDE %a(A), %b(A), %c(s1)`
abbrev pub carry_through : TypingData
carry_through = typed (letter.A ∷ letter.Bit ∷ []) (letter.A ∷ letter.A ∷ letter.Bit ∷ []) class.Wide class.Wide

-- `%d:A = G_MERGE_VALUES %a(B), %b(B), ..`, A the sum of the parts
abbrev pub merge : TypingData
merge = record (typed (letter.A ∷ []) [] class.Scalar class.Scalar) { more_sources = Some letter.B; relation = relation.Sum }

-- `%d:B, %e:B, .. = G_UNMERGE_VALUES %a(A)`, A the sum of the parts
abbrev pub unmerge : TypingData
unmerge = record (typed [] (letter.A ∷ []) class.Scalar class.Scalar) { more_results = Some letter.B; relation = relation.Sum }

-- `%d:A = G_PHI %a(A), %bb.N, %b(A), %bb.M, ..`
abbrev pub joining : TypingData
joining = record (typed (letter.A ∷ []) [] class.Any class.Any) { more_sources = Some letter.A }

-- `G_STORE %a(A), %p(p0)`
abbrev pub store : TypingData
store = typed [] (letter.A ∷ letter.Pointer ∷ []) class.Any class.Any

-- `G_BRCOND %a(A), %bb.N`
abbrev pub one_condition : TypingData
one_condition = typed [] (letter.A ∷ []) class.Condition class.Condition

-- the typing of each signature
abbrev pub typing_by : Signature → TypingData
typing_by signature.NoTypes = no_types
typing_by (signature.NoSources a) = no_sources a
typing_by (signature.OneAlike a) = one_alike a
typing_by (signature.TwoAlike a) = two_alike a
typing_by (signature.ThreeAlike a) = three_alike a
typing_by signature.OnePointer = one_pointer
typing_by (signature.FromPointer a) = from_pointer a
typing_by (signature.ToPointer a) = to_pointer a
typing_by signature.Truncation = truncation
typing_by signature.Extension = extension
typing_by signature.PointerSum = pointer_sum
typing_by signature.Comparison = comparison
typing_by signature.Selection = selection
typing_by signature.CarryOut = carry_out
typing_by signature.CarryThrough = carry_through
typing_by signature.Merge = merge
typing_by signature.Unmerge = unmerge
typing_by signature.Joining = joining
typing_by signature.Store = store
typing_by signature.OneCondition = one_condition
