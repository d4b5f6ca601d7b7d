-- The one result of an operation on known values.
use Rattle.std.specs.Prelude.{ℕ, suc, ◌^◌, List, [], ◌∷◌, Bool, true, false, not, ◌&&◌, nat_lt, Option, Some, None, if◌then◌else◌}
use Rattle.std.specs.List.{list_all, list_any}
use Rattle.std.specs.Option.{option_map_or}
use Rattle.gi_llt.specs.Llt.{width_of}
use Rattle.gi_llt.specs.declared.Llt.{Llt}
use Rattle.gi_mir.specs.Accepted.{accepts}
use Rattle.gi_mir.specs.Types.{is_any}
use Rattle.gi_mir.specs.declared.opcode.Opcode.{Opcode}
use Rattle.gi_mir.specs.declared.row.Access.{Access}
use Rattle.gi_mir.specs.declared.row.Access.TheVariants as access
use Rattle.gi_mir.specs.declared.row.Form.{Form}
use Rattle.gi_mir.specs.declared.row.Form.TheVariants as form
use Rattle.gi_mir.specs.declared.stage.Stage.TheVariants as stage
use Rattle.gi_mir.specs.declared.typing.Class.{Class}
use Rattle.gi_mir.specs.declared.typing.Class.TheVariants as class
use Rattle.gi_mir.specs.declared.typing.Letter.{Letter}
use Rattle.gi_mir.specs.Row.{rows_of, access_of, typing_of}
use Rattle.gi_mir.specs.Stages.{is_opcode_of}
use Rattle.gi_mir.specs.Typings.{TypingData}
use Rattle.gi_mir.specs.declared.operand.Flags.{Flags}
use Rattle.gi_mir.specs.declared.operand.Pred.{Pred}
use Rattle.gi_meaning.specs.Given.{Given, Exactly, Undefined}
use Rattle.gi_meaning.specs.Argument.{Argument, Value, Test}
use Rattle.gi_meaning.specs.Meaning.{Meaning, Copying, Generic, meaning_of}
use Rattle.gi_meaning.specs.Act.{copy}

-- what an operation that neither memory nor the target decides gives, from the widths of its results
abbrev pub gives_of : Meaning → List ℕ → List Argument → Given
gives_of Copying = copy
gives_of (Generic gives) = gives
gives_of _ = λ widths arguments. Undefined

-- ══ Opcodes ══

-- what may stand after the result of a computation: registers that are read, and a predicate
abbrev pub is_read : Form → Bool
is_read form.Use = true
is_read form.TypedUse = true
is_read form.Parts = true
is_read form.Predicate = true
is_read _ = false

-- one result, and other operands that are read
abbrev pub is_computation : List Form → Bool
is_computation (form.Def ∷ forms) = list_all is_read forms
is_computation _ = false

abbrev pub has_no_memory : Access → Bool
has_no_memory access.Neither = true
has_no_memory _ = false

-- an opcode before selection with one result whose other operands are registers and at most a predicate
abbrev pub is_computed : Opcode → Bool
is_computed op = is_opcode_of stage.Before op && has_no_memory (access_of op) && list_any is_computation (rows_of op)

abbrev pub is_predicate_form : Form → Bool
is_predicate_form form.Predicate = true
is_predicate_form _ = false

abbrev pub has_predicate : Opcode → Bool
has_predicate op = list_any (λ forms. list_any is_predicate_form forms) (rows_of op)

-- a comparison has a predicate, and nothing else has
abbrev pub takes : Opcode → Option Pred → Bool
takes op (Some pred) = has_predicate op
takes op None = not (has_predicate op)

-- at most so many letters, and no further ones
abbrev pub are_few : List Letter → Option Letter → (most : ℕ) → Bool
are_few [] None most = true
are_few (l ∷ ls) None (suc most) = are_few ls None most
are_few _ _ _ = false

abbrev pub is_register_class : Class → Bool
is_register_class class.Register = true
is_register_class _ = false

-- one result, at most two sources, and not of a register's width alone, as high products are
abbrev pub is_few : TypingData → Bool
is_few typing = are_few typing.results typing.more_results 1 && are_few typing.sources typing.more_sources 2 && not (is_register_class typing.a)

-- of those that are computed, an opcode that reads at most two registers, and is no comparison and no high product
abbrev pub reads_few : Opcode → Bool
reads_few op = option_map_or is_few (typing_of op) false && not (has_predicate op)

-- ══ Values ══

-- a value of a type: a number of at most its bits
abbrev pub is_value : ℕ → Llt → ℕ → Bool
is_value x ty value = is_any x ty && nat_lt value (2 ^ width_of x ty)

-- a value of each type
abbrev pub are_values : ℕ → List Llt → List ℕ → Bool
are_values x [] [] = true
are_values x (ty ∷ types) (value ∷ values) = is_value x ty value && are_values x types values
are_values x _ _ = false

-- values in registers of these types
abbrev pub registers : ℕ → List Llt → List ℕ → List Argument
registers x (ty ∷ types) (value ∷ values) = Value (width_of x ty) value ∷ registers x types values
registers x _ _ = []

-- registers, after a predicate if there is one
abbrev pub after_test : Option Pred → List Argument → List Argument
after_test (Some pred) arguments = Test pred ∷ arguments
after_test None arguments = arguments

-- the one result, where there is no choice
abbrev pub only_result : Given → Option ℕ
only_result (Exactly (value ∷ [])) = Some value
only_result _ = None

-- an operation that can be computed: its types are accepted, and its values are of them
abbrev pub can_fold : Opcode → Option Pred → (result : Llt) → (x : ℕ) → List Llt → List ℕ → Bool
can_fold op pred result x types values =
    is_computed op && takes op pred && is_any x result && accepts x op (result ∷ []) types && are_values x types values

abbrev pub fold_of : Opcode → Flags → Option Pred → (result : Llt) → (x : ℕ) → List Llt → List ℕ → Option ℕ
fold_of op flags pred result x types values =
    if can_fold op pred result x types values
    then only_result (gives_of (meaning_of flags op) (width_of x result ∷ []) (after_test pred (registers x types values)))
    else None
