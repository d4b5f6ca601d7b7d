-- Whether the registers of a function have types.
use Rattle.std.specs.Prelude.{Bool, true, is_some}
use Rattle.std.specs.List.{list_all}
use Rattle.gi_mir.specs.Data.{FunctionData}
use Rattle.gi_mir.specs.Edit.{all_instrs}
use Rattle.gi_mir.specs.Registers.{kind_of, type_of_kind}
use Rattle.gi_mir.specs.declared.operand.Operand.{Operand}
use Rattle.gi_mir.specs.declared.operand.Operand.TheVariants as operand

-- a register of a type, and not of class `gpr`
abbrev pub has_type : FunctionData → Operand → Bool
has_type f (operand.Def r kind) = is_some (type_of_kind (kind_of f r.0))
has_type f (operand.Use r) = is_some (type_of_kind (kind_of f r.0))
has_type f _ = true

abbrev pub have_types : FunctionData → Bool
have_types f = list_all (λ p. list_all (has_type f) p.1.operands) (all_instrs f.blocks)
