use Rattle.std.proofs.Common.{◌≡◌, true, List, sym, subst}
use Rattle.std.specs.List.{list_all}
use Rattle.gi_mir.specs.declared.operand.Operand.{Operand}
use Rattle.gi_spelling.specs.Printed.{is_definition}
use Rattle.gi_mir_print.proofs.OperandLemmas.{definitions_all}
use Rattle.gi_mir_print.proofs.instruction.definitions.Goals as goal

pub returns-clause-all : goal.returns-clause-all
returns-clause-all c =
    subst (λ (xs : List Operand). list_all is_definition xs ≡ true) (sym c.definition_count-count.ensures.definitions) (definitions_all c.args.operands.now)
