use Rattle.std.proofs.Common.{◌≤◌, not, rules, length, take, drop, sym, subst, ap, ◌∙◌}
use Rattle.gi_spelling.specs.Printed.{is_definition}
use Rattle.gi_mir.proofs.Places.{place_of_answer, position_or_len-bound}
use Rattle.gi_mir_print.proofs.OperandLemmas.{definitions_taken, sources_dropped}
use Rattle.gi_mir_print.proofs.instruction.definition_count.Goals as goal

pub returns-clause-within : goal.returns-clause-within
returns-clause-within c = subst (λ n. n ≤ length c.args.operands.now) (sym (place_of_answer (λ x. not (is_definition x)) c.args.operands.now c.definition_end.result c.unwrap_or.result c.definition_end.ensures (search rules))) (position_or_len-bound (λ x. not (is_definition x)) c.args.operands.now)

pub returns-clause-definitions : goal.returns-clause-definitions
returns-clause-definitions c = ap (λ n. take n c.args.operands.now) (place_of_answer (λ x. not (is_definition x)) c.args.operands.now c.definition_end.result c.unwrap_or.result c.definition_end.ensures (search rules)) ∙ definitions_taken c.args.operands.now

pub returns-clause-sources : goal.returns-clause-sources
returns-clause-sources c = ap (λ n. drop n c.args.operands.now) (place_of_answer (λ x. not (is_definition x)) c.args.operands.now c.definition_end.result c.unwrap_or.result c.definition_end.ensures (search rules)) ∙ sources_dropped c.args.operands.now
