use Rattle.std.proofs.Common.{Some, ap, sym, ◌∙◌, arith}
use Rattle.gi_spelling.specs.Resolved.{resolved_definition}
use Rattle.gi_resolve.proofs.EachLemmas.{each-more, each-none}
use Rattle.gi_resolve.proofs.resolve.definitions.Goals as goal

pub returns-in-None : goal.returns-in-None
returns-in-None c =
    sym (each-none (resolved_definition c.args.tables.now.classes) c.args.written.now c.loop-definition.definition-index _ (omega arith) (sym c.in-None.ensures))

pub loop-definition-preserved : goal.loop-definition-preserved
loop-definition-preserved c =
    each-more (resolved_definition c.args.tables.now.classes) c.args.written.now c.loop-definition.definition-index _ c.loop-definition.operands.items c.in-Some.operand
    (omega arith) c.loop-definition.invariant (sym c.in-Some.ensures) ∙ ap Some (sym c.in_ok-append-in-Some.ensures)
