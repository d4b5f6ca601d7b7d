use Rattle.std.proofs.Common.{◌∙◌}
use Rattle.gi_verify.proofs.Rising.{predecessor_found}
use Rattle.gi_verify.proofs.predecessors.Predecessors.is_successor.Goals as goal

pub returns : goal.returns
returns c =
    c.is_ok.ensures.value
    ∙ predecessor_found c.args.function.now c.args.b c.args.c c.requires.within c.of.result.now (c.of.ensures ∙ c.requires.all.each c.args.c) c.binary_search.result c.binary_search.ensures.position
