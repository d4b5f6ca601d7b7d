use Rattle.std.proofs.Common.{ap, sym, ◌∙◌}
use Rattle.gi_meaning.specs.Given.{one}
use Rattle.gi_meaning.proofs.Folding.{merge_at}
use Rattle.gi_meaning.proofs.fold.merged.Goals as goal

pub merged_of-requires-clause-room : goal.merged_of-requires-clause-room
merged_of-requires-clause-room c =
    (merge_at c.args.target.xlen c.width.result c.args.outcome c.args.types.now c.args.values.now _ c.width.ensures c.requires.xlen c.requires.accepted c.requires.fit).room

pub merged_of-requires-clause-fits : goal.merged_of-requires-clause-fits
merged_of-requires-clause-fits c =
    (merge_at c.args.target.xlen c.width.result c.args.outcome c.args.types.now c.args.values.now _ c.width.ensures c.requires.xlen c.requires.accepted c.requires.fit).fit

pub returns-in-len1-up : goal.returns-in-len1-up
returns-in-len1-up c =
    ap one (c.merged_of.ensures
    ∙ sym (merge_at c.args.target.xlen c.width.result c.args.outcome c.args.types.now c.args.values.now _ c.width.ensures c.requires.xlen c.requires.accepted c.requires.fit).whole)
