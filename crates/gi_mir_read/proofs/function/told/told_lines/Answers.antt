use Rattle.std.proofs.Common.{◌≡◌, ap, ◌∙◌, take, arith}
use Rattle.std.specs.Prelude.{filter_map}
use Rattle.std.proofs.lemmas.List.{take_all}
use Rattle.std.proofs.lemmas.List.Elements.{All-same}
use Rattle.gi_mir_read.specs.Functions.Blocked.{IsToldIn, told_lines_at, told_of}
use Rattle.gi_mir_read.proofs.Functions.ToldLemmas.{filter_map-push, told-lines, told-within}
use Rattle.gi_mir_read.proofs.function.told.told_lines.Goals as goal

pub loop-line-preserved : goal.loop-line-preserved
loop-line-preserved c =
    filter_map-push (told_of c.args.text.now) c.args.lines.now c.loop-line.line-index _ _ _ _ (omega arith) c.loop-line.invariant c.in_ok-told_of.ensures c.in_ok-add.ensures

pub returns-clause-told : goal.returns-clause-told
returns-clause-told c =
    let whole : take c.loop-line.line-index c.args.lines.now ≡ c.args.lines.now = take_all c.loop-line.line-index c.args.lines.now (omega arith) in
    ap (told_lines_at c.args.text.now) (c.loop-line.invariant ∙ ap (filter_map (told_of c.args.text.now)) whole) ∙ told-lines c.args.text.now c.args.lines.now

pub returns-clause-within : goal.returns-clause-within
returns-clause-within c =
    let whole : take c.loop-line.line-index c.args.lines.now ≡ c.args.lines.now = take_all c.loop-line.line-index c.args.lines.now (omega arith) in
    All-same (IsToldIn c.args.text.now) c.loop-line.told.items (filter_map (told_of c.args.text.now) c.args.lines.now)
    (c.loop-line.invariant ∙ ap (filter_map (told_of c.args.text.now)) whole) (told-within c.args.text.now c.args.lines.now c.requires.lines)
