use Rattle.std.proofs.Common.{[], refl, ◌∙◌}
use Rattle.std.proofs.lemmas.List.Elements.{All-nil, All-same, All-take, All-drop}
use Rattle.gi_mir_read.specs.Functions.Blocked.{IsToldIn, begins_block}
use Rattle.gi_mir_read.proofs.RunCuts.{run_before, run_whole, past_before, past_whole}
use Rattle.gi_mir_read.proofs.Functions.ToldCuts.{cut_at, unheaded}
use Rattle.gi_mir_read.proofs.function.told.cut_at_block.Goals as goal

pub returns-in-Some-clause-cut : goal.returns-in-Some-clause-cut
returns-in-Some-clause-cut c =
    let told = c.args.told.now in
    λ text all. cut_at text told c.split_at.result.0.now c.split_at.result.1.now all
    (c.split_at.ensures.front ∙ run_before begins_block unheaded (λ t. refl) told c.in-Some.place c.in-Some.ensures.place)
    (c.split_at.ensures.back ∙ past_before begins_block unheaded (λ t. refl) told c.in-Some.place c.in-Some.ensures.place)
    (All-same (IsToldIn text) c.split_at.result.0.now _ c.split_at.ensures.front (All-take (IsToldIn text) c.in-Some.place told all))
    (All-same (IsToldIn text) c.split_at.result.1.now _ c.split_at.ensures.back (All-drop (IsToldIn text) c.in-Some.place told all))

pub returns-in-None-clause-cut : goal.returns-in-None-clause-cut
returns-in-None-clause-cut c =
    let told = c.args.told.now in
    λ text all. cut_at text told told [] all
    (run_whole begins_block unheaded (λ t. refl) told c.in-None.ensures.place)
    (past_whole begins_block unheaded (λ t. refl) told c.in-None.ensures.place)
    all (All-nil (IsToldIn text))
