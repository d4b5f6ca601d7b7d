use Rattle.std.proofs.Common.{[], sym, ap, ◌∙◌, rules}
use Rattle.std.specs.Ordering.{nat_cmp}
use Rattle.std.specs.BTreeMap.{get}
use Rattle.gi_mir.specs.Instrs.{left}
use Rattle.gi_answer.specs.Selecting.{root_of, with_constant}
use Rattle.gi_answer.proofs.SelectLoops.{constants_next, constants_end}
use Rattle.gi_answer.proofs.select.short_constants.Goals as goal

pub loop-numbered-init : goal.loop-numbered-init
loop-numbered-init c = record {
  front = [];
  whole = ap left (sym c.into_iter-numbered-iterator.ensures.into_iter_gives);
  kept = λ r. search rules;
}

pub loop-numbered-preserved : goal.loop-numbered-preserved
loop-numbered-preserved c =
    constants_next _ _ _ _ _ c.in-Some.numbered.now c.requires c.loop-numbered.invariant c.in-Some.ensures.steps
    (λ r. c.in_ok-keep_constant.ensures r ∙ ap (λ root. with_constant root r (get nat_cmp c.loop-numbered.constants r)) (c.root_of.ensures ∙ ap (λ i. root_of i.1) c.numbered.view_is))

pub returns : goal.returns
returns c = constants_end _ _ _ c.loop-numbered.invariant c.in-None.ensures.steps.0
