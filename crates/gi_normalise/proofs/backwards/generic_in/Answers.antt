use Rattle.std.proofs.Common.{◌∙◌, Option, ap, subst, sym}
use Rattle.gi_mir.specs.Data.{InstrData}
use Rattle.gi_mir.specs.Row.{is_generic_op}
use Rattle.gi_mir.specs.Edit.{block_at}
use Rattle.gi_mir.specs.declared.block.InstrId.{InstrId}
use Rattle.gi_normalise.specs.Gaps.{IsClearBehind}
use Rattle.gi_normalise.proofs.Clear.{ahead-fewer, ahead-more, is-ahead, last-ahead, none-left}
use Rattle.gi_normalise.proofs.backwards.generic_in.Goals as goal

pub instr-requires : goal.instr-requires
instr-requires c = (is-ahead c.args.function.now c.args.gap.block c.loop-ahead.ahead c.in-Some.id c.own_ids.ensures c.loop-ahead.invariant c.in-Some.is).stands.live

pub returns-then-is_generic : goal.returns-then-is_generic
returns-then-is_generic c =
    let ahead = is-ahead c.args.function.now c.args.gap.block c.loop-ahead.ahead c.in-Some.id c.own_ids.ensures c.loop-ahead.invariant c.in-Some.is in
    last-ahead c.args.function.now c.args.gap.block c.in-Some.id c.instr.result.now ahead c.instr.ensures.value (sym (ap (λ (i : InstrData). is_generic_op i.op) c.behind-function.view_is) ∙ sym c.is_generic.ensures ∙ c.if-is_generic.true)

pub preceding-ahead-requires : goal.preceding-ahead-requires
preceding-ahead-requires c = (is-ahead c.args.function.now c.args.gap.block c.loop-ahead.ahead c.in-Some.id c.own_ids.ensures c.loop-ahead.invariant c.in-Some.is).stands.live

pub loop-ahead-smaller : goal.loop-ahead-smaller
loop-ahead-smaller c =
    let ahead = is-ahead c.args.function.now c.args.gap.block c.loop-ahead.ahead c.in-Some.id c.own_ids.ensures c.loop-ahead.invariant c.in-Some.is in
    rw c.in-Some.is (ahead-fewer c.args.function.now c.args.gap.block c.in-Some.id c.preceding-ahead.result c.own_ids.ensures ahead c.preceding-ahead.ensures)

pub loop-ahead-preserved : goal.loop-ahead-preserved
loop-ahead-preserved c =
    let ahead = is-ahead c.args.function.now c.args.gap.block c.loop-ahead.ahead c.in-Some.id c.own_ids.ensures c.loop-ahead.invariant c.in-Some.is in
    ahead-more c.args.function.now c.args.gap.block c.in-Some.id c.instr.result.now c.preceding-ahead.result ahead c.instr.ensures.value (sym (ap (λ (i : InstrData). is_generic_op i.op) c.behind-function.view_is) ∙ sym c.is_generic.ensures ∙ c.if-is_generic.false) c.preceding-ahead.ensures

pub returns : goal.returns
returns c =
    none-left (block_at c.args.function.now c.args.gap.block).instrs
    (subst (λ (o : Option InstrId). IsClearBehind (block_at c.args.function.now c.args.gap.block).instrs o) c.in_default.is c.loop-ahead.invariant)
