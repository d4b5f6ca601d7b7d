use Rattle.std.proofs.Common.{◌∙◌, ap, arith, false, option_map, sym}
use Rattle.gi_mir.specs.declared.block.InstrId.{InstrId}
use Rattle.gi_normalise.proofs.Clear.{clear-before, last-in-gap, last-live, none-in-gap}
use Rattle.gi_normalise.proofs.backwards.generic_before.Goals as goal

pub returns-in-Some-clause-last : goal.returns-in-Some-clause-last
returns-in-Some-clause-last c = λ fits. sym (last-in-gap c.args.function.now c.loop-id.gap c.in-Some.id.0 fits c.loop-id.invariant (sym c.generic_in.ensures ∙ ap (option_map (λ (id : InstrId). id.0)) c.in-Some.is))

pub returns-in-Some-clause-live : goal.returns-in-Some-clause-live
returns-in-Some-clause-live c = last-live (λ id. false) c.args.function.now c.in-Some.id.0 (last-in-gap c.args.function.now c.loop-id.gap c.in-Some.id.0 (λ id. false) c.loop-id.invariant (sym c.generic_in.ensures ∙ ap (option_map (λ (id : InstrId). id.0)) c.in-Some.is))

pub returns-then-gap-eq0-clause-last : goal.returns-then-gap-eq0-clause-last
returns-then-gap-eq0-clause-last c = λ fits. sym (none-in-gap c.args.function.now c.loop-id.gap fits c.loop-id.invariant c.if-gap-eq0.true (sym c.generic_in.ensures ∙ ap (option_map (λ (id : InstrId). id.0)) c.in_default.is))

pub loop-id-preserved : goal.loop-id-preserved
loop-id-preserved c = clear-before c.args.function.now c.loop-id.gap c.end-gap.result c.loop-id.invariant (omega (arith, c.if-gap-eq0.false)) c.end-gap.ensures.block c.end-gap.ensures.end (sym c.generic_in.ensures ∙ ap (option_map (λ (id : InstrId). id.0)) c.in_default.is)
