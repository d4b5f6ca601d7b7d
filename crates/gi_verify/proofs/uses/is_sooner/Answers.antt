use Rattle.std.proofs.Common.{sym, subst, ⊎_elim}
use Rattle.gi_mir.specs.Edit.{IsLive}
use Rattle.gi_mir.specs.Instrs.{left}
use Rattle.gi_verify.specs.Settled.{ComesSooner}
use Rattle.gi_verify.proofs.Ordering.{placed_live}
use Rattle.gi_verify.proofs.Sooner.{answer_sooner}
use Rattle.gi_verify.proofs.uses.is_sooner.Goals as goal

pub comes_sooner-requires-clause-live : goal.comes_sooner-requires-clause-live
comes_sooner-requires-clause-live c = subst (IsLive c.args.function.now) (sym c.id_of-id.ensures) (placed_live c.args.function.now c.args.b (left c.args.front) c.args.numbered.now c.requires.placed)

pub returns : goal.returns
returns c = λ h.
    ⊎_elim
    (λ once.
    answer_sooner c.args.function.now c.args.order.now.once c.args.r c.args.b c.requires.within (left c.args.front) c.args.numbered.now c.requires.placed
    (subst (ComesSooner c.args.function.now c.args.order.now.once c.args.r c.args.b) c.id_of-id.ensures once))
    (λ first.
    answer_sooner c.args.function.now c.args.order.now.first c.args.r c.args.b c.requires.within (left c.args.front) c.args.numbered.now c.requires.placed
    (subst (ComesSooner c.args.function.now c.args.order.now.first c.args.r c.args.b) c.id_of-id.ensures first)) (c.comes_sooner.ensures h)
