use Rattle.std.proofs.Common.{◌≡◌, suc, length, ap, arith}
use Rattle.gi_mir.proofs.ArenaLemmas.{chain-length}
use Rattle.gi_mir.specs.Arena.{chain}
use Rattle.gi_mir.specs.Instrs.{left}
use Rattle.gi_mir.proofs.instrs.chain_length.Goals as goal

pub loop-numbered-init : goal.loop-numbered-init
unfolding left
loop-numbered-init c =
    let all : length (left c.into_iter-numbered-iterator.result) ≡ length (chain c.args.slots.now c.args.count c.args.next) = ap (λ it. length (left it)) c.into_iter-numbered-iterator.ensures.into_iter_gives in
    omega (arith, all)

pub overflow_add-length : goal.overflow_add-length
overflow_add-length c =
    let one : length (left c.loop-numbered.numbered-iterator) ≡ suc (length (left c.next.new.self)) = ap length c.in-Some.ensures.steps in
    omega (arith, one, c.loop-numbered.invariant, chain-length c.args.slots.now c.args.count c.args.next, c.ranges.count.fits)

pub loop-numbered-preserved : goal.loop-numbered-preserved
loop-numbered-preserved c =
    let one : length (left c.loop-numbered.numbered-iterator) ≡ suc (length (left c.next.new.self)) = ap length c.in-Some.ensures.steps in
    omega (arith, one, c.loop-numbered.invariant)

pub returns : goal.returns
returns c =
    let none : length (left c.loop-numbered.numbered-iterator) ≡ 0 = ap length c.in-None.ensures.steps.0 in
    omega (arith, none, c.loop-numbered.invariant)
