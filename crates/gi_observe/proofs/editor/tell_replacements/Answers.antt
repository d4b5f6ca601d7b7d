use Rattle.std.proofs.Common.{◌≡◌, ◌∙◌, IsTrue, List, Some, ℕ, suc, ◌+◌, drop, ap, filter, subst, sym, refl, arith}
use Rattle.std.specs.Prelude.{map}
use Rattle.gi_mir.specs.Edit.{IsLive, all_instrs, instr_of, users_of, uses}
use Rattle.gi_mir.specs.InstrLists.{ids_left}
use Rattle.gi_mir.specs.declared.block.InstrId.{InstrId}
use Rattle.gi_observe.specs.Replay.{replacement, replacements}
use Rattle.gi_observe.proofs.Told.{starts, take-more-mapped, told-more, user-next}
use Rattle.gi_observe.proofs.editor.tell_replacements.Goals as goal

abbrev numbers : List InstrId → List ℕ
numbers ids = map (λ (id : InstrId). id.0) ids

pub loop-id-init : goal.loop-id-init
loop-id-init g c = record {
  tells_stays = refl;
  told = (0, ap (λ it. numbers (ids_left it)) c.into_iter-id-iterator.ensures.into_iter_gives ∙ c.uses_of-id-items.ensures, λ tells. starts (g.O.ChangeObserver.seen c.args.observer.now));
}

pub tell_replacement-requires : goal.tell_replacement-requires
tell_replacement-requires g c =
    let f = c.args.function.now in
    let (k, rest, told) = c.loop-id.invariant.told in
    let (p, at, is, more, found) = user-next f c.args.old.0 k c.in-Some.id.0 (numbers (ids_left c.next.new.self)) c.own_ids.ensures (sym (ap numbers c.in-Some.ensures.steps) ∙ rest) in
    subst (λ (n : ℕ). IsLive f n) is found.live

pub loop-id-preserved : goal.loop-id-preserved
loop-id-preserved g c =
    let f = c.args.function.now in
    let id = c.in-Some.id in
    let (k, rest, told) = c.loop-id.invariant.told in
    let (p, at, is, behind, found) = user-next f c.args.old.0 k id.0 (numbers (ids_left c.next.new.self)) c.own_ids.ensures (sym (ap numbers c.in-Some.ensures.steps) ∙ rest) in
    let instr : instr_of f id.0 ≡ Some p.1 = ap (instr_of f) (sym is) ∙ found.instr in
    let change : replacement f.name c.args.pass c.args.old.0 c.args.new.0 (id.0, p.1) ≡ replacement f.name c.args.pass c.args.old.0 c.args.new.0 p = ap (λ (n : ℕ). replacement f.name c.args.pass c.args.old.0 c.args.new.0 (n, p.1)) (sym is) in
    let more = take-more-mapped (replacement f.name c.args.pass c.args.old.0 c.args.new.0) (filter (uses c.args.old.0) (all_instrs f.blocks)) k p at in
    let one : suc k ≡ k + 1 = omega arith in
    record {
      tells_stays = c.in_ok-tell_replacement.ensures.tells_stays ∙ c.loop-id.invariant.tells_stays;
      told = (
        k + 1,
        behind ∙ ap (λ (n : ℕ). drop n (users_of f c.args.old.0)) one,
        λ tells.
            let told_then : IsTrue (g.O.ChangeObserver.tells c.loop-id.observer) = rw c.loop-id.invariant.tells_stays tells in
            told-more (g.O.ChangeObserver.seen c.args.observer.now) (g.O.ChangeObserver.seen c.loop-id.observer) (g.O.ChangeObserver.seen c.tell_replacement.new.observer)
            (replacements f c.args.pass c.args.old.0 c.args.new.0) k (replacement f.name c.args.pass c.args.old.0 c.args.new.0 p)
            (rw change at ((rw instr at c.in_ok-tell_replacement.ensures.told) told_then)) (told tells) more,
      );
    }
