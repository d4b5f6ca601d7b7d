use Rattle.std.proofs.Common.{◌≡◌, ◌∷◌, ◌++◌, ◌∙◌, [], IsTrue, List, OnOk, ap, subst, sym}
use Rattle.std.proofs.lemmas.Result.{on_ok_weaker}
use Rattle.gi_mir.specs.Edit.{home_of, without_instr}
use Rattle.gi_observe.specs.Replay.{IsReplay, change_of}
use Rattle.gi_observe.specs.declared.change.Change.{Change}
use Rattle.gi_observe.specs.declared.change.ChangeKind.TheVariants.{Erased}
use Rattle.gi_replace.specs.Applying.{creations_told, erasure_told, next_to}
use Rattle.gi_replace.proofs.Standing.{instr-live}
use Rattle.gi_replace.proofs.Told.{creations-same, erasure-is, next-named, replay-then, seen-twice, stands-behind}
use Rattle.gi_replace.proofs.applying.replace_root.Goals as goal

pub create_all-requires-clause-stands : goal.create_all-requires-clause-stands
create_all-requires-clause-stands g c =
    let f = c.args.edit.now.function.now in
    stands-behind f c.erase.new.self.function.now c.args.at.0 c.block_of-block.result c.following-before.result c.requires.live (rw c.function.ensures at c.block_of-block.ensures.home) (next-named f c.args.at.0 c.following-before.result (rw c.function-2.ensures at c.following-before.ensures))
    c.in_ok-erase.ensures.rest

pub returns-clause-told : goal.returns-clause-told
returns-clause-told g c =
    let f = c.args.edit.now.function.now in
    let pass = c.args.edit.now.pass in
    let made = c.args.made.now.items in
    let (i, there) = instr-live f c.args.at.0 c.requires.live in
    let same = creations-same c.block_of-block.result (home_of f c.args.at.0) c.following-before.result (next_to f c.args.at.0) made c.erase.new.self.pass pass c.erase.new.self.function.now (without_instr f c.args.at.0)
    (rw c.function.ensures at c.block_of-block.ensures.home) (next-named f c.args.at.0 c.following-before.result (rw c.function-2.ensures at c.following-before.ensures)) c.in_ok-erase.ensures.pass c.in_ok-erase.ensures.rest in
    let start = g.O.ChangeObserver.seen c.args.edit.now.observer.now in
    let middle = g.O.ChangeObserver.seen c.erase.new.self.observer.now in
    let last = g.O.ChangeObserver.seen c.create_all.new.edit.observer.now in
    on_ok_weaker c.create_all.result
    (λ (h : IsTrue (g.O.ChangeObserver.tells c.erase.new.self.observer.now) → last ≡ middle ++ creations_told c.block_of-block.result c.following-before.result made c.erase.new.self.pass c.erase.new.self.function.now) (tells : IsTrue (g.O.ChangeObserver.tells c.args.edit.now.observer.now)).
    let tells_then : IsTrue (g.O.ChangeObserver.tells c.erase.new.self.observer.now) = rw c.in_ok-erase.ensures.tells_stays tells in
    let one : middle ≡ start ++ change_of f.name pass (Erased c.args.at i) ∷ [] = rw there at c.in_ok-erase.ensures.told tells in
    seen-twice start middle last (erasure_told c.args.at.0 pass f) (creations_told (home_of f c.args.at.0) (next_to f c.args.at.0) made pass (without_instr f c.args.at.0))
    (one ∙ ap (λ (cs : List Change). start ++ cs) (sym (erasure-is f c.args.at i pass there)))
    (h tells_then ∙ ap (λ (cs : List Change). middle ++ cs) same))
    c.create_all.ensures.told

pub returns-clause-replay : goal.returns-clause-replay
returns-clause-replay g c =
    let f = c.args.edit.now.function.now in
    let h = c.erase.new.self.function.now in
    let pass = c.args.edit.now.pass in
    let made = c.args.made.now.items in
    let (i, there) = instr-live f c.args.at.0 c.requires.live in
    let same = creations-same c.block_of-block.result (home_of f c.args.at.0) c.following-before.result (next_to f c.args.at.0) made c.erase.new.self.pass pass h (without_instr f c.args.at.0)
    (rw c.function.ensures at c.block_of-block.ensures.home) (next-named f c.args.at.0 c.following-before.result (rw c.function-2.ensures at c.following-before.ensures)) c.in_ok-erase.ensures.pass c.in_ok-erase.ensures.rest in
    let one : IsReplay (change_of f.name pass (Erased c.args.at i) ∷ []) f h = rw there at c.in_ok-erase.ensures.replay in
    replay-then c.create_all.result (erasure_told c.args.at.0 pass f) (creations_told (home_of f c.args.at.0) (next_to f c.args.at.0) made pass (without_instr f c.args.at.0)) f h c.create_all.new.edit.function.now
    (subst (λ (cs : List Change). IsReplay cs f h) (sym (erasure-is f c.args.at i pass there)) one)
    (subst (λ (cs : List Change). OnOk c.create_all.result (IsReplay cs h c.create_all.new.edit.function.now)) same c.create_all.ensures.replay)
